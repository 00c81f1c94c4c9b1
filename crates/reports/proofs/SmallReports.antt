-- Every report's answer fits a signed word.
-- Assumes nothing.
use Rattle.answer.specs.Answers.{tallied}
use Rattle.std.specs.Prelude.{Ok, Err}
use mathlib.Core.Path.{◌≡◌, refl}
use mathlib.Core.Bool.{Bool, true, false}
use mathlib.Core.List.{List}
use Prim.Native.Nat.{ℕ, ◌≤◌, ◌<◌, ◌^◌}
use lib.IntN.{ℤ}
use lib.Dec.{lit<}
use native.Mathlib.Omega.{arith}
use borrow.Author.Tests.{ltb-true}
use Rattle.signed.specs.Words.{num}
use Rattle.answer.specs.Inner.{SmallCount, SmallCounted}
use Rattle.layout.specs.declared.Header.{Header}
use Rattle.layout.specs.Tables.{flow}
use Rattle.records.specs.Accepted.{Accepted}
use Rattle.records.specs.Rules.{stratum}
use Rattle.records.specs.Entities.{states}
use Rattle.records.proofs.OperationLaws.{entity_ok, operation_ok}
use Rattle.records.proofs.RuleLaws.{rule_ok}
use Rattle.records.proofs.FlowLaws.{flow_ok}
use Rattle.tree.specs.Sizes.{tree_size}
use Rattle.tree.proofs.SizeLaws.{size_small}
use Rattle.depth.specs.Depth.{depth}
use Rattle.walks.proofs.Ways.{way_start, paths_on_lem}
use Rattle.depth.proofs.Depths.{depth_short}
use Rattle.reach.specs.Reached.{reachable, scans}
use Rattle.reach.proofs.Rounds.{mask_small, scans_few}
use Rattle.causes.specs.Causes.{admissible, can_cause}
use Rattle.ladder.specs.Ladder.{exists}
use Rattle.ladder.proofs.ClimbLaws.{opened_at}
use Rattle.ladder.proofs.Small.{opened_small, rungs_small, call_small}
use Rattle.records.specs.Operations.{outcomes}
use Rattle.calls.specs.Reports.{report_rungs, reported, yes_no, states_answer, reachable_answer, admissible_answer, can_cause_answer, rules_answer, stratum_answer, outcomes_answer, tree_size_answer, depth_answer}
use Rattle.reports.proofs.ReportLaws.{asked}

-- a report is as small as its answer on an accepted sheet, where the numbers exist
small : (s : List ℤ) (numbers : Header → Bool) (answer : Header → ℕ) → ((h : Header) → Accepted s h → numbers h ≡ true → answer h < 2 ^ 63)
    → SmallCount (reported s numbers answer)
unfolding report_rungs
small s numbers answer k =
    call_small SmallCount Err (λ h. Ok (answer h)) (λ r p. p) s (report_rungs numbers) (λ h e. rungs_small _ _ _ _ tt (λ _. tt))
    (λ h e. let a = asked s numbers refl e in (k h a.sheet a.exist, lit< tt))

-- of one number
small_on : (answer : List ℤ → Header → ℕ → ℕ) (size : Header → ℕ) (s : List ℤ) (x : ℤ)
    → ((h : Header) → Accepted s h → (n : ℕ) → n < size h → answer s h n < 2 ^ 63)
    → SmallCount (reported s (λ h. exists x (size h)) (λ h. answer s h (num x)))
small_on answer size s x k = small s (λ h. exists x (size h)) (λ h. answer s h (num x)) (λ h a e. k h a (num x) (ltb-true (num x) (size h) e))

bit_small : (b : Bool) → yes_no b < 2 ^ 63
bit_small true = lit< tt
bit_small false = lit< tt

-- no path is longer than the flow has steps
depth_few : (s : List ℤ) (h : Header) → Accepted s h → (f : ℕ) → f < h.flows → depth s h f ≤ (flow s h f).w1
unfolding depth
depth_few s h a f l = rw (paths_on_lem s h a f l) (depth_short s h a (flow s h f).w0 (flow s h f).w1 (way_start s h a f l))

pub states_small : (s : List ℤ) (e : ℤ) → SmallCount (states_answer s e)
states_small s e = small_on states (λ h. h.entities) s e (λ h a n l. omega (arith, (entity_ok a n l).few))

pub reachable_small : (s : List ℤ) (e : ℤ) → SmallCounted (reachable_answer s e)
unfolding report_rungs
reachable_small s e =
    call_small SmallCounted Err (λ h. tallied (reachable s h (num e)) (scans s h (num e))) (λ r p. p) s
    (report_rungs (λ h. exists e h.entities)) (λ h e. rungs_small _ _ _ _ tt (λ _. tt))
    (λ h p. (omega (arith, mask_small s h (num e)), omega (arith, scans_few s h (num e))))

pub admissible_small : (s : List ℤ) (e q p o : ℤ) → SmallCount (admissible_answer s e q p o)
admissible_small s e q p o = small s _ _ (λ h a x. bit_small (admissible s h (num e) (num q) (num p) (num o)))

pub can_cause_small : (s : List ℤ) (p e a b : ℤ) → SmallCount (can_cause_answer s p e a b)
can_cause_small s p e a b = small s _ _ (λ h x y. bit_small (can_cause s h (num p) (num e) (num a) (num b)))

pub rules_small : (s : List ℤ) → SmallCount (rules_answer s)
rules_small s =
    opened_small SmallCount Err (λ h. Ok h.rules) (λ r p. p) s
    (λ h e. omega (arith, (opened_at s refl e).sheet.sized.limits.rules))

pub stratum_small : (s : List ℤ) (r : ℤ) → SmallCount (stratum_answer s r)
stratum_small s r = small_on stratum (λ h. h.rules) s r (λ h a n l. omega (arith, (rule_ok s h n (a.rules n l)).small))

pub outcomes_small : (s : List ℤ) (o : ℤ) → SmallCount (outcomes_answer s o)
outcomes_small s o = small_on outcomes (λ h. h.operations) s o (λ h a n l. omega (arith, (operation_ok a n l).outcomes_few))

pub tree_size_small : (s : List ℤ) (n : ℤ) → SmallCount (tree_size_answer s n)
tree_size_small s n = small_on tree_size (λ h. h.nodes) s n (λ h a n l. omega (arith, size_small s h a n l, a.sized.limits.nodes))

pub depth_small : (s : List ℤ) (f : ℤ) → SmallCount (depth_answer s f)
depth_small s f =
    small_on depth (λ h. h.flows) s f (λ h a n l. omega (arith, depth_few s h a n l, (flow_ok s h a n l).inside, a.sized.limits.steps))
