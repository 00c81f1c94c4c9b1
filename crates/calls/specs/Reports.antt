-- 01, "Reports": what the calls for S1 to S5 and S7 answer. Each climbs the ladder first: the sheet, then 5 for a number that does not exist;
-- then it answers the number, the mask with its scans, or 1 for yes and 0 for no.
-- Assumes nothing.
use Rattle.std.specs.Prelude.{Bool, true, cond, ◌&&◌, List, ℕ, ℤ, Ok, Err}
use Rattle.signed.specs.Words.{num}
use Rattle.answer.specs.Answers.{tallied, Status, Count, Counted}
use Rattle.layout.specs.declared.Header.{Header}
use Rattle.records.specs.Rules.{stratum}
use Rattle.records.specs.Entities.{states}
use Rattle.records.specs.Operations.{outcomes}
use Rattle.tree.specs.Sizes.{tree_size}
use Rattle.depth.specs.Depth.{depth}
use Rattle.reach.specs.Reached.{reachable, scans}
use Rattle.causes.specs.Causes.{admissible, can_cause}
use Rattle.ladder.specs.Ladder.{Climbed, rungs, opened, climb, by, exists}

-- 5: the numbers that a report takes exist under the header
unfoldable pub report_rungs : (Header → Bool) → Header → Status
report_rungs numbers h = rungs true (numbers h) (Ok tt) (Ok tt)

abbrev pub report_climb : List ℤ → (Header → Bool) → Climbed
report_climb s numbers = climb (opened s) (report_rungs numbers)

-- a report answers one number
abbrev pub reported : List ℤ → (Header → Bool) → (Header → ℕ) → Count
reported s numbers answer = by (report_climb s numbers) Err (λ h. Ok (answer h))

-- the states of an entity that exists are 0..states−1
unfoldable pub state_exists : List ℤ → Header → ℤ → ℤ → Bool
state_exists s h e q = exists e h.entities && exists q (states s h (num e))

-- 1 for yes and 0 for no
abbrev pub yes_no : Bool → ℕ
yes_no b = cond b 1 0

-- S1: "the number of an entity's states"
abbrev pub states_answer : List ℤ → ℤ → Count
states_answer s e = reported s (λ h. exists e h.entities) (λ h. states s h (num e))

-- S2: "a mask of states reached from the initial one by zero or more declared transitions"; 02, CR 5: "also returns its scans"
abbrev pub reachable_answer : List ℤ → ℤ → Counted
reachable_answer s e =
    by (report_climb s (λ h. exists e h.entities)) Err (λ h. tallied (reachable s h (num e)) (scans s h (num e)))

-- S3a: "yes for (entity, state, persona, operation) if the mask has the persona, an effect starts from that state of that entity, and the
-- precondition's range includes 1"
abbrev pub admissible_numbers : List ℤ → ℤ → ℤ → ℤ → ℤ → Header → Bool
admissible_numbers s e q p o h = state_exists s h e q && exists p h.personas && exists o h.operations

abbrev pub admissible_answer : List ℤ → ℤ → ℤ → ℤ → ℤ → Count
admissible_answer s e q p o = reported s (admissible_numbers s e q p o) (λ h. yes_no (admissible s h (num e) (num q) (num p) (num o)))

-- S4: "whether a persona can cause (entity, from, to)"
abbrev pub cause_numbers : List ℤ → ℤ → ℤ → ℤ → ℤ → Header → Bool
cause_numbers s p e a b h = exists p h.personas && state_exists s h e a && state_exists s h e b

abbrev pub can_cause_answer : List ℤ → ℤ → ℤ → ℤ → ℤ → Count
can_cause_answer s p e a b = reported s (cause_numbers s p e a b) (λ h. yes_no (can_cause s h (num p) (num e) (num a) (num b)))

-- S5: "the number of rules". It takes no number, so nothing but the sheet is refused
abbrev pub rules_answer : List ℤ → Count
rules_answer s = by (opened s) Err (λ h. Ok h.rules)

-- "a rule's stratum"
abbrev pub stratum_answer : List ℤ → ℤ → Count
stratum_answer s r = reported s (λ h. exists r h.rules) (λ h. stratum s h (num r))

-- "the number of an operation's outcomes"
abbrev pub outcomes_answer : List ℤ → ℤ → Count
outcomes_answer s o = reported s (λ h. exists o h.operations) (λ h. outcomes s h (num o))

-- S7: "the number of nodes in the tree under a given node, itself counted"
abbrev pub tree_size_answer : List ℤ → ℤ → Count
tree_size_answer s n = reported s (λ h. exists n h.nodes) (λ h. tree_size s h (num n))

-- "the number of steps on a flow's longest path"
abbrev pub depth_answer : List ℤ → ℤ → Count
depth_answer s f = reported s (λ h. exists f h.flows) (λ h. depth s h (num f))
