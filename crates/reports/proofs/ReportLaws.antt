-- What stands once a report has climbed the ladder, and what it answers on an accepted sheet.
-- Assumes nothing.
use Rattle.std.specs.Prelude.{Ok, Err}
use mathlib.Core.Path.{◌≡◌, refl, sym, ◌∙◌}
use mathlib.Core.Bool.{Bool, true, false, ◌&&◌}
use mathlib.Core.List.{List}
use mathlib.Core.Logic.{◌↔◌}
use Prim.Native.Nat.{ℕ, ◌<◌}
use lib.IntN.{ℤ}
use borrow.Author.Tests.{ltb-true}
use Rattle.tables.proofs.Bools.{tests}
use Rattle.signed.specs.Words.{num}
use Rattle.answer.specs.declared.Refusal.TheVariants.{Missing}
use Rattle.answer.specs.Answers.{tallied, Counted}
use Rattle.layout.specs.declared.Header.{Header}
use Rattle.records.specs.Accepted.{Accepted}
use Rattle.records.specs.Entities.{states}
use Rattle.operation.specs.Mask.{in_mask}
use Rattle.reach.specs.Reached.{Reached, reachable, states_in, scans}
use Rattle.reach.proofs.Rounds.{reached_in_mask}
use Rattle.ladder.specs.Ladder.{Climbed, opened, exists}
use Rattle.ladder.proofs.ClimbLaws.{passed, all_passed, no_number, climbed_at, climbs, refuses, opened_at}
use Rattle.calls.specs.Reports.{report_rungs, report_climb, reported, state_exists, admissible_numbers, cause_numbers, reachable_answer}

-- ---- a report that is not refused

-- an accepted sheet, in which the numbers exist
pub record Asked (s : List ℤ) (numbers : Header → Bool) (h : Header) : Type 0 where
  pub sheet : Accepted s h
  pub exist : numbers h ≡ true

pub asked : (s : List ℤ) (numbers : Header → Bool) {h : Header} {x : Climbed} → x ≡ report_climb s numbers → x ≡ Ok h → Asked s numbers h
unfolding report_rungs
asked s numbers e p =
    let w = climbed_at (opened s) (report_rungs numbers) e p in
    record { sheet = (opened_at s refl w.sheet).sheet; exist = (passed w.clear).numbers }

-- one number
pub asked_one : (s : List ℤ) (size : Header → ℕ) (x : ℤ) {h : Header} {c : Climbed} → c ≡ report_climb s (λ h. exists x (size h)) → c ≡ Ok h
    → Accepted s h × (num x < size h)
asked_one s size x {h} e p =
    let a = asked s (λ h. exists x (size h)) e p in (a.sheet, ltb-true (num x) (size h) a.exist)

-- ---- on an accepted sheet the numbers exist or not

module _ (s : List ℤ) {h : Header} (numbers : Header → Bool) (answer : Header → ℕ) (o : opened s ≡ Ok h) where
  pub report_exists : numbers h ≡ true → reported s numbers answer ≡ Ok (answer h)
  unfolding report_rungs
  report_exists e =
      climbs (report_rungs numbers) Err (λ h. Ok (answer h)) o
      (all_passed record { lengths = refl; numbers = e; facts = refl; states = refl })

  pub report_missing : numbers h ≡ false → reported s numbers answer ≡ Err Missing
  unfolding report_rungs
  report_missing e = refuses (report_rungs numbers) Err (λ h. Ok (answer h)) o (no_number (Ok tt) (Ok tt) e)

-- ---- S2: on an accepted sheet the report of an entity that exists is a mask, which has exactly the states that are reached, and their number

pub record MaskIs (s : List ℤ) (h : Header) (n : ℕ) (a : Counted) : Type 0 where
  pub mask : ℕ
  pub is : a ≡ tallied mask (states_in mask)
  pub each : (q : ℕ) → Reached s h n q ↔ (in_mask mask q ≡ true)

pub reachable_is : (s : List ℤ) (e : ℤ) {h : Header} → opened s ≡ Ok h → exists e h.entities ≡ true → MaskIs s h (num e) (reachable_answer s e)
unfolding report_rungs scans
reachable_is s e {h} o p =
    record {
      mask = reachable s h (num e);
      is =
          climbs (report_rungs (λ h. exists e h.entities)) Err (λ h. tallied (reachable s h (num e)) (scans s h (num e))) o
          (all_passed record { lengths = refl; numbers = p; facts = refl; states = refl });
      each = reached_in_mask (opened_at s refl o).sheet (num e) (ltb-true (num e) h.entities p);
    }

-- ---- S3a and S4

pub state_found : (s : List ℤ) (h : Header) (e q : ℤ) {m n : Bool} → m ≡ exists e h.entities → m ≡ true → n ≡ exists q (states s h (num e))
    → n ≡ state_exists s h e q
unfolding state_exists
state_found s h e q k p v = rw (sym k ∙ p) v

pub state_lost : (s : List ℤ) (h : Header) (e q : ℤ) {m : Bool} → m ≡ exists e h.entities → m ≡ false → false ≡ state_exists s h e q
unfolding state_exists
state_lost s h e q k p = sym (rw (sym k ∙ p))

-- an entity that exists
pub named : (e : ℤ) {m : Bool} {i n : ℕ} → m ≡ exists e n → m ≡ true → i ≡ num e → i < n
named e {n = n} k p u = rw u (ltb-true (num e) n (sym k ∙ p))

-- what a call asks of its numbers, as the code tests it
pub three : {a b c x y z : Bool} → a ≡ x → b ≡ y → c ≡ z → (a && b && c) ≡ (x && y && z)
three p q r = rw (p, q, r)

-- and what holds of them then
pub admissible_named : (s : List ℤ) (h : Header) (e q p o : ℤ) {i j : ℕ} → admissible_numbers s e q p o h ≡ true → i ≡ num p → j ≡ num o
    → (i < h.personas) × (j < h.operations)
admissible_named s h e q p o k u v = let w = simp tests at k in rw (u, v) (w.0.1, w.1)

pub cause_named : (s : List ℤ) (h : Header) (p e a b : ℤ) {i : ℕ} → cause_numbers s p e a b h ≡ true → i ≡ num p → i < h.personas
cause_named s h p e a b k u = let w = simp tests at k in rw u w.0.0
