-- With −1 an operation call answers what 01's own rule answered, but for the place of 11, unless it is refused 16.
-- Assumes nothing.
use Rattle.std.specs.Prelude.{None, Ok, Err}
use mathlib.Core.Path.{◌≡◌, refl, sym, ap, ◌∙◌}
use mathlib.Core.Bool.{Bool, true, false, not}
use mathlib.Core.List.{List}
use Prim.Native.Nat.{ℕ, ◌≤◌, ◌<◌}
use lib.IntN.{ℤ, pos, negsuc}
use native.Mathlib.Omega.{arith}
use native.Mathlib.Decide.{dec_lt}
use borrow.Author.Tests.{lt-ltb, le-ltb, ne_eqb, not-true, not-false}
use Rattle.tables.proofs.Bools.{true_false, and_yes}
use Rattle.tables.proofs.Scanned.{Scanned, first_scan}
use Rattle.signed.specs.Words.{num, eq_z}
use Rattle.answer.specs.declared.Refusal.{Refusal}
use Rattle.answer.specs.declared.Refusal.TheVariants.{Header as BadHeader, Group, Record, Length, Missing, FactValue, FactAbsent, State, Persona, Precondition, NoOutcome, NotPath, LastPath, Line, NoRoom, ManyOutcomes}
use Rattle.answer.specs.Answers.{Count, count_answer}
use Rattle.answer.specs.Number.{number}
use Rattle.layout.specs.declared.Header.{Header}
use Rattle.layout.specs.Header.{header_of}
use Rattle.records.specs.Operations.{outcomes}
use Rattle.facts.specs.Lent.{LentFacts}
use Rattle.instances.specs.Records.{LentStates}
use Rattle.instances.specs.Named.{gathered, scattered}
use Rattle.operation.specs.Outcomes.{wanted_of, good_wanted, only, choice, applicable, blocker, chosen}
use Rattle.operation.proofs.Choices.{Tally, none, one, several, tally, any_word}
use Rattle.attempt.specs.Attempts.{attempt_answer, attempted, states_after, attempted_states}
use Rattle.ladder.specs.Ladder.{Climbed, opened, by, left, exists}
use Rattle.ladder.proofs.ClimbLaws.{worked, climb_same, by_same}
use Rattle.calls.specs.Evaluation.{wanted_exists, operate_rungs, operate_climb, attempted_over, attempted_states_over, operate_answer, operate_states}
use Rattle.evaluate.proofs.EvaluateLaws.{operate_early}
use Rattle.fernpocket.specs.Before.{placeless, first_applicable, first_choice, attempted_before, rungs_before, climb_before, over_before, operate_before, states_before}
use Rattle.fernpocket.proofs.InNumbers.{sixteen}

-- ---- the choice

-- a choice with the place 0 for 11
without_place : Refusal → Refusal
without_place (NoOutcome n) = NoOutcome 0
without_place r = r

unfoldable placed : Count → Count
placed (Ok j) = Ok j
placed (Err r) = Err (without_place r)

-- the only applicable outcome is the first; where there is none, 01's place is 0
any_first : (f : ℕ → Bool) (g : ℕ → ℕ) (n : ℕ) → (choice f g n None ≡ Err ManyOutcomes → ⊥) → placed (choice f g n None) ≡ first_choice f n
unfolding choice first_choice first_applicable placed without_place
any_first f g n x = go (only f (g 0) n) (tally f (g 0) n) x (dec_lt m n)
  where
    m : ℕ
    m = first_applicable f n

    found : Scanned (λ j. not (f j)) 0 n m
    found = first_scan (λ j. not (f j)) n

    go : (c : Count) → Tally f (g 0) n c → (c ≡ Err ManyOutcomes → ⊥) → Dec (m < n) → placed c ≡ first_choice f n
    go _ (none k) x (yes l) = absurd (true_false (not-false (f m) (found.fails l)) (k m l))
    go _ (none k) x (no l) = rw (le-ltb m n (omega arith))
    go _ (one j o) x (yes l) = let e = o.alone m l (not-false (f m) (found.fails l)) in rw (lt-ltb m n l, e)
    go _ (one j o) x (no l) = absurd (true_false o.applies (not-true (f j) (found.passed j (omega arith) (omega (arith, o.exists)))))
    go _ (several t) x l = absurd (x refl)

-- ---- the attempt

same_answer : (a t : Bool) (c d : Count) → ((c ≡ Err ManyOutcomes → ⊥) → placed c ≡ d) → (attempt_answer a t c ≡ Err ManyOutcomes → ⊥)
    → attempt_answer a t (placed c) ≡ attempt_answer a t d
unfolding attempt_answer
same_answer false t c d e x = refl
same_answer true false c d e x = refl
same_answer true true c d e x = e x

placeless_refusal : (r : Refusal) → placeless (count_answer (Err r)) ≡ count_answer (Err (without_place r))
unfolding placeless eq_z without_place
placeless_refusal BadHeader = refl
placeless_refusal Group = refl
placeless_refusal (Record k) = refl
placeless_refusal Length = refl
placeless_refusal Missing = refl
placeless_refusal (FactValue k) = refl
placeless_refusal (FactAbsent k) = refl
placeless_refusal (State k) = refl
placeless_refusal Persona = refl
placeless_refusal Precondition = refl
placeless_refusal (NoOutcome k) = refl
placeless_refusal NotPath = refl
placeless_refusal LastPath = refl
placeless_refusal (Line k) = refl
placeless_refusal NoRoom = refl
placeless_refusal ManyOutcomes = refl

-- an answer without 11's place is that of a choice without a place
answer_placed : (a t : Bool) (c : Count) → placeless (count_answer (attempt_answer a t c)) ≡ count_answer (attempt_answer a t (placed c))
unfolding attempt_answer placed placeless eq_z
answer_placed false t c = refl
answer_placed true false c = refl
answer_placed true true (Ok j) = refl
answer_placed true true (Err r) = placeless_refusal r

-- and leaves the same states
states_placed : (s : List ℤ) (h : Header) (states : List ℤ) (o : ℕ) (a t : Bool) (c : Count)
    → states_after s h states o (attempt_answer a t c) ≡ states_after s h states o (attempt_answer a t (placed c))
unfolding attempt_answer placed states_after
states_placed s h states o false t c = refl
states_placed s h states o true false c = refl
states_placed s h states o true true (Ok j) = refl
states_placed s h states o true true (Err r) = refl

-- a refusal of the ladder is not 11
placeless_early : (r : Refusal) → number r ≤ 8 → placeless (count_answer (Err r)) ≡ count_answer (Err r)
unfolding placeless eq_z
placeless_early r l = rw (ne_eqb (number r) 11 (λ e. omega arith))

-- ---- the call

module _ (s : List ℤ) (lent : LentFacts) (q : LentStates) (p o : ℤ) where
  abbrev over : Header → Count
  over h = over_before s h lent (gathered h q) (num p) (num o)

  -- −1 is never refused
  same_rungs : (h : Header) → operate_rungs s lent q p o (negsuc 0) h ≡ rungs_before s lent q p o h
  unfolding operate_rungs rungs_before wanted_exists good_wanted
  same_rungs h = rw (any_word refl, and_yes (exists o h.operations))

  same_climb : operate_climb s lent q p o (negsuc 0) ≡ climb_before s lent q p o
  same_climb =
      climb_same (opened s) (operate_rungs s lent q p o (negsuc 0)) (rungs_before s lent q p o) (λ h _. same_rungs h)

  module _ (x : (count_answer (operate_answer s lent q p o (negsuc 0))).refusal ≡ pos 16 → ⊥) where
    same_over : (h : Header) → operate_climb s lent q p o (negsuc 0) ≡ Ok h
        → (placeless (count_answer (attempted_over s h lent (gathered h q) (num p) (num o) (wanted_of (negsuc 0))))
        ≡ count_answer (over h))
        × (attempted_states_over s h lent (gathered h q) (num p) (num o) (wanted_of (negsuc 0))
        ≡ states_after s h (gathered h q) (num o) (over h))
    unfolding attempted attempted_before attempted_states chosen
    same_over h e =
        let c = chosen s h (gathered h q) (num o) (wanted_of (negsuc 0)) in
        let k =
        same_answer _ _ c (first_choice (applicable s h (gathered h q) (num o)) (outcomes s h (num o)))
        (rw (any_word refl) (any_first (applicable s h (gathered h q) (num o)) (blocker s h (gathered h q) (num o)) (outcomes s h (num o))))
        (λ z. x (ap (λ (a : Count). (count_answer a).refusal) (sym (worked _ _ refl e refl) ∙ z))) in
        (answer_placed _ _ c ∙ ap count_answer k, states_placed s h (gathered h q) (num o) _ _ c ∙ ap (states_after s h (gathered h q) (num o)) k)

    answer_same : (c : Climbed) → operate_climb s lent q p o (negsuc 0) ≡ c
        → placeless (count_answer (by c Err (λ h. attempted_over s h lent (gathered h q) (num p) (num o) (wanted_of (negsuc 0)))))
        ≡ count_answer (by c Err (λ h. over h))
    unfolding by
    answer_same (Ok h) e = (same_over h e).0
    answer_same (Err r) e = placeless_early r (operate_early s lent q p o (negsuc 0) e)

    pub before-unless-16 :
        (placeless (count_answer (operate_answer s lent q p o (negsuc 0))) ≡ count_answer (operate_before s lent q p o))
        × (operate_states s lent q p o (negsuc 0) ≡ states_before s lent q p o)
    before-unless-16 = (
      answer_same (operate_climb s lent q p o (negsuc 0)) refl
          ∙ ap (λ (c : Climbed). count_answer (by c Err (λ h. over h))) same_climb,
      by_same (operate_climb s lent q p o (negsuc 0)) (λ _. q.records) _ _ (λ h e. ap (scattered q) (same_over h e).1)
          ∙ ap (λ (c : Climbed). left c q.records (λ h. scattered q (states_after s h (gathered h q) (num o) (over h)))) same_climb,
    )

  -- of one outcome there are not two
  pub one_never_16 : outcomes s (header_of s) (num o) ≡ 1
      → (count_answer (operate_answer s lent q p o (negsuc 0))).refusal ≡ pos 16 → ⊥
  one_never_16 n e = let t = (sixteen s lent q p o (negsuc 0) e).1 in omega (arith, t.order, t.exists)
