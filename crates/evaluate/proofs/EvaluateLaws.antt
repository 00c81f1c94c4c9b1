-- What stands once the ladder is climbed, and that the three calls' answers fit a signed word.
-- Assumes nothing.
use Rattle.std.specs.Prelude.{Option, Ok, Err}
use mathlib.Core.Path.{◌≡◌, refl}
use mathlib.Core.Bool.{Bool, true, ◌&&◌}
use mathlib.Core.List.{List}
use Prim.Native.Nat.{ℕ, ◌≤◌, ◌<◌}
use lib.IntN.{ℤ}
use native.Mathlib.Omega.{arith}
use borrow.Author.Tests.{ltb-true}
use Rattle.tables.proofs.Bools.{and_left, and_right}
use Rattle.signed.specs.Words.{num}
use Rattle.answer.specs.Number.{number}
use Rattle.answer.specs.declared.Refusal.{Refusal}
use Rattle.answer.specs.Inner.{Every, SmallStatus, SmallCount}
use Rattle.layout.specs.declared.Header.{Header}
use Rattle.node.specs.FactValues.{FactValue}
use Rattle.facts.specs.Lent.{LentFacts}
use Rattle.facts.specs.Faults.{facts_fault}
use Rattle.facts.specs.Assembled.{assembled}
use Rattle.facts.specs.Inner.{AllLent, FactsIn, LengthsIn}
use Rattle.facts.proofs.FaultLaws.{facts_in, lengths_in, fault_every}
use Rattle.predicate.specs.Verdicts.{verdicts_of}
use Rattle.predicate.proofs.VerdictLaws.{verdicts_true}
use Rattle.records.specs.Accepted.{Accepted}
use Rattle.records.specs.Operations.{outcomes}
use Rattle.operation.specs.Outcomes.{wanted_of, good_wanted}
use Rattle.instances.specs.Records.{LentStates, states_lent, records_fault}
use Rattle.instances.specs.Named.{gathered, has, covers}
use Rattle.instances.proofs.Judging.{bad_every}
use Rattle.instances.proofs.Gathering.{states_in_lem}
use Rattle.instances.proofs.Lengths.{lent_whole}
use Rattle.attempt.specs.Inner.{Attemptable}
use Rattle.attempt.proofs.AttemptLaws.{attempt_small, refused_states}
use Rattle.ladder.specs.Ladder.{Climbed, opened, exists, facts_lent}
use Rattle.ladder.proofs.ClimbLaws.{Past, passed, climbed_at, climbed_sheet, opened_at}
use Rattle.ladder.proofs.LentLaws.{all_lent}
use Rattle.ladder.proofs.Small.{Early, checked_early, early_small, rungs_every, climb_every, rungs_small, call_small}
use Rattle.calls.specs.Evaluation.{attempted_over, attempted_states_over, assemble_rungs, assemble_answer, verdicts_rungs, verdicts_answer, wanted_exists, operate_rungs, operate_climb, operate_answer}
use Rattle.evaluate.specs.Settled.{GoodFactsLent, LentOperation}

-- ---- once the ladder is climbed

-- the facts come to values in their ranges
pub known_in : {s : List ℤ} {h : Header} {t : LentFacts} → GoodFactsLent s h t → FactsIn s h (assembled s h t)
known_in {s} {h} {t} k = facts_in s h t k.sheet k.faultless

-- and their lists are no longer than they may be
pub lengths_known : {s : List ℤ} {h : Header} {t : LentFacts} → GoodFactsLent s h t → LengthsIn s h t.lengths
lengths_known {s} {h} {t} k = lengths_in s h t k.sheet k.all k.faultless

-- and the operation can be attempted over them and their verdicts
pub attemptable : {s : List ℤ} {h : Header} {t : LentFacts} {facts : List FactValue} {states verdicts : List ℤ} {p o : ℕ}
    → LentOperation s h t states p o → facts ≡ assembled s h t → verdicts ≡ verdicts_of s h (assembled s h t)
    → Attemptable s h facts verdicts states p o
attemptable {s} {h} {t} a e v =
    record {
      ready = record { accepted = a.known.sheet; lent = a.lent; exists = a.operation };
      known = rw e (known_in a.known);
      judged = rw v (verdicts_true s h (assembled s h t));
      persona = a.persona;
    }

-- a refused attempt leaves the states as they were
pub over_refused : (s : List ℤ) (h : Header) (t : LentFacts) (states : List ℤ) (p o : ℕ) (w : Option ℕ) {r : Refusal}
    → attempted_over s h t states p o w ≡ Err r → attempted_states_over s h t states p o w ≡ states
over_refused s h t states p o w {r} e = refused_states s h _ _ states p o w r e

-- where an operation may want the outcome, there is such an operation
pub operation_exists : (s : List ℤ) (h : Header) (o v : ℤ) → wanted_exists s h o v ≡ true → num o < h.operations
unfolding wanted_exists
operation_exists s h o v p =
    ltb-true _ _ (and_left (exists o h.operations) (good_wanted (outcomes s h (num o)) (wanted_of v)) p)

-- past every rung an operation has what it asks
pub asked_past : (s : List ℤ) (t : LentFacts) (q : LentStates) (p o v : ℤ) {h : Header} → Accepted s h → AllLent s h t
    → facts_fault s h t ≡ Ok tt → records_fault s h q.records ≡ Ok tt
    → (exists p h.personas && wanted_exists s h o v && covers s h (has q) (num o)) ≡ true → LentOperation s h t (gathered h q) (num p) (num o)
asked_past s t q p o v {h} a l f r n =
    let named = and_left (exists p h.personas && wanted_exists s h o v) (covers s h (has q) (num o)) n in
    record {
      known = record { sheet = a; all = l; faultless = f };
      lent = states_in_lem s h q a r;
      persona = ltb-true _ _ (and_left (exists p h.personas) (wanted_exists s h o v) named);
      operation = operation_exists s h o v (and_right (exists p h.personas) (wanted_exists s h o v) named);
    }

-- what an operation asks, where nothing is refused
module _ (s : List ℤ) (t : LentFacts) (q : LentStates) (p o v : ℤ) {h : Header} {x : Climbed} (e : x ≡ operate_climb s t q p o v) (a : x ≡ Ok h) where
  abbrev way : Past (opened s) (operate_rungs s t q p o v) h
  way = climbed_at (opened s) (operate_rungs s t q p o v) e a

  abbrev sheet : Accepted s h
  sheet = climbed_sheet s (operate_rungs s t q p o v) e a

  -- no record is at fault
  pub asked_records : records_fault s h q.records ≡ Ok tt
  unfolding operate_rungs
  asked_records = (passed way.clear).states

  -- the lengths are right
  pub asked_lengths : (facts_lent s h t ≡ true) × (states_lent h q ≡ true)
  unfolding operate_rungs
  asked_lengths =
      let l = (passed way.clear).lengths in
      (and_left (facts_lent s h t) (states_lent h q) l, and_right (facts_lent s h t) (states_lent h q) l)

  -- what is named exists
  named : (exists p h.personas && wanted_exists s h o v && covers s h (has q) (num o)) ≡ true
  unfolding operate_rungs
  named = (passed way.clear).numbers

  abbrev numbers : Bool
  numbers = exists p h.personas && wanted_exists s h o v

  asked_operation : wanted_exists s h o v ≡ true
  asked_operation = and_right (exists p h.personas) (wanted_exists s h o v) (and_left numbers (covers s h (has q) (num o)) named)

  pub asked : LentOperation s h t (gathered h q) (num p) (num o)
  unfolding operate_rungs
  asked = asked_past s t q p o v sheet (all_lent asked_lengths.0) (passed way.clear).facts asked_records named

  -- and that the operation may want the outcome
  pub asked_wanted : good_wanted (outcomes s h (num o)) (wanted_of v) ≡ true
  unfolding wanted_exists
  asked_wanted = and_right (exists o h.operations) (good_wanted (outcomes s h (num o)) (wanted_of v)) asked_operation

-- ---- answers fit a signed word

module _ (s : List ℤ) (t : LentFacts) where
  pub facts_early : (h : Header) → opened s ≡ Ok h → Every Early (facts_fault s h t)
  facts_early h e =
      let few = (opened_at s refl e).sheet.sized.limits.facts in
      fault_every s h t Early
      (λ k l. (record { number = omega arith; place = omega arith }, record { number = omega arith; place = omega arith }))

  pub states_early : (q : LentStates) (h : Header) → states_lent h q ≡ true → Every Early (records_fault s h q.records)
  states_early q h e =
      let few = (lent_whole h q e).few in
      bad_every s h q.records Early (λ n l. record { number = omega arith; place = omega arith })

  pub facts_small : (h : Header) → opened s ≡ Ok h → SmallStatus (facts_fault s h t)
  facts_small h e = early_small (facts_fault s h t) (facts_early h e)

  pub states_small : (q : LentStates) (h : Header) → states_lent h q ≡ true → SmallStatus (records_fault s h q.records)
  states_small q h e = early_small (records_fault s h q.records) (states_early q h e)

  pub assemble_small : SmallStatus (assemble_answer s t)
  unfolding assemble_rungs
  assemble_small =
      call_small SmallStatus Err (λ _. Ok tt) (λ r p. p) s (assemble_rungs s t) (λ h e. rungs_small _ _ _ _ (facts_small h e) (λ _. tt))
      (λ h e. tt)

  pub verdicts_small : (room : ℕ) → SmallStatus (verdicts_answer s t room)
  unfolding verdicts_rungs
  verdicts_small room =
      call_small SmallStatus Err (λ _. Ok tt) (λ r p. p) s (verdicts_rungs s t room) (λ h e. rungs_small _ _ _ _ (facts_small h e) (λ _. tt))
      (λ h e. tt)

  pub operate_small : (q : LentStates) (p o v : ℤ) → SmallCount (operate_answer s t q p o v)
  unfolding operate_rungs
  operate_small q p o v =
      call_small SmallCount Err _ (λ r p. p) s (operate_rungs s t q p o v)
      (λ h e. rungs_small _ _ _ _ (facts_small h e) (λ l. states_small q h (and_right (facts_lent s h t) (states_lent h q) l)))
      (λ h e. attempt_small (attemptable (asked s t q p o v refl e) refl refl) (wanted_of v))

-- an operation call that stops on the ladder is refused 1 to 8
pub operate_early : (s : List ℤ) (t : LentFacts) (q : LentStates) (p o v : ℤ) {r : Refusal} → operate_climb s t q p o v ≡ Err r
    → number r ≤ 8
unfolding operate_rungs
operate_early s t q p o v {r} e =
    let k = climb_every Early s (operate_rungs s t q p o v) (checked_early s)
    (λ h e. rungs_every Early _ _ _ _ (record { number = omega arith; place = omega arith }) (record { number = omega arith; place = omega arith })
    (facts_early s t h e) (λ l. states_early s t q h (and_right (facts_lent s h t) (states_lent h q) l))) in
    (rw e at k).number
