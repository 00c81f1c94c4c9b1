-- What stands once first, next or run has climbed the ladder, and that their answers fit a signed word.
-- Assumes nothing.
use Rattle.std.specs.Prelude.{Ok, Err}
use mathlib.Core.Path.{◌≡◌, refl, ◌∙◌}
use mathlib.Core.Bool.{true, false, ◌&&◌}
use mathlib.Core.List.{List}
use Prim.Native.Nat.{ℕ}
use lib.IntN.{ℤ}
use lib.ListN.{length}
use borrow.Author.Tests.{leb-true, ltb-true, eqb-true}
use Rattle.tables.proofs.Bools.{and_left, and_right}
use Rattle.signed.specs.Words.{num}
use Rattle.answer.specs.Inner.{SmallCounted}
use Rattle.layout.specs.declared.Header.{Header}
use Rattle.node.specs.FactValues.{FactValue}
use Rattle.records.specs.Accepted.{Accepted}
use Rattle.facts.specs.Lent.{LentFacts}
use Rattle.facts.specs.Faults.{facts_fault}
use Rattle.facts.specs.Assembled.{assembled}
use Rattle.predicate.specs.Verdicts.{verdicts_of}
use Rattle.predicate.proofs.VerdictLaws.{verdicts_true}
use Rattle.instances.specs.Records.{LentStates, states_lent, records_fault}
use Rattle.instances.specs.Named.{gathered, has}
use Rattle.instances.proofs.Gathering.{states_in_lem}
use Rattle.walks.specs.Paths.{steps_of}
use Rattle.walks.specs.Inner.{Lent}
use Rattle.listing.proofs.Answers.{first_small, next_small}
use Rattle.run.specs.Runs.{good_words, flow_covers}
use Rattle.run.specs.Inner.{Runnable}
use Rattle.run.proofs.RunPaths.{run_small}
use Rattle.ladder.specs.Ladder.{Climbed, opened, exists, facts_lent}
use Rattle.ladder.proofs.ClimbLaws.{Past, passed, climbed_at, climbed_sheet, opened_at}
use Rattle.ladder.proofs.LentLaws.{all_lent}
use Rattle.ladder.proofs.Small.{rungs_small, call_small}
use Rattle.calls.specs.Flows.{steps_or, path_lent, wanted_lent, flow_rungs, flow_climb, first_answer, next_answer, run_rungs, run_climb, run_answer}
use Rattle.evaluate.proofs.EvaluateLaws.{known_in, facts_small, states_small}
use Rattle.flows.specs.Going.{LentRun}

-- ---- slices sized by a flow's steps

pub steps_judged : (s : List ℤ) (h : Header) (f : ℤ) (n : ℕ) → exists f h.flows ≡ true → steps_or s h f n ≡ steps_of s h (num f)
unfolding steps_or
steps_judged s h f n e = rw (e, steps_or)

pub steps_unjudged : (s : List ℤ) (h : Header) (f : ℤ) (n : ℕ) → exists f h.flows ≡ false → steps_or s h f n ≡ n
unfolding steps_or
steps_unjudged s h f n e = rw (e, steps_or)

-- a word for each step
pub a_word_each : (s : List ℤ) (h : Header) (f : ℤ) (words : List ℤ) → exists f h.flows ≡ true → wanted_lent s h f words ≡ true
    → length words ≡ steps_of s h (num f)
a_word_each s h f words e p = eqb-true _ _ p ∙ steps_judged s h f (length words) e

-- a flow that exists, with room for its paths
pub lent : {s : List ℤ} {h : Header} (f : ℤ) (b : List ℕ) → Accepted s h → exists f h.flows ≡ true → path_lent s h f (length b) ≡ true
    → Lent s h (num f) b
lent {s} {h} f b a e p =
    record { sheet = a; flow = ltb-true _ _ e; room = rw (← steps_judged s h f (length b) e) (leb-true _ _ p) }

-- ---- what the work asks, where nothing is refused

pub flow_lent : (s : List ℤ) (f : ℤ) (b : List ℕ) {h : Header} {x : Climbed} → x ≡ flow_climb s f (length b) → x ≡ Ok h → Lent s h (num f) b
unfolding flow_rungs
flow_lent s f b e q =
    let w = climbed_at (opened s) (flow_rungs s f (length b)) e q in
    let g = passed w.clear in
    lent f b (opened_at s refl w.sheet).sheet g.numbers g.lengths

-- a run, of the ladder: which lengths are right
pub record RightLengths (s : List ℤ) (h : Header) (t : LentFacts) (q : LentStates) (f : ℤ) (words : List ℤ) (room : ℕ) : Type 0 where
  pub facts : facts_lent s h t ≡ true
  pub states : states_lent h q ≡ true
  pub each : wanted_lent s h f words ≡ true
  pub path : path_lent s h f room ≡ true

pub right_lengths : (s : List ℤ) (h : Header) (t : LentFacts) (q : LentStates) (f : ℤ) (words : List ℤ) (room : ℕ)
    → (facts_lent s h t && states_lent h q && wanted_lent s h f words && path_lent s h f room) ≡ true → RightLengths s h t q f words room
right_lengths s h t q f words room p =
    let x = and_left (facts_lent s h t && states_lent h q && wanted_lent s h f words) (path_lent s h f room) p in
    let y = and_left (facts_lent s h t && states_lent h q) (wanted_lent s h f words) x in
    record {
      facts = and_left (facts_lent s h t) (states_lent h q) y;
      states = and_right (facts_lent s h t) (states_lent h q) y;
      each = and_right (facts_lent s h t && states_lent h q) (wanted_lent s h f words) x;
      path = and_right (facts_lent s h t && states_lent h q && wanted_lent s h f words) (path_lent s h f room) p;
    }

-- past every rung a run has what it asks
pub going_past : (s : List ℤ) (t : LentFacts) (q : LentStates) (f : ℤ) (words : List ℤ) (b : List ℕ) {h : Header} → Accepted s h
    → RightLengths s h t q f words (length b) → facts_fault s h t ≡ Ok tt → records_fault s h q.records ≡ Ok tt
    → (exists f h.flows && good_words s h (num f) words && flow_covers s h (has q) (num f)) ≡ true
    → LentRun s h t (gathered h q) (num f) words b
going_past s t q f words b {h} a k r m n =
    let named = and_left (exists f h.flows && good_words s h (num f) words) (flow_covers s h (has q) (num f)) n in
    let e = and_left (exists f h.flows) (good_words s h (num f) words) named in
    record {
      known = record { sheet = a; all = all_lent k.facts; faultless = r };
      valid = states_in_lem s h q a m;
      lent = lent f b a e k.path;
      wanted = a_word_each s h f words e k.each;
    }

module _ (s : List ℤ) (t : LentFacts) (q : LentStates) (f : ℤ) (words : List ℤ) (b : List ℕ) {h : Header} {x : Climbed}
    (e : x ≡ run_climb s t q f words (length b)) (a : x ≡ Ok h) where
  abbrev way : Past (opened s) (run_rungs s t q f words (length b)) h
  way = climbed_at (opened s) (run_rungs s t q f words (length b)) e a

  abbrev sheet : Accepted s h
  sheet = climbed_sheet s (run_rungs s t q f words (length b)) e a

  -- no record is at fault
  pub going_records : records_fault s h q.records ≡ Ok tt
  unfolding run_rungs
  going_records = (passed way.clear).states

  pub going_lengths : RightLengths s h t q f words (length b)
  unfolding run_rungs
  going_lengths = right_lengths s h t q f words (length b) (passed way.clear).lengths

  pub going : LentRun s h t (gathered h q) (num f) words b
  unfolding run_rungs
  going = going_past s t q f words b sheet going_lengths (passed way.clear).facts going_records (passed way.clear).numbers

-- and of the work below it
pub runnable : {s : List ℤ} {h : Header} {t : LentFacts} {states : List ℤ} {facts : List FactValue} {verdicts : List ℤ} {f : ℕ}
    {words : List ℤ} {b : List ℕ} → LentRun s h t states f words b
    → facts ≡ assembled s h t → verdicts ≡ verdicts_of s h (assembled s h t) → Runnable s h facts verdicts states f b
runnable {s} {h} {t} g e v =
    record {
      known = rw e (known_in g.known);
      judged = rw v (verdicts_true s h (assembled s h t));
      valid = g.valid;
      lent = g.lent;
    }

-- ---- answers fit a signed word

module _ (s : List ℤ) (f : ℤ) (b : List ℕ) where
  pub first_call_small : SmallCounted (first_answer s f b)
  unfolding flow_rungs
  first_call_small =
      call_small SmallCounted Err _ (λ r p. p) s (flow_rungs s f (length b)) (λ h e. rungs_small _ _ _ _ tt (λ _. tt))
      (λ h e. let k = flow_lent s f b refl e in first_small k.sheet k.flow)

  pub next_call_small : SmallCounted (next_answer s f b)
  unfolding flow_rungs
  next_call_small =
      call_small SmallCounted Err _ (λ r p. p) s (flow_rungs s f (length b)) (λ h e. rungs_small _ _ _ _ tt (λ _. tt))
      (λ h e. let k = flow_lent s f b refl e in next_small k.sheet k.flow b)

pub run_call_small : (s : List ℤ) (t : LentFacts) (q : LentStates) (f : ℤ) (words : List ℤ) (b : List ℕ)
    → SmallCounted (run_answer s t q f words b)
unfolding run_rungs
run_call_small s t q f words b =
    call_small SmallCounted Err _ (λ r p. p) s (run_rungs s t q f words (length b))
    (λ h e. rungs_small _ _ _ _ (facts_small s t h e) (λ l. states_small s t q h (right_lengths s h t q f words (length b) l).states))
    (λ h e. run_small (runnable (going s t q f words b refl e) refl refl) words)
