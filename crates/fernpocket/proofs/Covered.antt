-- Whatever an operation call did, S3a and S4 answer yes to for the persona who made it; and from a reached state it leads to a reached one.
-- Assumes nothing.
use Rattle.std.specs.Prelude.{Ok, Err}
use mathlib.Core.Path.{◌≡◌, refl, sym, ap, ◌∙◌}
use mathlib.Core.Bool.{true}
use mathlib.Core.List.{List}
use Prim.Native.Nat.{ℕ, ◌<◌}
use lib.IntN.{ℤ, pos}
use lib.ListN.{get_or}
use native.Mathlib.Omega.{arith}
use borrow.Author.Tests.{lt-ltb}
use Rattle.signed.specs.Words.{num}
use Rattle.signed.proofs.Numbers.{num_of}
use Rattle.answer.specs.Answers.{Status, Count}
use Rattle.layout.specs.declared.Header.{Header}
use Rattle.layout.specs.Header.{header_of}
use Rattle.layout.specs.Tables.{effect}
use Rattle.records.specs.Entities.{states as state_count}
use Rattle.records.proofs.OperationLaws.{effect_ok}
use Rattle.operation.specs.Outcomes.{wanted_of}
use Rattle.operation.specs.States.{present}
use Rattle.operation.proofs.Movers.{Moves}
use Rattle.instances.specs.Records.{LentStates, count, entity_at, state_at, records_fault}
use Rattle.instances.specs.Named.{names, gathered, scattered}
use Rattle.instances.proofs.Judging.{record_ok, good_records}
use Rattle.instances.proofs.Scattering.{state_new}
use Rattle.instances.proofs.Unchanged.{each_record}
use Rattle.attempt.specs.Inner.{Attemptable}
use Rattle.attempt.proofs.AttemptLaws.{attempted_in}
use Rattle.facts.specs.Lent.{LentFacts}
use Rattle.facts.specs.Assembled.{assembled}
use Rattle.predicate.specs.Verdicts.{verdicts_of}
use Rattle.reach.specs.Reached.{Reached}
use Rattle.causes.specs.Causes.{admissible, can_cause}
use Rattle.causes.proofs.Caused.{applied_admissible, applied_caused, caused, reached_attempt}
use Rattle.ladder.specs.Ladder.{Climbed, opened, climb, by, left}
use Rattle.ladder.proofs.ClimbLaws.{worked, by_all, climbed_at, opened_at}
use Rattle.calls.specs.Evaluation.{operate_rungs, operate_climb, attempted_over, attempted_states_over, operate_answer, operate_states}
use Rattle.calls.specs.Reports.{state_exists, admissible_numbers, cause_numbers, admissible_answer, can_cause_answer}
use Rattle.evaluate.specs.Settled.{LentOperation}
use Rattle.evaluate.proofs.EvaluateLaws.{attemptable, asked, asked_records}
use Rattle.reports.proofs.ReportLaws.{report_exists}

-- the header that a climb comes to is the one that is read
pub climb_header : (s : List ℤ) (rest : Header → Status) {h : Header} → climb (opened s) rest ≡ Ok h → header_of s ≡ h
climb_header s rest e = (opened_at s refl (climbed_at (opened s) rest refl e).sheet).header

pub under_header : (s : List ℤ) (rest : Header → Status) {h : Header} → climb (opened s) rest ≡ Ok h → climb (opened s) rest ≡ Ok (header_of s)
under_header s rest e = e ∙ ap Ok (sym (climb_header s rest e))

-- the records that a call leaves, where its work comes to `st`: record i stays, or is named and has its entity's state
pub each_way : (s : List ℤ) (q : LentStates) (c : Climbed) (st : Header → List ℤ) (P : ℤ → ℤ → Type 0) → ((a : ℤ) → P a a)
    → ((h : Header) → c ≡ Ok h → records_fault s h q.records ≡ Ok tt) → (i : ℕ) → i < count q.records
    → ((h : Header) → c ≡ Ok h → entity_at q.records i < h.entities
    → P (get_or (gathered h q) (entity_at q.records i) (pos 0)) (get_or (st h) (entity_at q.records i) (pos 0)))
    → P (state_at q.records i) (state_at (left c q.records (λ h. scattered q (st h))) i)
unfolding by
each_way s q (Ok h) st P same good i l work = each_record s h q (good h refl) (st h) P same i l (work h refl)
each_way s q (Err r) st P same good i l work = same (state_at q.records i)

module _ (s : List ℤ) (lent : LentFacts) (q : LentStates) (p o v : ℤ) where
  abbrev rs : List ℤ
  rs = q.records

  -- the states of the named instances, before and after; and the records after
  abbrev states : List ℤ
  states = gathered (header_of s) q

  abbrev then : List ℤ
  then = attempted_states_over s (header_of s) lent states (num p) (num o) (wanted_of v)

  abbrev after : List ℤ
  after = operate_states s lent q p o v

  abbrev pub Made : Type 0
  Made = operate_climb s lent q p o v ≡ Ok (header_of s)

  -- a call that climbed the ladder did so under the header that is read
  pub made : {h : Header} → operate_climb s lent q p o v ≡ Ok h → Made
  made e = under_header s (operate_rungs s lent q p o v) e

  pub made_after : Made → after ≡ scattered q then
  made_after e = sym (worked _ _ refl e refl)

  made_sheet : Made → opened s ≡ Ok (header_of s)
  made_sheet e = (climbed_at (opened s) (operate_rungs s lent q p o v) refl e).sheet

  pub made_records : Made → records_fault s (header_of s) rs ≡ Ok tt
  made_records e = asked_records s lent q p o v refl e

  made_asked : Made → LentOperation s (header_of s) lent states (num p) (num o)
  made_asked e = asked s lent q p o v refl e

  -- so that it was an attempt
  pub attempt_ready : Made
      → Attemptable s (header_of s) (assembled s (header_of s) lent) (verdicts_of s (header_of s) (assembled s (header_of s) lent))
      states (num p) (num o)
  attempt_ready e = attemptable (made_asked e) refl refl

  module _ (n : ℕ) (l : n < (header_of s).entities) where
    state_named : (a : ℕ) → a < state_count s (header_of s) n → state_exists s (header_of s) (pos n) (pos a) ≡ true
    unfolding state_exists
    state_named a k = rw (num_of n, num_of a, lt-ltb n (header_of s).entities l, lt-ltb a (state_count s (header_of s) n) k)

    -- S3a answers yes for state a of entity n, and S4 for its change to b
    abbrev pub Yes : ℕ → ℕ → Type 0
    Yes a b = (admissible_answer s (pos n) (pos a) p o ≡ Ok 1) × (can_cause_answer s p (pos n) (pos a) (pos b) ≡ Ok 1)

    module _ (e : Made) where
      a_state : present states n < state_count s (header_of s) n
      a_state = (made_asked e).lent.each n l

      b_state : present then n < state_count s (header_of s) n
      b_state = (attempted_in (attempt_ready e) (wanted_of v)).each n l

      -- what S3a and S4 say, as their reports answer it
      admissible_yes : (a : ℕ) → a < state_count s (header_of s) n → admissible s (header_of s) n a (num p) (num o) ≡ true
          → admissible_answer s (pos n) (pos a) p o ≡ Ok 1
      admissible_yes a k y =
          let persona = lt-ltb (num p) (header_of s).personas (made_asked e).persona in
          let operation = lt-ltb (num o) (header_of s).operations (made_asked e).operation in
          report_exists s (admissible_numbers s (pos n) (pos a) p o) _ (made_sheet e) (rw (state_named a k, persona, operation))
          ∙ rw (num_of n, num_of a, y)

      cause_yes : (a b : ℕ) → a < state_count s (header_of s) n → b < state_count s (header_of s) n → can_cause s (header_of s) (num p) n a b ≡ true
          → can_cause_answer s p (pos n) (pos a) (pos b) ≡ Ok 1
      cause_yes a b k m y =
          report_exists s (cause_numbers s p (pos n) (pos a) (pos b)) _ (made_sheet e)
          (rw (state_named a k, state_named b m, lt-ltb (num p) (header_of s).personas (made_asked e).persona))
          ∙ rw (num_of n, num_of a, num_of b, y)

      pub changed_yes : (present states n ≡ present then n → ⊥) → Yes (present states n) (present then n)
      changed_yes x =
          let y = caused (attempt_ready e) (wanted_of v) n (present states n) (present then n) l refl refl x in
          (admissible_yes (present states n) a_state y.0, cause_yes (present states n) (present then n) a_state b_state y.1)

      applied_yes : (j k : ℕ) → attempted_over s (header_of s) lent states (num p) (num o) (wanted_of v) ≡ Ok j
          → Moves s (header_of s) states (num o) j n k → Yes (effect s (header_of s) k).w1 (effect s (header_of s) k).w2
      applied_yes j k a m =
          let ready = attempt_ready e in
          let c = (effect_ok ready.ready.accepted (num o) ready.ready.exists k m.of).change in
          let from = rw m.entity at c.from in
          let to = rw m.entity at c.to in
          let y = admissible_yes (effect s (header_of s) k).w1 from (applied_admissible ready (wanted_of v) j a n k m) in
          (y, cause_yes (effect s (header_of s) k).w1 (effect s (header_of s) k).w2 from to (applied_caused ready (wanted_of v) j a n k m))

    -- each effect of the outcome answered that started from its entity's state is one that S3a and S4 answer yes to, also one that leads back
    pub applied_covered : (j k : ℕ) → operate_answer s lent q p o v ≡ Ok j → Moves s (header_of s) states (num o) j n k
        → Yes (effect s (header_of s) k).w1 (effect s (header_of s) k).w2
    applied_covered j k a m =
        by_all (λ (c : Count). c ≡ Ok j → Yes (effect s (header_of s) k).w1 (effect s (header_of s) k).w2)
        (operate_climb s lent q p o v) Err _
        (λ r e a. let z : ◌≡◌ {A = ℕ} 0 1 = cc in absurd (omega arith))
        (λ h e b. applied_yes (made e) j k (worked _ _ refl (made e) refl ∙ a) m)
        a

  -- ---- record by record

  module _ (i : ℕ) (l : i < count rs) where
    abbrev n : ℕ
    n = entity_at rs i

    pub made_entity : Made → n < (header_of s).entities
    made_entity e = (record_ok s (header_of s) rs i (good_records s (header_of s) rs (made_records e) i l)).entity

    pub made_state : Made → names q n i ≡ true → state_at after i ≡ get_or then n (pos 0)
    made_state e x = ap (λ (a : List ℤ). state_at a i) (made_after e) ∙ state_new q then i l x

    -- what holds of a state that stays, and of the state of a named instance before and after, holds of every record's
    pub each_state : (P : ℤ → ℤ → Type 0) → ((a : ℤ) → P a a)
        → (Made → n < (header_of s).entities → P (get_or states n (pos 0)) (get_or then n (pos 0))) → P (state_at rs i) (state_at after i)
    each_state P same work =
        each_way s q (operate_climb s lent q p o v) _ P same (λ h e. asked_records s lent q p o v refl e) i l
        (λ h e m. let z : header_of s ≡ h = climb_header s (operate_rungs s lent q p o v) e in rw (← z) (work (made e) (rw z m)))

    -- a state that the call changed is one that S3a and S4 answer yes to
    pub covered : (num (state_at rs i) ≡ num (state_at after i) → ⊥)
        → (admissible_answer s (pos n) (pos (num (state_at rs i))) p o ≡ Ok 1)
        × (can_cause_answer s p (pos n) (pos (num (state_at rs i))) (pos (num (state_at after i))) ≡ Ok 1)
    covered =
        each_state
        (λ a b. (num a ≡ num b → ⊥)
        → (admissible_answer s (pos n) (pos (num a)) p o ≡ Ok 1) × (can_cause_answer s p (pos n) (pos (num a)) (pos (num b)) ≡ Ok 1))
        (λ a x. absurd (x refl)) (λ e m. changed_yes n m e)

    -- and a reached state stays one
    pub still_reached : Reached s (header_of s) n (num (state_at rs i)) → Reached s (header_of s) n (num (state_at after i))
    still_reached =
        each_state (λ a b. Reached s (header_of s) n (num a) → Reached s (header_of s) n (num b)) (λ a r. r)
        (λ e m r. reached_attempt (attempt_ready e) (wanted_of v) n m r)
