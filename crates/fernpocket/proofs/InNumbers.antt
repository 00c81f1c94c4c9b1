-- Laws behind the headline theorems: from 01's numbers to the answers' cases, and what each call then did.
-- Assumes nothing.
use Rattle.std.specs.Prelude.{Ok, Err}
use mathlib.Core.Path.{◌≡◌, refl, sym, ap, subst, ◌∙◌}
use mathlib.Core.Bool.{Bool, true, false, ◌&&◌}
use mathlib.Core.List.{List, [], ◌∷◌, ◌++◌}
use mathlib.Core.Logic.{◌↔◌, inl, inr}
use Prim.Native.Nat.{ℕ, zero, suc, ◌+◌, ◌≤◌, ◌<◌, ◌^◌}
use lib.IntN.{ℤ, pos, negsuc, nat_abs}
use lib.ListN.{length, take}
use native.Mathlib.Omega.{arith}
use native.Mathlib.Decide.{dec_lt}
use borrow.Author.Tests.{ltb-true, lt-leb}
use Rattle.tables.proofs.Bools.{true_false, and_false_right}
use Rattle.signed.specs.Words.{num, eq_z}
use Rattle.signed.proofs.Numbers.{num_of, num_pos}
use Rattle.answer.specs.declared.Refusal.{Refusal}
use Rattle.answer.specs.declared.Refusal.TheVariants.{NoOutcome, LastPath, ManyOutcomes}
use Rattle.answer.specs.Answers.{tallied, Status, Count, Counted, status_answer, count_answer, counted_answer}
use Rattle.answer.specs.Number.{number}
use Rattle.answer.proofs.Numbers.{number_some, status_done, count_done, count_eleven, count_sixteen, counted_done}
use Rattle.layout.specs.declared.Header.{Header}
use Rattle.layout.specs.Header.{header_of}
use Rattle.layout.specs.Tables.{effect, entity_of}
use Rattle.item.specs.Sorts.{is_duration}
use Rattle.node.specs.FactValues.{FactValue}
use Rattle.records.specs.Accept.{checked}
use Rattle.records.specs.Accepted.{Accepted}
use Rattle.records.proofs.Acceptance.{accepted}
use Rattle.records.proofs.MixedTypes.{mixed_refused}
use Rattle.records.specs.Operations.{outcomes}
use Rattle.records.proofs.OperationLaws.{operation_ok}
use Rattle.operation.specs.Mask.{in_mask}
use Rattle.operation.specs.Outcomes.{wanted_of, applicable, blocking, blocker, chosen}
use Rattle.operation.specs.Ready.{Ready}
use Rattle.operation.proofs.Movers.{moves_true, true_moves}
use Rattle.operation.proofs.Guarantees.{Fate, moved as Goes, unmoved as Stays, fate, matched_by, by_matched}
use Rattle.operation.proofs.Choices.{chosen_applies, nothing_place, about_any, about_one, word_wanted, word_alone, word_none, word_not, word_several}
use Rattle.operation.proofs.Blockers.{not_applicable, blocker_exists}
use Rattle.facts.specs.Lent.{LentFacts}
use Rattle.instances.specs.Records.{LentStates, entity_at}
use Rattle.instances.specs.Named.{gathered, scattered}
use Rattle.instances.proofs.Unchanged.{unchanged}
use Rattle.facts.specs.Assembled.{assembled}
use Rattle.predicate.specs.Verdicts.{verdicts_of}
use Rattle.attempt.proofs.AttemptLaws.{chose_so, outcome_states, refused_states}
use Rattle.walks.specs.Paths.{PathOf, paths, Among}
use Rattle.walks.specs.Follows.{Following, Absent, Final, Then, following}
use Rattle.listing.specs.Calls.{first_walk, next_walk, next_laid, answer_of, buffer_of}
use Rattle.listing.specs.Lists.{Call, First, Next, State, nexts, count}
use Rattle.listing.specs.Inner.{Listed}
use Rattle.walks.proofs.AllPaths.{path_list}
use Rattle.run.proofs.RunPaths.{run_listed}
use Rattle.reach.specs.Reached.{Reached, states_in}
use Rattle.ladder.specs.Ladder.{Climbed, opened, by, left, exists}
use Rattle.ladder.proofs.ClimbLaws.{worked, by_all, climbed_at, opened_at, opened_done}
use Rattle.evaluate.proofs.EvaluateLaws.{operate_early, asked_wanted, asked_records}
use Rattle.calls.specs.Evaluation.{assemble_climb, assemble_answer, assemble_values, verdicts_climb, verdicts_answer, verdicts_verdicts, operate_climb, attempted_over, attempted_states_over, operate_answer, operate_states}
use Rattle.calls.specs.Flows.{flow_climb, first_answer, first_path, next_answer, next_path, run_rungs, run_climb, ran_walk_over, run_answer, run_path, run_states}
use Rattle.calls.specs.Reports.{report_rungs, report_climb, reachable_answer}
use Rattle.calls.specs.Lists.{public_call, public_calls}
use Rattle.calls.specs.Inner.{public_read_off, Listable, TookPath}
use Rattle.flows.proofs.FlowCallLaws.{runnable, going}
use Rattle.flows.proofs.PublicListing.{public_listing, run_takes_path}
use Rattle.text.specs.Lines.{words_of, text_of}
use Rattle.text.specs.Calls.{read_answer, read_buffer, write_answer, write_buffer, filled}
use Rattle.reports.proofs.ReportLaws.{asked, MaskIs, reachable_is}
use Rattle.fernpocket.specs.Promised.{present_states, Went, WasRefused, FlowReady, read_to13, RanPath, After, moved, stayed, TwoApply, OneApplies, Operated, Blocked, NoneApplies, Decided, Pairs, RefusedAt}
use Rattle.fernpocket.proofs.Covered.{under_header, Made, made, made_entity, made_state, attempt_ready}

-- ---- answers

pub went_is : (c : Count) {n : ℕ} → Went (count_answer c) n → c ≡ Ok n
went_is c {n} w = count_done c n w.refusal w.value

-- an accepted sheet, by its number
pub status_accepted : (s : List ℤ) → (status_answer (checked s)).refusal ≡ pos 0 → Accepted s (header_of s)
status_accepted s a = accepted s (status_done _ a)

-- ---- lists of calls

pub listable : {s : List ℤ} {f : ℤ} {b : List ℕ} → FlowReady s f b → Listable s (header_of s) f b
listable {s} u = record { sheet = sym (opened_done s (status_done _ u.sheet)); flow = u.flow; room = u.room }

module _ {s : List ℤ} {f : ℤ} {b : List ℕ} (u : FlowReady s f b) where
  pub ready_sheet : Accepted s (header_of s)
  ready_sheet = status_accepted s u.sheet

  pub ready_flow : num f < (header_of s).flows
  ready_flow = ltb-true _ _ u.flow

  -- one more call at a list's end
  calls_more : (t : State) (cs : List Call) (c : Call) → public_calls s f t (cs ++ (c ∷ [])) ≡ public_call s f (public_calls s f t cs).buffer c
  unfolding public_calls
  calls_more t [] c = refl
  calls_more t (d ∷ cs) c = calls_more (public_call s f t.buffer d) cs c

  abbrev after_calls : List Call → State
  after_calls cs = public_calls s f (public_call s f b First) cs

  -- along a list that starts with a first, the only refusal is 13
  same_read : (k : ℕ) (cs : List Call) → read_to13 s f k (after_calls cs) ≡ public_read_off s f k (after_calls cs)
  unfolding read_to13 public_read_off eq_z
  same_read zero cs = refl
  same_read (suc k) cs =
      go (after_calls cs).answer refl (public_listing (listable u) cs)
      (subst (λ (t : State). read_to13 s f k t ≡ public_read_off s f k t)
      (calls_more (public_call s f b First) cs Next) (same_read k (cs ++ (Next ∷ []))))
    where
      go : (a : Counted) → (after_calls cs).answer ≡ a → Listed s (header_of s) (num f) b (nexts 0 (First ∷ cs)) (after_calls cs)
          → read_to13 s f k (public_call s f (after_calls cs).buffer Next) ≡ public_read_off s f k (public_call s f (after_calls cs).buffer Next)
          → read_to13 s f (suc k) (after_calls cs) ≡ public_read_off s f (suc k) (after_calls cs)
      go (Ok w) e l ih =
          rw (read_to13, public_read_off, e, e) (ap (λ (z : List (List ℕ)). take w.count (after_calls cs).buffer ∷ z) ih)
      go (Err r) e l ih = rw (last (dec_lt (nexts 0 (First ∷ cs)) (count s (header_of s) (num f))), read_to13, public_read_off)
        where
          last : Dec (nexts 0 (First ∷ cs) < count s (header_of s) (num f)) → (after_calls cs).answer ≡ Err LastPath
          last (yes d) = let z : ◌≡◌ {A = ℕ} 0 1 = cc (sym e ∙ l.answers d) in absurd (omega arith)
          last (no d) = l.refused.1 (omega arith)

  pub read_same : (k : ℕ) → read_to13 s f k (public_call s f b First) ≡ public_read_off s f k (public_call s f b First)
  unfolding public_calls
  read_same k = same_read k []

-- ---- runs

module _ (s : List ℤ) (lent : LentFacts) (states : LentStates) (f : ℤ) (words : List ℤ) (b : List ℕ) where
  pub ran_path_lem : (counted_answer (run_answer s lent states f words b)).refusal ≡ pos 0 → RanPath s lent states f words b
  ran_path_lem e =
      let w = counted_done (run_answer s lent states f words b) e in
      by_all (λ (a : Counted). a ≡ tallied w.0 w.1 → RanPath s lent states f words b)
      (run_climb s lent states f words (length b)) Err _
      (λ r p q. let z : ◌≡◌ {A = ℕ} 0 1 = cc in absurd (omega arith))
      (λ h p q. took p (run_takes_path s lent states f words b w.0 w.1 w.2))
      w.2
    where
      took : {h : Header} → run_climb s lent states f words (length b) ≡ Ok h → TookPath s lent states f words b
          → RanPath s lent states f words b
      took p r =
          let header : header_of s ≡ r.header = (opened_at s refl r.sheet).header in
          let room = (going s lent states f words b refl (under_header s (run_rungs s lent states f words (length b)) p)).lent in
          let whole = (path_list s (header_of s) room.sheet (num f) room.flow).whole in
          let listed : Among (paths s (header_of s) (num f)) r.path = rw header r.listed in
          record {
            path = r.path;
            is = subst (PathOf s (header_of s) (num f)) listed.is (whole.sound listed.number listed.below);
            listed = listed;
            left = r.left;
            value = rw header (ap (λ (a : Counted). (counted_answer a).value) r.answers);
            long = ap (λ (a : Counted). (counted_answer a).count) r.answers;
          }

-- ---- calls that are refused leave every lent buffer as it was

-- a call that stops on the ladder does; so it is enough that one past the ladder does
kept : {A B : Type 0} (P : A → Type 0) (c : Climbed) (f : Refusal → A) (g : Header → A) (old : B) (work : Header → B)
    → ((h : Header) → c ≡ Ok h → P (g h) → work h ≡ old) → P (by c f g) → left c old work ≡ old
unfolding by
kept P (Ok h) f g old work k x = k h refl x
kept P (Err r) f g old work k x = refl

module _ (s : List ℤ) (lent : LentFacts) (states : LentStates) (f : ℤ) (words : List ℤ) (b : List ℕ) where
  -- no run is refused past the ladder
  runs : (h : Header) → run_climb s lent states f words (length b) ≡ Ok h
      → WasRefused (counted_answer (ran_walk_over s h lent (gathered h states) (num f) words)) → ⊥
  runs h e x =
      x (ap (λ (a : Counted). (counted_answer a).refusal) (run_listed (runnable (going s lent states f words b refl e) refl refl) words).answers)

  module _ (x : WasRefused (counted_answer (run_answer s lent states f words b))) where
    pub run_path_kept : run_path s lent states f words b ≡ b
    run_path_kept =
        kept (λ (a : Counted). WasRefused (counted_answer a)) (run_climb s lent states f words (length b)) Err _ b _
        (λ h e y. absurd (runs h e y)) x

    pub run_states_kept : run_states s lent states f words b ≡ states.records
    run_states_kept =
        kept (λ (a : Counted). WasRefused (counted_answer a)) (run_climb s lent states f words (length b)) Err _ states.records _
        (λ h e y. absurd (runs h e y)) x

module _ (s : List ℤ) (f : ℤ) (b : List ℕ) where
  pub first_kept : WasRefused (counted_answer (first_answer s f b)) → first_path s f b ≡ b
  unfolding first_walk
  first_kept x = kept (λ (a : Counted). WasRefused (counted_answer a)) (flow_climb s f (length b)) Err _ b _ (λ h e y. absurd (y refl)) x

  following_kept : (h : Header) (t : Following) → WasRefused (counted_answer (answer_of s h t)) → buffer_of t b ≡ b
  unfolding answer_of buffer_of
  following_kept h Absent x = refl
  following_kept h Final x = refl
  following_kept h (Then p) x = absurd (x refl)

  pub next_kept : WasRefused (counted_answer (next_answer s f b)) → next_path s f b ≡ b
  unfolding next_walk next_laid
  next_kept x =
      kept (λ (a : Counted). WasRefused (counted_answer a)) (flow_climb s f (length b)) Err _ b _
      (λ h e y. following_kept h (following (paths s h (num f)) b) y) x

filled_kept : {Y : Type 0} (c : Count) (result lent : List Y) → WasRefused (count_answer c) → filled c result lent ≡ lent
unfolding filled
filled_kept (Ok n) result lent x = absurd (x refl)
filled_kept (Err r) result lent x = refl

pub read_kept : (text : List ℕ) (words : List ℤ) → WasRefused (count_answer (read_answer text (length words))) → read_buffer text words ≡ words
unfolding read_buffer
read_kept text words x = filled_kept (read_answer text (length words)) (words_of text) words x

pub write_kept : (words : List ℤ) (text : List ℕ) → WasRefused (count_answer (write_answer words (length text))) → write_buffer words text ≡ text
unfolding write_buffer
write_kept words text x = filled_kept (write_answer words (length text)) (text_of words) text x

pub assemble_kept : (s : List ℤ) (lent : LentFacts) → WasRefused (status_answer (assemble_answer s lent)) → assemble_values s lent ≡ lent.values
assemble_kept s lent x =
    kept (λ (a : Status). WasRefused (status_answer a)) (assemble_climb s lent) Err _ lent.values _ (λ h e y. absurd (y refl)) x

pub verdicts_kept : (s : List ℤ) (lent : LentFacts) (verdicts : List ℤ) → WasRefused (status_answer (verdicts_answer s lent (length verdicts)))
    → verdicts_verdicts s lent verdicts ≡ verdicts
verdicts_kept s lent verdicts x =
    kept (λ (a : Status). WasRefused (status_answer a)) (verdicts_climb s lent (length verdicts)) Err _ verdicts _
    (λ h e y. absurd (y refl)) x

-- ---- operations

-- no two entities are the first that blocks an outcome
pub one_blocked : (s states : List ℤ) (o j n m : ℕ) → Blocked s states o j n → Blocked s states o j m → n ≡ m
one_blocked s states o j n m a b = go (dec_lt a.at b.at) (dec_lt b.at a.at)
  where
    sooner : (n m : ℕ) (a : Blocked s states o j n) (b : Blocked s states o j m) → a.at < b.at → ⊥
    sooner n m a b l = let e = b.earlier a.at l a.of in a.unmatched e.0 (rw a.names at e.1)

    go : Dec (a.at < b.at) → Dec (b.at < a.at) → n ≡ m
    go (yes l) _ = absurd (sooner n m a b l)
    go (no x) (yes l) = absurd (sooner m n b a l)
    go (no x) (no y) =
        let e : a.at ≡ b.at = omega arith in
        sym a.names ∙ ap (λ (d : ℕ). entity_of (effect s (header_of s) d)) e ∙ b.names

fate_after : {s : List ℤ} {h : Header} {states : List ℤ} {o j n : ℕ} {state : ℤ}
    → Fate s h states o j n state → After s h states o j n state
fate_after {s} {h} {states} {o} {j} {n} (Goes e m q) = moved e (true_moves s h states o j n e m) q
fate_after {s} {h} {states} {o} {j} {n} (Stays f q) = stayed (λ e t. f e (moves_true s h states o j n e t)) q

module _ (s : List ℤ) (lent : LentFacts) (q : LentStates) (p o v : ℤ) where
  abbrev states : List ℤ
  states = present_states s q

  abbrev facts : List FactValue
  facts = assembled s (header_of s) lent

  abbrev verdicts : List ℤ
  verdicts = verdicts_of s (header_of s) facts

  attempt_kept : (h : Header) (st : List ℤ) (c : Count) → attempted_over s h lent st (num p) (num o) (wanted_of v) ≡ c
      → WasRefused (count_answer c) → attempted_states_over s h lent st (num p) (num o) (wanted_of v) ≡ st
  attempt_kept h st (Ok j) a x = absurd (x refl)
  attempt_kept h st (Err r) a x = refused_states s h _ _ st (num p) (num o) (wanted_of v) r a

  pub operate_kept : WasRefused (count_answer (operate_answer s lent q p o v)) → operate_states s lent q p o v ≡ q.records
  operate_kept x =
      kept (λ (a : Count). WasRefused (count_answer a)) (operate_climb s lent q p o v) Err _ q.records _
      (λ h e y. ap (scattered q) (attempt_kept h (gathered h q) _ refl y) ∙ unchanged s h q (asked_records s lent q p o v refl e)) x

  -- an answer that no rung of the ladder gives is the attempt's
  past : (c : Count) → ((r : Refusal) → c ≡ Err r → 8 < number r) → operate_answer s lent q p o v ≡ c
      → Made s lent q p o v × (attempted_over s (header_of s) lent states (num p) (num o) (wanted_of v) ≡ c)
  past c late w =
      by_all
      (λ (a : Count). a ≡ c
      → Made s lent q p o v × (attempted_over s (header_of s) lent states (num p) (num o) (wanted_of v) ≡ c))
      (operate_climb s lent q p o v) Err _
      (λ r e a. absurd (omega (arith, operate_early s lent q p o v e, late r (sym a))))
      (λ h e a. (made s lent q p o v e, worked _ _ refl (made s lent q p o v e) refl ∙ w))
      w

  abbrev applies : ℕ → Bool
  applies = applicable s (header_of s) states (num o)

  abbrev blocks : ℕ → ℕ
  blocks = blocker s (header_of s) states (num o)

  abbrev many : ℕ
  many = outcomes s (header_of s) (num o)

  pub operated : (j : ℕ) → operate_answer s lent q p o v ≡ Ok j → Operated s lent q p o v j
  unfolding chosen
  operated j a =
      let k = past (Ok j) (λ r e. let z : ◌≡◌ {A = ℕ} 0 1 = cc in absurd (omega arith)) a in
      let ready = attempt_ready s lent q p o v k.0 in
      let w = chose_so s (header_of s) facts verdicts states (num p) (num o) (wanted_of v) (Ok j) tt k.1 in
      let c = chosen_applies applies blocks many (wanted_of v) j w.chosen in
      let few : j < 2 ^ 63 = omega (arith, c.0, (operation_ok ready.ready.accepted (num o) ready.ready.exists).outcomes_few) in
      let changed = outcome_states s (header_of s) facts verdicts states (num p) (num o) (wanted_of v) j k.1 in
      record {
        persona = w.allowed;
        holds = w.truth;
        exists = c.0;
        applies = c.1;
        wanted = λ x. num_pos v (word_wanted applies blocks many v j w.chosen x) few;
        alone = λ e. (word_alone applies blocks many v j w.chosen e).alone;
        each = λ i l x.
            let n = made_entity s lent q p o v i l k.0 in
            rw (made_state s lent q p o v i l k.0 x, changed) (fate_after (fate ready.ready j (entity_at q.records i) n));
      }

  -- an outcome that is not applicable is blocked
  is_blocked : Ready s (header_of s) states (num o) → (j n : ℕ) → n ≡ blocks j → applies j ≡ false → Blocked s states (num o) j n
  is_blocked w j n e f =
      let b = not_applicable s (header_of s) states (num o) j f in
      rw e (record {
        at = blocking s (header_of s) states (num o) j;
        of = b.of;
        names = b.entity;
        exists = blocker_exists w j f;
        unmatched = λ d t. true_false (by_matched w j (blocks j) d (moves_true s (header_of s) states (num o) j (blocks j) d t)) b.unmatched;
        earlier = λ d l t.
            let m = matched_by w j (effect s (header_of s) d).w0 (b.earlier d l t) in
            (m.0, true_moves s (header_of s) states (num o) j (effect s (header_of s) d).w0 m.0 m.1);
      })

  pub eleven : (count_answer (operate_answer s lent q p o v)).refusal ≡ pos 11
      → NoneApplies s states o v (count_answer (operate_answer s lent q p o v)).place
  unfolding chosen
  eleven e =
      let n = nat_abs (count_answer (operate_answer s lent q p o v)).place in
      let a = count_eleven (operate_answer s lent q p o v) e in
      let k = past (Err (NoOutcome n)) (λ r z. let y : NoOutcome n ≡ r = cc in rw (← y) (omega arith)) a in
      let c = (chose_so s (header_of s) facts verdicts states (num p) (num o) (wanted_of v) (Err (NoOutcome n)) tt k.1).chosen in
      let w = (attempt_ready s lent q p o v k.0).ready in
      let at = nothing_place applies blocks many (wanted_of v) n c in
      let wanted = word_not applies blocks many v n (asked_wanted s lent q p o v refl k.0) c in
      let none = word_none applies blocks many v n c in
      record {
        wanted = wanted;
        none = none;
        entity = n;
        is_place = ap (λ (c : Count). (count_answer c).place) a;
        blocks_wanted = λ x. is_blocked w (num v) n (at ∙ ap blocks (about_one v x)) (wanted x);
        blocks_first = λ x.
            is_blocked w 0 n (at ∙ ap blocks (about_any x)) (none x 0 (operation_ok w.accepted (num o) w.exists).outcomes);
      }

  pub sixteen : (count_answer (operate_answer s lent q p o v)).refusal ≡ pos 16 → (v ≡ negsuc 0) × TwoApply s states (num o)
  unfolding chosen
  sixteen e =
      let k =
      past (Err ManyOutcomes) (λ r z. let y : ManyOutcomes ≡ r = cc in rw (← y) (omega arith))
      (count_sixteen (operate_answer s lent q p o v) e) in
      let c = (chose_so s (header_of s) facts verdicts states (num p) (num o) (wanted_of v) (Err ManyOutcomes) tt k.1).chosen in
      let t = word_several applies blocks many v c in (
        t.0,
        record {
          one = t.1.first;
          other = t.1.second;
          order = t.1.order;
          exists = t.1.exists;
          one_applies = t.1.one;
          other_applies = t.1.other;
        },
      )

  -- what is decided is an outcome, or 11, or 16
  value : (a : Count) → (count_answer a).refusal ≡ pos 0 → (n : ℕ) × (a ≡ Ok n)
  value (Ok n) z = (n, refl)
  value (Err r) z = absurd (number_some r z)

  went_with : (j : ℕ) → operate_answer s lent q p o v ≡ Ok j → Went (count_answer (operate_answer s lent q p o v)) j
  went_with j a = rw a (record { refusal = refl; value = refl })

  -- of two applicable outcomes none is the only one
  two_alone : TwoApply s states (num o) → (j : ℕ) → ((i : ℕ) → i < many → applies i ≡ true → i ≡ j) → ⊥
  two_alone t j alone =
      let a = alone t.one (omega (arith, t.order, t.exists)) t.one_applies in
      let b = alone t.other t.exists t.other_applies in
      omega (arith, t.order)

  -- a wanted outcome that is applicable
  pub wanted_goes : Decided (count_answer (operate_answer s lent q p o v)) → (k : ℕ) → v ≡ pos k → applies k ≡ true
      → Went (count_answer (operate_answer s lent q p o v)) k
  wanted_goes d k e t = go d
    where
      wanted : v ≡ negsuc 0 → ⊥
      wanted z = let y : ◌≡◌ {A = ℕ} 0 1 = cc (sym e ∙ z) in omega arith

      go : Decided (count_answer (operate_answer s lent q p o v)) → Went (count_answer (operate_answer s lent q p o v)) k
      go (inl a) =
          let w = value (operate_answer s lent q p o v) a in
          let y : k ≡ w.0 = cc (sym e ∙ (operated w.0 w.1).wanted wanted) in
          went_with k (w.1 ∙ ap Ok (sym y))
      go (inr (inl a)) = absurd (true_false t (rw (e, num_of k) at ((eleven a).wanted wanted)))
      go (inr (inr a)) = absurd (wanted (sixteen a).0)

  -- with −1, the only one that is
  pub only_goes : Decided (count_answer (operate_answer s lent q p o v)) → v ≡ negsuc 0 → (j : ℕ) → OneApplies s states (num o) j
      → Went (count_answer (operate_answer s lent q p o v)) j
  only_goes d e j r = go d
    where
      go : Decided (count_answer (operate_answer s lent q p o v)) → Went (count_answer (operate_answer s lent q p o v)) j
      go (inl a) =
          let w = value (operate_answer s lent q p o v) a in
          let y : w.0 ≡ j = r.alone w.0 (operated w.0 w.1).exists (operated w.0 w.1).applies in
          went_with j (w.1 ∙ ap Ok y)
      go (inr (inl a)) = absurd (true_false r.applies ((eleven a).none e j r.exists))
      go (inr (inr a)) = absurd (two_alone (sixteen a).1 j r.alone)

  -- with −1 and two applicable outcomes, what is decided is 16
  pub two_sixteen : Decided (count_answer (operate_answer s lent q p o v)) → v ≡ negsuc 0 → TwoApply s states (num o)
      → (count_answer (operate_answer s lent q p o v)).refusal ≡ pos 16
  two_sixteen (inr (inr e)) x t = e
  two_sixteen (inr (inl e)) x t = absurd (true_false t.other_applies ((eleven e).none x t.other t.exists))
  two_sixteen (inl e) x t =
      let k = value (operate_answer s lent q p o v) e in
      absurd (two_alone t k.0 ((operated k.0 k.1).alone x))

-- ---- S2

module _ (s : List ℤ) (e : ℤ) where
  abbrev named : Header → Bool
  named h = exists e h.entities

  -- what S2 answers where it goes through
  pub mask_found : (m : ℕ) → Went (counted_answer (reachable_answer s e)) m
      → (reachable_answer s e ≡ tallied m (states_in m)) × ((q : ℕ) → Reached s (header_of s) (num e) q ↔ (in_mask m q ≡ true))
  mask_found m w =
      let d = counted_done (reachable_answer s e) w.refusal in
      let r =
      by_all (λ (c : Counted). c ≡ tallied d.0 d.1 → MaskIs s (header_of s) (num e) (reachable_answer s e)) (report_climb s named) Err _
      (λ r p x. let z : ◌≡◌ {A = ℕ} 0 1 = cc in absurd (omega arith))
      (λ h p x. is (under_header s (report_rungs named) p))
      d.2 in
      let y : r.mask ≡ m = ap nat_abs (sym (ap (λ (c : Counted). (counted_answer c).value) r.is) ∙ w.value) in
      (rw y at r.is, λ q. rw y at (r.each q))
    where
      is : report_climb s named ≡ Ok (header_of s) → MaskIs s (header_of s) (num e) (reachable_answer s e)
      is p = reachable_is s e (climbed_at (opened s) (report_rungs named) refl p).sheet (asked s named refl p).exist

  pub mask_reached : (m : ℕ) → Went (counted_answer (reachable_answer s e)) m → (q : ℕ) → Reached s (header_of s) (num e) q ↔ (in_mask m q ≡ true)
  mask_reached m w = (mask_found m w).1

  pub mask_scans : (m : ℕ) → Went (counted_answer (reachable_answer s e)) m → (counted_answer (reachable_answer s e)).count ≡ pos (states_in m)
  mask_scans m w = ap (λ (c : Counted). (counted_answer c).count) (mask_found m w).0

-- ---- money and durations

pub types_refused : (s : List ℤ) (n a b : ℕ) → Pairs s n a b → (a ≡ b → ⊥) → (is_duration a && is_duration b) ≡ false → RefusedAt s n
types_refused s n a b p e d =
    let q = mixed_refused s n p.header p.groups p.exists p.earlier p.kind (rw (p.first, p.second) d)
    (λ z. e (sym p.first ∙ z ∙ p.second)) in
    record { refusal = rw q; place = rw q }

pub currencies_refused : (s : List ℤ) (n c d : ℕ) → Pairs s n (130 + c) (130 + d) → d ≤ 127 → (c ≡ d → ⊥) → RefusedAt s n
currencies_refused s n c d p l e =
    types_refused s n (130 + c) (130 + d) p (λ z. e (omega arith)) (and_false_right (is_duration (130 + c)) _ (lt-leb 258 (130 + d) (omega arith)))
