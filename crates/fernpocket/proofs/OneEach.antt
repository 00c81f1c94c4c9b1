-- "One instance each, all numbered 0, must answer as the old form did".
-- Assumes nothing.
use Rattle.std.specs.Prelude.{Ok, Err}
use mathlib.Core.Path.{◌≡◌, refl, sym, subst, ap, ◌∙◌}
use mathlib.Core.Bool.{true, false, ◌&&◌, ◌||◌}
use mathlib.Core.List.{List, [], ◌∷◌, ◌++◌}
use mathlib.Core.Logic.{⊎_elim}
use Prim.Native.Nat.{ℕ, zero, suc, ◌+◌, ◌*◌, ◌-◌, ◌/◌, ◌%◌, ◌≤◌, ◌<◌}
use native.Mathlib.Omega.{arith}
use native.Mathlib.Decide.{dec_lt, ℕ_discrete}
use lib.IntN.{ℤ, pos}
use lib.ListN.{length, get_or, length-append, get_or-append, get_or-eq_default}
use lib.Seq.{ext_get_or, get_or-append-add}
use lib.Dec.{ltb, leb, eqb}
use borrow.Author.Tests.{lt-ltb, le-leb, eq-eqb, ne_eqb, eqb-true}
use Rattle.signed.specs.Words.{num}
use Rattle.signed.proofs.Parts.{true_eq}
use Rattle.signed.proofs.Numbers.{num_of}
use Rattle.tables.specs.Scan.{first_fail}
use Rattle.tables.specs.Table.{entry}
use Rattle.tables.proofs.Bools.{true_false, bool_cases, and_right, and_yes, and_no, or_true_left, or_true_right}
use Rattle.tables.proofs.Scans.{below_suc, any_of}
use Rattle.tables.proofs.Scanned.{fail_same}
use Rattle.tables.proofs.Grown.{length_grown, grown_at}
use Rattle.layout.specs.declared.Header.{Header}
use Rattle.records.specs.Accepted.{Accepted}
use Rattle.facts.specs.Lent.{LentFacts}
use Rattle.operation.specs.Outcomes.{wanted_of}
use Rattle.instances.specs.Records.{LentStates, count, entity_at, instance_at, state_at, states_lent, above, good_record, first_bad, records_fault}
use Rattle.instances.specs.Named.{names, held, gathered, scattered, has}
use Rattle.instances.proofs.Naming.{names_is, names_entity, held_by}
use Rattle.instances.proofs.Gathering.{gathered_length, gathered_at}
use Rattle.instances.proofs.Scattering.{scattered_length, word_kept, state_new}
use Rattle.instances.proofs.Covering.{covers_all}
use Rattle.instances.proofs.Lengths.{lent_whole}
use Rattle.attempt.proofs.AttemptLaws.{attempted_in}
use Rattle.run.proofs.RunPaths.{run_states_in}
use Rattle.run.proofs.Coverage.{flow_covers_all}
use Rattle.ladder.specs.Ladder.{Climbed, opened, by, left, matches, facts_lent}
use Rattle.ladder.proofs.ClimbLaws.{passed, no_length, climbed_at, opened_at, climb_same, by_same}
use Rattle.calls.specs.Evaluation.{operate_rungs, operate_climb, attempted_over, attempted_states_over, operate_answer, operate_states}
use Rattle.calls.specs.Flows.{run_rungs, run_climb, ran_walk_over, ran_path_over, ran_states_over, run_answer, run_path, run_states}
use Rattle.evaluate.proofs.EvaluateLaws.{attemptable, asked}
use Rattle.flows.proofs.FlowCallLaws.{going_lengths, going, runnable}
use Rattle.fernpocket.specs.OneEach.{records_to, one_records, one_each, state_in, first_stray, states_fault, one_operate_rungs, one_operate_climb, one_operate_answer, one_operate_states, one_run_rungs, one_run_climb, one_run_answer, one_run_path, one_run_states}

-- ---- the records

abbrev three : List ℤ → ℕ → List ℤ
three st n = pos n ∷ pos 0 ∷ get_or st n (pos 0) ∷ []

records_length : (st : List ℤ) (n : ℕ) → length (records_to st n) ≡ 3 * n
unfolding records_to
records_length st zero = refl
records_length st (suc n) = length-append (records_to st n) (three st n) ∙ rw (records_length st n) (omega arith)

record_word : (st : List ℤ) (n i j : ℕ) → i < n → j < 3 → get_or (records_to st n) (3 * i + j) (pos 0) ≡ get_or (three st i) j (pos 0)
unfolding records_to
record_word st zero i j l k = absurd (omega arith)
record_word st (suc n) i j l k =
    ⊎_elim (λ m. get_or-append (records_to st n) (three st n) (pos 0) (3 * i + j) (omega (arith, records_length st n)) ∙ record_word st n i j m k)
    (λ e. subst (λ (i : ℕ). get_or (records_to st n ++ three st n) (3 * i + j) (pos 0) ≡ get_or (three st i) j (pos 0)) (sym e)
    (ap (λ (k : ℕ). get_or (records_to st n ++ three st n) (k + j) (pos 0)) (sym (records_length st n))
    ∙ get_or-append-add (records_to st n) (three st n) j (pos 0)))
    (below_suc i n l)

module _ (st : List ℤ) where
  abbrev q : LentStates
  q = one_each st

  abbrev n : ℕ
  n = length st

  counted : count q.records ≡ n
  counted = omega (arith, records_length st n)

  module _ (i : ℕ) (l : i < n) where
    entity_is : entity_at q.records i ≡ i
    entity_is = let z : 3 * i + 0 ≡ 3 * i = omega arith in rw (← z, record_word st n i 0 l (omega arith)) (num_of i)

    instance_is : instance_at q.records i ≡ pos 0
    instance_is = record_word st n i 1 l (omega arith)

    state_is : state_at q.records i ≡ get_or st i (pos 0)
    state_is = record_word st n i 2 l (omega arith)

  zeros : (e : ℕ) → get_or q.instances e (pos 0) ≡ pos 0
  unfolding entry
  zeros e = go (dec_lt e n)
    where
      go : Dec (e < n) → get_or q.instances e (pos 0) ≡ pos 0
      go (yes l) = grown_at (λ _ _. pos 0) (pos 0) n e l
      go (no x) = get_or-eq_default q.instances (pos 0) (omega (arith, length_grown (λ _ _. pos 0) (pos 0) n))

  -- record i is named, for its entity i
  own_named : (i : ℕ) → i < n → names q i i ≡ true
  own_named i l = names_is q i i (entity_is i l) ∙ rw (instance_is i l, zeros i) (true_eq (pos 0) (pos 0) refl)

  has_each : (e : ℕ) → e < n → has q e ≡ true
  unfolding has
  has_each e l = any_of (names q e) (count q.records) e (omega (arith, counted)) (own_named e l)

  held_is : (e : ℕ) → e < n → held q e (count q.records) ≡ get_or st e (pos 0)
  held_is e l =
      held_by (λ z. z ≡ get_or st e (pos 0)) q e (count q.records)
      (λ i m p.
      let k : i < n = omega (arith, counted) in
      let z : i ≡ e = sym (entity_is i k) ∙ names_entity q e i p in
      state_is i k ∙ ap (λ (x : ℕ). get_or st x (pos 0)) z)
      (λ none. absurd (true_false (own_named e l) (none e (omega (arith, counted)))))

  -- ---- what is judged, gathered and written back

  lent_is : (h : Header) → h.entities ≤ 32 → states_lent h q ≡ matches st h.entities
  unfolding states_lent
  lent_is h few = go (ℕ_discrete n h.entities)
    where
      long : length q.instances ≡ n
      long = length_grown (λ _ _. pos 0) (pos 0) n

      go : Dec (n ≡ h.entities) → states_lent h q ≡ matches st h.entities
      go (yes e) =
          rw (
            eq-eqb (length q.records % 3) 0 (omega (arith, records_length st n)),
            le-leb (count q.records) 256 (omega (arith, counted)),
            long,
          )
      go (no x) = rw (long, ne_eqb n h.entities x) (and_no (eqb (length q.records % 3) 0 && leb (count q.records) 256))

  module _ (s : List ℤ) (h : Header) (each : n ≡ h.entities) where
    gathered_is : gathered h q ≡ st
    gathered_is =
        ext_get_or (pos 0) (gathered h q) st (gathered_length h q ∙ sym each)
        (λ e l. gathered_at h q e (omega (arith, gathered_length h q)) ∙ held_is e (omega (arith, gathered_length h q)))

    record_good : (i : ℕ) → i < n → good_record s h q.records i ≡ state_in s h st i
    unfolding good_record state_in
    record_good i l =
        rw (entity_is i l, state_is i l, lt-ltb i h.entities (omega arith), in_order (ℕ_discrete i 0)) (and_yes _)
      where
        in_order : Dec (i ≡ 0) → (eqb i 0 || above q.records (i - 1) i) ≡ true
        in_order (yes e) = or_true_left (eqb i 0) _ (eq-eqb i 0 e)
        in_order (no x) =
            or_true_right (eqb i 0) (above q.records (i - 1) i)
            (unfold above in
            rw (entity_is (i - 1) (omega arith), entity_is i l) (or_true_left (ltb (i - 1) i) _ (lt-ltb (i - 1) i (omega (arith, x)))))

    first_is : first_bad s h q.records ≡ first_stray s h st
    unfolding first_bad first_stray
    first_is =
        ap (first_fail (good_record s h q.records) 0) counted
        ∙ fail_same (good_record s h q.records) (state_in s h st) n record_good
        ∙ ap (first_fail (state_in s h st) 0) each

    fault_is : records_fault s h q.records ≡ states_fault s h st
    unfolding records_fault states_fault
    fault_is = rw (first_is, counted ∙ each)

  scattered_is : (new : List ℤ) → length new ≡ n → scattered q new ≡ one_records new
  scattered_is new e =
      ext_get_or (pos 0) (scattered q new) (one_records new)
      (scattered_length q new ∙ records_length st n ∙ rw (← e) (sym (records_length new (length new))))
      (λ j l. word j (omega (arith, scattered_length q new, records_length st n)) (ℕ_discrete (j % 3) 0) (ℕ_discrete (j % 3) 1))
    where
      kept : (j k : ℕ) → j < 3 * n → j ≡ 3 * (j / 3) + k → k < 2 → get_or (three st (j / 3)) k (pos 0) ≡ get_or (three new (j / 3)) k (pos 0)
          → get_or (scattered q new) j (pos 0) ≡ get_or (one_records new) j (pos 0)
      kept j k l z m same =
          word_kept q new j (λ a b p x. omega (arith, x))
          ∙ rw z (record_word st n (j / 3) k (omega arith) (omega arith) ∙ same
          ∙ sym (record_word new (length new) (j / 3) k (omega (arith, e)) (omega arith)))

      word : (j : ℕ) → j < 3 * n → Dec (j % 3 ≡ 0) → Dec (j % 3 ≡ 1) → get_or (scattered q new) j (pos 0) ≡ get_or (one_records new) j (pos 0)
      word j l (yes z) d = kept j 0 l (omega (arith, z)) (omega arith) refl
      word j l (no x) (yes z) = kept j 1 l (omega (arith, z)) (omega arith) refl
      word j l (no x) (no y) =
          let i = j / 3 in
          let k : j / 3 < n = omega arith in
          let z : j ≡ 3 * (j / 3) + 2 = omega (arith, x, y) in
          rw z (state_new q new i (omega (arith, counted)) (rw (entity_is i k) (own_named i k))
          ∙ rw (entity_is i k) (sym (record_word new (length new) i 2 (omega (arith, e)) (omega arith))))

-- ---- the calls

-- what a call leaves, seen through F
left_through : {A B : Type 0} (F : A → B) (c : Climbed) (old : A) (g : Header → B) (k : Header → A)
    → ((h : Header) → c ≡ Ok h → g h ≡ F (k h)) → left c (F old) g ≡ F (left c old k)
unfolding by
left_through F (Ok h) old g k e = e h refl
left_through F (Err r) old g k e = refl

module _ (s : List ℤ) (t : LentFacts) (st : List ℤ) where
  -- as many states as entities: then the records' length is right, all that is read is there, and 8 is what it was
  record Same (h : Header) : Type 0 where
    lent : states_lent h (one_each st) ≡ true
    each : length st ≡ h.entities
    there : (e : ℕ) → e < h.entities → has (one_each st) e ≡ true
    fault : records_fault s h (one_records st) ≡ states_fault s h st

  same : (h : Header) → Accepted s h → matches st h.entities ≡ true → Same h
  same h a p =
      let each = eqb-true (length st) h.entities p in
      record {
        lent = lent_is st h a.sized.limits.entities ∙ p;
        each = each;
        there = λ e l. has_each st e (omega (arith, each));
        fault = fault_is st s h each;
      }

  -- otherwise the length is wrong in both forms
  other : (h : Header) → Accepted s h → matches st h.entities ≡ false → states_lent h (one_each st) ≡ false
  other h a p = lent_is st h a.sized.limits.entities ∙ p

  module _ (p o w : ℤ) where
    abbrev moved : Header → List ℤ
    moved h = attempted_states_over s h t (gathered h (one_each st)) (num p) (num o) (wanted_of w)

    operate_rungs_lem : (h : Header) → Accepted s h → operate_rungs s t (one_each st) p o w h ≡ one_operate_rungs s t st p o w h
    unfolding operate_rungs one_operate_rungs
    operate_rungs_lem h a =
        ⊎_elim
        (λ m. let e = same h a m in rw (e.lent, m, covers_all a (has (one_each st)) e.there (num o), e.fault, and_yes, and_yes))
        (λ m. no_length _ _ _ (rw (other h a m) (and_no (facts_lent s h t))) ∙ sym (no_length _ _ _ (rw m (and_no (facts_lent s h t)))))
        (bool_cases (matches st h.entities))

    operate_climb_lem : operate_climb s t (one_each st) p o w ≡ one_operate_climb s t st p o w
    operate_climb_lem = climb_same (opened s) _ _ (λ h e. operate_rungs_lem h (opened_at s refl e).sheet)

    -- past the ladder there are as many states as entities
    module _ {h : Header} (e : one_operate_climb s t st p o w ≡ Ok h) where
      operate_at : operate_climb s t (one_each st) p o w ≡ Ok h
      operate_at = operate_climb_lem ∙ e

      operate_each : length st ≡ h.entities
      unfolding one_operate_rungs
      operate_each =
          let l = (passed (climbed_at (opened s) (one_operate_rungs s t st p o w) refl e).clear).lengths in
          eqb-true (length st) h.entities (and_right (facts_lent s h t) (matches st h.entities) l)

      operate_long : length (moved h) ≡ h.entities
      operate_long = (attempted_in (attemptable (asked s t (one_each st) p o w refl operate_at) refl refl) (wanted_of w)).long

      operate_left : scattered (one_each st) (moved h)
          ≡ one_records (attempted_states_over s h t st (num p) (num o) (wanted_of w))
      operate_left =
          scattered_is st _ (operate_long ∙ sym operate_each)
          ∙ ap (λ (z : List ℤ). one_records (attempted_states_over s h t z (num p) (num o) (wanted_of w))) (gathered_is st s h operate_each)

    pub one_operates : (operate_answer s t (one_each st) p o w ≡ one_operate_answer s t st p o w)
        × (operate_states s t (one_each st) p o w ≡ one_records (one_operate_states s t st p o w))
    one_operates = (
      ap (λ (c : Climbed). by c Err (λ h. attempted_over s h t (gathered h (one_each st)) (num p) (num o) (wanted_of w))) operate_climb_lem
          ∙ by_same (one_operate_climb s t st p o w) Err _ _ (λ h e. rw (gathered_is st s h (operate_each e))),
      ap (λ (c : Climbed). left c (one_records st) (λ h. scattered (one_each st) (moved h))) operate_climb_lem
          ∙ left_through one_records (one_operate_climb s t st p o w) st _ _ (λ h e. operate_left e),
    )

  module _ (f : ℤ) (words : List ℤ) (b : List ℕ) where
    abbrev gone : Header → List ℤ
    gone h = ran_states_over s h t (gathered h (one_each st)) (num f) words

    run_rungs_lem : (h : Header) → Accepted s h → run_rungs s t (one_each st) f words (length b) h ≡ one_run_rungs s t st f words (length b) h
    unfolding run_rungs one_run_rungs
    run_rungs_lem h a =
        ⊎_elim
        (λ m. let e = same h a m in rw (e.lent, m, flow_covers_all a (has (one_each st)) e.there (num f), e.fault, and_yes, and_yes))
        (λ m. no_length _ _ _ (rw (other h a m, and_no)) ∙ sym (no_length _ _ _ (rw (m, and_no))))
        (bool_cases (matches st h.entities))

    run_climb_lem : run_climb s t (one_each st) f words (length b) ≡ one_run_climb s t st f words (length b)
    run_climb_lem = climb_same (opened s) _ _ (λ h e. run_rungs_lem h (opened_at s refl e).sheet)

    module _ {h : Header} (e : one_run_climb s t st f words (length b) ≡ Ok h) where
      run_at : run_climb s t (one_each st) f words (length b) ≡ Ok h
      run_at = run_climb_lem ∙ e

      run_each : length st ≡ h.entities
      run_each =
          sym (length_grown (λ _ _. pos 0) (pos 0) (length st))
          ∙ (lent_whole h (one_each st) (going_lengths s t (one_each st) f words b refl run_at).states).long

      run_long : length (gone h) ≡ h.entities
      run_long = (run_states_in (runnable (going s t (one_each st) f words b refl run_at) refl refl) words).long

      run_left : scattered (one_each st) (gone h)
          ≡ one_records (ran_states_over s h t st (num f) words)
      run_left =
          scattered_is st _ (run_long ∙ sym run_each)
          ∙ ap (λ (z : List ℤ). one_records (ran_states_over s h t z (num f) words)) (gathered_is st s h run_each)

    pub one_runs : (run_answer s t (one_each st) f words b ≡ one_run_answer s t st f words b)
        × (run_path s t (one_each st) f words b ≡ one_run_path s t st f words b)
        × (run_states s t (one_each st) f words b ≡ one_records (one_run_states s t st f words b))
    one_runs = (
      ap (λ (c : Climbed). by c Err (λ h. ran_walk_over s h t (gathered h (one_each st)) (num f) words)) run_climb_lem
          ∙ by_same (one_run_climb s t st f words (length b)) Err _ _ (λ h e. rw (gathered_is st s h (run_each e))),
      ap (λ (c : Climbed). left c b (λ h. ran_path_over s h t (gathered h (one_each st)) (num f) words b)) run_climb_lem
          ∙ by_same (one_run_climb s t st f words (length b)) _ _ _ (λ h e. rw (gathered_is st s h (run_each e))),
      ap (λ (c : Climbed). left c (one_records st) (λ h. scattered (one_each st) (gone h))) run_climb_lem
          ∙ left_through one_records (one_run_climb s t st f words (length b)) st _ _ (λ h e. run_left e),
    )
