-- What operate and run do to the lent records: only named instances move, and only those of touched entities; only these are read.
-- Assumes nothing.
use Rattle.std.specs.Prelude.{Ok, Err}
use mathlib.Core.Path.{◌≡◌, refl, sym, subst, ap, ◌∙◌}
use mathlib.Core.Bool.{true, false}
use mathlib.Core.List.{List}
use mathlib.Core.Logic.{◌⊎◌, inl, inr}
use Prim.Native.Nat.{ℕ, ◌+◌, ◌<◌}
use native.Mathlib.Omega.{arith}
use lib.IntN.{ℤ, pos}
use lib.ListN.{length, get_or}
use borrow.Author.Tests.{ltb-true, eqb-true}
use Rattle.signed.specs.Words.{num}
use Rattle.tables.proofs.Bools.{true_false, bool_cases, mid_no, tests}
use Rattle.tables.proofs.Scans.{any_of}
use Rattle.layout.specs.declared.Header.{Header}
use Rattle.layout.specs.Header.{header_of}
use Rattle.layout.specs.Tables.{effect, step, entity_of}
use Rattle.records.specs.Accepted.{Accepted}
use Rattle.records.proofs.OperationLaws.{operation_ok, effect_ok}
use Rattle.records.proofs.FlowLaws.{flow_ok}
use Rattle.facts.specs.Lent.{LentFacts}
use Rattle.operation.specs.Outcomes.{wanted_of, of_operation}
use Rattle.operation.specs.Inner.{Agree, Untouched}
use Rattle.instances.specs.Records.{LentStates, lent_states, count, entity_at, state_at, states_lent}
use Rattle.instances.specs.Named.{gathered, scattered, has, covers}
use Rattle.instances.proofs.Gathering.{gathered_at}
use Rattle.instances.proofs.Covering.{covers_on}
use Rattle.instances.proofs.Scattering.{scattered_length, entity_kept, instance_kept, state_kept}
use Rattle.instances.proofs.Reading.{held_same, has_same, scattered_agree}
use Rattle.attempt.proofs.AttemptUntouched.{attempted_agree, attempted_states_agree, attempted_untouched}
use Rattle.run.proofs.RunUntouched.{ran_agree, ran_states_agree, ran_untouched}
use Rattle.run.specs.Runs.{performs, operation_at, flow_covers}
use Rattle.run.specs.Inner.{FlowAgree, FlowUntouched}
use Rattle.run.proofs.Wants.{operation_there}
use Rattle.run.proofs.Coverage.{flow_covers_on}
use Rattle.walks.specs.Paths.{first_step_of, steps_of}
use Rattle.ladder.specs.Ladder.{Climbed, opened, by, left, exists}
use Rattle.ladder.proofs.ClimbLaws.{Open, opened_at, by_all, climb_same, by_same}
use Rattle.calls.specs.Evaluation.{wanted_exists, operate_rungs, operate_climb, attempted_over, attempted_states_over, operate_answer, operate_states}
use Rattle.calls.specs.Flows.{run_rungs, run_climb, ran_walk_over, ran_path_over, ran_states_over, run_answer, run_path, run_states}
use Rattle.evaluate.proofs.EvaluateLaws.{operation_exists, asked, asked_records}
use Rattle.flows.proofs.FlowCallLaws.{going, going_records}
use Rattle.fernpocket.specs.Promised.{OnlyNamed, touches, step_touches, flow_touches, SameRead}
use Rattle.fernpocket.proofs.Covered.{climb_header, each_way}

-- ---- only named instances move

lent_only : (q : LentStates) → OnlyNamed q q.records
lent_only q = record { long = refl; entities = λ i. refl; instances = λ i. refl; others = λ i x. refl }

scattered_only : (q : LentStates) (st : List ℤ) → OnlyNamed q (scattered q st)
scattered_only q st =
    record {
      long = scattered_length q st;
      entities = entity_kept q st;
      instances = instance_kept q st;
      others = state_kept q st;
    }

pub operate_named : (s : List ℤ) (lent : LentFacts) (q : LentStates) (p o w : ℤ) → OnlyNamed q (operate_states s lent q p o w)
operate_named s lent q p o w = by_all (OnlyNamed q) (operate_climb s lent q p o w) _ _ (λ r e. lent_only q) (λ h e. scattered_only q _)

pub run_named : (s : List ℤ) (lent : LentFacts) (q : LentStates) (f : ℤ) (words : List ℤ) (b : List ℕ) → OnlyNamed q (run_states s lent q f words b)
run_named s lent q f words b =
    by_all (OnlyNamed q) (run_climb s lent q f words (length b)) _ _ (λ r e. lent_only q) (λ h e. scattered_only q _)

-- ---- and only those of touched entities

-- the entity of each effect of an operation is touched
touched_by : {s : List ℤ} {h : Header} → Accepted s h → (o : ℕ) → o < h.operations → (e : ℕ) → of_operation s h o e ≡ true
    → touches s h o (entity_of (effect s h e)) ≡ true
unfolding touches of_operation
touched_by {s} {h} a o k e p =
    let r = simp tests at p in
    any_of _ h.effects e (omega (arith, r.1, (operation_ok a o k).end)) (simp tests (r, refl))

not_touched : {s : List ℤ} {h : Header} → Accepted s h → (o : ℕ) → o < h.operations → (n : ℕ) → touches s h o n ≡ false → Untouched s h o n
not_touched a o k n x e of names = true_false (rw names at (touched_by a o k e of)) x

-- and exists
entity_there : {s : List ℤ} {h : Header} → Accepted s h → (o : ℕ) → o < h.operations → (e : ℕ) → of_operation s h o e ≡ true
    → entity_of (effect s h e) < h.entities
unfolding of_operation
entity_there a o k e p = let r = simp tests at p in (effect_ok a o k e (record { low = r.0; high = r.1 })).change.entity

module _ {s : List ℤ} {h : Header} (a : Accepted s h) (f : ℕ) (l : f < h.flows) (k : ℕ) (m : k < steps_of s h f)
    (t : performs s h (first_step_of s h f + k) ≡ true) where
  -- the operation of a step exists
  step_operation : operation_at s h (first_step_of s h f + k) < h.operations
  step_operation =
      operation_there s h (first_step_of s h f + k) a (omega (arith, (flow_ok s h a f l).inside)) (step s h (first_step_of s h f + k)).w0 refl
      (eqb-true _ 0 t)

  flow_touched_by : (e : ℕ) → of_operation s h (operation_at s h (first_step_of s h f + k)) e ≡ true → flow_touches s h f (entity_of (effect s h e)) ≡ true
  unfolding flow_touches step_touches
  flow_touched_by e p = any_of _ (steps_of s h f) k m (rw t (touched_by a (operation_at s h (first_step_of s h f + k)) step_operation e p))

flow_not_touched : {s : List ℤ} {h : Header} → Accepted s h → (f : ℕ) → f < h.flows → (n : ℕ) → flow_touches s h f n ≡ false
    → FlowUntouched s h f n
flow_not_touched a f l n x k m t e of names = true_false (rw names at (flow_touched_by a f l k m t e of)) x

pub operate_passes : (s : List ℤ) (lent : LentFacts) (q : LentStates) (p o w : ℤ) (i : ℕ) → i < count q.records
    → touches s (header_of s) (num o) (entity_at q.records i) ≡ false → state_at (operate_states s lent q p o w) i ≡ state_at q.records i
operate_passes s lent q p o w i l x =
    each_way s q (operate_climb s lent q p o w) _ (λ a b. b ≡ a) (λ a. refl) (λ h e. asked_records s lent q p o w refl e) i l
    (λ h e m.
    let z = climb_header s (operate_rungs s lent q p o w) e in
    let k = asked s lent q p o w refl e in
    attempted_untouched s h (num o) (entity_at q.records i) _ (not_touched k.known.sheet (num o) k.operation _ (rw z at x)) m _ _ (num p)
    (wanted_of w))

pub run_passes : (s : List ℤ) (lent : LentFacts) (q : LentStates) (f : ℤ) (words : List ℤ) (b : List ℕ) (i : ℕ) → i < count q.records
    → flow_touches s (header_of s) (num f) (entity_at q.records i) ≡ false → state_at (run_states s lent q f words b) i ≡ state_at q.records i
run_passes s lent q f words b i l x =
    each_way s q (run_climb s lent q f words (length b)) _ (λ a b. b ≡ a) (λ a. refl) (λ h e. going_records s lent q f words b refl e) i l
    (λ h e m.
    let z = climb_header s (run_rungs s lent q f words (length b)) e in
    let g = going s lent q f words b refl e in
    ran_untouched g.known.sheet g.lent.flow _ _ (entity_at q.records i) _
    (flow_not_touched g.known.sheet (num f) g.lent.flow _ (rw z at x)) m words)

-- ---- and only these are read

-- the same states are gathered of the entities whose instances are the same
gathered_same : (h : Header) (rs x y : List ℤ) (n : ℕ) → n < h.entities → get_or x n (pos 0) ≡ get_or y n (pos 0)
    → get_or (gathered h (lent_states rs x)) n (pos 0) ≡ get_or (gathered h (lent_states rs y)) n (pos 0)
gathered_same h rs x y n l e =
    gathered_at h (lent_states rs x) n l ∙ held_same rs x y n e (count rs) ∙ sym (gathered_at h (lent_states rs y) n l)

module _ (s : List ℤ) (lent : LentFacts) (rs x y : List ℤ) (long : length x ≡ length y) where
  abbrev one : LentStates
  one = lent_states rs x

  abbrev other : LentStates
  other = lent_states rs y

  lent_same : (h : Header) → states_lent h one ≡ states_lent h other
  unfolding states_lent
  lent_same h = rw long

  module _ (p o w : ℤ) (same : (n : ℕ) → touches s (header_of s) (num o) n ≡ true → get_or x n (pos 0) ≡ get_or y n (pos 0)) where
    module _ {h : Header} (z : header_of s ≡ h) (a : Accepted s h) (k : num o < h.operations) where
      same_at : (n : ℕ) → touches s h (num o) n ≡ true → get_or x n (pos 0) ≡ get_or y n (pos 0)
      same_at = subst (λ (g : Header). (n : ℕ) → touches s g (num o) n ≡ true → get_or x n (pos 0) ≡ get_or y n (pos 0)) z same

      operate_covers : covers s h (has one) (num o) ≡ covers s h (has other) (num o)
      operate_covers = covers_on s h (has one) (has other) (num o) (λ e l t. has_same rs x y _ (same_at _ (touched_by a (num o) k e t)))

      operate_agree : Agree s h (num o) (gathered h one) (gathered h other)
      operate_agree e t = gathered_same h rs x y _ (entity_there a (num o) k e t) (same_at _ (touched_by a (num o) k e t))

    same_rungs : (h : Header) → states_lent h one ≡ states_lent h other → covers s h (has one) (num o) ≡ covers s h (has other) (num o)
        → operate_rungs s lent one p o w h ≡ operate_rungs s lent other p o w h
    unfolding operate_rungs
    same_rungs h l c = rw (l, c)

    -- where there is no such operation, nothing that it reads is judged
    unnamed_rungs : (h : Header) → states_lent h one ≡ states_lent h other → wanted_exists s h o w ≡ false
        → operate_rungs s lent one p o w h ≡ operate_rungs s lent other p o w h
    unfolding operate_rungs
    unnamed_rungs h l m =
        rw (l, m, mid_no (exists p h.personas) (covers s h (has one) (num o)), mid_no (exists p h.personas) (covers s h (has other) (num o)))

    operate_climbs : operate_climb s lent one p o w ≡ operate_climb s lent other p o w
    operate_climbs = climb_same (opened s) _ _ (λ h e. go h (opened_at s refl e) (bool_cases (wanted_exists s h o w)))
      where
        go : (h : Header) → Open s h → (wanted_exists s h o w ≡ true) ⊎ (wanted_exists s h o w ≡ false)
            → operate_rungs s lent one p o w h ≡ operate_rungs s lent other p o w h
        go h r (inl m) = same_rungs h (lent_same h) (operate_covers r.header r.sheet (operation_exists s h o w m))
        go h r (inr m) = unnamed_rungs h (lent_same h) m

    reads : (operate_answer s lent one p o w ≡ operate_answer s lent other p o w) × (operate_states s lent one p o w ≡ operate_states s lent other p o w)
    reads = (
      ap (λ (c : Climbed). by c Err (λ h. attempted_over s h lent (gathered h one) (num p) (num o) (wanted_of w))) operate_climbs
          ∙ by_same (operate_climb s lent other p o w) Err _ _
          (λ h e. let k = asked s lent other p o w refl e in
          attempted_agree s h (num o) (gathered h one) (gathered h other)
          (operate_agree (climb_header s _ e) k.known.sheet k.operation) _ _ (num p) (wanted_of w)),
      ap (λ (c : Climbed). left c rs (λ h. scattered one (attempted_states_over s h lent (gathered h one) (num p) (num o) (wanted_of w)))) operate_climbs
          ∙ by_same (operate_climb s lent other p o w) _ _ _ (λ h e. left_same h e),
    )
      where
        left_same : (h : Header) → operate_climb s lent other p o w ≡ Ok h
            → scattered one (attempted_states_over s h lent (gathered h one) (num p) (num o) (wanted_of w))
            ≡ scattered other (attempted_states_over s h lent (gathered h other) (num p) (num o) (wanted_of w))
        left_same h e =
            let k = asked s lent other p o w refl e in
            let z = climb_header s (operate_rungs s lent other p o w) e in
            let a = k.known.sheet in
            scattered_agree rs x y s h (asked_records s lent other p o w refl e) (touches s h (num o)) (same_at z a k.operation) _ _
            (λ n l t. attempted_states_agree s h (num o) (gathered h one) (gathered h other) (operate_agree z a k.operation) _ _ (num p)
            (wanted_of w) n l (gathered_same h rs x y n l (same_at z a k.operation n t)))
            (λ n l t. attempted_untouched s h (num o) n _ (not_touched a (num o) k.operation n t) l _ _ (num p) (wanted_of w))
            (λ n l t. attempted_untouched s h (num o) n _ (not_touched a (num o) k.operation n t) l _ _ (num p) (wanted_of w))

  module _ (f : ℤ) (words : List ℤ) (b : List ℕ)
      (same : (n : ℕ) → flow_touches s (header_of s) (num f) n ≡ true → get_or x n (pos 0) ≡ get_or y n (pos 0)) where
    module _ {h : Header} (z : header_of s ≡ h) (a : Accepted s h) (k : num f < h.flows) where
      flow_same_at : (n : ℕ) → flow_touches s h (num f) n ≡ true → get_or x n (pos 0) ≡ get_or y n (pos 0)
      flow_same_at = subst (λ (g : Header). (n : ℕ) → flow_touches s g (num f) n ≡ true → get_or x n (pos 0) ≡ get_or y n (pos 0)) z same

      run_covers : flow_covers s h (has one) (num f) ≡ flow_covers s h (has other) (num f)
      run_covers =
          flow_covers_on s h (has one) (has other) (num f)
          (λ i m t e l c. has_same rs x y _ (flow_same_at _ (flow_touched_by a (num f) k i m t e c)))

      run_agree : FlowAgree s h (num f) (gathered h one) (gathered h other)
      run_agree i m t e c =
          gathered_same h rs x y _ (entity_there a _ (step_operation a (num f) k i m t) e c)
          (flow_same_at _ (flow_touched_by a (num f) k i m t e c))

    run_rungs_lem : (h : Header) → states_lent h one ≡ states_lent h other → flow_covers s h (has one) (num f) ≡ flow_covers s h (has other) (num f)
        → run_rungs s lent one f words (length b) h ≡ run_rungs s lent other f words (length b) h
    unfolding run_rungs
    run_rungs_lem h l c = rw (l, c)

    no_flow_rungs : (h : Header) → states_lent h one ≡ states_lent h other → exists f h.flows ≡ false
        → run_rungs s lent one f words (length b) h ≡ run_rungs s lent other f words (length b) h
    unfolding run_rungs
    no_flow_rungs h l m = rw (l, m)

    run_climbs : run_climb s lent one f words (length b) ≡ run_climb s lent other f words (length b)
    run_climbs = climb_same (opened s) _ _ (λ h e. go h (opened_at s refl e) (bool_cases (exists f h.flows)))
      where
        go : (h : Header) → Open s h → (exists f h.flows ≡ true) ⊎ (exists f h.flows ≡ false)
            → run_rungs s lent one f words (length b) h ≡ run_rungs s lent other f words (length b) h
        go h r (inl m) = run_rungs_lem h (lent_same h) (run_covers r.header r.sheet (ltb-true _ _ m))
        go h r (inr m) = no_flow_rungs h (lent_same h) m

    flow_reads : (run_answer s lent one f words b ≡ run_answer s lent other f words b) × (run_path s lent one f words b ≡ run_path s lent other f words b)
        × (run_states s lent one f words b ≡ run_states s lent other f words b)
    flow_reads = (
      ap (λ (c : Climbed). by c Err (λ h. ran_walk_over s h lent (gathered h one) (num f) words)) run_climbs
          ∙ by_same (run_climb s lent other f words (length b)) Err _ _ (λ h e. (ran h e).0),
      ap (λ (c : Climbed). left c b (λ h. ran_path_over s h lent (gathered h one) (num f) words b)) run_climbs
          ∙ by_same (run_climb s lent other f words (length b)) _ _ _ (λ h e. (ran h e).1 b),
      ap (λ (c : Climbed). left c rs (λ h. scattered one (ran_states_over s h lent (gathered h one) (num f) words))) run_climbs
          ∙ by_same (run_climb s lent other f words (length b)) _ _ _ (λ h e. left_same h e),
    )
      where
        ran : (h : Header) → run_climb s lent other f words (length b) ≡ Ok h
            → (ran_walk_over s h lent (gathered h one) (num f) words ≡ ran_walk_over s h lent (gathered h other) (num f) words)
            × ((c : List ℕ) → ran_path_over s h lent (gathered h one) (num f) words c ≡ ran_path_over s h lent (gathered h other) (num f) words c)
        ran h e =
            let g = going s lent other f words b refl e in
            let z = climb_header s (run_rungs s lent other f words (length b)) e in
            ran_agree g.known.sheet g.lent.flow _ _ (gathered h one) (gathered h other) (run_agree z g.known.sheet g.lent.flow) words

        left_same : (h : Header) → run_climb s lent other f words (length b) ≡ Ok h
            → scattered one (ran_states_over s h lent (gathered h one) (num f) words)
            ≡ scattered other (ran_states_over s h lent (gathered h other) (num f) words)
        left_same h e =
            let g = going s lent other f words b refl e in
            let z = climb_header s (run_rungs s lent other f words (length b)) e in
            let a = g.known.sheet in
            let k = g.lent.flow in
            scattered_agree rs x y s h (going_records s lent other f words b refl e) (flow_touches s h (num f)) (flow_same_at z a k) _ _
            (λ n l t. ran_states_agree a k _ _ (gathered h one) (gathered h other) (run_agree z a k) words n l
            (gathered_same h rs x y n l (flow_same_at z a k n t)))
            (λ n l t. ran_untouched a k _ _ n _ (flow_not_touched a (num f) k n t) l words)
            (λ n l t. ran_untouched a k _ _ n _ (flow_not_touched a (num f) k n t) l words)

pub operate_reads : (s : List ℤ) (lent : LentFacts) (a b : LentStates) (p o w : ℤ) → SameRead (touches s (header_of s) (num o)) a b
    → (operate_answer s lent a p o w ≡ operate_answer s lent b p o w) × (operate_states s lent a p o w ≡ operate_states s lent b p o w)
operate_reads s lent a b p o w r =
    subst
    (λ (rs : List ℤ). (operate_answer s lent a p o w ≡ operate_answer s lent (lent_states rs b.instances) p o w)
    × (operate_states s lent a p o w ≡ operate_states s lent (lent_states rs b.instances) p o w))
    r.records (reads s lent a.records a.instances b.instances r.long p o w r.each)

pub run_reads : (s : List ℤ) (lent : LentFacts) (a b : LentStates) (f : ℤ) (words : List ℤ) (c : List ℕ)
    → SameRead (flow_touches s (header_of s) (num f)) a b
    → (run_answer s lent a f words c ≡ run_answer s lent b f words c) × (run_path s lent a f words c ≡ run_path s lent b f words c)
    × (run_states s lent a f words c ≡ run_states s lent b f words c)
run_reads s lent a b f words c r =
    subst
    (λ (rs : List ℤ). (run_answer s lent a f words c ≡ run_answer s lent (lent_states rs b.instances) f words c)
    × (run_path s lent a f words c ≡ run_path s lent (lent_states rs b.instances) f words c)
    × (run_states s lent a f words c ≡ run_states s lent (lent_states rs b.instances) f words c))
    r.records (flow_reads s lent a.records a.instances b.instances r.long f words c r.each)
