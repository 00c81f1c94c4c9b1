-- A run neither reads nor writes the state of an entity that no operation of its flow's steps names.
-- Assumes nothing.
use mathlib.Core.Path.{◌≡◌, refl, sym, ap, ap₂, subst, ◌∙◌}
use mathlib.Core.Bool.{Bool, true, false}
use mathlib.Core.List.{List, [], ◌∷◌, ◌++◌}
use mathlib.Core.Logic.{⊎_elim}
use Prim.Native.Nat.{ℕ, zero, suc, ◌+◌, ◌-◌, ◌<◌}
use lib.IntN.{ℤ, pos}
use lib.ListN.{get_or, replicate, length-replicate}
use native.Mathlib.Omega.{arith}
use borrow.Author.Tests.{eqb-true}
use Rattle.tables.proofs.Bools.{tests, bool_cases}
use Rattle.layout.specs.declared.Header.{Header}
use Rattle.layout.specs.Tables.{effect, step}
use Rattle.node.specs.FactValues.{FactValue}
use Rattle.records.specs.Accepted.{Accepted}
use Rattle.records.proofs.FlowLaws.{flow_ok}
use Rattle.records.proofs.OperationLaws.{effect_ok}
use Rattle.std.specs.Prelude.{Option}
use Rattle.operation.specs.Outcomes.{of_operation}
use Rattle.operation.specs.Inner.{Agree, Untouched}
use Rattle.attempt.proofs.AttemptUntouched.{attempted_agree, attempted_states_agree, attempted_untouched}
use Rattle.walks.specs.declared.Walker.{Walker}
use Rattle.walks.specs.Paths.{first_step_of, steps_of}
use Rattle.walks.specs.Walkers.{taken, arrived}
use Rattle.walks.specs.Follows.{laid}
use Rattle.walks.specs.Inner.{Lent}
use Rattle.walks.proofs.Trails.{Trail, begun as set_out, went, trail_in}
use Rattle.run.specs.Runs.{performs, operation_at, persona_at, wanted_at, route_taken, states_then, Running, begun, stepped, run_on, ran, ran_walk, ran_path, ran_states}
use Rattle.run.specs.Inner.{EachOperation, FlowAgree, FlowUntouched}
use Rattle.run.proofs.StepLaws.{operation_route, operation_states, branch_takes, branch_states, route_of}
use Rattle.run.proofs.RunPaths.{run_stops, run_steps}
use Rattle.run.proofs.Wants.{operation_there}

-- ---- one step

module _ (s : List ℤ) (h : Header) (facts : List FactValue) (verdicts : List ℤ) (i : ℕ) (d : Option ℕ) where
  module _ (a b : List ℤ) (k : performs s h i ≡ true → Agree s h (operation_at s h i) a b) where
    route_agree : route_taken s h facts verdicts a i d ≡ route_taken s h facts verdicts b i d
    route_agree =
        ⊎_elim (λ t. rw (
          operation_route s h facts verdicts a i d t,
          operation_route s h facts verdicts b i d t,
          attempted_agree s h (operation_at s h i) a b (k t) facts verdicts (persona_at s h i) d,
        ))
        (λ e. rw (branch_takes s h facts verdicts a i d e, branch_takes s h facts verdicts b i d e)) (bool_cases (performs s h i))

    states_agree : (n : ℕ) → n < h.entities → get_or a n (pos 0) ≡ get_or b n (pos 0)
        → get_or (states_then s h facts verdicts a i d) n (pos 0) ≡ get_or (states_then s h facts verdicts b i d) n (pos 0)
    states_agree n l q =
        ⊎_elim (λ t. rw (operation_states s h facts verdicts a i d t, operation_states s h facts verdicts b i d t)
        (attempted_states_agree s h (operation_at s h i) a b (k t) facts verdicts (persona_at s h i) d n l q))
        (λ e. rw (branch_states s h facts verdicts a i d e, branch_states s h facts verdicts b i d e) q) (bool_cases (performs s h i))

  states_untouched : (n : ℕ) (a : List ℤ) → (performs s h i ≡ true → Untouched s h (operation_at s h i) n) → n < h.entities
      → get_or (states_then s h facts verdicts a i d) n (pos 0) ≡ get_or a n (pos 0)
  states_untouched n a u l =
      ⊎_elim (λ t. rw (operation_states s h facts verdicts a i d t)
      (attempted_untouched s h (operation_at s h i) n a (u t) l facts verdicts (persona_at s h i) d))
      (λ e. rw (branch_states s h facts verdicts a i d e)) (bool_cases (performs s h i))

-- ---- the steps of a flow

module _ {s : List ℤ} {h : Header} (w : Accepted s h) {f : ℕ} (l : f < h.flows) where
  lent : Lent s h f (replicate (steps_of s h f) 0)
  lent = record { sheet = w; flow = l; room = omega (arith, length-replicate {A = ℕ} (steps_of s h f) 0) }

  module _ {p : List ℕ} {v : Walker} (g : Trail s h f p v) (e : v.finished ≡ false) where
    in_table : v.step < h.steps
    in_table = omega (arith, (trail_in lent g e).1, (flow_ok s h w f l).inside)

    -- what holds of each operation of the flow holds of the one where the walker stands
    at_step : (P : ℕ → Type 0) → EachOperation s h f P → performs s h v.step ≡ true → P (operation_at s h v.step)
    at_step P each =
        let z = trail_in lent g e in
        let k = v.step - first_step_of s h f in
        let same : first_step_of s h f + k ≡ v.step = omega arith in
        subst (λ (i : ℕ). performs s h i ≡ true → P (operation_at s h i)) same (each k (omega arith))

    -- an entity that its operation names exists
    entity_there : performs s h v.step ≡ true → (c : ℕ) → of_operation s h (operation_at s h v.step) c ≡ true → (effect s h c).w0 < h.entities
    unfolding of_operation
    entity_there t c p =
        let o = operation_there s h v.step w in_table (step s h v.step).w0 refl (eqb-true (step s h v.step).w0 0 t) in
        let q = simp tests at p in
        (effect_ok w (operation_at s h v.step) o c (record { low = q.0; high = q.1 })).change.entity

-- ---- a run

-- two runs that started with the states a and b: they have taken the same routes, and an entity whose states were the same has the same now
record Alike (h : Header) (a b : List ℤ) (t u : Running) : Type 0 where
  walker : t.walker ≡ u.walker
  path : t.path ≡ u.path
  each : (n : ℕ) → n < h.entities → get_or a n (pos 0) ≡ get_or b n (pos 0) → get_or t.states n (pos 0) ≡ get_or u.states n (pos 0)

module _ {s : List ℤ} {h : Header} (w : Accepted s h) {f : ℕ} (l : f < h.flows) (facts : List FactValue) (verdicts : List ℤ) where
  module _ (wants : ℕ → Option ℕ) where
    trail_stepped : (t : Running) → Trail s h f t.path t.walker → t.walker.finished ≡ false
        → Trail s h f (stepped s h facts verdicts wants t).path (stepped s h facts verdicts wants t).walker
    unfolding stepped
    trail_stepped t g e =
        let i = t.walker.step in
        went g e (route_taken s h facts verdicts t.states i (wants i)) (route_of w i (in_table w l g e) facts verdicts t.states (wants i))

    module _ (a b : List ℤ) (k : FlowAgree s h f a b) where
      alike_stepped : (t u : Running) → Trail s h f t.path t.walker → t.walker.finished ≡ false → Alike h a b t u
          → Alike h a b (stepped s h facts verdicts wants t) (stepped s h facts verdicts wants u)
      unfolding stepped
      alike_stepped t u g e z =
          let i = t.walker.step in
          let agree : performs s h i ≡ true → Agree s h (operation_at s h i) t.states u.states =
          λ y c p. z.each (effect s h c).w0 (entity_there w l g e y c p) (at_step w l g e (λ (o : ℕ). Agree s h o a b) k y c p) in
          let route =
          route_agree s h facts verdicts i (wants i) t.states u.states agree
          ∙ ap (λ (v : Walker). route_taken s h facts verdicts u.states v.step (wants v.step)) z.walker in
          record {
            walker = ap₂ (taken s h) z.walker route;
            path = ap₂ (λ (p : List ℕ) (r : ℕ). p ++ r ∷ []) z.path route;
            each = λ n m q.
                states_agree s h facts verdicts i (wants i) t.states u.states agree n m (z.each n m q)
                ∙ ap (λ (v : Walker). get_or (states_then s h facts verdicts u.states v.step (wants v.step)) n (pos 0)) z.walker;
          }

      alike_run : (n : ℕ) (t u : Running) → Trail s h f t.path t.walker → Alike h a b t u
          → Alike h a b (run_on s h facts verdicts wants n t) (run_on s h facts verdicts wants n u)
      unfolding run_on
      alike_run zero t u g z = z
      alike_run (suc n) t u g z =
          let same : (x : Bool) → t.walker.finished ≡ x → u.walker.finished ≡ x = λ x e. sym (ap (λ (v : Walker). v.finished) z.walker) ∙ e in
          ⊎_elim (λ e. rw (run_stops s h facts verdicts wants t (suc n) e, run_stops s h facts verdicts wants u (suc n) (same true e)) z)
          (λ e. rw (run_steps s h facts verdicts wants t n e, run_steps s h facts verdicts wants u n (same false e))
          (alike_run n (stepped s h facts verdicts wants t) (stepped s h facts verdicts wants u) (trail_stepped t g e) (alike_stepped t u g e z)))
          (bool_cases t.walker.finished)

      ran_alike : Alike h a b (ran s h facts verdicts a f wants) (ran s h facts verdicts b f wants)
      unfolding ran begun
      ran_alike =
          alike_run (steps_of s h f) (begun s h f a) (begun s h f b) set_out (record { walker = refl; path = refl; each = λ n m q. q })

    stays : (n : ℕ) → FlowUntouched s h f n → n < h.entities → (m : ℕ) (t : Running) → Trail s h f t.path t.walker
        → get_or (run_on s h facts verdicts wants m t).states n (pos 0) ≡ get_or t.states n (pos 0)
    unfolding run_on stepped
    stays n k y zero t g = refl
    stays n k y (suc m) t g =
        ⊎_elim (λ e. rw (run_stops s h facts verdicts wants t (suc m) e))
        (λ e. rw (run_steps s h facts verdicts wants t m e)
        (stays n k y m (stepped s h facts verdicts wants t) (trail_stepped t g e)
        ∙ states_untouched s h facts verdicts t.walker.step (wants t.walker.step) n t.states
        (at_step w l g e (λ (o : ℕ). Untouched s h o n) k) y))
        (bool_cases t.walker.finished)

  module _ (a b : List ℤ) (k : FlowAgree s h f a b) (words : List ℤ) where
    -- the answer and the path are the same
    pub ran_agree : (ran_walk s h facts verdicts a f words ≡ ran_walk s h facts verdicts b f words)
        × ((buf : List ℕ) → ran_path s h facts verdicts a f words buf ≡ ran_path s h facts verdicts b f words buf)
    unfolding ran_walk ran_path
    ran_agree =
        let z = ran_alike (wanted_at s h f words) a b k in
        (ap arrived z.walker, λ buf. ap (λ (p : List ℕ). laid p buf) z.path)

    -- and an entity whose states are the same has the same state afterwards
    pub ran_states_agree : (n : ℕ) → n < h.entities → get_or a n (pos 0) ≡ get_or b n (pos 0)
        → get_or (ran_states s h facts verdicts a f words) n (pos 0) ≡ get_or (ran_states s h facts verdicts b f words) n (pos 0)
    unfolding ran_states
    ran_states_agree = (ran_alike (wanted_at s h f words) a b k).each

  -- an entity that no step's operation names stays
  pub ran_untouched : (n : ℕ) (a : List ℤ) → FlowUntouched s h f n → n < h.entities → (words : List ℤ)
      → get_or (ran_states s h facts verdicts a f words) n (pos 0) ≡ get_or a n (pos 0)
  unfolding ran_states ran begun
  ran_untouched n a k y words = stays (wanted_at s h f words) n k y (steps_of s h f) (begun s h f a) set_out
