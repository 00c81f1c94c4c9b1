-- A run takes the routes of one of the flow's paths and answers that path; its answer fits, and its states are among their entities' states.
-- Assumes nothing.
use mathlib.Core.Path.{◌≡◌, refl, ap}
use mathlib.Core.Bool.{Bool, true, false}
use mathlib.Core.List.{List}
use mathlib.Core.Logic.{⊎_elim}
use Prim.Native.Nat.{ℕ, zero, suc, ◌+◌, ◌≤◌, ◌<◌}
use lib.IntN.{ℤ}
use lib.ListN.{length, replicate, length-replicate}
use native.Mathlib.Omega.{arith}
use Rattle.tables.proofs.Bools.{bool_cases}
use Rattle.answer.specs.Inner.{Small}
use Rattle.layout.specs.declared.Header.{Header}
use Rattle.node.specs.FactValues.{FactValue}
use Rattle.std.specs.Prelude.{Option}
use Rattle.operation.specs.Inner.{StatesIn}
use Rattle.walks.specs.Paths.{steps_of}
use Rattle.walks.specs.Walkers.{taken}
use Rattle.walks.specs.Inner.{Lent}
use Rattle.walks.proofs.AllPaths.{path_small}
use Rattle.walks.proofs.Buffers.{length_laid}
use Rattle.walks.proofs.Walks.{going_room, going_step}
use Rattle.walks.proofs.Trails.{Trail, begun as set_out, went, trail_going, trail_is_path, trail_listed, trail_short, trail_arrives}
use Rattle.run.specs.Runs.{wanted_at, route_taken, Running, begun, stepped, run_on, ran, ran_walk, ran_path, ran_states}
use Rattle.run.specs.Inner.{Steppable, Runnable, Taken}
use Rattle.run.proofs.StepLaws.{route_of, states_then_in}

-- ---- a run by its steps

module _ (s : List ℤ) (h : Header) (facts : List FactValue) (verdicts : List ℤ) (wants : ℕ → Option ℕ) (t : Running) where
  pub run_stops : (n : ℕ) → t.walker.finished ≡ true → run_on s h facts verdicts wants n t ≡ t
  unfolding run_on
  run_stops zero e = refl
  run_stops (suc n) e = ap (λ (x : Bool). elim x [ true ↦ t | false ↦ run_on s h facts verdicts wants n (stepped s h facts verdicts wants t) ]) e

  pub run_steps : (n : ℕ) → t.walker.finished ≡ false
      → run_on s h facts verdicts wants (suc n) t ≡ run_on s h facts verdicts wants n (stepped s h facts verdicts wants t)
  unfolding run_on
  run_steps n e = ap (λ (x : Bool). elim x [ true ↦ t | false ↦ run_on s h facts verdicts wants n (stepped s h facts verdicts wants t) ]) e

-- ---- what holds all along

-- the routes taken lead from the flow's first step to where the run stands, and the states are among their entities' states
pub record Held (s : List ℤ) (h : Header) (f : ℕ) (t : Running) : Type 0 where
  pub trail : Trail s h f t.path t.walker
  pub valid : StatesIn s h t.states

module _ {s : List ℤ} {h : Header} {facts : List FactValue} {verdicts states : List ℤ} {f : ℕ} {b : List ℕ}
    (u : Runnable s h facts verdicts states f b) where
  pub held_begun : Held s h f (begun s h f states)
  unfolding begun
  held_begun = record { trail = set_out; valid = u.valid }

  -- a buffer exactly as long as the flow has steps would do
  exact : Lent s h f (replicate (steps_of s h f) 0)
  exact = record { sheet = u.lent.sheet; flow = u.lent.flow; room = omega (arith, length-replicate {A = ℕ} (steps_of s h f) 0) }

  module _ {t : Running} (k : Held s h f t) (e : t.walker.finished ≡ false) where
    -- so there is a step left
    pub held_room : t.walker.length < steps_of s h f
    held_room = omega (arith, going_room (trail_going exact k.trail) e, length-replicate {A = ℕ} (steps_of s h f) 0)

    pub held_step : Steppable s h facts verdicts t.walker.step
    held_step = record { accepted = u.lent.sheet; known = u.known; judged = u.judged; exists = going_step (trail_going u.lent k.trail) e }

    pub held_stepped : (wants : ℕ → Option ℕ) → Held s h f (stepped s h facts verdicts wants t)
    unfolding stepped
    held_stepped wants =
        record {
          trail =
              went k.trail e (route_taken s h facts verdicts t.states t.walker.step (wants t.walker.step))
              (route_of u.lent.sheet t.walker.step held_step.exists facts verdicts t.states (wants t.walker.step));
          valid = states_then_in held_step k.valid (wants t.walker.step);
        }

  module _ (wants : ℕ → Option ℕ) where
    -- a run that has steps enough is finished
    ends : (n : ℕ) (t : Running) → Held s h f t → steps_of s h f ≤ n + t.walker.length
        → Held s h f (run_on s h facts verdicts wants n t) × ((run_on s h facts verdicts wants n t).walker.finished ≡ true)
    unfolding run_on stepped taken
    ends zero t k l = ⊎_elim (λ e. (k, e)) (λ e. absurd (omega (arith, held_room k e))) (bool_cases t.walker.finished)
    ends (suc n) t k l =
        ⊎_elim (λ e. rw (run_stops s h facts verdicts wants t (suc n) e) (k, e))
        (λ e. rw (run_steps s h facts verdicts wants t n e) (ends n (stepped s h facts verdicts wants t) (held_stepped k e wants) (omega arith)))
        (bool_cases t.walker.finished)

    done : Held s h f (ran s h facts verdicts states f wants) × ((ran s h facts verdicts states f wants).walker.finished ≡ true)
    unfolding ran
    done = ends (steps_of s h f) (begun s h f states) held_begun (omega arith)

  -- any run takes the routes of one of the listed paths and answers that path, whatever is wanted
  module _ (words : List ℤ) where
    pub run_listed : Taken s h f (ran s h facts verdicts states f (wanted_at s h f words)) (ran_walk s h facts verdicts states f words)
    unfolding ran_walk
    run_listed =
        let z = done (wanted_at s h f words) in
        let t = z.0.trail in
        let e = z.1 in
        record { finished = e; listed = trail_listed u.lent t e; answers = trail_arrives t e; within = trail_short u.lent t e }

    -- its answer fits a signed word
    pub run_small : Small (λ x. (x.value, x.count)) (ran_walk s h facts verdicts states f words)
    run_small =
        let d = done (wanted_at s h f words) in
        let z =
        path_small s h u.lent.sheet f u.lent.flow (ran s h facts verdicts states f (wanted_at s h f words)).path
        (trail_is_path u.lent d.0.trail d.1) in
        rw run_listed.answers (omega arith, omega arith)

    -- the states afterwards are among their entities' states
    pub run_states_in : StatesIn s h (ran_states s h facts verdicts states f words)
    unfolding ran_states
    run_states_in = (done (wanted_at s h f words)).0.valid

    -- the buffer keeps its length
    pub run_path_long : length (ran_path s h facts verdicts states f words b) ≡ length b
    unfolding ran_path
    run_path_long =
        length_laid (ran s h facts verdicts states f (wanted_at s h f words)).path b (omega (arith, run_listed.within, u.lent.room))
