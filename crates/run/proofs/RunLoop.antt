-- The loop of `run`: the rest of the same run is still to come, until it is finished.
-- Assumes nothing.
use Rattle.answer.specs.Answers.{tallied}
use mathlib.Core.Path.{◌≡◌, refl, sym, ap, subst, ◌∙◌}
use mathlib.Core.Bool.{true, false, not}
use mathlib.Core.List.{List, ◌++◌}
use Prim.Native.Nat.{ℕ, suc, ◌+◌, ◌-◌, ◌≤◌, ◌<◌}
use lib.IntN.{ℤ, pos}
use lib.ListN.{length, get_or, take, set, replicate, length-set}
use lib.Seq.{take-suc-set, length-take-le}
use native.Mathlib.Numerals.{add-one}
use native.Mathlib.Omega.{arith}
use borrow.Author.Tests.{not-true, not-false}
use Rattle.layout.specs.declared.Header.{Header}
use Rattle.layout.specs.Tables.{flow}
use Rattle.node.specs.FactValues.{FactValue}
use Rattle.records.specs.Flows.{steps_end, flow_of}
use Rattle.records.proofs.FlowLaws.{flow_ok, flow_of_lem}
use Rattle.std.specs.Prelude.{Option}
use Rattle.operation.specs.Outcomes.{wanted_of}
use Rattle.operation.specs.Inner.{StatesIn}
use Rattle.walks.specs.declared.Walker.{Walker}
use Rattle.walks.specs.Paths.{first_step_of, steps_of}
use Rattle.walks.specs.Walkers.{started, taken}
use Rattle.walks.specs.Follows.{laid}
use Rattle.walks.proofs.Trails.{trail_going, trail_in}
use Rattle.walks.proofs.Walks.{going_room}
use Rattle.run.specs.Runs.{wanted_at, route_taken, states_then, Running, begun, stepped, run_on, ran, ran_walk, ran_path, ran_states}
use Rattle.run.specs.Inner.{Steppable, Runnable}
use Rattle.run.proofs.StepLaws.{route_of, routes_end_lem}
use Rattle.run.proofs.RunPaths.{Held, held_begun, held_room, held_step, held_stepped, run_stops, run_steps}

-- where the loop stands: the buffer's head has the routes taken
abbrev pub running : List ℤ → List ℕ → Walker → Running
running states path w = record { walker = w; path = take w.length path; states = states }

-- the run of flow f from states₀ with the buffer b has come to states, path and w, and the rest of it is still to come
pub record Ongoing (s : List ℤ) (h : Header) (facts : List FactValue) (verdicts states₀ : List ℤ) (f : ℕ) (words : List ℤ) (b : List ℕ)
    (states : List ℤ) (path : List ℕ) (w : Walker) : Type 0 where
  pub size : length path ≡ length b
  pub held : Held s h f (running states path w)
  pub rest :
      run_on s h facts verdicts (wanted_at s h f words) (steps_of s h f - w.length) (running states path w)
      ≡ ran s h facts verdicts states₀ f (wanted_at s h f words)

module _ {s : List ℤ} {h : Header} {facts : List FactValue} {verdicts states₀ : List ℤ} {f : ℕ} {b : List ℕ} {w₀ : Walker}
    (u : Runnable s h facts verdicts states₀ f b) (q₀ : w₀ ≡ started s h f) where
  -- the loop knows the flow by its first step
  its_flow : flow_of s h w₀.step ≡ f
  unfolding started
  its_flow =
      let l = u.lent.flow in
      rw q₀ (flow_of_lem s h u.lent.sheet f (flow s h f).w0 l (omega arith) (omega (arith, (flow_ok s h u.lent.sheet f l).some)))

  its_first : w₀.step ≡ first_step_of s h f
  unfolding started
  its_first = rw q₀

  pub run_none : (words : List ℤ) → Ongoing s h facts verdicts states₀ (flow_of s h w₀.step) words b states₀ b w₀
  unfolding started begun ran
  run_none words =
      let z : steps_of s h f - 0 ≡ steps_of s h f = omega arith in
      rw (its_flow, q₀)
      (record {
        size = refl;
        held = held_begun u;
        rest = ap (λ (n : ℕ). run_on s h facts verdicts (wanted_at s h f words) n (begun s h f states₀)) z;
      })

  module _ {words states : List ℤ} {path : List ℕ} {w : Walker}
      (g₀ : Ongoing s h facts verdicts states₀ (flow_of s h w₀.step) words b states path w) where
    abbrev wants : ℕ → Option ℕ
    wants = wanted_at s h f words

    -- the route of the step that the loop has come to, and the states after it
    abbrev route : ℕ
    route = route_taken s h facts verdicts states w.step (wants w.step)

    abbrev left : List ℤ
    left = states_then s h facts verdicts states w.step (wants w.step)

    g : Ongoing s h facts verdicts states₀ f words b states path w
    g = subst (λ (k : ℕ). Ongoing s h facts verdicts states₀ k words b states path w) its_flow g₀

    pub run_valid : StatesIn s h states
    run_valid = g.held.valid

    pub run_short : w.length ≤ length path
    run_short = omega (arith, (trail_going u.lent g.held.trail).short, g.size)

    -- it is finished: the answer, the buffer once it is cleared past the path, and the states
    pub run_done : {path' : List ℕ} → not w.finished ≡ false → path' ≡ take w.length path ++ replicate (length path - w.length) 0
        → (tallied w.step w.length ≡ ran_walk s h facts verdicts states₀ f words)
        × ((path' ≡ ran_path s h facts verdicts states₀ f words b) × (states ≡ ran_states s h facts verdicts states₀ f words))
    unfolding ran_walk ran_path ran_states laid
    run_done y c =
        let t = running states path w in
        let e : t ≡ ran s h facts verdicts states₀ f wants =
        sym (run_stops s h facts verdicts wants t (steps_of s h f - w.length) (not-false w.finished y)) ∙ g.rest in
        let l : laid (take w.length path) b ≡ take w.length path ++ replicate (length path - w.length) 0 =
        rw (length-take-le w.length path run_short, g.size) in (
          ap (λ (x : Running). tallied x.walker.step x.walker.length) e,
          (c ∙ sym l ∙ ap (λ (x : Running). laid x.path b) e, ap (λ (x : Running). x.states) e),
        )

    module _ (y : not w.finished ≡ true) where
      on : w.finished ≡ false
      on = not-true w.finished y

      pub run_step : Steppable s h facts verdicts w.step
      run_step = held_step u g.held on

      pub run_room : w.length < length path
      run_room = omega (arith, going_room (trail_going u.lent g.held.trail) on, g.size)

      pub run_few : w.length < 256
      run_few = omega (arith, held_room u g.held on, (flow_ok s h u.lent.sheet f u.lent.flow).inside, u.lent.sheet.sized.limits.steps)

      in_flow : (first_step_of s h f ≤ w.step) × (w.step < steps_end s h f)
      in_flow = trail_in u.lent g.held.trail on

      -- the step's word is among those lent
      pub run_later : w₀.step ≤ w.step
      run_later = omega (arith, its_first, in_flow.0)

      pub run_word : length words ≡ steps_of s h f → w.step - w₀.step < length words
      run_word z = omega (arith, its_first, in_flow.0, in_flow.1)

      -- where the loop stands after the step
      next : stepped s h facts verdicts wants (running states path w)
          ≡ running left (set path w.length route)
          (taken s h w route)
      unfolding stepped taken
      next = rw (add-one, take-suc-set path w.length route run_room)

      after : Ongoing s h facts verdicts states₀ f words b left (set path w.length route)
          (taken s h w route)
      unfolding taken
      after =
          let t = running states path w in
          let n = steps_of s h f - (w.length + 1) in
          let z : suc n ≡ steps_of s h f - w.length = omega (arith, held_room u g.held on) in
          record {
            size = length-set path w.length route ∙ g.size;
            held = subst (Held s h f) next (held_stepped u g.held on wants);
            rest =
                ap (run_on s h facts verdicts wants n) (sym next)
                ∙ sym (run_steps s h facts verdicts wants t n on)
                ∙ ap (λ (m : ℕ). run_on s h facts verdicts wants m t) z
                ∙ g.rest;
          }

      -- the code's word x, route r, states and walker
      module _ {x : Option ℕ} {r : ℕ} (d : x ≡ wanted_of (get_or words (w.step - w₀.step) (pos 0)))
          (k : r ≡ route_taken s h facts verdicts states w.step x) where
        is_wanted : x ≡ wants w.step
        unfolding wanted_at
        is_wanted = d ∙ rw its_first

        is_route : r ≡ route
        is_route = k ∙ ap (route_taken s h facts verdicts states w.step) is_wanted

        pub run_route : r < h.routes
        run_route =
            let a = u.lent.sheet in
            let l = run_step.exists in
            rw is_route (omega (arith, (route_of a w.step l facts verdicts states (wants w.step)).high, routes_end_lem a w.step l))

        module _ {states' : List ℤ} {w' : Walker} (m : states' ≡ states_then s h facts verdicts states w.step x) (q : w' ≡ taken s h w r) where
          pub run_more : Ongoing s h facts verdicts states₀ (flow_of s h w₀.step) words b states' (set path w.length r) w'
          run_more = rw (its_flow, q, is_route, m ∙ ap (states_then s h facts verdicts states w.step) is_wanted) after

          pub run_less : length b - w'.length < length b - w.length
          unfolding taken
          run_less = rw q (omega (arith, run_room, g.size))
