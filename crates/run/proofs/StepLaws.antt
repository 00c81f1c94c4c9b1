-- One step of a run: its route is one of the step's, and the states afterwards are among their entities' states again.
-- Assumes nothing.
use Rattle.std.specs.Prelude.{Ok, Err}
use mathlib.Core.Path.{◌≡◌, refl, sym, ◌∙◌}
use mathlib.Core.Bool.{Bool, true, false, ◌&&◌}
use mathlib.Core.List.{List}
use mathlib.Core.Logic.{⊎_elim}
use Prim.Native.Nat.{ℕ, ◌+◌, ◌-◌, ◌≤◌, ◌<◌}
use lib.IntN.{ℤ}
use native.Mathlib.Omega.{arith}
use borrow.Author.Tests.{eq-eqb, ne_eqb, eqb-true}
use Rattle.tables.proofs.Bools.{bool_cases, true_false}
use Rattle.answer.specs.declared.Refusal.{Refusal}
use Rattle.answer.specs.Answers.{Count}
use Rattle.layout.specs.declared.Header.{Header}
use Rattle.layout.specs.Tables.{operation, step}
use Rattle.node.specs.FactValues.{FactValue}
use Rattle.records.specs.Accepted.{Accepted}
use Rattle.records.specs.Nodes.{item_of}
use Rattle.records.specs.Names.{closed}
use Rattle.records.proofs.FlowLaws.{StepKind, performs as is-operation, branches as is-branch, step_is}
use Rattle.records.proofs.OperationLaws.{operation_ok}
use Rattle.predicate.specs.Values.{truth}
use Rattle.predicate.specs.Inner.{Evaluable}
use Rattle.std.specs.Prelude.{Option}
use Rattle.operation.specs.Mask.{allowed}
use Rattle.operation.specs.Inner.{StatesIn}
use Rattle.operation.specs.Ready.{Ready}
use Rattle.attempt.specs.Attempts.{precondition, attempted, attempted_states}
use Rattle.attempt.specs.Inner.{Attemptable, attempted_if, attempted_states_if}
use Rattle.attempt.proofs.AttemptLaws.{refused_states, outcome_below, attempted_in, evaluable as condition, attempt_admits}
use Rattle.walks.specs.Paths.{first_route_of, routes_of, RouteOf}
use Rattle.walks.proofs.Ways.{step_ends}
use Rattle.run.specs.Runs.{performs, operation_at, persona_at, node_at, answer_route, branch_route, route_taken, states_then}
use Rattle.run.specs.Inner.{Steppable}

-- ---- by the step's kind

module _ (s : List ℤ) (h : Header) (facts : List FactValue) (verdicts states : List ℤ) (i : ℕ) (d : Option ℕ) where
  pub operation_route : performs s h i ≡ true
      → route_taken s h facts verdicts states i d ≡ answer_route s h i (attempted s h facts verdicts states (persona_at s h i) (operation_at s h i) d)
  unfolding route_taken
  operation_route e = rw (e, route_taken)

  pub operation_states : performs s h i ≡ true
      → states_then s h facts verdicts states i d ≡ attempted_states s h facts verdicts states (persona_at s h i) (operation_at s h i) d
  unfolding states_then
  operation_states e = rw (e, states_then)

  pub branch_takes : performs s h i ≡ false → route_taken s h facts verdicts states i d ≡ branch_route s h i (truth s h facts verdicts (node_at s h i))
  unfolding route_taken
  branch_takes e = rw (e, route_taken)

  pub branch_states : performs s h i ≡ false → states_then s h facts verdicts states i d ≡ states
  unfolding states_then
  branch_states e = rw (e, states_then)

  -- a step that is refused changes nothing, and takes the last of its routes
  pub refused_step : (r : Refusal) → performs s h i ≡ true → attempted s h facts verdicts states (persona_at s h i) (operation_at s h i) d ≡ Err r
      → (states_then s h facts verdicts states i d ≡ states) × (route_taken s h facts verdicts states i d ≡ first_route_of s h i + routes_of s h i - 1)
  unfolding answer_route
  refused_step r e q =
      (operation_states e ∙ refused_states s h facts verdicts states (persona_at s h i) (operation_at s h i) d r q, operation_route e ∙ rw q)

-- ---- on an accepted sheet

module _ {s : List ℤ} {h : Header} (a : Accepted s h) (i : ℕ) (l : i < h.steps) where
  kind : StepKind s h (step s h i)
  kind = step_is s h a i l

  pub branch_two : performs s h i ≡ false → routes_of s h i ≡ 2
  unfolding routes_of
  branch_two e = go kind
    where
      go : StepKind s h (step s h i) → (step s h i).w4 ≡ 2
      go (is-operation z o p c) = absurd (true_false (eq-eqb (step s h i).w0 0 z) e)
      go (is-branch z o t l c) = c

  -- the routes lie in the table
  pub routes_end_lem : first_route_of s h i + routes_of s h i ≤ h.routes
  routes_end_lem = step_ends s h a i l

  branch_of : performs s h i ≡ false → (b : Bool) → RouteOf s h i (branch_route s h i b)
  unfolding branch_route
  branch_of e true = record { low = omega arith; high = omega (arith, branch_two e) }
  branch_of e false = record { low = omega arith; high = omega (arith, branch_two e) }

  -- an operation step has a route for each outcome, and one more
  pub operation_routes : performs s h i ≡ true → routes_of s h i ≡ (operation s h (operation_at s h i)).w4 + 1
  unfolding routes_of
  operation_routes e = go kind
    where
      go : StepKind s h (step s h i) → (step s h i).w4 ≡ (operation s h (operation_at s h i)).w4 + 1
      go (is-operation z o p c) = c
      go (is-branch z o t l c) = let k = eqb-true (step s h i).w0 0 e in absurd (omega arith)

  module _ (facts : List FactValue) (verdicts states : List ℤ) (d : Option ℕ) where
    pub answer_of_lem : performs s h i ≡ true → (r : Count) → attempted s h facts verdicts states (persona_at s h i) (operation_at s h i) d ≡ r
        → RouteOf s h i (answer_route s h i r)
    unfolding answer_route
    answer_of_lem e (Ok j) q =
        let k = outcome_below s h facts verdicts states (persona_at s h i) (operation_at s h i) d j q in
        record { low = omega arith; high = omega (arith, operation_routes e) }
    answer_of_lem e (Err r) q = let k = operation_routes e in record { low = omega arith; high = omega arith }

    -- the route taken is one of the step's, whatever the facts and states are
    pub route_of : RouteOf s h i (route_taken s h facts verdicts states i d)
    route_of =
        ⊎_elim (λ e. rw (operation_route s h facts verdicts states i d e)
        (answer_of_lem e (attempted s h facts verdicts states (persona_at s h i) (operation_at s h i) d) refl))
        (λ e. rw (branch_takes s h facts verdicts states i d e) (branch_of e (truth s h facts verdicts (node_at s h i))))
        (bool_cases (performs s h i))

module _ {s : List ℤ} {h : Header} {facts : List FactValue} {verdicts : List ℤ} {i : ℕ} (w : Steppable s h facts verdicts i) where
  -- a branch's node can be worked out
  pub evaluable : performs s h i ≡ false → (n : ℕ) → n ≡ node_at s h i → Evaluable s h facts verdicts n
  evaluable e n q =
      let b = go (kind w.accepted i w.exists) in
      record {
        accepted = w.accepted;
        known = w.known;
        judged = w.judged;
        exists = rw q b.0;
        bool = rw q b.1;
        closed = rw q b.2;
      }
    where
      go : StepKind s h (step s h i) → (node_at s h i < h.nodes) × ((item_of s h (node_at s h i)).sort ≡ 0) × (closed s h (node_at s h i) ≡ true)
      go (is-operation z o p c) = absurd (true_false (eq-eqb (step s h i).w0 0 z) e)
      go (is-branch z o t l c) = (o, t, l)

  module _ {states : List ℤ} (v : StatesIn s h states) where
    -- an operation step's operation can be attempted
    pub attemptable : performs s h i ≡ true → Attemptable s h facts verdicts states (persona_at s h i) (operation_at s h i)
    attemptable e = go (kind w.accepted i w.exists)
      where
        go : StepKind s h (step s h i) → Attemptable s h facts verdicts states (persona_at s h i) (operation_at s h i)
        go (is-operation z o p c) =
            record { ready = record { accepted = w.accepted; lent = v; exists = o }; known = w.known; judged = w.judged; persona = p }
        go (is-branch z o t l c) = let k = eqb-true (step s h i).w0 0 e in absurd (omega arith)

    -- the states afterwards are among their entities' states
    pub states_then_in : (d : Option ℕ) → StatesIn s h (states_then s h facts verdicts states i d)
    states_then_in d =
        ⊎_elim (λ e. rw (operation_states s h facts verdicts states i d e) (attempted_in (attemptable e) d))
        (λ e. rw (branch_states s h facts verdicts states i d e) v) (bool_cases (performs s h i))

-- ---- what the code finds

module _ (s : List ℤ) (h : Header) (facts : List FactValue) (verdicts states : List ℤ) (i : ℕ) (d : Option ℕ) where
  -- an operation step
  pub took_operation : (r : ℕ) (end : List ℤ) → performs s h i ≡ true
      → r ≡ answer_route s h i (attempted s h facts verdicts states (persona_at s h i) (operation_at s h i) d)
      → end ≡ attempted_states s h facts verdicts states (persona_at s h i) (operation_at s h i) d
      → (r ≡ route_taken s h facts verdicts states i d) × (end ≡ states_then s h facts verdicts states i d)
  took_operation r end e p q = (p ∙ sym (operation_route s h facts verdicts states i d e), q ∙ sym (operation_states s h facts verdicts states i d e))

  -- a branch
  pub took_branch : (r : ℕ) → performs s h i ≡ false → r ≡ branch_route s h i (truth s h facts verdicts (node_at s h i))
      → (r ≡ route_taken s h facts verdicts states i d) × (states ≡ states_then s h facts verdicts states i d)
  took_branch r e p = (p ∙ sym (branch_takes s h facts verdicts states i d e), sym (branch_states s h facts verdicts states i d e))

-- a branch: b is whether its node n is true
module _ {s : List ℤ} {h : Header} {facts : List FactValue} {verdicts : List ℤ} {i first n : ℕ} {b : Bool} (w : Steppable s h facts verdicts i)
    (q : first ≡ first_route_of s h i)
    (is-node : n ≡ node_at s h i) (is-truth : b ≡ truth s h facts verdicts n) where
  pub on_true : b ≡ true → first ≡ branch_route s h i (truth s h facts verdicts (node_at s h i))
  unfolding branch_route
  on_true e = rw (q, rw is-node at (sym is-truth ∙ e))

  pub on_false : b ≡ false → first + 1 ≡ branch_route s h i (truth s h facts verdicts (node_at s h i))
  unfolding branch_route
  on_false e = rw (q, rw is-node at (sym is-truth ∙ e))

-- an operation step: t is whether persona p is allowed and the precondition of operation o true, x what the attempt comes to by that, and end
-- the states that it leaves
module _ {s : List ℤ} {h : Header} {facts : List FactValue} {verdicts states : List ℤ} {i first p o : ℕ}
    (w : Steppable s h facts verdicts i) (v : StatesIn s h states) (e : performs s h i ≡ true) (q : first ≡ first_route_of s h i)
    (of-step : o ≡ operation_at s h i) (by-persona : p ≡ persona_at s h i) where
  asked : Attemptable s h facts verdicts states p o
  asked = rw (of-step, by-persona) (attemptable w v e)

  pub askable : Evaluable s h facts verdicts (precondition s h o) × ((o < h.operations) × (p < h.personas))
  askable = (condition asked (precondition s h o) refl, (asked.ready.exists, asked.persona))

  pub triable : Ready s h states o × (p < h.personas)
  triable = (asked.ready, asked.persona)

  module _ (d : Option ℕ) {t : Bool} {x : Count} {end : List ℤ} (is-truth : t ≡ (allowed s h o p && truth s h facts verdicts (precondition s h o)))
      (is-if : x ≡ attempted_if s h t states p o d) (is-left : end ≡ attempted_states_if s h t states p o d) where
    tried : (x ≡ attempted s h facts verdicts states p o d) × (end ≡ attempted_states s h facts verdicts states p o d)
    tried = attempt_admits s h facts verdicts states p o d is-if is-left is-truth

    answered : attempted s h facts verdicts states (persona_at s h i) (operation_at s h i) d ≡ x
    answered = rw (of-step, by-persona) at (sym tried.0)

    ended : end ≡ attempted_states s h facts verdicts states (persona_at s h i) (operation_at s h i) d
    ended = rw (of-step, by-persona) at tried.1

    pub outcome_fits : (j : ℕ) → x ≡ Ok j → first + j < h.routes
    unfolding answer_route
    outcome_fits j z =
        let k = answer_of_lem w.accepted i w.exists facts verdicts states d e (Ok j) (answered ∙ z) in
        rw q (omega (arith, k.high, routes_end_lem w.accepted i w.exists))

    pub by_outcome : (j : ℕ) → x ≡ Ok j
        → (first + j ≡ answer_route s h i (attempted s h facts verdicts states (persona_at s h i) (operation_at s h i) d))
        × (end ≡ attempted_states s h facts verdicts states (persona_at s h i) (operation_at s h i) d)
    unfolding answer_route
    by_outcome j z = (rw (answered ∙ z, q), ended)

    pub by_failure : (r : Refusal) (count : ℕ) → x ≡ Err r → count ≡ routes_of s h i
        → (first + count - 1 ≡ answer_route s h i (attempted s h facts verdicts states (persona_at s h i) (operation_at s h i) d))
        × (end ≡ attempted_states s h facts verdicts states (persona_at s h i) (operation_at s h i) d)
    unfolding answer_route
    by_failure r count z k = (rw (answered ∙ z, q, k), ended)

-- the routes of an operation step are few, and there are two at least
pub routes_few : {s : List ℤ} {h : Header} {facts : List FactValue} {verdicts : List ℤ} {i first count : ℕ} → Steppable s h facts verdicts i
    → performs s h i ≡ true → first ≡ first_route_of s h i
    → count ≡ routes_of s h i → (first + count ≤ 1024) × (2 ≤ count)
routes_few {s} {h} {facts} {verdicts} {i} {first} {count} w e q k =
    (omega (arith, q, k, routes_end_lem w.accepted i w.exists, w.accepted.sized.limits.routes), go (step_is s h w.accepted i w.exists))
  where
    go : StepKind s h (step s h i) → 2 ≤ count
    go (is-operation z o p c) =
        omega (arith, k, operation_routes w.accepted i w.exists e, (operation_ok w.accepted (operation_at s h i) o).outcomes)
    go (is-branch z o t l c) = omega (arith, k, branch_two w.accepted i w.exists (ne_eqb (step s h i).w0 0 (λ x. omega arith)))
