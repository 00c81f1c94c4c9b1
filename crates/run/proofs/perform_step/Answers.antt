-- `run::perform_step` meets its contract: the route of the outcome, or the last. Assumes nothing.
use Rattle.run.proofs.StepLaws.{askable, triable, outcome_fits, by_outcome, by_failure, routes_few}
use Rattle.words.specs.Record.{record_at}
use native.Mathlib.Omega.{arith}
use Rattle.run.proofs.perform_step.Goals as goal

pub admits-b-requires : goal.admits-b-requires
unfolding record_at
admits-b-requires c = let k = askable c.requires.steppable c.requires.states_in.0 c.requires.states_in.1 c.first_route-first.ensures
    c.step_word.ensures c.step_word-2.ensures in
    record { evaluable = k.0; o_lt_operations = k.1; memo = c.requires.memo }

pub attempt_known-requires : goal.attempt_known-requires
unfolding record_at
attempt_known-requires c = let both = triable c.requires.steppable c.requires.states_in.0 c.requires.states_in.1 c.first_route-first.ensures
    c.step_word.ensures c.step_word-2.ensures in record { ready = both.0; p_lt_personas = both.1 }

pub overflow_add-result : goal.overflow_add-result
unfolding record_at
overflow_add-result c = omega (
  arith,
  outcome_fits c.requires.steppable c.requires.states_in.0 c.requires.states_in.1 c.first_route-first.ensures
      c.step_word.ensures c.step_word-2.ensures _ c.admits-b.ensures.value
      c.attempt_known.ensures.value c.attempt_known.ensures.states_after _ c.in-Ok.is,
  c.requires.steppable.accepted.sized.limits.routes,
)

pub overflow_add-result-in-Err : goal.overflow_add-result-in-Err
overflow_add-result-in-Err c = omega (arith, routes_few c.requires.steppable c.requires.states_in.1 c.first_route-first.ensures c.routes-count.ensures)

pub overflow_sub-result : goal.overflow_sub-result
overflow_sub-result c = omega (arith, routes_few c.requires.steppable c.requires.states_in.1 c.first_route-first.ensures c.routes-count.ensures)

pub returns-in-Ok : goal.returns-in-Ok
unfolding record_at
returns-in-Ok c = let k = by_outcome c.requires.steppable c.requires.states_in.0 c.requires.states_in.1 c.first_route-first.ensures
    c.step_word.ensures c.step_word-2.ensures _ c.admits-b.ensures.value
    c.attempt_known.ensures.value c.attempt_known.ensures.states_after _ c.in-Ok.is in
    record { value = k.0; states_after = k.1; memo_2 = c.admits-b.ensures.memo_2 }

pub returns-in-Err : goal.returns-in-Err
unfolding record_at
returns-in-Err c = let k = by_failure c.requires.steppable c.requires.states_in.0 c.requires.states_in.1 c.first_route-first.ensures
    c.step_word.ensures c.step_word-2.ensures _ c.admits-b.ensures.value
    c.attempt_known.ensures.value c.attempt_known.ensures.states_after _ _ c.in-Err.is
    c.routes-count.ensures in
    record { value = k.0; states_after = k.1; memo_2 = c.admits-b.ensures.memo_2 }
