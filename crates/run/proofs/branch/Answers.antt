-- `run::branch` meets its contract: the first route where its node is true, else the second. Assumes nothing.
use Rattle.run.proofs.StepLaws.{evaluable, branch_two, routes_end_lem, on_true, on_false}
use Rattle.words.specs.Record.{record_at}
use native.Mathlib.Omega.{arith}
use Rattle.run.proofs.branch.Goals as goal

pub is_true-requires : goal.is_true-requires
unfolding record_at
is_true-requires c = evaluable c.requires.steppable c.requires.step_value _ c.step_word.ensures

pub overflow_add-result : goal.overflow_add-result
overflow_add-result c = omega (
  arith,
  c.first_route-first.ensures,
  branch_two c.requires.steppable.accepted _ c.requires.steppable.exists c.requires.step_value,
  routes_end_lem c.requires.steppable.accepted _ c.requires.steppable.exists,
  c.requires.steppable.accepted.sized.limits.routes,
)

pub returns-then-is_true : goal.returns-then-is_true
unfolding record_at
returns-then-is_true c = on_true c.requires.steppable c.first_route-first.ensures c.step_word.ensures c.is_true.ensures c.if-is_true.true

pub returns-else-is_true : goal.returns-else-is_true
unfolding record_at
returns-else-is_true c = on_false c.requires.steppable c.first_route-first.ensures c.step_word.ensures c.is_true.ensures c.if-is_true.false
