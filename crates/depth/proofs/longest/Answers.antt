-- `depth::longest` meets its contract. Assumes nothing.
use Rattle.std.proofs.Common.{arith}
use Rattle.depth.proofs.Depths.{deep_none, deep_end, deep_first, deep_step, deep_more, deep_done}
use Rattle.depth.proofs.longest.Goals as goal

pub overflow_add-end : goal.overflow_add-end
overflow_add-end c = omega (
  arith,
  deep_end c.args.s.now.accepted _ c.requires c.first_step-first.ensures c.steps.ensures,
  c.args.s.now.sheet.sized.limits.steps,
)

pub loop-step-init : goal.loop-step-init
loop-step-init c = deep_none _ _ _ _

pub step_depth-requires-clause-step_lt_steps : goal.step_depth-requires-clause-step_lt_steps
step_depth-requires-clause-step_lt_steps c =
    deep_step c.args.s.now.accepted _ c.requires c.first_step-first.ensures c.steps.ensures c.loop-step.invariant c.loop-step-test.true

pub step_depth-requires-clause-shallow : goal.step_depth-requires-clause-shallow
step_depth-requires-clause-shallow c = c.loop-step.invariant.shallow

pub offset_bounds-depths-step : goal.offset_bounds-depths-step
offset_bounds-depths-step c = omega (
  arith,
  deep_step c.args.s.now.accepted _ c.requires c.first_step-first.ensures c.steps.ensures c.loop-step.invariant c.loop-step-test.true,
  c.args.s.now.sheet.sized.limits.steps,
)

pub bounds-depths-step : goal.bounds-depths-step
bounds-depths-step c = omega (
  arith,
  deep_step c.args.s.now.accepted _ c.requires c.first_step-first.ensures c.steps.ensures c.loop-step.invariant c.loop-step-test.true,
  c.args.s.now.sheet.sized.limits.steps,
)

pub loop-step-preserved : goal.loop-step-preserved
loop-step-preserved c = deep_more c.args.s.now.accepted _ c.requires c.first_step-first.ensures c.steps.ensures c.loop-step.invariant
    c.loop-step-test.true c.step_depth.ensures

pub offset_bounds-depths-first : goal.offset_bounds-depths-first
offset_bounds-depths-first c = omega (arith, deep_first c.args.s.now.accepted _ c.requires c.first_step-first.ensures c.steps.ensures)

pub bounds-depths-first : goal.bounds-depths-first
bounds-depths-first c = deep_first c.args.s.now.accepted _ c.requires c.first_step-first.ensures c.steps.ensures

pub returns : goal.returns
returns c = deep_done c.args.s.now.accepted _ c.requires c.first_step-first.ensures c.steps.ensures c.loop-step.invariant
    c.loop-step-test.false
