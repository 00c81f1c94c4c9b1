use native.Mathlib.Omega.{arith}
use Rattle.run.proofs.Wants.{step_there}
use Rattle.run.proofs.Coverage.{none_looked, one_looked, not_covered, all_covered}
use mathlib.Core.Bool.{not}
use mathlib.Core.Path.{ap}
use Rattle.run.proofs.flow_covers.Goals as goal

pub first_step-first-requires : goal.first_step-first-requires
first_step-first-requires c = c.requires

pub steps-k-end-requires : goal.steps-k-end-requires
steps-k-end-requires c = c.requires

pub loop-k-init : goal.loop-k-init
loop-k-init c = none_looked _ _ _ _

pub overflow_add-first : goal.overflow_add-first
overflow_add-first c = omega (
  arith,
  step_there c.args.s.now.accepted c.requires c.first_step-first.ensures c.steps-k-end.ensures _
      c.loop-k-test.true,
  c.args.s.now.accepted.sized.limits.steps,
)

pub step_covers-requires : goal.step_covers-requires
step_covers-requires c = record {
  step_lt_steps = step_there c.args.s.now.accepted c.requires c.first_step-first.ensures c.steps-k-end.ensures _
      c.loop-k-test.true;
  seen = c.loop-k.invariant.flags;
}

pub returns-then-not-step_covers : goal.returns-then-not-step_covers
returns-then-not-step_covers c = not_covered c.loop-k.invariant c.step_covers.ensures.value _ c.first_step-first.ensures c.steps-k-end.ensures
    c.loop-k-test.true (ap not c.if-not-step_covers.true)

pub loop-k-preserved : goal.loop-k-preserved
loop-k-preserved c = one_looked c.loop-k.invariant c.step_covers.ensures.value (ap not c.if-not-step_covers.false) c.step_covers.ensures.seen_2

pub returns : goal.returns
returns c = all_covered c.loop-k.invariant _ c.first_step-first.ensures c.steps-k-end.ensures c.loop-k-test.false
