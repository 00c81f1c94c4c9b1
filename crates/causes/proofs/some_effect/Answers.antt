-- `causes::some_effect` meets its contract. Assumes nothing.
use Rattle.std.proofs.Common.{arith}
use Rattle.causes.proofs.Effects.{outset, held, small, hit, none_hit}
use Rattle.causes.proofs.some_effect.Goals as goal

pub loop-e-init : goal.loop-e-init
loop-e-init c = outset c.args.s.now.accepted _ c.requires _ c.effects_of-effects.ensures _ c.first_effect-base.ensures _

pub overflow_add-base : goal.overflow_add-base
overflow_add-base c = omega (
  arith,
  small c.args.s.now.accepted _ c.requires _ c.effects_of-effects.ensures _ c.first_effect-base.ensures _
      c.loop-e-test.true,
)

pub record_at-requires : goal.record_at-requires
record_at-requires c = held c.args.s.now.accepted _ c.requires _ c.effects_of-effects.ensures _ c.first_effect-base.ensures _
    c.loop-e-test.true

pub returns-then-wanted : goal.returns-then-wanted
returns-then-wanted c = hit c.args.s.now.accepted _ c.requires _ c.effects_of-effects.ensures _ c.first_effect-base.ensures _ _ _ _
    c.loop-e.invariant c.loop-e-test.true c.record_at.ensures c.wanted.ensures c.if-wanted.true

pub returns : goal.returns
returns c = none_hit c.args.s.now.accepted _ c.requires _ c.effects_of-effects.ensures _ c.first_effect-base.ensures _ _
    c.loop-e.invariant c.loop-e-test.false
