use Rattle.std.proofs.lemmas.Result.{err_from_is_err_and}
use Rattle.records.specs.Operations.{good_effect}
use Rattle.records.proofs.Scans.{ended, wider}
use Rattle.sheet_effects.proofs.Scan.{set_out, group, lent, end_inside, onward, arrived}
use native.Mathlib.Omega.{arith}
use Rattle.sheet_effects.proofs.check_effects.Goals as goal

pub loop-o-init : goal.loop-o-init
loop-o-init c = set_out _ _ _ _ c.requires.1 c.requires.2

pub overflow_add-base : goal.overflow_add-base
overflow_add-base c = omega (arith, c.requires.0.sized.limits, c.requires.0.sized.long, c.first_operation-base.ensures)

pub number-requires : goal.number-requires
number-requires c = (omega arith, omega (arith, c.requires.0.sized.limits, c.requires.0.sized.long, c.first_operation-base.ensures))

pub overflow_add-end : goal.overflow_add-end
overflow_add-end c = omega (
  arith,
  end_inside _ _ _ _ _ _ c.requires.0 c.loop-o.invariant c.loop-o-test.true c.first_operation-base.ensures
      c.number.ensures,
  c.requires.0.sized.limits.effects,
)

pub overflow_add-base-in-loop-o : goal.overflow_add-base-in-loop-o
overflow_add-base-in-loop-o c = omega (arith, c.requires.0.sized.limits, c.requires.0.sized.long, c.first_operation-base.ensures)

pub number-outcomes-requires : goal.number-outcomes-requires
number-outcomes-requires c = (omega arith, omega (arith, c.requires.0.sized.limits, c.requires.0.sized.long, c.first_operation-base.ensures))

pub check_group-requires : goal.check_group-requires
check_group-requires c = (
  c.requires.0,
  group _ _ _ _ _ _ c.requires.0 c.loop-o.invariant c.loop-o-test.true c.first_operation-base.ensures
      c.number.ensures c.number-outcomes.ensures,
  lent _ _ _ _ _ _ c.requires.0 c.loop-o.invariant c.loop-o-test.true c.first_operation-base.ensures
      c.number.ensures,
)

pub returns-in_err-check_group : goal.returns-in_err-check_group
returns-in_err-check_group c = let p = err_from_is_err_and c.from_residual.result c.from_residual.ensures.1 in
    rw (p.1, p.2) (wider _ _ c.in_err-check_group.ensures.value (end_inside _ _ _ _ _ _ c.requires.0 c.loop-o.invariant c.loop-o-test.true
    c.first_operation-base.ensures c.number.ensures))

pub loop-o-preserved : goal.loop-o-preserved
loop-o-preserved c = onward _ _ _ _ _ _ c.requires.0 c.loop-o.invariant c.loop-o-test.true c.first_operation-base.ensures
    c.number.ensures c.in_ok-check_group.ensures.seen

pub returns : goal.returns
returns c = ended _ (good_effect c.args.s.now.words.now c.args.s.now.header) _ (arrived c.requires.0 c.loop-o.invariant (omega arith))
