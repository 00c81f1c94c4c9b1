use Rattle.std.proofs.lemmas.Result.{err_from_is_err_and}
use Rattle.records.specs.Flows.{good_route}
use Rattle.records.proofs.Scans.{ended, wider}
use Rattle.sheet_flows.proofs.Routes.{set_out, room, end_inside, at_step, onward, arrived}
use native.Mathlib.Omega.{arith}
use Rattle.sheet_flows.proofs.check_routes.Goals as goal

pub loop-i-init : goal.loop-i-init
loop-i-init c = set_out _ _

pub advance-c-requires : goal.advance-c-requires
advance-c-requires c = room _ _ _ _ _ c.requires c.loop-i.invariant c.loop-i-test.true

pub overflow_add-end : goal.overflow_add-end
overflow_add-end c = omega (
  arith,
  end_inside _ _ _ _ _ c.requires c.loop-i.invariant c.loop-i-test.true c.advance-c.ensures
      c.first_step-base.ensures c.number.ensures,
  c.args.s.now.sized.limits.routes,
)

pub check_group-requires : goal.check_group-requires
check_group-requires c = (
  c.requires,
  at_step _ _ _ _ _ c.requires c.loop-i.invariant c.loop-i-test.true c.advance-c.ensures
      c.first_step-base.ensures c.number.ensures,
  c.loop-i.invariant.good,
)

pub returns-in_err-check_group : goal.returns-in_err-check_group
returns-in_err-check_group c = let p = err_from_is_err_and c.from_residual.result c.from_residual.ensures.1 in
    rw (p.1, p.2) (wider _ _ c.in_err-check_group.ensures
    (end_inside _ _ _ _ _ c.requires c.loop-i.invariant c.loop-i-test.true c.advance-c.ensures
    c.first_step-base.ensures c.number.ensures))

pub loop-i-preserved : goal.loop-i-preserved
loop-i-preserved c = onward _ _ _ _ _ c.requires c.loop-i.invariant c.loop-i-test.true c.advance-c.ensures
    c.first_step-base.ensures c.number.ensures c.in_ok-check_group.ensures

pub returns : goal.returns
returns c = ended _ (good_route c.args.s.now.words.now c.args.s.now.header) _ (arrived c.requires c.loop-i.invariant (omega arith))
