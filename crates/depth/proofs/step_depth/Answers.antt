-- `depth::step_depth` meets its contract. Assumes nothing.
use Rattle.std.proofs.Common.{◌≡◌, max, arith}
use Rattle.std.proofs.lemmas.Grind.{common_steps}
use Rattle.depth.proofs.Depths.{scan_none, scan_more, scan_step, scan_in}
use Rattle.depth.proofs.step_depth.Goals as goal

pub overflow_add-end : goal.overflow_add-end
overflow_add-end c = omega (
  arith,
  scan_in _ _ c.args.s.now.accepted _ c.requires.step_lt_steps c.first_route-first.ensures c.routes.ensures,
  c.args.s.now.sheet.sized.limits.routes,
)

pub loop-route-init : goal.loop-route-init
loop-route-init c = scan_none _ _ _

pub route_depth-requires-clause-route_lt_routes : goal.route_depth-requires-clause-route_lt_routes
route_depth-requires-clause-route_lt_routes c =
    omega (arith, scan_in _ _ c.args.s.now.accepted _ c.requires.step_lt_steps c.first_route-first.ensures c.routes.ensures)

pub loop-route-preserved : goal.loop-route-preserved
loop-route-preserved c =
    let e : c.max-most.result ≡ max c.loop-route.most c.route_depth.result = grind (arith, common_steps) in
    scan_more c.loop-route.invariant c.loop-route-test.true c.route_depth.ensures e

pub returns : goal.returns
returns c = scan_step _ _ _ _ c.loop-route.invariant c.loop-route-test.false c.first_route-first.ensures c.routes.ensures
