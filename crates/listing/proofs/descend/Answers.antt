-- `listing::descend` meets its contract. Assumes nothing.
use Rattle.std.proofs.Common.{arith}
use Rattle.walks.proofs.Walks.{descend_none, descend_done, descend_step, descend_route, descend_room, descend_more, descend_less}
use Rattle.listing.proofs.descend.Goals as goal

pub loop-w-init : goal.loop-w-init
loop-w-init c = descend_none c.requires

pub first_route-route-requires : goal.first_route-route-requires
first_route-route-requires c = descend_step c.loop-w.invariant c.loop-w-test.true

pub overflow_cast-path : goal.overflow_cast-path
overflow_cast-path c =
    omega (arith, descend_route c.loop-w.invariant c.loop-w-test.true _ c.first_route-route.ensures, c.requires.sheet.sized.limits.routes)

pub offset_bounds-path-w : goal.offset_bounds-path-w
offset_bounds-path-w c = omega (arith, descend_room c.loop-w.invariant c.loop-w-test.true, c.loop-w.invariant.size)

pub bounds-path-w : goal.bounds-path-w
bounds-path-w c = descend_room c.loop-w.invariant c.loop-w-test.true

pub take-w-requires-clause-route_lt_routes : goal.take-w-requires-clause-route_lt_routes
take-w-requires-clause-route_lt_routes c = descend_route c.loop-w.invariant c.loop-w-test.true _ c.first_route-route.ensures

pub loop-w-smaller : goal.loop-w-smaller
loop-w-smaller c = descend_less c.loop-w.invariant c.loop-w-test.true c.first_route-route.ensures c.take-w.ensures

pub loop-w-preserved : goal.loop-w-preserved
loop-w-preserved c = descend_more c.loop-w.invariant c.loop-w-test.true c.first_route-route.ensures c.take-w.ensures

pub returns-clause-value : goal.returns-clause-value
returns-clause-value c = (descend_done c.loop-w.invariant c.loop-w-test.false).0

pub returns-clause-path_after : goal.returns-clause-path_after
returns-clause-path_after c = (descend_done c.loop-w.invariant c.loop-w-test.false).1
