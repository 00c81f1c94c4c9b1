-- `listing::seek` meets its contract. Assumes nothing.
use Rattle.std.proofs.Common.{arith, inl, inr}
use Rattle.listing.proofs.CallLaws.{seek_start, sought, sought_nowhere}
use Rattle.listing.proofs.Seeking.{seek_room, seek_step, seek_sum, seek_nowhere, seek_more, seek_less, seek_done}
use Rattle.listing.proofs.seek.Goals.{then-route-first-via-then-route-first, then-route-first-via-else-route-first+then-end-route, then-route-end, else-route-end}
use Rattle.listing.proofs.seek.Goals as goal

pub loop-w-init : goal.loop-w-init
loop-w-init c = seek_start c.requires c.start-w.ensures

pub offset_bounds-path-w : goal.offset_bounds-path-w
offset_bounds-path-w c = omega (arith, seek_room c.loop-w.invariant c.loop-w-test.true)

pub bounds-path-w : goal.bounds-path-w
bounds-path-w c = seek_room c.loop-w.invariant c.loop-w-test.true

pub first_route-first-requires : goal.first_route-first-requires
first_route-first-requires c = seek_step c.loop-w.invariant c.loop-w-test.true

pub routes-requires : goal.routes-requires
routes-requires c = seek_step c.loop-w.invariant c.loop-w-test.true

pub overflow_add-end : goal.overflow_add-end
overflow_add-end c = omega (
  arith,
  seek_sum c.loop-w.invariant c.loop-w-test.true c.first_route-first.ensures c.routes.ensures,
  c.requires.sheet.sized.limits.routes,
)

pub returns-then-route-first : goal.returns-then-route-first
returns-then-route-first c = sought_nowhere c.requires c.start-w.ensures
    (seek_nowhere c.loop-w.invariant c.loop-w-test.true c.first_route-first.ensures c.routes.ensures
    (elim c.then-route-first.branch [
      | then-route-first-via-then-route-first w ↦ inl w.if-route-first.true
      | then-route-first-via-else-route-first+then-end-route w ↦ inr w.if-end-route.true
    ]))

pub take-w-requires-clause-route_lt_routes : goal.take-w-requires-clause-route_lt_routes
take-w-requires-clause-route_lt_routes c =
    omega (arith, seek_sum c.loop-w.invariant c.loop-w-test.true c.first_route-first.ensures c.routes.ensures)

pub loop-w-smaller : goal.loop-w-smaller
loop-w-smaller c = seek_less c.loop-w.invariant c.loop-w-test.true c.first_route-first.ensures c.routes.ensures c.if-route-first.false
    c.if-end-route.false c.take-w.ensures

pub loop-w-preserved : goal.loop-w-preserved
loop-w-preserved c = seek_more c.loop-w.invariant c.loop-w-test.true c.first_route-first.ensures c.routes.ensures c.if-route-first.false
    c.if-end-route.false c.take-w.ensures
    (elim c.if-route-end.branch [
      | then-route-end w ↦ inl (w.if-route-end.true, w.turn-is)
      | else-route-end w ↦ inr (w.if-route-end.false, w.turn-is)
    ])

pub returns : goal.returns
returns c = rw c.ok_or.ensures.value (sought c.requires c.start-w.ensures _ (seek_done c.loop-w.invariant c.loop-w-test.false) c.loop-w.invariant.can)
