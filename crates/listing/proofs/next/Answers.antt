-- `listing::next` meets its contract: the turn that `seek` found, and first routes from there. Assumes nothing.
use Rattle.std.proofs.Common.{arith}
use Rattle.listing.proofs.CallLaws.{turn_route_lem, turn_going, next_done}
use Rattle.listing.proofs.next.Goals as goal

pub overflow_cast-path : goal.overflow_cast-path
overflow_cast-path c = omega (arith, turn_route_lem c.in_ok-w.ensures, c.requires.sheet.sized.limits.routes)

pub take-requires-clause-route_lt_routes : goal.take-requires-clause-route_lt_routes
take-requires-clause-route_lt_routes c = turn_route_lem c.in_ok-w.ensures

pub finish-requires : goal.finish-requires
finish-requires c = turn_going c.in_ok-w.ensures c.take.ensures

pub returns-clause-value : goal.returns-clause-value
returns-clause-value c = (next_done c.in_ok-w.ensures c.take.ensures c.finish.ensures.value c.finish.ensures.path_after).0

pub returns-clause-path_after : goal.returns-clause-path_after
returns-clause-path_after c = (next_done c.in_ok-w.ensures c.take.ensures c.finish.ensures.value c.finish.ensures.path_after).1
