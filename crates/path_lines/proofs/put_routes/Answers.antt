use Rattle.path_lines.proofs.Writing.{written_none, written_done, route_room, route_put, routes_done}
use native.Mathlib.Omega.{arith}
use Rattle.path_lines.proofs.put_routes.Goals as goal

pub loop-i-init : goal.loop-i-init
loop-i-init c = written_none c.requires.1

pub put_number-at-requires : goal.put_number-at-requires
put_number-at-requires c = (omega (arith, (c.type_inv.path c.loop-i.i).fits), route_room _ _ c.requires.0 _ c.loop-i-test.true c.loop-i.invariant)

pub loop-i-preserved : goal.loop-i-preserved
loop-i-preserved c = route_put _ _ c.requires.0 _ c.loop-i-test.true c.loop-i.invariant c.put_number-at.ensures.0 c.put_number-at.ensures.1

pub returns : goal.returns
returns c = written_done c.loop-i.invariant (routes_done _ _ c.requires.0 _ c.loop-i-test.false)
