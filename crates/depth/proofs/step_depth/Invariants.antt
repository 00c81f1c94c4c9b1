-- `depth::step_depth` meets its contract: the greatest depth of its routes. Assumes nothing.
use Rattle.depth.proofs.Depths.{Scanning}
use Rattle.depth.specs.Inner.{route_depth}
use Rattle.depth.proofs.step_depth.Given as goal

abbrev pub invariant-loop-route : goal.invariant-loop-route
invariant-loop-route l = Scanning (route_depth l.s.sheet.words.now l.s.sheet.header l.depths) l.first l.end l.route l.most
