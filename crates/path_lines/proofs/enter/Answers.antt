-- `path_lines::enter` meets its contract: path 0 of the flow, or nothing past the last flow. Assumes nothing.
use Rattle.path_lines.proofs.Cursors.{start_past, ready_lent, first_refused_lem, start_first}
use mathlib.Core.Path.{refl}
use Rattle.path_lines.proofs.enter.Goals as goal

pub returns-then-s-flow : goal.returns-then-s-flow
returns-then-s-flow c = start_past c.requires.ready c.requires.flow_le_flows c.if-s-flow.true refl

pub first-requires : goal.first-requires
first-requires c = ready_lent c.requires.ready _ c.if-s-flow.false

pub shape_of-path-in-Ok : goal.shape_of-path-in-Ok
shape_of-path-in-Ok c = c.first.auto.path

pub returns-in-Ok : goal.returns-in-Ok
returns-in-Ok c = start_first c.requires.ready c.if-s-flow.false c.first.ensures.value c.requires.flow_le_flows.1
    c.in-Ok.is c.first.ensures.path_after c.first.auto.path

pub shape_of-path-in-Err : goal.shape_of-path-in-Err
shape_of-path-in-Err c = c.first.auto.path

pub returns-in-Err : goal.returns-in-Err
returns-in-Err c = absurd (first_refused_lem c.requires.ready c.if-s-flow.false c.first.ensures.value c.in-Err.is)
