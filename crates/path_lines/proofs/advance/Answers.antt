-- `path_lines::advance` meets its contract: the next path of the flow, or the next flow. Assumes nothing.
use Rattle.path_lines.proofs.Cursors.{ready_lent, ready_same, follow_most, follow_next, follow_last, next_whole, next_cut}
use native.Mathlib.Omega.{arith}
use Rattle.path_lines.proofs.advance.Goals as goal

pub overflow_add-number : goal.overflow_add-number
overflow_add-number c = omega (arith, (c.requires.stands.path c.requires.flow_lt_flows).early)

pub next-requires : goal.next-requires
next-requires c = ready_lent c.requires.stands.ready _ c.requires.flow_lt_flows

pub enter-requires : goal.enter-requires
enter-requires c = record { ready = ready_same c.requires.stands.ready c.next.auto.path; flow_le_flows = next_cut c.requires.stands c.requires.flow_lt_flows c.next.ensures.value c.in-Ok.is c.if-number-ge-MOST.true }

pub returns-then-number-ge-MOST : goal.returns-then-number-ge-MOST
returns-then-number-ge-MOST c = follow_most c.requires.stands c.requires.flow_lt_flows c.if-number-ge-MOST.true c.enter.ensures

pub enter-requires-in-Err : goal.enter-requires-in-Err
enter-requires-in-Err c = record { ready = ready_same c.requires.stands.ready c.next.auto.path; flow_le_flows = next_whole c.requires.stands c.requires.flow_lt_flows c.next.ensures.value c.in-Err.is }

pub shape_of-path-else-number-ge-MOST : goal.shape_of-path-else-number-ge-MOST
shape_of-path-else-number-ge-MOST c = c.next.auto.path

pub returns-else-number-ge-MOST : goal.returns-else-number-ge-MOST
returns-else-number-ge-MOST c = follow_next c.requires.stands c.requires.flow_lt_flows c.next.ensures.value c.if-number-ge-MOST.false c.in-Ok.is
    c.next.ensures.path_after c.next.auto.path

pub returns-in-Err : goal.returns-in-Err
returns-in-Err c = follow_last c.requires.stands c.requires.flow_lt_flows c.next.ensures.value c.in-Err.is c.enter-in-Err.ensures
