-- `path_lines::put_line` meets its contract: a flow, a terminal, routes. Assumes nothing.
use native.Mathlib.Omega.{arith}
use Rattle.path_lines.proofs.Writing.{line_one, line_two, line_three, line_done}
use Rattle.path_lines.proofs.put_line.Goals as goal

pub put_number-second-requires : goal.put_number-second-requires
put_number-second-requires c = (c.requires.flow_bound.0, line_one _ _ _ _ c.args.out.now _ c.requires.flow_bound.2 c.requires.flow_bound.3 c.requires.path_in_bounds)

pub put_number-third-requires : goal.put_number-third-requires
put_number-third-requires c = (
  omega (arith, c.requires.flow_bound.0, c.requires.flow_bound.1),
  line_two _ _ _ _ _ _ c.requires.flow_bound.2 c.requires.flow_bound.3 c.requires.path_in_bounds c.put_number-second.ensures.0
      c.put_number-second.ensures.1,
)

pub put_routes-requires : goal.put_routes-requires
put_routes-requires c = (
  c.requires.flow_bound.3,
  line_three _ _ _ _ _ _ c.requires.flow_bound.2 c.requires.flow_bound.3 c.requires.path_in_bounds c.put_number-second.ensures.0
      c.put_number-second.ensures.1 c.put_number-third.ensures.0 c.put_number-third.ensures.1,
)

pub returns : goal.returns
returns c = line_done _ _ _ _ _ _ c.requires.flow_bound.2 c.requires.flow_bound.3 c.requires.path_in_bounds c.put_number-second.ensures.0
    c.put_number-second.ensures.1 c.put_number-third.ensures.0 c.put_number-third.ensures.1
    c.put_routes.ensures.0 c.put_routes.ensures.1
