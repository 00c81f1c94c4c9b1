use native.Mathlib.Omega.{arith}
use Rattle.path_lines.proofs.Filling.{flow_small, terminal_small, length_some, length_fits, line_fits, filling_none, filling_more, filling_less, filling_full, filling_done}
use Rattle.path_lines.proofs.fill.Goals as goal

pub loop-c-init : goal.loop-c-init
loop-c-init c = filling_none c.requires

pub overflow_sub-out : goal.overflow_sub-out
overflow_sub-out c = c.loop-c.invariant.inside

pub shape_of-path-then-out-n-lt-LONGEST_LINE : goal.shape_of-path-then-out-n-lt-LONGEST_LINE
shape_of-path-then-out-n-lt-LONGEST_LINE c = c.loop-c.invariant.wide

pub shape_of-out-then-out-n-lt-LONGEST_LINE : goal.shape_of-out-then-out-n-lt-LONGEST_LINE
shape_of-out-then-out-n-lt-LONGEST_LINE c = c.loop-c.invariant.size

pub returns-then-out-n-lt-LONGEST_LINE : goal.returns-then-out-n-lt-LONGEST_LINE
returns-then-out-n-lt-LONGEST_LINE c = filling_full c.loop-c.invariant (omega (arith, c.if-out-n-lt-LONGEST_LINE.true))

pub put_line-n-requires : goal.put_line-n-requires
put_line-n-requires c = record {
  flow_bound = (
    flow_small c.loop-c.invariant.stands c.loop-c-test.true,
    terminal_small c.loop-c.invariant.stands c.loop-c-test.true,
    length_some c.loop-c.invariant.stands c.loop-c-test.true,
    length_fits c.loop-c.invariant.stands c.loop-c-test.true,
  );
  path_in_bounds = line_fits c.loop-c.invariant.stands c.loop-c-test.true _ c.loop-c.out c.loop-c.invariant.inside c.if-out-n-lt-LONGEST_LINE.false;
}

pub advance-c-requires : goal.advance-c-requires
advance-c-requires c = record { stands = c.loop-c.invariant.stands; flow_lt_flows = c.loop-c-test.true }

pub loop-c-smaller : goal.loop-c-smaller
loop-c-smaller c = filling_less c.loop-c.invariant c.loop-c-test.true c.if-out-n-lt-LONGEST_LINE.false c.put_line-n.ensures.0 c.put_line-n.ensures.1

pub loop-c-preserved : goal.loop-c-preserved
loop-c-preserved c = filling_more c.loop-c.invariant c.loop-c-test.true c.if-out-n-lt-LONGEST_LINE.false c.put_line-n.ensures.0 c.put_line-n.ensures.1
    c.advance-c.ensures c.advance-c.auto.path

pub shape_of-path : goal.shape_of-path
shape_of-path c = c.loop-c.invariant.wide

pub shape_of-out : goal.shape_of-out
shape_of-out c = c.loop-c.invariant.size

pub returns : goal.returns
returns c = filling_done c.loop-c.invariant c.loop-c-test.false
