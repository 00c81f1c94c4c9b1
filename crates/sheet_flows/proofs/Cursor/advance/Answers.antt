-- `sheet_flows::Cursor::advance` meets its contract. Assumes nothing.
use Rattle.sheet_flows.proofs.Routes.{left_over, last_inside}
use native.Mathlib.Omega.{arith}
use borrow.Author.Tests.{eq-eqb, ne_eqb}
use Rattle.sheet_flows.proofs.Cursor.advance.Goals as goal

pub first_flow-requires : goal.first_flow-requires
first_flow-requires c = c.requires.ready.sized.limits

pub overflow_add-first_flow : goal.overflow_add-first_flow
overflow_add-first_flow c = let l = left_over _ _ c.args.self c.args.i c.requires c.if-i-self.true in
    omega (arith, c.requires.ready.sized.limits, c.requires.ready.sized.long, c.first_flow.ensures)

pub number-n-requires : goal.number-n-requires
number-n-requires c = let l = left_over _ _ c.args.self c.args.i c.requires c.if-i-self.true in
    (omega arith, omega (arith, c.requires.ready.sized.limits, c.requires.ready.sized.long, c.first_flow.ensures))

pub overflow_add-result : goal.overflow_add-result
overflow_add-result c = let l = left_over _ _ c.args.self c.args.i c.requires c.if-i-self.true in
    omega (arith, c.requires.ready.sized.limits, c.requires.ready.sized.long)

pub overflow_add-result-then-i-self : goal.overflow_add-result-then-i-self
overflow_add-result-then-i-self c = let l = last_inside _ _ c.args.self c.args.i c.requires c.if-i-self.true in
    omega (arith, c.requires.ready.sized.limits.steps, rw c.first_flow.ensures at c.number-n.ensures)

pub returns-then-i-self : goal.returns-then-i-self
returns-then-i-self c = rw (eq-eqb _ _ c.if-i-self.true, c.number-n.ensures, c.first_flow.ensures)

pub returns-else-i-self : goal.returns-else-i-self
returns-else-i-self c = rw (ne_eqb _ _ c.if-i-self.false)
