-- `tree::size_at` meets its contract, and ends: the node number falls. Assumes nothing.
use native.Mathlib.Omega.{arith}
use Rattle.tree.proofs.TreeLaws.{before, lower_node}
use Rattle.tree.proofs.SizeLaws.{size_few, count_none, count_one, count_two}
use Rattle.tree.proofs.+size_at.Goals as goal

pub size_at-requires : goal.size_at-requires
size_at-requires t c =
    let l = (before c.requires c.in-One.ensures).0 in
    (omega (arith, l, c.decreases), lower_node c.requires l)

pub overflow_add-result : goal.overflow_add-result
overflow_add-result t c = omega (arith, size_few (lower_node c.requires (before c.requires c.in-One.ensures).0), c.size_at.ensures)

pub size_at-requires-in-Two : goal.size_at-requires-in-Two
size_at-requires-in-Two t c =
    let l = (before c.requires c.in-Two.ensures).0 in
    (omega (arith, l, c.decreases), lower_node c.requires l)

pub overflow_add-result-in-Two : goal.overflow_add-result-in-Two
overflow_add-result-in-Two t c =
    omega (arith, size_few (lower_node c.requires (before c.requires c.in-Two.ensures).0), c.size_at-in-Two.ensures)

pub size_at-requires-in-Two-2 : goal.size_at-requires-in-Two-2
size_at-requires-in-Two-2 t c =
    let l = (before c.requires c.in-Two.ensures).1.0 in
    (omega (arith, l, c.decreases), lower_node c.requires l)

pub overflow_add-result-in-Two-2 : goal.overflow_add-result-in-Two-2
overflow_add-result-in-Two-2 t c = omega (
  arith,
  size_few (lower_node c.requires (before c.requires c.in-Two.ensures).0),
  size_few (lower_node c.requires (before c.requires c.in-Two.ensures).1.0),
  c.size_at-in-Two.ensures,
  c.size_at-in-Two-2.ensures,
)

pub returns-in-Zero : goal.returns-in-Zero
returns-in-Zero t c = count_none c.requires c.in-Zero.ensures

pub returns-in-One : goal.returns-in-One
returns-in-One t c = rw c.size_at.ensures (count_one c.requires _ c.in-One.ensures)

pub returns-in-Two : goal.returns-in-Two
returns-in-Two t c = rw (c.size_at-in-Two.ensures, c.size_at-in-Two-2.ensures) (count_two c.requires _ _ c.in-Two.ensures)
