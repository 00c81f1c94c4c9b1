-- `sheet_nodes::Ranges::keep` meets its contract. Assumes nothing.
use mathlib.Core.Path.{refl}
use mir.Syntax.{w32}
use mir.ValLaws.{to_z-of_z}
use Rattle.sheet_nodes.proofs.Scan.{int_small}
use Rattle.item.proofs.Backs.{back_low, back_high}
use Rattle.sheet_nodes.proofs.Ranges.keep.Goals as goal

pub overflow_cast-self : goal.overflow_cast-self
overflow_cast-self c = rw (back_low c.args.x c.requires.1) (int_small _ c.requires.1.low)

pub overflow_cast-self-2 : goal.overflow_cast-self-2
overflow_cast-self-2 c = rw (back_high c.args.x c.requires.1) (int_small _ c.requires.1.high)

pub returns : goal.returns
returns c = rw (
  back_low c.args.x c.requires.1,
  to_z-of_z w32 _ (int_small _ c.requires.1.low),
  back_high c.args.x c.requires.1,
  to_z-of_z w32 _ (int_small _ c.requires.1.high),
) refl
