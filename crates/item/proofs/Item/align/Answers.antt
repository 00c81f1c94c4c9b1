-- `item::Item::align` meets its contract. Assumes nothing.
use mathlib.Core.Path.{◌∙◌, sym}
use Rattle.item.proofs.Units.{align_down, align_stays}
use Rattle.item.proofs.Item.align.Goals as goal

pub returns-then-larger : goal.returns-then-larger
returns-then-larger c = c.in_unit.ensures ∙ sym (align_down _ _ c.if-larger.true)

pub returns-else-larger : goal.returns-else-larger
returns-else-larger c = sym (align_stays _ _ c.if-larger.false)
