-- `item::Item::in_unit` meets its contract. Assumes nothing.
use mathlib.Core.Path.{◌∙◌, ap}
use Rattle.signed.specs.Words.{bounded}
use Rattle.item.proofs.Backs.{back_low, back_high}
use Rattle.item.proofs.Units.{factor_word, factor_bounded}
use Rattle.signed.proofs.Fit.{back_of}
use Rattle.item.proofs.Item.in_unit.Goals as goal

pub to_word-requires : goal.to_word-requires
to_word-requires c = factor_word _ _ c.factor.ensures

pub scaled-requires : goal.scaled-requires
scaled-requires c = (
  ap bounded (back_low c.args.self c.requires) ∙ c.requires.low,
  ap bounded (back_high c.args.self c.requires) ∙ c.requires.high,
  rw (back_of c.to_word.result c.to_word.type_inv, c.to_word.ensures)
      (factor_bounded _ _ c.factor.ensures),
)
