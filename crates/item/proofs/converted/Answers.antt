-- `item::converted` meets its contract. Assumes nothing.
use mathlib.Core.Path.{◌∙◌, sym}
use Rattle.signed.proofs.Fit.{back, back_of}
use Rattle.item.proofs.Units.{factor_word, factor_bounded, converted_down, converted_stays}
use Rattle.item.proofs.converted.Goals as goal

pub to_word-requires : goal.to_word-requires
to_word-requires c = factor_word _ _ c.factor.ensures

pub times-requires : goal.times-requires
times-requires c = (
  rw (back c.ranges.v) c.requires,
  rw (back_of c.to_word.result c.to_word.type_inv, c.to_word.ensures) (factor_bounded _ _ c.factor.ensures),
)

pub returns-then-a-b : goal.returns-then-a-b
returns-then-a-b c = back_of c.times.result c.times.type_inv
    ∙ rw (
      back c.ranges.v,
      back_of c.to_word.result c.to_word.type_inv,
      c.to_word.ensures,
      c.factor.ensures,
    ) at c.times.ensures
    ∙ sym (converted_down _ _ _ c.if-a-b.true)

pub returns-else-a-b : goal.returns-else-a-b
returns-else-a-b c = back c.ranges.v ∙ sym (converted_stays _ _ _ c.if-a-b.false)
