-- `item::Item::negation` meets its contract. Assumes nothing.
use Rattle.item.proofs.Backs.{one_bounded, back_low, back_high}
use Rattle.item.proofs.Item.negation.Goals as goal

pub minus-requires : goal.minus-requires
minus-requires c = (one_bounded, rw (back_high c.args.self c.requires) c.requires.high)

pub minus-requires-2 : goal.minus-requires-2
minus-requires-2 c = (one_bounded, rw (back_low c.args.self c.requires) c.requires.low)
