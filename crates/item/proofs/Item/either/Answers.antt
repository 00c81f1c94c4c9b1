-- `item::Item::either` meets its contract. Assumes nothing.
use Rattle.item.proofs.Backs.{back_low, back_high}
use Rattle.signed.proofs.Fit.{back_of}
use Rattle.signed.proofs.Order.{int_max_z}
use Rattle.item.proofs.Item.either.Goals as goal

pub returns : goal.returns
returns c = rw (
  back_of c.max-2.result c.max-2.type_inv,
  c.max-2.ensures.value,
  back_of c.max.result c.max.type_inv,
  c.max.ensures.value,
  back_low c.args.self c.requires.0,
  back_high c.args.self c.requires.0,
  back_low c.args.y c.requires.1,
  back_high c.args.y c.requires.1,
  int_max_z c.args.self.low c.args.y.low,
  int_max_z c.args.self.high c.args.y.high,
)
