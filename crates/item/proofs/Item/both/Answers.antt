-- `item::Item::both` meets its contract. Assumes nothing.
use Rattle.item.proofs.Backs.{back_low, back_high}
use Rattle.signed.proofs.Fit.{back_of}
use Rattle.signed.proofs.Order.{int_min_z}
use Rattle.item.proofs.Item.both.Goals as goal

pub returns : goal.returns
returns c = rw (
  back_of c.min-2.result c.min-2.type_inv,
  c.min-2.ensures.value,
  back_of c.min.result c.min.type_inv,
  c.min.ensures.value,
  back_low c.args.self c.requires.0,
  back_high c.args.self c.requires.0,
  back_low c.args.y c.requires.1,
  back_high c.args.y c.requires.1,
  int_min_z c.args.self.low c.args.y.low,
  int_min_z c.args.self.high c.args.y.high,
)
