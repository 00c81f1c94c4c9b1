-- `item::Item::multiple` meets its contract. Assumes nothing.
use Rattle.item.proofs.Backs.{back_low, back_high}
use Rattle.item.proofs.Products.{turned, straight}
use Rattle.signed.proofs.Fit.{back}
use Rattle.item.proofs.Item.multiple.Goals as goal

pub returns-then-turned : goal.returns-then-turned
returns-then-turned c = rw (
  c.scaled.ensures,
  back c.ranges.n,
  back_low c.args.self c.requires.1,
  back_high c.args.self c.requires.1,
  turned c.args.n c.args.self (rw (back c.ranges.n) at c.if-turned.true),
)

pub returns-else-turned : goal.returns-else-turned
returns-else-turned c = rw (
  c.scaled-else-turned.ensures,
  back c.ranges.n,
  back_low c.args.self c.requires.1,
  back_high c.args.self c.requires.1,
  straight c.args.n c.args.self (rw (back c.ranges.n) at c.if-turned.false),
)
