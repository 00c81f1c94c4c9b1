-- `item::Item::small` meets its contract. Assumes nothing.
use Rattle.std.proofs.Common.{rules, SFits, w64}
use Rattle.item.specs.Items.{small}
use Rattle.signed.proofs.Fit.{back}
use Rattle.item.proofs.Item.small.Goals as goal

pub returns : goal.returns
unfolding small
returns c =
    let f : SFits w64 c.args.self.low = search rules in
    let g : SFits w64 c.args.self.high = search rules in
    rw (c.bounded.ensures, c.bounded-2.ensures, back f, back g)
