-- `predicate::can_hold` meets its contract: the header is the sheet's own. Assumes nothing.
use Rattle.std.proofs.Common.{rules, SFits, w64}
use Rattle.signed.proofs.Fit.{back}
use Rattle.predicate.proofs.BaseLaws.{range_at}
use Rattle.predicate.proofs.can_hold.Goals as goal

pub item_at-x-requires : goal.item_at-x-requires
item_at-x-requires c = range_at c.args.s.now.accepted c.requires

pub returns : goal.returns
returns c =
    let f : SFits w64 c.item_at-x.result.low = search rules in
    let g : SFits w64 c.item_at-x.result.high = search rules in
    rw (c.args.s.now.accepted.header, c.within.ensures, back f, back g, c.item_at-x.ensures)
