-- `node::literal` meets its contract. Assumes nothing.
use Rattle.std.proofs.Common.{rules, SFits, w64}
use Rattle.signed.proofs.Fit.{back}
use Rattle.node.specs.Rows.{literal}
use Rattle.node.proofs.Judged.{accepted, refused, part_in, part_out}
use Rattle.node.proofs.literal.Goals as goal

pub returns-then-m-part : goal.returns-then-m-part
returns-then-m-part c =
    let g : SFits w64 c.args.g.words.w2 = search rules in
    refused (literal c.args.used c.args.low c.args.high c.args.t c.args.m) c.args.g
    (rw (part_out c.args.g.words.w2 (rw (back g) at c.num-part.ensures) c.if-m-part.true))

pub returns : goal.returns
returns c =
    let f : SFits w64 c.args.g.words.w1 = search rules in
    let g : SFits w64 c.args.g.words.w2 = search rules in
    rw (c.checked.ensures, c.within.ensures, c.num-part.ensures, back f, back g, back c.ranges.low, back c.ranges.high)
    (accepted (literal c.args.used c.args.low c.args.high c.args.t c.args.m)
    c.args.g _ (rw (part_in c.args.g.words.w2 (rw (back g) at c.num-part.ensures) c.if-m-part.false)))
