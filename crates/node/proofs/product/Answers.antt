-- `node::product` meets its contract. Assumes nothing.
use Rattle.std.proofs.Common.{rules, SFits, w64}
use mathlib.Core.Path.{sym, ◌∙◌}
use Rattle.signed.proofs.Fit.{back}
use Rattle.node.specs.Rows.{product}
use Rattle.node.proofs.Judged.{refused}
use Rattle.node.proofs.product.Goals as goal

pub returns-else-bounded : goal.returns-else-bounded
returns-else-bounded c =
    let f : SFits w64 c.args.g.words.w2 = search rules in
    refused product c.args.g (rw (sym (rw (back f) at c.bounded.ensures) ∙ c.if-bounded.false))
