-- `node::comparison` meets its contract: there is no comparison past 5. Assumes nothing.
use Rattle.std.proofs.Common.{rules, SFits, w64}
use borrow.Author.Tests.{lt-leb}
use Rattle.signed.specs.Words.{num}
use Rattle.signed.proofs.Fit.{back}
use Rattle.node.specs.Rows.{comparison}
use Rattle.node.proofs.Judged.{refused}
use Rattle.node.proofs.comparison.Goals as goal

pub returns-in-Err : goal.returns-in-Err
returns-in-Err c =
    let f : SFits w64 c.args.g.words.w1 = search rules in
    let p = rw (c.num.ensures, back f) at c.in-Err.ensures.1 in
    refused comparison c.args.g (rw (lt-leb (num c.args.g.words.w1) 5 p))
