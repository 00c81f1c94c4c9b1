-- `kinds::compare` meets its contract: there is no comparison past 5. Assumes nothing.
use Rattle.std.proofs.Common.{rules, SFits, w64}
use Rattle.signed.proofs.Fit.{back}
use Rattle.signed.proofs.Pairs.{holds_unknown}
use Rattle.kinds.proofs.compare.Goals as goal

pub returns-in-Err : goal.returns-in-Err
returns-in-Err c =
    let f : SFits w64 c.args.w.w1 = search rules in
    rw (holds_unknown _ c.args.x c.args.y (rw (c.num.ensures, back f) at c.in-Err.ensures.1))
