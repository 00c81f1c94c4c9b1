-- `predicate::leaf_at` meets its contract. Assumes nothing.
use Rattle.std.proofs.Common.{rules, SFits, w64}
use mathlib.Core.Path.{◌∙◌}
use Rattle.signed.proofs.Fit.{back, back_of}
use Rattle.kinds.proofs.SecondsLaws.{unknown_seconds}
use Rattle.predicate.proofs.leaf_at.Goals as goal

pub returns-in-Ok : goal.returns-in-Ok
returns-in-Ok c body =
    let g : SFits w64 c.words_at-w.result.w1 = search rules in
    let fact = rw (c.in-Ok.ensures, c.num.ensures, back g, c.words_at-w.ensures) at c.fact_sort-fact.ensures in
    back_of c.leaf_of.result c.leaf_of.type_inv
    ∙ rw (c.in-Ok.ensures, c.words_at-w.ensures) at c.leaf_of.ensures _ _ body fact c.requires.leaf_at.1

pub returns-in-Err : goal.returns-in-Err
returns-in-Err c body = unknown_seconds _ c.in-Err.ensures.1 _ _ _ _ _ _ _ body
