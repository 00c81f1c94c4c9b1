-- `kinds::leaf_from` meets its contract: a kind past 17 comes to 0. Assumes nothing.
use mathlib.Core.Path.{◌∙◌}
use Rattle.signed.proofs.Fit.{back_of}
use Rattle.kinds.proofs.SecondsLaws.{unknown_seconds}
use Rattle.kinds.proofs.leaf_from.Goals as goal

pub returns-in-Ok : goal.returns-in-Ok
returns-in-Ok c facts f body t r = back_of c.leaf_of.result c.leaf_of.type_inv ∙ rw c.in-Ok.ensures at c.leaf_of.ensures facts f body t r

pub returns-in-Err : goal.returns-in-Err
returns-in-Err c facts f body t r = unknown_seconds _ c.in-Err.ensures.1 _ _ _ _ _ _ _ body
