-- `ladder::facts_lent` meets its contract: the slices against what all facts use. Assumes nothing.
use mathlib.Core.Path.{sym, ◌∙◌}
use Rattle.ladder.proofs.LentLaws.{lent_test, all_lent}
use Rattle.ladder.proofs.facts_lent.Goals as goal

pub returns : goal.returns
returns c =
    let e = lent_test _ _ _ _ c.used_by_all-used.ensures in
    record { value = e; all = λ p. all_lent (sym e ∙ p) }
