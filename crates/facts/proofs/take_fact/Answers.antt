-- `facts::take_fact` meets its contract. Assumes nothing.
use Rattle.signed.proofs.Fit.{back, back_of}
use Rattle.facts.proofs.FaultLaws.{taken_default, taken_value}
use mathlib.Core.Path.{sym, ◌∙◌}
use Rattle.facts.proofs.take_fact.Goals as goal

pub returns-then-absent : goal.returns-then-absent
returns-then-absent c = back_of c.word.result c.word.type_inv
    ∙ c.word.ensures
    ∙ sym (taken_default _ _ _ _ (sym (rw (back c.ranges.g) at c.same-absent.ensures) ∙ c.if-absent.true))

pub returns-else-absent : goal.returns-else-absent
returns-else-absent c = back c.ranges.x ∙ sym (taken_value _ _ _ _ (sym (rw (back c.ranges.g) at c.same-absent.ensures) ∙ c.if-absent.false))
