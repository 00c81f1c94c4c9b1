-- `flows::steps_or` meets its contract. Assumes nothing.
use mathlib.Core.Path.{sym, ◌∙◌}
use borrow.Author.Tests.{ltb-true}
use Rattle.signed.proofs.Fit.{back}
use Rattle.flows.proofs.FlowCallLaws.{steps_judged, steps_unjudged}
use Rattle.flows.proofs.steps_or.Goals as goal

pub steps-requires : goal.steps-requires
steps-requires c = rw (c.num.ensures, back c.ranges.flow) (ltb-true _ _ (sym (rw (back c.ranges.flow) at c.exists.ensures) ∙ c.if-exists.true))

pub returns-then-exists : goal.returns-then-exists
returns-then-exists c = rw (c.steps.ensures, c.num.ensures, back c.ranges.flow)
    (sym (steps_judged _ _ _ _ (sym (rw (back c.ranges.flow) at c.exists.ensures) ∙ c.if-exists.true)))

pub returns-else-exists : goal.returns-else-exists
returns-else-exists c = sym (steps_unjudged _ _ _ _ (sym (rw (back c.ranges.flow) at c.exists.ensures) ∙ c.if-exists.false))
