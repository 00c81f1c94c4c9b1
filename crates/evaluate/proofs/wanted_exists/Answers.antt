-- `evaluate::wanted_exists` meets its contract: the operation exists, then the outcome. Assumes nothing.
use mathlib.Core.Path.{sym, ◌∙◌}
use borrow.Author.Tests.{ltb-true}
use Rattle.signed.proofs.Fit.{back}
use Rattle.calls.specs.Evaluation.{wanted_exists}
use Rattle.evaluate.proofs.wanted_exists.Goals as goal

pub returns-then-not-exists : goal.returns-then-not-exists
unfolding wanted_exists
returns-then-not-exists c = rw (sym (rw (back c.ranges.operation) at c.exists.ensures) ∙ c.if-not-exists.true)

pub outcomes_of-n-requires : goal.outcomes_of-n-requires
outcomes_of-n-requires c = rw (c.num.ensures, back c.ranges.operation)
    (ltb-true _ _ (sym (rw (back c.ranges.operation) at c.exists.ensures) ∙ c.if-not-exists.false))

pub returns : goal.returns
unfolding wanted_exists
returns c = rw (
  sym (rw (back c.ranges.operation) at c.exists.ensures) ∙ c.if-not-exists.false,
  c.good_wanted.ensures,
  c.wanted_of.ensures,
  c.outcomes_of-n.ensures,
  c.num.ensures,
  back c.ranges.operation,
  back c.ranges.wanted,
)
