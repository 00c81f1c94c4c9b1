-- `run::outcomes_at` meets its contract: by the step's kind. Assumes nothing.
use Rattle.words.specs.Record.{record_at}
use Rattle.run.proofs.Wants.{branch_none, operation_outcomes, operation_there}
use Rattle.run.proofs.outcomes_at.Goals as goal

pub returns-then-step_word-ne0 : goal.returns-then-step_word-ne0
unfolding record_at
returns-then-step_word-ne0 c = branch_none _ _ _ _ c.step_word.ensures c.if-step_word-ne0.true

pub outcomes_of-requires : goal.outcomes_of-requires
unfolding record_at
outcomes_of-requires c = rw c.step_word-2.ensures
    (operation_there _ _ _ c.args.s.now.accepted c.requires _ c.step_word.ensures c.if-step_word-ne0.false)

pub returns : goal.returns
unfolding record_at
returns c = rw (c.outcomes_of.ensures, c.step_word-2.ensures)
    (operation_outcomes _ _ _ _ c.step_word.ensures c.if-step_word-ne0.false)
