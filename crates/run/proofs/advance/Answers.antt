-- `run::advance` meets its contract: by the step's kind. Assumes nothing.
use Rattle.run.proofs.StepLaws.{took_operation, took_branch}
use Rattle.words.specs.Record.{record_at}
use mathlib.Core.Path.{sym, ◌∙◌}
use borrow.Author.Tests.{eq-eqb, ne_eqb}
use Rattle.run.proofs.advance.Goals as goal

pub perform_step-requires : goal.perform_step-requires
unfolding record_at
perform_step-requires c = record { steppable = c.requires.steppable; states_in = (c.requires.states_in, eq-eqb _ 0 (sym c.step_word.ensures ∙ c.if-step_word-eq0.true)); memo = c.requires.memo }

pub branch-s-requires : goal.branch-s-requires
unfolding record_at
branch-s-requires c = record { steppable = c.requires.steppable; step_value = ne_eqb _ 0 (λ z. c.if-step_word-eq0.false (c.step_word.ensures ∙ z)) }

pub returns-then-step_word-eq0 : goal.returns-then-step_word-eq0
unfolding record_at
returns-then-step_word-eq0 c = let k = took_operation _ _ _ _ _ _ _ _ _ (eq-eqb _ 0 (sym c.step_word.ensures ∙ c.if-step_word-eq0.true))
    c.perform_step.ensures.value c.perform_step.ensures.states_after in
    record { value = k.0; states_after = k.1; memo_2 = c.perform_step.ensures.memo_2 }

pub returns-else-step_word-eq0 : goal.returns-else-step_word-eq0
unfolding record_at
returns-else-step_word-eq0 c = let k = took_branch _ _ _ _ _ _ _ _ (ne_eqb _ 0 (λ z. c.if-step_word-eq0.false (c.step_word.ensures ∙ z))) c.branch-s.ensures in
    record { value = k.0; states_after = k.1; memo_2 = c.requires.memo }
