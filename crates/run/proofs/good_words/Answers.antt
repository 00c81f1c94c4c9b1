-- `run::good_words` meets its contract. Assumes nothing.
use native.Mathlib.Omega.{arith}
use Rattle.run.proofs.Wants.{no_words, word_more, step_there, bad_word, all_good}
use mathlib.Core.Bool.{not}
use mathlib.Core.Path.{ap}
use Rattle.run.proofs.good_words.Goals as goal

pub first_step-first-requires : goal.first_step-first-requires
first_step-first-requires c = c.requires.flow

pub loop-k-init : goal.loop-k-init
loop-k-init c = no_words _ _ _ _

pub overflow_add-first : goal.overflow_add-first
overflow_add-first c = omega (
  arith,
  step_there c.args.s.now.accepted c.requires.flow c.first_step-first.ensures c.requires.words_len _ c.loop-k-test.true,
  c.args.s.now.accepted.sized.limits.steps,
)

pub outcomes_at-requires : goal.outcomes_at-requires
outcomes_at-requires c = (step_there c.args.s.now.accepted c.requires.flow c.first_step-first.ensures c.requires.words_len _ c.loop-k-test.true)

pub returns-then-not-good_wanted : goal.returns-then-not-good_wanted
returns-then-not-good_wanted c = bad_word _ _ _ _ c.first_step-first.ensures _ c.requires.words_len c.loop-k-test.true c.outcomes_at.ensures
    c.wanted_at.ensures c.good_wanted.ensures (ap not c.if-not-good_wanted.true)

pub loop-k-preserved : goal.loop-k-preserved
loop-k-preserved c = word_more _ _ _ _ _ c.outcomes_at.ensures c.wanted_at.ensures c.good_wanted.ensures (ap not c.if-not-good_wanted.false)
    c.loop-k-test.true c.loop-k.invariant

pub returns : goal.returns
returns c = all_good _ _ _ _ c.first_step-first.ensures c.requires.words_len c.loop-k-test.false c.loop-k.invariant
