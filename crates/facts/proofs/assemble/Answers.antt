use mathlib.Core.Path.{refl, ◌∙◌}
use Rattle.signed.proofs.Fit.{back_of}
use Rattle.facts.proofs.Filled.{none, more, done}
use Rattle.facts.proofs.UsedLaws.{none as none-used, at_fact, length_lent_lem}
use Rattle.facts.proofs.HeldLaws.{words_held}
use borrow.Author.Rules.{rules}
use Rattle.facts.proofs.assemble.Goals as goal

pub loop-k-init : goal.loop-k-init
loop-k-init c = (none _ _ _ _ (search rules), none-used _ _ refl refl)

pub hold_fact-requires : goal.hold_fact-requires
hold_fact-requires c = record { at_fact = (at_fact c.args.s.now.accepted c.loop-k-test.true c.loop-k.invariant.1, search rules, search rules); lengths_in_bounds = length_lent_lem _ _ _ _ _ c.requires.lengths_in c.loop-k-test.true c.loop-k.invariant.1 }

pub more-used-requires : goal.more-used-requires
more-used-requires c = at_fact c.args.s.now.accepted c.loop-k-test.true c.loop-k.invariant.1

pub loop-k-preserved : goal.loop-k-preserved
loop-k-preserved c = (
  more _ _ _ _ _ _ _ c.loop-k.invariant.0 c.loop-k-test.true
      (back_of c.hold_fact.result c.hold_fact.type_inv ∙ c.hold_fact.ensures),
  c.more-used.ensures,
)

pub returns : goal.returns
returns c = λ lists.
    rw (done _ _ _ _ _ _ c.loop-k.invariant.0 c.loop-k-test.false) (words_held _ _ _ _ _ c.requires.lengths_in lists)
