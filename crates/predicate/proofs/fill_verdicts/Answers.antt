use Rattle.node.specs.Rows.{bit}
use Rattle.words.specs.Record.{record_at}
use Rattle.signed.proofs.Fit.{back_of}
use lib.Seq.{length-take-le}
use mathlib.Core.Path.{sym, ap, ◌∙◌}
use Rattle.predicate.proofs.VerdictLaws.{none, more, done, judging}
use borrow.Author.Rules.{rules}
use Rattle.predicate.proofs.fill_verdicts.Goals as goal

pub loop-k-init : goal.loop-k-init
loop-k-init c = none _ _ _ _ _ (search rules)

pub slice_bounds-is_true-end-in-loop-k : goal.slice_bounds-is_true-end-in-loop-k
slice_bounds-is_true-end-in-loop-k c = sym (length-take-le _ _ (search rules))

pub is_true-holds-requires : goal.is_true-holds-requires
unfolding record_at
is_true-holds-requires c = rw c.number-when.ensures (judging c.args.s.now.accepted c.requires.0 c.loop-k.invariant c.loop-k-test.true)

pub loop-k-preserved : goal.loop-k-preserved
unfolding record_at
loop-k-preserved c = more _ _ _ _ _ _ _ c.loop-k.invariant c.loop-k-test.true
    (back_of c.bit.result c.bit.type_inv ∙ c.bit.ensures ∙ ap bit (rw c.number-when.ensures at c.is_true-holds.ensures))

pub returns : goal.returns
returns c = done _ _ _ _ _ c.loop-k.invariant c.loop-k-test.false
