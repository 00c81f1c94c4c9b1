use mathlib.Core.Path.{◌≡◌, sym, ◌∙◌}
use native.Mathlib.Omega.{arith}
use Rattle.std.specs.Prelude.{Some, None, Err}
use Rattle.answer.specs.Answers.{Count}
use Rattle.answer.specs.declared.Refusal.TheVariants.{Line}
use Rattle.std.proofs.lemmas.Result.{err_from_is_err_and}
use Rattle.text.proofs.ReadLoops.{counting_more, counting_bad, counting_done}
use Rattle.text.proofs.count_words.Goals as goal

pub returns-in_err-at : goal.returns-in_err-at
returns-in_err-at c = let p = err_from_is_err_and c.from_residual.result c.from_residual.ensures.1 in
    let bad : c.line_at.result ≡ None = grind arith in
    let refused : ◌≡◌ {A = Count} (Err c.in_err-at.field-0.0) (Err (Line c.loop-at.k)) = sym c.in_err-at.was ∙ rw bad at c.ok_or.ensures.value in
    rw (p.1, p.2)
    (refused
    ∙ sym (counting_bad c.args.text.now c.loop-at.at c.loop-at.k c.loop-at-test.true c.loop-at.invariant (sym c.line_at.ensures ∙ bad)))

pub loop-at-smaller : goal.loop-at-smaller
loop-at-smaller c = let read : c.line_at.result ≡ Some c.in_ok-at.at = grind arith in
    let more = counting_more c.args.text.now c.loop-at.at c.loop-at.k c.in_ok-at.at c.loop-at.invariant (sym c.line_at.ensures ∙ read) in
    omega (arith, c.loop-at-test.true, more.0)

pub loop-at-preserved : goal.loop-at-preserved
loop-at-preserved c = let read : c.line_at.result ≡ Some c.in_ok-at.at = grind arith in
    (counting_more c.args.text.now c.loop-at.at c.loop-at.k c.in_ok-at.at c.loop-at.invariant (sym c.line_at.ensures ∙ read)).1

pub returns : goal.returns
returns c = sym (counting_done c.args.text.now c.loop-at.at c.loop-at.k c.loop-at-test.false c.loop-at.invariant)
