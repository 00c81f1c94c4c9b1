use mathlib.Core.Path.{◌≡◌, sym, ◌∙◌}
use native.Mathlib.Omega.{arith}
use Rattle.text.proofs.LineSteps.{so_far_bad, so_far_done}
use Rattle.text.proofs.line_at.Goals as goal

pub returns-in_err-next : goal.returns-in_err-next
returns-in_err-next c = rw c.from_residual.ensures
    (sym (so_far_bad c.args.text.now c.args.at c.loop-j.next c.loop-j.j c.loop-j-test.true c.loop-j.invariant
    (rw c.ending.ensures at (sym c.field_at.ensures ∙ c.in_err-next.was))))

pub returns : goal.returns
returns c = let eight : c.loop-j.j ≡ 8 = omega arith in
    sym (so_far_done c.args.text.now c.args.at c.loop-j.next (rw eight at c.loop-j.invariant))
