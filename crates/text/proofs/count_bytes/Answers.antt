use Prim.Native.Nat.{◌+◌}
use native.Mathlib.Omega.{arith}
use Rattle.text.proofs.WriteLoops.{Counting, text_most, counting_more, counting_done, word_told}
use Rattle.text.proofs.count_bytes.Goals as goal
use Rattle.text.proofs.count_bytes.Goals.{After-size}

counted : (c : After-size) → Counting c.args.words.now (c.loop-w.n + (c.size.result + 1)) (c.loop-w.w-index + 1)
counted c = rw (c.size.ensures, word_told c.args.words.now c.requires c.loop-w.w-index c.loop-w-test.true)
    (counting_more c.args.words.now c.requires c.loop-w.w-index c.loop-w-test.true c.loop-w.n c.loop-w.invariant)

pub overflow_add-n : goal.overflow_add-n
overflow_add-n c = omega (arith, counted c, text_most c.args.words.now c.requires, c.well_formed.0.1)

pub overflow_add-n-in-loop-w : goal.overflow_add-n-in-loop-w
overflow_add-n-in-loop-w c = omega (arith, counted c, text_most c.args.words.now c.requires, c.well_formed.0.1)

pub loop-w-preserved : goal.loop-w-preserved
loop-w-preserved c = counted (goal.at.loop-w-preserved c).After-size

pub returns : goal.returns
returns c = counting_done c.args.words.now c.requires c.loop-w.n c.loop-w.w-index c.loop-w-test.false c.loop-w.invariant
