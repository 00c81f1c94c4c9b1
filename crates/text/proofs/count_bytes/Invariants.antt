-- `text::count_bytes` meets its contract. The loop's invariant: with the fields that are left, the bytes are those of the text. Assumes nothing.
use Rattle.text.proofs.WriteLoops.{Counting}
use Rattle.text.proofs.count_bytes.Given as goal

abbrev pub invariant-loop-w : goal.invariant-loop-w
invariant-loop-w l = Counting l.words l.n l.w-index
