-- `listing::seek` meets its contract: what follows in the list of paths is told by what follows from where the walk stands. Assumes nothing.
use Rattle.listing.proofs.Seeking.{Seeking}
use lib.ListN.{length}
use Prim.Native.Nat.{◌-◌}
use Rattle.listing.proofs.seek.Given as goal

abbrev pub invariant-loop-w : goal.invariant-loop-w
invariant-loop-w l = Seeking l.s.sheet.words.now l.s.sheet.header l.path l.initial.w l.w l.turn

abbrev pub decreases-loop-w : goal.decreases-loop-w
decreases-loop-w l = length l.path - l.w.length
