-- `listing::descend` meets its contract: the same walk and the same writes are still to come, until the walk is finished. Assumes nothing.
use Prim.Native.Nat.{◌-◌}
use lib.ListN.{length}
use Rattle.walks.proofs.Walks.{Descending}
use Rattle.listing.proofs.descend.Given as goal

abbrev pub invariant-loop-w : goal.invariant-loop-w
invariant-loop-w l = Descending l.s.sheet.words.now l.s.sheet.header l.initial.path l.initial.w l.path l.w

abbrev pub decreases-loop-w : goal.decreases-loop-w
decreases-loop-w l = length l.initial.path - l.w.length
