-- `reach::mask_of` meets its contract: the mask of the flags passed. Assumes nothing.
use Rattle.std.proofs.Common.{◌≡◌, false, get_or}
use Rattle.reach.specs.Reached.{mask_below}
use Rattle.reach.proofs.mask_of.Given as goal

abbrev pub invariant-loop-q : goal.invariant-loop-q
invariant-loop-q l = l.mask ≡ mask_below (λ i. get_or l.found i false) l.q
