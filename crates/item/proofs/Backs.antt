-- The ends of a small range as words.
-- Assumes nothing.
use mathlib.Core.Path.{◌≡◌, refl}
use mathlib.Core.Bool.{true}
use lib.IntN.{pos}
use Rattle.signed.specs.Words.{bounded, within}
use mir.Syntax.{w64}
use mir.Val.{to_z, of_z}
use Rattle.signed.proofs.Bounds.{small_true}
use Rattle.signed.proofs.Fit.{back, fits_small}
use Rattle.item.specs.declared.Item.{Item}
use Rattle.item.specs.Inner.{Small}

pub back_low : (x : Item) → Small x → to_z w64 (of_z w64 x.low) ≡ x.low
back_low x b = back (fits_small (small_true x.low b.low))

pub back_high : (x : Item) → Small x → to_z w64 (of_z w64 x.high) ≡ x.high
back_high x b = back (fits_small (small_true x.high b.high))

pub one_bounded : bounded (pos 1) ≡ true
unfolding bounded within
one_bounded = refl
