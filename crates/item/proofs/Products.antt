-- The range of a product, by the sign of the literal.
-- Assumes nothing.
use mathlib.Core.Path.{◌≡◌, refl}
use mathlib.Core.Bool.{Bool, true, false, cond}
use lib.IntN.{ℤ, pos, ◌*ℤ◌}
use lib.Signed.{lt_z}
use Rattle.signed.proofs.Parts.{lt_true, lt_false}
use Rattle.signed.proofs.Bounds.{In, in_times, in_times_down}
use Rattle.item.specs.declared.Item.{Item}
use Rattle.item.specs.Items.{span, multiple}

pub turned : (n : ℤ) (x : Item) → lt_z n (pos 0) ≡ true → multiple n x ≡ span x.sort (x.high *ℤ n) (x.low *ℤ n)
unfolding multiple
turned n x e = rw e

pub straight : (n : ℤ) (x : Item) → lt_z n (pos 0) ≡ false → multiple n x ≡ span x.sort (x.low *ℤ n) (x.high *ℤ n)
unfolding multiple
straight n x e = rw e

-- what holds of both orders of the ends
by_sign : (Q : Item → Type 0) (n : ℤ) (x : Item) → (lt_z n (pos 0) ≡ true → Q (span x.sort (x.high *ℤ n) (x.low *ℤ n)))
    → (lt_z n (pos 0) ≡ false → Q (span x.sort (x.low *ℤ n) (x.high *ℤ n)))
    → Q (multiple n x)
unfolding multiple
by_sign Q n x f g = go (lt_z n (pos 0)) refl
  where
    go : (t : Bool) → lt_z n (pos 0) ≡ t
        → Q (cond t (span x.sort (x.high *ℤ n) (x.low *ℤ n)) (span x.sort (x.low *ℤ n) (x.high *ℤ n)))
    go true e = f e
    go false e = g e

-- the product of a value in the range is in the product's range
pub multiple_in : (n : ℤ) (x : Item) (v : ℤ) → In x.low v x.high → In (multiple n x).low (v *ℤ n) (multiple n x).high
multiple_in n x v i =
    by_sign (λ z. In z.low (v *ℤ n) z.high) n x (λ e. in_times_down (lt_true n (pos 0) e) i) (λ e. in_times (lt_false n (pos 0) e) i)

pub multiple_sort : (n : ℤ) (x : Item) → (multiple n x).sort ≡ x.sort
multiple_sort n x = by_sign (λ z. z.sort ≡ x.sort) n x (λ e. refl) (λ e. refl)
