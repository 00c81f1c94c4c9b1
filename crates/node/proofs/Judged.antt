-- A node by its row: what the arms of a match over the kinds need.
-- Assumes nothing.
use mathlib.Core.Path.{◌≡◌, refl, sym, subst, ap₂, ◌∙◌}
use mathlib.Core.Bool.{Bool, true, false, ◌&&◌}
use Prim.Native.Nat.{ℕ, ◌≤◌, ◌<◌}
use lib.IntN.{ℤ}
use lib.Dec.{leb}
use lib.ListN.{get_or-eq_default}
use borrow.Author.Tests.{le-leb, lt-leb}
use Rattle.tables.proofs.Bools.{and_left, and_right, mid_no}
use Rattle.signed.specs.Words.{bounded, num}
use Rattle.words.specs.Record.{numbers_of, unused}
use Rattle.item.specs.declared.Item.{Item}
use Rattle.item.specs.Items.{small}
use Rattle.item.specs.Inner.{Small}
use Rattle.node.specs.declared.Given.{Given}
use Rattle.node.specs.Rows.{Row, unknown, rows, row_of, fits, converts}
use Rattle.node.specs.Judged.{bad, keep, judged, judged_parent, SmallKids}

-- a row that takes what it is given
pub accepted : (r : Row) (g : Given) (t : Bool) → r.takes g ≡ t
    → keep (unused r.used (numbers_of g.words) && t && small (r.gives g)) (r.gives g) ≡ judged r g
unfolding judged fits
accepted r g t e = rw e

pub refused : (r : Row) (g : Given) → r.takes g ≡ false → bad ≡ judged r g
unfolding judged fits keep
refused r g e = rw (e, mid_no (unused r.used (numbers_of g.words)) (small (r.gives g)))

pub row_past : (k : ℕ) → 18 ≤ k → row_of k ≡ unknown
unfolding row_of
row_past k h = get_or-eq_default rows unknown h

pub no_row : (k : ℕ) (g : Given) → row_of k ≡ unknown → bad ≡ judged (row_of k) g
no_row k g e = rw e (refused unknown g refl)

-- a word's number is at most m
pub part_in : {p m : ℕ} (w : ℤ) → p ≡ num w → p ≤ m → leb (num w) m ≡ true
part_in {p} {m} w e h = le-leb (num w) m (subst (λ (z : ℕ). z ≤ m) e h)

pub part_out : {p m : ℕ} (w : ℤ) → p ≡ num w → m < p → leb (num w) m ≡ false
part_out {p} {m} w e h = lt-leb (num w) m (subst (λ (z : ℕ). m < z) e h)

pub small_of : (x : Item) → small x ≡ true → Small x
unfolding small
small_of x e = record { low = and_left (bounded x.low) (bounded x.high) e; high = and_right (bounded x.low) (bounded x.high) e }

pub smalls : (g : Given) → converts g ≡ true → SmallKids g
unfolding converts
smalls g e =
    record { x = small_of g.x (and_left (small g.x) (small g.y) e); y = small_of g.y (and_right (small g.x) (small g.y) e) }

-- ---- a node with children, by the tests of their ranges

module _ (g : Given) {a b : Bool} (p : a ≡ small g.x) (q : b ≡ small g.y) where
  tested : (a && b) ≡ converts g
  unfolding converts
  tested = ap₂ ◌&&◌ p q

  pub kids_small : (a && b) ≡ true → SmallKids g
  kids_small e = smalls g (sym tested ∙ e)

  pub parent_judged : (r : Row) → (a && b) ≡ true → judged r g ≡ judged_parent r g
  unfolding judged_parent
  parent_judged r e = rw (sym tested ∙ e)

  pub parent_bad : (r : Row) → (a && b) ≡ false → bad ≡ judged_parent r g
  unfolding judged_parent
  parent_bad r e = rw (sym tested ∙ e)
