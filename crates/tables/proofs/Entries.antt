-- An array that holds a table's entries from the start.
-- Assumes nothing.
use mathlib.Core.Path.{◌≡◌, refl, sym, ◌∙◌}
use mathlib.Core.Bool.{Bool, true, false, ◌&&◌, ◌||◌}
use mathlib.Core.List.{List}
use mathlib.Core.Logic.{⊎_elim}
use Prim.Native.Nat.{ℕ, ◌+◌, ◌<◌}
use native.Mathlib.Numerals.{add-one}
use native.Mathlib.Omega.{arith}
use native.Mathlib.Decide.{ℕ_discrete}
use lib.ListN.{length, get_or, set, length-set}
use lib.Dec.{eqb}
use lib.Seq.{get_or-set_same, get_or-set_other}
use borrow.Author.Tests.{eq-eqb, ne_eqb}
use Rattle.tables.specs.Inner.{marked}
use Rattle.tables.proofs.Scans.{below_suc}

module _ {A : Type 0} (f : ℕ → A) (d : A) where
  -- one entry more is stored
  pub stored : (t : List A) (n : ℕ) (v : A) → n < length t → ((j : ℕ) → j < n → get_or t j d ≡ f j) → v ≡ f n → (j : ℕ) → j < n + 1
      → get_or (set t n v) j d ≡ f j
  stored t n v l h e j q =
      ⊎_elim (λ p. get_or-set_other t n j v d (λ z. omega (arith, z)) ∙ h j p) (λ z. rw z (get_or-set_same t n v d l ∙ e))
      (below_suc j n (rw add-one at q))

pub or_true : (b : Bool) → (b || true) ≡ true
or_true true = refl
or_true false = refl

pub or_false : (b : Bool) → (b || false) ≡ b
or_false true = refl
or_false false = refl

pub length_marked : (on : Bool) (i : ℕ) (t : List Bool) → length (marked on i t) ≡ length t
length_marked true i t = length-set t i true
length_marked false i t = refl

-- a flag that is set: the flags were g, and are g or "is i"
pub marked_flags : (g : ℕ → Bool) (on : Bool) (i : ℕ) (t : List Bool) → ((a : ℕ) → a < length t → get_or t a false ≡ g a)
    → (a : ℕ) → a < length t → get_or (marked on i t) a false ≡ (g a || (on && eqb i a))
marked_flags g true i t h a l = go (ℕ_discrete i a)
  where
    go : Dec (i ≡ a) → get_or (set t i true) a false ≡ (g a || eqb i a)
    go (yes e) = rw (eq-eqb i a e, e) (get_or-set_same t a true false l ∙ sym (or_true (g a)))
    go (no n) = rw (ne_eqb i a n) (get_or-set_other t i a true false (λ z. n (sym z)) ∙ h a l ∙ sym (or_false (g a)))
marked_flags g false i t h a l = h a l ∙ sym (or_false (g a))
