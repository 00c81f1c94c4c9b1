-- Tests over the words from a place on, word by word: what a loop over the elements of a list keeps.
-- Assumes nothing.
use mathlib.Core.Path.{◌≡◌, refl, sym, ap, ap₂, ◌∙◌}
use mathlib.Core.Bool.{Bool, true, false, ◌&&◌, ◌||◌}
use mathlib.Core.List.{List, [], ◌∷◌}
use Prim.Native.Nat.{ℕ, zero, suc, ◌+◌, ◌-◌, ◌≤◌, ◌<◌}
use lib.IntN.{ℤ, pos}
use lib.ListN.{length, get_or}
use native.Mathlib.Omega.{arith}
use Rattle.tables.specs.Lists.{all_of, any_of, words_from}
use Rattle.tables.proofs.Bools.{and_left, and_right}

pub length_from : (t : List ℤ) (a n : ℕ) → length (words_from t a n) ≡ n
unfolding words_from
length_from t a zero = refl
length_from t a (suc n) = ap suc (length_from t (suc a) n)

from_zero : (t : List ℤ) (a n : ℕ) → n ≡ 0 → words_from t a n ≡ []
unfolding words_from
from_zero t a n e = rw e

from_suc : (t : List ℤ) (a b n m : ℕ) → n ≡ suc m → b ≡ suc a → words_from t a n ≡ (get_or t a (pos 0) ∷ words_from t b m)
unfolding words_from
from_suc t a b n m e d = rw (e, d)

-- a test over the n words from place a on comes to the same over those from the j-th on
pub record Rest (over : (ℤ → Bool) → List ℤ → Bool) (f : ℤ → Bool) (t : List ℤ) (a n j : ℕ) : Type 0 where
  pub room : j ≤ n
  pub same : over f (words_from t (a + j) (n - j)) ≡ over f (words_from t a n)

pub rest_zero : {over : (ℤ → Bool) → List ℤ → Bool} {f : ℤ → Bool} {t : List ℤ} {a n : ℕ} → Rest over f t a n 0
rest_zero {over} {f} {t} {a} {n} =
    record { room = omega arith; same = ap₂ (λ (b m : ℕ). over f (words_from t b m)) (omega arith) (omega arith) }

module _ {over : (ℤ → Bool) → List ℤ → Bool} {f : ℤ → Bool} {t : List ℤ} {a n j : ℕ} (r : Rest over f t a n j) where
  -- at the j-th word
  rest_at : j < n → over f (get_or t (a + j) (pos 0) ∷ words_from t (a + (j + 1)) (n - (j + 1))) ≡ over f (words_from t a n)
  rest_at l = ap (over f) (sym (from_suc t (a + j) (a + (j + 1)) (n - j) (n - (j + 1)) (omega arith) (omega arith))) ∙ r.same

  -- past the last
  rest_end : n ≤ j → over f [] ≡ over f (words_from t a n)
  rest_end l = ap (over f) (sym (from_zero t (a + j) (n - j) (omega arith))) ∙ r.same

skip_true : (b c : Bool) → b ≡ true → (b && c) ≡ c
skip_true b c e = rw e

skip_false : (b c : Bool) → b ≡ false → (b || c) ≡ c
skip_false b c e = rw e

module _ {f : ℤ → Bool} {t : List ℤ} {a n j : ℕ} where
  pub all_more : Rest all_of f t a n j → j < n → f (get_or t (a + j) (pos 0)) ≡ true → Rest all_of f t a n (j + 1)
  unfolding all_of
  all_more r l e =
      record { room = omega arith; same = sym (skip_true _ (all_of f (words_from t (a + (j + 1)) (n - (j + 1)))) e) ∙ rest_at r l }

  pub all_stops : Rest all_of f t a n j → j < n → f (get_or t (a + j) (pos 0)) ≡ false → false ≡ all_of f (words_from t a n)
  unfolding all_of
  all_stops r l e = ap (λ (b : Bool). b && all_of f (words_from t (a + (j + 1)) (n - (j + 1)))) (sym e) ∙ rest_at r l

  pub all_ends : Rest all_of f t a n j → n ≤ j → true ≡ all_of f (words_from t a n)
  unfolding all_of
  all_ends r l = rest_end r l

  pub any_more : Rest any_of f t a n j → j < n → f (get_or t (a + j) (pos 0)) ≡ false → Rest any_of f t a n (j + 1)
  unfolding any_of
  any_more r l e =
      record { room = omega arith; same = sym (skip_false _ (any_of f (words_from t (a + (j + 1)) (n - (j + 1)))) e) ∙ rest_at r l }

  pub any_stops : Rest any_of f t a n j → j < n → f (get_or t (a + j) (pos 0)) ≡ true → true ≡ any_of f (words_from t a n)
  unfolding any_of
  any_stops r l e = ap (λ (b : Bool). b || any_of f (words_from t (a + (j + 1)) (n - (j + 1)))) (sym e) ∙ rest_at r l

  pub any_ends : Rest any_of f t a n j → n ≤ j → false ≡ any_of f (words_from t a n)
  unfolding any_of
  any_ends r l = rest_end r l

-- what holds of every word of a list holds of each
pub all_word : (f : ℤ → Bool) (t : List ℤ) (a n : ℕ) → all_of f (words_from t a n) ≡ true → (j : ℕ) → j < n → f (get_or t (a + j) (pos 0)) ≡ true
unfolding all_of words_from
all_word f t a zero p j l = absurd (omega arith)
all_word f t a (suc n) p zero l =
    let e : a + 0 ≡ a = omega arith in rw e (and_left (f (get_or t a (pos 0))) (all_of f (words_from t (suc a) n)) p)
all_word f t a (suc n) p (suc j) l =
    let e : a + suc j ≡ suc a + j = omega arith in
    rw e (all_word f t (suc a) n (and_right (f (get_or t a (pos 0))) (all_of f (words_from t (suc a) n)) p) j (omega arith))

-- the j-th of them
pub from_at : (t : List ℤ) (a n j : ℕ) → j < n → get_or (words_from t a n) j (pos 0) ≡ get_or t (a + j) (pos 0)
unfolding words_from
from_at t a zero j l = absurd (omega arith)
from_at t a (suc n) zero l = let e : a + 0 ≡ a = omega arith in rw e
from_at t a (suc n) (suc j) l = let e : a + suc j ≡ suc a + j = omega arith in rw e (from_at t (suc a) n j (omega arith))
