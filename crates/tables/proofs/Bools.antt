-- Laws of tests joined by "and", "or" and "not".
-- Assumes nothing.
use mathlib.Core.Path.{◌≡◌, refl, sym, ◌∙◌}
use mathlib.Core.Bool.{Bool, true, false, not, ◌&&◌, ◌||◌}
use mathlib.Core.Logic.{◌⊎◌, inl, inr, ◌↔◌}
use Prim.Native.Nat.{ℕ, ◌≤◌, ◌<◌}
use lib.Dec.{leb, ltb, eqb}
use borrow.Author.Tests.{leb-true, le-leb, ltb-true, lt-ltb, eqb-true, eq-eqb}

pub bool_cases : (b : Bool) → (b ≡ true) ⊎ (b ≡ false)
bool_cases true = inl refl
bool_cases false = inr refl

pub true_false : {b : Bool} → b ≡ true → b ≡ false → ⊥
true_false p q = let z : ◌≡◌ {A = Bool} true false = sym p ∙ q in absurd_of z
  where
    is_true_lem : Bool → Type 0
    is_true_lem true = Unit {0}
    is_true_lem false = ⊥

    absurd_of : true ≡ false → ⊥
    absurd_of z = mathlib.Core.Path.subst is_true_lem z tt

-- two tests that hold together are equal
pub same_tests : (a b : Bool) → (a ≡ true → b ≡ true) → (b ≡ true → a ≡ true) → a ≡ b
same_tests true b f g = sym (f refl)
same_tests false true f g = g refl
same_tests false false f g = refl

pub and_true : (a b : Bool) → a ≡ true → b ≡ true → (a && b) ≡ true
and_true a b p q = rw (p, q)

pub and_left : (a b : Bool) → (a && b) ≡ true → a ≡ true
and_left true b p = refl
and_left false b p = p

pub and_right : (a b : Bool) → (a && b) ≡ true → b ≡ true
and_right true b p = p
and_right false true p = refl
and_right false false p = p

pub and_false_left : (a b : Bool) → a ≡ false → (a && b) ≡ false
and_false_left a b p = rw p

pub and_false_right : (a b : Bool) → b ≡ false → (a && b) ≡ false
and_false_right true b p = p
and_false_right false b p = refl

pub or_cases : (a b : Bool) → (a || b) ≡ true → (a ≡ true) ⊎ (b ≡ true)
or_cases true b p = inl refl
or_cases false b p = inr p

pub or_true_left : (a b : Bool) → a ≡ true → (a || b) ≡ true
or_true_left a b p = rw p

pub or_true_right : (a b : Bool) → b ≡ true → (a || b) ≡ true
or_true_right true b p = refl
or_true_right false b p = p

pub or_false_left : (a b : Bool) → (a || b) ≡ false → a ≡ false
or_false_left true b p = p
or_false_left false b p = refl

pub or_false_right : (a b : Bool) → (a || b) ≡ false → b ≡ false
or_false_right true true p = p
or_false_right true false p = refl
or_false_right false b p = p

pub not_flip : (a : Bool) → not a ≡ true → a ≡ false
not_flip true p = sym p
not_flip false p = refl

pub not_of_false : (a : Bool) → a ≡ false → not a ≡ true
not_of_false a p = rw p

-- a test in a chain, as the fact that it stands for: `simp tests at p` takes a chain of tests apart
pub and_iff : (a b : Bool) → ((a && b) ≡ true) ↔ ((a ≡ true) × (b ≡ true))
and_iff a b = (λ p. (and_left a b p, and_right a b p), λ q. and_true a b q.0 q.1)

pub leb_iff : (a b : ℕ) → (leb a b ≡ true) ↔ (a ≤ b)
leb_iff a b = (leb-true a b, le-leb a b)

pub ltb_iff : (a b : ℕ) → (ltb a b ≡ true) ↔ (a < b)
ltb_iff a b = (ltb-true a b, lt-ltb a b)

pub eqb_iff : (a b : ℕ) → (eqb a b ≡ true) ↔ (a ≡ b)
eqb_iff a b = (eqb-true a b, eq-eqb a b)

pub ruleset tests = (and_iff, leb_iff, ltb_iff, eqb_iff)

pub and_yes : (a : Bool) → (a && true) ≡ a
and_yes true = refl
and_yes false = refl

pub and_no : (a : Bool) → (a && false) ≡ false
and_no true = refl
and_no false = refl

-- a test in the middle of a chain that is known
pub mid_yes : (a b : Bool) → (a && true && b) ≡ (a && b)
mid_yes true b = refl
mid_yes false b = refl

pub mid_no : (a b : Bool) → (a && false && b) ≡ false
mid_no true b = refl
mid_no false b = refl

pub or_assoc : (a b c : Bool) → (a || b || c) ≡ (a || (b || c))
or_assoc true b c = refl
or_assoc false b c = refl
