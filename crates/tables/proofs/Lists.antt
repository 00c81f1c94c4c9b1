-- Laws on short lists of numbers.
-- Assumes nothing.
use mathlib.Core.Path.{◌≡◌, refl, sym, ap₂, ◌∙◌}
use mathlib.Core.Bool.{Bool, true, false, ◌&&◌}
use mathlib.Core.List.{List, [], ◌∷◌, ◌++◌}
use Prim.Native.Nat.{ℕ, zero, suc, ◌<◌}
use lib.Dec.{ltb}
use borrow.Author.Tests.{ltb-true}
use Rattle.tables.specs.Lists.{all_of, joined, pick}
use Rattle.tables.proofs.Bools.{and_true, and_left, and_right}

-- each number in the list is below n
abbrev pub Before : ℕ → List ℕ → Type 0
Before n [] = Unit {0}
Before n (c ∷ cs) = (c < n) × Before n cs

pub all_before : (g : ℕ → Bool) (n : ℕ) (cs : List ℕ) → all_of (λ c. ltb c n && g c) cs ≡ true → Before n cs
unfolding all_of
all_before g n [] p = tt
all_before g n (c ∷ cs) p =
    let q = and_left (ltb c n && g c) (all_of (λ c. ltb c n && g c) cs) p in
    (ltb-true c n (and_left (ltb c n) (g c) q), all_before g n cs (and_right (ltb c n && g c) (all_of (λ c. ltb c n && g c) cs) p))

module _ {A : Type 0} (f g : ℕ → A) (n : ℕ) (h : (j : ℕ) → j < n → f j ≡ g j) where
  -- what is picked depends on the numbers in the list alone
  pub pick_same : (d : A) (cs : List ℕ) (i : ℕ) → Before n cs → pick f d cs i ≡ pick g d cs i
  unfolding pick
  pick_same d [] i b = refl
  pick_same d (c ∷ cs) zero b = h c b.0
  pick_same d (c ∷ cs) (suc i) b = pick_same d cs i b.1

pub joined_same : {A : Type 0} (f g : ℕ → List A) (n : ℕ) (cs : List ℕ) → ((j : ℕ) → j < n → f j ≡ g j) → Before n cs → joined f cs ≡ joined g cs
unfolding joined
joined_same f g n [] h b = refl
joined_same f g n (c ∷ cs) h b = ap₂ ◌++◌ (h c b.0) (joined_same f g n cs h b.1)

-- what holds of the default and of each number below n holds of what is picked
pub pick_all : {A : Type 0} (Q : A → Type 0) (f : ℕ → A) (d : A) (n : ℕ) (cs : List ℕ) (i : ℕ) → Q d → ((j : ℕ) → j < n → Q (f j)) → Before n cs
    → Q (pick f d cs i)
unfolding pick
pick_all Q f d n [] i z h b = z
pick_all Q f d n (c ∷ cs) zero z h b = h c b.0
pick_all Q f d n (c ∷ cs) (suc i) z h b = pick_all Q f d n cs i z h b.1

-- tests over two lists, one after the other
pub all_append : (f : ℕ → Bool) (xs ys : List ℕ) → all_of f (xs ++ ys) ≡ (all_of f xs && all_of f ys)
unfolding all_of
all_append f [] ys = refl
all_append f (x ∷ xs) ys = rw (all_append f xs ys) (assoc (f x) (all_of f xs) (all_of f ys))
  where
    assoc : (a b c : Bool) → (a && (b && c)) ≡ (a && b && c)
    assoc true b c = refl
    assoc false b c = refl

-- a test over joined lists is one over each of them
pub all_joined : (f : ℕ → Bool) (g : ℕ → List ℕ) (cs : List ℕ) → all_of f (joined g cs) ≡ true → all_of (λ c. all_of f (g c)) cs ≡ true
unfolding all_of joined
all_joined f g [] p = refl
all_joined f g (c ∷ cs) p =
    let q = sym (all_append f (g c) (joined g cs)) ∙ p in
    and_true (all_of f (g c)) (all_of (λ c. all_of f (g c)) cs) (and_left (all_of f (g c)) (all_of f (joined g cs)) q)
    (all_joined f g cs (and_right (all_of f (g c)) (all_of f (joined g cs)) q))
