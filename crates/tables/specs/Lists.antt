-- Tests and lookups over a list: of numbers, as the children of a node are, or of a list fact's elements.
-- Assumes nothing.
use Rattle.std.specs.Prelude.{ℕ, zero, suc, ℤ, pos, get_or, Bool, true, false, not, ◌&&◌, ◌||◌, List, [], ◌∷◌, ◌++◌, eqb}

-- a is in the list
unfoldable pub has : ℕ → List ℕ → Bool
has a [] = false
has a (c ∷ cs) = eqb c a || has a cs

-- f holds of each member of the list; of an empty one that is true
unfoldable pub all_of : {A : Type 0} → (A → Bool) → List A → Bool
all_of f [] = true
all_of f (c ∷ cs) = f c && all_of f cs

-- f holds of some member of the list; of an empty one that is false
unfoldable pub any_of : {A : Type 0} → (A → Bool) → List A → Bool
any_of f [] = false
any_of f (c ∷ cs) = f c || any_of f cs

-- no number is in the list twice
unfoldable pub distinct : List ℕ → Bool
distinct [] = true
distinct (c ∷ cs) = not (has c cs) && distinct cs

-- the lists that f gives of each number, one after the other
unfoldable pub joined : {A : Type 0} → (ℕ → List A) → List ℕ → List A
joined f [] = []
joined f (c ∷ cs) = f c ++ joined f cs

-- what f gives of the number at place i, and d where there is none
unfoldable pub pick : {A : Type 0} → (ℕ → A) → A → List ℕ → ℕ → A
pick f d [] i = d
pick f d (c ∷ cs) zero = f c
pick f d (c ∷ cs) (suc i) = pick f d cs i

-- the n words from place a of t on
unfoldable pub words_from : List ℤ → ℕ → ℕ → List ℤ
words_from t a zero = []
words_from t a (suc n) = get_or t a (pos 0) ∷ words_from t (suc a) n
