-- A table whose entries are worked out in order, each from those before it.
-- Assumes nothing.
use Rattle.std.specs.Prelude.{ℕ, zero, suc, List, [], ◌∷◌, ◌++◌, get_or}

-- the first n entries: entry k is `f look k`, where `look` reads the entries before k, and d past them
unfoldable pub grown : {A : Type 0} → ((ℕ → A) → ℕ → A) → A → ℕ → List A
grown f d zero = []
grown f d (suc n) = let t = grown f d n in t ++ (f (λ j. get_or t j d) n ∷ [])

-- entry n
unfoldable pub entry : {A : Type 0} → ((ℕ → A) → ℕ → A) → A → ℕ → A
entry f d n = f (λ j. get_or (grown f d n) j d) n
