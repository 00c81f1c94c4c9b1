-- 01, "Reports": the path that follows the one at a buffer's head, a path's answer, and a path in a buffer.
-- Assumes nothing.
use Rattle.std.specs.Prelude.{Bool, true, false, ◌&&◌, List, [], ◌∷◌, ◌++◌, ℕ, ◌-◌, ℤ, length, replicate, eqb}
use Rattle.answer.specs.Answers.{tallied, Counted}
use Rattle.layout.specs.declared.Header.{Header}
use Rattle.walks.specs.Paths.{terminal}

-- the buffer begins with the path
unfoldable pub begins : List ℕ → List ℕ → Bool
begins [] b = true
begins (r ∷ p) [] = false
begins (r ∷ p) (x ∷ b) = eqb r x && begins p b

-- what follows the path that a buffer begins with: there is no such path, or it is the last, or the next path
pub data Following : Type 0 where
  Absent : Following
  Final : Following
  Then : List ℕ → Following

-- the first of the paths
unfoldable pub head_of : List (List ℕ) → Following
head_of [] = Final
head_of (p ∷ ps) = Then p

-- the path that follows in the list
unfoldable pub following : List (List ℕ) → List ℕ → Following
following [] b = Absent
following (p ∷ ps) b = elim (begins p b) [ true ↦ head_of ps | false ↦ following ps b ]

-- a path's answer: its terminal and its length
abbrev pub walk_of : List ℤ → Header → List ℕ → Counted
walk_of s h p = tallied (terminal s h p) (length p)

-- the buffer with a path at its start and 0 past it
unfoldable pub laid : List ℕ → List ℕ → List ℕ
laid p b = p ++ replicate (length b - length p) 0
