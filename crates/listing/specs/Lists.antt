-- 01, "Reports", and demand 3: lists of calls, on one sheet, one flow and one buffer, which may hold anything before it.
-- Assumes nothing.
use Rattle.std.specs.Prelude.{List, [], ◌∷◌, ℕ, suc, ℤ, length}
use Rattle.answer.specs.Answers.{Counted}
use Rattle.layout.specs.declared.Header.{Header}
use Rattle.walks.specs.Paths.{paths}

-- such a list holds first and next alone
pub data Call : Type 0 where
  First : Call
  Next : Call

-- what a call leaves in the buffer, and what it answers
pub record State : Type 0 where
  pub buffer : List ℕ
  pub answer : Counted

-- the number of next calls since the latest first, where n of them stand before the list
unfoldable pub nexts : ℕ → List Call → ℕ
nexts n [] = n
nexts n (First ∷ cs) = nexts 0 cs
nexts n (Next ∷ cs) = nexts (suc n) cs

-- how many paths the flow has
unfoldable pub count : List ℤ → Header → ℕ → ℕ
count s h f = length (paths s h f)
