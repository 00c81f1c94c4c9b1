-- 01, "Reports": what first and next answer, and what they leave in the buffer.
-- Assumes nothing.
use Rattle.std.specs.Prelude.{List, ℕ, ℤ, Err}
use Rattle.answer.specs.declared.Refusal.TheVariants.{NotPath, LastPath}
use Rattle.answer.specs.Answers.{Counted}
use Rattle.layout.specs.declared.Header.{Header}
use Rattle.walks.specs.Paths.{paths, path}
use Rattle.walks.specs.Follows.{Following, Absent, Final, Then, following, walk_of, laid}

-- first puts path 0 in the buffer
unfoldable pub first_walk : List ℤ → Header → ℕ → Counted
first_walk s h f = walk_of s h (path s h f 0)

unfoldable pub first_laid : List ℤ → Header → ℕ → List ℕ → List ℕ
first_laid s h f b = laid (path s h f 0) b

-- next puts the path that follows the one it finds there; 12 where it finds none, 13 where none follows
unfoldable pub answer_of : List ℤ → Header → Following → Counted
answer_of s h Absent = Err NotPath
answer_of s h Final = Err LastPath
answer_of s h (Then p) = walk_of s h p

unfoldable pub buffer_of : Following → List ℕ → List ℕ
buffer_of Absent b = b
buffer_of Final b = b
buffer_of (Then p) b = laid p b

unfoldable pub next_walk : List ℤ → Header → ℕ → List ℕ → Counted
next_walk s h f b = answer_of s h (following (paths s h f) b)

unfoldable pub next_laid : List ℤ → Header → ℕ → List ℕ → List ℕ
next_laid s h f b = buffer_of (following (paths s h f) b) b
