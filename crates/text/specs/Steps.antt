-- What the steps of `read` and `write` answer, by the definitions of a line. Inner contracts cite these.
-- Assumes nothing.
use Rattle.std.specs.Prelude.{ℕ, ◌+◌, ◌%◌, cond, List, [], ◌∷◌, eqb, length, Option, Some, None}
use Rattle.text.specs.Lines.{lines_of, good_line}

-- the byte after word i of a text: a tab, and LF after the eighth of a line
abbrev pub end_of : ℕ → ℕ
end_of i = cond (eqb (i % 8) 7) 10 9

unfoldable pub first_end : ℕ → List (List ℕ) → Option ℕ
first_end at [] = None
first_end at (l ∷ ls) = cond (good_line l) (Some (at + length l)) None

-- where the first line of bytes that stand at place `at` ends, if it is good
unfoldable pub line_end : ℕ → List ℕ → Option ℕ
line_end at bytes = first_end at (lines_of bytes)
