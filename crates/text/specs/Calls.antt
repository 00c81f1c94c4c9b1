-- What `read` and `write` answer, and what they leave in the lent slice. 14 at the first bad line, then 15 where the result does not
-- fit; on refusal the slice holds what it held, and past the result it does so always.
-- Assumes nothing.
use Rattle.std.specs.Prelude.{ℕ, suc, Bool, cond, List, [], ◌∷◌, ◌++◌, leb, ℤ, length, drop, Ok, Err}
use Rattle.answer.specs.Answers.{Count}
use Rattle.answer.specs.declared.Refusal.TheVariants.{Line, NoRoom}
use Rattle.text.specs.Lines.{all, good_row, rows_of, text_of, good_line, lines_of, words_of}

-- how many come before the first bad one
unfoldable pub before : {X : Type 0} → (X → Bool) → List X → ℕ
before ok [] = 0
before ok (x ∷ xs) = cond (ok x) (suc (before ok xs)) 0

-- 14: bad text, or words that have no text; the place is the first such line, from 0
unfoldable pub judged : {X : Type 0} → (X → Bool) → List X → ℕ → Count
judged ok lines n = cond (all ok lines) (Ok n) (Err (Line (before ok lines)))

-- 15: the output is shorter than the result
unfoldable pub fitted : ℕ → Count → Count
fitted room (Ok n) = cond (leb n room) (Ok n) (Err NoRoom)
fitted room (Err r) = Err r

-- the result at the start of what was lent, or, on refusal, what was lent
unfoldable pub filled : {Y : Type 0} → Count → List Y → List Y → List Y
filled (Ok n) result lent = result ++ drop n lent
filled (Err r) result lent = lent

-- `read`: how many words a text has
unfoldable pub read_answer : List ℕ → ℕ → Count
read_answer text room = fitted room (judged good_line (lines_of text) (length (words_of text)))

unfoldable pub read_buffer : List ℕ → List ℤ → List ℤ
read_buffer text lent = filled (read_answer text (length lent)) (words_of text) lent

-- `write`: how many bytes the text of words has
unfoldable pub write_answer : List ℤ → ℕ → Count
write_answer words room = fitted room (judged good_row (rows_of words) (length (text_of words)))

unfoldable pub write_buffer : List ℤ → List ℕ → List ℕ
write_buffer words lent = filled (write_answer words (length lent)) (text_of words) lent
