-- 01, "Text of a sheet": a line of eight words. `line` and `good_row` are the one definition of a line: the writer writes it, and the
-- reader takes bytes for a line exactly where they are the line of their words.
-- Assumes nothing.
use Rattle.std.specs.Prelude.{ℕ, zero, suc, ◌+◌, ◌/◌, Bool, true, false, cond, ◌&&◌, List, [], ◌∷◌, ◌++◌, map, eqb, ℤ, length, take, drop}
use Rattle.decimal.specs.Decimal.{decimal, has_text, value}

-- every one passes a test
unfoldable pub all : {X : Type 0} → (X → Bool) → List X → Bool
all ok [] = true
all ok (x ∷ xs) = ok x && all ok xs

-- lists one after the other
unfoldable pub join : {X : Type 0} → List (List X) → List X
join [] = []
join (x ∷ xs) = x ++ join xs

-- a line: decimals parted by one tab, ended by LF
unfoldable pub line : List ℤ → List ℕ
line [] = []
line (w ∷ []) = decimal w ++ (10 ∷ [])
line (w ∷ (v ∷ vs)) = decimal w ++ (9 ∷ line (v ∷ vs))

-- a line has eight words within −M..M
unfoldable pub good_row : List ℤ → Bool
good_row ws = eqb (length ws) 8 && all has_text ws

-- ---- words, eight to a line

-- n lines of words
unfoldable pub rows : ℕ → List ℤ → List (List ℤ)
rows zero ws = []
rows (suc n) ws = take 8 ws ∷ rows n (drop 8 ws)

-- as many lines as there are, a short last one included
unfoldable pub rows_of : List ℤ → List (List ℤ)
rows_of ws = rows ((length ws + 7) / 8) ws

-- the text of words
unfoldable pub text_of : List ℤ → List ℕ
text_of ws = join (map line (rows_of ws))

-- ---- bytes

unfoldable pub joined : ℕ → List (List ℕ) → List (List ℕ)
joined b [] = (b ∷ []) ∷ []
joined b (p ∷ ps) = (b ∷ p) ∷ ps

-- bytes, cut after each byte `end`. A last part that has no such end is a part too
unfoldable pub cut : ℕ → List ℕ → List (List ℕ)
cut end [] = []
cut end (b ∷ bs) = cond (eqb b end) ((b ∷ []) ∷ cut end bs) (joined b (cut end bs))

-- the lines of a text, each with its LF
unfoldable pub lines_of : List ℕ → List (List ℕ)
lines_of text = cut 10 text

-- the only words whose line the bytes can be: those that its fields say
unfoldable pub numbers : List ℕ → List ℤ
numbers l = map value (cut 9 l)

-- the words of a text
unfoldable pub words_of : List ℕ → List ℤ
words_of text = join (map numbers (lines_of text))

unfoldable pub same : List ℕ → List ℕ → Bool
same [] [] = true
same [] (y ∷ ys) = false
same (x ∷ xs) [] = false
same (x ∷ xs) (y ∷ ys) = eqb x y && same xs ys

-- bytes are a line where they are the line of eight words within −M..M
unfoldable pub good_line : List ℕ → Bool
good_line l = good_row (numbers l) && same (line (numbers l)) l
