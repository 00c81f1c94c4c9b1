-- 01, "The sheet": sixteen words of header, then records of eight words. A word is an integer; where a record's word stands for a
-- count or a number of something it is read by `num`, which takes a negative word to a number past every limit.
-- Assumes nothing.
use Rattle.std.specs.Prelude.{ℕ, ◌+◌, ◌*◌, ℤ, pos, Bool, ◌&&◌, ◌||◌, List, get_or, ltb, eqb}
use Rattle.signed.specs.Words.{num}
use Rattle.words.specs.declared.Record.{Record}

-- word j of record k
abbrev pub word : List ℤ → ℕ → ℕ → ℤ
word s k j = get_or s (16 + 8 * k + j) (pos 0)

-- the same as a natural number
abbrev pub number : List ℤ → ℕ → ℕ → ℕ
number s k j = num (word s k j)

-- record k, its words as natural numbers
unfoldable pub record_at : List ℤ → ℕ → Record ℕ
record_at s k =
    record { w0 = number s k 0; w1 = number s k 1; w2 = number s k 2; w3 = number s k 3; w4 = number s k 4; w5 = number s k 5; w6 = number s k 6; w7 = number s k 7 }

-- record k, its words as they stand
unfoldable pub words_at : List ℤ → ℕ → Record ℤ
words_at s k =
    record { w0 = word s k 0; w1 = word s k 1; w2 = word s k 2; w3 = word s k 3; w4 = word s k 4; w5 = word s k 5; w6 = word s k 6; w7 = word s k 7 }

-- a record's words as natural numbers: `numbers_of (words_at s k)` is `record_at s k`
unfoldable pub numbers_of : Record ℤ → Record ℕ
numbers_of w =
    record { w0 = num w.w0; w1 = num w.w1; w2 = num w.w2; w3 = num w.w3; w4 = num w.w4; w5 = num w.w5; w6 = num w.w6; w7 = num w.w7 }

-- the words from number n on are 0: "unused words are 0"
unfoldable pub unused : ℕ → Record ℕ → Bool
unused n r =
    (ltb 0 n || eqb r.w0 0)
    && (ltb 1 n || eqb r.w1 0)
    && (ltb 2 n || eqb r.w2 0)
    && (ltb 3 n || eqb r.w3 0)
    && (ltb 4 n || eqb r.w4 0)
    && (ltb 5 n || eqb r.w5 0)
    && (ltb 6 n || eqb r.w6 0)
    && (ltb 7 n || eqb r.w7 0)
