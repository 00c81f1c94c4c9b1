-- What the scan of the facts computes: the tests of a fact by itself, and the max of each set so far, where there is one.
-- Assumes nothing.
use Rattle.std.specs.Prelude.{ℕ, ℤ, Bool, true, not, cond, ◌&&◌, ◌||◌, List, Option, None, Some, eqb, set}
use Rattle.words.specs.declared.Record.{Record}
use Rattle.records.specs.Facts.{type_row, min_of, max_of, default_flag, default_of, set_of, good_default, good_tail}

unfoldable pub good_alone : List ℤ → ℕ → Bool
good_alone s k =
    (type_row s k).bounds (min_of s k) (max_of s k)
    && (type_row s k).takes_set (set_of s k)
    && good_default (default_flag s k) (min_of s k) (max_of s k) (default_of s k)
    && good_tail s k

-- the type of a fact's values, from its record
abbrev pub valued : Record ℕ → ℕ
valued r = cond (eqb r.w0 5) r.w6 r.w0

abbrev pub agrees : Record ℕ → Option ℕ → Bool
agrees r None = true
agrees r (Some max) = not (eqb (valued r) 2) || eqb max r.w2

abbrev pub noted : Record ℕ → List (Option ℕ) → List (Option ℕ)
noted r t = cond (eqb (valued r) 2) (set t r.w5 (Some r.w2)) t
