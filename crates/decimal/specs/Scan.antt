-- What the reader's steps answer, by the bytes from their place on. These are cited by inner contracts alone: the laws of proofs/ say
-- that a field is read exactly where it is the decimal of a word (`field_sound`, `field_complete`).
-- Assumes nothing.
use Rattle.std.specs.Prelude.{ℕ, ◌+◌, ◌-◌, ◌*◌, ◌≤◌, Bool, cond, ◌&&◌, ◌||◌, List, [], ◌∷◌, leb, ltb, eqb, pos, neg_ℤ, length, get_or, drop, Option, Some, None}
use Rattle.decimal.specs.Decimal.{M, is_digit}
use Rattle.decimal.specs.declared.Run.{Run}
use Rattle.decimal.specs.declared.Field.{Field}

-- one more digit is read while the number so far is at most M
abbrev pub goes_on : ℕ → ℕ → Bool
goes_on m b = is_digit b && leb m M

-- the digits from place `at` on, after those that say m
unfoldable pub run_at : ℕ → ℕ → List ℕ → Run
run_at m at [] = record { magnitude = m; next = at }
run_at m at (b ∷ bs) =
    cond (goes_on m b) (run_at (m * 10 + (b - 48)) (at + 1) bs) (record { magnitude = m; next = at })

unfoldable pub bounded_run : Run → Option Run
bounded_run r = cond (eqb r.magnitude 0 || ltb M r.magnitude) None (Some r)

-- "0" is a number by itself; any other starts with another digit
unfoldable pub number_at : ℕ → List ℕ → Option Run
number_at at [] = None
number_at at (b ∷ bs) = cond (eqb b 48) (Some (record { magnitude = 0; next = at + 1 })) (bounded_run (run_at 0 at (b ∷ bs)))

-- a number that fits a word
abbrev pub Small : Option Run → Type 0
Small (Some n) = n.magnitude ≤ M
Small None = Unit {0}

unfoldable pub positive_word : Option Run → Option Field
positive_word (Some n) = Some (record { value = pos n.magnitude; next = n.next })
positive_word None = None

unfoldable pub negative_word : Option Run → Option Field
negative_word (Some n) = cond (eqb n.magnitude 0) None (Some (record { value = neg_ℤ (pos n.magnitude); next = n.next }))
negative_word None = None

unfoldable pub word_at : ℕ → List ℕ → Option Field
word_at at [] = None
word_at at (b ∷ bs) =
    cond (eqb b 45) (negative_word (number_at (at + 1) bs)) (positive_word (number_at at (b ∷ bs)))

-- a word is a field where its end follows
unfoldable pub closed_word : List ℕ → ℕ → Option Field → Option Field
closed_word text end (Some w) =
    cond (ltb w.next (length text) && eqb (get_or text w.next 0) end) (Some (record { value = w.value; next = w.next + 1 })) None
closed_word text end None = None

unfoldable pub field_at : List ℕ → ℕ → ℕ → Option Field
field_at text at end = closed_word text end (word_at at (drop at text))
