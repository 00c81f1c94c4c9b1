-- What the scan of a table of records answers: Err with the first bad record, by its number in the sheet, where one is bad.
-- Assumes nothing.
use Rattle.std.specs.Prelude.{ℕ, ◌+◌, Bool, cond, ⊤, List, [], ◌∷◌, ltb, Result, Ok, Err}
use Rattle.tables.specs.Scan.{first_fail}
use Rattle.records.specs.Accept.{Table}

-- of n records, of which the first has the number `base` in the sheet; `good` tells them by their own numbers
unfoldable pub scanned : ℕ → (ℕ → Bool) → ℕ → Result ⊤ ℕ
scanned base good n = cond (ltb (first_fail good 0 n) n) (Err (base + first_fail good 0 n)) (Ok tt)

-- an answer, and where it is Ok the next one
abbrev pub and_then : Result ⊤ ℕ → Result ⊤ ℕ → Result ⊤ ℕ
and_then (Ok _) r = r
and_then (Err k) r = Err k

-- of tables one after the other
abbrev pub scanned_tables : ℕ → List Table → Result ⊤ ℕ
scanned_tables base [] = Ok tt
scanned_tables base (t ∷ ts) = and_then (scanned base t.good t.size) (scanned_tables (base + t.size) ts)
