-- What the steps of a line's writer write. Inner contracts cite these.
-- Assumes nothing.
use Rattle.std.specs.Prelude.{ℕ, Bool, cond, List, [], ◌∷◌, ◌++◌, pos}
use Rattle.decimal.specs.Decimal.{decimal}

-- the byte after a number: LF after the last of its line, else a tab
abbrev pub ending_of : Bool → ℕ
ending_of last = cond last 10 9

-- a number with its ending
unfoldable pub number_field : ℕ → Bool → List ℕ
number_field n last = decimal (pos n) ++ (ending_of last ∷ [])

-- "refused" with its tab
abbrev pub refused_field : List ℕ
refused_field = 114 ∷ 101 ∷ 102 ∷ 117 ∷ 115 ∷ 101 ∷ 100 ∷ 9 ∷ []
