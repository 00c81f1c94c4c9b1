-- The types of a fact's values as the code has them: the enum's variants stand for the numbers 0 to 4 of 01 and 02.
-- Assumes nothing.
use Rattle.std.specs.Prelude.{◌≡◌, ℕ, ◌<◌, Result, MatchResult}
use Rattle.records.specs.declared.ValueType.{ValueType}
use Rattle.records.specs.declared.ValueType.TheVariants.{Bool, Int, Enum, Money, Duration}
use Rattle.records.specs.declared.UnknownType.{UnknownType}

-- the number of a type
abbrev pub type_number : ValueType → ℕ
type_number Bool = 0
type_number Int = 1
type_number Enum = 2
type_number Money = 3
type_number Duration = 4

-- the result is the type of number n, or there is none
abbrev pub Decodes : ℕ → Result ValueType UnknownType → Type 0
Decodes n r = MatchResult r (λ t. type_number t ≡ n) (λ e. (e.0 ≡ n) × (4 < n))
