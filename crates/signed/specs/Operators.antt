-- The comparisons as the code has them: the number of each, by which specs/Compare.antt says when it holds. Assumes nothing.
use Rattle.std.specs.Prelude.{◌≡◌, ℕ, ◌<◌, Result, MatchResult}
use Rattle.signed.specs.declared.Comparison.{Comparison}
use Rattle.signed.specs.declared.Comparison.TheVariants.{Equal, Unequal, Less, AtMost, Greater, AtLeast}
use Rattle.signed.specs.declared.UnknownComparison.{UnknownComparison}

-- the number of a comparison, as the code has it
abbrev pub operator_number : Comparison → ℕ
operator_number Equal = 0
operator_number Unequal = 1
operator_number Less = 2
operator_number AtMost = 3
operator_number Greater = 4
operator_number AtLeast = 5

-- the result is the comparison of number n, or there is none
abbrev pub Decodes : ℕ → Result Comparison UnknownComparison → Type 0
Decodes n r = MatchResult r (λ op. operator_number op ≡ n) (λ e. (e.0 ≡ n) × (5 < n))
