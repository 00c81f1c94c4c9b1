-- The kinds of nodes as the code has them: the number of each, by which specs/Rows.antt gives its row.
-- Assumes nothing.
use Rattle.std.specs.Prelude.{◌≡◌, ℕ, ◌<◌, Result, MatchResult}
use Rattle.node.specs.declared.Kind.{Kind}
use Rattle.node.specs.declared.Kind.TheVariants.{IntLiteral, BoolLiteral, EnumLiteral, Fact, Sum, Difference, Product, Comparison, Present, And, Or, Not, MoneyLiteral, DurationLiteral, ForAll, Exists, Length, Element}
use Rattle.node.specs.declared.UnknownKind.{UnknownKind}

-- the number of a kind
abbrev pub kind_number : Kind → ℕ
kind_number IntLiteral = 0
kind_number BoolLiteral = 1
kind_number EnumLiteral = 2
kind_number Fact = 3
kind_number Sum = 4
kind_number Difference = 5
kind_number Product = 6
kind_number Comparison = 7
kind_number Present = 8
kind_number And = 9
kind_number Or = 10
kind_number Not = 11
kind_number MoneyLiteral = 12
kind_number DurationLiteral = 13
kind_number ForAll = 14
kind_number Exists = 15
kind_number Length = 16
kind_number Element = 17

-- the result is the kind of number n, or there is none
abbrev pub Decodes : ℕ → Result Kind UnknownKind → Type 0
Decodes n r = MatchResult r (λ k. kind_number k ≡ n) (λ e. (e.0 ≡ n) × (17 < n))
