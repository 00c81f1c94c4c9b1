-- "Facts and verdicts are fixed at its start", and with them each operation's precondition: a run works it out once and remembers it.
-- Assumes nothing.
use Rattle.std.specs.Prelude.{◌≡◌, Bool, List, ℕ, ℤ, length, get_or, Option, None, Some}
use Rattle.layout.specs.declared.Header.{Header}
use Rattle.node.specs.FactValues.{FactValue}
use Rattle.predicate.specs.Values.{truth}
use Rattle.attempt.specs.Attempts.{precondition}

-- what is known of an operation's precondition is whether it is true
pub record Memo (s : List ℤ) (h : Header) (facts : List FactValue) (verdicts : List ℤ) (known : List (Option Bool)) : Type 0 where
  pub long : length known ≡ 128
  pub right : (o : ℕ) (b : Bool) → get_or known o None ≡ Some b → b ≡ truth s h facts verdicts (precondition s h o)
