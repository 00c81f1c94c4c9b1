-- What the functions below the ladder of refusals ask of their caller.
-- Assumes nothing.
use Rattle.std.specs.Prelude.{List, ℕ, ◌<◌, ℤ}
use Rattle.layout.specs.declared.Header.{Header}
use Rattle.records.specs.Accepted.{Accepted}
use Rattle.operation.specs.Inner.{StatesIn}

-- the sheet is accepted, the states are among their entities' states, and there is an operation o
pub record Ready (s : List ℤ) (h : Header) (states : List ℤ) (o : ℕ) : Type 0 where
  pub accepted : Accepted s h
  pub lent : StatesIn s h states
  pub exists : o < h.operations
