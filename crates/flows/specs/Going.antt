-- What stands once a run has climbed the ladder.
-- Assumes nothing.
use Rattle.std.specs.Prelude.{take, ◌≡◌, List, ℕ, ℤ, length}
use Rattle.layout.specs.declared.Header.{Header}
use Rattle.facts.specs.Lent.{LentFacts}
use Rattle.instances.specs.Records.{LentStates}
use Rattle.instances.specs.Named.{gathered}
use Rattle.operation.specs.Inner.{StatesIn}
use Rattle.walks.specs.Paths.{steps_of}
use Rattle.walks.specs.Inner.{Lent}
use Rattle.evaluate.specs.Settled.{GoodFactsLent}

-- lent facts without a fault, states of their entities, and a flow with a word for each step and room for its paths
pub record LentRun (s : List ℤ) (h : Header) (t : LentFacts) (states : List ℤ) (f : ℕ) (words : List ℤ) (b : List ℕ) : Type 0 where
  pub known : GoodFactsLent s h t
  pub valid : StatesIn s h states
  pub lent : Lent s h f b
  pub wanted : length words ≡ steps_of s h f

-- past every rung of a run: it can begin on the gathered states, which are at the head of a buffer
pub record ReadyRun (s : List ℤ) (h : Header) (t : LentFacts) (q : LentStates) (f : ℕ) (words : List ℤ) (b : List ℕ) (states : List ℤ) : Type 0 where
  pub asked : LentRun s h t (gathered h q) f words b
  pub head : take h.entities states ≡ gathered h q
