-- What stands once the ladder is climbed.
-- Assumes nothing.
use Rattle.std.specs.Prelude.{take, ◌≡◌, List, ℕ, ◌<◌, ℤ, Ok}
use Rattle.layout.specs.declared.Header.{Header}
use Rattle.records.specs.Accepted.{Accepted}
use Rattle.facts.specs.Lent.{LentFacts}
use Rattle.facts.specs.Faults.{facts_fault}
use Rattle.facts.specs.Inner.{AllLent}
use Rattle.operation.specs.Inner.{StatesIn}
use Rattle.instances.specs.Records.{LentStates, records_fault}
use Rattle.instances.specs.Named.{gathered}

-- an accepted sheet, and lent facts without a fault
pub record GoodFactsLent (s : List ℤ) (h : Header) (t : LentFacts) : Type 0 where
  pub sheet : Accepted s h
  pub all : AllLent s h t
  pub faultless : facts_fault s h t ≡ Ok tt

-- and states, a persona and an operation
pub record LentOperation (s : List ℤ) (h : Header) (t : LentFacts) (states : List ℤ) (p o : ℕ) : Type 0 where
  pub known : GoodFactsLent s h t
  pub lent : StatesIn s h states
  pub persona : p < h.personas
  pub operation : o < h.operations

-- past every rung of an operation: it can be attempted on the gathered states, which are at the head of a buffer, and no record is at fault
pub record ReadyOperation (s : List ℤ) (h : Header) (t : LentFacts) (q : LentStates) (p o : ℕ) (states : List ℤ) : Type 0 where
  pub asked : LentOperation s h t (gathered h q) p o
  pub faultless : records_fault s h q.records ≡ Ok tt
  pub head : take h.entities states ≡ gathered h q
