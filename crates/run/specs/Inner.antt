-- What the inner functions ask and answer, and what proofs speak of. The definitions of the other files do not rest on these.
-- Assumes nothing.
use Rattle.std.specs.Prelude.{◌≡◌, Bool, true, false, List, ℕ, ◌+◌, ◌≤◌, ◌<◌, ℤ, length, get_or}
use Rattle.answer.specs.Answers.{Counted}
use Rattle.layout.specs.declared.Header.{Header}
use Rattle.records.specs.Accepted.{Accepted}
use Rattle.node.specs.FactValues.{FactValue}
use Rattle.facts.specs.Inner.{FactsIn}
use Rattle.predicate.specs.Inner.{Truths}
use Rattle.operation.specs.Inner.{StatesIn, Agree, Untouched}
use Rattle.instances.specs.Named.{covers}
use Rattle.walks.specs.Paths.{first_step_of, steps_of, paths, Among}
use Rattle.walks.specs.Follows.{walk_of}
use Rattle.walks.specs.Inner.{Lent}
use Rattle.run.specs.Runs.{performs, operation_at, Running}

-- what step i asks, besides states of their entities: an accepted sheet, facts in their ranges, verdicts, and that there is such a step
pub record Steppable (s : List ℤ) (h : Header) (facts : List FactValue) (verdicts : List ℤ) (i : ℕ) : Type 0 where
  pub accepted : Accepted s h
  pub known : FactsIn s h facts
  pub judged : Truths verdicts
  pub exists : i < h.steps

-- what a run of flow f asks: the same, with a flow of the sheet and a buffer at least as long as the flow has steps
pub record Runnable (s : List ℤ) (h : Header) (facts : List FactValue) (verdicts states : List ℤ) (f : ℕ) (b : List ℕ) : Type 0 where
  pub known : FactsIn s h facts
  pub judged : Truths verdicts
  pub valid : StatesIn s h states
  pub lent : Lent s h f b

-- where `seen` says so, each entity that the operation names is flagged
pub record Seen (s : List ℤ) (h : Header) (found seen : List Bool) : Type 0 where
  pub long : length seen ≡ 128
  pub right : (o : ℕ) → get_or seen o false ≡ true → covers s h (λ e. get_or found e false) o ≡ true

-- demand 3, of a run: it "takes the routes of one of these paths and answers that path with its length and terminal"; and it is finished
-- within as many steps as the flow has
pub record Taken (s : List ℤ) (h : Header) (f : ℕ) (t : Running) (answer : Counted) : Type 0 where
  pub finished : t.walker.finished ≡ true
  pub listed : Among (paths s h f) t.path
  pub answers : answer ≡ walk_of s h t.path
  pub within : length t.path ≤ steps_of s h f

-- P holds of the operation of each operation step of flow f
abbrev pub EachOperation : List ℤ → Header → ℕ → (ℕ → Type 0) → Type 0
EachOperation s h f P =
    (k : ℕ) → k < steps_of s h f → performs s h (first_step_of s h f + k) ≡ true → P (operation_at s h (first_step_of s h f + k))

-- two lists of states have the same state of each entity that one of these operations names
abbrev pub FlowAgree : List ℤ → Header → ℕ → List ℤ → List ℤ → Type 0
FlowAgree s h f a b = EachOperation s h f (λ o. Agree s h o a b)

-- none of these operations names entity n
abbrev pub FlowUntouched : List ℤ → Header → ℕ → ℕ → Type 0
FlowUntouched s h f n = EachOperation s h f (λ o. Untouched s h o n)
