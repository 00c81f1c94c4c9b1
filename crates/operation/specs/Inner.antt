-- What the inner functions ask and answer. The definitions of the other files do not rest on these.
-- Assumes nothing.
use Rattle.std.specs.Prelude.{◌≡◌, Bool, true, false, not, cond, ◌&&◌, List, ℕ, ◌+◌, ◌≤◌, ◌<◌, ℤ, pos, length, get_or, set, eqb, Option, None, Some, Ok, Err}
use Rattle.answer.specs.Answers.{Count}
use Rattle.tables.specs.Inner.{marked}
use Rattle.words.specs.declared.Record.{Record}
use Rattle.layout.specs.declared.Header.{Header}
use Rattle.layout.specs.Tables.{operation, effect, entity_of, to_of, effect_start_of, outcomes_of}
use Rattle.records.specs.Accepted.{Accepted}
use Rattle.records.specs.Operations.{effects_end, outcome}
use Rattle.operation.specs.declared.Effects.{Effects}
use Rattle.operation.specs.Outcomes.{of_operation, of_outcome, starts, matched, chosen}
use Rattle.operation.specs.Changes.{applied}
use Rattle.records.specs.Entities.{states as state_count}
use Rattle.operation.specs.States.{present}

-- an operation's effects
unfoldable pub effects_of : List ℤ → Header → ℕ → Effects
effects_of s h o = record { first = effect_start_of (operation s h o); end = effects_end s h o; outcomes = outcomes_of (operation s h o) }

-- there is an effect e, and a state for each entity
pub record Read (s : List ℤ) (h : Header) (states : List ℤ) (e : ℕ) : Type 0 where
  pub accepted : Accepted s h
  pub long : length states ≡ h.entities
  pub exists : e < h.effects

-- outcome j of operation o starts at effect `at`: the operation's effects before it are of earlier outcomes, the others of j and later ones
pub record OutcomeAt (s : List ℤ) (h : Header) (o j at : ℕ) : Type 0 where
  pub low : effect_start_of (operation s h o) ≤ at
  pub high : at ≤ effects_end s h o
  pub before : (e : ℕ) → effect_start_of (operation s h o) ≤ e → e < at → outcome s h e < j
  pub from : (e : ℕ) → at ≤ e → e < effects_end s h o → j ≤ outcome s h e

-- a flag for each entity there may be, none of them set
pub record Clear (flags : List Bool) : Type 0 where
  pub long : length flags ≡ 32
  pub each : (n : ℕ) → n < 32 → get_or flags n false ≡ false

-- the effects of outcome j are those from `at` up to `stop`, where the next outcome starts; the flags say which entities are matched
pub record Collected (s : List ℤ) (h : Header) (states : List ℤ) (o j at stop : ℕ) (flags : List Bool) : Type 0 where
  pub next : OutcomeAt s h o (j + 1) stop
  pub order : at ≤ stop
  pub inside : (e : ℕ) → at ≤ e → e < stop → of_outcome s h o j e ≡ true
  pub only : (e : ℕ) → of_outcome s h o j e ≡ true → (at ≤ e) × (e < stop)
  pub long : length flags ≡ 32
  pub each : (n : ℕ) → n < 32 → get_or flags n false ≡ matched s h states o j n

-- effect e is the first from `at` up to `stop` whose entity is not flagged, and n is that entity
pub record FirstUnmatched (s : List ℤ) (h : Header) (flags : List Bool) (at stop e n : ℕ) : Type 0 where
  pub low : at ≤ e
  pub high : e < stop
  pub entity : n ≡ entity_of (effect s h e)
  pub unmatched : get_or flags n false ≡ false
  pub earlier : (d : ℕ) → at ≤ d → d < e → get_or flags (entity_of (effect s h d)) false ≡ true

-- an effect is taken: its entity has not moved yet, and it starts from the entity's state
unfoldable pub taken : List ℤ → List Bool → Record ℕ → Bool
taken states moved r = not (get_or moved (entity_of r) false) && starts states r

-- effect e has been looked at: where it is taken, its entity is in the state that it leads to, and is flagged as moved
pub record Shifted (s : List ℤ) (h : Header) (e : ℕ) (states : List ℤ) (moved : List Bool) (states' : List ℤ) (moved' : List Bool) : Type 0 where
  pub state : states' ≡ cond (taken states moved (effect s h e)) (set states (entity_of (effect s h e)) (pos (to_of (effect s h e)))) states
  pub flag : moved' ≡ marked (taken states moved (effect s h e)) (entity_of (effect s h e)) moved

-- the states after a choice
unfoldable pub after : List ℤ → Header → List ℤ → ℕ → Count → List ℤ
after s h states o (Ok j) = applied s h states o j
after s h states o (Err r) = states

-- the states after operation o
unfoldable pub performed : List ℤ → Header → List ℤ → ℕ → Option ℕ → List ℤ
performed s h states o w = after s h states o (chosen s h states o w)

-- outcome j is asked for: it is the wanted one, or none is wanted
unfoldable pub asks : Option ℕ → ℕ → Bool
asks None j = true
asks (Some k) j = eqb k j

-- the outcome asked about: the wanted one, or with −1 the outcome numbered 0
unfoldable pub about : Option ℕ → ℕ
about None = 0
about (Some j) = j

-- outcome j is asked for and applicable
unfoldable pub candidate : (ℕ → Bool) → Option ℕ → ℕ → Bool
candidate applies w j = asks w j && applies j

-- there is a state for each entity, and each is among its entity's states
pub record StatesIn (s : List ℤ) (h : Header) (states : List ℤ) : Type 0 where
  pub long : length states ≡ h.entities
  pub each : (n : ℕ) → n < h.entities → present states n < state_count s h n

-- two lists of states have the same state of each entity that an effect of operation o names
abbrev pub Agree : List ℤ → Header → ℕ → List ℤ → List ℤ → Type 0
Agree s h o a b =
    (e : ℕ) → of_operation s h o e ≡ true → get_or a (entity_of (effect s h e)) (pos 0) ≡ get_or b (entity_of (effect s h e)) (pos 0)

-- no effect of operation o names entity n
abbrev pub Untouched : List ℤ → Header → ℕ → ℕ → Type 0
Untouched s h o n = (e : ℕ) → of_operation s h o e ≡ true → entity_of (effect s h e) ≡ n → ⊥
