-- What the scan of the effects keeps: for each (entity, from) the stamp of the last outcome with such an effect. A stamp is a number for
-- each outcome of each operation, never 0.
-- Assumes nothing.
use Rattle.std.specs.Prelude.{◌≡◌, Bool, true, cond, List, ℕ, zero, suc, ◌+◌, ◌*◌, ◌≤◌, ◌<◌, ℤ, eqb, length, get_or}
use Rattle.words.specs.declared.Record.{Record}
use Rattle.layout.specs.declared.Header.{Header}
use Rattle.layout.specs.Groups.{good_groups}
use Rattle.layout.specs.Sized.{Sized}
use Rattle.layout.specs.Tables.{entity, operation, effect, effect_start_of, outcomes_of}
use Rattle.records.specs.Entities.{good_entity}
use Rattle.records.specs.Operations.{good_operation, good_effect, operation_of, outcome, effects_end}
use Rattle.sheet_states.specs.Flags.{Declared}

-- a number for the record's entity and from
abbrev pub source_of : Record ℕ → ℕ
source_of r = 16 * r.w0 + r.w1

-- the stamp of effect e's outcome
abbrev pub stamp_of : List ℤ → Header → ℕ → ℕ
stamp_of s h e = 8 * operation_of s h e + outcome s h e + 1

-- the stamp of the last of the first k effects from x, 0 where there is none
unfoldable pub last_stamp : List ℤ → Header → ℕ → ℕ → ℕ
last_stamp s h x zero = 0
last_stamp s h x (suc k) = cond (eqb (source_of (effect s h k)) x) (stamp_of s h k) (last_stamp s h x k)

-- what is known before the effects are scanned
pub record BeforeEffects (s : List ℤ) (h : Header) (t : List Bool) : Type 0 where
  pub sized : Sized s h
  pub groups : good_groups s h ≡ true
  pub entities : (k : ℕ) → k < h.entities → good_entity (entity s h k) ≡ true
  pub declared : Declared s h (length t) h.transitions t
  pub operations : (k : ℕ) → k < h.operations → good_operation s h k ≡ true

-- operation o, where its effects start and end, and how many outcomes it has
pub record Group (s : List ℤ) (h : Header) (o first end outcomes : ℕ) : Type 0 where
  pub here : o < h.operations
  pub starts : first ≡ effect_start_of (operation s h o)
  pub ends : end ≡ effects_end s h o
  pub has : outcomes ≡ outcomes_of (operation s h o)

-- after e good effects; there are m stamps, enough for the entities
pub record Seen (s : List ℤ) (h : Header) (m e : ℕ) (t : List ℕ) : Type 0 where
  pub room : 16 * h.entities ≤ m
  pub long : length t ≡ m
  pub stamps : (x : ℕ) → x < m → get_or t x 0 ≡ last_stamp s h x e
  pub good : (j : ℕ) → j < e → good_effect s h j ≡ true
