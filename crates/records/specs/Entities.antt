-- 01, "Entity": states 1..16, initial state. "Transition": entity, from, to.
-- Assumes nothing.
use Rattle.std.specs.Prelude.{ℕ, ℤ, Bool, ◌&&◌, List, leb, ltb, eqb}
use Rattle.tables.specs.Scan.{any_below}
use Rattle.words.specs.declared.Record.{Record}
use Rattle.words.specs.Record.{unused}
use Rattle.layout.specs.declared.Header.{Header}
use Rattle.layout.specs.Tables.{entity, transition, state_count_of, initial_of, entity_of, from_of, to_of}

unfoldable pub good_entity : Record ℕ → Bool
good_entity r = leb 1 (state_count_of r) && leb (state_count_of r) 16 && ltb (initial_of r) (state_count_of r) && unused 2 r

-- how many states entity e has
abbrev pub states : List ℤ → Header → ℕ → ℕ
states s h e = state_count_of (entity s h e)

-- the words entity, from, to name an entity and two of its states
unfoldable pub good_change : List ℤ → Header → Record ℕ → Bool
good_change s h r = ltb (entity_of r) h.entities && ltb (from_of r) (states s h (entity_of r)) && ltb (to_of r) (states s h (entity_of r))

unfoldable pub good_transition : List ℤ → Header → ℕ → Bool
good_transition s h k = good_change s h (transition s h k) && unused 3 (transition s h k)

-- two records name the same entity, from and to
unfoldable pub same_change : Record ℕ → Record ℕ → Bool
same_change q r = eqb (entity_of q) (entity_of r) && eqb (from_of q) (from_of r) && eqb (to_of q) (to_of r)

-- one of the first k transitions has the record's entity, from and to
unfoldable pub declared : List ℤ → Header → ℕ → Record ℕ → Bool
declared s h k r = any_below (λ j. same_change (transition s h j) r) k
