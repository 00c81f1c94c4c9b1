-- The flags of declared transitions: one for each entity and states from and to below 16.
-- Assumes nothing.
use Rattle.std.specs.Prelude.{◌≡◌, Bool, true, false, List, ℕ, ◌+◌, ◌*◌, ◌≤◌, ◌<◌, ℤ, length, get_or}
use Rattle.words.specs.declared.Record.{Record}
use Rattle.layout.specs.declared.Header.{Header}
use Rattle.layout.specs.Tables.{entity_of, from_of, to_of}
use Rattle.records.specs.Entities.{declared, good_transition}

-- the record's entity, from and to have a flag
pub record SmallChange (h : Header) (r : Record ℕ) : Type 0 where
  pub entity : entity_of r < h.entities
  pub from : from_of r < 16
  pub to : to_of r < 16

abbrev pub place_of : Record ℕ → ℕ
place_of r = 256 * entity_of r + 16 * from_of r + to_of r

-- after k good transitions the flags, m of them and enough for the entities, say which are declared
pub record Declared (s : List ℤ) (h : Header) (m k : ℕ) (t : List Bool) : Type 0 where
  pub room : 256 * h.entities ≤ m
  pub long : length t ≡ m
  pub flags : (r : Record ℕ) → SmallChange h r → get_or t (place_of r) false ≡ declared s h k r
  pub good : (j : ℕ) → j < k → good_transition s h j ≡ true
