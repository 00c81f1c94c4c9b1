-- What the inner functions ask and answer, and what proofs speak of. The definitions of the other files do not rest on these.
-- Assumes nothing.
use Rattle.std.specs.Prelude.{◌≡◌, Bool, false, cond, List, ℕ, ◌+◌, ◌*◌, ◌≤◌, ◌<◌, ℤ, pos, length, get_or, set}
use Rattle.tables.specs.Scan.{any_below}
use Rattle.layout.specs.declared.Header.{Header}
use Rattle.instances.specs.Records.{LentStates, count, entity_at}
use Rattle.instances.specs.Named.{names, held}

-- what the gathering pass has after i records: of each entity the state of its named instance, and whether there is one
pub record Gathered (q : LentStates) (i : ℕ) (states : List ℤ) (found : List Bool) : Type 0 where
  pub few : length q.instances ≤ 32
  pub long : length states ≡ 32
  pub flags : length found ≡ 32
  pub each : (e : ℕ) → e < length q.instances → get_or states e (pos 0) ≡ held q e i
  pub hit : (e : ℕ) → e < length q.instances → get_or found e false ≡ any_below (names q e) i

-- one record of the writing pass, on the records as they are
unfoldable pub placed : LentStates → List ℤ → ℕ → List ℤ
placed q states i =
    let e = entity_at q.records i in
    cond (names q e i) (set q.records (3 * i + 2) (get_or states e (pos 0))) q.records

-- a state for each entity there may be, all of them 0
pub record Blank (states : List ℤ) : Type 0 where
  pub long : length states ≡ 32
  pub each : (e : ℕ) → e < 32 → get_or states e (pos 0) ≡ pos 0

-- one state for each entity stands at the head of a buffer
pub record HeadGathered (h : Header) (q : LentStates) (states : List ℤ) : Type 0 where
  pub long : length states ≡ 32
  pub each : (e : ℕ) → e < h.entities → get_or states e (pos 0) ≡ held q e (count q.records)
