-- 02, CR 7: "the lent states become records of entity, instance number, state", three words each; and refusals 4 and 8 of them.
-- Assumes nothing.
use Rattle.std.specs.Prelude.{ℕ, ◌+◌, ◌*◌, ◌-◌, ◌/◌, ◌%◌, ℤ, pos, length, get_or, Bool, cond, ◌&&◌, ◌||◌, List, leb, ltb, eqb, Ok, Err}
use Rattle.std.specs.Int.Signed.{lt_z}
use Rattle.tables.specs.Scan.{first_fail}
use Rattle.signed.specs.Words.{num}
use Rattle.answer.specs.declared.Refusal.TheVariants.{State}
use Rattle.answer.specs.Answers.{Status}
use Rattle.layout.specs.declared.Header.{Header}
use Rattle.records.specs.Entities.{states as state_count}

-- what a caller lends of states: the records, and "one instance number per entity"
pub record LentStates : Type 0 where
  pub records : List ℤ
  pub instances : List ℤ

abbrev pub lent_states : List ℤ → List ℤ → LentStates
lent_states records instances = record { records = records; instances = instances }

-- how many records there are, and the words of record i
abbrev pub count : List ℤ → ℕ
count rs = length rs / 3

abbrev pub entity_at : List ℤ → ℕ → ℕ
entity_at rs i = num (get_or rs (3 * i) (pos 0))

abbrev pub instance_at : List ℤ → ℕ → ℤ
instance_at rs i = get_or rs (3 * i + 1) (pos 0)

abbrev pub state_at : List ℤ → ℕ → ℤ
state_at rs i = get_or rs (3 * i + 2) (pos 0)

-- "The length of the states must be a multiple of 3 words and at most 256 records, else 4"; "one instance number per entity (other length: 4)"
unfoldable pub states_lent : Header → LentStates → Bool
states_lent h q = eqb (length q.records % 3) 0 && leb (count q.records) 256 && eqb (length q.instances) h.entities

-- "sorted by entity and instance, none twice": record j is above record i
unfoldable pub above : List ℤ → ℕ → ℕ → Bool
above rs i j =
    ltb (entity_at rs i) (entity_at rs j) || (eqb (entity_at rs i) (entity_at rs j) && lt_z (instance_at rs i) (instance_at rs j))

-- its entity and its state are in range, and it is above the one before it
unfoldable pub good_record : List ℤ → Header → List ℤ → ℕ → Bool
good_record s h rs i =
    ltb (entity_at rs i) h.entities
    && ltb (num (state_at rs i)) (state_count s h (entity_at rs i))
    && (eqb i 0 || above rs (i - 1) i)

-- the first record that is not, or the number of records where there is none
unfoldable pub first_bad : List ℤ → Header → List ℤ → ℕ
first_bad s h rs = first_fail (good_record s h rs) 0 (count rs)

-- "A record not above the one before it, or with an entity or state out of range, is refused 8 at the first such record"
unfoldable pub records_fault : List ℤ → Header → List ℤ → Status
records_fault s h rs = cond (ltb (first_bad s h rs) (count rs)) (Err (State (first_bad s h rs))) (Ok tt)
