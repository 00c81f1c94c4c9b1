-- 02, CR 7: the instances that a call names, one for each entity. "01's Evaluation reads with the named instance for the entity": their states
-- are gathered into one for each entity, and what comes of these is written back.
-- Assumes nothing.
use Rattle.std.specs.Prelude.{ℕ, zero, suc, ◌+◌, ◌*◌, ℤ, pos, get_or, set, Bool, not, cond, ◌&&◌, ◌||◌, List, eqb}
use Rattle.tables.specs.Scan.{all_below, any_below}
use Rattle.tables.specs.Table.{grown}
use Rattle.signed.specs.Words.{eq_z}
use Rattle.layout.specs.declared.Header.{Header}
use Rattle.layout.specs.Tables.{effect, entity_of}
use Rattle.operation.specs.Outcomes.{of_operation}
use Rattle.instances.specs.Records.{LentStates, count, entity_at, instance_at, state_at}

-- record i is of entity e, and has the instance number that is named for it
unfoldable pub names : LentStates → ℕ → ℕ → Bool
names q e i = eqb (entity_at q.records i) e && eq_z (instance_at q.records i) (get_or q.instances e (pos 0))

-- the state of entity e's named instance, in the first n records; 0 where none of them has it
unfoldable pub held : LentStates → ℕ → ℕ → ℤ
held q e zero = pos 0
held q e (suc n) = cond (names q e n) (state_at q.records n) (held q e n)

-- one state for each entity
unfoldable pub gathered : Header → LentStates → List ℤ
gathered h q = grown (λ _ e. held q e (count q.records)) (pos 0) h.entities

-- the records after evaluation, where it left each entity in its state of `states`: of the first n, those that are named have it
unfoldable pub scattered_to : LentStates → List ℤ → ℕ → List ℤ
scattered_to q states zero = q.records
scattered_to q states (suc n) =
    let e = entity_at q.records n in
    cond (names q e n) (set (scattered_to q states n) (3 * n + 2) (get_or states e (pos 0))) (scattered_to q states n)

-- "every instance not named keeps its state"
abbrev pub scattered : LentStates → List ℤ → List ℤ
scattered q states = scattered_to q states (count q.records)

-- ---- 5: "a read instance that no record has"

-- some record has entity e's named instance
unfoldable pub has : LentStates → ℕ → Bool
has q e = any_below (names q e) (count q.records)

-- "only those that the effects of its operations .. touch are read": of each entity that an effect of operation o names, `lent` says yes
unfoldable pub covers : List ℤ → Header → (ℕ → Bool) → ℕ → Bool
covers s h lent o = all_below (λ e. not (of_operation s h o e) || lent (entity_of (effect s h e))) h.effects
