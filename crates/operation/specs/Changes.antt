-- 01, "Operation (004)": the states after an operation.
-- Assumes nothing.
use Rattle.std.specs.Prelude.{ℕ, ℤ, pos, get_or, not, cond, List, ltb}
use Rattle.tables.specs.Scan.{first_fail}
use Rattle.tables.specs.Table.{grown}
use Rattle.layout.specs.declared.Header.{Header}
use Rattle.layout.specs.Tables.{effect, to_of}
use Rattle.operation.specs.Outcomes.{moves}

-- the effect of outcome j of operation o that starts from the present state of entity n, or the number of effects where there is none
unfoldable pub mover : List ℤ → Header → List ℤ → ℕ → ℕ → ℕ → ℕ
mover s h states o j n = first_fail (λ e. not (moves s h states o j n e)) 0 h.effects

-- that effect's `to`; where there is none, entity n stays
unfoldable pub new_state : List ℤ → Header → List ℤ → ℕ → ℕ → ℕ → ℤ
new_state s h states o j n =
    cond (ltb (mover s h states o j n) h.effects) (pos (to_of (effect s h (mover s h states o j n)))) (get_or states n (pos 0))

-- "exactly those effects are applied, all at once": the new state of each entity, all from the present ones
unfoldable pub applied : List ℤ → Header → List ℤ → ℕ → ℕ → List ℤ
applied s h states o j = grown (λ before n. new_state s h states o j n) (pos 0) h.entities
