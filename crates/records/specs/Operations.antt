-- 01, "Operation": persona mask, precondition node, first effect, effects, outcomes. "Effect": entity, from, to, outcome.
-- Assumes nothing.
use Rattle.std.specs.Prelude.{ℕ, ◌+◌, ◌-◌, ◌^◌, ℤ, Bool, not, cond, ◌&&◌, ◌||◌, List, leb, ltb, eqb}
use Rattle.tables.specs.Scan.{any_below, sum_below, first_fail}
use Rattle.words.specs.Record.{unused}
use Rattle.layout.specs.declared.Header.{Header}
use Rattle.layout.specs.Groups.{effect_count}
use Rattle.layout.specs.Tables.{operation, effect, entity_of, from_of, mask_of, precondition_of, effect_start_of, effect_count_of, outcomes_of, outcome_of}
use Rattle.records.specs.Names.{named_by_operations, good_root}
use Rattle.records.specs.Entities.{good_change, declared}

-- the mask is not 0 and below 2 to the personas
unfoldable pub good_mask : Header → ℕ → Bool
good_mask h mask = leb 1 mask && ltb mask (2 ^ h.personas)

unfoldable pub good_operation : List ℤ → Header → ℕ → Bool
good_operation s h k =
    good_mask h (mask_of (operation s h k))
    && good_root s h (precondition_of (operation s h k)) (named_by_operations s h k (precondition_of (operation s h k)))
    && eqb (effect_start_of (operation s h k)) (sum_below (effect_count s h) k)
    && leb 1 (effect_count_of (operation s h k))
    && leb 1 (outcomes_of (operation s h k))
    && leb (outcomes_of (operation s h k)) 8
    && unused 5 (operation s h k)

-- where the effects of operation o end
abbrev pub effects_end : List ℤ → Header → ℕ → ℕ
effects_end s h o = effect_start_of (operation s h o) + effect_count_of (operation s h o)

-- the operation that effect e belongs to: the first whose effects end past e
unfoldable pub operation_of : List ℤ → Header → ℕ → ℕ
operation_of s h e = first_fail (λ o. leb (effects_end s h o) e) 0 h.operations

-- how many outcomes operation o has; the outcome of effect e
abbrev pub outcomes : List ℤ → Header → ℕ → ℕ
outcomes s h o = outcomes_of (operation s h o)

abbrev pub outcome : List ℤ → Header → ℕ → ℕ
outcome s h e = outcome_of (effect s h e)

-- outcomes start at 0, stay or rise by one, and end at the last; `first` and `last` say whether it is the operation's first effect and its
-- last, `before` is the outcome of the effect before, `outcomes` the number of the operation's outcomes
unfoldable pub good_outcome : Bool → Bool → ℕ → ℕ → ℕ → Bool
good_outcome first last before outcomes out =
    cond first (eqb out 0) (eqb out before || eqb out (before + 1))
    && ltb out outcomes
    && (not last || eqb (out + 1) outcomes)

-- effect j stands in the same outcome of the same operation as effect e, and starts from the same state of the same entity
unfoldable pub same_source : List ℤ → Header → ℕ → ℕ → Bool
same_source s h e j =
    eqb (operation_of s h j) (operation_of s h e)
    && eqb (outcome s h j) (outcome s h e)
    && eqb (entity_of (effect s h j)) (entity_of (effect s h e))
    && eqb (from_of (effect s h j)) (from_of (effect s h e))

-- o is the operation that the effect belongs to
unfoldable pub good_effect_of : List ℤ → Header → ℕ → ℕ → Bool
good_effect_of s h o e =
    good_change s h (effect s h e)
    && declared s h h.transitions (effect s h e)
    && unused 4 (effect s h e)
    && good_outcome (eqb e (effect_start_of (operation s h o))) (eqb (e + 1) (effects_end s h o)) (outcome s h (e - 1)) (outcomes s h o) (outcome s h e)
    && not (any_below (same_source s h e) e)

unfoldable pub good_effect : List ℤ → Header → ℕ → Bool
good_effect s h e = good_effect_of s h (operation_of s h e) e
