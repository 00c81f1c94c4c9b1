-- 01, "Operation (004)", and 02, CR 1 and CR 2: which outcome is chosen, or what blocks it.
-- Assumes nothing.
use Rattle.std.specs.Prelude.{ℕ, zero, suc, ℤ, negsuc, Bool, true, not, cond, ◌&&◌, ◌||◌, List, leb, ltb, eqb, Option, None, Some, Ok, Err}
use Rattle.answer.specs.Answers.{Count}
use Rattle.answer.specs.declared.Refusal.TheVariants.{NoOutcome, ManyOutcomes}
use Rattle.tables.specs.Scan.{all_below, any_below, first_fail}
use Rattle.signed.specs.Words.{num, eq_z}
use Rattle.words.specs.declared.Record.{Record}
use Rattle.layout.specs.declared.Header.{Header}
use Rattle.layout.specs.Tables.{operation, effect, entity_of, from_of, effect_start_of}
use Rattle.records.specs.Operations.{effects_end, outcomes, outcome}
use Rattle.operation.specs.States.{present}

-- effect e is one of operation o, of whichever outcome
unfoldable pub of_operation : List ℤ → Header → ℕ → ℕ → Bool
of_operation s h o e = leb (effect_start_of (operation s h o)) e && ltb e (effects_end s h o)

-- effect e is one of outcome j of operation o
unfoldable pub of_outcome : List ℤ → Header → ℕ → ℕ → ℕ → Bool
of_outcome s h o j e = leb (effect_start_of (operation s h o)) e && ltb e (effects_end s h o) && eqb (outcome s h e) j

-- an effect starts from its entity's present state
unfoldable pub starts : List ℤ → Record ℕ → Bool
starts states r = eqb (from_of r) (present states (entity_of r))

-- effect e is one of outcome j of operation o, and starts from the present state of entity n
unfoldable pub moves : List ℤ → Header → List ℤ → ℕ → ℕ → ℕ → ℕ → Bool
moves s h states o j n e = of_outcome s h o j e && (starts states (effect s h e) && eqb (entity_of (effect s h e)) n)

-- "one of its effects starts from that entity's present state"
unfoldable pub matched : List ℤ → Header → List ℤ → ℕ → ℕ → ℕ → Bool
matched s h states o j n = any_below (moves s h states o j n) h.effects

-- effect e does not keep outcome j from being applied: it is not one of its effects, or the entity that it names is matched
unfoldable pub unblocked : List ℤ → Header → List ℤ → ℕ → ℕ → ℕ → Bool
unblocked s h states o j e = not (of_outcome s h o j e) || matched s h states o j (entity_of (effect s h e))

-- "an outcome is applicable if, for each entity it names, one of its effects starts from that entity's present state"
unfoldable pub applicable : List ℤ → Header → List ℤ → ℕ → ℕ → Bool
applicable s h states o j = all_below (unblocked s h states o j) h.effects

-- ---- 02, CR 2: "say which entity blocked"

-- "that outcome's first effect, in declared order, whose entity has no matching effect in it"; the number of effects where there is none
unfoldable pub blocking : List ℤ → Header → List ℤ → ℕ → ℕ → ℕ
blocking s h states o j = first_fail (unblocked s h states o j) 0 h.effects

-- "place becomes the entity of" that effect; 0 where there is none
unfoldable pub blocker : List ℤ → Header → List ℤ → ℕ → ℕ → ℕ
blocker s h states o j = cond (ltb (blocking s h states o j) h.effects) (entity_of (effect s h (blocking s h states o j))) 0

-- ---- 02, CR 1: "a call now carries a wanted outcome, or −1"

-- what a word wants: with −1 any outcome will do
unfoldable pub wanted_of : ℤ → Option ℕ
wanted_of w = cond (eq_z w (negsuc 0)) None (Some (num w))

-- "Not an outcome of the operation: 5": of n outcomes, the wanted one is among them
unfoldable pub good_wanted : ℕ → Option ℕ → Bool
good_wanted n None = true
good_wanted n (Some j) = ltb j n

-- one outcome more that is applicable
unfoldable pub another : ℕ → Count → Count
another j (Err (NoOutcome n)) = Ok j
another j c = Err ManyOutcomes

-- of the first n outcomes: none that is applicable, the place then being k; the only one; or several
unfoldable pub only : (ℕ → Bool) → ℕ → ℕ → Count
only applies k zero = Err (NoOutcome k)
only applies k (suc n) = cond (applies n) (another n (only applies k n)) (only applies k n)

-- "Wanted and applicable: it is chosen. Wanted and not applicable: 11. .. With −1 the only applicable outcome is chosen; if there are
-- several, the new refusal 16": 11 exactly where it is NoOutcome, 16 exactly where it is ManyOutcomes. CR 2: 11's place is what blocks the wanted
-- outcome; "with −1 answered 11, place is the same for the outcome numbered 0"
unfoldable pub choice : (ℕ → Bool) → (ℕ → ℕ) → ℕ → Option ℕ → Count
choice applies blocks n (Some j) = cond (ltb j n && applies j) (Ok j) (Err (NoOutcome (blocks j)))
choice applies blocks n None = only applies (blocks 0) n

-- the choice among an operation's outcomes
unfoldable pub chosen : List ℤ → Header → List ℤ → ℕ → Option ℕ → Count
chosen s h states o w = choice (applicable s h states o) (blocker s h states o) (outcomes s h o) w
