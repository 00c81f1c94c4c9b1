-- 01, S2: "a mask of states reached from the initial one by zero or more declared transitions." 02, CR 5: its scans.
-- Assumes nothing.
use Rattle.std.specs.Prelude.{◌≡◌, Bool, false, cond, ◌&&◌, ◌||◌, List, ℕ, zero, suc, ◌<◌, ◌^◌, ℤ, get_or, eqb}
use Rattle.tables.specs.Scan.{any_below, sum_below}
use Rattle.tables.specs.Table.{grown}
use Rattle.layout.specs.declared.Header.{Header}
use Rattle.layout.specs.Tables.{entity, transition, initial_of, entity_of, from_of, to_of}
use Rattle.operation.specs.Mask.{in_mask}

-- the states of entity n that are reached: the initial one, and where a declared transition leads from one that is reached
pub data Reached (s : List ℤ) (h : Header) (n : ℕ) : ℕ → Type 0 where
  initial : Reached s h n (initial_of (entity s h n))
  along : {q : ℕ} → Reached s h n q → (k : ℕ) → k < h.transitions → entity_of (transition s h k) ≡ n → from_of (transition s h k) ≡ q → Reached s h n (to_of (transition s h k))

-- ---- the same, computed

-- transition k is entity n's, leads to state q, and starts from a state that is flagged
unfoldable pub enters : List ℤ → Header → ℕ → List Bool → ℕ → ℕ → Bool
enters s h n flags q k = eqb (entity_of (transition s h k)) n && eqb (to_of (transition s h k)) q && get_or flags (from_of (transition s h k)) false

-- one round: the states that are flagged, and those that a transition leads to from one of them
unfoldable pub round : List ℤ → Header → ℕ → List Bool → List Bool
round s h n flags = grown (λ _ q. get_or flags q false || any_below (enters s h n flags q) h.transitions) false 16

-- a flag for each state there may be, after i rounds: the states reached by at most i transitions
unfoldable pub flagged : List ℤ → Header → ℕ → ℕ → List Bool
flagged s h n zero = grown (λ _ q. eqb q (initial_of (entity s h n))) false 16
flagged s h n (suc i) = let t = flagged s h n i in round s h n t

-- the mask of the numbers below n of which f holds
unfoldable pub mask_below : (ℕ → Bool) → ℕ → ℕ
mask_below f n = sum_below (λ q. cond (f q) (2 ^ q) 0) n

-- S2: an entity has 16 states at most, so 16 rounds find each state that is reached
unfoldable pub reachable : List ℤ → Header → ℕ → ℕ
reachable s h n = let t = flagged s h n 16 in mask_below (λ q. get_or t q false) 16

-- ---- 02, CR 5

-- how many of the numbers below n f holds of
unfoldable pub count_below : (ℕ → Bool) → ℕ → ℕ
count_below f n = sum_below (λ q. cond (f q) 1 0) n

-- "the number of states in the mask"
unfoldable pub states_in : ℕ → ℕ
states_in mask = count_below (in_mask mask) 16

-- "scan the transitions once for each state found, the initial one included, and no more"
unfoldable pub scans : List ℤ → Header → ℕ → ℕ
scans s h n = let mask = reachable s h n in states_in mask
