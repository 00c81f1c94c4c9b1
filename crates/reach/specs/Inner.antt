-- What the inner functions answer. The definitions of the other files do not rest on these.
-- Assumes nothing.
use Rattle.std.specs.Prelude.{◌≡◌, Bool, false, not, cond, ◌&&◌, ◌||◌, List, [], ℕ, ◌<◌, ℤ, ltb, length, get_or, replicate, Option, None, Some}
use Rattle.tables.specs.Scan.{any_below, first_fail}
use Rattle.layout.specs.declared.Header.{Header}
use Rattle.layout.specs.Tables.{transition}
use Rattle.reach.specs.Moves.{leads}

-- transition k leads entity n from state a to state b
abbrev pub leads_by : List ℤ → Header → ℕ → ℕ → ℕ → ℕ → Bool
leads_by s h n a b k = leads n a b (transition s h k)

-- flags as they were before, with those set of which f holds for one of the first k things
pub record Flagging (f : ℕ → ℕ → Bool) (size k : ℕ) (before after : List Bool) : Type 0 where
  pub long : length after ≡ size
  pub each : (q : ℕ) → q < size → get_or after q false ≡ (get_or before q false || any_below (f q) k)

-- the transitions have been scanned for state a: where they lead from it is flagged too
abbrev pub Spread : List ℤ → Header → ℕ → ℕ → List Bool → List Bool → Type 0
Spread s h n a before after = Flagging (leads_by s h n a) 16 h.transitions before after

-- the moves of entity n are kept: of each state, a flag for each state that it leads to
pub record Kept (s : List ℤ) (h : Header) (n : ℕ) (moves : List (List Bool)) : Type 0 where
  pub row : (a : ℕ) → a < 16 → Spread s h n a (replicate 16 false) (get_or moves a [])

-- before the first scan no move is kept, and after it all are
pub record Ready (s : List ℤ) (h : Header) (n scans : ℕ) (moves : List (List Bool)) : Type 0 where
  pub first : scans ≡ 0 → moves ≡ replicate 16 (replicate 16 false)
  pub later : 0 < scans → Kept s h n moves

-- the kept moves from a state have been scanned
pub record Joined (row before after : List Bool) : Type 0 where
  pub long : length after ≡ 16
  pub each : (q : ℕ) → q < 16 → get_or after q false ≡ (get_or before q false || get_or row q false)

-- state q is not found, or is scanned already
unfoldable pub settled : List Bool → List Bool → ℕ → Bool
settled found scanned q = not (get_or found q false && not (get_or scanned q false))

-- the first state that is found and not scanned
unfoldable pub next_open : List Bool → List Bool → Option ℕ
next_open found scanned = let q = first_fail (settled found scanned) 0 16 in cond (ltb q 16) (Some q) None
