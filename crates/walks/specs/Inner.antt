-- What the inner functions ask and answer, and what proofs speak of. The definitions of the other files do not rest on these.
-- Assumes nothing.
use Rattle.std.specs.Prelude.{true, false, List, [], ◌∷◌, ℕ, ◌-◌, ◌≤◌, ◌<◌, ◌+◌, ℤ, length, get_or, ◌≡◌}
use Rattle.layout.specs.declared.Header.{Header}
use Rattle.records.specs.Accepted.{Accepted}
use Rattle.walks.specs.Paths.{steps_of, WholeList, onward, paths_from}
use Rattle.layout.specs.Tables.{flow, step_start_of}
use Rattle.records.specs.Flows.{steps_end}
use Rattle.walks.specs.declared.Walker.{Walker}
use Rattle.walks.specs.Walkers.{taken}

-- what first and next ask for: an accepted sheet, a flow of it, and a buffer at least as long as the flow has steps
pub record Lent (s : List ℤ) (h : Header) (f : ℕ) (b : List ℕ) : Type 0 where
  pub sheet : Accepted s h
  pub flow : f < h.flows
  pub room : steps_of s h f ≤ length b

-- and there is a path
pub record PathList (s : List ℤ) (h : Header) (f : ℕ) (ps : List (List ℕ)) : Type 0 where
  pub some : 1 ≤ length ps
  pub whole : WholeList s h f ps

-- it takes one route after the other
unfoldable pub walked : List ℤ → Header → Walker → List ℕ → Walker
walked s h w [] = w
walked s h w (r ∷ p) = walked s h (taken s h w r) p

-- the paths from step i; no flow has more steps than the sheet
unfoldable pub paths_on : List ℤ → Header → ℕ → List (List ℕ)
paths_on s h i = paths_from s h h.steps i

-- what can follow route r
abbrev pub paths_after : List ℤ → Header → ℕ → List (List ℕ)
paths_after s h r = onward s h (paths_on s h) r

-- what a walker can still take: nothing once it is finished
unfoldable pub remaining : List ℤ → Header → Walker → List (List ℕ)
remaining s h w = elim w.finished [ true ↦ [] ∷ [] | false ↦ paths_on s h w.step ]

-- the first of them: first routes alone
abbrev pub first_way : List ℤ → Header → Walker → List ℕ
first_way s h w = get_or (remaining s h w) 0 []

-- i is a step of a flow, and at most n of its steps are left, itself counted
pub record Way (s : List ℤ) (h : Header) (i n : ℕ) : Type 0 where
  pub of : ℕ
  pub exists : of < h.flows
  pub low : step_start_of (flow s h of) ≤ i
  pub high : i < steps_end s h of
  pub left : steps_end s h of ≤ i + n

-- on an accepted sheet: a walker that is not finished is on its way, and has room for it in a buffer
pub record Going (s : List ℤ) (h : Header) (w : Walker) (room : ℕ) : Type 0 where
  pub sheet : Accepted s h
  pub short : w.length ≤ room
  pub way : w.finished ≡ false → Way s h w.step (room - w.length)
