-- What the inner functions ask and answer, and what proofs speak of. The definitions of the other files do not rest on these.
-- Assumes nothing.
use Rattle.std.specs.Prelude.{◌≡◌, true, List, [], ◌∷◌, ℕ, zero, suc, ◌≤◌, ℤ, length, take, Ok, Err}
use Rattle.signed.specs.Words.{num}
use Rattle.layout.specs.declared.Header.{Header}
use Rattle.facts.specs.Lent.{LentFacts}
use Rattle.instances.specs.Records.{LentStates}
use Rattle.walks.specs.Paths.{steps_of, paths, Among}
use Rattle.walks.specs.Follows.{walk_of, laid}
use Rattle.listing.specs.Lists.{Next, State}
use Rattle.ladder.specs.Ladder.{opened, exists}
use Rattle.calls.specs.Flows.{run_answer, run_path}
use Rattle.calls.specs.Lists.{public_call}

-- an accepted sheet with its header, a flow of it, and a buffer at least as long as the flow has steps
pub record Listable (s : List ℤ) (h : Header) (f : ℤ) (b : List ℕ) : Type 0 where
  pub sheet : opened s ≡ Ok h
  pub flow : exists f h.flows ≡ true
  pub room : steps_of s h (num f) ≤ length b

-- the paths that stand in the buffer after a call and after each of the nexts that follow it, up to the one that is refused, k calls at most
unfoldable pub public_read_off : List ℤ → ℤ → ℕ → State → List (List ℕ)
public_read_off s f zero t = []
public_read_off s f (suc k) t =
    elim t.answer [
      | Ok w ↦ take w.count t.buffer ∷ public_read_off s f k (public_call s f t.buffer Next)
      | Err r ↦ []
    ]

-- of a run by itself: the sheet was accepted, and it took the routes of one of the flow's paths, which stands in the buffer with 0 past it,
-- and answered that path's terminal and length
pub record TookPath (s : List ℤ) (t : LentFacts) (states : LentStates) (f : ℤ) (words : List ℤ) (b : List ℕ) : Type 0 where
  pub header : Header
  pub sheet : opened s ≡ Ok header
  pub path : List ℕ
  pub listed : Among (paths s header (num f)) path
  pub left : run_path s t states f words b ≡ laid path b
  pub answers : run_answer s t states f words b ≡ walk_of s header path
