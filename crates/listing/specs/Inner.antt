-- What the inner functions ask and answer, and what proofs speak of. The definitions of the other files do not rest on these.
-- Assumes nothing.
use Rattle.std.specs.Prelude.{List, [], ◌∷◌, ℕ, ◌-◌, ◌≤◌, ◌<◌, zero, suc, min, ℤ, take, ◌≡◌, ◌↔◌, Ok, Err}
use Rattle.answer.specs.declared.Refusal.TheVariants.{LastPath}
use Rattle.layout.specs.declared.Header.{Header}
use Rattle.walks.specs.Paths.{path}
use Rattle.walks.specs.Follows.{walk_of, laid}
use Rattle.listing.specs.Calls.{first_walk, first_laid, next_walk, next_laid}
use Rattle.listing.specs.Lists.{Call, State, count, First, Next}

unfoldable pub called : List ℤ → Header → ℕ → List ℕ → Call → State
called s h f b First = record { buffer = first_laid s h f b; answer = first_walk s h f }
called s h f b Next = record { buffer = next_laid s h f b; answer = next_walk s h f b }

-- each further call is lent the buffer as the call before it left it
unfoldable pub called_on : List ℤ → Header → ℕ → State → List Call → State
called_on s h f t [] = t
called_on s h f t (c ∷ cs) = called_on s h f (called s h f t.buffer c) cs

-- demand 3, of a list of calls with n next calls since the latest first: the buffer holds path n, or the last path if there is no path n,
-- and 0 past it; the final call is refused 13 exactly when there is no path n, else it answers that path's terminal and length
pub record Listed (s : List ℤ) (h : Header) (f : ℕ) (b : List ℕ) (n : ℕ) (t : State) : Type 0 where
  pub holds : t.buffer ≡ laid (path s h f (min n (count s h f - 1))) b
  pub refused : (t.answer ≡ Err LastPath) ↔ (count s h f ≤ n)
  pub answers : n < count s h f → t.answer ≡ walk_of s h (path s h f n)

-- the paths that stand in the buffer after a call and after each of the nexts that follow it, up to the one that is refused, k calls at most
unfoldable pub read_off : List ℤ → Header → ℕ → ℕ → State → List (List ℕ)
read_off s h f zero t = []
read_off s h f (suc k) t =
    elim t.answer [
      | Ok w ↦ take w.count t.buffer ∷ read_off s h f k (called s h f t.buffer Next)
      | Err r ↦ []
    ]
