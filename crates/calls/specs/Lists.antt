-- 01, demand 3: lists of the public calls first and next, on one sheet, one flow and one buffer, which may hold anything before it; and a run
-- by itself.
-- Assumes nothing.
use Rattle.std.specs.Prelude.{◌≡◌, List, [], ◌∷◌, ◌↔◌, ℕ, ◌-◌, ◌≤◌, ◌<◌, min, ℤ, pos}
use Rattle.signed.specs.Words.{num}
use Rattle.answer.specs.Answers.{counted_answer}
use Rattle.layout.specs.declared.Header.{Header}
use Rattle.walks.specs.Paths.{path}
use Rattle.walks.specs.Follows.{walk_of, laid}
use Rattle.listing.specs.Lists.{Call, First, Next, State, count}
use Rattle.calls.specs.Flows.{first_answer, first_path, next_answer, next_path}

-- what the public call leaves in the buffer, and what it answers: the two sides of its contract
unfoldable pub public_call : List ℤ → ℤ → List ℕ → Call → State
public_call s f b First = record { buffer = first_path s f b; answer = first_answer s f b }
public_call s f b Next = record { buffer = next_path s f b; answer = next_answer s f b }

-- each further call is lent the buffer as the call before it left it
unfoldable pub public_calls : List ℤ → ℤ → State → List Call → State
public_calls s f t [] = t
public_calls s f t (c ∷ cs) = public_calls s f (public_call s f t.buffer c) cs

-- what holds after n nexts, in 01's numbers, as the exports answer them: refusal 13 exactly when there is no path n, else that path's
-- terminal and length
pub record ListedNumbers (s : List ℤ) (h : Header) (f : ℤ) (b : List ℕ) (n : ℕ) (t : State) : Type 0 where
  pub holds : t.buffer ≡ laid (path s h (num f) (min n (count s h (num f) - 1))) b
  pub refused : ((counted_answer t.answer).refusal ≡ pos 13) ↔ (count s h (num f) ≤ n)
  pub answers : n < count s h (num f) → counted_answer t.answer ≡ counted_answer (walk_of s h (path s h (num f) n))
