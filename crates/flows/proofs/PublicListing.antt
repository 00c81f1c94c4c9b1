-- Demand 3 of the public calls: over every list of first and next that starts with a first, and of every run by itself.
-- Assumes nothing.
use Rattle.std.specs.Prelude.{Ok, Err}
use mathlib.Core.Path.{◌≡◌, refl, ap, ◌∙◌}
use mathlib.Core.List.{List, [], ◌∷◌}
use Prim.Native.Nat.{ℕ, zero, suc, ◌≤◌, ◌<◌}
use lib.IntN.{ℤ, pos, nat_abs}
use lib.ListN.{length, take}
use native.Mathlib.Omega.{arith}
use native.Mathlib.Decide.{dec_lt}
use borrow.Author.Tests.{ltb-true, le-leb}
use Rattle.signed.specs.Words.{num}
use Rattle.answer.specs.Answers.{tallied, counted_answer, Counted}
use Rattle.layout.specs.declared.Header.{Header}
use Rattle.facts.specs.Lent.{LentFacts}
use Rattle.instances.specs.Records.{LentStates}
use Rattle.instances.specs.Named.{gathered}
use Rattle.facts.specs.Assembled.{assembled}
use Rattle.predicate.specs.Verdicts.{verdicts_of}
use Rattle.walks.specs.Paths.{steps_of, paths}
use Rattle.walks.specs.Inner.{PathList, Lent}
use Rattle.listing.specs.Inner.{called, called_on, Listed, read_off}
use Rattle.listing.specs.Lists.{Call, First, Next, State, nexts, count}
use Rattle.listing.proofs.Listing.{calls_listed, listing, held_length, listing_whole, listing_paths}
use Rattle.run.specs.Runs.{wanted_at, ran, ran_path}
use Rattle.run.proofs.RunPaths.{run_listed}
use Rattle.ladder.specs.Ladder.{opened}
use Rattle.ladder.proofs.ClimbLaws.{all_passed, opened_at, climbed_at, climbs, by_all}
use Rattle.calls.specs.Flows.{flow_rungs, run_rungs, run_climb, run_answer}
use Rattle.calls.specs.Lists.{public_call, public_calls, ListedNumbers}
use Rattle.calls.specs.Inner.{public_read_off, Listable, TookPath}
use Rattle.flows.proofs.FlowCallLaws.{steps_judged, runnable, going}

-- ---- lists of calls

module _ {s : List ℤ} {h : Header} {f : ℤ} {b : List ℕ} (u : Listable s h f b) where
  pub listable_lent : Lent s h (num f) b
  listable_lent = record { sheet = (opened_at s refl u.sheet).sheet; flow = ltb-true _ _ u.flow; room = u.room }

  -- nothing is refused by the ladder, on any buffer of that length
  passes : (c : List ℕ) → length c ≡ length b → flow_rungs s f (length c) h ≡ Ok tt
  unfolding flow_rungs
  passes c e =
      all_passed
      record {
        lengths = rw (steps_judged s h f (length c) u.flow) (le-leb (steps_of s h (num f)) (length c) (omega (arith, u.room, e)));
        numbers = u.flow;
        facts = refl;
        states = refl;
      }

  -- so a public call is the call below the ladder
  call_below : (c : List ℕ) → length c ≡ length b → (k : Call) → public_call s f c k ≡ called s h (num f) c k
  unfolding public_call called
  call_below c e First =
      rw (climbs (flow_rungs s f (length c)) _ _ u.sheet (passes c e), climbs (flow_rungs s f (length c)) _ _ u.sheet (passes c e))
  call_below c e Next =
      rw (climbs (flow_rungs s f (length c)) _ _ u.sheet (passes c e), climbs (flow_rungs s f (length c)) _ _ u.sheet (passes c e))

  -- what is listed, in 01's numbers
  in_numbers : (n : ℕ) (t : State) → Listed s h (num f) b n t → ListedNumbers s h f b n t
  in_numbers n t r =
      record {
        holds = r.holds;
        refused = (λ e. none e (dec_lt n (count s h (num f))), λ l. rw (r.refused.1 l));
        answers = λ l. ap counted_answer (r.answers l);
      }
    where
      none : (counted_answer t.answer).refusal ≡ pos 13 → Dec (n < count s h (num f)) → count s h (num f) ≤ n
      none e (yes l) = let z : ◌≡◌ {A = ℤ} (pos 0) (pos 13) = rw (r.answers l) at e in absurd (omega (arith, ap nat_abs z))
      none e (no l) = omega arith

  -- one call keeps what holds along a list
  one_listed : (n : ℕ) (t : State) → Listed s h (num f) b n t → (k : Call)
      → Listed s h (num f) b (nexts n (k ∷ [])) (public_call s f t.buffer k)
  unfolding called_on
  one_listed n t r k = rw (call_below t.buffer (held_length listable_lent n t r) k) (calls_listed listable_lent n t r (k ∷ []))

  rest_listed : (n : ℕ) (t : State) → Listed s h (num f) b n t → (cs : List Call)
      → Listed s h (num f) b (nexts n cs) (public_calls s f t cs)
  unfolding nexts public_calls
  rest_listed n t r [] = r
  rest_listed n t r (First ∷ cs) = rest_listed 0 (public_call s f t.buffer First) (one_listed n t r First) cs
  rest_listed n t r (Next ∷ cs) = rest_listed (suc n) (public_call s f t.buffer Next) (one_listed n t r Next) cs

  -- the theorem: of every list of the public calls that starts with a first, refused ones included, whatever the buffer held before
  pub public_listing : (cs : List Call) → Listed s h (num f) b (nexts 0 (First ∷ cs)) (public_calls s f (public_call s f b First) cs)
  unfolding nexts called_on
  public_listing cs =
      rest_listed 0 (public_call s f b First) (rw (call_below b refl First) (listing listable_lent [])) cs

  -- the same in 01's numbers
  pub public_numbers : (cs : List Call) → ListedNumbers s h f b (nexts 0 (First ∷ cs)) (public_calls s f (public_call s f b First) cs)
  public_numbers cs = in_numbers (nexts 0 (First ∷ cs)) (public_calls s f (public_call s f b First) cs) (public_listing cs)

  -- ---- a first and then nexts until one is refused

  read_same : (k n : ℕ) (t : State) → Listed s h (num f) b n t → public_read_off s f k t ≡ read_off s h (num f) k t
  unfolding public_read_off read_off
  read_same zero n t r = refl
  read_same (suc k) n t r =
      go t.answer refl
      (read_same k (nexts n (Next ∷ [])) (public_call s f t.buffer Next) (one_listed n t r Next)
      ∙ ap (read_off s h (num f) k) (call_below t.buffer (held_length listable_lent n t r) Next))
    where
      go : (a : Counted) → t.answer ≡ a
          → public_read_off s f k (public_call s f t.buffer Next) ≡ read_off s h (num f) k (called s h (num f) t.buffer Next)
          → public_read_off s f (suc k) t ≡ read_off s h (num f) (suc k) t
      go (Ok w) q after = rw (q, public_read_off, read_off) (ap (λ (z : List (List ℕ)). take w.count t.buffer ∷ z) after)
      go (Err x) q after = rw (q, public_read_off, read_off)

  -- the paths read off the buffer are the flow's list of paths, which is every path, each once, in order
  pub public_whole : (k : ℕ) → count s h (num f) < k
      → (public_read_off s f k (public_call s f b First) ≡ paths s h (num f)) × PathList s h (num f) (public_read_off s f k (public_call s f b First))
  unfolding public_calls nexts
  public_whole k q =
      let e = read_same k 0 (public_call s f b First) (public_listing []) ∙ ap (read_off s h (num f) k) (call_below b refl First) in
      (e ∙ listing_whole listable_lent k q, rw e (listing_paths listable_lent k q))

-- ---- runs

-- any run that is not refused, whatever its facts and states and whatever its steps want, takes one of the listed paths
pub run_takes_path : (s : List ℤ) (t : LentFacts) (states : LentStates) (f : ℤ) (words : List ℤ) (b : List ℕ) (end n : ℕ)
    → run_answer s t states f words b ≡ tallied end n → TookPath s t states f words b
unfolding ran_path
run_takes_path s t states f words b end n =
    by_all (λ (a : Counted). a ≡ tallied end n → TookPath s t states f words b) (run_climb s t states f words (length b)) Err _
    (λ r p e. let z : ◌≡◌ {A = ℕ} 0 1 = cc in absurd (omega arith))
    (λ h p e. took h p)
  where
    took : (h : Header) → run_climb s t states f words (length b) ≡ Ok h → TookPath s t states f words b
    took h p =
        let w = climbed_at (opened s) (run_rungs s t states f words (length b)) refl p in
        let facts = assembled s h t in
        let r = run_listed (runnable (going s t states f words b refl p) refl refl) words in
        record {
          header = h;
          sheet = w.sheet;
          path = (ran s h facts (verdicts_of s h facts) (gathered h states) (num f) (wanted_at s h (num f) words)).path;
          listed = r.listed;
          left = climbs (run_rungs s t states f words (length b)) _ _ w.sheet w.clear;
          answers = climbs (run_rungs s t states f words (length b)) _ _ w.sheet w.clear ∙ r.answers;
        }
