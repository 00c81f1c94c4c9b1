-- An attempt neither reads nor writes the state of an entity that no effect of its operation names.
-- Assumes nothing.
use Rattle.std.specs.Prelude.{Option, Ok, Err}
use mathlib.Core.Path.{◌≡◌, refl}
use mathlib.Core.List.{List}
use Prim.Native.Nat.{ℕ, ◌<◌}
use lib.IntN.{ℤ, pos}
use lib.ListN.{get_or}
use Rattle.answer.specs.Answers.{Count}
use Rattle.layout.specs.declared.Header.{Header}
use Rattle.node.specs.FactValues.{FactValue}
use Rattle.operation.specs.Inner.{Agree, Untouched}
use Rattle.operation.proofs.Untouched.{chosen_agree, applied_agree, applied_untouched}
use Rattle.attempt.specs.Attempts.{attempted, states_after, attempted_states}

module _ (s : List ℤ) (h : Header) (o : ℕ) (a b : List ℤ) (k : Agree s h o a b) where
  after_agree : (n : ℕ) → n < h.entities → get_or a n (pos 0) ≡ get_or b n (pos 0) → (r : Count)
      → get_or (states_after s h a o r) n (pos 0) ≡ get_or (states_after s h b o r) n (pos 0)
  unfolding states_after
  after_agree n l q (Ok j) = applied_agree s h o a b k j n l q
  after_agree n l q (Err r) = q

  module _ (facts : List FactValue) (verdicts : List ℤ) (p : ℕ) (w : Option ℕ) where
    -- the answer is the same
    pub attempted_agree : attempted s h facts verdicts a p o w ≡ attempted s h facts verdicts b p o w
    unfolding attempted
    attempted_agree = rw (chosen_agree s h o a b k w)

    -- and an entity whose states are the same has the same state afterwards
    pub attempted_states_agree : (n : ℕ) → n < h.entities → get_or a n (pos 0) ≡ get_or b n (pos 0)
        → get_or (attempted_states s h facts verdicts a p o w) n (pos 0) ≡ get_or (attempted_states s h facts verdicts b p o w) n (pos 0)
    unfolding attempted_states
    attempted_states_agree n l q = rw attempted_agree (after_agree n l q (attempted s h facts verdicts b p o w))

module _ (s : List ℤ) (h : Header) (o n : ℕ) (a : List ℤ) (u : Untouched s h o n) (l : n < h.entities) where
  after_untouched : (r : Count) → get_or (states_after s h a o r) n (pos 0) ≡ get_or a n (pos 0)
  unfolding states_after
  after_untouched (Ok j) = applied_untouched s h o n a u j l
  after_untouched (Err r) = refl

  -- an entity that no effect names stays
  pub attempted_untouched : (facts : List FactValue) (verdicts : List ℤ) (p : ℕ) (w : Option ℕ)
      → get_or (attempted_states s h facts verdicts a p o w) n (pos 0) ≡ get_or a n (pos 0)
  unfolding attempted_states
  attempted_untouched facts verdicts p w = after_untouched (attempted s h facts verdicts a p o w)
