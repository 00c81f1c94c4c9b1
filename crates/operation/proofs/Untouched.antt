-- An operation neither reads nor writes the state of an entity that none of its effects names.
-- Assumes nothing.
use mathlib.Core.Path.{◌≡◌, sym, ap₂, fun_ext, ◌∙◌}
use mathlib.Core.Bool.{Bool, true, false}
use mathlib.Core.List.{List}
use mathlib.Core.Logic.{◌⊎◌, inl, inr}
use Prim.Native.Nat.{ℕ, ◌<◌}
use lib.IntN.{ℤ, pos}
use lib.ListN.{get_or}
use Rattle.tables.proofs.Bools.{tests, bool_cases, and_left}
use Rattle.layout.specs.declared.Header.{Header}
use Rattle.layout.specs.Tables.{effect}
use Rattle.records.specs.Operations.{outcomes}
use Rattle.std.specs.Prelude.{Option}
use Rattle.operation.specs.Outcomes.{of_operation, of_outcome, starts, moves, matched, unblocked, applicable, blocking, blocker, choice, chosen}
use Rattle.operation.specs.Changes.{mover, new_state, applied}
use Rattle.operation.specs.Inner.{Agree, Untouched}
use Rattle.operation.proofs.Movers.{stays, applied_at}

module _ (s : List ℤ) (h : Header) (o : ℕ) (a b : List ℤ) (k : Agree s h o a b) where
  -- the same effects start from the present states
  moves_agree : (j n : ℕ) → moves s h a o j n ≡ moves s h b o j n
  unfolding moves starts of_outcome of_operation
  moves_agree j n = fun_ext (λ e. go e (bool_cases (of_outcome s h o j e)))
    where
      go : (e : ℕ) → (of_outcome s h o j e ≡ true) ⊎ (of_outcome s h o j e ≡ false) → moves s h a o j n e ≡ moves s h b o j n e
      go e (inl t) = rw (k e (and_left _ _ t))
      go e (inr f) = rw f

  unblocked_agree : (j : ℕ) → unblocked s h a o j ≡ unblocked s h b o j
  unfolding unblocked matched
  unblocked_agree j = fun_ext (λ e. rw (moves_agree j (effect s h e).w0))

  -- so the same outcome is chosen, or the same entity blocks
  pub chosen_agree : (w : Option ℕ) → chosen s h a o w ≡ chosen s h b o w
  unfolding chosen applicable blocker blocking
  chosen_agree w =
      ap₂ (λ (f : ℕ → Bool) (g : ℕ → ℕ). choice f g (outcomes s h o) w)
      (fun_ext (λ j. rw (unblocked_agree j))) (fun_ext (λ j. rw (unblocked_agree j)))

  -- and an entity whose states are the same has the same state afterwards
  pub applied_agree : (j n : ℕ) → n < h.entities → get_or a n (pos 0) ≡ get_or b n (pos 0)
      → get_or (applied s h a o j) n (pos 0) ≡ get_or (applied s h b o j) n (pos 0)
  unfolding new_state mover
  applied_agree j n l q =
      let same : new_state s h a o j n ≡ new_state s h b o j n = rw (moves_agree j n, q) in
      applied_at s h a o j n l ∙ same ∙ sym (applied_at s h b o j n l)

-- an entity that no effect names stays
pub applied_untouched : (s : List ℤ) (h : Header) (o n : ℕ) (a : List ℤ) → Untouched s h o n → (j : ℕ) → n < h.entities
    → get_or (applied s h a o j) n (pos 0) ≡ get_or a n (pos 0)
unfolding of_operation
applied_untouched s h o n a u j l =
    applied_at s h a o j n l ∙ stays s h a o j n (λ e m. u e (simp tests (m.of.low, m.of.high)) m.entity)
