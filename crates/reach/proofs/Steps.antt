-- A state that is reached stays so along declared transitions, and so along operations.
-- Assumes nothing.
use mathlib.Core.Path.{◌≡◌, subst, ◌∙◌}
use mathlib.Core.List.{List}
use Prim.Native.Nat.{ℕ, ◌<◌}
use lib.IntN.{ℤ, pos, ℤ_discrete}
use lib.ListN.{get_or}
use Rattle.signed.proofs.Numbers.{num_of}
use Rattle.words.specs.declared.Record.{Record}
use Rattle.layout.specs.declared.Header.{Header}
use Rattle.layout.specs.Tables.{effect}
use Rattle.records.proofs.OperationLaws.{Declared}
use Rattle.operation.specs.States.{present}
use Rattle.std.specs.Prelude.{Option}
use Rattle.operation.specs.Inner.{performed}
use Rattle.operation.specs.Ready.{Ready}
use Rattle.operation.proofs.Guarantees.{changes}
use Rattle.reach.specs.Reached.{Reached, along}

module _ (s : List ℤ) (h : Header) (n : ℕ) where
  -- a declared transition of the entity leads from a reached state to a reached state
  pub reached_step : (r : Record ℕ) → Declared s h r → r.w0 ≡ n → Reached s h n r.w1 → Reached s h n r.w2
  reached_step r d e v = subst (Reached s h n) d.to (along v d.which d.exists (d.entity ∙ e) d.from)

-- an operation leaves each entity in a state that is reached, where it was in one
pub reached_after : {s : List ℤ} {h : Header} {states : List ℤ} {o : ℕ} → Ready s h states o → (d : Option ℕ) (n : ℕ) → n < h.entities
    → Reached s h n (present states n) → Reached s h n (present (performed s h states o d) n)
reached_after {s} {h} {states} {o} w d n l v = go (ℤ_discrete (get_or (performed s h states o d) n (pos 0)) (get_or states n (pos 0)))
  where
    go : Dec (get_or (performed s h states o d) n (pos 0) ≡ get_or states n (pos 0)) → Reached s h n (present (performed s h states o d) n)
    go (yes e) = rw e v
    go (no x) =
        let c = (changes w d n l x).2 in
        let e = (changes w d n l x).1 in
        rw (c.new, num_of (effect s h e).w2) (reached_step s h n (effect s h e) c.transition c.moves.entity (rw c.moves.from v))
