-- Whatever an attempt does, S3a and S4 say of that persona; and it leaves the states within S2.
-- Assumes nothing.
use Rattle.std.specs.Prelude.{Option, Ok, Err}
use mathlib.Core.Path.{◌≡◌, refl, sym, ap, subst, ◌∙◌}
use mathlib.Core.Bool.{true}
use mathlib.Core.List.{List}
use Prim.Native.Nat.{ℕ, ◌<◌}
use lib.IntN.{ℤ}
use Rattle.tables.proofs.Bools.{tests}
use Rattle.tables.proofs.Scans.{any_of}
use Rattle.answer.specs.Answers.{Count}
use Rattle.signed.specs.Words.{num}
use Rattle.signed.proofs.Bounds.{true_in}
use Rattle.signed.proofs.Numbers.{num_of}
use Rattle.layout.specs.declared.Header.{Header}
use Rattle.layout.specs.Tables.{operation, effect}
use Rattle.node.specs.FactValues.{FactValue}
use Rattle.records.proofs.OperationLaws.{operation_ok}
use Rattle.predicate.proofs.ValueLaws.{true_in_range}
use Rattle.operation.specs.States.{present}
use Rattle.operation.specs.Inner.{performed}
use Rattle.operation.proofs.Movers.{Moves}
use Rattle.operation.proofs.Guarantees.{Changed, performed_by, changes}
use Rattle.reach.specs.Moves.{leaves, leads}
use Rattle.reach.specs.Reached.{Reached}
use Rattle.reach.proofs.Steps.{reached_after}
use Rattle.attempt.specs.Attempts.{attempted, attempted_states}
use Rattle.attempt.specs.Inner.{Attemptable}
use Rattle.attempt.proofs.AttemptLaws.{Chose, chose_so, outcome_states, refused_states}
use Rattle.causes.specs.Causes.{can_be_true, admissible, causes, can_cause}
use Rattle.causes.proofs.Effects.{some_of}

module _ {s : List ℤ} {h : Header} {facts : List FactValue} {verdicts states : List ℤ} {p o : ℕ} (w : Attemptable s h facts verdicts states p o)
    (d : Option ℕ) where
  -- what an attempt that is not refused chose
  went : (j : ℕ) → attempted s h facts verdicts states p o d ≡ Ok j → Chose s h facts verdicts states p o d (Ok j)
  went j q = chose_so s h facts verdicts states p o d (Ok j) tt q

  module _ (j : ℕ) (q : attempted s h facts verdicts states p o d ≡ Ok j) where
    -- its precondition's range includes 1
    pub could_be_true : can_be_true s h o ≡ true
    unfolding can_be_true
    could_be_true =
        let k = operation_ok w.ready.accepted o w.ready.exists in
        true_in _ _ _ (true_in_range s h facts verdicts w.ready.accepted w.known w.judged (operation s h o).w1 k.node k.closed
        (went j q).truth)

    -- each effect that was applied is one that S3a and S4 say the persona can cause
    module _ (n e : ℕ) (m : Moves s h states o j n e) where
      starts : leaves n (effect s h e).w1 (effect s h e) ≡ true
      unfolding leaves
      starts = simp tests (m.entity, refl)

      pub applied_admissible : admissible s h n (effect s h e).w1 p o ≡ true
      unfolding admissible
      applied_admissible =
          let f = some_of s h o (leaves n (effect s h e).w1) w.ready.accepted w.ready.exists e (record { of = m.of; passes = starts }) in
          rw ((went j q).allowed, f, could_be_true)

      pub applied_caused : can_cause s h p n (effect s h e).w1 (effect s h e).w2 ≡ true
      unfolding can_cause causes leads
      applied_caused =
          let f =
          some_of s h o (leads n (effect s h e).w1 (effect s h e).w2) w.ready.accepted w.ready.exists e
          (record { of = m.of; passes = simp tests (starts, refl) }) in
          any_of (causes s h p n (effect s h e).w1 (effect s h e).w2) h.operations o w.ready.exists (simp tests (applied_admissible, f))

  -- a state that an attempt changes from a to b: S3a and S4 say yes of it for that persona
  pub caused : (n a b : ℕ) → n < h.entities → present states n ≡ a → present (attempted_states s h facts verdicts states p o d) n ≡ b → (a ≡ b → ⊥)
      → (admissible s h n a p o ≡ true) × (can_cause s h p n a b ≡ true)
  caused n a b l ea eb x = go (attempted s h facts verdicts states p o d) refl
    where
      go : (r : Count) → attempted s h facts verdicts states p o d ≡ r → (admissible s h n a p o ≡ true) × (can_cause s h p n a b ≡ true)
      go (Err r) q = absurd (x (sym ea ∙ sym (ap (λ (t : List ℤ). present t n) (refused_states s h facts verdicts states p o d r q)) ∙ eb))
      go (Ok j) q =
          let same = outcome_states s h facts verdicts states p o d j q ∙ sym (performed_by s h states o d j (went j q).chosen) in
          let c = changes w.ready d n l (λ z. x (sym ea ∙ sym (ap num z) ∙ ap (λ (t : List ℤ). present t n) (sym same) ∙ eb)) in
          along c.0 c.1 c.2 q same
        where
          along : (i e : ℕ) → Changed s h states o d i n e → attempted s h facts verdicts states p o d ≡ Ok j
              → attempted_states s h facts verdicts states p o d ≡ performed s h states o d
              → (admissible s h n a p o ≡ true) × (can_cause s h p n a b ≡ true)
          along i e k q same =
              let z : i ≡ j = cc (sym k.chosen ∙ (went j q).chosen) in
              let m : Moves s h states o j n e = subst (λ (t : ℕ). Moves s h states o t n e) z k.moves in
              let from : (effect s h e).w1 ≡ a = m.from ∙ ea in
              let to : (effect s h e).w2 ≡ b =
              sym (num_of (effect s h e).w2) ∙ sym (ap num k.new) ∙ ap (λ (t : List ℤ). present t n) (sym same) ∙ eb in
              (rw (← from) (applied_admissible j q n e m), rw (← from, ← to) (applied_caused j q n e m))

  -- and a state that is reached stays so
  pub reached_attempt : (n : ℕ) → n < h.entities → Reached s h n (present states n)
      → Reached s h n (present (attempted_states s h facts verdicts states p o d) n)
  reached_attempt n l v = go (attempted s h facts verdicts states p o d) refl
    where
      go : (r : Count) → attempted s h facts verdicts states p o d ≡ r → Reached s h n (present (attempted_states s h facts verdicts states p o d) n)
      go (Err r) q = rw (refused_states s h facts verdicts states p o d r q) v
      go (Ok j) q =
          rw (outcome_states s h facts verdicts states p o d j q, ← performed_by s h states o d j (went j q).chosen)
          (reached_after w.ready d n l v)
