-- The loop over an operation's outcomes, and what it chooses.
-- Assumes nothing.
use mathlib.Core.Path.{◌≡◌, refl, sym, ◌∙◌, ap}
use mathlib.Core.Bool.{Bool, true, false}
use mathlib.Core.List.{List}
use Prim.Native.Nat.{ℕ, ◌+◌, ◌≤◌, ◌<◌}
use lib.IntN.{ℤ}
use lib.ListN.{get_or}
use native.Mathlib.Omega.{arith}
use Rattle.tables.proofs.Scans.{all_of, all_fails}
use Rattle.layout.specs.declared.Header.{Header}
use Rattle.layout.specs.Tables.{operation, effect}
use Rattle.records.proofs.OperationLaws.{operation_ok}
use Rattle.answer.specs.declared.Refusal.TheVariants.{NoOutcome, ManyOutcomes}
use Rattle.std.specs.Prelude.{Option, None, Some, Err, ok_or}
use Rattle.operation.specs.declared.Effects.{Effects}
use Rattle.operation.specs.Outcomes.{of_outcome, matched, unblocked, applicable, blocker, another, only, chosen}
use Rattle.operation.specs.Ready.{Ready}
use Rattle.operation.specs.Inner.{asks, about, candidate, OutcomeAt, Collected, FirstUnmatched, effects_of}
use Rattle.operation.proofs.Targets.{first_is, outcomes_is, flagged}
use Rattle.operation.proofs.Choices.{blocks_before, before_none, before_this, before_other, before_free, before_all, only_without, not_applies, not_asked, one_more, still_many, asked_only}
use Rattle.operation.proofs.Blockers.{matched_free, first_blocks, applicable_blocks, none_blocks}

-- the choice is made among the outcomes before j, b is what blocks the outcome asked about if that is one of them, and j starts at effect `at`
pub record Passed (s : List ℤ) (h : Header) (states : List ℤ) (o : ℕ) (wanted : Option ℕ) (j at : ℕ) (choice : Option ℕ) (b : ℕ) : Type 0 where
  pub start : OutcomeAt s h o j at
  pub so_far : (k : ℕ) → only (candidate (applicable s h states o) wanted) k j ≡ ok_or choice (NoOutcome k)
  pub blocked : b ≡ blocks_before (blocker s h states o) wanted j

module _ {s : List ℤ} {h : Header} {states : List ℤ} {o : ℕ} (w : Ready s h states o) (wanted : Option ℕ) where
  pub outset : (x : Effects) → x ≡ effects_of s h o → Passed s h states o wanted 0 x.first None 0
  unfolding only
  outset x e =
      rw (first_is s h o x e)
      (record {
        start = record { low = omega arith; high = omega arith; before = λ e a b. absurd (omega arith); from = λ e a b. omega arith };
        so_far = λ k. refl;
        blocked = sym (before_none (blocker s h states o) wanted);
      })

  -- what is chosen, by the outcomes that are asked for
  by_asked : only (candidate (applicable s h states o) wanted) (blocker s h states o (about wanted)) (operation s h o).w4 ≡ chosen s h states o wanted
  unfolding chosen
  by_asked = asked_only (applicable s h states o) (blocker s h states o) wanted (operation s h o).w4

  -- all outcomes are passed
  pub all_passed : (x : Effects) → x ≡ effects_of s h o → (at : ℕ) (choice : Option ℕ) (b : ℕ) → Passed s h states o wanted x.outcomes at choice b
      → ok_or choice (NoOutcome b) ≡ chosen s h states o wanted
  all_passed x t at choice b r =
      let e = outcomes_is s h o x t in
      let g = blocker s h states o in
      let p : b ≡ g (about wanted) = r.blocked ∙ rw e (before_all g wanted (operation s h o).w4 (none_blocks w (about wanted))) in
      rw p (sym (r.so_far (g (about wanted))) ∙ rw e by_asked)

  module _ (j at stop : ℕ) (choice : Option ℕ) (b : ℕ) (flags : List Bool)
      (r : Passed s h states o wanted j at choice b) (k : Collected s h states o j at stop flags) where
    pub ends_in : stop ≤ h.effects
    ends_in = omega (arith, k.next.high, (operation_ok w.accepted o w.exists).end)

    flag_is : (e : ℕ) → at ≤ e → e < stop → get_or flags (effect s h e).w0 false ≡ matched s h states o j (effect s h e).w0
    flag_is e a b = k.each (effect s h e).w0 (flagged w.accepted e (omega (arith, ends_in)))

    -- what is checked is not blocked
    free : (e : ℕ) → ((d : ℕ) → at ≤ d → d < e → get_or flags (effect s h d).w0 false ≡ true)
        → (d : ℕ) → (of_outcome s h o j d ≡ true → d < e) → unblocked s h states o j d ≡ true
    free e c d l =
        matched_free s h states o j d (λ t. let a = k.only d t in sym (flag_is d a.0 a.1) ∙ c d a.0 (l t))

    -- an effect whose entity is not matched, all before it being so: the outcome is not applicable, and the entity is what blocks it
    module _ (n e : ℕ) (u : FirstUnmatched s h flags at stop e n) where
      blocks_here : unblocked s h states o j e ≡ false
      unfolding unblocked
      blocks_here = rw (k.inside e u.low u.high, sym (flag_is e u.low u.high) ∙ rw u.entity at u.unmatched)

      in_sheet : e < h.effects
      in_sheet = omega (arith, ends_in, u.high)

      blocker_is : n ≡ blocker s h states o j
      blocker_is = u.entity ∙ first_blocks s h states o j e in_sheet (λ d i. free e u.earlier d (λ _. i)) blocks_here

      not_here : applicable s h states o j ≡ false
      unfolding applicable
      not_here = all_fails (unblocked s h states o j) h.effects e in_sheet blocks_here

      over : (x : ℕ) → x ≡ blocks_before (blocker s h states o) wanted (j + 1) → Passed s h states o wanted (j + 1) stop choice x
      over x p =
          record {
            start = k.next;
            so_far = λ i. only_without _ i j (not_applies (applicable s h states o) wanted j not_here) ∙ r.so_far i;
            blocked = p;
          }

      pub over_this : about wanted ≡ j → Passed s h states o wanted (j + 1) stop choice n
      over_this p = over n (before_this (blocker s h states o) wanted j n blocker_is p)

      pub over_other : (about wanted ≡ j → ⊥) → Passed s h states o wanted (j + 1) stop choice b
      over_other x = over b (r.blocked ∙ before_other (blocker s h states o) wanted j x)

    -- no such effect: the outcome is applicable
    module _ (c : (d : ℕ) → at ≤ d → d < stop → get_or flags (effect s h d).w0 false ≡ true) where
      applies : applicable s h states o j ≡ true
      unfolding applicable
      applies = all_of (unblocked s h states o j) h.effects (λ d _. free stop c d (λ t. (k.only d t).1))

      on : (x : Option ℕ) → ((i : ℕ) → only (candidate (applicable s h states o) wanted) i (j + 1) ≡ ok_or x (NoOutcome i))
          → Passed s h states o wanted (j + 1) stop x b
      on x p =
          record {
            start = k.next;
            so_far = p;
            blocked = r.blocked ∙ before_free (blocker s h states o) wanted j (applicable_blocks s h states o j applies);
          }

      pub not_wanted : asks wanted j ≡ false → Passed s h states o wanted (j + 1) stop choice b
      not_wanted p = on choice (λ i. only_without _ i j (not_asked (applicable s h states o) wanted j p) ∙ r.so_far i)

      more : asks wanted j ≡ true → (i : ℕ)
          → only (candidate (applicable s h states o) wanted) i (j + 1) ≡ another j (ok_or choice (NoOutcome i))
      more p i = one_more (applicable s h states o) wanted i j p applies ∙ ap (another j) (r.so_far i)

      pub the_first : asks wanted j ≡ true → choice ≡ None → Passed s h states o wanted (j + 1) stop (Some j) b
      unfolding another
      the_first p e = on (Some j) (λ i. more p i ∙ rw e)

      pub the_second : asks wanted j ≡ true → (i : ℕ) → choice ≡ Some i → j < (operation s h o).w4 → Err ManyOutcomes ≡ chosen s h states o wanted
      unfolding another
      the_second p i e l =
          let g = blocker s h states o (about wanted) in
          sym (still_many _ g (j + 1) (operation s h o).w4 (omega arith) (more p g ∙ rw e)) ∙ by_asked
