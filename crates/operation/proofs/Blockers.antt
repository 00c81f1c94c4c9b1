-- 02, CR 2: the effect that blocks an outcome, and its entity.
-- Assumes nothing.
use mathlib.Core.Path.{◌≡◌, refl, sym, ◌∙◌, ap}
use mathlib.Core.Bool.{Bool, true, false, not}
use mathlib.Core.List.{List}
use Prim.Native.Nat.{ℕ, ◌≤◌, ◌<◌}
use lib.IntN.{ℤ}
use native.Mathlib.Omega.{arith}
use native.Mathlib.Decide.{dec_lt}
use borrow.Author.Tests.{lt-ltb, le-ltb}
use Rattle.tables.proofs.Bools.{tests, true_false, or_true_right}
use Rattle.tables.proofs.Scans.{all_of, all_at}
use Rattle.tables.proofs.Scanned.{Scanned, first_scan, fail_at, fail_none, all_pass}
use Rattle.layout.specs.declared.Header.{Header}
use Rattle.layout.specs.Tables.{operation, effect}
use Rattle.records.specs.Operations.{effects_end, outcome}
use Rattle.records.proofs.OperationLaws.{inside, change_ok, effect_ok}
use Rattle.operation.specs.Outcomes.{of_outcome, matched, unblocked, applicable, blocking, blocker}
use Rattle.operation.specs.Ready.{Ready}

-- effect e is the first of outcome j whose entity is not matched, and n is that entity
pub record IsBlocked (s : List ℤ) (h : Header) (states : List ℤ) (o j e n : ℕ) : Type 0 where
  pub of : of_outcome s h o j e ≡ true
  pub entity : (effect s h e).w0 ≡ n
  pub unmatched : matched s h states o j n ≡ false
  pub earlier : (d : ℕ) → d < e → of_outcome s h o j d ≡ true → matched s h states o j (effect s h d).w0 ≡ true

module _ (s : List ℤ) (h : Header) (states : List ℤ) (o j : ℕ) where
  blocks_not : (e : ℕ) (b m : Bool) → unblocked s h states o j e ≡ false → of_outcome s h o j e ≡ b → matched s h states o j (effect s h e).w0 ≡ m
      → (b ≡ true) × (m ≡ false)
  unfolding unblocked
  blocks_not e true false p q r = (refl, refl)
  blocks_not e true true p q r = let z : true ≡ false = rw (q, r) at p in absurd (true_false refl z)
  blocks_not e false m p q r = let z : true ≡ false = rw q at p in absurd (true_false refl z)

  pub free_matched : (d : ℕ) → unblocked s h states o j d ≡ true → of_outcome s h o j d ≡ true → matched s h states o j (effect s h d).w0 ≡ true
  unfolding unblocked
  free_matched d p q = rw q at p

  pub matched_free : (d : ℕ) → (of_outcome s h o j d ≡ true → matched s h states o j (effect s h d).w0 ≡ true) → unblocked s h states o j d ≡ true
  unfolding unblocked
  matched_free d f = go (of_outcome s h o j d) refl
    where
      go : (b : Bool) → of_outcome s h o j d ≡ b → unblocked s h states o j d ≡ true
      go true t = rw (f t) (or_true_right (not (of_outcome s h o j d)) true refl)
      go false t = rw t

  blocker_at : blocking s h states o j < h.effects → blocker s h states o j ≡ (effect s h (blocking s h states o j)).w0
  unfolding blocker
  blocker_at l = rw (lt-ltb (blocking s h states o j) h.effects l)

  -- the first effect that is not unblocked is the one that blocks
  pub first_blocks : (e : ℕ) → e < h.effects → ((d : ℕ) → d < e → unblocked s h states o j d ≡ true) → unblocked s h states o j e ≡ false
      → (effect s h e).w0 ≡ blocker s h states o j
  unfolding blocking
  first_blocks e l x p =
      let z : e ≡ blocking s h states o j = fail_at (unblocked s h states o j) h.effects e l x p in
      ap (λ (d : ℕ). (effect s h d).w0) z ∙ sym (blocker_at (rw z at l))

  blocker_none : h.effects ≤ blocking s h states o j → blocker s h states o j ≡ 0
  unfolding blocker
  blocker_none l = rw (le-ltb (blocking s h states o j) h.effects l)

  -- where every effect is unblocked, nothing blocks
  free_blocks : ((d : ℕ) → d < h.effects → unblocked s h states o j d ≡ true) → blocker s h states o j ≡ 0
  unfolding blocking
  free_blocks x = blocker_none (omega (arith, fail_none (unblocked s h states o j) h.effects h.effects (omega arith) (omega arith) x))

  pub applicable_blocks : applicable s h states o j ≡ true → blocker s h states o j ≡ 0
  unfolding applicable
  applicable_blocks p = free_blocks (all_at (unblocked s h states o j) h.effects p)

  -- an outcome that is not applicable is blocked by an effect, and the definition's is the first
  pub not_applicable : applicable s h states o j ≡ false → IsBlocked s h states o j (blocking s h states o j) (blocker s h states o j)
  unfolding applicable blocking
  not_applicable p = go (dec_lt at h.effects)
    where
      at : ℕ
      at = blocking s h states o j

      found : Scanned (unblocked s h states o j) 0 h.effects at
      found = first_scan (unblocked s h states o j) h.effects

      go : Dec (at < h.effects) → IsBlocked s h states o j at (blocker s h states o j)
      go (yes l) =
          let q = blocks_not at (of_outcome s h o j at) (matched s h states o j (effect s h at).w0) (found.fails l) refl refl in
          record {
            of = q.0;
            entity = sym (blocker_at l);
            unmatched = rw (blocker_at l) q.1;
            earlier = λ d b t. free_matched d (found.passed d (omega arith) b) t;
          }
      go (no x) =
          absurd (true_false (all_of (unblocked s h states o j) h.effects (all_pass (unblocked s h states o j) h.effects (omega arith))) p)

module _ {s : List ℤ} {h : Header} {states : List ℤ} {o : ℕ} (w : Ready s h states o) (j : ℕ) where
  -- past the outcomes there is nothing that blocks
  pub none_blocks : (operation s h o).w4 ≤ j → blocker s h states o j ≡ 0
  unfolding of_outcome
  none_blocks l = free_blocks s h states o j (λ d _. matched_free s h states o j d (λ t. absurd (past d (simp tests at t))))
    where
      past : (d : ℕ) → (((operation s h o).w2 ≤ d) × (d < effects_end s h o)) × (outcome s h d ≡ j) → ⊥
      past d q = omega (arith, (effect_ok w.accepted o w.exists d (record { low = q.0.0; high = q.0.1 })).below, q.1)

  -- what blocks is an entity
  blocker_entity : blocking s h states o j < h.effects → blocker s h states o j < h.entities
  blocker_entity l = rw (blocker_at s h states o j l) (change_ok w.accepted (blocking s h states o j) l).entity

  pub blocker_exists : applicable s h states o j ≡ false → blocker s h states o j < h.entities
  unfolding of_outcome
  blocker_exists p =
      let q = simp tests at (not_applicable s h states o j p).of in
      blocker_entity (inside w.accepted o w.exists (blocking s h states o j) (record { low = q.0.0; high = q.0.1 }))

  -- of which there are few
  pub blocker_small : blocker s h states o j < 32
  blocker_small = go (dec_lt (blocking s h states o j) h.effects)
    where
      go : Dec (blocking s h states o j < h.effects) → blocker s h states o j < 32
      go (yes l) = omega (arith, blocker_entity l, w.accepted.sized.limits.entities)
      go (no x) = rw (blocker_none s h states o j (omega arith)) (omega arith)
