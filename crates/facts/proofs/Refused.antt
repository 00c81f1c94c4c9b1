-- The first refusal of a scan.
-- Assumes nothing.
use Rattle.std.specs.Prelude.{Ok, Err}
use mathlib.Core.Path.{◌≡◌, refl, sym, ◌∙◌}
use Prim.Native.Nat.{ℕ, zero, suc, ◌+◌, ◌≤◌, ◌<◌}
use native.Mathlib.Omega.{arith}
use native.Mathlib.Decide.{dec_lt}
use Rattle.answer.proofs.Distinct.{refused_done}
use Rattle.tables.proofs.Scans.{extend_one}
use Rattle.answer.specs.declared.Refusal.{Refusal}
use Rattle.answer.specs.Answers.{Status}
use Rattle.facts.specs.Faults.{first_refused}

-- the first k of n numbers are not refused
pub record Clear (f : ℕ → Status) (n k : ℕ) : Type 0 where
  pub here : k ≤ n
  pub clear : (j : ℕ) → j < k → f j ≡ Ok tt

module _ (f : ℕ → Status) where
  pub none : (n : ℕ) → Clear f n 0
  none n = record { here = omega arith; clear = λ j l. absurd (omega arith) }

  pub more : (n k : ℕ) → Clear f n k → k < n → f k ≡ Ok tt → Clear f n (k + 1)
  more n k r l e = record { here = omega arith; clear = extend_one (λ (j : ℕ). f j ≡ Ok tt) k r.clear e }

  skip : (i n : ℕ) → f i ≡ Ok tt → first_refused f i (suc n) ≡ first_refused f (suc i) n
  unfolding first_refused
  skip i n e = rw (e, first_refused)

  stop : (i n : ℕ) (r : Refusal) → f i ≡ Err r → first_refused f i (suc n) ≡ Err r
  unfolding first_refused
  stop i n r e = rw (e, first_refused)

  refused_at : (d i n : ℕ) (r : Refusal) → d < n → ((j : ℕ) → i ≤ j → j < i + d → f j ≡ Ok tt) → f (i + d) ≡ Err r → first_refused f i n ≡ Err r
  refused_at zero i zero r l h e = absurd (omega arith)
  refused_at zero i (suc n) r l h e = let z : i + zero ≡ i = omega arith in stop i n r (rw z at e)
  refused_at (suc d) i zero r l h e = absurd (omega arith)
  refused_at (suc d) i (suc n) r l h e =
      let z : i + suc d ≡ suc i + d = omega arith in
      skip i n (h i (omega arith) (omega arith)) ∙ refused_at d (suc i) n r (omega arith) (λ j a b. h j (omega arith) (omega arith)) (rw z at e)

  all_clear : (i n : ℕ) → ((j : ℕ) → i ≤ j → j < i + n → f j ≡ Ok tt) → first_refused f i n ≡ Ok tt
  unfolding first_refused
  all_clear i zero h = refl
  all_clear i (suc n) h = skip i n (h i (omega arith) (omega arith)) ∙ all_clear (suc i) n (λ j a b. h j (omega arith) (omega arith))

  -- a scan stops at the first refusal
  pub stopped : (n k : ℕ) (r : Refusal) → Clear f n k → k < n → f k ≡ Err r → first_refused f 0 n ≡ Err r
  stopped n k r c l e =
      let z : 0 + k ≡ k = omega arith in
      refused_at k 0 n r l (λ j a b. c.clear j (omega arith)) (rw z e)

  pub ended : (n k : ℕ) → Clear f n k → n ≤ k → first_refused f 0 n ≡ Ok tt
  ended n k c l = all_clear 0 n (λ j a b. c.clear j (omega (arith, c.here)))

  done_case : (i n j : ℕ) (t : Status) → f i ≡ t → i ≤ j → first_refused f i (suc n) ≡ Ok tt
      → (suc i ≤ j → first_refused f (suc i) n ≡ Ok tt → f j ≡ Ok tt) → f j ≡ Ok tt
  done_case i n j (Ok _) q a e ih = go (dec_lt i j)
    where
      go : Dec (i < j) → f j ≡ Ok tt
      go (yes l) = ih l (sym (skip i n q) ∙ e)
      go (no x) = let z : j ≡ i = omega arith in rw z q
  done_case i n j (Err r) q a e ih = absurd (refused_done (sym (stop i n r q) ∙ e))

  done_from : (i n : ℕ) → first_refused f i n ≡ Ok tt → (j : ℕ) → i ≤ j → j < i + n → f j ≡ Ok tt
  done_from i zero e j a b = absurd (omega arith)
  done_from i (suc n) e j a b = done_case i n j (f i) refl a e (λ l q. done_from (suc i) n q j l (omega arith))

  -- where nothing is refused, no number is
  pub none_refused : (n : ℕ) → first_refused f 0 n ≡ Ok tt → (j : ℕ) → j < n → f j ≡ Ok tt
  none_refused n e j l = done_from 0 n e j (omega arith) (omega arith)

  first_case : (P : Status → Type 0) (i n : ℕ) (t : Status) → f i ≡ t → P (f i) → P (first_refused f (suc i) n) → P (first_refused f i (suc n))
  first_case P i n (Ok _) q p ih = rw (skip i n q) ih
  first_case P i n (Err r) q p ih = rw (stop i n r q) (rw q at p)

  -- what holds of `Ok` and of each refusal holds of the first refusal
  pub first_by : (P : Status → Type 0) → P (Ok tt) → (i n : ℕ) → ((j : ℕ) → i ≤ j → j < i + n → P (f j)) → P (first_refused f i n)
  unfolding first_refused
  first_by P d i zero h = d
  first_by P d i (suc n) h =
      first_case P i n (f i) refl (h i (omega arith) (omega arith)) (first_by P d (suc i) n (λ j a b. h j (omega arith) (omega arith)))

-- equal statuses have an equal first refusal
pub first_same : (f g : ℕ → Status) (i n : ℕ) → ((j : ℕ) → i ≤ j → j < i + n → f j ≡ g j) → first_refused f i n ≡ first_refused g i n
unfolding first_refused
first_same f g i zero e = refl
first_same f g i (suc n) e = go (f i) refl (first_same f g (suc i) n (λ j a b. e j (omega arith) (omega arith)))
  where
    here : f i ≡ g i
    here = e i (omega arith) (omega arith)

    go : (t : Status) → f i ≡ t → first_refused f (suc i) n ≡ first_refused g (suc i) n → first_refused f i (suc n) ≡ first_refused g i (suc n)
    go (Ok _) q ih = skip f i n q ∙ ih ∙ sym (skip g i n (sym here ∙ q))
    go (Err r) q ih = stop f i n r q ∙ sym (stop g i n r (sym here ∙ q))
