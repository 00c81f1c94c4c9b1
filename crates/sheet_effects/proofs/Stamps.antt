-- Stamps rise along the effects, so the last stamp of a source tells whether the outcome has had an effect from it.
-- Assumes nothing.
use mathlib.Core.Path.{◌≡◌, refl, sym, ap, ◌∙◌}
use mathlib.Core.Bool.{Bool, true, false, cond, ◌&&◌, ◌||◌}
use mathlib.Core.List.{List}
use mathlib.Core.Logic.{⊎_elim}
use Prim.Native.Nat.{ℕ, zero, suc, ◌+◌, ◌-◌, ◌≤◌, ◌<◌}
use lib.IntN.{ℤ}
use lib.Dec.{eqb}
use native.Mathlib.Omega.{arith}
use native.Mathlib.Decide.{ℕ_discrete}
use borrow.Author.Tests.{eq-eqb, ne_eqb, eqb-true}
use Rattle.records.proofs.Parts.{few_outcomes}
use Rattle.layout.proofs.Groups.{covers_effects}
use Rattle.tables.specs.Scan.{any_below, sum_below}
use Rattle.tables.proofs.Bools.{tests, same_tests, or_cases}
use Rattle.tables.proofs.Scans.{none_any, sum_mono}
use Rattle.tables.proofs.Entries.{or_true, or_false}
use Rattle.words.specs.Record.{record_at}
use Rattle.layout.specs.declared.Header.{Header}
use Rattle.layout.specs.Groups.{good_groups}
use Rattle.layout.specs.Tables.{operation, effect}
use Rattle.layout.proofs.Owners.{holder_is, held, starts_by, holder_mono, end_is}
use Rattle.records.specs.Operations.{good_operation, good_effect, good_effect_of, good_outcome, operation_of, outcome, effects_end, same_source}
use Rattle.sheet_effects.specs.Stamps.{source_of, stamp_of, last_stamp}

-- ---- which operation an effect belongs to

starts_at : (s : List ℤ) (h : Header) (i : ℕ) → good_operation s h i ≡ true → (operation s h i).w2 ≡ sum_below (λ k. (operation s h k).w3) i
unfolding good_operation record_at
starts_at s h i p = let q = simp tests at p in q.0.0.0.0.1

pub covers : (s : List ℤ) (h : Header) → good_groups s h ≡ true → sum_below (λ k. (operation s h k).w3) h.operations ≡ h.effects
unfolding record_at
covers s h p = covers_effects s h p

module _ (s : List ℤ) (h : Header) (groups : good_groups s h ≡ true) (good : (k : ℕ) → k < h.operations → good_operation s h k ≡ true) where
  pub starts : (i : ℕ) → i < h.operations → (operation s h i).w2 ≡ sum_below (λ k. (operation s h k).w3) i
  starts i l = starts_at s h i (good i l)

  pub belongs : (o e : ℕ) → o < h.operations → (operation s h o).w2 ≤ e → e < effects_end s h o → operation_of s h e ≡ o
  unfolding operation_of
  belongs o e l a b = holder_is (λ k. (operation s h k).w2) (λ k. (operation s h k).w3) h.operations starts o e l a b

  pub exists : (e : ℕ) → e < h.effects → operation_of s h e < h.operations
  unfolding operation_of
  exists e l = held (λ k. (operation s h k).w2) (λ k. (operation s h k).w3) h.operations starts e (omega (arith, covers s h groups))

  pub begins : (e : ℕ) → e < h.effects → (operation s h (operation_of s h e)).w2 ≤ e
  unfolding operation_of
  begins e l = starts_by (λ k. (operation s h k).w2) (λ k. (operation s h k).w3) h.operations starts e (omega (arith, covers s h groups))

  pub ends_in : (o : ℕ) → o < h.operations → effects_end s h o ≤ h.effects
  ends_in o l =
      omega (
        arith,
        end_is (λ k. (operation s h k).w2) (λ k. (operation s h k).w3) h.operations starts o l,
        sum_mono (λ k. (operation s h k).w3) (suc o) h.operations l,
        covers s h groups,
      )

  -- the next operation starts where this one ends
  pub next_start : (o : ℕ) → o + 1 < h.operations → (operation s h (o + 1)).w2 ≡ effects_end s h o
  next_start o l =
      starts (o + 1) l
      ∙ sym (end_is (λ k. (operation s h k).w2) (λ k. (operation s h k).w3) h.operations starts o (omega arith)
      ∙ ap (sum_below (λ k. (operation s h k).w3)) (omega arith))

  pub first_start : 0 < h.operations → (operation s h 0).w2 ≡ 0
  first_start l = starts 0 l ∙ Rattle.tables.proofs.Scans.sum_zero (λ k. (operation s h k).w3)

  pub last_end : (o : ℕ) → o + 1 ≡ h.operations → effects_end s h o ≡ h.effects
  last_end o e =
      end_is (λ k. (operation s h k).w2) (λ k. (operation s h k).w3) h.operations starts o (omega arith)
      ∙ ap (sum_below (λ k. (operation s h k).w3)) (omega arith)
      ∙ covers s h groups

-- ---- the outcome test

-- the test of effect e's outcome within operation o
abbrev pub outcome_test : List ℤ → Header → ℕ → ℕ → Bool
outcome_test s h o e =
    good_outcome (eqb e (operation s h o).w2) (eqb (e + 1) (effects_end s h o)) (outcome s h (e - 1)) (operation s h o).w4 (outcome s h e)

pub outcome_below : (first last : Bool) (before outcomes out : ℕ) → good_outcome first last before outcomes out ≡ true → out < outcomes
unfolding good_outcome
outcome_below first last before outcomes out p = let q = simp tests at p in q.0.1

outcome_zero : (last : Bool) (before outcomes out : ℕ) → good_outcome true last before outcomes out ≡ true → out ≡ 0
unfolding good_outcome
outcome_zero last before outcomes out p = let q = simp tests at p in q.0.0

outcome_rises : (last : Bool) (before outcomes out : ℕ) → good_outcome false last before outcomes out ≡ true → before ≤ out
unfolding good_outcome
outcome_rises last before outcomes out p =
    let q = simp tests at p in
    ⊎_elim (λ e. omega (arith, eqb-true out before e)) (λ e. omega (arith, eqb-true out (before + 1) e))
    (or_cases (eqb out before) (eqb out (before + 1)) q.0.0)

pub effect_outcome : (s : List ℤ) (h : Header) (e : ℕ) → good_effect s h e ≡ true → outcome_test s h (operation_of s h e) e ≡ true
unfolding good_effect good_effect_of
effect_outcome s h e p = let q = simp tests at p in q.0.1

-- ---- stamps rise

module _ (s : List ℤ) (h : Header) (groups : good_groups s h ≡ true) (good : (k : ℕ) → k < h.operations → good_operation s h k ≡ true) where
  -- an outcome that passes its test is below 8
  pub out_small : (e : ℕ) → e < h.effects → outcome_test s h (operation_of s h e) e ≡ true → outcome s h e < 8
  out_small e l p =
      omega (arith, outcome_below _ _ _ _ _ p, few_outcomes s h (operation_of s h e) (good (operation_of s h e) (exists s h groups good e l)))

  rise : (j : ℕ) → suc j < h.effects → outcome s h j < 8 → outcome_test s h (operation_of s h (suc j)) (suc j) ≡ true
      → stamp_of s h j ≤ stamp_of s h (suc j)
  rise j l few p = go (eqb (suc j) (operation s h (operation_of s h (suc j))).w2) refl
    where
      back : suc j - 1 ≡ j
      back = omega arith

      mono : operation_of s h j ≤ operation_of s h (suc j)
      mono = unfold operation_of in holder_mono (λ k. (operation s h k).w2) (λ k. (operation s h k).w3) h.operations j (suc j) (omega arith)

      go : (b : Bool) → eqb (suc j) (operation s h (operation_of s h (suc j))).w2 ≡ b → stamp_of s h j ≤ stamp_of s h (suc j)
      go true e =
          let z = outcome_zero _ _ _ _ (rw e at p) in
          let w = eqb-true (suc j) (operation s h (operation_of s h (suc j))).w2 e in
          let low = begins s h groups good j (omega arith) in
          apart (ℕ_discrete (operation_of s h j) (operation_of s h (suc j))) w low
        where
          apart : Dec (operation_of s h j ≡ operation_of s h (suc j)) → suc j ≡ (operation s h (operation_of s h (suc j))).w2
              → (operation s h (operation_of s h j)).w2 ≤ j → stamp_of s h j ≤ stamp_of s h (suc j)
          apart (yes x) w low = absurd (omega (arith, rw x at low, w))
          apart (no n) w low = omega (arith, mono, n)
      go false e = let r = outcome_rises _ _ _ _ (rw (e, back) at p) in omega (arith, mono, r)

  -- along good effects
  pub ordered : (e : ℕ) → e ≤ h.effects → ((j : ℕ) → j < e → good_effect s h j ≡ true) → (j i : ℕ) → i ≤ j → j < e → stamp_of s h i ≤ stamp_of s h j
  ordered e le all zero i a l = let z : i ≡ 0 = omega arith in rw z (omega arith)
  ordered e le all (suc j) i a l = go (λ b m. ordered e le all j i b m) (ℕ_discrete i (suc j))
    where
      go : (i ≤ j → j < e → stamp_of s h i ≤ stamp_of s h j) → Dec (i ≡ suc j) → stamp_of s h i ≤ stamp_of s h (suc j)
      go ih (yes x) = rw x (omega arith)
      go ih (no n) =
          omega (
            arith,
            ih (omega arith) (omega arith),
            rise j (omega arith) (out_small j (omega arith) (effect_outcome s h j (all j (omega arith))))
                (effect_outcome s h (suc j) (all (suc j) l)),
          )

  -- and to the next, once its outcome has passed
  pub ordered_next : (e : ℕ) → e < h.effects → ((j : ℕ) → j < e → good_effect s h j ≡ true) → outcome_test s h (operation_of s h e) e ≡ true → (i : ℕ)
      → i < e → stamp_of s h i ≤ stamp_of s h e
  ordered_next zero l all p i a = absurd (omega arith)
  ordered_next (suc e) l all p i a =
      omega (
        arith,
        ordered (suc e) (omega arith) all e i (omega arith) (omega arith),
        rise e l (out_small e (omega arith) (effect_outcome s h e (all e (omega arith)))) p,
      )

-- ---- the last stamp tells

module _ (s : List ℤ) (h : Header) (x S : ℕ) (positive : 0 < S) where
  abbrev hit : ℕ → Bool
  hit j = eqb (stamp_of s h j) S && eqb (source_of (effect s h j)) x

  pub any_last : (k : ℕ) → ((j i : ℕ) → i ≤ j → j < k → stamp_of s h i ≤ stamp_of s h j) → ((j : ℕ) → j < k → stamp_of s h j ≤ S)
      → any_below hit k ≡ eqb (last_stamp s h x k) S
  unfolding any_below last_stamp
  any_last zero o m = sym (ne_eqb 0 S (λ z. omega (arith, z)))
  any_last (suc k) o m =
      go (any_last k (λ j i a l. o j i a (omega arith)) (λ j l. m j (omega arith))) (ℕ_discrete (source_of (effect s h k)) x)
      (ℕ_discrete (stamp_of s h k) S)
    where
      none : (stamp_of s h k ≡ S → ⊥) → any_below hit k ≡ false
      none n = none_any hit k (λ j l. rw (ne_eqb (stamp_of s h j) S (λ e. n (omega (arith, o k j (omega arith) (omega arith), m k (omega arith), e)))))

      go : any_below hit k ≡ eqb (last_stamp s h x k) S → Dec (source_of (effect s h k) ≡ x) → Dec (stamp_of s h k ≡ S)
          → (any_below hit k || hit k) ≡ eqb (cond (eqb (source_of (effect s h k)) x) (stamp_of s h k) (last_stamp s h x k)) S
      go ih (yes a) (yes b) = rw (eq-eqb (source_of (effect s h k)) x a, eq-eqb (stamp_of s h k) S b) (or_true (any_below hit k))
      go ih (yes a) (no b) = rw (eq-eqb (source_of (effect s h k)) x a, ne_eqb (stamp_of s h k) S b, none b)
      go ih (no a) d = rw (ne_eqb (source_of (effect s h k)) x a) (rw (no_and (eqb (stamp_of s h k) S)) (or_false (any_below hit k) ∙ ih))
        where
          no_and : (t : Bool) → (t && false) ≡ false
          no_and true = refl
          no_and false = refl

-- two effects have one source within one outcome exactly if stamp and source number agree
pub same_source_lem : (s : List ℤ) (h : Header) (e j : ℕ) → outcome s h j < 8 → outcome s h e < 8 → (effect s h j).w1 < 16 → (effect s h e).w1 < 16
    → same_source s h e j ≡ (eqb (stamp_of s h j) (stamp_of s h e) && eqb (source_of (effect s h j)) (source_of (effect s h e)))
unfolding same_source
same_source_lem s h e j a b c d = same_tests _ _ to from
  where
    to : (eqb (operation_of s h j) (operation_of s h e) && eqb (outcome s h j) (outcome s h e) && eqb (effect s h j).w0 (effect s h e).w0 && eqb (effect s h j).w1 (effect s h e).w1) ≡ true
        → (eqb (stamp_of s h j) (stamp_of s h e) && eqb (source_of (effect s h j)) (source_of (effect s h e))) ≡ true
    to p =
        let q = simp tests at p in
        rw (eq-eqb (stamp_of s h j) (stamp_of s h e) (omega (arith, q)), eq-eqb (source_of (effect s h j)) (source_of (effect s h e)) (omega (arith, q)))

    from : (eqb (stamp_of s h j) (stamp_of s h e) && eqb (source_of (effect s h j)) (source_of (effect s h e))) ≡ true
        → (eqb (operation_of s h j) (operation_of s h e) && eqb (outcome s h j) (outcome s h e) && eqb (effect s h j).w0 (effect s h e).w0 && eqb
        (effect s h j).w1 (effect s h e).w1) ≡ true
    from p =
        let q = simp tests at p in
        rw (
          eq-eqb (operation_of s h j) (operation_of s h e) (omega (arith, q.0)),
          eq-eqb (outcome s h j) (outcome s h e) (omega (arith, q.0)),
          eq-eqb (effect s h j).w0 (effect s h e).w0 (omega (arith, q.1)),
          eq-eqb (effect s h j).w1 (effect s h e).w1 (omega (arith, q.1)),
        )
