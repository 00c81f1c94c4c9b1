-- Two calls that are lent the same records, and name the same instances of the entities that are touched.
-- Assumes nothing.
use Rattle.std.specs.Prelude.{Ok}
use mathlib.Core.Path.{◌≡◌, refl, sym, ◌∙◌}
use mathlib.Core.Bool.{Bool, true, false}
use mathlib.Core.List.{List}
use mathlib.Core.Logic.{◌⊎◌, inl, inr, ⊎_elim}
use Prim.Native.Nat.{ℕ, zero, suc, ◌+◌, ◌*◌, ◌/◌, ◌<◌}
use native.Mathlib.Omega.{arith}
use native.Mathlib.Decide.{ℕ_discrete}
use lib.IntN.{ℤ, pos}
use lib.ListN.{length, get_or}
use lib.Seq.{ext_get_or}
use Rattle.tables.proofs.Bools.{bool_cases}
use Rattle.tables.proofs.Scans.{any_same}
use Rattle.layout.specs.declared.Header.{Header}
use Rattle.instances.specs.Records.{lent_states, count, entity_at, state_at, records_fault}
use Rattle.instances.specs.Named.{names, held, gathered, scattered, has}
use Rattle.instances.proofs.Judging.{record_ok, good_records}
use Rattle.instances.proofs.Scattering.{scattered_length, word_kept, state_kept, state_new}
use Rattle.instances.proofs.Unchanged.{each_record}

module _ (rs a b : List ℤ) where
  -- the same instance of an entity is named
  module _ (e : ℕ) (same : get_or a e (pos 0) ≡ get_or b e (pos 0)) where
    names_same : (i : ℕ) → names (lent_states rs a) e i ≡ names (lent_states rs b) e i
    unfolding names
    names_same i = rw same

    pub held_same : (n : ℕ) → held (lent_states rs a) e n ≡ held (lent_states rs b) e n
    unfolding held
    held_same zero = refl
    held_same (suc n) = rw (names_same n, held_same n)

    pub has_same : has (lent_states rs a) e ≡ has (lent_states rs b) e
    unfolding has
    has_same = any_same (names (lent_states rs a) e) (names (lent_states rs b) e) (count rs) (λ i l. names_same i)

  -- where the new states of touched entities are the same, and those of others what was gathered, the same records are left
  module _ (s : List ℤ) (h : Header) (done : records_fault s h rs ≡ Ok tt) (touched : ℕ → Bool)
      (same : (n : ℕ) → touched n ≡ true → get_or a n (pos 0) ≡ get_or b n (pos 0)) (st su : List ℤ)
      (moved : (n : ℕ) → n < h.entities → touched n ≡ true → get_or st n (pos 0) ≡ get_or su n (pos 0))
      (stayed : (n : ℕ) → n < h.entities → touched n ≡ false → get_or st n (pos 0) ≡ get_or (gathered h (lent_states rs a)) n (pos 0))
      (remained : (n : ℕ) → n < h.entities → touched n ≡ false → get_or su n (pos 0) ≡ get_or (gathered h (lent_states rs b)) n (pos 0)) where
    abbrev left : List ℤ
    left = scattered (lent_states rs a) st

    abbrev right : List ℤ
    right = scattered (lent_states rs b) su

    state_same : (i : ℕ) → i < count rs → state_at left i ≡ state_at right i
    state_same i l = go (bool_cases (touched (entity_at rs i)))
      where
        go : (touched (entity_at rs i) ≡ true) ⊎ (touched (entity_at rs i) ≡ false) → state_at left i ≡ state_at right i
        go (inl t) =
            let n = entity_at rs i in
            ⊎_elim
            (λ p. state_new (lent_states rs a) st i l p ∙ moved n (record_ok s h rs i (good_records s h rs done i l)).entity t
            ∙ sym (state_new (lent_states rs b) su i l (sym (names_same n (same n t) i) ∙ p)))
            (λ p. state_kept (lent_states rs a) st i p ∙ sym (state_kept (lent_states rs b) su i (sym (names_same n (same n t) i) ∙ p)))
            (bool_cases (names (lent_states rs a) n i))
        go (inr t) =
            let n = entity_at rs i in
            each_record s h (lent_states rs a) done st (λ x y. y ≡ x) (λ x. refl) i l (λ m. stayed n m t)
            ∙ sym (each_record s h (lent_states rs b) done su (λ x y. y ≡ x) (λ x. refl) i l (λ m. remained n m t))

    pub scattered_agree : left ≡ right
    scattered_agree =
        ext_get_or (pos 0) left right (scattered_length (lent_states rs a) st ∙ sym (scattered_length (lent_states rs b) su))
        (λ j l. word j (omega (arith, scattered_length (lent_states rs a) st)) (ℕ_discrete j (3 * (j / 3) + 2)))
      where
        word : (j : ℕ) → j < length rs → Dec (j ≡ 3 * (j / 3) + 2) → get_or left j (pos 0) ≡ get_or right j (pos 0)
        word j l (yes e) = rw e (state_same (j / 3) (omega arith))
        word j l (no x) =
            word_kept (lent_states rs a) st j (λ i m p e. x (omega (arith, e)))
            ∙ sym (word_kept (lent_states rs b) su j (λ i m p e. x (omega (arith, e))))
