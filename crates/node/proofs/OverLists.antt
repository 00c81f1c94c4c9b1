-- The kinds over lists, 14 to 17: whose element a kind cites, which list it is a quantifier over, and that the list is there.
-- Assumes nothing.
use Rattle.std.specs.Prelude.{ℤ}
use mathlib.Core.Path.{◌≡◌, refl}
use mathlib.Core.Bool.{Bool, true, false, not}
use mathlib.Core.List.{[], ◌∷◌}
use mathlib.Core.Logic.{◌⊎◌, inl, inr}
use Prim.Native.Nat.{ℕ, zero, suc, ◌<◌}
use borrow.Author.Tests.{ltb-true}
use Rattle.tables.proofs.Bools.{tests, and_left, and_right, not_flip}
use Rattle.signed.specs.Words.{num}
use Rattle.words.specs.declared.Record.{Record}
use Rattle.node.specs.declared.Given.{Given}
use Rattle.node.specs.Rows.{row_of, names_fact}

-- but for the quantifiers and the element, no kind cites an element or is a quantifier
pub unscoped : (k : ℕ) → (k ≡ 14 → ⊥) → (k ≡ 15 → ⊥) → (k ≡ 17 → ⊥) → (w : Record ℤ) → ((row_of k).elements w ≡ []) × ((row_of k).binds w ≡ [])
unfolding row_of
unscoped zero a b c w = (refl, refl)
unscoped (suc zero) a b c w = (refl, refl)
unscoped (suc (suc zero)) a b c w = (refl, refl)
unscoped (suc (suc (suc zero))) a b c w = (refl, refl)
unscoped (suc (suc (suc (suc zero)))) a b c w = (refl, refl)
unscoped (suc (suc (suc (suc (suc zero))))) a b c w = (refl, refl)
unscoped (suc (suc (suc (suc (suc (suc zero)))))) a b c w = (refl, refl)
unscoped (suc (suc (suc (suc (suc (suc (suc zero))))))) a b c w = (refl, refl)
unscoped (suc (suc (suc (suc (suc (suc (suc (suc zero)))))))) a b c w = (refl, refl)
unscoped (suc (suc (suc (suc (suc (suc (suc (suc (suc zero))))))))) a b c w = (refl, refl)
unscoped (suc (suc (suc (suc (suc (suc (suc (suc (suc (suc zero)))))))))) a b c w = (refl, refl)
unscoped (suc (suc (suc (suc (suc (suc (suc (suc (suc (suc (suc zero))))))))))) a b c w = (refl, refl)
unscoped (suc (suc (suc (suc (suc (suc (suc (suc (suc (suc (suc (suc zero)))))))))))) a b c w = (refl, refl)
unscoped (suc (suc (suc (suc (suc (suc (suc (suc (suc (suc (suc (suc (suc zero))))))))))))) a b c w = (refl, refl)
unscoped (suc (suc (suc (suc (suc (suc (suc (suc (suc (suc (suc (suc (suc (suc zero)))))))))))))) a b c w = absurd (a refl)
unscoped (suc (suc (suc (suc (suc (suc (suc (suc (suc (suc (suc (suc (suc (suc (suc zero))))))))))))))) a b c w = absurd (b refl)
unscoped (suc (suc (suc (suc (suc (suc (suc (suc (suc (suc (suc (suc (suc (suc (suc (suc zero)))))))))))))))) a b c w = (refl, refl)
unscoped (suc (suc (suc (suc (suc (suc (suc (suc (suc (suc (suc (suc (suc (suc (suc (suc (suc zero))))))))))))))))) a b c w = absurd (c refl)
unscoped (suc (suc (suc (suc (suc (suc (suc (suc (suc (suc (suc (suc (suc (suc (suc (suc (suc (suc k)))))))))))))))))) a b c w = (refl, refl)

-- a quantifier's list and body
pub binder : (k : ℕ) → (k ≡ 14) ⊎ (k ≡ 15) → (w : Record ℤ)
    → ((row_of k).binds w ≡ (num w.w1 ∷ [])) × ((row_of k).elements w ≡ []) × ((row_of k).children w ≡ (num w.w2 ∷ []))
unfolding row_of
binder k (inl e) w = rw e (refl, refl, refl)
binder k (inr e) w = rw e (refl, refl, refl)

-- an element's list
pub citer : (k : ℕ) → k ≡ 17 → (w : Record ℤ) → ((row_of k).elements w ≡ (num w.w1 ∷ [])) × ((row_of k).binds w ≡ []) × ((row_of k).children w ≡ [])
unfolding row_of
citer k e w = rw e (refl, refl, refl)

-- ---- what is named

-- the fact in word 1 exists, and is a list or none
abbrev pub Names : Given → Bool → Type 0
Names g list = (num g.words.w1 < g.facts) × (g.fact.list ≡ list)

-- a fact's node names no list
pub single_named : (k : ℕ) (g : Given) → k ≡ 3 → (row_of k).takes g ≡ true → Names g false
unfolding row_of
single_named k g e t =
    let q = rw e at t in (
      ltb-true (num g.words.w1) g.facts (and_left (names_fact g) (not g.fact.list) q),
      not_flip g.fact.list (and_right (names_fact g) (not g.fact.list) q),
    )

-- the others a list
pub binder_list : (k : ℕ) (g : Given) → (k ≡ 14) ⊎ (k ≡ 15) → (row_of k).takes g ≡ true → Names g true
unfolding row_of
binder_list k g (inl e) t = let q = simp tests at (rw e at t) in q.0
binder_list k g (inr e) t = let q = simp tests at (rw e at t) in q.0

pub length_list : (k : ℕ) (g : Given) → k ≡ 16 → (row_of k).takes g ≡ true → Names g true
unfolding row_of
length_list k g e t = simp tests at (rw e at t)

pub citer_list : (k : ℕ) (g : Given) → k ≡ 17 → (row_of k).takes g ≡ true → Names g true
unfolding row_of
citer_list k g e t = simp tests at (rw e at t)

-- a quantifier's body is a Bool, as it is itself
pub binder_bool : (k : ℕ) (g : Given) → (k ≡ 14) ⊎ (k ≡ 15) → (row_of k).takes g ≡ true → (g.x.sort ≡ 0) × (((row_of k).gives g).sort ≡ 0)
unfolding row_of
binder_bool k g (inl e) t = let q = simp tests at (rw e at t) in (q.1, rw e)
binder_bool k g (inr e) t = let q = simp tests at (rw e at t) in (q.1, rw e)
