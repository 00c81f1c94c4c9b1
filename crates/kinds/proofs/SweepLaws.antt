-- A quantifier by its kind: the test over its list's elements, and what a loop over them keeps.
-- Assumes nothing.
use mathlib.Core.Path.{◌≡◌, refl, sym, ap, ◌∙◌}
use mathlib.Core.Bool.{Bool, true, false, not}
use mathlib.Core.List.{List, []}
use mathlib.Core.Logic.{◌⊎◌, inl, inr, ⊎_elim}
use Prim.Native.Nat.{ℕ, ◌+◌, ◌≤◌, ◌<◌}
use lib.IntN.{ℤ, pos}
use lib.ListN.{get_or}
use lib.Dec.{eqb}
use native.Mathlib.Decide.{ℕ_discrete}
use borrow.Author.Tests.{eqb-true, eqb-false}
use Rattle.tables.specs.Lists.{words_from}
use Rattle.tables.proofs.Bools.{true_false, or_cases, or_false_left, or_false_right, not_flip}
use Rattle.tables.proofs.Elements.{Rest, all_more, all_stops, all_ends, any_more, any_stops, any_ends}
use Rattle.signed.specs.Words.{num}
use Rattle.words.specs.declared.Record.{Record}
use Rattle.node.specs.FactValues.{FactValue, no_value, elements_in}
use Rattle.node.specs.Rows.{row_of, bit, is_true}
use Rattle.node.specs.Judged.{seen}
use Rattle.node.proofs.OneKind.{no_cons}
use Rattle.node.proofs.OverLists.{unscoped, binder, citer}
use Rattle.kinds.specs.Inner.{is_quantifier, over_of, settles}

-- ---- by the kind

pub is_binder : (k : ℕ) → is_quantifier k ≡ true → (k ≡ 14) ⊎ (k ≡ 15)
is_binder k e = ⊎_elim (λ z. inl (eqb-true k 14 z)) (λ z. inr (eqb-true k 15 z)) (or_cases (eqb k 14) (eqb k 15) e)

-- its value is the test of its body over the list's elements
pub quantified_value : (k : ℕ) → (k ≡ 14) ⊎ (k ≡ 15) → (w : Record ℤ) (facts : List FactValue) (verdicts : List ℤ) (e x y : ℤ) (body : ℤ → ℤ)
    → (row_of k).value (seen w facts verdicts e x y body)
    ≡ bit (over_of (eqb k 15) (λ z. is_true (body z)) (elements_in (get_or facts (num w.w1) no_value)))
unfolding row_of over_of
quantified_value k (inl q) w facts verdicts e x y body = rw q
quantified_value k (inr q) w facts verdicts e x y body = rw q

-- no other kind is over a list
pub unbound : (k : ℕ) → is_quantifier k ≡ false → (w : Record ℤ) → (row_of k).binds w ≡ []
unbound k e w = go (ℕ_discrete k 17)
  where
    go : Dec (k ≡ 17) → (row_of k).binds w ≡ []
    go (yes z) = (citer k z w).1
    go (no d) = (unscoped k (eqb-false k 14 (or_false_left (eqb k 14) (eqb k 15) e)) (eqb-false k 15 (or_false_right (eqb k 14) (eqb k 15) e)) d w).1

-- a kind that is over no list is no quantifier
pub unquantified : (k : ℕ) (w : Record ℤ) → (row_of k).binds w ≡ [] → (k ≡ 14 → ⊥) × (k ≡ 15 → ⊥)
unquantified k w p = (λ e. no_cons _ _ (sym (binder k (inl e) w).0 ∙ p), λ e. no_cons _ _ (sym (binder k (inr e) w).0 ∙ p))

-- ---- a loop over the elements

-- the test over the n words from place a on comes to the same over those from the j-th on
abbrev pub Swept : Bool → (ℤ → ℤ) → List ℤ → ℕ → ℕ → ℕ → Type 0
Swept q g t a n j = Rest (over_of q) (λ z. is_true (g z)) t a n j

module _ (g : ℤ → ℤ) (t : List ℤ) (a n j : ℕ) where
  abbrev over : Bool → Bool
  over q = over_of q (λ z. is_true (g z)) (words_from t a n)

  abbrev here : ℤ
  here = g (get_or t (a + j) (pos 0))

  -- an element that does not decide
  pub swept_more : (q : Bool) → Swept q g t a n j → j < n → settles q here ≡ false → Swept q g t a n (j + 1)
  unfolding over_of settles
  swept_more true r l e = any_more r l e
  swept_more false r l e = all_more r l (is_true_lem _ e)
    where
      is_true_lem : (b : Bool) → not b ≡ false → b ≡ true
      is_true_lem true p = refl
      is_true_lem false p = absurd (true_false refl p)

  -- one that does
  pub swept_stop : (q : Bool) → Swept q g t a n j → j < n → settles q here ≡ true → bit q ≡ bit (over q)
  unfolding over_of settles
  swept_stop true r l e = ap bit (any_stops r l e)
  swept_stop false r l e = ap bit (all_stops r l (not_flip _ e))

  -- none did
  pub swept_end : (q : Bool) → Swept q g t a n j → n ≤ j → bit (not q) ≡ bit (over q)
  unfolding over_of
  swept_end true r l = ap bit (any_ends r l)
  swept_end false r l = ap bit (all_ends r l)
