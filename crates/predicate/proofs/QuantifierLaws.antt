-- What a quantifier says, element by element; and that a root, which cites no element outside of a quantifier, has one value.
-- Assumes nothing.
use mathlib.Core.Path.{◌≡◌, refl, sym, ap, ap₂, ◌∙◌}
use mathlib.Core.Bool.{Bool, true, false}
use mathlib.Core.List.{List, [], ◌∷◌}
use mathlib.Core.Logic.{◌⊎◌, inl, inr, ◌↔◌, ⊎_elim}
use Prim.Native.Nat.{ℕ, zero, suc, ◌<◌}
use lib.IntN.{ℤ, pos}
use lib.Dec.{eqb}
use lib.ListN.{get_or, length}
use native.Mathlib.Omega.{arith}
use borrow.Author.Tests.{eqb-true, eqb-false, eq-eqb}
use Rattle.tables.specs.Lists.{has, all_of, any_of, pick}
use Rattle.tables.proofs.Bools.{true_false, bool_cases, and_left, and_right, and_true, or_cases, or_true_left, or_true_right, or_false_left, or_false_right}
use Rattle.tables.proofs.Grown.{strong}
use Rattle.tables.proofs.Lists.{Before}
use Rattle.signed.specs.Words.{num}
use Rattle.words.specs.declared.Record.{Record}
use Rattle.layout.specs.declared.Header.{Header}
use Rattle.item.specs.Units.{converted}
use Rattle.node.specs.FactValues.{FactValue, no_value, elements_in}
use Rattle.node.specs.Rows.{Row, row_of, is_true}
use Rattle.node.specs.Judged.{seen}
use Rattle.node.proofs.OneKind.{no_cons}
use Rattle.node.proofs.OverLists.{unscoped, binder, citer, citer_list}
use Rattle.node.proofs.Truth.{true_bit}
use Rattle.records.specs.Accepted.{Accepted}
use Rattle.records.specs.Names.{closed}
use Rattle.records.specs.Nodes.{node_words, node_row, children_of, given_of, item_of, loose}
use Rattle.records.proofs.NodeLaws.{node_ok}
use Rattle.records.proofs.ScopeLaws.{loose_plain, closed_at, not_true}
use Rattle.kinds.specs.Inner.{is_quantifier}
use Rattle.kinds.proofs.KindLaws.{end, ◌▹◌, every}
use Rattle.kinds.proofs.SweepLaws.{is_binder, quantified_value}
use Rattle.predicate.specs.Values.{child_sort, child_value, seen_of, value_of}
use Rattle.predicate.proofs.ValueLaws.{child_before, loose_here, value_is}

-- ---- over a list, member by member

module _ {A : Type 0} (f : A → Bool) (d : A) where
  all_each : (xs : List A) → all_of f xs ≡ true → (j : ℕ) → j < length xs → f (get_or xs j d) ≡ true
  unfolding all_of
  all_each [] p j l = absurd (omega arith)
  all_each (x ∷ xs) p zero l = and_left (f x) (all_of f xs) p
  all_each (x ∷ xs) p (suc j) l = all_each xs (and_right (f x) (all_of f xs) p) j (omega arith)

  each_all : (xs : List A) → ((j : ℕ) → j < length xs → f (get_or xs j d) ≡ true) → all_of f xs ≡ true
  unfolding all_of
  each_all [] h = refl
  each_all (x ∷ xs) h = and_true (f x) (all_of f xs) (h 0 (omega arith)) (each_all xs (λ j l. h (suc j) (omega arith)))

  any_some : (xs : List A) → any_of f xs ≡ true → (j : ℕ) × (j < length xs) × (f (get_or xs j d) ≡ true)
  unfolding any_of
  any_some [] p = absurd (true_false p refl)
  any_some (x ∷ xs) p =
      ⊎_elim (λ q. (0, omega arith, q)) (λ q. let w = any_some xs q in (suc w.0, omega (arith, w.1), w.2)) (or_cases (f x) (any_of f xs) p)

  some_any : (xs : List A) (j : ℕ) → j < length xs → f (get_or xs j d) ≡ true → any_of f xs ≡ true
  unfolding any_of
  some_any [] j l p = absurd (omega arith)
  some_any (x ∷ xs) zero l p = or_true_left (f x) (any_of f xs) p
  some_any (x ∷ xs) (suc j) l p = or_true_right (f x) (any_of f xs) (some_any xs j (omega arith) p)

-- ---- a quantifier

module _ {s : List ℤ} {h : Header} (a : Accepted s h) (facts : List FactValue) (verdicts : List ℤ) (n : ℕ) (l : n < h.nodes) (e : ℤ) where
  -- the elements of the list that word 1 names, and whether the node that word 2 names is true at x
  abbrev pub elements : List ℤ
  elements = elements_in (get_or facts (num (node_words s h n).w1) no_value)

  abbrev pub holds_at : ℤ → Bool
  holds_at x = is_true (value_of s h facts verdicts (num (node_words s h n).w2) x)

  abbrev here : ℕ → Bool
  here k = is_true ((row_of k).value (seen_of s h facts verdicts (value_of s h facts verdicts) n e))

  by_kind : (k : ℕ) → num (node_words s h n).w0 ≡ k → is_true (value_of s h facts verdicts n e) ≡ here k
  by_kind k p = ap is_true (value_is s h facts verdicts n (node_ok s h n (a.nodes n l)).before e) ∙ ap here p

  abbrev first_of : List ℕ → ℤ → ℤ
  first_of cs = pick (value_of s h facts verdicts) (λ _. pos 0) cs 0

  over_body : (k : ℕ) → (k ≡ 14) ⊎ (k ≡ 15) → num (node_words s h n).w0 ≡ k → children_of s h n ≡ (num (node_words s h n).w2 ∷ [])
  over_body k q p = ap (λ (k : ℕ). (row_of k).children (node_words s h n)) p ∙ (binder k q (node_words s h n)).2

  -- 14: true where the body is true at every element
  for_all_is : num (node_words s h n).w0 ≡ 14 → is_true (value_of s h facts verdicts n e) ≡ all_of holds_at elements
  unfolding row_of pick
  for_all_is k = by_kind 14 k ∙ true_bit _ ∙ ap (λ (cs : List ℕ). all_of (λ x. is_true (first_of cs x)) elements) (over_body 14 (inl refl) k)

  exists_is : num (node_words s h n).w0 ≡ 15 → is_true (value_of s h facts verdicts n e) ≡ any_of holds_at elements
  unfolding row_of pick
  exists_is k = by_kind 15 k ∙ true_bit _ ∙ ap (λ (cs : List ℕ). any_of (λ x. is_true (first_of cs x)) elements) (over_body 15 (inr refl) k)

  pub for_all_each : num (node_words s h n).w0 ≡ 14
      → (is_true (value_of s h facts verdicts n e) ≡ true) ↔ ((j : ℕ) → j < length elements → holds_at (get_or elements j (pos 0)) ≡ true)
  for_all_each k =
      (λ p. all_each holds_at (pos 0) elements (sym (for_all_is k) ∙ p), λ p. for_all_is k ∙ each_all holds_at (pos 0) elements p)

  pub exists_some : num (node_words s h n).w0 ≡ 15
      → (is_true (value_of s h facts verdicts n e) ≡ true) ↔ ((j : ℕ) × (j < length elements) × (holds_at (get_or elements j (pos 0)) ≡ true))
  exists_some k =
      (λ p. any_some holds_at (pos 0) elements (sym (exists_is k) ∙ p), λ p. exists_is k ∙ some_any holds_at (pos 0) elements p.0 p.1 p.2)

-- ---- a root has one value, whatever the element

-- but for an element's node, no row looks at the element
abbrev Unmoved : Row → Type 0
Unmoved r =
    (w : Record ℤ) (facts : List FactValue) (verdicts : List ℤ) (d e x y : ℤ) (body : ℤ → ℤ) → r.elements w ≡ []
    → r.value (seen w facts verdicts d x y body) ≡ r.value (seen w facts verdicts e x y body)

unmoved : (k : ℕ) → Unmoved (row_of k)
unmoved =
    every Unmoved
    ((λ w f v d e x y b p. refl) ▹ (λ w f v d e x y b p. refl) ▹ (λ w f v d e x y b p. refl) ▹ (λ w f v d e x y b p. refl)
    ▹ (λ w f v d e x y b p. refl) ▹ (λ w f v d e x y b p. refl) ▹ (λ w f v d e x y b p. refl) ▹ (λ w f v d e x y b p. refl)
    ▹ (λ w f v d e x y b p. refl) ▹ (λ w f v d e x y b p. refl) ▹ (λ w f v d e x y b p. refl) ▹ (λ w f v d e x y b p. refl)
    ▹ (λ w f v d e x y b p. refl) ▹ (λ w f v d e x y b p. refl) ▹ (λ w f v d e x y b p. refl) ▹ (λ w f v d e x y b p. refl)
    ▹ (λ w f v d e x y b p. refl)
    ▹ (λ w f v d e x y b p. absurd (no_cons _ _ p)) ▹ end)
    (λ w f v d e x y b p. refl)

module _ {s : List ℤ} {h : Header} (a : Accepted s h) (facts : List FactValue) (verdicts : List ℤ) (d e : ℤ) where
  abbrev value : ℕ → ℤ → ℤ
  value n = value_of s h facts verdicts n

  pick_alike : (cs : List ℕ) (i : ℕ) → ((c : ℕ) → has c cs ≡ true → value c d ≡ value c e)
      → pick value (λ _. pos 0) cs i d ≡ pick value (λ _. pos 0) cs i e
  unfolding pick has
  pick_alike [] i p = refl
  pick_alike (c ∷ cs) zero p = p c (or_true_left (eqb c c) (has c cs) (eq-eqb c c refl))
  pick_alike (c ∷ cs) (suc i) p = pick_alike cs i (λ b m. p b (or_true_right (eqb c b) (has b cs) m))

  abbrev Shut : ℕ → Type 0
  Shut n = (f : ℕ) → f < h.facts → loose s h n f ≡ false

  module _ (n : ℕ) (ih : (j : ℕ) → j < n → j < h.nodes → Shut j → value j d ≡ value j e) (l : n < h.nodes) (p : Shut n) where
    before : Before n (children_of s h n)
    before = (node_ok s h n (a.nodes n l)).before

    abbrev seen_at : ℤ → ℤ
    seen_at z = (node_row s h n).value (seen_of s h facts verdicts value n z)

    quantifier : is_quantifier (num (node_words s h n).w0) ≡ true → seen_at d ≡ seen_at e
    quantifier q =
        quantified_value (num (node_words s h n).w0) (is_binder _ q) (node_words s h n) facts verdicts d _ _ (child_value s h value n 0)
        ∙ sym (quantified_value (num (node_words s h n).w0) (is_binder _ q) (node_words s h n) facts verdicts e _ _ (child_value s h value n 0))

    element : num (node_words s h n).w0 ≡ 17 → ⊥
    element k =
        let w = num (node_words s h n).w1 in
        let t = (citer_list (num (node_words s h n).w0) (given_of s h (item_of s h) n) k (node_ok s h n (a.nodes n l)).takes).0 in
        true_false (loose_here s h n w before (citer (num (node_words s h n).w0) k (node_words s h n)).0) (p w t)

    other : is_quantifier (num (node_words s h n).w0) ≡ false → eqb (num (node_words s h n).w0) 17 ≡ false → seen_at d ≡ seen_at e
    other q k =
        let w = num (node_words s h n).w0 in
        let none = unscoped w (eqb-false w 14 (or_false_left (eqb w 14) (eqb w 15) q)) (eqb-false w 15 (or_false_right (eqb w 14) (eqb w 15) q))
        (eqb-false w 17 k) (node_words s h n) in
        let kid : (i : ℕ) → child_value s h value n i d ≡ child_value s h value n i e =
        λ i. pick_alike (children_of s h n) i (λ c m. let b = child_before n c (children_of s h n) before m in
        ih c b (omega arith) (λ f z. not_true (loose_plain s h n before c f none.1 m) (p f z))) in
        unmoved (num (node_words s h n).w0) (node_words s h n) facts verdicts d e _ _ (child_value s h value n 0) none.0
        ∙ ap₂ (λ (x y : ℤ). (node_row s h n).value (seen (node_words s h n) facts verdicts e (converted (child_sort s h n 0) (child_sort s h n 1) x)
        (converted (child_sort s h n 1) (child_sort s h n 0) y) (child_value s h value n 0))) (kid 0) (kid 1)

    alike_step : value n d ≡ value n e
    alike_step =
        value_is s h facts verdicts n before d
        ∙ ⊎_elim quantifier
        (λ q. ⊎_elim (λ k. absurd (element (eqb-true _ 17 k))) (other q) (bool_cases (eqb (num (node_words s h n).w0) 17)))
        (bool_cases (is_quantifier (num (node_words s h n).w0)))
        ∙ sym (value_is s h facts verdicts n before e)

  alike : (n : ℕ) → n < h.nodes → Shut n → value n d ≡ value n e
  alike = strong (λ (n : ℕ). n < h.nodes → Shut n → value n d ≡ value n e) alike_step

  pub value_anywhere : (n : ℕ) → n < h.nodes → closed s h n ≡ true → value n d ≡ value n e
  value_anywhere n l p = alike n l (λ f z. closed_at s h n f p z)
