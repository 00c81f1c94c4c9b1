-- Which elements a tree cites outside a quantifier over their list, and whether a quantifier stands in it.
-- Assumes nothing.
use mathlib.Core.Path.{◌≡◌, refl, sym, ap, fun_ext, ◌∙◌}
use mathlib.Core.Bool.{Bool, true, false, not, ◌&&◌, ◌||◌}
use mathlib.Core.List.{List, [], ◌∷◌, ◌++◌}
use mathlib.Core.Logic.{inl, inr, ⊎_elim}
use Prim.Native.Nat.{ℕ, ◌<◌}
use lib.IntN.{ℤ}
use lib.Dec.{eqb}
use native.Mathlib.Omega.{arith}
use native.Mathlib.Decide.{ℕ_discrete}
use borrow.Author.Tests.{lt-ltb, eqb-true, eq-eqb, ne_eqb}
use Rattle.tables.specs.Lists.{has, all_of, any_of, joined}
use Rattle.tables.proofs.Bools.{true_false, bool_cases, or_cases, or_assoc, or_true_left, or_true_right, or_false_left, or_false_right, and_left, and_right, and_true, not_flip, not_of_false}
use Rattle.tables.proofs.Grown.{entry_from, strong}
use Rattle.tables.proofs.Scans.{all_at}
use Rattle.tables.proofs.Lists.{Before}
use Rattle.signed.specs.Words.{num}
use Rattle.layout.specs.declared.Header.{Header}
use Rattle.node.specs.declared.Given.{Given}
use Rattle.node.specs.Rows.{row_of}
use Rattle.node.proofs.OverLists.{unscoped, binder, citer, citer_list}
use Rattle.records.specs.Facts.{is_list}
use Rattle.records.specs.Nodes.{node_words, children_of, elements_by, bound_by, given_of, item_of, tree_of, quantifies, flat, good_node, loose_step, loose}
use Rattle.records.specs.Names.{closed}
use Rattle.records.proofs.NodeLaws.{node_ok, tree_is}

-- ---- a test that holds of some number of a list

any_same : (f g : ℕ → Bool) (n : ℕ) (cs : List ℕ) → ((j : ℕ) → j < n → f j ≡ g j) → Before n cs → any_of f cs ≡ any_of g cs
unfolding any_of
any_same f g n [] h b = refl
any_same f g n (c ∷ cs) h b = rw (h c b.0, any_same f g n cs h b.1)

any_append : (f : ℕ → Bool) (xs ys : List ℕ) → any_of f (xs ++ ys) ≡ (any_of f xs || any_of f ys)
unfolding any_of
any_append f [] ys = refl
any_append f (x ∷ xs) ys = rw (any_append f xs ys) (sym (or_assoc (f x) (any_of f xs) (any_of f ys)))

any_joined : (f : ℕ → Bool) (g : ℕ → List ℕ) (cs : List ℕ) → any_of f (joined g cs) ≡ any_of (λ c. any_of f (g c)) cs
unfolding any_of joined
any_joined f g [] = refl
any_joined f g (c ∷ cs) = rw (any_append f (g c) (joined g cs), any_joined f g cs)

pub any_has : (f : ℕ → Bool) (cs : List ℕ) (c : ℕ) → has c cs ≡ true → f c ≡ true → any_of f cs ≡ true
unfolding any_of has
any_has f [] c m p = absurd (true_false m refl)
any_has f (d ∷ cs) c m p =
    ⊎_elim (λ e. or_true_left (f d) (any_of f cs) (rw (eqb-true d c e) p)) (λ m. or_true_right (f d) (any_of f cs) (any_has f cs c m p))
    (or_cases (eqb d c) (has c cs) m)

not_any : (f : ℕ → Bool) (xs : List ℕ) → all_of (λ m. not (f m)) xs ≡ true → any_of f xs ≡ false
unfolding any_of all_of
not_any f [] p = refl
not_any f (x ∷ xs) p =
    rw (not_flip (f x) (and_left (not (f x)) (all_of (λ m. not (f m)) xs) p)) (not_any f xs (and_right (not (f x)) (all_of (λ m. not (f m)) xs) p))

any_not : (f : ℕ → Bool) (xs : List ℕ) → any_of f xs ≡ false → all_of (λ m. not (f m)) xs ≡ true
unfolding any_of all_of
any_not f [] p = refl
any_not f (x ∷ xs) p = rw (or_false_left (f x) (any_of f xs) p) (any_not f xs (or_false_right (f x) (any_of f xs) p))

pub not_true : {a b : Bool} → (a ≡ true → b ≡ true) → b ≡ false → a ≡ false
not_true {a} {b} f p = ⊎_elim (λ q. absurd (true_false (f q) p)) (λ q. q) (bool_cases a)

-- ---- by kind

-- an element that is cited is that of a list
cites_list : (k : ℕ) (g : Given) (f : ℕ) → (row_of k).takes g ≡ true → has f ((row_of k).elements g.words) ≡ true
    → (f ≡ num g.words.w1) × (f < g.facts) × (g.fact.list ≡ true)
unfolding has
cites_list k g f t m = go (ℕ_discrete k 14) (ℕ_discrete k 15) (ℕ_discrete k 17)
  where
    empty : (row_of k).elements g.words ≡ [] → ⊥
    empty e = true_false (rw e at m) refl

    go : Dec (k ≡ 14) → Dec (k ≡ 15) → Dec (k ≡ 17) → (f ≡ num g.words.w1) × (f < g.facts) × (g.fact.list ≡ true)
    go (yes e) b c = absurd (empty (binder k (inl e) g.words).1)
    go (no a) (yes e) c = absurd (empty (binder k (inr e) g.words).1)
    go (no a) (no b) (yes e) =
        let q = citer_list k g e t in
        let u : (eqb (num g.words.w1) f || false) ≡ true = rw (citer k e g.words).0 at m in
        let v : num g.words.w1 ≡ f = ⊎_elim (eqb-true (num g.words.w1) f) (λ x. absurd (true_false x refl)) (or_cases _ _ u) in
        (sym v, rw (← v) q.0, q.1)
    go (no a) (no b) (no c) = absurd (empty (unscoped k a b c g.words).0)

-- ---- a node from its children

-- c is a child of node n
abbrev pub Child : List ℤ → Header → ℕ → ℕ → Type 0
Child s h n c = has c (children_of s h n) ≡ true

-- a quantifier stands in the tree under node n
abbrev pub quantified : List ℤ → Header → ℕ → Bool
quantified s h n = any_of (quantifies s h) (tree_of s h n)

pub first_child : (s : List ℤ) (h : Header) (n : ℕ) {c : ℕ} {cs : List ℕ} → children_of s h n ≡ (c ∷ cs) → Child s h n c
unfolding has
first_child s h n {c} {cs} e = rw e (or_true_left (eqb c c) (has c cs) (eq-eqb c c refl))

pub second_child : (s : List ℤ) (h : Header) (n : ℕ) {c d : ℕ} {cs : List ℕ} → children_of s h n ≡ (c ∷ d ∷ cs) → Child s h n d
unfolding has
second_child s h n {c} {d} {cs} e = rw e (or_true_right (eqb c d) (eqb d d || has d cs) (or_true_left (eqb d d) (has d cs) (eq-eqb d d refl)))

pub unbound : (s : List ℤ) (h : Header) (n : ℕ) → bound_by s h n ≡ [] → quantifies s h n ≡ false
unfolding quantifies
unbound s h n e = rw (e, quantifies)

pub bound : (s : List ℤ) (h : Header) (n l : ℕ) → bound_by s h n ≡ (l ∷ []) → quantifies s h n ≡ true
unfolding quantifies
bound s h n l e = rw (e, quantifies)

module _ (s : List ℤ) (h : Header) (n : ℕ) (b : Before n (children_of s h n)) where
  step_same : (look : ℕ → ℕ → Bool) → ((j : ℕ) → j < n → look j ≡ loose s h j) → loose_step s h look n ≡ loose_step s h (loose s h) n
  unfolding loose_step
  step_same look e =
      fun_ext (λ f. rw (any_same (λ c. look c f) (λ c. loose s h c f) n (children_of s h n) (λ j l. ap (λ (g : ℕ → Bool). g f) (e j l)) b))

  loose_all : loose s h n ≡ loose_step s h (loose s h) n
  unfolding loose
  loose_all = entry_from (loose_step s h) (λ _. false) n step_same

  pub loose_is : (f : ℕ) → loose s h n f ≡ loose_step s h (loose s h) n f
  loose_is f = ap (λ (g : ℕ → Bool). g f) loose_all

  pub quantified_is : quantified s h n ≡ (quantifies s h n || any_of (quantified s h) (children_of s h n))
  unfolding any_of
  quantified_is =
      ap (any_of (quantifies s h)) (tree_is s h n b)
      ∙ ap (λ (t : Bool). quantifies s h n || t) (any_joined (quantifies s h) (tree_of s h) (children_of s h n))

  -- a quantifier in a child's tree is in the node's
  pub quantified_up : (c : ℕ) → Child s h n c → quantified s h c ≡ true → quantified s h n ≡ true
  quantified_up c m p =
      quantified_is ∙ or_true_right (quantifies s h n) _ (any_has (quantified s h) (children_of s h n) c m p)

  pub quantified_here : quantifies s h n ≡ true → quantified s h n ≡ true
  quantified_here p = quantified_is ∙ or_true_left (quantifies s h n) _ p

  -- what a child cites, its parent cites, unless that is a quantifier over the list
  pub loose_up : (c f : ℕ) → has f (bound_by s h n) ≡ false → Child s h n c → loose s h c f ≡ true → loose s h n f ≡ true
  unfolding loose_step
  loose_up c f u m p =
      loose_is f
      ∙ or_true_right (has f (elements_by s h n)) _
      (and_true (not (has f (bound_by s h n))) _ (not_of_false (has f (bound_by s h n)) u) (any_has (λ c. loose s h c f) (children_of s h n) c m p))

  pub loose_plain : (c f : ℕ) → bound_by s h n ≡ [] → Child s h n c → loose s h c f ≡ true → loose s h n f ≡ true
  unfolding has
  loose_plain c f e = loose_up c f (rw e)

  -- the body of a quantifier over list l, which cites nothing outside, cites elements of l alone
  pub loose_body : (c f l : ℕ) → bound_by s h n ≡ (l ∷ []) → Child s h n c → loose s h c f ≡ true → loose s h n f ≡ false → f ≡ l
  unfolding has
  loose_body c f l e m p q = go (ℕ_discrete l f)
    where
      go : Dec (l ≡ f) → f ≡ l
      go (yes z) = sym z
      go (no d) = absurd (true_false (loose_up c f (rw (e, ne_eqb l f d)) m p) q)

-- ---- a good node

-- the body of a quantifier has none
pub body_plain : (s : List ℤ) (h : Header) (n c : ℕ) → flat s h n ≡ true → quantifies s h n ≡ true → Child s h n c → quantified s h c ≡ false
unfolding flat
body_plain s h n c p q m =
    let t = joined (tree_of s h) (children_of s h n) in
    let a : all_of (λ m. not (quantifies s h m)) t ≡ true = rw q at p in
    let e = sym (any_joined (quantifies s h) (tree_of s h) (children_of s h n)) ∙ not_any (quantifies s h) t a in
    not_true (any_has (quantified s h) (children_of s h n) c m) e

-- the test from the children's trees
pub flat_is : (s : List ℤ) (h : Header) (n : ℕ) → flat s h n ≡ (not (quantifies s h n) || not (any_of (quantified s h) (children_of s h n)))
unfolding flat
flat_is s h n =
    ap (λ (t : Bool). not (quantifies s h n) || t)
    (all_not (quantifies s h) (joined (tree_of s h) (children_of s h n)) ∙ ap not (any_joined (quantifies s h) (tree_of s h) (children_of s h n)))
  where
    all_not : (f : ℕ → Bool) (xs : List ℕ) → all_of (λ m. not (f m)) xs ≡ not (any_of f xs)
    all_not f xs = ⊎_elim (λ p. sym (ap not (not_any f xs p) ∙ sym p))
        (λ p. ⊎_elim (λ q. p ∙ sym (ap not q)) (λ q. absurd (true_false (any_not f xs q) p)) (bool_cases (any_of f xs)))
        (bool_cases (all_of (λ m. not (f m)) xs))

-- what a tree of good nodes cites is an element of a list
module _ (s : List ℤ) (h : Header) (n : ℕ) (good : (j : ℕ) → j < n → good_node s h j ≡ true) (f : ℕ) where
  -- there is such a list
  abbrev pub Listed : Type 0
  Listed = (f < h.facts) × (is_list s f ≡ true)

  listed_here : (j : ℕ) → j < n → has f (elements_by s h j) ≡ true → Listed
  listed_here j l m =
      let o = node_ok s h j (good j l) in
      let q = cites_list (num (node_words s h j).w0) (given_of s h (item_of s h) j) f o.takes m in
      (q.1, rw (← q.0, lt-ltb f h.facts q.1) at q.2)

  listed_below : (j : ℕ) (cs : List ℕ) → Before j cs → ((i : ℕ) → i < j → loose s h i f ≡ true → Listed) → any_of (λ c. loose s h c f) cs ≡ true → Listed
  unfolding any_of
  listed_below j [] b ih p = absurd (true_false p refl)
  listed_below j (c ∷ cs) b ih p =
      ⊎_elim (λ q. ih c b.0 q) (λ q. listed_below j cs b.1 ih q) (or_cases (loose s h c f) (any_of (λ c. loose s h c f) cs) p)

  pub loose_list : (j : ℕ) → j < n → loose s h j f ≡ true → Listed
  loose_list = strong (λ (j : ℕ). j < n → loose s h j f ≡ true → Listed) step
    where
      whole : (j : ℕ) → j < n → loose s h j f ≡ true
          → (has f (elements_by s h j) || not (has f (bound_by s h j)) && any_of (λ c. loose s h c f) (children_of s h j)) ≡ true
      whole j l p = unfold loose_step in sym (loose_is s h j (node_ok s h j (good j l)).before f) ∙ p

      step : (j : ℕ) → ((i : ℕ) → i < j → i < n → loose s h i f ≡ true → Listed) → j < n → loose s h j f ≡ true → Listed
      step j ih l p =
          ⊎_elim (listed_here j l)
          (λ m. listed_below j (children_of s h j) (node_ok s h j (good j l)).before (λ i q. ih i q (omega arith))
          (and_right (not (has f (bound_by s h j))) _ m)) (or_cases (has f (elements_by s h j)) _ (whole j l p))

-- the tree of a root cites nothing outside
pub closed_at : (s : List ℤ) (h : Header) (a f : ℕ) → closed s h a ≡ true → f < h.facts → loose s h a f ≡ false
unfolding closed
closed_at s h a f p l = not_flip (loose s h a f) (all_at (λ f. not (loose s h a f)) h.facts p f l)

pub closed_none : (s : List ℤ) (h : Header) (a f : ℕ) → ((j : ℕ) → j < h.nodes → good_node s h j ≡ true) → a < h.nodes → closed s h a ≡ true
    → loose s h a f ≡ false
closed_none s h a f good l p =
    ⊎_elim (λ q. absurd (true_false q (closed_at s h a f p (loose_list s h h.nodes good f a l q).0))) (λ q. q) (bool_cases (loose s h a f))
