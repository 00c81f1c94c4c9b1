-- The number of a tree: of two together, of a quantifier, of a node from its children's; and what it says of the tree.
-- Assumes nothing.
use Rattle.std.specs.Prelude.{Option, None, Some}
use mathlib.Core.Path.{◌≡◌, refl, sym, ap, ap₂, subst, ◌∙◌}
use mathlib.Core.Bool.{Bool, true, false, not, cond, ◌&&◌, ◌||◌}
use mathlib.Core.List.{List, [], ◌∷◌}
use mathlib.Core.Logic.{◌⊎◌, inl, inr, ⊎_elim}
use Prim.Native.Nat.{ℕ, suc, ◌≤◌, ◌<◌}
use lib.IntN.{ℤ}
use lib.Dec.{leb, ltb, eqb}
use lib.ListN.{get_or}
use native.Mathlib.Omega.{arith}
use native.Mathlib.Decide.{ℕ_discrete, dec_lt}
use borrow.Author.Tests.{lt-ltb, le-ltb, le-leb, lt-leb, eq-eqb, ne_eqb}
use Rattle.tables.specs.Lists.{has, any_of}
use Rattle.tables.proofs.Bools.{or_true_left, or_true_right, and_true, and_no, not_of_false}
use Rattle.tables.proofs.Scans.{all_of, all_fails}
use Rattle.tables.proofs.Entries.{or_false}
use Rattle.tables.proofs.Lists.{Before}
use Rattle.signed.specs.Words.{num}
use Rattle.words.specs.declared.Record.{Record}
use Rattle.layout.specs.declared.Header.{Header}
use Rattle.node.specs.declared.Kids.{Kids}
use Rattle.node.specs.declared.Kids.TheVariants.{Zero, One, Two}
use Rattle.node.specs.Judged.{kids}
use Rattle.records.specs.Nodes.{node_words, children_of, elements_by, bound_by, quantifies, flat, good_node, loose_step, loose}
use Rattle.records.specs.Names.{closed}
use Rattle.node.proofs.OverLists.{unscoped, binder, citer}
use Rattle.records.proofs.ScopeLaws.{quantified, unbound, bound, loose_is, quantified_is, flat_is, loose_list}
use Rattle.sheet_nodes.specs.Scopes.{Scope, Scoped, shut, joint, over, kid_scope, node_scope}
use Rattle.sheet_nodes.proofs.Kids.{only_kid}

-- ---- no tree, an element, and the same under another name

pub none : Scope 0 false (λ f. false)
none =
    record {
      small = omega arith;
      quantifier = refl;
      only = λ f a b. refl;
      quiet = λ f a. refl;
      some = λ a b. absurd (a refl);
      other = λ g l a b. absurd (a refl);
    }

pub one : (l : ℕ) → l < 128 → Scope (suc l) false (λ f. eqb l f)
one l h =
    record {
      small = omega arith;
      quantifier = lt-leb 130 (suc l) (omega arith);
      only = λ f a b. ne_eqb l f (λ e. b (ap suc e));
      quiet = λ f a. absurd (omega arith);
      some = λ a b. (l, eq-eqb l l refl);
      other = λ g m a b. (l, λ e. b (ap suc e), eq-eqb l l refl);
    }

pub same : {c : ℕ} {p q : Bool} {L M : ℕ → Bool} → p ≡ q → ((f : ℕ) → L f ≡ M f) → Scope c p L → Scope c q M
same e h x =
    record {
      small = x.small;
      quantifier = x.quantifier ∙ e;
      only = λ f a b. sym (h f) ∙ x.only f a b;
      quiet = λ f a. sym (h f) ∙ x.quiet f a;
      some = λ a b. let y = x.some a b in (y.0, sym (h y.0) ∙ y.1);
      other = λ g l a b. let y = x.other g l a b in (y.0, y.1, sym (h y.0) ∙ y.2);
    }

-- ---- two trees

data Joint (a b c : ℕ) : Type 0 where
  right : a ≡ 0 → c ≡ b → Joint a b c
  left : b ≡ 0 → c ≡ a → Joint a b c
  alike : a ≡ b → c ≡ a → Joint a b c
  apart : (a ≡ 0 → ⊥) → (b ≡ 0 → ⊥) → (a ≡ b → ⊥) → a < 130 → b < 130 → c ≡ 129 → Joint a b c
  outside : (a ≡ 0 → ⊥) → (b ≡ 0 → ⊥) → (a ≡ b → ⊥) → (130 ≤ a) ⊎ (130 ≤ b) → c ≡ 131 → Joint a b c

joint_is : (a b : ℕ) → Joint a b (joint a b)
unfolding joint
joint_is a b = go (ℕ_discrete a 0) (ℕ_discrete b 0) (ℕ_discrete a b) (dec_lt a 130) (dec_lt b 130)
  where
    go : Dec (a ≡ 0) → Dec (b ≡ 0) → Dec (a ≡ b) → Dec (a < 130) → Dec (b < 130)
        → Joint a b (cond (eqb a 0) b (cond (eqb b 0 || eqb a b) a (cond (ltb a 130 && ltb b 130) 129 131)))
    go (yes x) y z u v = right x (rw (eq-eqb a 0 x))
    go (no x) (yes y) z u v = left y (rw (ne_eqb a 0 x, eq-eqb b 0 y))
    go (no x) (no y) (yes z) u v = alike z (rw (ne_eqb a 0 x, ne_eqb b 0 y, eq-eqb a b z))
    go (no x) (no y) (no z) (yes u) (yes v) = apart x y z u v (rw (ne_eqb a 0 x, ne_eqb b 0 y, ne_eqb a b z, lt-ltb a 130 u, lt-ltb b 130 v))
    go (no x) (no y) (no z) (yes u) (no v) =
        outside x y z (inr (omega arith)) (rw (ne_eqb a 0 x, ne_eqb b 0 y, ne_eqb a b z, lt-ltb a 130 u, le-ltb b 130 (omega arith)))
    go (no x) (no y) (no z) (no u) v =
        outside x y z (inl (omega arith)) (rw (ne_eqb a 0 x, ne_eqb b 0 y, ne_eqb a b z, le-ltb a 130 (omega arith)))

low : {a : ℕ} {p : Bool} {L : ℕ → Bool} → Scope a p L → a < 130 → p ≡ false
low {a} x l = sym x.quantifier ∙ lt-leb 130 a l

high : {a : ℕ} {p : Bool} {L : ℕ → Bool} → Scope a p L → 130 ≤ a → p ≡ true
high {a} x l = sym x.quantifier ∙ le-leb 130 a l

nothing : {a : ℕ} {p : Bool} {L : ℕ → Bool} → Scope a p L → a ≡ 0 → (f : ℕ) → L f ≡ false
nothing x z f = x.only f (omega arith) (λ e. omega arith)

or_same : (p : Bool) → (p || p) ≡ p
or_same true = refl
or_same false = refl

both_case : {a b : ℕ} {p q : Bool} {L M : ℕ → Bool} (c : ℕ) → Scope a p L → Scope b q M → Joint a b c → Scope c (p || q) (λ f. L f || M f)
both_case {a} {b} {p} {q} {L} {M} c x y (right z e) = rw e (same (rw (low x (omega arith))) (λ f. rw (nothing x z f)) y)
both_case {a} {b} {p} {q} {L} {M} c x y (left z e) =
    rw e (same (rw (low y (omega arith)) (sym (or_false p))) (λ f. rw (nothing y z f) (sym (or_false (L f)))) x)
both_case {a} {b} {p} {q} {L} {M} c x y (alike z e) =
    let pq : q ≡ p = sym y.quantifier ∙ ap (leb 130) (sym z) ∙ x.quantifier in
    rw e (record {
      small = x.small;
      quantifier = x.quantifier ∙ sym (ap (λ (t : Bool). p || t) pq ∙ or_same p);
      only = λ f u v. rw (x.only f u v, y.only f (omega arith) (λ i. v (z ∙ i)));
      quiet = λ f u. rw (x.quiet f u, y.quiet f (sym z ∙ u));
      some = λ u v. let r = x.some u v in (r.0, or_true_left (L r.0) (M r.0) r.1);
      other = λ g l u v. let r = x.other g l u v in (r.0, r.1, or_true_left (L r.0) (M r.0) r.2);
    })
both_case {a} {b} {p} {q} {L} {M} c x y (apart i j d l m e) =
    rw e (record {
      small = omega arith;
      quantifier = rw (low x l, low y m);
      only = λ f u v. absurd (omega arith);
      quiet = λ f u. absurd (omega arith);
      some = λ u v. let r = x.some i (λ n. omega arith) in (r.0, or_true_left (L r.0) (M r.0) r.1);
      other = λ g n u v. go g (ℕ_discrete a (suc g));
    })
  where
    go : (g : ℕ) → Dec (a ≡ suc g) → (f : ℕ) × (f ≡ g → ⊥) × ((L f || M f) ≡ true)
    go g (no n) = let r = x.other g l i n in (r.0, r.1, or_true_left (L r.0) (M r.0) r.2)
    go g (yes n) = let r = y.other g m j (λ o. d (n ∙ sym o)) in (r.0, r.1, or_true_right (L r.0) (M r.0) r.2)
both_case {a} {b} {p} {q} {L} {M} c x y (outside i j d l e) =
    rw e (record {
      small = omega arith;
      quantifier = sym (⊎_elim (λ m. or_true_left p q (high x m)) (λ m. or_true_right p q (high y m)) l);
      only = λ f u v. absurd (omega arith);
      quiet = λ f u. absurd (omega arith);
      some = λ u v. go (ℕ_discrete a 130);
      other = λ g n u v. absurd (omega arith);
    })
  where
    go : Dec (a ≡ 130) → (f : ℕ) × ((L f || M f) ≡ true)
    go (no n) = let r = x.some i n in (r.0, or_true_left (L r.0) (M r.0) r.1)
    go (yes n) = let r = y.some j (λ o. d (n ∙ sym o)) in (r.0, or_true_right (L r.0) (M r.0) r.1)

both : {a b : ℕ} {p q : Bool} {L M : ℕ → Bool} → Scope a p L → Scope b q M → Scope (joint a b) (p || q) (λ f. L f || M f)
both {a} {b} x y = both_case (joint a b) x y (joint_is a b)

-- ---- a quantifier over list l

data Over (l a : ℕ) (c : Option ℕ) : Type 0 where
  nested : 130 ≤ a → c ≡ None → Over l a c
  closes : a < 130 → (a ≡ 0) ⊎ (a ≡ suc l) → c ≡ Some 130 → Over l a c
  leaves : a < 130 → (a ≡ 0 → ⊥) → (a ≡ suc l → ⊥) → c ≡ Some 131 → Over l a c

over_is : (l a : ℕ) → Over l a (over l a)
unfolding over
over_is l a = go (dec_lt a 130) (ℕ_discrete a 0) (ℕ_discrete a (suc l))
  where
    go : Dec (a < 130) → Dec (a ≡ 0) → Dec (a ≡ suc l) → Over l a (cond (leb 130 a) None (cond (eqb a 0 || eqb a (suc l)) (Some 130) (Some 131)))
    go (no u) x y = nested (omega arith) (rw (le-leb 130 a (omega arith)))
    go (yes u) (yes x) y = closes u (inl x) (rw (lt-leb 130 a u, eq-eqb a 0 x))
    go (yes u) (no x) (yes y) = closes u (inr y) (rw (lt-leb 130 a u, ne_eqb a 0 x, eq-eqb a (suc l) y))
    go (yes u) (no x) (no y) = leaves u x y (rw (lt-leb 130 a u, ne_eqb a 0 x, ne_eqb a (suc l) y))

module _ {l a : ℕ} {p : Bool} {L : ℕ → Bool} (few : l < 128) (x : Scope a p L) where
  -- it has a number where no quantifier stands in its body
  over_nested : None ≡ over l a → p ≡ true
  over_nested e = go (over_is l a)
    where
      go : Over l a (over l a) → p ≡ true
      go (nested m z) = high x m
      go (closes m y z) = absurd (let q = e ∙ z in cc)
      go (leaves m y u z) = absurd (let q = e ∙ z in cc)

  over_open : {c : ℕ} → Some c ≡ over l a → p ≡ false
  over_open {c} e = go (over_is l a)
    where
      go : Over l a (over l a) → p ≡ false
      go (nested m z) = absurd (let q = e ∙ z in cc)
      go (closes m y z) = low x m
      go (leaves m y u z) = low x m

  over_scope : {c : ℕ} → Some c ≡ over l a → Scope c true (λ f. not (eqb l f) && L f)
  over_scope {c} e = go (over_is l a)
    where
      quiet_at : a < 130 → (a ≡ 0) ⊎ (a ≡ suc l) → (f : ℕ) → Dec (l ≡ f) → (not (eqb l f) && L f) ≡ false
      quiet_at m z f (yes e) = rw (eq-eqb l f e)
      quiet_at m (inl z) f (no n) = rw (nothing x z f) (and_no (not (eqb l f)))
      quiet_at m (inr z) f (no n) = rw (x.only f (omega arith) (λ i. n (omega arith))) (and_no (not (eqb l f)))

      number : {m : ℕ} → over l a ≡ Some m → c ≡ m
      number z = let q = e ∙ z in cc

      go : Over l a (over l a) → Scope c true (λ f. not (eqb l f) && L f)
      go (nested m z) = absurd (let q = e ∙ z in cc)
      go (closes m y z) =
          rw (number z) (record {
            small = omega arith;
            quantifier = refl;
            only = λ f u v. absurd (omega arith);
            quiet = λ f u. quiet_at m y f (ℕ_discrete l f);
            some = λ u v. absurd (v refl);
            other = λ g n u v. absurd (omega arith);
          })
      go (leaves m y u z) =
          rw (number z) (record {
            small = omega arith;
            quantifier = refl;
            only = λ f u v. absurd (omega arith);
            quiet = λ f u. absurd (omega arith);
            some = λ i j.
                let r = x.other l m y u in
                (r.0, and_true (not (eqb l r.0)) (L r.0) (not_of_false _ (ne_eqb l r.0 (λ i. r.1 (sym i)))) r.2);
            other = λ g n u v. absurd (omega arith);
          })

-- ---- the children

-- the number of the children's trees together
abbrev together : List ℕ → Kids → ℕ
together t Zero = 0
together t (One i) = get_or t i 0
together t (Two i j) = joint (get_or t i 0) (get_or t j 0)

together_is : (k l : ℕ) (t : List ℕ) (c : Kids) → (k ≡ 14 → ⊥) → (k ≡ 15 → ⊥) → kid_scope k l t c ≡ Some (together t c)
together_is k l t Zero i j = refl
together_is k l t (One a) i j = rw (ne_eqb k 14 i, ne_eqb k 15 j)
together_is k l t (Two a b) i j = refl

module _ (t : List ℕ) (Q : ℕ → Bool) (L : ℕ → ℕ → Bool) (n : ℕ) (each : (j : ℕ) → j < n → Scope (get_or t j 0) (Q j) (L j)) where
  kids_scope : (c : Kids) → Before n (kids c) → Scope (together t c) (any_of Q (kids c)) (λ f. any_of (λ j. L j f) (kids c))
  unfolding any_of
  kids_scope Zero b = none
  kids_scope (One i) b = same (sym (or_false (Q i))) (λ f. sym (or_false (L i f))) (each i b.0)
  kids_scope (Two i j) b =
      same (ap (λ (t : Bool). Q i || t) (sym (or_false (Q j)))) (λ f. ap (λ (t : Bool). L i f || t) (sym (or_false (L j f))))
      (both (each i b.0) (each j b.1.0))

-- ---- a node

-- what the number of a node says, and that it has none
pub record Numbered (s : List ℤ) (h : Header) (n : ℕ) (c : Option ℕ) : Type 0 where
  pub nested : None ≡ c → flat s h n ≡ false
  pub flat : {m : ℕ} → Some m ≡ c → flat s h n ≡ true
  pub scoped : {m : ℕ} → Some m ≡ c → Scoped s h n m

-- the list in word 1 of a quantifier or an element is one of 128
pub record Lists (k l : ℕ) : Type 0 where
  pub binds : (eqb k 14 || eqb k 15) ≡ true → l < 128
  pub cites : k ≡ 17 → l < 128

module _ (s : List ℤ) (h : Header) (n : ℕ) (before : Before n (children_of s h n)) (c : Kids) (e : kids c ≡ children_of s h n) (t : List ℕ)
    (each : (j : ℕ) → j < n → Scoped s h j (get_or t j 0)) where
  abbrev w : Record ℤ
  w = node_words s h n

  abbrev k : ℕ
  k = num w.w0

  abbrev l : ℕ
  l = num w.w1

  before_kids : Before n (kids c)
  before_kids = rw e before

  loose_from : (f : ℕ) → loose s h n f ≡ (has f (elements_by s h n) || not (has f (bound_by s h n)) && any_of (λ j. loose s h j f) (kids c))
  unfolding loose_step
  loose_from f =
      loose_is s h n before f
      ∙ ap (λ (cs : List ℕ). has f (elements_by s h n) || not (has f (bound_by s h n)) && any_of (λ j. loose s h j f) cs) (sym e)

  quantified_from : quantified s h n ≡ (quantifies s h n || any_of (quantified s h) (kids c))
  quantified_from = quantified_is s h n before ∙ ap (λ (cs : List ℕ). quantifies s h n || any_of (quantified s h) cs) (sym e)

  flat_from : flat s h n ≡ (not (quantifies s h n) || not (any_of (quantified s h) (kids c)))
  flat_from = flat_is s h n ∙ ap (λ (cs : List ℕ). not (quantifies s h n) || not (any_of (quantified s h) cs)) (sym e)

  -- no quantifier
  open_number : bound_by s h n ≡ [] → (m : ℕ) → Scoped s h n m → Numbered s h n (Some m)
  open_number z m x =
      record {
        nested = λ q. absurd cc;
        flat = λ q. flat_from ∙ rw (unbound s h n z);
        scoped = λ {m = i} q. let e : i ≡ m = cc in rw e x;
      }

  -- an element
  numbered_element : k ≡ 17 → l < 128 → Numbered s h n (Some (suc l))
  unfolding has any_of
  numbered_element ek few =
      let q = citer k ek w in
      let empty : kids c ≡ [] = e ∙ q.2 in
      open_number q.1 (suc l)
      (same (sym (quantified_from ∙ rw (unbound s h n q.1, empty)))
      (λ f. sym (loose_from f ∙ rw (q.0, q.1, empty) (or_false (eqb l f || false) ∙ or_false (eqb l f)))) (one l few))

  -- a quantifier
  numbered_quantifier : (k ≡ 14) ⊎ (k ≡ 15) → l < 128 → Numbered s h n (over l (get_or t (num w.w2) 0))
  unfolding has any_of
  numbered_quantifier ek few =
      let q = binder k ek w in
      let b = num w.w2 in
      let body : kids c ≡ (b ∷ []) = e ∙ q.2 in
      let x = each b (subst (Before n) body before_kids).0 in
      let yes-q = bound s h n l q.0 in
      let flat-is : flat s h n ≡ not (quantified s h b) = flat_from ∙ rw (yes-q, body) (ap not (or_false (quantified s h b))) in
      record {
        nested = λ z. flat-is ∙ ap not (over_nested few x z);
        flat = λ z. flat-is ∙ ap not (over_open few x z);
        scoped = λ z.
            same (sym (quantified_from ∙ rw yes-q))
            (λ f. sym (loose_from f ∙ rw (q.0, q.1, body) (ap₂ (λ (i j : Bool). not i && j) (or_false (eqb l f)) (or_false (loose s h b f)))))
            (over_scope few x z);
      }

  -- any other node
  numbered_other : (k ≡ 14 → ⊥) → (k ≡ 15 → ⊥) → (k ≡ 17 → ⊥) → Numbered s h n (Some (together t c))
  unfolding has
  numbered_other i j m =
      let q = unscoped k i j m w in
      open_number q.1 (together t c)
      (same (sym (quantified_from ∙ rw (unbound s h n q.1))) (λ f. sym (loose_from f ∙ rw (q.0, q.1)))
      (kids_scope t (quantified s h) (loose s h) n each c before_kids))

  pub numbered : Lists k l → Numbered s h n (node_scope k l t c)
  numbered few = go (ℕ_discrete k 17) (ℕ_discrete k 14) (ℕ_discrete k 15)
    where
      one_kid : (k ≡ 14) ⊎ (k ≡ 15) → c ≡ One (num w.w2)
      one_kid i = only_kid c (num w.w2) (e ∙ (binder k i w).2)

      go : Dec (k ≡ 17) → Dec (k ≡ 14) → Dec (k ≡ 15) → Numbered s h n (node_scope k l t c)
      go (yes x) y z = rw (eq-eqb k 17 x) (numbered_element x (few.cites x))
      go (no x) (yes y) z = rw (ne_eqb k 17 x, one_kid (inl y), eq-eqb k 14 y) (numbered_quantifier (inl y) (few.binds (rw (eq-eqb k 14 y))))
      go (no x) (no y) (yes z) =
          rw (ne_eqb k 17 x, one_kid (inr z), ne_eqb k 14 y, eq-eqb k 15 z)
          (numbered_quantifier (inr z) (few.binds (rw (ne_eqb k 14 y, eq-eqb k 15 z))))
      go (no x) (no y) (no z) = rw (ne_eqb k 17 x, together_is k l t c y z) (numbered_other y z x)

-- ---- a root

-- a tree that cites no elements outside is closed
pub shut_is : (s : List ℤ) (h : Header) (n : ℕ) {c : ℕ} → ((j : ℕ) → j < suc n → good_node s h j ≡ true) → Scoped s h n c → shut c ≡ closed s h n
unfolding closed
shut_is s h n {c} good x = go (ℕ_discrete c 0) (ℕ_discrete c 130)
  where
    shuts : ((f : ℕ) → loose s h n f ≡ false) → true ≡ closed s h n
    shuts q = sym (all_of (λ f. not (loose s h n f)) h.facts (λ f l. not_of_false (loose s h n f) (q f)))

    go : Dec (c ≡ 0) → Dec (c ≡ 130) → shut c ≡ closed s h n
    go (yes z) v = rw (eq-eqb c 0 z) (shuts (nothing x z))
    go (no u) (yes z) = rw (ne_eqb c 0 u, eq-eqb c 130 z) (shuts (λ f. x.quiet f z))
    go (no u) (no v) =
        let r = x.some u v in
        rw (ne_eqb c 0 u, ne_eqb c 130 v)
        (sym (all_fails (λ f. not (loose s h n f)) h.facts r.0 (loose_list s h (suc n) good r.0 n (omega arith) r.1).0 (ap not r.1)))
