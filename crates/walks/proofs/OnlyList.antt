-- A flow's list of paths is the only one: two lists that hold the flow's paths, all of them and nothing else, in 01's order, are the same
-- list. So path number n is the same path in every such list, however `paths` is made.
-- Assumes nothing.
use mathlib.Core.Path.{◌≡◌, refl, sym, ◌∙◌, ap, subst}
use mathlib.Core.List.{List, [], ◌∷◌}
use mathlib.Core.Logic.{◌⊎◌, inl, inr, ⊎_elim}
use Prim.Native.Nat.{ℕ, zero, suc, ◌<◌}
use native.Mathlib.Omega.{arith}
use lib.IntN.{ℤ}
use lib.ListN.{length, get_or}
use Rattle.layout.specs.declared.Header.{Header}
use Rattle.records.specs.Accepted.{Accepted}
use Rattle.walks.specs.Paths.{PathOf, Before, here, later, Among, WholeList, paths, path}
use Rattle.walks.proofs.AllPaths.{before_self, path_list}

-- neither of two comes before the other and after it
before_apart : {p q x y : List ℕ} → Before p q → Before x y → q ≡ x → p ≡ y → ⊥
before_apart (here {a = a} {b = b} l) (here {a = c} {b = d} m) e f = let z : b ≡ c = cc in let w : a ≡ d = cc in omega arith
before_apart (here {a = a} {b = b} l) (later {a = c} y) e f = let z : b ≡ c = cc in let w : a ≡ c = cc in omega arith
before_apart (later {a = a} x) (here {a = c} {b = d} m) e f = let z : a ≡ c = cc in let w : a ≡ d = cc in omega arith
before_apart (later {p = p} {q = q} x) (later {p = u} {q = v} y) e f = let z : q ≡ u = cc in let w : p ≡ v = cc in before_apart x y z w

before_once : {p q : List ℕ} → Before p q → Before q p → ⊥
before_once x y = before_apart x y refl refl

-- ---- lists in order

abbrev InOrder : List (List ℕ) → Type 0
InOrder ps = (j k : ℕ) → j < k → k < length ps → Before (get_or ps j []) (get_or ps k [])

-- whatever is in ps is in qs
abbrev Within : List (List ℕ) → List (List ℕ) → Type 0
Within ps qs = (p : List ℕ) → Among ps p → Among qs p

module _ (p : List ℕ) (ps : List (List ℕ)) where
  head_at : Among (p ∷ ps) p
  head_at = record { number = 0; below = omega arith; is = refl }

  tail_at : {q : List ℕ} → Among ps q → Among (p ∷ ps) q
  tail_at a = record { number = suc a.number; below = omega (arith, a.below); is = a.is }

  -- what is in the list is its head, or in the tail
  at_cases : {q : List ℕ} → Among (p ∷ ps) q → (p ≡ q) ⊎ Among ps q
  at_cases {q} a = go a.number a.below a.is
    where
      go : (n : ℕ) → n < suc (length ps) → get_or (p ∷ ps) n [] ≡ q → (p ≡ q) ⊎ Among ps q
      go zero l e = inl e
      go (suc n) l e = inr (record { number = n; below = omega arith; is = e })

  module _ (o : InOrder (p ∷ ps)) where
    tail_order : InOrder ps
    tail_order j k l m = o (suc j) (suc k) (omega arith) (omega arith)

    -- the head comes before what is in the tail
    head_before : {q : List ℕ} → Among ps q → Before p q
    head_before a = subst (Before p) a.is (o 0 (suc a.number) (omega arith) (omega (arith, a.below)))

same_head : (p q : List ℕ) (ps qs : List (List ℕ)) → InOrder (p ∷ ps) → InOrder (q ∷ qs) → Within (p ∷ ps) (q ∷ qs) → Within (q ∷ qs) (p ∷ ps) → p ≡ q
same_head p q ps qs o u w v =
    ⊎_elim sym
    (λ x. ⊎_elim (λ e. e) (λ y. absurd (before_once (head_before q qs u x) (head_before p ps o y))) (at_cases p ps (v q (head_at q qs))))
    (at_cases q qs (w p (head_at p ps)))

same_tail : (p q : List ℕ) (ps qs : List (List ℕ)) → InOrder (p ∷ ps) → p ≡ q → Within (p ∷ ps) (q ∷ qs) → Within ps qs
same_tail p q ps qs o e w r a =
    ⊎_elim (λ z. absurd (before_self (head_before p ps o a) (e ∙ z))) (λ b. b) (at_cases q qs (w r (tail_at p ps a)))

same_list : (ps qs : List (List ℕ)) → InOrder ps → InOrder qs → Within ps qs → Within qs ps → ps ≡ qs
same_list [] [] o u w v = refl
same_list [] (q ∷ qs) o u w v = absurd (omega (arith, (v q (head_at q qs)).below))
same_list (p ∷ ps) [] o u w v = absurd (omega (arith, (w p (head_at p ps)).below))
same_list (p ∷ ps) (q ∷ qs) o u w v =
    let head : p ≡ q = same_head p q ps qs o u w v in
    let tail : ps ≡ qs =
    same_list ps qs (tail_order p ps o) (tail_order q qs u) (same_tail p q ps qs o head w) (same_tail q p qs ps u (sym head) v) in
    cc

-- ---- lists of a flow's paths

module _ (s : List ℤ) (h : Header) (f : ℕ) where
  all_there : {ps qs : List (List ℕ)} → WholeList s h f ps → WholeList s h f qs → Within ps qs
  all_there a b p at = b.complete p (subst (PathOf s h f) at.is (a.sound at.number at.below))

  -- two lists of all paths of a flow in order are the same list
  pub one_list : {ps qs : List (List ℕ)} → WholeList s h f ps → WholeList s h f qs → ps ≡ qs
  one_list {ps} {qs} a b = same_list ps qs a.ordered b.ordered (all_there a b) (all_there b a)

module _ (s : List ℤ) (h : Header) (a : Accepted s h) (f : ℕ) (l : f < h.flows) where
  -- `paths` is such a list
  pub paths_whole : WholeList s h f (paths s h f)
  paths_whole = (path_list s h a f l).whole

  -- so it is the only one
  pub only_list : {ps : List (List ℕ)} → WholeList s h f ps → ps ≡ paths s h f
  only_list w = one_list s h f w paths_whole

  -- and path number n is the entry n of any such list
  pub only_path : {ps : List (List ℕ)} → WholeList s h f ps → (n : ℕ) → get_or ps n [] ≡ path s h f n
  unfolding path
  only_path w n = ap (λ (ps : List (List ℕ)). get_or ps n []) (only_list w)
