-- The greatest rule that a tree cites, from its root's own and its children's.
-- Assumes nothing.
use mathlib.Core.Path.{◌≡◌, refl, ap, ◌∙◌}
use mathlib.Core.Bool.{cond}
use mathlib.Core.List.{List, [], ◌∷◌, ◌++◌}
use Prim.Native.Nat.{ℕ, suc, ◌≤◌, ◌<◌, max}
use lib.IntN.{ℤ}
use lib.Dec.{eqb}
use native.Mathlib.Omega.{arith}
use native.Mathlib.Decide.{ℕ_discrete}
use borrow.Author.Tests.{eq-eqb, ne_eqb}
use Rattle.tables.specs.Lists.{joined}
use Rattle.tables.proofs.Lists.{Before}
use Rattle.signed.specs.Words.{num}
use Rattle.words.specs.declared.Record.{Record}
use Rattle.layout.specs.declared.Header.{Header}
use Rattle.node.specs.Rows.{row_of}
use Rattle.node.proofs.OneKind.{cites_none}
use Rattle.records.specs.Nodes.{children_of, tree_of}
use Rattle.records.proofs.NodeLaws.{tree_is}
use Rattle.sheet_nodes.specs.Arrays.{greatest, own_top, top_of}

greatest_append : (f : ℕ → ℕ) (xs ys : List ℕ) → greatest f (xs ++ ys) ≡ max (greatest f xs) (greatest f ys)
unfolding greatest
greatest_append f [] ys = omega arith
greatest_append f (x ∷ xs) ys = rw (greatest_append f xs ys) (omega arith)

greatest_joined : (f : ℕ → ℕ) (g : ℕ → List ℕ) (cs : List ℕ) → greatest f (joined g cs) ≡ greatest (λ c. greatest f (g c)) cs
unfolding greatest joined
greatest_joined f g [] = refl
greatest_joined f g (c ∷ cs) = greatest_append f (g c) (joined g cs) ∙ ap (max (greatest f (g c))) (greatest_joined f g cs)

pub greatest_same : (f g : ℕ → ℕ) (n : ℕ) (cs : List ℕ) → ((j : ℕ) → j < n → f j ≡ g j) → Before n cs → greatest f cs ≡ greatest g cs
unfolding greatest
greatest_same f g n [] h b = refl
greatest_same f g n (c ∷ cs) h b = rw (h c b.0, greatest_same f g n cs h b.1)

pub top_is : (s : List ℤ) (h : Header) (n : ℕ) → Before n (children_of s h n)
    → top_of s h n ≡ max (own_top s h n) (greatest (top_of s h) (children_of s h n))
unfolding top_of greatest
top_is s h n b = ap (greatest (own_top s h)) (tree_is s h n b) ∙ ap (max (own_top s h n)) (greatest_joined (own_top s h) (tree_of s h) (children_of s h n))

-- what a node of kind number k cites
pub own_is : (k : ℕ) (w : Record ℤ) → cond (eqb k 8) (suc (num w.w1)) 0 ≡ greatest suc ((row_of k).cites w)
unfolding greatest
own_is k w = go (ℕ_discrete k 8)
  where
    eight : suc (num w.w1) ≡ greatest suc ((row_of 8).cites w)
    eight = unfold row_of in omega arith

    go : Dec (k ≡ 8) → cond (eqb k 8) (suc (num w.w1)) 0 ≡ greatest suc ((row_of k).cites w)
    go (yes e) = rw (eq-eqb k 8 e, e) eight
    go (no d) = rw (ne_eqb k 8 d, cites_none k d w)

-- a bound on every entry bounds the greatest
pub greatest_few : (f : ℕ → ℕ) (m n : ℕ) (cs : List ℕ) → ((j : ℕ) → j < n → f j ≤ m) → Before n cs → greatest f cs ≤ m
unfolding greatest
greatest_few f m n [] h b = omega arith
greatest_few f m n (c ∷ cs) h b = omega (arith, h c b.0, greatest_few f m n cs h b.1)
