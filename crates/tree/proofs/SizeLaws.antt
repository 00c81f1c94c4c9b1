-- The size of the tree under a node. Each node is named at most once, so the trees of the nodes that no node names yet are apart, and together
-- they are no larger than the nodes so far: the tree under node n has at most n + 1 nodes.
-- Assumes nothing.
use mathlib.Core.Path.{◌≡◌, refl, sym, ap}
use mathlib.Core.Bool.{Bool, true, false, not, ◌&&◌, ◌||◌, cond}
use mathlib.Core.List.{List, [], ◌∷◌, ◌++◌}
use mathlib.Core.Logic.{◌⊎◌, inl, inr}
use Prim.Native.Nat.{ℕ, zero, suc, ◌+◌, ◌≤◌, ◌<◌}
use lib.IntN.{ℤ}
use lib.ListN.{length, length-append}
use lib.Dec.{eqb, ltb}
use native.Mathlib.Omega.{arith}
use borrow.Author.Tests.{eq-eqb, ne_eqb, ltb-true}
use Rattle.tables.specs.Scan.{any_below, sum_below}
use Rattle.tables.specs.Lists.{has, all_of, distinct, joined}
use Rattle.tables.proofs.Bools.{and_left, and_right, not_flip}
use Rattle.tables.proofs.Scans.{sum_zero, sum_suc, below_suc}
use Rattle.layout.specs.declared.Header.{Header}
use Rattle.layout.specs.Header.{header_of}
use Rattle.records.specs.Accepted.{Accepted}
use Rattle.records.specs.Nodes.{children_of, tree_of, named_by_nodes}
use Rattle.records.proofs.NodeLaws.{node_ok, tree_is}
use Rattle.tree.specs.Inner.{children_at, NodeAt}
use Rattle.tree.specs.Sizes.{tree_size}
use Rattle.tree.proofs.TreeLaws.{named}

-- ---- a sum without one of its numbers

-- f with 0 at a
abbrev dropped : ℕ → (ℕ → ℕ) → ℕ → ℕ
dropped a f j = cond (eqb a j) 0 (f j)

sum_same : (f g : ℕ → ℕ) (n : ℕ) → ((j : ℕ) → j < n → f j ≡ g j) → sum_below f n ≡ sum_below g n
unfolding sum_below
sum_same f g zero h = refl
sum_same f g (suc n) h = rw (sum_same f g n (λ j l. h j (omega arith)), h n (omega arith))

drop_other : (a : ℕ) (f : ℕ → ℕ) (n : ℕ) → n ≤ a → sum_below (dropped a f) n ≡ sum_below f n
drop_other a f n l = sum_same (dropped a f) f n (λ j q. rw (ne_eqb a j (λ e. omega arith)))

drop_case : (a : ℕ) (f : ℕ → ℕ) (n : ℕ) → (a < n → sum_below (dropped a f) n + f a ≡ sum_below f n) → (a < n) ⊎ (a ≡ n)
    → sum_below (dropped a f) (suc n) + f a ≡ sum_below f (suc n)
drop_case a f n ih (inl q) =
    let z : dropped a f n ≡ f n = rw (ne_eqb a n (λ e. omega arith)) in
    omega (arith, ih q, z, sum_suc (dropped a f) n, sum_suc f n)
drop_case a f n ih (inr e) =
    let z : dropped a f n ≡ 0 = rw (eq-eqb a n e) in
    omega (arith, drop_other a f n (omega arith), z, ap f e, sum_suc (dropped a f) n, sum_suc f n)

drop_one : (a : ℕ) (f : ℕ → ℕ) (n : ℕ) → a < n → sum_below (dropped a f) n + f a ≡ sum_below f n
drop_one a f zero l = absurd (omega arith)
drop_one a f (suc n) l = drop_case a f n (drop_one a f n) (below_suc a n l)

-- ---- the trees that no node names

-- the sizes where x says of no number that it is named
abbrev free : (ℕ → Bool) → (ℕ → ℕ) → ℕ → ℕ
free x f j = cond (x j) 0 (f j)

or_none : (x : Bool) → (x || false) ≡ x
or_none true = refl
or_none false = refl

or_dropped : (x y z : Bool) (m : ℕ) → cond (x || (y || z)) 0 m ≡ cond y 0 (cond (x || z) 0 m)
or_dropped true true z m = refl
or_dropped true false z m = refl
or_dropped false true z m = refl
or_dropped false false z m = refl

free_le : (x : Bool) (m : ℕ) → cond x 0 m ≤ m
free_le true m = omega arith
free_le false m = omega arith

-- naming the numbers of a list takes their trees away
named_away : (x : ℕ → Bool) (t : ℕ → List ℕ) (n : ℕ) (cs : List ℕ) → all_of (λ c. ltb c n && not (x c)) cs ≡ true → distinct cs ≡ true
    → sum_below (free (λ j. x j || has j cs) (λ j. length (t j))) n + length (joined t cs) ≡ sum_below (free x (λ j. length (t j))) n
unfolding all_of distinct has joined
named_away x t n [] p q =
    omega (arith, sum_same (free (λ j. x j || false) (λ j. length (t j))) (free x (λ j. length (t j))) n (λ j _. rw (or_none (x j))))
named_away x t n (c ∷ cs) p q =
    let f : ℕ → ℕ = λ j. length (t j) in
    let here = and_left (ltb c n && not (x c)) (all_of (λ c. ltb c n && not (x c)) cs) p in
    let new = not_flip (x c) (and_right (ltb c n) (not (x c)) here) in
    let once = not_flip (has c cs) (and_left (not (has c cs)) (distinct cs) q) in
    let z : free (λ j. x j || has j cs) f c ≡ length (t c) = rw (new, once) in
    omega (
      arith,
      length-append (t c) (joined t cs),
      named_away x t n cs (and_right (ltb c n && not (x c)) (all_of (λ c. ltb c n && not (x c)) cs) p) (and_right (not (has c cs)) (distinct cs) q),
      drop_one c (free (λ j. x j || has j cs) f) n (ltb-true c n (and_left (ltb c n) (not (x c)) here)),
      z,
      sum_same (free (λ j. x j || (eqb c j || has j cs)) f) (dropped c (free (λ j. x j || has j cs) f)) n
          (λ j _. or_dropped (x j) (eqb c j) (has j cs) (f j)),
    )

-- ---- the size of a tree

module _ (s : List ℤ) (h : Header) where
  abbrev size : ℕ → ℕ
  size n = length (tree_of s h n)

  module _ (a : Accepted s h) where
    -- 1 for the node, and its children's trees
    pub size_parts : (n : ℕ) → n < h.nodes → size n ≡ 1 + length (joined (tree_of s h) (children_of s h n))
    size_parts n l = rw (tree_is s h n (node_ok s h n (a.nodes n l)).before) (omega arith)

    -- the sizes of the trees of the first n nodes that no node before n names
    apart : ℕ → ℕ
    apart n = sum_below (free (named_by_nodes s h n) size) n

    -- node n takes its children's trees for its own, and adds one node
    grows : (n : ℕ) → n < h.nodes → sum_below (free (named_by_nodes s h (suc n)) size) n + size n ≡ apart n + 1
    unfolding apart named_by_nodes any_below
    grows n l =
        let p = node_ok s h n (a.nodes n l) in
        omega (arith, size_parts n l, named_away (named_by_nodes s h n) (tree_of s h) n (children_of s h n) p.new p.apart)

    apart_small : (n : ℕ) → n ≤ h.nodes → apart n ≤ n
    unfolding apart
    apart_small zero l = rw (sum_zero (free (named_by_nodes s h zero) size)) (omega arith)
    apart_small (suc n) l =
        omega (
          arith,
          sum_suc (free (named_by_nodes s h (suc n)) size) n,
          free_le (named_by_nodes s h (suc n) n) (size n),
          grows n l,
          apart_small n (omega arith),
        )

    -- the tree under node n has at most n + 1 nodes
    pub size_small : (n : ℕ) → n < h.nodes → tree_size s h n ≤ n + 1
    unfolding tree_size
    size_small n l = omega (arith, grows n l, apart_small n (omega arith))

-- a node's tree as its count meets it
module _ {s : List ℤ} {base n : ℕ} (v : NodeAt s base n) where
  abbrev sized : ℕ → ℕ
  sized a = tree_size s (header_of s) a

  pub size_few : sized n ≤ 1024
  size_few = omega (arith, size_small s (header_of s) v.accepted n v.exists, v.accepted.sized.limits.nodes, v.exists)

  pub count_none : [] ≡ children_at s (base + n) → 1 ≡ sized n
  unfolding tree_size joined
  count_none k = sym (rw (named v k) at (size_parts s (header_of s) v.accepted n v.exists))

  pub count_one : (a : ℕ) → (a ∷ []) ≡ children_at s (base + n) → 1 + sized a ≡ sized n
  unfolding tree_size joined
  count_one a k =
      let t = tree_of s (header_of s) in
      omega (arith, rw (named v k) at (size_parts s (header_of s) v.accepted n v.exists), length-append (t a) [])

  pub count_two : (a b : ℕ) → (a ∷ b ∷ []) ≡ children_at s (base + n) → 1 + sized a + sized b ≡ sized n
  unfolding tree_size joined
  count_two a b k =
      let t = tree_of s (header_of s) in
      omega (
        arith,
        rw (named v k) at (size_parts s (header_of s) v.accepted n v.exists),
        length-append (t a) (t b ++ []),
        length-append (t b) [],
      )
