-- The children as the code holds them, against their list.
-- Assumes nothing.
use mathlib.Core.Path.{◌≡◌, refl, sym, ap, ◌∙◌}
use mathlib.Core.Bool.{Bool, true, false, not, ◌&&◌, ◌||◌}
use mathlib.Core.List.{List, [], ◌∷◌}
use Prim.Native.Nat.{ℕ, ◌≤◌, ◌<◌}
use lib.Dec.{ltb, eqb}
use lib.ListN.{length, get_or, set, length-set}
use native.Mathlib.Omega.{arith}
use Rattle.tables.specs.Lists.{has, all_of, distinct, pick}
use Rattle.tables.proofs.Bools.{or_assoc}
use Rattle.tables.proofs.Entries.{or_false, marked_flags}
use Rattle.tables.proofs.Lists.{Before}
use Rattle.item.specs.Items.{none}
use Rattle.node.specs.declared.Kids.{Kids}
use Rattle.node.specs.declared.Kids.TheVariants.{Zero, One, Two}
use Rattle.node.specs.Judged.{kids}
use Rattle.node.proofs.OneKind.{no_cons}
use Rattle.records.specs.Nodes.{good_children}
use Rattle.sheet_nodes.specs.declared.Ranges.{Ranges}
use Rattle.sheet_nodes.specs.declared.Trees.{Trees}
use Rattle.sheet_nodes.specs.Arrays.{item_at}
use Rattle.sheet_nodes.specs.Steps.{first_kid, second_kid, Inside, name_kids}

module _ (v : Ranges) (t : Trees) where
  pub kid_first : (c : Kids) → pick (item_at v t) none (kids c) 0 ≡ first_kid c v t
  unfolding pick
  kid_first Zero = refl
  kid_first (One a) = refl
  kid_first (Two a b) = refl

  pub kid_second : (c : Kids) → pick (item_at v t) none (kids c) 1 ≡ second_kid c v t
  unfolding pick
  kid_second Zero = refl
  kid_second (One a) = refl
  kid_second (Two a b) = refl

-- the tests of no child, of one and of two
module _ (n : ℕ) (named : ℕ → Bool) where
  pub linked_none : true ≡ good_children n named []
  unfolding good_children all_of distinct
  linked_none = refl

  pub linked_one : (a : ℕ) → (ltb a n && not (named a)) ≡ good_children n named (a ∷ [])
  unfolding good_children all_of distinct has
  linked_one a = one (ltb a n && not (named a))
    where
      one : (p : Bool) → p ≡ (p && true && true)
      one true = refl
      one false = refl

  pub linked_two : (a b : ℕ) → (ltb a n && not (named a) && ltb b n && not (named b) && not (eqb b a)) ≡ good_children n named (a ∷ b ∷ [])
  unfolding good_children all_of distinct has
  linked_two a b = two (ltb a n && not (named a)) (ltb b n) (not (named b)) (eqb b a)
    where
      two : (p q r e : Bool) → (p && q && r && not e) ≡ (p && (q && r && true) && (not (e || false) && true))
      two false q r e = refl
      two true false r e = refl
      two true true false e = refl
      two true true true true = refl
      two true true true false = refl

pub inside_kids : (n m : ℕ) (c : Kids) → Before n (kids c) → n ≤ m → Inside c m
inside_kids n m Zero b l = tt
inside_kids n m (One i) b l = omega (arith, b.0)
inside_kids n m (Two i j) b l = (omega (arith, b.0), omega (arith, b.1.0))

-- a node with children has some in the list
pub some_kids : (c : Kids) → (c ≡ Zero → ⊥) → kids c ≡ [] → ⊥
some_kids Zero p e = p refl
some_kids (One i) p e = no_cons i [] e
some_kids (Two i j) p e = no_cons i (j ∷ []) e

-- one child in the list is the only one
pub only_kid : (c : Kids) (b : ℕ) → kids c ≡ (b ∷ []) → c ≡ One b
only_kid Zero b e = absurd (no_cons b [] (sym e))
only_kid (One i) b e = let q : i ≡ b = cc in ap One q
only_kid (Two i j) b e = let q : ◌≡◌ {A = List ℕ} (j ∷ []) [] = cc in absurd (no_cons j [] q)

-- the flags with the children's set
pub length_named : (c : Kids) (named : List Bool) → length (name_kids c named) ≡ length named
length_named Zero named = refl
length_named (One i) named = length-set named i true
length_named (Two i j) named = length-set (set named i true) j true ∙ length-set named i true

pub named_kids : (f : ℕ → Bool) (c : Kids) (named : List Bool) → ((a : ℕ) → a < length named → get_or named a false ≡ f a) → (a : ℕ)
    → a < length named → get_or (name_kids c named) a false ≡ (f a || has a (kids c))
unfolding has
named_kids f Zero named h a l = h a l ∙ sym (or_false (f a))
named_kids f (One i) named h a l = marked_flags f true i named h a l ∙ ap (λ (b : Bool). f a || b) (sym (or_false (eqb i a)))
named_kids f (Two i j) named h a l =
    marked_flags (λ a. f a || eqb i a) true j (set named i true)
    (λ a q. marked_flags f true i named h a (rw (length-set named i true) at q)) a (rw (length-set named i true) l)
    ∙ or_assoc (f a) (eqb i a) (eqb j a)
    ∙ ap (λ (b : Bool). f a || (eqb i a || b)) (sym (or_false (eqb j a)))
