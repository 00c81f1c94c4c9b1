-- What the scan keeps of the tree under each node: whose elements it cites outside a quantifier over their list, and whether a quantifier stands
-- in it. As one number: 0 no elements; 1 + f those of list f; 129 those of several lists; 130 and 131 where there is a quantifier, without and
-- with elements cited outside.
-- Assumes nothing.
use Rattle.std.specs.Prelude.{◌≡◌, Bool, true, false, cond, ◌&&◌, ◌||◌, List, Option, Some, None, ℕ, suc, ◌≤◌, ◌<◌, ℤ, leb, ltb, eqb, get_or}
use Rattle.tables.specs.Lists.{any_of}
use Rattle.layout.specs.declared.Header.{Header}
use Rattle.node.specs.declared.Kids.{Kids}
use Rattle.node.specs.declared.Kids.TheVariants.{Zero, One, Two}
use Rattle.records.specs.Nodes.{tree_of, quantifies, loose}

-- c is the number of a tree with a quantifier where `q` says so, which cites the elements of those lists
pub record Scope (c : ℕ) (q : Bool) (cites : ℕ → Bool) : Type 0 where
  pub small : c ≤ 131
  pub quantifier : leb 130 c ≡ q
  pub only : (f : ℕ) → c ≤ 128 → (c ≡ suc f → ⊥) → cites f ≡ false
  pub quiet : (f : ℕ) → c ≡ 130 → cites f ≡ false
  pub some : (c ≡ 0 → ⊥) → (c ≡ 130 → ⊥) → (f : ℕ) × (cites f ≡ true)
  pub other : (g : ℕ) → c < 130 → (c ≡ 0 → ⊥) → (c ≡ suc g → ⊥) → (f : ℕ) × (f ≡ g → ⊥) × (cites f ≡ true)

abbrev pub Scoped : List ℤ → Header → ℕ → ℕ → Type 0
Scoped s h n c = Scope c (any_of (quantifies s h) (tree_of s h n)) (loose s h n)

-- it cites no elements
abbrev pub shut : ℕ → Bool
shut c = eqb c 0 || eqb c 130

-- of two trees together
unfoldable pub joint : ℕ → ℕ → ℕ
joint a b = cond (eqb a 0) b (cond (eqb b 0 || eqb a b) a (cond (ltb a 130 && ltb b 130) 129 131))

-- of a quantifier over list f, from its body's, in which no other quantifier may stand
unfoldable pub over : ℕ → ℕ → Option ℕ
over f a = cond (leb 130 a) None (cond (eqb a 0 || eqb a (suc f)) (Some 130) (Some 131))

-- of a node of kind number k with f in word 1, from its own citation, and from its children's
abbrev pub own_scope : ℕ → ℕ → ℕ
own_scope k f = cond (eqb k 17) (suc f) 0

abbrev pub kid_scope : ℕ → ℕ → List ℕ → Kids → Option ℕ
kid_scope k f t Zero = Some 0
kid_scope k f t (One a) = cond (eqb k 14 || eqb k 15) (over f (get_or t a 0)) (Some (get_or t a 0))
kid_scope k f t (Two a b) = Some (joint (get_or t a 0) (get_or t b 0))

abbrev pub node_scope : ℕ → ℕ → List ℕ → Kids → Option ℕ
node_scope k f t c = cond (eqb k 17) (Some (suc f)) (kid_scope k f t c)
