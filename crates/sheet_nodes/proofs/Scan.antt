-- One node by itself, as the scan judges it.
-- Assumes nothing.
use Rattle.std.specs.Prelude.{Option, None, Some}
use mathlib.Core.Path.{◌≡◌, refl, ap}
use mathlib.Core.Bool.{Bool, true, false, cond, ◌&&◌}
use mathlib.Core.List.{List}
use mathlib.Core.Logic.{⊎_elim}
use Prim.Native.Nat.{ℕ, ◌≤◌}
use lib.IntN.{ℤ, pos, negsuc}
use native.Mathlib.Omega.{arith}
use mir.Syntax.{w32}
use mir.Val.{SFits}
use Rattle.tables.proofs.Bools.{bool_cases, and_no, mid_no}
use Rattle.signed.specs.Words.{num, bounded}
use Rattle.signed.proofs.Bounds.{read_small}
use Rattle.words.specs.Record.{numbers_of, unused}
use Rattle.layout.specs.declared.Header.{Header}
use Rattle.item.specs.declared.Item.{Item}
use Rattle.node.specs.declared.Named.{Named}
use Rattle.node.specs.declared.Given.{Given}
use Rattle.node.specs.Rows.{Row, unknown, row_of, fits, converts}
use Rattle.node.specs.Judged.{bad, keep, judged, judged_parent}
use Rattle.node.proofs.Judged.{row_past}
use Rattle.node.proofs.OneKind.{with_fact, fact_unread}
use Rattle.records.specs.Nodes.{node_words, node_row, children_of, given_of, item_of, named_by_nodes, good_children, good_node}
use Rattle.sheet_nodes.specs.Steps.{names_one}

-- a node reads the fact in word 1 where its kind names one
pub same_fact : (k : ℕ) (g : Given) (f : Named) → (names_one k ≡ true → f ≡ g.fact) → judged (row_of k) (with_fact f g) ≡ judged (row_of k) g
same_fact k g f h =
    ⊎_elim (λ e. ap (λ (x : Named). judged (row_of k) (with_fact x g)) (h e)) (λ e. fact_unread k e g f) (bool_cases (names_one k))

pub parent_fact : (k : ℕ) (g : Given) (f : Named) → (names_one k ≡ true → f ≡ g.fact)
    → judged_parent (row_of k) (with_fact f g) ≡ judged_parent (row_of k) g
unfolding judged_parent converts
parent_fact k g f h = ap (λ (r : Option Item). cond (converts g) r bad) (same_fact k g f h)

-- an integer in −M..M fits 32 bits
pub int_small : (z : ℤ) → bounded z ≡ true → SFits w32 z
int_small (pos n) e = record { sfits = omega (arith, read_small (pos n) e) }
int_small (negsuc n) e = record { sfits = omega (arith, read_small (negsuc n) e) }

-- ---- what an answer tells

pub judged_some : (r : Row) (g : Given) {x : Item} → Some x ≡ judged r g → (fits r g ≡ true) × (x ≡ r.gives g)
unfolding judged keep
judged_some r g {x} = go (fits r g) refl
  where
    go : (b : Bool) → fits r g ≡ b → Some x ≡ cond b (Some (r.gives g)) bad → (fits r g ≡ true) × (x ≡ r.gives g)
    go true e q = (e, cc)
    go false e q = absurd cc

pub judged_none : (r : Row) (g : Given) → None ≡ judged r g → fits r g ≡ false
unfolding judged keep
judged_none r g = go (fits r g) refl
  where
    go : (b : Bool) → fits r g ≡ b → None ≡ cond b (Some (r.gives g)) bad → fits r g ≡ false
    go true e q = absurd cc
    go false e q = e

pub parent_some : (r : Row) (g : Given) {x : Item} → Some x ≡ judged_parent r g → ((converts g && fits r g) ≡ true) × (x ≡ r.gives g)
unfolding judged_parent
parent_some r g {x} = go (converts g) refl
  where
    go : (b : Bool) → converts g ≡ b → Some x ≡ cond b (judged r g) bad → ((converts g && fits r g) ≡ true) × (x ≡ r.gives g)
    go true e q = let p = judged_some r g q in (rw e p.0, p.1)
    go false e q = absurd cc

pub parent_none : (r : Row) (g : Given) → None ≡ judged_parent r g → (converts g && fits r g) ≡ false
unfolding judged_parent
parent_none r g = go (converts g) refl
  where
    go : (b : Bool) → converts g ≡ b → None ≡ cond b (judged r g) bad → (converts g && fits r g) ≡ false
    go true e q = rw e (judged_none r g q)
    go false e q = rw e

-- ---- a kind that is none

misfit : (k : ℕ) (g : Given) → 18 ≤ k → fits (row_of k) g ≡ false
unfolding fits
misfit k g l = let e = row_past k l in rw (e, mid_no (unused unknown.used (numbers_of g.words)))

pub no_kind : (s : List ℤ) (h : Header) (n : ℕ) → 18 ≤ num (node_words s h n).w0 → false ≡ good_node s h n
unfolding good_node
no_kind s h n l =
    let e : fits (node_row s h n) (given_of s h (item_of s h) n) ≡ false = misfit (num (node_words s h n).w0) _ l in
    rw (e, and_no (good_children n (named_by_nodes s h n) (children_of s h n) && converts (given_of s h (item_of s h) n)))
