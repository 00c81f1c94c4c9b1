-- A node without children, by what is known of every node.
-- Assumes nothing.
use Rattle.std.specs.Prelude.{None, Some}
use mathlib.Core.Path.{◌≡◌, refl, ◌∙◌}
use mathlib.Core.Bool.{true, false, cond}
use mathlib.Core.List.{List, []}
use Prim.Native.Nat.{ℕ, suc, ◌≤◌, ◌<◌, max}
use lib.IntN.{ℤ}
use lib.Dec.{eqb}
use lib.ListN.{get_or}
use native.Mathlib.Omega.{arith}
use native.Mathlib.Decide.{ℕ_discrete}
use borrow.Author.Tests.{eq-eqb, ne_eqb}
use Rattle.signed.specs.Words.{num, bounded, within}
use Rattle.words.specs.declared.Record.{Record}
use Rattle.layout.specs.declared.Header.{Header}
use Rattle.item.specs.declared.Item.{Item}
use Rattle.item.specs.Items.{small}
use Rattle.item.specs.Inner.{Small}
use Rattle.item.proofs.Units.{align_none}
use Rattle.node.specs.declared.Kids.TheVariants.{Zero}
use Rattle.node.specs.Rows.{row_of, converts}
use Rattle.node.specs.Judged.{judged, judged_parent}
use Rattle.records.specs.Nodes.{good_children}
use Rattle.sheet_nodes.specs.declared.Ranges.{Ranges}
use Rattle.sheet_nodes.specs.declared.Trees.{Trees}
use Rattle.sheet_nodes.specs.Scopes.{own_scope, node_scope}
use Rattle.sheet_nodes.specs.Arrays.{greatest}
use Rattle.sheet_nodes.specs.Steps.{given_by, leaf_given, with_item, with_tree, Turn, Placed, Took}
use Rattle.sheet_nodes.proofs.Kids.{linked_none}
use Rattle.sheet_nodes.proofs.Turns.{stop_found, element_few, rule_few, item_small, rest_small, took, refused}

none_converts : (s : List ℤ) (h : Header) (w : Record ℤ) → converts (leaf_given s h w) ≡ true
unfolding converts small bounded within
none_converts s h w = refl

-- it is judged as one whose children are none
leaf_is : (s : List ℤ) (h : Header) (w : Record ℤ) (k : ℕ) (v : Ranges) (t : Trees)
    → judged (row_of k) (leaf_given s h w) ≡ judged_parent (row_of k) (given_by s h w Zero v t)
unfolding judged_parent
leaf_is s h w k v t = rw (align_none, none_converts s h w)

own_number : (k l : ℕ) (t : List ℕ) → Some (own_scope k l) ≡ node_scope k l t Zero
own_number k l t = go (ℕ_discrete k 17)
  where
    go : Dec (k ≡ 17) → Some (own_scope k l) ≡ node_scope k l t Zero
    go (yes e) = rw (eq-eqb k 17 e)
    go (no n) = rw (ne_eqb k 17 n)

module _ {s : List ℤ} {h : Header} {n : ℕ} {v : Ranges} {tr : Trees} (t : Turn s h n v tr) {w : Record ℤ} {k : ℕ} (p : Placed s h n w k Zero) where
  pub leaf_bad : None ≡ judged (row_of k) (leaf_given s h w) → Took s h n false v tr
  leaf_bad q = refused (stop_found s h n t Zero p (linked_none n (λ a. get_or tr.named a false)) refl (q ∙ leaf_is s h w k v tr))

  module _ {x : Item} (er : Some x ≡ judged (row_of k) (leaf_given s h w)) where
    abbrev found : Some x ≡ judged_parent (row_of k) (given_by s h w Zero v tr)
    found = er ∙ leaf_is s h w k v tr

    abbrev linked : true ≡ good_children n (λ a. get_or tr.named a false) []
    linked = linked_none n (λ a. get_or tr.named a false)

    pub leaf_item : (n < 1024) × Small x
    leaf_item = item_small s h n t Zero p linked refl found (own_number k (num w.w1) tr.scopes)

    module _ {i : ℕ} (ei : i ≡ num w.w1) where
      pub leaf_rule : k ≡ 8 → i < 128
      leaf_rule = rule_few s h n t Zero p linked refl found ei

      pub leaf_list : k ≡ 17 → i < 128
      leaf_list = element_few s h n t Zero p linked refl found ei

      module _ {top scope : ℕ} (et : top ≡ cond (eqb k 8) (suc i) 0) (es : scope ≡ own_scope k i) where
        number : Some scope ≡ node_scope k (num w.w1) tr.scopes Zero
        number = rw (es, ei) (own_number k (num w.w1) tr.scopes)

        greatest_is : top ≡ max (cond (eqb k 8) (suc (num w.w1)) 0) (greatest (λ j. get_or tr.tops j 0) [])
        unfolding greatest
        greatest_is = rw (et, ei) (omega arith)

        pub leaf_rest : (n < 1024) × (x.sort ≤ 261) × (top < 256) × (scope < 256)
        leaf_rest = rest_small s h n t Zero p linked refl found number greatest_is

        pub leaf_took : Took s h n true (with_item n x v) (with_tree n x.sort top scope tr)
        leaf_took = took s h n t Zero p linked refl found number greatest_is
