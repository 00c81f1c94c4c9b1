-- One turn of the scan: the arrays' tests are the definition's, and the arrays after one node more.
-- Assumes nothing.
use Rattle.std.specs.Prelude.{Option, None, Some}
use mathlib.Core.Path.{◌≡◌, refl, sym, ap, ◌∙◌}
use mathlib.Core.Bool.{Bool, true, false, not, cond, ◌&&◌, ◌||◌}
use mathlib.Core.List.{List, [], ◌∷◌}
use mathlib.Core.Logic.{◌⊎◌, inl, inr, ⊎_elim}
use Prim.Native.Nat.{ℕ, suc, ◌≤◌, ◌<◌, max}
use lib.IntN.{ℤ, pos}
use lib.Dec.{ltb, eqb}
use lib.ListN.{length, get_or, set, replicate, get_or-replicate, length-set}
use lib.Seq.{get_or-set_same, get_or-set_other}
use native.Mathlib.Omega.{arith}
use native.Mathlib.Decide.{ℕ_discrete, dec_lt}
use borrow.Author.Tests.{le-ltb, ltb-true, eqb-true, eq-eqb, ne_eqb}
use Rattle.tables.specs.Scan.{any_below}
use Rattle.tables.specs.Lists.{has, all_of, distinct, pick}
use Rattle.tables.proofs.Bools.{and_iff, and_left, or_cases, true_false}
use Rattle.tables.proofs.Scans.{any_zero, below_suc}
use Rattle.tables.proofs.Grown.{strong}
use Rattle.tables.proofs.Lists.{Before, all_before, pick_same, pick_all}
use Rattle.signed.specs.Words.{bounded, within, num}
use Rattle.words.specs.declared.Record.{Record}
use Rattle.layout.specs.declared.Header.{Header}
use Rattle.item.specs.declared.Item.{Item}
use Rattle.item.specs.Items.{none}
use Rattle.item.specs.Inner.{Small}
use Rattle.node.specs.declared.Given.{Given}
use Rattle.node.specs.declared.Kids.{Kids}
use Rattle.node.specs.declared.Kids.TheVariants.{Zero}
use Rattle.node.specs.Rows.{row_of, fits, converts}
use Rattle.node.specs.Judged.{judged_parent, kids}
use Rattle.node.proofs.OneKind.{parent_other}
use Rattle.records.specs.Nodes.{node_words, node_row, children_of, given_of, item_of, named_by_nodes, good_children, flat, good_node}
use Rattle.records.proofs.NodeLaws.{node_ok, item_few}
use Rattle.node.proofs.OverLists.{citer, binder_list, citer_list}
use Rattle.sheet_nodes.specs.declared.Ranges.{Ranges}
use Rattle.sheet_nodes.specs.declared.Trees.{Trees}
use Rattle.sheet_nodes.specs.Scopes.{Scoped, kid_scope, node_scope}
use Rattle.sheet_nodes.specs.Arrays.{item_at, greatest, own_top, top_of, Filled}
use Rattle.sheet_nodes.specs.Steps.{first_kid, second_kid, given_by, Inside, Begun, Judgeable, with_item, with_tree, with_flags, name_kids, Turn, Placed, Took}
use Rattle.sheet_nodes.proofs.Kids.{kid_first, kid_second, inside_kids, some_kids, length_named, named_kids}
use Rattle.sheet_nodes.proofs.Tops.{greatest_same, greatest_few, top_is, own_is}
use Rattle.sheet_nodes.proofs.Scopes.{Lists, Numbered, numbered}
use Rattle.sheet_nodes.proofs.Scan.{parent_some, parent_none}

-- ---- greatest rules are small

-- a verdict-present cites a rule that exists
pub cited_small : (k : ℕ) (g : Given) → (row_of k).takes g ≡ true → k ≡ 8 → num g.words.w1 < g.rules
cited_small k g p e = ltb-true (num g.words.w1) g.rules (eight (rw e at p))
  where
    eight : (row_of 8).takes g ≡ true → ltb (num g.words.w1) g.rules ≡ true
    eight q = unfold row_of in q

pub own_few : (k : ℕ) (g : Given) → (row_of k).takes g ≡ true → g.rules ≤ 128 → cond (eqb k 8) (suc (num g.words.w1)) 0 ≤ 128
own_few k g p l = go (ℕ_discrete k 8)
  where
    go : Dec (k ≡ 8) → cond (eqb k 8) (suc (num g.words.w1)) 0 ≤ 128
    go (yes e) = rw (eq-eqb k 8 e) (omega (arith, cited_small k g p e))
    go (no d) = rw (ne_eqb k 8 d) (omega arith)

-- a list that a node names exists
pub lists_of : (k : ℕ) (g : Given) → (row_of k).takes g ≡ true → g.facts ≤ 128 → Lists k (num g.words.w1)
lists_of k g p l =
    record {
      binds = λ e. ⊎_elim (λ x. few (inl (eqb-true k 14 x))) (λ x. few (inr (eqb-true k 15 x))) (or_cases (eqb k 14) (eqb k 15) e);
      cites = λ e. omega (arith, (citer_list k g e p).0);
    }
  where
    few : (k ≡ 14) ⊎ (k ≡ 15) → num g.words.w1 < 128
    few e = omega (arith, (binder_list k g e p).0)

module _ (s : List ℤ) (h : Header) (b : Begun s h) (n : ℕ) (good : (j : ℕ) → j < n → good_node s h j ≡ true) where
  top_few : (j : ℕ) → j < n → top_of s h j ≤ 128
  top_few = strong (λ (j : ℕ). j < n → top_of s h j ≤ 128) step
    where
      step : (j : ℕ) → ((i : ℕ) → i < j → i < n → top_of s h i ≤ 128) → j < n → top_of s h j ≤ 128
      step j ih l =
          let o = node_ok s h j (good j l) in
          let own : own_top s h j ≤ 128 =
          rw (sym (own_is (num (node_words s h j).w0) (node_words s h j)))
          (own_few _ (given_of s h (item_of s h) j) o.takes b.sized.limits.rules) in
          rw (top_is s h j o.before)
          (omega (arith, own, greatest_few (top_of s h) 128 j (children_of s h j) (λ i q. ih i q (omega arith)) o.before))

-- ---- before the first node

pub begin : (s : List ℤ) (h : Header) {v : Ranges} {t : Trees} → t.named ≡ replicate 1024 false → length v.lows ≡ 1024 → length v.highs ≡ 1024
    → length t.sorts ≡ 1024 → length t.tops ≡ 1024 → length t.scopes ≡ 1024 → length t.named ≡ 1024 → Filled s h 0 v t
begin s h e l1 l2 l3 l4 l5 l6 =
    record {
      low_long = l1;
      high_long = l2;
      sort_long = l3;
      top_long = l4;
      scope_long = l5;
      name_long = l6;
      item = λ j l. absurd (omega arith);
      top = λ j l. absurd (omega arith);
      scope = λ j l. absurd (omega arith);
      name = λ a l. rw e (get_or-replicate 1024 a false false l ∙ sym (unfold named_by_nodes in any_zero (λ j. has a (children_of s h j))));
      good = λ j l. absurd (omega arith);
    }

-- ---- one node

all_ext : (f g : ℕ → Bool) (cs : List ℕ) → ((c : ℕ) → f c ≡ g c) → all_of f cs ≡ all_of g cs
unfolding all_of
all_ext f g [] e = refl
all_ext f g (c ∷ cs) e = rw (e c, all_ext f g cs e)

-- an entry more
entry_holds : {A : Type 0} (P : ℕ → A → Type 0) (d : A) (t : List A) (n : ℕ) (v : A) → n < length t → P n v → ((j : ℕ) → j < n → P j (get_or t j d))
    → (j : ℕ) → j < suc n → P j (get_or (set t n v) j d)
entry_holds P d t n v l e h j q = ⊎_elim older newer (below_suc j n q)
  where
    older : j < n → P j (get_or (set t n v) j d)
    older p = rw (get_or-set_other t n j v d (λ z. omega arith)) (h j p)

    newer : j ≡ n → P j (get_or (set t n v) j d)
    newer z = rw (z, get_or-set_same t n v d l) e

module _ (s : List ℤ) (h : Header) (n : ℕ) {v : Ranges} {tr : Trees} (t : Turn s h n v tr) where
  abbrev f : Filled s h n v tr
  f = t.filled

  pub few : n < 1024
  few = omega (arith, t.exists, t.begun.sized.limits.nodes)

  children_same : (cs : List ℕ) → good_children n (λ a. get_or tr.named a false) cs ≡ good_children n (named_by_nodes s h n) cs
  unfolding good_children
  children_same cs =
      ap (λ (b : Bool). b && distinct cs)
      (all_ext (λ c. ltb c n && not (get_or tr.named c false)) (λ c. ltb c n && not (named_by_nodes s h n c)) cs (λ c. one c (dec_lt c n)))
    where
      one : (c : ℕ) → Dec (c < n) → (ltb c n && not (get_or tr.named c false)) ≡ (ltb c n && not (named_by_nodes s h n c))
      one c (yes q) = rw (f.name c (omega (arith, few)))
      one c (no q) = rw (le-ltb c n (omega arith))

  module _ (c : Kids) {w : Record ℤ} {k : ℕ} (pl : Placed s h n w k c) where
    abbrev ew : w ≡ node_words s h n
    ew = pl.words

    abbrev ek : k ≡ num w.w0
    ek = pl.kind

    children_are : kids c ≡ children_of s h n
    children_are = pl.children ∙ rw (ek, ew)

    -- a node with children cites no rule and no element itself
    pub row_parent : (c ≡ Zero → ⊥) → (row_of k).children w ≡ [] → ⊥
    row_parent p e = some_kids c p (pl.children ∙ e)

    pub parent_top : {top : ℕ} → (c ≡ Zero → ⊥) → top ≡ greatest (λ j. get_or tr.tops j 0) (kids c)
        → top ≡ max (cond (eqb k 8) (suc (num w.w1)) 0) (greatest (λ j. get_or tr.tops j 0) (kids c))
    parent_top p e = rw (ne_eqb k 8 (parent_other k w (row_parent p)).1) (omega arith)

    pub parent_scope : {i : ℕ} {scope : Option ℕ} → (c ≡ Zero → ⊥) → i ≡ num w.w1 → scope ≡ kid_scope k i tr.scopes c
        → scope ≡ node_scope k (num w.w1) tr.scopes c
    parent_scope p ei e = rw (ne_eqb k 17 (λ z. row_parent p (citer k z w).2), ← ei) e

    module _ {b : Bool} (eb : b ≡ good_children n (λ a. get_or tr.named a false) (kids c)) where
      linked_are : good_children n (named_by_nodes s h n) (children_of s h n) ≡ b
      linked_are = sym (eb ∙ children_same (kids c) ∙ ap (good_children n (named_by_nodes s h n)) children_are)

      pub stop_linked : b ≡ false → false ≡ good_node s h n
      unfolding good_node
      stop_linked p = rw (linked_are ∙ p)

      module _ (p : b ≡ true) where
        before : Before n (children_of s h n)
        unfolding good_children
        before =
            all_before (λ c. not (named_by_nodes s h n c)) n (children_of s h n)
            (and_left (all_of (λ c. ltb c n && not (named_by_nodes s h n c)) (children_of s h n)) (distinct (children_of s h n)) (linked_are ∙ p))

        before_kids : Before n (kids c)
        before_kids = rw children_are before

        pub inside : Inside c 1024
        inside = inside_kids n 1024 c before_kids (omega (arith, few))

        first_is : first_kid c v tr ≡ pick (item_of s h) none (children_of s h n) 0
        first_is =
            sym (kid_first v tr c)
            ∙ pick_same (item_at v tr) (item_of s h) n f.item none (kids c) 0 before_kids
            ∙ ap (λ (cs : List ℕ). pick (item_of s h) none cs 0) children_are

        second_is : second_kid c v tr ≡ pick (item_of s h) none (children_of s h n) 1
        second_is =
            sym (kid_second v tr c)
            ∙ pick_same (item_at v tr) (item_of s h) n f.item none (kids c) 1 before_kids
            ∙ ap (λ (cs : List ℕ). pick (item_of s h) none cs 1) children_are

        given_is : given_by s h w c v tr ≡ given_of s h (item_of s h) n
        given_is = rw (first_is, second_is, ew)

        none_small : Small none
        none_small = record { low = unfold bounded within in refl; high = unfold bounded within in refl }

        kid_small : (i : ℕ) → Small (pick (item_of s h) none (children_of s h n) i)
        kid_small i = pick_all Small (item_of s h) none n (children_of s h n) i none_small (λ j q. (node_ok s h j (f.good j q)).fits) before

        pub judgeable : Judgeable s h w c v tr
        judgeable = record { begun = t.begun; inside = inside; first = rw first_is (kid_small 0); second = rw second_is (kid_small 1) }

        judged_is : judged_parent (row_of k) (given_by s h w c v tr) ≡ judged_parent (node_row s h n) (given_of s h (item_of s h) n)
        judged_is = rw (given_is, ek, ew)

        good_is : good_node s h n ≡ (converts (given_of s h (item_of s h) n) && fits (node_row s h n) (given_of s h (item_of s h) n) && flat s h n)
        unfolding good_node
        good_is = rw (linked_are ∙ p)

        pub stop_found : None ≡ judged_parent (row_of k) (given_by s h w c v tr) → false ≡ good_node s h n
        stop_found q = sym (good_is ∙ rw (parent_none (node_row s h n) (given_of s h (item_of s h) n) (q ∙ judged_is)))

        module _ {x : Item} (er : Some x ≡ judged_parent (row_of k) (given_by s h w c v tr)) where
          found : ((converts (given_of s h (item_of s h) n) && fits (node_row s h n) (given_of s h (item_of s h) n)) ≡ true)
              × (x ≡ (node_row s h n).gives (given_of s h (item_of s h) n))
          found = parent_some (node_row s h n) (given_of s h (item_of s h) n) (er ∙ judged_is)

          flat_left : good_node s h n ≡ flat s h n
          flat_left = good_is ∙ rw found.0

          takes : (node_row s h n).takes (given_of s h (item_of s h) n) ≡ true
          unfolding fits
          takes = let u = simp and_iff at found.0 in u.1.0.1

          lists : Lists (num (node_words s h n).w0) (num (node_words s h n).w1)
          lists = lists_of (num (node_words s h n).w0) (given_of s h (item_of s h) n) takes t.begun.sized.limits.facts

          pub list_few : {i : ℕ} → i ≡ num w.w1 → (eqb k 14 || eqb k 15) ≡ true → i < 128
          list_few ei = rw (ei, ek, ew) lists.binds

          pub element_few : {i : ℕ} → i ≡ num w.w1 → k ≡ 17 → i < 128
          element_few ei = rw (ei, ek, ew) lists.cites

          pub rule_few : {i : ℕ} → i ≡ num w.w1 → k ≡ 8 → i < 128
          rule_few ei e =
              rw (ei, ew)
              (omega (arith, cited_small (num (node_words s h n).w0) (given_of s h (item_of s h) n) takes (rw (ek, ew) at e), t.begun.sized.limits.rules))

          number_is : Numbered s h n (node_scope k (num w.w1) tr.scopes c)
          number_is = rw (ek, ew) (numbered s h n before c children_are tr.scopes f.scope lists)

          pub stop_nested : None ≡ node_scope k (num w.w1) tr.scopes c → false ≡ good_node s h n
          stop_nested q = sym (flat_left ∙ number_is.nested q)

          module _ {scope : ℕ} (es : Some scope ≡ node_scope k (num w.w1) tr.scopes c) where
            good_now : good_node s h n ≡ true
            good_now = flat_left ∙ number_is.flat es

            item_now : x ≡ item_of s h n
            item_now = found.1 ∙ sym (node_ok s h n good_now).item

            good_all : (j : ℕ) → j < suc n → good_node s h j ≡ true
            good_all j l = ⊎_elim (λ m. f.good j m) (λ e. rw e good_now) (below_suc j n l)

            pub item_small : (n < 1024) × Small x
            item_small = (few, rw item_now (node_ok s h n good_now).fits)

            module _ {top : ℕ} (et : top ≡ max (cond (eqb k 8) (suc (num w.w1)) 0) (greatest (λ j. get_or tr.tops j 0) (kids c))) where
              top_now : top ≡ top_of s h n
              top_now =
                  et
                  ∙ rw (own_is k w, greatest_same (λ j. get_or tr.tops j 0) (top_of s h) n (kids c) f.top before_kids, children_are, ek, ew)
                  (sym (top_is s h n before))

              pub rest_small : (n < 1024) × (x.sort ≤ 261) × (top < 256) × (scope < 256)
              rest_small = (
                few,
                rw item_now (item_few s h t.begun.facts (suc n) good_all n (omega arith)),
                rw top_now (omega (arith, top_few s h t.begun (suc n) good_all n (omega arith))),
                omega (arith, (number_is.scoped es).small),
              )

              names_now : (a : ℕ) → a < 1024 → get_or (name_kids c tr.named) a false ≡ named_by_nodes s h (suc n) a
              unfolding named_by_nodes any_below
              names_now a l =
                  named_kids (λ a. any_below (λ j. has a (children_of s h j)) n) c tr.named (λ a y. f.name a (omega (arith, f.name_long))) a
                  (omega (arith, f.name_long))
                  ∙ ap (λ (cs : List ℕ). any_below (λ j. has a (children_of s h j)) n || has a cs) children_are

              pub more : Filled s h (suc n) (with_item n x v) (with_flags (name_kids c tr.named) (with_tree n x.sort top scope tr))
              more =
                  record {
                    low_long = length-set v.lows n x.low ∙ f.low_long;
                    high_long = length-set v.highs n x.high ∙ f.high_long;
                    sort_long = length-set tr.sorts n x.sort ∙ f.sort_long;
                    top_long = length-set tr.tops n top ∙ f.top_long;
                    scope_long = length-set tr.scopes n scope ∙ f.scope_long;
                    name_long = length_named c tr.named ∙ f.name_long;
                    item = λ j l.
                        rw (
                          entry_holds (λ j x. x ≡ (item_of s h j).sort) 0 tr.sorts n x.sort (omega (arith, few, f.sort_long))
                              (ap (λ (x : Item). x.sort) item_now) (λ j m. ap (λ (x : Item). x.sort) (f.item j m)) j l,
                          entry_holds (λ j x. x ≡ (item_of s h j).low) (pos 0) v.lows n x.low (omega (arith, few, f.low_long))
                              (ap (λ (x : Item). x.low) item_now) (λ j m. ap (λ (x : Item). x.low) (f.item j m)) j l,
                          entry_holds (λ j x. x ≡ (item_of s h j).high) (pos 0) v.highs n x.high (omega (arith, few, f.high_long))
                              (ap (λ (x : Item). x.high) item_now) (λ j m. ap (λ (x : Item). x.high) (f.item j m)) j l,
                        );
                    top = entry_holds (λ j x. x ≡ top_of s h j) 0 tr.tops n top (omega (arith, few, f.top_long)) top_now f.top;
                    scope =
                        entry_holds (λ j x. Scoped s h j x) 0 tr.scopes n scope (omega (arith, few, f.scope_long)) (number_is.scoped es)
                        f.scope;
                    name = names_now;
                    good = good_all;
                  }

              pub took : Took s h n true (with_item n x v) (with_flags (name_kids c tr.named) (with_tree n x.sort top scope tr))
              took = record { judged = sym good_now; filled = λ q. more }

-- a node that is not taken
pub refused : {s : List ℤ} {h : Header} {n : ℕ} {v : Ranges} {t : Trees} → false ≡ good_node s h n → Took s h n false v t
refused e = record { judged = e; filled = λ q. absurd (true_false q refl) }
