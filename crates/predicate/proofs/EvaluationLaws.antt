-- A node's value with every duration in seconds, from those of its children, as its evaluation meets it.
-- Assumes nothing.
use mathlib.Core.Path.{◌≡◌, refl, sym, ap, ap₂, subst, fun_ext, ◌∙◌}
use mathlib.Core.Bool.{Bool, true, false}
use mathlib.Core.List.{List, [], ◌∷◌}
use mathlib.Core.Logic.{◌⊎◌}
use Prim.Native.Nat.{ℕ, zero, suc, ◌+◌, ◌%◌, ◌≤◌, ◌<◌}
use lib.IntN.{ℤ, pos}
use lib.Dec.{eqb}
use lib.ListN.{length, get_or, get_or-eq_default}
use borrow.Author.Tests.{lt-ltb}
use native.Mathlib.Omega.{arith}
use Rattle.tables.specs.Lists.{pick, words_from}
use Rattle.tables.proofs.Bools.{true_false}
use Rattle.tables.proofs.Lists.{pick_all}
use Rattle.tables.proofs.Elements.{length_from, all_word}
use Rattle.signed.specs.Words.{num, bounded, eq_z}
use Rattle.words.specs.Record.{words_at}
use Rattle.layout.specs.declared.Header.{Header}
use Rattle.layout.specs.Header.{header_of, first_node}
use Rattle.item.specs.declared.Item.{Item}
use Rattle.item.specs.Units.{converted}
use Rattle.item.specs.Items.{none, align}
use Rattle.item.proofs.Units.{converted_low, shared_bool}
use Rattle.node.specs.declared.Given.{Given}
use Rattle.node.specs.FactValues.{FactValue, no_value, value_in, elements_in}
use Rattle.node.specs.Rows.{row_of, bit, is_true}
use Rattle.node.proofs.OneKind.{no_cons}
use Rattle.node.proofs.OverLists.{Names, binder, single_named, binder_list, length_list, citer_list, binder_bool}
use Rattle.node.proofs.FactTypeLaws.{plain_sort}
use Rattle.records.specs.Accepted.{Accepted}
use Rattle.records.specs.Facts.{is_list, value_type, set_of}
use Rattle.records.specs.Nodes.{node_words, node_row, children_of, bound_by, named_fact, given_of, item_of, quantifies}
use Rattle.records.proofs.FactLaws.{fact_ok}
use Rattle.records.proofs.NodeLaws.{NodeOk, node_ok, item_few}
use Rattle.records.proofs.ScopeLaws.{Child, first_child, second_child, bound, loose_body, quantified_here, body_plain}
use Rattle.facts.specs.Faults.{in_fact}
use Rattle.facts.specs.Inner.{FactsIn, start_in, count_in, held_fact, held}
use Rattle.facts.proofs.HeldLaws.{length_held, held_at, held_list, held_single}
use Rattle.kinds.specs.Inner.{seconds_from, Wide, fact_word, is_quantifier, over_of}
use Rattle.kinds.proofs.SecondsLaws.{seconds_from_lem, decided_seconds, value_wide, wide_of}
use Rattle.kinds.proofs.TakenLaws.{part_taken}
use Rattle.kinds.proofs.SweepLaws.{is_binder, quantified_value, unbound}
use Rattle.tree.specs.Inner.{row_at, children_at, BaseOf}
use Rattle.tree.proofs.TreeLaws.{held as held-node, named as children_named, before}
use Rattle.predicate.specs.Values.{child_sort, child_value, seen_of, value_of, truth}
use Rattle.predicate.specs.Units.{seconds_of}
use Rattle.predicate.specs.Inner.{Evaluable}
use Rattle.predicate.specs.Base.{seconds_at, IsLeafAt, ReadsAt, IsJointAt, EvaluableAt, SweepAt, swept}
use Rattle.predicate.proofs.BaseLaws.{there}
use Rattle.predicate.proofs.ValueLaws.{elements_in_lem, value_is, value_small, scoped_child}

-- ---- by the node's row

module _ {s : List ℤ} {h : Header} (a : Accepted s h) (facts : List FactValue) (verdicts : List ℤ) where
  abbrev seconds : ℕ → ℤ → ℤ
  seconds n = seconds_of s h facts verdicts n

  -- the children's
  pick_seconds : (cs : List ℕ) (i : ℕ) (e : ℤ)
      → pick seconds (λ _. pos 0) cs i e
      ≡ converted (pick (item_of s h) none cs i).sort 261 (pick (value_of s h facts verdicts) (λ _. pos 0) cs i e)
  unfolding pick seconds_of
  pick_seconds [] i e = sym (converted_low 0 261 (pos 0) (omega arith))
  pick_seconds (c ∷ cs) zero e = refl
  pick_seconds (c ∷ cs) (suc i) e = pick_seconds cs i e

  module _ (n : ℕ) (l : n < h.nodes) where
    ok : NodeOk s h n
    ok = node_ok s h n (a.nodes n l)

    child_few : (i : ℕ) → child_sort s h n i ≤ 261
    child_few i =
        pick_all (λ (x : Item). x.sort ≤ 261) (item_of s h) none n (children_of s h n) i (omega arith)
        (λ j q. item_few s h a.facts h.nodes a.nodes j (omega (arith, q, l))) ok.before

    -- what a node of kind number k with these words comes to at element e
    abbrev pub by_kind : ℤ → ℕ → ℤ
    by_kind e k =
        let cs = (row_of k).children (node_words s h n) in
        seconds_from k (node_words s h n) (named_fact s h.facts (num (node_words s h n).w1)).item.sort facts verdicts e
        (pick seconds (λ _. pos 0) cs 0 e) (pick seconds (λ _. pos 0) cs 1 e) (pick (value_of s h facts verdicts) (λ _. pos 0) cs 0)

    pub seconds_is : (e : ℤ) → seconds n e ≡ by_kind e (num (node_words s h n).w0)
    unfolding seconds_of align
    seconds_is e =
        let value = value_of s h facts verdicts in
        let cs = children_of s h n in
        let body = child_value s h value n 0 in
        ap₂ (λ (t : ℕ) (v : ℤ). converted t 261 v) (ap (λ (x : Item). x.sort) ok.item) (value_is s h facts verdicts n ok.before e)
        ∙ seconds_from_lem _ (given_of s h (item_of s h) n) facts verdicts e (child_sort s h n 0) (child_sort s h n 1) (child_value s h value n 0 e)
        (child_value s h value n 1 e) body (child_few 0) (child_few 1) refl refl ok.takes
        ∙ ap₂ (λ (x y : ℤ). seconds_from (num (node_words s h n).w0) (node_words s h n)
        (named_fact s h.facts (num (node_words s h n).w1)).item.sort facts verdicts e x y body)
        (sym (pick_seconds cs 0 e)) (sym (pick_seconds cs 1 e))

    -- what is no duration is the value
    pub seconds_plain : (item_of s h n).sort < 258 → (e : ℤ) → seconds n e ≡ value_of s h facts verdicts n e
    unfolding seconds_of
    seconds_plain t e = converted_low _ 261 _ t

-- past the lent lists stands no element
pub past_end : (t : List ℤ) → get_or t (length t) (pos 0) ≡ pos 0
past_end t = get_or-eq_default t (pos 0) (omega arith)

-- a Bool is true where it is 1
pub true_seconds : {s : List ℤ} {h : Header} {facts : List FactValue} {verdicts : List ℤ} {n : ℕ} {e : ℤ} → Evaluable s h facts verdicts n
    → e ≡ pos 0 → eq_z (seconds_of s h facts verdicts n e) (pos 1) ≡ truth s h facts verdicts n
true_seconds {s} {h} {facts} {verdicts} {n} {e} v p =
    ap (λ (z : ℤ). eq_z z (pos 1)) (seconds_plain v.accepted facts verdicts n v.exists (omega (arith, v.bool)) e) ∙ rw p

-- ---- by its record, over the words that the code holds and the lent lists

abbrev tail : List ℕ → List ℕ
tail [] = []
tail (c ∷ cs) = cs

-- what such words say of fact f
module _ {s : List ℤ} {h : Header} (words lists : List ℤ) (k : FactsIn s h (held s words lists)) (f : ℕ) (l : f < h.facts) where
  held_here : get_or (held s words lists) f no_value ≡ held_fact s lists f (get_or words f (pos 0))
  held_here = held_at s words lists f (omega (arith, l, k.long, length_held s words lists))

  pub word_single : is_list s f ≡ false → get_or words f (pos 0) ≡ value_in (get_or (held s words lists) f no_value)
  word_single p = sym (ap value_in (held_here ∙ held_single s lists f (get_or words f (pos 0)) p))

  pub word_listed : is_list s f ≡ true
      → elements_in (get_or (held s words lists) f no_value) ≡ words_from lists (start_in (get_or words f (pos 0))) (count_in (get_or words f (pos 0)))
  word_listed p = ap elements_in (held_here ∙ held_list s lists f (get_or words f (pos 0)) p)

  -- a list's elements lie in its min..max
  pub element_in : is_list s f ≡ true → (j : ℕ) → j < count_in (get_or words f (pos 0))
      → in_fact s f (get_or lists (start_in (get_or words f (pos 0)) + j) (pos 0)) ≡ true
  element_in p j q =
      let w = get_or words f (pos 0) in
      all_word (in_fact s f) lists (start_in w) (count_in w) (rw (word_listed p) at (elements_in_lem s h (held s words lists) k f l p)) j q

module _ {s : List ℤ} {base : ℕ} {words lists verdicts : List ℤ} {n : ℕ} {e : ℤ} (v : EvaluableAt s base words lists verdicts n e) where
  abbrev facts : List FactValue
  facts = held s words lists

  abbrev head : Header
  head = header_of s

  abbrev sec : ℕ → ℤ → ℤ
  sec j = seconds_of s head facts verdicts j

  abbrev kind : ℕ
  kind = num (node_words s head n).w0

  -- the fact that its words name
  abbrev f : ℕ
  f = num (node_words s head n).w1

  abbrev given : Given
  given = given_of s head (item_of s head) n

  abbrev first_value : ℤ → ℤ
  first_value = child_value s head (value_of s head facts verdicts) n 0

  good : NodeOk s head n
  good = node_ok s head n (v.over.accepted.nodes n v.over.exists)

  small : bounded (value_of s head facts verdicts n e) ≡ true
  small = let o = v.over in value_small s head facts verdicts o.accepted o.known o.judged n o.exists e o.scoped

  wide : Wide (sec n e)
  unfolding seconds_of
  wide = wide_of _ _ small

  -- over the children's values x and y
  met : (x y : ℤ) (cs : List ℕ) → children_of s head n ≡ cs → x ≡ pick sec (λ _. pos 0) cs 0 e → y ≡ pick sec (λ _. pos 0) cs 1 e
      → seconds_at s base (base + n) facts verdicts e x y first_value ≡ sec n e
  met x y cs p q r =
      ap (λ (b : ℕ). seconds_at s b (b + n) facts verdicts e x y first_value) v.first
      ∙ ap₂ (λ (x y : ℤ). seconds_at s (first_node head) (first_node head + n) facts verdicts e x y first_value)
      (q ∙ ap (λ (l : List ℕ). pick sec (λ _. pos 0) l 0 e) (sym p)) (r ∙ ap (λ (l : List ℕ). pick sec (λ _. pos 0) l 1 e) (sym p))
      ∙ sym (seconds_is v.over.accepted facts verdicts n v.over.exists e)

  -- ---- without children

  -- the fact that it names, where its kind names a list, or none
  named : {list : Bool} → Names given list → (f < head.facts) × (is_list s f ≡ list)
  named p = (p.0, rw (lt-ltb f head.facts p.0) at p.1)

  single : kind ≡ 3 → (f < head.facts) × (is_list s f ≡ false)
  single k = named (single_named kind given k good.takes)

  -- its value where it is of kind number k
  kind_value : (k : ℕ) → kind ≡ k
      → value_of s head facts verdicts n e ≡ (row_of k).value (seen_of s head facts verdicts (value_of s head facts verdicts) n e)
  kind_value k p =
      value_is s head facts verdicts n good.before e
      ∙ ap (λ (k : ℕ). (row_of k).value (seen_of s head facts verdicts (value_of s head facts verdicts) n e)) p

  fact_value : kind ≡ 3 → bounded (fact_word (node_words s head n) words) ≡ true
  unfolding row_of
  fact_value k =
      let q = single k in
      ap bounded (word_single words lists v.over.known f q.0 q.1 ∙ sym (kind_value 3 k)) ∙ small

  duration_value : kind ≡ 13 → bounded (node_words s head n).w1 ≡ true
  unfolding row_of
  duration_value k = ap bounded (sym (kind_value 13 k)) ∙ small

  element_plain : kind ≡ 17 → (named_fact s head.facts f).item.sort < 258
  element_plain k =
      let q = named (citer_list kind given k good.takes) in
      let o = fact_ok s f (v.over.accepted.facts f q.0) in
      rw (lt-ltb f head.facts q.0) (plain_sort (value_type s f) (set_of s f) (o.plain q.1) o.bounds.set)

  count_value : kind ≡ 16 → num (fact_word (node_words s head n) words) % 128 ≡ length (elements_in (get_or facts f no_value))
  count_value k =
      let q = named (length_list kind given k good.takes) in
      sym (ap length (word_listed words lists v.over.known f q.0 q.1) ∙ length_from lists _ _)

  -- what the record at base + n gives where it has no children, and over the values x and y of those that it has
  pub record MeetsLeaf : Type 0 where
    pub based : BaseOf s base
    pub able : IsLeafAt s (base + n) words
    pub reads : ReadsAt s base (base + n) words facts
    pub is : seconds_at s base (base + n) facts verdicts e (pos 0) (pos 0) first_value ≡ sec n e

  pub record Meets (x y : ℤ) : Type 0 where
    pub able : IsJointAt s (base + n) x y
    pub is : seconds_at s base (base + n) facts verdicts e x y first_value ≡ sec n e

  meets : (x y : ℤ) (c : ℕ) (cs : List ℕ) → children_of s head n ≡ (c ∷ cs) → is_quantifier kind ≡ false → x ≡ pick sec (λ _. pos 0) (c ∷ cs) 0 e
      → y ≡ pick sec (λ _. pos 0) (c ∷ cs) 1 e → Meets x y
  meets x y c cs p u q r =
      let i = met x y (c ∷ cs) p q r in
      let w = words_at s (base + n) in
      record {
        able = record {
          some = λ z. no_cons c cs (sym p ∙ rw v.first at z);
          plain = rw v.first (unbound kind u (node_words s head n));
          facts = facts;
          verdicts = verdicts;
          element = e;
          body = first_value;
          wide = value_wide (num w.w0) w (named_fact s base (num w.w1)).item.sort facts verdicts e x y first_value (subst Wide (sym i) wide);
        };
        is = i;
      }

  -- ---- children

  -- a child is evaluated at the same element
  child_at : (c : ℕ) → c < n → is_quantifier kind ≡ false → Child s head n c → EvaluableAt s base words lists verdicts c e
  child_at c l u m =
      let o = v.over in
      record {
        first = v.first;
        over = record {
          accepted = o.accepted;
          known = o.known;
          judged = o.judged;
          exists = omega (arith, l, o.exists);
          scoped = scoped_child good.before (unbound kind u (node_words s head n)) m o.scoped;
        };
      }

  pub by_none : [] ≡ children_at s (base + n) → MeetsLeaf
  unfolding pick
  by_none k =
      let none = children_named (there v) k in
      record {
        based = record { first = v.first; accepted = v.over.accepted };
        able = rw v.first (record {
          none = none;
          part = part_taken _ given good.takes;
          fact = fact_value;
          duration = duration_value;
        });
        reads = rw v.first (record {
          plain = element_plain;
          value = λ q. let z = single q in word_single words lists v.over.known f z.0 z.1;
          count = count_value;
        });
        is = met (pos 0) (pos 0) [] none refl refl;
      }

  -- one child, of what is no quantifier
  module _ {a : ℕ} (k : (a ∷ []) ≡ children_at s (base + n)) (u : is_quantifier (num (words_at s (base + n)).w0) ≡ false) where
    alone : is_quantifier kind ≡ false
    alone = rw v.first at u

    pub only_at : EvaluableAt s base words lists verdicts a e
    only_at = child_at a (before (there v) k).0 alone (first_child s head n (children_named (there v) k))

    pub by_one : {x : ℤ} → x ≡ sec a e → Meets x (pos 0)
    unfolding pick
    by_one q = meets _ (pos 0) a [] (children_named (there v) k) alone q refl

  -- two children, which no quantifier has
  module _ {a b : ℕ} (k : (a ∷ b ∷ []) ≡ children_at s (base + n)) where
    plain : is_quantifier kind ≡ false
    plain = rw v.first at (go (is_quantifier (num (words_at s (base + n)).w0)) refl)
      where
        go : (t : Bool) → is_quantifier (num (words_at s (base + n)).w0) ≡ t → is_quantifier (num (words_at s (base + n)).w0) ≡ false
        go true q = absurd (no_cons b [] (ap tail (k ∙ (binder _ (is_binder _ q) (words_at s (base + n))).2)))
        go false q = q

    pub first_at : EvaluableAt s base words lists verdicts a e
    first_at = child_at a (before (there v) k).0 plain (first_child s head n (children_named (there v) k))

    pub second_at : EvaluableAt s base words lists verdicts b e
    second_at = child_at b (before (there v) k).1.0 plain (second_child s head n (children_named (there v) k))

    pub by_two : {x y : ℤ} → x ≡ sec a e → y ≡ sec b e → Meets x y
    unfolding pick
    by_two q r = meets _ _ a (b ∷ []) (children_named (there v) k) plain q r

    -- where the first child decides, the second does not matter
    pub by_first : {x : ℤ} → x ≡ sec a e → (row_at s (base + n)).decides x ≡ true → x ≡ sec n e
    by_first {x} q r = sym (decided_seconds _ _ _ facts verdicts e x (sec b e) first_value r) ∙ (by_two q refl).is

  module _ {a : ℕ} (k : (a ∷ []) ≡ children_at s (base + n)) where
    -- ---- a quantifier

    module _ (u : is_quantifier (num (words_at s (base + n)).w0) ≡ true) where
      quantifier : (kind ≡ 14) ⊎ (kind ≡ 15)
      quantifier = is_binder kind (rw v.first at u)

      only : children_of s head n ≡ (a ∷ [])
      only = children_named (there v) k

      over_list_lem : bound_by s head n ≡ (f ∷ [])
      over_list_lem = (binder kind quantifier (node_words s head n)).0

      list : (f < head.facts) × (is_list s f ≡ true)
      list = named (binder_list kind given quantifier good.takes)

      bools : (given.x.sort ≡ 0) × (((node_row s head n).gives given).sort ≡ 0)
      bools = binder_bool kind given quantifier good.takes

      body_before : a < n
      body_before = (rw only at good.before).0

      here : quantifies s head n ≡ true
      here = bound s head n f over_list_lem

      -- its body is evaluated at the elements of its list
      pub sweep_at : SweepAt s base (base + n) words lists verdicts a
      sweep_at =
          let o = v.over in
          let q = list in
          let m = first_child s head n only in
          rw v.first (record {
            within = rw v.first at (held-node (there v));
            each = λ j l. record {
              first = refl;
              over = record {
                accepted = o.accepted;
                known = o.known;
                judged = o.judged;
                exists = omega (arith, body_before, o.exists);
                scoped = record {
                  inside = λ g b z.
                      let same = loose_body s head n good.before a g f over_list_lem m z
                      (o.scoped.outer (quantified_here s head n good.before here) g b) in
                      rw same (element_in words lists o.known f q.0 q.1 j l);
                  outer = λ z. absurd (true_false z (body_plain s head n a good.flat here m));
                };
              };
            };
          })

      body_bool : (item_of s head a).sort ≡ 0
      unfolding pick align
      body_bool = shared_bool _ _ (rw only at bools.0)

      body_value : sec a ≡ value_of s head facts verdicts a
      body_value =
          fun_ext (λ z. seconds_plain v.over.accepted facts verdicts a (omega (arith, body_before, v.over.exists))
          (omega (arith, body_bool)) z)

      quantifier_sort : (item_of s head n).sort ≡ 0
      quantifier_sort = ap (λ (x : Item). x.sort) good.item ∙ bools.1

      -- what the sweep answers is its value
      pub sweep_is : swept s (base + n) words lists verdicts a ≡ sec n e
      unfolding pick
      sweep_is =
          let q = list in
          rw v.first (
          ap (λ (g : ℤ → ℤ). bit (over_of (eqb kind 15) (λ z. is_true (g z))
          (words_from lists (start_in (get_or words f (pos 0))) (count_in (get_or words f (pos 0))))))
          (body_value ∙ sym (ap (λ (l : List ℕ). pick (value_of s head facts verdicts) (λ _. pos 0) l 0) only))
          ∙ ap (λ (xs : List ℤ). bit (over_of (eqb kind 15) (λ z. is_true (first_value z)) xs))
          (sym (word_listed words lists v.over.known f q.0 q.1))
          ∙ sym (quantified_value kind quantifier (node_words s head n) facts verdicts e _ _ first_value)
          ∙ sym (value_is s head facts verdicts n good.before e)
          ∙ sym (seconds_plain v.over.accepted facts verdicts n v.over.exists (omega (arith, quantifier_sort)) e))
