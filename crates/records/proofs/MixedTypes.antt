-- A sum, a difference or a comparison of two types that do not meet is a bad record.
-- Assumes nothing.
use Rattle.std.specs.Prelude.{Err}
use mathlib.Core.Path.{◌≡◌, refl, sym, ap, ◌∙◌}
use mathlib.Core.Bool.{Bool, true, false, ◌&&◌, ◌||◌}
use mathlib.Core.List.{List}
use mathlib.Core.Logic.{◌⊎◌, inl, inr}
use Prim.Native.Nat.{ℕ, ◌+◌, ◌<◌}
use native.Mathlib.Omega.{arith}
use lib.IntN.{ℤ}
use lib.Dec.{leb, ltb, eqb}
use borrow.Author.Tests.{eqb-true}
use Rattle.tables.proofs.Bools.{and_left, and_right, and_no}
use Rattle.tables.proofs.Scanned.{fail_at}
use Rattle.signed.specs.Words.{num}
use Rattle.signed.proofs.Parts.{false_by}
use Rattle.answer.specs.declared.Refusal.TheVariants.{Record as BadRecord}
use Rattle.layout.specs.declared.Header.{Header}
use Rattle.layout.specs.Header.{header_of, good_header, records}
use Rattle.layout.specs.Groups.{good_groups}
use Rattle.item.specs.Sorts.{is_number, is_duration}
use Rattle.item.specs.Units.{shared}
use Rattle.item.specs.Items.{align}
use Rattle.node.specs.declared.Given.{Given}
use Rattle.node.specs.Rows.{row_of}
use Rattle.records.specs.Nodes.{node_words, child_item, given_of, item_of, good_node}
use Rattle.records.specs.Accept.{tables_of, good_in, first_bad, checked}
use Rattle.records.proofs.Chain.{in_first, in_rest}
use Rattle.records.proofs.NodeLaws.{node_ok}
use Rattle.records.proofs.Acceptance.{bad_record}

-- the kinds that take two of one type
abbrev pub TakesTwo : ℕ → Type 0
TakesTwo k = (k ≡ 4) ⊎ ((k ≡ 5) ⊎ (k ≡ 7))

one_type : (k : ℕ) (g : Given) → TakesTwo k → (row_of k).takes g ≡ true → g.x.sort ≡ g.y.sort
unfolding row_of
one_type k g (inl e) t = eqb-true _ _ (and_left (eqb g.x.sort g.y.sort) (is_number g.x.sort) (rw e at t))
one_type k g (inr (inl e)) t = eqb-true _ _ (and_left (eqb g.x.sort g.y.sort) (is_number g.x.sort) (rw e at t))
one_type k g (inr (inr e)) t =
    let op = num g.words.w1 in
    eqb-true _ _ (and_right (leb op 5) _ (and_left (leb op 5 && eqb g.x.sort g.y.sort) (ltb op 2 || is_number g.x.sort) (rw e at t)))

-- types that are not both durations stay
stays : (a b : ℕ) → (is_duration a && is_duration b) ≡ false → shared a b ≡ a
unfolding shared
stays a b d = rw d

apart : (a b : ℕ) → (is_duration a && is_duration b) ≡ false → shared a b ≡ shared b a → a ≡ b
apart a b d e = sym (stays a b d) ∙ e ∙ stays b a (swap (is_duration a) (is_duration b) d)
  where
    swap : (p q : Bool) → (p && q) ≡ false → (q && p) ≡ false
    swap true true e = e
    swap true false e = refl
    swap false q e = and_no q

module _ (s : List ℤ) (h : Header) (n : ℕ) where
  abbrev first : ℕ
  first = (child_item s h (item_of s h) n 0).sort

  abbrev second : ℕ
  second = (child_item s h (item_of s h) n 1).sort

  mixed_bad : TakesTwo (num (node_words s h n).w0) → (is_duration first && is_duration second) ≡ false → (first ≡ second → ⊥) → good_node s h n ≡ false
  unfolding align
  mixed_bad k d e =
      false_by (good_node s h n) (λ good. e (apart first second d (one_type _ (given_of s h (item_of s h) n) k (node_ok s h n good).takes)))

  -- node n is the record after the facts and the nodes before it
  node_in : n < h.nodes → good_in (tables_of s h) (h.facts + n) ≡ good_node s h n
  unfolding tables_of
  node_in l = in_rest _ _ n ∙ in_first _ _ n l

-- where no record before it is bad, the sheet is refused there
module _ (s : List ℤ) (n : ℕ) (header : good_header s ≡ true) (groups : good_groups s (header_of s) ≡ true) (l : n < (header_of s).nodes)
    (earlier : (k : ℕ) → k < (header_of s).facts + n → good_in (tables_of s (header_of s)) k ≡ true) where
  pub mixed_refused : TakesTwo (num (node_words s (header_of s) n).w0)
      → (is_duration (first s (header_of s) n) && is_duration (second s (header_of s) n)) ≡ false
      → (first s (header_of s) n ≡ second s (header_of s) n → ⊥)
      → checked s ≡ Err (BadRecord ((header_of s).facts + n))
  unfolding first_bad
  mixed_refused k d e =
      let h = header_of s in
      let in_all : h.facts + n < records h = omega (arith, l) in
      let at = fail_at (good_in (tables_of s h)) (records h) (h.facts + n) in_all earlier (node_in s h n l ∙ mixed_bad s h n k d e) in
      bad_record s header groups (rw (sym at) in_all) ∙ ap (λ (k : ℕ). Err (BadRecord k)) (sym at)
