-- A sum, a difference or a comparison of two durations is that of their seconds, whatever units the sheet gives them.
-- Assumes nothing.
use mathlib.Core.Path.{◌≡◌, sym, ap, ◌∙◌}
use mathlib.Core.List.{List}
use Prim.Native.Nat.{ℕ, ◌<◌}
use native.Mathlib.Omega.{arith}
use lib.IntN.{ℤ, ◌+ℤ◌, ◌-ℤ◌}
use Rattle.tables.specs.Lists.{pick}
use Rattle.signed.specs.Words.{num}
use Rattle.signed.specs.Compare.{holds}
use Rattle.layout.specs.declared.Header.{Header}
use Rattle.item.specs.declared.Item.{Item}
use Rattle.item.proofs.Units.{converted_low}
use Rattle.node.specs.FactValues.{FactValue}
use Rattle.node.specs.Rows.{row_of, is_true}
use Rattle.node.proofs.Truth.{true_bit}
use Rattle.records.specs.Accepted.{Accepted}
use Rattle.records.specs.Nodes.{node_words, given_of, item_of}
use Rattle.records.proofs.NodeLaws.{node_ok}
use Rattle.kinds.specs.Inner.{seconds_from}
use Rattle.predicate.specs.Values.{value_of}
use Rattle.predicate.specs.Units.{seconds_of}
use Rattle.predicate.proofs.EvaluationLaws.{by_kind, seconds_is, seconds_plain}

module _ {s : List ℤ} {h : Header} (a : Accepted s h) (facts : List FactValue) (verdicts : List ℤ) (n : ℕ) (l : n < h.nodes) (e : ℤ)
  where
    abbrev seconds : ℕ → ℤ
    seconds n = seconds_of s h facts verdicts n e

    -- the nodes that words 1, 2 and 3 name
    abbrev w1 : ℕ
    w1 = num (node_words s h n).w1

    abbrev w2 : ℕ
    w2 = num (node_words s h n).w2

    abbrev w3 : ℕ
    w3 = num (node_words s h n).w3

    -- of kind number k
    kind_is : (k : ℕ) → num (node_words s h n).w0 ≡ k → seconds n ≡ by_kind a facts verdicts n l e k
    kind_is k p = seconds_is a facts verdicts n l e ∙ ap (by_kind a facts verdicts n l e) p

    pub sum_seconds : num (node_words s h n).w0 ≡ 4 → seconds n ≡ (seconds w1 +ℤ seconds w2)
    unfolding seconds_from row_of pick
    sum_seconds k = kind_is 4 k ∙ converted_low 0 261 _ (omega arith)

    pub difference_seconds : num (node_words s h n).w0 ≡ 5 → seconds n ≡ (seconds w1 -ℤ seconds w2)
    unfolding seconds_from row_of pick
    difference_seconds k = kind_is 5 k ∙ converted_low 0 261 _ (omega arith)

    compares : num (node_words s h n).w0 ≡ 7 → (item_of s h n).sort ≡ 0
    unfolding row_of
    compares k =
        ap (λ (x : Item). x.sort) (node_ok s h n (a.nodes n l)).item ∙ ap (λ (k : ℕ). ((row_of k).gives (given_of s h (item_of s h) n)).sort) k

    pub comparison_seconds : num (node_words s h n).w0 ≡ 7 → is_true (value_of s h facts verdicts n e) ≡ holds w1 (seconds w2) (seconds w3)
    unfolding seconds_from row_of pick
    comparison_seconds k =
        ap is_true (sym (seconds_plain a facts verdicts n l (omega (arith, compares k)) e) ∙ kind_is 7 k
        ∙ converted_low 0 261 _ (omega arith)) ∙ true_bit _
