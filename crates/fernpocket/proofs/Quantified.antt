-- A verdict by a when-node that is a quantifier, element by element of what was lent.
-- Assumes nothing.
use Rattle.std.specs.Prelude.{Ok, Err}
use mathlib.Core.Path.{◌≡◌, refl, sym, ap, subst, ◌∙◌}
use mathlib.Core.Bool.{Bool, true}
use mathlib.Core.List.{List}
use mathlib.Core.Logic.{◌⊎◌, ◌↔◌, inl, inr}
use Prim.Native.Nat.{ℕ, ◌+◌, ◌<◌}
use lib.IntN.{ℤ, pos}
use lib.ListN.{length, get_or}
use native.Mathlib.Omega.{arith}
use borrow.Author.Tests.{lt-ltb}
use Rattle.tables.proofs.Elements.{length_from, from_at}
use Rattle.signed.specs.Words.{num, eq_z}
use Rattle.answer.specs.Answers.{status_answer, Status}
use Rattle.answer.proofs.Numbers.{status_done}
use Rattle.answer.proofs.Distinct.{refused_done}
use Rattle.layout.specs.declared.Header.{Header}
use Rattle.layout.specs.Header.{header_of}
use Rattle.node.specs.FactValues.{FactValue, Listed, no_value, elements_in}
use Rattle.node.specs.Rows.{bit, is_true}
use Rattle.node.proofs.Truth.{true_bit}
use Rattle.node.proofs.OverLists.{binder_list}
use Rattle.records.specs.Accepted.{Accepted}
use Rattle.records.specs.Facts.{is_list}
use Rattle.records.specs.Nodes.{node_words, given_of, item_of}
use Rattle.records.proofs.NodeLaws.{node_ok}
use Rattle.records.proofs.RuleLaws.{rule_ok}
use Rattle.facts.specs.Lent.{LentFacts, slots_before, length_lent, elements_lent}
use Rattle.facts.specs.Assembled.{fact_taken, assembled}
use Rattle.facts.proofs.FaultLaws.{fact_at}
use Rattle.predicate.specs.Values.{value_of, truth}
use Rattle.predicate.specs.Verdicts.{when_node, verdicts_of}
use Rattle.predicate.proofs.VerdictLaws.{verdict_is}
use Rattle.predicate.proofs.QuantifierLaws.{for_all_each, exists_some}
use Rattle.ladder.specs.Ladder.{Climbed, opened, by, left}
use Rattle.ladder.proofs.ClimbLaws.{climbed_at, opened_at}
use Rattle.calls.specs.Evaluation.{verdicts_rungs, verdicts_climb, verdicts_answer, verdicts_verdicts}
use Rattle.fernpocket.specs.Promised.{elements_of_rule, body_true}

-- ---- a call that goes through worked under the sheet's header

went_under : {A : Type 0} (c : Climbed) (old : A) (work : Header → A) → by {A = Status} c Err (λ _. Ok tt) ≡ Ok tt
    → (h : Header) × (c ≡ Ok h) × (left c old work ≡ work h)
unfolding by
went_under (Ok h) old work e = (h, refl, refl)
went_under (Err r) old work e = absurd (refused_done e)

-- ---- the list of the when-node

module _ {s : List ℤ} {h : Header} (a : Accepted s h) (t : LentFacts) (n : ℕ) (l : n < h.nodes)
    (q : (num (node_words s h n).w0 ≡ 14) ⊎ (num (node_words s h n).w0 ≡ 15)) where
  abbrev f : ℕ
  f = num (node_words s h n).w1

  list : (f < h.facts) × (is_list s f ≡ true)
  list =
      let p = binder_list (num (node_words s h n).w0) (given_of s h (item_of s h) n) q (node_ok s h n (a.nodes n l)).takes in
      (p.0, rw (lt-ltb f h.facts p.0) at p.1)

  taken_list : fact_taken s t f ≡ Listed (elements_lent s t f)
  unfolding fact_taken
  taken_list = rw list.1

  pub elements_lent_lem : elements_in (get_or (assembled s h t) f no_value) ≡ elements_lent s t f
  elements_lent_lem = ap elements_in (fact_at s h t f list.0 ∙ taken_list)

  -- element j of it
  module _ (j : ℕ) (m : j < num (length_lent s t f)) where
    pub element_is : get_or (elements_lent s t f) j (pos 0) ≡ get_or t.lists (slots_before s f + j) (pos 0)
    element_is = from_at t.lists (slots_before s f) (num (length_lent s t f)) j m

-- ---- a verdict is 1 where its when-node is true

one_bit : (b : Bool) → (bit b ≡ pos 1) ↔ (b ≡ true)
unfolding eq_z
one_bit b = (λ p. sym (true_bit b) ∙ ap is_true p, λ p. ap bit p)

module _ (s : List ℤ) (t : LentFacts) (out : List ℤ) (w : (status_answer (verdicts_answer s t (length out))).refusal ≡ pos 0) where
  abbrev h : Header
  h = header_of s

  abbrev facts : List FactValue
  facts = assembled s h t

  under : (g : Header) × (verdicts_climb s t (length out) ≡ Ok g) × (verdicts_verdicts s t out ≡ verdicts_of s g (assembled s g t))
  under = went_under (verdicts_climb s t (length out)) out (λ g. verdicts_of s g (assembled s g t)) (status_done _ w)

  -- the sheet is accepted, and the verdicts are those over the lent facts
  given_sheet : Accepted s under.0
  given_sheet = (opened_at s refl (climbed_at (opened s) (verdicts_rungs s t (length out)) refl under.1).sheet).sheet

  sheet : Accepted s h
  sheet = subst (Accepted s) given_sheet.header given_sheet

  verdicts_are : verdicts_verdicts s t out ≡ verdicts_of s h facts
  verdicts_are = under.2 ∙ ap (λ (g : Header). verdicts_of s g (assembled s g t)) given_sheet.header

  module _ (k : ℕ) (l : k < h.rules) where
    abbrev n : ℕ
    n = when_node s h k

    there : n < h.nodes
    there = (rule_ok s h k (sheet.rules k l)).root.exists

    verdict_true : (get_or (verdicts_verdicts s t out) k (pos 0) ≡ pos 1) ↔ (truth s h facts (verdicts_of s h facts) n ≡ true)
    verdict_true =
        let e = ap (λ (v : List ℤ). get_or v k (pos 0)) verdicts_are ∙ verdict_is s h facts sheet k l in
        (λ p. (one_bit _).0 (sym e ∙ p), λ p. e ∙ (one_bit _).1 p)

    abbrev at : ℤ → Bool
    at x = is_true (value_of s h facts (verdicts_of s h facts) (num (node_words s h n).w2) x)

    pub for_all_lent : num (node_words s h n).w0 ≡ 14
        → (get_or (verdicts_verdicts s t out) k (pos 0) ≡ pos 1) ↔ ((j : ℕ) → j < elements_of_rule s t k → body_true s t k j ≡ true)
    for_all_lent q =
        let z = inl q in
        let r = subst (λ (xs : List ℤ). (truth s h facts (verdicts_of s h facts) n ≡ true) ↔ ((j : ℕ) → j < length xs → at (get_or xs j (pos 0)) ≡ true))
        (elements_lent_lem sheet t n there z) (for_all_each sheet facts (verdicts_of s h facts) n there (pos 0) q) in
        let long = length_from t.lists (slots_before s (num (node_words s h n).w1)) (elements_of_rule s t k) in (
          λ p j m. ap at (sym (element_is sheet t n there z j m)) ∙ r.0 (verdict_true.0 p) j (omega (arith, long, m)),
          λ p. verdict_true.1 (r.1 (λ j m. let i : j < elements_of_rule s t k = omega (arith, long, m) in
              ap at (element_is sheet t n there z j i) ∙ p j i)),
        )

    pub exists_lent : num (node_words s h n).w0 ≡ 15
        → (get_or (verdicts_verdicts s t out) k (pos 0) ≡ pos 1) ↔ ((j : ℕ) × (j < elements_of_rule s t k) × (body_true s t k j ≡ true))
    exists_lent q =
        let z = inr q in
        let r = subst
        (λ (xs : List ℤ). (truth s h facts (verdicts_of s h facts) n ≡ true) ↔ ((j : ℕ) × (j < length xs) × (at (get_or xs j (pos 0)) ≡ true)))
        (elements_lent_lem sheet t n there z) (exists_some sheet facts (verdicts_of s h facts) n there (pos 0) q) in
        let long = length_from t.lists (slots_before s (num (node_words s h n).w1)) (elements_of_rule s t k) in (
          λ p. let v = r.0 (verdict_true.0 p) in
              let i : v.0 < elements_of_rule s t k = omega (arith, long, v.1) in
              (v.0, i, ap at (sym (element_is sheet t n there z v.0 i)) ∙ v.2),
          λ p. verdict_true.1 (r.1 (p.0, omega (arith, long, p.1), ap at (element_is sheet t n there z p.0 p.1) ∙ p.2)),
        )
