-- The verdicts: each is 1 or 0, and is judged by the facts and by verdicts of lower stratum alone.
-- Assumes nothing.
use mathlib.Core.Path.{◌≡◌, refl, sym, ap, fun_ext, ◌∙◌}
use mathlib.Core.Bool.{Bool, true}
use mathlib.Core.List.{List, [], ◌∷◌, ◌++◌}
use mathlib.Core.Logic.{⊎_elim}
use Prim.Native.Nat.{ℕ, zero, suc, ◌+◌, ◌≤◌, ◌<◌}
use lib.IntN.{ℤ, pos}
use lib.ListN.{length, get_or, take, set, length-append, length-set, get_or-append}
use lib.Seq.{take_all, take-suc-set, get_or_at}
use lib.Dec.{ltb}
use borrow.Author.Tests.{ltb-true}
use native.Mathlib.Numerals.{add-one}
use native.Mathlib.Omega.{arith}
use Rattle.tables.specs.Lists.{all_of, pick}
use Rattle.tables.proofs.Bools.{and_left, and_right}
use Rattle.tables.proofs.Grown.{strong}
use Rattle.tables.proofs.Lists.{Before}
use Rattle.tables.proofs.Scans.{below_suc}
use Rattle.signed.specs.Words.{within}
use Rattle.signed.proofs.Bounds.{true_in}
use Rattle.layout.specs.declared.Header.{Header}
use Rattle.node.specs.FactValues.{FactValue}
use Rattle.node.specs.Rows.{bit, is_true}
use Rattle.node.proofs.Truth.{bit_bool}
use Rattle.records.specs.Accepted.{Accepted}
use Rattle.records.specs.Nodes.{node_words, children_of}
use Rattle.records.specs.Rules.{lower, cites_lower}
use Rattle.records.proofs.NodeLaws.{node_ok}
use Rattle.records.proofs.RuleLaws.{rule_ok, cites_here, cites_below}
use Rattle.facts.specs.Inner.{FactsIn}
use Rattle.predicate.specs.Values.{child_value, truth, value_of}
use Rattle.predicate.specs.Inner.{Truths, Evaluable}
use Rattle.predicate.specs.Verdicts.{when_node, verdicts_to, verdicts_of}
use Rattle.kinds.proofs.KindLaws.{cited}
use Rattle.predicate.proofs.ValueLaws.{value_is}

-- ---- every verdict is 1 or 0

none_true : Truths []
unfolding within
none_true = record { each = λ k. refl }

one_more : (t : List ℤ) (b : Bool) → ((k : ℕ) → within (pos 0) (get_or t k (pos 0)) (pos 1) ≡ true) → (k : ℕ)
    → within (pos 0) (get_or (t ++ (bit b ∷ [])) k (pos 0)) (pos 1) ≡ true
one_more [] b h zero = true_in (pos 0) (bit b) (pos 1) (bit_bool b)
one_more [] b h (suc k) = none_true.each k
one_more (x ∷ xs) b h zero = h zero
one_more (x ∷ xs) b h (suc k) = one_more xs b (λ j. h (suc j)) k

module _ (s : List ℤ) (h : Header) (facts : List FactValue) where
  pub truths_to : (k : ℕ) → Truths (verdicts_to s h facts k)
  unfolding verdicts_to
  truths_to zero = none_true
  truths_to (suc k) =
      record { each = one_more (verdicts_to s h facts k) (truth s h facts (verdicts_to s h facts k) (when_node s h k)) (truths_to k).each }

  pub verdicts_true : Truths (verdicts_of s h facts)
  unfolding verdicts_of
  verdicts_true = truths_to h.rules

  pub length_to : (k : ℕ) → length (verdicts_to s h facts k) ≡ k
  unfolding verdicts_to
  length_to zero = refl
  length_to (suc k) =
      length-append (verdicts_to s h facts k) (bit (truth s h facts (verdicts_to s h facts k) (when_node s h k)) ∷ []) ∙ rw (length_to k) (omega arith)

  pub length_verdicts : length (verdicts_of s h facts) ≡ h.rules
  unfolding verdicts_of
  length_verdicts = length_to h.rules

  -- the verdict of rule j, among any number of rules
  pub verdict_at : (k j : ℕ) → j < k → get_or (verdicts_to s h facts k) j (pos 0) ≡ bit (truth s h facts (verdicts_to s h facts j) (when_node s h j))
  unfolding verdicts_to
  verdict_at zero j l = absurd (omega arith)
  verdict_at (suc k) j l =
      ⊎_elim (λ b. get_or-append (verdicts_to s h facts k) _ (pos 0) j (rw (length_to k) b) ∙ verdict_at k j b)
      (λ e. rw e (get_or_at (verdicts_to s h facts k) _ [] (pos 0) k (length_to k))) (below_suc j k l)

-- ---- a rule's judgement hangs on the facts and on lower verdicts alone

-- what is picked depends on the numbers in the list alone, all of which pass the test P
pick_passed : (f g : ℕ → ℤ → ℤ) (P : ℕ → Bool) (n : ℕ) (cs : List ℕ) (i : ℕ) → Before n cs → all_of P cs ≡ true
    → ((j : ℕ) → j < n → P j ≡ true → f j ≡ g j) → pick f (λ _. pos 0) cs i ≡ pick g (λ _. pos 0) cs i
unfolding pick all_of
pick_passed f g P n [] i b p h = refl
pick_passed f g P n (c ∷ cs) zero b p h = h c b.0 (and_left (P c) (all_of P cs) p)
pick_passed f g P n (c ∷ cs) (suc i) b p h = pick_passed f g P n cs i b.1 (and_right (P c) (all_of P cs) p) h

module _ (s : List ℤ) (h : Header) (facts : List FactValue) (a : Accepted s h) (k : ℕ) (v w : List ℤ)
    (agree : (c : ℕ) → lower s h k c ≡ true → get_or v c (pos 0) ≡ get_or w c (pos 0)) where
  cites_step : (n : ℕ) → ((j : ℕ) → j < n → j < h.nodes → cites_lower s h k j ≡ true → value_of s h facts v j ≡ value_of s h facts w j) → n < h.nodes
      → cites_lower s h k n ≡ true → value_of s h facts v n ≡ value_of s h facts w n
  cites_step n ih l p =
      let b = (node_ok s h n (a.nodes n l)).before in
      let below = cites_below s h k n b p in
      let same : (i : ℕ) → child_value s h (value_of s h facts v) n i ≡ child_value s h (value_of s h facts w) n i =
      λ i. pick_passed (value_of s h facts v) (value_of s h facts w) (cites_lower s h k) n (children_of s h n) i b below (λ j q. ih j q (omega arith)) in
      fun_ext (λ e.
      value_is s h facts v n b e
      ∙ rw (same 0, same 1) (cited _ (lower s h k) (node_words s h n) facts v w e _ _ _ (cites_here s h k n b p) agree)
      ∙ sym (value_is s h facts w n b e))

  -- the value of a node whose tree cites only lower rules
  cites_only : (n : ℕ) → n < h.nodes → cites_lower s h k n ≡ true → value_of s h facts v n ≡ value_of s h facts w n
  cites_only = strong (λ (n : ℕ). n < h.nodes → cites_lower s h k n ≡ true → value_of s h facts v n ≡ value_of s h facts w n) cites_step

  -- rule k comes out alike under two lists of verdicts that agree on the rules of smaller number and lower stratum
  pub verdicts_below : k < h.rules → truth s h facts v (when_node s h k) ≡ truth s h facts w (when_node s h k)
  verdicts_below l =
      let r = rule_ok s h k (a.rules k l) in
      ap (λ (g : ℤ → ℤ). is_true (g (pos 0))) (cites_only (when_node s h k) r.root.exists r.cites)

module _ (s : List ℤ) (h : Header) (facts : List FactValue) where
  -- so a rule's verdict says whether its when-node is true over the facts and all the verdicts
  pub verdict_is : Accepted s h → (k : ℕ) → k < h.rules
      → get_or (verdicts_of s h facts) k (pos 0) ≡ bit (truth s h facts (verdicts_of s h facts) (when_node s h k))
  unfolding verdicts_of
  verdict_is a k l =
      verdict_at s h facts h.rules k l
      ∙ rw (verdicts_below s h facts a k (verdicts_to s h facts k) (verdicts_to s h facts h.rules)
      (λ c p. let b = ltb-true c k (and_left (ltb c k) _ p) in verdict_at s h facts k c b ∙ sym (verdict_at s h facts h.rules c (omega arith))) l)

-- ---- the loop that fills the verdicts

-- of a list of so many rules' verdicts the first k are stored; the others may be anything
pub record Judged (s : List ℤ) (h : Header) (facts : List FactValue) (rules k : ℕ) (out : List ℤ) : Type 0 where
  pub here : k ≤ rules
  pub long : length out ≡ rules
  pub stored : take k out ≡ verdicts_to s h facts k

module _ (s : List ℤ) (h : Header) (facts : List FactValue) (rules : ℕ) where
  pub none : (out : List ℤ) → length out ≡ rules → Judged s h facts rules 0 out
  unfolding verdicts_to
  none out e = record { here = omega arith; long = e; stored = refl }

  pub more : (k : ℕ) (out : List ℤ) (x : ℤ) → Judged s h facts rules k out → k < rules → x ≡ bit (truth s h facts (take k out) (when_node s h k))
      → Judged s h facts rules (k + 1) (set out k x)
  unfolding verdicts_to
  more k out x r l e =
      record {
        here = omega arith;
        long = length-set out k x ∙ r.long;
        stored = rw add-one (take-suc-set out k x (omega (arith, r.long)) ∙ rw (e, r.stored));
      }

pub done : (s : List ℤ) (h : Header) (facts : List FactValue) (k : ℕ) (out : List ℤ) → Judged s h facts h.rules k out → h.rules ≤ k
    → out ≡ verdicts_of s h facts
unfolding verdicts_of
done s h facts k out r l =
    let e : k ≡ h.rules = omega (arith, r.here) in
    sym (take_all k out (omega (arith, r.long))) ∙ r.stored ∙ ap (verdicts_to s h facts) e

-- what judging rule k asks
pub judging : {s : List ℤ} {h : Header} {facts : List FactValue} {out : List ℤ} {k : ℕ} {rules : ℕ} → Accepted s h → FactsIn s h facts → Judged s h facts rules k out
    → k < h.rules → Evaluable s h facts (take k out) (when_node s h k)
judging {s} {h} {facts} {out} {k} a f r l =
    let root = (rule_ok s h k (a.rules k l)).root in
    record {
      accepted = a;
      known = f;
      judged = rw r.stored (truths_to s h facts k);
      exists = root.exists;
      bool = root.bool;
      closed = root.closed;
    }
