-- The scan of the rules.
-- Assumes nothing.
use mathlib.Core.Path.{◌≡◌, refl, sym, ap, ◌∙◌}
use mathlib.Core.Bool.{Bool, true, false, ◌&&◌, ◌||◌}
use mathlib.Core.List.{List}
use Prim.Native.Nat.{ℕ, ◌+◌, ◌-◌, ◌<◌}
use lib.IntN.{ℤ}
use lib.Dec.{leb, eqb}
use lib.ListN.{get_or}
use native.Mathlib.Omega.{arith}
use Rattle.tables.specs.Scan.{any_below}
use Rattle.tables.specs.Inner.{marked}
use Rattle.tables.proofs.Bools.{and_no, or_assoc}
use Rattle.tables.proofs.Scans.{any_more, any_zero, extend_one}
use Rattle.tables.proofs.Entries.{or_false}
use Rattle.words.specs.declared.Record.{Record}
use Rattle.words.specs.Record.{record_at, unused}
use Rattle.layout.specs.declared.Header.{Header}
use Rattle.layout.specs.Header.{first_rule}
use Rattle.layout.specs.Tables.{rule}
use Rattle.records.specs.Names.{named_by_rules, good_root}
use Rattle.records.specs.Rules.{stratum, cites_lower, good_rule}
use Rattle.records.proofs.RuleLaws.{root_ok}
use Rattle.sheet_nodes.specs.declared.Trees.{Trees}
use Rattle.sheet_nodes.specs.Steps.{with_flags}
use Rattle.sheet_roots.specs.Roots.{Known, Flagged, NamedByNodes, root_test, top_lower}
use Rattle.sheet_roots.proofs.Roots.{root_is, name_more, renamed, flagged_more}
use Rattle.sheet_roots.proofs.Cites.{cites_is, rising}

pub record Turn (s : List ℤ) (h : Header) (old : Trees) (k : ℕ) (t : Trees) : Type 0 where
  pub known : Known s h (named_by_rules s h k) t
  pub flagged : Flagged old t
  pub good : (j : ℕ) → j < k → good_rule s h j ≡ true

pub begin : {s : List ℤ} {h : Header} {t : Trees} → Known s h (NamedByNodes s h) t → Turn s h t 0 t
unfolding named_by_rules
begin {s} {h} n =
    record {
      flagged = refl;
      known = renamed n (λ a. sym (ap (λ t. NamedByNodes s h a || t) (any_zero (λ j. eqb (rule s h j).w1 a)) ∙ or_false (NamedByNodes s h a)));
      good = λ j l. absurd (omega arith);
    }

name_rule : (s : List ℤ) (h : Header) (k a : ℕ) → (named_by_rules s h k a || (true && eqb (rule s h k).w1 a)) ≡ named_by_rules s h (k + 1) a
unfolding named_by_rules
name_rule s h k a =
    or_assoc (NamedByNodes s h a) (any_below (λ j. eqb (rule s h j).w1 a) k) (eqb (rule s h k).w1 a)
    ∙ ap (λ t. NamedByNodes s h a || t) (sym (any_more (λ j. eqb (rule s h j).w1 a) k))

-- with a root that exists, the citation test from the array is the definition's
chain : (a b c d e e' : Bool) → (c ≡ true → e ≡ e') → (a && b && c && d && e) ≡ (a && b && c && d && e')
chain a b true d e e' f = rw (f refl)
chain a b false d e e' f = rw (and_no (a && b))

module _ {s : List ℤ} {h : Header} {old : Trees} {k : ℕ} {t : Trees} (w : Turn s h old k t) (l : k < h.rules) {base : ℕ} {r : Record ℕ} {rooted risen u cites : Bool} {top : ℕ}
    (eb : base ≡ first_rule h) (er : r ≡ record_at s (base + k)) (eo : rooted ≡ root_test h r.w1 t) (et : top ≡ get_or t.tops r.w1 0)
    (ec : cites ≡ top_lower s h k r.w0 top) (ei : risen ≡ (eqb k 0 || leb (stratum s h (k - 1)) r.w0)) (eu : u ≡ unused 2 r) where
  is : r ≡ rule s h k
  is = er ∙ rw eb

  root_of : rooted ≡ good_root s h (rule s h k).w1 (named_by_rules s h k (rule s h k).w1)
  root_of = eo ∙ root_is r.w1 w.known.rooted ∙ rw is

  inside : good_root s h (rule s h k).w1 (named_by_rules s h k (rule s h k).w1) ≡ true → (rule s h k).w1 < h.nodes
  inside p = (root_ok s h (rule s h k).w1 (named_by_rules s h k (rule s h k).w1) p).exists

  cites_of : good_root s h (rule s h k).w1 (named_by_rules s h k (rule s h k).w1) ≡ true → cites ≡ cites_lower s h k (rule s h k).w1
  cites_of p =
      ec ∙ rw (et, is) (rw (w.known.top (rule s h k).w1 (inside p)) (sym (cites_is s h k (rising s h k w.good) (rule s h k).w1)))

  test : (leb r.w0 15 && risen && rooted && u && cites) ≡ good_rule s h k
  unfolding good_rule
  test =
      rw (ei, root_of, eu, is)
      (chain (leb (stratum s h k) 15) (eqb k 0 || leb (stratum s h (k - 1)) (stratum s h k))
      (good_root s h (rule s h k).w1 (named_by_rules s h k (rule s h k).w1)) (unused 2 (rule s h k)) cites (cites_lower s h k (rule s h k).w1)
      cites_of)

  pub again : {u' : Trees} → (leb r.w0 15 && risen && rooted && u && cites) ≡ true → u' ≡ with_flags (marked true r.w1 t.named) t → Turn s h old (k + 1) u'
  again {u'} p e =
      record {
        flagged = flagged_more old t u' _ w.flagged e;
        known = name_more true (rule s h k).w1 w.known (e ∙ rw is) (name_rule s h k);
        good = extend_one (λ (j : ℕ). good_rule s h j ≡ true) k w.good (sym test ∙ p);
      }

  pub stop : (leb r.w0 15 && risen && rooted && u && cites) ≡ false → good_rule s h k ≡ false
  stop p = sym test ∙ p
