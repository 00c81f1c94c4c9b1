-- The checker's answer by its cases, and what acceptance gives: every record is good.
-- Assumes nothing.
use Rattle.std.specs.Prelude.{Ok, Err}
use mathlib.Core.Path.{◌≡◌, refl, sym, ◌∙◌}
use mathlib.Core.Bool.{true, false}
use mathlib.Core.List.{List}
use mathlib.Core.Logic.{⊎_elim}
use Prim.Native.Nat.{ℕ, ◌+◌, ◌≤◌, ◌<◌}
use lib.IntN.{ℤ}
use native.Mathlib.Omega.{arith}
use native.Mathlib.Decide.{dec_lt}
use borrow.Author.Tests.{lt-ltb, le-ltb}
use Rattle.answer.proofs.Distinct.{refused_done}
use Rattle.tables.proofs.Bools.{bool_cases}
use Rattle.tables.proofs.Scanned.{first_scan}
use Rattle.answer.specs.declared.Refusal.TheVariants.{Header as BadHeader, Group, Record as BadRecord}
use Rattle.layout.specs.declared.Header.{Header}
use Rattle.layout.specs.Header.{header_of, good_header, records}
use Rattle.layout.specs.Groups.{good_groups}
use Rattle.layout.proofs.Limits.{sized}
use Rattle.records.specs.Accept.{tables_of, good_in, first_bad, checked}
use Rattle.records.specs.Accepted.{Accepted}
use Rattle.records.specs.Scans.{scanned}
use Rattle.records.proofs.Chain.{total, first_good, rest_good}

-- ---- the answer, case by case

module _ (s : List ℤ) where
  pub bad_header : good_header s ≡ false → checked s ≡ Err BadHeader
  unfolding checked
  bad_header p = rw (p, checked)

  pub bad_group : good_header s ≡ true → good_groups s (header_of s) ≡ false → checked s ≡ Err Group
  unfolding checked
  bad_group p q = rw (p, q, checked)

  pub bad_record : good_header s ≡ true → good_groups s (header_of s) ≡ true → first_bad s (header_of s) < records (header_of s)
      → checked s ≡ Err (BadRecord (first_bad s (header_of s)))
  unfolding checked
  bad_record p q l = rw (p, q, lt-ltb (first_bad s (header_of s)) (records (header_of s)) l, checked)

  pub no_fault : good_header s ≡ true → good_groups s (header_of s) ≡ true → records (header_of s) ≤ first_bad s (header_of s) → checked s ≡ Ok tt
  unfolding checked
  no_fault p q l = rw (p, q, le-ltb (first_bad s (header_of s)) (records (header_of s)) l, checked)

-- ---- the first bad record

total_records : (s : List ℤ) (h : Header) → total (tables_of s h) ≡ records h
unfolding total tables_of
total_records s h = omega arith

-- a scan of all records answers it
pub all_bad : (s : List ℤ) → good_header s ≡ true → good_groups s (header_of s) ≡ true → {k : ℕ}
    → Err k ≡ scanned 0 (good_in (tables_of s (header_of s))) (records (header_of s)) → checked s ≡ Err (BadRecord k)
unfolding first_bad scanned
all_bad s p q {k} e = go (dec_lt (first_bad s (header_of s)) (records (header_of s)))
  where
    go : Dec (first_bad s (header_of s) < records (header_of s)) → checked s ≡ Err (BadRecord k)
    go (yes l) = let z = rw (lt-ltb (first_bad s (header_of s)) (records (header_of s)) l) at e in
        let sum : k ≡ 0 + first_bad s (header_of s) = cc in
        let same : k ≡ first_bad s (header_of s) = omega arith in
        rw same (bad_record s p q l)
    go (no n) = let z = rw (le-ltb (first_bad s (header_of s)) (records (header_of s)) (omega arith)) at e in absurd cc

pub all_fine : (s : List ℤ) → good_header s ≡ true → good_groups s (header_of s) ≡ true
    → Ok tt ≡ scanned 0 (good_in (tables_of s (header_of s))) (records (header_of s)) → checked s ≡ Ok tt
unfolding first_bad scanned
all_fine s p q e = go (dec_lt (first_bad s (header_of s)) (records (header_of s)))
  where
    go : Dec (first_bad s (header_of s) < records (header_of s)) → checked s ≡ Ok tt
    go (yes l) = let z = rw (lt-ltb (first_bad s (header_of s)) (records (header_of s)) l) at e in absurd cc
    go (no n) = no_fault s p q (omega arith)

-- ---- acceptance

module _ (s : List ℤ) (a : checked s ≡ Ok tt) where
  pub header_good : good_header s ≡ true
  header_good = ⊎_elim (λ p. p) (λ p. absurd (refused_done (sym (bad_header s p) ∙ a))) (bool_cases (good_header s))

  pub groups_good : good_groups s (header_of s) ≡ true
  groups_good = ⊎_elim (λ p. p) (λ p. absurd (refused_done (sym (bad_group s header_good p) ∙ a))) (bool_cases (good_groups s (header_of s)))

  none_bad : records (header_of s) ≤ first_bad s (header_of s)
  none_bad = go (dec_lt (first_bad s (header_of s)) (records (header_of s)))
    where
      go : Dec (first_bad s (header_of s) < records (header_of s)) → records (header_of s) ≤ first_bad s (header_of s)
      go (yes l) = absurd (refused_done (sym (bad_record s header_good groups_good l) ∙ a))
      go (no n) = omega arith

  all_good : (j : ℕ) → j < total (tables_of s (header_of s)) → good_in (tables_of s (header_of s)) j ≡ true
  unfolding first_bad
  all_good j l =
      (first_scan (good_in (tables_of s (header_of s))) (records (header_of s))).passed j (omega arith)
      (omega (arith, total_records s (header_of s), none_bad))

-- every record of an accepted sheet is good
pub accepted : (s : List ℤ) → checked s ≡ Ok tt → Accepted s (header_of s)
unfolding tables_of total
accepted s a =
    let h0 = all_good s a in
    let h1 = rest_good _ _ h0 in
    let h2 = rest_good _ _ h1 in
    let h3 = rest_good _ _ h2 in
    let h4 = rest_good _ _ h3 in
    let h5 = rest_good _ _ h4 in
    let h6 = rest_good _ _ h5 in
    let h7 = rest_good _ _ h6 in
    let h8 = rest_good _ _ h7 in
    let h9 = rest_good _ _ h8 in
    record {
      header = refl;
      sized = sized s (header_good s a);
      groups = groups_good s a;
      facts = first_good _ _ h0;
      nodes = first_good _ _ h1;
      rules = first_good _ _ h2;
      entities = first_good _ _ h3;
      transitions = first_good _ _ h4;
      operations = first_good _ _ h5;
      effects = first_good _ _ h6;
      flows = first_good _ _ h7;
      steps = first_good _ _ h8;
      routes = first_good _ _ h9;
    }
