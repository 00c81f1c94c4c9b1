-- The scan of the operations.
-- Assumes nothing.
use mathlib.Core.Path.{◌≡◌, refl, sym, ap, ◌∙◌}
use mathlib.Core.Bool.{Bool, true, false, ◌&&◌, ◌||◌}
use mathlib.Core.List.{List}
use Prim.Native.Nat.{ℕ, ◌+◌, ◌≤◌, ◌<◌}
use lib.IntN.{ℤ}
use lib.Dec.{leb, eqb}
use native.Mathlib.Omega.{arith}
use Rattle.layout.proofs.Groups.{covers_effects}
use Rattle.tables.specs.Scan.{any_below, sum_below}
use Rattle.tables.specs.Inner.{marked}
use Rattle.tables.proofs.Bools.{or_assoc}
use Rattle.tables.proofs.Scans.{any_more, any_zero, extend_one, sum_zero, sum_more, sum_mono}
use Rattle.tables.proofs.Entries.{or_false}
use Rattle.words.specs.declared.Record.{Record}
use Rattle.words.specs.Record.{record_at, unused}
use Rattle.layout.specs.declared.Header.{Header}
use Rattle.layout.specs.Header.{first_operation}
use Rattle.layout.specs.Groups.{effect_count, good_groups}
use Rattle.layout.specs.Tables.{operation}
use Rattle.records.specs.Names.{named_by_rules, named_by_operations}
use Rattle.records.specs.Operations.{good_mask, good_operation}
use Rattle.sheet_nodes.specs.declared.Trees.{Trees}
use Rattle.sheet_nodes.specs.Steps.{with_flags}
use Rattle.sheet_roots.specs.Roots.{Rooted, Flagged, root_test}
use Rattle.sheet_roots.proofs.Roots.{root_is, root_more, root_renamed, flagged_more}

pub record Turn (s : List ℤ) (h : Header) (old : Trees) (k sum : ℕ) (t : Trees) : Type 0 where
  pub is : sum ≡ sum_below (effect_count s h) k
  pub rooted : Rooted s h (named_by_operations s h k) t
  pub flagged : Flagged old t
  pub good : (j : ℕ) → j < k → good_operation s h j ≡ true

pub begin : {s : List ℤ} {h : Header} {t : Trees} → Rooted s h (named_by_rules s h h.rules) t → Turn s h t 0 0 t
unfolding named_by_operations
begin {s} {h} n =
    record {
      is = sym (sum_zero (effect_count s h));
      flagged = refl;
      rooted =
          root_renamed n (λ a. sym
          (ap (λ t. named_by_rules s h h.rules a || t) (any_zero (λ j. eqb (operation s h j).w1 a)) ∙ or_false (named_by_rules s h h.rules a)));
      good = λ j l. absurd (omega arith);
    }

name_operation : (s : List ℤ) (h : Header) (k a : ℕ)
    → (named_by_operations s h k a || (true && eqb (operation s h k).w1 a)) ≡ named_by_operations s h (k + 1) a
unfolding named_by_operations
name_operation s h k a =
    or_assoc (named_by_rules s h h.rules a) (any_below (λ j. eqb (operation s h j).w1 a) k) (eqb (operation s h k).w1 a)
    ∙ ap (λ t. named_by_rules s h h.rules a || t) (sym (any_more (λ j. eqb (operation s h j).w1 a) k))

count_of : (s : List ℤ) (h : Header) (k : ℕ) → (operation s h k).w3 ≡ effect_count s h k
unfolding record_at
count_of s h k = refl

module _ {s : List ℤ} {h : Header} {old : Trees} {k sum : ℕ} {t : Trees} (w : Turn s h old k sum t) (l : k < h.operations) {base : ℕ} {r : Record ℕ} (eb : base ≡ first_operation h) (er : r ≡ record_at s (base + k)) where
  is : r ≡ operation s h k
  is = er ∙ rw eb

  pub fits : good_groups s h ≡ true → sum + r.w3 ≤ h.effects
  fits g =
      omega (
        arith,
        w.is,
        rw (← is) at (count_of s h k),
        sum_more (effect_count s h) k,
        sum_mono (effect_count s h) (k + 1) h.operations (omega arith),
        covers_effects s h g,
      )

  module _ {rooted m u : Bool} (eo : rooted ≡ root_test h r.w1 t) (em : m ≡ good_mask h r.w0) (eu : u ≡ unused 5 r) where
    test : (m && rooted && eqb r.w2 sum && leb 1 r.w3 && leb 1 r.w4 && leb r.w4 8 && u) ≡ good_operation s h k
    unfolding good_operation
    test = rw (em, eo ∙ root_is r.w1 w.rooted, eu, is, w.is)

    pub again : {u' : Trees} → (m && rooted && eqb r.w2 sum && leb 1 r.w3 && leb 1 r.w4 && leb r.w4 8 && u) ≡ true
        → u' ≡ with_flags (marked true r.w1 t.named) t → Turn s h old (k + 1) (sum + r.w3) u'
    again {u'} p e =
        record {
          is = rw (sum_more (effect_count s h) k, w.is, is, count_of s h k);
          flagged = flagged_more old t u' _ w.flagged e;
          rooted = root_more true (operation s h k).w1 w.rooted (e ∙ rw is) (name_operation s h k);
          good = extend_one (λ (j : ℕ). good_operation s h j ≡ true) k w.good (sym test ∙ p);
        }

    pub stop : (m && rooted && eqb r.w2 sum && leb 1 r.w3 && leb 1 r.w4 && leb r.w4 8 && u) ≡ false → good_operation s h k ≡ false
    stop p = sym test ∙ p
