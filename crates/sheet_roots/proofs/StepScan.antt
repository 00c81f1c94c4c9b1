-- The scan of the steps.
-- Assumes nothing.
use mathlib.Core.Path.{◌≡◌, refl, sym, ap, ◌∙◌}
use mathlib.Core.Bool.{Bool, true, false, ◌&&◌, ◌||◌}
use mathlib.Core.List.{List}
use Prim.Native.Nat.{ℕ, ◌+◌, ◌≤◌, ◌<◌}
use lib.IntN.{ℤ}
use lib.Dec.{eqb}
use native.Mathlib.Omega.{arith}
use Rattle.layout.proofs.Groups.{covers_routes}
use Rattle.tables.specs.Scan.{any_below, sum_below}
use Rattle.tables.specs.Inner.{marked}
use Rattle.tables.proofs.Bools.{or_assoc}
use Rattle.tables.proofs.Scans.{any_more, any_zero, extend_one, sum_zero, sum_more, sum_mono}
use Rattle.tables.proofs.Entries.{or_false}
use Rattle.words.specs.declared.Record.{Record}
use Rattle.words.specs.Record.{record_at, unused}
use Rattle.layout.specs.declared.Header.{Header}
use Rattle.layout.specs.Header.{first_step}
use Rattle.layout.specs.Groups.{route_count, good_groups}
use Rattle.layout.specs.Tables.{step}
use Rattle.records.specs.Names.{named_by_operations, named_by_steps}
use Rattle.records.specs.Flows.{good_step, good_branch_step}
use Rattle.sheet_nodes.specs.declared.Trees.{Trees}
use Rattle.sheet_nodes.specs.Steps.{with_flags}
use Rattle.sheet_roots.specs.Roots.{Rooted, Flagged, root_test, kind_test}
use Rattle.sheet_roots.proofs.Roots.{root_is, root_more, root_renamed, flagged_more}

pub record Turn (s : List ℤ) (h : Header) (old : Trees) (k sum : ℕ) (t : Trees) : Type 0 where
  pub is : sum ≡ sum_below (route_count s h) k
  pub rooted : Rooted s h (named_by_steps s h k) t
  pub flagged : Flagged old t
  pub good : (j : ℕ) → j < k → good_step s h j ≡ true

abbrev named_by : List ℤ → Header → ℕ → ℕ → Bool
named_by s h a j = eqb (step s h j).w0 1 && eqb (step s h j).w1 a

pub begin : {s : List ℤ} {h : Header} {t : Trees} → Rooted s h (named_by_operations s h h.operations) t → Turn s h t 0 0 t
unfolding named_by_steps
begin {s} {h} n =
    record {
      is = sym (sum_zero (route_count s h));
      flagged = refl;
      rooted =
          root_renamed n (λ a. sym
          (ap (λ t. named_by_operations s h h.operations a || t) (any_zero (named_by s h a)) ∙ or_false (named_by_operations s h h.operations a)));
      good = λ j l. absurd (omega arith);
    }

name_step : (s : List ℤ) (h : Header) (k a : ℕ) → (named_by_steps s h k a || named_by s h a k) ≡ named_by_steps s h (k + 1) a
unfolding named_by_steps
name_step s h k a =
    or_assoc (named_by_operations s h h.operations a) (any_below (named_by s h a) k) (named_by s h a k)
    ∙ ap (λ t. named_by_operations s h h.operations a || t) (sym (any_more (named_by s h a) k))

count_of : (s : List ℤ) (h : Header) (k : ℕ) → (step s h k).w4 ≡ route_count s h k
unfolding record_at
count_of s h k = refl

module _ {s : List ℤ} {h : Header} {old : Trees} {k sum : ℕ} {t : Trees} (w : Turn s h old k sum t) (l : k < h.steps) {base : ℕ} {r : Record ℕ} (eb : base ≡ first_step h) (er : r ≡ record_at s (base + k)) where
  is : r ≡ step s h k
  is = er ∙ rw eb

  pub fits : good_groups s h ≡ true → sum + r.w4 ≤ h.routes
  fits g =
      omega (
        arith,
        w.is,
        rw (← is) at (count_of s h k),
        sum_more (route_count s h) k,
        sum_mono (route_count s h) (k + 1) h.steps (omega arith),
        covers_routes s h g,
      )

  module _ {rooted m u : Bool} (eo : rooted ≡ root_test h r.w1 t) (em : m ≡ kind_test s h r rooted) (eu : u ≡ unused 5 r) where
    test : (m && eqb r.w3 sum && u) ≡ good_step s h k
    unfolding good_step good_branch_step
    test = rw (em, eo ∙ root_is r.w1 w.rooted, eu, is, w.is)

    pub again : {u' : Trees} → (m && eqb r.w3 sum && u) ≡ true → u' ≡ with_flags (marked (eqb r.w0 1) r.w1 t.named) t → Turn s h old (k + 1) (sum + r.w4) u'
    again {u'} p e =
        record {
          is = rw (sum_more (route_count s h) k, w.is, is, count_of s h k);
          flagged = flagged_more old t u' _ w.flagged e;
          rooted = root_more (eqb (step s h k).w0 1) (step s h k).w1 w.rooted (e ∙ rw is) (name_step s h k);
          good = extend_one (λ (j : ℕ). good_step s h j ≡ true) k w.good (sym test ∙ p);
        }

    pub stop : (m && eqb r.w3 sum && u) ≡ false → good_step s h k ≡ false
    stop p = sym test ∙ p
