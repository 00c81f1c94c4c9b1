-- The checker's parts joined: the first bad record through all tables.
-- Assumes nothing.
use Rattle.std.specs.Prelude.{Result, Ok, Err, ⊤, OnOk}
use mathlib.Core.Path.{◌≡◌, refl, sym, subst, ap, ◌∙◌}
use mathlib.Core.Bool.{Bool, true, false}
use mathlib.Core.List.{List}
use Prim.Native.Nat.{ℕ, ◌*◌, ◌≤◌}
use lib.IntN.{ℤ}
use lib.ListN.{length, replicate, length-replicate}
use native.Mathlib.Nat.{zero-add}
use native.Mathlib.Omega.{arith}
use Rattle.layout.specs.declared.Header.{Header}
use Rattle.layout.specs.Header.{header_of, good_header, records}
use Rattle.answer.specs.declared.Refusal.TheVariants.{Record as BadRecord}
use Rattle.layout.specs.Groups.{good_groups}
use Rattle.layout.specs.Sized.{Sized}
use Rattle.layout.proofs.Limits.{sized}
use Rattle.records.specs.Accept.{tables_of, good_in, checked}
use Rattle.records.specs.Scans.{scanned, and_then}
use Rattle.records.proofs.Acceptance.{all_bad, all_fine}
use Rattle.records.proofs.Chain.{total}
use Rattle.records.proofs.Scans.{chained}
use Rattle.item.specs.declared.Item.{Item}
use Rattle.sheet_nodes.specs.declared.Ranges.{Ranges}
use Rattle.sheet_nodes.specs.declared.Trees.{Trees}
use Rattle.sheet_nodes.specs.Arrays.{Filled}
use Rattle.sheet_nodes.proofs.Scopes.{shut_is}
use Rattle.sheet_states.specs.Flags.{Declared}
use Rattle.sheet_roots.specs.Roots.{Known, NamedByNodes}
use Rattle.sheet.specs.Parts.{upper_scan, middle_scan, lower_scan, Unmarked}

-- ---- one part after the other

then_done : (r : Result ⊤ ℕ) → and_then r (Ok tt) ≡ r
then_done (Ok tt) = refl
then_done (Err k) = refl

then_then : (a b c : Result ⊤ ℕ) → and_then (and_then a b) c ≡ and_then a (and_then b c)
then_then (Ok _) b c = refl
then_then (Err k) b c = refl

pub all_parts : (s : List ℤ) (h : Header) → and_then (upper_scan s h) (and_then (middle_scan s h) (lower_scan s h)) ≡ scanned 0 (good_in (tables_of s h)) (records h)
unfolding tables_of total
all_parts s h =
    let e : total (tables_of s h) ≡ records h = omega arith in
    rw (← e) (simp then_then (sym (sym (chained 0 (tables_of s h)) ∙ simp (zero-add, then_done))))

-- what holds whatever the answer is
pub on_any : {P : Type 0} (r : Result ⊤ ℕ) → P → OnOk r P
on_any (Ok _) p = p
on_any (Err k) p = tt

-- ---- from the nodes' arrays

pub known_of : {s : List ℤ} {h : Header} {v : Ranges} {t : Trees} → Sized s h → Filled s h h.nodes v t → Known s h (NamedByNodes s h) t
known_of {s} {h} z f =
    record {
      rooted =
          record {
            room = z.limits.nodes;
            long = f.name_long;
            sort = λ j l. ap (λ (x : Item). x.sort) (f.item j l);
            shut = λ j l. shut_is s h j (λ i m. f.good i (omega arith)) (f.scope j l);
            names = f.name;
          };
      top = f.top;
    }

pub own_declared : {s : List ℤ} {h : Header} {m k : ℕ} {t : List Bool} → Declared s h m k t → Declared s h (length t) k t
own_declared {s} {h} {m} {k} {t} d = subst (λ (n : ℕ). Declared s h n k t) (sym d.long) d

-- ---- arrays as they are made

pub unmarked : {h : Header} (e : ℕ) → h.entities ≤ e → Unmarked h (replicate (256 * e) false) (replicate (16 * e) 0)
unmarked e l =
    record {
      flags = rw (length-replicate (256 * e) false) (omega arith);
      clear = rw (length-replicate (256 * e) false);
      stamps = rw (length-replicate {A = ℕ} (16 * e) 0) (omega arith);
      fresh = rw (length-replicate {A = ℕ} (16 * e) 0);
    }

-- ---- the answer, from the header that was read

module _ (s : List ℤ) {h : Header} (eh : h ≡ header_of s) (p : good_header s ≡ true) where
  pub sized_of : Sized s h
  sized_of = rw eh (sized s p)

  module _ (g : good_groups s h ≡ true) where
    pub done_is : Ok tt ≡ scanned 0 (good_in (tables_of s h)) (records h) → Ok tt ≡ checked s
    done_is e = sym (all_fine s p (rw eh at g) (rw eh at e))

    pub bad_is : {k : ℕ} → Err k ≡ scanned 0 (good_in (tables_of s h)) (records h) → Err (BadRecord k) ≡ checked s
    bad_is e = sym (all_bad s p (rw eh at g) (rw eh at e))
