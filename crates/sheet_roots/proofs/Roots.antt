-- Roots and the flags of named nodes.
-- Assumes nothing.
use mathlib.Core.Path.{◌≡◌, ◌∙◌, ap, refl}
use mathlib.Core.Bool.{Bool, false, not, ◌&&◌, ◌||◌}
use mathlib.Core.List.{List}
use Prim.Native.Nat.{ℕ, ◌<◌}
use lib.IntN.{ℤ}
use lib.Dec.{ltb, eqb}
use lib.ListN.{get_or}
use native.Mathlib.Omega.{arith}
use native.Mathlib.Decide.{dec_lt}
use borrow.Author.Tests.{le-ltb}
use Rattle.tables.specs.Inner.{marked}
use Rattle.tables.proofs.Entries.{marked_flags, length_marked}
use Rattle.layout.specs.declared.Header.{Header}
use Rattle.records.specs.Nodes.{item_of}
use Rattle.records.specs.Names.{closed, good_root}
use Rattle.sheet_nodes.specs.declared.Trees.{Trees}
use Rattle.sheet_nodes.specs.Scopes.{shut}
use Rattle.sheet_nodes.specs.Steps.{with_flags}
use Rattle.sheet_roots.specs.Roots.{Rooted, Known, Flagged, root_test}

-- the test from the arrays is the definition's
pub root_is : {s : List ℤ} {h : Header} {f : ℕ → Bool} {t : Trees} (a : ℕ) → Rooted s h f t → root_test h a t ≡ good_root s h a (f a)
unfolding good_root
root_is {s} {h} {f} {t} a n = go (dec_lt a h.nodes)
  where
    go : Dec (a < h.nodes)
        → (ltb a h.nodes && eqb (get_or t.sorts a 0) 0 && shut (get_or t.scopes a 0) && not (get_or t.named a false))
        ≡ (ltb a h.nodes && eqb (item_of s h a).sort 0 && closed s h a && not (f a))
    go (yes l) = rw (n.sort a l, n.shut a l, n.names a (omega (arith, n.room)))
    go (no x) = rw (le-ltb a h.nodes (omega arith))

-- one more named node
pub root_more : {s : List ℤ} {h : Header} {f g : ℕ → Bool} {t u : Trees} (on : Bool) (i : ℕ) → Rooted s h f t → u ≡ with_flags (marked on i t.named) t
    → ((a : ℕ) → (f a || (on && eqb i a)) ≡ g a) → Rooted s h g u
root_more {f = f} {g} {t} on i n e q =
    rw e (record {
      room = n.room;
      long = length_marked on i t.named ∙ n.long;
      sort = n.sort;
      shut = n.shut;
      names = λ a l. marked_flags f on i t.named (λ b l. n.names b (omega (arith, n.long))) a (omega (arith, n.long)) ∙ q a;
    })

-- the same flags under another name
pub root_renamed : {s : List ℤ} {h : Header} {f g : ℕ → Bool} {t : Trees} → Rooted s h f t → ((a : ℕ) → f a ≡ g a) → Rooted s h g t
root_renamed n q = record { room = n.room; long = n.long; sort = n.sort; shut = n.shut; names = λ a l. n.names a l ∙ q a }

-- one more flag
pub flagged_more : (old t u : Trees) (n : List Bool) → Flagged old t → u ≡ with_flags n t → Flagged old u
flagged_more old t u n k e = rw e (ap (with_flags n) k)

-- where nothing but flags was changed, the greatest rules are known as before
pub still_known : {s : List ℤ} {h : Header} {f g : ℕ → Bool} {old t : Trees} → Known s h f old → Flagged old t → Rooted s h g t → Known s h g t
still_known n k r = record { rooted = r; top = λ j l. rw k (n.top j l) }

-- so with one more named node, and with the same flags under another name
pub name_more : {s : List ℤ} {h : Header} {f g : ℕ → Bool} {t u : Trees} (on : Bool) (i : ℕ) → Known s h f t → u ≡ with_flags (marked on i t.named) t
    → ((a : ℕ) → (f a || (on && eqb i a)) ≡ g a) → Known s h g u
name_more {t = t} {u} on i n e q = still_known n (flagged_more t t u _ refl e) (root_more on i n.rooted e q)

pub renamed : {s : List ℤ} {h : Header} {f g : ℕ → Bool} {t : Trees} → Known s h f t → ((a : ℕ) → f a ≡ g a) → Known s h g t
renamed n q = still_known n refl (root_renamed n.rooted q)
