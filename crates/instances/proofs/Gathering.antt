-- The gathering pass, and what is gathered: one state for each entity.
-- Assumes nothing.
use Rattle.std.specs.Prelude.{Ok}
use mathlib.Core.Path.{◌≡◌, sym, subst, ◌∙◌}
use mathlib.Core.Bool.{Bool, true, false}
use mathlib.Core.List.{List}
use Prim.Native.Nat.{ℕ, ◌+◌, ◌≤◌, ◌<◌}
use lib.IntN.{ℤ, pos}
use lib.ListN.{length, get_or, set, take, replicate, length-set, length-take, length-replicate, get_or-replicate}
use lib.Seq.{get_or-set_same, get_or-set_other, get_or-take, ext_get_or}
use native.Mathlib.Omega.{arith}
use native.Mathlib.Numerals.{add-one}
use native.Mathlib.Decide.{ℕ_discrete}
use Rattle.tables.specs.Scan.{any_below}
use Rattle.tables.specs.Table.{entry}
use Rattle.tables.proofs.Entries.{or_true, or_false}
use Rattle.tables.proofs.Grown.{length_grown, grown_at}
use Rattle.tables.proofs.Scans.{any_zero, any_more}
use Rattle.signed.specs.Words.{num, eq_z}
use Rattle.signed.proofs.Numbers.{num_of}
use Rattle.layout.specs.declared.Header.{Header}
use Rattle.records.specs.Accepted.{Accepted}
use Rattle.records.specs.Entities.{states as state_count}
use Rattle.records.proofs.OperationLaws.{entity_ok}
use Rattle.operation.specs.Inner.{StatesIn}
use Rattle.operation.proofs.Targets.{clear}
use Rattle.instances.specs.Records.{LentStates, count, entity_at, instance_at, state_at, records_fault}
use Rattle.instances.specs.Named.{names, held, gathered, has}
use Rattle.instances.specs.Inner.{Gathered, Blank, HeadGathered}
use Rattle.instances.proofs.Judging.{record_ok, good_records}
use Rattle.instances.proofs.Naming.{names_is, names_other, names_entity, held_here, held_past, held_by}

-- ---- the pass

module _ (q : LentStates) where
  -- nothing is gathered yet in zeros
  pub start_gathered : (states : List ℤ) (found : List Bool) → length q.instances ≤ 32 → length states ≡ 32 → length found ≡ 32
      → ((e : ℕ) → e < 32 → get_or states e (pos 0) ≡ pos 0) → ((e : ℕ) → e < 32 → get_or found e false ≡ false) → Gathered q 0 states found
  unfolding held
  start_gathered states found few long flags zeros unset =
      record {
        few = few;
        long = long;
        flags = flags;
        each = λ e l. zeros e (omega arith);
        hit = λ e l. unset e (omega arith) ∙ sym (any_zero (names q e));
      }

  pub blank_gathered : {states : List ℤ} → length q.instances ≤ 32 → Blank states → Gathered q 0 states (replicate 32 false)
  blank_gathered {states} few b = start_gathered states (replicate 32 false) few b.long clear.long b.each clear.each

  module _ (e i : ℕ) where
    found_here : names q e i ≡ true → any_below (names q e) (i + 1) ≡ true
    found_here p = any_more (names q e) i ∙ rw p (or_true (any_below (names q e) i))

    found_past : names q e i ≡ false → any_below (names q e) (i + 1) ≡ any_below (names q e) i
    found_past p = any_more (names q e) i ∙ rw p (or_false (any_below (names q e) i))

  module _ (i : ℕ) {states : List ℤ} {found : List Bool} {e : ℕ} (g : Gathered q i states found) (is-entity : e ≡ entity_at q.records i) where
    -- record i has no entity's named instance
    taken_none : ((a : ℕ) → a < length q.instances → names q a i ≡ false) → Gathered q (i + 1) states found
    taken_none none =
        record {
          few = g.few;
          long = g.long;
          flags = g.flags;
          each = λ a l. g.each a l ∙ sym (held_past q a i (none a l)) ∙ rw (add-one i);
          hit = λ a l. g.hit a l ∙ sym (found_past a i (none a l));
        }

    other : (a : ℕ) → (a ≡ e → ⊥) → names q a i ≡ false
    other a n = names_other q a i (λ z. n (sym z ∙ sym is-entity))

    -- there is no such entity
    pub taken_past : length q.instances ≤ e → Gathered q (i + 1) states found
    taken_past l = taken_none (λ a m. other a (λ z. omega (arith, z)))

    module _ (there : e < length q.instances) {b : Bool} (is-named : b ≡ eq_z (instance_at q.records i) (get_or q.instances e (pos 0))) where
      is_own : names q e i ≡ b
      is_own = names_is q e i (sym is-entity) ∙ sym is-named

      -- another instance is named for it
      pub taken_other : b ≡ false → Gathered q (i + 1) states found
      taken_other p = taken_none (λ a l. go a (ℕ_discrete a e))
        where
          go : (a : ℕ) → Dec (a ≡ e) → names q a i ≡ false
          go a (yes z) = rw z (is_own ∙ p)
          go a (no n) = other a n

      -- it is the named one
      pub taken_own : {w : ℤ} → b ≡ true → w ≡ state_at q.records i → Gathered q (i + 1) (set states e w) (set found e true)
      taken_own {w} p is_state =
          record {
            few = g.few;
            long = length-set states e w ∙ g.long;
            flags = length-set found e true ∙ g.flags;
            each = λ a l. state a l (ℕ_discrete a e);
            hit = λ a l. mark a l (ℕ_discrete a e);
          }
        where
          own : (a : ℕ) → a ≡ e → names q a i ≡ true
          own a z = rw z (is_own ∙ p)

          state : (a : ℕ) → a < length q.instances → Dec (a ≡ e) → get_or (set states e w) a (pos 0) ≡ held q a (i + 1)
          state a l (yes z) =
              rw (add-one i, held_here q a i (own a z), z) (get_or-set_same states e w (pos 0) (omega (arith, g.long, g.few)) ∙ is_state)
          state a l (no n) = rw (add-one i, held_past q a i (other a n)) (get_or-set_other states e a w (pos 0) n ∙ g.each a l)

          mark : (a : ℕ) → a < length q.instances → Dec (a ≡ e) → get_or (set found e true) a false ≡ any_below (names q a) (i + 1)
          mark a l (yes z) = rw (found_here a i (own a z), z) (get_or-set_same found e true false (omega (arith, g.flags, g.few)))
          mark a l (no n) = rw (found_past a i (other a n)) (get_or-set_other found e a true false n ∙ g.hit a l)

  pub all_taken : (n i : ℕ) {states : List ℤ} {found : List Bool} → (i ≤ n) × Gathered q i states found → n ≤ i → Gathered q n states found
  all_taken n i {states} {found} g l = subst (λ (k : ℕ). Gathered q k states found) (omega (arith, g.0)) g.1

-- ---- what is gathered

module _ (h : Header) (q : LentStates) where
  pub gathered_length : length (gathered h q) ≡ h.entities
  unfolding gathered
  gathered_length = length_grown _ _ _

  pub gathered_at : (e : ℕ) → e < h.entities → get_or (gathered h q) e (pos 0) ≡ held q e (count q.records)
  unfolding gathered entry
  gathered_at e l = grown_at (λ _ e. held q e (count q.records)) (pos 0) h.entities e l

  -- it is the head of the buffer
  pub head_gathered : {states : List ℤ} → HeadGathered h q states → h.entities ≤ 32 → take h.entities states ≡ gathered h q
  head_gathered {states} g few =
      let long : length (take h.entities states) ≡ h.entities = simp length-take (omega (arith, g.long)) in
      ext_get_or (pos 0) (take h.entities states) (gathered h q) (long ∙ sym gathered_length)
      (λ e l. let m : e < h.entities = omega (arith, long) in
      get_or-take h.entities states e (pos 0) m ∙ g.each e m ∙ sym (gathered_at e m))

pub blank : Blank (replicate 32 (pos 0))
blank = record { long = length-replicate 32 (pos 0); each = λ e l. get_or-replicate 32 e (pos 0) (pos 0) l }

-- what the pass leaves, of the entities there are
module _ (h : Header) (q : LentStates) {states : List ℤ} {found : List Bool} (long : length q.instances ≡ h.entities)
    (g : Gathered q (count q.records) states found) where
  pub gathered_head : HeadGathered h q states
  gathered_head = record { long = g.long; each = λ e l. g.each e (omega (arith, long)) }

  pub found_is : (e : ℕ) → e < h.entities → get_or found e false ≡ has q e
  unfolding has
  found_is e l = g.hit e (omega (arith, long))

-- where the records are good, each is among its entity's states
pub states_in_lem : (s : List ℤ) (h : Header) (q : LentStates) → Accepted s h → records_fault s h q.records ≡ Ok tt → StatesIn s h (gathered h q)
states_in_lem s h q a done = record { long = gathered_length h q; each = λ e l. rw (gathered_at h q e l) (inside e l) }
  where
    inside : (e : ℕ) → e < h.entities → num (held q e (count q.records)) < state_count s h e
    inside e l =
        held_by (λ z. num z < state_count s h e) q e (count q.records)
        (λ i m p. rw (← names_entity q e i p) (record_ok s h q.records i (good_records s h q.records done i m)).state)
        (λ none. rw (num_of 0) (omega (arith, (entity_ok a e l).some)))
