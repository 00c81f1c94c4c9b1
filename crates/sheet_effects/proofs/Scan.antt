-- The scan of an operation's effects: what a turn of the loop computes.
-- Assumes nothing.
use mathlib.Core.Path.{◌≡◌, refl, sym, subst, ap, ◌∙◌}
use mathlib.Core.Bool.{Bool, true, false, not, ◌&&◌}
use mathlib.Core.List.{List}
use mathlib.Core.Logic.{⊎_elim}
use Prim.Native.Nat.{ℕ, ◌+◌, ◌-◌, ◌*◌, ◌≤◌, ◌<◌}
use lib.IntN.{ℤ}
use lib.Dec.{eqb}
use lib.ListN.{length, get_or, set, replicate, length-replicate, get_or-replicate, length-set}
use lib.Seq.{get_or-set_same, get_or-set_other}
use native.Mathlib.Omega.{arith}
use native.Mathlib.Numerals.{add-one}
use native.Mathlib.Decide.{ℕ_discrete}
use borrow.Author.Tests.{eq-eqb, ne_eqb}
use Rattle.tables.specs.Scan.{any_below, sum_below}
use Rattle.tables.proofs.Bools.{tests, bool_cases, true_false, and_true}
use Rattle.tables.proofs.Scans.{any_same, extend_one, sum_zero, sum_more}
use Rattle.words.specs.declared.Record.{Record}
use Rattle.words.specs.Record.{number, record_at, unused}
use Rattle.layout.specs.declared.Header.{Header}
use Rattle.layout.specs.Header.{first_operation, first_effect}
use Rattle.layout.specs.Tables.{operation, effect}
use Rattle.records.specs.Entities.{good_change, declared}
use Rattle.records.specs.Operations.{good_effect, good_effect_of, good_outcome, operation_of, outcome, effects_end, same_source}
use Rattle.sheet_states.specs.Flags.{SmallChange, place_of}
use Rattle.sheet_states.proofs.Flags.{small_change}
use Rattle.sheet_effects.specs.Stamps.{source_of, stamp_of, last_stamp, BeforeEffects, Group, Seen}
use Rattle.sheet_effects.proofs.Stamps.{outcome_test, effect_outcome, out_small, ordered, ordered_next, any_last, same_source_lem, belongs, ends_in, starts, covers}

-- at the loop's head: e good effects so far, and the outcome of the effect before
pub record Turn (s : List ℤ) (h : Header) (m first e before : ℕ) (t : List ℕ) : Type 0 where
  pub low : first ≤ e
  pub small : before < 8
  pub last : (e ≡ first → ⊥) → before ≡ outcome s h (e - 1)
  pub seen : Seen s h m e t

pub begin : {s : List ℤ} {h : Header} {m first : ℕ} {t : List ℕ} → Seen s h m first t → Turn s h m first first 0 t
begin z = record { low = omega arith; small = omega arith; last = λ n. absurd (n refl); seen = z }

effect_change : (s : List ℤ) (h : Header) (e : ℕ) → good_effect s h e ≡ true → good_change s h (effect s h e) ≡ true
unfolding good_effect good_effect_of
effect_change s h e p = let q = simp tests at p in q.0.0.0.0

effect_unused : (s : List ℤ) (h : Header) (e : ℕ) → good_effect s h e ≡ true → unused 4 (effect s h e) ≡ true
unfolding good_effect good_effect_of
effect_unused s h e p = let q = simp tests at p in q.0.0.1

-- with three of its parts known, an effect is good if its transition is declared and its source is new
effect_rest : (s : List ℤ) (h : Header) (e : ℕ) → good_change s h (effect s h e) ≡ true → unused 4 (effect s h e) ≡ true
    → outcome_test s h (operation_of s h e) e ≡ true
    → good_effect s h e ≡ (declared s h h.transitions (effect s h e) && not (any_below (same_source s h e) e))
unfolding good_effect good_effect_of
effect_rest s h e a b c = rw (a, b, c) (mid (declared s h h.transitions (effect s h e)) (not (any_below (same_source s h e) e)))
  where
    mid : (d n : Bool) → (true && d && true && true && n) ≡ (d && n)
    mid true n = refl
    mid false n = refl

-- the first effect's test does not look at the outcome before
first_any : (last : Bool) (b b' outcomes out : ℕ) → good_outcome true last b outcomes out ≡ good_outcome true last b' outcomes out
unfolding good_outcome
first_any last b b' outcomes out = refl

module _ (s : List ℤ) (h : Header) (d : List Bool) (o first end outcomes e before : ℕ) {room : ℕ} (t : List ℕ)
    (z : BeforeEffects s h d) (g : Group s h o first end outcomes) (w : Turn s h room first e before t) (l : e < end) where
  pub inside : e < h.effects
  inside = omega (arith, ends_in s h z.groups z.operations o g.here, g.ends)

  pub owner : operation_of s h e ≡ o
  owner = belongs s h z.groups z.operations o e g.here (omega (arith, g.starts, w.low)) (omega (arith, g.ends))

  -- the test that is computed is the definition's
  test_is : good_outcome (eqb e first) (eqb (e + 1) end) before outcomes (outcome s h e) ≡ outcome_test s h (operation_of s h e) e
  test_is = rw (owner, ← g.ends, ← g.starts, ← g.has) (go (ℕ_discrete e first))
    where
      go : Dec (e ≡ first)
          → good_outcome (eqb e first) (eqb (e + 1) end) before outcomes (outcome s h e) ≡ good_outcome (eqb e first) (eqb (e + 1) end)
          (outcome s h (e - 1)) outcomes (outcome s h e)
      go (yes x) = rw (eq-eqb e first x) (first_any (eqb (e + 1) end) before (outcome s h (e - 1)) outcomes (outcome s h e))
      go (no n) = rw (w.last n)

  module _ {r : Record ℕ} {a b c : Bool} {base : ℕ} (eb : base ≡ first_effect h) (er : r ≡ record_at s (base + e)) (ea : a ≡ good_change s h r)
      (eu : b ≡ unused 4 r)
      (ec : c ≡ good_outcome (eqb e first) (eqb (e + 1) end) before outcomes r.w3) where
    is : r ≡ effect s h e
    is = er ∙ rw eb

    -- a good effect passes the first tests
    pub stop_first : (a && b && c) ≡ false → good_effect s h e ≡ false
    stop_first p = ⊎_elim (λ q. absurd (true_false (passes q) p)) (λ q. q) (bool_cases (good_effect s h e))
      where
        passes : good_effect s h e ≡ true → (a && b && c) ≡ true
        passes q =
            and_true (a && b) c (and_true a b (rw (ea, is) (effect_change s h e q)) (rw (eu, is) (effect_unused s h e q)))
            (rw (ec, is) (test_is ∙ effect_outcome s h e q))

    module _ (p : (a && b && c) ≡ true) where
      changed : good_change s h (effect s h e) ≡ true
      changed = let q = simp tests at p in rw (← is, ← ea) q.0.0

      tested : outcome_test s h (operation_of s h e) e ≡ true
      tested = let q = simp tests at p in sym test_is ∙ (rw (ec, is) at q.1)

      pub flagged : SmallChange h r
      flagged = rw is (small_change s h (effect s h e) z.entities changed)

      pub few : r.w3 < 8
      few = rw is (out_small s h z.groups z.operations e inside tested)

      small_before : (j : ℕ) → j < e → SmallChange h (effect s h j)
      small_before j q = small_change s h (effect s h j) z.entities (effect_change s h j (w.seen.good j q))

      any_is : any_below (same_source s h e) e ≡ eqb (get_or t (source_of (effect s h e)) 0) (stamp_of s h e)
      any_is =
          any_same (same_source s h e) (λ j. eqb (stamp_of s h j) (stamp_of s h e) && eqb (source_of (effect s h j)) (source_of (effect s h e))) e
          (λ j q. same_source_lem s h e j (out_small s h z.groups z.operations j (omega (arith, inside)) (effect_outcome s h j (w.seen.good j q)))
          (out_small s h z.groups z.operations e inside tested) (small_before j q).from
          (small_change s h (effect s h e) z.entities changed).from)
          ∙ any_last s h (source_of (effect s h e)) (stamp_of s h e) (omega arith) e
          (ordered s h z.groups z.operations e (omega (arith, inside)) w.seen.good)
          (ordered_next s h z.groups z.operations e inside w.seen.good tested)
          ∙ rw (w.seen.stamps (source_of (effect s h e)) source_small)
        where
          source_small : source_of (effect s h e) < room
          source_small = let x = small_change s h (effect s h e) z.entities changed in omega (arith, x, w.seen.room)

      module _ {f : Bool} {m : ℕ} (em : m ≡ 8 * o + r.w3 + 1) (ef : f ≡ (get_or d (place_of r) false && not (eqb (get_or t (source_of r) 0) m))) where
        stamp_is : m ≡ stamp_of s h e
        stamp_is = rw (em, is, owner)

        fresh_is : f ≡ good_effect s h e
        fresh_is =
            let q = simp tests at p in
            rw (effect_rest s h e changed (rw (← is, ← eu) q.0.1) tested, any_is, ef, stamp_is, is)
            (rw (z.declared.flags (effect s h e) (rw is at flagged)))

        pub stop_second : f ≡ false → good_effect s h e ≡ false
        stop_second x = sym fresh_is ∙ x

        pub again : f ≡ true → Turn s h room first (e + 1) r.w3 (set t (source_of r) m)
        again x =
            record {
              low = omega (arith, w.low);
              small = few;
              last = λ _. rw is (ap (outcome s h) (omega arith));
              seen = record {
                room = w.seen.room;
                long = length-set t (source_of r) m ∙ w.seen.long;
                stamps = λ y q. stored y q (ℕ_discrete (source_of r) y);
                good = extend_one (λ (j : ℕ). good_effect s h j ≡ true) e w.seen.good (sym fresh_is ∙ x);
              };
            }
          where
            stored : (y : ℕ) → y < room → Dec (source_of r ≡ y) → get_or (set t (source_of r) m) y 0 ≡ last_stamp s h y (e + 1)
            stored y q (yes v) =
                rw add-one (unfold last_stamp in
                rw (← is, eq-eqb (source_of r) y v, v) (get_or-set_same t y m 0 (omega (arith, w.seen.long)) ∙ (rw (← is) at stamp_is)))
            stored y q (no v) =
                rw add-one
                (unfold last_stamp in rw (← is, ne_eqb (source_of r) y v) (get_or-set_other t (source_of r) y m 0 (λ u. v (sym u)) ∙ w.seen.stamps y q))

-- ---- operation by operation

pub record Walk (s : List ℤ) (h : Header) (m o first : ℕ) (t : List ℕ) : Type 0 where
  pub at : first ≡ sum_below (λ k. (operation s h k).w3) o
  pub seen : Seen s h m first t

pub set_out : (s : List ℤ) (h : Header) (m : ℕ) (t : List ℕ) → 16 * h.entities ≤ m → t ≡ replicate m 0 → Walk s h m 0 0 t
set_out s h m t l e =
    rw e (record {
      at = sym (sum_zero (λ k. (operation s h k).w3));
      seen =
          record {
            room = l;
            long = length-replicate {A = ℕ} m 0;
            stamps = λ x q. get_or-replicate {A = ℕ} m x 0 0 q ∙ none x;
            good = λ j q. absurd (omega arith);
          };
    })
  where
    none : (x : ℕ) → 0 ≡ last_stamp s h x 0
    none x = unfold last_stamp in refl

module _ (s : List ℤ) (h : Header) (d : List Bool) (o first : ℕ) {room : ℕ} (t : List ℕ) (z : BeforeEffects s h d) (w : Walk s h room o first t)
    (l : o < h.operations)
    {base m : ℕ} (eb : base ≡ first_operation h) (em : m ≡ number s (base + o) 3) where
  count_is : m ≡ (operation s h o).w3
  count_is = em ∙ rw eb (unfold record_at in refl)

  start_is : first ≡ (operation s h o).w2
  start_is = w.at ∙ sym (starts s h z.groups z.operations o l)

  end_is : first + m ≡ effects_end s h o
  end_is = rw (start_is, count_is)

  pub end_inside : first + m ≤ h.effects
  end_inside = omega (arith, ends_in s h z.groups z.operations o l, end_is)

  pub group : {outs : ℕ} → outs ≡ number s (base + o) 4 → Group s h o first (first + m) outs
  group eo = record { here = l; starts = start_is; ends = end_is; has = eo ∙ rw eb (unfold record_at in refl) }

  -- the group's scan speaks of the stamps by how many it was lent
  pub lent : Seen s h (length t) first t
  lent = subst (λ (k : ℕ). Seen s h k first t) (sym w.seen.long) w.seen

  pub onward : {u : List ℕ} → Seen s h (length t) (first + m) u → Walk s h room (o + 1) (first + m) u
  onward {u} x =
      record {
        at = rw (sum_more (λ k. (operation s h k).w3) o, w.at, count_is);
        seen = subst (λ (k : ℕ). Seen s h k (first + m) u) w.seen.long x;
      }

-- after the last operation all effects are good
pub arrived : {s : List ℤ} {h : Header} {d : List Bool} {o first room : ℕ} {t : List ℕ} → BeforeEffects s h d → Walk s h room o first t
    → o ≡ h.operations → (j : ℕ) → j < h.effects → good_effect s h j ≡ true
arrived {s} {h} {d} {o} {first} z w l j q =
    let e : first ≡ h.effects = w.at ∙ ap (sum_below (λ k. (operation s h k).w3)) l ∙ covers s h z.groups in
    w.seen.good j (omega arith)
