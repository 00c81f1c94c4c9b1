-- What holds of each entity, transition, operation and effect of an accepted sheet.
-- Assumes nothing.
use mathlib.Core.Path.{◌≡◌, refl, sym, subst, ◌∙◌}
use mathlib.Core.Bool.{true, false}
use mathlib.Core.List.{List}
use mathlib.Core.Logic.{◌⊎◌, inl, inr, ⊎_elim, ◌↔◌}
use Prim.Native.Nat.{ℕ, zero, suc, ◌+◌, ◌-◌, ◌≤◌, ◌<◌, ◌^◌}
use lib.IntN.{ℤ}
use native.Mathlib.Omega.{arith}
use native.Mathlib.Decide.{dec_lt}
use borrow.Author.Tests.{eq-eqb, ne_eqb, eqb-true}
use Rattle.layout.proofs.Groups.{covers_effects}
use Rattle.tables.specs.Scan.{sum_below}
use Rattle.tables.proofs.Bools.{tests, and_left, or_cases, not_flip, true_false}
use Rattle.tables.proofs.Scans.{any_at, any_none, sum_suc, sum_mono}
use Rattle.words.specs.declared.Record.{Record}
use Rattle.words.specs.Record.{record_at}
use Rattle.layout.specs.declared.Header.{Header}
use Rattle.layout.specs.Groups.{effect_count}
use Rattle.layout.specs.Tables.{entity, transition, operation, effect}
use Rattle.layout.proofs.Owners.{holder_is, held, starts_by, ends_past}
use Rattle.records.specs.Accepted.{Accepted}
use Rattle.records.specs.Names.{closed, good_root, named_by_operations}
use Rattle.records.specs.Nodes.{item_of}
use Rattle.records.specs.Entities.{good_entity, states, good_change, good_transition, same_change, declared}
use Rattle.records.specs.Operations.{good_mask, good_operation, effects_end, operation_of, outcome, good_outcome, same_source, good_effect_of, good_effect}

-- an entity has 1..16 states, and its initial state is one of them
pub record EntityOk (s : List ℤ) (h : Header) (n : ℕ) : Type 0 where
  pub some : 1 ≤ states s h n
  pub few : states s h n ≤ 16
  pub initial : (entity s h n).w1 < states s h n

-- a transition or an effect: its entity, from and to exist
pub record ChangeOk (s : List ℤ) (h : Header) (r : Record ℕ) : Type 0 where
  pub entity : r.w0 < h.entities
  pub from : r.w1 < states s h r.w0
  pub to : r.w2 < states s h r.w0

-- some transition has the entity, from and to of r
pub record Declared (s : List ℤ) (h : Header) (r : Record ℕ) : Type 0 where
  pub which : ℕ
  pub exists : which < h.transitions
  pub entity : (transition s h which).w0 ≡ r.w0
  pub from : (transition s h which).w1 ≡ r.w1
  pub to : (transition s h which).w2 ≡ r.w2

-- an operation's mask, precondition, effects and number of outcomes
pub record OperationOk (s : List ℤ) (h : Header) (o : ℕ) : Type 0 where
  pub mask_some : 1 ≤ (operation s h o).w0
  pub mask_below_lem : (operation s h o).w0 < 2 ^ h.personas
  pub node : (operation s h o).w1 < h.nodes
  pub bool : (item_of s h (operation s h o).w1).sort ≡ 0
  pub closed : closed s h (operation s h o).w1 ≡ true
  pub unnamed : named_by_operations s h o (operation s h o).w1 ≡ false
  pub first : (operation s h o).w2 ≡ sum_below (effect_count s h) o
  pub effects : 1 ≤ (operation s h o).w3
  pub end : effects_end s h o ≤ h.effects
  pub outcomes : 1 ≤ (operation s h o).w4
  pub outcomes_few : (operation s h o).w4 ≤ 8

-- effect e is one of operation o's
pub record Of (s : List ℤ) (h : Header) (o e : ℕ) : Type 0 where
  pub low : (operation s h o).w2 ≤ e
  pub high : e < effects_end s h o

-- an effect e of operation o
pub record EffectOk (s : List ℤ) (h : Header) (o e : ℕ) : Type 0 where
  pub change : ChangeOk s h (effect s h e)
  pub transition : Declared s h (effect s h e)
  pub below : outcome s h e < (operation s h o).w4

change : (s : List ℤ) (h : Header) (r : Record ℕ) → good_change s h r ≡ true → ChangeOk s h r
unfolding good_change
change s h r p = let q = simp tests at p in omega arith

named : (s : List ℤ) (h : Header) (r : Record ℕ) → declared s h h.transitions r ≡ true → Declared s h r
unfolding declared same_change
named s h r p =
    let w = any_at (λ j. same_change (transition s h j) r) h.transitions p in
    let q = simp tests at w.2 in
    record { which = w.0; exists = w.1; entity = q.0.0; from = q.0.1; to = q.1 }

module _ {s : List ℤ} {h : Header} (a : Accepted s h) where
  pub entity_ok : (n : ℕ) → n < h.entities → EntityOk s h n
  unfolding good_entity
  entity_ok n l = let q = simp tests at (a.entities n l) in omega arith

  pub transition_ok : (k : ℕ) → k < h.transitions → ChangeOk s h (transition s h k)
  unfolding good_transition
  transition_ok k l = change s h (transition s h k) (and_left _ _ (a.transitions k l))

  -- an effect, whosever it is
  pub change_ok : (e : ℕ) → e < h.effects → ChangeOk s h (effect s h e)
  unfolding good_effect good_effect_of
  change_ok e l = let q = simp tests at (a.effects e l) in change s h (effect s h e) q.0.0.0.0

  -- ---- operations

  first_is : (o : ℕ) → o < h.operations → (operation s h o).w2 ≡ sum_below (effect_count s h) o
  unfolding good_operation
  first_is o l = let q = simp tests at (a.operations o l) in q.0.0.0.0.1

  end_is : (o : ℕ) → o < h.operations → effects_end s h o ≡ sum_below (effect_count s h) (suc o)
  unfolding record_at
  end_is o l = rw (first_is o l, sum_suc (effect_count s h) o)

  pub operation_ok : (o : ℕ) → o < h.operations → OperationOk s h o
  unfolding good_operation good_mask good_root
  operation_ok o l =
      let q = simp tests at (a.operations o l) in
      record {
        mask_some = q.0.0.0.0.0.0.0;
        mask_below_lem = q.0.0.0.0.0.0.1;
        node = q.0.0.0.0.0.1.0.0.0;
        bool = q.0.0.0.0.0.1.0.0.1;
        closed = q.0.0.0.0.0.1.0.1;
        unnamed = not_flip _ q.0.0.0.0.0.1.1;
        first = first_is o l;
        effects = q.0.0.0.1;
        end = omega (arith, end_is o l, sum_mono (effect_count s h) (suc o) h.operations l, covers_effects s h a.groups);
        outcomes = q.0.0.1;
        outcomes_few = q.0.1;
      }

  -- ---- whose an effect is

  pub of_operation_lem : (o e : ℕ) → o < h.operations → Of s h o e → operation_of s h e ≡ o
  unfolding operation_of record_at
  of_operation_lem o e l w = holder_is (λ i. (operation s h i).w2) (λ i. (operation s h i).w3) h.operations first_is o e l w.low w.high

  module _ (e : ℕ) (inside : e < h.effects) where
    in_sum : e < sum_below (effect_count s h) h.operations
    in_sum = omega (arith, covers_effects s h a.groups)

    -- each effect has an operation
    pub owner_exists : operation_of s h e < h.operations
    unfolding operation_of record_at
    owner_exists = held (λ i. (operation s h i).w2) (λ i. (operation s h i).w3) h.operations first_is e in_sum

    pub owner_has : Of s h (operation_of s h e) e
    unfolding operation_of record_at
    owner_has =
        record {
          low = starts_by (λ i. (operation s h i).w2) (λ i. (operation s h i).w3) h.operations first_is e in_sum;
          high = ends_past (λ i. (operation s h i).w2) (λ i. (operation s h i).w3) h.operations first_is e in_sum;
        }

  -- an effect belongs to operation o exactly if it lies among o's
  pub belongs : (o e : ℕ) → o < h.operations → e < h.effects → (operation_of s h e ≡ o) ↔ Of s h o e
  belongs o e l k = (λ p. subst (λ (i : ℕ). Of s h i e) p (owner_has e k), of_operation_lem o e l)

  -- ---- the effects of operation o

  module _ (o : ℕ) (l : o < h.operations) where
    pub inside : (e : ℕ) → Of s h o e → e < h.effects
    inside e w = omega (arith, w.high, (operation_ok o l).end)

    good : (e : ℕ) → Of s h o e → good_effect_of s h o e ≡ true
    unfolding good_effect
    good e w = subst (λ (i : ℕ). good_effect_of s h i e ≡ true) (of_operation_lem o e l w) (a.effects e (inside e w))

    pub effect_ok : (e : ℕ) → Of s h o e → EffectOk s h o e
    unfolding good_effect_of good_outcome
    effect_ok e w =
        let q = simp tests at (good e w) in
        record { change = change s h (effect s h e) q.0.0.0.0; transition = named s h (effect s h e) q.0.0.0.1; below = q.0.1.0.1 }

    -- outcomes start at 0
    pub starts_at_zero : outcome s h (operation s h o).w2 ≡ 0
    unfolding good_effect_of good_outcome
    starts_at_zero =
        let b = (operation s h o).w2 in
        let q = simp (eq-eqb b b refl, tests) at (good b (record { low = omega arith; high = omega (arith, (operation_ok o l).effects) })) in
        q.0.1.0.0

    -- stay or rise by one
    pub stays_or_rises : (e : ℕ) → Of s h o e → Of s h o (suc e) → (outcome s h (suc e) ≡ outcome s h e) ⊎ (outcome s h (suc e) ≡ suc (outcome s h e))
    unfolding good_effect_of good_outcome
    stays_or_rises e v w =
        let z : suc e - 1 ≡ e = omega arith in
        let q = simp (ne_eqb (suc e) (operation s h o).w2 (λ x. omega (arith, x, v.low)), z, tests) at (good (suc e) w) in
        ⊎_elim (λ p. inl (eqb-true _ _ p)) (λ p. let r = eqb-true (outcome s h (suc e)) (outcome s h e + 1) p in inr (omega arith))
        (or_cases _ _ q.0.1.0.0)

    -- and end at the last
    pub ends_at_last : (e : ℕ) → Of s h o e → suc e ≡ effects_end s h o → suc (outcome s h e) ≡ (operation s h o).w4
    unfolding good_effect_of good_outcome
    ends_at_last e w z =
        let q = simp (eq-eqb (e + 1) (effects_end s h o) (omega arith), tests) at (good e w) in
        omega (arith, q.0.1.1)

    -- so they never fall
    pub ascends : (d e : ℕ) → d ≤ e → Of s h o d → Of s h o e → outcome s h d ≤ outcome s h e
    ascends d zero le v w = let z : d ≡ 0 = omega arith in rw z (omega arith)
    ascends d (suc e) le v w = go (ascends d e) (dec_lt e d)
      where
        go : (d ≤ e → Of s h o d → Of s h o e → outcome s h d ≤ outcome s h e) → Dec (e < d) → outcome s h d ≤ outcome s h (suc e)
        go ih (yes y) = let z : d ≡ suc e = omega arith in rw z (omega arith)
        go ih (no n) =
            let u : Of s h o e = record { low = omega (arith, v.low); high = omega (arith, w.high) } in
            let r = ih (omega arith) v u in
            ⊎_elim (λ p. omega arith) (λ p. omega arith) (stays_or_rises e u w)

    -- and each outcome has an effect
    reached : (e j : ℕ) → Of s h o e → j ≤ outcome s h e → (d : ℕ) × Of s h o d × (outcome s h d ≡ j)
    reached zero j w le =
        let z : (operation s h o).w2 ≡ 0 = omega (arith, w.low) in
        (0, w, (let r = rw z at starts_at_zero in omega arith))
    reached (suc e) j w le = go (λ u. reached e j u) (dec_lt e (operation s h o).w2) (dec_lt (outcome s h e) j)
      where
        go : (Of s h o e → j ≤ outcome s h e → (d : ℕ) × Of s h o d × (outcome s h d ≡ j)) → Dec (e < (operation s h o).w2) → Dec (outcome s h e < j)
            → (d : ℕ) × Of s h o d × (outcome s h d ≡ j)
        go ih (yes y) c =
            let z : (operation s h o).w2 ≡ suc e = omega (arith, w.low) in
            (suc e, w, (let r = rw z at starts_at_zero in omega arith))
        go ih (no n) (no m) = ih (record { low = omega arith; high = omega (arith, w.high) }) (omega arith)
        go ih (no n) (yes y) = (
          suc e,
          w,
          ⊎_elim (λ p. omega arith) (λ p. omega arith) (stays_or_rises e (record { low = omega arith; high = omega (arith, w.high) }) w),
        )

    pub each_outcome : (j : ℕ) → j < (operation s h o).w4 → (e : ℕ) × Of s h o e × (outcome s h e ≡ j)
    each_outcome j lt =
        let e = effects_end s h o - 1 in
        let k = (operation_ok o l).effects in
        let w : Of s h o e = record { low = omega arith; high = omega arith } in
        reached e j w (omega (arith, ends_at_last e w (omega arith)))

    -- within one outcome an (entity, from) pair occurs once
    twice : (d e : ℕ) → d < e → Of s h o d → Of s h o e → outcome s h d ≡ outcome s h e → (effect s h d).w0 ≡ (effect s h e).w0
        → (effect s h d).w1 ≡ (effect s h e).w1 → ⊥
    unfolding good_effect_of same_source
    twice d e lt v w p q r =
        let z = simp tests at (good e w) in
        let f = any_none (same_source s h e) e (not_flip _ z.1) d lt in
        true_false (simp tests (((of_operation_lem o d l v ∙ sym (of_operation_lem o e l w), p), q), r)) f

    pub once : (d e : ℕ) → Of s h o d → Of s h o e → outcome s h d ≡ outcome s h e → (effect s h d).w0 ≡ (effect s h e).w0
        → (effect s h d).w1 ≡ (effect s h e).w1 → d ≡ e
    once d e v w p q r = go (dec_lt d e) (dec_lt e d)
      where
        go : Dec (d < e) → Dec (e < d) → d ≡ e
        go (yes y) c = absurd (twice d e y v w p q r)
        go (no n) (yes y) = absurd (twice e d y w v (sym p) (sym q) (sym r))
        go (no n) (no m) = omega arith
