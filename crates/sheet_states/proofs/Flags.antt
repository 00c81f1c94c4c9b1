-- The flags of declared transitions, one transition after the other.
-- Assumes nothing.
use mathlib.Core.Path.{◌≡◌, sym, ◌∙◌}
use mathlib.Core.Bool.{Bool, true, false, ◌&&◌, ◌||◌}
use mathlib.Core.List.{List}
use mathlib.Core.Logic.{⊎_elim}
use Prim.Native.Nat.{ℕ, ◌+◌, ◌*◌, ◌≤◌, ◌<◌}
use lib.IntN.{ℤ}
use lib.ListN.{get_or, set, replicate, length-replicate, get_or-replicate, length-set}
use lib.Seq.{get_or-set_same, get_or-set_other}
use native.Mathlib.Omega.{arith}
use native.Mathlib.Decide.{ℕ_discrete}
use borrow.Author.Tests.{eq-eqb}
use Rattle.tables.proofs.Bools.{tests, bool_cases, and_left}
use Rattle.tables.proofs.Scans.{any_more, any_zero, extend_one}
use Rattle.tables.proofs.Entries.{or_false, or_true}
use Rattle.words.specs.declared.Record.{Record}
use Rattle.words.specs.Record.{record_at, unused}
use Rattle.layout.specs.declared.Header.{Header}
use Rattle.layout.specs.Header.{first_transition}
use Rattle.layout.specs.Tables.{entity, transition}
use Rattle.records.specs.Entities.{good_entity, good_change, good_transition, same_change, declared}
use Rattle.sheet_states.specs.Flags.{SmallChange, place_of, Declared}

-- a good change has a flag
few_states : (r : Record ℕ) → good_entity r ≡ true → r.w0 ≤ 16
unfolding good_entity
few_states r p = let q = simp tests at p in q.0.0.1

pub small_change : (s : List ℤ) (h : Header) (r : Record ℕ) → ((k : ℕ) → k < h.entities → good_entity (entity s h k) ≡ true) → good_change s h r ≡ true
    → SmallChange h r
unfolding good_change
small_change s h r g p =
    let q = simp tests at p in
    let few = few_states (entity s h r.w0) (g r.w0 q.0.0) in
    record { entity = q.0.0; from = omega (arith, q.0.1); to = omega (arith, q.1) }

-- two records have one flag exactly if they name the same change
same_place : (h : Header) (q r : Record ℕ) → SmallChange h q → SmallChange h r → place_of q ≡ place_of r → same_change q r ≡ true
unfolding same_change
same_place h q r a b e =
    let e0 : q.w0 ≡ r.w0 = omega (arith, a, b, e) in
    let e1 : q.w1 ≡ r.w1 = omega (arith, a, b, e) in
    let e2 : q.w2 ≡ r.w2 = omega (arith, a, b, e) in
    rw (eq-eqb q.w0 r.w0 e0, eq-eqb q.w1 r.w1 e1, eq-eqb q.w2 r.w2 e2)

place_same : (q r : Record ℕ) → same_change q r ≡ true → place_of q ≡ place_of r
unfolding same_change
place_same q r p = let x = simp tests at p in rw (x.0.0, x.0.1, x.1)

differ : (q r : Record ℕ) → (place_of q ≡ place_of r → ⊥) → same_change q r ≡ false
differ q r n = ⊎_elim (λ p. absurd (n (place_same q r p))) (λ p. p) (bool_cases (same_change q r))

pub none : (s : List ℤ) (h : Header) (m : ℕ) (t : List Bool) → 256 * h.entities ≤ m → t ≡ replicate m false → Declared s h m 0 t
unfolding declared
none s h m t l e =
    rw e (record {
      room = l;
      long = length-replicate m false;
      flags = λ r a. get_or-replicate m (place_of r) false false (omega (arith, a)) ∙ sym (any_zero (λ j. same_change (transition s h j) r));
      good = λ j l. absurd (omega arith);
    })

pub more : (s : List ℤ) (h : Header) (m k : ℕ) (t : List Bool) → Declared s h m k t → good_transition s h k ≡ true → SmallChange h (transition s h k)
    → Declared s h m (k + 1) (set t (place_of (transition s h k)) true)
unfolding declared
more s h m k t d g a =
    record {
      room = d.room;
      long = length-set t (place_of (transition s h k)) true ∙ d.long;
      flags = λ r b. rw (any_more (λ j. same_change (transition s h j) r) k) (go r b (ℕ_discrete (place_of r) (place_of (transition s h k))));
      good = extend_one (λ (j : ℕ). good_transition s h j ≡ true) k d.good g;
    }
  where
    go : (r : Record ℕ) → SmallChange h r → Dec (place_of r ≡ place_of (transition s h k))
        → get_or (set t (place_of (transition s h k)) true) (place_of r) false ≡ (declared s h k r || same_change (transition s h k) r)
    go r b (yes e) =
        rw (e, same_place h (transition s h k) r a b (sym e))
        (get_or-set_same t (place_of (transition s h k)) true false (omega (arith, a, d.long, d.room)) ∙ sym (or_true (declared s h k r)))
    go r b (no n) =
        rw (differ (transition s h k) r (λ e. n (sym e)))
        (get_or-set_other t (place_of (transition s h k)) (place_of r) true false n ∙ d.flags r b ∙ sym (or_false (declared s h k r)))

-- what a turn of the loop computes
module _ (s : List ℤ) (h : Header) (k : ℕ) {m : ℕ} (t : List Bool) (d : Declared s h m k t) {base : ℕ} {r : Record ℕ} {a b : Bool}
    (eb : base ≡ first_transition h) (er : r ≡ record_at s (base + k)) (ea : a ≡ good_change s h r) (eu : b ≡ unused 3 r) where
  is : r ≡ transition s h k
  is = er ∙ rw eb

  test : (a && b) ≡ good_transition s h k
  unfolding good_transition
  test = rw (ea, eu, is)

  pub small : ((e : ℕ) → e < h.entities → good_entity (entity s h e) ≡ true) → (a && b) ≡ true → SmallChange h r
  small g p = small_change s h r g (sym ea ∙ and_left a b p)

  pub again : {i : ℕ} → SmallChange h r → (a && b) ≡ true → i ≡ place_of r → Declared s h m (k + 1) (set t i true)
  again z p e = rw (e, is) (more s h m k t d (sym test ∙ p) (rw is at z))

  pub stop : (a && b) ≡ false → good_transition s h k ≡ false
  stop p = sym test ∙ p
