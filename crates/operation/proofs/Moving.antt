-- The states while an outcome's effects are applied one by one: each is as it was lent, or where the one effect that moves it leads.
-- Assumes nothing.
use mathlib.Core.Path.{◌≡◌, refl, sym, subst, ◌∙◌}
use mathlib.Core.Bool.{Bool, true, false, not, cond, ◌&&◌}
use mathlib.Core.List.{List}
use Prim.Native.Nat.{ℕ, ◌+◌, ◌≤◌, ◌<◌}
use lib.IntN.{ℤ, pos}
use lib.ListN.{length, get_or, set, replicate, length-set}
use lib.Seq.{get_or-set_same, get_or-set_other, ext_get_or}
use native.Mathlib.Omega.{arith}
use native.Mathlib.Decide.{dec_lt, ℕ_discrete}
use Rattle.tables.specs.Inner.{marked}
use Rattle.tables.proofs.Bools.{tests, true_false, not_flip}
use Rattle.layout.specs.declared.Header.{Header}
use Rattle.layout.specs.Tables.{effect}
use Rattle.records.specs.Operations.{outcome}
use Rattle.records.proofs.OperationLaws.{change_ok}
use Rattle.operation.specs.declared.Effects.{Effects}
use Rattle.operation.specs.States.{present}
use Rattle.operation.specs.Outcomes.{starts}
use Rattle.operation.specs.Changes.{new_state, applied}
use Rattle.operation.specs.Ready.{Ready}
use Rattle.operation.specs.Inner.{Clear, effects_of, taken, Shifted}
use Rattle.operation.proofs.Targets.{first_is, end_is, exists_in, clear}
use Rattle.operation.proofs.Movers.{Moves, stays, goes, length_applied, applied_at}

-- what the code tests and stores is what `Shifted` says
module _ (s : List ℤ) (h : Header) (e : ℕ) (states : List ℤ) (moved : List Bool) (n : ℕ) (b : Bool) (p : n ≡ (effect s h e).w0)
    (q : b ≡ starts states (effect s h e)) where
  pub shifted_on : (v : ℤ) → (not (get_or moved n false) && b) ≡ true → v ≡ pos (effect s h e).w2
      → Shifted s h e states moved (set states n v) (set moved n true)
  unfolding taken
  shifted_on v t g = let k : taken states moved (effect s h e) ≡ true = rw (p, q) at t in record { state = rw (k, p, g); flag = rw (k, p) }

  pub shifted_off : (not (get_or moved n false) && b) ≡ false → Shifted s h e states moved states moved
  unfolding taken
  shifted_off t = let k : taken states moved (effect s h e) ≡ false = rw (p, q) at t in record { state = rw k; flag = rw k }

-- effect d is of outcome j, and starts from the state of entity n before the call
pub record Goes (s : List ℤ) (h : Header) (before : List ℤ) (j n d : ℕ) : Type 0 where
  pub outcome : outcome s h d ≡ j
  pub entity : (effect s h d).w0 ≡ n
  pub from : (effect s h d).w1 ≡ present before n

-- entity n once the effects from `first` up to e are through: its flag, and its state
pub data Place (s : List ℤ) (h : Header) (before : List ℤ) (first j e n : ℕ) (flag : Bool) (state : ℤ) : Type 0 where
  stayed : ((d : ℕ) → first ≤ d → d < e → Goes s h before j n d → ⊥) → flag ≡ false → state ≡ get_or before n (pos 0)
      → Place s h before first j e n flag state
  went : (d : ℕ) → first ≤ d → d < e → Goes s h before j n d → flag ≡ true → state ≡ pos (effect s h d).w2 → Place s h before first j e n flag state

pub record Moving (s : List ℤ) (h : Header) (before : List ℤ) (first j end e : ℕ) (flags : List Bool) (states : List ℤ) : Type 0 where
  pub order : first ≤ e
  pub here : e ≤ end
  pub long : length states ≡ h.entities
  pub flags_long : length flags ≡ 32
  pub each : (n : ℕ) → n < h.entities → Place s h before first j e n (get_or flags n false) (get_or states n (pos 0))

module _ (s : List ℤ) (h : Header) (before : List ℤ) (first j end : ℕ) where
  none : h.entities ≤ 32 → length before ≡ h.entities → first ≤ end → (flags : List Bool) → Clear flags
      → Moving s h before first j end first flags before
  none few long l flags k =
      record {
        order = omega arith;
        here = l;
        long = long;
        flags_long = k.long;
        each = λ n q. stayed (λ d a b g. absurd (omega arith)) (k.each n (omega arith)) refl;
      }

  module _ (e : ℕ) (flags : List Bool) (states : List ℤ) (r : Moving s h before first j end e flags states) where
    -- an effect that does not bear on entity n leaves it in its place
    kept : (n : ℕ) → (Goes s h before j n e → ⊥) → {flag : Bool} {state : ℤ} → Place s h before first j e n flag state
        → Place s h before first j (e + 1) n flag state
    kept n out (stayed p f q) = stayed (λ d a b g. go d a b g (dec_lt d e)) f q
      where
        go : (d : ℕ) → first ≤ d → d < e + 1 → Goes s h before j n d → Dec (d < e) → ⊥
        go d a b g (yes y) = p d a y g
        go d a b g (no x) = let z : d ≡ e = omega arith in out (subst (λ (i : ℕ). Goes s h before j n i) z g)
    kept n out (went d a b g f q) = went d a (omega arith) g f q

    -- the effect is not taken: nothing changes
    left : taken states flags (effect s h e) ≡ false → (n : ℕ) → n < h.entities
        → Place s h before first j (e + 1) n (get_or flags n false) (get_or states n (pos 0))
    unfolding taken starts
    left p n l = go (r.each n l)
      where
        go : Place s h before first j e n (get_or flags n false) (get_or states n (pos 0))
            → Place s h before first j (e + 1) n (get_or flags n false) (get_or states n (pos 0))
        go (went d a b g f q) = went d a (omega arith) g f q
        go (stayed w f q) =
            kept n
            (λ g. true_false (simp tests (rw (g.entity, f), rw (g.entity, q) g.from)) p)
            (stayed w f q)

    -- an effect of another outcome is passed over
    pub over : e < end → (outcome s h e ≡ j → ⊥) → Moving s h before first j end (e + 1) flags states
    over l out =
        record {
          order = omega (arith, r.order);
          here = omega arith;
          long = r.long;
          flags_long = r.flags_long;
          each = λ n q. kept n (λ g. out g.outcome) (r.each n q);
        }

    -- the effect is taken: its entity has not moved before, and goes where it leads
    arrived : e < end → outcome s h e ≡ j → taken states flags (effect s h e) ≡ true
        → Place s h before first j e (effect s h e).w0 (get_or flags (effect s h e).w0 false) (get_or states (effect s h e).w0 (pos 0))
        → Place s h before first j (e + 1) (effect s h e).w0 true (pos (effect s h e).w2)
    unfolding taken starts
    arrived l out p (stayed w f q) =
        let t = simp tests at p in
        went e r.order (omega arith) (record { outcome = out; entity = refl; from = rw q at t.1 }) refl refl
    arrived l out p (went d a b g f q) = let t = simp tests at p in absurd (true_false f (not_flip _ t.0))

    module _ (l : e < end) (out : outcome s h e ≡ j) (known : (effect s h e).w0 < h.entities) (few : h.entities ≤ 32) where
      moved_on : taken states flags (effect s h e) ≡ true → (n : ℕ) → n < h.entities
          → Place s h before first j (e + 1) n (get_or (set flags (effect s h e).w0 true) n false)
          (get_or (set states (effect s h e).w0 (pos (effect s h e).w2)) n (pos 0))
      moved_on p n q = go (ℕ_discrete n (effect s h e).w0)
        where
          go : Dec (n ≡ (effect s h e).w0)
              → Place s h before first j (e + 1) n (get_or (set flags (effect s h e).w0 true) n false)
              (get_or (set states (effect s h e).w0 (pos (effect s h e).w2)) n (pos 0))
          go (yes z) =
              rw (
                z,
                get_or-set_same flags (effect s h e).w0 true false (omega (arith, r.flags_long)),
                get_or-set_same states (effect s h e).w0 (pos (effect s h e).w2) (pos 0) (omega (arith, r.long)),
              )
              (arrived l out p (r.each (effect s h e).w0 known))
          go (no x) =
              rw (
                get_or-set_other flags (effect s h e).w0 n true false x,
                get_or-set_other states (effect s h e).w0 n (pos (effect s h e).w2) (pos 0) x,
              )
              (kept n (λ g. x (sym g.entity)) (r.each n q))

      by_case : (on : Bool) → taken states flags (effect s h e) ≡ on
          → Moving s h before first j end (e + 1) (marked on (effect s h e).w0 flags)
          (cond on (set states (effect s h e).w0 (pos (effect s h e).w2)) states)
      by_case true p =
          record {
            order = omega (arith, r.order);
            here = omega arith;
            long = length-set states _ _ ∙ r.long;
            flags_long = length-set flags _ _ ∙ r.flags_long;
            each = moved_on p;
          }
      by_case false p = record { order = omega (arith, r.order); here = omega arith; long = r.long; flags_long = r.flags_long; each = left p }

      more : Moving s h before first j end (e + 1) (marked (taken states flags (effect s h e)) (effect s h e).w0 flags) (cond (taken states flags (effect s h e)) (set states (effect s h e).w0 (pos (effect s h e).w2)) states)
      more = by_case (taken states flags (effect s h e)) refl

module _ {s : List ℤ} {h : Header} {before : List ℤ} {o : ℕ} (w : Ready s h before o) (x : Effects) (t : x ≡ effects_of s h o) (j : ℕ) where
  pub outset : Moving s h before x.first j x.end x.first (replicate 32 false) before
  outset =
      none s h before x.first j x.end w.accepted.sized.limits.entities w.lent.long
      (omega (arith, first_is s h o x t, end_is s h o x t))
      (replicate 32 false) clear

  pub onward : (e : ℕ) (flags flags' : List Bool) (states states' : List ℤ) → Moving s h before x.first j x.end e flags states → e < x.end
      → outcome s h e ≡ j
      → Shifted s h e states flags states' flags' → Moving s h before x.first j x.end (e + 1) flags' states'
  onward e flags flags' states states' r l out p =
      rw (p.state, p.flag)
      (more s h before x.first j x.end e flags states r l out (change_ok w.accepted e (exists_in w x t e l)).entity
      w.accepted.sized.limits.entities)

  of_goes : (n d : ℕ) → x.first ≤ d → d < x.end → Goes s h before j n d → Moves s h before o j n d
  of_goes n d a b g =
      record {
        of = record { low = omega (arith, first_is s h o x t); high = omega (arith, end_is s h o x t) };
        outcome = g.outcome;
        entity = g.entity;
        from = g.from;
      }

  -- all effects are through: the states are those of the outcome applied
  pub done : (e : ℕ) (flags : List Bool) (states : List ℤ) → Moving s h before x.first j x.end e flags states → x.end ≤ e
      → states ≡ applied s h before o j
  done e flags states r g =
      ext_get_or (pos 0) states (applied s h before o j) (r.long ∙ sym (length_applied s h before o j))
      (λ n l. let m : n < h.entities = omega (arith, r.long) in go n (r.each n m) ∙ sym (applied_at s h before o j n m))
    where
      go : (n : ℕ) → Place s h before x.first j e n (get_or flags n false) (get_or states n (pos 0))
          → get_or states n (pos 0) ≡ new_state s h before o j n
      go n (stayed p f q) =
          q
          ∙ sym (stays s h before o j n (λ d m. p d (omega (arith, m.of.low, first_is s h o x t)) (omega (arith, m.of.high, end_is s h o x t))
          (record { outcome = m.outcome; entity = m.entity; from = m.from })))
      go n (went d a b m f q) = q ∙ sym (goes s h before o j n w.accepted w.exists d (of_goes n d a (omega (arith, r.here)) m))
