-- Some effect of an operation passes a test: what that says, and the scan of the effects.
-- Assumes nothing.
use mathlib.Core.Path.{◌≡◌, sym, ◌∙◌}
use mathlib.Core.Bool.{Bool, true, false}
use mathlib.Core.List.{List}
use mathlib.Core.Logic.{◌⊎◌, inl, inr}
use Prim.Native.Nat.{ℕ, ◌+◌, ◌*◌, ◌≤◌, ◌<◌}
use lib.IntN.{ℤ}
use lib.ListN.{length}
use native.Mathlib.Omega.{arith}
use native.Mathlib.Decide.{dec_lt}
use Rattle.tables.proofs.Bools.{tests, and_left, true_false, bool_cases}
use Rattle.tables.proofs.Scans.{any_at, any_of, none_any}
use Rattle.words.specs.declared.Record.{Record}
use Rattle.words.specs.Record.{record_at}
use Rattle.layout.specs.declared.Header.{Header}
use Rattle.layout.specs.Header.{first_effect}
use Rattle.layout.specs.Tables.{effect}
use Rattle.records.specs.Accepted.{Accepted}
use Rattle.records.proofs.OperationLaws.{Of, inside, operation_ok}
use Rattle.operation.specs.declared.Effects.{Effects}
use Rattle.operation.specs.Inner.{effects_of}
use Rattle.operation.proofs.Targets.{first_is, end_is}
use Rattle.reach.specs.Moves.{leaves, leads}
use Rattle.causes.specs.Causes.{effect_passes, some_effect}

-- effect e is one of operation o's, and passes f
pub record Passes (s : List ℤ) (h : Header) (o : ℕ) (f : Record ℕ → Bool) (e : ℕ) : Type 0 where
  pub of : Of s h o e
  pub passes : f (effect s h e) ≡ true

module _ (s : List ℤ) (h : Header) (o : ℕ) (f : Record ℕ → Bool) where
  passes_true : (e : ℕ) → effect_passes s h o f e ≡ true → Passes s h o f e
  unfolding effect_passes
  passes_true e p = let q = simp tests at p in record { of = record { low = q.0.0; high = q.0.1 }; passes = q.1 }

  true_passes : (e : ℕ) → Passes s h o f e → effect_passes s h o f e ≡ true
  unfolding effect_passes
  true_passes e w = simp tests ((w.of.low, w.of.high), w.passes)

  pub some_at : some_effect s h o f ≡ true → (e : ℕ) × Passes s h o f e
  unfolding some_effect
  some_at p = let w = any_at (effect_passes s h o f) h.effects p in (w.0, passes_true w.0 w.2)

  pub some_of : Accepted s h → o < h.operations → (e : ℕ) → Passes s h o f e → some_effect s h o f ≡ true
  unfolding some_effect
  some_of a l e w = any_of (effect_passes s h o f) h.effects e (inside a o l e w.of) (true_passes e w)

  pub some_none : ((e : ℕ) → Passes s h o f e → ⊥) → some_effect s h o f ≡ false
  unfolding some_effect
  some_none k = none_any (effect_passes s h o f) h.effects (λ e l. go e (bool_cases (effect_passes s h o f e)))
    where
      go : (e : ℕ) → (effect_passes s h o f e ≡ true) ⊎ (effect_passes s h o f e ≡ false) → effect_passes s h o f e ≡ false
      go e (inl t) = absurd (k e (passes_true e t))
      go e (inr t) = t

-- an effect that leads from a state starts from it
pub leads_leaves : {s : List ℤ} {h : Header} → Accepted s h → (o : ℕ) → o < h.operations → (n a b : ℕ) → some_effect s h o (leads n a b) ≡ true
    → some_effect s h o (leaves n a) ≡ true
unfolding leads
leads_leaves {s} {h} w o l n a b p =
    let q = some_at s h o (leads n a b) p in
    some_of s h o (leaves n a) w l q.0 (record { of = q.1.of; passes = and_left _ _ q.1.passes })

-- ---- the scan

-- none of the effects from `first` up to e passes; they stand from record `base` on
pub record Missed (s : List ℤ) (f : Record ℕ → Bool) (base first end e : ℕ) : Type 0 where
  pub order : first ≤ e
  pub here : e ≤ end
  pub each : (j : ℕ) → first ≤ j → j < e → f (record_at s (base + j)) ≡ false

pub missed_more : (s : List ℤ) (f : Record ℕ → Bool) (base first end e : ℕ) (r : Record ℕ) (v : Bool) → Missed s f base first end e → e < end
    → r ≡ record_at s (base + e) → v ≡ f r → v ≡ false
    → Missed s f base first end (e + 1)
missed_more s f base first end e r v w l q p z = record { order = omega (arith, w.order); here = omega arith; each = λ j a b. go j a b (dec_lt j e) }
  where
    go : (j : ℕ) → first ≤ j → j < e + 1 → Dec (j < e) → f (record_at s (base + j)) ≡ false
    go j a b (yes y) = w.each j a y
    go j a b (no x) = let u : j ≡ e = omega arith in rw (u, ← q) (sym p ∙ z)

module _ {s : List ℤ} {h : Header} (a : Accepted s h) (o : ℕ) (l : o < h.operations) (x : Effects) (t : x ≡ effects_of s h o) (base : ℕ)
    (b : base ≡ first_effect h) where
  exists : (e : ℕ) → e < x.end → e < h.effects
  exists e k = omega (arith, end_is s h o x t, (operation_ok a o l).end)

  -- the sheet holds the effect
  pub held : (e : ℕ) → e < x.end → 16 + 8 * (base + e) + 8 ≤ length s
  held e k = omega (arith, b, exists e k, a.sized.long)

  pub small : (e : ℕ) → e < x.end → base + e < 4096
  small e k = omega (arith, b, exists e k, a.sized.limits)

  module _ (f : Record ℕ → Bool) where
    pub outset : Missed s f base x.first x.end x.first
    outset = record { order = omega arith; here = omega (arith, first_is s h o x t, end_is s h o x t); each = λ j p q. absurd (omega arith) }

    pub hit : (e : ℕ) (r : Record ℕ) (v : Bool) → Missed s f base x.first x.end e → e < x.end → r ≡ record_at s (base + e) → v ≡ f r → v ≡ true
        → true ≡ some_effect s h o f
    hit e r v w k q p z =
        sym (some_of s h o f a l e (record {
          of = record { low = omega (arith, w.order, first_is s h o x t); high = omega (arith, end_is s h o x t) };
          passes = rw (q, b) at (sym p ∙ z);
        }))

    pub none_hit : (e : ℕ) → Missed s f base x.first x.end e → x.end ≤ e → false ≡ some_effect s h o f
    none_hit e w k =
        sym (some_none s h o f (λ j u. true_false u.passes
        (rw b at (w.each j (omega (arith, u.of.low, first_is s h o x t)) (omega (arith, u.of.high, end_is s h o x t))))))
