-- What the functions read of an operation and its effects: which effects there are, that an effect's entity has a state and a flag, and
-- that the states it names are small.
-- Assumes nothing.
use mathlib.Core.Path.{◌≡◌, refl, ap}
use mathlib.Core.Bool.{Bool, true, false}
use mathlib.Core.List.{List}
use Prim.Native.Nat.{ℕ, ◌+◌, ◌≤◌, ◌<◌}
use lib.IntN.{ℤ}
use lib.ListN.{length, get_or, replicate, get_or-replicate}
use native.Mathlib.Omega.{arith}
use native.Mathlib.Decide.{dec_lt}
use Rattle.layout.specs.declared.Header.{Header}
use Rattle.layout.specs.Tables.{operation, effect}
use Rattle.records.proofs.OperationLaws.{change_ok, entity_ok, operation_ok}
use Rattle.records.specs.Accepted.{Accepted}
use Rattle.records.specs.Operations.{effects_end}
use Rattle.operation.specs.declared.Effects.{Effects}
use Rattle.operation.specs.Ready.{Ready}
use Rattle.operation.specs.Inner.{Read, Clear, effects_of}

module _ (s : List ℤ) (h : Header) (o : ℕ) (x : Effects) (e : x ≡ effects_of s h o) where
  pub first_is : x.first ≡ (operation s h o).w2
  unfolding effects_of
  first_is = ap (λ (y : Effects). y.first) e

  pub end_is : x.end ≡ effects_end s h o
  unfolding effects_of
  end_is = ap (λ (y : Effects). y.end) e

  pub outcomes_is : x.outcomes ≡ (operation s h o).w4
  unfolding effects_of
  outcomes_is = ap (λ (y : Effects). y.outcomes) e

-- an effect before the end of an operation's is an effect of the sheet
pub exists_in : {s : List ℤ} {h : Header} {states : List ℤ} {o : ℕ} → Ready s h states o → (x : Effects) → x ≡ effects_of s h o → (d : ℕ) → d < x.end
    → d < h.effects
exists_in {s} {h} {states} {o} w x e d l = omega (arith, end_is s h o x e, (operation_ok w.accepted o w.exists).end)

pub read_in : {s : List ℤ} {h : Header} {states : List ℤ} {o : ℕ} → Ready s h states o → (x : Effects) → x ≡ effects_of s h o → (d : ℕ) → d < x.end
    → Read s h states d
read_in w x e d l = record { accepted = w.accepted; long = w.lent.long; exists = exists_in w x e d l }

-- an effect's entity has a flag
pub flagged : {s : List ℤ} {h : Header} → Accepted s h → (e : ℕ) → e < h.effects → (effect s h e).w0 < 32
flagged a e l = omega (arith, (change_ok a e l).entity, a.sized.limits.entities)

module _ {s : List ℤ} {h : Header} {states : List ℤ} {e : ℕ} (r : Read s h states e) where
  pub has_state : (effect s h e).w0 < length states
  has_state = omega (arith, (change_ok r.accepted e r.exists).entity, r.long)

  pub has_flag : (effect s h e).w0 < 32
  has_flag = flagged r.accepted e r.exists

  -- the states that it leads from and to
  pub small_states : ((effect s h e).w1 < 16) × ((effect s h e).w2 < 16)
  small_states =
      let w = change_ok r.accepted e r.exists in
      let f = (entity_ok r.accepted (effect s h e).w0 w.entity).few in
      (omega (arith, w.from), omega (arith, w.to))

-- a flag for each entity, none set
pub clear : Clear (replicate 32 false)
clear = record { long = refl; each = λ n l. get_or-replicate 32 n false false l }

-- the entities of the effects from `at` up to e are flagged, and that of e too
pub flags_more : (s : List ℤ) (h : Header) (flags : List Bool) (at e : ℕ)
    → ((d : ℕ) → at ≤ d → d < e → get_or flags (effect s h d).w0 false ≡ true) → (n : ℕ) → n ≡ (effect s h e).w0 → get_or flags n false ≡ true
    → (d : ℕ) → at ≤ d → d < e + 1 → get_or flags (effect s h d).w0 false ≡ true
flags_more s h flags at e c n p q d a b = go (dec_lt d e)
  where
    go : Dec (d < e) → get_or flags (effect s h d).w0 false ≡ true
    go (yes y) = c d a y
    go (no x) = let z : d ≡ e = omega arith in rw (z, ← p) q
