-- The preconditions that a run remembers at its start: none.
-- Assumes nothing.
use mathlib.Core.Path.{◌≡◌, sym, ◌∙◌}
use mathlib.Core.Bool.{Bool, false}
use mathlib.Core.List.{List}
use Prim.Native.Nat.{ℕ, ◌<◌}
use lib.IntN.{ℤ}
use lib.ListN.{get_or, replicate, length-replicate, get_or-replicate, get_or-eq_default}
use native.Mathlib.Omega.{arith}
use native.Mathlib.Decide.{dec_lt}
use Rattle.std.specs.Prelude.{Option, None}
use Rattle.std.proofs.lemmas.Option.{none-some}
use Rattle.layout.specs.declared.Header.{Header}
use Rattle.node.specs.FactValues.{FactValue}
use Rattle.run.specs.Memo.{Memo}

-- of 128 flags, none of them set, each reads false
pub none_set : (o : ℕ) → get_or (replicate 128 false) o false ≡ false
none_set o = go (dec_lt o 128)
  where
    go : Dec (o < 128) → get_or (replicate 128 false) o false ≡ false
    go (yes l) = get_or-replicate 128 o false false l
    go (no l) = get_or-eq_default (replicate 128 false) false {n = o} (omega (arith, length-replicate 128 false))

pub memo_none : (s : List ℤ) (h : Header) (facts : List FactValue) (verdicts : List ℤ) → Memo s h facts verdicts (replicate 128 None)
memo_none s h facts verdicts =
    record {
      long = length-replicate {A = Option Bool} 128 None;
      right = λ o b e. absurd (none-some {A = Bool} b (sym (none_known o (dec_lt o 128)) ∙ e));
    }
  where
    none_known : (o : ℕ) → Dec (o < 128) → get_or {A = Option Bool} (replicate 128 None) o None ≡ None
    none_known o (yes l) = get_or-replicate 128 o None None l
    none_known o (no l) = get_or-eq_default (replicate 128 None) None {n = o} (omega (arith, length-replicate {A = Option Bool} 128 None))
