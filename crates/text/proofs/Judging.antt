-- Lines that are judged one after the other, by either call: what the lines so far and the lines to come say of the answer.
-- Assumes nothing.
use Rattle.std.specs.Prelude.{Ok, Err}
use Prim.Native.Nat.{ℕ, ◌+◌}
use mathlib.Core.Path.{◌≡◌, refl}
use mathlib.Core.Bool.{Bool, true, false}
use mathlib.Core.List.{List, [], ◌∷◌, map}
use native.Mathlib.Omega.{arith}
use lib.ListN.{length, length-append}
use Rattle.answer.specs.declared.Refusal.TheVariants.{Line}
use Rattle.text.specs.Lines.{all, join}
use Rattle.text.specs.Calls.{before, judged}

-- after k good lines, whose results `of` are n long, `rest` are still to be judged
pub record Judged {X Y : Type 0} (ok : X → Bool) (of : X → List Y) (lines rest : List X) (k n : ℕ) : Type 0 where
  pub goods : all ok lines ≡ all ok rest
  pub place : before ok lines ≡ k + before ok rest
  pub size : length (join (map of lines)) ≡ n + length (join (map of rest))

module _ {X Y : Type 0} (ok : X → Bool) (of : X → List Y) where
  pub judged_none : (lines : List X) → Judged ok of lines lines 0 0
  judged_none lines = record { goods = refl; place = omega arith; size = omega arith }

  pub judged_more : (lines : List X) (x : X) (rest : List X) (k n : ℕ) → ok x ≡ true → Judged ok of lines (x ∷ rest) k n
      → Judged ok of lines rest (k + 1) (n + length (of x))
  unfolding all before join
  judged_more lines x rest k n e j =
      record {
        goods = rw e at j.goods;
        place = (let p = rw e at j.place in omega arith);
        size = omega (arith, j.size, length-append (of x) (join (map of rest)));
      }

  pub judged_bad : (lines : List X) (x : X) (rest : List X) (k n : ℕ) → ok x ≡ false → Judged ok of lines (x ∷ rest) k n
      → judged ok lines (length (join (map of lines))) ≡ Err (Line k)
  unfolding all before judged
  judged_bad lines x rest k n e j =
      let p : before ok lines ≡ k = (let q = rw e at j.place in omega arith) in
      rw (rw e at j.goods, p)

  pub judged_done : (lines : List X) (k n : ℕ) → Judged ok of lines [] k n → judged ok lines (length (join (map of lines))) ≡ Ok n
  unfolding all join judged
  judged_done lines k n j =
      let p : length (join (map of lines)) ≡ n = omega (arith, j.size) in
      rw (j.goods, p)
