-- A list whose entries are stored in order.
-- Assumes nothing.
use mathlib.Core.Path.{◌≡◌, refl, sym, ◌∙◌}
use mathlib.Core.List.{List}
use Prim.Native.Nat.{ℕ, ◌+◌, ◌≤◌, ◌<◌}
use native.Mathlib.Omega.{arith}
use lib.ListN.{length, get_or, set, length-set}
use lib.Seq.{get_or-set_other, ext_get_or}
use Rattle.tables.specs.Table.{grown, entry}
use Rattle.tables.proofs.Grown.{length_grown, grown_at}
use Rattle.tables.proofs.Entries.{stored}

-- of n entries the first k are those of f, the others are those of `old`
pub record Filled {A : Type 0} (f : ℕ → A) (d : A) (old : List A) (n k : ℕ) (t : List A) : Type 0 where
  pub here : k ≤ n
  pub long : length t ≡ n
  pub new : (j : ℕ) → j < k → get_or t j d ≡ f j
  pub rest : (j : ℕ) → k ≤ j → get_or t j d ≡ get_or old j d

module _ {A : Type 0} (f : ℕ → A) (d : A) (old : List A) (n : ℕ) where
  pub none : length old ≡ n → Filled f d old n 0 old
  none e = record { here = omega arith; long = e; new = λ j l. absurd (omega arith); rest = λ j l. refl }

  pub more : (k : ℕ) (t : List A) (v : A) → Filled f d old n k t → k < n → v ≡ f k → Filled f d old n (k + 1) (set t k v)
  more k t v r l e =
      record {
        here = omega arith;
        long = length-set t k v ∙ r.long;
        new = stored f d t k v (omega (arith, r.long)) r.new e;
        rest = λ j q. get_or-set_other t k j v d (λ z. omega (arith, z)) ∙ r.rest j (omega arith);
      }

  -- all entries are stored
  pub done : (k : ℕ) (t : List A) → Filled f d old n k t → n ≤ k → t ≡ grown (λ _ j. f j) d n
  unfolding entry
  done k t r l =
      ext_get_or d t (grown (λ _ j. f j) d n) (r.long ∙ sym (length_grown (λ _ j. f j) d n))
      (λ j q. r.new j (omega (arith, r.long)) ∙ sym (grown_at (λ _ j. f j) d n j (omega (arith, r.long))))
