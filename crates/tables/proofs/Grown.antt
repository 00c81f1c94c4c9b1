-- Laws of a table whose entries are worked out in order.
-- Assumes nothing.
use mathlib.Core.Path.{◌≡◌, refl, ◌∙◌}
use mathlib.Core.List.{[], ◌∷◌}
use mathlib.Core.Logic.{⊎_elim}
use Prim.Native.Nat.{ℕ, zero, suc, ◌<◌}
use native.Mathlib.Omega.{arith}
use lib.ListN.{length, get_or, length-append, get_or-append}
use lib.Seq.{get_or_at}
use Rattle.tables.specs.Table.{grown, entry}
use Rattle.tables.proofs.Scans.{below_suc}

module _ {A : Type 0} (f : (ℕ → A) → ℕ → A) (d : A) where
  pub length_grown : (n : ℕ) → length (grown f d n) ≡ n
  unfolding grown
  length_grown zero = refl
  length_grown (suc n) = length-append (grown f d n) (f (λ j. get_or (grown f d n) j d) n ∷ []) ∙ rw (length_grown n) (omega arith)

  -- an entry of any longer table is the entry
  pub grown_at : (n j : ℕ) → j < n → get_or (grown f d n) j d ≡ entry f d j
  unfolding grown entry
  grown_at zero j h = absurd (omega arith)
  grown_at (suc n) j h =
      ⊎_elim (λ l. get_or-append (grown f d n) (f (λ j. get_or (grown f d n) j d) n ∷ []) d j (rw (length_grown n) l) ∙ grown_at n j l)
      (λ e. rw e (get_or_at (grown f d n) (f (λ j. get_or (grown f d n) j d) n) [] d n (length_grown n))) (below_suc j n h)

  -- an entry from the entries before it, where the step looks at no others
  pub entry_from : (n : ℕ) → ((look : ℕ → A) → ((j : ℕ) → j < n → look j ≡ entry f d j) → f look n ≡ f (entry f d) n) → entry f d n ≡ f (entry f d) n
  unfolding entry
  entry_from n same = same (λ j. get_or (grown f d n) j d) (grown_at n)

-- what holds of n where it holds of every number below n holds of all
pub strong : (Q : ℕ → Type 0) → ((n : ℕ) → ((j : ℕ) → j < n → Q j) → Q n) → (n : ℕ) → Q n
strong Q h n = h n (go n)
  where
    go : (n j : ℕ) → j < n → Q j
    go zero j l = absurd (omega arith)
    go (suc n) j l = h j (λ i m. go n i (omega arith))
