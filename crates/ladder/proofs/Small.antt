-- What a climb refuses: the numbers 1 to 8, with places that fit a signed word.
-- Assumes nothing.
use Rattle.std.specs.Prelude.{Ok, Err}
use mathlib.Core.Path.{◌≡◌, refl}
use mathlib.Core.Bool.{Bool, true, false}
use mathlib.Core.List.{List}
use mathlib.Core.Logic.{⊎_elim}
use Prim.Native.Nat.{ℕ, ◌≤◌, ◌<◌, ◌^◌}
use lib.IntN.{ℤ}
use lib.Dec.{lit<}
use native.Mathlib.Omega.{arith}
use native.Mathlib.Decide.{dec_lt}
use Rattle.tables.proofs.Bools.{bool_cases}
use Rattle.answer.specs.Number.{number, place}
use Rattle.answer.specs.Inner.{Every, SmallStatus}
use Rattle.answer.specs.declared.Refusal.{Refusal}
use Rattle.answer.specs.declared.Refusal.TheVariants.{Length, Missing}
use Rattle.answer.specs.Answers.{Status}
use Rattle.layout.specs.declared.Header.{Header}
use Rattle.layout.specs.Header.{header_of, good_header, records}
use Rattle.layout.specs.Groups.{good_groups}
use Rattle.layout.proofs.Limits.{sized}
use Rattle.records.specs.Accept.{checked, first_bad}
use Rattle.records.proofs.Acceptance.{bad_header, bad_group, bad_record, no_fault}
use Rattle.ladder.specs.Ladder.{Climbed, then, unless, rungs, reached, opened, by, climb}
use Rattle.ladder.proofs.ClimbLaws.{then_done, called, by_all}

-- ---- the sheet: the largest has fewer records than 100,000

-- a refusal of the ladder: its number is 1 to 8, and its place below 100,000
pub record Early (r : Refusal) : Type 0 where
  pub number : number r ≤ 8
  pub place : place r < 100000

pub checked_early : (s : List ℤ) → Every Early (checked s)
checked_early s = ⊎_elim held (λ p. rw (bad_header s p) (record { number = omega arith; place = omega arith })) (bool_cases (good_header s))
  where
    placed : good_header s ≡ true → good_groups s (header_of s) ≡ true → Dec (first_bad s (header_of s) < records (header_of s)) → Every Early (checked s)
    placed p q (yes l) = rw (bad_record s p q l) (record { number = omega arith; place = omega (arith, (sized s p).limits) })
    placed p q (no n) = rw (no_fault s p q (omega arith)) tt

    held : good_header s ≡ true → Every Early (checked s)
    held p =
        ⊎_elim (λ q. placed p q (dec_lt (first_bad s (header_of s)) (records (header_of s))))
        (λ q. rw (bad_group s p q) (record { number = omega arith; place = omega arith })) (bool_cases (good_groups s (header_of s)))

pub early_small : (t : Status) → Every Early t → SmallStatus t
early_small (Ok _) l = tt
early_small (Err r) l = omega (arith, l.place)

pub checked_small : (s : List ℤ) → SmallStatus (checked s)
checked_small s = early_small (checked s) (checked_early s)

-- where a sheet is not opened
pub opened_low : (s : List ℤ) {r : Refusal} → opened s ≡ Err r → place r < 100000
unfolding opened reached
opened_low s {r} e = go (checked s) (checked_early s) e
  where
    go : (t : Status) → Every Early t → reached t (header_of s) ≡ Err r → place r < 100000
    go (Ok _) l q = let z : ◌≡◌ {A = ℕ} 0 1 = cc in absurd (omega arith)
    go (Err u) l q = let z : u ≡ r = cc in rw (← z) l.place

-- ---- the rungs

module _ (P : Refusal → Type 0) where
  then_every : (t u : Status) → Every P t → (t ≡ Ok tt → Every P u) → Every P (then t u)
  unfolding then
  then_every (Ok _) u p q = q refl
  then_every (Err r) u p q = p

  unless_every : (b : Bool) (r : Refusal) → P r → Every P (unless b r)
  unfolding unless
  unless_every true r p = tt
  unless_every false r p = p

  -- the last rung is judged only where the lengths are right
  pub rungs_every : (l n : Bool) (f t : Status) → P Length → P Missing → Every P f → (l ≡ true → Every P t) → Every P (rungs l n f t)
  rungs_every l n f t x y p q =
      then_every _ _ (then_every _ _ (then_every _ _ (unless_every l _ x) (λ _. unless_every n _ y)) (λ _. p))
      (λ d. q (called refl (then_done _ _ d).0).0)

  -- ---- a climb

  abbrev pub EveryClimbed : Climbed → Type 0
  EveryClimbed (Ok h) = Unit {0}
  EveryClimbed (Err r) = P r

  reached_every : (t : Status) (h : Header) → Every P t → EveryClimbed (reached t h)
  unfolding reached
  reached_every (Ok _) h p = tt
  reached_every (Err r) h p = p

  pub opened_every : (s : List ℤ) → Every P (checked s) → EveryClimbed (opened s)
  unfolding opened
  opened_every s p = reached_every (checked s) (header_of s) p

  pub climb_every : (s : List ℤ) (rest : Header → Status) → Every P (checked s) → ((h : Header) → opened s ≡ Ok h → Every P (rest h))
      → EveryClimbed (climb (opened s) rest)
  unfolding climb by
  climb_every s rest p k = go (opened s) (opened_every s p) k
    where
      go : (o : Climbed) → EveryClimbed o → ((h : Header) → o ≡ Ok h → Every P (rest h)) → EveryClimbed (climb o rest)
      go (Ok h) p k = reached_every (rest h) h (k h refl)
      go (Err r) p k = p

pub rungs_small : (l n : Bool) (f t : Status) → SmallStatus f → (l ≡ true → SmallStatus t) → SmallStatus (rungs l n f t)
rungs_small l n f t p q = rungs_every (λ r. place r < 2 ^ 63) l n f t (lit< tt) (lit< tt) p q

-- what a call answers is as small as what it answers past the rungs
module _ {A : Type 0} (P : A → Type 0) (f : Refusal → A) (g : Header → A) (refused : (r : Refusal) → place r < 2 ^ 63 → P (f r)) where
  by_small : (c : Climbed) → EveryClimbed (λ r. place r < 2 ^ 63) c → ((h : Header) → c ≡ Ok h → P (g h)) → P (by c f g)
  by_small c p k = by_all P c f g (λ r e. refused r (rw e at p)) k

  pub opened_small : (s : List ℤ) → ((h : Header) → opened s ≡ Ok h → P (g h)) → P (by (opened s) f g)
  opened_small s w = by_small (opened s) (opened_every (λ r. place r < 2 ^ 63) s (checked_small s)) w

  pub call_small : (s : List ℤ) (rest : Header → Status) → ((h : Header) → opened s ≡ Ok h → SmallStatus (rest h))
      → ((h : Header) → climb (opened s) rest ≡ Ok h → P (g h)) → P (by (climb (opened s) rest) f g)
  call_small s rest k w = by_small (climb (opened s) rest) (climb_every (λ r. place r < 2 ^ 63) s rest (checked_small s) k) w
