-- Refusals and answers by their numbers: no refusal has the number 0, a number and a place are one refusal's, and an answer whose refusal
-- number is 0 is that of a call that went through.
-- Assumes nothing.
use Prim.Native.Nat.{ℕ, ◌≤◌}
use mathlib.Core.Path.{◌≡◌, refl, sym, ◌∙◌, ap}
use mathlib.Core.List.{◌∷◌, []}
use native.Mathlib.Omega.{arith}
use lib.IntN.{pos, nat_abs}
use lib.ListN.{get_or}
use Rattle.answer.specs.declared.Refusal.{Refusal}
use Rattle.answer.specs.declared.Refusal.TheVariants.{Header, Group, Record, Length, Missing, FactValue, FactAbsent, State, Persona, Precondition, NoOutcome, NotPath, LastPath, Line, NoRoom, ManyOutcomes}
use Rattle.answer.specs.Number.{number, place, refused_answer}
use Rattle.std.specs.Prelude.{Ok, Err}
use lib.Dec.{lit<}
use Rattle.answer.specs.Inner.{SmallStatus, Small}
use Rattle.answer.specs.Answers.{Status, Count, Counted, tallied, status_answer, count_answer, counted_answer}

-- ---- the numbers of refusals

-- the refusal that has a number and a place; 0 stands for none
refusal_of : ℕ → ℕ → Refusal
refusal_of n k =
    get_or
    (ManyOutcomes
    ∷ Header ∷ Group ∷ Record k ∷ Length ∷ Missing ∷ FactValue k ∷ FactAbsent k ∷ State k
    ∷ Persona ∷ Precondition ∷ NoOutcome k ∷ NotPath ∷ LastPath ∷ Line k ∷ NoRoom ∷ [])
    n ManyOutcomes

of_own : (r : Refusal) → refusal_of (number r) (place r) ≡ r
unfolding refusal_of
of_own Header = refl
of_own Group = refl
of_own (Record k) = refl
of_own Length = refl
of_own Missing = refl
of_own (FactValue k) = refl
of_own (FactAbsent k) = refl
of_own (State k) = refl
of_own Persona = refl
of_own Precondition = refl
of_own (NoOutcome k) = refl
of_own NotPath = refl
of_own LastPath = refl
of_own (Line k) = refl
of_own NoRoom = refl
of_own ManyOutcomes = refl

-- two refusals with the same number and place are the same refusal
pub one_refusal : (r q : Refusal) → number r ≡ number q → place r ≡ place q → r ≡ q
one_refusal r q e f =
    sym (of_own r) ∙ ap (λ (n : ℕ). refusal_of n (place r)) e ∙ ap (refusal_of (number q)) f ∙ of_own q

-- a refusal's number is 1 to 16
pub number_range : (r : Refusal) → (1 ≤ number r) × (number r ≤ 16)
number_range Header = (omega arith, omega arith)
number_range Group = (omega arith, omega arith)
number_range (Record k) = (omega arith, omega arith)
number_range Length = (omega arith, omega arith)
number_range Missing = (omega arith, omega arith)
number_range (FactValue k) = (omega arith, omega arith)
number_range (FactAbsent k) = (omega arith, omega arith)
number_range (State k) = (omega arith, omega arith)
number_range Persona = (omega arith, omega arith)
number_range Precondition = (omega arith, omega arith)
number_range (NoOutcome k) = (omega arith, omega arith)
number_range NotPath = (omega arith, omega arith)
number_range LastPath = (omega arith, omega arith)
number_range (Line k) = (omega arith, omega arith)
number_range NoRoom = (omega arith, omega arith)
number_range ManyOutcomes = (omega arith, omega arith)

-- so none is 0
pub number_some : (r : Refusal) → (refused_answer r).refusal ≡ pos 0 → ⊥
number_some r e = omega (arith, (number_range r).0, ap nat_abs e)

-- ---- answers whose refusal number is 0

pub status_done : (a : Status) → (status_answer a).refusal ≡ pos 0 → a ≡ Ok tt
status_done (Ok x) e = refl
status_done (Err r) e = absurd (number_some r e)

pub count_done : (a : Count) (n : ℕ) → (count_answer a).refusal ≡ pos 0 → (count_answer a).value ≡ pos n → a ≡ Ok n
count_done (Ok m) n e f = ap Ok (ap nat_abs f)
count_done (Err r) n e f = absurd (number_some r e)

pub counted_done : (a : Counted) → (counted_answer a).refusal ≡ pos 0 → (v : ℕ) × (n : ℕ) × (a ≡ tallied v n)
counted_done (Ok x) e = (x.value, x.count, refl)
counted_done (Err r) e = absurd (number_some r e)

-- ---- refusals by their numbers

count_refused : (a : Count) (n : ℕ) → 1 ≤ n → (count_answer a).refusal ≡ pos n → a ≡ Err (refusal_of n (nat_abs (count_answer a).place))
count_refused (Ok m) n l e = absurd (omega (arith, ap nat_abs e))
count_refused (Err r) n l e = ap Err (sym (of_own r) ∙ ap (λ (m : ℕ). refusal_of m (place r)) (ap nat_abs e))

pub count_eleven : (a : Count) → (count_answer a).refusal ≡ pos 11 → a ≡ Err (NoOutcome (nat_abs (count_answer a).place))
unfolding refusal_of
count_eleven a e = count_refused a 11 (omega arith) e

pub count_sixteen : (a : Count) → (count_answer a).refusal ≡ pos 16 → a ≡ Err ManyOutcomes
unfolding refusal_of
count_sixteen a e = count_refused a 16 (omega arith) e

-- ---- answers with no number to give

pub status_small : (a : Status) → SmallStatus a → Small (λ _. (0, 0)) a
status_small (Ok x) l = (lit< tt, lit< tt)
status_small (Err r) l = l
