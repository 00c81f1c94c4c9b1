-- What the inner functions ask and answer, and what proofs speak of. The definitions of the other files do not rest on these.
-- Assumes nothing.
use Rattle.std.specs.Prelude.{ℕ, ◌^◌, ◌<◌, Result, Ok, Err, ⊤}
use Rattle.answer.specs.declared.Tally.{Tally}
use Rattle.answer.specs.Number.{place, number}
use Rattle.std.proofs.Common.{lit<}
use Rattle.answer.specs.declared.Refusal.{Refusal}
use Rattle.answer.specs.declared.Refusal.TheVariants.{Header, Group, Record, Length, Missing, FactValue, FactAbsent, State, Persona, Precondition, NoOutcome, NotPath, LastPath, Line, NoRoom, ManyOutcomes}

-- what holds of the refusal, where there is one
abbrev pub Every : {A : Type 0} → (Refusal → Type 0) → Result A Refusal → Type 0
Every P (Ok x) = ⊤
Every P (Err r) = P r

-- the two numbers that an answer gives, and a refusal's place, fit a signed word
abbrev pub Small : {A : Type 0} → (A → ℕ × ℕ) → Result A Refusal → Type 0
Small f (Ok x) = ((f x).0 < 2 ^ 63) × ((f x).1 < 2 ^ 63)
Small f (Err r) = place r < 2 ^ 63

abbrev pub SmallStatus : Result ⊤ Refusal → Type 0
SmallStatus t = Every (λ r. place r < 2 ^ 63) t

abbrev pub SmallCount : Result ℕ Refusal → Type 0
SmallCount c = Small (λ n. (n, 0)) c

abbrev pub SmallCounted : Result Tally Refusal → Type 0
SmallCounted c = Small (λ x. (x.value, x.count)) c

-- every number is small
pub number_small : (r : Refusal) → number r < 2 ^ 63
number_small Header = lit< tt
number_small Group = lit< tt
number_small (Record k) = lit< tt
number_small Length = lit< tt
number_small Missing = lit< tt
number_small (FactValue k) = lit< tt
number_small (FactAbsent k) = lit< tt
number_small (State k) = lit< tt
number_small Persona = lit< tt
number_small Precondition = lit< tt
number_small (NoOutcome k) = lit< tt
number_small NotPath = lit< tt
number_small LastPath = lit< tt
number_small (Line k) = lit< tt
number_small NoRoom = lit< tt
number_small ManyOutcomes = lit< tt
