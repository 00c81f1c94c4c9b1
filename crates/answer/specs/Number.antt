-- 01, "Refusal numbers", and 02: the number and the place of each refusal, and the four numbers of an answer.
-- Assumes nothing.
use Rattle.std.specs.Prelude.{ℕ, pos}
use Rattle.answer.specs.declared.Refusal.{Refusal}
use Rattle.answer.specs.declared.Refusal.TheVariants.{Header, Group, Record, Length, Missing, FactValue, FactAbsent, State, Persona, Precondition, NoOutcome, NotPath, LastPath, Line, NoRoom, ManyOutcomes}
use Rattle.answer.specs.declared.Answer.{Answer}

-- the number of a refusal
abbrev pub number : Refusal → ℕ
number Header = 1
number Group = 2
number (Record k) = 3
number Length = 4
number Missing = 5
number (FactValue k) = 6
number (FactAbsent k) = 7
number (State k) = 8
number Persona = 9
number Precondition = 10
number (NoOutcome k) = 11
number NotPath = 12
number LastPath = 13
number (Line k) = 14
number NoRoom = 15
number ManyOutcomes = 16

-- the place of a refusal: 0 unless stated
abbrev pub place : Refusal → ℕ
place Header = 0
place Group = 0
place (Record k) = k
place Length = 0
place Missing = 0
place (FactValue k) = k
place (FactAbsent k) = k
place (State k) = k
place Persona = 0
place Precondition = 0
place (NoOutcome k) = k
place NotPath = 0
place LastPath = 0
place (Line k) = k
place NoRoom = 0
place ManyOutcomes = 0

-- a refused answer: its number and its place, the other numbers 0
abbrev pub refused_answer : Refusal → Answer
refused_answer r = record { refusal = pos (number r); place = pos (place r); value = pos 0; count = pos 0 }

-- the answer of a call that went through: its value, and its count where it has one
abbrev pub done_answer : ℕ → ℕ → Answer
done_answer v n = record { refusal = pos 0; place = pos 0; value = pos v; count = pos n }
