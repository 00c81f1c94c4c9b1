-- What calls answer, and the four numbers of each answer.
-- Assumes nothing.
use Rattle.std.specs.Prelude.{ℕ, Result, Ok, Err, ⊤}
use Rattle.answer.specs.declared.Refusal.{Refusal}
use Rattle.answer.specs.declared.Answer.{Answer}
use Rattle.answer.specs.declared.Tally.{Tally}
use Rattle.answer.specs.Number.{refused_answer, done_answer}

-- what a call answers that has no number to give
abbrev pub Status : Type 0
Status = Result ⊤ Refusal

-- that gives one number
abbrev pub Count : Type 0
Count = Result ℕ Refusal

-- that gives two
abbrev pub Counted : Type 0
Counted = Result Tally Refusal

abbrev pub tallied : ℕ → ℕ → Counted
tallied v n = Ok (record { value = v; count = n })

-- the four numbers of an answer, by the two that it gives where the call goes through
abbrev pub answer_of : {A : Type 0} → (A → ℕ × ℕ) → Result A Refusal → Answer
answer_of f (Ok x) = done_answer (f x).0 (f x).1
answer_of f (Err r) = refused_answer r

abbrev pub status_answer : Status → Answer
status_answer t = answer_of (λ _. (0, 0)) t

abbrev pub count_answer : Count → Answer
count_answer c = answer_of (λ n. (n, 0)) c

abbrev pub counted_answer : Counted → Answer
counted_answer c = answer_of (λ x. (x.value, x.count)) c
