-- What the inner functions ask and answer, and what proofs speak of. The definitions of the other files do not rest on these.
-- Assumes nothing.
use Rattle.std.specs.Prelude.{Result, Ok, Err}
use Rattle.layout.specs.declared.Header.{Header}
use Rattle.records.specs.declared.contract.Contract.{Contract}
use Rattle.answer.specs.declared.Refusal.{Refusal}
use Rattle.answer.specs.Answers.{Status}

-- the same by a status, where the header is known already
unfoldable pub after : {A : Type 0} → Status → (Refusal → A) → A → A
after t refused work = elim t [ Ok _ ↦ work | Err r ↦ refused r ]

-- where a climb stops, by the header of its contract
abbrev pub headed : Result Contract Refusal → Result Header Refusal
headed (Ok k) = Ok k.sheet.header
headed (Err r) = Err r
