-- 01, "Refusal numbers": the order of the refusals 1 to 8, which every call that takes a sheet shares, and what a call answers and leaves by
-- where its climb stops. "The smallest number that applies is given"; 6 and 7 are one rung, judged fact by fact.
-- Assumes nothing.
use Rattle.std.specs.Prelude.{Bool, true, false, ◌&&◌, List, ℕ, ℤ, length, ltb, eqb, Result, Ok, Err}
use Rattle.signed.specs.Words.{num}
use Rattle.answer.specs.declared.Refusal.{Refusal}
use Rattle.answer.specs.declared.Refusal.TheVariants.{Length, Missing}
use Rattle.answer.specs.Answers.{Status}
use Rattle.layout.specs.declared.Header.{Header}
use Rattle.layout.specs.Header.{header_of}
use Rattle.records.specs.Accept.{checked}
use Rattle.facts.specs.Lent.{LentFacts, slots_before, lengths_before}

-- where a climb stops: past every rung, under the header of an accepted sheet, or at a refusal
abbrev pub Climbed : Type 0
Climbed = Result Header Refusal

-- ---- the rungs

-- "The smallest number that applies is given": this rung, then the next
unfoldable pub then : Status → Status → Status
then t u = elim t [ Ok _ ↦ u | Err r ↦ Err r ]

-- "given exactly when": a refusal where a test fails
unfoldable pub unless : Bool → Refusal → Status
unless ok r = elim ok [ true ↦ Ok tt | false ↦ Err r ]

-- 4: a lent slice has the wrong length. 5: a number does not exist. 6 and 7: the lent facts. 8: the lent states. A call that is lent no
-- facts, or no states, has Ok there
abbrev pub rungs : Bool → Bool → Status → Status → Status
rungs lengths numbers facts states = then (then (then (unless lengths Length) (unless numbers Missing)) facts) states

-- ---- where a climb stops

-- past the rungs so far, under the header h, or at the refusal
unfoldable pub reached : Status → Header → Climbed
reached t h = elim t [ Ok _ ↦ Ok h | Err r ↦ Err r ]

-- "Calls that take a sheet check it first": an accepted sheet's header, or 1, 2 or 3
unfoldable pub opened : List ℤ → Climbed
opened s = reached (checked s) (header_of s)

-- what a call answers: the refusal, or its work under the header
unfoldable pub by : {A : Type 0} → Climbed → (Refusal → A) → (Header → A) → A
by c refused work = elim c [ Ok h ↦ work h | Err r ↦ refused r ]

-- the sheet's rungs, then those that are judged under its header
unfoldable pub climb : Climbed → (Header → Status) → Climbed
climb o rest = by o Err (λ h. reached (rest h) h)

-- "A refused answer .. every lent buffer still holds what it held"
abbrev pub left : {A : Type 0} → Climbed → A → (Header → A) → A
left c old work = by c (λ _. old) work

-- ---- the tests of 4 and 5

-- 5: a number that a caller names exists where it is 0..n−1
abbrev pub exists : ℤ → ℕ → Bool
exists x n = ltb (num x) n

-- 4: a slice that matches a count exactly
abbrev pub matches : List ℤ → ℕ → Bool
matches t n = eqb (length t) n

-- "values, given flags .. match the header's counts exactly"; 02, CR 6, of lists and their lengths: "other totals: 4"
unfoldable pub facts_lent : List ℤ → Header → LentFacts → Bool
facts_lent s h t =
    matches t.values h.facts
    && matches t.given h.facts
    && matches t.lists (slots_before s h.facts)
    && matches t.lengths (lengths_before s h.facts)
