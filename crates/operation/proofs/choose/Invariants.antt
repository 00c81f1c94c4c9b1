-- `operation::choose` meets its contract: the choice so far, outcome by outcome. Assumes nothing.
use Rattle.std.proofs.Common.{◌≡◌, ◌≤◌, ◌<◌, ◌-◌, ℕ, true, false, get_or}
use Rattle.layout.specs.Tables.{effect}
use Rattle.operation.proofs.OutcomeLoop.{Passed}
use Rattle.operation.proofs.choose.Given as goal

abbrev pub invariant-outcomes : goal.invariant-outcomes
invariant-outcomes l = (l.j ≤ l.outcomes) × Passed l.s.sheet.words.now l.s.sheet.header l.states l.o.0 l.wanted l.j l.at l.choice l.blocker

abbrev pub decreases-outcomes : goal.decreases-outcomes
decreases-outcomes l = l.outcomes - l.j

-- the entities of the effects passed are flagged
abbrev pub invariant-loop-e : goal.invariant-loop-e
invariant-loop-e l =
    ((d : ℕ) → l.first ≤ d → d < l.e → get_or l.found (effect l.s.sheet.words.now l.s.sheet.header d).w0 false ≡ true)
    × (l.j ≡ l.initial.j) × (l.blocker ≡ l.initial.blocker)
