-- Walks along a flow: "one step of a flow hands on the next step, or the terminal".
-- Assumes nothing.
use Rattle.std.specs.Prelude.{false, List, ℕ, ◌+◌, ℤ}
use Rattle.answer.specs.Answers.{tallied, Counted}
use Rattle.layout.specs.declared.Header.{Header}
use Rattle.layout.specs.Tables.{flow, step_start_of}
use Rattle.walks.specs.declared.Walker.{Walker}
use Rattle.walks.specs.Paths.{ends, target}

-- a walk starts at a flow's first step
unfoldable pub started : List ℤ → Header → ℕ → Walker
started s h f = record { step = step_start_of (flow s h f); length = 0; finished = false }

-- it takes a route, and comes to the step or the terminal that the route leads to
unfoldable pub taken : List ℤ → Header → Walker → ℕ → Walker
taken s h w r = record { step = target s h r; length = w.length + 1; finished = ends s h r }

-- the answer of a walk that is finished: the terminal, and how many routes were taken
abbrev pub arrived : Walker → Counted
arrived w = tallied w.step w.length
