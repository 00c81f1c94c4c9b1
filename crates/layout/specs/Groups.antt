-- 01, "Groups" and refusal 2: effects of operations, steps of flows, routes of steps.
-- Assumes nothing.
use Rattle.std.specs.Prelude.{ℕ, ◌+◌, ℤ, Bool, ◌&&◌, List, leb, eqb}
use Rattle.tables.specs.Scan.{all_below, sum_below}
use Rattle.words.specs.Record.{number}
use Rattle.layout.specs.declared.Header.{Header}
use Rattle.layout.specs.Header.{first_operation, first_flow, first_step}

-- how many effects operation o claims, how many steps flow f, how many routes step i
abbrev pub effect_count : List ℤ → Header → ℕ → ℕ
effect_count s h o = number s (first_operation h + o) 3

abbrev pub step_count : List ℤ → Header → ℕ → ℕ
step_count s h f = number s (first_flow h + f) 1

abbrev pub route_count : List ℤ → Header → ℕ → ℕ
route_count s h i = number s (first_step h + i) 4

-- each owner's count is 0..1,024, and their sum, as they stand, is the table's count
unfoldable pub good_group : (ℕ → ℕ) → ℕ → ℕ → Bool
good_group count owners size = all_below (λ i. leb (count i) 1024) owners && eqb (sum_below count owners) size

unfoldable pub good_groups : List ℤ → Header → Bool
good_groups s h =
    good_group (effect_count s h) h.operations h.effects
    && good_group (step_count s h) h.flows h.steps
    && good_group (route_count s h) h.steps h.routes
