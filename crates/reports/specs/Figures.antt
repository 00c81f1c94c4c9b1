-- The reports that take one number and answer one: which records it counts, and what is said of one. The answers of the exports are in
-- calls/specs/Reports.antt.
-- Assumes nothing.
use Rattle.std.specs.Prelude.{ℕ, ℤ, List}
use Rattle.layout.specs.declared.Header.{Header}
use Rattle.records.specs.Entities.{states}
use Rattle.records.specs.Rules.{stratum}
use Rattle.records.specs.Operations.{outcomes}
use Rattle.tree.specs.Sizes.{tree_size}
use Rattle.depth.specs.Depth.{depth}
use Rattle.reports.specs.declared.Report.{Report}
use Rattle.reports.specs.declared.Report.TheVariants.{States, Stratum, Outcomes, TreeSize, Depth}

abbrev pub size : Header → Report → ℕ
size h States = h.entities
size h Stratum = h.rules
size h Outcomes = h.operations
size h TreeSize = h.nodes
size h Depth = h.flows

abbrev pub figure : List ℤ → Header → Report → ℕ → ℕ
figure s h States n = states s h n
figure s h Stratum n = stratum s h n
figure s h Outcomes n = outcomes s h n
figure s h TreeSize n = tree_size s h n
figure s h Depth n = depth s h n
