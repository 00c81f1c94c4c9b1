-- `records::fact_item` meets its contract. Assumes nothing.
use mathlib.Core.Path.{◌≡◌}
use lib.Dec.{eqb}
use Rattle.std.specs.Prelude.{cond}
use Rattle.signed.proofs.Fit.{back_of}
use Rattle.node.specs.FactTypes.{fact_type_of}
use Rattle.node.proofs.FactTypeLaws.{type_past}
use Rattle.records.specs.Facts.{set_of}
use Rattle.records.proofs.fact_item.Goals as goal
use Rattle.records.proofs.fact_item.Goals.{in-Ok, in-Err}

pub returns : goal.returns
returns c = let kind = cond (eqb c.number.result 5) c.number-2.result c.number.result in
    let sort : c.match-values.sort ≡ (fact_type_of kind).sort (set_of c.args.s.now c.args.k) = elim c.match-values.branch [
      | in-Ok w ↦ rw (w.sort-is, w.sort-sort.ensures, w.in-Ok.ensures, w.number-in-Ok.ensures)
      | in-Err w ↦ rw (w.sort-is, type_past kind w.in-Err.ensures.1)
    ] in
    rw (
      back_of c.word-2.result c.word-2.type_inv,
      c.word-2.ensures,
      back_of c.word.result c.word.type_inv,
      c.word.ensures,
      sort,
      c.number-2.ensures,
      c.number.ensures,
    )
