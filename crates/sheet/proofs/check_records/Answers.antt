-- `sheet::check_records` meets its contract. Assumes nothing.
use Rattle.std.proofs.lemmas.Result.{err_from_is_err_and}
use Rattle.sheet.proofs.Parts.{all_parts}
use Rattle.sheet.proofs.check_records.Goals as goal

pub returns-in_err-upper : goal.returns-in_err-upper
returns-in_err-upper c = let p = err_from_is_err_and c.from_residual.result c.from_residual.ensures.1 in
    rw (p.1, p.2, ← all_parts c.args.s.now.words.now c.args.s.now.header, ← c.in_err-upper.ensures.first)

pub returns-in_err-middle : goal.returns-in_err-middle
returns-in_err-middle c = let p = err_from_is_err_and c.from_residual-in_err-middle.result c.from_residual-in_err-middle.ensures.1 in
    rw (p.1, p.2, ← all_parts c.args.s.now.words.now c.args.s.now.header, ← c.in_ok-upper.ensures.first, ← c.in_err-middle.ensures.first)

pub returns : goal.returns
returns c = rw (← all_parts c.args.s.now.words.now c.args.s.now.header, ← c.in_ok-upper.ensures.first, ← c.in_ok-middle.ensures.first, c.lower.ensures)
