-- `write_output` meets its contract: what is written for the sheet or the refusal is the text's output.
use Rattle.path_lines.proofs.Opening.{entered, entrance_low}
use Rattle.path_lines.proofs.Whole.{said_sheet, said_refused, output_refused}
use Rattle.paths.proofs.Opened.{output_sheet}
use Rattle.std.proofs.Common.{arith, refl, sym, length-take-le}
use Rattle.paths.proofs.write_output.Goals as goal

pub slice_bounds-words-end : goal.slice_bounds-words-end
slice_bounds-words-end g c = omega (arith, (entered _ _ c.in-Ok.ensures.0 c.in-Ok.ensures.1 refl).room, c.open_text.auto.words)

pub invariant_of-sheet : goal.invariant_of-sheet
invariant_of-sheet g c = record { sized = (entered _ _ c.in-Ok.ensures.0 c.in-Ok.ensures.1 refl).sheet.sized }

pub slice_bounds-words-end-in-Ok : goal.slice_bounds-words-end-in-Ok
slice_bounds-words-end-in-Ok g c =
    sym (length-take-le _ _ (omega (arith, (entered _ _ c.in-Ok.ensures.0 c.in-Ok.ensures.1 refl).room, c.open_text.auto.words)))

pub invariant_of-write_paths : goal.invariant_of-write_paths
invariant_of-write_paths g c = record { accepted = (entered _ _ c.in-Ok.ensures.0 c.in-Ok.ensures.1 refl).sheet }

pub write_refused-requires : goal.write_refused-requires
write_refused-requires g c = entrance_low _ c.in-Err.ensures.0 refl

pub returns-in-Ok-clause-notice : goal.returns-in-Ok-clause-notice
returns-in-Ok-clause-notice g c = rw (said_sheet _ _ (sym c.in-Ok.ensures.0) c.in-Ok.ensures.1) at c.write_paths.ensures.notice

pub returns-in-Ok-clause-bytes : goal.returns-in-Ok-clause-bytes
returns-in-Ok-clause-bytes g c = rw (output_sheet _ _ (sym c.in-Ok.ensures.0) c.in-Ok.ensures.1) at c.write_paths.ensures.bytes

pub returns-in-Err-clause-notice : goal.returns-in-Err-clause-notice
returns-in-Err-clause-notice g c = rw (said_refused _ (sym c.in-Err.ensures.0)) at c.write_refused.ensures.notice

pub returns-in-Err-clause-bytes : goal.returns-in-Err-clause-bytes
returns-in-Err-clause-bytes g c = rw (output_refused _ (sym c.in-Err.ensures.0)) at c.write_refused.ensures.bytes
