-- `write_paths` meets its contract: it ends, since each chunk leaves less to write; with what was written, what is left is all lines.
use Rattle.std.proofs.Common.{◌≡◌, length}
use Rattle.path_lines.specs.Output.{sheet_lines}
use Rattle.path_lines.specs.Chunks.{remaining, Stands}
use Rattle.paths.proofs.Written.{Written}
use Rattle.paths.proofs.write_paths.Given as goal

abbrev pub invariant-loop-c : goal.invariant-loop-c
invariant-loop-c g l = record {
  stands : Stands l.s.sheet.words.now l.s.sheet.header l.c l.path;
  room : (256 ≡ length l.path) × (65536 ≡ length l.chunk);
  written : Written (g.W.Write.contents l.initial.out) (g.W.Write.contents l.out) (sheet_lines l.s.sheet.words.now l.s.sheet.header) (remaining l.s.sheet.words.now l.s.sheet.header l.c);
}

abbrev pub decreases-loop-c : goal.decreases-loop-c
decreases-loop-c g l = length (remaining l.s.sheet.words.now l.s.sheet.header l.c)
