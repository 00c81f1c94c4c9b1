use Rattle.path_lines.proofs.Cursors.{remaining_past, told_all}
use Rattle.path_lines.proofs.Filling.{progress}
use Rattle.paths.proofs.Written.{written_more, written_all}
use Rattle.std.proofs.Common.{◌∙◌, sym, arith}
use Rattle.paths.proofs.write_paths.Goals as goal

pub loop-c-smaller : goal.loop-c-smaller
loop-c-smaller g c =
    progress c.loop-c.invariant.stands c.loop-c-test.true (omega (arith, c.loop-c.invariant.room.1)) c.fill-f.ensures.1

pub loop-c-preserved : goal.loop-c-preserved
loop-c-preserved g c = record {
  stands = c.fill-f.ensures.0;
  room = (c.loop-c.invariant.room.0 ∙ sym c.fill-f.auto.path, c.loop-c.invariant.room.1 ∙ sym c.fill-f.ensures.1.size);
  written = written_more _ c.loop-c.invariant.written c.in_ok-write_all.ensures.bytes c.fill-f.ensures.1.same;
}

pub returns-clause-notice : goal.returns-clause-notice
returns-clause-notice g c = c.notice_of.ensures ∙ told_all c.loop-c.invariant.stands c.loop-c-test.false

pub returns-clause-bytes : goal.returns-clause-bytes
returns-clause-bytes g c = written_all c.loop-c.invariant.written (remaining_past _ _ _ c.loop-c-test.false)
