-- `reach::reachable` meets its contract. Assumes nothing.
use Rattle.std.proofs.Common.{◌∙◌}
use Rattle.reach.proofs.Exploring.{initial_is, initial_few, outset, state_few, fewer, turns_few, onward, finished, scans_are}
use Rattle.reach.proofs.reachable.Goals as goal

pub bounds-found-initial : goal.bounds-found-initial
bounds-found-initial c = initial_few c.args.s.now.accepted _ c.requires _
    (initial_is c.args.s.now.accepted _ c.requires _ _ c.first_entity.ensures c.number-initial.ensures)

pub loop-next-init : goal.loop-next-init
loop-next-init c = outset c.args.s.now.accepted _ c.requires _
    (initial_is c.args.s.now.accepted _ c.requires _ _ c.first_entity.ensures c.number-initial.ensures)

pub bounds-scanned-state : goal.bounds-scanned-state
bounds-scanned-state c = state_few c.args.s.now.accepted _ c.requires _ _ _ _ _ c.loop-next.invariant _ c.in-Some.is

pub scan-scans-requires : goal.scan-scans-requires
scan-scans-requires c =
    record {
      scans = (
        state_few c.args.s.now.accepted _ c.requires _ _ _ _ _ c.loop-next.invariant _ c.in-Some.is,
        turns_few c.args.s.now.accepted _ c.requires _ _ _ _ _ c.loop-next.invariant,
      );
      ready = c.loop-next.invariant.ready;
    }

pub loop-next-smaller : goal.loop-next-smaller
loop-next-smaller c = fewer c.args.s.now.accepted _ c.requires _ _ _ _ _ c.loop-next.invariant _ c.in-Some.is

pub loop-next-preserved : goal.loop-next-preserved
loop-next-preserved c = onward c.args.s.now.accepted _ c.requires _ _ _ _ _ c.loop-next.invariant _ _ _ _ _ c.in-Some.is
    c.scan-scans.ensures.value c.scan-scans.ensures.kept c.scan-scans.ensures.spread c.next_open-next.ensures

pub returns : goal.returns
returns c = (
  c.mask_of.ensures ∙ finished c.args.s.now.accepted _ c.requires _ _ _ _ _ c.loop-next.invariant c.in_default.is,
  scans_are c.args.s.now.accepted _ c.requires _ _ _ _ _ c.loop-next.invariant c.in_default.is,
)
