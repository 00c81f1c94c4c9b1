use Rattle.run.proofs.Memory.{memo_none}
use Rattle.run.proofs.RunLoop.{run_none, run_valid, run_step, run_room, run_few, run_route, run_later, run_word, run_more, run_less, run_short, run_done}
use native.Mathlib.Omega.{arith}
use Rattle.run.proofs.run.Goals as goal

pub start-w-requires : goal.start-w-requires
start-w-requires c = c.requires.runnable.lent.flow

pub loop-w-init : goal.loop-w-init
loop-w-init c = (run_none c.requires.runnable c.start-w.ensures _, rw c.new-memo.ensures (memo_none _ _ _ _))

pub overflow_sub-w : goal.overflow_sub-w
overflow_sub-w c = run_later c.requires.runnable c.start-w.ensures c.loop-w.invariant.0 c.loop-w-test.true

pub wanted_at-want-requires : goal.wanted_at-want-requires
wanted_at-want-requires c = run_word c.requires.runnable c.start-w.ensures c.loop-w.invariant.0 c.loop-w-test.true c.requires.wanted_len

pub advance-route-requires : goal.advance-route-requires
advance-route-requires c = record { steppable = run_step c.requires.runnable c.start-w.ensures c.loop-w.invariant.0 c.loop-w-test.true; states_in = run_valid c.requires.runnable c.start-w.ensures c.loop-w.invariant.0; memo = c.loop-w.invariant.1 }

pub overflow_cast-path : goal.overflow_cast-path
overflow_cast-path c = omega (
  arith,
  run_route c.requires.runnable c.start-w.ensures c.loop-w.invariant.0 c.loop-w-test.true c.wanted_at-want.ensures
      c.advance-route.ensures.value,
  c.requires.runnable.lent.sheet.sized.limits.routes,
)

pub offset_bounds-path-w : goal.offset_bounds-path-w
offset_bounds-path-w c = omega (arith, run_few c.requires.runnable c.start-w.ensures c.loop-w.invariant.0 c.loop-w-test.true)

pub bounds-path-w : goal.bounds-path-w
bounds-path-w c = run_room c.requires.runnable c.start-w.ensures c.loop-w.invariant.0 c.loop-w-test.true

pub take-w-requires : goal.take-w-requires
take-w-requires c = record {
  route_lt_routes = run_route c.requires.runnable c.start-w.ensures c.loop-w.invariant.0 c.loop-w-test.true c.wanted_at-want.ensures
      c.advance-route.ensures.value;
  length_bound = omega (arith, run_few c.requires.runnable c.start-w.ensures c.loop-w.invariant.0 c.loop-w-test.true);
}

pub loop-w-smaller : goal.loop-w-smaller
loop-w-smaller c = run_less c.requires.runnable c.start-w.ensures c.loop-w.invariant.0 c.loop-w-test.true c.wanted_at-want.ensures
    c.advance-route.ensures.value c.advance-route.ensures.states_after c.take-w.ensures

pub loop-w-preserved : goal.loop-w-preserved
loop-w-preserved c = (
  run_more c.requires.runnable c.start-w.ensures c.loop-w.invariant.0 c.loop-w-test.true c.wanted_at-want.ensures
      c.advance-route.ensures.value c.advance-route.ensures.states_after c.take-w.ensures,
  c.advance-route.ensures.memo_2,
)

pub clear-requires : goal.clear-requires
clear-requires c = run_short c.requires.runnable c.start-w.ensures c.loop-w.invariant.0

pub returns : goal.returns
returns c = let both = run_done c.requires.runnable c.start-w.ensures c.loop-w.invariant.0 c.loop-w-test.false c.clear.ensures in record { value = both.0; path_after = both.1.0; states_after = both.1.1 }
