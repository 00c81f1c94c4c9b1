-- `reach::scan_sheet` meets its contract. Assumes nothing.
use Rattle.std.proofs.Common.{◌≡◌, ◌+◌, sym, ◌∙◌, ap, arith, ℕ, true, false}
use borrow.Author.Tests.{eq-eqb, ne_eqb}
use Rattle.words.specs.Record.{record_at}
use Rattle.layout.specs.Tables.{transition}
use Rattle.reach.proofs.Scanning.{states_few, none, more_own, more_other}
use Rattle.reach.proofs.scan_sheet.Goals.{then-r-n+then-r-state, then-r-n+else-r-state, else-r-n}
use Rattle.reach.proofs.scan_sheet.Goals as goal

pub loop-k-init : goal.loop-k-init
loop-k-init c = none _ _ _ _ _ _ c.requires c.told-found

pub offset_bounds-moves-r : goal.offset_bounds-moves-r
offset_bounds-moves-r c = omega (
  arith,
  states_few c.args.s.now.accepted c.loop-k-test.true c.first_transition-base.ensures c.record_at-r.ensures,
)

pub bounds-moves-r : goal.bounds-moves-r
bounds-moves-r c = (states_few c.args.s.now.accepted c.loop-k-test.true c.first_transition-base.ensures c.record_at-r.ensures).0

pub bounds-moves-r-then-r-n : goal.bounds-moves-r-then-r-n
bounds-moves-r-then-r-n c = (states_few c.args.s.now.accepted c.loop-k-test.true c.first_transition-base.ensures c.record_at-r.ensures).1

pub bounds-found-r : goal.bounds-found-r
bounds-found-r c = (states_few c.args.s.now.accepted c.loop-k-test.true c.first_transition-base.ensures c.record_at-r.ensures).1

pub loop-k-preserved : goal.loop-k-preserved
loop-k-preserved c =
    let few = (states_few c.args.s.now.accepted c.loop-k-test.true c.first_transition-base.ensures c.record_at-r.ensures).0 in
    let z : c.record_at-r.result ≡ transition c.args.s.now.sheet.words.now c.args.s.now.sheet.header c.loop-k.k =
    c.record_at-r.ensures ∙ ap (λ (i : ℕ). record_at c.args.s.now.sheet.words.now (i + c.loop-k.k)) c.first_transition-base.ensures
    in
    elim c.if-r-n.branch [
      | then-r-n+then-r-state w ↦
          rw (w.moves-is, w.found-is)
          (more_own _ _ _ _ _ _ _ _ c.loop-k.invariant _ z w.if-r-n.true few true (sym (eq-eqb _ _ w.if-r-state.true)))
      | then-r-n+else-r-state w ↦
          rw (w.moves-is, w.found-is)
          (more_own _ _ _ _ _ _ _ _ c.loop-k.invariant _ z w.if-r-n.true few false (sym (ne_eqb _ _ w.if-r-state.false)))
      | else-r-n w ↦ rw (w.moves-is, w.found-is) (more_other _ _ _ _ _ _ _ _ c.loop-k.invariant _ z w.if-r-n.false)
    ]

pub returns-clause-kept : goal.returns-clause-kept
returns-clause-kept c =
    let e : c.loop-k.k ≡ c.args.s.now.sheet.header.transitions = omega arith in
    record { row = rw e at c.loop-k.invariant.kept }

pub returns-clause-spread : goal.returns-clause-spread
returns-clause-spread c =
    let e : c.loop-k.k ≡ c.args.s.now.sheet.header.transitions = omega arith in
    rw e at c.loop-k.invariant.spread
