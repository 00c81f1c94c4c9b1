-- `operation::shift` meets its contract. Assumes nothing.
use Rattle.operation.proofs.Moving.{shifted_on, shifted_off}
use Rattle.operation.proofs.Targets.{has_state, has_flag, small_states}
use Rattle.signed.proofs.Fit.{back_of}
use mathlib.Core.Path.{ap, ◌∙◌}
use lib.IntN.{pos}
use native.Mathlib.Omega.{arith}
use Rattle.words.specs.Record.{record_at}
use Rattle.operation.proofs.shift.Goals as goal

pub bounds-moved-n : goal.bounds-moved-n
unfolding record_at
bounds-moved-n c = rw c.effect_word-n.ensures (omega (arith, has_flag c.requires.read, c.requires.moved_len))

pub to_word-requires : goal.to_word-requires
unfolding record_at
to_word-requires c = rw c.effect_word.ensures (omega (arith, small_states c.requires.read))

pub offset_bounds-states-n : goal.offset_bounds-states-n
unfolding record_at
offset_bounds-states-n c = rw c.effect_word-n.ensures (omega (arith, has_flag c.requires.read))

pub bounds-states-n : goal.bounds-states-n
unfolding record_at
bounds-states-n c = rw c.effect_word-n.ensures (has_state c.requires.read)

pub bounds-moved-n-then-on : goal.bounds-moved-n-then-on
unfolding record_at
bounds-moved-n-then-on c = rw c.effect_word-n.ensures (omega (arith, has_flag c.requires.read, c.requires.moved_len))

pub returns-then-on : goal.returns-then-on
unfolding record_at
returns-then-on c = shifted_on _ _ _ _ _ _ _ c.effect_word-n.ensures c.starts.ensures _ c.if-on.true
    (back_of c.to_word.result c.to_word.type_inv ∙ c.to_word.ensures ∙ ap pos c.effect_word.ensures)

pub returns-else-on : goal.returns-else-on
unfolding record_at
returns-else-on c = shifted_off _ _ _ _ _ _ _ c.effect_word-n.ensures c.starts.ensures c.if-on.false
