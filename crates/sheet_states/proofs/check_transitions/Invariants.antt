-- `sheet_states::check_transitions` meets its contract. Assumes nothing.
use Rattle.sheet_states.specs.Flags.{Declared}
use lib.ListN.{length}
use Rattle.sheet_states.proofs.check_transitions.Given as goal

abbrev pub invariant-loop-k : goal.invariant-loop-k
invariant-loop-k l = Declared l.s.words.now l.s.header (length l.initial.declared) l.k l.declared
