-- `causes::causes` meets its contract: an effect that leads from the state starts from it. Assumes nothing.
use Rattle.std.proofs.Common.{rules}
use Rattle.causes.specs.Inner.{wanted}
use Rattle.causes.proofs.Causing.{by_one_scan}
use Rattle.causes.proofs.causes.Goals as goal

pub returns-then-some_effect : goal.returns-then-some_effect
unfolding wanted
returns-then-some_effect c = by_one_scan c.args.s.now.accepted _ c.requires.1 _ _ _ _ (search rules)

pub returns-else-some_effect : goal.returns-else-some_effect
unfolding wanted
returns-else-some_effect c = by_one_scan c.args.s.now.accepted _ c.requires.1 _ _ _ _ (search rules)
