-- What refusal 4 of lent facts tests.
-- Assumes nothing.
use mathlib.Core.Path.{◌≡◌}
use mathlib.Core.Bool.{true, ◌&&◌}
use mathlib.Core.List.{List}
use lib.IntN.{ℤ}
use lib.ListN.{length}
use lib.Dec.{eqb}
use Rattle.tables.proofs.Bools.{tests}
use Rattle.layout.specs.declared.Header.{Header}
use Rattle.facts.specs.declared.Used.{Used}
use Rattle.facts.specs.Lent.{LentFacts}
use Rattle.facts.specs.Inner.{UsedBefore, AllLent}
use Rattle.ladder.specs.Ladder.{facts_lent}

pub all_lent : {s : List ℤ} {h : Header} {t : LentFacts} → facts_lent s h t ≡ true → AllLent s h t
unfolding facts_lent
all_lent p = let q = simp tests at p in record { values = q.0.0.0; given = q.0.0.1; lists = q.0.1; lengths = q.1 }

-- the test by what all facts use
pub lent_test : (s : List ℤ) (h : Header) (t : LentFacts) (u : Used) → UsedBefore s h.facts u
    → eqb (length t.values) h.facts && eqb (length t.given) h.facts && eqb (length t.lists) u.slots
    && eqb (length t.lengths) u.lengths ≡ facts_lent s h t
unfolding facts_lent
lent_test s h t u r = rw (r.slots, r.lengths)
