-- 01, S3a and S4: what a persona's operations can do.
-- Assumes nothing.
use Rattle.std.specs.Prelude.{ℕ, ℤ, pos, Bool, ◌&&◌, List, leb, ltb}
use Rattle.tables.specs.Scan.{any_below}
use Rattle.signed.specs.Words.{within}
use Rattle.words.specs.declared.Record.{Record}
use Rattle.layout.specs.declared.Header.{Header}
use Rattle.layout.specs.Tables.{operation, effect, precondition_of, effect_start_of}
use Rattle.item.specs.declared.Item.{Item}
use Rattle.records.specs.Nodes.{item_of}
use Rattle.records.specs.Operations.{effects_end}
use Rattle.operation.specs.Mask.{allowed}
use Rattle.reach.specs.Moves.{leaves, leads}

-- effect e is one of operation o's, and passes the test f
unfoldable pub effect_passes : List ℤ → Header → ℕ → (Record ℕ → Bool) → ℕ → Bool
effect_passes s h o f e = leb (effect_start_of (operation s h o)) e && ltb e (effects_end s h o) && f (effect s h e)

-- some effect of operation o passes the test f
unfoldable pub some_effect : List ℤ → Header → ℕ → (Record ℕ → Bool) → Bool
some_effect s h o f = any_below (effect_passes s h o f) h.effects

-- a range includes 1
abbrev pub includes_one : Item → Bool
includes_one x = within x.low (pos 1) x.high

-- "the precondition's range includes 1"
unfoldable pub can_be_true : List ℤ → Header → ℕ → Bool
can_be_true s h o = includes_one (item_of s h (precondition_of (operation s h o)))

-- S3a: "yes for (entity, state, persona, operation) if the mask has the persona, an effect starts from that state of that entity, and the
-- precondition's range includes 1"
unfoldable pub admissible : List ℤ → Header → ℕ → ℕ → ℕ → ℕ → Bool
admissible s h n q p o = allowed s h o p && some_effect s h o (leaves n q) && can_be_true s h o

-- operation o "passes S3a and has that effect"
unfoldable pub causes : List ℤ → Header → ℕ → ℕ → ℕ → ℕ → ℕ → Bool
causes s h p n a b o = admissible s h n a p o && some_effect s h o (leads n a b)

-- S4: "whether a persona can cause (entity, from, to)": some operation does
unfoldable pub can_cause : List ℤ → Header → ℕ → ℕ → ℕ → ℕ → Bool
can_cause s h p n a b = any_below (causes s h p n a b) h.operations
