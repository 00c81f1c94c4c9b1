-- What the scans of rules, operations and steps read from the nodes' arrays, and the flags of named nodes.
-- Assumes nothing.
use Rattle.std.specs.Prelude.{◌≡◌, Bool, false, not, cond, ◌&&◌, ◌||◌, List, ℕ, ◌-◌, ◌≤◌, ◌<◌, ℤ, leb, ltb, eqb, length, get_or}
use Rattle.words.specs.declared.Record.{Record}
use Rattle.layout.specs.declared.Header.{Header}
use Rattle.layout.specs.Tables.{kind_of, persona_named, route_count_of}
use Rattle.records.specs.Nodes.{item_of, named_by_nodes}
use Rattle.records.specs.Names.{closed}
use Rattle.records.specs.Rules.{stratum}
use Rattle.records.specs.Flows.{good_operation_step}
use Rattle.sheet_nodes.specs.declared.Trees.{Trees}
use Rattle.sheet_nodes.specs.Scopes.{shut}
use Rattle.sheet_nodes.specs.Arrays.{top_of}
use Rattle.sheet_nodes.specs.Steps.{with_flags}

-- what the arrays say of the nodes: their types, which trees cite no element outside a quantifier over its list, and which of them are named
pub record Rooted (s : List ℤ) (h : Header) (f : ℕ → Bool) (t : Trees) : Type 0 where
  pub room : h.nodes ≤ 1024
  pub long : length t.named ≡ 1024
  pub sort : (j : ℕ) → j < h.nodes → get_or t.sorts j 0 ≡ (item_of s h j).sort
  pub shut : (j : ℕ) → j < h.nodes → shut (get_or t.scopes j 0) ≡ closed s h j
  pub names : (a : ℕ) → a < 1024 → get_or t.named a false ≡ f a

-- and the greatest rules that their trees cite
pub record Known (s : List ℤ) (h : Header) (f : ℕ → Bool) (t : Trees) : Type 0 where
  pub rooted : Rooted s h f t
  pub top : (j : ℕ) → j < h.nodes → get_or t.tops j 0 ≡ top_of s h j

-- nothing but flags was changed
abbrev pub Flagged : Trees → Trees → Type 0
Flagged old t = t ≡ with_flags t.named old

abbrev pub NamedByNodes : List ℤ → Header → ℕ → Bool
NamedByNodes s h a = named_by_nodes s h h.nodes a

-- the test of a root from the arrays
abbrev pub root_test : Header → ℕ → Trees → Bool
root_test h a t = ltb a h.nodes && eqb (get_or t.sorts a 0) 0 && shut (get_or t.scopes a 0) && not (get_or t.named a false)

-- a tree whose greatest cited rule is top − 1 cites only rules below k, and of a stratum lower than `own`
unfoldable pub top_lower : List ℤ → Header → ℕ → ℕ → ℕ → Bool
top_lower s h k own top = eqb top 0 || leb top k && ltb (stratum s h (top - 1)) own

-- a step by its kind; `rooted` says whether a branch's node can be a root
abbrev pub kind_test : List ℤ → Header → Record ℕ → Bool → Bool
kind_test s h r rooted = cond (eqb (kind_of r) 0) (good_operation_step s h r) (cond (eqb (kind_of r) 1) (rooted && eqb (persona_named r) 0 && eqb (route_count_of r) 2) false)
