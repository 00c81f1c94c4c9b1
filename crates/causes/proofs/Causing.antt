-- S4's one pass: an operation that has the effect (n, a, b) has one that starts from (n, a).
-- Assumes nothing.
use mathlib.Core.Path.{◌≡◌, refl, sym, ◌∙◌}
use mathlib.Core.Bool.{Bool, true, false, ◌&&◌}
use mathlib.Core.List.{List}
use Prim.Native.Nat.{ℕ, ◌+◌, ◌≤◌, ◌<◌}
use lib.IntN.{ℤ, pos}
use native.Mathlib.Omega.{arith}
use Rattle.tables.proofs.Scans.{any_of, none_any, extend_one}
use Rattle.signed.specs.Words.{within}
use Rattle.words.specs.Record.{number, record_at}
use Rattle.layout.specs.declared.Header.{Header}
use Rattle.layout.specs.Header.{first_operation}
use Rattle.layout.specs.Tables.{operation}
use Rattle.records.specs.Accepted.{Accepted}
use Rattle.records.specs.Nodes.{item_of}
use Rattle.records.proofs.OperationLaws.{operation_ok}
use Rattle.operation.specs.Mask.{allowed}
use Rattle.reach.specs.Moves.{leaves, leads}
use Rattle.causes.specs.Causes.{some_effect, can_be_true, admissible, causes, can_cause}
use Rattle.causes.proofs.Effects.{leads_leaves}

-- the range that the code asks for is that of the precondition
module _ {s : List ℤ} {h : Header} (w : Accepted s h) (o : ℕ) (l : o < h.operations) where
  pub node_read : {base node : ℕ} → base ≡ first_operation h → node ≡ number s (base + o) 1 → node ≡ (operation s h o).w1
  unfolding record_at
  node_read b e = e ∙ rw b

  pub node_there : {base node : ℕ} → base ≡ first_operation h → node ≡ number s (base + o) 1 → node < h.nodes
  node_there b e = rw (node_read b e) (operation_ok w o l).node

  pub range_read : {base node : ℕ} {v : Bool} → base ≡ first_operation h → node ≡ number s (base + o) 1
      → v ≡ within (item_of s h node).low (pos 1) (item_of s h node).high → v ≡ can_be_true s h o
  unfolding can_be_true
  range_read b e z = z ∙ rw (node_read b e)

-- the start from (n, a) need not be looked for where the effect (n, a, b) is
pub one_scan : {s : List ℤ} {h : Header} → Accepted s h → (o : ℕ) → o < h.operations → (p n a b : ℕ)
    → (allowed s h o p && some_effect s h o (leads n a b) && can_be_true s h o) ≡ causes s h p n a b o
unfolding causes admissible
one_scan {s} {h} w o l p n a b = go (some_effect s h o (leads n a b)) refl
  where
    go : (v : Bool) → some_effect s h o (leads n a b) ≡ v
        → (allowed s h o p && some_effect s h o (leads n a b) && can_be_true s h o)
        ≡ (allowed s h o p && some_effect s h o (leaves n a) && can_be_true s h o && some_effect s h o (leads n a b))
    go true e = rw (leads_leaves w o l n a b e, e) (both (allowed s h o p) (can_be_true s h o))
      where
        both : (x y : Bool) → (x && true && y) ≡ (x && true && y && true)
        both true true = refl
        both true false = refl
        both false y = refl
    go false e = rw e (neither (allowed s h o p) (can_be_true s h o) (some_effect s h o (leaves n a)))
      where
        neither : (x y z : Bool) → (x && false && y) ≡ (x && z && y && false)
        neither true true true = refl
        neither true true false = refl
        neither true false true = refl
        neither true false false = refl
        neither false y z = refl

-- r is what the code finds of operation o
pub by_one_scan : {s : List ℤ} {h : Header} → Accepted s h → (o : ℕ) → o < h.operations → (p n a b : ℕ) {r : Bool}
    → r ≡ (allowed s h o p && some_effect s h o (leads n a b) && can_be_true s h o) → r ≡ causes s h p n a b o
by_one_scan w o l p n a b e = e ∙ one_scan w o l p n a b

-- ---- the pass over the operations

-- none of the first o operations causes the change
abbrev pub Uncaused : List ℤ → Header → ℕ → ℕ → ℕ → ℕ → ℕ → Type 0
Uncaused s h p n a b o = (j : ℕ) → j < o → causes s h p n a b j ≡ false

module _ (s : List ℤ) (h : Header) (p n a b : ℕ) where
  pub none : Uncaused s h p n a b 0
  none j l = absurd (omega arith)

  -- c is what the code finds of operation o
  pub more : (o : ℕ) {c : Bool} → Uncaused s h p n a b o → c ≡ causes s h p n a b o → c ≡ false → Uncaused s h p n a b (o + 1)
  more o r e q = extend_one (λ (j : ℕ). causes s h p n a b j ≡ false) o r (sym e ∙ q)

  pub caused_by : (o : ℕ) {c : Bool} → o < h.operations → c ≡ causes s h p n a b o → c ≡ true → true ≡ can_cause s h p n a b
  unfolding can_cause
  caused_by o l e q = sym (any_of (causes s h p n a b) h.operations o l (sym e ∙ q))

  pub uncaused : (o : ℕ) → Uncaused s h p n a b o → h.operations ≤ o → false ≡ can_cause s h p n a b
  unfolding can_cause
  uncaused o r l = sym (none_any (causes s h p n a b) h.operations (λ j k. r j (omega arith)))
