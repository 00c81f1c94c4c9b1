-- The scans: of the sheet's transitions for the initial state, and of the kept moves for a later one.
-- Assumes nothing.
use mathlib.Core.Path.{◌≡◌, refl, sym, ap, ◌∙◌}
use mathlib.Core.Bool.{Bool, true, false, ◌&&◌, ◌||◌}
use mathlib.Core.List.{List, []}
use Prim.Native.Nat.{ℕ, ◌+◌, ◌≤◌, ◌<◌}
use lib.IntN.{ℤ}
use lib.ListN.{length, get_or, set, replicate, length-set, length-replicate, get_or-replicate}
use lib.Seq.{get_or-set_same, get_or-set_other}
use lib.Dec.{eqb}
use native.Mathlib.Omega.{arith}
use native.Mathlib.Decide.{ℕ_discrete}
use borrow.Author.Tests.{eq-eqb, ne_eqb}
use Rattle.tables.proofs.Bools.{or_assoc}
use Rattle.tables.specs.Scan.{any_below}
use Rattle.tables.specs.Inner.{marked}
use Rattle.tables.proofs.Scans.{any_zero, any_more}
use Rattle.tables.proofs.Entries.{stored, or_false, length_marked, marked_flags}
use Rattle.words.specs.declared.Record.{Record}
use Rattle.words.specs.Record.{record_at}
use Rattle.layout.specs.declared.Header.{Header}
use Rattle.layout.specs.Header.{first_transition}
use Rattle.layout.specs.Tables.{transition}
use Rattle.records.specs.Accepted.{Accepted}
use Rattle.records.proofs.OperationLaws.{entity_ok, transition_ok}
use Rattle.reach.specs.Moves.{leaves, leads}
use Rattle.reach.specs.Inner.{leads_by, Flagging, Spread, Kept, Joined}

-- ---- flags that are set one by one

module _ (f : ℕ → ℕ → Bool) (size : ℕ) (before : List Bool) where
  pub none_flagged : length before ≡ size → Flagging f size 0 before before
  none_flagged long = record { long = long; each = λ q l. sym (rw (any_zero (f q)) (or_false (get_or before q false))) }

  pub one_flagged : (k : ℕ) (t : List Bool) → Flagging f size k before t → (on : Bool) (i : ℕ) (t' : List Bool)
      → ((q : ℕ) → (on && eqb i q) ≡ f q k) → t' ≡ marked on i t → Flagging f size (k + 1) before t'
  one_flagged k t w on i t' e g =
      rw g (record {
        long = length_marked on i t ∙ w.long;
        each = λ q m.
            marked_flags (λ (j : ℕ). get_or before j false || any_below (f j) k) on i t (λ j z. w.each j (rw w.long at z)) q (rw w.long m)
            ∙ or_assoc (get_or before q false) (any_below (f q) k) (on && eqb i q)
            ∙ ap (λ (b : Bool). get_or before q false || (any_below (f q) k || b)) (e q)
            ∙ ap (λ (b : Bool). get_or before q false || b) (sym (any_more (f q) k));
      })

-- ---- the sheet's transitions, for state a

-- a transition leads from and to one of sixteen states
pub states_few : {s : List ℤ} {h : Header} → Accepted s h → {k base : ℕ} {r : Record ℕ} → k < h.transitions → base ≡ first_transition h
    → r ≡ record_at s (base + k) → (r.w1 < 16) × (r.w2 < 16)
states_few {s} {h} a {k} l d e =
    let q = transition_ok a k l in
    let few = (entity_ok a (transition s h k).w0 q.entity).few in
    rw (e, d) (omega (arith, q.from, few), omega (arith, q.to, few))

-- the first k transitions have been scanned
pub record Scanning (s : List ℤ) (h : Header) (n a : ℕ) (before : List Bool) (k : ℕ) (moves : List (List Bool)) (found : List Bool) : Type 0 where
  pub long : length moves ≡ 16
  pub kept : (b : ℕ) → b < 16 → Flagging (leads_by s h n b) 16 k (replicate 16 false) (get_or moves b [])
  pub spread : Flagging (leads_by s h n a) 16 k before found

module _ (s : List ℤ) (h : Header) (n a : ℕ) (before : List Bool) where
  pub none : (moves : List (List Bool)) → moves ≡ replicate 16 (replicate 16 false) → length before ≡ 16 → Scanning s h n a before 0 moves before
  none moves e long =
      rw e (record {
        long = length-replicate 16 (replicate 16 false);
        kept = λ b l. rw (get_or-replicate 16 b (replicate 16 false) [] l)
            (none_flagged (leads_by s h n b) 16 (replicate 16 false) (length-replicate 16 false));
        spread = none_flagged (leads_by s h n a) 16 before long;
      })

  -- one transition more, for state b
  lead_more : (b k : ℕ) (before t : List Bool) → Flagging (leads_by s h n b) 16 k before t → (r : Record ℕ) → r ≡ transition s h k
      → (on : Bool) → on ≡ leaves n b r → Flagging (leads_by s h n b) 16 (k + 1) before (marked on r.w2 t)
  unfolding leads
  lead_more b k before t w r z on f = one_flagged (leads_by s h n b) 16 before k t w on r.w2 (marked on r.w2 t) (λ q. rw (f, z) refl) refl

  module _ (k : ℕ) (moves : List (List Bool)) (found : List Bool) (w : Scanning s h n a before k moves found)
      (r : Record ℕ) (z : r ≡ transition s h k) where
    -- a transition of the entity
    pub more_own : r.w0 ≡ n → r.w1 < 16 → (on : Bool) → on ≡ eqb r.w1 a
        → Scanning s h n a before (k + 1) (set moves r.w1 (set (get_or moves r.w1 []) r.w2 true)) (marked on r.w2 found)
    unfolding leaves
    more_own x m on f =
        let row = set (get_or moves r.w1 []) r.w2 true in
        let own = eq-eqb r.w0 n x in
        record {
          long = length-set moves r.w1 row ∙ w.long;
          kept = λ b l. go b l (ℕ_discrete b r.w1);
          spread = lead_more a k before found w.spread r z on (f ∙ sym (rw own refl));
        }
      where
        go : (b : ℕ) → b < 16 → Dec (b ≡ r.w1)
            → Flagging (leads_by s h n b) 16 (k + 1) (replicate 16 false) (get_or (set moves r.w1 (set (get_or moves r.w1 []) r.w2 true)) b [])
        go b l (yes e) =
            rw (e, get_or-set_same moves r.w1 (set (get_or moves r.w1 []) r.w2 true) [] (omega (arith, w.long)))
            (lead_more r.w1 k (replicate 16 false) (get_or moves r.w1 []) (w.kept r.w1 m) r z true
            (sym (rw (eq-eqb r.w0 n x, eq-eqb r.w1 r.w1 refl) refl)))
        go b l (no c) =
            rw (get_or-set_other moves r.w1 b (set (get_or moves r.w1 []) r.w2 true) [] c)
            (lead_more b k (replicate 16 false) (get_or moves b []) (w.kept b l) r z false
            (sym (rw (eq-eqb r.w0 n x, ne_eqb r.w1 b (λ t. c (sym t))) refl)))

    -- and one of another
    pub more_other : (r.w0 ≡ n → ⊥) → Scanning s h n a before (k + 1) moves found
    unfolding leaves
    more_other x =
        record {
          long = w.long;
          kept = λ b l. lead_more b k (replicate 16 false) (get_or moves b []) (w.kept b l) r z false (sym (rw (ne_eqb r.w0 n x) refl));
          spread = lead_more a k before found w.spread r z false (sym (rw (ne_eqb r.w0 n x) refl));
        }

-- ---- the kept moves from one state

-- the first q of them have been scanned
pub record Joining (row before : List Bool) (q : ℕ) (after : List Bool) : Type 0 where
  pub long : length after ≡ 16
  pub each : (j : ℕ) → j < q → get_or after j false ≡ (get_or before j false || get_or row j false)
  pub rest : (j : ℕ) → q ≤ j → get_or after j false ≡ get_or before j false

module _ (row before : List Bool) where
  pub no_move : length before ≡ 16 → Joining row before 0 before
  no_move long = record { long = long; each = λ j l. absurd (omega arith); rest = λ j l. refl }

  module _ (q : ℕ) (t : List Bool) (w : Joining row before q t) where
    pub one_move : q < 16 → Joining row before (q + 1) (set t q (get_or t q false || get_or row q false))
    one_move l =
        let v = get_or t q false || get_or row q false in
        record {
          long = length-set t q v ∙ w.long;
          each =
              stored (λ (j : ℕ). get_or before j false || get_or row j false) false t q v (omega (arith, w.long)) w.each
              (rw (w.rest q (omega arith)) refl);
          rest = λ j m. get_or-set_other t q j v false (λ z. omega (arith, z)) ∙ w.rest j (omega arith);
        }

    pub all_moves : 16 ≤ q → Joined row before t
    all_moves g = record { long = w.long; each = λ j l. w.each j (omega arith) }

-- what the kept moves lead to from a state is what the sheet's transitions lead to
pub row_spread : (s : List ℤ) (h : Header) (n a : ℕ) {moves : List (List Bool)} {before after : List Bool} → a < 16 → Kept s h n moves
    → Joined (get_or moves a []) before after → Spread s h n a before after
row_spread s h n a {moves = moves} {before = before} l w j =
    record { long = j.long; each = λ q m. j.each q m ∙ ap (λ (b : Bool). get_or before q false || b) (kept_at q m) }
  where
    kept_at : (q : ℕ) → q < 16 → get_or (get_or moves a []) q false ≡ any_below (leads_by s h n a q) h.transitions
    kept_at q m =
        (w.row a l).each q m
        ∙ ap (λ (b : Bool). b || any_below (leads_by s h n a q) h.transitions) (get_or-replicate 16 q false false m)
