-- The effects of one outcome stand together; the flags of the entities that they match.
-- Assumes nothing.
use mathlib.Core.Path.{◌≡◌, refl, sym, ◌∙◌}
use mathlib.Core.Bool.{Bool, true, false, ◌&&◌, ◌||◌}
use mathlib.Core.List.{List}
use Prim.Native.Nat.{ℕ, ◌+◌, ◌≤◌, ◌<◌}
use lib.IntN.{ℤ}
use lib.ListN.{length, get_or, set, length-set}
use lib.Seq.{set-get_or}
use lib.Dec.{leb, eqb}
use native.Mathlib.Omega.{arith}
use native.Mathlib.Decide.{dec_lt}
use borrow.Author.Tests.{le-leb}
use Rattle.tables.specs.Scan.{any_below}
use Rattle.tables.specs.Inner.{marked}
use Rattle.tables.proofs.Bools.{tests, same_tests, or_true_right}
use Rattle.tables.proofs.Scans.{any_at, any_of, any_more, none_any}
use Rattle.tables.proofs.Entries.{marked_flags, or_false}
use Rattle.layout.specs.declared.Header.{Header}
use Rattle.layout.specs.Tables.{operation, effect}
use Rattle.records.specs.Operations.{effects_end, outcome}
use Rattle.records.proofs.OperationLaws.{ascends, inside}
use Rattle.operation.specs.Outcomes.{of_outcome, starts, moves, matched}
use Rattle.operation.specs.Ready.{Ready}
use Rattle.operation.specs.declared.Effects.{Effects}
use Rattle.operation.specs.Inner.{OutcomeAt, Clear, Collected, effects_of}
use Rattle.operation.proofs.Targets.{end_is}

-- a flag that is joined with a test is set where the test holds
set_or : (flags : List Bool) (n : ℕ) (on : Bool) → set flags n (get_or flags n false || on) ≡ marked on n flags
set_or flags n true = rw (or_true_right (get_or flags n false) true refl)
set_or flags n false = rw (or_false (get_or flags n false)) (set-get_or flags n false)

-- effect d stands at or past `at`, and starts from the present state of entity n
unfoldable pub hits : List ℤ → Header → List ℤ → ℕ → ℕ → ℕ → Bool
hits s h states at n d = leb at d && (starts states (effect s h d) && eqb (effect s h d).w0 n)

-- the effects from `at` up to e are of outcome j, and the flags say which entities they match
pub record Collecting (s : List ℤ) (h : Header) (states : List ℤ) (at j end e : ℕ) (flags : List Bool) : Type 0 where
  pub order : at ≤ e
  pub here : e ≤ end
  pub run : (d : ℕ) → at ≤ d → d < e → outcome s h d ≡ j
  pub long : length flags ≡ 32
  pub each : (n : ℕ) → n < 32 → get_or flags n false ≡ any_below (hits s h states at n) e

module _ (s : List ℤ) (h : Header) (states : List ℤ) (at j end : ℕ) where
  pub none : (flags : List Bool) → at ≤ end → Clear flags → Collecting s h states at j end at flags
  unfolding hits
  none flags l k =
      record {
        order = omega arith;
        here = l;
        run = λ d p q. absurd (omega arith);
        long = k.long;
        each = λ n q. k.each n q ∙ sym (none_any (hits s h states at n) at (λ d p. rw (borrow.Author.Tests.lt-leb at d p)));
      }

  pub more : (e : ℕ) (flags : List Bool) (on joined : Bool) (n : ℕ) → Collecting s h states at j end e flags → e < end → outcome s h e ≡ j
      → on ≡ starts states (effect s h e) → n ≡ (effect s h e).w0 → joined ≡ (get_or flags n false || on) → Collecting s h states at j end (e + 1)
      (set flags n joined)
  unfolding hits
  more e flags on joined n r l out p q t =
      record {
        order = omega (arith, r.order);
        here = omega arith;
        run = λ d a b. go d a (dec_lt d e) b;
        long = length-set flags n joined ∙ r.long;
        each = λ m k.
            rw (t, set_or flags n on)
            (marked_flags (λ (i : ℕ). any_below (hits s h states at i) e) on n flags (λ i t. r.each i (rw r.long at t)) m (rw r.long k)
            ∙ rw (any_more (hits s h states at m) e, le-leb at e r.order, p, q));
      }
    where
      go : (d : ℕ) → at ≤ d → Dec (d < e) → d < e + 1 → outcome s h d ≡ j
      go d a (yes y) b = r.run d a y
      go d a (no x) b = let z : d ≡ e = omega arith in rw z out

-- the effects of outcome j end at `stop`
module _ {s : List ℤ} {h : Header} {states : List ℤ} {o : ℕ} (w : Ready s h states o) (j at stop : ℕ) (flags : List Bool) (k : OutcomeAt s h o j at)
    (r : Collecting s h states at j (effects_end s h o) stop flags) (last : stop < effects_end s h o → outcome s h stop ≡ j → ⊥) where
  next : OutcomeAt s h o (j + 1) stop
  next =
      record {
        low = omega (arith, k.low, r.order);
        high = r.here;
        before = λ e a b. go e a b (dec_lt e at);
        from = λ e a b.
            let z = last (omega arith) in
            omega (
              arith,
              k.from stop r.order (omega arith),
              ascends w.accepted o w.exists stop e a (record { low = omega (arith, k.low, r.order); high = omega arith })
                  (record { low = omega (arith, k.low, r.order); high = b }),
            );
      }
    where
      go : (e : ℕ) → (operation s h o).w2 ≤ e → e < stop → Dec (e < at) → outcome s h e < j + 1
      go e a b (yes y) = omega (arith, k.before e a y)
      go e a b (no x) = omega (arith, r.run e (omega arith) b)

  of_block : (e : ℕ) → at ≤ e → e < stop → of_outcome s h o j e ≡ true
  unfolding of_outcome
  of_block e a b = simp tests ((omega (arith, k.low), omega (arith, r.here)), r.run e a b)

  in_block : (e : ℕ) → of_outcome s h o j e ≡ true → (at ≤ e) × (e < stop)
  unfolding of_outcome
  in_block e p = let q = simp tests at p in (low q (dec_lt e at), high q (dec_lt e stop))
    where
      low : (((operation s h o).w2 ≤ e) × (e < effects_end s h o)) × (outcome s h e ≡ j) → Dec (e < at) → at ≤ e
      low q (yes y) = absurd (omega (arith, k.before e q.0.0 y, q.1))
      low q (no x) = omega arith

      high : (((operation s h o).w2 ≤ e) × (e < effects_end s h o)) × (outcome s h e ≡ j) → Dec (e < stop) → e < stop
      high q (yes y) = y
      high q (no x) = absurd (omega (arith, next.from e (omega arith) q.0.1, q.1))

  hit_matched : (n d : ℕ) → d < stop → hits s h states at n d ≡ true → matched s h states o j n ≡ true
  unfolding hits matched moves
  hit_matched n d l p =
      let q = simp tests at p in
      any_of (moves s h states o j n) h.effects d
      (inside w.accepted o w.exists d (record { low = omega (arith, k.low); high = omega (arith, r.here) }))
      (simp tests (of_block d q.0 l, q.1))

  moves_hit : (n d : ℕ) → moves s h states o j n d ≡ true → any_below (hits s h states at n) stop ≡ true
  unfolding hits moves
  moves_hit n d p =
      let q = simp tests at p in
      let b = in_block d q.0 in
      any_of (hits s h states at n) stop d b.1 (simp tests (b.0, q.1))

  pub collected : Collected s h states o j at stop flags
  unfolding matched
  collected =
      record {
        next = next;
        order = r.order;
        inside = of_block;
        only = in_block;
        long = r.long;
        each = λ n l.
            r.each n l
            ∙ same_tests (any_below (hits s h states at n) stop) (matched s h states o j n)
            (λ p. let d = any_at (hits s h states at n) stop p in hit_matched n d.0 d.1 d.2)
            (λ p. let d = any_at (moves s h states o j n) h.effects p in moves_hit n d.0 d.2);
      }

-- the same, with the end that the code has read
pub collected_by : {s : List ℤ} {h : Header} {states : List ℤ} {o : ℕ} → Ready s h states o → (x : Effects) → x ≡ effects_of s h o
    → (j at stop : ℕ) (flags : List Bool) → OutcomeAt s h o j at
    → Collecting s h states at j x.end stop flags → (stop < x.end → outcome s h stop ≡ j → ⊥) → Collected s h states o j at stop flags
collected_by {s} {h} {states} {o} w x e j at stop flags k r last =
    let z = end_is s h o x e in collected w j at stop flags k (rw z at r) (rw z at last)
