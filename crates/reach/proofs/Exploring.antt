-- The states found and those scanned: what is found is reached, and what a scanned state leads to is found. Where all that is found is
-- scanned, all that is reached is found.
-- Assumes nothing.
use mathlib.Core.Path.{◌≡◌, refl, sym, ap, subst, ◌∙◌}
use mathlib.Core.Bool.{Bool, true, false, not, cond, ◌&&◌}
use mathlib.Core.List.{List}
use mathlib.Core.Logic.{◌⊎◌, inl, inr, ⊎_elim}
use Prim.Native.Nat.{ℕ, ◌+◌, ◌-◌, ◌≤◌, ◌<◌}
use lib.IntN.{ℤ}
use lib.ListN.{length, get_or, set, replicate, length-set, get_or-replicate}
use lib.Seq.{get_or-set_same, get_or-set_other}
use native.Mathlib.Omega.{arith}
use native.Mathlib.Decide.{ℕ_discrete}
use Rattle.tables.specs.Scan.{any_below, sum_below}
use Rattle.tables.proofs.Bools.{tests, true_false, or_cases, or_true_left, or_true_right, same_tests}
use Rattle.tables.proofs.Scans.{any_at, any_of}
use Rattle.tables.proofs.Scanned.{first_scan}
use Rattle.words.specs.Record.{number, record_at}
use Rattle.layout.specs.declared.Header.{Header}
use Rattle.layout.specs.Header.{first_entity}
use Rattle.layout.specs.Tables.{entity, transition}
use Rattle.records.specs.Accepted.{Accepted}
use Rattle.std.specs.Prelude.{Option, None, Some}
use Rattle.std.proofs.lemmas.Option.{cond_some}
use borrow.Author.Tests.{ltb-true, ltb-false}
use Rattle.operation.specs.Mask.{in_mask}
use Rattle.reach.specs.Reached.{Reached, initial, along, flagged, mask_below, reachable, count_below, states_in, scans}
use Rattle.reach.specs.Moves.{leaves, leads}
use Rattle.reach.specs.Inner.{leads_by, Spread, Kept, Ready, settled, next_open}
use Rattle.reach.proofs.Counts.{count_most, count_set, count_agree}
use Rattle.reach.proofs.Masks.{mask_same, mask_bit}
use Rattle.reach.proofs.Rounds.{flag_in, reached_below, flagged_reached}

cond_none : (b : Bool) (x : ℕ) → cond b (Some x) None ≡ None → b ≡ false
cond_none true x p = let z : ◌≡◌ {A = ℕ} 0 1 = cc in absurd (omega arith)
cond_none false x p = refl

-- how many states are scanned
abbrev pub states_scanned : List Bool → ℕ
states_scanned scanned = count_below (λ q. get_or scanned q false) 16

pub record Exploring (s : List ℤ) (h : Header) (n : ℕ) (moves : List (List Bool)) (found scanned : List Bool) (next : Option ℕ) (turns : ℕ)
    : Type 0 where
  pub ready : Ready s h n turns moves
  pub found_long : length found ≡ 16
  pub scanned_long : length scanned ≡ 16
  pub within : (q : ℕ) → get_or scanned q false ≡ true → get_or found q false ≡ true
  pub sound : (q : ℕ) → get_or found q false ≡ true → Reached s h n q
  pub first : get_or found (entity s h n).w1 false ≡ true
  pub closed : (q : ℕ) → get_or scanned q false ≡ true → (k : ℕ) → k < h.transitions → (transition s h k).w0 ≡ n → (transition s h k).w1 ≡ q
      → get_or found (transition s h k).w2 false ≡ true
  pub fresh : (i : ℕ) → next ≡ Some i → (i < 16) × (get_or found i false ≡ true) × (get_or scanned i false ≡ false)
  pub all : next ≡ None → (q : ℕ) → q < 16 → get_or found q false ≡ true → get_or scanned q false ≡ true
  -- each scan is counted
  pub counted : turns ≡ states_scanned scanned

none_scanned : states_scanned (replicate 16 false) ≡ 0
unfolding count_below sum_below
none_scanned = refl

-- no flag is set
clear : (q : ℕ) → get_or (replicate 16 false) q false ≡ true → ⊥
clear q p = true_false p (get_or-replicate 16 q false false (flag_in (replicate 16 false) q p))

module _ {s : List ℤ} {h : Header} (a : Accepted s h) (n : ℕ) (l : n < h.entities) where
  -- the word that the code reads is the initial state
  pub initial_is : (base state : ℕ) → base ≡ first_entity h → state ≡ number s (base + n) 1 → state ≡ (entity s h n).w1
  unfolding record_at
  initial_is base state b e = rw b at e

  pub initial_few : (state : ℕ) → state ≡ (entity s h n).w1 → state < 16
  initial_few state e = rw e (reached_below a n l initial)

  -- the initial state is found, and is the first to be scanned
  pub outset : (state : ℕ) → state ≡ (entity s h n).w1
      → Exploring s h n (replicate 16 (replicate 16 false)) (set (replicate 16 false) state true) (replicate 16 false) (Some state) 0
  outset state e =
      let set_at : get_or (set (replicate 16 false) state true) state false ≡ true = get_or-set_same (replicate 16 false) state true false (initial_few state e) in
      record {
        ready = record { first = λ z. refl; later = λ m. absurd (omega arith) };
        found_long = length-set (replicate 16 false) state true;
        scanned_long = refl;
        within = λ q p. absurd (clear q p);
        sound = λ q p. only q p (ℕ_discrete q state);
        first = rw (← e) set_at;
        closed = λ q p k m x y. absurd (clear q p);
        fresh = λ i y. let z : state ≡ i = cc in rw (← z) (initial_few state e, set_at, get_or-replicate 16 state false false (initial_few state e));
        all = λ m q k p. let z : ◌≡◌ {A = ℕ} 0 1 = cc in absurd (omega arith);
        counted = sym none_scanned;
      }
    where
      only : (q : ℕ) → get_or (set (replicate 16 false) state true) q false ≡ true → Dec (q ≡ state) → Reached s h n q
      only q p (yes z) = subst (Reached s h n) (sym (z ∙ e)) initial
      only q p (no x) = absurd (clear q (sym (get_or-set_other (replicate 16 false) state q true false x) ∙ p))

  module _ (moves : List (List Bool)) (found scanned : List Bool) (next : Option ℕ) (turns : ℕ)
      (r : Exploring s h n moves found scanned next turns) where
    -- a state more is scanned
    module _ (state : ℕ) (i : next ≡ Some state) where
      pub state_few : state < 16
      state_few = (r.fresh state i).0

      one_more : states_scanned (set scanned state true) ≡ states_scanned scanned + 1
      one_more = count_set scanned state 16 state_few (omega (arith, r.scanned_long, state_few)) (r.fresh state i).2

      pub fewer : 16 - states_scanned (set scanned state true) < 16 - states_scanned scanned
      fewer = omega (arith, one_more, count_most (λ q. get_or (set scanned state true) q false) 16)

    -- there are sixteen scans at most
    pub turns_few : turns ≤ 16
    turns_few = omega (arith, r.counted, count_most (λ q. get_or scanned q false) 16)

    module _ (moves' : List (List Bool)) (found' : List Bool) (state : ℕ) (next' : Option ℕ) (turns' : ℕ) (m : next ≡ Some state)
        (u : turns' ≡ turns + 1) (v : Kept s h n moves') (w : Spread s h n state found found')
        (o : next' ≡ next_open found' (set scanned state true)) where
      kept : (q : ℕ) → get_or found q false ≡ true → get_or found' q false ≡ true
      kept q p = w.each q (omega (arith, flag_in found q p, r.found_long)) ∙ or_true_left _ _ p

      led : (q : ℕ) → any_below (leads_by s h n state q) h.transitions ≡ true → Reached s h n q
      unfolding leads leaves
      led q p =
          let d = any_at (leads_by s h n state q) h.transitions p in
          let t = simp tests at d.2 in
          subst (Reached s h n) t.1 (along (r.sound state (r.fresh state m).1) d.0 d.1 t.0.0 t.0.1)

      leads_to : (k : ℕ) → k < h.transitions → (transition s h k).w0 ≡ n → (transition s h k).w1 ≡ state
          → get_or found' (transition s h k).w2 false ≡ true
      unfolding leads leaves
      leads_to k j x y =
          let q = (transition s h k).w2 in
          w.each q (reached_below a n l (along (r.sound state (r.fresh state m).1) k j x y))
          ∙ or_true_right (get_or found q false) _ (any_of (leads_by s h n state q) h.transitions k j (simp tests ((x, y), refl)))

      was : (q : ℕ) → get_or (set scanned state true) q false ≡ true → Dec (q ≡ state) → (q ≡ state) ⊎ (get_or scanned q false ≡ true)
      was q p (yes z) = inl z
      was q p (no x) = inr (sym (get_or-set_other scanned state q true false x) ∙ p)

      settled_scanned : (q : ℕ) → settled found' (set scanned state true) q ≡ true → get_or found' q false ≡ true
          → get_or (set scanned state true) q false ≡ true
      unfolding settled
      settled_scanned q p f = go (get_or found' q false) (get_or (set scanned state true) q false) p f
        where
          go : (x y : Bool) → not (x && not y) ≡ true → x ≡ true → y ≡ true
          go x true p f = refl
          go true false p f = p
          go false false p f = f

      unsettled : (q : ℕ) → settled found' (set scanned state true) q ≡ false
          → (get_or found' q false ≡ true) × (get_or (set scanned state true) q false ≡ false)
      unfolding settled
      unsettled q p = go (get_or found' q false) (get_or (set scanned state true) q false) p
        where
          go : (x y : Bool) → not (x && not y) ≡ false → (x ≡ true) × (y ≡ false)
          go true true p = absurd (true_false refl p)
          go true false p = (refl, refl)
          go false y p = absurd (true_false refl p)

      -- the first state that is not settled, if there is one
      open_at : (i : ℕ) → next_open found' (set scanned state true) ≡ Some i
          → (i < 16) × (get_or found' i false ≡ true) × (get_or (set scanned state true) i false ≡ false)
      unfolding next_open
      open_at i p =
          let q = cond_some _ _ _ p in
          let l = ltb-true _ _ q.0 in
          let z = unsettled _ ((first_scan (settled found' (set scanned state true)) 16).fails l) in
          rw (← q.1) (l, z.0, z.1)

      all_settled : next_open found' (set scanned state true) ≡ None → (q : ℕ) → q < 16 → settled found' (set scanned state true) q ≡ true
      unfolding next_open
      all_settled p q k =
          (first_scan (settled found' (set scanned state true)) 16).passed q (omega arith)
          (omega (arith, ltb-false _ _ (cond_none _ _ p)))

      pub onward : Exploring s h n moves' found' (set scanned state true) next' turns'
      onward =
          record {
            ready = record { first = λ z. absurd (omega (arith, u, z)); later = λ _. v };
            found_long = w.long;
            scanned_long = length-set scanned state true ∙ r.scanned_long;
            within = λ q p. ⊎_elim (λ z. rw z (kept state (r.fresh state m).1)) (λ z. kept q (r.within q z)) (was q p (ℕ_discrete q state));
            sound =
                λ q p. ⊎_elim (λ z. r.sound q z) (λ z. led q z) (or_cases _ _ (sym (w.each q (omega (arith, flag_in found' q p, w.long))) ∙ p));
            first = kept (entity s h n).w1 r.first;
            closed = λ q p k j x y. ⊎_elim (λ z. leads_to k j x (y ∙ z)) (λ z. kept _ (r.closed q z k j x y)) (was q p (ℕ_discrete q state));
            fresh = λ i j. open_at i (sym o ∙ j);
            all = λ j q k p. settled_scanned q (all_settled (sym o ∙ j) q k) p;
            counted = u ∙ rw r.counted (sym (one_more state m));
          }

    -- nothing is left to scan: all that is reached is found
    module _ (g : next ≡ None) where
      all_found : {q : ℕ} → Reached s h n q → get_or found q false ≡ true
      all_found initial = r.first
      all_found (along {q} v k m x y) = r.closed q (r.all g q (reached_below a n l v) (all_found v)) k m x y

      pub finished : mask_below (λ q. get_or found q false) 16 ≡ reachable s h n
      unfolding reachable
      finished =
          mask_same (λ q. get_or found q false) (λ q. get_or (flagged s h n 16) q false) 16
          (λ q k. same_tests (get_or found q false) (get_or (flagged s h n 16) q false) (λ p. (flagged_reached a n l q).1 (r.sound q p))
          (λ p. all_found ((flagged_reached a n l q).0 p)))

      -- and there was a scan for each state in the mask
      pub scans_are : turns ≡ scans s h n
      unfolding scans states_in
      scans_are =
          r.counted
          ∙ count_agree (λ q. get_or scanned q false) (in_mask (reachable s h n)) 16 (λ q k. same q k ∙ in_mask_lem q k)
        where
          same : (q : ℕ) → q < 16 → get_or scanned q false ≡ get_or found q false
          same q k = same_tests _ _ (r.within q) (r.all g q k)

          in_mask_lem : (q : ℕ) → q < 16 → get_or found q false ≡ in_mask (reachable s h n) q
          in_mask_lem q k = sym (ap (λ (m : ℕ). in_mask m q) (sym finished) ∙ mask_bit (λ q. get_or found q false) 16 q k)
