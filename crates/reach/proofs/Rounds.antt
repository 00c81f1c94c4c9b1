-- Sixteen rounds flag the states that are reached, and no others: each round flags a state more, or leaves the flags as they were for good.
-- Assumes nothing.
use mathlib.Core.Path.{◌≡◌, refl, sym, ap, subst, ◌∙◌}
use mathlib.Core.Bool.{Bool, true, false, ◌||◌}
use mathlib.Core.List.{List}
use mathlib.Core.Logic.{◌⊎◌, inl, inr, ⊎_elim, ◌↔◌}
use Prim.Native.Nat.{ℕ, zero, suc, ◌≤◌, ◌<◌, ◌^◌}
use lib.IntN.{ℤ}
use lib.ListN.{length, get_or, get_or-eq_default}
use lib.Seq.{ext_get_or}
use lib.Dec.{eqb}
use native.Mathlib.Omega.{arith}
use native.Mathlib.Decide.{dec_lt, dec_le}
use borrow.Author.Tests.{eqb-true, eq-eqb}
use Rattle.tables.specs.Scan.{any_below}
use Rattle.tables.specs.Table.{entry}
use Rattle.tables.proofs.Bools.{tests, true_false, or_cases, or_true_left, or_true_right}
use Rattle.tables.proofs.Scans.{any_at, any_of}
use Rattle.tables.proofs.Grown.{length_grown, grown_at}
use Rattle.layout.specs.declared.Header.{Header}
use Rattle.layout.specs.Tables.{entity, transition}
use Rattle.records.specs.Accepted.{Accepted}
use Rattle.records.specs.Entities.{states}
use Rattle.records.proofs.OperationLaws.{entity_ok, transition_ok}
use Rattle.operation.specs.Mask.{in_mask}
use Rattle.reach.specs.Reached.{Reached, initial, along, enters, round, flagged, mask_below, reachable, count_below, states_in, scans}
use Rattle.reach.proofs.Counts.{count_most, count_same}
use Rattle.reach.proofs.Masks.{mask_below_lem, mask_bit, mask_past}

-- a flag that is set is among the flags
pub flag_in : (t : List Bool) (q : ℕ) → get_or t q false ≡ true → q < length t
flag_in t q p = go (dec_lt q (length t))
  where
    go : Dec (q < length t) → q < length t
    go (yes l) = l
    go (no x) = absurd (true_false p (get_or-eq_default t false (omega arith)))

module _ (s : List ℤ) (h : Header) (n : ℕ) where
  -- ---- one round

  length_round : (flags : List Bool) → length (round s h n flags) ≡ 16
  unfolding round
  length_round flags = length_grown (λ (look : ℕ → Bool) (q : ℕ). get_or flags q false || any_below (enters s h n flags q) h.transitions) false 16

  round_at : (flags : List Bool) (q : ℕ) → q < 16
      → get_or (round s h n flags) q false ≡ (get_or flags q false || any_below (enters s h n flags q) h.transitions)
  unfolding round entry
  round_at flags q l = grown_at (λ (look : ℕ → Bool) (q : ℕ). get_or flags q false || any_below (enters s h n flags q) h.transitions) false 16 q l

  -- a flag stays set
  round_keeps : (flags : List Bool) (q : ℕ) → q < 16 → get_or flags q false ≡ true → get_or (round s h n flags) q false ≡ true
  round_keeps flags q l p = round_at flags q l ∙ or_true_left _ _ p

  -- and where a transition leads from a flagged state is flagged
  round_adds : (flags : List Bool) (k : ℕ) → k < h.transitions → (transition s h k).w0 ≡ n → (transition s h k).w2 < 16
      → get_or flags (transition s h k).w1 false ≡ true
      → get_or (round s h n flags) (transition s h k).w2 false ≡ true
  unfolding enters
  round_adds flags k l e m p =
      round_at flags (transition s h k).w2 m
      ∙ or_true_right (get_or flags (transition s h k).w2 false) _
      (any_of (enters s h n flags (transition s h k).w2) h.transitions k l (simp tests ((e, refl), p)))

  -- ---- all rounds

  -- the flag of state q after i rounds
  abbrev flag : ℕ → ℕ → Bool
  flag i q = get_or (flagged s h n i) q false

  length_flagged : (i : ℕ) → length (flagged s h n i) ≡ 16
  unfolding flagged
  length_flagged zero = length_grown (λ (look : ℕ → Bool) (q : ℕ). eqb q (entity s h n).w1) false 16
  length_flagged (suc i) = length_round (flagged s h n i)

  flagged_suc : (i : ℕ) → flagged s h n (suc i) ≡ round s h n (flagged s h n i)
  unfolding flagged
  flagged_suc i = refl

  start_at : (q : ℕ) → q < 16 → flag 0 q ≡ eqb q (entity s h n).w1
  unfolding flagged entry
  start_at q l = grown_at (λ (look : ℕ → Bool) (q : ℕ). eqb q (entity s h n).w1) false 16 q l

  below : (i q : ℕ) → flag i q ≡ true → q < 16
  below i q p = omega (arith, flag_in (flagged s h n i) q p, length_flagged i)

  keeps : (i q : ℕ) → flag i q ≡ true → flag (suc i) q ≡ true
  keeps i q p = rw (flagged_suc i) (round_keeps (flagged s h n i) q (below i q p) p)

  -- a flagged state is reached
  sound : (i q : ℕ) → flag i q ≡ true → Reached s h n q
  unfolding enters
  sound zero q p = subst (Reached s h n) (sym (eqb-true q (entity s h n).w1 (sym (start_at q (below 0 q p)) ∙ p))) initial
  sound (suc i) q p =
      ⊎_elim (λ a. sound i q a) (λ b. entered (sound i) (any_at (enters s h n (flagged s h n i) q) h.transitions b))
      (or_cases _ _ (sym (round_at (flagged s h n i) q (below (suc i) q p)) ∙ rw (flagged_suc i) at p))
    where
      entered : ((q : ℕ) → flag i q ≡ true → Reached s h n q) → (k : ℕ) × (k < h.transitions) × (enters s h n (flagged s h n i) q k ≡ true)
          → Reached s h n q
      entered ih w =
          let t = simp tests at w.2 in
          subst (Reached s h n) t.0.1 (along (ih (transition s h w.0).w1 t.1) w.0 w.1 t.0.0 refl)

  -- ---- the rounds come to an end

  count : ℕ → ℕ
  count i = count_below (flag i) 16

  -- where a round flags no state more it changes nothing
  fixed : (i : ℕ) → count (suc i) ≤ count i → flagged s h n (suc i) ≡ flagged s h n i
  unfolding count
  fixed i c =
      ext_get_or false (flagged s h n (suc i)) (flagged s h n i) (length_flagged (suc i) ∙ sym (length_flagged i))
      (λ q l. count_same (flag i) (flag (suc i)) 16 (λ q _ p. keeps i q p) c q (rw (length_flagged (suc i)) at l))

  -- after i rounds one has changed nothing, or each has flagged a state more
  grows : (i : ℕ) → (flagged s h n (suc i) ≡ flagged s h n i) ⊎ (i < count (suc i))
  grows zero = go (dec_le (count 1) (count 0))
    where
      go : Dec (count 1 ≤ count 0) → (flagged s h n 1 ≡ flagged s h n 0) ⊎ (0 < count 1)
      go (yes y) = inl (fixed 0 y)
      go (no x) = inr (omega arith)
  grows (suc i) =
      ⊎_elim (λ e. inl (rw (flagged_suc (suc i), flagged_suc i) (ap (round s h n) (sym (flagged_suc i) ∙ e))))
      (λ l. go l (dec_le (count (suc (suc i))) (count (suc i)))) (grows i)
    where
      go : i < count (suc i) → Dec (count (suc (suc i)) ≤ count (suc i))
          → (flagged s h n (suc (suc i)) ≡ flagged s h n (suc i)) ⊎ (suc i < count (suc (suc i)))
      go l (yes y) = inl (fixed (suc i) y)
      go l (no x) = inr (omega arith)

  closed : flagged s h n 17 ≡ flagged s h n 16
  unfolding count
  closed = ⊎_elim (λ e. e) (λ l. absurd (omega (arith, l, count_most (flag 17) 16))) (grows 16)

  start_stays : (i q : ℕ) → flag 0 q ≡ true → flag i q ≡ true
  start_stays zero q p = p
  start_stays (suc i) q p = keeps i q (start_stays i q p)

-- ---- the mask

module _ {s : List ℤ} {h : Header} (a : Accepted s h) (n : ℕ) (l : n < h.entities) where
  -- a state that is reached is one of the entity's
  pub reached_state : {q : ℕ} → Reached s h n q → q < states s h n
  reached_state initial = (entity_ok a n l).initial
  reached_state (along r k m e f) = rw e at (transition_ok a k m).to

  pub reached_below : {q : ℕ} → Reached s h n q → q < 16
  reached_below r = omega (arith, reached_state r, (entity_ok a n l).few)

  -- a state that is reached is flagged
  complete : {q : ℕ} → Reached s h n q → get_or (flagged s h n 16) q false ≡ true
  complete initial =
      start_stays s h n 16 (entity s h n).w1
      (start_at s h n (entity s h n).w1 (reached_below initial) ∙ eq-eqb (entity s h n).w1 (entity s h n).w1 refl)
  complete (along r k m e f) =
      let p = complete r in
      let q : get_or (flagged s h n 17) (transition s h k).w2 false ≡ true = rw (flagged_suc s h n 16) (round_adds s h n (flagged s h n 16) k m e (reached_below (along r k m e f)) (rw f p)) in
      rw (closed s h n) at q

  -- exactly the states that are reached are flagged
  pub flagged_reached : (q : ℕ) → (get_or (flagged s h n 16) q false ≡ true) ↔ Reached s h n q
  flagged_reached q = (sound s h n 16 q, complete)

  -- S2: the mask has exactly the states that are reached
  pub reached_in_mask : (q : ℕ) → Reached s h n q ↔ (in_mask (reachable s h n) q ≡ true)
  unfolding reachable
  reached_in_mask q = (λ r. mask_bit (λ q. get_or (flagged s h n 16) q false) 16 q (reached_below r) ∙ complete r, λ p. back p (dec_lt q 16))
    where
      back : in_mask (mask_below (λ q. get_or (flagged s h n 16) q false) 16) q ≡ true → Dec (q < 16) → Reached s h n q
      back p (yes y) = sound s h n 16 q (sym (mask_bit (λ q. get_or (flagged s h n 16) q false) 16 q y) ∙ p)
      back p (no x) = absurd (true_false p (mask_past (λ q. get_or (flagged s h n 16) q false) 16 q (omega arith)))

  -- the mask has no bit at or past the number of the entity's states
  pub mask_in_states : (q : ℕ) → in_mask (reachable s h n) q ≡ true → q < states s h n
  mask_in_states q p = reached_state ((reached_in_mask q).1 p)

pub mask_small : (s : List ℤ) (h : Header) (n : ℕ) → reachable s h n < 2 ^ 16
unfolding reachable
mask_small s h n = mask_below_lem (λ q. get_or (flagged s h n 16) q false) 16

-- an entity has 16 states at most
pub scans_few : (s : List ℤ) (h : Header) (n : ℕ) → scans s h n ≤ 16
unfolding scans states_in
scans_few s h n = count_most (in_mask (reachable s h n)) 16
