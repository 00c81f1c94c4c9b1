-- What an operation does on an accepted sheet: what an applicable outcome is, which states change and how, and which stay.
-- Assumes nothing.
use mathlib.Core.Path.{◌≡◌, refl, sym, ◌∙◌}
use mathlib.Core.Bool.{true, false}
use mathlib.Core.List.{List}
use mathlib.Core.Logic.{◌⊎◌, inl, inr}
use Prim.Native.Nat.{ℕ, ◌<◌}
use lib.IntN.{ℤ, pos}
use lib.ListN.{get_or}
use native.Mathlib.Omega.{arith}
use Rattle.signed.proofs.Numbers.{num_of, num_pos}
use Rattle.tables.proofs.Bools.{tests, bool_cases, true_false}
use Rattle.tables.proofs.Scans.{all_at, all_of, any_at, any_of}
use Rattle.layout.specs.declared.Header.{Header}
use Rattle.layout.specs.Tables.{operation, effect}
use Rattle.records.specs.Entities.{states as state_count}
use Rattle.records.specs.Operations.{outcome}
use Rattle.records.proofs.OperationLaws.{Of, Declared, inside, effect_ok, entity_ok, operation_ok}
use Rattle.answer.specs.Answers.{Count}
use Rattle.answer.specs.Inner.{Small}
use Rattle.answer.specs.declared.Refusal.{Refusal}
use Rattle.std.specs.Prelude.{Option, Ok, Err}
use Rattle.operation.specs.States.{present}
use Rattle.operation.specs.Inner.{StatesIn, about, after, performed}
use Rattle.operation.specs.Outcomes.{of_outcome, moves, matched, unblocked, applicable, blocker, chosen}
use Rattle.operation.specs.Changes.{new_state, applied}
use Rattle.operation.specs.Ready.{Ready}
use Rattle.operation.proofs.Blockers.{free_matched, matched_free, blocker_small}
use Rattle.operation.proofs.Choices.{chosen_applies, by_choice}
use Rattle.operation.proofs.Movers.{Moves, moves_true, true_moves, stays, goes, length_applied, applied_at}

-- ---- the states, choice by choice

module _ (s : List ℤ) (h : Header) (states : List ℤ) (o : ℕ) (w : Option ℕ) where
  -- a chosen outcome is one of the operation's
  pub chosen_exists : (j : ℕ) → chosen s h states o w ≡ Ok j → j < (operation s h o).w4
  unfolding chosen
  chosen_exists j p = (chosen_applies (applicable s h states o) (blocker s h states o) (operation s h o).w4 w j p).0

  pub performed_by : (j : ℕ) → chosen s h states o w ≡ Ok j → performed s h states o w ≡ applied s h states o j
  unfolding performed after
  performed_by j p = rw p

  -- where none is chosen, nothing changes
  pub performed_none : (r : Refusal) → chosen s h states o w ≡ Err r → performed s h states o w ≡ states
  unfolding performed after
  performed_none r p = rw p

-- a chosen outcome, and the place where none is chosen, fit a signed word
pub chosen_small : {s : List ℤ} {h : Header} {states : List ℤ} {o : ℕ} → Ready s h states o → (w : Option ℕ)
    → Small (λ n. (n, 0)) (chosen s h states o w)
unfolding chosen
chosen_small {s} {h} {states} {o} r w =
    by_choice (applicable s h states o) (blocker s h states o) (operation s h o).w4 w (Small (λ n. (n, 0)))
    (λ j l. (omega (arith, (operation_ok r.accepted o r.exists).outcomes_few), omega arith)) (omega (arith, blocker_small r (about w))) (omega arith)

-- ---- what applicable means

-- effect e is one of outcome j of operation o, and names entity n
pub record Names (s : List ℤ) (h : Header) (o j n e : ℕ) : Type 0 where
  pub of : Of s h o e
  pub outcome : outcome s h e ≡ j
  pub entity : (effect s h e).w0 ≡ n

module _ {s : List ℤ} {h : Header} {states : List ℤ} {o : ℕ} (w : Ready s h states o) (j : ℕ) where
  of_outcome_lem : (n e : ℕ) → Names s h o j n e → of_outcome s h o j e ≡ true
  unfolding of_outcome
  of_outcome_lem n e k = simp tests ((k.of.low, k.of.high), k.outcome)

  in_outcome : (e : ℕ) → of_outcome s h o j e ≡ true → Names s h o j (effect s h e).w0 e
  unfolding of_outcome
  in_outcome e p = let q = simp tests at p in record { of = record { low = q.0.0; high = q.0.1 }; outcome = q.1; entity = refl }

  pub matched_by : (n : ℕ) → matched s h states o j n ≡ true → (e : ℕ) × Moves s h states o j n e
  unfolding matched
  matched_by n p = let d = any_at (moves s h states o j n) h.effects p in (d.0, moves_true s h states o j n d.0 d.2)

  pub by_matched : (n e : ℕ) → Moves s h states o j n e → matched s h states o j n ≡ true
  unfolding matched
  by_matched n e m = any_of (moves s h states o j n) h.effects e (inside w.accepted o w.exists e m.of) (true_moves s h states o j n e m)

  -- each entity that an applicable outcome names is moved by one of its effects
  pub named_moves : applicable s h states o j ≡ true → (n d : ℕ) → Names s h o j n d → (e : ℕ) × Moves s h states o j n e
  unfolding applicable
  named_moves p n d k =
      let q = all_at (unblocked s h states o j) h.effects p d (inside w.accepted o w.exists d k.of) in
      matched_by n (rw k.entity at (free_matched s h states o j d q (of_outcome_lem n d k)))

  -- and an outcome is applicable where that holds
  pub moves_applies : ((n d : ℕ) → Names s h o j n d → (e : ℕ) × Moves s h states o j n e) → applicable s h states o j ≡ true
  unfolding applicable
  moves_applies f =
      all_of (unblocked s h states o j) h.effects
      (λ e l.
      matched_free s h states o j e
      (λ t. let m = f (effect s h e).w0 e (in_outcome e t) in by_matched (effect s h e).w0 m.0 m.1))

-- ---- what changes

-- entity n after outcome j: moved by one of its effects, or by none and as it was
pub data Fate (s : List ℤ) (h : Header) (states : List ℤ) (o j n : ℕ) (state : ℤ) : Type 0 where
  moved : (e : ℕ) → Moves s h states o j n e → state ≡ pos (effect s h e).w2 → Fate s h states o j n state
  unmoved : ((e : ℕ) → Moves s h states o j n e → ⊥) → state ≡ get_or states n (pos 0) → Fate s h states o j n state

-- effect e of the chosen outcome j moves entity n from its state to another, along a declared transition
pub record Changed (s : List ℤ) (h : Header) (states : List ℤ) (o : ℕ) (w : Option ℕ) (j n e : ℕ) : Type 0 where
  pub chosen : chosen s h states o w ≡ Ok j
  pub moves : Moves s h states o j n e
  pub transition : Declared s h (effect s h e)
  pub old : get_or states n (pos 0) ≡ pos (effect s h e).w1
  pub new : get_or (performed s h states o w) n (pos 0) ≡ pos (effect s h e).w2

module _ {s : List ℤ} {h : Header} {states : List ℤ} {o : ℕ} (w : Ready s h states o) where
  module _ (j : ℕ) where
    pub fate : (n : ℕ) → n < h.entities → Fate s h states o j n (get_or (applied s h states o j) n (pos 0))
    fate n l = rw (applied_at s h states o j n l) (go (bool_cases (matched s h states o j n)))
      where
        go : (matched s h states o j n ≡ true) ⊎ (matched s h states o j n ≡ false) → Fate s h states o j n (new_state s h states o j n)
        go (inl t) = let m = matched_by w j n t in moved m.0 m.1 (goes s h states o j n w.accepted w.exists m.0 m.1)
        go (inr f) =
            let q : (e : ℕ) → Moves s h states o j n e → ⊥ = λ e m. true_false (by_matched w j n e m) f in unmoved q (stays s h states o j n q)

    -- entities not named stay
    pub unnamed_stays : (n : ℕ) → n < h.entities → ((e : ℕ) → Names s h o j n e → ⊥)
        → get_or (applied s h states o j) n (pos 0) ≡ get_or states n (pos 0)
    unnamed_stays n l f =
        applied_at s h states o j n l ∙ stays s h states o j n (λ e m. f e (record { of = m.of; outcome = m.outcome; entity = m.entity }))

    -- the new states are among their entities' states
    pub applied_in : StatesIn s h (applied s h states o j)
    applied_in = record { long = length_applied s h states o j; each = λ n l. go n l (fate n l) }
      where
        go : (n : ℕ) → n < h.entities → Fate s h states o j n (get_or (applied s h states o j) n (pos 0))
            → present (applied s h states o j) n < state_count s h n
        go n l (moved e m q) =
            rw (q, num_of (effect s h e).w2) (rw m.entity at (effect_ok w.accepted o w.exists e m.of).change.to)
        go n l (unmoved f q) = rw q (w.lent.each n l)

  module _ (wanted : Option ℕ) where
    -- a state changes only along a declared transition that an effect of the chosen outcome names and that starts from the present state
    pub changes : (n : ℕ) → n < h.entities → (get_or (performed s h states o wanted) n (pos 0) ≡ get_or states n (pos 0) → ⊥)
        → (j : ℕ) × (e : ℕ) × Changed s h states o wanted j n e
    changes n l f = go (chosen s h states o wanted) refl
      where
        along : (j : ℕ) → chosen s h states o wanted ≡ Ok j → Fate s h states o j n (get_or (applied s h states o j) n (pos 0))
            → (j : ℕ) × (e : ℕ) × Changed s h states o wanted j n e
        along j p (unmoved g q) = absurd (f (rw (performed_by s h states o wanted j p) q))
        along j p (moved e m q) = (
          j,
          e,
          record {
            chosen = p;
            moves = m;
            transition = (effect_ok w.accepted o w.exists e m.of).transition;
            old = num_pos (get_or states n (pos 0)) (sym m.from) (omega (arith, m.from, w.lent.each n l, (entity_ok w.accepted n l).few));
            new = rw (performed_by s h states o wanted j p) q;
          },
        )

        go : (r : Count) → chosen s h states o wanted ≡ r → (j : ℕ) × (e : ℕ) × Changed s h states o wanted j n e
        go (Ok j) p = along j p (fate j n l)
        go (Err b) p = absurd (f (rw (performed_none s h states o wanted b p)))
