-- 02, CR 1 and CR 2: what is chosen among n outcomes of which some are applicable, and the place where none is.
-- Assumes nothing.
use mathlib.Core.Path.{◌≡◌, refl, sym, ap, subst, ◌∙◌}
use mathlib.Core.Bool.{Bool, true, false, cond, ◌&&◌}
use mathlib.Core.Logic.{◌⊎◌, inl, inr, ⊎_elim}
use Prim.Native.Nat.{ℕ, zero, suc, ◌+◌, ◌≤◌, ◌<◌}
use lib.IntN.{ℤ, pos, negsuc, ℤ_discrete}
use lib.Dec.{ltb, eqb}
use native.Mathlib.Omega.{arith}
use native.Mathlib.Numerals.{add-one}
use native.Mathlib.Decide.{dec_lt, ℕ_discrete}
use borrow.Author.Tests.{ltb-true, lt-ltb, le-ltb, eqb-true, eq-eqb, ne_eqb}
use Rattle.tables.proofs.Bools.{bool_cases, true_false, and_left, and_right}
use Rattle.tables.proofs.Scans.{below_suc}
use Rattle.signed.specs.Words.{num, eq_z}
use Rattle.answer.specs.Answers.{Count}
use Rattle.answer.specs.declared.Refusal.TheVariants.{NoOutcome, ManyOutcomes}
use Rattle.std.specs.Prelude.{Option, None, Some, Ok, Err, is_some, unwrap_or}
use Rattle.operation.specs.Outcomes.{wanted_of, good_wanted, another, only, choice}
use Rattle.operation.specs.Inner.{asks, about, candidate}

-- ---- none, the only one, or several

-- j is the only number below n of which f holds
pub record IsOnly (f : ℕ → Bool) (n j : ℕ) : Type 0 where
  pub exists : j < n
  pub applies : f j ≡ true
  pub alone : (i : ℕ) → i < n → f i ≡ true → i ≡ j

-- f holds of two numbers below n
pub record Two (f : ℕ → Bool) (n : ℕ) : Type 0 where
  pub first : ℕ
  pub second : ℕ
  pub order : first < second
  pub exists : second < n
  pub one : f first ≡ true
  pub other : f second ≡ true

-- of how many numbers below n f holds, for each choice; k is the place where it holds of none
pub data Tally (f : ℕ → Bool) (k n : ℕ) : Count → Type 0 where
  none : ((i : ℕ) → i < n → f i ≡ false) → Tally f k n (Err (NoOutcome k))
  one : (j : ℕ) → IsOnly f n j → Tally f k n (Ok j)
  several : Two f n → Tally f k n (Err ManyOutcomes)

more : (f : ℕ → Bool) (n : ℕ) → Two f n → Two f (suc n)
more f n t = record { first = t.first; second = t.second; order = t.order; exists = omega (arith, t.exists); one = t.one; other = t.other }

two_only : (f : ℕ → Bool) (n j : ℕ) → Two f n → IsOnly f n j → ⊥
two_only f n j t o =
    let a = o.alone t.first (omega (arith, t.order, t.exists)) t.one in
    let b = o.alone t.second t.exists t.other in
    omega (arith, t.order)

module _ (f : ℕ → Bool) (k : ℕ) where
  tally_step : (n : ℕ) (c : Count) → Tally f k n c → (b : Bool) → f n ≡ b → Tally f k (suc n) (cond b (another n c) c)
  unfolding another
  tally_step n _ (none x) true e =
      one n (record { exists = omega arith; applies = e; alone = λ i l p. ⊎_elim (λ q. absurd (true_false p (x i q))) (λ q. q) (below_suc i n l) })
  tally_step n _ (none x) false e = none (λ i l. ⊎_elim (x i) (λ q. rw q e) (below_suc i n l))
  tally_step n _ (one j o) true e =
      several (record { first = j; second = n; order = o.exists; exists = omega arith; one = o.applies; other = e })
  tally_step n _ (one j o) false e =
      one j
      (record {
        exists = omega (arith, o.exists);
        applies = o.applies;
        alone = λ i l p. ⊎_elim (λ q. o.alone i q p) (λ q. absurd (true_false (rw q at p) e)) (below_suc i n l);
      })
  tally_step n _ (several t) true e = several (more f n t)
  tally_step n _ (several t) false e = several (more f n t)

  pub tally : (n : ℕ) → Tally f k n (only f k n)
  unfolding only
  tally zero = none (λ i l. absurd (omega arith))
  tally (suc n) = tally_step n (only f k n) (tally n) (f n) refl

  -- what a tally says
  is_none : (n b : ℕ) → Tally f k n (Err (NoOutcome b)) → (b ≡ k) × ((i : ℕ) → i < n → f i ≡ false)
  is_none n _ (none x) = (refl, x)

  is_only : (n j : ℕ) → Tally f k n (Ok j) → IsOnly f n j
  is_only n _ (one j o) = o

  is_two : (n : ℕ) → Tally f k n (Err ManyOutcomes) → Two f n
  is_two n (several t) = t

  -- two tallies are of one choice
  one_tally : (n : ℕ) (c d : Count) → Tally f k n c → Tally f k n d → c ≡ d
  one_tally n _ _ (none x) (none y) = refl
  one_tally n _ _ (several t) (several u) = refl
  one_tally n _ _ (one i o) (one j p) = ap Ok (p.alone i o.exists o.applies)
  one_tally n _ _ (none x) (one j o) = absurd (true_false o.applies (x j o.exists))
  one_tally n _ _ (one j o) (none x) = absurd (true_false o.applies (x j o.exists))
  one_tally n _ _ (none x) (several t) = absurd (true_false t.other (x t.second t.exists))
  one_tally n _ _ (several t) (none x) = absurd (true_false t.other (x t.second t.exists))
  one_tally n _ _ (one j o) (several t) = absurd (two_only f n j t o)
  one_tally n _ _ (several t) (one j o) = absurd (two_only f n j t o)

  -- once there are several, there are
  pub still_many : (j n : ℕ) → j ≤ n → only f k j ≡ Err ManyOutcomes → only f k n ≡ Err ManyOutcomes
  still_many j n l p =
      let t = is_two j (subst (Tally f k j) p (tally j)) in
      one_tally n (only f k n) (Err ManyOutcomes) (tally n)
      (several (record { first = t.first; second = t.second; order = t.order; exists = omega (arith, t.exists); one = t.one; other = t.other }))

  -- a number of which it does not hold
  pub only_without : (n : ℕ) → f n ≡ false → only f k (n + 1) ≡ only f k n
  unfolding only
  only_without n p = rw (add-one, p)

-- ---- what blocks the outcome asked about

-- among the outcomes before j, of which g says what blocks each
unfoldable pub blocks_before : (ℕ → ℕ) → Option ℕ → ℕ → ℕ
blocks_before g w j = cond (ltb (about w) j) (g (about w)) 0

module _ (g : ℕ → ℕ) (w : Option ℕ) where
  before_past : (j : ℕ) → about w < j → blocks_before g w j ≡ g (about w)
  unfolding blocks_before
  before_past j l = rw (lt-ltb (about w) j l)

  before_not : (j : ℕ) → j ≤ about w → blocks_before g w j ≡ 0
  unfolding blocks_before
  before_not j l = rw (le-ltb (about w) j l)

  pub before_none : blocks_before g w 0 ≡ 0
  before_none = before_not 0 (omega arith)

  -- one outcome more: the one asked about, or another
  pub before_this : (j n : ℕ) → n ≡ g j → about w ≡ j → n ≡ blocks_before g w (j + 1)
  before_this j n e p = e ∙ sym (ap g p) ∙ sym (before_past (j + 1) (omega arith))

  pub before_other : (j : ℕ) → (about w ≡ j → ⊥) → blocks_before g w j ≡ blocks_before g w (j + 1)
  before_other j x = go (dec_lt (about w) j)
    where
      go : Dec (about w < j) → blocks_before g w j ≡ blocks_before g w (j + 1)
      go (yes l) = before_past j l ∙ sym (before_past (j + 1) (omega arith))
      go (no l) = before_not j (omega arith) ∙ sym (before_not (j + 1) (omega arith))

  -- one that nothing blocks
  pub before_free : (j : ℕ) → g j ≡ 0 → blocks_before g w j ≡ blocks_before g w (j + 1)
  before_free j e = go (ℕ_discrete (about w) j)
    where
      go : Dec (about w ≡ j) → blocks_before g w j ≡ blocks_before g w (j + 1)
      go (yes p) = before_not j (omega arith) ∙ before_this j 0 (sym e) p
      go (no x) = before_other j x

  -- among all n outcomes, where nothing blocks past them
  pub before_all : (n : ℕ) → (n ≤ about w → g (about w) ≡ 0) → blocks_before g w n ≡ g (about w)
  before_all n x = go (dec_lt (about w) n)
    where
      go : Dec (about w < n) → blocks_before g w n ≡ g (about w)
      go (yes l) = before_past n l
      go (no l) = before_not n (omega arith) ∙ sym (x (omega arith))

-- ---- the outcomes that are asked for

module _ (f : ℕ → Bool) (w : Option ℕ) where
  pub not_applies : (j : ℕ) → f j ≡ false → candidate f w j ≡ false
  unfolding candidate
  not_applies j p = go (bool_cases (asks w j))
    where
      go : (asks w j ≡ true) ⊎ (asks w j ≡ false) → (asks w j && f j) ≡ false
      go (inl t) = rw (t, p)
      go (inr t) = rw t

  -- one that is not asked for
  pub not_asked : (j : ℕ) → asks w j ≡ false → candidate f w j ≡ false
  unfolding candidate
  not_asked j p = rw p

  -- an outcome more that is asked for and applicable
  pub one_more : (k n : ℕ) → asks w n ≡ true → f n ≡ true → only (candidate f w) k (n + 1) ≡ another n (only (candidate f w) k n)
  unfolding only candidate
  one_more k n p q = rw (add-one, p, q)

only_any : (f : ℕ → Bool) (k n : ℕ) → only (candidate f None) k n ≡ only f k n
unfolding only candidate asks
only_any f k zero = refl
only_any f k (suc n) = rw (only_any f k n)

module _ (f : ℕ → Bool) (k b : ℕ) where
  own : candidate f (Some k) k ≡ f k
  unfolding candidate asks
  own = rw (eq-eqb k k refl)

  own_asked : (j : ℕ) → candidate f (Some k) j ≡ true → k ≡ j
  unfolding candidate asks
  own_asked j p = eqb-true k j (and_left (eqb k j) (f j) p)

  own_chosen : (n : ℕ) (c : Count) → Tally (candidate f (Some k)) b n c → (x y : Bool) → ltb k n ≡ x → f k ≡ y
      → c ≡ cond (x && y) (Ok k) (Err (NoOutcome b))
  own_chosen n _ (none z) true true p q = absurd (true_false q (sym own ∙ z k (ltb-true k n p)))
  own_chosen n _ (none z) true false p q = refl
  own_chosen n _ (none z) false y p q = refl
  own_chosen n _ (one j o) x y p q =
      let e = own_asked j o.applies in
      let u : x ≡ true = sym p ∙ lt-ltb k n (rw e o.exists) in
      let v : y ≡ true = sym q ∙ sym own ∙ ap (candidate f (Some k)) e ∙ o.applies in
      rw (u, v, e)
  own_chosen n _ (several z) x y p q =
      let e = own_asked z.first z.one in
      let d = own_asked z.second z.other in
      absurd (omega (arith, z.order))

-- the only one of those that are asked for is what is chosen
pub asked_only : (f : ℕ → Bool) (g : ℕ → ℕ) (w : Option ℕ) (n : ℕ) → only (candidate f w) (g (about w)) n ≡ choice f g n w
unfolding choice about
asked_only f g None n = only_any f (g 0) n
asked_only f g (Some k) n =
    own_chosen f k (g k) n (only (candidate f (Some k)) (g k) n) (tally (candidate f (Some k)) (g k) n) (ltb k n) (f k) refl refl

pub is_some_value : {o : Option ℕ} → is_some o ≡ true → (i : ℕ) × (o ≡ Some i)
is_some_value {o = None} p = absurd (true_false p refl)
is_some_value {o = Some i} p = (i, refl)

pub is_some_none : {o : Option ℕ} → is_some o ≡ false → o ≡ None
is_some_none {o = None} p = refl
is_some_none {o = Some i} p = absurd (true_false refl p)

-- the outcome asked about, as the code reads it
pub about_is : (w : Option ℕ) → unwrap_or w 0 ≡ about w
unfolding about
about_is None = refl
about_is (Some j) = refl

-- ---- what is promised of a choice

module _ (f : ℕ → Bool) (g : ℕ → ℕ) (n : ℕ) where
  -- what is chosen with −1 says how many are applicable
  any_tally : (c : Count) → choice f g n None ≡ c → Tally f (g 0) n c
  unfolding choice
  any_tally c p = subst (Tally f (g 0) n) p (tally f (g 0) n)

  tally_any : (c : Count) → Tally f (g 0) n c → choice f g n None ≡ c
  unfolding choice
  tally_any c t = one_tally f (g 0) n (only f (g 0) n) c (tally f (g 0) n) t

  -- with −1 the only applicable outcome is chosen, and one is chosen only there
  pub any_alone : (j : ℕ) → choice f g n None ≡ Ok j → IsOnly f n j
  any_alone j p = is_only f (g 0) n j (any_tally (Ok j) p)

  pub alone_any : (j : ℕ) → IsOnly f n j → choice f g n None ≡ Ok j
  alone_any j o = tally_any (Ok j) (one j o)

  -- 11 with −1: no outcome is applicable, and the place is that of outcome 0
  pub any_none : (b : ℕ) → choice f g n None ≡ Err (NoOutcome b) → (b ≡ g 0) × ((i : ℕ) → i < n → f i ≡ false)
  any_none b p = is_none f (g 0) n b (any_tally (Err (NoOutcome b)) p)

  -- 16 with −1: two outcomes or more are applicable, and it is given wherever they are
  pub any_two : choice f g n None ≡ Err ManyOutcomes → Two f n
  any_two p = is_two f (g 0) n (any_tally (Err ManyOutcomes) p)

  pub two_any : Two f n → choice f g n None ≡ Err ManyOutcomes
  two_any t = tally_any (Err ManyOutcomes) (several t)

  -- ---- a wanted outcome
  module _ (k : ℕ) where
    -- it is chosen where it is one of the outcomes and applicable
    pub wanted_chosen : k < n → f k ≡ true → choice f g n (Some k) ≡ Ok k
    unfolding choice
    wanted_chosen l p = rw (lt-ltb k n l, p)

    by_test : (b : Bool) → (ltb k n && f k) ≡ b → choice f g n (Some k) ≡ cond b (Ok k) (Err (NoOutcome (g k)))
    unfolding choice
    by_test b e = rw e

    -- no other outcome is chosen
    pub wanted_only : (j : ℕ) → choice f g n (Some k) ≡ Ok j → (j ≡ k) × (k < n) × (f k ≡ true)
    wanted_only j p = go (ltb k n && f k) refl
      where
        go : (b : Bool) → (ltb k n && f k) ≡ b → (j ≡ k) × (k < n) × (f k ≡ true)
        go true e =
            let z : j ≡ k = cc (sym p ∙ by_test true e) in
            (z, ltb-true k n (and_left (ltb k n) (f k) e), and_right (ltb k n) (f k) e)
        go false e = let z : ◌≡◌ {A = ℕ} 0 1 = cc (sym p ∙ by_test false e) in absurd (omega arith)

    -- 11 with a wanted outcome: the place is what blocks it, and where it is one of the outcomes it is not applicable
    pub wanted_not : (b : ℕ) → choice f g n (Some k) ≡ Err (NoOutcome b) → (b ≡ g k) × (k < n → f k ≡ false)
    wanted_not b p = go (ltb k n && f k) refl
      where
        go : (t : Bool) → (ltb k n && f k) ≡ t → (b ≡ g k) × (k < n → f k ≡ false)
        go true e = let z : ◌≡◌ {A = ℕ} 0 1 = cc (sym p ∙ by_test true e) in absurd (omega arith)
        go false e = let z : b ≡ g k = cc (sym p ∙ by_test false e) in (z, λ l. rw (lt-ltb k n l) at e)

    -- 16 is never given for it
    wanted_one : choice f g n (Some k) ≡ Err ManyOutcomes → ⊥
    wanted_one p = go (ltb k n && f k) refl
      where
        go : (b : Bool) → (ltb k n && f k) ≡ b → ⊥
        go true e = let z : ◌≡◌ {A = ℕ} 0 1 = cc (sym p ∙ by_test true e) in omega arith
        go false e = let z : ◌≡◌ {A = ℕ} 0 1 = cc (sym p ∙ by_test false e) in omega arith

-- what holds of an outcome, of 11 with the place of the outcome asked about, and of 16, holds of a choice
pub by_choice : (f : ℕ → Bool) (g : ℕ → ℕ) (n : ℕ) (w : Option ℕ) (P : Count → Type 0)
    → ((j : ℕ) → j < n → P (Ok j)) → P (Err (NoOutcome (g (about w)))) → P (Err ManyOutcomes) → P (choice f g n w)
unfolding choice about
by_choice f g n None P ok none_so many = go (only f (g 0) n) (tally f (g 0) n)
  where
    go : (c : Count) → Tally f (g 0) n c → P c
    go _ (none x) = none_so
    go _ (one j o) = ok j o.exists
    go _ (several t) = many
by_choice f g n (Some k) P ok none_so many = go (ltb k n && f k) refl
  where
    go : (b : Bool) → (ltb k n && f k) ≡ b → P (cond b (Ok k) (Err (NoOutcome (g k))))
    go true e = ok k (ltb-true k n (and_left (ltb k n) (f k) e))
    go false e = none_so

-- a chosen outcome is one of the outcomes, and applicable
pub chosen_applies : (f : ℕ → Bool) (g : ℕ → ℕ) (n : ℕ) (w : Option ℕ) (j : ℕ) → choice f g n w ≡ Ok j → (j < n) × (f j ≡ true)
chosen_applies f g n None j p = let o = any_alone f g n j p in (o.exists, o.applies)
chosen_applies f g n (Some k) j p = let o = wanted_only f g n k j p in rw o.0 (o.1, o.2)

-- where nothing is chosen, the place is that of the outcome asked about
pub nothing_place : (f : ℕ → Bool) (g : ℕ → ℕ) (n : ℕ) (w : Option ℕ) (b : ℕ) → choice f g n w ≡ Err (NoOutcome b) → b ≡ g (about w)
unfolding about
nothing_place f g n None b p = (any_none f g n b p).0
nothing_place f g n (Some k) b p = (wanted_not f g n k b p).0

-- ---- what a word wants

pub any_word : {w : ℤ} → w ≡ negsuc 0 → wanted_of w ≡ None
unfolding wanted_of eq_z
any_word e = rw e

one_word : (w : ℤ) → (w ≡ negsuc 0 → ⊥) → wanted_of w ≡ Some (num w)
unfolding wanted_of eq_z
one_word (pos n) x = refl
one_word (negsuc n) x = rw (ne_eqb n 0 (λ e. x (ap negsuc e)))

-- the outcome asked about
pub about_any : {w : ℤ} → w ≡ negsuc 0 → about (wanted_of w) ≡ 0
unfolding about
about_any e = rw (any_word e)

pub about_one : (w : ℤ) → (w ≡ negsuc 0 → ⊥) → about (wanted_of w) ≡ num w
unfolding about
about_one w x = rw (one_word w x)

-- ---- the same by the word

module _ (f : ℕ → Bool) (g : ℕ → ℕ) (n : ℕ) (w : ℤ) where
  pub word_wanted : (j : ℕ) → choice f g n (wanted_of w) ≡ Ok j → (w ≡ negsuc 0 → ⊥) → num w ≡ j
  word_wanted j p x = sym (wanted_only f g n (num w) j (rw (one_word w x) at p)).0

  pub word_alone : (j : ℕ) → choice f g n (wanted_of w) ≡ Ok j → w ≡ negsuc 0 → IsOnly f n j
  word_alone j p e = any_alone f g n j (rw (any_word e) at p)

  pub word_none : (b : ℕ) → choice f g n (wanted_of w) ≡ Err (NoOutcome b) → w ≡ negsuc 0 → (i : ℕ) → i < n → f i ≡ false
  word_none b p e = (any_none f g n b (rw (any_word e) at p)).1

  pub word_not : (b : ℕ) → good_wanted n (wanted_of w) ≡ true → choice f g n (wanted_of w) ≡ Err (NoOutcome b)
      → (w ≡ negsuc 0 → ⊥) → f (num w) ≡ false
  unfolding good_wanted
  word_not b t p x = (wanted_not f g n (num w) b (rw (one_word w x) at p)).1 (ltb-true (num w) n (rw (one_word w x) at t))

  pub word_several : choice f g n (wanted_of w) ≡ Err ManyOutcomes → (w ≡ negsuc 0) × Two f n
  word_several p = go (ℤ_discrete w (negsuc 0))
    where
      go : Dec (w ≡ negsuc 0) → (w ≡ negsuc 0) × Two f n
      go (yes e) = (e, any_two f g n (rw (any_word e) at p))
      go (no x) = absurd (wanted_one f g n (num w) (rw (one_word w x) at p))
