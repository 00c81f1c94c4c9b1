-- The array of maxes: what it holds after k good facts, and that the scan's test is the definition's.
-- Assumes nothing.
use Rattle.std.specs.Prelude.{Option, None, Some}
use mathlib.Core.Path.{◌≡◌, refl, sym, ap, ◌∙◌}
use mathlib.Core.Bool.{Bool, true, false, not, ◌&&◌, ◌||◌}
use mathlib.Core.List.{List}
use mathlib.Core.Logic.{⊎_elim}
use Prim.Native.Nat.{ℕ, ◌+◌, ◌≤◌, ◌<◌}
use lib.IntN.{ℤ, pos}
use lib.Dec.{eqb}
use lib.ListN.{length, get_or, set, replicate, length-replicate, get_or-replicate, get_or-eq_default, length-set}
use lib.Seq.{get_or-set_same, get_or-set_other}
use native.Mathlib.Omega.{arith}
use native.Mathlib.Decide.{ℕ_discrete, dec_lt}
use borrow.Author.Tests.{eq-eqb, ne_eqb, eqb-true}
use Rattle.tables.specs.Scan.{all_below}
use Rattle.tables.proofs.Bools.{bool_cases, same_tests, tests, and_iff, or_true_right, and_left, and_right}
use Rattle.tables.proofs.Scans.{all_at, all_of, extend_one}
use Rattle.signed.specs.Words.{num, eq_z}
use Rattle.signed.proofs.Parts.{eq_true, true_eq}
use Rattle.signed.proofs.Bounds.{in_true}
use Rattle.signed.proofs.Numbers.{num_is, num_pos, in_num}
use Rattle.words.specs.declared.Record.{Record}
use Rattle.words.specs.Record.{record_at}
use Rattle.layout.specs.Tables.{fact}
use Rattle.node.specs.FactTypes.{fact_type_of}
use Rattle.records.specs.Facts.{value_type, max_of, set_of, agree, good_fact}
use Rattle.sheet_facts.specs.Maxes.{valued, good_alone, agrees, noted}

-- an earlier fact of set x whose max is m
pub record Source (s : List ℤ) (k x m : ℕ) : Type 0 where
  pub j : ℕ
  pub before : j < k
  pub enum : valued (fact s j) ≡ 2
  pub set : (fact s j).w5 ≡ x
  pub max : (fact s j).w2 ≡ m

pub record Noted (s : List ℤ) (k : ℕ) (t : List (Option ℕ)) : Type 0 where
  pub long : length t ≡ 128
  pub held : (j : ℕ) → j < k → valued (fact s j) ≡ 2 → get_or t (fact s j).w5 None ≡ Some (fact s j).w2
  pub some : (x m : ℕ) → get_or t x None ≡ Some m → Source s k x m
  pub good : (j : ℕ) → j < k → good_fact s j ≡ true

nothing : (x : ℕ) → get_or {A = Option ℕ} (replicate 128 None) x None ≡ None
nothing x = go (dec_lt x 128)
  where
    go : Dec (x < 128) → get_or {A = Option ℕ} (replicate 128 None) x None ≡ None
    go (yes l) = get_or-replicate {A = Option ℕ} 128 x None None l
    go (no n) = get_or-eq_default (replicate 128 None) None {n = x} (omega (arith, length-replicate {A = Option ℕ} 128 None))

pub none : (s : List ℤ) → Noted s 0 (replicate 128 None)
none s =
    record {
      long = length-replicate {A = Option ℕ} 128 None;
      held = λ j l e. absurd (omega arith);
      some = λ x m e. absurd (let q = sym (nothing x) ∙ e in cc);
      good = λ j l. absurd (omega arith);
    }

-- an Enum fact that is good by itself has a set below 128 and a max below 256
alone_set : (s : List ℤ) (k : ℕ) → good_alone s k ≡ true → valued (fact s k) ≡ 2 → (fact s k).w5 < 128
unfolding good_alone record_at fact_type_of
alone_set s k p e = let q = simp tests at (rw e at p) in omega (arith, q.0.0.1)

alone_max : (s : List ℤ) (k : ℕ) → good_alone s k ≡ true → valued (fact s k) ≡ 2 → (fact s k).w2 ≤ 255
unfolding good_alone record_at fact_type_of
alone_max s k p e =
    let q = simp and_iff at (rw e at p) in
    (in_num (max_of s k) (in_true (pos 0) (max_of s k) (pos 255) q.0.0.0.1)).1

alone : (s : List ℤ) (k : ℕ) → good_fact s k ≡ true → good_alone s k ≡ true
unfolding good_fact good_alone
alone s k p = and_left _ (all_below (λ j. agree s j k) k) p

-- two facts agree unless both are Enums of one set with two maxes
agree_enum : (s : List ℤ) (j k : ℕ) → agree s j k ≡ true → valued (fact s j) ≡ 2 → valued (fact s k) ≡ 2 → (fact s j).w5 ≡ (fact s k).w5
    → (fact s j).w2 ≡ (fact s k).w2
unfolding agree record_at
agree_enum s j k p a b e =
    ap num (eq_true (max_of s j) (max_of s k) (rw (eq-eqb (value_type s j) 2 a, eq-eqb (value_type s k) 2 b, eq-eqb (set_of s j) (set_of s k) e) at p))

enum_agree : (s : List ℤ) (j k : ℕ)
    → (valued (fact s j) ≡ 2 → valued (fact s k) ≡ 2 → (fact s j).w5 ≡ (fact s k).w5 → max_of s j ≡ max_of s k) → agree s j k ≡ true
unfolding agree record_at
enum_agree s j k h = go (eqb (value_type s j) 2) refl (eqb (value_type s k) 2) refl (eqb (set_of s j) (set_of s k)) refl
  where
    go : (p : Bool) → eqb (value_type s j) 2 ≡ p → (q : Bool) → eqb (value_type s k) 2 ≡ q → (r : Bool) → eqb (set_of s j) (set_of s k) ≡ r
        → (not (p && q && r) || eq_z (max_of s j) (max_of s k)) ≡ true
    go true a true b true e = true_eq (max_of s j) (max_of s k) (h (eqb-true _ _ a) (eqb-true _ _ b) (eqb-true _ _ e))
    go true a true b false e = refl
    go true a false b r e = refl
    go false a q b r e = refl

module _ (s : List ℤ) (k : ℕ) (t : List (Option ℕ)) (n : Noted s k t) (a : good_alone s k ≡ true) where
  abbrev seen : Option ℕ
  seen = get_or t (fact s k).w5 None

  -- every earlier fact agrees, so the array's max is the fact's or none
  to_seen : all_below (λ j. agree s j k) k ≡ true → agrees (fact s k) seen ≡ true
  to_seen p = go seen refl
    where
      found : (m : ℕ) → seen ≡ Some m → Dec (valued (fact s k) ≡ 2) → agrees (fact s k) (Some m) ≡ true
      found m e (no d) = rw (ne_eqb (valued (fact s k)) 2 d)
      found m e (yes v) =
          let w = n.some (fact s k).w5 m e in
          let same = agree_enum s w.j k (all_at (λ j. agree s j k) k p w.j w.before) w.enum v w.set in
          or_true_right (not (eqb (valued (fact s k)) 2)) (eqb m (fact s k).w2) (eq-eqb m (fact s k).w2 (sym w.max ∙ same))

      go : (o : Option ℕ) → seen ≡ o → agrees (fact s k) seen ≡ true
      go None e = rw e
      go (Some m) e = rw e (found m e (ℕ_discrete (valued (fact s k)) 2))

  from_seen : agrees (fact s k) seen ≡ true → all_below (λ j. agree s j k) k ≡ true
  from_seen p = all_of (λ j. agree s j k) k (λ j l. enum_agree s j k (λ x y e. words j (alone_max s k a y) (same j l x y e)))
    where
      words : (j : ℕ) → (fact s k).w2 ≤ 255 → (fact s j).w2 ≡ (fact s k).w2 → max_of s j ≡ max_of s k
      words j l e = unfold record_at in num_pos (max_of s j) e (omega (arith, l)) ∙ sym (num_is (max_of s k) (omega (arith, l)))

      same : (j : ℕ) → j < k → valued (fact s j) ≡ 2 → valued (fact s k) ≡ 2 → (fact s j).w5 ≡ (fact s k).w5 → (fact s j).w2 ≡ (fact s k).w2
      same j l x y e =
          let m : seen ≡ Some (fact s j).w2 = rw (← e) (n.held j l x) in
          eqb-true (fact s j).w2 (fact s k).w2 (rw (m, eq-eqb (valued (fact s k)) 2 y) at p)

-- the scan's test is the definition's
pub judged : (s : List ℤ) (k : ℕ) (t : List (Option ℕ)) → Noted s k t → (good_alone s k && agrees (fact s k) (get_or t (fact s k).w5 None)) ≡ good_fact s k
unfolding good_fact good_alone
judged s k t n = ⊎_elim yes' no' (bool_cases (good_alone s k))
  where
    yes' : good_alone s k ≡ true → (good_alone s k && agrees (fact s k) (get_or t (fact s k).w5 None)) ≡ (good_alone s k && all_below (λ j. agree s j k) k)
    yes' a = rw a (same_tests (agrees (fact s k) (get_or t (fact s k).w5 None)) (all_below (λ j. agree s j k) k) (from_seen s k t n a) (to_seen s k t n a))

    no' : good_alone s k ≡ false → (good_alone s k && agrees (fact s k) (get_or t (fact s k).w5 None)) ≡ (good_alone s k && all_below (λ j. agree s j k) k)
    no' a = rw a

-- a good fact has the max of every earlier Enum of its set
agreed : (s : List ℤ) (k : ℕ) → good_fact s k ≡ true → (j : ℕ) → j < k → valued (fact s j) ≡ 2 → valued (fact s k) ≡ 2
    → (fact s j).w5 ≡ (fact s k).w5 → (fact s j).w2 ≡ (fact s k).w2
unfolding good_fact good_alone
agreed s k g j l x y e =
    agree_enum s j k
    (all_at (λ j. agree s j k) k (and_right (good_alone s k) (all_below (λ j. agree s j k) k) g) j l) x y e

-- one good fact more
pub more : (s : List ℤ) (k : ℕ) (t : List (Option ℕ)) → Noted s k t → good_fact s k ≡ true → Noted s (k + 1) (noted (fact s k) t)
more s k t n g = go (ℕ_discrete (valued (fact s k)) 2)
  where
    m : good_alone s k ≡ true
    m = alone s k g

    later : {x y : ℕ} → Source s k x y → Source s (k + 1) x y
    later w = record { j = w.j; before = omega (arith, w.before); enum = w.enum; set = w.set; max = w.max }

    u : List (Option ℕ)
    u = set t (fact s k).w5 (Some (fact s k).w2)

    own : valued (fact s k) ≡ 2 → get_or u (fact s k).w5 None ≡ Some (fact s k).w2
    own e = get_or-set_same t (fact s k).w5 (Some (fact s k).w2) None (omega (arith, n.long, alone_set s k m e))

    older : valued (fact s k) ≡ 2 → (j : ℕ) → j < k → valued (fact s j) ≡ 2 → Dec ((fact s j).w5 ≡ (fact s k).w5)
        → get_or u (fact s j).w5 None ≡ Some (fact s j).w2
    older e j l x (yes z) = rw z (own e ∙ ap Some (sym (agreed s k g j l x e z)))
    older e j l x (no z) = get_or-set_other t (fact s k).w5 (fact s j).w5 (Some (fact s k).w2) None z ∙ n.held j l x

    newer : valued (fact s k) ≡ 2 → (x y : ℕ) → get_or u x None ≡ Some y → Dec (x ≡ (fact s k).w5) → Source s (k + 1) x y
    newer e x y q (yes z) =
        let r : get_or u x None ≡ Some (fact s k).w2 = rw z (own e) in
        record { j = k; before = omega arith; enum = e; set = sym z; max = let p = sym r ∙ q in cc }
    newer e x y q (no z) = later (n.some x y (sym (get_or-set_other t (fact s k).w5 x (Some (fact s k).w2) None z) ∙ q))

    go : Dec (valued (fact s k) ≡ 2) → Noted s (k + 1) (noted (fact s k) t)
    go (no d) =
        rw (ne_eqb (valued (fact s k)) 2 d) (record {
          long = n.long;
          held = extend_one (λ (j : ℕ). valued (fact s j) ≡ 2 → get_or t (fact s j).w5 None ≡ Some (fact s j).w2) k n.held (λ e. absurd (d e));
          some = λ x y q. later (n.some x y q);
          good = extend_one (λ (j : ℕ). good_fact s j ≡ true) k n.good g;
        })
    go (yes e) =
        rw (eq-eqb (valued (fact s k)) 2 e) (record {
          long = length-set t (fact s k).w5 (Some (fact s k).w2) ∙ n.long;
          held =
              extend_one (λ (j : ℕ). valued (fact s j) ≡ 2 → get_or u (fact s j).w5 None ≡ Some (fact s j).w2) k
              (λ j l x. older e j l x (ℕ_discrete (fact s j).w5 (fact s k).w5)) (λ x. own e);
          some = λ x y q. newer e x y q (ℕ_discrete x (fact s k).w5);
          good = extend_one (λ (j : ℕ). good_fact s j ≡ true) k n.good g;
        })

-- what a turn of the loop computes
module _ (s : List ℤ) (k : ℕ) (t : List (Option ℕ)) (n : Noted s k t) {r : Record ℕ} {x : Option ℕ} {a b : Bool}
    (er : r ≡ fact s k) (ex : x ≡ get_or t r.w5 None) (ea : a ≡ good_alone s k) (eb : b ≡ agrees r x) where
  test : (a && b) ≡ good_fact s k
  test = rw (ea, eb, ex, er) (judged s k t n)

  -- an Enum's max can be noted
  pub room : (a && b) ≡ true → valued r ≡ 2 → (r.w5 < length t) × (r.w2 < 256)
  room p =
      let m = sym ea ∙ and_left a b p in
      rw er (λ e. (omega (arith, n.long, alone_set s k m e), omega (arith, alone_max s k m e)))

  pub again : {u : List (Option ℕ)} → (a && b) ≡ true → u ≡ noted r t → Noted s (k + 1) u
  again p e = rw (e, er) (more s k t n (sym test ∙ p))

  pub stop : (a && b) ≡ false → good_fact s k ≡ false
  stop p = sym test ∙ p
