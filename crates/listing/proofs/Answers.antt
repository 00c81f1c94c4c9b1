-- When next is refused 12, and that the answers of first and next fit a signed word.
-- Assumes nothing.
use Rattle.std.specs.Prelude.{Err}
use mathlib.Core.Path.{◌≡◌, refl, sym, ◌∙◌}
use mathlib.Core.Bool.{false}
use mathlib.Core.List.Memᴰ
use mathlib.Core.List.{List, [], ◌∷◌, Memᴰ}
use mathlib.Core.Logic.{◌↔◌, ⊎_elim}
use Prim.Native.Nat.{ℕ, ◌<◌}
use lib.IntN.{ℤ}
use native.Mathlib.Omega.{arith}
use Rattle.tables.proofs.Bools.{bool_cases}
use Rattle.answer.specs.Inner.{Small}
use Rattle.answer.specs.declared.Refusal.TheVariants.{NotPath}
use Rattle.layout.specs.declared.Header.{Header}
use Rattle.records.specs.Accepted.{Accepted}
use Rattle.walks.specs.Paths.{PathOf, paths, path}
use Rattle.walks.specs.Follows.{begins, Following, Absent, Final, Then, head_of, following, walk_of}
use Rattle.listing.specs.Calls.{first_walk, answer_of, next_walk}
use Rattle.walks.specs.Inner.{Lent}
use Rattle.walks.proofs.Follow.{follow_here, follow_later}
use Rattle.walks.proofs.Lists.{mem_at}
use Rattle.walks.proofs.AllPaths.{path_small, paths_sound, paths_complete, paths_some}

-- what follows is one of the list
head_mem : (ps : List (List ℕ)) (p : List ℕ) → head_of ps ≡ Then p → Memᴰ p ps
unfolding head_of
head_mem [] p e = let z : ◌≡◌ {A = ℕ} 0 1 = cc in absurd (omega arith)
head_mem (q ∷ ps) p e = let z : p ≡ q = cc in Memᴰ.head z

then_mem : (ps : List (List ℕ)) (b p : List ℕ) → following ps b ≡ Then p → Memᴰ p ps
unfolding following
then_mem [] b p e = let z : ◌≡◌ {A = ℕ} 0 1 = cc in absurd (omega arith)
then_mem (q ∷ ps) b p e =
    ⊎_elim (λ z. Memᴰ.tail (head_mem ps p (sym (follow_here q ps b z) ∙ e)))
    (λ z. Memᴰ.tail (then_mem ps b p (sym (follow_later q ps b z) ∙ e))) (bool_cases (begins q b))

-- ---- when next is refused 12

absent_head : (ps : List (List ℕ)) → head_of ps ≡ Absent → ⊥
unfolding head_of
absent_head [] e = let z : ◌≡◌ {A = ℕ} 0 1 = cc in omega arith
absent_head (p ∷ ps) e = let z : ◌≡◌ {A = ℕ} 0 1 = cc in omega arith

absent_none : (ps : List (List ℕ)) (b : List ℕ) → following ps b ≡ Absent → (p : List ℕ) → Memᴰ p ps → begins p b ≡ false
absent_none [] b e p m = absurd (Memᴰ.not-nil m)
absent_none (q ∷ ps) b e p m =
    ⊎_elim (λ z. absurd (absent_head ps (sym (follow_here q ps b z) ∙ e)))
    (λ z. ⊎_elim (λ x. rw x z) (λ k. absent_none ps b (sym (follow_later q ps b z) ∙ e) p k) (Memᴰ.cases_cons m)) (bool_cases (begins q b))

none_absent : (ps : List (List ℕ)) (b : List ℕ) → ((p : List ℕ) → Memᴰ p ps → begins p b ≡ false) → following ps b ≡ Absent
unfolding following
none_absent [] b k = refl
none_absent (q ∷ ps) b k = follow_later q ps b (k q (Memᴰ.head refl)) ∙ none_absent ps b (λ p m. k p (Memᴰ.tail m))

absent_answer : (s : List ℤ) (h : Header) (x : Following) → answer_of s h x ≡ Err NotPath → x ≡ Absent
unfolding answer_of
absent_answer s h Absent e = refl
absent_answer s h Final e = let z : ◌≡◌ {A = ℕ} 0 1 = cc in absurd (omega arith)
absent_answer s h (Then p) e = let z : ◌≡◌ {A = ℕ} 0 1 = cc in absurd (omega arith)

module _ {s : List ℤ} {h : Header} {f : ℕ} {b : List ℕ} (u : Lent s h f b) where
  -- next is refused 12 exactly where the buffer begins with no path of the flow
  pub not_path : (next_walk s h f b ≡ Err NotPath) ↔ ((p : List ℕ) → PathOf s h f p → begins p b ≡ false)
  unfolding next_walk answer_of
  not_path = (
    λ e p k. absent_none (paths s h f) b (absent_answer s h (following (paths s h f) b) e) p (paths_complete s h u.sheet f u.flow p k),
    λ k. rw (none_absent (paths s h f) b (λ p m. k p (paths_sound s h u.sheet f u.flow p m)), answer_of),
  )

-- ---- answers fit a signed word

module _ {s : List ℤ} {h : Header} {f : ℕ} (a : Accepted s h) (l : f < h.flows) where
  small_walk : (p : List ℕ) → Memᴰ p (paths s h f) → Small (λ x. (x.value, x.count)) (walk_of s h p)
  small_walk p m = let z = path_small s h a f l p (paths_sound s h a f l p m) in (omega arith, omega arith)

  pub first_small : Small (λ x. (x.value, x.count)) (first_walk s h f)
  unfolding first_walk path
  first_small = small_walk (path s h f 0) (mem_at (paths s h f) 0 (paths_some s h a f l))

  pub next_small : (b : List ℕ) → Small (λ x. (x.value, x.count)) (next_walk s h f b)
  unfolding next_walk answer_of
  next_small b = go (following (paths s h f) b) refl
    where
      go : (x : Following) → following (paths s h f) b ≡ x → Small (λ x. (x.value, x.count)) (answer_of s h x)
      go Absent e = omega arith
      go Final e = omega arith
      go (Then p) e = small_walk p (then_mem (paths s h f) b p e)
