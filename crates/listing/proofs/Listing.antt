-- Demand 3 over lists of calls. A first leads to path 0, a next from path n to path n + 1 or, past the last one, to the same path and
-- refusal 13; so for every list of calls. Assumes nothing.
use Rattle.std.specs.Prelude.{Err}
use mathlib.Core.Path.{◌≡◌, refl, sym, ap, ◌∙◌}
use mathlib.Core.Bool.{true, false}
use mathlib.Core.List.{List, [], ◌∷◌, ◌++◌}
use Prim.Native.Nat.{ℕ, zero, suc, ◌+◌, ◌-◌, ◌≤◌, ◌<◌, min}
use lib.IntN.{ℤ}
use lib.ListN.{length, get_or, take, drop, replicate, drop_of_length-le}
use lib.Seq.{take-append_seam, drop-cons}
use native.Mathlib.Omega.{arith}
use native.Mathlib.Decide.{dec_lt}
use borrow.Author.Tests.{eq-eqb, ne_eqb}
use Rattle.answer.specs.declared.Refusal.TheVariants.{LastPath}
use Rattle.layout.specs.declared.Header.{Header}
use Rattle.walks.specs.Paths.{Before, here, later, paths, path}
use Rattle.walks.specs.Inner.{PathList, Lent}
use Rattle.listing.specs.Inner.{called, called_on, Listed, read_off}
use Rattle.walks.specs.Follows.{begins, Final, Then, head_of, following, walk_of, laid}
use Rattle.listing.specs.Calls.{first_walk, first_laid, answer_of, buffer_of, next_walk, next_laid}
use Rattle.listing.specs.Lists.{Call, First, Next, State, nexts, count}
use Rattle.walks.proofs.Follow.{follow_here, follow_later}
use Rattle.walks.proofs.Buffers.{laid_same, length_laid}
use Rattle.walks.proofs.Lists.{Ordered, none, more, mem_at}
use Rattle.walks.proofs.AllPaths.{path_list, paths_some, paths_ordered, path_sound, paths_short}

-- ---- the path that follows path n

begins_self : (p z : List ℕ) → begins p (p ++ z) ≡ true
unfolding begins
begins_self [] z = refl
begins_self (r ∷ p) z = rw (eq-eqb r r refl) (begins_self p z)

-- what holds a later path does not begin with an earlier one
before_begins : {p q : List ℕ} → Before p q → (z : List ℕ) → begins p (q ++ z) ≡ false
unfolding begins
before_begins (here {a = a} {b = b} l) z = rw (ne_eqb a b (λ e. omega arith))
before_begins (later {a = a} k) z = rw (eq-eqb a a refl) (before_begins k z)

follow_at : {ps : List (List ℕ)} → Ordered ps → (n : ℕ) (z : List ℕ) → n < length ps → following ps (get_or ps n [] ++ z) ≡ head_of (drop (suc n) ps)
follow_at none n z l = absurd (omega arith)
follow_at (more {p = p} {ps = ps} k o) zero z l = follow_here p ps (p ++ z) (begins_self p z)
follow_at (more {p = p} {ps = ps} k o) (suc n) z l =
    follow_later p ps (get_or ps n [] ++ z) (before_begins (k (get_or ps n []) (mem_at ps n (omega arith))) z) ∙ follow_at o n z (omega arith)

head_drop : (ps : List (List ℕ)) (n : ℕ) → n < length ps → head_of (drop n ps) ≡ Then (get_or ps n [])
unfolding head_of
head_drop ps n l = rw (drop-cons ps n [] l)

head_past : (ps : List (List ℕ)) (n : ℕ) → length ps ≤ n → head_of (drop n ps) ≡ Final
unfolding head_of
head_past ps n l = rw (drop_of_length-le ps l)

walked_refused : (s : List ℤ) (h : Header) (p : List ℕ) → walk_of s h p ≡ Err LastPath → ⊥
walked_refused s h p e = let z : ◌≡◌ {A = ℕ} 0 1 = cc in omega arith

-- ---- one call

module _ {s : List ℤ} {h : Header} {f : ℕ} {b : List ℕ} (u : Lent s h f b) where
  some : 1 ≤ count s h f
  unfolding count
  some = paths_some s h u.sheet f u.flow

  fits : (n : ℕ) → n < count s h f → length (path s h f n) ≤ length b
  unfolding count
  fits n k = omega (arith, paths_short s h u.sheet f u.flow (path s h f n) (path_sound s h u.sheet f u.flow n k), u.room)

  first_listed : (c : List ℕ) → length c ≡ length b → Listed s h f b 0 (called s h f c First)
  unfolding called first_laid first_walk
  first_listed c e =
      record {
        holds = let z : min 0 (count s h f - 1) ≡ 0 = omega arith in rw z (laid_same (path s h f 0) c b e);
        refused = (λ x. absurd (walked_refused s h (path s h f 0) x), λ x. absurd (omega (arith, some)));
        answers = λ x. refl;
      }

  -- where path n stands in the buffer, path n + 1 follows, or nothing after the last path
  follows : (n : ℕ) → n < count s h f → following (paths s h f) (laid (path s h f n) b) ≡ head_of (drop (suc n) (paths s h f))
  unfolding laid path count
  follows n k = follow_at (paths_ordered s h f) n (replicate (length b - length (path s h f n)) 0) k

  pub then_next : (n : ℕ) → suc n < count s h f → following (paths s h f) (laid (path s h f n) b) ≡ Then (path s h f (suc n))
  unfolding path count
  then_next n k = follows n (omega arith) ∙ head_drop (paths s h f) (suc n) k

  pub then_none : (n : ℕ) → suc n ≡ count s h f → following (paths s h f) (laid (path s h f n) b) ≡ Final
  unfolding count
  then_none n e = follows n (omega arith) ∙ head_past (paths s h f) (suc n) (omega arith)

  -- the state after a next, by what follows
  next_found : (n : ℕ) (c : List ℕ) → c ≡ laid (path s h f n) b → suc n < count s h f → Listed s h f b (suc n) (called s h f c Next)
  unfolding called next_laid next_walk buffer_of answer_of
  next_found n c e k =
      let z : min (suc n) (count s h f - 1) ≡ suc n = omega arith in
      let y = then_next n k in
      record {
        holds =
            rw (z, e, y, buffer_of) (laid_same (path s h f (suc n)) (laid (path s h f n) b) b (length_laid (path s h f n) b (fits n (omega arith))));
        refused = (λ x. absurd (walked_refused s h (path s h f (suc n)) (rw (e, y, answer_of) at x)), λ x. absurd (omega arith));
        answers = λ x. rw (e, y, answer_of);
      }

  next_past : (n m : ℕ) (c : List ℕ) → c ≡ laid (path s h f m) b → suc m ≡ count s h f → count s h f ≤ n → Listed s h f b n (called s h f c Next)
  unfolding called next_laid next_walk buffer_of answer_of
  next_past n m c e k q =
      let z : min n (count s h f - 1) ≡ m = omega arith in
      let y = then_none m k in
      record {
        holds = rw (z, e, y, buffer_of);
        refused = (λ x. q, λ x. rw (e, y, answer_of));
        answers = λ x. absurd (omega arith);
      }

  next_listed : (n : ℕ) (t : State) → Listed s h f b n t → Listed s h f b (suc n) (called s h f t.buffer Next)
  next_listed n t r = go (dec_lt (suc n) (count s h f))
    where
      go : Dec (suc n < count s h f) → Listed s h f b (suc n) (called s h f t.buffer Next)
      go (yes k) = let z : min n (count s h f - 1) ≡ n = omega arith in next_found n t.buffer (rw z at r.holds) k
      go (no k) =
          let z : min n (count s h f - 1) ≡ count s h f - 1 = omega arith in
          next_past (suc n) (count s h f - 1) t.buffer (rw z at r.holds) (omega (arith, some)) (omega arith)

  -- ---- every list of calls

  pub held_length : (n : ℕ) (t : State) → Listed s h f b n t → length t.buffer ≡ length b
  held_length n t r =
      ap length r.holds ∙ length_laid (path s h f (min n (count s h f - 1))) b (fits (min n (count s h f - 1)) (omega (arith, some)))

  pub calls_listed : (n : ℕ) (t : State) → Listed s h f b n t → (cs : List Call) → Listed s h f b (nexts n cs) (called_on s h f t cs)
  unfolding nexts called_on
  calls_listed n t r [] = r
  calls_listed n t r (First ∷ cs) = calls_listed 0 (called s h f t.buffer First) (first_listed t.buffer (held_length n t r)) cs
  calls_listed n t r (Next ∷ cs) = calls_listed (suc n) (called s h f t.buffer Next) (next_listed n t r) cs

  -- the theorem: of every list that starts with a first, refused calls included, whatever the buffer held before
  pub listing : (cs : List Call) → Listed s h f b (nexts 0 (First ∷ cs)) (called_on s h f (called s h f b First) cs)
  unfolding nexts
  listing cs = calls_listed 0 (called s h f b First) (first_listed b refl) cs

  -- ---- a first and then nexts until one is refused

  take_laid : (p : List ℕ) → take (length p) (laid p b) ≡ p
  unfolding laid
  take_laid p = take-append_seam p (replicate (length b - length p) 0)

  read_path : (k : ℕ) (t : State) (p : List ℕ) → t.answer ≡ walk_of s h p → t.buffer ≡ laid p b
      → read_off s h f (suc k) t ≡ p ∷ read_off s h f k (called s h f t.buffer Next)
  unfolding read_off
  read_path k t p e z =
      rw (e, read_off) (ap (λ (q : List ℕ). q ∷ read_off s h f k (called s h f t.buffer Next)) (ap (take (length p)) z ∙ take_laid p))

  read_refused : (k : ℕ) (t : State) → t.answer ≡ Err LastPath → read_off s h f (suc k) t ≡ []
  unfolding read_off
  read_refused k t e = rw (e, read_off)

  read_listed : (k n : ℕ) (t : State) → Listed s h f b n t → n ≤ count s h f → count s h f < n + k → read_off s h f k t ≡ drop n (paths s h f)
  unfolding count path
  read_listed zero n t r p q = absurd (omega arith)
  read_listed (suc k) n t r p q =
      go (dec_lt n (count s h f)) (λ m. read_listed k (suc n) (called s h f t.buffer Next) (next_listed n t r) m (omega arith))
    where
      go : Dec (n < count s h f) → (suc n ≤ count s h f → read_off s h f k (called s h f t.buffer Next) ≡ drop (suc n) (paths s h f))
          → read_off s h f (suc k) t ≡ drop n (paths s h f)
      go (yes m) rest =
          let z : min n (count s h f - 1) ≡ n = omega arith in
          read_path k t (path s h f n) (r.answers m) (rw z at r.holds)
          ∙ ap (λ (q : List (List ℕ)). path s h f n ∷ q) (rest m)
          ∙ sym (drop-cons (paths s h f) n [] m)
      go (no m) rest = read_refused k t (r.refused.1 (omega arith)) ∙ sym (drop_of_length-le (paths s h f) {i = n} (omega arith))

  -- the paths read off the buffer are the flow's list of paths
  pub listing_whole : (k : ℕ) → count s h f < k → read_off s h f k (called s h f b First) ≡ paths s h f
  listing_whole k q = read_listed k 0 (called s h f b First) (first_listed b refl) (omega arith) (omega arith)

  -- which is every path, each once, in order, none missing
  pub listing_paths : (k : ℕ) → count s h f < k → PathList s h f (read_off s h f k (called s h f b First))
  listing_paths k q = rw (listing_whole k q) (path_list s h u.sheet f u.flow)
