-- The path that follows in a list of paths: lists put together, and lists of the paths that begin with a step's routes in turn.
-- Assumes nothing.
use mathlib.Core.Path.{◌≡◌, refl, sym, ap, ◌∙◌}
use mathlib.Core.Bool.{true, false}
use mathlib.Core.List.{List, [], ◌∷◌, ◌++◌, map, append_assoc}
use mathlib.Core.Logic.{◌⊎◌, inl, inr, ⊎_elim}
use Prim.Native.Nat.{ℕ, zero, suc, ◌+◌, ◌≤◌, ◌<◌}
use lib.ListN.{length, get_or, length-append, length-map}
use native.Mathlib.Omega.{arith}
use native.Mathlib.Decide.{ℕ_discrete}
use borrow.Author.Tests.{eq-eqb, ne_eqb}
use Rattle.tables.proofs.Bools.{bool_cases}
use Rattle.walks.specs.Paths.{in_turn}
use Rattle.walks.specs.Follows.{begins, Following, Absent, Final, Then, head_of, following}

-- by whether the list's first path is the one that the buffer begins with
module _ (p : List ℕ) (ps : List (List ℕ)) (b : List ℕ) where
  pub follow_here : begins p b ≡ true → following (p ∷ ps) b ≡ head_of ps
  unfolding following
  follow_here e = rw (e, following)

  pub follow_later : begins p b ≡ false → following (p ∷ ps) b ≡ following ps b
  unfolding following
  follow_later e = rw (e, following)

-- what follows in a list is put after the routes `pre`; where it is the list's last path, `other` follows
unfoldable pub resolve : List ℕ → Following → Following → Following
resolve pre other Absent = Absent
resolve pre other Final = other
resolve pre other (Then p) = Then (pre ++ p)

pub resolve_none : (x : Following) → resolve [] Final x ≡ x
unfolding resolve
resolve_none Absent = refl
resolve_none Final = refl
resolve_none (Then p) = refl

-- a walk that goes on: its routes are put together, and the nearer turn comes first
pub resolve_more : (p q : List ℕ) (o z x : Following) → resolve p o (resolve q z x) ≡ resolve (p ++ q) (resolve p o z) x
unfolding resolve
resolve_more p q o z Absent = refl
resolve_more p q o z Final = refl
resolve_more p q o z (Then r) = rw append_assoc

-- the answer for a list put before another
joined : Following → List (List ℕ) → List ℕ → Following
joined Absent qs b = following qs b
joined Final qs b = head_of qs
joined (Then p) qs b = Then p

joined_head : (ps qs : List (List ℕ)) (b : List ℕ) → head_of (ps ++ qs) ≡ joined (head_of ps) qs b
unfolding joined head_of
joined_head [] qs b = refl
joined_head (p ∷ ps) qs b = refl

follow_append : (ps qs : List (List ℕ)) (b : List ℕ) → following (ps ++ qs) b ≡ joined (following ps b) qs b
unfolding joined following
follow_append [] qs b = refl
follow_append (p ∷ ps) qs b =
    ⊎_elim (λ e. follow_here p (ps ++ qs) b e ∙ joined_head ps qs b ∙ ap (λ (x : Following). joined x qs b) (sym (follow_here p ps b e)))
    (λ e. follow_later p (ps ++ qs) b e ∙ follow_append ps qs b ∙ ap (λ (x : Following). joined x qs b) (sym (follow_later p ps b e)))
    (bool_cases (begins p b))

-- the paths that begin with route r: the buffer begins with one only where it begins with r
head_put : (r : ℕ) (ps : List (List ℕ)) → head_of (map (λ p. r ∷ p) ps) ≡ resolve (r ∷ []) Final (head_of ps)
unfolding head_of resolve
head_put r [] = refl
head_put r (p ∷ ps) = refl

begins_put : (r : ℕ) (p b : List ℕ) → begins (r ∷ p) (r ∷ b) ≡ begins p b
unfolding begins
begins_put r p b = rw (eq-eqb r r refl)

begins_other : (r x : ℕ) (p b : List ℕ) → (r ≡ x → ⊥) → begins (r ∷ p) (x ∷ b) ≡ false
unfolding begins
begins_other r x p b n = rw (ne_eqb r x n)

follow_put : (r : ℕ) (ps : List (List ℕ)) (b : List ℕ) → following (map (λ p. r ∷ p) ps) (r ∷ b) ≡ resolve (r ∷ []) Final (following ps b)
unfolding following resolve
follow_put r [] b = refl
follow_put r (p ∷ ps) b =
    ⊎_elim
    (λ e.
    follow_here (r ∷ p) (map (λ p. r ∷ p) ps) (r ∷ b) (begins_put r p b ∙ e) ∙ head_put r ps
    ∙ ap (resolve (r ∷ []) Final) (sym (follow_here p ps b e)))
    (λ e.
    follow_later (r ∷ p) (map (λ p. r ∷ p) ps) (r ∷ b) (begins_put r p b ∙ e) ∙ follow_put r ps b
    ∙ ap (resolve (r ∷ []) Final) (sym (follow_later p ps b e))) (bool_cases (begins p b))

follow_other : (r x : ℕ) (ps : List (List ℕ)) (b : List ℕ) → (r ≡ x → ⊥) → following (map (λ p. r ∷ p) ps) (x ∷ b) ≡ Absent
unfolding following
follow_other r x [] b n = refl
follow_other r x (p ∷ ps) b n = follow_later (r ∷ p) (map (λ p. r ∷ p) ps) (x ∷ b) (begins_other r x p b n) ∙ follow_other r x ps b n

module _ (after : ℕ → List (List ℕ)) where
  -- the buffer begins with none of the routes
  pub turn_absent : (r n x : ℕ) (b : List ℕ) → (x < r) ⊎ (r + n ≤ x) → following (in_turn after r n) (x ∷ b) ≡ Absent
  unfolding in_turn following joined
  turn_absent r zero x b o = refl
  turn_absent r (suc n) x b o =
      follow_append (map (λ p. r ∷ p) (after r)) (in_turn after (suc r) n) (x ∷ b)
      ∙ ap (λ (y : Following). joined y (in_turn after (suc r) n) (x ∷ b))
      (follow_other r x (after r) b (⊎_elim (λ (l : x < r) (e : r ≡ x). omega arith) (λ (l : r + suc n ≤ x) (e : r ≡ x). omega arith) o))
      ∙ turn_absent (suc r) n x b (⊎_elim (λ (l : x < r). inl (omega arith)) (λ (l : r + suc n ≤ x). inr (omega arith)) o)

  -- it begins with the first of the routes
  turn_here : (r n : ℕ) (b : List ℕ)
      → following (in_turn after r (suc n)) (r ∷ b) ≡ resolve (r ∷ []) (head_of (in_turn after (suc r) n)) (following (after r) b)
  unfolding in_turn resolve joined
  turn_here r n b =
      follow_append (map (λ p. r ∷ p) (after r)) (in_turn after (suc r) n) (r ∷ b)
      ∙ ap (λ (y : Following). joined y (in_turn after (suc r) n) (r ∷ b)) (follow_put r (after r) b)
      ∙ go (following (after r) b)
    where
      go : (y : Following) → joined (resolve (r ∷ []) Final y) (in_turn after (suc r) n) (r ∷ b) ≡ resolve (r ∷ []) (head_of (in_turn after (suc r) n)) y
      go Absent = turn_absent (suc r) n r b (inl (omega arith))
      go Final = refl
      go (Then p) = refl

  turn_past : (r n x : ℕ) (b : List ℕ) → (r ≡ x → ⊥) → following (in_turn after r (suc n)) (x ∷ b) ≡ following (in_turn after (suc r) n) (x ∷ b)
  unfolding in_turn joined
  turn_past r n x b z =
      follow_append (map (λ p. r ∷ p) (after r)) (in_turn after (suc r) n) (x ∷ b)
      ∙ ap (λ (y : Following). joined y (in_turn after (suc r) n) (x ∷ b)) (follow_other r x (after r) b z)

  -- it begins with route x: where the last path after x is found, the first path of the routes after x follows
  pub turn_follow : (r n x m : ℕ) (b : List ℕ) → r ≤ x → r + n ≡ suc x + m
      → following (in_turn after r n) (x ∷ b) ≡ resolve (x ∷ []) (head_of (in_turn after (suc x) m)) (following (after x) b)
  turn_follow r zero x m b l e = absurd (omega arith)
  turn_follow r (suc n) x m b l e = go (ℕ_discrete r x) (λ q. turn_follow (suc r) n x m b q (omega arith))
    where
      go : Dec (r ≡ x)
          → (suc r ≤ x → following (in_turn after (suc r) n) (x ∷ b) ≡ resolve (x ∷ []) (head_of (in_turn after (suc x) m)) (following (after x) b))
          → following (in_turn after r (suc n)) (x ∷ b) ≡ resolve (x ∷ []) (head_of (in_turn after (suc x) m)) (following (after x) b)
      go (yes z) k = let q : n ≡ m = omega arith in rw (← z, ← q) (turn_here r n b)
      go (no z) k = turn_past r n x b z ∙ k (omega arith)

-- the first path of a list that is not empty
pub head_some : (ps : List (List ℕ)) → 1 ≤ length ps → head_of ps ≡ Then (get_or ps 0 [])
unfolding head_of
head_some [] l = absurd (omega arith)
head_some (p ∷ ps) l = refl

-- the first path by routes in turn: the first route, and the first path after it
pub turn_first : (after : ℕ → List (List ℕ)) (r n : ℕ) → 1 ≤ length (after r) → get_or (in_turn after r (suc n)) 0 [] ≡ r ∷ get_or (after r) 0 []
unfolding in_turn
turn_first after r n l = go (after r) l
  where
    go : (ps : List (List ℕ)) → 1 ≤ length ps → get_or (map (λ p. r ∷ p) ps ++ in_turn after (suc r) n) 0 [] ≡ r ∷ get_or ps 0 []
    go [] l = absurd (omega arith)
    go (p ∷ ps) l = refl

pub turn_some : (after : ℕ → List (List ℕ)) (r n : ℕ) → 1 ≤ length (after r) → 1 ≤ length (in_turn after r (suc n))
unfolding in_turn
turn_some after r n l = omega (arith, length-append (map (λ p. r ∷ p) (after r)) (in_turn after (suc r) n), length-map (after r) (λ p. r ∷ p))
