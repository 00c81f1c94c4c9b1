-- Which paths a list made by routes in turn holds, and that it is in order.
-- Assumes nothing.
use mathlib.Core.Path.{◌≡◌, refl, sym, ap, subst}
use mathlib.Core.List.Memᴰ
use mathlib.Core.List.{List, [], ◌∷◌, ◌++◌, map, Memᴰ}
use mathlib.Core.Logic.{⊎_elim}
use Prim.Native.Nat.{ℕ, zero, suc, ◌+◌, ◌≤◌, ◌<◌}
use native.Mathlib.Omega.{arith}
use native.Mathlib.Decide.{ℕ_discrete}
use lib.ListN.{length, get_or}
use Rattle.walks.specs.Paths.{Before, here, later, in_turn, Among}

-- ---- members

mem_put : (r : ℕ) (q : List ℕ) (ps : List (List ℕ)) → Memᴰ q ps → Memᴰ (r ∷ q) (map (λ p. r ∷ p) ps)
mem_put r q [] x = elim x [ ]
mem_put r q (p ∷ ps) (Memᴰ.head e) = Memᴰ.head (ap (λ (t : List ℕ). r ∷ t) e)
mem_put r q (p ∷ ps) (Memᴰ.tail m) = Memᴰ.tail (mem_put r q ps m)

-- p is route r and then one of the list
record Put (r : ℕ) (p : List ℕ) (ps : List (List ℕ)) : Type 0 where
  rest : List ℕ
  is : p ≡ r ∷ rest
  mem : Memᴰ rest ps

put_mem : (r : ℕ) (p : List ℕ) (ps : List (List ℕ)) → Memᴰ p (map (λ p. r ∷ p) ps) → Put r p ps
put_mem r p [] m = absurd (Memᴰ.not-nil m)
put_mem r p (q ∷ ps) m =
    ⊎_elim (λ e. record { rest = q; is = e; mem = Memᴰ.head refl })
    (λ k. let z = put_mem r p ps k in record { rest = z.rest; is = z.is; mem = Memᴰ.tail z.mem }) (Memᴰ.cases_cons m)

-- p is one of the n routes from r on, and then what can follow it
pub record Turn (after : ℕ → List (List ℕ)) (r n : ℕ) (p : List ℕ) : Type 0 where
  pub route : ℕ
  pub rest : List ℕ
  pub low : r ≤ route
  pub high : route < r + n
  pub is : p ≡ route ∷ rest
  pub mem : Memᴰ rest (after route)

module _ (after : ℕ → List (List ℕ)) where
  pub turn_mem : (r n : ℕ) (p : List ℕ) → Memᴰ p (in_turn after r n) → Turn after r n p
  unfolding in_turn
  turn_mem r zero p m = absurd (Memᴰ.not-nil m)
  turn_mem r (suc n) p m =
      ⊎_elim
      (λ k. let z = put_mem r p (after r) k in record { route = r; rest = z.rest; low = omega arith; high = omega arith; is = z.is; mem = z.mem })
      (λ k.
      let z = turn_mem (suc r) n p k in
      record { route = z.route; rest = z.rest; low = omega (arith, z.low); high = omega (arith, z.high); is = z.is; mem = z.mem })
      (Memᴰ.append_cases (map (λ p. r ∷ p) (after r)) m)

  pub mem_turn : (r n x : ℕ) (p : List ℕ) → r ≤ x → x < r + n → Memᴰ p (after x) → Memᴰ (x ∷ p) (in_turn after r n)
  unfolding in_turn
  mem_turn r zero x p l k m = absurd (omega arith)
  mem_turn r (suc n) x p l k m = go (ℕ_discrete r x) (λ q. mem_turn (suc r) n x p q (omega arith) m)
    where
      go : Dec (r ≡ x) → (suc r ≤ x → Memᴰ (x ∷ p) (in_turn after (suc r) n))
          → Memᴰ (x ∷ p) (map (λ p. r ∷ p) (after r) ++ in_turn after (suc r) n)
      go (yes e) z = rw e (Memᴰ.append_left (in_turn after (suc x) n) (mem_put x p (after x) m))
      go (no e) z = Memᴰ.append_right (map (λ p. r ∷ p) (after r)) (z (omega arith))

-- ---- order

-- each path comes before those after it
pub data Ordered : List (List ℕ) → Type 0 where
  none : Ordered []
  more : {p : List ℕ} {ps : List (List ℕ)} → ((q : List ℕ) → Memᴰ q ps → Before p q) → Ordered ps → Ordered (p ∷ ps)

ordered_put : (r : ℕ) {ps : List (List ℕ)} → Ordered ps → Ordered (map (λ p. r ∷ p) ps)
ordered_put r none = none
ordered_put r (more {p = p} {ps = ps} k o) =
    more (λ q m. let z = put_mem r q ps m in subst (Before (r ∷ p)) (sym z.is) (later (k z.rest z.mem))) (ordered_put r o)

ordered_append : {ps qs : List (List ℕ)} → Ordered ps → Ordered qs → ((p q : List ℕ) → Memᴰ p ps → Memᴰ q qs → Before p q)
    → Ordered (ps ++ qs)
ordered_append none o k = o
ordered_append (more {p = p} {ps = ps} l u) o k =
    more (λ q m. ⊎_elim (λ x. l q x) (λ y. k p q (Memᴰ.head refl) y) (Memᴰ.append_cases ps m))
    (ordered_append u o (λ x y m n. k x y (Memᴰ.tail m) n))

pub ordered_turn : (after : ℕ → List (List ℕ)) → ((x : ℕ) → Ordered (after x)) → (r n : ℕ) → Ordered (in_turn after r n)
unfolding in_turn
ordered_turn after k r zero = none
ordered_turn after k r (suc n) =
    ordered_append (ordered_put r (k r)) (ordered_turn after k (suc r) n)
    (λ p q m o.
    let y = put_mem r p (after r) m in
    let z = turn_mem after (suc r) n q o in
    subst (λ (t : List ℕ). Before t q) (sym y.is) (subst (Before (r ∷ y.rest)) (sym z.is) (here (omega (arith, z.low)))))

-- path by path: an earlier one comes before a later one
pub mem_at : (ps : List (List ℕ)) (n : ℕ) → n < length ps → Memᴰ (get_or ps n []) ps
mem_at [] n l = absurd (omega arith)
mem_at (p ∷ ps) zero l = Memᴰ.head refl
mem_at (p ∷ ps) (suc n) l = Memᴰ.tail (mem_at ps n (omega arith))

pub ordered_at : {ps : List (List ℕ)} → Ordered ps → (j k : ℕ) → j < k → k < length ps → Before (get_or ps j []) (get_or ps k [])
ordered_at none j k l m = absurd (omega arith)
ordered_at (more {ps = ps} z o) zero zero l m = absurd (omega arith)
ordered_at (more {ps = ps} z o) zero (suc k) l m = z (get_or ps k []) (mem_at ps k (omega arith))
ordered_at (more {ps = ps} z o) (suc j) zero l m = absurd (omega arith)
ordered_at (more {ps = ps} z o) (suc j) (suc k) l m = ordered_at o j k (omega arith) (omega arith)

-- a member has a number
pub number_of : (ps : List (List ℕ)) (p : List ℕ) → Memᴰ p ps → Among ps p
number_of [] p m = absurd (Memᴰ.not-nil m)
number_of (q ∷ ps) p (Memᴰ.head e) = record { number = 0; below = omega arith; is = sym e }
number_of (q ∷ ps) p (Memᴰ.tail m) = let z = number_of ps p m in record { number = suc z.number; below = omega (arith, z.below); is = z.is }
