-- The laws of the ladder's combinators, once for every call.
-- Assumes nothing.
use Rattle.std.specs.Prelude.{Ok, Err}
use mathlib.Core.Path.{◌≡◌, refl, sym, ap, subst, ◌∙◌}
use mathlib.Core.Bool.{Bool, true, false, ◌&&◌}
use mathlib.Core.List.{List}
use Prim.Native.Nat.{ℕ}
use lib.IntN.{ℤ}
use native.Mathlib.Omega.{arith}
use Rattle.answer.proofs.Distinct.{refused_done}
use Rattle.answer.specs.declared.Refusal.{Refusal}
use Rattle.answer.specs.declared.Refusal.TheVariants.{Length, Missing}
use Rattle.answer.specs.Answers.{Status}
use Rattle.layout.specs.declared.Header.{Header}
use Rattle.layout.specs.Header.{header_of}
use Rattle.records.specs.Accept.{checked}
use Rattle.records.specs.Accepted.{Accepted}
use Rattle.records.proofs.Acceptance.{accepted}
use Rattle.ladder.specs.Ladder.{Climbed, then, unless, rungs, reached, opened, by, climb}
use Rattle.ladder.specs.Inner.{after}

-- ---- rungs

pub then_stop : {t : Status} {r : Refusal} (u : Status) → t ≡ Err r → Err r ≡ then t u
unfolding then
then_stop u p = sym (rw (p, then))

pub then_go : {t u x : Status} → t ≡ Ok tt → x ≡ u → x ≡ then t u
unfolding then
then_go p q = rw (p, then) q

-- no rung after this one
pub then_none : (t : Status) → then t (Ok tt) ≡ t
unfolding then
then_none (Ok _) = refl
then_none (Err r) = refl

pub then_done : (t u : Status) → then t u ≡ Ok tt → (t ≡ Ok tt) × (u ≡ Ok tt)
unfolding then
then_done (Ok _) u e = (refl, e)
then_done (Err r) u e = absurd (refused_done e)

pub unless_true : {b : Bool} (r : Refusal) → b ≡ true → (Ok tt) ≡ unless b r
unfolding unless
unless_true r p = sym (rw (p, unless))

pub unless_false : {b : Bool} (r : Refusal) → b ≡ false → Err r ≡ unless b r
unfolding unless
unless_false r p = sym (rw (p, unless))

unless_done : (b : Bool) (r : Refusal) → unless b r ≡ Ok tt → b ≡ true
unfolding unless
unless_done true r e = refl
unless_done false r e = absurd (refused_done e)

-- nothing is refused on any rung
pub record Passed (l n : Bool) (f t : Status) : Type 0 where
  pub lengths : l ≡ true
  pub numbers : n ≡ true
  pub facts : f ≡ Ok tt
  pub states : t ≡ Ok tt

pub passed : {l n : Bool} {f t : Status} → rungs l n f t ≡ Ok tt → Passed l n f t
passed e =
    let a = then_done _ _ e in
    let b = then_done _ _ a.0 in
    let d = then_done _ _ b.0 in
    record { lengths = unless_done _ _ d.0; numbers = unless_done _ _ d.1; facts = b.1; states = a.1 }

pub all_passed : {l n : Bool} {f t : Status} → Passed l n f t → rungs l n f t ≡ Ok tt
unfolding then unless
all_passed p = rw (p.lengths, p.numbers, p.facts, p.states, then, unless)

-- where a length is wrong, nothing else is judged
pub no_length : {l : Bool} (n : Bool) (f t : Status) → l ≡ false → rungs l n f t ≡ Err Length
unfolding then unless
no_length n f t p = rw (p, then, unless)

pub no_number : {n : Bool} (f t : Status) → n ≡ false → rungs true n f t ≡ Err Missing
unfolding then unless
no_number f t p = rw (p, then, unless)

-- numbers may be asked for only where the lengths are right
pub asked_after : (l n : Bool) → then (unless l Length) (unless (l && n) Missing) ≡ then (unless l Length) (unless n Missing)
unfolding then unless
asked_after true n = refl
asked_after false n = refl

-- the rungs so far, as the code holds them
pub called : {l n : Bool} {t : Status} → t ≡ then (unless l Length) (unless n Missing) → t ≡ Ok tt → (l ≡ true) × (n ≡ true)
called e d = let w = then_done _ _ (sym e ∙ d) in (unless_done _ _ w.0, unless_done _ _ w.1)

pub before_done : (t u : Status) {x : Status} → x ≡ then t u → x ≡ Ok tt → t ≡ Ok tt
before_done t u e d = (then_done _ _ (sym e ∙ d)).0

-- ---- where a climb stops

pub reached_stop : {t : Status} {r : Refusal} (h : Header) → t ≡ Err r → Err r ≡ reached t h
unfolding reached
reached_stop h p = sym (rw (p, reached))

pub reached_go : {t : Status} (h : Header) → t ≡ Ok tt → Ok h ≡ reached t h
unfolding reached
reached_go h p = sym (rw (p, reached))

pub reached_at : (t : Status) {h g : Header} → reached t h ≡ Ok g → (t ≡ Ok tt) × (h ≡ g)
unfolding reached
reached_at (Ok _) e = (refl, cc)
reached_at (Err r) e = let z : ◌≡◌ {A = ℕ} 0 1 = cc in absurd (omega arith)

pub stopped_at : {r : Refusal} {h : Header} → Err r ≡ Ok h → ⊥
stopped_at e = let z : ◌≡◌ {A = ℕ} 0 1 = cc in omega arith

-- a call's answer, or a buffer that it leaves: x is where its climb stopped
module _ {A : Type 0} {c x : Climbed} (f : Refusal → A) (g : Header → A) (e : x ≡ c) where
  pub stopped : {r : Refusal} → x ≡ Err r → f r ≡ by c f g
  unfolding by
  stopped p = sym (rw (sym e ∙ p, by))

  pub worked : {h : Header} {a : A} → x ≡ Ok h → a ≡ g h → a ≡ by c f g
  unfolding by
  worked p q = rw (sym e ∙ p, by) q

-- what holds of every refusal and of the work holds of the answer
pub by_all : {A : Type 0} (P : A → Type 0) (c : Climbed) (f : Refusal → A) (g : Header → A) → ((r : Refusal) → c ≡ Err r → P (f r))
    → ((h : Header) → c ≡ Ok h → P (g h)) → P (by c f g)
unfolding by
by_all P (Ok h) f g u v = v h refl
by_all P (Err r) f g u v = u r refl

-- ---- a call's climb: the sheet is opened, the rungs are judged under its header

module _ (rest : Header → Status) {o x : Climbed} (e : x ≡ o) where
  pub climb_stops : {r : Refusal} → x ≡ Err r → Err r ≡ climb o rest
  unfolding climb
  climb_stops p = stopped Err _ e p

  pub climb_goes : {h : Header} {t : Status} {y : Climbed} → x ≡ Ok h → y ≡ reached t h → t ≡ rest h → y ≡ climb o rest
  unfolding climb
  climb_goes {h = h} p q z = worked Err _ e p (rw (← z) q)

-- a climb past every rung: the sheet was opened, and its rungs refuse nothing
pub record Past (o : Climbed) (rest : Header → Status) (h : Header) : Type 0 where
  pub sheet : o ≡ Ok h
  pub clear : rest h ≡ Ok tt

pub climbed_at : (o : Climbed) (rest : Header → Status) {h : Header} {x : Climbed} → x ≡ climb o rest → x ≡ Ok h → Past o rest h
unfolding climb by
climbed_at o rest {h} e p = go o (sym e ∙ p)
  where
    go : (o : Climbed) → by o Err (λ h. reached (rest h) h) ≡ Ok h → Past o rest h
    go (Err r) q = let z : ◌≡◌ {A = ℕ} 0 1 = cc in absurd (omega arith)
    go (Ok g) q = let w = reached_at (rest g) q in rw (← w.1) (record { sheet = refl; clear = w.0 })

-- and the other way: by its rungs, such a call works or is refused
module _ {A : Type 0} {o : Climbed} {h : Header} (rest : Header → Status) (f : Refusal → A) (g : Header → A) (p : o ≡ Ok h) where
  pub climbs : rest h ≡ Ok tt → by (climb o rest) f g ≡ g h
  climbs d = sym (worked f g (climb_goes rest refl p (reached_go _ refl) (sym d)) refl refl)

  pub refuses : {r : Refusal} → rest h ≡ Err r → by (climb o rest) f g ≡ f r
  refuses d = sym (stopped f g (climb_goes rest refl p (reached_stop _ refl) (sym d)) refl)

-- rungs that agree on an opened sheet, and work that agrees past them
pub climb_same : (o : Climbed) (f g : Header → Status) → ((h : Header) → o ≡ Ok h → f h ≡ g h) → climb o f ≡ climb o g
unfolding climb by
climb_same (Ok h) f g e = ap (λ (t : Status). reached t h) (e h refl)
climb_same (Err r) f g e = refl

pub by_same : {A : Type 0} (c : Climbed) (f : Refusal → A) (g k : Header → A) → ((h : Header) → c ≡ Ok h → g h ≡ k h) → by c f g ≡ by c f k
unfolding by
by_same (Ok h) f g k e = e h refl
by_same (Err r) f g k e = refl

-- ---- a call whose buffers are sized by the header: it opens the sheet, and judges the rungs by a status of its own

module _ {A : Type 0} {t u : Status} (f : Refusal → A) (a : A) (e : u ≡ t) where
  pub after_stops : {r : Refusal} → u ≡ Err r → f r ≡ after t f a
  unfolding after
  after_stops p = sym (rw (sym e ∙ p, after))

  pub after_goes : {x : A} → u ≡ Ok tt → x ≡ a → x ≡ after t f a
  unfolding after
  after_goes p q = rw (sym e ∙ p, after) q

reached_by : {A : Type 0} (t : Status) (h : Header) (f : Refusal → A) (g : Header → A) → by (reached t h) f g ≡ after t f (g h)
unfolding by reached after
reached_by (Ok _) h f g = refl
reached_by (Err r) h f g = refl

module _ {A : Type 0} (rest : Header → Status) (f : Refusal → A) (g : Header → A) {o x : Climbed} (e : x ≡ o) where
  pub by_stops : {r : Refusal} → x ≡ Err r → f r ≡ by (climb o rest) f g
  by_stops p = stopped f g refl (sym (climb_stops rest e p))

  pub by_goes : {h : Header} {a : A} → x ≡ Ok h → a ≡ after (rest h) f (g h) → a ≡ by (climb o rest) f g
  by_goes {h} p q = q ∙ sym (reached_by (rest h) h f g) ∙ ap (λ (c : Climbed). by c f g) (climb_goes rest e p refl refl)

-- ---- the sheet

-- an opened sheet is accepted, and its header is the one that is read
pub record Open (s : List ℤ) (h : Header) : Type 0 where
  pub done : checked s ≡ Ok tt
  pub header : header_of s ≡ h
  pub sheet : Accepted s h

pub opened_at : (s : List ℤ) {h : Header} {x : Climbed} → x ≡ opened s → x ≡ Ok h → Open s h
unfolding opened
opened_at s e p =
    let w = reached_at (checked s) (sym e ∙ p) in
    record { done = w.0; header = w.1; sheet = subst (Accepted s) w.1 (accepted s w.0) }

-- so is the sheet of a climb past every rung
pub climbed_sheet : (s : List ℤ) (rest : Header → Status) {h : Header} {x : Climbed} → x ≡ climb (opened s) rest → x ≡ Ok h → Accepted s h
climbed_sheet s rest e p = (opened_at s refl (climbed_at (opened s) rest e p).sheet).sheet

pub opened_done : (s : List ℤ) → checked s ≡ Ok tt → Ok (header_of s) ≡ opened s
unfolding opened
opened_done s e = reached_go _ e

pub opened_not : (s : List ℤ) {r : Refusal} → checked s ≡ Err r → Err r ≡ opened s
unfolding opened
opened_not s e = reached_stop _ e
