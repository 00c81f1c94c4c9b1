-- What remains to be written, path by path and flow by flow, and what the calls of the listing make of a cursor.
-- Assumes nothing.
use Rattle.std.specs.Prelude.{Err}
use Prim.Native.Nat.{ℕ, suc, ◌+◌, ◌-◌, ◌≤◌, ◌<◌}
use mathlib.Core.Path.{◌≡◌, refl, sym, ◌∙◌, ap}
use mathlib.Core.Bool.{Bool, true, false}
use mathlib.Core.List.{List, [], ◌++◌, append_assoc, map}
use mathlib.Core.Logic.{◌⊎◌, inl, inr, ⊎_elim}
use native.Mathlib.Omega.{arith}
use borrow.Author.Tests.{lt-ltb, lt-leb}
use native.Mathlib.Decide.{dec_lt}
use native.Mathlib.Numerals.{add-one}
use lib.IntN.{ℤ}
use lib.ListN.{length, take, drop, length-take, drop_of_length-le}
use lib.Seq.{drop-cons, get_or-take}
use Rattle.answer.specs.declared.Refusal.{Refusal}
use Rattle.answer.specs.declared.Tally.{Tally}
use Rattle.answer.specs.Answers.{tallied, Counted}
use Rattle.layout.specs.declared.Header.{Header}
use Rattle.records.proofs.FlowLaws.{flow_ok}
use Rattle.walks.specs.Paths.{paths, path, terminal}
use Rattle.walks.specs.Follows.{Following, following, walk_of, laid}
use Rattle.listing.specs.Calls.{first_walk, first_laid, answer_of, buffer_of, next_walk, next_laid}
use Rattle.walks.specs.Inner.{Lent}
use Rattle.listing.specs.Lists.{count}
use Rattle.walks.proofs.AllPaths.{paths_some}
use Rattle.walks.proofs.Buffers.{laid_same, length_laid}
use Rattle.listing.proofs.Listing.{then_next, then_none}
use Rattle.text.specs.Lines.{join}
use Rattle.path_lines.specs.Output.{path_line, most, flow_lines, flows_lines, sheet_lines, cut_flow, some_cut, notice_of, sheet_notice}
use Rattle.path_lines.specs.Chunks.{flow_rest, flows_rest, remaining, Ready, Holds, Stands, Starts, Follows}
use Rattle.path_lines.specs.declared.Cursor.{Cursor}
use Rattle.path_lines.proofs.Bounds.{path_short}

-- ---- what remains

-- the line of path k, and then the later ones of its flow
rest_more : (s : List ℤ) (h : Header) (f k : ℕ) → k < count s h f → k < most
    → flow_rest s h f k ≡ path_line s h f (path s h f k) ++ flow_rest s h f (suc k)
unfolding flow_rest count path join
rest_more s h f k l m =
    let ps = take most (paths s h f) in
    let z : k < length ps = omega (arith, length-take most (paths s h f)) in
    ap (λ (t : List (List ℕ)). join (map (path_line s h f) t)) (drop-cons ps k [] z)
    ∙ ap (λ (p : List ℕ). path_line s h f p ++ join (map (path_line s h f) (drop (suc k) ps))) (get_or-take most (paths s h f) k [] m)

-- no path is left: there are no more, or 10,000 have been written
rest_none : (s : List ℤ) (h : Header) (f k : ℕ) → (count s h f ≤ k) ⊎ (most ≤ k) → flow_rest s h f k ≡ []
unfolding flow_rest count join
rest_none s h f k l =
    let ps = take most (paths s h f) in
    let z : length ps ≤ k = ⊎_elim (λ x. omega (arith, length-take most (paths s h f))) (λ x. omega (arith, length-take most (paths s h f))) l in
    ap (λ (t : List (List ℕ)). join (map (path_line s h f) t)) (drop_of_length-le ps {i = k} z)

rest_all : (s : List ℤ) (h : Header) (f : ℕ) → flow_rest s h f 0 ≡ flow_lines s h f
unfolding flow_rest flow_lines
rest_all s h f = refl

-- a flow's rest and the later flows
remaining_on : (s : List ℤ) (h : Header) (c : Cursor) → c.flow < h.flows
    → remaining s h c ≡ flow_rest s h c.flow c.number ++ flows_lines s h (suc c.flow) (h.flows - suc c.flow)
unfolding remaining flows_rest
remaining_on s h c l = let z : h.flows - c.flow ≡ suc (h.flows - suc c.flow) = omega arith in rw z

pub remaining_past : (s : List ℤ) (h : Header) (c : Cursor) → h.flows ≤ c.flow → remaining s h c ≡ []
unfolding remaining flows_rest
remaining_past s h c l = let z : h.flows - c.flow ≡ 0 = omega arith in rw z

flows_on : (s : List ℤ) (h : Header) (f : ℕ) → f < h.flows
    → flows_lines s h f (h.flows - f) ≡ flow_lines s h f ++ flows_lines s h (suc f) (h.flows - suc f)
unfolding flows_lines
flows_on s h f l = let z : h.flows - f ≡ suc (h.flows - suc f) = omega arith in rw z

flows_past : (s : List ℤ) (h : Header) (f : ℕ) → h.flows ≤ f → flows_lines s h f (h.flows - f) ≡ []
unfolding flows_lines
flows_past s h f l = let z : h.flows - f ≡ 0 = omega arith in rw z

-- from the first flow on, all lines of the sheet remain
pub starts_all : {s : List ℤ} {h : Header} {b : List ℕ} {c : Cursor} {b' : List ℕ} → Starts s h 0 b c b' → remaining s h c ≡ sheet_lines s h
unfolding sheet_lines
starts_all {s} {h} t = let z : h.flows - 0 ≡ h.flows = omega arith in t.same ∙ rw z

-- ---- whether a list was cut

pub none_cut : (s : List ℤ) (h : Header) → false ≡ some_cut s h 0
unfolding some_cut
none_cut s h = refl

flow_cut : (s : List ℤ) (h : Header) (f : ℕ) → most < count s h f → true ≡ some_cut s h (suc f)
unfolding some_cut count
flow_cut s h f l = let z : cut_flow s h f ≡ true = lt-ltb most (length (paths s h f)) l in rw z

flow_whole : (s : List ℤ) (h : Header) (f : ℕ) → count s h f ≤ most → some_cut s h f ≡ some_cut s h (suc f)
unfolding some_cut count
flow_whole s h f l = let z : cut_flow s h f ≡ false = lt-leb (suc most) (length (paths s h f)) (omega arith) in rw z

-- past the last flow: what there is to say of the sheet
pub told_all : {s : List ℤ} {h : Header} {c : Cursor} {b : List ℕ} → Stands s h c b → h.flows ≤ c.flow → notice_of c.cut ≡ sheet_notice s h
unfolding sheet_notice
told_all {s} {h} {c} u l = let z : c.flow ≡ h.flows = omega (arith, u.within) in ap notice_of (u.told ∙ ap (some_cut s h) z)

-- ---- the first path of a flow

walked : (s : List ℤ) (h : Header) (p : List ℕ) (t n : ℕ) → walk_of s h p ≡ tallied t n → (t ≡ terminal s h p) × (n ≡ length p)
walked s h p t n e =
    let z : ◌≡◌ {A = Tally} (record { value = terminal s h p; count = length p }) (record { value = t; count = n }) = cc in
    (ap (λ (x : Tally). x.value) (sym z), ap (λ (x : Tally). x.count) (sym z))

walked_refused : (s : List ℤ) (h : Header) (p : List ℕ) (r : Refusal) → walk_of s h p ≡ Err r → ⊥
walked_refused s h p r e = let z : ◌≡◌ {A = ℕ} 0 1 = cc in omega arith

module _ {s : List ℤ} {h : Header} {b : List ℕ} (u : Ready s h b) where
  pub ready_lent : (f : ℕ) → f < h.flows → Lent s h f b
  ready_lent f l =
      record { sheet = u.sheet; flow = l; room = omega (arith, u.room, (flow_ok s h u.sheet f l).inside, u.sheet.sized.limits.steps) }

  pub ready_same : {b' : List ℕ} → length b' ≡ length b → Ready s h b'
  ready_same e = record { sheet = u.sheet; room = omega (arith, u.room, e) }

  -- path k is laid in the buffer
  laid_again : {b' : List ℕ} (f k : ℕ) → f < h.flows → k < count s h f → b' ≡ laid (path s h f k) b → b' ≡ laid (path s h f k) b'
  laid_again {b'} f k l m e =
      let z : length (path s h f k) ≤ length b = omega (arith, (path_short s h u.sheet f k l m).few, u.room) in
      e ∙ laid_same (path s h f k) b b' (sym (ap length e ∙ length_laid (path s h f k) b z))

  pub start_past : {f : ℕ} {c : Cursor} {x : Bool} → (f ≤ h.flows) × (x ≡ some_cut s h f) → h.flows ≤ f
      → c ≡ record { flow = f; number = 0; terminal = 0; length = 0; cut = x } → Starts s h f b c b
  start_past {f} {c} {x} g l e =
      let here : c.flow ≡ f = ap (λ (x : Cursor). x.flow) e in
      record {
        flow = here;
        number = ap (λ (x : Cursor). x.number) e;
        stands =
            record {
              ready = u;
              path = λ k. absurd (omega arith);
              within = omega (arith, here, g.0);
              told = ap (λ (y : Cursor). y.cut) e ∙ g.1 ∙ ap (some_cut s h) (sym here);
            };
        past = λ k. (ap (λ (x : Cursor). x.terminal) e, ap (λ (x : Cursor). x.length) e, refl);
        same = remaining_past s h c (omega arith) ∙ sym (flows_past s h f l);
      }

  module _ {f : ℕ} (l : f < h.flows) {r : Counted} (e : r ≡ first_walk s h f) where
    pub first_refused_lem : {q : Refusal} → r ≡ Err q → ⊥
    unfolding first_walk
    first_refused_lem {q} p = walked_refused s h (path s h f 0) q (sym e ∙ p)

    pub start_first : {t n : ℕ} {x : Bool} {b' : List ℕ} → x ≡ some_cut s h f → r ≡ tallied t n → b' ≡ first_laid s h f b → length b' ≡ length b
        → Starts s h f b (record { flow = f; number = 0; terminal = t; length = n; cut = x }) b'
    unfolding first_walk first_laid count
    start_first {t} {n} {x} {b'} g p q z =
        let w = walked s h (path s h f 0) t n (sym e ∙ p) in
        let some : 0 < count s h f = paths_some s h u.sheet f l in
        let c : Cursor = record { flow = f; number = 0; terminal = t; length = n; cut = x } in
        record {
          flow = refl;
          number = refl;
          stands =
              record {
                ready = ready_same z;
                path = λ k. record { there = some; early = omega arith; ends = w.0; size = w.1; holds = laid_again f 0 l some q };
                within = omega arith;
                told = g;
              };
          past = λ k. absurd (omega arith);
          same =
              remaining_on s h c l ∙ ap (λ (x : List ℕ). x ++ flows_lines s h (suc f) (h.flows - suc f)) (rest_all s h f) ∙ sym (flows_on s h f l);
        }

-- ---- the path that follows

-- what remains after the path that stands in the buffer
abbrev pub later : List ℤ → Header → Cursor → List ℕ
later s h c = flow_rest s h c.flow (suc c.number) ++ flows_lines s h (suc c.flow) (h.flows - suc c.flow)

module _ {s : List ℤ} {h : Header} {c : Cursor} {b : List ℕ} (u : Stands s h c b) (l : c.flow < h.flows) where
  held : Holds s h c.flow c.number c.terminal c.length b
  held = u.path l

  lent : Lent s h c.flow b
  lent = ready_lent u.ready c.flow l

  -- the line of the path that stands in the buffer, and then the rest
  pub takes : remaining s h c ≡ path_line s h c.flow (path s h c.flow c.number) ++ later s h c
  takes =
      remaining_on s h c l
      ∙ ap (λ (x : List ℕ). x ++ flows_lines s h (suc c.flow) (h.flows - suc c.flow))
      (rest_more s h c.flow c.number held.there held.early)
      ∙ append_assoc (path_line s h c.flow (path s h c.flow c.number)) (flow_rest s h c.flow (suc c.number))
      (flows_lines s h (suc c.flow) (h.flows - suc c.flow))

  here : following (paths s h c.flow) b ≡ following (paths s h c.flow) (laid (path s h c.flow c.number) b)
  here = ap (following (paths s h c.flow)) held.holds

  -- the flow's last path stands there
  follow_flow : (count s h c.flow ≤ suc c.number) ⊎ (most ≤ suc c.number) → {d : List ℕ} {c' : Cursor} {b' : List ℕ}
      → Starts s h (suc c.flow) d c' b' → Follows s h c c' b'
  follow_flow z {d} {c'} {b'} t =
      record {
        stands = t.stands;
        same =
            takes
            ∙ ap (λ (x : List ℕ). path_line s h c.flow (path s h c.flow c.number)
            ++ (x ++ flows_lines s h (suc c.flow) (h.flows - suc c.flow))) (rest_none s h c.flow (suc c.number) z)
            ∙ ap (λ (x : List ℕ). path_line s h c.flow (path s h c.flow c.number) ++ x) (sym t.same);
      }

  pub follow_most : most ≤ c.number + 1 → {d : List ℕ} {c' : Cursor} {b' : List ℕ} → Starts s h (c.flow + 1) d c' b' → Follows s h c c' b'
  follow_most m {d} {c'} {b'} t = follow_flow (inr (omega arith)) (rw (add-one c.flow) at t)

  module _ {r : Counted} (e : r ≡ next_walk s h c.flow b) where
    -- refused: no path follows
    last_count : {q : Refusal} → r ≡ Err q → count s h c.flow ≤ suc c.number
    unfolding next_walk answer_of
    last_count {q} p = go (dec_lt (suc c.number) (count s h c.flow))
      where
        go : Dec (suc c.number < count s h c.flow) → count s h c.flow ≤ suc c.number
        go (yes k) =
            let y = here ∙ then_next lent c.number k in
            absurd (walked_refused s h (path s h c.flow (suc c.number)) q (sym (ap (answer_of s h) y) ∙ sym e ∙ p))
        go (no k) = omega arith

    -- a path: one follows
    next_count : {t n : ℕ} → r ≡ tallied t n → suc c.number < count s h c.flow
    unfolding next_walk answer_of
    next_count p = go (dec_lt (suc c.number) (count s h c.flow))
      where
        go : Dec (suc c.number < count s h c.flow) → suc c.number < count s h c.flow
        go (yes k) = k
        go (no k) =
            let y = here ∙ then_none lent c.number (omega (arith, held.there)) in
            let v : ◌≡◌ {A = ℕ} 0 1 = cc (sym (ap (answer_of s h) y) ∙ sym e ∙ p) in
            absurd (omega arith)

    pub follow_last : {q : Refusal} → r ≡ Err q → {d : List ℕ} {c' : Cursor} {b' : List ℕ} → Starts s h (c.flow + 1) d c' b'
        → Follows s h c c' b'
    follow_last p t = follow_flow (inl (last_count p)) (rw (add-one c.flow) at t)

    -- what `enter` asks for at the next flow: all paths were written, or one more follows the last of them
    pub next_whole : {q : Refusal} → r ≡ Err q → (c.flow + 1 ≤ h.flows) × (c.cut ≡ some_cut s h (c.flow + 1))
    next_whole p =
        (omega arith, u.told ∙ flow_whole s h c.flow (omega (arith, last_count p, held.early)) ∙ ap (some_cut s h) (sym (add-one c.flow)))

    pub next_cut : {t n : ℕ} → r ≡ tallied t n → most ≤ c.number + 1 → (c.flow + 1 ≤ h.flows) × (true ≡ some_cut s h (c.flow + 1))
    next_cut p m = (omega arith, flow_cut s h c.flow (omega (arith, next_count p)) ∙ ap (some_cut s h) (sym (add-one c.flow)))

    pub follow_next : c.number + 1 < most → {t n : ℕ} {b' : List ℕ} → r ≡ tallied t n → b' ≡ next_laid s h c.flow b → length b' ≡ length b
        → Follows s h c (record { flow = c.flow; number = c.number + 1; terminal = t; length = n; cut = c.cut }) b'
    unfolding next_walk next_laid answer_of buffer_of
    follow_next m {t} {n} {b'} p q z =
        let k = next_count p in
        let c' : Cursor = record { flow = c.flow; number = suc c.number; terminal = t; length = n; cut = c.cut } in
        let y = here ∙ then_next lent c.number k in
        let w = walked s h (path s h c.flow (suc c.number)) t n (sym (ap (answer_of s h) y) ∙ sym e ∙ p) in
        let x : b' ≡ laid (path s h c.flow (suc c.number)) b = q ∙ ap (λ (v : Following). buffer_of v b) y in
        let f : Follows s h c c' b' =
        record {
          stands =
              record {
                ready = ready_same u.ready z;
                path =
                    λ v. record {
                      there = k;
                      early = omega arith;
                      ends = w.0;
                      size = w.1;
                      holds = laid_again u.ready c.flow (suc c.number) l k x;
                    };
                within = u.within;
                told = u.told;
              };
          same =
              takes ∙ ap (λ (v : List ℕ). path_line s h c.flow (path s h c.flow c.number) ++ v) (sym (remaining_on s h c' l));
        } in
        rw (add-one c.number) f
