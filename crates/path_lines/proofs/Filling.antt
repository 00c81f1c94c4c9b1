-- A chunk that is filled line by line.
-- Assumes nothing.
use Prim.Native.Nat.{ℕ, ◌+◌, ◌-◌, ◌≤◌, ◌<◌}
use mathlib.Core.Path.{◌≡◌, refl, sym, ◌∙◌, ap}
use mathlib.Core.List.{List, ◌∷◌, ◌++◌, append_assoc}
use native.Mathlib.Omega.{arith}
use native.Mathlib.Decide.{dec_lt}
use lib.Dec.{eqb}
use lib.IntN.{ℤ}
use lib.ListN.{length, take, drop, length-append, replicate}
use lib.Seq.{sets, sets-eq, length-sets, take_at, drop_at, drop-drop, length-take-le, take-append_seam}
use Rattle.layout.specs.declared.Header.{Header}
use Rattle.walks.specs.Paths.{path}
use Rattle.walks.specs.Follows.{laid}
use Rattle.decimal.specs.Decimal.{M}
use Rattle.path_lines.specs.Output.{numbers_line, path_line}
use Rattle.path_lines.specs.Chunks.{remaining, longest_line, Stands, Follows, Chunk}
use Rattle.path_lines.specs.declared.Cursor.{Cursor}
use Rattle.path_lines.specs.Steps.{number_field}
use Rattle.path_lines.proofs.Writing.{line_more}
use Rattle.path_lines.proofs.Bounds.{Short, path_short, number_some}
use Rattle.path_lines.proofs.Cursors.{remaining_past, later, takes}

-- ---- the line of the path in the buffer

module _ {s : List ℤ} {h : Header} {c : Cursor} {b : List ℕ} (u : Stands s h c b) (l : c.flow < h.flows) where
  short : Short s h u.ready.sheet c.flow c.number
  short = path_short s h u.ready.sheet c.flow c.number l (u.path l).there

  -- the bytes that `put_line` writes
  abbrev bytes : List ℕ
  bytes = numbers_line (c.flow ∷ c.terminal ∷ take c.length b)

  pub line_is : bytes ≡ path_line s h c.flow (path s h c.flow c.number)
  unfolding path_line laid
  line_is =
      let p = path s h c.flow c.number in
      let k = u.path l in
      let z : take c.length b ≡ p = ap (λ (n : ℕ). take n b) k.size ∙ ap (take (length p)) k.holds ∙ take-append_seam p (replicate (length b - length p) 0) in
      rw (z, k.ends)

  line_size : length bytes ≤ longest_line
  line_size = omega (arith, ap length line_is, short.line)

  line_some_bytes : 0 < length bytes
  line_some_bytes =
      let ns = c.terminal ∷ take c.length b in
      omega (
        arith,
        ap length (line_more c.flow ns),
        length-append (number_field c.flow (eqb (length ns) 0)) (numbers_line ns),
        number_some c.flow (eqb (length ns) 0),
      )

  -- what `put_line` asks for
  pub line_fits : (n : ℕ) (out : List ℕ) → n ≤ length out → longest_line ≤ length out - n → n + length bytes ≤ length out
  line_fits n out i k = omega (arith, line_size)

  pub length_fits : c.length ≤ length b
  length_fits = omega (arith, (u.path l).size, short.few, u.ready.room)

  pub length_some : 1 ≤ c.length
  length_some = omega (arith, (u.path l).size, short.some)

  pub flow_small : c.flow ≤ M
  flow_small = omega (arith, u.ready.sheet.sized.limits.flows)

  pub terminal_small : c.terminal ≤ M
  terminal_small = omega (arith, (u.path l).ends, short.low)

-- ---- the chunk

-- n bytes of the chunk are written, and the cursor c says what remains
pub record Filling (s : List ℤ) (h : Header) (c₀ : Cursor) (b₀ out₀ : List ℕ) (c : Cursor) (b : List ℕ) (n : ℕ) (out : List ℕ) : Type 0 where
  pub stands : Stands s h c b
  pub same : remaining s h c₀ ≡ take n out ++ remaining s h c
  pub kept : drop n out ≡ drop n out₀
  pub inside : n ≤ length out
  pub size : length out ≡ length out₀
  pub wide : length b ≡ length b₀

pub filling_none : {s : List ℤ} {h : Header} {c : Cursor} {b out : List ℕ} → Stands s h c b → Filling s h c b out c b 0 out
filling_none u = record { stands = u; same = refl; kept = refl; inside = omega arith; size = refl; wide = refl }

module _ {s : List ℤ} {h : Header} {c₀ : Cursor} {b₀ out₀ : List ℕ} {c : Cursor} {b : List ℕ} {n : ℕ} {out : List ℕ}
    (w : Filling s h c₀ b₀ out₀ c b n out) where
  -- one more line
  module _ (l : c.flow < h.flows) (room : longest_line ≤ length out - n) {n' : ℕ} {out' : List ℕ}
      (p : n' ≡ n + length (bytes w.stands l)) (q : out' ≡ sets out n (bytes w.stands l)) where
    abbrev line_of : List ℕ
    line_of = bytes w.stands l

    fits : n + length line_of ≤ length out
    fits = line_fits w.stands l n out w.inside room

    parts : out' ≡ take n out ++ line_of ++ drop (n + length line_of) out
    parts = q ∙ sets-eq line_of out n fits

    front : length (take n out ++ line_of) ≡ n'
    front = length-append (take n out) line_of ∙ omega (arith, length-take-le n out w.inside, p)

    pub filling_more : {c' : Cursor} {b' : List ℕ} → Follows s h c c' b' → length b' ≡ length b → Filling s h c₀ b₀ out₀ c' b' n' out'
    filling_more {c'} {b'} f z =
        record {
          stands = f.stands;
          same =
              w.same
              ∙ ap (λ (x : List ℕ). take n out ++ x) (f.same ∙ ap (λ (x : List ℕ). x ++ remaining s h c') (sym (line_is w.stands l)))
              ∙ sym (append_assoc (take n out) line_of (remaining s h c'))
              ∙ ap (λ (x : List ℕ). x ++ remaining s h c')
              (sym (ap (take n') parts ∙ take_at (take n out ++ line_of) (drop (n + length line_of) out) n' front));
          kept =
              ap (drop n') parts
              ∙ drop_at (take n out ++ line_of) (drop (n + length line_of) out) n' front
              ∙ sym (drop-drop (length line_of) n out)
              ∙ ap (drop (length line_of)) w.kept
              ∙ drop-drop (length line_of) n out₀
              ∙ ap (λ (k : ℕ). drop k out₀) (sym p);
          inside = omega (arith, fits, p, ap length q, length-sets out n line_of);
          size = ap length q ∙ length-sets out n line_of ∙ w.size;
          wide = z ∙ w.wide;
        }

    pub filling_less : length out₀ - n' < length out₀ - n
    filling_less = omega (arith, p, fits, line_some_bytes w.stands l, w.size)

  pub filling_full : length out - n < longest_line → Stands s h c b × Chunk s h c₀ out₀ c n out
  filling_full k = (
    w.stands,
    record {
      same = w.same;
      kept = w.kept;
      inside = omega (arith, w.inside, w.size);
      size = w.size;
      full = λ x. omega (arith, w.size, w.inside);
    },
  )

  pub filling_done : h.flows ≤ c.flow → Stands s h c b × Chunk s h c₀ out₀ c n out
  filling_done k = (
    w.stands,
    record { same = w.same; kept = w.kept; inside = omega (arith, w.inside, w.size); size = w.size; full = λ x. absurd (omega arith) },
  )

-- ---- fill goes on: in a chunk that has room for a line, an unfinished cursor writes at least one

pub progress : {s : List ℤ} {h : Header} {c : Cursor} {b lent : List ℕ} {c' : Cursor} {n : ℕ} {out : List ℕ}
    → Stands s h c b → c.flow < h.flows → longest_line ≤ length lent → Chunk s h c lent c' n out → length (remaining s h c') < length
    (remaining s h c)
progress {s} {h} {c} {b} {lent} {c'} {n} {out} u l k t =
    let split = ap length t.same ∙ length-append (take n out) (remaining s h c') in
    let front : length (take n out) ≡ n = length-take-le n out (omega (arith, t.inside, t.size)) in
    go (dec_lt c'.flow h.flows) split front
  where
    go : Dec (c'.flow < h.flows) → length (remaining s h c) ≡ length (take n out) + length (remaining s h c') → length (take n out) ≡ n
        → length (remaining s h c') < length (remaining s h c)
    go (yes m) x y = omega (arith, t.full m)
    go (no m) x y =
        omega (
          arith,
          ap length (remaining_past s h c' (omega arith)),
          ap length (takes u l),
          ap length (line_is u l),
          line_some_bytes u l,
          length-append (path_line s h c.flow (path s h c.flow c.number)) (later s h c),
        )
