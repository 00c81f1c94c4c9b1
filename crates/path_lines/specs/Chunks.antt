-- The output chunk by chunk: where a cursor stands, and what is still to be written from there.
-- Assumes nothing.
use Rattle.std.specs.Prelude.{ℕ, zero, suc, ◌+◌, ◌-◌, ◌≤◌, ◌<◌, ◌≡◌, List, [], ◌∷◌, ◌++◌, map, ℤ, length, take, drop}
use Rattle.layout.specs.declared.Header.{Header}
use Rattle.records.specs.Accepted.{Accepted}
use Rattle.walks.specs.Paths.{paths, path, terminal}
use Rattle.walks.specs.Follows.{laid}
use Rattle.listing.specs.Lists.{count}
use Rattle.text.specs.Lines.{join}
use Rattle.path_lines.specs.Output.{path_line, most, flows_lines, some_cut}
use Rattle.path_lines.specs.declared.Cursor.{Cursor}

-- the lines of a flow from path k on
unfoldable pub flow_rest : List ℤ → Header → ℕ → ℕ → List ℕ
flow_rest s h f k = join (map (path_line s h f) (drop k (take most (paths s h f))))

-- and those of the later ones of n flows
unfoldable pub flows_rest : List ℤ → Header → ℕ → ℕ → ℕ → List ℕ
flows_rest s h f k zero = []
flows_rest s h f k (suc n) = flow_rest s h f k ++ flows_lines s h (suc f) n

-- what is still to be written: the rest of the cursor's flow, and the later flows. A cursor past the last flow has nothing left
unfoldable pub remaining : List ℤ → Header → Cursor → List ℕ
remaining s h c = flows_rest s h c.flow c.number (h.flows - c.flow)

-- the path buffer of an accepted sheet is long enough for every flow
pub record Ready (s : List ℤ) (h : Header) (b : List ℕ) : Type 0 where
  pub sheet : Accepted s h
  pub room : 256 ≤ length b

-- path k of flow f stands in the buffer, with its terminal and its length
pub record Holds (s : List ℤ) (h : Header) (f k : ℕ) (t n : ℕ) (b : List ℕ) : Type 0 where
  pub there : k < count s h f
  pub early : k < most
  pub ends : t ≡ terminal s h (path s h f k)
  pub size : n ≡ length (path s h f k)
  pub holds : b ≡ laid (path s h f k) b

-- a cursor that is not past the last flow names the path that stands in the buffer; it knows whether a list before it was cut
pub record Stands (s : List ℤ) (h : Header) (c : Cursor) (b : List ℕ) : Type 0 where
  pub ready : Ready s h b
  pub path : c.flow < h.flows → Holds s h c.flow c.number c.terminal c.length b
  pub within : c.flow ≤ h.flows
  pub told : c.cut ≡ some_cut s h c.flow

-- a cursor at path 0 of flow f, where b was lent: the lines of the flows from there on remain. Past the last flow the buffer is left alone
pub record Starts (s : List ℤ) (h : Header) (f : ℕ) (b : List ℕ) (c : Cursor) (b' : List ℕ) : Type 0 where
  pub flow : c.flow ≡ f
  pub number : c.number ≡ 0
  pub stands : Stands s h c b'
  pub past : h.flows ≤ f → (c.terminal ≡ 0) × (c.length ≡ 0) × (b' ≡ b)
  pub same : remaining s h c ≡ flows_lines s h f (h.flows - f)

-- the next cursor: the line of the path that stands in the buffer no longer remains
pub record Follows (s : List ℤ) (h : Header) (c c' : Cursor) (b : List ℕ) : Type 0 where
  pub stands : Stands s h c' b
  pub same : remaining s h c ≡ path_line s h c.flow (path s h c.flow c.number) ++ remaining s h c'

-- the longest line that a sheet can have: a flow below 32, a terminal of at most 2, and 256 routes below 1,024
abbrev pub longest_line : ℕ
longest_line = 1285

-- what `fill` promises: with the bytes that it wrote, what remains is what remained; the other bytes are as they were; it stopped
-- because nothing is left or because the longest line would not have fitted
pub record Chunk (s : List ℤ) (h : Header) (c : Cursor) (lent : List ℕ) (c' : Cursor) (n : ℕ) (out : List ℕ) : Type 0 where
  pub same : remaining s h c ≡ take n out ++ remaining s h c'
  pub kept : drop n out ≡ drop n lent
  pub inside : n ≤ length lent
  pub size : length out ≡ length lent
  pub full : c'.flow < h.flows → length lent < n + longest_line

-- chunks one after the other, each as `fill` promises, from a cursor on until nothing is left
pub data Series (s : List ℤ) (h : Header) : Cursor → List (List ℕ) → Type 0 where
  done : {c : Cursor} → h.flows ≤ c.flow → Series s h c []
  more : {c : Cursor} {lent : List ℕ} {c' : Cursor} {n : ℕ} {out : List ℕ} {bs : List (List ℕ)} → Chunk s h c lent c' n out → Series s h c' bs → Series s h c (take n out ∷ bs)
