-- 01, "Text of a sheet": what the program writes for a text. A line is text's: decimals parted by one tab, ended by LF.
-- Assumes nothing.
use Rattle.std.specs.Prelude.{ℕ, zero, suc, Bool, true, false, cond, List, [], ◌∷◌, ◌++◌, map, leb, ltb, ℤ, pos, length, take, Result, Ok, Err}
use Rattle.answer.specs.Number.{number, place}
use Rattle.answer.specs.declared.Refusal.{Refusal}
use Rattle.answer.specs.declared.Refusal.TheVariants.{NoRoom}
use Rattle.answer.specs.Answers.{Count}
use Rattle.layout.specs.declared.Header.{Header}
use Rattle.walks.specs.Paths.{paths, terminal}
use Rattle.ladder.specs.Ladder.{Climbed, opened, by}
use Rattle.text.specs.Lines.{join, line, good_line, lines_of, words_of}
use Rattle.text.specs.Calls.{judged, filled}
use Rattle.path_lines.specs.declared.Notice.{Notice}
use Rattle.path_lines.specs.declared.Notice.TheVariants.{Nothing, Cut, Refused as SaysRefused}

-- a line of numbers
abbrev pub numbers_line : List ℕ → List ℕ
numbers_line ns = line (map pos ns)

-- "flow, terminal, routes, by tabs, one line each"
unfoldable pub path_line : List ℤ → Header → ℕ → List ℕ → List ℕ
path_line s h f p = numbers_line (f ∷ terminal s h p ∷ p)

-- "each flow's first 10,000 paths"
abbrev pub most : ℕ
most = 10000

unfoldable pub flow_lines : List ℤ → Header → ℕ → List ℕ
flow_lines s h f = join (map (path_line s h f) (take most (paths s h f)))

-- a flow with more paths than that: its list is cut
abbrev pub cut_flow : List ℤ → Header → ℕ → Bool
cut_flow s h f = ltb most (length (paths s h f))

-- some one of the first n flows
unfoldable pub some_cut : List ℤ → Header → ℕ → Bool
some_cut s h zero = false
some_cut s h (suc n) = cond (cut_flow s h n) true (some_cut s h n)

-- the lines of the n flows from f on
unfoldable pub flows_lines : List ℤ → Header → ℕ → ℕ → List ℕ
flows_lines s h f zero = []
flows_lines s h f (suc n) = flow_lines s h f ++ flows_lines s h (suc f) n

-- all flows
unfoldable pub sheet_lines : List ℤ → Header → List ℕ
sheet_lines s h = flows_lines s h 0 h.flows

-- the bytes of "refused"
abbrev pub refused_word : List ℕ
refused_word = 114 ∷ 101 ∷ 102 ∷ 117 ∷ 115 ∷ 101 ∷ 100 ∷ []

-- "On refusal one line by tabs: "refused", number, place"
unfoldable pub refused_line : Refusal → List ℕ
refused_line r = refused_word ++ (9 ∷ numbers_line (number r ∷ place r ∷ []))

-- "at most 16,000 bytes"
abbrev pub longest : ℕ
longest = 16000

-- how many words the text has: "longer text is number 15, place 0, whatever it holds"; else 14 at the first bad line
unfoldable pub text_count : List ℕ → Count
text_count text =
    elim (leb (length text) longest) [ true ↦ judged good_line (lines_of text) (length (words_of text)) | false ↦ Err NoRoom ]

-- what a text holds: a sheet, by its header and how many words it has, or a refusal
abbrev pub Entrance : Type 0
Entrance = Result (Header × ℕ) Refusal

-- the text's words are checked as a sheet: its header and its number of words, or the first refusal
abbrev pub sheet_entrance : ℕ → Climbed → Entrance
sheet_entrance n o = by o Err (λ h. Ok (h, n))

unfoldable pub words_entrance : Count → List ℤ → Entrance
words_entrance (Ok n) words = sheet_entrance n (opened words)
words_entrance (Err r) words = Err r

unfoldable pub entrance : List ℕ → Entrance
entrance text = words_entrance (text_count text) (words_of text)

-- the words that are left in a lent slice: those of a good text at its start, whether or not they are a sheet
unfoldable pub words_left : List ℕ → List ℤ → List ℤ
words_left text lent = filled (text_count text) (words_of text) lent

-- all that the program writes
unfoldable pub written : List ℤ → Entrance → List ℕ
written words (Ok e) = sheet_lines words e.0
written words (Err r) = refused_line r

unfoldable pub output : List ℕ → List ℕ
output text = written (words_of text) (entrance text)

-- what it says on standard error, where standard output took all of that: a line on a refusal, and where some flow's list was cut
abbrev pub notice_of : Bool → Notice
notice_of cut = cond cut Cut Nothing

unfoldable pub sheet_notice : List ℤ → Header → Notice
sheet_notice s h = notice_of (some_cut s h h.flows)

unfoldable pub noticed : List ℤ → Entrance → Notice
noticed words (Ok e) = sheet_notice words e.0
noticed words (Err r) = SaysRefused

unfoldable pub said : List ℕ → Notice
said text = noticed (words_of text) (entrance text)
