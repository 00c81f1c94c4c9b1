-- 01, "The sheet", the header: a version, eleven counts with their largest values, four zeros; and where each table starts.
-- Assumes nothing.
use Rattle.std.specs.Prelude.{ℕ, ◌+◌, ◌*◌, ℤ, pos, Bool, ◌&&◌, List, length, get_or, leb, eqb}
use Rattle.signed.specs.Words.{num}
use Rattle.layout.specs.declared.Header.{Header}

-- word i of the header, as a natural number
abbrev pub header_word : List ℤ → ℕ → ℕ
header_word s i = num (get_or s i (pos 0))

-- the counts, in the header's order
unfoldable pub header_of : List ℤ → Header
header_of s =
    record {
      personas = header_word s 1;
      facts = header_word s 2;
      nodes = header_word s 3;
      rules = header_word s 4;
      entities = header_word s 5;
      transitions = header_word s 6;
      operations = header_word s 7;
      effects = header_word s 8;
      flows = header_word s 9;
      steps = header_word s 10;
      routes = header_word s 11;
    }

-- no count is above its largest value
unfoldable pub in_limits : Header → Bool
in_limits h =
    leb h.personas 24
    && leb h.facts 128
    && leb h.nodes 1024
    && leb h.rules 128
    && leb h.entities 32
    && leb h.transitions 512
    && leb h.operations 128
    && leb h.effects 512
    && leb h.flows 32
    && leb h.steps 256
    && leb h.routes 1024

-- the number of the first record of each table; facts come first
abbrev pub first_node : Header → ℕ
first_node h = h.facts

abbrev pub first_rule : Header → ℕ
first_rule h = first_node h + h.nodes

abbrev pub first_entity : Header → ℕ
first_entity h = first_rule h + h.rules

abbrev pub first_transition : Header → ℕ
first_transition h = first_entity h + h.entities

abbrev pub first_operation : Header → ℕ
first_operation h = first_transition h + h.transitions

abbrev pub first_effect : Header → ℕ
first_effect h = first_operation h + h.operations

abbrev pub first_flow : Header → ℕ
first_flow h = first_effect h + h.effects

abbrev pub first_step : Header → ℕ
first_step h = first_flow h + h.flows

abbrev pub first_route : Header → ℕ
first_route h = first_step h + h.steps

-- all records
abbrev pub records : Header → ℕ
records h = first_route h + h.routes

-- the version is 1, and the last four words are 0
unfoldable pub good_frame : List ℤ → Bool
good_frame s =
    eqb (header_word s 0) 1
    && eqb (header_word s 12) 0
    && eqb (header_word s 13) 0
    && eqb (header_word s 14) 0
    && eqb (header_word s 15) 0

-- there are sixteen words at least, the header has no fault, and the length is exactly that of the header and its records
unfoldable pub good_header : List ℤ → Bool
good_header s =
    leb 16 (length s) && (good_frame s && in_limits (header_of s) && eqb (length s) (16 + 8 * records (header_of s)))
