-- What the headline theorems (proofs/Headlines.antt) say, in 01's numbers. An answer here is `status_answer`, `count_answer` or `counted_answer` of
-- a definition that the contract of an export cites, and a lent buffer is the definition that the contract gives for it.
-- Assumes nothing.
use Rattle.std.specs.Prelude.{◌≡◌, Bool, true, false, ◌&&◌, List, [], ◌∷◌, ◌⊎◌, ℕ, zero, suc, ◌+◌, ◌*◌, ◌≤◌, ◌<◌, ℤ, pos, negsuc, nat_abs, length, take, get_or, eqb}
use Rattle.tables.specs.Scan.{any_below}
use Rattle.signed.specs.Words.{num, eq_z}
use Rattle.answer.specs.declared.Answer.{Answer}
use Rattle.answer.specs.Number.{done_answer}
use Rattle.answer.specs.Answers.{status_answer, count_answer, counted_answer}
use Rattle.layout.specs.declared.Header.{Header}
use Rattle.layout.specs.Header.{header_of, good_header}
use Rattle.layout.specs.Groups.{good_groups}
use Rattle.layout.specs.Tables.{effect, entity_of, to_of}
use Rattle.records.specs.Accept.{tables_of, good_in, checked}
use Rattle.records.specs.Nodes.{node_words}
use Rattle.records.specs.Operations.{outcomes}
use Rattle.node.specs.Rows.{is_true}
use Rattle.facts.specs.Lent.{LentFacts, slots_before, length_lent}
use Rattle.facts.specs.Assembled.{assembled}
use Rattle.predicate.specs.Values.{child_sort, value_of, truth}
use Rattle.predicate.specs.Verdicts.{when_node, verdicts_of}
use Rattle.operation.specs.Mask.{allowed}
use Rattle.operation.specs.Outcomes.{of_operation, of_outcome, moves, applicable}
use Rattle.instances.specs.Records.{LentStates, count, entity_at, state_at}
use Rattle.instances.specs.Named.{names, gathered}
use Rattle.attempt.specs.Attempts.{precondition}
use Rattle.run.specs.Runs.{performs, operation_at}
use Rattle.walks.specs.Paths.{first_step_of, steps_of, PathOf, terminal, paths, Among}
use Rattle.walks.specs.Follows.{laid}
use Rattle.listing.specs.Lists.{Next, State}
use Rattle.ladder.specs.Ladder.{exists}
use Rattle.calls.specs.Evaluation.{operate_states}
use Rattle.calls.specs.Flows.{run_answer, run_path}
use Rattle.calls.specs.Reports.{admissible_answer, can_cause_answer}
use Rattle.calls.specs.Lists.{public_call}

-- ---- answers

-- the call went through: refusal 0, and value v
pub record Went (a : Answer) (v : ℕ) : Type 0 where
  pub refusal : a.refusal ≡ pos 0
  pub value : a.value ≡ pos v

-- the call was refused: the refusal is not 0
abbrev pub WasRefused : Answer → Type 0
WasRefused a = a.refusal ≡ pos 0 → ⊥

-- ---- the list of paths

-- "any accepted sheet, any flow in it and a path buffer at least as long as the flow has steps"; fernpocket_check answers refusal 0
pub record FlowReady (s : List ℤ) (f : ℤ) (b : List ℕ) : Type 0 where
  pub sheet : (status_answer (checked s)).refusal ≡ pos 0
  pub flow : exists f (header_of s).flows ≡ true
  pub room : steps_of s (header_of s) (num f) ≤ length b

-- "a first and then nexts until 13": the paths read off the buffer after a call and after each next that follows it, up to the answer with
-- refusal 13, k calls at most. The answer's count says how many of the buffer's entries are the path
unfoldable pub read_to13 : List ℤ → ℤ → ℕ → State → List (List ℕ)
read_to13 s f zero t = []
read_to13 s f (suc k) t =
    elim (eq_z (counted_answer t.answer).refusal (pos 13)) [
      | true ↦ []
      | false ↦ take (nat_abs (counted_answer t.answer).count) t.buffer ∷ read_to13 s f k (public_call s f t.buffer Next)
    ]

-- a run took the routes of one of the flow's listed paths, which stands in the buffer with 0 past it; the value answered is its terminal, and
-- the count its length
pub record RanPath (s : List ℤ) (lent : LentFacts) (states : LentStates) (f : ℤ) (words : List ℤ) (b : List ℕ) : Type 0 where
  pub path : List ℕ
  pub is : PathOf s (header_of s) (num f) path
  pub listed : Among (paths s (header_of s) (num f)) path
  pub left : run_path s lent states f words b ≡ laid path b
  pub value : (counted_answer (run_answer s lent states f words b)).value ≡ pos (terminal s (header_of s) path)
  pub long : (counted_answer (run_answer s lent states f words b)).count ≡ pos (length path)

-- ---- 02, CR 7: instances

-- the present states, one for each entity: those of the named instances
abbrev pub present_states : List ℤ → LentStates → List ℤ
present_states s states = gathered (header_of s) states

-- record i has the instance that is named for its entity
abbrev pub is_named : LentStates → ℕ → Bool
is_named states i = names states (entity_at states.records i) i

-- "every instance not named keeps its state", and no record is added, removed or moved: `after` are the records afterwards
pub record OnlyNamed (states : LentStates) (after : List ℤ) : Type 0 where
  pub long : length after ≡ length states.records
  pub entities : (i : ℕ) → get_or after (3 * i) (pos 0) ≡ get_or states.records (3 * i) (pos 0)
  pub instances : (i : ℕ) → get_or after (3 * i + 1) (pos 0) ≡ get_or states.records (3 * i + 1) (pos 0)
  pub others : (i : ℕ) → is_named states i ≡ false → state_at after i ≡ state_at states.records i

-- an effect of operation o names entity n
unfoldable pub touches : List ℤ → Header → ℕ → ℕ → Bool
touches s h o n = any_below (λ e. of_operation s h o e && eqb (entity_of (effect s h e)) n) h.effects

-- the operation of step i does; a branch has none
unfoldable pub step_touches : List ℤ → Header → ℕ → ℕ → Bool
step_touches s h i n = performs s h i && touches s h (operation_at s h i) n

-- an operation of the flow's steps does
unfoldable pub flow_touches : List ℤ → Header → ℕ → ℕ → Bool
flow_touches s h f n = any_below (λ k. step_touches s h (first_step_of s h f + k) n) (steps_of s h f)

-- two calls are lent the same records, and name the same instance of each entity that is touched
pub record SameRead (touched : ℕ → Bool) (a b : LentStates) : Type 0 where
  pub records : a.records ≡ b.records
  pub long : length a.instances ≡ length b.instances
  pub each : (n : ℕ) → touched n ≡ true → get_or a.instances n (pos 0) ≡ get_or b.instances n (pos 0)

-- ---- operations

-- the state of entity n after outcome j of operation o: where an effect of that outcome leads that starts from its present state, or, where
-- none does, what it was
pub data After (s : List ℤ) (h : Header) (states : List ℤ) (o j n : ℕ) (state : ℤ) : Type 0 where
  moved : (e : ℕ) → moves s h states o j n e ≡ true → state ≡ pos (to_of (effect s h e)) → After s h states o j n state
  stayed : ((e : ℕ) → moves s h states o j n e ≡ true → ⊥) → state ≡ get_or states n (pos 0) → After s h states o j n state

-- 02, CR 1: two outcomes of operation o are applicable
pub record TwoApply (s states : List ℤ) (o : ℕ) : Type 0 where
  pub one : ℕ
  pub other : ℕ
  pub order : one < other
  pub exists : other < outcomes s (header_of s) o
  pub one_applies : applicable s (header_of s) states o one ≡ true
  pub other_applies : applicable s (header_of s) states o other ≡ true

-- outcome j of operation o is applicable, and no other is
pub record OneApplies (s states : List ℤ) (o j : ℕ) : Type 0 where
  pub exists : j < outcomes s (header_of s) o
  pub applies : applicable s (header_of s) states o j ≡ true
  pub alone : (i : ℕ) → i < outcomes s (header_of s) o → applicable s (header_of s) states o i ≡ true → i ≡ j

-- an operation went through with outcome j: the mask has the persona, the precondition is true, j is applicable; it is the wanted outcome,
-- or with −1 the only one that is applicable; and exactly its effects that start from the present states, those of the named instances, are
-- applied to these
pub record Operated (s : List ℤ) (lent : LentFacts) (states : LentStates) (p o w : ℤ) (j : ℕ) : Type 0 where
  pub persona : allowed s (header_of s) (num o) (num p) ≡ true
  pub holds :
      truth s (header_of s) (assembled s (header_of s) lent) (verdicts_of s (header_of s) (assembled s (header_of s) lent))
      (precondition s (header_of s) (num o)) ≡ true
  pub exists : j < outcomes s (header_of s) (num o)
  pub applies : applicable s (header_of s) (present_states s states) (num o) j ≡ true
  pub wanted : (w ≡ negsuc 0 → ⊥) → w ≡ pos j
  pub alone : w ≡ negsuc 0 → (i : ℕ) → i < outcomes s (header_of s) (num o) → applicable s (header_of s) (present_states s states) (num o) i ≡ true
      → i ≡ j
  pub each : (i : ℕ) → i < count states.records → is_named states i ≡ true
      → After s (header_of s) (present_states s states) (num o) j (entity_at states.records i) (state_at (operate_states s lent states p o w) i)

-- 02, CR 2: entity n is the first that blocks outcome j of operation o: an effect of j names it and no effect of j starts from its state; but
-- for each effect of j before that one, some effect of j starts from the state of the entity that it names
pub record Blocked (s states : List ℤ) (o j n : ℕ) : Type 0 where
  pub at : ℕ
  pub of : of_outcome s (header_of s) o j at ≡ true
  pub names : entity_of (effect s (header_of s) at) ≡ n
  pub exists : n < (header_of s).entities
  pub unmatched : (e : ℕ) → moves s (header_of s) states o j n e ≡ true → ⊥
  pub earlier : (d : ℕ) → d < at → of_outcome s (header_of s) o j d ≡ true
      → (e : ℕ) × (moves s (header_of s) states o j (entity_of (effect s (header_of s) d)) e ≡ true)

-- an operation was refused 11: the wanted outcome is not applicable, or with −1 none is; the place is the first entity that blocks the wanted
-- outcome, or with −1 the outcome numbered 0
pub record NoneApplies (s states : List ℤ) (o w place : ℤ) : Type 0 where
  pub wanted : (w ≡ negsuc 0 → ⊥) → applicable s (header_of s) states (num o) (num w) ≡ false
  pub none : w ≡ negsuc 0 → (i : ℕ) → i < outcomes s (header_of s) (num o) → applicable s (header_of s) states (num o) i ≡ false
  pub entity : ℕ
  pub is_place : place ≡ pos entity
  pub blocks_wanted : (w ≡ negsuc 0 → ⊥) → Blocked s states (num o) (num w) entity
  pub blocks_first : w ≡ negsuc 0 → Blocked s states (num o) 0 entity

-- the call got as far as the states: it went through, or was refused 11 or 16
abbrev pub Decided : Answer → Type 0
Decided a = (a.refusal ≡ pos 0) ⊎ ((a.refusal ≡ pos 11) ⊎ (a.refusal ≡ pos 16))

-- S3a answers yes for entity n in state a, and S4 for its change to b, for persona p: refusal 0 and value 1
pub record Foreseen (s : List ℤ) (p o : ℤ) (n a b : ℕ) : Type 0 where
  pub admissible : count_answer (admissible_answer s (pos n) (pos a) p o) ≡ done_answer 1 0
  pub caused : count_answer (can_cause_answer s p (pos n) (pos a) (pos b)) ≡ done_answer 1 0

-- ---- money and durations

-- 02, CR 4: header and groups are good, no record before node n is bad, and node n is a sum, a difference or a comparison of two nodes, the
-- first of type a, the second of type b
pub record Pairs (s : List ℤ) (n a b : ℕ) : Type 0 where
  pub header : good_header s ≡ true
  pub groups : good_groups s (header_of s) ≡ true
  pub exists : n < (header_of s).nodes
  pub earlier : (k : ℕ) → k < (header_of s).facts + n → good_in (tables_of s (header_of s)) k ≡ true
  pub kind :
      (num (node_words s (header_of s) n).w0 ≡ 4)
      ⊎ ((num (node_words s (header_of s) n).w0 ≡ 5) ⊎ (num (node_words s (header_of s) n).w0 ≡ 7))
  pub first : child_sort s (header_of s) n 0 ≡ a
  pub second : child_sort s (header_of s) n 1 ≡ b

-- refused 3 at node n
pub record RefusedAt (s : List ℤ) (n : ℕ) : Type 0 where
  pub refusal : (status_answer (checked s)).refusal ≡ pos 3
  pub place : (status_answer (checked s)).place ≡ pos ((header_of s).facts + n)

-- ---- 02, CR 6: of a rule whose when-node is a quantifier

-- how many elements are lent of the list that it is over
abbrev pub elements_of_rule : List ℤ → LentFacts → ℕ → ℕ
elements_of_rule s t k = num (length_lent s t (num (node_words s (header_of s) (when_node s (header_of s) k)).w1))

-- its body is true at element j of that list
abbrev pub body_true : List ℤ → LentFacts → ℕ → ℕ → Bool
body_true s t k j =
    let w = node_words s (header_of s) (when_node s (header_of s) k) in
    let facts = assembled s (header_of s) t in
    is_true (value_of s (header_of s) facts (verdicts_of s (header_of s) facts) (num w.w2) (get_or t.lists (slots_before s (num w.w1) + j) (pos 0)))
