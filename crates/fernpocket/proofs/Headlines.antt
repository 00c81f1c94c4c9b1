-- The headline theorems, each with its whole statement: what docs/PROMISES.md promises beyond the exports' contracts. They speak of the
-- exports' answers in 01's numbers and of the lent buffers as the contracts in src/lib.rt give them. The records that they use stand in
-- specs/Promised.antt. Each is proved from the laws of the crates below and of InNumbers.antt.
-- Assumes nothing.
use mathlib.Core.Path.{◌≡◌, refl, sym, ap, ◌∙◌}
use mathlib.Core.Bool.{true, false, ◌&&◌}
use mathlib.Core.List.{List, ◌∷◌}
use mathlib.Core.Logic.{◌↔◌}
use Prim.Native.Nat.{ℕ, ◌+◌, ◌%◌, ◌≤◌, ◌<◌}
use lib.IntN.{ℤ, pos, negsuc, ◌+ℤ◌, ◌-ℤ◌, ◌*ℤ◌}
use lib.ListN.{length, take, get_or}
use Rattle.signed.specs.Words.{num}
use Rattle.signed.specs.Compare.{holds}
use Rattle.signed.proofs.Numbers.{num_of}
use Rattle.words.specs.declared.Record.{Record}
use Rattle.answer.specs.declared.Refusal.{Refusal}
use Rattle.answer.specs.Number.{number, place, done_answer}
use Rattle.answer.specs.Answers.{status_answer, count_answer, counted_answer}
use Rattle.answer.proofs.Numbers.{number_range, one_refusal}
use Rattle.layout.specs.Header.{header_of}
use Rattle.layout.specs.Tables.{effect}
use Rattle.decimal.specs.Decimal.{has_text}
use Rattle.text.specs.Lines.{all, text_of}
use Rattle.text.specs.Calls.{read_answer, read_buffer, write_answer, write_buffer}
use Rattle.text.proofs.RoundTrips.{text_again, words_again, one_text}
use Rattle.item.specs.Sorts.{is_duration}
use Rattle.item.specs.Units.{crossed, factor, shared, converted}
use Rattle.item.proofs.Units.{converted_two}
use Rattle.node.specs.FactValues.{FactValue}
use Rattle.node.specs.Rows.{is_true}
use Rattle.records.specs.Accept.{checked}
use Rattle.records.specs.Nodes.{node_words}
use Rattle.records.specs.Operations.{outcomes}
use Rattle.facts.specs.Lent.{LentFacts}
use Rattle.predicate.specs.Values.{value_of}
use Rattle.predicate.specs.Verdicts.{when_node}
use Rattle.predicate.specs.Units.{seconds_of}
use Rattle.predicate.proofs.UnitLaws.{sum_seconds, difference_seconds, comparison_seconds}
use Rattle.operation.specs.Mask.{in_mask}
use Rattle.operation.specs.Outcomes.{moves, applicable}
use Rattle.operation.proofs.Movers.{moves_true}
use Rattle.instances.specs.Records.{LentStates, count, entity_at, state_at}
use Rattle.walks.specs.Paths.{paths, WholeList}
use Rattle.listing.specs.Lists.{Call, First, nexts, count as path_count}
use Rattle.walks.proofs.OnlyList.{paths_whole, only_list}
use Rattle.reach.specs.Reached.{Reached, states_in}
use Rattle.calls.specs.Evaluation.{assemble_answer, assemble_values, verdicts_answer, verdicts_verdicts, operate_answer, operate_states}
use Rattle.calls.specs.Flows.{first_answer, first_path, next_answer, next_path, run_answer, run_path, run_states}
use Rattle.calls.specs.Reports.{reachable_answer}
use Rattle.calls.specs.Lists.{public_call, public_calls, ListedNumbers}
use Rattle.flows.proofs.PublicListing.{public_numbers, public_whole}
use Rattle.fernpocket.specs.Before.{placeless, operate_before, states_before}
use Rattle.fernpocket.specs.OneEach.{one_records, one_each, one_operate_answer, one_operate_states, one_run_answer, one_run_path, one_run_states}
use Rattle.fernpocket.specs.Promised.{present_states, OnlyNamed, touches, flow_touches, SameRead, Went, WasRefused, FlowReady, read_to13, RanPath, TwoApply, OneApplies, Operated, Blocked, NoneApplies, Decided, Foreseen, Pairs, RefusedAt, elements_of_rule, body_true}
use Rattle.fernpocket.proofs.AsBefore.{before-unless-16, one_never_16}
use Rattle.fernpocket.proofs.OneEach.{one_operates, one_runs}
use Rattle.fernpocket.proofs.Instances.{operate_named, run_named, operate_passes, run_passes, operate_reads, run_reads}
use Rattle.fernpocket.proofs.Quantified.{for_all_lent, exists_lent}
use Rattle.fernpocket.proofs.Covered.{covered, applied_covered, still_reached}
use Rattle.fernpocket.proofs.InNumbers.{went_is, listable, ready_sheet, ready_flow, read_same, ran_path_lem, operated, mask_reached, mask_scans, wanted_goes, only_goes, one_blocked, eleven, sixteen, two_sixteen, read_kept, write_kept, assemble_kept, verdicts_kept, operate_kept, status_accepted, types_refused, currencies_refused, run_path_kept, run_states_kept, first_kept, next_kept}

-- ---- demand 1: refusals

-- A refusal's number is 1 to 16, so that 0 says that a call went through.
pub refusal_numbers : (r : Refusal) → (1 ≤ number r) × (number r ≤ 16)
refusal_numbers = number_range

-- A number and a place say which refusal it is.
pub refusal_known : (r q : Refusal) → number r ≡ number q → place r ≡ place q → r ≡ q
refusal_known = one_refusal

-- A refused call leaves every lent buffer as it was.
pub refused_read : (text : List ℕ) (words : List ℤ) → WasRefused (count_answer (read_answer text (length words))) → read_buffer text words ≡ words
refused_read = read_kept

pub refused_write : (words : List ℤ) (text : List ℕ) → WasRefused (count_answer (write_answer words (length text))) → write_buffer words text ≡ text
refused_write = write_kept

pub refused_assemble : (s : List ℤ) (lent : LentFacts) → WasRefused (status_answer (assemble_answer s lent)) → assemble_values s lent ≡ lent.values
refused_assemble = assemble_kept

pub refused_verdicts : (s : List ℤ) (lent : LentFacts) (verdicts : List ℤ)
    → WasRefused (status_answer (verdicts_answer s lent (length verdicts)))
    → verdicts_verdicts s lent verdicts ≡ verdicts
refused_verdicts = verdicts_kept

pub refused_operate : (s : List ℤ) (lent : LentFacts) (states : LentStates) (persona operation wanted : ℤ)
    → WasRefused (count_answer (operate_answer s lent states persona operation wanted))
    → operate_states s lent states persona operation wanted ≡ states.records
refused_operate = operate_kept

pub refused_run : (s : List ℤ) (lent : LentFacts) (states : LentStates) (flow : ℤ) (wanted : List ℤ) (path : List ℕ)
    → WasRefused (counted_answer (run_answer s lent states flow wanted path))
    → (run_path s lent states flow wanted path ≡ path) × (run_states s lent states flow wanted path ≡ states.records)
refused_run s lent states flow wanted path x =
    (run_path_kept s lent states flow wanted path x, run_states_kept s lent states flow wanted path x)

pub refused_first : (s : List ℤ) (flow : ℤ) (path : List ℕ) → WasRefused (counted_answer (first_answer s flow path)) → first_path s flow path ≡ path
refused_first = first_kept

pub refused_next : (s : List ℤ) (flow : ℤ) (path : List ℕ) → WasRefused (counted_answer (next_answer s flow path)) → next_path s flow path ≡ path
refused_next = next_kept

-- ---- demand 2: operations, and what the reports say of them

module _ (s : List ℤ) (lent : LentFacts) (states : LentStates) (persona operation wanted : ℤ) where
  -- the records, as they are lent and as they are left
  abbrev before : List ℤ
  before = states.records

  abbrev after : List ℤ
  after = operate_states s lent states persona operation wanted

  -- An operation that goes through makes the changes of its chosen outcome that start from the present states, and no others. Of a call, the
  -- present states are those of the instances that it names.
  pub operate_changes : (j : ℕ) → Went (count_answer (operate_answer s lent states persona operation wanted)) j
      → Operated s lent states persona operation wanted j
  operate_changes j w =
      operated s lent states persona operation wanted j (went_is (operate_answer s lent states persona operation wanted) w)

  -- 02, CR 1. Of the calls that get as far as the states: a wanted outcome that is applicable is taken;
  pub wanted_taken : Decided (count_answer (operate_answer s lent states persona operation wanted))
      → (k : ℕ) → wanted ≡ pos k → applicable s (header_of s) (present_states s states) (num operation) k ≡ true
      → Went (count_answer (operate_answer s lent states persona operation wanted)) k
  wanted_taken = wanted_goes s lent states persona operation wanted

  -- with −1, the only one that is applicable is.
  pub only_taken : Decided (count_answer (operate_answer s lent states persona operation wanted))
      → wanted ≡ negsuc 0 → (j : ℕ) → OneApplies s (present_states s states) (num operation) j
      → Went (count_answer (operate_answer s lent states persona operation wanted)) j
  only_taken = only_goes s lent states persona operation wanted

  -- Refused 11, the wanted outcome is not applicable, or with −1 none is. CR 2: the place is the first entity that blocks the wanted outcome, or
  -- with −1 the outcome numbered 0.
  pub eleven_none : (count_answer (operate_answer s lent states persona operation wanted)).refusal ≡ pos 11
      → NoneApplies s (present_states s states) operation wanted (count_answer (operate_answer s lent states persona operation wanted)).place
  eleven_none = eleven s lent states persona operation wanted

  -- Of the calls that get as far as the states, exactly those are refused 16 that carry −1 and have two applicable outcomes or more.
  pub sixteen_two : Decided (count_answer (operate_answer s lent states persona operation wanted))
      → ((count_answer (operate_answer s lent states persona operation wanted)).refusal ≡ pos 16)
      ↔ ((wanted ≡ negsuc 0) × TwoApply s (present_states s states) (num operation))
  sixteen_two d =
      (sixteen s lent states persona operation wanted, λ t. two_sixteen s lent states persona operation wanted d t.0 t.1)

  -- For each effect of the outcome answered that started from its entity's state, also one that leads back to that state, S3a and S4 answer yes
  -- for the persona who made it.
  pub effect_foreseen : (n : ℕ) → n < (header_of s).entities → (j e : ℕ)
      → Went (count_answer (operate_answer s lent states persona operation wanted)) j
      → moves s (header_of s) (present_states s states) (num operation) j n e ≡ true
      → Foreseen s persona operation n (effect s (header_of s) e).w1 (effect s (header_of s) e).w2
  effect_foreseen n l j e w m =
      let y =
      applied_covered s lent states persona operation wanted n l j e
      (went_is (operate_answer s lent states persona operation wanted) w)
      (moves_true s (header_of s) (present_states s states) (num operation) j n e m) in
      record { admissible = ap count_answer y.0; caused = ap count_answer y.1 }

  -- Of record i, which is of entity n:
  module _ (i : ℕ) (l : i < count before) where
    abbrev n : ℕ
    n = entity_at before i

    -- whatever state an operation call changed, S3a and S4 answer yes to for the persona who made it;
    pub change_foreseen : (num (state_at before i) ≡ num (state_at after i) → ⊥)
        → Foreseen s persona operation n (num (state_at before i)) (num (state_at after i))
    change_foreseen x =
        let y = covered s lent states persona operation wanted i l x in
        record { admissible = ap count_answer y.0; caused = ap count_answer y.1 }

    -- a state that S2's mask has is led by an operation call to one that it has.
    pub reached_stays : (mask : ℕ) → Went (counted_answer (reachable_answer s (pos n))) mask
        → in_mask mask (num (state_at before i)) ≡ true → in_mask mask (num (state_at after i)) ≡ true
    reached_stays mask w b =
        let is = rw (num_of n) at (mask_reached s (pos n) mask w) in
        (is (num (state_at after i))).0 (still_reached s lent states persona operation wanted i l ((is (num (state_at before i))).1 b))

-- No two entities are the first that blocks an outcome, so that `eleven_none` says which number the place is.
pub one_blocks : (s states : List ℤ) (operation j n m : ℕ) → Blocked s states operation j n → Blocked s states operation j m → n ≡ m
one_blocks = one_blocked

-- With −1 an operation call answers and leaves what 01's own rule, the first applicable outcome, answered and left, but for the place of 11,
-- unless it is refused 16;
pub as_before : (s : List ℤ) (lent : LentFacts) (states : LentStates) (persona operation : ℤ)
    → ((count_answer (operate_answer s lent states persona operation (negsuc 0))).refusal ≡ pos 16 → ⊥)
    → (placeless (count_answer (operate_answer s lent states persona operation (negsuc 0)))
    ≡ count_answer (operate_before s lent states persona operation))
    × (operate_states s lent states persona operation (negsuc 0) ≡ states_before s lent states persona operation)
as_before = before-unless-16

-- and an operation with one outcome never is.
pub one_outcome_as_before : (s : List ℤ) (lent : LentFacts) (states : LentStates) (persona operation : ℤ)
    → outcomes s (header_of s) (num operation) ≡ 1
    → (placeless (count_answer (operate_answer s lent states persona operation (negsuc 0)))
    ≡ count_answer (operate_before s lent states persona operation))
    × (operate_states s lent states persona operation (negsuc 0) ≡ states_before s lent states persona operation)
one_outcome_as_before s lent states persona operation n =
    before-unless-16 s lent states persona operation (one_never_16 s lent states persona operation n)

-- S2's mask has exactly the states reached from the initial one by zero or more declared transitions.
pub mask_is_reached : (s : List ℤ) (entity : ℤ) (mask : ℕ) → Went (counted_answer (reachable_answer s entity)) mask
    → (q : ℕ) → Reached s (header_of s) (num entity) q ↔ (in_mask mask q ≡ true)
mask_is_reached s entity mask w = mask_reached s entity mask w

-- 02, CR 5: S2's scans, the count of its answer, are as many as the mask has states.
pub scans_are_states : (s : List ℤ) (entity : ℤ) (mask : ℕ) → Went (counted_answer (reachable_answer s entity)) mask
    → (counted_answer (reachable_answer s entity)).count ≡ pos (states_in mask)
scans_are_states s entity mask w = mask_scans s entity mask w

-- ---- 02, CR 4: money and durations

-- A sum, a difference or a comparison of two types that differ and are not both durations, such as money and Int, is refused 3 at that node;
pub mixed_refused : (s : List ℤ) (n a b : ℕ) → Pairs s n a b → (a ≡ b → ⊥) → (is_duration a && is_duration b) ≡ false → RefusedAt s n
mixed_refused = types_refused

-- so is one of two currencies, c and d.
pub two_currencies_refused : (s : List ℤ) (n c d : ℕ) → Pairs s n (130 + c) (130 + d) → d ≤ 127 → (c ≡ d → ⊥) → RefusedAt s n
two_currencies_refused = currencies_refused

-- v days beside seconds are v × 86,400, hours v × 3,600, minutes v × 60: durations in days, hours, minutes, seconds have the types 258 to 261.
pub unit_seconds : (v : ℤ)
    → (converted 258 261 v ≡ (v *ℤ pos 86400)) × (converted 259 261 v ≡ (v *ℤ pos 3600)) × (converted 260 261 v ≡ (v *ℤ pos 60))
unfolding converted shared factor crossed
unit_seconds v = (refl, refl, refl)

-- Conversion in two steps is conversion in one.
pub conversion_steps : (u v w : ℕ) (x : ℤ) → u ≤ v → v ≤ w → x *ℤ pos (factor u v) *ℤ pos (factor v w) ≡ (x *ℤ pos (factor u w))
conversion_steps = converted_two

-- On an accepted sheet, over any facts and verdicts, and in the body of a quantifier at any element: whatever the units of two durations, their
-- sum has the seconds of both, their difference the seconds between them, and each of the six comparisons is that of their seconds.
module _ (s : List ℤ) (a : (status_answer (checked s)).refusal ≡ pos 0) (facts : List FactValue) (verdicts : List ℤ) (n : ℕ)
    (l : n < (header_of s).nodes) (element : ℤ) where
  abbrev words : Record ℤ
  words = node_words s (header_of s) n

  abbrev seconds : ℕ → ℤ
  seconds n = seconds_of s (header_of s) facts verdicts n element

  pub sum_in_seconds : num words.w0 ≡ 4 → seconds n ≡ (seconds (num words.w1) +ℤ seconds (num words.w2))
  sum_in_seconds k = sum_seconds (status_accepted s a) facts verdicts n l element k

  pub difference_in_seconds : num words.w0 ≡ 5 → seconds n ≡ (seconds (num words.w1) -ℤ seconds (num words.w2))
  difference_in_seconds k = difference_seconds (status_accepted s a) facts verdicts n l element k

  pub comparison_in_seconds : num words.w0 ≡ 7
      → is_true (value_of s (header_of s) facts verdicts n element) ≡ holds (num words.w1) (seconds (num words.w2)) (seconds (num words.w3))
  comparison_in_seconds k = comparison_seconds (status_accepted s a) facts verdicts n l element k

-- ---- demand 2: the text of a sheet

-- A text that was read, written again with room enough, is the same bytes.
pub read_then_write : (text : List ℕ) (lent_words : List ℤ) (n : ℕ) (lent_text : List ℕ)
    → Went (count_answer (read_answer text (length lent_words))) n
    → length text ≤ length lent_text
    → (count_answer (write_answer (take n (read_buffer text lent_words)) (length lent_text)) ≡ done_answer (length text) 0)
    × (take (length text) (write_buffer (take n (read_buffer text lent_words)) lent_text) ≡ text)
read_then_write text lent_words n lent_text w r =
    let again = text_again text lent_words n lent_text (went_is (read_answer text (length lent_words)) w) r in
    (ap count_answer again.0, again.1)

-- Whole lines of words in the permitted range, written and read again with room enough, are the same words.
pub write_then_read : (words : List ℤ) (lent_text : List ℕ) (lent_words : List ℤ)
    → length words % 8 ≡ 0
    → all has_text words ≡ true
    → length (text_of words) ≤ length lent_text
    → length words ≤ length lent_words
    → (n : ℕ)
    × (count_answer (write_answer words (length lent_text)) ≡ done_answer n 0)
    × (count_answer (read_answer (take n (write_buffer words lent_text)) (length lent_words)) ≡ done_answer (length words) 0)
    × (take (length words) (read_buffer (take n (write_buffer words lent_text)) lent_words) ≡ words)
write_then_read words lent_text lent_words whole texts room_text room_words =
    let again = words_again words lent_text lent_words whole texts room_text room_words in
    (again.0, ap count_answer again.1, ap count_answer again.2, again.3)

-- No two texts have the same words.
pub one_text_of_words : (text text' : List ℕ) (lent lent' : List ℤ) (n : ℕ)
    → Went (count_answer (read_answer text (length lent))) n
    → Went (count_answer (read_answer text' (length lent'))) n
    → take n (read_buffer text lent) ≡ take n (read_buffer text' lent')
    → text ≡ text'
one_text_of_words text text' lent lent' n w w' e =
    one_text text text' lent lent' n (went_is (read_answer text (length lent)) w) (went_is (read_answer text' (length lent')) w') e

-- ---- demand 3: the list of paths

module _ {s : List ℤ} {flow : ℤ} {path : List ℕ} (u : FlowReady s flow path) where
  -- `paths` has every path of the flow and nothing else, in 01's order,
  pub paths_all : WholeList s (header_of s) (num flow) (paths s (header_of s) (num flow))
  paths_all = paths_whole s (header_of s) (ready_sheet u) (num flow) (ready_flow u)

  -- and is the only list that has.
  pub paths_only : {ps : List (List ℕ)} → WholeList s (header_of s) (num flow) ps → ps ≡ paths s (header_of s) (num flow)
  paths_only w = only_list s (header_of s) (ready_sheet u) (num flow) (ready_flow u) w

  -- Of every list of calls that starts with a first, refused ones included, whatever the buffer held before: the buffer holds path n, or the
  -- last path if there is no path n, and 0 past it; refusal 13 exactly when there is no path n, else that path's terminal and length.
  pub every_list_of_calls : (cs : List Call)
      → ListedNumbers s (header_of s) flow path (nexts 0 (First ∷ cs)) (public_calls s flow (public_call s flow path First) cs)
  every_list_of_calls cs = public_numbers (listable u) cs

  -- A first and then nexts until 13 list every path, each once, in the stated order: whatever list has them all so, it is that list.
  pub whole_listing : {ps : List (List ℕ)} → WholeList s (header_of s) (num flow) ps → (k : ℕ) → length ps < k
      → read_to13 s flow k (public_call s flow path First) ≡ ps
  unfolding path_count
  whole_listing {ps} w k l =
      let only : ps ≡ paths s (header_of s) (num flow) = paths_only w in
      read_same u k ∙ (public_whole (listable u) k (rw only at l)).0 ∙ sym only

-- Any run that is not refused, whatever its facts, states and instances and whatever its steps want, takes the routes of one of these paths, and
-- answers that path's terminal and length.
pub run_takes_listed_path : (s : List ℤ) (lent : LentFacts) (states : LentStates) (flow : ℤ) (wanted : List ℤ) (path : List ℕ)
    → (counted_answer (run_answer s lent states flow wanted path)).refusal ≡ pos 0
    → RanPath s lent states flow wanted path
run_takes_listed_path = ran_path_lem

-- ---- 02, CR 6: lists

module _ (s : List ℤ) (t : LentFacts) (verdicts : List ℤ) (went : (status_answer (verdicts_answer s t (length verdicts))).refusal ≡ pos 0) (k : ℕ)
    (rule : k < (header_of s).rules) where
  -- Where the when-node of rule k is a "for all", its verdict is 1 exactly where its body is true at every element that is lent of its list, so
  -- also where there is none;
  pub for_all_verdict : num (node_words s (header_of s) (when_node s (header_of s) k)).w0 ≡ 14
      → (get_or (verdicts_verdicts s t verdicts) k (pos 0) ≡ pos 1) ↔ ((j : ℕ) → j < elements_of_rule s t k → body_true s t k j ≡ true)
  for_all_verdict = for_all_lent s t verdicts went k rule

  -- where it is an "exists", exactly where the body is true at some element.
  pub exists_verdict : num (node_words s (header_of s) (when_node s (header_of s) k)).w0 ≡ 15
      → (get_or (verdicts_verdicts s t verdicts) k (pos 0) ≡ pos 1) ↔ ((j : ℕ) × (j < elements_of_rule s t k) × (body_true s t k j ≡ true))
  exists_verdict = exists_lent s t verdicts went k rule

-- ---- 02, CR 7: instances

-- Every instance that is not named keeps its state, and no record is added, removed or moved, whether the call goes through or not.
pub operate_only_named : (s : List ℤ) (lent : LentFacts) (states : LentStates) (persona operation wanted : ℤ)
    → OnlyNamed states (operate_states s lent states persona operation wanted)
operate_only_named = operate_named

pub run_only_named : (s : List ℤ) (lent : LentFacts) (states : LentStates) (flow : ℤ) (wanted : List ℤ) (path : List ℕ)
    → OnlyNamed states (run_states s lent states flow wanted path)
run_only_named = run_named

-- Every instance of an entity that no effect names keeps its state: no effect of the operation, or of the operations of all the flow's steps.
pub operate_untouched : (s : List ℤ) (lent : LentFacts) (states : LentStates) (persona operation wanted : ℤ) (i : ℕ)
    → i < count states.records
    → touches s (header_of s) (num operation) (entity_at states.records i) ≡ false
    → state_at (operate_states s lent states persona operation wanted) i ≡ state_at states.records i
operate_untouched = operate_passes

pub run_untouched : (s : List ℤ) (lent : LentFacts) (states : LentStates) (flow : ℤ) (wanted : List ℤ) (path : List ℕ) (i : ℕ)
    → i < count states.records
    → flow_touches s (header_of s) (num flow) (entity_at states.records i) ≡ false
    → state_at (run_states s lent states flow wanted path) i ≡ state_at states.records i
run_untouched = run_passes

-- "Only those that the effects of its operations touch are read": whatever instances are named for the other entities, and whether any record has
-- them or not, a call answers and leaves the same.
pub operate_only_read : (s : List ℤ) (lent : LentFacts) (a b : LentStates) (persona operation wanted : ℤ)
    → SameRead (touches s (header_of s) (num operation)) a b
    → (count_answer (operate_answer s lent a persona operation wanted) ≡ count_answer (operate_answer s lent b persona operation wanted))
    × (operate_states s lent a persona operation wanted ≡ operate_states s lent b persona operation wanted)
operate_only_read s lent a b persona operation wanted r =
    let x = operate_reads s lent a b persona operation wanted r in (ap count_answer x.0, x.1)

pub run_only_read : (s : List ℤ) (lent : LentFacts) (a b : LentStates) (flow : ℤ) (wanted : List ℤ) (path : List ℕ)
    → SameRead (flow_touches s (header_of s) (num flow)) a b
    → (counted_answer (run_answer s lent a flow wanted path) ≡ counted_answer (run_answer s lent b flow wanted path))
    × (run_path s lent a flow wanted path ≡ run_path s lent b flow wanted path)
    × (run_states s lent a flow wanted path ≡ run_states s lent b flow wanted path)
run_only_read s lent a b flow wanted path r =
    let x = run_reads s lent a b flow wanted path r in (ap counted_answer x.0, x.1, x.2)

-- "One instance each, all numbered 0, must answer as the old form did": with one state for each entity, whatever they are and however many.
pub one_each_operates : (s : List ℤ) (lent : LentFacts) (states : List ℤ) (persona operation wanted : ℤ)
    → (count_answer (operate_answer s lent (one_each states) persona operation wanted)
    ≡ count_answer (one_operate_answer s lent states persona operation wanted))
    × (operate_states s lent (one_each states) persona operation wanted ≡ one_records (one_operate_states s lent states persona operation wanted))
one_each_operates s lent states persona operation wanted =
    let x = one_operates s lent states persona operation wanted in (ap count_answer x.0, x.1)

pub one_each_runs : (s : List ℤ) (lent : LentFacts) (states : List ℤ) (flow : ℤ) (wanted : List ℤ) (path : List ℕ)
    → (counted_answer (run_answer s lent (one_each states) flow wanted path) ≡ counted_answer (one_run_answer s lent states flow wanted path))
    × (run_path s lent (one_each states) flow wanted path ≡ one_run_path s lent states flow wanted path)
    × (run_states s lent (one_each states) flow wanted path ≡ one_records (one_run_states s lent states flow wanted path))
one_each_runs s lent states flow wanted path =
    let x = one_runs s lent states flow wanted path in (ap counted_answer x.0, x.1, x.2)
