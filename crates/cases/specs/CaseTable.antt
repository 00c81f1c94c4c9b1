-- The proved cases of 01 and of 02's requests as one table: each row is what a public call's contract says of it, beside what the papers say.
-- Assumes nothing.
use Rattle.std.specs.Prelude.{Bool, true, false, ◌&&◌, List, [], ◌∷◌, ◌++◌, map, ℕ, ◌+◌, ◌*◌, ℤ, pos, negsuc, neg_ℤ, replicate, set}
use Rattle.signed.specs.Words.{big, eq_z}
use Rattle.answer.specs.declared.Answer.{Answer}
use Rattle.answer.specs.Answers.{status_answer, count_answer, counted_answer}
use Rattle.records.specs.Accept.{checked}
use Rattle.facts.specs.Lent.{LentFacts, lent}
use Rattle.instances.specs.Records.{LentStates, lent_states}
use Rattle.listing.specs.Lists.{Next, First}
use Rattle.calls.specs.Evaluation.{assemble_answer, assemble_values, operate_answer, operate_states}
use Rattle.calls.specs.Flows.{run_answer, run_path, run_states}
use Rattle.calls.specs.Lists.{public_call, public_calls}
use Rattle.text.specs.Lines.{text_of}
use Rattle.path_lines.specs.Output.{output}
use Rattle.calls.specs.Reports.{reachable_answer, admissible_answer, depth_answer}
use Rattle.cases.specs.Sheets.{whole, six_routes, third_outcome, sum_with, three_entities, product_is, amounts, money_product, three_graphs, over_list, nested, parcels}

-- a case by its number: the row that the definitions give, and the row that the papers give
pub record Case : Type 0 where
  pub number : ℕ
  pub got : List ℤ
  pub want : List ℕ

-- a row: refusal, place, value and count, then the lent words and the lent path as the call left them
unfoldable pub row : Answer → List ℤ → List ℕ → List ℤ
row a words path = a.refusal ∷ a.place ∷ a.value ∷ a.count ∷ words ++ map pos path

unfoldable pub same : List ℤ → List ℕ → Bool
same [] [] = true
same [] (n ∷ ns) = false
same (x ∷ xs) [] = false
same (x ∷ xs) (n ∷ ns) = eq_z x (pos n) && same xs ns

-- the numbers of the cases whose rows differ
unfoldable pub wrong : List Case → List ℕ
wrong [] = []
wrong (c ∷ cs) = elim (same c.got c.want) [ true ↦ wrong cs | false ↦ c.number ∷ wrong cs ]

-- ---- the calls

abbrev minus : ℕ → ℤ
minus n = neg_ℤ (pos n)

-- the facts of a sheet without lists
abbrev plain : List ℤ → List ℤ → LentFacts
plain values given = lent values given [] []

-- one instance of each entity, all numbered 0: of one entity in state q, of three in states a, b and c
abbrev one : ℕ → LentStates
one q = lent_states (pos 0 ∷ pos 0 ∷ pos q ∷ []) (pos 0 ∷ [])

abbrev three : ℕ → ℕ → ℕ → LentStates
three a b c =
    lent_states (pos 0 ∷ pos 0 ∷ pos a ∷ pos 1 ∷ pos 0 ∷ pos b ∷ pos 2 ∷ pos 0 ∷ pos c ∷ []) (pos 0 ∷ pos 0 ∷ pos 0 ∷ [])

-- a path buffer that holds rubbish
abbrev pub rubbish : List ℕ
rubbish = 9 ∷ 9 ∷ []

-- a first and then n nexts
unfoldable pub listed : ℕ → List ℤ
listed n =
    let t = public_calls whole (pos 0) (public_call whole (pos 0) rubbish First) (replicate n Next) in
    row (counted_answer t.answer) [] t.buffer

-- a run with the fact lent as x and flagged g, from state q; step 0 is a branch, step 1 an operation that wants w
unfoldable pub ran_from : ℕ → ℕ → ℕ → ℤ → List ℤ
ran_from x g q w =
    let facts = plain (pos x ∷ []) (pos g ∷ []) in
    let states = one q in
    let wanted = negsuc 0 ∷ w ∷ [] in
    row (counted_answer (run_answer whole facts states (pos 0) wanted rubbish)) (run_states whole facts states (pos 0) wanted rubbish)
    (run_path whole facts states (pos 0) wanted rubbish)

-- the operation by itself, with the fact given as 1, from state q, with w wanted
unfoldable pub operated_from : ℕ → ℤ → List ℤ
operated_from q w =
    let facts = plain (pos 1 ∷ []) (pos 1 ∷ []) in
    let states = one q in
    row (count_answer (operate_answer whole facts states (pos 0) (pos 0) w)) (operate_states whole facts states (pos 0) (pos 0) w) []

-- the operation on three entities, from states a, b and c, with w wanted
unfoldable pub operated_on_three : ℕ → ℕ → ℕ → ℤ → List ℤ
operated_on_three a b c w =
    let states = three a b c in
    row (count_answer (operate_answer three_entities (plain [] []) states (pos 0) (pos 0) w))
    (operate_states three_entities (plain [] []) states (pos 0) (pos 0) w) []

-- S3a: whether the product of a fact in low..high by n may be v
unfoldable pub product_may_be : ℤ → ℤ → ℤ → ℤ → List ℤ
product_may_be low high n v = row (count_answer (admissible_answer (product_is low high n v) (pos 0) (pos 0) (pos 0) (pos 0))) [] []

-- the operation where the fact, in −3..5, is x, and its product by −2 has to be v
unfoldable pub operated_with : ℤ → ℤ → List ℤ
operated_with x v =
    let s = product_is (minus 3) (pos 5) (minus 2) v in
    let facts = plain (x ∷ []) (pos 1 ∷ []) in
    let states = one 0 in
    row (count_answer (operate_answer s facts states (pos 0) (pos 0) (negsuc 0))) (operate_states s facts states (pos 0) (pos 0) (negsuc 0)) []

-- S3a: whether a duration in low..high of unit p and 0 seconds may be w seconds
unfoldable pub seconds_may_be : ℕ → ℕ → ℕ → ℕ → List ℤ
seconds_may_be low high p w =
    row (count_answer (admissible_answer (amounts 4 13 low high p 0 3 w 3) (pos 0) (pos 0) (pos 0) (pos 0))) [] []

-- the operation where the fact is 1 of unit p, and it and v of unit q have to be w of unit r
unfoldable pub operated_on_units : ℕ → ℕ → ℕ → ℕ → ℕ → List ℤ
operated_on_units p v q w r =
    let s = amounts 4 13 0 10 p v q w r in
    let facts = plain (pos 1 ∷ []) (pos 1 ∷ []) in
    let states = one 0 in
    row (count_answer (operate_answer s facts states (pos 0) (pos 0) (negsuc 0))) (operate_states s facts states (pos 0) (pos 0) (negsuc 0)) []

unfoldable pub judged : List ℤ → List ℤ
judged s = row (status_answer (checked s)) [] []

unfoldable pub assembled_with : ℕ → ℕ → List ℤ
assembled_with x g =
    let facts = plain (pos x ∷ []) (pos g ∷ []) in row (status_answer (assemble_answer whole facts)) (assemble_values whole facts) []

-- what the program writes for a sheet's text
unfoldable pub wrote : List ℤ → List ℤ
wrote s = map pos (output (text_of s))

-- the operation whose precondition is that for a quantifier of kind k the elements are at most 5, where the list is flagged g and is lent with
-- the slots and the lengths; its value word, which is not read, is out of range
unfoldable pub quantified : ℕ → ℕ → List ℤ → List ℤ → List ℤ
quantified k g slots lengths =
    let s = over_list 5 k 0 2 in
    let facts = lent (pos 99 ∷ []) (pos g ∷ []) slots lengths in
    let states = one 0 in
    row (count_answer (operate_answer s facts states (pos 0) (pos 0) (negsuc 0))) (operate_states s facts states (pos 0) (pos 0) (negsuc 0)) []

-- the operation on the instances named of two entities, with these records lent
unfoldable pub operated_named : List ℕ → List ℕ → List ℤ
operated_named records instances =
    let states = lent_states (map pos records) (map pos instances) in
    row (count_answer (operate_answer parcels (plain [] []) states (pos 0) (pos 0) (negsuc 0)))
    (operate_states parcels (plain [] []) states (pos 0) (pos 0) (negsuc 0)) []

-- a run as above on the instance named, from the states of instances 3 and 5; step 1 wants outcome 1
unfoldable pub ran_named : ℕ → ℕ → ℕ → List ℤ
ran_named a b instance =
    let facts = plain (pos 1 ∷ []) (pos 1 ∷ []) in
    let states = lent_states (map pos (0 ∷ 3 ∷ a ∷ 0 ∷ 5 ∷ b ∷ [])) (pos instance ∷ []) in
    let wanted = negsuc 0 ∷ pos 1 ∷ [] in
    row (counted_answer (run_answer whole facts states (pos 0) wanted rubbish)) (run_states whole facts states (pos 0) wanted rubbish)
    (run_path whole facts states (pos 0) wanted rubbish)

-- three slots
abbrev slots : ℕ → ℕ → ℕ → List ℤ
slots a b c = pos a ∷ pos b ∷ pos c ∷ []

-- ---- the table

-- 02, CR 7, numbered 17: the named instance moves, and no other; an instance that is not read may be missing, one that is read is 5; 5 before 8,
-- by membership; what is 8, at which record; 11 at the entity; lengths; runs on the instance named
unfoldable pub instance_cases : List Case
instance_cases =
    record { number = 17; got = operated_named (0 ∷ 3 ∷ 0 ∷ 0 ∷ 5 ∷ 0 ∷ 1 ∷ 0 ∷ 1 ∷ []) (5 ∷ 0 ∷ []); want = 0 ∷ 0 ∷ 0 ∷ 0 ∷ 0 ∷ 3 ∷ 0 ∷ 0 ∷ 5 ∷ 1 ∷ 1 ∷ 0 ∷ 1 ∷ [] }
    ∷ record { number = 17; got = operated_named (0 ∷ 3 ∷ 0 ∷ 0 ∷ 5 ∷ 0 ∷ 1 ∷ 0 ∷ 1 ∷ []) (3 ∷ 0 ∷ []); want = 0 ∷ 0 ∷ 0 ∷ 0 ∷ 0 ∷ 3 ∷ 1 ∷ 0 ∷ 5 ∷ 0 ∷ 1 ∷ 0 ∷ 1 ∷ [] }
    ∷ record { number = 17; got = operated_named (0 ∷ 3 ∷ 0 ∷ 0 ∷ 5 ∷ 0 ∷ 1 ∷ 0 ∷ 1 ∷ []) (5 ∷ 9 ∷ []); want = 0 ∷ 0 ∷ 0 ∷ 0 ∷ 0 ∷ 3 ∷ 0 ∷ 0 ∷ 5 ∷ 1 ∷ 1 ∷ 0 ∷ 1 ∷ [] }
    ∷ record { number = 17; got = operated_named (0 ∷ 5 ∷ 0 ∷ []) (5 ∷ 9 ∷ []); want = 0 ∷ 0 ∷ 0 ∷ 0 ∷ 0 ∷ 5 ∷ 1 ∷ [] }
    ∷ record { number = 17; got = operated_named (0 ∷ 3 ∷ 0 ∷ 0 ∷ 5 ∷ 0 ∷ 1 ∷ 0 ∷ 1 ∷ []) (4 ∷ 0 ∷ []); want = 5 ∷ 0 ∷ 0 ∷ 0 ∷ 0 ∷ 3 ∷ 0 ∷ 0 ∷ 5 ∷ 0 ∷ 1 ∷ 0 ∷ 1 ∷ [] }
    ∷ record { number = 17; got = operated_named (1 ∷ 0 ∷ 0 ∷ []) (5 ∷ 0 ∷ []); want = 5 ∷ 0 ∷ 0 ∷ 0 ∷ 1 ∷ 0 ∷ 0 ∷ [] }
    ∷ record { number = 17; got = operated_named (0 ∷ 5 ∷ 0 ∷ 0 ∷ 3 ∷ 0 ∷ []) (4 ∷ 0 ∷ []); want = 5 ∷ 0 ∷ 0 ∷ 0 ∷ 0 ∷ 5 ∷ 0 ∷ 0 ∷ 3 ∷ 0 ∷ [] }
    ∷ record { number = 17; got = operated_named (0 ∷ 5 ∷ 0 ∷ 0 ∷ 3 ∷ 0 ∷ []) (3 ∷ 0 ∷ []); want = 8 ∷ 1 ∷ 0 ∷ 0 ∷ 0 ∷ 5 ∷ 0 ∷ 0 ∷ 3 ∷ 0 ∷ [] }
    ∷ record { number = 17; got = operated_named (0 ∷ 5 ∷ 0 ∷ 0 ∷ 5 ∷ 1 ∷ []) (5 ∷ 0 ∷ []); want = 8 ∷ 1 ∷ 0 ∷ 0 ∷ 0 ∷ 5 ∷ 0 ∷ 0 ∷ 5 ∷ 1 ∷ [] }
    ∷ record { number = 17; got = operated_named (1 ∷ 0 ∷ 0 ∷ 0 ∷ 5 ∷ 0 ∷ []) (5 ∷ 0 ∷ []); want = 8 ∷ 1 ∷ 0 ∷ 0 ∷ 1 ∷ 0 ∷ 0 ∷ 0 ∷ 5 ∷ 0 ∷ [] }
    ∷ record { number = 17; got = operated_named (0 ∷ 5 ∷ 0 ∷ 1 ∷ 0 ∷ 2 ∷ []) (5 ∷ 0 ∷ []); want = 8 ∷ 1 ∷ 0 ∷ 0 ∷ 0 ∷ 5 ∷ 0 ∷ 1 ∷ 0 ∷ 2 ∷ [] }
    ∷ record { number = 17; got = operated_named (0 ∷ 5 ∷ 0 ∷ 2 ∷ 0 ∷ 0 ∷ []) (5 ∷ 0 ∷ []); want = 8 ∷ 1 ∷ 0 ∷ 0 ∷ 0 ∷ 5 ∷ 0 ∷ 2 ∷ 0 ∷ 0 ∷ [] }
    ∷ record { number = 17; got = operated_named (0 ∷ 3 ∷ 1 ∷ 0 ∷ 5 ∷ 1 ∷ []) (5 ∷ 0 ∷ []); want = 11 ∷ 0 ∷ 0 ∷ 0 ∷ 0 ∷ 3 ∷ 1 ∷ 0 ∷ 5 ∷ 1 ∷ [] }
    ∷ record { number = 17; got = operated_named (0 ∷ 5 ∷ 0 ∷ 1 ∷ []) (5 ∷ 0 ∷ []); want = 4 ∷ 0 ∷ 0 ∷ 0 ∷ 0 ∷ 5 ∷ 0 ∷ 1 ∷ [] }
    ∷ record { number = 17; got = operated_named (0 ∷ 5 ∷ 0 ∷ 1 ∷ 0 ∷ []) (5 ∷ 0 ∷ []); want = 4 ∷ 0 ∷ 0 ∷ 0 ∷ 0 ∷ 5 ∷ 0 ∷ 1 ∷ 0 ∷ [] }
    ∷ record { number = 17; got = operated_named (0 ∷ 3 ∷ 0 ∷ 0 ∷ 5 ∷ 0 ∷ 1 ∷ 0 ∷ 1 ∷ []) (5 ∷ []); want = 4 ∷ 0 ∷ 0 ∷ 0 ∷ 0 ∷ 3 ∷ 0 ∷ 0 ∷ 5 ∷ 0 ∷ 1 ∷ 0 ∷ 1 ∷ [] }
    ∷ record { number = 17; got = operated_named (0 ∷ 3 ∷ 0 ∷ 0 ∷ 5 ∷ 0 ∷ 1 ∷ 0 ∷ 1 ∷ []) (5 ∷ 0 ∷ 0 ∷ []); want = 4 ∷ 0 ∷ 0 ∷ 0 ∷ 0 ∷ 3 ∷ 0 ∷ 0 ∷ 5 ∷ 0 ∷ 1 ∷ 0 ∷ 1 ∷ [] }
    ∷ record { number = 17; got = ran_named 0 0 5; want = 0 ∷ 0 ∷ 0 ∷ 2 ∷ 0 ∷ 3 ∷ 0 ∷ 0 ∷ 5 ∷ 2 ∷ 0 ∷ 3 ∷ [] }
    ∷ record { number = 17; got = ran_named 0 1 3; want = 0 ∷ 0 ∷ 0 ∷ 2 ∷ 0 ∷ 3 ∷ 2 ∷ 0 ∷ 5 ∷ 1 ∷ 0 ∷ 3 ∷ [] }
    ∷ record { number = 17; got = ran_named 0 1 5; want = 0 ∷ 0 ∷ 2 ∷ 2 ∷ 0 ∷ 3 ∷ 0 ∷ 0 ∷ 5 ∷ 1 ∷ 0 ∷ 4 ∷ [] }
    ∷ record { number = 17; got = ran_named 0 0 4; want = 5 ∷ 0 ∷ 0 ∷ 0 ∷ 0 ∷ 3 ∷ 0 ∷ 0 ∷ 5 ∷ 0 ∷ 9 ∷ 9 ∷ [] }
    ∷ []

-- 02, CR 6, numbered 16: empty lists; "for all" and "exists" by each element; slots past the length; what is refused 6 and 7, and other totals;
-- a quantifier inside another, an element outside of one, and a list that kind 3 names
unfoldable pub list_cases : List Case
list_cases =
    record { number = 16; got = quantified 14 1 (slots 9 9 9) (pos 0 ∷ []); want = 0 ∷ 0 ∷ 0 ∷ 0 ∷ 0 ∷ 0 ∷ 0 ∷ [] }
    ∷ record { number = 16; got = quantified 15 1 (slots 1 1 1) (pos 0 ∷ []); want = 10 ∷ 0 ∷ 0 ∷ 0 ∷ 0 ∷ 0 ∷ 0 ∷ [] }
    ∷ record { number = 16; got = quantified 14 1 (slots 5 4 3) (pos 3 ∷ []); want = 0 ∷ 0 ∷ 0 ∷ 0 ∷ 0 ∷ 0 ∷ 0 ∷ [] }
    ∷ record { number = 16; got = quantified 14 1 (slots 5 4 6) (pos 3 ∷ []); want = 10 ∷ 0 ∷ 0 ∷ 0 ∷ 0 ∷ 0 ∷ 0 ∷ [] }
    ∷ record { number = 16; got = quantified 15 1 (slots 6 7 5) (pos 3 ∷ []); want = 0 ∷ 0 ∷ 0 ∷ 0 ∷ 0 ∷ 0 ∷ 0 ∷ [] }
    ∷ record { number = 16; got = quantified 15 1 (slots 6 7 8) (pos 3 ∷ []); want = 10 ∷ 0 ∷ 0 ∷ 0 ∷ 0 ∷ 0 ∷ 0 ∷ [] }
    ∷ record { number = 16; got = quantified 14 1 (slots 5 6 10) (pos 1 ∷ []); want = 0 ∷ 0 ∷ 0 ∷ 0 ∷ 0 ∷ 0 ∷ 0 ∷ [] }
    ∷ record { number = 16; got = quantified 15 1 (slots 6 5 5) (pos 1 ∷ []); want = 10 ∷ 0 ∷ 0 ∷ 0 ∷ 0 ∷ 0 ∷ 0 ∷ [] }
    ∷ record { number = 16; got = quantified 14 1 (slots 5 10 5) (pos 2 ∷ []); want = 6 ∷ 0 ∷ 0 ∷ 0 ∷ 0 ∷ 0 ∷ 0 ∷ [] }
    ∷ record { number = 16; got = quantified 14 1 (slots 5 5 5) (pos 4 ∷ []); want = 6 ∷ 0 ∷ 0 ∷ 0 ∷ 0 ∷ 0 ∷ 0 ∷ [] }
    ∷ record { number = 16; got = quantified 14 1 (slots 5 5 5) (minus 1 ∷ []); want = 6 ∷ 0 ∷ 0 ∷ 0 ∷ 0 ∷ 0 ∷ 0 ∷ [] }
    ∷ record { number = 16; got = quantified 14 2 (slots 5 5 5) (pos 3 ∷ []); want = 6 ∷ 0 ∷ 0 ∷ 0 ∷ 0 ∷ 0 ∷ 0 ∷ [] }
    ∷ record { number = 16; got = quantified 14 0 (slots 5 5 5) (pos 3 ∷ []); want = 7 ∷ 0 ∷ 0 ∷ 0 ∷ 0 ∷ 0 ∷ 0 ∷ [] }
    ∷ record { number = 16; got = quantified 14 1 (pos 5 ∷ pos 5 ∷ []) (pos 2 ∷ []); want = 4 ∷ 0 ∷ 0 ∷ 0 ∷ 0 ∷ 0 ∷ 0 ∷ [] }
    ∷ record { number = 16; got = quantified 14 1 (slots 5 5 5) []; want = 4 ∷ 0 ∷ 0 ∷ 0 ∷ 0 ∷ 0 ∷ 0 ∷ [] }
    ∷ record { number = 16; got = quantified 14 1 (slots 5 5 5) (pos 3 ∷ pos 3 ∷ []); want = 4 ∷ 0 ∷ 0 ∷ 0 ∷ 0 ∷ 0 ∷ 0 ∷ [] }
    ∷ record { number = 16; got = judged (over_list 5 14 0 2); want = 0 ∷ 0 ∷ 0 ∷ 0 ∷ [] }
    ∷ record { number = 16; got = judged (over_list 5 11 2 0); want = 3 ∷ 7 ∷ 0 ∷ 0 ∷ [] }
    ∷ record { number = 16; got = judged nested; want = 3 ∷ 3 ∷ 0 ∷ 0 ∷ [] }
    ∷ record { number = 16; got = judged (set (over_list 5 14 0 2) (16 + 8 * 1) (pos 3)); want = 3 ∷ 1 ∷ 0 ∷ 0 ∷ [] }
    ∷ instance_cases

-- 02, CR 5, numbered 15: each entity's mask and scans, and no such entity
unfoldable pub scanned : ℤ → List ℤ
scanned e = row (counted_answer (reachable_answer three_graphs e)) [] []

unfoldable pub scan_cases : List Case
scan_cases =
    record { number = 15; got = scanned (pos 0); want = 0 ∷ 0 ∷ 6 ∷ 2 ∷ [] }
    ∷ record { number = 15; got = scanned (pos 1); want = 0 ∷ 0 ∷ 9 ∷ 2 ∷ [] }
    ∷ record { number = 15; got = scanned (pos 2); want = 0 ∷ 0 ∷ 1 ∷ 1 ∷ [] }
    ∷ record { number = 15; got = scanned (pos 3); want = 5 ∷ 0 ∷ 0 ∷ 0 ∷ [] }
    ∷ record { number = 15; got = scanned (minus 1); want = 5 ∷ 0 ∷ 0 ∷ 0 ∷ [] }
    ∷ list_cases

-- 02, CR 4, numbered 14: what is refused at the node, types that mix and products; the limits of currencies and units; each converted range
-- within −M..M (11,575 days are more than M seconds); S3a by all whole numbers of 1 to 2 days in seconds; a day is 24 hours, an hour 3,600 seconds
unfoldable pub amount_cases : List Case
amount_cases =
    record { number = 14; got = judged (amounts 3 12 0 9 5 0 5 0 5); want = 0 ∷ 0 ∷ 0 ∷ 0 ∷ [] }
    ∷ record { number = 14; got = judged (amounts 3 12 0 9 5 0 6 0 5); want = 3 ∷ 3 ∷ 0 ∷ 0 ∷ [] }
    ∷ record { number = 14; got = judged (amounts 3 12 0 9 5 0 5 0 6); want = 3 ∷ 5 ∷ 0 ∷ 0 ∷ [] }
    ∷ record { number = 14; got = judged (amounts 3 0 0 9 0 0 0 0 0); want = 3 ∷ 3 ∷ 0 ∷ 0 ∷ [] }
    ∷ record { number = 14; got = judged (amounts 4 12 0 9 0 0 0 0 0); want = 3 ∷ 3 ∷ 0 ∷ 0 ∷ [] }
    ∷ record { number = 14; got = judged (amounts 1 13 0 9 0 0 0 0 0); want = 3 ∷ 3 ∷ 0 ∷ 0 ∷ [] }
    ∷ record { number = 14; got = judged money_product; want = 3 ∷ 2 ∷ 0 ∷ 0 ∷ [] }
    ∷ record { number = 14; got = judged (amounts 3 12 0 9 127 0 127 0 127); want = 0 ∷ 0 ∷ 0 ∷ 0 ∷ [] }
    ∷ record { number = 14; got = judged (amounts 3 12 0 9 128 0 127 0 127); want = 3 ∷ 0 ∷ 0 ∷ 0 ∷ [] }
    ∷ record { number = 14; got = judged (amounts 4 13 0 9 3 0 3 0 3); want = 0 ∷ 0 ∷ 0 ∷ 0 ∷ [] }
    ∷ record { number = 14; got = judged (amounts 4 13 0 9 4 0 3 0 3); want = 3 ∷ 0 ∷ 0 ∷ 0 ∷ [] }
    ∷ record { number = 14; got = judged (amounts 4 13 0 9 3 0 4 0 3); want = 3 ∷ 2 ∷ 0 ∷ 0 ∷ [] }
    ∷ record { number = 14; got = judged (amounts 4 13 0 11_574 0 0 3 0 3); want = 0 ∷ 0 ∷ 0 ∷ 0 ∷ [] }
    ∷ record { number = 14; got = judged (amounts 4 13 0 11_575 0 0 3 0 3); want = 3 ∷ 3 ∷ 0 ∷ 0 ∷ [] }
    ∷ record { number = 14; got = judged (amounts 4 13 0 11_574 0 0 0 0 3); want = 0 ∷ 0 ∷ 0 ∷ 0 ∷ [] }
    ∷ record { number = 14; got = judged (amounts 4 13 0 11_575 0 0 0 0 3); want = 3 ∷ 5 ∷ 0 ∷ 0 ∷ [] }
    ∷ record { number = 14; got = judged (amounts 4 13 0 999_999_999 3 1 3 0 0); want = 0 ∷ 0 ∷ 0 ∷ 0 ∷ [] }
    ∷ record { number = 14; got = judged (amounts 4 13 0 1_000_000_000 3 1 3 0 0); want = 3 ∷ 3 ∷ 0 ∷ 0 ∷ [] }
    ∷ record { number = 14; got = seconds_may_be 1 2 0 86_399; want = 0 ∷ 0 ∷ 0 ∷ 0 ∷ [] }
    ∷ record { number = 14; got = seconds_may_be 1 2 0 86_400; want = 0 ∷ 0 ∷ 1 ∷ 0 ∷ [] }
    ∷ record { number = 14; got = seconds_may_be 1 2 0 86_401; want = 0 ∷ 0 ∷ 1 ∷ 0 ∷ [] }
    ∷ record { number = 14; got = seconds_may_be 1 2 0 172_800; want = 0 ∷ 0 ∷ 1 ∷ 0 ∷ [] }
    ∷ record { number = 14; got = seconds_may_be 1 2 0 172_801; want = 0 ∷ 0 ∷ 0 ∷ 0 ∷ [] }
    ∷ record { number = 14; got = operated_on_units 0 0 1 24 1; want = 0 ∷ 0 ∷ 0 ∷ 0 ∷ 0 ∷ 0 ∷ 0 ∷ [] }
    ∷ record { number = 14; got = operated_on_units 0 0 1 23 1; want = 10 ∷ 0 ∷ 0 ∷ 0 ∷ 0 ∷ 0 ∷ 0 ∷ [] }
    ∷ record { number = 14; got = operated_on_units 1 0 3 3_600 3; want = 0 ∷ 0 ∷ 0 ∷ 0 ∷ 0 ∷ 0 ∷ 0 ∷ [] }
    ∷ record { number = 14; got = operated_on_units 1 0 3 3_599 3; want = 10 ∷ 0 ∷ 0 ∷ 0 ∷ 0 ∷ 0 ∷ 0 ∷ [] }
    ∷ record { number = 14; got = operated_on_units 2 0 3 60 3; want = 0 ∷ 0 ∷ 0 ∷ 0 ∷ 0 ∷ 0 ∷ 0 ∷ [] }
    ∷ record { number = 14; got = operated_on_units 1 0 2 60 2; want = 0 ∷ 0 ∷ 0 ∷ 0 ∷ 0 ∷ 0 ∷ 0 ∷ [] }
    ∷ record { number = 14; got = operated_on_units 0 1 3 86_401 3; want = 0 ∷ 0 ∷ 0 ∷ 0 ∷ 0 ∷ 0 ∷ 0 ∷ [] }
    ∷ record { number = 14; got = operated_on_units 3 1 0 86_401 3; want = 0 ∷ 0 ∷ 0 ∷ 0 ∷ 0 ∷ 0 ∷ 0 ∷ [] }
    ∷ record { number = 14; got = operated_on_units 1 23 1 1 0; want = 0 ∷ 0 ∷ 0 ∷ 0 ∷ 0 ∷ 0 ∷ 0 ∷ [] }
    ∷ scan_cases

-- 02, CR 3, numbered 13: "range −3..5 by −2 gives −10..6; by 0 gives 0..0". 7 × 142,857,143 is M + 1
unfoldable pub product_cases : List Case
product_cases =
    record { number = 13; got = product_may_be (minus 3) (pos 5) (minus 2) (minus 11); want = 0 ∷ 0 ∷ 0 ∷ 0 ∷ [] }
    ∷ record { number = 13; got = product_may_be (minus 3) (pos 5) (minus 2) (minus 10); want = 0 ∷ 0 ∷ 1 ∷ 0 ∷ [] }
    ∷ record { number = 13; got = product_may_be (minus 3) (pos 5) (minus 2) (pos 6); want = 0 ∷ 0 ∷ 1 ∷ 0 ∷ [] }
    ∷ record { number = 13; got = product_may_be (minus 3) (pos 5) (minus 2) (pos 7); want = 0 ∷ 0 ∷ 0 ∷ 0 ∷ [] }
    ∷ record { number = 13; got = product_may_be (minus 3) (pos 5) (pos 0) (minus 1); want = 0 ∷ 0 ∷ 0 ∷ 0 ∷ [] }
    ∷ record { number = 13; got = product_may_be (minus 3) (pos 5) (pos 0) (pos 0); want = 0 ∷ 0 ∷ 1 ∷ 0 ∷ [] }
    ∷ record { number = 13; got = product_may_be (minus 3) (pos 5) (pos 0) (pos 1); want = 0 ∷ 0 ∷ 0 ∷ 0 ∷ [] }
    ∷ record { number = 13; got = product_may_be (minus 1) (pos 1) (minus big) (minus big); want = 0 ∷ 0 ∷ 1 ∷ 0 ∷ [] }
    ∷ record { number = 13; got = product_may_be (minus 1) (pos 1) (minus big) (pos big); want = 0 ∷ 0 ∷ 1 ∷ 0 ∷ [] }
    ∷ record { number = 13; got = product_may_be (pos 0) (pos 1) (minus big) (pos 1); want = 0 ∷ 0 ∷ 0 ∷ 0 ∷ [] }
    ∷ record { number = 13; got = judged (product_is (pos 0) (pos 142_857_142) (minus 7) (pos 0)); want = 0 ∷ 0 ∷ 0 ∷ 0 ∷ [] }
    ∷ record { number = 13; got = judged (product_is (pos 0) (pos 142_857_143) (minus 7) (pos 0)); want = 3 ∷ 2 ∷ 0 ∷ 0 ∷ [] }
    ∷ record { number = 13; got = judged (product_is (minus 142_857_142) (pos 0) (minus 7) (pos 0)); want = 0 ∷ 0 ∷ 0 ∷ 0 ∷ [] }
    ∷ record { number = 13; got = judged (product_is (minus 142_857_143) (pos 0) (minus 7) (pos 0)); want = 3 ∷ 2 ∷ 0 ∷ 0 ∷ [] }
    ∷ record { number = 13; got = judged (product_is (pos 0) (pos 0) (minus 1_000_000_001) (pos 0)); want = 3 ∷ 2 ∷ 0 ∷ 0 ∷ [] }
    ∷ record { number = 13; got = operated_with (pos 5) (minus 10); want = 0 ∷ 0 ∷ 0 ∷ 0 ∷ 0 ∷ 0 ∷ 0 ∷ [] }
    ∷ record { number = 13; got = operated_with (minus 3) (pos 6); want = 0 ∷ 0 ∷ 0 ∷ 0 ∷ 0 ∷ 0 ∷ 0 ∷ [] }
    ∷ record { number = 13; got = operated_with (pos 3) (pos 6); want = 10 ∷ 0 ∷ 0 ∷ 0 ∷ 0 ∷ 0 ∷ 0 ∷ [] }
    ∷ amount_cases

-- 02, CR 2, numbered 12: the first entity, in the effects' order, that blocks the wanted outcome, or with −1 outcome 0
unfoldable pub blocked_cases : List Case
blocked_cases =
    record { number = 12; got = operated_on_three 0 0 1 (pos 0); want = 11 ∷ 2 ∷ 0 ∷ 0 ∷ 0 ∷ 0 ∷ 0 ∷ 1 ∷ 0 ∷ 0 ∷ 2 ∷ 0 ∷ 1 ∷ [] }
    ∷ record { number = 12; got = operated_on_three 1 0 0 (pos 0); want = 11 ∷ 0 ∷ 0 ∷ 0 ∷ 0 ∷ 0 ∷ 1 ∷ 1 ∷ 0 ∷ 0 ∷ 2 ∷ 0 ∷ 0 ∷ [] }
    ∷ record { number = 12; got = operated_on_three 1 1 1 (pos 0); want = 11 ∷ 2 ∷ 0 ∷ 0 ∷ 0 ∷ 0 ∷ 1 ∷ 1 ∷ 0 ∷ 1 ∷ 2 ∷ 0 ∷ 1 ∷ [] }
    ∷ record { number = 12; got = operated_on_three 0 1 1 (pos 1); want = 11 ∷ 1 ∷ 0 ∷ 0 ∷ 0 ∷ 0 ∷ 0 ∷ 1 ∷ 0 ∷ 1 ∷ 2 ∷ 0 ∷ 1 ∷ [] }
    ∷ record { number = 12; got = operated_on_three 0 0 1 (pos 1); want = 11 ∷ 0 ∷ 0 ∷ 0 ∷ 0 ∷ 0 ∷ 0 ∷ 1 ∷ 0 ∷ 0 ∷ 2 ∷ 0 ∷ 1 ∷ [] }
    ∷ record { number = 12; got = operated_on_three 0 1 1 (negsuc 0); want = 11 ∷ 2 ∷ 0 ∷ 0 ∷ 0 ∷ 0 ∷ 0 ∷ 1 ∷ 0 ∷ 1 ∷ 2 ∷ 0 ∷ 1 ∷ [] }
    ∷ record { number = 12; got = operated_on_three 0 1 0 (negsuc 0); want = 0 ∷ 0 ∷ 0 ∷ 0 ∷ 0 ∷ 0 ∷ 1 ∷ 1 ∷ 0 ∷ 0 ∷ 2 ∷ 0 ∷ 1 ∷ [] }
    ∷ product_cases

-- 02, CR 1, numbered 11: both outcomes start from state 0, and none from state 1
unfoldable pub wanted_cases : List Case
wanted_cases =
    record { number = 11; got = operated_from 0 (pos 0); want = 0 ∷ 0 ∷ 0 ∷ 0 ∷ 0 ∷ 0 ∷ 1 ∷ [] }
    ∷ record { number = 11; got = operated_from 0 (pos 1); want = 0 ∷ 0 ∷ 1 ∷ 0 ∷ 0 ∷ 0 ∷ 2 ∷ [] }
    ∷ record { number = 11; got = operated_from 0 (negsuc 0); want = 16 ∷ 0 ∷ 0 ∷ 0 ∷ 0 ∷ 0 ∷ 0 ∷ [] }
    ∷ record { number = 11; got = operated_from 1 (negsuc 0); want = 11 ∷ 0 ∷ 0 ∷ 0 ∷ 0 ∷ 0 ∷ 1 ∷ [] }
    ∷ record { number = 11; got = operated_from 1 (pos 1); want = 11 ∷ 0 ∷ 0 ∷ 0 ∷ 0 ∷ 0 ∷ 1 ∷ [] }
    ∷ record { number = 11; got = operated_from 0 (pos 2); want = 5 ∷ 0 ∷ 0 ∷ 0 ∷ 0 ∷ 0 ∷ 0 ∷ [] }
    ∷ record { number = 11; got = operated_from 0 (negsuc 1); want = 5 ∷ 0 ∷ 0 ∷ 0 ∷ 0 ∷ 0 ∷ 0 ∷ [] }
    ∷ record { number = 11; got = ran_from 1 1 0 (pos 1); want = 0 ∷ 0 ∷ 0 ∷ 2 ∷ 0 ∷ 0 ∷ 2 ∷ 0 ∷ 3 ∷ [] }
    ∷ record { number = 11; got = ran_from 1 1 0 (negsuc 0); want = 0 ∷ 0 ∷ 2 ∷ 2 ∷ 0 ∷ 0 ∷ 0 ∷ 0 ∷ 4 ∷ [] }
    ∷ record { number = 11; got = ran_from 1 0 0 (pos 2); want = 5 ∷ 0 ∷ 0 ∷ 0 ∷ 0 ∷ 0 ∷ 0 ∷ 9 ∷ 9 ∷ [] }
    ∷ blocked_cases

unfoldable pub cases : List Case
cases =
    record { number = 1; got = listed 0; want = 0 ∷ 0 ∷ 0 ∷ 2 ∷ 0 ∷ 2 ∷ [] }
    ∷ record { number = 1; got = listed 1; want = 0 ∷ 0 ∷ 0 ∷ 2 ∷ 0 ∷ 3 ∷ [] }
    ∷ record { number = 1; got = listed 2; want = 0 ∷ 0 ∷ 2 ∷ 2 ∷ 0 ∷ 4 ∷ [] }
    ∷ record { number = 1; got = listed 3; want = 0 ∷ 0 ∷ 1 ∷ 1 ∷ 1 ∷ 0 ∷ [] }
    ∷ record { number = 1; got = listed 4; want = 13 ∷ 0 ∷ 0 ∷ 0 ∷ 1 ∷ 0 ∷ [] }
    ∷ record { number = 1; got = wrote whole; want = 48 ∷ 9 ∷ 48 ∷ 9 ∷ 48 ∷ 9 ∷ 50 ∷ 10 ∷ 48 ∷ 9 ∷ 48 ∷ 9 ∷ 48 ∷ 9 ∷ 51 ∷ 10 ∷ 48 ∷ 9 ∷ 50 ∷ 9 ∷ 48 ∷ 9 ∷ 52 ∷ 10 ∷ 48 ∷ 9 ∷ 49 ∷ 9 ∷ 49 ∷ 10 ∷ [] }
    ∷ record { number = 2; got = ran_from 1 1 0 (pos 0); want = 0 ∷ 0 ∷ 0 ∷ 2 ∷ 0 ∷ 0 ∷ 1 ∷ 0 ∷ 2 ∷ [] }
    ∷ record { number = 3; got = ran_from 1 0 0 (negsuc 0); want = 0 ∷ 0 ∷ 1 ∷ 1 ∷ 0 ∷ 0 ∷ 0 ∷ 1 ∷ 0 ∷ [] }
    ∷ record { number = 4; got = ran_from 1 1 1 (negsuc 0); want = 0 ∷ 0 ∷ 2 ∷ 2 ∷ 0 ∷ 0 ∷ 1 ∷ 0 ∷ 4 ∷ [] }
    ∷ record { number = 5; got = row (counted_answer (reachable_answer whole (pos 0))) [] []; want = 0 ∷ 0 ∷ 7 ∷ 3 ∷ [] }
    ∷ record { number = 6; got = row (count_answer (depth_answer whole (pos 0))) [] []; want = 0 ∷ 0 ∷ 2 ∷ 0 ∷ [] }
    ∷ record { number = 7; got = judged six_routes; want = 1 ∷ 0 ∷ 0 ∷ 0 ∷ [] }
    ∷ record { number = 7; got = wrote six_routes; want = 114 ∷ 101 ∷ 102 ∷ 117 ∷ 115 ∷ 101 ∷ 100 ∷ 9 ∷ 49 ∷ 9 ∷ 48 ∷ 10 ∷ [] }
    ∷ record { number = 8; got = judged third_outcome; want = 3 ∷ 8 ∷ 0 ∷ 0 ∷ [] }
    ∷ record { number = 9; got = judged (sum_with 0); want = 0 ∷ 0 ∷ 0 ∷ 0 ∷ [] }
    ∷ record { number = 9; got = judged (sum_with 1); want = 3 ∷ 3 ∷ 0 ∷ 0 ∷ [] }
    ∷ record { number = 10; got = assembled_with 2 1; want = 6 ∷ 0 ∷ 0 ∷ 0 ∷ 2 ∷ [] }
    ∷ record { number = 10; got = ran_from 2 1 0 (pos 1); want = 6 ∷ 0 ∷ 0 ∷ 0 ∷ 0 ∷ 0 ∷ 0 ∷ 9 ∷ 9 ∷ [] }
    ∷ wanted_cases
