-- No case is wrong: the table computes, with every definition that it crosses unfolded.
-- Assumes nothing.
use mathlib.Core.Path.{◌≡◌, refl}
use mathlib.Core.List.{[]}
use Rattle.signed.specs.Compare.{holds, some_pair, can_hold, can_fail}
use Rattle.signed.specs.Words.{eq_z, within, bounded, num, min_z, max_z}
use Rattle.words.specs.Record.{record_at, words_at, numbers_of, unused}
use Rattle.tables.specs.Scan.{all_below, any_below, sum_below, first_fail}
use Rattle.tables.specs.Table.{grown, entry}
use Rattle.layout.specs.Groups.{good_group, good_groups}
use Rattle.layout.specs.Header.{header_of, in_limits, good_frame, good_header}
use Rattle.tables.specs.Lists.{has, all_of, any_of, distinct, joined as joined-lists, pick, words_from}
use Rattle.item.specs.Units.{crossed, factor, shared, converted}
use Rattle.item.specs.Items.{small, align, multiple}
use Rattle.node.specs.FactTypes.{fact_type_of}
use Rattle.node.specs.Rows.{row_of, fits, converts}
use Rattle.records.specs.Accept.{tables_of, good_in, first_bad, checked}
use Rattle.records.specs.Entities.{good_entity, good_change, good_transition, same_change, declared}
use Rattle.records.specs.Facts.{good_default, good_tail, agree, good_fact}
use Rattle.records.specs.Flows.{good_flow, good_operation_step, good_branch_step, good_step, flow_of, step_of, good_route_of, good_route}
use Rattle.records.specs.Names.{named_by_rules, named_by_operations, named_by_steps, closed, good_root}
use Rattle.records.specs.Nodes.{item_step, item_of, tree_step, tree_of, named_by_nodes, good_children, quantifies, flat, good_node, loose_step, loose}
use Rattle.records.specs.Operations.{good_mask, good_operation, operation_of, good_outcome, same_source, good_effect_of, good_effect}
use Rattle.records.specs.Rules.{cites_lower, good_rule}
use Rattle.facts.specs.Lent.{slots_of, lengths_of}
use Rattle.facts.specs.Assembled.{value_taken, assembled_values, fact_taken, assembled}
use Rattle.facts.specs.Faults.{good_list, good_lent, fact_fault, first_refused, facts_fault}
use Rattle.predicate.specs.Values.{value_step, value_of}
use Rattle.predicate.specs.Verdicts.{verdicts_to, verdicts_of}
use Rattle.operation.specs.Changes.{mover, new_state, applied}
use Rattle.operation.specs.Mask.{allowed}
use Rattle.operation.specs.Outcomes.{of_operation, of_outcome, starts, moves, matched, unblocked, applicable, blocking, blocker, wanted_of, good_wanted, another, only, choice, chosen}
use Rattle.instances.specs.Records.{states_lent, above, good_record, first_bad as first_bad_record, records_fault}
use Rattle.instances.specs.Named.{names, held, gathered, scattered_to, has as has_instance, covers}
use Rattle.attempt.specs.Attempts.{attempt_answer, attempted, states_after, attempted_states}
use Rattle.walks.specs.Follows.{begins, head_of, following, laid}
use Rattle.listing.specs.Calls.{first_walk, first_laid, answer_of, buffer_of, next_walk, next_laid}
use Rattle.depth.specs.Depth.{greatest, depth}
use Rattle.walks.specs.Paths.{first_route_of, routes_of, ends, target, last_of, terminal, onward, in_turn, paths_from, paths, path}
use Rattle.walks.specs.Walkers.{started, taken as taken-listing}
use Rattle.run.specs.Runs.{wanted_at, outcomes_at, good_word, good_words, step_covers, flow_covers, answer_route, branch_route, route_taken, states_then, begun, stepped, run_on, ran, ran_walk, ran_path, ran_states}
use Rattle.ladder.specs.Ladder.{then, unless, reached, opened, by, climb, facts_lent}
use Rattle.calls.specs.Evaluation.{assemble_rungs, wanted_exists, operate_rungs}
use Rattle.calls.specs.Flows.{steps_or, run_rungs, flow_rungs}
use Rattle.calls.specs.Lists.{public_call, public_calls}
use Rattle.reach.specs.Inner.{settled, next_open}
use Rattle.reach.specs.Moves.{leaves}
use Rattle.reach.specs.Reached.{enters, round, flagged, mask_below, reachable, count_below, states_in, scans}
use Rattle.causes.specs.Causes.{effect_passes, some_effect, can_be_true, admissible}
use Rattle.calls.specs.Reports.{state_exists, report_rungs}
use Rattle.decimal.specs.Decimal.{digits_in, digits, sign, decimal, has_text, magnitude, value}
use Rattle.text.specs.Calls.{before, judged as judged-text}
use Rattle.text.specs.Lines.{all, join, line, good_row, rows, rows_of, text_of, joined, cut, lines_of, numbers, words_of, same as same_text, good_line}
use Rattle.path_lines.specs.Output.{refused_line, path_line, flow_lines, flows_lines, sheet_lines, text_count, words_entrance, entrance, written, output}
use Rattle.cases.specs.Sheets.{whole, six_routes, third_outcome, sum_with, three_entities, product_is, amounts, money_product, three_graphs, over_list, nested, parcels}
use Rattle.cases.specs.CaseTable.{row, same, wrong, listed, ran_from, operated_from, operated_on_three, product_may_be, operated_with, seconds_may_be, operated_on_units, wanted_cases, blocked_cases, product_cases, amount_cases, scanned, scan_cases, quantified, list_cases, operated_named, ran_named, instance_cases, judged, assembled_with, cases, wrote}

pub none_wrong : wrong cases ≡ []
unfolding holds some_pair can_hold can_fail eq_z within bounded num min_z max_z record_at words_at numbers_of unused all_below any_below sum_below first_fail grown entry good_group good_groups header_of in_limits good_frame good_header has all_of any_of distinct joined-lists pick words_from crossed factor shared converted small align multiple fact_type_of row_of fits converts tables_of good_in first_bad checked good_entity good_change good_transition same_change declared good_default good_tail agree good_fact good_flow good_operation_step good_branch_step good_step flow_of step_of good_route_of good_route named_by_rules named_by_operations named_by_steps closed good_root item_step item_of tree_step tree_of named_by_nodes good_children quantifies flat good_node loose_step loose good_mask good_operation operation_of good_outcome same_source good_effect_of good_effect cites_lower good_rule slots_of lengths_of value_taken assembled_values fact_taken assembled good_list good_lent fact_fault first_refused facts_fault value_step value_of verdicts_to verdicts_of mover new_state applied allowed of_outcome starts moves matched unblocked applicable blocking blocker wanted_of good_wanted another only choice chosen of_operation states_lent above good_record first_bad_record records_fault names held gathered scattered_to has_instance covers attempt_answer attempted states_after attempted_states begins head_of following laid first_walk first_laid answer_of buffer_of next_walk next_laid greatest depth first_route_of routes_of ends target last_of terminal onward in_turn paths_from paths path started taken-listing wanted_at outcomes_at good_word good_words step_covers flow_covers answer_route branch_route route_taken states_then begun stepped run_on ran ran_walk ran_path ran_states then unless reached by climb facts_lent assemble_rungs wanted_exists operate_rungs steps_or run_rungs flow_rungs public_call public_calls settled next_open leaves enters round flagged mask_below reachable count_below states_in scans effect_passes some_effect can_be_true admissible state_exists report_rungs whole six_routes third_outcome sum_with three_entities product_is amounts money_product three_graphs over_list nested parcels row same wrong listed ran_from operated_from operated_on_three product_may_be operated_with seconds_may_be operated_on_units wanted_cases blocked_cases product_cases amount_cases scanned scan_cases quantified list_cases operated_named ran_named instance_cases judged assembled_with cases opened digits_in digits sign decimal has_text magnitude value before judged-text all join line good_row rows rows_of text_of joined cut lines_of numbers words_of same_text good_line refused_line path_line flow_lines flows_lines sheet_lines text_count words_entrance entrance written output wrote
none_wrong = refl
