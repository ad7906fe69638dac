-- All that the worked steps of a supplier compute with: whoever unfolds this unfolds it all.
use Rattle.std.specs.Fmt.{digits}
use Rattle.uss_shape.specs.Shape.{bounds_of}
use Rattle.uss_shape.specs.Overlap.{region_holds, region_holds_first, outlines_meet}
use Rattle.uss_vol4.specs.Bounding.{bounding_box}
use Rattle.uss_vol4.specs.Sharing.{shares, any_shares, volume_holds}
use Rattle.uss_intent.specs.Tags.{tag_of, digits_at_end, number_of_digits}
use Rattle.uss_event.specs.Refusals.{refusal_of}
use Rattle.uss_plan.specs.Choice.{verdict_on}
use Rattle.uss_law_book.specs.Coding.{journal_length}
use Rattle.uss_law_book.specs.Reserve.{need}
use Rattle.uss_law_book.specs.Contents.{last_of, jobs_of, open_job_of, has_ended, holding, holdings_of, decision_of, trials_of, trial_of, is_ticket_open, ending_of, holding_of, is_done, is_held, is_job_of, is_ticket_gone, is_ticket_needed, is_sent, opening_of, owed_of, unsent, owns}
use Rattle.uss_law_book.specs.Attempts.{attempt_of, held}
use Rattle.uss_event.specs.Heard.{kept_pairs}
use Rattle.uss_law_duty.specs.Answers.{kept_answer}
use Rattle.uss_law_duty.specs.Duties.{clamped}
use Rattle.uss_law_supplier.specs.Values.{progress_of, unawaited, with_progress, without_job, sightings_of}
use Rattle.uss_law_supplier.specs.Calls.{last_trial}
use Rattle.uss_law_supplier.specs.Airspace.{held_as, is_unheard, pair_of, pairs_in, key_of}
use Rattle.uss_law_supplier.specs.Jobs.{view_of}
use Rattle.uss_law_supplier.specs.Asks.{new_refusal}
use Rattle.uss_law_supplier.specs.Positions.{is_inside}
use Rattle.uss_law_supplier.specs.Chores.{chores}
use Rattle.uss_law_supplier.specs.Replies.{retires, is_sent_now}

unfoldable pub computed : Unit {0}
unfolding digits bounds_of region_holds region_holds_first outlines_meet bounding_box shares any_shares volume_holds tag_of digits_at_end number_of_digits refusal_of verdict_on journal_length need last_of jobs_of open_job_of has_ended holding holdings_of decision_of trials_of trial_of is_ticket_open ending_of holding_of is_done is_held is_job_of is_ticket_gone is_ticket_needed is_sent opening_of owed_of unsent owns attempt_of held kept_pairs kept_answer clamped progress_of unawaited with_progress without_job sightings_of last_trial held_as is_unheard pair_of pairs_in key_of view_of new_refusal is_inside chores retires is_sent_now
computed = tt
