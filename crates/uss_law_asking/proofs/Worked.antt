-- The worked exchanges are those of the definitions.
use Rattle.std.proofs.Common.{[], ◌∷◌, refl}
use Rattle.uss_event.specs.declared.asks.Conform.TheVariants as Finds
use Rattle.uss_event.specs.declared.events.Answer.TheVariants as Answers
use Rattle.uss_event.specs.declared.events.Said.TheVariants as Says
use Rattle.uss_event.specs.declared.events.Event.TheVariants as Comes
use Rattle.uss_event.specs.declared.rules.Verdict.TheVariants.{EqualForbidden}
use Rattle.uss_law_dss.specs.Service.{empty, ovn_of, lies_in}
use Rattle.uss_law_duty.specs.Worked.{now, ask, new_book, tried_book, held_book, end_ask, planned, other_reference, flight, inside, under_way}
use Rattle.uss_law_supplier.specs.Cases.{one_round, last_try_book}
use Rattle.uss_law_supplier.specs.Flown.{strays}
use Rattle.uss_law_duty.specs.Flown.{flown_ask, flown_ovn, changed, flown_book, first_seen}
use Rattle.uss_law_supplier.proofs.Computed.{computed}
use Rattle.uss_law_asking.specs.Worked.{ComesOut, stands_on, having_heard, without_details, in_empty_airspace, other_above, other_there, in_the_way, below_another, against_another, second_ask, both_put, by_the_second, planned_second, tried_first_book, overtaken_with, in_the_next_round, without_a_round, recorded_flight, after_a_lost_reply, being_flown, ending_it, ticketed, cancelling_it, flown_flight, strayed_ovn, straying_off}
use Rattle.uss_law_duty.specs.Worked.{ticket_put}

-- what these compute with
unfoldable pub all : Unit {0}
unfolding computed ovn_of lies_in
all = tt

pub empty_airspace : ComesOut (stands_on new_book) now (Comes.Ask ask) empty [] in_empty_airspace planned 3
unfolding all
empty_airspace = record { exchange = ((refl, refl, (refl, refl, (refl, refl, tt))), refl); by_service = (refl, (refl, (refl, tt))); says = refl; made = refl }

pub under_another : ComesOut (stands_on new_book) now (Comes.Ask ask) other_above [] below_another (Says.Answer (Answers.Planned flight 1 0 flown_ovn 1)) 3
unfolding all
under_another = record { exchange = ((refl, refl, (refl, refl, (refl, refl, tt))), refl); by_service = (refl, (refl, (refl, tt))); says = refl; made = refl }

pub over_another : ComesOut (stands_on new_book) now (Comes.Ask ask) other_there (in_the_way ∷ []) against_another (Says.Answer (Answers.Conflict other_reference.flight other_reference.manager EqualForbidden)) 3
unfolding all
over_another = record { exchange = ((refl, refl, (refl, refl, (refl, refl, tt))), refl); by_service = (refl, (refl, (refl, tt))); says = refl; made = refl }

pub beside_another : ComesOut (stands_on new_book) now (Comes.Ask second_ask) other_there (in_the_way ∷ []) by_the_second (planned_second 1) 4
unfolding all
beside_another =
    record { exchange = ((refl, refl, (refl, refl, (refl, refl, (refl, refl, tt)))), refl); by_service = (refl, (refl, (refl, (refl, tt)))); says = refl; made = refl }

pub heard_before : ComesOut (having_heard new_book) now (Comes.Ask second_ask) other_there (in_the_way ∷ []) without_details (planned_second 1) 3
unfolding all
heard_before = record { exchange = ((refl, refl, (refl, refl, (refl, refl, tt))), refl); by_service = (refl, (refl, (refl, tt))); says = refl; made = refl }

pub overtaken : ComesOut (stands_on tried_first_book) now (Comes.Ask second_ask) (overtaken_with both_put) (in_the_way ∷ []) in_the_next_round (planned_second 2) 4
unfolding all
overtaken =
    record { exchange = ((refl, refl, (refl, refl, (refl, refl, (refl, refl, tt)))), refl); by_service = (refl, (refl, (refl, (refl, tt)))); says = refl; made = refl }

pub too_late : ComesOut (stands_on last_try_book) now (Comes.Ask one_round) (overtaken_with ticket_put) (in_the_way ∷ []) without_a_round (Says.Answer (Answers.Stale (other_reference.flight ∷ []))) 2
unfolding all
too_late = record { exchange = ((refl, refl, (refl, refl, tt)), refl); by_service = (refl, (refl, tt)); says = refl; made = refl }

pub resumed : ComesOut (stands_on tried_book) now (Comes.Ask ask) recorded_flight [] after_a_lost_reply planned 2
unfolding all
resumed = record { exchange = ((refl, refl, (refl, refl, tt)), refl); by_service = (refl, (refl, tt)); says = refl; made = refl }

pub flown : ComesOut (stands_on held_book) now (Comes.Ask flown_ask) recorded_flight [] being_flown changed 3
unfolding all
flown = record { exchange = ((refl, refl, (refl, refl, (refl, refl, tt))), refl); by_service = (refl, (refl, (refl, tt))); says = refl; made = refl }

pub ends : ComesOut (stands_on held_book) now (Comes.Ask end_ask) recorded_flight [] ending_it (Says.Answer (Answers.Ended flight)) 1
unfolding all
ends = record { exchange = ((refl, refl, tt), refl); by_service = (refl, tt); says = refl; made = refl }

pub cancelled : ComesOut (stands_on tried_book) now (Comes.Cancel 1 1) ticketed [] cancelling_it (Says.Answer Answers.Cancelled) 1
unfolding all
cancelled = record { exchange = ((refl, refl, tt), refl); by_service = (refl, tt); says = refl; made = refl }

pub steady : ComesOut (stands_on held_book) under_way (Comes.Position inside) recorded_flight [] [] (Says.Answer (Answers.Steady Finds.Conforming)) 0
unfolding all
steady = record { exchange = (tt, refl); by_service = tt; says = refl; made = refl }

pub strayed : ComesOut (stands_on flown_book) first_seen (Comes.Position (strays 3)) flown_flight [] straying_off (Says.Answer (Answers.Changed flight 3 0 strayed_ovn 3)) 3
unfolding all
strayed = record { exchange = ((refl, refl, (refl, refl, (refl, refl, tt))), refl); by_service = (refl, (refl, (refl, tt))); says = refl; made = refl }
