-- What the second supplier does in the worked runs is allowed.
use Rattle.std.proofs.Common.{◌≤◌, ◌≡◌, inl, inr, true, [], ◌∷◌, ◌++◌, refl, ap, sym, arith, codes, Some, None}
use Rattle.std.proofs.lemmas.Fmt.{decimal_digit}
use Rattle.uss_shape.specs.Shape.{bounds_of}
use Rattle.uss_vol4.specs.Bounding.{bounding_box}
use Rattle.uss_intent.specs.declared.records.State.TheVariants.{Accepted}
use Rattle.uss_intent.specs.declared.calls.DssAsk.TheVariants as Asks
use Rattle.uss_intent.specs.declared.calls.DssReply.TheVariants as Replies
use Rattle.uss_event.specs.declared.events.Said.TheVariants as Says
use Rattle.uss_event.specs.declared.events.Event.TheVariants as Comes
use Rattle.uss_law_book.specs.Coding.{journal_length}
use Rattle.uss_law_book.specs.Contents.{is_open, opening_of, is_held, is_done, trials_of, trial_of, decision_of, holding_of, ending_of, jobs_of, open_job_of, last_of, has_ended, holdings_of, holding, is_ticket_open, is_ticket_gone, owed_of, is_sent, unsent}
use Rattle.uss_law_book.specs.Attempts.{Attempted, attempted, attempt_of, put_of, held}
use Rattle.uss_law_book.specs.Reserve.{need, reserved}
use Rattle.uss_law_book.specs.Legal.{MayOpen, MayOpenTicket, MayTry, MayFollow}
use Rattle.uss_law_duty.specs.Duties.{MayStep}
use Rattle.uss_law_duty.specs.Sends.{OfDss, OfPeer, RecordsAreDue, TicketsAreDue, RemovalsAreDue, NotesAreHeld, IsPutOf, IsTicketPutOf}
use Rattle.uss_law_duty.specs.Worked.{now, volume, proposal, ask, opened, heard_open, pending, sends, replied, query}
use Rattle.uss_law_duty.proofs.Worked.{each_one, opens, heard_open_follows, pending_follows}
use Rattle.uss_law_world.specs.Worked.{second, second_flight, second_ticket, second_ticket_put, second_put, the_second_ticket, second_book, second_asked_book, second_ticket_book, second_tried_book, lacks_key}

room_before : reserved second_book ≤ 536870912
unfolding reserved need journal_length
room_before = omega arith

room_asked : reserved second_asked_book ≤ 536870912
unfolding reserved need journal_length opening_of is_held is_done is_ticket_open is_ticket_gone decision_of unsent owed_of holding_of ending_of is_sent
room_asked = omega arith

room_ticket : reserved second_ticket_book ≤ 536870912
unfolding reserved need journal_length opening_of is_held is_done is_ticket_open is_ticket_gone decision_of unsent owed_of holding_of ending_of is_sent
room_ticket = omega arith

room_tried : reserved second_tried_book ≤ 536870912
unfolding reserved need journal_length opening_of is_held is_done is_ticket_open is_ticket_gone decision_of unsent owed_of holding_of ending_of is_sent
room_tried = omega arith

may_open : MayOpen second_book 1 ask
unfolding open_job_of last_of jobs_of has_ended held holding holdings_of
may_open = record { next = refl; free = refl; alive = refl; later = tt; wish = (opens.due.wish.0, refl) }

follows_opened : MayFollow second_book opened
follows_opened = record { first = refl; coding = opens.coding; due = may_open; room_before = room_before; room_after = room_asked }

puts_its_ticket : IsTicketPutOf second second_asked_book 1 second_ticket_put
unfolding opening_of bounding_box bounds_of
puts_its_ticket = record { opening = record { job = 1; moment = now; ask = ask }; proposals = proposal ∷ []; opened = refl; put = refl; is = refl }

is_open_then : is_open 1 second_asked_book ≡ true
unfolding opening_of is_held is_done
is_open_then = refl

pub asking : MayStep second_book [] now (Comes.Ask ask) (Some opened) (sends second_ticket_put) Says.Nothing []
asking =
    record {
      acts =
          record {
            owner = second;
            owns_book = refl;
            records = each_one (OfDss (RecordsAreDue second second_asked_book)) _ tt;
            pair = tt;
            notes = each_one (OfPeer (NotesAreHeld second_asked_book)) _ tt;
            held = tt;
            removals = tt;
            tickets = tt;
            ticket_calls = each_one (OfDss (TicketsAreDue second second_asked_book)) _ (puts_its_ticket, is_open_then);
            ticket_removals = each_one (OfDss (RemovalsAreDue second second_asked_book)) _ tt;
            legal = follows_opened;
            final = tt;
            cause = tt;
            goes_on = λ e. inr refl;
          };
      keys = tt;
      hears = inl refl;
    }

may_open_ticket : MayOpenTicket second_asked_book 1
unfolding opening_of is_held is_done is_ticket_open
may_open_ticket =
    record {
      opening = record { job = 1; moment = now; ask = ask };
      to = Accepted;
      priority = 0;
      rounds = 4;
      proposals = proposal ∷ [];
      unfinished = record { opened = refl; put = refl; unclosed = refl };
      new = refl;
    }

follows_heard_open : MayFollow second_asked_book heard_open
follows_heard_open = record { first = refl; coding = heard_open_follows.coding; due = may_open_ticket; room_before = room_asked; room_after = room_ticket }

pub ticket_made : MayStep second_asked_book [] now (replied second_ticket_put (Replies.TicketMade the_second_ticket)) (Some heard_open) (sends query) Says.Nothing []
ticket_made =
    record {
      acts =
          record {
            owner = second;
            owns_book = refl;
            records = each_one (OfDss (RecordsAreDue second second_ticket_book)) _ tt;
            pair = tt;
            notes = each_one (OfPeer (NotesAreHeld second_ticket_book)) _ tt;
            held = tt;
            removals = tt;
            tickets = record { ask = second_ticket_put; reply = Replies.TicketMade the_second_ticket; answers = (refl, refl, refl); its_call = puts_its_ticket; made = tt };
            ticket_calls = each_one (OfDss (TicketsAreDue second second_ticket_book)) _ tt;
            ticket_removals = each_one (OfDss (RemovalsAreDue second second_ticket_book)) _ tt;
            legal = follows_heard_open;
            final = tt;
            cause = tt;
            goes_on = λ e. inr refl;
          };
      keys = tt;
      hears = inl refl;
    }

may_try : MayTry second_ticket_book 1 1 0 None []
unfolding opening_of is_held is_done is_ticket_open decision_of trials_of holding holdings_of has_ended
may_try =
    record {
      opening = record { job = 1; moment = now; ask = ask };
      to = Accepted;
      priority = 0;
      rounds = 4;
      proposals = proposal ∷ [];
      unfinished = record { opened = refl; put = refl; unclosed = refl };
      ticket = refl;
      undecided = refl;
      round = omega arith;
      next = refl;
      one_of = omega arith;
      current = refl;
      few = omega arith;
      blind = tt;
    }

follows_pending : MayFollow second_ticket_book pending
follows_pending = record { first = refl; coding = pending_follows.coding; due = may_try; room_before = room_ticket; room_after = room_tried }

the_attempt : Attempted
the_attempt = attempted second (record { job = 1; moment = now; ask = ask }) (record { job = 1; tag = 1; alternative = 0; previous = None; key = [] }) Accepted 0 proposal

attempt_is_found : attempt_of 1 second_tried_book ≡ Some the_attempt
unfolding attempt_of trial_of opening_of the_attempt
attempt_is_found = refl

is_open_still : is_open 1 second_tried_book ≡ true
unfolding opening_of is_held is_done
is_open_still = refl

its_put : second_put ≡ put_of the_attempt
unfolding the_attempt
its_put = ap (λ ds. Asks.Put second_flight None (volume ∷ []) [] Accepted (codes "http://uss2.test" ++ codes "/a/" ++ ds) second_ticket) (sym (decimal_digit 1 (omega arith)))

its_job_is : the_attempt.job ≡ 1
unfolding the_attempt
its_job_is = refl

found_by_its_tag : attempt_of the_attempt.tag second_tried_book ≡ Some the_attempt
unfolding the_attempt
found_by_its_tag = attempt_is_found

records_it : IsPutOf second_tried_book 1 second_put
records_it = record { attempt = the_attempt; found = found_by_its_tag; its_job = its_job_is; unfinished = is_open_still; is = its_put }

pub nothing_found : MayStep second_ticket_book [] now (replied query (Replies.Found [])) (Some pending) (sends second_put) Says.Nothing []
nothing_found =
    record {
      acts =
          record {
            owner = second;
            owns_book = refl;
            records = each_one (OfDss (RecordsAreDue second second_tried_book)) _ records_it;
            pair = tt;
            notes = each_one (OfPeer (NotesAreHeld second_tried_book)) _ tt;
            held = tt;
            removals = tt;
            tickets = tt;
            ticket_calls = each_one (OfDss (TicketsAreDue second second_tried_book)) _ tt;
            ticket_removals = each_one (OfDss (RemovalsAreDue second second_tried_book)) _ tt;
            legal = follows_pending;
            final = tt;
            cause = tt;
            goes_on = λ e. inr refl;
          };
      keys = λ a f k o g ovn h. absurd h;
      hears = inl refl;
    }

pub lacked : MayStep second_tried_book [] now (replied second_put lacks_key) None (sends query) Says.Nothing []
lacked =
    record {
      acts =
          record {
            owner = second;
            owns_book = refl;
            records = each_one (OfDss (RecordsAreDue second second_tried_book)) _ tt;
            pair = tt;
            notes = each_one (OfPeer (NotesAreHeld second_tried_book)) _ tt;
            held = tt;
            removals = tt;
            tickets = tt;
            ticket_calls = each_one (OfDss (TicketsAreDue second second_tried_book)) _ tt;
            ticket_removals = each_one (OfDss (RemovalsAreDue second second_tried_book)) _ tt;
            legal = tt;
            final = tt;
            cause = tt;
            goes_on = λ e. inr refl;
          };
      keys = tt;
      hears = inl refl;
    }
