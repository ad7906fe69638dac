-- The worked steps are allowed.
use Rattle.std.proofs.Common.{◌≤◌, ◌≡◌, inl, inr, true, [], ◌∷◌, ◌++◌, refl, ap, sym, subst, arith, codes, Some, None}
use Rattle.std.specs.Prelude.{IsTrue}
use Rattle.std.proofs.lemmas.Fmt.{decimal_digit}
use Rattle.std.proofs.lemmas.List.Elements.{All-from_recursion}
use Rattle.uss_shape.specs.Shape.{IsOutline, bounds_of}
use Rattle.uss_shape.specs.Plane.{InPlane}
use Rattle.uss_vol4.specs.Volume.{IsVolume}
use Rattle.uss_vol4.specs.Bounding.{bounding_box}
use Rattle.uss_intent.specs.declared.records.State.TheVariants.{Accepted}
use Rattle.uss_intent.specs.Texts.{IsOvn}
use Rattle.uss_intent.specs.Tags.{tag_of, digits_at_end, number_of_digits}
use Rattle.uss_intent.specs.declared.calls.DssAsk.TheVariants as Asks
use Rattle.uss_intent.specs.declared.calls.DssReply.TheVariants as Replies
use Rattle.uss_event.specs.Plans.{is_plan}
use Rattle.uss_event.specs.declared.entries.Ending.TheVariants as Ends
use Rattle.uss_event.specs.declared.events.Answer.TheVariants.{Planned, Cancelled}
use Rattle.uss_event.specs.declared.events.Event.{Event}
use Rattle.uss_event.specs.declared.details.Proposal.{Proposal}
use Rattle.uss_event.specs.declared.calls.Outgoing.{Outgoing}
use Rattle.uss_event.specs.declared.events.Said.TheVariants as Says
use Rattle.uss_event.specs.declared.events.Event.TheVariants as Comes
use Rattle.uss_law_dss.specs.Lists.{Has}
use Rattle.uss_law_book.specs.Coding.{IsAsk, IsProposal, IsSubscriber, journal_length}
use Rattle.uss_law_book.specs.Contents.{is_open, opening_of, is_held, is_done, trials_of, trial_of, owns, decision_of, holding_of, ending_of, jobs_of, open_job_of, last_of, has_ended, holdings_of, holding, is_ticket_open, is_ticket_gone, owed_of, is_sent, unsent}
use Rattle.uss_law_book.specs.Attempts.{Attempted, attempted, attempt_of, put_of, held}
use Rattle.uss_event.specs.declared.entries.Opening.{Opening}
use Rattle.uss_law_book.specs.Reserve.{need, reserved}
use Rattle.uss_law_book.specs.Legal.{MayOpen, MayOpenTicket, MayTry, MayHold, MayDecide, MayEnd, ArePlans, MayFollow}
use Rattle.uss_law_duty.specs.Duties.{MayStep}
use Rattle.uss_law_duty.specs.Worked.{now, owner, volume, proposal, ask, flight, ticket, ovn, opened, heard_open, pending, recorded, cancelling, done, new_book, asked_book, ticket_book, tried_book, held_book, cancelled_book, sends, replied, ticket_put, query, put, get, ticket_remove, the_ticket, the_reference, planned, missing, exists}
use Rattle.uss_law_duty.specs.Sends.{OfDss, OfPeer, RecordsAreDue, TicketsAreDue, RemovalsAreDue, NotesAreHeld, IsPutOf, IsTicketPutOf, IsTicketRemoveOf}
use Rattle.uss_law_duty.specs.Entered.{shown_tag, IsPutWith, HoldsByReply}
use Rattle.uss_law_duty.specs.Answers.{kept_answer, job_named}
use Rattle.uss_law_duty.specs.Sayings.{IsKeptAnswer}

pub each_one : {X : Type 0} (P : X → Type 0) (y : X) → P y → (x : X) → Has (y ∷ []) x → P x
each_one P y h x (inl e) = subst P e h
each_one P y h x (inr n) = absurd n

pub valid_outline : IsOutline volume.outline
valid_outline =
    record {
      enough = omega arith;
      few = omega arith;
      in_plane = All-from_recursion InPlane volume.outline (
        (omega arith, omega arith, omega arith, omega arith),
        (
          (omega arith, omega arith, omega arith, omega arith),
          ((omega arith, omega arith, omega arith, omega arith), ((omega arith, omega arith, omega arith, omega arith), tt)),
        ),
      );
    }

pub valid_volume : IsVolume volume
valid_volume =
    record {
      outline = valid_outline;
      altitudes = omega arith;
      times = omega arith;
      low = (omega arith, omega arith);
      high = (omega arith, omega arith);
      start = (omega arith, omega arith);
      end = (omega arith, omega arith);
    }

pub valid_proposal : IsProposal proposal
valid_proposal =
    record {
      few_volumes = omega arith;
      few_off_nominal = omega arith;
      volumes = All-from_recursion IsVolume (volume ∷ []) (valid_volume, tt);
      off_nominal = All-from_recursion IsVolume [] tt;
    }

valid_ask : IsAsk ask
valid_ask =
    record {
      flight = omega arith;
      number = omega arith;
      wish = record {
        priority_fits = omega arith;
        rounds_fit = omega arith;
        few_proposals = omega arith;
        valid_proposals = All-from_recursion IsProposal (proposal ∷ []) (valid_proposal, tt);
      };
    }

-- the room that is used and kept free, as a number
pub room_before : reserved new_book ≤ 536870912
unfolding reserved need journal_length
room_before = omega arith

room_after : reserved (new_book ++ opened ∷ []) ≤ 536870912
unfolding reserved need journal_length opening_of is_held is_done is_ticket_open is_ticket_gone unsent owed_of holding_of ending_of is_sent
room_after = omega arith

are_plans : ArePlans Accepted 0 4 (proposal ∷ [])
unfolding is_plan
are_plans =
    record {
      some_rounds = omega arith;
      few_rounds = omega arith;
      some_proposals = omega arith;
      few_proposals = omega arith;
      each = All-from_recursion (λ (p : Proposal). IsTrue (is_plan Accepted p.volumes p.off_nominal 0)) (proposal ∷ []) (refl, tt);
    }

may_open : MayOpen new_book 1 ask
unfolding open_job_of last_of jobs_of has_ended held holding holdings_of
may_open = record { next = refl; free = refl; alive = refl; later = tt; wish = (are_plans, refl) }

pub opens : MayFollow new_book opened
opens =
    record {
      first = refl;
      coding = (omega arith, (omega arith, omega arith), valid_ask);
      due = may_open;
      room_before = room_before;
      room_after = room_after;
    }

puts_its_ticket : IsTicketPutOf owner (new_book ++ opened ∷ []) 1 ticket_put
unfolding opening_of bounding_box bounds_of
puts_its_ticket = record { opening = record { job = 1; moment = now; ask = ask }; proposals = proposal ∷ []; opened = refl; put = refl; is = refl }

is_open_then : is_open 1 (new_book ++ opened ∷ []) ≡ true
unfolding opening_of is_held is_done
is_open_then = refl

pub asking : MayStep new_book [] now (Comes.Ask ask) (Some opened) (sends ticket_put) Says.Nothing []
asking =
    record {
      acts =
          record {
            owner = owner;
            owns_book = refl;
            records = each_one (OfDss (RecordsAreDue owner asked_book)) _ tt;
            pair = tt;
            notes = each_one (OfPeer (NotesAreHeld asked_book)) _ tt;
            held = tt;
            removals = tt;
            tickets = tt;
            ticket_calls = each_one (OfDss (TicketsAreDue owner asked_book)) _ (puts_its_ticket, is_open_then);
            ticket_removals = each_one (OfDss (RemovalsAreDue owner asked_book)) _ tt;
            legal = opens;
            final = tt;
            cause = tt;
            goes_on = λ e. inr refl;
          };
      keys = tt;
      hears = inl refl;
    }

pub none_sent : (P : Outgoing → Type 0) (x : Outgoing) → Has [] x → P x
none_sent P x h = absurd h

room_asked : reserved (asked_book) ≤ 536870912
unfolding reserved need journal_length opening_of is_held is_done is_ticket_open is_ticket_gone decision_of unsent owed_of holding_of ending_of is_sent
room_asked = omega arith

pub room_ticket : reserved (ticket_book) ≤ 536870912
unfolding reserved need journal_length opening_of is_held is_done is_ticket_open is_ticket_gone decision_of unsent owed_of holding_of ending_of is_sent
room_ticket = omega arith

pub room_tried : reserved (tried_book) ≤ 536870912
unfolding reserved need journal_length opening_of is_held is_done is_ticket_open is_ticket_gone decision_of unsent owed_of holding_of ending_of is_sent
room_tried = omega arith

room_cancelled : reserved (cancelled_book) ≤ 536870912
unfolding reserved need journal_length opening_of is_held is_done is_ticket_open is_ticket_gone decision_of unsent owed_of holding_of ending_of is_sent
room_cancelled = omega arith

pub room_held : reserved (held_book) ≤ 536870912
unfolding reserved need journal_length opening_of is_held is_done is_ticket_open is_ticket_gone decision_of unsent owed_of holding_of ending_of is_sent
room_held = omega arith

room_done : reserved (cancelled_book ++ done ∷ []) ≤ 536870912
unfolding reserved need journal_length opening_of is_held is_done is_ticket_open is_ticket_gone decision_of unsent owed_of holding_of ending_of is_sent
room_done = omega arith

pub the_opening : Opening
the_opening = record { job = 1; moment = now; ask = ask }

-- the ticket is there: the airspace is asked for
may_open_ticket : MayOpenTicket asked_book 1
unfolding opening_of is_held is_done is_ticket_open the_opening
may_open_ticket =
    record {
      opening = the_opening;
      to = Accepted;
      priority = 0;
      rounds = 4;
      proposals = proposal ∷ [];
      unfinished = record { opened = refl; put = refl; unclosed = refl };
      new = refl;
    }

pub heard_open_follows : MayFollow asked_book heard_open
heard_open_follows = record { first = refl; coding = omega arith; due = may_open_ticket; room_before = room_asked; room_after = room_ticket }

pub ticket_made : MayStep asked_book [] now (replied ticket_put (Replies.TicketMade the_ticket)) (Some heard_open) (sends query) Says.Nothing []
ticket_made =
    record {
      acts =
          record {
            owner = owner;
            owns_book = refl;
            records = each_one (OfDss (RecordsAreDue owner ticket_book)) _ tt;
            pair = tt;
            notes = each_one (OfPeer (NotesAreHeld ticket_book)) _ tt;
            held = tt;
            removals = tt;
            tickets = record { ask = ticket_put; reply = Replies.TicketMade the_ticket; answers = (refl, refl, refl); its_call = puts_its_ticket; made = tt };
            ticket_calls = each_one (OfDss (TicketsAreDue owner ticket_book)) _ tt;
            ticket_removals = each_one (OfDss (RemovalsAreDue owner ticket_book)) _ tt;
            legal = heard_open_follows;
            final = tt;
            cause = tt;
            goes_on = λ e. inr refl;
          };
      keys = tt;
      hears = inl refl;
    }

-- nothing is found: the attempt is made with an empty key
may_try : MayTry ticket_book 1 1 0 None []
unfolding opening_of is_held is_done is_ticket_open decision_of trials_of holding holdings_of has_ended the_opening
may_try =
    record {
      opening = the_opening;
      to = Accepted;
      priority = 0;
      rounds = 4;
      proposals = proposal ∷ [];
      unfinished = record { opened = refl; put = refl; unclosed = refl };
      ticket = refl;
      undecided = refl;
      round = omega arith;
      next = refl;
      one_of = omega arith;
      current = refl;
      few = omega arith;
      blind = tt;
    }

pub pending_follows : MayFollow ticket_book pending
pending_follows =
    record {
      first = refl;
      coding = record { job_fits = omega arith; tag_fits = omega arith; alternative_fits = omega arith; valid_previous = tt; few = omega arith; valid_key = All-from_recursion IsOvn [] tt };
      due = may_try;
      room_before = room_ticket;
      room_after = room_tried;
    }

the_attempt : Attempted
the_attempt = attempted owner (record { job = 1; moment = now; ask = ask }) (record { job = 1; tag = 1; alternative = 0; previous = None; key = [] }) Accepted 0 proposal

attempt_is_found : attempt_of 1 tried_book ≡ Some the_attempt
unfolding attempt_of trial_of opening_of the_attempt
attempt_is_found = refl

pub is_open_still : is_open 1 tried_book ≡ true
unfolding opening_of is_held is_done
is_open_still = refl

its_put : put ≡ put_of the_attempt
unfolding the_attempt
its_put = ap (λ ds. Asks.Put flight None (volume ∷ []) [] Accepted (codes "http://uss1.test" ++ codes "/a/" ++ ds) ticket) (sym (decimal_digit 1 (omega arith)))

its_job_is : the_attempt.job ≡ 1
unfolding the_attempt
its_job_is = refl

found_by_its_tag : attempt_of the_attempt.tag tried_book ≡ Some the_attempt
unfolding the_attempt
found_by_its_tag = attempt_is_found

records_it : IsPutOf tried_book 1 put
records_it = record { attempt = the_attempt; found = found_by_its_tag; its_job = its_job_is; unfinished = is_open_still; is = its_put }

pub nothing_found : MayStep ticket_book [] now (replied query (Replies.Found [])) (Some pending) (sends put) Says.Nothing []
nothing_found =
    record {
      acts =
          record {
            owner = owner;
            owns_book = refl;
            records = each_one (OfDss (RecordsAreDue owner tried_book)) _ records_it;
            pair = tt;
            notes = each_one (OfPeer (NotesAreHeld tried_book)) _ tt;
            held = tt;
            removals = tt;
            tickets = tt;
            ticket_calls = each_one (OfDss (TicketsAreDue owner tried_book)) _ tt;
            ticket_removals = each_one (OfDss (RemovalsAreDue owner tried_book)) _ tt;
            legal = pending_follows;
            final = tt;
            cause = tt;
            goes_on = λ e. inr refl;
          };
      keys = λ a f k o g ovn h. absurd h;
      hears = inl refl;
    }

-- the attempt landed: it is entered as held, and the answer is Planned
may_hold : MayHold tried_book 1 1
unfolding owns
may_hold = record { unfinished = is_open_still; own = refl }

pub recorded_follows : MayFollow tried_book recorded
recorded_follows =
    record {
      first = refl;
      coding = record {
        job_fits = omega arith;
        tag_fits = omega arith;
        valid_ovn = refl;
        version_fits = omega arith;
        valid_owed = (omega arith, All-from_recursion IsSubscriber [] tt);
      };
      due = may_hold;
      room_before = room_tried;
      room_after = room_held;
    }

its_tag : shown_tag the_reference ≡ Some 1
unfolding tag_of digits_at_end number_of_digits
its_tag = refl

puts_with : IsPutWith tried_book 1 1 put
puts_with = record { attempt = the_attempt; found = attempt_is_found; its_job = its_job_is; is = its_put }

holds_by_landing : HoldsByReply owner tried_book (replied put (Replies.Landed the_reference [])) 1 1 ovn 1
holds_by_landing =
    record {
      ask = put;
      reply = Replies.Landed the_reference [];
      reference = the_reference;
      unfinished = is_open_still;
      answers = (refl, refl, refl);
      fitting = refl;
      shows = (puts_with, refl);
      tag_is = its_tag;
      ovn_is = refl;
      version_is = refl;
    }

is_kept : (event : Event) → job_named event held_book ≡ opening_of 1 held_book → IsKeptAnswer owner held_book event (Planned flight 1 0 ovn 1)
unfolding kept_answer opening_of holding_of ending_of trial_of
is_kept event e = record { opening = record { job = 1; moment = now; ask = ask }; named = e; kept = refl }

pub landed : MayStep tried_book [] now (replied put (Replies.Landed the_reference [])) (Some recorded) [] planned []
landed =
    record {
      acts =
          record {
            owner = owner;
            owns_book = refl;
            records = none_sent (OfDss (RecordsAreDue owner held_book));
            pair = tt;
            notes = none_sent (OfPeer (NotesAreHeld held_book));
            held = holds_by_landing;
            removals = tt;
            tickets = tt;
            ticket_calls = none_sent (OfDss (TicketsAreDue owner held_book));
            ticket_removals = none_sent (OfDss (RemovalsAreDue owner held_book));
            legal = recorded_follows;
            final = λ e. is_kept (replied put (Replies.Landed the_reference [])) refl;
            cause = refl;
            goes_on = λ e. inl refl;
          };
      keys = tt;
      hears = inl refl;
    }

-- the reply to the Put was lost: the late copy is refused as there, and what is recorded is asked for
pub asks_again : MayStep tried_book [] now (replied put exists) None (sends get) Says.Nothing []
asks_again =
    record {
      acts =
          record {
            owner = owner;
            owns_book = refl;
            records = each_one (OfDss (RecordsAreDue owner tried_book)) _ tt;
            pair = tt;
            notes = each_one (OfPeer (NotesAreHeld tried_book)) _ tt;
            held = tt;
            removals = tt;
            tickets = tt;
            ticket_calls = each_one (OfDss (TicketsAreDue owner tried_book)) _ tt;
            ticket_removals = each_one (OfDss (RemovalsAreDue owner tried_book)) _ tt;
            legal = tt;
            final = tt;
            cause = tt;
            goes_on = λ e. inr refl;
          };
      keys = tt;
      hears = inl refl;
    }

holds_by_get : HoldsByReply owner tried_book (replied get (Replies.Got the_reference)) 1 1 ovn 1
unfolding opening_of
holds_by_get =
    record {
      ask = get;
      reply = Replies.Got the_reference;
      reference = the_reference;
      unfinished = is_open_still;
      answers = (refl, refl, refl);
      fitting = refl;
      shows = (record { opening = record { job = 1; moment = now; ask = ask }; opened = refl; is = refl }, refl);
      tag_is = its_tag;
      ovn_is = refl;
      version_is = refl;
    }

pub got : MayStep tried_book [] now (replied get (Replies.Got the_reference)) (Some recorded) [] planned []
got =
    record {
      acts =
          record {
            owner = owner;
            owns_book = refl;
            records = none_sent (OfDss (RecordsAreDue owner held_book));
            pair = tt;
            notes = none_sent (OfPeer (NotesAreHeld held_book));
            held = holds_by_get;
            removals = tt;
            tickets = tt;
            ticket_calls = none_sent (OfDss (TicketsAreDue owner held_book));
            ticket_removals = none_sent (OfDss (RemovalsAreDue owner held_book));
            legal = recorded_follows;
            final = λ e. is_kept (replied get (Replies.Got the_reference)) refl;
            cause = refl;
            goes_on = λ e. inl refl;
          };
      keys = tt;
      hears = inl refl;
    }

-- the key lacked something, and rounds are left: the airspace is asked for anew
pub lacked : MayStep tried_book [] now (replied put missing) None (sends query) Says.Nothing []
lacked =
    record {
      acts =
          record {
            owner = owner;
            owns_book = refl;
            records = each_one (OfDss (RecordsAreDue owner tried_book)) _ tt;
            pair = tt;
            notes = each_one (OfPeer (NotesAreHeld tried_book)) _ tt;
            held = tt;
            removals = tt;
            tickets = tt;
            ticket_calls = each_one (OfDss (TicketsAreDue owner tried_book)) _ tt;
            ticket_removals = each_one (OfDss (RemovalsAreDue owner tried_book)) _ tt;
            legal = tt;
            final = tt;
            cause = tt;
            goes_on = λ e. inr refl;
          };
      keys = tt;
      hears = inl refl;
    }

-- after a restart the same request makes the Put of the last attempt go out again
pub resumed : MayStep tried_book [] now (Comes.Ask ask) None (sends put) Says.Nothing []
resumed =
    record {
      acts =
          record {
            owner = owner;
            owns_book = refl;
            records = each_one (OfDss (RecordsAreDue owner tried_book)) _ records_it;
            pair = tt;
            notes = each_one (OfPeer (NotesAreHeld tried_book)) _ tt;
            held = tt;
            removals = tt;
            tickets = tt;
            ticket_calls = each_one (OfDss (TicketsAreDue owner tried_book)) _ tt;
            ticket_removals = each_one (OfDss (RemovalsAreDue owner tried_book)) _ tt;
            legal = tt;
            final = tt;
            cause = tt;
            goes_on = λ e. inr refl;
          };
      keys = tt;
      hears = inl refl;
    }

-- a cancel after an attempt takes the ticket out first
may_decide : MayDecide tried_book 1 Ends.Cancelled
unfolding opening_of is_held is_done decision_of trials_of the_opening
may_decide =
    record {
      opening = the_opening;
      to = Accepted;
      priority = 0;
      rounds = 4;
      proposals = proposal ∷ [];
      unfinished = record { opened = refl; put = refl; unclosed = refl };
      tried = omega arith;
      undecided = refl;
      so = tt;
    }

pub cancelling_follows : MayFollow tried_book cancelling
cancelling_follows = record { first = refl; coding = (omega arith, tt); due = may_decide; room_before = room_tried; room_after = room_cancelled }

removes_ticket : IsTicketRemoveOf owner cancelled_book 1 ticket_remove
unfolding opening_of is_held is_done decision_of is_ticket_open
removes_ticket = record { is = refl; heard_open = refl; may = inl (refl, refl) }

pub cancels : MayStep tried_book [] now (Comes.Cancel 1 1) (Some cancelling) (sends ticket_remove) Says.Nothing []
cancels =
    record {
      acts =
          record {
            owner = owner;
            owns_book = refl;
            records = each_one (OfDss (RecordsAreDue owner cancelled_book)) _ tt;
            pair = tt;
            notes = each_one (OfPeer (NotesAreHeld cancelled_book)) _ tt;
            held = tt;
            removals = tt;
            tickets = tt;
            ticket_calls = each_one (OfDss (TicketsAreDue owner cancelled_book)) _ tt;
            ticket_removals = each_one (OfDss (RemovalsAreDue owner cancelled_book)) _ removes_ticket;
            legal = cancelling_follows;
            final = tt;
            cause = tt;
            goes_on = λ e. inr refl;
          };
      keys = tt;
      hears = inl refl;
    }

-- the ticket is gone: the job ends as it decided
may_end : MayEnd cancelled_book 1 Ends.Cancelled
unfolding opening_of is_held is_done decision_of trials_of the_opening
may_end = record { opening = the_opening; opened = refl; unclosed = refl; wish = inl refl }

pub done_follows : MayFollow cancelled_book done
done_follows = record { first = refl; coding = (omega arith, tt); due = may_end; room_before = room_cancelled; room_after = room_done }

kept_as_cancelled : IsKeptAnswer owner (cancelled_book ++ done ∷ []) (replied ticket_remove (Replies.TicketRemoved the_ticket)) Cancelled
unfolding kept_answer opening_of holding_of ending_of
kept_as_cancelled = record { opening = record { job = 1; moment = now; ask = ask }; named = refl; kept = refl }

pub cancelled : MayStep cancelled_book [] now (replied ticket_remove (Replies.TicketRemoved the_ticket)) (Some done) [] (Says.Answer Cancelled) []
cancelled =
    record {
      acts =
          record {
            owner = owner;
            owns_book = refl;
            records = none_sent (OfDss (RecordsAreDue owner (cancelled_book ++ done ∷ [])));
            pair = tt;
            notes = none_sent (OfPeer (NotesAreHeld (cancelled_book ++ done ∷ [])));
            held = tt;
            removals = ((λ e. cc), (λ e. record { reply = Replies.TicketRemoved the_ticket; answers = (refl, refl, refl); removed = tt }));
            tickets = tt;
            ticket_calls = none_sent (OfDss (TicketsAreDue owner (cancelled_book ++ done ∷ [])));
            ticket_removals = none_sent (OfDss (RemovalsAreDue owner (cancelled_book ++ done ∷ [])));
            legal = done_follows;
            final = λ e. kept_as_cancelled;
            cause = refl;
            goes_on = λ e. inl refl;
          };
      keys = tt;
      hears = inl refl;
    }
