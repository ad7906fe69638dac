-- Steps of the further worked runs are allowed: a kept answer is given again, a ticket that isn't needed is taken out, another's landing is
-- noted, and a sweep may have nothing to do.
use Rattle.std.proofs.Common.{ℤ, ◌≤◌, ◌≡◌, inl, inr, List, [], ◌∷◌, refl, arith, codes, Some, None}
use Rattle.uss_intent.specs.declared.calls.DssReply.TheVariants as Replies
use Rattle.uss_event.specs.declared.entries.Owner.{Owner}
use Rattle.uss_event.specs.declared.entries.Entry.{Entry}
use Rattle.uss_event.specs.declared.events.Said.{Said}
use Rattle.uss_event.specs.declared.events.Said.TheVariants as Says
use Rattle.uss_event.specs.declared.events.Event.{Event}
use Rattle.uss_event.specs.declared.events.Event.TheVariants as Comes
use Rattle.uss_event.specs.declared.events.Answer.TheVariants.{Planned}
use Rattle.uss_law_book.specs.Lists.{owner_of}
use Rattle.uss_law_book.specs.Coding.{journal_length}
use Rattle.uss_law_book.specs.Contents.{opening_of, is_held, is_done, trial_of, decision_of, holding_of, ending_of, has_ended, is_ticket_open, is_ticket_gone, is_ticket_needed, is_job_of, owed_of, is_sent, unsent}
use Rattle.uss_law_book.specs.Reserve.{need, reserved}
use Rattle.uss_law_book.specs.Legal.{MayRetire, MayFollow}
use Rattle.uss_event.specs.Heard.{News}
use Rattle.uss_event.specs.Heard.News.{Heard}
use Rattle.uss_law_duty.specs.Answers.{kept_answer, job_of_request}
use Rattle.uss_law_duty.specs.Sends.{OfDss, OfPeer, RecordsAreDue, TicketsAreDue, RemovalsAreDue, NotesAreHeld, IsTicketRemoveOf}
use Rattle.uss_law_duty.specs.Sayings.{PairIsHeld, FinalIsKept, SayingHasCause, IsKeptAnswer}
use Rattle.uss_law_duty.specs.Duties.{MayStep, HearsOnly, GoesOn}
use Rattle.uss_law_duty.specs.Worked.{now, owner, ask, flight, ovn, held_book, planned, ticket_remove, the_ticket, sends, replied, held_pair, note}
use Rattle.uss_law_duty.proofs.Worked.{each_one, none_sent}
use Rattle.uss_law_world.specs.Worked.{second, second_asked_book}
use Rattle.uss_law_world.specs.WorkedEnds.{ended_book, ticket_gone, gone_book}
use Rattle.uss_law_world.specs.WorkedSweeps.{notifying_book}

-- a step that enters and sends nothing
says_only : (o : Owner) (book : List Entry) (heard : List News) (moment : ℤ) (event : Event) (said : Said) (after : List News) → owner_of book ≡ Some o → PairIsHeld book said → FinalIsKept o book event said
    → SayingHasCause o book moment event said → GoesOn event book [] said → HearsOnly heard event after → MayStep book heard moment event None [] said after
says_only o book heard moment event said after owns pair final cause goes_on hears =
    record {
      acts =
          record {
            owner = o;
            owns_book = owns;
            records = none_sent (OfDss (RecordsAreDue o book));
            pair = pair;
            notes = none_sent (OfPeer (NotesAreHeld book));
            held = tt;
            removals = tt;
            tickets = tt;
            ticket_calls = none_sent (OfDss (TicketsAreDue o book));
            ticket_removals = none_sent (OfDss (RemovalsAreDue o book));
            legal = tt;
            final = final;
            cause = cause;
            goes_on = goes_on;
          };
      keys = tt;
      hears = hears;
    }

-- the kept answer
kept_as_planned : IsKeptAnswer owner held_book (Comes.Ask ask) (Planned flight 1 0 ovn 1)
unfolding kept_answer job_of_request opening_of holding_of ending_of trial_of
kept_as_planned = record { opening = record { job = 1; moment = now; ask = ask }; named = refl; kept = refl }

pub answers_again : MayStep held_book [] now (Comes.Ask ask) None [] planned []
answers_again = says_only owner held_book [] now (Comes.Ask ask) planned [] refl tt (λ e. kept_as_planned) refl (λ e. inl refl) (inl refl)

-- the ticket of an ended flight
room_ended : reserved ended_book ≤ 536870912
unfolding reserved need journal_length opening_of is_held is_done is_ticket_open is_ticket_gone decision_of unsent owed_of holding_of ending_of is_sent
room_ended = omega arith

room_gone : reserved gone_book ≤ 536870912
unfolding reserved need journal_length opening_of is_held is_done is_ticket_open is_ticket_gone decision_of unsent owed_of holding_of ending_of is_sent
room_gone = omega arith

may_retire : MayRetire ended_book 1
unfolding opening_of is_held is_done is_ticket_open is_ticket_gone decision_of is_ticket_needed has_ended is_job_of
may_retire = record { put = refl; closed = refl; heard_open = refl; not_gone = refl; unneeded = refl }

gone_follows : MayFollow ended_book ticket_gone
gone_follows = record { first = refl; coding = omega arith; due = may_retire; room_before = room_ended; room_after = room_gone }

removes_ticket : IsTicketRemoveOf owner ended_book 1 ticket_remove
removes_ticket = record { is = refl; heard_open = may_retire.heard_open; may = inr (may_retire.closed, may_retire.unneeded) }

pub retires : MayStep ended_book [] now (Comes.Sweep 0) None (sends ticket_remove) Says.Nothing []
retires =
    record {
      acts =
          record {
            owner = owner;
            owns_book = refl;
            records = each_one (OfDss (RecordsAreDue owner ended_book)) _ tt;
            pair = tt;
            notes = each_one (OfPeer (NotesAreHeld ended_book)) _ tt;
            held = tt;
            removals = tt;
            tickets = tt;
            ticket_calls = each_one (OfDss (TicketsAreDue owner ended_book)) _ tt;
            ticket_removals = each_one (OfDss (RemovalsAreDue owner ended_book)) _ removes_ticket;
            legal = tt;
            final = tt;
            cause = tt;
            goes_on = λ e. cc;
          };
      keys = tt;
      hears = inl refl;
    }

not_awaited : GoesOn (replied ticket_remove (Replies.TicketRemoved the_ticket)) ended_book [] Says.Nothing
unfolding is_held is_done opening_of
not_awaited e = cc

pub retired : MayStep ended_book [] now (replied ticket_remove (Replies.TicketRemoved the_ticket)) (Some ticket_gone) [] Says.Nothing []
retired =
    record {
      acts =
          record {
            owner = owner;
            owns_book = refl;
            records = none_sent (OfDss (RecordsAreDue owner gone_book));
            pair = tt;
            notes = none_sent (OfPeer (NotesAreHeld gone_book));
            held = tt;
            removals = record { reply = Replies.TicketRemoved the_ticket; answers = (refl, refl, refl); removed = tt };
            tickets = tt;
            ticket_calls = none_sent (OfDss (TicketsAreDue owner gone_book));
            ticket_removals = none_sent (OfDss (RemovalsAreDue owner gone_book));
            legal = gone_follows;
            final = tt;
            cause = tt;
            goes_on = not_awaited;
          };
      keys = tt;
      hears = inl refl;
    }

-- a sweep with nothing to do
pub rests_then : MayStep gone_book [] now (Comes.Sweep 0) None [] Says.Nothing []
rests_then = says_only owner gone_book [] now (Comes.Sweep 0) Says.Nothing [] refl tt tt tt (λ e. cc) (inl refl)

pub rests : MayStep notifying_book [] now (Comes.Sweep 0) None [] Says.Nothing []
rests = says_only owner notifying_book [] now (Comes.Sweep 0) Says.Nothing [] refl tt tt tt (λ e. cc) (inl refl)

-- the second supplier hears of the first's landing
pub notes : MayStep second_asked_book [] now (Comes.Notified (codes "uss1") note) None [] Says.Noted (Heard held_pair ∷ [])
notes = says_only second second_asked_book [] now (Comes.Notified (codes "uss1") note) Says.Noted (Heard held_pair ∷ []) refl tt tt tt (λ e. cc) (inr refl)
