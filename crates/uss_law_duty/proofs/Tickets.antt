-- A ticket that may still be cited, and one that isn't needed any more.
use Rattle.std.proofs.Common.{◌≤◌, inl, inr, [], ◌∷◌, ◌++◌, refl, arith, Some, None}
use Rattle.uss_intent.specs.declared.calls.DssReply.TheVariants as Replies
use Rattle.uss_intent.specs.declared.calls.DssRefusal.TheVariants as Refuses
use Rattle.uss_event.specs.declared.entries.Entry.TheVariants as Enters
use Rattle.uss_event.specs.declared.events.Event.TheVariants as Comes
use Rattle.uss_event.specs.declared.events.Said.TheVariants as Says
use Rattle.uss_law_book.specs.Coding.{journal_length}
use Rattle.uss_law_book.specs.Contents.{opening_of, is_held, is_done, decision_of, holding_of, ending_of, is_job_of, has_ended, is_ticket_open, is_ticket_gone, is_ticket_needed, owed_of, is_sent, unsent}
use Rattle.uss_law_book.specs.Reserve.{need, reserved}
use Rattle.uss_law_book.specs.Legal.{MayRetire, MayFollow}
use Rattle.uss_law_duty.specs.Duties.{MayStep, GoesOn}
use Rattle.uss_law_duty.specs.Sends.{OfDss, OfPeer, RecordsAreDue, TicketsAreDue, RemovalsAreDue, NotesAreHeld, IsTicketRemoveOf}
use Rattle.uss_law_duty.proofs.Worked.{each_one, none_sent}
use Rattle.uss_law_duty.specs.Worked.{now, owner, cancelled_book, ending_book, end_done, sends, replied, ticket_remove, get, the_ticket}

-- the ticket of a job that decided is cited: what is recorded is asked for
pub in_use : MayStep cancelled_book [] now (replied ticket_remove (Replies.Refused Refuses.TicketInUse)) None (sends get) Says.Nothing []
in_use =
    record {
      acts =
          record {
            owner = owner;
            owns_book = refl;
            records = each_one (OfDss (RecordsAreDue owner cancelled_book)) _ tt;
            pair = tt;
            notes = each_one (OfPeer (NotesAreHeld cancelled_book)) _ tt;
            held = tt;
            removals = tt;
            tickets = tt;
            ticket_calls = each_one (OfDss (TicketsAreDue owner cancelled_book)) _ tt;
            ticket_removals = each_one (OfDss (RemovalsAreDue owner cancelled_book)) _ tt;
            legal = tt;
            final = tt;
            cause = tt;
            goes_on = λ e. inr refl;
          };
      keys = tt;
      hears = inl refl;
    }

-- the flight has ended, so that the ticket of the job that planned it isn't needed
unneeded : IsTicketRemoveOf owner (ending_book ++ end_done ∷ []) 1 ticket_remove
unfolding opening_of is_held is_done is_ticket_open is_ticket_needed has_ended is_job_of
unneeded = record { is = refl; heard_open = refl; may = inr (refl, refl) }

pub takes_out : MayStep (ending_book ++ end_done ∷ []) [] now (Comes.Sweep 0) None (sends ticket_remove) Says.Nothing []
takes_out =
    record {
      acts =
          record {
            owner = owner;
            owns_book = refl;
            records = each_one (OfDss (RecordsAreDue owner (ending_book ++ end_done ∷ []))) _ tt;
            pair = tt;
            notes = each_one (OfPeer (NotesAreHeld (ending_book ++ end_done ∷ []))) _ tt;
            held = tt;
            removals = tt;
            tickets = tt;
            ticket_calls = each_one (OfDss (TicketsAreDue owner (ending_book ++ end_done ∷ []))) _ tt;
            ticket_removals = each_one (OfDss (RemovalsAreDue owner (ending_book ++ end_done ∷ []))) _ unneeded;
            legal = tt;
            final = tt;
            cause = tt;
            goes_on = λ e. cc;
          };
      keys = tt;
      hears = inl refl;
    }

room_ended : reserved (ending_book ++ end_done ∷ []) ≤ 536870912
unfolding reserved need journal_length opening_of is_held is_done is_ticket_open is_ticket_gone decision_of unsent owed_of holding_of ending_of is_sent is_ticket_needed
room_ended = omega arith

room_gone : reserved (ending_book ++ end_done ∷ Enters.TicketGone 1 ∷ []) ≤ 536870912
unfolding reserved need journal_length opening_of is_held is_done is_ticket_open is_ticket_gone decision_of unsent owed_of holding_of ending_of is_sent is_ticket_needed
room_gone = omega arith

may_retire : MayRetire (ending_book ++ end_done ∷ []) 1
unfolding opening_of is_held is_done is_ticket_open is_ticket_gone is_ticket_needed has_ended is_job_of decision_of
may_retire = record { put = refl; closed = refl; heard_open = refl; not_gone = refl; unneeded = refl }

pub gone_follows : MayFollow (ending_book ++ end_done ∷ []) (Enters.TicketGone 1)
gone_follows = record { first = refl; coding = omega arith; due = may_retire; room_before = room_ended; room_after = room_gone }

not_awaited : GoesOn (replied ticket_remove (Replies.TicketRemoved the_ticket)) (ending_book ++ end_done ∷ []) [] Says.Nothing
unfolding is_held is_done opening_of
not_awaited e = cc

pub gone : MayStep (ending_book ++ end_done ∷ []) [] now (replied ticket_remove (Replies.TicketRemoved the_ticket)) (Some (Enters.TicketGone 1)) [] Says.Nothing []
gone =
    record {
      acts =
          record {
            owner = owner;
            owns_book = refl;
            records = none_sent (OfDss (RecordsAreDue owner (ending_book ++ end_done ∷ Enters.TicketGone 1 ∷ [])));
            pair = tt;
            notes = none_sent (OfPeer (NotesAreHeld (ending_book ++ end_done ∷ Enters.TicketGone 1 ∷ [])));
            held = tt;
            removals = record { reply = Replies.TicketRemoved the_ticket; answers = (refl, refl, refl); removed = tt };
            tickets = tt;
            ticket_calls = none_sent (OfDss (TicketsAreDue owner (ending_book ++ end_done ∷ Enters.TicketGone 1 ∷ [])));
            ticket_removals = none_sent (OfDss (RemovalsAreDue owner (ending_book ++ end_done ∷ Enters.TicketGone 1 ∷ [])));
            legal = gone_follows;
            final = tt;
            cause = tt;
            goes_on = not_awaited;
          };
      keys = tt;
      hears = inl refl;
    }
