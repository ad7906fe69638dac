-- The worked run of two suppliers that want one volume is free, and computes.
use Rattle.std.proofs.Common.{◌≤◌, ◌≡◌, inl, inr, true, [], ◌∷◌, ◌++◌, refl, ap, sym, arith, codes, Some, None}
use Rattle.std.proofs.lemmas.Fmt.{decimal_digit}
use Rattle.std.proofs.lemmas.List.Elements.{All-from_recursion}
use Rattle.url.proofs.OnLiterals.{url_on_literals}
use Rattle.uss_shape.specs.Shape.{bounds_of}
use Rattle.uss_shape.specs.Overlap.{outlines_meet, region_holds_first, region_holds}
use Rattle.uss_vol4.specs.Bounding.{bounding_box}
use Rattle.uss_vol4.specs.Sharing.{shares, any_shares}
use Rattle.uss_intent.specs.Texts.{is_base}
use Rattle.uss_intent.specs.Tags.{tag_of, number_of_digits, digits_at_end}
use Rattle.uss_intent.specs.declared.records.State.TheVariants.{Accepted}
use Rattle.uss_intent.specs.declared.calls.DssAsk.TheVariants as Asks
use Rattle.uss_intent.specs.declared.calls.DssReply.TheVariants as Replies
use Rattle.uss_event.specs.declared.calls.PeerReply.TheVariants as Peers
use Rattle.uss_event.specs.declared.events.Answer.TheVariants.{Planned}
use Rattle.uss_event.specs.declared.events.Said.TheVariants as Says
use Rattle.uss_event.specs.declared.events.Event.TheVariants as Comes
use Rattle.uss_law_dss.specs.Service.{ovn_of, lies_in}
use Rattle.uss_law_book.specs.Coding.{IsSubscriber, journal_length}
use Rattle.uss_law_book.specs.Contents.{is_open, opening_of, is_held, is_done, trials_of, trial_of, decision_of, holding_of, ending_of, is_job_of, has_ended, holdings_of, holding, is_ticket_open, is_ticket_gone, owed_of, is_sent, unsent}
use Rattle.uss_law_book.specs.Attempts.{Attempted, attempted, attempt_of, put_of, held}
use Rattle.uss_law_book.specs.Reserve.{need, reserved}
use Rattle.uss_law_book.specs.Legal.{MayDecide, MayEnd, MayFollow}
use Rattle.uss_law_duty.specs.Duties.{MayStep, clamped}
use Rattle.uss_law_duty.specs.Sends.{OfDss, OfPeer, RecordsAreDue, TicketsAreDue, RemovalsAreDue, NotesAreHeld, IsTicketRemoveOf}
use Rattle.uss_law_duty.specs.Entered.{shown_tag, IsPutWith, HoldsByReply}
use Rattle.uss_law_duty.specs.Answers.{kept_answer}
use Rattle.uss_law_duty.specs.Sayings.{IsKeptAnswer}
use Rattle.uss_law_duty.specs.Worked.{now, owner, volume, proposal, ask, flight, ticket, ovn, tried_book, sends, replied, put, query, the_reference, planned, held_pair}
use Rattle.uss_law_duty.proofs.Worked.{each_one, none_sent, recorded_follows}
use Rattle.uss_law_duty.proofs.Worked as May
use Rattle.uss_law_world.specs.World.{supplier_in, start}
use Rattle.uss_law_world.specs.Moves.{run}
use Rattle.uss_law_world.specs.Free.{IsFree}
use Rattle.uss_law_world.specs.Worked.{said_in, replies_in, second, second_tried_book, hidden}
use Rattle.uss_law_world.specs.Contested.{second_subscriber, landed_notifying, recorded_owing, owing_book, details, asks_details, heard_first, in_conflict, conflict, deciding, second_deciding_book, done, second_ticket_remove, notified_ticket, given_up, given_up_replies, given_up_sayings}
use Rattle.uss_law_world.proofs.Second as Second

-- the first supplier enters what landed

room_owing : reserved owing_book ≤ 536870912
unfolding reserved need journal_length opening_of is_held is_done is_ticket_open is_ticket_gone decision_of unsent owed_of holding_of ending_of is_sent
room_owing = omega arith

second_base : is_base second_subscriber.base ≡ true
unfolding url_on_literals
second_base = refl

valid_second : IsSubscriber second_subscriber
valid_second = record { base = second_base; ticket = omega arith; index = omega arith }

owing_follows : MayFollow tried_book recorded_owing
owing_follows =
    record {
      first = refl;
      coding = record {
        job_fits = omega arith;
        tag_fits = omega arith;
        valid_ovn = refl;
        version_fits = omega arith;
        valid_owed = (omega arith, All-from_recursion IsSubscriber (second_subscriber ∷ []) (valid_second, tt));
      };
      due = recorded_follows.due;
      room_before = recorded_follows.room_before;
      room_after = room_owing;
    }

the_attempt : Attempted
the_attempt = attempted owner (record { job = 1; moment = now; ask = ask }) (record { job = 1; tag = 1; alternative = 0; previous = None; key = [] }) Accepted 0 proposal

attempt_is_found : attempt_of 1 tried_book ≡ Some the_attempt
unfolding attempt_of trial_of opening_of the_attempt
attempt_is_found = refl

is_open_still : is_open 1 tried_book ≡ true
unfolding opening_of is_held is_done
is_open_still = refl

its_put : put ≡ put_of the_attempt
unfolding the_attempt
its_put = ap (λ ds. Asks.Put flight None (volume ∷ []) [] Accepted (codes "http://uss1.test" ++ codes "/a/" ++ ds) ticket) (sym (decimal_digit 1 (omega arith)))

its_job_is : the_attempt.job ≡ 1
unfolding the_attempt
its_job_is = refl

its_tag : shown_tag the_reference ≡ Some 1
unfolding tag_of digits_at_end number_of_digits
its_tag = refl

puts_with : IsPutWith tried_book 1 1 put
puts_with = record { attempt = the_attempt; found = attempt_is_found; its_job = its_job_is; is = its_put }

holds_by_landing : HoldsByReply owner tried_book (replied put landed_notifying) 1 1 ovn 1
holds_by_landing =
    record {
      ask = put;
      reply = landed_notifying;
      reference = the_reference;
      unfinished = is_open_still;
      answers = (refl, refl, refl);
      fitting = refl;
      shows = (puts_with, refl);
      tag_is = its_tag;
      ovn_is = refl;
      version_is = refl;
    }

kept_as_planned : IsKeptAnswer owner owing_book (replied put landed_notifying) (Planned flight 1 0 ovn 1)
unfolding kept_answer opening_of holding_of ending_of trial_of
kept_as_planned = record { opening = record { job = 1; moment = now; ask = ask }; named = refl; kept = refl }

pub landed : MayStep tried_book [] now (replied put landed_notifying) (Some recorded_owing) [] planned []
landed =
    record {
      acts =
          record {
            owner = owner;
            owns_book = refl;
            records = none_sent (OfDss (RecordsAreDue owner owing_book));
            pair = tt;
            notes = none_sent (OfPeer (NotesAreHeld owing_book));
            held = holds_by_landing;
            removals = tt;
            tickets = tt;
            ticket_calls = none_sent (OfDss (TicketsAreDue owner owing_book));
            ticket_removals = none_sent (OfDss (RemovalsAreDue owner owing_book));
            legal = owing_follows;
            final = λ e. kept_as_planned;
            cause = refl;
            goes_on = λ e. inl refl;
          };
      keys = tt;
      hears = inl refl;
    }

-- and serves it

is_held_now : held 1 owing_book ≡ Some held_pair
unfolding held holding holdings_of has_ended is_job_of opening_of attempt_of trial_of
is_held_now = refl

serves : MayStep owing_book [] now (Comes.Details (codes "uss2") flight) None [] (Says.Pair (Some held_pair)) []
serves =
    record {
      acts =
          record {
            owner = owner;
            owns_book = refl;
            records = none_sent (OfDss (RecordsAreDue owner owing_book));
            pair = record { flight = 1; is = is_held_now };
            notes = none_sent (OfPeer (NotesAreHeld owing_book));
            held = tt;
            removals = tt;
            tickets = tt;
            ticket_calls = none_sent (OfDss (TicketsAreDue owner owing_book));
            ticket_removals = none_sent (OfDss (RemovalsAreDue owner owing_book));
            legal = tt;
            final = tt;
            cause = tt;
            goes_on = λ e. inl refl;
          };
      keys = tt;
      hears = inl refl;
    }

-- the second supplier asks for the details

finds : MayStep second_tried_book [] now (replied query (Replies.Found (hidden ∷ []))) None asks_details Says.Nothing []
finds =
    record {
      acts =
          record {
            owner = second;
            owns_book = refl;
            records = each_one (OfDss (RecordsAreDue second second_tried_book)) _ tt;
            pair = tt;
            notes = each_one (OfPeer (NotesAreHeld second_tried_book)) _ tt;
            held = tt;
            removals = tt;
            tickets = tt;
            ticket_calls = each_one (OfDss (TicketsAreDue second second_tried_book)) _ tt;
            ticket_removals = each_one (OfDss (RemovalsAreDue second second_tried_book)) _ tt;
            legal = tt;
            final = tt;
            cause = tt;
            goes_on = λ e. inr refl;
          };
      keys = tt;
      hears = inl refl;
    }

-- decides to give up

room_tried : reserved second_tried_book ≤ 536870912
unfolding reserved need journal_length opening_of is_held is_done is_ticket_open is_ticket_gone decision_of unsent owed_of holding_of ending_of is_sent
room_tried = omega arith

room_deciding : reserved second_deciding_book ≤ 536870912
unfolding reserved need journal_length opening_of is_held is_done is_ticket_open is_ticket_gone decision_of unsent owed_of holding_of ending_of is_sent
room_deciding = omega arith

room_done : reserved (second_deciding_book ++ done ∷ []) ≤ 536870912
unfolding reserved need journal_length opening_of is_held is_done is_ticket_open is_ticket_gone decision_of unsent owed_of holding_of ending_of is_sent
room_done = omega arith

may_decide : MayDecide second_tried_book 1 in_conflict
unfolding opening_of is_held is_done decision_of trials_of
may_decide =
    record {
      opening = record { job = 1; moment = now; ask = ask };
      to = Accepted;
      priority = 0;
      rounds = 4;
      proposals = proposal ∷ [];
      unfinished = record { opened = refl; put = refl; unclosed = refl };
      tried = omega arith;
      undecided = refl;
      so = tt;
    }

deciding_follows : MayFollow second_tried_book deciding
deciding_follows = record { first = refl; coding = (omega arith, (omega arith, refl, tt)); due = may_decide; room_before = room_tried; room_after = room_deciding }

removes_ticket : IsTicketRemoveOf second second_deciding_book 1 second_ticket_remove
unfolding opening_of is_held is_done decision_of is_ticket_open
removes_ticket = record { is = refl; heard_open = refl; may = inl (refl, refl) }

blocked : MayStep second_tried_book [] now (Comes.Peer details (Peers.Served held_pair)) (Some deciding) (sends second_ticket_remove) Says.Nothing heard_first
blocked =
    record {
      acts =
          record {
            owner = second;
            owns_book = refl;
            records = each_one (OfDss (RecordsAreDue second second_deciding_book)) _ tt;
            pair = tt;
            notes = each_one (OfPeer (NotesAreHeld second_deciding_book)) _ tt;
            held = tt;
            removals = tt;
            tickets = tt;
            ticket_calls = each_one (OfDss (TicketsAreDue second second_deciding_book)) _ tt;
            ticket_removals = each_one (OfDss (RemovalsAreDue second second_deciding_book)) _ removes_ticket;
            legal = deciding_follows;
            final = tt;
            cause = tt;
            goes_on = λ e. inr refl;
          };
      keys = tt;
      hears = inr refl;
    }

-- and ends so once its ticket is gone

may_end : MayEnd second_deciding_book 1 in_conflict
unfolding opening_of is_held is_done decision_of trials_of
may_end = record { opening = record { job = 1; moment = now; ask = ask }; opened = refl; unclosed = refl; wish = inl refl }

done_follows : MayFollow second_deciding_book done
done_follows = record { first = refl; coding = (omega arith, (omega arith, refl, tt)); due = may_end; room_before = room_deciding; room_after = room_done }

kept_as_conflict : IsKeptAnswer second (second_deciding_book ++ done ∷ []) (replied second_ticket_remove (Replies.TicketRemoved notified_ticket)) conflict
unfolding kept_answer opening_of holding_of ending_of
kept_as_conflict = record { opening = record { job = 1; moment = now; ask = ask }; named = refl; kept = refl }

gives_up : MayStep second_deciding_book heard_first now (replied second_ticket_remove (Replies.TicketRemoved notified_ticket)) (Some done) [] (Says.Answer conflict) heard_first
gives_up =
    record {
      acts =
          record {
            owner = second;
            owns_book = refl;
            records = none_sent (OfDss (RecordsAreDue second (second_deciding_book ++ done ∷ [])));
            pair = tt;
            notes = none_sent (OfPeer (NotesAreHeld (second_deciding_book ++ done ∷ [])));
            held = tt;
            removals = ((λ e. cc), (λ e. record { reply = Replies.TicketRemoved notified_ticket; answers = (refl, refl, refl); removed = tt }));
            tickets = tt;
            ticket_calls = none_sent (OfDss (TicketsAreDue second (second_deciding_book ++ done ∷ [])));
            ticket_removals = none_sent (OfDss (RemovalsAreDue second (second_deciding_book ++ done ∷ [])));
            legal = done_follows;
            final = λ e. kept_as_conflict;
            cause = refl;
            goes_on = λ e. inl refl;
          };
      keys = tt;
      hears = inl refl;
    }

-- the run

pub given_up_replied : replies_in (run (start (owner ∷ second ∷ [])) given_up) ≡ given_up_replies
unfolding bounds_of outlines_meet region_holds_first region_holds bounding_box shares any_shares tag_of number_of_digits digits_at_end ovn_of lies_in supplier_in clamped opening_of
given_up_replied = refl

pub given_up_said : said_in (run (start (owner ∷ second ∷ [])) given_up) ≡ given_up_sayings
unfolding bounds_of outlines_meet region_holds_first region_holds bounding_box shares any_shares tag_of number_of_digits digits_at_end ovn_of lies_in supplier_in clamped opening_of
given_up_said = refl

pub given_up_is_free : IsFree (start (owner ∷ second ∷ [])) given_up
unfolding bounds_of outlines_meet region_holds_first region_holds bounding_box shares any_shares tag_of number_of_digits digits_at_end ovn_of lies_in supplier_in clamped opening_of
given_up_is_free = (tt, (May.asking, (Second.asking, (tt, (tt, (May.ticket_made, (Second.ticket_made, (tt, (tt, (May.nothing_found, (Second.nothing_found, (tt, (tt, (Second.lacked, (tt, (landed, (finds, (serves, (blocked, (tt, (gives_up, tt)))))))))))))))))))))
