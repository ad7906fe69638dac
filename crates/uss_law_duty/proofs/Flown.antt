-- A flight that is held may be changed: flown, and recorded as it strays.
use Rattle.std.proofs.Common.{◌≤◌, ◌≡◌, inl, inr, true, [], ◌∷◌, ◌++◌, refl, ap, sym, arith, codes, Some}
use Rattle.std.proofs.lemmas.Fmt.{decimal_digit}
use Rattle.std.proofs.lemmas.List.Elements.{All-from_recursion}
use Rattle.uss_intent.specs.Identifiers.{ticket_number}
use Rattle.uss_intent.specs.Texts.{IsOvn}
use Rattle.uss_intent.specs.Tags.{tag_of, digits_at_end, number_of_digits}
use Rattle.uss_intent.specs.declared.records.State.TheVariants.{Activated, Nonconforming}
use Rattle.uss_intent.specs.declared.calls.DssAsk.TheVariants as Asks
use Rattle.uss_intent.specs.declared.calls.DssReply.TheVariants as Replies
use Rattle.uss_event.specs.declared.events.Answer.TheVariants.{Changed}
use Rattle.uss_event.specs.declared.events.Said.TheVariants as Says
use Rattle.uss_law_book.specs.Coding.{IsSubscriber, journal_length}
use Rattle.uss_law_book.specs.Contents.{is_open, opening_of, is_held, is_done, trials_of, trial_of, owns, decision_of, holding_of, ending_of, is_job_of, has_ended, holdings_of, holding, is_ticket_open, is_ticket_gone, is_ticket_needed, owed_of, is_sent, unsent}
use Rattle.uss_law_book.specs.Attempts.{Attempted, attempted, attempt_of, put_of}
use Rattle.uss_event.specs.declared.entries.Opening.{Opening}
use Rattle.uss_law_book.specs.Reserve.{need, reserved}
use Rattle.uss_law_book.specs.Legal.{MayTry, MayHold, MayFollow}
use Rattle.uss_law_duty.specs.Duties.{MayStep}
use Rattle.uss_law_duty.specs.Sends.{OfDss, OfPeer, RecordsAreDue, TicketsAreDue, RemovalsAreDue, NotesAreHeld, IsPutOf}
use Rattle.uss_law_duty.specs.Entered.{shown_tag, IsPutWith, HoldsByReply}
use Rattle.uss_law_duty.specs.Answers.{kept_answer}
use Rattle.uss_law_duty.specs.Sayings.{IsKeptAnswer}
use Rattle.uss_law_duty.proofs.Worked.{each_one, none_sent}
use Rattle.uss_law_duty.specs.Worked.{now, owner, volume, proposal, flight, ovn, query, the_reference}
use Rattle.uss_law_duty.specs.Flown.{flown_ask, flown_ticket_book, flown_pending, flown_tried_book, flown_put, flown_ovn, flown_reference, flown_held, changed, flown_book, first_seen, around_it, with_around, straying, strayed_book, strayed_query, strayed_pending, strayed_put, strayed_tried_book, calls, replies_to}

pub room_flown_ticket : reserved (flown_ticket_book) ≤ 536870912
unfolding reserved need journal_length opening_of is_held is_done is_ticket_open is_ticket_gone decision_of unsent owed_of holding_of ending_of is_sent is_ticket_needed
room_flown_ticket = omega arith

pub room_flown_tried : reserved (flown_tried_book) ≤ 536870912
unfolding reserved need journal_length opening_of is_held is_done is_ticket_open is_ticket_gone decision_of unsent owed_of holding_of ending_of is_sent is_ticket_needed
room_flown_tried = omega arith

pub room_flown : reserved (flown_book) ≤ 536870912
unfolding reserved need journal_length opening_of is_held is_done is_ticket_open is_ticket_gone decision_of unsent owed_of holding_of ending_of is_sent is_ticket_needed
room_flown = omega arith

room_strayed : reserved (strayed_book) ≤ 536870912
unfolding reserved need journal_length opening_of is_held is_done is_ticket_open is_ticket_gone decision_of unsent owed_of holding_of ending_of is_sent is_ticket_needed
room_strayed = omega arith

room_strayed_tried : reserved (strayed_tried_book) ≤ 536870912
unfolding reserved need journal_length opening_of is_held is_done is_ticket_open is_ticket_gone decision_of unsent owed_of holding_of ending_of is_sent is_ticket_needed
room_strayed_tried = omega arith

-- the flight is to be flown: the attempt is from what is held
flown_opening : Opening
flown_opening = record { job = 2; moment = now; ask = flown_ask }

may_try_flown : MayTry flown_ticket_book 2 2 0 (Some ovn) []
unfolding opening_of is_held is_done is_ticket_open decision_of trials_of holding holdings_of has_ended is_job_of flown_opening
may_try_flown =
    record {
      opening = flown_opening;
      to = Activated;
      priority = 0;
      rounds = 4;
      proposals = proposal ∷ [];
      unfinished = record { opened = refl; put = refl; unclosed = refl };
      ticket = refl;
      undecided = refl;
      round = omega arith;
      next = refl;
      one_of = omega arith;
      current = refl;
      few = omega arith;
      blind = tt;
    }

pub flown_follows : MayFollow flown_ticket_book flown_pending
flown_follows =
    record {
      first = refl;
      coding = record {
        job_fits = omega arith;
        tag_fits = omega arith;
        alternative_fits = omega arith;
        valid_previous = refl;
        few = omega arith;
        valid_key = All-from_recursion IsOvn [] tt;
      };
      due = may_try_flown;
      room_before = room_flown_ticket;
      room_after = room_flown_tried;
    }

flown_attempt : Attempted
flown_attempt = attempted owner (record { job = 2; moment = now; ask = flown_ask }) (record { job = 2; tag = 2; alternative = 0; previous = Some ovn; key = [] }) Activated 0 proposal

flown_is_found : attempt_of 2 flown_tried_book ≡ Some flown_attempt
unfolding attempt_of trial_of opening_of flown_attempt
flown_is_found = refl

flown_is_open : is_open 2 flown_tried_book ≡ true
unfolding opening_of is_held is_done
flown_is_open = refl

flown_put_is : flown_put ≡ put_of flown_attempt
unfolding flown_attempt
flown_put_is = ap (λ ds. Asks.Put flight (Some ovn) (volume ∷ []) [] Activated (codes "http://uss1.test" ++ codes "/a/" ++ ds) (ticket_number 1 2)) (sym (decimal_digit 2 (omega arith)))

flown_puts : IsPutOf flown_tried_book 2 flown_put
unfolding flown_attempt
flown_puts = record { attempt = flown_attempt; found = flown_is_found; its_job = refl; unfinished = flown_is_open; is = flown_put_is }

pub flies : MayStep flown_ticket_book [] now (replies_to 2 query (Replies.Found (the_reference ∷ []))) (Some flown_pending) (calls 2 flown_put) Says.Nothing []
flies =
    record {
      acts =
          record {
            owner = owner;
            owns_book = refl;
            records = each_one (OfDss (RecordsAreDue owner flown_tried_book)) _ flown_puts;
            pair = tt;
            notes = each_one (OfPeer (NotesAreHeld flown_tried_book)) _ tt;
            held = tt;
            removals = tt;
            tickets = tt;
            ticket_calls = each_one (OfDss (TicketsAreDue owner flown_tried_book)) _ tt;
            ticket_removals = each_one (OfDss (RemovalsAreDue owner flown_tried_book)) _ tt;
            legal = flown_follows;
            final = tt;
            cause = tt;
            goes_on = λ e. inr refl;
          };
      keys = λ a f k o g ovn h. absurd h;
      hears = inl refl;
    }

-- and it landed: the answer is Changed
may_hold_flown : MayHold flown_tried_book 2 2
unfolding owns
may_hold_flown = record { unfinished = flown_is_open; own = refl }

pub flown_held_follows : MayFollow flown_tried_book flown_held
flown_held_follows =
    record {
      first = refl;
      coding = record {
        job_fits = omega arith;
        tag_fits = omega arith;
        valid_ovn = refl;
        version_fits = omega arith;
        valid_owed = (omega arith, All-from_recursion IsSubscriber [] tt);
      };
      due = may_hold_flown;
      room_before = room_flown_tried;
      room_after = room_flown;
    }

flown_tag : shown_tag flown_reference ≡ Some 2
unfolding tag_of digits_at_end number_of_digits
flown_tag = refl

flown_puts_with : IsPutWith flown_tried_book 2 2 flown_put
unfolding flown_attempt
flown_puts_with = record { attempt = flown_attempt; found = flown_is_found; its_job = refl; is = flown_put_is }

holds_flown : HoldsByReply owner flown_tried_book (replies_to 2 flown_put (Replies.Landed flown_reference [])) 2 2 flown_ovn 2
holds_flown =
    record {
      ask = flown_put;
      reply = Replies.Landed flown_reference [];
      reference = flown_reference;
      unfinished = flown_is_open;
      answers = (refl, refl, refl);
      fitting = refl;
      shows = (flown_puts_with, refl);
      tag_is = flown_tag;
      ovn_is = refl;
      version_is = refl;
    }

kept_as_changed : IsKeptAnswer owner flown_book (replies_to 2 flown_put (Replies.Landed flown_reference [])) (Changed flight 2 0 flown_ovn 2)
unfolding kept_answer opening_of holding_of ending_of trial_of
kept_as_changed = record { opening = record { job = 2; moment = now; ask = flown_ask }; named = refl; kept = refl }

pub lands : MayStep flown_tried_book [] now (replies_to 2 flown_put (Replies.Landed flown_reference [])) (Some flown_held) [] changed []
lands =
    record {
      acts =
          record {
            owner = owner;
            owns_book = refl;
            records = none_sent (OfDss (RecordsAreDue owner flown_book));
            pair = tt;
            notes = none_sent (OfPeer (NotesAreHeld flown_book));
            held = holds_flown;
            removals = tt;
            tickets = tt;
            ticket_calls = none_sent (OfDss (TicketsAreDue owner flown_book));
            ticket_removals = none_sent (OfDss (RemovalsAreDue owner flown_book));
            legal = flown_held_follows;
            final = λ e. kept_as_changed;
            cause = refl;
            goes_on = λ e. inl refl;
          };
      keys = tt;
      hears = inl refl;
    }

-- the flight strays: the attempt is of the first alternative, and its key is empty
strayed_opening : Opening
strayed_opening = record { job = 3; moment = first_seen; ask = straying 3 }

may_try_strayed : MayTry strayed_book 3 3 0 (Some flown_ovn) []
unfolding opening_of is_held is_done is_ticket_open decision_of trials_of holding holdings_of has_ended is_job_of strayed_opening
may_try_strayed =
    record {
      opening = strayed_opening;
      to = Nonconforming;
      priority = 0;
      rounds = 1;
      proposals = with_around ∷ [];
      unfinished = record { opened = refl; put = refl; unclosed = refl };
      ticket = refl;
      undecided = refl;
      round = omega arith;
      next = refl;
      one_of = omega arith;
      current = refl;
      few = omega arith;
      blind = (refl, refl);
    }

pub strayed_follows : MayFollow strayed_book strayed_pending
strayed_follows =
    record {
      first = refl;
      coding = record {
        job_fits = omega arith;
        tag_fits = omega arith;
        alternative_fits = omega arith;
        valid_previous = refl;
        few = omega arith;
        valid_key = All-from_recursion IsOvn [] tt;
      };
      due = may_try_strayed;
      room_before = room_strayed;
      room_after = room_strayed_tried;
    }

strayed_attempt : Attempted
strayed_attempt = attempted owner (record { job = 3; moment = first_seen; ask = straying 3 }) (record { job = 3; tag = 3; alternative = 0; previous = Some flown_ovn; key = [] }) Nonconforming 0 with_around

strayed_is_found : attempt_of 3 strayed_tried_book ≡ Some strayed_attempt
unfolding attempt_of trial_of opening_of strayed_attempt
strayed_is_found = refl

strayed_is_open : is_open 3 strayed_tried_book ≡ true
unfolding opening_of is_held is_done
strayed_is_open = refl

strayed_put_is : strayed_put ≡ put_of strayed_attempt
unfolding strayed_attempt
strayed_put_is = ap (λ ds. Asks.Put flight (Some flown_ovn) (volume ∷ around_it ∷ []) [] Nonconforming (codes "http://uss1.test" ++ codes "/a/" ++ ds) (ticket_number 1 3)) (sym (decimal_digit 3 (omega arith)))

strayed_puts : IsPutOf strayed_tried_book 3 strayed_put
unfolding strayed_attempt
strayed_puts = record { attempt = strayed_attempt; found = strayed_is_found; its_job = refl; unfinished = strayed_is_open; is = strayed_put_is }

pub strays : MayStep strayed_book [] first_seen (replies_to 3 strayed_query (Replies.Found (flown_reference ∷ []))) (Some strayed_pending) (calls 3 strayed_put) Says.Nothing []
strays =
    record {
      acts =
          record {
            owner = owner;
            owns_book = refl;
            records = each_one (OfDss (RecordsAreDue owner strayed_tried_book)) _ strayed_puts;
            pair = tt;
            notes = each_one (OfPeer (NotesAreHeld strayed_tried_book)) _ tt;
            held = tt;
            removals = tt;
            tickets = tt;
            ticket_calls = each_one (OfDss (TicketsAreDue owner strayed_tried_book)) _ tt;
            ticket_removals = each_one (OfDss (RemovalsAreDue owner strayed_tried_book)) _ tt;
            legal = strayed_follows;
            final = tt;
            cause = tt;
            goes_on = λ e. inr refl;
          };
      keys = λ a f k o g ovn h. absurd h;
      hears = inl refl;
    }
