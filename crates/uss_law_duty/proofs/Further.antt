-- An attempt with a key, a pair that is served, and the end of a flight are allowed.
use Rattle.std.proofs.Common.{ℕ, ◌≤◌, ◌≡◌, inl, inr, true, List, [], ◌∷◌, ◌++◌, refl, ap, sym, ◌∙◌, subst, arith, codes, is_some, Some, None}
use Rattle.std.proofs.lemmas.Fmt.{decimal_digit}
use Rattle.std.proofs.lemmas.List.Elements.{All-from_recursion}
use Rattle.uss_intent.specs.declared.records.State.TheVariants.{Accepted}
use Rattle.uss_intent.specs.Texts.{IsOvn}
use Rattle.uss_intent.specs.declared.calls.DssAsk.TheVariants as Asks
use Rattle.uss_intent.specs.declared.calls.DssReply.TheVariants as Replies
use Rattle.uss_event.specs.declared.entries.Ending.TheVariants as Ends
use Rattle.uss_event.specs.declared.events.Answer.TheVariants.{Ended}
use Rattle.uss_event.specs.declared.calls.PeerReply.TheVariants as Peers
use Rattle.uss_event.specs.declared.rules.Verdict.TheVariants.{Clear}
use Rattle.uss_event.specs.Verdicts.{verdict}
use Rattle.uss_vol4.specs.Sharing.{any_shares, shares}
use Rattle.uss_event.specs.declared.events.Said.TheVariants as Says
use Rattle.uss_event.specs.declared.events.Event.TheVariants as Comes
use Rattle.uss_law_dss.specs.Lists.{Has}
use Rattle.uss_law_dss.proofs.Tests.{some_same}
use Rattle.uss_law_book.specs.Coding.{IsSubscriber, journal_length}
use Rattle.uss_law_book.specs.Contents.{is_open, opening_of, is_held, is_done, trials_of, trial_of, decision_of, holding_of, ending_of, jobs_of, open_job_of, last_of, is_job_of, has_ended, holdings_of, holding, is_ticket_open, is_ticket_gone, owed_of, is_sent, unsent}
use Rattle.uss_law_book.specs.Attempts.{Attempted, attempted, attempt_of, held, held_state}
use Rattle.uss_event.specs.declared.entries.Opening.{Opening}
use Rattle.uss_law_book.specs.Reserve.{need, reserved}
use Rattle.uss_law_book.specs.Legal.{MayOpen, MayTry, MayEnd, MayFollow}
use Rattle.uss_law_duty.proofs.Worked.{each_one, none_sent, room_ticket, room_held}
use Rattle.uss_law_duty.specs.Duties.{MayStep}
use Rattle.uss_law_duty.specs.Worked.{other_ovn, other_pair, keyed, keyed_put, keyed_book, details_of_other, held_pair, end_ask, end_opened, ending_book, remove, end_sends, end_replied, end_done, now, owner, volume, proposal, ask, flight, ticket, ovn, ticket_book, held_book, sends, the_reference}
use Rattle.uss_law_duty.specs.Sends.{OfDss, OfPeer, RecordsAreDue, TicketsAreDue, RemovalsAreDue, NotesAreHeld, IsPutOf, IsRemoveOf}
use Rattle.uss_event.specs.Heard.News.{Heard}
use Rattle.uss_law_duty.specs.Entered.{candidate_of, KeyIsClear, IsClearOvn, LosesByReply}
use Rattle.uss_law_duty.specs.Answers.{kept_answer}
use Rattle.uss_law_duty.specs.Sayings.{IsKeptAnswer}

room_keyed : reserved (keyed_book) ≤ 536870912
unfolding reserved need journal_length opening_of is_held is_done is_ticket_open is_ticket_gone decision_of unsent owed_of holding_of ending_of is_sent
room_keyed = omega arith

room_ending : reserved (ending_book) ≤ 536870912
unfolding reserved need journal_length opening_of is_held is_done is_ticket_open is_ticket_gone decision_of unsent owed_of holding_of ending_of is_sent
room_ending = omega arith

room_end_done : reserved (ending_book ++ end_done ∷ []) ≤ 536870912
unfolding reserved need journal_length opening_of is_held is_done is_ticket_open is_ticket_gone decision_of unsent owed_of holding_of ending_of is_sent
room_end_done = omega arith

the_opening : Opening
the_opening = record { job = 1; moment = now; ask = ask }

may_try_keyed : MayTry ticket_book 1 1 0 None (other_ovn ∷ [])
unfolding opening_of is_held is_done is_ticket_open decision_of trials_of holding holdings_of has_ended the_opening
may_try_keyed =
    record {
      opening = the_opening;
      to = Accepted;
      priority = 0;
      rounds = 4;
      proposals = proposal ∷ [];
      unfinished = record { opened = refl; put = refl; unclosed = refl };
      ticket = refl;
      undecided = refl;
      round = omega arith;
      next = refl;
      one_of = omega arith;
      current = refl;
      few = omega arith;
      blind = tt;
    }

pub keyed_follows : MayFollow ticket_book keyed
keyed_follows =
    record {
      first = refl;
      coding = record {
        job_fits = omega arith;
        tag_fits = omega arith;
        alternative_fits = omega arith;
        valid_previous = tt;
        few = omega arith;
        valid_key = All-from_recursion IsOvn (other_ovn ∷ []) (refl, tt);
      };
      due = may_try_keyed;
      room_before = room_ticket;
      room_after = room_keyed;
    }

keyed_attempt : Attempted
keyed_attempt = attempted owner (record { job = 1; moment = now; ask = ask }) (record { job = 1; tag = 1; alternative = 0; previous = None; key = other_ovn ∷ [] }) Accepted 0 proposal

keyed_is_found : attempt_of 1 keyed_book ≡ Some keyed_attempt
unfolding attempt_of trial_of opening_of keyed_attempt
keyed_is_found = refl

is_open_keyed : is_open 1 keyed_book ≡ true
unfolding opening_of is_held is_done
is_open_keyed = refl

puts_keyed : IsPutOf keyed_book 1 keyed_put
unfolding keyed_attempt
puts_keyed =
    record {
      attempt = keyed_attempt;
      found = keyed_is_found;
      its_job = refl;
      unfinished = is_open_keyed;
      is = ap (λ ds. Asks.Put flight None (volume ∷ []) (other_ovn ∷ []) Accepted (codes "http://uss1.test" ++ codes "/a/" ++ ds) ticket) (sym (decimal_digit 1 (omega arith)));
    }

clear_of_other : verdict owner.table (candidate_of keyed_attempt) other_pair None ≡ Clear
unfolding keyed_attempt any_shares shares
clear_of_other = refl

nothing_held : held 1 ticket_book ≡ None
unfolding held holding holdings_of has_ended
nothing_held = refl

first_opening : (o : Opening) → opening_of 1 ticket_book ≡ Some o → o.ask.flight ≡ 1
unfolding opening_of
first_opening o h = ap (λ (x : Opening). x.ask.flight) (sym (some_same _ o h))

key_is_clear : KeyIsClear owner ticket_book [] (Comes.Peer details_of_other (Peers.Served other_pair)) keyed
key_is_clear = λ a f k o g ovn h. clear_for a (some_same keyed_attempt a (sym keyed_is_found ∙ f)) o (first_opening o g) ovn h
  where
    clear_for : (a : Attempted) → keyed_attempt ≡ a → (o : Opening) → o.ask.flight ≡ 1 → (ovn : List ℕ) → Has (other_ovn ∷ []) ovn
        → IsClearOvn owner.table ticket_book [] (Comes.Peer details_of_other (Peers.Served other_pair)) a (held o.ask.flight ticket_book) ovn
    clear_for a e o q ovn (inl i) =
        record {
          pair = other_pair;
          known = inl (inl refl);
          ovn_is = ap Some i;
          clear = rw (q, nothing_held) (subst (λ (x : Attempted). verdict owner.table (candidate_of x) other_pair None ≡ Clear) e clear_of_other);
        }
    clear_for a e o q ovn (inr n) = absurd n

pub served : MayStep ticket_book [] now (Comes.Peer details_of_other (Peers.Served other_pair)) (Some keyed) (sends keyed_put) Says.Nothing (Heard other_pair ∷ [])
served =
    record {
      acts =
          record {
            owner = owner;
            owns_book = refl;
            records = each_one (OfDss (RecordsAreDue owner keyed_book)) _ puts_keyed;
            pair = tt;
            notes = each_one (OfPeer (NotesAreHeld keyed_book)) _ tt;
            held = tt;
            removals = tt;
            tickets = tt;
            ticket_calls = each_one (OfDss (TicketsAreDue owner keyed_book)) _ tt;
            ticket_removals = each_one (OfDss (RemovalsAreDue owner keyed_book)) _ tt;
            legal = keyed_follows;
            final = tt;
            cause = tt;
            goes_on = λ e. inr refl;
          };
      keys = key_is_clear;
      hears = inr refl;
    }

-- the pair that is held is said
pub is_held_now : held 1 held_book ≡ Some held_pair
unfolding held holding holdings_of has_ended is_job_of opening_of attempt_of trial_of
is_held_now = refl

pub serves : MayStep held_book [] now (Comes.Details (codes "uss2") flight) None [] (Says.Pair (Some held_pair)) []
serves =
    record {
      acts =
          record {
            owner = owner;
            owns_book = refl;
            records = none_sent (OfDss (RecordsAreDue owner held_book));
            pair = record { flight = 1; is = is_held_now };
            notes = none_sent (OfPeer (NotesAreHeld held_book));
            held = tt;
            removals = tt;
            tickets = tt;
            ticket_calls = none_sent (OfDss (TicketsAreDue owner held_book));
            ticket_removals = none_sent (OfDss (RemovalsAreDue owner held_book));
            legal = tt;
            final = tt;
            cause = tt;
            goes_on = λ e. inl refl;
          };
      keys = tt;
      hears = inl refl;
    }

-- the end of a flight
pub held_is_accepted : held_state 1 held_book ≡ Some Accepted
held_is_accepted = rw is_held_now refl

may_open_end : MayOpen held_book 2 end_ask
unfolding open_job_of last_of jobs_of has_ended is_held is_done
may_open_end = record { next = refl; free = refl; alive = refl; later = omega arith; wish = rw held_is_accepted refl }

pub end_follows : MayFollow held_book end_opened
end_follows =
    record {
      first = refl;
      coding = (omega arith, (omega arith, omega arith), record { flight = omega arith; number = omega arith; wish = tt });
      due = may_open_end;
      room_before = room_held;
      room_after = room_ending;
    }

removes : IsRemoveOf owner ending_book 2 remove
unfolding opening_of is_held is_done holding holdings_of has_ended is_job_of
removes = record { opening = record { job = 2; moment = now; ask = end_ask }; ovn = ovn; opened = refl; end = refl; unclosed = refl; base = refl; is = refl }

pub ends : MayStep held_book [] now (Comes.Ask end_ask) (Some end_opened) (end_sends remove) Says.Nothing []
ends =
    record {
      acts =
          record {
            owner = owner;
            owns_book = refl;
            records = each_one (OfDss (RecordsAreDue owner ending_book)) _ removes;
            pair = tt;
            notes = each_one (OfPeer (NotesAreHeld ending_book)) _ tt;
            held = tt;
            removals = tt;
            tickets = tt;
            ticket_calls = each_one (OfDss (TicketsAreDue owner ending_book)) _ tt;
            ticket_removals = each_one (OfDss (RemovalsAreDue owner ending_book)) _ tt;
            legal = end_follows;
            final = tt;
            cause = tt;
            goes_on = λ e. inr refl;
          };
      keys = tt;
      hears = inl refl;
    }

may_end_flight : MayEnd ending_book 2 (Ends.Ended [])
unfolding opening_of is_held is_done
may_end_flight = record { opening = record { job = 2; moment = now; ask = end_ask }; opened = refl; unclosed = refl; wish = tt }

pub end_done_follows : MayFollow ending_book end_done
end_done_follows =
    record {
      first = refl;
      coding = (omega arith, (omega arith, All-from_recursion IsSubscriber [] tt));
      due = may_end_flight;
      room_before = room_ending;
      room_after = room_end_done;
    }

undecided_end : is_some (decision_of 2 ending_book) ≡ true → LosesByReply owner (end_replied remove (Replies.Removed the_reference [])) 2
unfolding decision_of
undecided_end e = cc

kept_as_ended : IsKeptAnswer owner (ending_book ++ end_done ∷ []) (end_replied remove (Replies.Removed the_reference [])) (Ended flight)
unfolding kept_answer opening_of holding_of ending_of
kept_as_ended = record { opening = record { job = 2; moment = now; ask = end_ask }; named = refl; kept = refl }

pub ended : MayStep ending_book [] now (end_replied remove (Replies.Removed the_reference [])) (Some end_done) [] (Says.Answer (Ended flight)) []
ended =
    record {
      acts =
          record {
            owner = owner;
            owns_book = refl;
            records = none_sent (OfDss (RecordsAreDue owner (ending_book ++ end_done ∷ [])));
            pair = tt;
            notes = none_sent (OfPeer (NotesAreHeld (ending_book ++ end_done ∷ [])));
            held = tt;
            removals = ((λ e. record { ask = remove; reply = Replies.Removed the_reference []; answers = (refl, refl, refl); its_call = removes; removed = tt }), undecided_end);
            tickets = tt;
            ticket_calls = none_sent (OfDss (TicketsAreDue owner (ending_book ++ end_done ∷ [])));
            ticket_removals = none_sent (OfDss (RemovalsAreDue owner (ending_book ++ end_done ∷ [])));
            legal = end_done_follows;
            final = λ e. kept_as_ended;
            cause = refl;
            goes_on = λ e. inl refl;
          };
      keys = tt;
      hears = inl refl;
    }
