-- A flown flight may be recorded again as it is, though a flight of a greater priority was planned into its airspace.
use Rattle.std.proofs.Common.{ℕ, ◌≤◌, ◌≡◌, inl, inr, true, List, [], ◌∷◌, ◌++◌, refl, ap, sym, ◌∙◌, subst, arith, codes, Some, None}
use Rattle.std.proofs.lemmas.Fmt.{decimal_digit}
use Rattle.std.proofs.lemmas.List.Elements.{All-from_recursion}
use Rattle.uss_shape.specs.Shape.{bounds_of}
use Rattle.uss_shape.specs.Overlap.{outlines_meet, region_holds, region_holds_first}
use Rattle.uss_vol4.specs.Sharing.{any_shares, shares}
use Rattle.uss_intent.specs.Identifiers.{ticket_number}
use Rattle.uss_intent.specs.Texts.{IsOvn}
use Rattle.uss_intent.specs.declared.records.State.TheVariants.{Activated}
use Rattle.uss_intent.specs.declared.calls.DssAsk.TheVariants as Asks
use Rattle.uss_event.specs.Verdicts.{verdict}
use Rattle.uss_event.specs.declared.rules.Verdict.TheVariants.{Clear, HigherStands}
use Rattle.uss_event.specs.declared.calls.PeerReply.TheVariants as Peers
use Rattle.uss_event.specs.declared.events.Event.TheVariants as Comes
use Rattle.uss_event.specs.declared.events.Said.TheVariants as Says
use Rattle.uss_law_dss.specs.Lists.{Has}
use Rattle.uss_law_dss.proofs.Tests.{some_same}
use Rattle.uss_law_book.specs.Coding.{journal_length}
use Rattle.uss_law_book.specs.Contents.{is_open, opening_of, is_held, is_done, trials_of, trial_of, decision_of, holding_of, ending_of, is_job_of, has_ended, holdings_of, holding, is_ticket_open, is_ticket_gone, is_ticket_needed, owed_of, is_sent, unsent}
use Rattle.uss_law_book.specs.Attempts.{Attempted, attempted, attempt_of, put_of, held}
use Rattle.uss_event.specs.declared.entries.Opening.{Opening}
use Rattle.uss_law_book.specs.Reserve.{need, reserved}
use Rattle.uss_law_book.specs.Legal.{MayTry, MayFollow}
use Rattle.uss_law_duty.specs.Duties.{MayStep}
use Rattle.uss_event.specs.Heard.News.{Heard}
use Rattle.uss_law_duty.specs.Sends.{OfDss, OfPeer, RecordsAreDue, TicketsAreDue, RemovalsAreDue, NotesAreHeld, IsPutOf}
use Rattle.uss_law_duty.specs.Entered.{candidate_of, KeyIsClear, IsClearOvn}
use Rattle.uss_law_duty.proofs.Worked.{each_one}
use Rattle.uss_law_duty.specs.Worked.{now, owner, volume, proposal, flight, ovn, other_ovn}
use Rattle.uss_law_duty.specs.Flown.{flown_ovn, flown_pair, returning, urgent_pair, staying_book, details_of_urgent, staying, staying_put, stays_as, calls}

room_staying : reserved (staying_book) ≤ 536870912
unfolding reserved need journal_length opening_of is_held is_done is_ticket_open is_ticket_gone decision_of unsent owed_of holding_of ending_of is_sent is_ticket_needed
room_staying = omega arith

room_stayed : reserved (staying_book ++ staying ∷ []) ≤ 536870912
unfolding reserved need journal_length opening_of is_held is_done is_ticket_open is_ticket_gone decision_of unsent owed_of holding_of ending_of is_sent is_ticket_needed
room_stayed = omega arith

stay_opening : Opening
stay_opening = record { job = 3; moment = now; ask = returning 3 }

may_try_stay : MayTry staying_book 3 3 0 (Some flown_ovn) (other_ovn ∷ [])
unfolding opening_of is_held is_done is_ticket_open decision_of trials_of holding holdings_of has_ended is_job_of stay_opening
may_try_stay =
    record {
      opening = stay_opening;
      to = Activated;
      priority = 0;
      rounds = 4;
      proposals = proposal ∷ [];
      unfinished = record { opened = refl; put = refl; unclosed = refl };
      ticket = refl;
      undecided = refl;
      round = omega arith;
      next = refl;
      one_of = omega arith;
      current = refl;
      few = omega arith;
      blind = tt;
    }

pub stay_follows : MayFollow staying_book staying
stay_follows =
    record {
      first = refl;
      coding = record {
        job_fits = omega arith;
        tag_fits = omega arith;
        alternative_fits = omega arith;
        valid_previous = refl;
        few = omega arith;
        valid_key = All-from_recursion IsOvn (other_ovn ∷ []) (refl, tt);
      };
      due = may_try_stay;
      room_before = room_staying;
      room_after = room_stayed;
    }

stay_attempt : Attempted
stay_attempt = attempted owner (record { job = 3; moment = now; ask = returning 3 }) (record { job = 3; tag = 3; alternative = 0; previous = Some flown_ovn; key = (other_ovn ∷ []) }) Activated 0 proposal

stay_is_found : attempt_of 3 (staying_book ++ staying ∷ []) ≡ Some stay_attempt
unfolding attempt_of trial_of opening_of stay_attempt
stay_is_found = refl

stay_is_open : is_open 3 (staying_book ++ staying ∷ []) ≡ true
unfolding opening_of is_held is_done
stay_is_open = refl

stay_put_is : staying_put ≡ put_of stay_attempt
unfolding stay_attempt
stay_put_is = ap (λ ds. Asks.Put flight (Some flown_ovn) (volume ∷ []) (other_ovn ∷ []) Activated (codes "http://uss1.test" ++ codes "/a/" ++ ds) (ticket_number 1 3)) (sym (decimal_digit 3 (omega arith)))

stay_puts : IsPutOf (staying_book ++ staying ∷ []) 3 staying_put
unfolding stay_attempt
stay_puts = record { attempt = stay_attempt; found = stay_is_found; its_job = refl; unfinished = stay_is_open; is = stay_put_is }

clear_of_urgent : verdict owner.table (candidate_of stay_attempt) urgent_pair (Some flown_pair) ≡ Clear
unfolding stay_attempt any_shares shares outlines_meet region_holds region_holds_first bounds_of
clear_of_urgent = refl

-- by the exception alone
pub stands_otherwise : verdict owner.table stays_as urgent_pair None ≡ HigherStands
unfolding any_shares shares outlines_meet region_holds region_holds_first bounds_of
stands_otherwise = refl

is_flown : held 1 staying_book ≡ Some flown_pair
unfolding held holding holdings_of has_ended is_job_of opening_of attempt_of trial_of
is_flown = refl

first_opening : (o : Opening) → opening_of 3 staying_book ≡ Some o → o.ask.flight ≡ 1
unfolding opening_of
first_opening o h = ap (λ (x : Opening). x.ask.flight) (sym (some_same _ o h))

key_is_clear : KeyIsClear owner staying_book [] (Comes.Peer details_of_urgent (Peers.Served urgent_pair)) staying
key_is_clear = λ a f k o g ovn h. clear_for a (some_same stay_attempt a (sym stay_is_found ∙ f)) o (first_opening o g) ovn h
  where
    clear_for : (a : Attempted) → stay_attempt ≡ a → (o : Opening) → o.ask.flight ≡ 1 → (ovn : List ℕ) → Has (other_ovn ∷ []) ovn
        → IsClearOvn owner.table staying_book [] (Comes.Peer details_of_urgent (Peers.Served urgent_pair)) a (held o.ask.flight staying_book) ovn
    clear_for a e o q ovn (inl i) =
        record {
          pair = urgent_pair;
          known = inl (inl refl);
          ovn_is = ap Some i;
          clear = rw (q, is_flown) (subst (λ (x : Attempted). verdict owner.table (candidate_of x) urgent_pair (Some flown_pair) ≡ Clear) e clear_of_urgent);
        }
    clear_for a e o q ovn (inr n) = absurd n

pub stays : MayStep staying_book [] now (Comes.Peer details_of_urgent (Peers.Served urgent_pair)) (Some staying) (calls 3 staying_put) Says.Nothing (Heard urgent_pair ∷ [])
stays =
    record {
      acts =
          record {
            owner = owner;
            owns_book = refl;
            records = each_one (OfDss (RecordsAreDue owner (staying_book ++ staying ∷ []))) _ stay_puts;
            pair = tt;
            notes = each_one (OfPeer (NotesAreHeld (staying_book ++ staying ∷ []))) _ tt;
            held = tt;
            removals = tt;
            tickets = tt;
            ticket_calls = each_one (OfDss (TicketsAreDue owner (staying_book ++ staying ∷ []))) _ tt;
            ticket_removals = each_one (OfDss (RemovalsAreDue owner (staying_book ++ staying ∷ []))) _ tt;
            legal = stay_follows;
            final = tt;
            cause = tt;
            goes_on = λ e. inr refl;
          };
      keys = key_is_clear;
      hears = inr refl;
    }
