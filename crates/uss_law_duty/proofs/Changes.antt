-- The books of the worked changes are legal.
use Rattle.std.proofs.Common.{◌≤◌, ◌≡◌, [], ◌∷◌, ◌++◌, refl, arith, Some}
use Rattle.std.specs.Prelude.{IsTrue}
use Rattle.std.proofs.lemmas.List.Elements.{All-from_recursion}
use Rattle.uss_vol4.specs.Volume.{IsVolume}
use Rattle.uss_intent.specs.declared.records.State.TheVariants.{Activated, Nonconforming}
use Rattle.uss_event.specs.Plans.{is_plan}
use Rattle.uss_event.specs.declared.details.Proposal.{Proposal}
use Rattle.uss_event.specs.declared.entries.Entry.TheVariants as Enters
use Rattle.uss_law_book.specs.Coding.{IsAsk, IsProposal, journal_length}
use Rattle.uss_law_book.specs.Contents.{opening_of, is_held, is_done, trial_of, decision_of, holding_of, ending_of, jobs_of, open_job_of, last_of, is_job_of, has_ended, holdings_of, holding, is_ticket_open, is_ticket_gone, is_ticket_needed, owed_of, is_sent, unsent}
use Rattle.uss_law_book.specs.Attempts.{attempt_of, held, held_state}
use Rattle.uss_law_book.specs.Reserve.{need, reserved}
use Rattle.uss_law_book.specs.Legal.{MayOpen, MayOpenTicket, ArePlans, MayFollow, IsLegal}
use Rattle.uss_law_duty.specs.Worked.{now, volume, proposal, held_book, ending_book, end_done}
use Rattle.uss_law_duty.specs.Flown.{flown_ask, flown_opened, flown_ticket_book, flown_book, flown_pair, first_seen, around_it, with_around, straying, strayed_book, strayed_tried_book, returning, staying_book, staying}
use Rattle.uss_law_duty.proofs.Worked.{valid_outline, valid_volume, valid_proposal, opens, heard_open_follows, pending_follows, recorded_follows}
use Rattle.uss_law_duty.proofs.Further.{held_is_accepted, end_follows, end_done_follows}
use Rattle.uss_law_duty.proofs.Books.{owner_follows}
use Rattle.uss_law_duty.proofs.Flown.{flown_follows, flown_held_follows, strayed_follows}
use Rattle.uss_law_duty.proofs.Staying.{stay_follows}
use Rattle.uss_law_duty.proofs.Tickets.{gone_follows}

room_flown_before : reserved (held_book) ≤ 536870912
unfolding reserved need journal_length opening_of is_held is_done is_ticket_open is_ticket_gone decision_of unsent owed_of holding_of ending_of is_sent is_ticket_needed
room_flown_before = omega arith

room_flown_asked : reserved (held_book ++ flown_opened ∷ []) ≤ 536870912
unfolding reserved need journal_length opening_of is_held is_done is_ticket_open is_ticket_gone decision_of unsent owed_of holding_of ending_of is_sent is_ticket_needed
room_flown_asked = omega arith

room_flown_ticket : reserved (flown_ticket_book) ≤ 536870912
unfolding reserved need journal_length opening_of is_held is_done is_ticket_open is_ticket_gone decision_of unsent owed_of holding_of ending_of is_sent is_ticket_needed
room_flown_ticket = omega arith

room_strayed_before : reserved (flown_book) ≤ 536870912
unfolding reserved need journal_length opening_of is_held is_done is_ticket_open is_ticket_gone decision_of unsent owed_of holding_of ending_of is_sent is_ticket_needed
room_strayed_before = omega arith

room_strayed_asked : reserved (flown_book ++ Enters.Opened (record { job = 3; moment = first_seen; ask = straying 3 }) ∷ []) ≤ 536870912
unfolding reserved need journal_length opening_of is_held is_done is_ticket_open is_ticket_gone decision_of unsent owed_of holding_of ending_of is_sent is_ticket_needed
room_strayed_asked = omega arith

room_strayed_ticket : reserved (strayed_book) ≤ 536870912
unfolding reserved need journal_length opening_of is_held is_done is_ticket_open is_ticket_gone decision_of unsent owed_of holding_of ending_of is_sent is_ticket_needed
room_strayed_ticket = omega arith

room_stay_before : reserved (flown_book) ≤ 536870912
unfolding reserved need journal_length opening_of is_held is_done is_ticket_open is_ticket_gone decision_of unsent owed_of holding_of ending_of is_sent is_ticket_needed
room_stay_before = omega arith

room_stay_asked : reserved (flown_book ++ Enters.Opened (record { job = 3; moment = now; ask = returning 3 }) ∷ []) ≤ 536870912
unfolding reserved need journal_length opening_of is_held is_done is_ticket_open is_ticket_gone decision_of unsent owed_of holding_of ending_of is_sent is_ticket_needed
room_stay_asked = omega arith

room_stay_ticket : reserved (staying_book) ≤ 536870912
unfolding reserved need journal_length opening_of is_held is_done is_ticket_open is_ticket_gone decision_of unsent owed_of holding_of ending_of is_sent is_ticket_needed
room_stay_ticket = omega arith

is_flown : held 1 flown_book ≡ Some flown_pair
unfolding held holding holdings_of has_ended is_job_of opening_of attempt_of trial_of
is_flown = refl

flown_is_activated : held_state 1 flown_book ≡ Some Activated
flown_is_activated = rw is_flown refl

valid_around : IsVolume around_it
valid_around =
    record {
      outline = valid_outline;
      altitudes = omega arith;
      times = omega arith;
      low = (omega arith, omega arith);
      high = (omega arith, omega arith);
      start = (omega arith, omega arith);
      end = (omega arith, omega arith);
    }

valid_with_around : IsProposal with_around
valid_with_around =
    record {
      few_volumes = omega arith;
      few_off_nominal = omega arith;
      volumes = All-from_recursion IsVolume (volume ∷ []) (valid_volume, tt);
      off_nominal = All-from_recursion IsVolume (around_it ∷ []) (valid_around, tt);
    }

-- the flight is to be flown
flown_plans : ArePlans Activated 0 4 (proposal ∷ [])
unfolding is_plan
flown_plans =
    record {
      some_rounds = omega arith;
      few_rounds = omega arith;
      some_proposals = omega arith;
      few_proposals = omega arith;
      each = All-from_recursion (λ (p : Proposal). IsTrue (is_plan Activated p.volumes p.off_nominal 0)) (proposal ∷ []) (refl, tt);
    }

flown_may_open : MayOpen held_book 2 flown_ask
unfolding open_job_of last_of jobs_of has_ended is_held is_done
flown_may_open = record { next = refl; free = refl; alive = refl; later = omega arith; wish = (flown_plans, rw held_is_accepted refl) }

flown_valid : IsAsk flown_ask
flown_valid =
    record {
      flight = omega arith;
      number = omega arith;
      wish = record {
        priority_fits = omega arith;
        rounds_fit = omega arith;
        few_proposals = omega arith;
        valid_proposals = All-from_recursion IsProposal (proposal ∷ []) (valid_proposal, tt);
      };
    }

pub flown_opens : MayFollow held_book (Enters.Opened (record { job = 2; moment = now; ask = flown_ask }))
flown_opens =
    record {
      first = refl;
      coding = (omega arith, (omega arith, omega arith), flown_valid);
      due = flown_may_open;
      room_before = room_flown_before;
      room_after = room_flown_asked;
    }

flown_may_open_ticket : MayOpenTicket (held_book ++ flown_opened ∷ []) 2
unfolding opening_of is_held is_done is_ticket_open
flown_may_open_ticket =
    record {
      opening = record { job = 2; moment = now; ask = flown_ask };
      to = Activated;
      priority = 0;
      rounds = 4;
      proposals = proposal ∷ [];
      unfinished = record { opened = refl; put = refl; unclosed = refl };
      new = refl;
    }

pub flown_has_ticket : MayFollow (held_book ++ flown_opened ∷ []) (Enters.TicketOpen 2)
flown_has_ticket = record { first = refl; coding = omega arith; due = flown_may_open_ticket; room_before = room_flown_asked; room_after = room_flown_ticket }

-- it strays
strayed_plans : ArePlans Nonconforming 0 1 (with_around ∷ [])
unfolding is_plan
strayed_plans =
    record {
      some_rounds = omega arith;
      few_rounds = omega arith;
      some_proposals = omega arith;
      few_proposals = omega arith;
      each = All-from_recursion (λ (p : Proposal). IsTrue (is_plan Nonconforming p.volumes p.off_nominal 0)) (with_around ∷ []) (refl, tt);
    }

strayed_may_open : MayOpen flown_book 3 (straying 3)
unfolding open_job_of last_of jobs_of has_ended is_held is_done
strayed_may_open = record { next = refl; free = refl; alive = refl; later = omega arith; wish = (strayed_plans, rw flown_is_activated refl) }

strayed_valid : IsAsk (straying 3)
strayed_valid =
    record {
      flight = omega arith;
      number = omega arith;
      wish = record {
        priority_fits = omega arith;
        rounds_fit = omega arith;
        few_proposals = omega arith;
        valid_proposals = All-from_recursion IsProposal (with_around ∷ []) (valid_with_around, tt);
      };
    }

pub strayed_opens : MayFollow flown_book (Enters.Opened (record { job = 3; moment = first_seen; ask = straying 3 }))
strayed_opens =
    record {
      first = refl;
      coding = (omega arith, (omega arith, omega arith), strayed_valid);
      due = strayed_may_open;
      room_before = room_strayed_before;
      room_after = room_strayed_asked;
    }

strayed_may_open_ticket : MayOpenTicket (flown_book ++ Enters.Opened (record { job = 3; moment = first_seen; ask = straying 3 }) ∷ []) 3
unfolding opening_of is_held is_done is_ticket_open
strayed_may_open_ticket =
    record {
      opening = record { job = 3; moment = first_seen; ask = (straying 3) };
      to = Nonconforming;
      priority = 0;
      rounds = 1;
      proposals = with_around ∷ [];
      unfinished = record { opened = refl; put = refl; unclosed = refl };
      new = refl;
    }

pub strayed_has_ticket : MayFollow (flown_book ++ Enters.Opened (record { job = 3; moment = first_seen; ask = straying 3 }) ∷ []) (Enters.TicketOpen 3)
strayed_has_ticket = record { first = refl; coding = omega arith; due = strayed_may_open_ticket; room_before = room_strayed_asked; room_after = room_strayed_ticket }

-- it is to be flown again as it is
stay_plans : ArePlans Activated 0 4 (proposal ∷ [])
unfolding is_plan
stay_plans =
    record {
      some_rounds = omega arith;
      few_rounds = omega arith;
      some_proposals = omega arith;
      few_proposals = omega arith;
      each = All-from_recursion (λ (p : Proposal). IsTrue (is_plan Activated p.volumes p.off_nominal 0)) (proposal ∷ []) (refl, tt);
    }

stay_may_open : MayOpen flown_book 3 (returning 3)
unfolding open_job_of last_of jobs_of has_ended is_held is_done
stay_may_open = record { next = refl; free = refl; alive = refl; later = omega arith; wish = (stay_plans, rw flown_is_activated refl) }

stay_valid : IsAsk (returning 3)
stay_valid =
    record {
      flight = omega arith;
      number = omega arith;
      wish = record {
        priority_fits = omega arith;
        rounds_fit = omega arith;
        few_proposals = omega arith;
        valid_proposals = All-from_recursion IsProposal (proposal ∷ []) (valid_proposal, tt);
      };
    }

pub stay_opens : MayFollow flown_book (Enters.Opened (record { job = 3; moment = now; ask = returning 3 }))
stay_opens =
    record {
      first = refl;
      coding = (omega arith, (omega arith, omega arith), stay_valid);
      due = stay_may_open;
      room_before = room_stay_before;
      room_after = room_stay_asked;
    }

stay_may_open_ticket : MayOpenTicket (flown_book ++ Enters.Opened (record { job = 3; moment = now; ask = returning 3 }) ∷ []) 3
unfolding opening_of is_held is_done is_ticket_open
stay_may_open_ticket =
    record {
      opening = record { job = 3; moment = now; ask = (returning 3) };
      to = Activated;
      priority = 0;
      rounds = 4;
      proposals = proposal ∷ [];
      unfinished = record { opened = refl; put = refl; unclosed = refl };
      new = refl;
    }

pub stay_has_ticket : MayFollow (flown_book ++ Enters.Opened (record { job = 3; moment = now; ask = returning 3 }) ∷ []) (Enters.TicketOpen 3)
stay_has_ticket = record { first = refl; coding = omega arith; due = stay_may_open_ticket; room_before = room_stay_asked; room_after = room_stay_ticket }

pub strayed_is_legal : IsLegal strayed_tried_book
strayed_is_legal = (owner_follows, (opens, (heard_open_follows, (pending_follows, (recorded_follows, (flown_opens, (flown_has_ticket, (flown_follows, (flown_held_follows, (strayed_opens, (strayed_has_ticket, (strayed_follows, tt))))))))))))

pub stayed_is_legal : IsLegal (staying_book ++ staying ∷ [])
stayed_is_legal = (owner_follows, (opens, (heard_open_follows, (pending_follows, (recorded_follows, (flown_opens, (flown_has_ticket, (flown_follows, (flown_held_follows, (stay_opens, (stay_has_ticket, (stay_follows, tt))))))))))))

pub gone_is_legal : IsLegal (ending_book ++ end_done ∷ Enters.TicketGone 1 ∷ [])
gone_is_legal = (owner_follows, (opens, (heard_open_follows, (pending_follows, (recorded_follows, (end_follows, (end_done_follows, (gone_follows, tt))))))))
