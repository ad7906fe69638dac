-- What an operator's position, the time to tell others, a failed call and another supplier's note may bring is allowed.
use Rattle.std.proofs.Common.{pos, ◌≤◌, ◌≤ℤ◌, ◌≡◌, zero, suc, inl, inr, true, [], ◌∷◌, ◌++◌, refl, sym, subst, arith, codes, Some, None}
use Rattle.std.proofs.lemmas.List.Elements.{All-from_recursion}
use Rattle.url.proofs.OnLiterals.{url_on_literals}
use Rattle.uss_intent.specs.Texts.{is_base}
use Rattle.uss_vol4.specs.Volume.{Holds}
use Rattle.uss_event.specs.declared.asks.AskRefusal.TheVariants as Refuses
use Rattle.uss_event.specs.declared.asks.Conform.TheVariants as Finds
use Rattle.uss_event.specs.declared.calls.Outgoing.TheVariants as Goes
use Rattle.uss_event.specs.declared.calls.PeerReply.TheVariants as Peers
use Rattle.uss_event.specs.declared.events.Answer.TheVariants.{Steady}
use Rattle.uss_event.specs.declared.events.Said.TheVariants as Says
use Rattle.uss_event.specs.declared.events.Event.TheVariants as Comes
use Rattle.uss_law_book.specs.Coding.{IsSubscriber, journal_length}
use Rattle.uss_law_book.specs.Contents.{opening_of, is_held, is_done, trial_of, decision_of, holding_of, ending_of, is_job_of, has_ended, holdings_of, holding, is_ticket_open, is_ticket_gone, owed_of, is_sent, unsent, owns, trials_of}
use Rattle.uss_law_book.specs.Attempts.{attempt_of, held}
use Rattle.uss_law_book.specs.Reserve.{need, reserved}
use Rattle.uss_law_book.specs.Legal.{MayHold, MaySend, MayFollow}
use Rattle.uss_law_duty.proofs.Worked.{each_one, none_sent, room_tried}
use Rattle.uss_law_duty.proofs.Further.{is_held_now}
use Rattle.uss_law_duty.specs.Duties.{MayStep, GoesOn}
use Rattle.uss_event.specs.Heard.News.{Heard, Forgotten}
use Rattle.uss_law_duty.specs.Sayings.{IsInside}
use Rattle.uss_law_duty.specs.Sends.{OfDss, OfPeer, RecordsAreDue, TicketsAreDue, RemovalsAreDue, NotesAreHeld}
use Rattle.uss_law_duty.specs.Worked.{now, owner, volume, subscriber, tried_book, held_book, held_pair, owing, owing_book, notify, notified, note_of_other, note_of_end, other_pair, under_way, inside, above_it}

-- ---- positions

is_inside : IsInside (volume ∷ []) inside under_way
is_inside = (
  0,
  volume,
  omega arith,
  refl,
  record {
    place = inl (0, _, omega arith, refl, (refl, inl (omega arith, omega arith), inr (omega arith, omega arith)));
    height = (omega arith, omega arith);
    time = (omega arith, omega arith);
  },
)

-- it is above the volume
too_high : Holds volume above_it.place (pos 1) above_it.altitude under_way → ⊥
too_high h =
    let low : pos 1500 ≤ℤ pos 1000 = h.height.1 in
    absurd (omega (arith, low))

is_outside : IsInside (volume ∷ []) above_it under_way → ⊥
is_outside (zero, v, b, e, h) = too_high (subst (λ w. Holds w above_it.place (pos 1) above_it.altitude under_way) (sym e) h)
is_outside (suc k, v, b, e, h) = absurd (omega (arith, b))

pub conforms : MayStep held_book [] under_way (Comes.Position inside) None [] (Says.Answer (Steady Finds.Conforming)) []
conforms =
    record {
      acts =
          record {
            owner = owner;
            owns_book = refl;
            records = none_sent (OfDss (RecordsAreDue owner held_book));
            pair = tt;
            notes = none_sent (OfPeer (NotesAreHeld held_book));
            held = tt;
            removals = tt;
            tickets = tt;
            ticket_calls = none_sent (OfDss (TicketsAreDue owner held_book));
            ticket_removals = none_sent (OfDss (RemovalsAreDue owner held_book));
            legal = tt;
            final = λ e. cc;
            cause = record { pair = held_pair; is_held = is_held_now; conforms = is_inside };
            goes_on = λ e. inl refl;
          };
      keys = tt;
      hears = inl refl;
    }

pub strays : MayStep held_book [] under_way (Comes.Position above_it) None [] (Says.Answer (Steady Finds.Nonconforming)) []
strays =
    record {
      acts =
          record {
            owner = owner;
            owns_book = refl;
            records = none_sent (OfDss (RecordsAreDue owner held_book));
            pair = tt;
            notes = none_sent (OfPeer (NotesAreHeld held_book));
            held = tt;
            removals = tt;
            tickets = tt;
            ticket_calls = none_sent (OfDss (TicketsAreDue owner held_book));
            ticket_removals = none_sent (OfDss (RemovalsAreDue owner held_book));
            legal = tt;
            final = λ e. cc;
            cause = record { pair = held_pair; is_held = is_held_now; conforms = is_outside };
            goes_on = λ e. inl refl;
          };
      keys = tt;
      hears = inl refl;
    }

pub old : MayStep held_book [] now (Comes.Position inside) None [] (Says.Refused (Refuses.OldPosition under_way)) []
old =
    record {
      acts =
          record {
            owner = owner;
            owns_book = refl;
            records = none_sent (OfDss (RecordsAreDue owner held_book));
            pair = tt;
            notes = none_sent (OfPeer (NotesAreHeld held_book));
            held = tt;
            removals = tt;
            tickets = tt;
            ticket_calls = none_sent (OfDss (TicketsAreDue owner held_book));
            ticket_removals = none_sent (OfDss (RemovalsAreDue owner held_book));
            legal = tt;
            final = tt;
            cause = omega arith;
            goes_on = λ e. inl refl;
          };
      keys = tt;
      hears = inl refl;
    }

-- ---- what is owed

is_held_then : held 1 owing_book ≡ Some held_pair
unfolding held holding holdings_of has_ended is_job_of opening_of attempt_of trial_of
is_held_then = refl

room_owing : reserved owing_book ≤ 536870912
unfolding reserved need journal_length opening_of is_held is_done is_ticket_open is_ticket_gone decision_of unsent owed_of holding_of ending_of is_sent
room_owing = omega arith

room_notified : reserved (owing_book ++ notified ∷ []) ≤ 536870912
unfolding reserved need journal_length opening_of is_held is_done is_ticket_open is_ticket_gone decision_of unsent owed_of holding_of ending_of is_sent
room_notified = omega arith

base_is : is_base subscriber.base ≡ true
unfolding url_on_literals
base_is = refl

valid_subscriber : IsSubscriber subscriber
valid_subscriber = record { base = base_is; ticket = omega arith; index = omega arith }

may_hold : MayHold tried_book 1 1
unfolding opening_of is_held is_done owns trials_of
may_hold = record { unfinished = refl; own = refl }

pub owing_follows : MayFollow tried_book owing
owing_follows =
    record {
      first = refl;
      coding = record {
        job_fits = omega arith;
        tag_fits = omega arith;
        valid_ovn = refl;
        version_fits = omega arith;
        valid_owed = (omega arith, All-from_recursion IsSubscriber (subscriber ∷ []) (valid_subscriber, tt));
      };
      due = may_hold;
      room_before = room_tried;
      room_after = room_owing;
    }

may_send : MaySend owing_book 1 0
unfolding is_held is_done owed_of holding_of ending_of is_sent
may_send = record { closed = refl; owed = omega arith; new = refl }

pub notified_follows : MayFollow owing_book notified
notified_follows = record { first = refl; coding = (omega arith, omega arith); due = may_send; room_before = room_owing; room_after = room_notified }

not_awaited : GoesOn (Comes.Peer notify Peers.Noted) owing_book [] Says.Nothing
unfolding is_held is_done opening_of
not_awaited e = cc

pub tells : MayStep owing_book [] now (Comes.Sweep 0) None (Goes.Peer notify ∷ []) Says.Nothing []
tells =
    record {
      acts =
          record {
            owner = owner;
            owns_book = refl;
            records = each_one (OfDss (RecordsAreDue owner owing_book)) _ tt;
            pair = tt;
            notes = each_one (OfPeer (NotesAreHeld owing_book)) _ (record { flight = 1; is = is_held_then });
            held = tt;
            removals = tt;
            tickets = tt;
            ticket_calls = each_one (OfDss (TicketsAreDue owner owing_book)) _ tt;
            ticket_removals = each_one (OfDss (RemovalsAreDue owner owing_book)) _ tt;
            legal = tt;
            final = tt;
            cause = tt;
            goes_on = λ e. cc;
          };
      keys = tt;
      hears = inl refl;
    }

pub notifying : MayStep owing_book [] now (Comes.Peer notify Peers.Noted) (Some notified) [] Says.Nothing []
notifying =
    record {
      acts =
          record {
            owner = owner;
            owns_book = refl;
            records = none_sent (OfDss (RecordsAreDue owner (owing_book ++ notified ∷ [])));
            pair = tt;
            notes = none_sent (OfPeer (NotesAreHeld (owing_book ++ notified ∷ [])));
            held = tt;
            removals = tt;
            tickets = tt;
            ticket_calls = none_sent (OfDss (TicketsAreDue owner (owing_book ++ notified ∷ [])));
            ticket_removals = none_sent (OfDss (RemovalsAreDue owner (owing_book ++ notified ∷ [])));
            legal = notified_follows;
            final = tt;
            cause = tt;
            goes_on = not_awaited;
          };
      keys = tt;
      hears = inl refl;
    }

-- ---- what others tell, and failed calls

pub hears : MayStep tried_book [] now (Comes.Notified (codes "uss2") note_of_other) None [] Says.Noted (Heard other_pair ∷ [])
hears =
    record {
      acts =
          record {
            owner = owner;
            owns_book = refl;
            records = none_sent (OfDss (RecordsAreDue owner tried_book));
            pair = tt;
            notes = none_sent (OfPeer (NotesAreHeld tried_book));
            held = tt;
            removals = tt;
            tickets = tt;
            ticket_calls = none_sent (OfDss (TicketsAreDue owner tried_book));
            ticket_removals = none_sent (OfDss (RemovalsAreDue owner tried_book));
            legal = tt;
            final = tt;
            cause = tt;
            goes_on = λ e. inl refl;
          };
      keys = tt;
      hears = inr refl;
    }

pub forgets : MayStep tried_book (Heard other_pair ∷ []) now (Comes.Notified (codes "uss2") note_of_end) None [] Says.Noted (Heard other_pair ∷ Forgotten other_pair.reference.flight ∷ [])
forgets =
    record {
      acts =
          record {
            owner = owner;
            owns_book = refl;
            records = none_sent (OfDss (RecordsAreDue owner tried_book));
            pair = tt;
            notes = none_sent (OfPeer (NotesAreHeld tried_book));
            held = tt;
            removals = tt;
            tickets = tt;
            ticket_calls = none_sent (OfDss (TicketsAreDue owner tried_book));
            ticket_removals = none_sent (OfDss (RemovalsAreDue owner tried_book));
            legal = tt;
            final = tt;
            cause = tt;
            goes_on = λ e. inl refl;
          };
      keys = tt;
      hears = inr refl;
    }

pub left : MayStep tried_book [] now (Comes.Failed 1) None [] (Says.Left (1 ∷ [])) []
left =
    record {
      acts =
          record {
            owner = owner;
            owns_book = refl;
            records = none_sent (OfDss (RecordsAreDue owner tried_book));
            pair = tt;
            notes = none_sent (OfPeer (NotesAreHeld tried_book));
            held = tt;
            removals = tt;
            tickets = tt;
            ticket_calls = none_sent (OfDss (TicketsAreDue owner tried_book));
            ticket_removals = none_sent (OfDss (RemovalsAreDue owner tried_book));
            legal = tt;
            final = tt;
            cause = tt;
            goes_on = λ e. inl refl;
          };
      keys = tt;
      hears = inl refl;
    }
