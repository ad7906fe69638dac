-- That a job may go on by its book, and make the call again that it waits for.
use Rattle.std.proofs.Common.{ℕ, ℤ, ◌≤◌, ◌<◌, Bool, true, false, cond, nat_lt, List, [], ◌∷◌, ◌≡◌, inr, length, refl, ap, sym, subst, ◌∙◌, arith, Option, Some, None, is_some}
use Rattle.uss_intent.specs.declared.records.State.{State}
use Rattle.uss_event.specs.declared.details.Proposal.{Proposal}
use Rattle.uss_event.specs.declared.asks.Wish.{Wish}
use Rattle.uss_event.specs.declared.asks.Wish.TheVariants.{Put, End}
use Rattle.uss_event.specs.declared.calls.Outgoing.{Outgoing}
use Rattle.uss_event.specs.declared.calls.Outgoing.TheVariants as Goes
use Rattle.uss_event.specs.declared.events.Said.TheVariants as Says
use Rattle.uss_event.specs.declared.events.Event.{Event}
use Rattle.uss_law_dss.proofs.Tests.{less_is, not_less, none_is}
use Rattle.uss_event.specs.declared.entries.Opening.{Opening}
use Rattle.uss_law_book.specs.Contents.{opening_of, is_put, decision_of, trials_of, is_ticket_open, rounds_of}
use Rattle.std.proofs.lemmas.List.Elements.{All-nil}
use Rattle.uss_intent.specs.Texts.{IsOvn}
use Rattle.uss_intent.specs.States.{is_strategic}
use Rattle.uss_law_book.specs.Legal.{IsBlind, ArePlans}
use Rattle.uss_law_book.proofs.Kept.{opening_has}
use Rattle.uss_event.specs.Heard.{News}
use Rattle.uss_law_duty.specs.Sends.{NotesAreHeld}
use Rattle.uss_law_supplier.specs.declared.duties.Awaited.TheVariants as Waits
use Rattle.uss_law_supplier.specs.declared.duties.Duty.TheVariants as Duties
use Rattle.uss_law_supplier.specs.Values.{awaited_of}
use Rattle.uss_law_supplier.specs.Table.{with_ticket}
use Rattle.uss_law_supplier.specs.Turns.{Standing}
use Rattle.uss_law_supplier.specs.Jobs.{keeps_key, is_end, view_of, attempting, carry_on, going_on, resuming_by, resuming}
use Rattle.uss_law_supplier.specs.Fitting.{IsLooking, IsAwaited}
use Rattle.uss_law_book.proofs.Known.{IsFirm}
use Rattle.uss_law_supplier.proofs.Onward as Onward
use Rattle.uss_law_supplier.proofs.Onward.{IsDssDue, call_is_due}
use Rattle.uss_law_supplier.proofs.Good.{IsGood, good_onward, one_sent}
use Rattle.uss_law_supplier.proofs.Jobs.{IsAt, good_asking}
use Rattle.uss_law_supplier.proofs.Entering.{put_with, good_attempting}

pub not_end : (wish : Wish) → is_end wish ≡ false → is_put wish ≡ true
not_end (Put to priority rounds proposals) h = refl
not_end End h = cc

pub is_an_end : (wish : Wish) → is_end wish ≡ true → wish ≡ End
is_an_end (Put to priority rounds proposals) h = cc
is_an_end End h = refl

-- the attempt of the first alternative, where no key is looked at
blind_of : (wish : Wish) (to : State) (priority rounds : ℕ) (proposals : List Proposal) → wish ≡ Put to priority rounds proposals → keeps_key wish ≡ false → IsBlind (is_strategic to) 0 []
blind_of wish to priority rounds proposals w h = go (is_strategic to) (sym (ap keeps_key w) ∙ h)
  where
    go : (b : Bool) → b ≡ false → IsBlind b 0 []
    go true e = cc
    go false e = (refl, refl)

pub good_blind : (s : Standing) (heard : List News) (moment : ℤ) (event : Event) (o : Opening) → IsAt s o → IsLooking s.book o → keeps_key o.ask.wish ≡ false
    → IsGood s heard moment event (attempting s o 0 [])
good_blind s heard moment event o a p k =
    let w = put_with o.ask.wish p.put in
    let plans : ArePlans w.0 w.1 w.2 w.3 = subst IsFirm w.4 (a.sound.known.firm o a.has) in
    let some = plans.some_proposals in
    good_attempting s heard moment event o 0 [] a
    (record {
      to = w.0;
      priority = w.1;
      rounds = w.2;
      proposals = w.3;
      put = w.4;
      ticket = p.ticket;
      undecided = p.undecided;
      round = subst (λ n. length (trials_of o.job s.book) < n) (ap rounds_of w.4) p.round;
      one_of = omega (arith, some);
      few = omega arith;
      blind = blind_of o.ask.wish w.0 w.1 w.2 w.3 w.4 k;
    })
    (λ x f strategic opening opened ovn h. absurd h)
    (All-nil IsOvn)

none_of : (n : ℕ) → nat_lt 0 n ≡ false → n ≡ 0
none_of n h = let a = not_less 0 n h in omega (arith, a)

some_rounds : (wish : Wish) → is_put wish ≡ true → IsFirm wish → 1 ≤ rounds_of wish
some_rounds (Put to priority rounds proposals) h f = f.some_rounds
some_rounds End h f = cc

pub good_going_on : (s : Standing) (heard : List News) (moment : ℤ) (event : Event) (o : Opening) → IsAt s o → IsGood s heard moment event (going_on s o)
unfolding view_of
good_going_on s heard moment event o a = at_end (is_end o.ask.wish) refl
  where
    at_key : (b : Bool) → keeps_key o.ask.wish ≡ b → IsLooking s.book o → IsGood s heard moment event (carry_on s o (with_ticket b))
    at_key true e p = good_asking s heard moment event o Waits.Query a p (λ q. cc)
    at_key false e p = good_blind s heard moment event o a p e

    at_ticket : (b : Bool) → is_ticket_open o.job s.book ≡ b → is_put o.ask.wish ≡ true → decision_of o.job s.book ≡ None → length (trials_of o.job s.book) ≡ 0
        → IsGood s heard moment event (carry_on s o (cond b (with_ticket (keeps_key o.ask.wish)) (Duties.Call Waits.TicketPut)))
    at_ticket true e put undecided none =
        let one = some_rounds o.ask.wish put (a.sound.known.firm o a.has) in
        at_key (keeps_key o.ask.wish) refl (record { put = put; ticket = e; undecided = undecided; round = omega (arith, one, none) })
    at_ticket false e put undecided none = good_asking s heard moment event o Waits.TicketPut a (put, e) (λ q. cc)

    at_tried : (b : Bool) → nat_lt 0 (length (trials_of o.job s.book)) ≡ b → is_put o.ask.wish ≡ true → decision_of o.job s.book ≡ None
        → IsGood s heard moment event (carry_on s o (cond b (Duties.Call Waits.Put) (cond (is_ticket_open o.job s.book) (with_ticket (keeps_key o.ask.wish)) (Duties.Call Waits.TicketPut))))
    at_tried true e put undecided = good_asking s heard moment event o Waits.Put a (record { put = put; undecided = undecided; tried = less_is 0 (length (trials_of o.job s.book)) e }) (λ q. cc)
    at_tried false e put undecided = at_ticket (is_ticket_open o.job s.book) refl put undecided (none_of (length (trials_of o.job s.book)) e)

    at_decided : (b : Bool) → is_some (decision_of o.job s.book) ≡ b → is_put o.ask.wish ≡ true
        → IsGood s heard moment event (carry_on s o (cond b (Duties.Call Waits.TicketRemove) (cond (nat_lt 0 (length (trials_of o.job s.book))) (Duties.Call Waits.Put) (cond (is_ticket_open o.job s.book) (with_ticket (keeps_key o.ask.wish)) (Duties.Call Waits.TicketPut)))))
    at_decided true e put = good_asking s heard moment event o Waits.TicketRemove a (put, e) (λ q. cc)
    at_decided false e put = at_tried (nat_lt 0 (length (trials_of o.job s.book))) refl put (none_is (decision_of o.job s.book) e)

    at_end : (b : Bool) → is_end o.ask.wish ≡ b
        → IsGood s heard moment event (carry_on s o (cond b (Duties.Call Waits.Remove) (cond (is_some (decision_of o.job s.book)) (Duties.Call Waits.TicketRemove) (cond (nat_lt 0 (length (trials_of o.job s.book))) (Duties.Call Waits.Put) (cond (is_ticket_open o.job s.book) (with_ticket (keeps_key o.ask.wish)) (Duties.Call Waits.TicketPut))))))
    at_end true e = good_asking s heard moment event o Waits.Remove a (is_an_end o.ask.wish e) (λ q. cc)
    at_end false e = at_decided (is_some (decision_of o.job s.book)) refl (not_end o.ask.wish e)

-- the call that a job waits for is due
pub awaited_due : (s : Standing) (o : Opening) (call : Outgoing) → IsAt s o → awaited_of o.job s.values ≡ Some call → Onward.IsDue s.owner s.book call
awaited_due s o call a e = go call (a.sound.fit o.job call e)
  where
    go : (call : Outgoing) → IsAwaited s.owner s.book s.values o.job call → Onward.IsDue s.owner s.book call
    go (Goes.Dss call) w =
        let h = opening_has s.book o.job w.opening w.opened in
        let d = call_is_due s.owner s.book w.opening w.kind call.ask a.sound.orderly a.sound.known (record { opened = subst (λ j. opening_of j s.book ≡ Some w.opening) (sym h.1) w.opened; unclosed = rw h.1 w.unclosed }) w.phase w.is in
        subst (λ j. IsDssDue s.owner s.book j call.ask) (h.1 ∙ sym w.its_job) d
    go (Goes.Peer call) w = subst (NotesAreHeld s.book) (sym w.is) tt

pub good_resuming : (s : Standing) (heard : List News) (moment : ℤ) (event : Event) (o : Opening) → IsAt s o → IsGood s heard moment event (resuming s o)
good_resuming s heard moment event o a = go (awaited_of o.job s.values) refl
  where
    go : (x : Option Outgoing) → awaited_of o.job s.values ≡ x → IsGood s heard moment event (resuming_by s o x)
    go None e = good_going_on s heard moment event o a
    go (Some call) e =
        good_onward s heard moment event s.values (call ∷ []) Says.Nothing
        (record { sends = λ x h. one_sent (Onward.IsDue s.owner s.book) call x (awaited_due s o call a e) h; pair = tt; final = tt; fit = a.sound.fit; heard_is = refl; goes = inr refl })
        tt
