-- The entries that an open job makes, and that the duties allow them.
use Rattle.std.proofs.Common.{ℕ, zero, suc, ℤ, ◌≤◌, ◌<◌, ◌+◌, ◌^◌, ◌==◌, ◌≢◌, Bool, true, false, List, [], ◌∷◌, ◌++◌, ◌≡◌, length, refl, ap, sym, subst, ◌∙◌, arith, Option, Some, None}
use Rattle.std.specs.Prelude.{All}
use Rattle.std.proofs.lemmas.List.{append-nil, length-append}
use Rattle.uss_intent.specs.declared.records.State.{State}
use Rattle.uss_intent.specs.declared.records.Subscriber.{Subscriber}
use Rattle.uss_event.specs.declared.details.Proposal.{Proposal}
use Rattle.uss_event.specs.declared.asks.Wish.{Wish}
use Rattle.uss_event.specs.declared.asks.Wish.TheVariants.{Put, End}
use Rattle.uss_event.specs.declared.entries.Entry.{Entry}
use Rattle.uss_event.specs.declared.entries.Entry.TheVariants as Enters
use Rattle.uss_event.specs.declared.entries.Ending.{Ending}
use Rattle.uss_event.specs.declared.events.Event.{Event}
use Rattle.uss_law_dss.proofs.Tests.{equal_number, unequal_number, not_both, right_true}
use Rattle.uss_event.specs.declared.entries.Opening.{Opening}
use Rattle.uss_event.specs.declared.entries.Trial.{Trial}
use Rattle.uss_event.specs.declared.entries.Closing.{Closing}
use Rattle.uss_law_book.specs.Lists.{trials}
use Rattle.uss_law_book.specs.Contents.{is_held, is_done, is_closed, is_put, decision_of, trials_of, current_ovn_of, is_ticket_open, rounds_of}
use Rattle.uss_intent.specs.Texts.{IsOvn}
use Rattle.uss_intent.specs.States.{is_strategic}
use Rattle.uss_law_book.specs.Coding.{IsDecision, IsEnding, AreOwed}
use Rattle.uss_law_book.specs.Legal.{IsBlind, MayEndSo, MayEnd, MayHold, IsDue, ArePlans}
use Rattle.uss_event.specs.Heard.{News}
use Rattle.uss_law_duty.specs.Answers.{job_named}
use Rattle.uss_law_duty.specs.Entered.{KeyIsClear, EndsAs, OpensByReply, HoldsByReply}
use Rattle.uss_law_supplier.specs.declared.duties.Awaited.TheVariants as Waits
use Rattle.uss_law_supplier.specs.Turns.{Standing, entering}
use Rattle.uss_law_supplier.specs.Jobs.{pending, attempting, asking, answering, ending, deciding}
use Rattle.uss_law_supplier.specs.Fitting.{IsPhase}
use Rattle.uss_law_book.proofs.Others.{trials_either, ticket_either}
use Rattle.uss_law_book.proofs.Still.{decision_still, decided_then}
use Rattle.uss_law_book.proofs.Known.{IsFirm, tried_ticketed, decided_ticketed}
use Rattle.uss_law_supplier.proofs.Good.{IsGood}
use Rattle.uss_law_supplier.proofs.Coded.{job_coded, pending_coded, held_coded}
use Rattle.uss_law_supplier.proofs.Jobs.{IsAt, follows, still_open, good_then, good_closing}

-- another job is another job
pub another : (i j : ℕ) → i ≢ j → (j == i) ≡ false
another i j n = unequal_number j i (λ q. n (sym q))

-- which of these entries close their job
pending_leaves_open : (s : Standing) (o : Opening) (alternative : ℕ) (key : List (List ℕ)) → is_closed o.job (pending s o alternative key ∷ []) ≡ false
unfolding is_held is_done
pending_leaves_open s o alternative key = refl

decision_leaves_open : (job : ℕ) (end : Ending) → is_closed job (Enters.Deciding (record { job = job; end = end }) ∷ []) ≡ false
unfolding is_held is_done
decision_leaves_open job end = refl

ticket_leaves_open : (job : ℕ) → is_closed job (Enters.TicketOpen job ∷ []) ≡ false
unfolding is_held is_done
ticket_leaves_open job = refl

done_closes_it : (job : ℕ) (end : Ending) → is_closed job (Enters.Done (record { job = job; end = end }) ∷ []) ≡ true
unfolding is_held is_done
done_closes_it job end = rw (equal_number job job refl) refl

held_closes_it : (job tag : ℕ) (ovn : List ℕ) (version : ℕ) (owed : List Subscriber) → is_closed job (Enters.Held (record { job = job; tag = tag; ovn = ovn; version = version; owed = owed }) ∷ []) ≡ true
unfolding is_held is_done
held_closes_it job tag ovn version owed = rw (equal_number job job refl) refl

ticket_then : (job : ℕ) → is_ticket_open job (Enters.TicketOpen job ∷ []) ≡ true
unfolding is_ticket_open
ticket_then job = rw (equal_number job job refl) refl

same_trials : (job : ℕ) (book : List Entry) → trials_of job book ++ trials_of job (Enters.TicketOpen job ∷ []) ≡ trials_of job book
unfolding trials_of
same_trials job book = append-nil (trials_of job book)

-- an attempt

pub record IsRight (s : Standing) (o : Opening) (alternative : ℕ) (key : List (List ℕ)) : Type 0 where
  pub to : State
  pub priority : ℕ
  pub rounds : ℕ
  pub proposals : List Proposal
  pub put : o.ask.wish ≡ Put to priority rounds proposals
  pub ticket : is_ticket_open o.job s.book ≡ true
  pub undecided : decision_of o.job s.book ≡ None
  pub round : length (trials_of o.job s.book) < rounds
  pub one_of : alternative < length proposals
  pub few : length key ≤ 1024
  pub blind : IsBlind (is_strategic to) alternative key

tried_then : (s : Standing) (o : Opening) (alternative : ℕ) (key : List (List ℕ)) → 1 ≤ length (trials_of o.job (s.book ++ pending s o alternative key ∷ []))
unfolding trials_of
tried_then s o alternative key =
    let t : Trial = record { job = o.job; tag = length (trials s.book) + 1; alternative = alternative; previous = current_ovn_of o.ask.flight s.book; key = key } in
    let a : trials_of o.job (pending s o alternative key ∷ []) ≡ t ∷ [] = rw (equal_number o.job o.job refl) refl in
    let g : length (trials_of o.job (s.book ++ pending s o alternative key ∷ [])) ≡ length (trials_of o.job s.book) + 1 =
    ap length (trials_either o.job s.book (pending s o alternative key ∷ []) ∙ ap (λ (l : List Trial). trials_of o.job s.book ++ l) a) ∙ length-append (trials_of o.job s.book) (t ∷ []) in
    omega (arith, g)

pub good_attempting : (s : Standing) (heard : List News) (moment : ℤ) (event : Event) (o : Opening) (alternative : ℕ) (key : List (List ℕ)) → IsAt s o → IsRight s o alternative key
    → KeyIsClear s.owner s.book heard event (pending s o alternative key) → All IsOvn key → IsGood s heard moment event (attempting s o alternative key)
good_attempting s heard moment event o alternative key a r k valid =
    let e = pending s o alternative key in
    let due : IsDue s.book e = record {
      opening = o;
      to = r.to;
      priority = r.priority;
      rounds = r.rounds;
      proposals = r.proposals;
      unfinished = record { opened = a.unfinished.opened; put = r.put; unclosed = a.unfinished.unclosed };
      ticket = r.ticket;
      undecided = r.undecided;
      round = r.round;
      next = refl;
      one_of = r.one_of;
      current = refl;
      few = r.few;
      blind = r.blind;
    } in
    let plans : ArePlans r.to r.priority r.rounds r.proposals = subst IsFirm r.put (a.sound.known.firm o a.has) in
    let eight = plans.few_proposals in
    let one = r.one_of in
    let m = follows s e a.sound refl (pending_coded s o alternative key a.sound a.has (omega (arith, eight, one)) r.few valid) tt due in
    good_then s heard moment event o e Waits.Put (record { follows = m; keys = k; held = tt; removals = tt; tickets = tt }) (still_open s o e a m (pending_leaves_open s o alternative key) (λ i n. another i o.job n))
    (record { put = ap is_put r.put; undecided = decision_still o.job s.book e refl ∙ r.undecided; tried = tried_then s o alternative key }) (λ q. cc)

-- a decision

pub record MayGiveUp (s : Standing) (o : Opening) (end : Ending) : Type 0 where
  pub put : is_put o.ask.wish ≡ true
  pub tried : 1 ≤ length (trials_of o.job s.book)
  pub undecided : decision_of o.job s.book ≡ None
  pub so : MayEndSo (length (trials_of o.job s.book)) (rounds_of o.ask.wish) end

abbrev IsPutWith : Wish → Type 0
IsPutWith wish = (to : State) × (priority : ℕ) × (rounds : ℕ) × (proposals : List Proposal) × (wish ≡ Put to priority rounds proposals)

pub put_with : (wish : Wish) → is_put wish ≡ true → (to : State) × (priority : ℕ) × (rounds : ℕ) × (proposals : List Proposal) × (wish ≡ Put to priority rounds proposals)
put_with (Put to priority rounds proposals) h = (to, priority, rounds, proposals, refl)
put_with End h = cc

pub good_deciding : (s : Standing) (heard : List News) (moment : ℤ) (event : Event) (o : Opening) (end : Ending) → IsAt s o → MayGiveUp s o end → IsDecision end → IsGood s heard moment event (deciding s o end)
good_deciding s heard moment event o end a g valid =
    let e = Enters.Deciding (record { job = o.job; end = end }) in
    let w = put_with o.ask.wish g.put in
    let due : IsDue s.book e = record {
      opening = o;
      to = w.0;
      priority = w.1;
      rounds = w.2;
      proposals = w.3;
      unfinished = record { opened = a.unfinished.opened; put = w.4; unclosed = a.unfinished.unclosed };
      tried = g.tried;
      undecided = g.undecided;
      so = subst (λ r. MayEndSo (length (trials_of o.job s.book)) r end) (ap rounds_of w.4) g.so;
    } in
    let m = follows s e a.sound refl (job_coded s o a.sound a.has, valid) tt due in
    good_then s heard moment event o e Waits.TicketRemove (record { follows = m; keys = tt; held = tt; removals = tt; tickets = tt }) (still_open s o e a m (decision_leaves_open o.job end) (λ i n. another i o.job n))
    (g.put, decided_then o.job s.book end g.undecided) (λ q. cc)

-- an end

pub good_ending : (s : Standing) (heard : List News) (moment : ℤ) (event : Event) (o : Opening) (end : Ending) → IsAt s o → MayEnd s.book o.job end → EndsAs s.owner s.book event o.job end
    → job_named event s.book ≡ Some o → IsEnding end → IsGood s heard moment event (ending s o end)
good_ending s heard moment event o end a due shown n valid =
    let e = Enters.Done (record { job = o.job; end = end }) in
    let m = follows s e a.sound refl (job_coded s o a.sound a.has, valid) tt due in
    good_closing s heard moment event o e a (record { follows = m; keys = tt; held = tt; removals = shown; tickets = tt }) (done_closes_it o.job end) (λ i n. another i o.job n) n

-- a record

pub good_holding : (s : Standing) (heard : List News) (moment : ℤ) (event : Event) (o : Opening) (tag : ℕ) (ovn : List ℕ) (version : ℕ) (owed : List Subscriber) → IsAt s o → MayHold s.book o.job tag
    → HoldsByReply s.owner s.book event o.job tag ovn version → job_named event s.book ≡ Some o → IsOvn ovn → version < 2 ^ 32 → AreOwed owed → IsGood s heard moment event (entering s (Enters.Held (record { job = o.job; tag = tag; ovn = ovn; version = version; owed = owed })) (answering o))
good_holding s heard moment event o tag ovn version owed a due shown n valid fits few =
    let e = Enters.Held (record { job = o.job; tag = tag; ovn = ovn; version = version; owed = owed }) in
    let m = follows s e a.sound refl (held_coded s o tag ovn version owed a.sound a.has due.own valid fits few) tt due in
    good_closing s heard moment event o e a (record { follows = m; keys = tt; held = shown; removals = tt; tickets = tt }) (held_closes_it o.job tag ovn version owed) (λ i n. another i o.job n) n

-- a ticket

none_tried : (n : ℕ) (b : Bool) → (1 ≤ n → b ≡ true) → b ≡ false → n ≡ 0
none_tried zero b f e = refl
none_tried (suc n) b f e = not_both b (f (omega arith)) e

some_round : (wish : Wish) → is_put wish ≡ true → IsFirm wish → 1 ≤ rounds_of wish
some_round (Put to priority rounds proposals) h f = f.some_rounds
some_round End h f = cc

undecided_without : (s : Standing) (o : Opening) → IsAt s o → is_ticket_open o.job s.book ≡ false → decision_of o.job s.book ≡ None
undecided_without s o a h = go (decision_of o.job s.book) refl
  where
    go : (x : Option Closing) → decision_of o.job s.book ≡ x → x ≡ None
    go None e = refl
    go (Some d) e = not_both (is_ticket_open o.job s.book) (decided_ticketed o.job s.book a.sound.known (rw e refl)) h

pub good_opening : (s : Standing) (heard : List News) (moment : ℤ) (event : Event) (o : Opening) → IsAt s o → IsPhase s.book o Waits.TicketPut → OpensByReply s.owner s.book event o.job
    → IsGood s heard moment event (entering s (Enters.TicketOpen o.job) (λ after. asking after o Waits.Query))
good_opening s heard moment event o a p shown =
    let e = Enters.TicketOpen o.job in
    let w = put_with o.ask.wish p.0 in
    let due : IsDue s.book e = record {
      opening = o;
      to = w.0;
      priority = w.1;
      rounds = w.2;
      proposals = w.3;
      unfinished = record { opened = a.unfinished.opened; put = w.4; unclosed = a.unfinished.unclosed };
      new = p.1;
    } in
    let m = follows s e a.sound refl (job_coded s o a.sound a.has) tt due in
    let none = none_tried (length (trials_of o.job s.book)) (is_ticket_open o.job s.book) (tried_ticketed o.job s.book a.sound.known) p.1 in
    let one = some_round o.ask.wish p.0 (a.sound.known.firm o a.has) in
    good_then s heard moment event o e Waits.Query (record { follows = m; keys = tt; held = tt; removals = tt; tickets = shown }) (still_open s o e a m (ticket_leaves_open o.job) (λ i n. another i o.job n))
    (record {
      put = p.0;
      ticket = ticket_either o.job s.book (e ∷ []) ∙ right_true (is_ticket_open o.job s.book) (is_ticket_open o.job (e ∷ [])) (ticket_then o.job);
      undecided = decision_still o.job s.book e refl ∙ undecided_without s o a p.1;
      round = subst (λ k. k < rounds_of o.ask.wish) (sym (ap length (trials_either o.job s.book (e ∷ []) ∙ same_trials o.job s.book) ∙ none)) (omega (arith, one));
    })
    (λ q. cc)
