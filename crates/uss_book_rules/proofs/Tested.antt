-- The tests say the same as the facts by which a legal book is defined.
use Rattle.std.proofs.Common.{ℕ, ◌+◌, ◌<◌, ◌==◌, Bool, true, false, not, ◌&&◌, List, ◌≡◌, length, refl, ap, ◌∙◌, Option, Some, None, IfSome}
use Rattle.std.specs.Prelude.{is_none, nat_le, nat_lt}
use Rattle.std.specs.List.{list_all}
use Rattle.std.specs.Option.{option_eq}
use Rattle.std.proofs.lemmas.Bool.{and_parts, and_from, not-true, not_from_false, leb-true, le-leb, ltb-true, lt-ltb, eqb-true, eq-eqb}
use Rattle.std.proofs.lemmas.List.{nil_from_length}
use Rattle.std.proofs.lemmas.List.Sums.{AllPass-from_list_all, list_all-from_AllPass}
use Rattle.uss_intent.specs.Same.{same_text}
use Rattle.uss_intent.specs.SameLaws.{option_is_same, text_is_same}
use Rattle.uss_intent.specs.declared.records.State.{State}
use Rattle.uss_intent.specs.States.{is_strategic}
use Rattle.uss_event.specs.Plans.{is_plan}
use Rattle.uss_event.specs.Transitions.{may_go}
use Rattle.uss_event.specs.declared.details.Proposal.{Proposal}
use Rattle.uss_event.specs.declared.asks.Wish.{Wish}
use Rattle.uss_event.specs.declared.asks.Wish.TheVariants.{Put, End}
use Rattle.uss_event.specs.declared.asks.FlightAsk.{FlightAsk}
use Rattle.uss_event.specs.declared.entries.Ending.{Ending}
use Rattle.uss_event.specs.declared.entries.Ending.TheVariants.{Conflict, Stale, Cancelled, Ended}
use Rattle.uss_event.specs.declared.entries.Entry.{Entry}
use Rattle.uss_event.specs.declared.entries.Opening.{Opening}
use Rattle.uss_law_book.specs.Lists.{openings, trials}
use Rattle.uss_law_book.specs.Contents.{opening_of, is_closed, is_open, open_job_of, last_of, has_ended, trials_of, owns, decision_of, current_ovn_of, is_put, puts, is_put_job, is_ticket_open, is_ticket_gone, is_ticket_needed, owed_of, is_sent}
use Rattle.uss_law_book.specs.Attempts.{held_state}
use Rattle.uss_law_book.specs.Legal.{ArePlans, MayWish, IsAfter, MayOpen, MayOpenTicket, IsBlind, MayTry, MayHold, MayEndSo, MayDecide, MayRetire, MaySend}
use Rattle.uss_book_rules.specs.Due.{are_plans, may_wish, is_later, may_open, is_open_put, may_open_ticket, is_blind, fits_wish, fits_opening, may_try, may_hold, may_end_so, may_end_wish, may_end_opening, may_decide, may_retire, may_send}

none_from : {X : Type 0} (o : Option X) → is_none o ≡ true → o ≡ None
none_from None h = refl
none_from (Some x) h = cc

none_true : {X : Type 0} (o : Option X) → o ≡ None → is_none o ≡ true
none_true o e = rw e refl

-- ---- a job is opened

plans_from : (to : State) (priority rounds : ℕ) (proposals : List Proposal) → are_plans to priority rounds proposals ≡ true → ArePlans to priority rounds proposals
unfolding are_plans
plans_from to priority rounds proposals h =
    let a = and_parts (nat_le 1 rounds) _ h in
    let b = and_parts (nat_le rounds 16) _ a.1 in
    let c = and_parts (nat_le 1 (length proposals)) _ b.1 in
    let d = and_parts (nat_le (length proposals) 8) (list_all (λ (p : Proposal). is_plan to p.volumes p.off_nominal priority) proposals) c.1 in
    record {
      some_rounds = leb-true 1 rounds a.0;
      few_rounds = leb-true rounds 16 b.0;
      some_proposals = leb-true 1 (length proposals) c.0;
      few_proposals = leb-true (length proposals) 8 d.0;
      each = AllPass-from_list_all (λ (p : Proposal). is_plan to p.volumes p.off_nominal priority) proposals d.1;
    }

plans_true : (to : State) (priority rounds : ℕ) (proposals : List Proposal) → ArePlans to priority rounds proposals → are_plans to priority rounds proposals ≡ true
unfolding are_plans
plans_true to priority rounds proposals h =
    and_from (nat_le 1 rounds) _ (le-leb 1 rounds h.some_rounds)
    (and_from (nat_le rounds 16) _ (le-leb rounds 16 h.few_rounds)
    (and_from (nat_le 1 (length proposals)) _ (le-leb 1 (length proposals) h.some_proposals)
    (and_from (nat_le (length proposals) 8) _ (le-leb (length proposals) 8 h.few_proposals)
    (list_all-from_AllPass (λ (p : Proposal). is_plan to p.volumes p.off_nominal priority) proposals h.each))))

wish_from : (old : Option State) (w : Wish) → may_wish old w ≡ true → MayWish old w
wish_from old (Put to priority rounds proposals) h = let a = and_parts (are_plans to priority rounds proposals) (may_go old to) h in (plans_from to priority rounds proposals a.0, a.1)
wish_from old End h = h

wish_true : (old : Option State) (w : Wish) → MayWish old w → may_wish old w ≡ true
wish_true old (Put to priority rounds proposals) h = and_from (are_plans to priority rounds proposals) (may_go old to) (plans_true to priority rounds proposals h.0) h.1
wish_true old End h = h

later_from : (ask : FlightAsk) (o : Option Opening) → is_later ask o ≡ true → IfSome o (IsAfter ask)
later_from ask None h = tt
later_from ask (Some o) h = ltb-true o.ask.number ask.number h

later_true : (ask : FlightAsk) (o : Option Opening) → IfSome o (IsAfter ask) → is_later ask o ≡ true
later_true ask None h = refl
later_true ask (Some o) h = lt-ltb o.ask.number ask.number h

pub open_from : (es : List Entry) (job : ℕ) (ask : FlightAsk) → may_open es job ask ≡ true → MayOpen es job ask
unfolding may_open
open_from es job ask h =
    let a = and_parts (job == length (openings es) + 1) _ h in
    let b = and_parts (is_none (open_job_of ask.flight es)) _ a.1 in
    let c = and_parts (not (has_ended ask.flight es)) _ b.1 in
    let d = and_parts (is_later ask (last_of ask.flight es)) (may_wish (held_state ask.flight es) ask.wish) c.1 in
    record {
      next = eqb-true job _ a.0;
      free = none_from (open_job_of ask.flight es) b.0;
      alive = not-true (has_ended ask.flight es) c.0;
      later = later_from ask (last_of ask.flight es) d.0;
      wish = wish_from (held_state ask.flight es) ask.wish d.1;
    }

pub open_true : (es : List Entry) (job : ℕ) (ask : FlightAsk) → MayOpen es job ask → may_open es job ask ≡ true
unfolding may_open
open_true es job ask h =
    and_from (job == length (openings es) + 1) _ (eq-eqb job _ h.next)
    (and_from (is_none (open_job_of ask.flight es)) _ (none_true (open_job_of ask.flight es) h.free)
    (and_from (not (has_ended ask.flight es)) _ (not_from_false (has_ended ask.flight es) h.alive)
    (and_from (is_later ask (last_of ask.flight es)) _ (later_true ask (last_of ask.flight es) h.later) (wish_true (held_state ask.flight es) ask.wish h.wish))))

-- ---- an open job that is to record something

record IsPut (w : Wish) : Type 0 where
  pub to : State
  pub priority : ℕ
  pub rounds : ℕ
  pub proposals : List Proposal
  pub is : w ≡ Put to priority rounds proposals

put_from : (w : Wish) → is_put w ≡ true → IsPut w
put_from (Put to priority rounds proposals) h = record { to = to; priority = priority; rounds = rounds; proposals = proposals; is = refl }
put_from End h = absurd cc

record IsOpening (es : List Entry) (job : ℕ) : Type 0 where
  pub opening : Opening
  pub opened : opening_of job es ≡ Some opening
  pub put : IsPut opening.ask.wish

opened_from : (o : Option Opening) → puts o ≡ true → (x : Opening) × (o ≡ Some x) × IsPut x.ask.wish
opened_from None h = absurd cc
opened_from (Some x) h = (x, refl, put_from x.ask.wish h)

opening_from : (es : List Entry) (job : ℕ) → is_put_job job es ≡ true → IsOpening es job
opening_from es job h =
    let f = opened_from (opening_of job es) h in
    record { opening = f.0; opened = f.1; put = f.2 }

put_job_true : (es : List Entry) (job : ℕ) (o : Opening) (to : State) (priority rounds : ℕ) (proposals : List Proposal) → opening_of job es ≡ Some o → o.ask.wish ≡ Put to priority rounds proposals → is_put_job job es ≡ true
put_job_true es job o to priority rounds proposals e f = ap puts e ∙ ap is_put f

pub open_ticket_from : (es : List Entry) (job : ℕ) → may_open_ticket es job ≡ true → MayOpenTicket es job
unfolding may_open_ticket is_open_put
open_ticket_from es job h =
    let a = and_parts (is_put_job job es && not (is_closed job es)) (not (is_ticket_open job es)) h in
    let b = and_parts (is_put_job job es) (not (is_closed job es)) a.0 in
    let o = opening_from es job b.0 in
    record {
      opening = o.opening;
      to = o.put.to;
      priority = o.put.priority;
      rounds = o.put.rounds;
      proposals = o.put.proposals;
      unfinished = record { opened = o.opened; put = o.put.is; unclosed = not-true (is_closed job es) b.1 };
      new = not-true (is_ticket_open job es) a.1;
    }

pub open_ticket_true : (es : List Entry) (job : ℕ) → MayOpenTicket es job → may_open_ticket es job ≡ true
unfolding may_open_ticket is_open_put
open_ticket_true es job h =
    and_from (is_put_job job es && not (is_closed job es)) (not (is_ticket_open job es))
    (and_from (is_put_job job es) (not (is_closed job es)) (put_job_true es job h.opening h.to h.priority h.rounds h.proposals h.unfinished.opened h.unfinished.put) (not_from_false (is_closed job es) h.unfinished.unclosed))
    (not_from_false (is_ticket_open job es) h.new)

-- ---- attempts

blind_from : (b : Bool) (alternative : ℕ) (key : List (List ℕ)) → is_blind b alternative key ≡ true → IsBlind b alternative key
blind_from true alternative key h = tt
blind_from false alternative key h =
    let a = and_parts (alternative == 0) (length key == 0) h in
    (eqb-true alternative 0 a.0, nil_from_length key (eqb-true (length key) 0 a.1))

blind_true : (b : Bool) (alternative : ℕ) (key : List (List ℕ)) → IsBlind b alternative key → is_blind b alternative key ≡ true
blind_true true alternative key h = refl
blind_true false alternative key h = and_from (alternative == 0) (length key == 0) (eq-eqb alternative 0 h.0) (eq-eqb (length key) 0 (ap length h.1))

record FitsWish (es : List Entry) (job alternative : ℕ) (key : List (List ℕ)) (w : Wish) : Type 0 where
  pub put : IsPut w
  pub round : length (trials_of job es) < put.rounds
  pub one_of : alternative < length put.proposals
  pub blind : IsBlind (is_strategic put.to) alternative key

fits_wish_from : (es : List Entry) (job alternative : ℕ) (key : List (List ℕ)) (w : Wish) → fits_wish es job alternative key w ≡ true → FitsWish es job alternative key w
fits_wish_from es job alternative key End h = absurd cc
fits_wish_from es job alternative key (Put to priority rounds proposals) h =
    let a = and_parts (nat_lt (length (trials_of job es)) rounds) _ h in
    let b = and_parts (nat_lt alternative (length proposals)) (is_blind (is_strategic to) alternative key) a.1 in
    record {
      put = record { to = to; priority = priority; rounds = rounds; proposals = proposals; is = refl };
      round = ltb-true _ rounds a.0;
      one_of = ltb-true alternative _ b.0;
      blind = blind_from (is_strategic to) alternative key b.1;
    }

record FitsOpening (es : List Entry) (job alternative : ℕ) (previous : Option (List ℕ)) (key : List (List ℕ)) (o : Option Opening) : Type 0 where
  pub opening : Opening
  pub is : o ≡ Some opening
  pub base : previous ≡ current_ovn_of opening.ask.flight es
  pub wish : FitsWish es job alternative key opening.ask.wish

fits_opening_from : (es : List Entry) (job alternative : ℕ) (previous : Option (List ℕ)) (key : List (List ℕ)) (o : Option Opening) → fits_opening es job alternative previous key o ≡ true → FitsOpening es job alternative previous key o
fits_opening_from es job alternative previous key None h = absurd cc
fits_opening_from es job alternative previous key (Some o) h =
    let a = and_parts (option_eq same_text previous (current_ovn_of o.ask.flight es)) (fits_wish es job alternative key o.ask.wish) h in
    record {
      opening = o;
      is = refl;
      base = (option_is_same same_text text_is_same previous (current_ovn_of o.ask.flight es)).0 a.0;
      wish = fits_wish_from es job alternative key o.ask.wish a.1;
    }

pub try_from : (es : List Entry) (job tag alternative : ℕ) (previous : Option (List ℕ)) (key : List (List ℕ)) → may_try es job tag alternative previous key ≡ true → MayTry es job tag alternative previous key
unfolding may_try
try_from es job tag alternative previous key h =
    let a = and_parts (not (is_closed job es)) _ h in
    let b = and_parts (is_ticket_open job es) _ a.1 in
    let c = and_parts (is_none (decision_of job es)) _ b.1 in
    let d = and_parts (tag == length (trials es) + 1) _ c.1 in
    let e = and_parts (nat_le (length key) 1024) (fits_opening es job alternative previous key (opening_of job es)) d.1 in
    let f = fits_opening_from es job alternative previous key (opening_of job es) e.1 in
    record {
      opening = f.opening;
      to = f.wish.put.to;
      priority = f.wish.put.priority;
      rounds = f.wish.put.rounds;
      proposals = f.wish.put.proposals;
      unfinished = record { opened = f.is; put = f.wish.put.is; unclosed = not-true (is_closed job es) a.0 };
      ticket = b.0;
      undecided = none_from (decision_of job es) c.0;
      round = f.wish.round;
      next = eqb-true tag _ d.0;
      one_of = f.wish.one_of;
      current = f.base;
      few = leb-true (length key) 1024 e.0;
      blind = f.wish.blind;
    }

pub try_true : (es : List Entry) (job tag alternative : ℕ) (previous : Option (List ℕ)) (key : List (List ℕ)) → MayTry es job tag alternative previous key → may_try es job tag alternative previous key ≡ true
unfolding may_try
try_true es job tag alternative previous key h =
    let fits : fits_wish es job alternative key (Put h.to h.priority h.rounds h.proposals) ≡ true =
    and_from (nat_lt (length (trials_of job es)) h.rounds) _ (lt-ltb _ h.rounds h.round)
    (and_from (nat_lt alternative (length h.proposals)) _ (lt-ltb alternative _ h.one_of) (blind_true (is_strategic h.to) alternative key h.blind)) in
    let wish : fits_wish es job alternative key h.opening.ask.wish ≡ true = ap (fits_wish es job alternative key) h.unfinished.put ∙ fits in
    let opening : fits_opening es job alternative previous key (opening_of job es) ≡ true =
    ap (fits_opening es job alternative previous key) h.unfinished.opened
    ∙ and_from (option_eq same_text previous (current_ovn_of h.opening.ask.flight es)) _ ((option_is_same same_text text_is_same previous (current_ovn_of h.opening.ask.flight es)).1 h.current) wish in
    and_from (not (is_closed job es)) _ (not_from_false (is_closed job es) h.unfinished.unclosed)
    (and_from (is_ticket_open job es) _ h.ticket
    (and_from (is_none (decision_of job es)) _ (none_true (decision_of job es) h.undecided)
    (and_from (tag == length (trials es) + 1) _ (eq-eqb tag _ h.next)
    (and_from (nat_le (length key) 1024) _ (le-leb (length key) 1024 h.few) opening))))

pub hold_from : (es : List Entry) (job tag : ℕ) → may_hold es job tag ≡ true → MayHold es job tag
unfolding may_hold
hold_from es job tag h = let a = and_parts (is_open job es) (owns job tag es) h in record { unfinished = a.0; own = a.1 }

pub hold_true : (es : List Entry) (job tag : ℕ) → MayHold es job tag → may_hold es job tag ≡ true
unfolding may_hold
hold_true es job tag h = and_from (is_open job es) (owns job tag es) h.unfinished h.own

-- ---- how a job ends

end_so_from : (tried rounds : ℕ) (end : Ending) → may_end_so tried rounds end ≡ true → MayEndSo tried rounds end
end_so_from tried rounds (Conflict flight manager rule) h = tt
end_so_from tried rounds (Stale missing) h = eqb-true tried rounds h
end_so_from tried rounds Cancelled h = tt
end_so_from tried rounds (Ended owed) h = absurd cc

end_so_true : (tried rounds : ℕ) (end : Ending) → MayEndSo tried rounds end → may_end_so tried rounds end ≡ true
end_so_true tried rounds (Conflict flight manager rule) h = refl
end_so_true tried rounds (Stale missing) h = eq-eqb tried rounds h
end_so_true tried rounds Cancelled h = refl
end_so_true tried rounds (Ended owed) h = absurd h

record EndsOpening (tried : ℕ) (end : Ending) (o : Option Opening) : Type 0 where
  pub opening : Opening
  pub is : o ≡ Some opening
  pub put : IsPut opening.ask.wish
  pub so : MayEndSo tried put.rounds end

ends_wish_from : (tried : ℕ) (end : Ending) (w : Wish) → may_end_wish tried end w ≡ true → (p : IsPut w) × MayEndSo tried p.rounds end
ends_wish_from tried end End h = absurd cc
ends_wish_from tried end (Put to priority rounds proposals) h = (record { to = to; priority = priority; rounds = rounds; proposals = proposals; is = refl }, end_so_from tried rounds end h)

ends_opening_from : (tried : ℕ) (end : Ending) (o : Option Opening) → may_end_opening tried end o ≡ true → EndsOpening tried end o
ends_opening_from tried end None h = absurd cc
ends_opening_from tried end (Some o) h = let w = ends_wish_from tried end o.ask.wish h in record { opening = o; is = refl; put = w.0; so = w.1 }

pub decide_from : (es : List Entry) (job : ℕ) (end : Ending) → may_decide es job end ≡ true → MayDecide es job end
unfolding may_decide
decide_from es job end h =
    let a = and_parts (not (is_closed job es)) _ h in
    let b = and_parts (nat_le 1 (length (trials_of job es))) _ a.1 in
    let c = and_parts (is_none (decision_of job es)) (may_end_opening (length (trials_of job es)) end (opening_of job es)) b.1 in
    let f = ends_opening_from (length (trials_of job es)) end (opening_of job es) c.1 in
    record {
      opening = f.opening;
      to = f.put.to;
      priority = f.put.priority;
      rounds = f.put.rounds;
      proposals = f.put.proposals;
      unfinished = record { opened = f.is; put = f.put.is; unclosed = not-true (is_closed job es) a.0 };
      tried = leb-true 1 _ b.0;
      undecided = none_from (decision_of job es) c.0;
      so = f.so;
    }

pub decide_true : (es : List Entry) (job : ℕ) (end : Ending) → MayDecide es job end → may_decide es job end ≡ true
unfolding may_decide
decide_true es job end h =
    let opening : may_end_opening (length (trials_of job es)) end (opening_of job es) ≡ true =
    ap (may_end_opening (length (trials_of job es)) end) h.unfinished.opened ∙ ap (may_end_wish (length (trials_of job es)) end) h.unfinished.put
    ∙ end_so_true (length (trials_of job es)) h.rounds end h.so in
    and_from (not (is_closed job es)) _ (not_from_false (is_closed job es) h.unfinished.unclosed)
    (and_from (nat_le 1 (length (trials_of job es))) _ (le-leb 1 _ h.tried)
    (and_from (is_none (decision_of job es)) _ (none_true (decision_of job es) h.undecided) opening))

-- ---- what a closed job may hear

pub retire_from : (es : List Entry) (job : ℕ) → may_retire es job ≡ true → MayRetire es job
unfolding may_retire
retire_from es job h =
    let a = and_parts (is_put_job job es) _ h in
    let b = and_parts (is_closed job es) _ a.1 in
    let c = and_parts (is_ticket_open job es) _ b.1 in
    let d = and_parts (not (is_ticket_gone job es)) (not (is_ticket_needed job es)) c.1 in
    record { put = a.0; closed = b.0; heard_open = c.0; not_gone = not-true (is_ticket_gone job es) d.0; unneeded = not-true (is_ticket_needed job es) d.1 }

pub retire_true : (es : List Entry) (job : ℕ) → MayRetire es job → may_retire es job ≡ true
unfolding may_retire
retire_true es job h =
    and_from (is_put_job job es) _ h.put
    (and_from (is_closed job es) _ h.closed
    (and_from (is_ticket_open job es) _ h.heard_open
    (and_from (not (is_ticket_gone job es)) (not (is_ticket_needed job es)) (not_from_false (is_ticket_gone job es) h.not_gone) (not_from_false (is_ticket_needed job es) h.unneeded))))

pub send_from : (es : List Entry) (job index : ℕ) → may_send es job index ≡ true → MaySend es job index
unfolding may_send
send_from es job index h =
    let a = and_parts (is_closed job es) _ h in
    let b = and_parts (nat_lt index (length (owed_of job es))) (not (is_sent job index es)) a.1 in
    record { closed = a.0; owed = ltb-true index _ b.0; new = not-true (is_sent job index es) b.1 }

pub send_true : (es : List Entry) (job index : ℕ) → MaySend es job index → may_send es job index ≡ true
unfolding may_send
send_true es job index h =
    and_from (is_closed job es) _ h.closed
    (and_from (nat_lt index (length (owed_of job es))) (not (is_sent job index es)) (lt-ltb index _ h.owed) (not_from_false (is_sent job index es) h.new))
