-- A new request to record something, where nobody disturbs it: its ticket is made, what is in its area is found, and its first attempt is
-- one that the discovery service accepts.
use Rattle.std.proofs.Common.{ℕ, zero, suc, ℤ, ◌+◌, ◌<◌, ◌≤◌, ◌^◌, ◌==◌, ◌≡◌, inl, inr, Bool, true, false, cond, not, ◌&&◌, ◌||◌, nat_le, nat_lt, is_none, is_some, List, [], ◌∷◌, ◌++◌, slice_get, length, refl, ap, sym, subst, ◌∙◌, arith, Option, Some, None}
use Rattle.std.specs.Prelude.{All, IsTrue}
use Rattle.std.specs.List.{find}
use Rattle.std.specs.Option.{option_map}
use Rattle.std.proofs.lemmas.Bool.Decides.{nat_tests}
use Rattle.std.proofs.lemmas.List.{append-nil, length-append}
use Rattle.std.proofs.lemmas.List.Elements.{All-head, All-tail}
use Rattle.std.proofs.lemmas.List.Sums.{sum_by-append}
use Rattle.uss_vol4.specs.Volume.{Volume4D}
use Rattle.uss_vol4.specs.Bounding.{bounding_box, box_of}
use Rattle.uss_intent.specs.Same.{same_text}
use Rattle.uss_intent.specs.Identifiers.{ticket_number}
use Rattle.uss_intent.specs.declared.records.Recorded.{Recorded}
use Rattle.uss_intent.specs.declared.records.Ticket.{Ticket}
use Rattle.uss_intent.specs.declared.records.State.{State}
use Rattle.uss_intent.specs.declared.calls.DssAsk.{DssAsk}
use Rattle.uss_intent.specs.declared.calls.DssAsk.TheVariants as Asks
use Rattle.uss_intent.specs.declared.calls.DssReply.{DssReply}
use Rattle.uss_intent.specs.declared.calls.DssReply.TheVariants as Replies
use Rattle.uss_intent.specs.States.{is_strategic}
use Rattle.uss_intent.specs.Numbers.{is_one_of}
use Rattle.uss_law_duty.specs.Duties.{clamped}
use Rattle.uss_event.specs.Pairs.{OperationalIntent}
use Rattle.uss_event.specs.Plans.{is_plan, vertex_count, may_be_off_nominal}
use Rattle.uss_event.specs.declared.details.Proposal.{Proposal}
use Rattle.uss_event.specs.declared.asks.Wish.{Wish}
use Rattle.uss_event.specs.declared.asks.Wish.TheVariants.{Put}
use Rattle.uss_event.specs.declared.asks.FlightAsk.{FlightAsk}
use Rattle.uss_event.specs.declared.entries.Entry.{Entry}
use Rattle.uss_event.specs.declared.entries.Entry.TheVariants as Enters
use Rattle.uss_event.specs.declared.events.Said.{Said}
use Rattle.uss_event.specs.declared.events.Event.TheVariants as Comes
use Rattle.uss_law_dss.specs.Lists.{Has}
use Rattle.uss_law_dss.specs.Fits.{fits}
use Rattle.uss_law_dss.specs.Orderly as Dss
use Rattle.uss_law_dss.specs.Service.{Service, has_ovn, recorded_of, ticket_of, relevant, lacking, lies_in}
use Rattle.uss_law_dss.specs.Refusals.{is_bad_put, is_others, is_stale_change, is_no_ticket_of, is_uncovered, is_at_last_version, shown_all}
use Rattle.uss_law_dss.specs.Step.{service_step, after_ticket_put, new_ticket, put_ticket, found_in}
use Rattle.uss_law_dss.proofs.EachFits.{step_fits}
use Rattle.uss_law_dss.proofs.EachOrderly.{step_orderly}
use Rattle.uss_law_dss.proofs.Lists.{find_has}
use Rattle.uss_law_dss.proofs.Tests.{equal_number, unequal_number, equal_bytes, both, left_false, less_is, some_same}
use Rattle.uss_event.specs.declared.entries.Trial.{Trial}
use Rattle.uss_event.specs.declared.entries.Holding.{Holding}
use Rattle.uss_law_book.specs.Lists.{openings, trials, holdings, endings}
use Rattle.uss_law_book.specs.Contents.{trials_of, opening_of, is_job_of, has_ended, holdings_of, holding, current_ovn_of}
use Rattle.uss_law_book.specs.Legal.{ArePlans}
use Rattle.uss_law_book.proofs.Attempts.{owner_kept}
use Rattle.uss_law_book.proofs.Entries.{openings_append, trials_append, holdings_append, endings_append}
use Rattle.uss_law_book.proofs.Finds.{first_false}
use Rattle.uss_law_book.specs.Attempts.{held, held_by}
use Rattle.uss_law_book.proofs.Held.{held_of}
use Rattle.uss_law_book.proofs.EachOrderly.{legal_is_orderly}
use Rattle.uss_law_duty.specs.Answers.{flight_of}
use Rattle.uss_law_duty.specs.Sends.{ticket_put}
use Rattle.uss_law_supplier.specs.declared.duties.Awaited.TheVariants as Waits
use Rattle.uss_law_supplier.specs.Values.{Values, awaiting}
use Rattle.uss_law_supplier.specs.Calls.{proposals_of, area_of}
use Rattle.uss_law_supplier.specs.Turns.{Standing, dss_call, calling, entered, with_entry}
use Rattle.uss_law_supplier.specs.Jobs.{is_end, asking}
use Rattle.uss_law_supplier.specs.Asks.{plan_refusal, opening_entry, opening_for}
use Rattle.uss_law_supplier.specs.Laws.{IsSound}
use Rattle.uss_law_supplier.proofs.Law.{sound_of}
use Rattle.uss_law_book.proofs.Counts.{few_jobs, few_trials}
use Rattle.uss_law_book.proofs.Known.{legal_known}
use Rattle.uss_law_supplier.proofs.Waits.{awaiting_own}
use Rattle.uss_law_supplier.proofs.Onward.{IsOpenJob}
use Rattle.uss_law_supplier.proofs.Asking as Asking
use Rattle.uss_law_supplier.proofs.Asking.{first_kind, are_plans, new_untried}
use Rattle.uss_law_asking.specs.Exchange.{turn_of, stands_then}
use Rattle.uss_law_asking.specs.Complete.{IsUndisturbed, is_new}
use Rattle.uss_law_asking.proofs.Calm.{plan_of, accepted_of}
use Rattle.uss_law_asking.proofs.Acts.{still, ticket_leaves_open, same_trials}
use Rattle.uss_law_asking.proofs.Asked.{new_unfinished}
use Rattle.uss_law_asking.proofs.Walk.{ComesOutAs, goes_on_by, acts_so, opens_so}
use Rattle.uss_law_asking.proofs.Recorded.{held_recorded, none_recorded}
use Rattle.uss_law_asking.proofs.Ends.{base_then}
use Rattle.uss_law_asking.proofs.Tries.{IsAcceptable, IsFirst}
use Rattle.uss_law_asking.proofs.Covers.{ticket_covers}

no_le : (n m : ℕ) → m < n → nat_le n m ≡ false
no_le n m l = grind (arith, nat_tests)

-- where the job stands once its query goes out

abbrev pub its_ticket : Standing → ℤ → FlightAsk → DssAsk
its_ticket s moment ask = ticket_put s.owner (opening_for s (clamped moment) ask).job (proposals_of ask.wish)

abbrev pub its_query : FlightAsk → DssAsk
its_query ask = Asks.Query (area_of ask.wish)

abbrev pub opened_book : Standing → ℤ → FlightAsk → List Entry
opened_book s moment ask = s.book ++ opening_entry s.book (clamped moment) ask ∷ []

abbrev pub looking_book : Standing → ℤ → FlightAsk → List Entry
looking_book s moment ask = opened_book s moment ask ++ Enters.TicketOpen (opening_for s (clamped moment) ask).job ∷ []

abbrev pub asked_values : Standing → ℤ → FlightAsk → Values
asked_values s moment ask = awaiting (opening_for s (clamped moment) ask).job (dss_call (opening_for s (clamped moment) ask).job (its_ticket s moment ask)) s.values

abbrev pub looks_from : Standing → ℤ → FlightAsk → Standing
looks_from s moment ask =
    record {
      owner = s.owner;
      book = looking_book s moment ask;
      values = awaiting (opening_for s (clamped moment) ask).job (dss_call (opening_for s (clamped moment) ask).job (its_query ask)) (asked_values s moment ask);
    }

abbrev pub the_new_ticket : Standing → ℤ → FlightAsk → Ticket
the_new_ticket s moment ask = new_ticket s.owner.name (ticket_number s.owner.number (opening_for s (clamped moment) ask).job) (area_of ask.wish) s.owner.base

abbrev pub ticketed : Standing → ℤ → FlightAsk → Service → Service
ticketed s moment ask service = record service { tickets = put_ticket (the_new_ticket s moment ask) service.tickets }

abbrev pub found_there : Standing → FlightAsk → Service → DssReply
found_there s ask service = Replies.Found (shown_all s.owner.name (found_in (area_of ask.wish) service.references))

-- its ticket is made

makes : (service : Service) (client : List ℕ) (ticket : ℕ) (area : Volume4D) (base : List ℕ) → ticket_of ticket service ≡ None → is_one_of ticket service.retired_tickets ≡ false → length service.tickets < 8192
    → service_step service client (Asks.TicketPut ticket area base) ≡ after_ticket_put service client ticket area base
makes service client ticket area base none unused few = rw (none, unused, no_le 8192 (length service.tickets) few) refl

pub ticket_step : (s : Standing) (moment : ℤ) (ask : FlightAsk) (service : Service) (served : List OperationalIntent) → IsUndisturbed s moment ask service served
    → service_step service s.owner.name (its_ticket s moment ask) ≡ (Replies.TicketMade (the_new_ticket s moment ask), ticketed s moment ask service)
ticket_step s moment ask service served calm = makes service s.owner.name _ _ _ calm.no_ticket calm.unused_ticket calm.few_tickets

pub ticketed_orderly : (s : Standing) (moment : ℤ) (ask : FlightAsk) (service : Service) (served : List OperationalIntent) → IsUndisturbed s moment ask service served → Dss.IsOrderly (ticketed s moment ask service)
ticketed_orderly s moment ask service served calm =
    subst (λ x. Dss.IsOrderly x.1) (ticket_step s moment ask service served calm) (step_orderly service s.owner.name (its_ticket s moment ask) calm.orderly)

pub looking_unfinished : (s : Standing) (moment : ℤ) (ask : FlightAsk) → IsSound s.owner s.book s.values → IsOpenJob (looking_book s moment ask) (opening_for s (clamped moment) ask)
looking_unfinished s moment ask sound =
    let o = opening_for s (clamped moment) ask in
    still (entered s (opening_entry s.book (clamped moment) ask)) o (Enters.TicketOpen o.job) (new_unfinished s (clamped moment) ask (legal_is_orderly s.book sound.legal)) (ticket_leaves_open o.job)

-- the exchange begins so
pub looks_so : (P : Said → Type 0) (s : Standing) (moment : ℤ) (ask : FlightAsk) (service : Service) (served : List OperationalIntent) → is_end ask.wish ≡ false → IsSound s.owner s.book s.values → IsUndisturbed s moment ask service served
    → ComesOutAs P s.owner.name served (looks_from s moment ask) moment (Comes.Dss (record { job = (opening_for s (clamped moment) ask).job; ask = its_query ask }) (found_there s ask service)) (ticketed s moment ask service)
    → ComesOutAs P s.owner.name served s moment (Comes.Ask ask) service
looks_so P s moment ask service served w sound calm next =
    let at = clamped moment in
    let orderly = legal_is_orderly s.book sound.legal in
    let o = opening_for s at ask in
    let e = opening_entry s.book at ask in
    let put = its_ticket s moment ask in
    let t = with_entry e (calling o.job (dss_call o.job put) s.values) in
    let s1 = stands_then s t in
    let t1 = with_entry (Enters.TicketOpen o.job) (calling o.job (dss_call o.job (its_query ask)) (asked_values s moment ask)) in
    let made = Replies.TicketMade (the_new_ticket s moment ask) in
    let opens : turn_of s moment (Comes.Ask ask) ≡ t =
    opens_so s moment ask orderly (legal_known s.book sound.legal) (plan_of s moment ask service served calm) calm.new (accepted_of s moment ask service served calm) ∙ ap (λ (x : Bool). with_entry e (asking (entered s e) o (first_kind x))) w in
    let step = ticket_step s moment ask service served calm in
    let fit : fits put made ≡ true = subst (λ x. fits put x.0 ≡ true) step (step_fits service s.owner.name put calm.orderly) in
    let acts : turn_of s1 moment (Comes.Dss (record { job = o.job; ask = put }) made) ≡ t1 =
    acts_so s1 moment o put made Waits.TicketPut (new_unfinished s at ask orderly) (awaiting_own o.job (dss_call o.job put) s.values) refl fit in
    goes_on_by P s.owner.name served s moment (Comes.Ask ask) service (record { job = o.job; ask = put }) t opens refl refl
    (subst (λ x. ComesOutAs P s.owner.name served s1 moment (Comes.Dss (record { job = o.job; ask = put }) x.0) x.1) (sym step)
    (goes_on_by P s.owner.name served s1 moment (Comes.Dss (record { job = o.job; ask = put }) made) (ticketed s moment ask service) (record { job = o.job; ask = its_query ask }) t1 acts refl refl next))

-- the book with the opening and the ticket

pub holding_stays : (flight job : ℕ) (book : List Entry) → holding flight (book ++ Enters.TicketOpen job ∷ []) ≡ holding flight book
unfolding holding has_ended holdings_of is_job_of opening_of
holding_stays flight job book =
    let e = Enters.TicketOpen job in
    let a : openings (book ++ e ∷ []) ≡ openings book = openings_append book (e ∷ []) ∙ append-nil (openings book) in
    let b : holdings (book ++ e ∷ []) ≡ holdings book = holdings_append book (e ∷ []) ∙ append-nil (holdings book) in
    let c : endings (book ++ e ∷ []) ≡ endings book = endings_append book (e ∷ []) ∙ append-nil (endings book) in
    rw (a, b, c) refl

pub looking_base : (s : Standing) (moment : ℤ) (ask : FlightAsk) → IsSound s.owner s.book s.values → current_ovn_of ask.flight (looking_book s moment ask) ≡ current_ovn_of ask.flight s.book
looking_base s moment ask sound =
    ap (option_map (λ (h : Holding). h.ovn)) (holding_stays ask.flight (opening_for s (clamped moment) ask).job (opened_book s moment ask)) ∙ base_then s (clamped moment) ask sound

pub looking_trials : (s : Standing) (moment : ℤ) (ask : FlightAsk) → trials (looking_book s moment ask) ≡ trials s.book
looking_trials s moment ask =
    let e1 = opening_entry s.book (clamped moment) ask in
    let e2 = Enters.TicketOpen (opening_for s (clamped moment) ask).job in
    trials_append (s.book ++ e1 ∷ []) (e2 ∷ []) ∙ append-nil (trials (s.book ++ e1 ∷ [])) ∙ trials_append s.book (e1 ∷ []) ∙ append-nil (trials s.book)

few_tags : (s : Standing) → IsSound s.owner s.book s.values → length (trials s.book) + 1 < 2 ^ 64
few_tags s sound =
    let d = sound_of s.owner s.book s.values sound in
    let a = few_jobs s.book d.room in
    let b = few_trials s.book d.orderly d.known in
    omega (arith, a, b)

pub first_at : (s : Standing) (moment : ℤ) (ask : FlightAsk) (alternative : ℕ) (to : State) (priority rounds : ℕ) (proposals : List Proposal) (proposal : Proposal) → IsSound s.owner s.book s.values → ask.wish ≡ Put to priority rounds proposals
    → slice_get proposals alternative ≡ Some proposal → IsFirst (looks_from s moment ask) (opening_for s (clamped moment) ask) alternative to priority rounds proposals proposal
first_at s moment ask alternative to priority rounds proposals proposal sound w at =
    let o = opening_for s (clamped moment) ask in
    let orderly = legal_is_orderly s.book sound.legal in
    let same = looking_trials s moment ask in
    record {
      unfinished = looking_unfinished s moment ask sound;
      owned = owner_kept (opened_book s moment ask) _ s.owner (owner_kept s.book _ s.owner sound.owned);
      wish = w;
      at = at;
      untried = same_trials o.job (opened_book s moment ask) ∙ Asking.same_trials o.job s.book (clamped moment) ask ∙ new_untried s.book o.job orderly refl;
      tags = subst (λ (l : List Trial). (t : Trial) → Has l t → t.tag ≤ length l) (sym same) orderly.tag_numbers;
      fits = subst (λ (l : List Trial). length l + 1 < 2 ^ 64) (sym same) (few_tags s sound);
    }

-- an alternative is a plan

at_slice : {X : Type 0} (P : X → Type 0) (xs : List X) (i : ℕ) (x : X) → All P xs → slice_get xs i ≡ Some x → P x
at_slice P [] i x a e = cc
at_slice P (y ∷ ys) zero x a e = subst P (some_same y x e) (All-head P y ys a)
at_slice P (y ∷ ys) (suc i) x a e = at_slice P ys i x (All-tail P y ys a) e

pub has_slice : {X : Type 0} (xs : List X) (i : ℕ) (x : X) → slice_get xs i ≡ Some x → Has xs x
has_slice [] i x e = cc
has_slice (y ∷ ys) zero x e = inl (some_same y x e)
has_slice (y ∷ ys) (suc i) x e = inr (has_slice ys i x e)

abbrev IsGood : List Volume4D → Type 0
IsGood extents = (1 ≤ length extents) × (length extents ≤ 64) × (vertex_count extents ≤ 10000)

le_so : (a b : ℕ) → nat_le a b ≡ true → a ≤ b
le_so a b h = grind (arith, nat_tests)

good_plan : (to : State) (p : Proposal) (priority : ℕ) → is_plan to p.volumes p.off_nominal priority ≡ true → IsGood (p.volumes ++ p.off_nominal)
unfolding is_plan
good_plan to p priority h =
    let a = both (nat_le (length p.volumes + length p.off_nominal) 64) _ h in
    let b = both (nat_le (vertex_count p.volumes + vertex_count p.off_nominal) 10000) _ a.1 in
    let c = both (may_be_off_nominal to || nat_le (length p.off_nominal) 0) (nat_lt 0 (length p.volumes + length p.off_nominal) && nat_le priority 1000) b.1 in
    let d = both (nat_lt 0 (length p.volumes + length p.off_nominal)) (nat_le priority 1000) c.1 in
    let l = length-append p.volumes p.off_nominal in
    let v = sum_by-append (λ (v : Volume4D). length v.outline) p.volumes p.off_nominal in
    let x = le_so (length p.volumes + length p.off_nominal) 64 a.0 in
    let y = le_so (vertex_count p.volumes + vertex_count p.off_nominal) 10000 b.0 in
    let z = less_is 0 (length p.volumes + length p.off_nominal) d.0 in
    (omega (arith, l, z), omega (arith, l, x), omega (arith, v, y))

good_put : (extents : List Volume4D) (key : List (List ℕ)) → IsGood extents → length key ≤ 1024 → is_bad_put extents key ≡ false
good_put extents key g k =
    let a = g.0 in
    let b = g.1 in
    let c = g.2 in
    left_false _ _ (unequal_number (length extents) 0 (λ q. omega (arith, a, q))) (left_false _ _ (no_lt 64 (length extents) b) (left_false _ _ (no_lt 10000 (vertex_count extents) c) (no_lt 1024 (length key) k)))
  where
    no_lt : (n m : ℕ) → m ≤ n → nat_lt n m ≡ false
    no_lt n m l = grind (arith, nat_tests)

some_extent : (vs : List Volume4D) → 1 ≤ length vs → (v : Volume4D) × Has vs v
some_extent [] l = absurd (omega (arith, l))
some_extent (v ∷ vs) l = (v, inl refl)

-- what is recorded of the flight is what is held of it

record Agrees (client : List ℕ) (ovn : Option (List ℕ)) (r : Option Recorded) : Type 0 where
  yours : is_others client r ≡ false
  absent : (is_none ovn && is_some r) ≡ false
  there : (is_some ovn && is_none r) ≡ false
  latest : is_stale_change r ovn ≡ false

agrees : (s : Standing) (moment : ℤ) (ask : FlightAsk) (service : Service) (served : List OperationalIntent) → IsSound s.owner s.book s.values → IsUndisturbed s moment ask service served
    → Agrees s.owner.name (current_ovn_of ask.flight s.book) (recorded_of (flight_of s.owner (opening_for s (clamped moment) ask)) service)
agrees s moment ask service served sound calm = go (holding ask.flight s.book) refl
  where
    id : ℕ
    id = flight_of s.owner (opening_for s (clamped moment) ask)

    go : (x : Option Holding) → holding ask.flight s.book ≡ x → Agrees s.owner.name (current_ovn_of ask.flight s.book) (recorded_of id service)
    go None e =
        let n = none_recorded s moment ask service served calm e in
        let b : current_ovn_of ask.flight s.book ≡ None = ap (option_map (λ (h : Holding). h.ovn)) e in
        subst (λ x. Agrees s.owner.name x (recorded_of id service)) (sym b) (subst (λ x. Agrees s.owner.name None x) (sym n) (record { yours = refl; absent = refl; there = refl; latest = refl }))
    go (Some h) e =
        let r = held_recorded s ask service h sound calm.orderly calm.recorded e in
        let m : same_text r.it.reference.manager s.owner.name ≡ true = equal_bytes r.it.reference.manager s.owner.name r.manager in
        let v : has_ovn r.it.reference.ovn h.ovn ≡ true = ap (λ x. has_ovn x h.ovn) r.ovn_is ∙ equal_bytes h.ovn h.ovn refl in
        subst (λ x. Agrees s.owner.name x (recorded_of id service)) (sym r.base)
        (subst (λ x. Agrees s.owner.name (Some h.ovn) x) (sym r.found) (record { yours = ap not m; absent = refl; there = refl; latest = ap not v }))

-- its ticket is there

new_there : (t : Ticket) (ts : List Ticket) → find (λ (x : Ticket). x.id == t.id) ts ≡ None → find (λ (x : Ticket). x.id == t.id) (put_ticket t ts) ≡ Some t
new_there t [] h = rw (equal_number t.id t.id refl) refl
new_there t (x ∷ xs) h = at (nat_lt t.id x.id) (x.id == t.id) refl h (new_there t xs)
  where
    at : (a b : Bool) → (x.id == t.id) ≡ b → cond b (Some x) (find (λ (x : Ticket). x.id == t.id) xs) ≡ None
        → (find (λ (x : Ticket). x.id == t.id) xs ≡ None → find (λ (x : Ticket). x.id == t.id) (put_ticket t xs) ≡ Some t)
        → find (λ (x : Ticket). x.id == t.id) (cond a (t ∷ x ∷ xs) (x ∷ put_ticket t xs)) ≡ Some t
    at true b e h rec = rw (equal_number t.id t.id refl) refl
    at false true e h rec = cc
    at false false e h rec = rw e (rec h)

version_below : (flight : ℕ) (service : Service) → ((r : Recorded) → Has service.references r → r.reference.version < 4294967295) → is_at_last_version (recorded_of flight service) ≡ false
version_below flight service few = go (recorded_of flight service) refl
  where
    go : (x : Option Recorded) → recorded_of flight service ≡ x → is_at_last_version x ≡ false
    go None e = refl
    go (Some r) e =
        let h = find_has (λ (x : Recorded). x.reference.flight == flight) service.references r e in
        let l = few r h.0 in
        unequal_number r.reference.version 4294967295 (λ q. omega (arith, l, q))

-- the attempt is accepted, where its key has what it has to
pub is_acceptable : (s : Standing) (moment : ℤ) (ask : FlightAsk) (service : Service) (served : List OperationalIntent) (alternative : ℕ) (key : List (List ℕ)) (to : State) (priority rounds : ℕ) (proposals : List Proposal) (proposal : Proposal)
    → IsSound s.owner s.book s.values → IsUndisturbed s moment ask service served → ask.wish ≡ Put to priority rounds proposals → slice_get proposals alternative ≡ Some proposal → length key ≤ 1024
    → (is_strategic to && not (length (lacking key (relevant (flight_of s.owner (opening_for s (clamped moment) ask)) (proposal.volumes ++ proposal.off_nominal) service)) == 0)) ≡ false
    → IsAcceptable (ticketed s moment ask service) s.owner.name (flight_of s.owner (opening_for s (clamped moment) ask)) (current_ovn_of ask.flight (looking_book s moment ask)) (proposal.volumes ++ proposal.off_nominal) key to
    (ticket_number s.owner.number (opening_for s (clamped moment) ask).job)
is_acceptable s moment ask service served alternative key to priority rounds proposals proposal sound calm w at few covered =
    let flight = flight_of s.owner (opening_for s (clamped moment) ask) in
    let plans : ArePlans to priority rounds proposals = are_plans to priority rounds proposals (ap plan_refusal (sym w) ∙ (plan_of s moment ask service served calm)) in
    let plan = at_slice (λ (p : Proposal). IsTrue (is_plan to p.volumes p.off_nominal priority)) proposals alternative proposal plans.each at in
    let good = good_plan to proposal priority plan in
    let same = looking_base s moment ask sound in
    let a = subst (λ x. Agrees s.owner.name x (recorded_of flight service)) (sym same) (agrees s moment ask service served sound calm) in
    let ticket = the_new_ticket s moment ask in
    let there : ticket_of ticket.id (ticketed s moment ask service) ≡ Some ticket = new_there ticket service.tickets calm.no_ticket in
    let one = some_extent (proposal.volumes ++ proposal.off_nominal) good.0 in
    let lies = subst (λ (x : Wish). lies_in (bounding_box (proposal.volumes ++ proposal.off_nominal)) (box_of (area_of x)) ≡ true) (sym w)
    (ticket_covers proposals proposal one.0 (has_slice proposals alternative proposal at) one.1) in
    record {
      good = good_put (proposal.volumes ++ proposal.off_nominal) key good few;
      yours = a.yours;
      absent = a.absent;
      alive = calm.alive;
      there = a.there;
      latest = a.latest;
      ticketed = ap (is_no_ticket_of s.owner.name) there ∙ ap not (equal_bytes s.owner.name s.owner.name refl);
      covered = ap (λ x. is_uncovered x (proposal.volumes ++ proposal.off_nominal)) there ∙ ap not lies;
      keyed = covered;
      room = first_false (is_none (current_ovn_of ask.flight (looking_book s moment ask))) _ (no_le 4096 (length service.references) calm.few_references);
      version = version_below flight service calm.few_versions;
      landings = no_le 9999999999999999 (length service.landings) calm.few_landings;
    }

pub looking_untried : (s : Standing) (moment : ℤ) (ask : FlightAsk) → IsSound s.owner s.book s.values → trials_of (opening_for s (clamped moment) ask).job (looking_book s moment ask) ≡ []
looking_untried s moment ask sound =
    let o = opening_for s (clamped moment) ask in
    same_trials o.job (opened_book s moment ask) ∙ Asking.same_trials o.job s.book (clamped moment) ask ∙ new_untried s.book o.job (legal_is_orderly s.book sound.legal) refl

-- the base says whether the flight is new
pub base_new : (s : Standing) (moment : ℤ) (ask : FlightAsk) → IsSound s.owner s.book s.values → is_none (current_ovn_of ask.flight (looking_book s moment ask)) ≡ is_new s ask
unfolding held
base_new s moment ask sound = ap is_none (looking_base s moment ask sound) ∙ go (holding ask.flight s.book) refl
  where
    go : (x : Option Holding) → holding ask.flight s.book ≡ x → is_none (option_map (λ (h : Holding). h.ovn) (holding ask.flight s.book)) ≡ is_none (held_by s.book (holding ask.flight s.book))
    go None e = rw e refl
    go (Some h) e = let k = held_of s.book ask.flight h (legal_is_orderly s.book sound.legal) e in rw (e, k.found) refl
