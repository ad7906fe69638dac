-- A call that the discovery service takes keeps what holds.
use Rattle.std.proofs.Common.{ℕ, ◌<◌, ◌≡◌, ◌⊎◌, inl, inr, ◌==◌, ◌^◌, ◌||◌, Bool, true, false, not, List, [], ◌∷◌, ◌++◌, refl, ap, sym, subst, ◌∙◌, Option, Some, None, unwrap_or, arith}
use Rattle.std.proofs.lemmas.List.{append-nil}
use Rattle.uss_vol4.specs.Volume.{Volume4D}
use Rattle.uss_intent.specs.Identifiers.{ticket_number}
use Rattle.uss_intent.specs.Tags.{tag_of}
use Rattle.uss_intent.specs.Same.{same_text}
use Rattle.uss_intent.specs.declared.records.Recorded.{Recorded}
use Rattle.uss_intent.specs.declared.records.Landing.{Landing}
use Rattle.uss_intent.specs.declared.records.State.{State}
use Rattle.uss_intent.specs.declared.records.Ticket.{Ticket}
use Rattle.uss_intent.specs.declared.calls.DssAsk.{DssAsk}
use Rattle.uss_intent.specs.declared.calls.DssAsk.TheVariants as Asks
use Rattle.uss_intent.specs.declared.calls.DssReply.{DssReply}
use Rattle.uss_intent.specs.declared.calls.DssReply.TheVariants as Replies
use Rattle.uss_intent.specs.declared.calls.DssRefusal.{DssRefusal}
use Rattle.uss_intent.specs.declared.calls.DssRefusal.TheVariants as Refuses
use Rattle.uss_intent.specs.States.{is_strategic}
use Rattle.uss_intent.specs.Numbers.{is_one_of}
use Rattle.uss_event.specs.declared.entries.Owner.{Owner}
use Rattle.uss_event.specs.declared.calls.DssCall.{DssCall}
use Rattle.uss_law_dss.specs.Lists.{Has}
use Rattle.uss_law_dss.specs.Service.{Service, recorded_of, ticket_of, shown_to, relevant, in_key}
use Rattle.uss_law_dss.specs.Refusals.{is_cited, refusal_of}
use Rattle.uss_law_dss.specs.Step.{put_recorded, landed, landing_of, new_ticket, after_put, after_remove, after_ticket_put, after_ticket_remove, service_step}
use Rattle.uss_law_dss.specs.Effects.{Effect, Lands, Stays, TellsNoChange}
use Rattle.uss_law_dss.specs.Effects.Effect.{lands, removes, makes_ticket, takes_ticket_out, stays}
use Rattle.uss_law_dss.specs.Orderly.{IsOrderly, IsAsLanded}
use Rattle.uss_law_dss.proofs.Lists.{has_push, has_left, has_last, has_filter, has_filtered, find_has, list_any_has, find_none}
use Rattle.uss_law_dss.proofs.Tests.{either, neither, same_number, equal_number, other_number, equal_bytes, some_same, not_both}
use Rattle.uss_law_dss.proofs.Placed.{put_there, put_keeps, put_others}
use Rattle.uss_law_dss.proofs.Retired.{pushed_in, pushed_before}
use Rattle.uss_law_dss.proofs.EachEffect.{effect}
use Rattle.uss_law_dss.proofs.EachOrderly.{step_orderly}
use Rattle.uss_law_book.specs.Contents.{is_closed}
use Rattle.uss_law_book.specs.Attempts.{Attempted, attempt_of, extents_of, put_of, recorded_as}
use Rattle.uss_law_world.specs.World.{Supplier, World, book_of, name_of}
use Rattle.uss_law_world.specs.World.Post.{Called, Replied}
use Rattle.uss_law_world.specs.Moves.{after_call}
use Rattle.uss_law_world.specs.Free.{AreSuppliers}
use Rattle.uss_law_world.specs.Claims.{rank_of, IsLandingOf, is_unsettling}
use Rattle.uss_law_world.specs.Invariants.{ShowsLanding, IsTicketThereOrGone, IsTicketMadeOf, IsRemovedOf}
use Rattle.uss_law_world.proofs.Books.{legal_facts}
use Rattle.uss_law_world.proofs.Lookups.{same_ticket}
use Rattle.uss_law_world.proofs.Facts.{LandingFrom, RecordedFrom, AreApart, IsTriedPut, NamesHeld, IsEndOf, IsRemoveSent, IsToEnd, IsTicketOf, CallFrom, RefusedShows, ReplyShows, IsRecorded, IsStanding, Facts}
use Rattle.uss_law_world.proofs.Grows.{IsTicketKept, Grows, News, kept, recorded_from, names_held, end_of, shows, reply_shows, entered_still}
use Rattle.uss_law_world.proofs.Parts.{Stands, at, attempt_manager, attempt_ticket, base_tag}
use Rattle.uss_law_world.proofs.References.{same_reference}
use Rattle.uss_law_world.proofs.Tickets.{put_ticket_there, kept_by_put, kept_by_remove, kept_by_ticket_put, kept_by_ticket_remove, ticket_exists}
use Rattle.uss_law_world.proofs.Jobs.{by_opening, landing_of_recorded, settled}
use Rattle.uss_law_world.proofs.Ranks.{rank_kept, rank_of_new}
use Rattle.uss_law_world.proofs.Clear.{not_forbidden, forbidden_sym}
use Rattle.uss_law_world.proofs.Shown.{recorded_shows, sender}
use Rattle.uss_law_world.proofs.Replies.{TellsOfState, tells, retired_told, missing_shown, ticket_in_use, put_exists, put_stale, one_recorded, IsOtherwise}

or_first : (a : Bool) → (a || false) ≡ true → a ≡ true
or_first true h = refl
or_first false h = h

-- the identifier that makes the difference
pushed_is : (n m : ℕ) (ns : List ℕ) → is_one_of n ns ≡ false → is_one_of n (ns ++ m ∷ []) ≡ true → m ≡ n
pushed_is n m [] e h = same_number m n (or_first (m == n) h)
pushed_is n m (x ∷ ns) e h = let f = neither (x == n) (is_one_of n ns) e in pushed_is n m ns f.1 (either (x == n) (is_one_of n (ns ++ m ∷ [])) h f.0)

-- what is to be shown of a call that the service takes, with this reply and this state after it
pub record Taken (table : List ℕ) (owners : List Owner) (w : World) (k s : ℕ) (call : DssCall) (out : DssReply × Service) : Type 0 where
  pub service : IsOrderly out.1
  pub keeps_landings : (l : Landing) → Has w.service.landings l → Has out.1.landings l
  pub keeps_ranks : (flight : ℕ) (l : Landing) → Has w.service.landings l → rank_of flight l.ovn out.1.landings ≡ rank_of flight l.ovn w.service.landings
  pub keeps_flights : (n : ℕ) → is_one_of n w.service.retired_flights ≡ true → is_one_of n out.1.retired_flights ≡ true
  pub keeps_tickets : (n : ℕ) → is_one_of n w.service.retired_tickets ≡ true → is_one_of n out.1.retired_tickets ≡ true
  pub keeps_there : (t : Ticket) → Has w.service.tickets t → IsTicketKept out.1 t
  pub shows : ReplyShows (after_call w k s call out) s call.job call.ask out.0
  pub landings : (l : Landing) → Has out.1.landings l → Has w.service.landings l ⊎ LandingFrom (after_call w k s call out) l
  pub recorded : (r : Recorded) → Has out.1.references r → Has w.service.references r ⊎ RecordedFrom (after_call w k s call out) r
  pub apart : (r q : Recorded) → Has out.1.references r → Has out.1.references q → (Has w.service.references r × Has w.service.references q) ⊎ AreApart table (after_call w k s call out) r q
  pub standing : (l : Landing) → Has out.1.landings l → IsStanding (after_call w k s call out) l
  pub retired : (n : ℕ) → is_one_of n out.1.retired_flights ≡ true → (is_one_of n w.service.retired_flights ≡ true) ⊎ IsToEnd (after_call w k s call out) n

-- the world grows by it
record Keeps (w : World) (out : DssReply × Service) : Type 0 where
  landings : (l : Landing) → Has w.service.landings l → Has out.1.landings l
  ranks : (flight : ℕ) (l : Landing) → Has w.service.landings l → rank_of flight l.ovn out.1.landings ≡ rank_of flight l.ovn w.service.landings
  flights : (n : ℕ) → is_one_of n w.service.retired_flights ≡ true → is_one_of n out.1.retired_flights ≡ true
  tickets : (n : ℕ) → is_one_of n w.service.retired_tickets ≡ true → is_one_of n out.1.retired_tickets ≡ true
  there : (t : Ticket) → Has w.service.tickets t → IsTicketKept out.1 t

call_grows : (w : World) (k s : ℕ) (call : DssCall) (out : DssReply × Service) → Keeps w out → Grows w (after_call w k s call out)
call_grows w k s call out t =
    record {
      names = λ i. refl;
      books = λ i. ([], sym (append-nil (book_of i w)));
      untried = λ i d h t m q. m;
      landings = t.landings;
      ranks = t.ranks;
      flights = t.flights;
      tickets = t.tickets;
      there = t.there;
    }

reply_is : (s k i n : ℕ) (call c : DssCall) (x y : DssReply) → Replied s k call x ≡ Replied i n c y → (s ≡ i) × (call ≡ c) × (x ≡ y)
reply_is s k i n call c x y e = (cc, cc, cc)

pub taken_news : (table : List ℕ) (owners : List Owner) (w : World) (k s : ℕ) (call : DssCall) (out : DssReply × Service) → Taken table owners w k s call out → Facts table owners w
    → News table owners w (after_call w k s call out)
taken_news table owners w k s call out t j =
    record {
      grows = call_grows w k s call out (record { landings = t.keeps_landings; ranks = t.keeps_ranks; flights = t.keeps_flights; tickets = t.keeps_tickets; there = t.keeps_there });
      service = t.service;
      suppliers = j.suppliers;
      calls = λ i c h. elim (has_push w.posts _ _ h) [ inl old ↦ inl old | inr e ↦ cc ];
      due = λ i c h. elim (has_push w.posts _ _ h) [ inl old ↦ inl old | inr e ↦ cc ];
      replies = λ i n c reply h. elim (has_push w.posts _ _ h) [ inl old ↦ inl old | inr e ↦ inr (new i n c reply e) ];
      said = λ x p h e. inl h;
      served = λ i n c p h. elim (has_push w.posts _ _ h) [ inl old ↦ inl old | inr e ↦ cc ];
      notes = λ i to job place base note p h q. elim (has_push w.posts _ _ h) [ inl old ↦ inl old | inr e ↦ cc ];
      heard = λ i p h. inl h;
      entered = λ i h m. inl m;
      keys = λ i tag a h. inl h;
      landings = t.landings;
      recorded = t.recorded;
      apart = t.apart;
      standing = t.standing;
      retired = t.retired;
      closed = λ i d h. inl h;
      sayings = λ x h. inl h;
    }
  where
    new : (i n : ℕ) (c : DssCall) (reply : DssReply) → Replied s k call out.0 ≡ Replied i n c reply → ReplyShows (after_call w k s call out) i c.job c.ask reply
    new i n c reply e =
        let x = reply_is s k i n call c out.0 reply e in
        let a : ReplyShows (after_call w k s call out) s call.job call.ask reply = subst (λ z. ReplyShows (after_call w k s call out) s call.job call.ask z) x.2 t.shows in
        let b : ReplyShows (after_call w k s call out) s c.job c.ask reply = subst (λ (z : DssCall). ReplyShows (after_call w k s call out) s z.job z.ask reply) x.1 a in
        subst (λ z. ReplyShows (after_call w k s call out) z c.job c.ask reply) x.0 b

-- a landing

put_is : (flight : ℕ) (ovn : Option (List ℕ)) (extents : List Volume4D) (key : List (List ℕ)) (state : State) (base : List ℕ) (ticket : ℕ) (a : Attempted)
    → Asks.Put flight ovn extents key state base ticket ≡ put_of a
    → (flight ≡ a.flight) × (ovn ≡ a.previous) × (extents ≡ extents_of a) × (key ≡ a.key) × (state ≡ a.state) × (base ≡ a.base) × (ticket ≡ a.ticket)
put_is flight ovn extents key state base ticket a e = (cc, cc, cc, cc, cc, cc, cc)

module _ (table : List ℕ) (owners : List Owner) (w : World) (names : AreSuppliers table owners) (j : Facts table owners w) (k s : ℕ) (call : DssCall) where
  -- the reference that is replaced was entered
  replaced : (a : Attempted) → attempt_of a.tag (book_of s w) ≡ Some a → (o : List ℕ) → a.previous ≡ Some o → NamesHeld w s o
  replaced a found o e =
      let p = at table owners w names j s a.tag a found in
      let b = (legal_facts (book_of s w) p.legal).based_on p.trial o p.tried (sym p.its.previous ∙ e) in
      record { holding = b.0; entered = b.1; ovn_is = b.2 }

  module _ (a : Attempted) (found : attempt_of a.tag (book_of s w) ≡ Some a) (out : DssReply × Service)
      (is : out ≡ after_put w.service (name_of s w) a.flight a.previous (extents_of a) a.state a.base a.ticket)
      (l : Lands w.service (name_of s w) (put_of a) out) (orderly : IsOrderly out.1) where
    abbrev v : World
    v = after_call w k s call (after_put w.service (name_of s w) a.flight a.previous (extents_of a) a.state a.base a.ticket)

    abbrev made : Recorded
    made = landed w.service (name_of s w) a.flight (extents_of a) a.state a.base a.ticket

    abbrev new : Landing
    new = landing_of w.service (name_of s w) a.flight a.previous a.base a.ticket

    pub fields : (l.flight ≡ a.flight) × (l.ovn ≡ a.previous) × (l.extents ≡ extents_of a) × (l.key ≡ a.key) × (l.state ≡ a.state) × (l.base ≡ a.base) × (l.ticket ≡ a.ticket)
    fields = put_is l.flight l.ovn l.extents l.key l.state l.base l.ticket a (sym l.is)

    pub keyed : is_strategic a.state ≡ true → (r : Recorded) → Has (relevant a.flight (extents_of a) w.service) r → in_key a.key r.reference ≡ true
    keyed e r h =
        let x : Has (relevant l.flight l.extents w.service) r =
        subst (λ z. Has (relevant z l.extents w.service) r) (sym fields.0) (subst (λ (z : List Volume4D). Has (relevant a.flight z w.service) r) (sym fields.2) h) in
        subst (λ (z : List (List ℕ)). in_key z r.reference ≡ true) fields.3 (l.keyed (subst (λ z. is_strategic z ≡ true) (sym fields.4) e) r x)

    tag : unwrap_or (tag_of a.base) 0 ≡ a.tag
    tag = base_tag table owners w names j s a.tag a found

    manager : name_of s w ≡ a.manager
    manager = sym (attempt_manager table owners w names j s a.tag a found)

    has_new : Has v.service.landings new
    has_new = has_last w.service.landings new

    there_after : (t : Ticket) → Has w.service.tickets t → IsTicketKept v.service t
    there_after = kept_by_put w.service (name_of s w) a.flight a.previous (extents_of a) a.state a.base a.ticket

    grows : Grows w v
    grows = call_grows w k s call _ (record { landings = λ m h. has_left w.service.landings (new ∷ []) m h; ranks = λ flight m h. rank_kept flight m.ovn w.service.landings (new ∷ []) m h refl; flights = λ n h. h; tickets = λ n h. h; there = there_after })

    from : LandingFrom v new
    from =
        record {
          s = s;
          attempt = a;
          found = subst (λ z. attempt_of z (book_of s w) ≡ Some a) (sym tag) found;
          manager = manager;
          flight = refl;
          previous = refl;
          ticket = refl;
        }

    abbrev record_new : RecordedFrom v made
    record_new = record { s = s; attempt = a; found = found; flight = refl; manager = manager; state = refl; extents = refl; base = refl; ticket = refl }

    show : ShowsLanding v s made.reference
    show o e =
        record {
          landing = new;
          landed = has_new;
          ovn_is = some_same new.ovn o e;
          manager = refl;
          flight = refl;
          tag = refl;
          version = rank;
          attempt = a;
          found = subst (λ z. attempt_of z (book_of s w) ≡ Some a) (sym tag) found;
          is = same_reference made.reference (recorded_as a o made.reference.version).reference refl manager refl refl e refl refl refl refl;
        }
      where
        rank : rank_of new.flight new.ovn v.service.landings ≡ made.reference.version
        rank =
            let after : IsOrderly (after_put w.service (name_of s w) a.flight a.previous (extents_of a) a.state a.base a.ticket).1 = subst (λ (z : DssReply × Service). IsOrderly z.1) is orderly in
            let few = after.few_landings in
            rank_of_new a.flight 0 w.service.landings new after.numbered (omega (arith, few)) ∙ sym (after.versions made (put_there made w.service.references))

    -- what was recorded of the flight before
    pub before : (r : Recorded) → Has w.service.references r → r.reference.flight ≡ a.flight → (o : List ℕ) → r.reference.ovn ≡ Some o → a.previous ≡ Some o
    before r h e o q = go a.previous refl
      where
        go : (x : Option (List ℕ)) → a.previous ≡ x → x ≡ Some o
        go None y =
            let c = (l.creates (fields.1 ∙ y)).0 in
            let n = find_none (λ (z : Recorded). z.reference.flight == l.flight) w.service.references r c h in
            absurd (not_both (r.reference.flight == l.flight) (equal_number r.reference.flight l.flight (e ∙ sym fields.0)) n)
        go (Some p) y =
            let c = l.changes p (fields.1 ∙ y) in
            let f = find_has (λ (z : Recorded). z.reference.flight == l.flight) w.service.references c.0 c.1 in
            let same : r ≡ c.0 = one_recorded w.service.references r c.0 j.service.references_ascend h f.0 (e ∙ (sym fields.0 ∙ sym (same_number c.0.reference.flight l.flight f.1))) in
            sym c.3 ∙ (ap (λ (z : Recorded). z.reference.ovn) (sym same) ∙ q)

    standing_old : (m : Landing) → IsStanding w m → IsStanding v m
    standing_old m (inl e) = inl (entered_still grows m e)
    standing_old m (inr r) = go (r.recorded.reference.flight == a.flight) refl
      where
        go : (x : Bool) → (r.recorded.reference.flight == a.flight) ≡ x → IsStanding v m
        go false e = inr (record { recorded = r.recorded; there = put_keeps made w.service.references r.recorded r.there (other_number r.recorded.reference.flight a.flight e); ovn_is = r.ovn_is })
        go true e =
            let p = before r.recorded r.there (same_number r.recorded.reference.flight a.flight e) m.ovn r.ovn_is in
            inl (record { s = s; names = names_held grows s m.ovn (replaced a found m.ovn p) })

    standing : (m : Landing) → Has v.service.landings m → IsStanding v m
    standing m h = elim (has_push w.service.landings new m h) [
      | inl old ↦ standing_old m (j.standing m old)
      | inr e ↦ subst (IsStanding v) e (inr (record { recorded = made; there = put_there made w.service.references; ovn_is = refl }))
    ]

    first_apart : (q : Recorded) → Has w.service.references q → AreApart table v made q
    unfolding recorded_from
    first_apart q h =
        record {
          first = record_new;
          second = recorded_from grows q (j.recorded q h);
          apart = λ x. not_forbidden table owners w names j s a.tag a found keyed q h (j.recorded q h) x;
        }

    second_apart : (r : Recorded) → Has w.service.references r → AreApart table v r made
    unfolding recorded_from
    second_apart r h =
        record {
          first = recorded_from grows r (j.recorded r h);
          second = record_new;
          apart = λ x. not_forbidden table owners w names j s a.tag a found keyed r h (j.recorded r h) (forbidden_sym table (j.recorded r h).attempt a x);
        }

    apart : (r q : Recorded) → (made ≡ r) ⊎ Has w.service.references r → (made ≡ q) ⊎ Has w.service.references q → (Has w.service.references r × Has w.service.references q) ⊎ AreApart table v r q
    apart r q (inr h) (inr i) = inl (h, i)
    apart r q (inl e) (inl f) = inr (subst (λ z. AreApart table v z q) e (subst (λ z. AreApart table v made z) f (record { first = record_new; second = record_new; apart = λ x. x.flights refl })))
    apart r q (inl e) (inr i) = inr (subst (λ z. AreApart table v z q) e (first_apart q i))
    apart r q (inr h) (inl f) = inr (subst (λ z. AreApart table v r z) f (second_apart r h))

    which : (r : Recorded) → Has (put_recorded made w.service.references) r → (made ≡ r) ⊎ Has w.service.references r
    which r h = elim (put_others made w.service.references r j.service.references_ascend h) [ inl e ↦ inl e | inr o ↦ inr o.0 ]

    put_taken : Taken table owners w k s call (after_put w.service (name_of s w) a.flight a.previous (extents_of a) a.state a.base a.ticket)
    put_taken =
        record {
          service = subst (λ (z : DssReply × Service). IsOrderly z.1) is orderly;
          keeps_landings = λ m h. has_left w.service.landings (new ∷ []) m h;
          keeps_ranks = λ flight m h. rank_kept flight m.ovn w.service.landings (new ∷ []) m h refl;
          keeps_flights = λ n h. h;
          keeps_tickets = λ n h. h;
          keeps_there = there_after;
          shows = show;
          landings = λ m h. elim (has_push w.service.landings new m h) [ inl old ↦ inl old | inr e ↦ inr (subst (LandingFrom v) e from) ];
          recorded = λ r h. elim (which r h) [ inl e ↦ inr (subst (RecordedFrom v) e record_new) | inr old ↦ inl old ];
          apart = λ r q h i. apart r q (which r h) (which q i);
          standing = standing;
          retired = λ n h. inl h;
        }

    pub lands_taken : Taken table owners w k s call out
    lands_taken = subst (λ z. Taken table owners w k s call z) (sym is) put_taken

-- a removal, a new ticket, a ticket's removal, and no change

module _ (table : List ℕ) (owners : List Owner) (w : World) (names : AreSuppliers table owners) (j : Facts table owners w) (k s : ℕ) (call : DssCall) where
  -- a call that lands nothing: fewer references, the same landings
  module _ (out : DssReply × Service) (orderly : IsOrderly out.1) (same : out.1.landings ≡ w.service.landings) (fewer : (r : Recorded) → Has out.1.references r → Has w.service.references r)
      (flights : (n : ℕ) → is_one_of n w.service.retired_flights ≡ true → is_one_of n out.1.retired_flights ≡ true)
      (tickets : (n : ℕ) → is_one_of n w.service.retired_tickets ≡ true → is_one_of n out.1.retired_tickets ≡ true)
      (kept_there : (t : Ticket) → Has w.service.tickets t → IsTicketKept out.1 t)
      (shows : ReplyShows (after_call w k s call out) s call.job call.ask out.0)
      (standing : (l : Landing) → Has w.service.landings l → IsStanding (after_call w k s call out) l)
      (retired : (n : ℕ) → is_one_of n out.1.retired_flights ≡ true → (is_one_of n w.service.retired_flights ≡ true) ⊎ IsToEnd (after_call w k s call out) n) where
    pub quiet_taken : Taken table owners w k s call out
    quiet_taken =
        record {
          service = orderly;
          keeps_landings = λ l h. subst (λ ls. Has ls l) (sym same) h;
          keeps_ranks = λ flight l h. ap (rank_of flight l.ovn) same;
          keeps_flights = flights;
          keeps_tickets = tickets;
          keeps_there = kept_there;
          shows = shows;
          landings = λ l h. inl (subst (λ ls. Has ls l) same h);
          recorded = λ r h. inl (fewer r h);
          apart = λ r q h i. inl (fewer r h, fewer q i);
          standing = λ l h. standing l (subst (λ ls. Has ls l) same h);
          retired = retired;
        }

  -- where the references stay, what stands still stands
  still : (out : DssReply × Service) → Grows w (after_call w k s call out) → ((r : Recorded) → Has w.service.references r → Has out.1.references r) → (l : Landing) → Has w.service.landings l
      → IsStanding (after_call w k s call out) l
  still out g stay l h = elim (j.standing l h) [
    | inl e ↦ inl (entered_still g l e)
    | inr r ↦ inr (record { recorded = r.recorded; there = stay r.recorded r.there; ovn_is = r.ovn_is })
  ]

  module _ (flight : ℕ) (ovn : List ℕ) (r : Recorded) (is : call.ask ≡ Asks.Remove flight ovn) (found : recorded_of flight w.service ≡ Some r) (by_ovn : r.reference.ovn ≡ Some ovn) (own : r.reference.manager ≡ name_of s w) (x : Supplier) (st : Stands owners w s x) (sent : IsRemoveSent w s flight ovn) where
    abbrev gone : DssReply × Service
    gone = after_remove w.service (name_of s w) r

    grows_gone : Grows w (after_call w k s call gone)
    grows_gone = call_grows w k s call gone (record { landings = λ l h. h; ranks = λ flight l h. refl; flights = λ n h. pushed_before n r.reference.flight w.service.retired_flights h; tickets = λ n h. h; there = kept_by_remove w.service (name_of s w) r })

    there : Has w.service.references r × ((r.reference.flight == flight) ≡ true)
    there = find_has (λ (z : Recorded). z.reference.flight == flight) w.service.references r found

    standing_gone : (l : Landing) → Has w.service.landings l → IsStanding (after_call w k s call gone) l
    standing_gone l h = elim (j.standing l h) [ inl e ↦ inl (entered_still grows_gone l e) | inr q ↦ go q (q.recorded.reference.flight == r.reference.flight) refl ]
      where
        go : (q : IsRecorded w l) → (x : Bool) → (q.recorded.reference.flight == r.reference.flight) ≡ x → IsStanding (after_call w k s call gone) l
        go q false e =
            inr (record {
              recorded = q.recorded;
              there = has_filtered (λ (z : Recorded). not (z.reference.flight == r.reference.flight)) w.service.references q.recorded q.there (ap not e);
              ovn_is = q.ovn_is;
            })
        go q true e =
            let same : q.recorded ≡ r = one_recorded w.service.references q.recorded r j.service.references_ascend q.there there.0 (same_number q.recorded.reference.flight r.reference.flight e) in
            let o : ovn ≡ l.ovn = some_same ovn l.ovn (sym by_ovn ∙ (ap (λ (z : Recorded). z.reference.ovn) (sym same) ∙ q.ovn_is)) in
            inl (record { s = s; names = names_held grows_gone s l.ovn (subst (NamesHeld w s) o sent.names) })

    shows_gone : ShowsLanding (after_call w k s call gone) s r.reference × IsRemovedOf (after_call w k s call gone) call.ask
    shows_gone = (
      shows grows_gone s r.reference (recorded_shows table owners w names j s x st r.reference r there.0 (shown (same_text r.reference.manager (name_of s w)) refl)),
      subst (IsRemovedOf (after_call w k s call gone)) (sym is)
          (subst (λ n. is_one_of n (w.service.retired_flights ++ r.reference.flight ∷ []) ≡ true) (same_number r.reference.flight flight there.1) (pushed_in r.reference.flight w.service.retired_flights)),
    )
      where
        shown : (y : Bool) → same_text r.reference.manager (name_of s w) ≡ y → r.reference ≡ shown_to (name_of s w) r.reference
        shown true e = rw e refl
        shown false e = not_both (same_text r.reference.manager (name_of s w)) (equal_bytes r.reference.manager (name_of s w) own) e

    retired_gone : (n : ℕ) → is_one_of n (w.service.retired_flights ++ r.reference.flight ∷ []) ≡ true → (is_one_of n w.service.retired_flights ≡ true) ⊎ IsToEnd (after_call w k s call gone) n
    retired_gone n h = go (is_one_of n w.service.retired_flights) refl
      where
        go : (x : Bool) → is_one_of n w.service.retired_flights ≡ x → (is_one_of n w.service.retired_flights ≡ true) ⊎ IsToEnd (after_call w k s call gone) n
        go true e = inl e
        go false e =
            let same : r.reference.flight ≡ n = pushed_is n r.reference.flight w.service.retired_flights e h in
            let f : flight ≡ n = sym (same_number r.reference.flight flight there.1) ∙ same in
            inr (record { s = s; ends = end_of grows_gone s n (subst (IsEndOf w s) f sent.ends) })

    pub remove_taken : IsOrderly gone.1 → Taken table owners w k s call gone
    remove_taken o =
        quiet_taken gone o refl (λ q h. has_filter (λ (z : Recorded). not (z.reference.flight == r.reference.flight)) w.service.references q h)
        (λ n h. pushed_before n r.reference.flight w.service.retired_flights h) (λ n h. h) (kept_by_remove w.service (name_of s w) r) shows_gone standing_gone retired_gone

  pub ticket_put_taken : (ticket : ℕ) (area : Volume4D) (base : List ℕ) → call.ask ≡ Asks.TicketPut ticket area base → IsOrderly (after_ticket_put w.service (name_of s w) ticket area base).1
      → Taken table owners w k s call (after_ticket_put w.service (name_of s w) ticket area base)
  ticket_put_taken ticket area base is o =
      let out = after_ticket_put w.service (name_of s w) ticket area base in
      let kept_there = kept_by_ticket_put w.service (name_of s w) ticket area base in
      let g = call_grows w k s call out (record { landings = λ l h. h; ranks = λ flight l h. refl; flights = λ n h. h; tickets = λ n h. h; there = kept_there }) in
      let new = new_ticket (name_of s w) ticket area base in
      let made : IsTicketThereOrGone (after_call w k s call out) s ticket = inl (record { found = new; there = put_ticket_there new w.service.tickets; id = refl; manager = refl }) in
      quiet_taken out o refl (λ q h. h) (λ n h. h) (λ n h. h) kept_there (subst (IsTicketMadeOf (after_call w k s call out) s) (sym is) made) (still out g (λ r h. h)) (λ n h. inl h)

  pub ticket_remove_taken : (id : ℕ) (t : Ticket) → call.ask ≡ Asks.TicketRemove id 1 → ticket_of id w.service ≡ Some t → IsOrderly (after_ticket_remove w.service t).1
      → Taken table owners w k s call (after_ticket_remove w.service t)
  ticket_remove_taken id t is found o =
      let out = after_ticket_remove w.service t in
      let tickets : (n : ℕ) → is_one_of n w.service.retired_tickets ≡ true → is_one_of n (w.service.retired_tickets ++ t.id ∷ []) ≡ true = λ n h. pushed_before n t.id w.service.retired_tickets h in
      let g = call_grows w k s call out (record { landings = λ l h. h; ranks = λ flight l h. refl; flights = λ n h. h; tickets = tickets; there = kept_by_ticket_remove w.service t }) in
      let e : t.id ≡ id = same_number t.id id (find_has (λ (z : Ticket). z.id == id) w.service.tickets t found).1 in
      let shows : IsRemovedOf (after_call w k s call out) call.ask =
      subst (IsRemovedOf (after_call w k s call out)) (sym is) (subst (λ n. is_one_of n (w.service.retired_tickets ++ t.id ∷ []) ≡ true) e (pushed_in t.id w.service.retired_tickets)) in
      quiet_taken out o refl (λ q h. h) (λ n h. h) tickets (kept_by_ticket_remove w.service t) shows (still out g (λ r h. h)) (λ n h. inl h)

  -- a refusal by another OVN that is recorded, or since the ticket is cited
  put_settled : (flight : ℕ) (ovn : Option (List ℕ)) (extents : List Volume4D) (key : List (List ℕ)) (state : State) (base : List ℕ) (ticket : ℕ) (job : ℕ)
      → IsTriedPut w s job (Asks.Put flight ovn extents key state base ticket) → IsOtherwise w.service flight ovn → (is_closed job (book_of s w) ≡ true) ⊎ ((l : Landing) × IsLandingOf w s job l)
  put_settled flight ovn extents key state base ticket job p x =
      let f = put_is flight ovn extents key state base ticket p.attempt p.is in
      let r = x.recorded in
      let rec : recorded_of p.attempt.flight w.service ≡ Some r = subst (λ n. recorded_of n w.service ≡ Some r) f.0 x.found in
      let there = (find_has (λ (z : Recorded). z.reference.flight == flight) w.service.references r x.found).0 in
      let m = j.service.landed r there in
      let i : IsAsLanded m.0 r.reference = m.2 in
      settled table owners w names j s job p.attempt p.found p.its_job r rec (λ e. x.differs m.0.ovn i.ovn (f.1 ∙ (e ∙ i.ovn)))

  ticket_settled : (job ticket : ℕ) → IsTicketOf w s job ticket → is_cited ticket w.service.references ≡ true → (l : Landing) × IsLandingOf w s job l
  ticket_settled job ticket p h =
      let r = list_any_has (λ (z : Recorded). z.reference.ticket == ticket) w.service.references h in
      let f = j.recorded r.0 r.1 in
      let q = at table owners w names j f.s f.attempt.tag f.attempt f.found in
      let st = by_opening table owners w names j s p.opening p.opened in
      let x = (legal_facts (book_of s w) st.1.legal).fits p.opening p.opened in
      let y = (legal_facts (book_of f.s w) q.legal).fits q.opening q.opened in
      let job_is : q.opening.job ≡ f.attempt.job = q.its_job ∙ sym q.its.job in
      let e : ticket_number s job ≡ ticket_number f.s f.attempt.job =
      sym p.ticket_is ∙ (sym (same_number r.0.reference.ticket ticket r.2) ∙ (f.ticket ∙ attempt_ticket table owners w names j f.s f.attempt.tag f.attempt f.found)) in
      let one = same_ticket s f.s job f.attempt.job (subst (λ n. n < 2 ^ 64) p.job_is x.0) (subst (λ n. n < 2 ^ 64) job_is y.0) e in
      let found : attempt_of f.attempt.tag (book_of s w) ≡ Some f.attempt = subst (λ z. attempt_of f.attempt.tag (book_of z w) ≡ Some f.attempt) (sym one.0) f.found in
      let l = landing_of_recorded table owners w names j r.0 r.1 s f.attempt.tag f.attempt found f refl in
      (l.0, subst (λ n. IsLandingOf w s n l.0) (sym one.1) l.2)

  refused_settles : (job : ℕ) (ask : DssAsk) (refusal : DssRefusal) → CallFrom w s job ask → refusal_of w.service (name_of s w) ask ≡ Some refusal → is_unsettling ask refusal ≡ true
      → (is_closed job (book_of s w) ≡ true) ⊎ ((l : Landing) × IsLandingOf w s job l)
  refused_settles job (Asks.Put flight ovn extents key state base ticket) Refuses.Exists p e u =
      put_settled flight ovn extents key state base ticket job p (put_exists w.service (name_of s w) flight ovn extents key state base ticket e)
  refused_settles job (Asks.Put flight ovn extents key state base ticket) Refuses.StaleOvn p e u =
      put_settled flight ovn extents key state base ticket job p (put_stale w.service (name_of s w) flight ovn extents key state base ticket e)
  refused_settles job (Asks.TicketRemove ticket version) Refuses.TicketInUse p e u = inr (ticket_settled job ticket p (ticket_in_use w.service (name_of s w) ticket version e))
  refused_settles job _ _ p e u = cc

  refused_retires : (ask : DssAsk) → refusal_of w.service (name_of s w) ask ≡ Some Refuses.Retired → IsRemovedOf w ask
  refused_retires (Asks.Query area) e = tt
  refused_retires (Asks.Get flight) e = retired_told w.service (name_of s w) (Asks.Get flight) e
  refused_retires (Asks.Put flight ovn extents key state base ticket) e = retired_told w.service (name_of s w) (Asks.Put flight ovn extents key state base ticket) e
  refused_retires (Asks.Remove flight ovn) e = retired_told w.service (name_of s w) (Asks.Remove flight ovn) e
  refused_retires (Asks.TicketPut ticket area base) e = retired_told w.service (name_of s w) (Asks.TicketPut ticket area base) e
  refused_retires (Asks.TicketGet ticket) e = retired_told w.service (name_of s w) (Asks.TicketGet ticket) e
  refused_retires (Asks.TicketRemove ticket version) e = retired_told w.service (name_of s w) (Asks.TicketRemove ticket version) e

  exists_shows : (ask : DssAsk) → refusal_of w.service (name_of s w) ask ≡ Some Refuses.Exists → IsTicketMadeOf w s ask
  exists_shows (Asks.TicketPut ticket area base) e =
      let t = ticket_exists w.service (name_of s w) ticket area base e in
      inl (record { found = t.found; there = t.there; id = t.id; manager = t.manager })
  exists_shows _ e = tt

  absent_unsettles : (ask : DssAsk) → is_unsettling ask Refuses.Absent ≡ true → ⊥
  absent_unsettles (Asks.Put flight ovn extents key state base ticket) u = cc
  absent_unsettles (Asks.TicketRemove ticket version) u = cc
  absent_unsettles _ u = cc

  refused_shows : (x : Supplier) → Stands owners w s x → (job : ℕ) (ask : DssAsk) (refusal : DssRefusal) → CallFrom w s job ask → (refusal_of w.service (name_of s w) ask ≡ Some refusal) ⊎ (refusal ≡ Refuses.Absent) → RefusedShows w s job ask refusal
  refused_shows x st job ask refusal p (inl e) =
      record {
        there = λ q. exists_shows ask (e ∙ ap Some q);
        retired = λ q. refused_retires ask (e ∙ ap Some q);
        missing = λ rs q r i. (let m = missing_shown w.service (name_of s w) ask rs (e ∙ ap Some q) r i in recorded_shows table owners w names j s x st r m.recorded m.there m.is);
        settled = λ u. refused_settles job ask refusal p e u;
      }
  refused_shows x st job ask refusal p (inr a) =
      record {
        there = λ q. (let z : Refuses.Absent ≡ Refuses.Exists = sym a ∙ q in cc);
        retired = λ q. (let z : Refuses.Absent ≡ Refuses.Retired = sym a ∙ q in cc);
        missing = λ rs q. (let z : Refuses.Absent ≡ Refuses.MissingKey rs = sym a ∙ q in cc);
        settled = λ u. absurd (absent_unsettles ask (subst (λ z. is_unsettling ask z ≡ true) a u));
      }

  -- no change
  stays_shows : (x : Supplier) → Stands owners w s x → (ask : DssAsk) → CallFrom w s call.job ask → (reply : DssReply) → TellsOfState w.service (name_of s w) ask reply → TellsNoChange reply → ReplyShows w s call.job ask reply
  stays_shows x st ask p (Replies.Found references) t n = λ r i. recorded_shows table owners w names j s x st r (t r i).recorded (t r i).there (t r i).is
  stays_shows x st ask p (Replies.Got r) t n = recorded_shows table owners w names j s x st r t.recorded t.there t.is
  stays_shows x st ask p (Replies.Landed r subscribers) t n = absurd n
  stays_shows x st ask p (Replies.Removed r subscribers) t n = absurd n
  stays_shows x st ask p (Replies.TicketMade u) t n = absurd n
  stays_shows x st ask p (Replies.TicketGot u) t n = tt
  stays_shows x st ask p (Replies.TicketRemoved u) t n = absurd n
  stays_shows x st ask p (Replies.Refused refusal) t n = refused_shows x st call.job ask refusal p t

  pub stays_taken : (x : Supplier) → Stands owners w s x → CallFrom w s call.job call.ask → (out : DssReply × Service) → IsOrderly out.1 → TellsOfState w.service (name_of s w) call.ask out.0 → Stays w.service out → Taken table owners w k s call out
  stays_taken x here p out o t st =
      let keeps_flights : (n : ℕ) → is_one_of n w.service.retired_flights ≡ true → is_one_of n out.1.retired_flights ≡ true = λ n h. subst (λ (z : Service). is_one_of n z.retired_flights ≡ true) (sym st.same) h in
      let keeps_tickets : (n : ℕ) → is_one_of n w.service.retired_tickets ≡ true → is_one_of n out.1.retired_tickets ≡ true = λ n h. subst (λ (z : Service). is_one_of n z.retired_tickets ≡ true) (sym st.same) h in
      let kept_there : (t : Ticket) → Has w.service.tickets t → IsTicketKept out.1 t = λ t h. inl (record { found = t; there = subst (λ (z : Service). Has z.tickets t) (sym st.same) h; id = refl; manager = refl }) in
      let same : out.1.landings ≡ w.service.landings = ap (λ (z : Service). z.landings) st.same in
      let g = call_grows w k s call out (record { landings = λ l h. subst (λ (ls : List Landing). Has ls l) (sym same) h; ranks = λ flight l h. ap (rank_of flight l.ovn) same; flights = keeps_flights; tickets = keeps_tickets; there = kept_there }) in
      quiet_taken out o same (λ r h. subst (λ (z : Service). Has z.references r) st.same h) keeps_flights keeps_tickets kept_there
      (reply_shows g s call.job call.ask out.0 (stays_shows x here call.ask p out.0 t st.reply))
      (still out g (λ r h. subst (λ (z : Service). Has z.references r) (sym st.same) h)) (λ n h. inl (subst (λ (z : Service). is_one_of n z.retired_flights ≡ true) st.same h))

-- a call that was sent

of_removes : (ask : DssAsk) (flight : ℕ) (ovn : List ℕ) (w : World) (s job : ℕ) → ask ≡ Asks.Remove flight ovn → CallFrom w s job ask → IsRemoveSent w s flight ovn
of_removes ask flight ovn w s job e p = subst (CallFrom w s job) e p

pub is_tried : (ask : DssAsk) (flight : ℕ) (ovn : Option (List ℕ)) (extents : List Volume4D) (key : List (List ℕ)) (state : State) (base : List ℕ) (ticket : ℕ) (w : World) (s job : ℕ)
    → ask ≡ Asks.Put flight ovn extents key state base ticket → CallFrom w s job ask → IsTriedPut w s job (Asks.Put flight ovn extents key state base ticket)
is_tried ask flight ovn extents key state base ticket w s job e p = subst (CallFrom w s job) e p

pub put_out : (s : Service) (client : List ℕ) (flight : ℕ) (ovn : Option (List ℕ)) (extents : List Volume4D) (key : List (List ℕ)) (state : State) (base : List ℕ) (ticket : ℕ) (a : Attempted)
    → Asks.Put flight ovn extents key state base ticket ≡ put_of a → after_put s client flight ovn extents state base ticket ≡ after_put s client a.flight a.previous (extents_of a) a.state a.base a.ticket
put_out s client flight ovn extents key state base ticket a e = let f = put_is flight ovn extents key state base ticket a e in rw (f.0, f.1, f.2, f.4, f.5, f.6) refl

by_effect : (table : List ℕ) (owners : List Owner) (w : World) → AreSuppliers table owners → Facts table owners w → (k s : ℕ) (call : DssCall) → (x : Supplier) → Stands owners w s x → CallFrom w s call.job call.ask → (out : DssReply × Service) → IsOrderly out.1
    → TellsOfState w.service (name_of s w) call.ask out.0 → Effect w.service (name_of s w) call.ask out → Taken table owners w k s call out
by_effect table owners w names j k s call x here p out o t (lands l) =
    let q = is_tried call.ask l.flight l.ovn l.extents l.key l.state l.base l.ticket w s call.job l.is p in
    let a = q.attempt in
    let is : out ≡ after_put w.service (name_of s w) a.flight a.previous (extents_of a) a.state a.base a.ticket =
    l.out_is ∙ put_out w.service (name_of s w) l.flight l.ovn l.extents l.key l.state l.base l.ticket a q.is in
    let l' : Lands w.service (name_of s w) (put_of a) out = subst (λ z. Lands w.service (name_of s w) z out) (l.is ∙ q.is) l in
    lands_taken table owners w names j k s call a q.found out is l' o
by_effect table owners w names j k s call x here p out o t (removes l) =
    subst (λ z. Taken table owners w k s call z) (sym l.out_is)
    (remove_taken table owners w names j k s call l.flight l.ovn l.recorded l.is l.found l.by_ovn l.manager x here (of_removes call.ask l.flight l.ovn w s call.job l.is p) (subst (λ (z : DssReply × Service). IsOrderly z.1) l.out_is o))
by_effect table owners w names j k s call x here p out o t (makes_ticket l) =
    subst (λ z. Taken table owners w k s call z) (sym l.out_is)
    (ticket_put_taken table owners w names j k s call l.ticket l.area l.base l.is (subst (λ (z : DssReply × Service). IsOrderly z.1) l.out_is o))
by_effect table owners w names j k s call x here p out o t (takes_ticket_out l) =
    subst (λ z. Taken table owners w k s call z) (sym l.out_is)
    (ticket_remove_taken table owners w names j k s call l.id l.ticket l.is l.found (subst (λ (z : DssReply × Service). IsOrderly z.1) l.out_is o))
by_effect table owners w names j k s call x here p out o t (stays l) = stays_taken table owners w names j k s call x here p out o t l

pub call_facts : (table : List ℕ) (owners : List Owner) (w : World) → AreSuppliers table owners → (k s : ℕ) (call : DssCall) → Has w.posts (Called s call) → Facts table owners w
    → Facts table owners (after_call w k s call (service_step w.service (name_of s w) call.ask))
call_facts table owners w names k s call h j =
    let out = service_step w.service (name_of s w) call.ask in
    let x = sender table owners w names j s call (j.due s call h) in
    let t = by_effect table owners w names j k s call x.0 x.1 (j.calls s call h) out (step_orderly w.service (name_of s w) call.ask j.service) (tells w.service (name_of s w) call.ask) (effect w.service (name_of s w) call.ask) in
    kept table owners w (after_call w k s call out) (taken_news table owners w k s call out t j) j
