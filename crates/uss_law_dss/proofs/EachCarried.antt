-- A call of which no test holds is carried out.
use Rattle.std.proofs.Common.{ℕ, ◌<◌, ◌≡◌, ◌≢◌, ◌↔◌, inl, inr, Bool, true, false, cond, not, ◌==◌, List, [], ◌∷◌, ◌++◌, length, Option, Some, None, map, filter, is_none, refl, ap, sym, subst, arith}
use Rattle.uss_shape.specs.Shape.{IsLeast, IsGreatest}
use Rattle.uss_shape.proofs.Extreme.{least_from, greatest_from, least_of, greatest_of}
use Rattle.uss_vol4.specs.declared.Box4.{Box4}
use Rattle.uss_vol4.specs.Volume.{Volume4D}
use Rattle.uss_vol4.specs.Bounding.{bounding_box, box_of, joined}
use Rattle.uss_vol4.proofs.Round.{grown_box}
use Rattle.uss_intent.specs.declared.records.Recorded.{Recorded}
use Rattle.uss_intent.specs.declared.records.Reference.{Reference}
use Rattle.uss_intent.specs.declared.records.Ticket.{Ticket}
use Rattle.uss_intent.specs.declared.records.State.{State}
use Rattle.uss_intent.specs.declared.calls.DssAsk.{DssAsk}
use Rattle.uss_intent.specs.declared.calls.DssAsk.TheVariants.{Query, Get, Put, Remove, TicketPut, TicketGet, TicketRemove}
use Rattle.uss_intent.specs.declared.calls.DssReply.TheVariants.{Got, TicketGot}
use Rattle.uss_intent.specs.declared.calls.DssRefusal.{DssRefusal}
use Rattle.uss_intent.specs.Same.{same_text}
use Rattle.uss_law_dss.specs.Lists.{Has}
use Rattle.uss_law_dss.specs.Service.{Service, recorded_of, ticket_of, shown_to, reach}
use Rattle.uss_law_dss.specs.Refusals.{shown_all, is_others, is_others_ticket, is_stale, is_cited, tests_of, first_of}
use Rattle.uss_law_dss.specs.Step.{put_recorded, put_ticket, subscribers, old_extents, next_version, landed, landing_of, after_put, after_remove, new_ticket, after_ticket_put, after_ticket_remove, with_recorded, with_ticket, found_in, accepted, unless_refused, service_step}
use Rattle.uss_law_dss.specs.Orderly.{IsOrderly, flight_recorded}
use Rattle.uss_law_dss.specs.Notified.{Reach, IsNotifiedOfPut, IsNotifiedOfRemove}
use Rattle.uss_law_dss.specs.Carried.{NoneHolds, IsShown, flight_shown, Lists, Finds, Gets, Records, Retires, Makes, Shows, TakesOut, CarriedOut}
use Rattle.uss_law_dss.proofs.Lists.{has_filter, has_filtered, has_passed, has_map, mapped, any_false}
use Rattle.uss_law_dss.proofs.Tests.{other_number, unequal_number, same_bytes, equal_bytes, not_true, not_false, neither}
use Rattle.uss_law_dss.proofs.Placed.{put_there, put_keeps, put_others, put_ticket_there, put_ticket_keeps, put_ticket_others, ascend_filter, ascend_map}
use Rattle.uss_law_dss.proofs.Points.{reach_tells}
use Rattle.uss_law_dss.proofs.Founds.{recorded_has, ticket_has, not_recorded}
use Rattle.uss_law_dss.proofs.NotifiesThose.{tells, notified_of_put, notified_of_remove}
use Rattle.uss_law_dss.proofs.EachEffect.{created, changed, is_ovn, some_items}

-- ---- the times of a reference

start_grown : (b : Box4) (vs : List Volume4D) → (grown_box b vs).start ≡ least_from (λ v. v.start) b.start vs
start_grown b [] = refl
start_grown b (v ∷ vs) = start_grown (joined b (box_of v)) vs

end_grown : (b : Box4) (vs : List Volume4D) → (grown_box b vs).end ≡ greatest_from (λ v. v.end) b.end vs
end_grown b [] = refl
end_grown b (v ∷ vs) = end_grown (joined b (box_of v)) vs

least_start : (vs : List Volume4D) → 0 < length vs → IsLeast (λ v. v.start) vs (bounding_box vs).start
unfolding bounding_box
least_start [] l = absurd (omega arith)
least_start (v ∷ vs) l = rw (start_grown (box_of v) (v ∷ vs)) (least_of (λ (w : Volume4D). w.start) v vs)

greatest_end : (vs : List Volume4D) → 0 < length vs → IsGreatest (λ v. v.end) vs (bounding_box vs).end
unfolding bounding_box
greatest_end [] l = absurd (omega arith)
greatest_end (v ∷ vs) l = rw (end_grown (box_of v) (v ∷ vs)) (greatest_of (λ (w : Volume4D). w.end) v vs)

-- ---- what is shown

shown_is : (client : List ℕ) (r : Reference) → IsShown client r (shown_to client r)
shown_is client r = record {
  own = λ e. rw (equal_bytes r.manager client e) refl;
  others = λ d. go (same_text r.manager client) refl d;
}
  where
    go : (b : Bool) → same_text r.manager client ≡ b → r.manager ≢ client → cond b r (record r { ovn = None }) ≡ record r { ovn = None }
    go true e d = absurd (d (same_bytes r.manager client e))
    go false e d = refl

pub is_shown : (client : List ℕ) (r x : Reference) → IsShown client r x → shown_to client r ≡ x
is_shown client r x i = go (same_text r.manager client) refl
  where
    go : (b : Bool) → same_text r.manager client ≡ b → cond b r (record r { ovn = None }) ≡ x
    go true e = sym (i.own (same_bytes r.manager client e))
    go false e = sym (i.others (λ q. (let t = equal_bytes r.manager client q in cc)))

shown_flight : (client : List ℕ) (r : Recorded) → flight_shown (shown_to client r.reference) ≡ flight_recorded r
shown_flight client r = go (same_text r.reference.manager client)
  where
    go : (b : Bool) → (cond b r.reference (record r.reference { ovn = None })).flight ≡ r.reference.flight
    go true = refl
    go false = refl

-- those recorded that pass a test, as they are shown
pub lists_passed : (s : Service) (client : List ℕ) (p : Recorded → Bool) (IsSuch : Recorded → Type 0) → IsOrderly s → ((r : Recorded) → (p r ≡ true) ↔ IsSuch r) → Lists s client IsSuch (shown_all client (filter p s.references))
lists_passed s client p IsSuch j m =
    let rs = filter p s.references in
    let show : Recorded → Reference = λ r. shown_to client r.reference in
    record {
      those = λ x. (
        λ h. (let k = has_map show rs x h in (k.0, has_filter p s.references k.0 k.1, (m k.0).0 (has_passed p s.references k.0 k.1), subst (λ (y : Reference). IsShown client k.0.reference y) k.2 (shown_is client k.0.reference))),
        λ k. subst (λ (y : Reference). Has (map show rs) y) (is_shown client k.0.reference x k.3) (mapped show rs k.0 (has_filtered p s.references k.0 k.1 ((m k.0).1 k.2))),
      );
      ascending = ascend_map show flight_recorded flight_shown (shown_flight client) rs (ascend_filter flight_recorded p s.references j.references_ascend);
    }

-- ---- each kind of call

query_done : (s : Service) (client : List ℕ) (area : Volume4D) → IsOrderly s → Finds s client area (accepted s client (Query area))
query_done s client area j = record {
  found = shown_all client (found_in area s.references);
  reply = refl;
  lists = lists_passed s client (λ r. reach r.extents area) (λ r. Reach r.extents area) j (λ r. reach_tells r.extents area);
  same = refl;
}

get_done : (s : Service) (client : List ℕ) (flight : ℕ) (o : Option Recorded) → recorded_of flight s ≡ o → is_none o ≡ false → Gets s client flight (with_recorded s o (λ r. (Got (shown_to client r.reference), s)))
get_done s client flight None e n = cc
get_done s client flight (Some r) e n =
    let h = recorded_has s flight r e in
    record { recorded = r; there = h.0; flight_is = h.1; got = shown_to client r.reference; shown = shown_is client r.reference; reply = refl; same = refl }

put_done : (s : Service) (client : List ℕ) (flight : ℕ) (ovn : Option (List ℕ)) (extents : List Volume4D) (key : List (List ℕ)) (state : State) (base : List ℕ) (ticket : ℕ)
    → IsOrderly s → NoneHolds (tests_of s client (Put flight ovn extents key state base ticket)) → Records s client flight ovn extents state base ticket (after_put s client flight ovn extents state base ticket)
put_done s client flight ovn extents key state base ticket j all =
    let new = landed s client flight extents state base ticket in
    let touched = old_extents (recorded_of flight s) ++ extents in
    let some = some_items extents (neither (length extents == 0) _ all.0).0 in
    let change = changed (recorded_of flight s) client ovn all.1.1.1.1.0 all.1.0 all.1.1.1.1.1.0 all.1.1.1.1.1.1.1.1.1.1.0 in
    record {
      new = new;
      notified = subscribers client touched s.tickets;
      landing = landing_of s client flight ovn base ticket;
      reply = refl;
      flight_is = refl;
      manager = refl;
      state_is = refl;
      base_is = refl;
      ticket_is = refl;
      extents_are = refl;
      start = least_start extents some;
      end = greatest_end extents some;
      ovn_is = refl;
      created = λ n. (let o = created (recorded_of flight s) ovn all.1.1.0 n in (ap next_version o, not_recorded s flight o));
      changed = λ o e. (let c = change o e in let h = recorded_has s flight c.0 c.1 in (c.0, record { there = h.0; flight_is = h.1; manager = c.2; ovn_is = c.3 }, ap next_version c.1));
      references = λ r. (
        λ h. put_others new s.references r j.references_ascend h,
        λ k. elim k [
          | inl e ↦ subst (λ (q : Recorded). Has (put_recorded new s.references) q) e (put_there new s.references)
          | inr h ↦ put_keeps new s.references r h.0 h.1
        ],
      );
      tickets = tells (IsNotifiedOfPut s client flight extents) client touched s.tickets j.tickets_ascend (λ t. notified_of_put s client flight extents t j);
      landings = refl;
      as_landed = record { ovn = refl; manager = refl; flight = refl; tag = refl; ticket = refl };
      previous = refl;
      retired_flights = refl;
      retired_tickets = refl;
    }

remove_done : (s : Service) (client : List ℕ) (flight : ℕ) (ovn : List ℕ) (o : Option Recorded) → recorded_of flight s ≡ o → IsOrderly s → is_others client o ≡ false → is_none o ≡ false → is_stale o ovn ≡ false
    → Retires s client flight ovn (with_recorded s o (λ r. after_remove s client r))
remove_done s client flight ovn None e j y n k = cc
remove_done s client flight ovn (Some r) e j y n k =
    let h = recorded_has s flight r e in
    let p : Recorded → Bool = λ q. not (q.reference.flight == r.reference.flight) in
    record {
      recorded = r;
      notified = subscribers client r.extents s.tickets;
      named = record { there = h.0; flight_is = h.1; manager = same_bytes r.reference.manager client (not_false _ y); ovn_is = is_ovn r.reference.ovn ovn (not_false _ k) };
      reply = refl;
      references = λ q. (
        λ i. (has_filter p s.references q i, (let d = other_number q.reference.flight r.reference.flight (not_true _ (has_passed p s.references q i)) in let f = h.1 in omega arith)),
        λ i. has_filtered p s.references q i.0 (let d = i.1 in let f = h.1 in ap not (unequal_number q.reference.flight r.reference.flight (omega arith))),
      );
      tickets = tells (IsNotifiedOfRemove s client flight) client r.extents s.tickets j.tickets_ascend (λ t. notified_of_remove s client flight r t j e);
      landings = refl;
      retired_flights = ap (λ (f : ℕ). s.retired_flights ++ f ∷ []) h.1;
      retired_tickets = refl;
    }

ticket_put_done : (s : Service) (client : List ℕ) (ticket : ℕ) (area : Volume4D) (base : List ℕ) → Makes s client ticket area base (after_ticket_put s client ticket area base)
ticket_put_done s client ticket area base =
    let made = new_ticket client ticket area base in
    record {
      made = made;
      is = refl;
      reply = refl;
      tickets = λ t. (
        λ h. put_ticket_others made s.tickets t h,
        λ k. elim k [
          | inl e ↦ subst (λ (u : Ticket). Has (put_ticket made s.tickets) u) e (put_ticket_there made s.tickets)
          | inr h ↦ put_ticket_keeps made s.tickets t h
        ],
      );
      rest = refl;
    }

ticket_get_done : (s : Service) (client : List ℕ) (ticket : ℕ) (o : Option Ticket) → ticket_of ticket s ≡ o → is_others_ticket client o ≡ false → is_none o ≡ false → Shows s client ticket (with_ticket s o (λ t. (TicketGot t, s)))
ticket_get_done s client ticket None e y n = cc
ticket_get_done s client ticket (Some t) e y n =
    let h = ticket_has s ticket t e in
    record { got = t; there = h.0; id_is = h.1; manager = same_bytes t.manager client (not_false _ y); reply = refl; same = refl }

ticket_remove_done : (s : Service) (client : List ℕ) (ticket : ℕ) (o : Option Ticket) → ticket_of ticket s ≡ o → is_others_ticket client o ≡ false → is_none o ≡ false → is_cited ticket s.references ≡ false
    → TakesOut s client ticket (with_ticket s o (λ t. after_ticket_remove s t))
ticket_remove_done s client ticket None e y n c = cc
ticket_remove_done s client ticket (Some t) e y n c =
    let h = ticket_has s ticket t e in
    let p : Ticket → Bool = λ u. not (u.id == t.id) in
    record {
      gone = t;
      there = h.0;
      id_is = h.1;
      manager = same_bytes t.manager client (not_false _ y);
      uncited = λ r i. other_number r.reference.ticket ticket (any_false (λ r. r.reference.ticket == ticket) s.references r c i);
      reply = refl;
      tickets = λ u. (
        λ i. (has_filter p s.tickets u i, (let d = other_number u.id t.id (not_true _ (has_passed p s.tickets u i)) in let f = h.1 in omega arith)),
        λ i. has_filtered p s.tickets u i.0 (let d = i.1 in let f = h.1 in ap not (unequal_number u.id t.id (omega arith))),
      );
      retired_tickets = ap (λ (f : ℕ). s.retired_tickets ++ f ∷ []) h.1;
      rest = refl;
    }

accepted_done : (s : Service) (client : List ℕ) (ask : DssAsk) → IsOrderly s → NoneHolds (tests_of s client ask) → CarriedOut s client ask (accepted s client ask)
accepted_done s client (Query area) j all = query_done s client area j
accepted_done s client (Get flight) j all = get_done s client flight (recorded_of flight s) refl all.1.0
accepted_done s client (Put flight ovn extents key state base ticket) j all = put_done s client flight ovn extents key state base ticket j all
accepted_done s client (Remove flight ovn) j all = remove_done s client flight ovn (recorded_of flight s) refl j all.0 all.1.1.0 all.1.1.1.0
accepted_done s client (TicketPut ticket area base) j all = ticket_put_done s client ticket area base
accepted_done s client (TicketGet ticket) j all = ticket_get_done s client ticket (ticket_of ticket s) refl all.0 all.1.1.0
accepted_done s client (TicketRemove ticket version) j all = ticket_remove_done s client ticket (ticket_of ticket s) refl all.0 all.1.1.0 all.1.1.1.1.0

-- ---- the call

pub first_none : (ts : List (Bool × DssRefusal)) → NoneHolds ts → first_of ts ≡ None
first_none [] h = refl
first_none (t ∷ ts) h = rw h.0 (first_none ts h.1)

pub done : (s : Service) (client : List ℕ) (ask : DssAsk) → IsOrderly s → NoneHolds (tests_of s client ask) → CarriedOut s client ask (service_step s client ask)
done s client ask j all =
    subst (λ (o : Option DssRefusal). CarriedOut s client ask (unless_refused s (accepted s client ask) o)) (sym (first_none (tests_of s client ask) all)) (accepted_done s client ask j all)
