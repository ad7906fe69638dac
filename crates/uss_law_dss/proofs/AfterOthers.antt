-- A removal, a new ticket and a ticket's removal leave an orderly service orderly.
use Rattle.std.proofs.Common.{ℕ, ◌<◌, ◌≤◌, ◌+◌, ◌==◌, true, false, not, List, [], ◌∷◌, ◌++◌, ◌≡◌, ◌≢◌, ◌⊎◌, inl, inr, length, refl, ap, subst, sym, ◌∙◌, arith, Some, None, length-append}
use Rattle.uss_vol4.specs.Volume.{Volume4D}
use Rattle.uss_intent.specs.declared.records.Recorded.{Recorded}
use Rattle.uss_intent.specs.declared.records.Ticket.{Ticket}
use Rattle.uss_intent.specs.declared.records.Landing.{Landing}
use Rattle.uss_intent.specs.Numbers.{is_one_of}
use Rattle.uss_law_dss.specs.Lists.{Has}
use Rattle.uss_law_dss.specs.Service.{Service, recorded_of, ticket_of}
use Rattle.uss_law_dss.specs.Refusals.{is_cited}
use Rattle.uss_law_dss.specs.Step.{without_flight, without_ticket, new_ticket, after_remove, after_ticket_put, after_ticket_remove}
use Rattle.uss_law_dss.specs.Orderly.{IsOrderly, IsCovered, id_of, flight_recorded}
use Rattle.uss_law_dss.proofs.Lists.{has_filter, has_filtered, has_passed, find_has, find_none, any_false, length-filter_le}
use Rattle.uss_law_dss.proofs.Tests.{same_number, equal_number, other_number, unequal_number, not_true}
use Rattle.uss_law_dss.proofs.Placed.{ascend_filter, ascend_put_ticket, put_ticket_keeps, put_ticket_others, length-put_ticket}
use Rattle.uss_law_dss.proofs.Raised.{raised_from, raised_to, ascend_raised, length-raised}
use Rattle.uss_law_dss.proofs.Retired.{pushed_out, pushed_in, pushed_before, length-filter_less}

module _ (s : Service) (client : List ℕ) (r : Recorded) (found : recorded_of r.reference.flight s ≡ Some r) (j : IsOrderly s) where
  was : (q : Recorded) → Has (without_flight r.reference.flight s.references) q → Has s.references q
  was q h = has_filter (λ q. not (q.reference.flight == r.reference.flight)) s.references q h

  differs : (q : Recorded) → Has (without_flight r.reference.flight s.references) q → r.reference.flight ≢ q.reference.flight
  differs q h e =
      let passes = has_passed (λ q. not (q.reference.flight == r.reference.flight)) s.references q h in
      other_number q.reference.flight r.reference.flight (not_true _ passes) (sym e)

  covered : (q : Recorded) → Has (without_flight r.reference.flight s.references) q → IsCovered (after_remove s client r).1 q.reference
  covered q h =
      let c = j.covered q (was q h) in
      let u = raised_to client r.extents s.tickets c.ticket c.there in
      record { ticket = u.0; there = u.1; cited = u.2.id ∙ c.cited; manager = u.2.manager ∙ c.manager }

  still_there : (l : Landing) → (is_one_of l.flight s.retired_flights ≡ true) ⊎ ((q : Recorded) × Has s.references q × (q.reference.flight ≡ l.flight))
      → (is_one_of l.flight (s.retired_flights ++ r.reference.flight ∷ []) ≡ true) ⊎ ((q : Recorded) × Has (without_flight r.reference.flight s.references) q × (q.reference.flight ≡ l.flight))
  still_there l (inl g) = inl (pushed_before l.flight r.reference.flight s.retired_flights g)
  still_there l (inr q) = elim (q.0.reference.flight == r.reference.flight) as (λ b. (q.0.reference.flight == r.reference.flight) ≡ b → (is_one_of l.flight (s.retired_flights ++ r.reference.flight ∷ []) ≡ true) ⊎ ((q : Recorded) × Has (without_flight r.reference.flight s.references) q × (q.reference.flight ≡ l.flight))) [
    | true ↦ λ e. inl (subst (λ (f : ℕ). is_one_of f (s.retired_flights ++ r.reference.flight ∷ []) ≡ true) (sym (same_number q.0.reference.flight r.reference.flight e) ∙ q.2) (pushed_in r.reference.flight s.retired_flights))
    | false ↦ λ e. inr (q.0, has_filtered (λ q. not (q.reference.flight == r.reference.flight)) s.references q.0 q.1 (ap not e), q.2)
  ] refl

  pub remove_orderly : IsOrderly (after_remove s client r).1
  remove_orderly =
      let more = length-append s.retired_flights (r.reference.flight ∷ []) in
      let h = find_has (λ q. q.reference.flight == r.reference.flight) s.references r found in
      let itself : not (r.reference.flight == r.reference.flight) ≡ false = ap not (equal_number r.reference.flight r.reference.flight refl) in
      let less = length-filter_less (λ q. not (q.reference.flight == r.reference.flight)) s.references r h.0 itself in
      record {
        references_ascend = ascend_filter flight_recorded (λ q. not (q.reference.flight == r.reference.flight)) s.references j.references_ascend;
        tickets_ascend = ascend_raised client r.extents s.tickets j.tickets_ascend;
        few_references = (let k = j.few_references in omega (arith, less));
        few_tickets = subst (λ n. n ≤ 8192) (sym (length-raised client r.extents s.tickets)) j.few_tickets;
        few_landings = j.few_landings;
        flights_stay_retired = λ q h. pushed_out q.reference.flight r.reference.flight s.retired_flights (j.flights_stay_retired q (was q h)) (differs q h);
        tickets_stay_retired = λ t h. (let m = raised_from client r.extents s.tickets t h in subst (λ (n : ℕ). is_one_of n s.retired_tickets ≡ false) (sym m.2.id) (j.tickets_stay_retired m.0 m.1));
        covered = covered;
        extents = λ q h. j.extents q (was q h);
        start = λ q h. j.start q (was q h);
        end = λ q h. j.end q (was q h);
        landed = λ q h. j.landed q (was q h);
        versions = λ q h. j.versions q (was q h);
        versions_fit = λ q h. j.versions_fit q (was q h);
        numbered = j.numbered;
        there = λ l h. still_there l (j.there l h);
        previous = j.previous;
        passed = λ l o q h e i g. j.passed l o q h e (was q i) g;
        once = j.once;
        indexes = λ t h. (let m = raised_from client r.extents s.tickets t h in let k = j.indexes m.0 m.1 in let u = m.2.index in omega (arith, more));
        ends = (let k = j.ends in omega (arith, more, less));
      }

module _ (s : Service) (client : List ℕ) (ticket : ℕ) (area : Volume4D) (base : List ℕ) (absent : ticket_of ticket s ≡ None) (kept : is_one_of ticket s.retired_tickets ≡ false) (room : length s.tickets < 8192) (j : IsOrderly s) where
  fresh : (t : Ticket) → Has s.tickets t → t.id ≢ ticket
  fresh t h = other_number t.id ticket (find_none (λ t. t.id == ticket) s.tickets t absent h)

  cover : (q : Recorded) → Has s.references q → IsCovered (after_ticket_put s client ticket area base).1 q.reference
  cover q h =
      let c = j.covered q h in
      record { ticket = c.ticket; there = put_ticket_keeps (new_ticket client ticket area base) s.tickets c.ticket c.there; cited = c.cited; manager = c.manager }

  on_new : {P : Ticket → Type 0} → P (new_ticket client ticket area base) → ((t : Ticket) → Has s.tickets t → P t) → (t : Ticket) → (new_ticket client ticket area base ≡ t) ⊎ Has s.tickets t → P t
  on_new {P} p others t (inl e) = subst P e p
  on_new {P} p others t (inr h) = others t h

  pub ticket_put_orderly : IsOrderly (after_ticket_put s client ticket area base).1
  ticket_put_orderly =
      let new = new_ticket client ticket area base in
      record {
        references_ascend = j.references_ascend;
        tickets_ascend = ascend_put_ticket new s.tickets j.tickets_ascend fresh;
        few_references = j.few_references;
        few_tickets = (let len = length-put_ticket new s.tickets in omega (arith, len, room));
        few_landings = j.few_landings;
        flights_stay_retired = j.flights_stay_retired;
        tickets_stay_retired = λ t h. on_new {P = λ (u : Ticket). is_one_of u.id s.retired_tickets ≡ false} kept j.tickets_stay_retired t (put_ticket_others new s.tickets t h);
        covered = cover;
        extents = j.extents;
        start = j.start;
        end = j.end;
        landed = j.landed;
        versions = j.versions;
        versions_fit = j.versions_fit;
        numbered = j.numbered;
        there = j.there;
        previous = j.previous;
        passed = j.passed;
        once = j.once;
        indexes = λ t h. on_new {P = λ (u : Ticket). u.index ≤ length s.landings + length s.retired_flights} (omega arith) j.indexes t (put_ticket_others new s.tickets t h);
        ends = j.ends;
      }

module _ (s : Service) (id : ℕ) (t : Ticket) (found : ticket_of id s ≡ Some t) (uncited : is_cited id s.references ≡ false) (j : IsOrderly s) where
  was_ticket : (u : Ticket) → Has (without_ticket t.id s.tickets) u → Has s.tickets u
  was_ticket u h = has_filter (λ u. not (u.id == t.id)) s.tickets u h

  other_ticket : (u : Ticket) → Has (without_ticket t.id s.tickets) u → t.id ≢ u.id
  other_ticket u h e = other_number u.id t.id (not_true _ (has_passed (λ u. not (u.id == t.id)) s.tickets u h)) (sym e)

  still_covered : (q : Recorded) → Has s.references q → IsCovered (after_ticket_remove s t).1 q.reference
  still_covered q h =
      let c = j.covered q h in
      let same = same_number t.id id (find_has (λ u. u.id == id) s.tickets t found).1 in
      let other = other_number q.reference.ticket id (any_false (λ r. r.reference.ticket == id) s.references q uncited h) in
      let differs : (c.ticket.id == t.id) ≡ false = unequal_number c.ticket.id t.id (λ e. other (sym c.cited ∙ e ∙ same)) in
      record { ticket = c.ticket; there = has_filtered (λ u. not (u.id == t.id)) s.tickets c.ticket c.there (ap not differs); cited = c.cited; manager = c.manager }

  pub ticket_remove_orderly : IsOrderly (after_ticket_remove s t).1
  ticket_remove_orderly =
      record {
        references_ascend = j.references_ascend;
        tickets_ascend = ascend_filter id_of (λ u. not (u.id == t.id)) s.tickets j.tickets_ascend;
        few_references = j.few_references;
        few_tickets = (let k = j.few_tickets in let len = length-filter_le (λ (u : Ticket). not (u.id == t.id)) s.tickets in omega arith);
        few_landings = j.few_landings;
        flights_stay_retired = j.flights_stay_retired;
        tickets_stay_retired = λ u h. pushed_out u.id t.id s.retired_tickets (j.tickets_stay_retired u (was_ticket u h)) (other_ticket u h);
        covered = still_covered;
        extents = j.extents;
        start = j.start;
        end = j.end;
        landed = j.landed;
        versions = j.versions;
        versions_fit = j.versions_fit;
        numbered = j.numbered;
        there = j.there;
        previous = j.previous;
        passed = j.passed;
        once = j.once;
        indexes = λ u h. j.indexes u (was_ticket u h);
        ends = j.ends;
      }
