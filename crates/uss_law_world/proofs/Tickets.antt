-- The tickets of the discovery service are there until they are taken out.
use Rattle.std.proofs.Common.{ℕ, ◌≡◌, inl, inr, ◌==◌, nat_lt, nat_le, Bool, true, false, not, cond, List, [], ◌∷◌, ◌++◌, length, refl, ap, sym, subst, Option, Some, None, is_some}
use Rattle.uss_vol4.specs.Volume.{Volume4D}
use Rattle.uss_intent.specs.Numbers.{is_one_of}
use Rattle.uss_intent.specs.Same.{same_text}
use Rattle.uss_intent.specs.declared.records.State.{State}
use Rattle.uss_intent.specs.declared.records.Recorded.{Recorded}
use Rattle.uss_intent.specs.declared.records.Ticket.{Ticket}
use Rattle.uss_intent.specs.declared.calls.DssAsk.TheVariants.{TicketPut}
use Rattle.uss_intent.specs.declared.calls.DssRefusal.{DssRefusal}
use Rattle.uss_intent.specs.declared.calls.DssRefusal.TheVariants.{NotYours, Exists, Retired, Full}
use Rattle.uss_law_dss.specs.Lists.{Has}
use Rattle.uss_law_dss.specs.Service.{Service, recorded_of, ticket_of}
use Rattle.uss_law_dss.specs.Refusals.{is_others_ticket, first_of, refusal_of}
use Rattle.uss_law_dss.specs.Step.{put_ticket, old_extents, after_put, after_remove, after_ticket_put, after_ticket_remove}
use Rattle.uss_law_dss.proofs.Lists.{find_has, has_filtered}
use Rattle.uss_law_dss.proofs.Tests.{same_number, same_bytes}
use Rattle.uss_law_dss.proofs.Placed.{put_ticket_keeps}
use Rattle.uss_law_dss.proofs.Raised.{raised_to}
use Rattle.uss_law_dss.proofs.Retired.{pushed_in}
use Rattle.uss_law_world.proofs.Grows.{IsTicketKept}

pub put_ticket_there : (t : Ticket) (xs : List Ticket) → Has (put_ticket t xs) t
put_ticket_there t [] = inl refl
put_ticket_there t (x ∷ xs) = go (nat_lt t.id x.id) (put_ticket_there t xs)
  where
    go : (b : Bool) → Has (put_ticket t xs) t → Has (cond b (t ∷ x ∷ xs) (x ∷ put_ticket t xs)) t
    go true h = inl refl
    go false h = inr h

pub kept_by_put : (s : Service) (client : List ℕ) (flight : ℕ) (ovn : Option (List ℕ)) (extents : List Volume4D) (state : State) (base : List ℕ) (ticket : ℕ)
    → (t : Ticket) → Has s.tickets t → IsTicketKept (after_put s client flight ovn extents state base ticket).1 t
kept_by_put s client flight ovn extents state base ticket t h =
    let u = raised_to client (old_extents (recorded_of flight s) ++ extents) s.tickets t h in
    inl (record { found = u.0; there = u.1; id = u.2.id; manager = u.2.manager })

pub kept_by_remove : (s : Service) (client : List ℕ) (r : Recorded) (t : Ticket) → Has s.tickets t → IsTicketKept (after_remove s client r).1 t
kept_by_remove s client r t h =
    let u = raised_to client r.extents s.tickets t h in
    inl (record { found = u.0; there = u.1; id = u.2.id; manager = u.2.manager })

pub kept_by_ticket_put : (s : Service) (client : List ℕ) (ticket : ℕ) (area : Volume4D) (base : List ℕ) (t : Ticket) → Has s.tickets t → IsTicketKept (after_ticket_put s client ticket area base).1 t
kept_by_ticket_put s client ticket area base t h = inl (record { found = t; there = put_ticket_keeps _ s.tickets t h; id = refl; manager = refl })

pub kept_by_ticket_remove : (s : Service) (u t : Ticket) → Has s.tickets t → IsTicketKept (after_ticket_remove s u).1 t
kept_by_ticket_remove s u t h = go (t.id == u.id) refl
  where
    go : (b : Bool) → (t.id == u.id) ≡ b → IsTicketKept (after_ticket_remove s u).1 t
    go true e = inr (subst (λ n. is_one_of n (s.retired_tickets ++ u.id ∷ []) ≡ true) (sym (same_number t.id u.id e)) (pushed_in u.id s.retired_tickets))
    go false e = inl (record { found = t; there = has_filtered (λ (z : Ticket). not (z.id == u.id)) s.tickets t h (ap not e); id = refl; manager = refl })

-- the client's ticket is there
pub record IsOwnTicket (s : Service) (client : List ℕ) (ticket : ℕ) : Type 0 where
  pub found : Ticket
  pub there : Has s.tickets found
  pub id : found.id ≡ ticket
  pub manager : found.manager ≡ client

-- a ticket is refused as one that exists only to its manager
pub ticket_exists : (s : Service) (client : List ℕ) (ticket : ℕ) (area : Volume4D) (base : List ℕ) → refusal_of s client (TicketPut ticket area base) ≡ Some Exists → IsOwnTicket s client ticket
ticket_exists s client ticket area base h = go (ticket_of ticket s) refl h
  where
    rest : List (Bool × DssRefusal)
    rest = (is_one_of ticket s.retired_tickets, Retired) ∷ (nat_le 8192 (length s.tickets), Full 8192) ∷ []

    absent : (a b : Bool) → cond a (Some Retired) (cond b (Some (Full 8192)) None) ≡ Some Exists → IsOwnTicket s client ticket
    absent true b k = cc
    absent false true k = cc
    absent false false k = cc

    own : (t : Ticket) → ticket_of ticket s ≡ Some t → (b : Bool) → same_text t.manager client ≡ b → first_of ((not b, NotYours) ∷ (true, Exists) ∷ rest) ≡ Some Exists → IsOwnTicket s client ticket
    own t e true q k =
        let f = find_has (λ (z : Ticket). z.id == ticket) s.tickets t e in
        record { found = t; there = f.0; id = same_number t.id ticket f.1; manager = same_bytes t.manager client q }
    own t e false q k = cc

    go : (x : Option Ticket) → ticket_of ticket s ≡ x → first_of ((is_others_ticket client x, NotYours) ∷ (is_some x, Exists) ∷ rest) ≡ Some Exists → IsOwnTicket s client ticket
    go None e k = absent (is_one_of ticket s.retired_tickets) (nat_le 8192 (length s.tickets)) k
    go (Some t) e k = own t e (same_text t.manager client) refl k
