-- What a call of the discovery service does: its reply, and the state after it.
use Rattle.std.specs.Prelude.{ℕ, ◌+◌, Bool, not, ◌&&◌, ◌==◌, nat_lt, List, [], ◌∷◌, ◌++◌, length, map, filter, unwrap_or, Option, Some, None, if◌then◌else◌}
use Rattle.uss_vol4.specs.Volume.{Volume4D}
use Rattle.uss_vol4.specs.Bounding.{bounding_box}
use Rattle.uss_intent.specs.declared.records.Recorded.{Recorded}
use Rattle.uss_intent.specs.declared.records.Ticket.{Ticket}
use Rattle.uss_intent.specs.declared.records.Landing.{Landing}
use Rattle.uss_intent.specs.declared.records.Subscriber.{Subscriber}
use Rattle.uss_intent.specs.declared.records.State.{State}
use Rattle.uss_intent.specs.declared.calls.DssAsk.{DssAsk}
use Rattle.uss_intent.specs.declared.calls.DssAsk.TheVariants.{Query, Get, Put, Remove, TicketPut, TicketGet, TicketRemove}
use Rattle.uss_intent.specs.declared.calls.DssReply.{DssReply}
use Rattle.uss_intent.specs.declared.calls.DssReply.TheVariants.{Found, Got, Landed, Removed, TicketMade, TicketGot, TicketRemoved, Refused}
use Rattle.uss_intent.specs.declared.calls.DssRefusal.{DssRefusal}
use Rattle.uss_intent.specs.declared.calls.DssRefusal.TheVariants.{Absent}
use Rattle.uss_intent.specs.Same.{same_text}
use Rattle.uss_intent.specs.Tags.{tag_of}
use Rattle.uss_law_dss.specs.Service.{Service, recorded_of, ticket_of, ovn_of, shown_to, reach}
use Rattle.uss_law_dss.specs.Refusals.{shown_all, refusal_of}

-- in its place by flight, in place of the one of its flight where there is one
abbrev pub put_recorded : Recorded → List Recorded → List Recorded
put_recorded r [] = r ∷ []
put_recorded r (x ∷ xs) =
    if nat_lt r.reference.flight x.reference.flight then r ∷ x ∷ xs
    else if r.reference.flight == x.reference.flight then r ∷ xs
    else x ∷ put_recorded r xs

-- in its place by identifier
abbrev pub put_ticket : Ticket → List Ticket → List Ticket
put_ticket t [] = t ∷ []
put_ticket t (x ∷ xs) = if nat_lt t.id x.id then t ∷ x ∷ xs else x ∷ put_ticket t xs

-- another client's ticket, with an area that shares a point with some of these extents
abbrev pub is_notified : List ℕ → List Volume4D → Ticket → Bool
is_notified client extents t = not (same_text t.manager client) && reach extents t.area

-- the tickets of those that are notified, with their index raised by 1, among the others
abbrev pub raised : List ℕ → List Volume4D → List Ticket → List Ticket
raised client extents ts = map (λ t. if is_notified client extents t then record t { index = t.index + 1 } else t) ts

-- those that are notified, ascending by identifier, after their index rose
abbrev pub subscribers : List ℕ → List Volume4D → List Ticket → List Subscriber
subscribers client extents ts = map (λ t. record { base = t.base; ticket = t.id; index = t.index + 1 }) (filter (is_notified client extents) ts)

-- the extents that a change takes the place of
abbrev pub old_extents : Option Recorded → List Volume4D
old_extents None = []
old_extents (Some r) = r.extents

abbrev pub next_version : Option Recorded → ℕ
next_version None = 1
next_version (Some r) = r.reference.version + 1

-- the number of the next landing
abbrev pub next_landing : Service → ℕ
next_landing s = length s.landings + 1

-- the reference that a Put records, from the least start of its extents to their greatest end
abbrev pub landed : Service → List ℕ → ℕ → List Volume4D → State → List ℕ → ℕ → Recorded
landed s client flight extents state base ticket =
    record {
      reference = record {
        flight = flight;
        manager = client;
        version = next_version (recorded_of flight s);
        state = state;
        ovn = Some (ovn_of (next_landing s));
        start = (bounding_box extents).start;
        end = (bounding_box extents).end;
        base = base;
        ticket = ticket;
      };
      extents = extents;
    }

-- its place in the history
abbrev pub landing_of : Service → List ℕ → ℕ → Option (List ℕ) → List ℕ → ℕ → Landing
landing_of s client flight ovn base ticket =
    record { ovn = ovn_of (next_landing s); manager = client; tag = unwrap_or (tag_of base) 0; flight = flight; previous = ovn; ticket = ticket }

abbrev pub after_put : Service → List ℕ → ℕ → Option (List ℕ) → List Volume4D → State → List ℕ → ℕ → DssReply × Service
after_put s client flight ovn extents state base ticket =
    let new = landed s client flight extents state base ticket in
    let touched = old_extents (recorded_of flight s) ++ extents in (
      Landed new.reference (subscribers client touched s.tickets),
      record s {
        references = put_recorded new s.references;
        tickets = raised client touched s.tickets;
        landings = s.landings ++ landing_of s client flight ovn base ticket ∷ [];
      },
    )

abbrev pub without_flight : ℕ → List Recorded → List Recorded
without_flight flight rs = filter (λ r. not (r.reference.flight == flight)) rs

abbrev pub without_ticket : ℕ → List Ticket → List Ticket
without_ticket id ts = filter (λ t. not (t.id == id)) ts

abbrev pub after_remove : Service → List ℕ → Recorded → DssReply × Service
after_remove s client r = (
  Removed r.reference (subscribers client r.extents s.tickets),
  record s {
    references = without_flight r.reference.flight s.references;
    tickets = raised client r.extents s.tickets;
    retired_flights = s.retired_flights ++ r.reference.flight ∷ [];
  },
)

abbrev pub new_ticket : List ℕ → ℕ → Volume4D → List ℕ → Ticket
new_ticket client ticket area base = record { id = ticket; manager = client; area = area; base = base; index = 0 }

abbrev pub after_ticket_put : Service → List ℕ → ℕ → Volume4D → List ℕ → DssReply × Service
after_ticket_put s client ticket area base =
    let new = new_ticket client ticket area base in (TicketMade new, record s { tickets = put_ticket new s.tickets })

abbrev pub after_ticket_remove : Service → Ticket → DssReply × Service
after_ticket_remove s t =
    (TicketRemoved t, record s { tickets = without_ticket t.id s.tickets; retired_tickets = s.retired_tickets ++ t.id ∷ [] })

-- what is done with the reference or the ticket that is there; where there is none, the call was refused before
abbrev pub with_recorded : Service → Option Recorded → (Recorded → DssReply × Service) → DssReply × Service
with_recorded s None next = (Refused Absent, s)
with_recorded s (Some r) next = next r

abbrev pub with_ticket : Service → Option Ticket → (Ticket → DssReply × Service) → DssReply × Service
with_ticket s None next = (Refused Absent, s)
with_ticket s (Some t) next = next t

-- the references whose extents share a point with the area
abbrev pub found_in : Volume4D → List Recorded → List Recorded
found_in area rs = filter (λ r. reach r.extents area) rs

-- the reply and the state after a call that isn't refused
abbrev pub accepted : Service → List ℕ → DssAsk → DssReply × Service
accepted s client (Query area) = (Found (shown_all client (found_in area s.references)), s)
accepted s client (Get flight) = with_recorded s (recorded_of flight s) (λ r. (Got (shown_to client r.reference), s))
accepted s client (Put flight ovn extents key state base ticket) = after_put s client flight ovn extents state base ticket
accepted s client (Remove flight ovn) = with_recorded s (recorded_of flight s) (λ r. after_remove s client r)
accepted s client (TicketPut ticket area base) = after_ticket_put s client ticket area base
accepted s client (TicketGet ticket) = with_ticket s (ticket_of ticket s) (λ t. (TicketGot t, s))
accepted s client (TicketRemove ticket version) = with_ticket s (ticket_of ticket s) (λ t. after_ticket_remove s t)

-- a refusal changes nothing
abbrev pub unless_refused : Service → DssReply × Service → Option DssRefusal → DssReply × Service
unless_refused s out None = out
unless_refused s out (Some refusal) = (Refused refusal, s)

-- the reply to a client's call, and the state after it
abbrev pub service_step : Service → List ℕ → DssAsk → DssReply × Service
service_step s client ask = unless_refused s (accepted s client ask) (refusal_of s client ask)

-- the replies to clients' calls in order
abbrev pub replies_to : Service → List (List ℕ × DssAsk) → List DssReply
replies_to s [] = []
replies_to s (c ∷ cs) = let out = service_step s c.0 c.1 in out.0 ∷ replies_to out.1 cs

-- the state after them
abbrev pub state_after : Service → List (List ℕ × DssAsk) → Service
state_after s [] = s
state_after s (c ∷ cs) = state_after (service_step s c.0 c.1).1 cs
