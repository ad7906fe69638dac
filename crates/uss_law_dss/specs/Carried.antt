-- What a call does where none of its tests holds, in the service's own words: what is shown, recorded, notified, made and gone.
use Rattle.std.specs.Prelude.{ℕ, ◌+◌, ◌≡◌, ◌≢◌, ◌⊎◌, ◌↔◌, Bool, false, List, [], ◌∷◌, ◌++◌, length, Option, Some, None}
use Rattle.uss_shape.specs.Shape.{IsLeast, IsGreatest}
use Rattle.uss_vol4.specs.Volume.{Volume4D}
use Rattle.uss_intent.specs.declared.records.Reference.{Reference}
use Rattle.uss_intent.specs.declared.records.Recorded.{Recorded}
use Rattle.uss_intent.specs.declared.records.Ticket.{Ticket}
use Rattle.uss_intent.specs.declared.records.Landing.{Landing}
use Rattle.uss_intent.specs.declared.records.Subscriber.{Subscriber}
use Rattle.uss_intent.specs.declared.records.State.{State}
use Rattle.uss_intent.specs.declared.calls.DssAsk.{DssAsk}
use Rattle.uss_intent.specs.declared.calls.DssAsk.TheVariants.{Query, Get, Put, Remove, TicketPut, TicketGet, TicketRemove}
use Rattle.uss_intent.specs.declared.calls.DssReply.{DssReply}
use Rattle.uss_intent.specs.declared.calls.DssReply.TheVariants.{Found, Got, Landed, Removed, TicketMade, TicketGot, TicketRemoved}
use Rattle.uss_intent.specs.declared.calls.DssRefusal.{DssRefusal}
use Rattle.uss_law_dss.specs.Lists.{Has}
use Rattle.uss_law_dss.specs.Service.{Service, ovn_of}
use Rattle.uss_law_dss.specs.Orderly.{Ascend, IsAsLanded}
use Rattle.uss_law_dss.specs.Notified.{Reach, IsNotifiedOfPut, IsNotifiedOfRemove, Notifies}

-- no test holds
abbrev pub NoneHolds : List (Bool × DssRefusal) → Type 0
NoneHolds [] = Unit {0}
NoneHolds (t ∷ ts) = (t.0 ≡ false) × NoneHolds ts

-- the reference as it is shown to a client: whole to its manager, without its OVN to others
pub record IsShown (client : List ℕ) (r shown : Reference) : Type 0 where
  pub own : r.manager ≡ client → shown ≡ r
  pub others : r.manager ≢ client → shown ≡ record r { ovn = None }

abbrev pub flight_shown : Reference → ℕ
flight_shown r = r.flight

-- the list has the references of those recorded that are such, as they are shown to the client, ascending by flight
pub record Lists (s : Service) (client : List ℕ) (IsSuch : Recorded → Type 0) (list : List Reference) : Type 0 where
  pub those : (x : Reference) → Has list x ↔ ((r : Recorded) × Has s.references r × IsSuch r × IsShown client r.reference x)
  pub ascending : Ascend flight_shown list

-- a Query: the references of which some extents share a point with the area
pub record Finds (s : Service) (client : List ℕ) (area : Volume4D) (out : DssReply × Service) : Type 0 where
  pub found : List Reference
  pub reply : out.0 ≡ Found found
  pub lists : Lists s client (λ r. Reach r.extents area) found
  pub same : out.1 ≡ s

-- a Get: the flight's reference
pub record Gets (s : Service) (client : List ℕ) (flight : ℕ) (out : DssReply × Service) : Type 0 where
  pub recorded : Recorded
  pub there : Has s.references recorded
  pub flight_is : recorded.reference.flight ≡ flight
  pub got : Reference
  pub shown : IsShown client recorded.reference got
  pub reply : out.0 ≡ Got got
  pub same : out.1 ≡ s

-- the recorded reference that a change or a removal names: the client's own, by its OVN
pub record IsNamed (s : Service) (client : List ℕ) (flight : ℕ) (ovn : List ℕ) (r : Recorded) : Type 0 where
  pub there : Has s.references r
  pub flight_is : r.reference.flight ≡ flight
  pub manager : r.reference.manager ≡ client
  pub ovn_is : r.reference.ovn ≡ Some ovn

-- a Put: the reference is recorded in place of the flight's former one, and its landing is the last
pub record Records (s : Service) (client : List ℕ) (flight : ℕ) (ovn : Option (List ℕ)) (extents : List Volume4D) (state : State) (base : List ℕ) (ticket : ℕ) (out : DssReply × Service) : Type 0 where
  pub new : Recorded
  pub notified : List Subscriber
  pub landing : Landing
  pub reply : out.0 ≡ Landed new.reference notified
  -- as it was put
  pub flight_is : new.reference.flight ≡ flight
  pub manager : new.reference.manager ≡ client
  pub state_is : new.reference.state ≡ state
  pub base_is : new.reference.base ≡ base
  pub ticket_is : new.reference.ticket ≡ ticket
  pub extents_are : new.extents ≡ extents
  -- from the least start of its extents to their greatest end
  pub start : IsLeast (λ v. v.start) extents new.reference.start
  pub end : IsGreatest (λ v. v.end) extents new.reference.end
  -- with the next OVN
  pub ovn_is : new.reference.ovn ≡ Some (ovn_of (length s.landings + 1))
  -- in version 1 where it is created, and in the next one where it is changed
  pub created : ovn ≡ None → (new.reference.version ≡ 1) × ((r : Recorded) → Has s.references r → r.reference.flight ≢ flight)
  pub changed : (o : List ℕ) → ovn ≡ Some o → (r : Recorded) × IsNamed s client flight o r × (new.reference.version ≡ r.reference.version + 1)
  pub references : (r : Recorded) → Has out.1.references r ↔ ((new ≡ r) ⊎ (Has s.references r × (r.reference.flight ≢ flight)))
  pub tickets : Notifies (IsNotifiedOfPut s client flight extents) s.tickets out.1.tickets notified
  pub landings : out.1.landings ≡ s.landings ++ landing ∷ []
  pub as_landed : IsAsLanded landing new.reference
  pub previous : landing.previous ≡ ovn
  pub retired_flights : out.1.retired_flights ≡ s.retired_flights
  pub retired_tickets : out.1.retired_tickets ≡ s.retired_tickets

-- a Remove: the flight's reference is gone, and the flight is retired
pub record Retires (s : Service) (client : List ℕ) (flight : ℕ) (ovn : List ℕ) (out : DssReply × Service) : Type 0 where
  pub recorded : Recorded
  pub notified : List Subscriber
  pub named : IsNamed s client flight ovn recorded
  pub reply : out.0 ≡ Removed recorded.reference notified
  pub references : (r : Recorded) → Has out.1.references r ↔ (Has s.references r × (r.reference.flight ≢ flight))
  pub tickets : Notifies (IsNotifiedOfRemove s client flight) s.tickets out.1.tickets notified
  pub landings : out.1.landings ≡ s.landings
  pub retired_flights : out.1.retired_flights ≡ s.retired_flights ++ flight ∷ []
  pub retired_tickets : out.1.retired_tickets ≡ s.retired_tickets

-- a TicketPut: the ticket is there, with index 0
pub record Makes (s : Service) (client : List ℕ) (ticket : ℕ) (area : Volume4D) (base : List ℕ) (out : DssReply × Service) : Type 0 where
  pub made : Ticket
  pub is : made ≡ record { id = ticket; manager = client; area = area; base = base; index = 0 }
  pub reply : out.0 ≡ TicketMade made
  pub tickets : (t : Ticket) → Has out.1.tickets t ↔ ((made ≡ t) ⊎ Has s.tickets t)
  pub rest : out.1 ≡ record s { tickets = out.1.tickets }

-- a TicketGet: the ticket
pub record Shows (s : Service) (client : List ℕ) (ticket : ℕ) (out : DssReply × Service) : Type 0 where
  pub got : Ticket
  pub there : Has s.tickets got
  pub id_is : got.id ≡ ticket
  pub manager : got.manager ≡ client
  pub reply : out.0 ≡ TicketGot got
  pub same : out.1 ≡ s

-- a TicketRemove: the ticket is gone, and its identifier is retired; no reference cites it
pub record TakesOut (s : Service) (client : List ℕ) (ticket : ℕ) (out : DssReply × Service) : Type 0 where
  pub gone : Ticket
  pub there : Has s.tickets gone
  pub id_is : gone.id ≡ ticket
  pub manager : gone.manager ≡ client
  pub uncited : (r : Recorded) → Has s.references r → r.reference.ticket ≢ ticket
  pub reply : out.0 ≡ TicketRemoved gone
  pub tickets : (t : Ticket) → Has out.1.tickets t ↔ (Has s.tickets t × (t.id ≢ ticket))
  pub retired_tickets : out.1.retired_tickets ≡ s.retired_tickets ++ ticket ∷ []
  pub rest : out.1 ≡ record s { tickets = out.1.tickets; retired_tickets = out.1.retired_tickets }

-- the call is carried out
abbrev pub CarriedOut : Service → List ℕ → DssAsk → DssReply × Service → Type 0
CarriedOut s client (Query area) out = Finds s client area out
CarriedOut s client (Get flight) out = Gets s client flight out
CarriedOut s client (Put flight ovn extents key state base ticket) out = Records s client flight ovn extents state base ticket out
CarriedOut s client (Remove flight ovn) out = Retires s client flight ovn out
CarriedOut s client (TicketPut ticket area base) out = Makes s client ticket area base out
CarriedOut s client (TicketGet ticket) out = Shows s client ticket out
CarriedOut s client (TicketRemove ticket version) out = TakesOut s client ticket out
