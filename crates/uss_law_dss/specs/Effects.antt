-- What a call may do to the discovery service: it lands, removes, makes a ticket, takes a ticket out, or leaves all as it is;
-- each with what the tests of the call said.
use Rattle.std.specs.Prelude.{ℕ, ◌<◌, ◌≤◌, ◌≡◌, ◌≢◌, true, false, List, length, Option, Some, None}
use Rattle.uss_vol4.specs.Volume.{Volume4D}
use Rattle.uss_vol4.specs.Bounding.{bounding_box, box_of}
use Rattle.uss_intent.specs.Limits.{most_ovns, most_extents, most_vertices, most_references, most_tickets, last_version, most_landings}
use Rattle.uss_intent.specs.declared.records.Recorded.{Recorded}
use Rattle.uss_intent.specs.declared.records.Ticket.{Ticket}
use Rattle.uss_intent.specs.declared.records.State.{State}
use Rattle.uss_intent.specs.declared.calls.DssAsk.{DssAsk}
use Rattle.uss_intent.specs.declared.calls.DssAsk.TheVariants.{Put, Remove, TicketPut, TicketRemove}
use Rattle.uss_intent.specs.declared.calls.DssReply.{DssReply}
use Rattle.uss_intent.specs.declared.calls.DssReply.TheVariants.{Found, Got, TicketGot, Refused}
use Rattle.uss_intent.specs.States.{is_strategic}
use Rattle.uss_intent.specs.Numbers.{is_one_of}
use Rattle.uss_law_dss.specs.Lists.{Has}
use Rattle.uss_law_dss.specs.Service.{Service, recorded_of, ticket_of, relevant, in_key, lies_in}
use Rattle.uss_law_dss.specs.Refusals.{vertex_count, is_cited}
use Rattle.uss_law_dss.specs.Step.{after_put, after_remove, after_ticket_put, after_ticket_remove}

-- a creation or a change of a reference
pub record Lands (s : Service) (client : List ℕ) (ask : DssAsk) (out : DssReply × Service) : Type 0 where
  pub flight : ℕ
  pub ovn : Option (List ℕ)
  pub extents : List Volume4D
  pub key : List (List ℕ)
  pub state : State
  pub base : List ℕ
  pub ticket : ℕ
  pub is : ask ≡ Put flight ovn extents key state base ticket
  pub out_is : out ≡ after_put s client flight ovn extents state base ticket
  pub some_extents : 0 < length extents
  pub few_extents : length extents ≤ most_extents
  pub few_vertices : vertex_count extents ≤ most_vertices
  pub few_ovns : length key ≤ most_ovns
  pub not_retired : is_one_of flight s.retired_flights ≡ false
  -- a creation is of a flight that isn't recorded
  pub creates : ovn ≡ None → (recorded_of flight s ≡ None) × (length s.references < most_references)
  -- a change is of the client's own reference, by its OVN
  pub changes : (o : List ℕ) → ovn ≡ Some o → (r : Recorded) × (recorded_of flight s ≡ Some r) × (r.reference.manager ≡ client) × (r.reference.ovn ≡ Some o) × (r.reference.version ≢ last_version)
  -- the cited ticket is the client's own, and its area covers the extents
  pub cites : (t : Ticket) × (ticket_of ticket s ≡ Some t) × (t.manager ≡ client) × (lies_in (bounding_box extents) (box_of t.area) ≡ true)
  -- the key has the OVN of each relevant reference
  pub keyed : is_strategic state ≡ true → (r : Recorded) → Has (relevant flight extents s) r → in_key key r.reference ≡ true
  pub room : length s.landings < most_landings

-- the end of a reference
pub record Removes (s : Service) (client : List ℕ) (ask : DssAsk) (out : DssReply × Service) : Type 0 where
  pub flight : ℕ
  pub ovn : List ℕ
  pub recorded : Recorded
  pub is : ask ≡ Remove flight ovn
  pub found : recorded_of flight s ≡ Some recorded
  pub manager : recorded.reference.manager ≡ client
  pub by_ovn : recorded.reference.ovn ≡ Some ovn
  pub out_is : out ≡ after_remove s client recorded

pub record MakesTicket (s : Service) (client : List ℕ) (ask : DssAsk) (out : DssReply × Service) : Type 0 where
  pub ticket : ℕ
  pub area : Volume4D
  pub base : List ℕ
  pub is : ask ≡ TicketPut ticket area base
  pub absent : ticket_of ticket s ≡ None
  pub not_retired : is_one_of ticket s.retired_tickets ≡ false
  pub room : length s.tickets < most_tickets
  pub out_is : out ≡ after_ticket_put s client ticket area base

pub record TakesTicketOut (s : Service) (client : List ℕ) (ask : DssAsk) (out : DssReply × Service) : Type 0 where
  pub id : ℕ
  pub ticket : Ticket
  pub is : ask ≡ TicketRemove id 1
  pub found : ticket_of id s ≡ Some ticket
  pub manager : ticket.manager ≡ client
  pub uncited : is_cited id s.references ≡ false
  pub out_is : out ≡ after_ticket_remove s ticket

-- the reply tells of no change
abbrev pub TellsNoChange : DssReply → Type 0
TellsNoChange (Found references) = Unit {0}
TellsNoChange (Got reference) = Unit {0}
TellsNoChange (TicketGot ticket) = Unit {0}
TellsNoChange (Refused refusal) = Unit {0}
TellsNoChange _ = ⊥

pub record Stays (s : Service) (out : DssReply × Service) : Type 0 where
  pub same : out.1 ≡ s
  pub reply : TellsNoChange out.0

pub data Effect (s : Service) (client : List ℕ) (ask : DssAsk) (out : DssReply × Service) : Type 0 where
  lands : Lands s client ask out → Effect s client ask out
  removes : Removes s client ask out → Effect s client ask out
  makes_ticket : MakesTicket s client ask out → Effect s client ask out
  takes_ticket_out : TakesTicketOut s client ask out → Effect s client ask out
  stays : Stays s out → Effect s client ask out
