-- The calls of a job, by its book. The calls are those of the OpenAPI annex of ASTM F3548-21; which job makes which is this project's
-- own.
use Rattle.std.specs.Prelude.{ℕ, Bool, false, List, [], Option, Some, None, option_map, option_and_then}
use Rattle.std.specs.List.{last_or}
use Rattle.uss_vol4.specs.Volume.{Volume4D}
use Rattle.uss_intent.specs.declared.calls.DssAsk.{DssAsk}
use Rattle.uss_intent.specs.declared.calls.DssAsk.TheVariants as Asks
use Rattle.uss_event.specs.Same.{same_call}
use Rattle.uss_event.specs.declared.details.Proposal.{Proposal}
use Rattle.uss_event.specs.declared.asks.Wish.{Wish}
use Rattle.uss_event.specs.declared.asks.Wish.TheVariants.{Put, End}
use Rattle.uss_event.specs.declared.entries.Owner.{Owner}
use Rattle.uss_event.specs.declared.entries.Entry.{Entry}
use Rattle.uss_event.specs.declared.calls.PeerCall.{PeerCall}
use Rattle.uss_event.specs.declared.calls.PeerCall.TheVariants as Calls
use Rattle.uss_event.specs.declared.calls.Outgoing.{Outgoing}
use Rattle.uss_event.specs.declared.calls.Outgoing.TheVariants as Goes
use Rattle.uss_event.specs.declared.entries.Opening.{Opening}
use Rattle.uss_event.specs.declared.entries.Trial.{Trial}
use Rattle.uss_law_book.specs.Contents.{trials_of, current_ovn_of}
use Rattle.uss_law_book.specs.Attempts.{Attempted, attempt_of, put_of}
use Rattle.uss_law_duty.specs.Answers.{flight_of}
use Rattle.uss_law_duty.specs.Sends.{area_round, ticket_put, ticket_remove}
use Rattle.uss_law_supplier.specs.declared.duties.Awaited.{Awaited}
use Rattle.uss_law_supplier.specs.declared.duties.Awaited.TheVariants as Waits

-- the alternatives of a wish
abbrev pub proposals_of : Wish → List Proposal
proposals_of (Put to priority rounds proposals) = proposals
proposals_of End = []

-- a plan looks in the area of its job's ticket
abbrev pub area_of : Wish → Volume4D
area_of wish = area_round (proposals_of wish)

-- the last attempt of a job
unfoldable pub last_trial : ℕ → List Entry → Option Trial
last_trial job book = last_or None (trials_of job book)

abbrev pub last_attempt : ℕ → List Entry → Option Attempted
last_attempt job book = option_and_then (λ (t : Trial). attempt_of t.tag book) (last_trial job book)

-- a job's call of a kind, where this is its last attempt and this the OVN of what is recorded of its flight; the details of a flight
-- are no call of the discovery service
abbrev pub call_with : Owner → Opening → Option Attempted → Option (List ℕ) → Awaited → Option DssAsk
call_with owner o attempt base Waits.TicketPut = Some (ticket_put owner o.job (proposals_of o.ask.wish))
call_with owner o attempt base Waits.Query = Some (Asks.Query (area_of o.ask.wish))
call_with owner o attempt base Waits.Details = None
call_with owner o attempt base Waits.Put = option_map put_of attempt
call_with owner o attempt base Waits.Get = Some (Asks.Get (flight_of owner o))
call_with owner o attempt base Waits.TicketRemove = Some (ticket_remove owner o.job)
call_with owner o attempt base Waits.Remove = option_map (λ ovn. Asks.Remove (flight_of owner o) ovn) base

-- and as the book has it
abbrev pub call_of : Owner → List Entry → Opening → Awaited → Option DssAsk
call_of owner book o kind = call_with owner o (last_attempt o.job book) (current_ovn_of o.ask.flight book) kind

-- of which kind a call is; no job asks for a ticket, and a notification isn't waited for
abbrev pub kind_of_ask : DssAsk → Option Awaited
kind_of_ask (Asks.Query area) = Some Waits.Query
kind_of_ask (Asks.Get flight) = Some Waits.Get
kind_of_ask (Asks.Put flight ovn extents key state base ticket) = Some Waits.Put
kind_of_ask (Asks.Remove flight ovn) = Some Waits.Remove
kind_of_ask (Asks.TicketPut ticket area base) = Some Waits.TicketPut
kind_of_ask (Asks.TicketGet ticket) = None
kind_of_ask (Asks.TicketRemove ticket version) = Some Waits.TicketRemove

abbrev pub kind_of_call : PeerCall → Option Awaited
kind_of_call (Calls.Details job flight manager base) = Some Waits.Details
kind_of_call (Calls.Notify job index base note) = None

abbrev pub kind_of : Outgoing → Option Awaited
kind_of (Goes.Dss call) = kind_of_ask call.ask
kind_of (Goes.Peer call) = kind_of_call call

-- the call is the one that is waited for
abbrev pub is_it : Outgoing → Option Outgoing → Bool
is_it call None = false
is_it call (Some awaited) = same_call awaited call
