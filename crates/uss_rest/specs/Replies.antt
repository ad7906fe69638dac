-- The replies of the discovery service as responses, and what its client makes of a response. The statuses are this project's own.
use Rattle.std.specs.Prelude.{◌≡◌, ℕ, Bool, true, ◌==◌, List, [], ◌∷◌, Option, Some, None, option_map, Result, Ok, Err, if◌then◌else◌}
use Rattle.uss_vol4.specs.Volume.{Volume4D}
use Rattle.uss_intent.specs.declared.records.Reference.{Reference}
use Rattle.uss_intent.specs.declared.records.Ticket.{Ticket}
use Rattle.uss_intent.specs.declared.calls.DssAsk.{DssAsk}
use Rattle.uss_intent.specs.declared.calls.DssAsk.TheVariants.{Query, Get, Put, Remove, TicketPut, TicketGet, TicketRemove}
use Rattle.uss_intent.specs.declared.calls.DssReply.{DssReply}
use Rattle.uss_intent.specs.declared.calls.DssReply.TheVariants.{Found, Got, Landed, Removed, TicketMade, TicketGot, TicketRemoved, Refused}
use Rattle.uss_law_dss.specs.Fits.{fits, is_before}
use Rattle.uss_http_response.specs.declared.response.Response.{Response}
use Rattle.uss_wire_base.specs.declared.refusal.WireRefusal.{WireRefusal}
use Rattle.uss_wire_base.specs.Reading.{message_of}
use Rattle.uss_wire_base.specs.Writing.{IsTextOf, AllOf}
use Rattle.uss_wire_dss.specs.Replies.{query_answer_at, get_answer_at, subscription_answer_at}
use Rattle.uss_wire_dss.specs.ChangesAndErrors.{change_answer_at}
use Rattle.uss_wire_dss.specs.ReplyWriting.{query_answer_json, get_answer_json, change_answer_json, subscription_answer_json, IsReadable, IsReadableSubscriber, IsReadableTicket, IsReadableError}
use Rattle.uss_rest.specs.DssRefusals.{IsResponseOf, error_of, refusal_in, as_sent}

-- the first reference has a lesser flight than the second, if there is one
abbrev pub first_rises : List Reference → Bool
first_rises [] = true
first_rises (r ∷ rs) = is_before r.flight rs

-- the status of a call that isn't refused
abbrev pub ok_status : DssAsk → ℕ
ok_status (Put flight None extents key state base ticket) = 201
ok_status _ = 200

-- the response is the reply to the call
abbrev pub IsResponseTo : DssAsk → DssReply → Response → Type 0
IsResponseTo ask (Found references) response = (response.status ≡ ok_status ask) × IsTextOf (query_answer_json references) response.body
IsResponseTo ask (Got reference) response = (response.status ≡ ok_status ask) × IsTextOf (get_answer_json reference) response.body
IsResponseTo ask (Landed reference subscribers) response = (response.status ≡ ok_status ask) × IsTextOf (change_answer_json reference subscribers) response.body
IsResponseTo ask (Removed reference subscribers) response = (response.status ≡ ok_status ask) × IsTextOf (change_answer_json reference subscribers) response.body
IsResponseTo ask (TicketMade ticket) response = (response.status ≡ ok_status ask) × IsTextOf (subscription_answer_json ticket) response.body
IsResponseTo ask (TicketGot ticket) response = (response.status ≡ ok_status ask) × IsTextOf (subscription_answer_json ticket) response.body
IsResponseTo ask (TicketRemoved ticket) response = (response.status ≡ ok_status ask) × IsTextOf (subscription_answer_json ticket) response.body
IsResponseTo ask (Refused refusal) response = IsResponseOf refusal response

-- what was read; nothing where it was refused
abbrev pub read_of : {A : Type 0} → Result A WireRefusal → Option A
read_of (Ok x) = Some x
read_of (Err refused) = None

abbrev pub as_reply : {A : Type 0} → (A → DssReply) → Result A WireRefusal → Option DssReply
as_reply f r = option_map f (read_of r)

-- the reply that a body stands for to a client whose call wasn't refused; a ticket has the area of the call, or else the given one
abbrev pub answer_in : List ℕ → Volume4D → DssAsk → List ℕ → Option DssReply
answer_in client given (Query area) body = as_reply Found (message_of (query_answer_at client) body)
answer_in client given (Get flight) body = as_reply Got (message_of (get_answer_at client) body)
answer_in client given (Put flight ovn extents key state base ticket) body = as_reply (λ x. Landed x.0 x.1) (message_of (change_answer_at client) body)
answer_in client given (Remove flight ovn) body = as_reply (λ x. Removed x.0 x.1) (message_of (change_answer_at client) body)
answer_in client given (TicketPut ticket area base) body = as_reply TicketMade (message_of (subscription_answer_at client area) body)
answer_in client given (TicketGet ticket) body = as_reply TicketGot (message_of (subscription_answer_at client given) body)
answer_in client given (TicketRemove ticket version) body = as_reply TicketRemoved (message_of (subscription_answer_at client given) body)

-- by the status it is the answer to the call, or a refusal
abbrev pub reply_read : List ℕ → Volume4D → DssAsk → ℕ → List ℕ → Option DssReply
reply_read client given ask status body = if status == ok_status ask then answer_in client given ask body else option_map Refused (refusal_in client status body)

-- a reply that doesn't fit the call is none
abbrev pub if_fits : DssAsk → Option DssReply → Option DssReply
if_fits ask None = None
if_fits ask (Some reply) = if fits ask reply then Some reply else None

-- the reply that a response to this client's call stands for, and none where it can't be read as one
abbrev pub reply_in : List ℕ → Volume4D → DssAsk → ℕ → List ℕ → Option DssReply
reply_in client given ask status body = if_fits ask (reply_read client given ask status body)

-- the reply as the client knows it
abbrev pub reply_sent : DssReply → DssReply
reply_sent (Refused refusal) = Refused (as_sent refusal)
reply_sent reply = reply

-- the client can know the ticket: it is its own, and it is of this area
pub record IsKnown (client : List ℕ) (area : Volume4D) (ticket : Ticket) : Type 0 where
  pub readable : IsReadableTicket ticket
  pub manager : ticket.manager ≡ client
  pub area_is : ticket.area ≡ area

-- what a reply shows this client is such that its reader can give it: it has no OVN of another's, and no other's ticket
abbrev pub IsShown : List ℕ → Volume4D → DssAsk → DssReply → Type 0
IsShown client given ask (Found references) = AllOf (IsReadable client) references
IsShown client given ask (Got reference) = IsReadable client reference
IsShown client given ask (Landed reference subscribers) = IsReadable client reference × AllOf IsReadableSubscriber subscribers
IsShown client given ask (Removed reference subscribers) = IsReadable client reference × AllOf IsReadableSubscriber subscribers
IsShown client given (TicketPut id area base) (TicketMade ticket) = IsKnown client area ticket
IsShown client given ask (TicketMade ticket) = ⊥
IsShown client given ask (TicketGot ticket) = IsKnown client given ticket
IsShown client given ask (TicketRemoved ticket) = IsKnown client given ticket
IsShown client given ask (Refused refusal) = IsReadableError client (error_of refusal)
