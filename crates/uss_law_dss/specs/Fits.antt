-- Which replies of the discovery service fit a call. A client takes any other reply as unreadable. This project's own.
use Rattle.std.specs.Prelude.{ℕ, Bool, true, false, ◌&&◌, ◌==◌, nat_lt, nat_le, List, [], ◌∷◌, length, is_some}
use Rattle.uss_intent.specs.Limits.{most_references, most_tickets}
use Rattle.uss_intent.specs.declared.records.Reference.{Reference}
use Rattle.uss_intent.specs.declared.records.Subscriber.{Subscriber}
use Rattle.uss_intent.specs.declared.calls.DssAsk.{DssAsk}
use Rattle.uss_intent.specs.declared.calls.DssAsk.TheVariants.{Query, Get, Put, Remove, TicketPut, TicketGet, TicketRemove}
use Rattle.uss_intent.specs.declared.calls.DssReply.{DssReply}
use Rattle.uss_intent.specs.declared.calls.DssReply.TheVariants.{Found, Got, Landed, Removed, TicketMade, TicketGot, TicketRemoved, Refused}
use Rattle.uss_intent.specs.declared.calls.DssRefusal.{DssRefusal}
use Rattle.uss_intent.specs.declared.calls.DssRefusal.TheVariants.{MissingKey}
use Rattle.uss_intent.specs.Same.{same_text}
use Rattle.uss_intent.specs.States.{same_state}

-- the first has a lesser flight than the reference
abbrev pub is_before : ℕ → List Reference → Bool
is_before flight [] = true
is_before flight (r ∷ rs) = nat_lt flight r.flight

-- the references ascend by flight, each flight once
abbrev pub ascend : List Reference → Bool
ascend [] = true
ascend (r ∷ rs) = is_before r.flight rs && ascend rs

-- references as a Query or a refusal for want of a key may list them
abbrev pub is_list : List Reference → Bool
is_list rs = nat_le (length rs) most_references && ascend rs

abbrev pub are_few : List Subscriber → Bool
are_few subscribers = nat_le (length subscribers) most_tickets

-- any refusal fits, where the references that it lists do
abbrev pub refusal_fits : DssRefusal → Bool
refusal_fits (MissingKey rs) = is_list rs
refusal_fits _ = true

-- the reply is of the call's kind and of what the call names; a landed reference has the call's state and base, and shows its
-- OVN; a Query is never refused
abbrev pub fits : DssAsk → DssReply → Bool
fits (Query area) (Found rs) = is_list rs
fits (Query area) _ = false
fits _ (Refused refusal) = refusal_fits refusal
fits (Get flight) (Got r) = r.flight == flight
fits (Put flight ovn extents key state base ticket) (Landed r subscribers) =
    (r.flight == flight) && (same_state r.state state && (same_text r.base base && (is_some r.ovn && are_few subscribers)))
fits (Remove flight ovn) (Removed r subscribers) = (r.flight == flight) && are_few subscribers
fits (TicketPut ticket area base) (TicketMade t) = t.id == ticket
fits (TicketGet ticket) (TicketGot t) = t.id == ticket
fits (TicketRemove ticket version) (TicketRemoved t) = t.id == ticket
fits _ _ = false
