-- When the discovery service refuses a call: for each call its tests in the order of the refusals' numbers, of which the first
-- that holds is given.
use Rattle.std.specs.Prelude.{ℕ, Bool, true, false, not, ◌&&◌, ◌||◌, ◌==◌, nat_lt, nat_le, List, [], ◌∷◌, length, map, sum_by, Option, Some, None, is_some, is_none, if◌then◌else◌}
use Rattle.std.specs.List.{list_any}
use Rattle.uss_vol4.specs.Volume.{Volume4D}
use Rattle.uss_vol4.specs.Bounding.{bounding_box, box_of}
use Rattle.uss_intent.specs.Limits.{most_ovns, most_extents, most_vertices, most_references, most_tickets, last_version, most_landings}
use Rattle.uss_intent.specs.declared.records.Recorded.{Recorded}
use Rattle.uss_intent.specs.declared.records.Reference.{Reference}
use Rattle.uss_intent.specs.declared.records.Ticket.{Ticket}
use Rattle.uss_intent.specs.declared.records.State.{State}
use Rattle.uss_intent.specs.declared.calls.DssAsk.{DssAsk}
use Rattle.uss_intent.specs.declared.calls.DssAsk.TheVariants.{Query, Get, Put, Remove, TicketPut, TicketGet, TicketRemove}
use Rattle.uss_intent.specs.declared.calls.DssRefusal.{DssRefusal}
use Rattle.uss_intent.specs.declared.calls.DssRefusal.TheVariants.{BadCall, NotYours, Exists, Retired, Absent, StaleOvn, NoTicket, NotCovered, MissingKey, TicketInUse, Full}
use Rattle.uss_intent.specs.Refusals.{refusal_number}
use Rattle.uss_intent.specs.Same.{same_text}
use Rattle.uss_intent.specs.States.{is_strategic}
use Rattle.uss_intent.specs.Numbers.{is_one_of}
use Rattle.uss_law_dss.specs.Service.{Service, recorded_of, ticket_of, has_ovn, shown_to, relevant, lacking, lies_in}

-- how many vertices the volumes have together
abbrev pub vertex_count : List Volume4D → ℕ
vertex_count extents = sum_by (λ v. length v.outline) extents

-- 201: no extent, more than 64, more than 10,000 vertices together, or more than 1,024 OVNs
abbrev pub is_bad_put : List Volume4D → List (List ℕ) → Bool
is_bad_put extents key =
    (length extents == 0) || (nat_lt most_extents (length extents) || (nat_lt most_vertices (vertex_count extents) || nat_lt most_ovns (length key)))

-- 202: the reference, or the ticket, is there and another client manages it
abbrev pub is_others : List ℕ → Option Recorded → Bool
is_others client None = false
is_others client (Some r) = not (same_text r.reference.manager client)

abbrev pub is_others_ticket : List ℕ → Option Ticket → Bool
is_others_ticket client None = false
is_others_ticket client (Some t) = not (same_text t.manager client)

-- 206: the reference is there and this isn't its OVN
abbrev pub is_stale : Option Recorded → List ℕ → Bool
is_stale None ovn = false
is_stale (Some r) ovn = not (has_ovn r.reference.ovn ovn)

-- the same, where an OVN is given
abbrev pub is_stale_change : Option Recorded → Option (List ℕ) → Bool
is_stale_change r None = false
is_stale_change r (Some ovn) = is_stale r ovn

-- 207: the cited ticket isn't there, or another client manages it
abbrev pub is_no_ticket_of : List ℕ → Option Ticket → Bool
is_no_ticket_of client None = true
is_no_ticket_of client (Some t) = not (same_text t.manager client)

-- 208: the bounding box of the extents doesn't lie in that of the cited ticket's area
abbrev pub is_uncovered : Option Ticket → List Volume4D → Bool
is_uncovered None extents = false
is_uncovered (Some t) extents = not (lies_in (bounding_box extents) (box_of t.area))

-- 210: a recorded reference cites the ticket
abbrev pub is_cited : ℕ → List Recorded → Bool
is_cited ticket rs = list_any (λ r. r.reference.ticket == ticket) rs

-- 211: what is recorded has the greatest version
abbrev pub is_at_last_version : Option Recorded → Bool
is_at_last_version None = false
is_at_last_version (Some r) = r.reference.version == last_version

-- the references as they are shown to a client
abbrev pub shown_all : List ℕ → List Recorded → List Reference
shown_all client rs = map (λ r. shown_to client r.reference) rs

-- the refusals of a Put
abbrev pub put_tests : Service → List ℕ → ℕ → Option (List ℕ) → List Volume4D → List (List ℕ) → State → ℕ → List (Bool × DssRefusal)
put_tests s client flight ovn extents key state ticket =
    let r = recorded_of flight s in
    let t = ticket_of ticket s in
    let missing = lacking key (relevant flight extents s) in
    (is_bad_put extents key, BadCall)
    ∷ (is_others client r, NotYours)
    ∷ (is_none ovn && is_some r, Exists)
    ∷ (is_one_of flight s.retired_flights, Retired)
    ∷ (is_some ovn && is_none r, Absent)
    ∷ (is_stale_change r ovn, StaleOvn)
    ∷ (is_no_ticket_of client t, NoTicket)
    ∷ (is_uncovered t extents, NotCovered)
    ∷ (is_strategic state && not (length missing == 0), MissingKey (shown_all client missing))
    ∷ (is_none ovn && nat_le most_references (length s.references), Full most_references)
    ∷ (is_at_last_version r, Full last_version)
    ∷ (nat_le most_landings (length s.landings), Full most_landings)
    ∷ []

-- the tests of a call
abbrev pub tests_of : Service → List ℕ → DssAsk → List (Bool × DssRefusal)
tests_of s client (Query area) = []
tests_of s client (Get flight) =
    (is_one_of flight s.retired_flights, Retired)
    ∷ (is_none (recorded_of flight s), Absent)
    ∷ []
tests_of s client (Put flight ovn extents key state base ticket) = put_tests s client flight ovn extents key state ticket
tests_of s client (Remove flight ovn) =
    let r = recorded_of flight s in
    (is_others client r, NotYours)
    ∷ (is_one_of flight s.retired_flights, Retired)
    ∷ (is_none r, Absent)
    ∷ (is_stale r ovn, StaleOvn)
    ∷ []
tests_of s client (TicketPut ticket area base) =
    let t = ticket_of ticket s in
    (is_others_ticket client t, NotYours)
    ∷ (is_some t, Exists)
    ∷ (is_one_of ticket s.retired_tickets, Retired)
    ∷ (nat_le most_tickets (length s.tickets), Full most_tickets)
    ∷ []
tests_of s client (TicketGet ticket) =
    let t = ticket_of ticket s in
    (is_others_ticket client t, NotYours)
    ∷ (is_one_of ticket s.retired_tickets, Retired)
    ∷ (is_none t, Absent)
    ∷ []
tests_of s client (TicketRemove ticket version) =
    let t = ticket_of ticket s in
    (is_others_ticket client t, NotYours)
    ∷ (is_one_of ticket s.retired_tickets, Retired)
    ∷ (is_none t, Absent)
    ∷ (not (version == 1), StaleOvn)
    ∷ (is_cited ticket s.references, TicketInUse)
    ∷ []

-- the first refusal whose test holds
abbrev pub first_of : List (Bool × DssRefusal) → Option DssRefusal
first_of [] = None
first_of (t ∷ ts) = if t.0 then Some t.1 else first_of ts

-- why a call is refused, if it is
abbrev pub refusal_of : Service → List ℕ → DssAsk → Option DssRefusal
refusal_of s client ask = first_of (tests_of s client ask)

-- the numbers of a call's tests don't fall
abbrev pub does_not_fall : ℕ → List (Bool × DssRefusal) → Bool
does_not_fall n [] = true
does_not_fall n (t ∷ ts) = nat_le n (refusal_number t.1) && does_not_fall (refusal_number t.1) ts
