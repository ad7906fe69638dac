-- Worked calls of a service that is nearly full. Of its state only what the calls look at is filled in.
use Rattle.std.specs.Prelude.{ℕ, List, [], ◌∷◌, map, codes, Some, None}
use Rattle.std.specs.List.{range_with_len}
use Rattle.uss_intent.specs.declared.records.Reference.{Reference}
use Rattle.uss_intent.specs.declared.records.State.TheVariants.{Accepted, Contingent}
use Rattle.uss_intent.specs.declared.calls.DssAsk.{DssAsk}
use Rattle.uss_intent.specs.declared.calls.DssAsk.TheVariants.{Put, Remove, TicketPut, TicketRemove}
use Rattle.uss_intent.specs.declared.calls.DssReply.{DssReply}
use Rattle.uss_intent.specs.declared.calls.DssReply.TheVariants.{Landed, Removed, TicketMade, TicketRemoved, Refused}
use Rattle.uss_intent.specs.declared.calls.DssRefusal.TheVariants.{Full}
use Rattle.uss_law_dss.specs.Service.{Service, empty}
use Rattle.uss_law_dss.specs.Transcript.{alpha, flight, other, ticket, other_ticket, area, the_ticket, the_reference}

-- 4,095 flights are recorded, with the identifiers from 1 on
abbrev pub many_references : Service
many_references =
    record empty {
      references = map (λ n. record { reference = record the_reference { flight = n }; extents = area ∷ [] }) (range_with_len 1 4095);
      tickets = the_ticket ∷ [];
    }

-- the Put of a flight into Contingent, so that it needs no key
abbrev pub put : ℕ → List ℕ × DssAsk
put f = (alpha, Put f None (area ∷ []) [] Contingent (codes "http://a.test/a/1") ticket)

-- one more is created, but not a second; one may still be changed; after a removal there is room again
abbrev pub filling_references : List (List ℕ × DssAsk)
filling_references =
    put flight
    ∷ put other
    ∷ (alpha, Put flight (Some (codes "ovn-0000000000000001")) (area ∷ []) [] Contingent (codes "http://a.test/a/2") ticket)
    ∷ (alpha, Remove flight (codes "ovn-0000000000000002"))
    ∷ put other
    ∷ []

abbrev pub contingent : Reference
contingent = record the_reference { state = Contingent }

abbrev pub changed_contingent : Reference
changed_contingent = record contingent { version = 2; ovn = Some (codes "ovn-0000000000000002"); base = codes "http://a.test/a/2" }

abbrev pub the_references_replies : List DssReply
the_references_replies =
    Landed contingent []
    ∷ Refused (Full 4096)
    ∷ Landed changed_contingent []
    ∷ Removed changed_contingent []
    ∷ Landed (record contingent { flight = other; ovn = Some (codes "ovn-0000000000000003") }) []
    ∷ []

-- 8,191 tickets are there, with the identifiers from 1 on
abbrev pub many_tickets : Service
many_tickets = record empty { tickets = map (λ n. record the_ticket { id = n }) (range_with_len 1 8191) }

abbrev pub filling_tickets : List (List ℕ × DssAsk)
filling_tickets =
    (alpha, TicketPut ticket area (codes "http://a.test"))
    ∷ (alpha, TicketPut other_ticket area (codes "http://a.test"))
    ∷ (alpha, TicketRemove ticket 1)
    ∷ (alpha, TicketPut other_ticket area (codes "http://a.test"))
    ∷ []

abbrev pub the_tickets_replies : List DssReply
the_tickets_replies =
    TicketMade the_ticket
    ∷ Refused (Full 8192)
    ∷ TicketRemoved the_ticket
    ∷ TicketMade (record the_ticket { id = other_ticket })
    ∷ []

-- the flight is recorded in its last version but one
abbrev pub late_reference : Reference
late_reference = record the_reference { version = 4294967294; ovn = Some (codes "ovn-0000000000000009") }

abbrev pub late_version : Service
late_version = record empty { references = record { reference = late_reference; extents = area ∷ [] } ∷ []; tickets = the_ticket ∷ [] }

abbrev pub last_changes : List (List ℕ × DssAsk)
last_changes =
    (alpha, Put flight (Some (codes "ovn-0000000000000009")) (area ∷ []) [] Accepted (codes "http://a.test/a/2") ticket)
    ∷ (alpha, Put flight (Some (codes "ovn-0000000000000001")) (area ∷ []) [] Accepted (codes "http://a.test/a/3") ticket)
    ∷ (alpha, Remove flight (codes "ovn-0000000000000001"))
    ∷ []

abbrev pub last_reference : Reference
last_reference = record the_reference { version = 4294967295; base = codes "http://a.test/a/2" }

abbrev pub the_last_replies : List DssReply
the_last_replies = Landed last_reference [] ∷ Refused (Full 4294967295) ∷ Removed last_reference [] ∷ []
