-- Worked calls of two clients that are refused, each kind of call for each of its reasons; and calls at a limit that are not.
use Rattle.std.specs.Prelude.{ℕ, neg_ℤ, List, [], ◌∷◌, ◌++◌, map, replicate, codes, Some, None, pos}
use Rattle.uss_shape.specs.Shape.{corners}
use Rattle.uss_vol4.specs.Volume.{Volume4D}
use Rattle.uss_intent.specs.declared.records.Reference.{Reference}
use Rattle.uss_intent.specs.declared.records.State.TheVariants.{Accepted}
use Rattle.uss_intent.specs.declared.calls.DssAsk.{DssAsk}
use Rattle.uss_intent.specs.declared.calls.DssAsk.TheVariants.{Get, Put, Remove, TicketPut, TicketGet, TicketRemove}
use Rattle.uss_intent.specs.declared.calls.DssReply.{DssReply}
use Rattle.uss_intent.specs.declared.calls.DssReply.TheVariants.{Landed, Removed, TicketMade, TicketRemoved, Refused}
use Rattle.uss_intent.specs.declared.calls.DssRefusal.TheVariants.{BadCall, NotYours, Exists, Retired, Absent, StaleOvn, NoTicket, NotCovered, TicketInUse}
use Rattle.uss_law_dss.specs.Transcript.{alpha, beta, flight, other, ticket, other_ticket, area, the_ticket, the_other_ticket, the_reference}

-- a creation of alpha's flight over these volumes, with this key and this ticket
abbrev pub creation : List Volume4D → List (List ℕ) → ℕ → List ℕ × DssAsk
creation extents key cited = (alpha, Put flight None extents key Accepted (codes "http://a.test/a/1") cited)

-- a change of it, from the reference with this OVN
abbrev pub change_from : List ℕ → List Volume4D → List ℕ × DssAsk
change_from ovn extents = (alpha, Put flight (Some ovn) extents [] Accepted (codes "http://a.test/a/2") ticket)

-- an OVN that no reference has
abbrev pub no_ovn : List ℕ
no_ovn = codes "ovn-0000000000000009"

-- a ticket that nobody made: 00000001-0001-4000-8000-000000000009
abbrev pub no_ticket : ℕ
no_ticket = 0x00000001_0001_4000_8000_000000000009

-- a volume with the region of the area, of so many vertices beyond the four corners
abbrev pub with_vertices : ℕ → Volume4D
with_vertices more = record area { outline = area.outline ++ replicate more (record { x = pos 0; y = pos 0 }) }

-- ten volumes of 1,000 vertices each
abbrev pub many_vertices : List Volume4D
many_vertices = replicate 10 (with_vertices 996)

-- beyond the area by one unit, on each of its eight sides
abbrev pub beyond : List Volume4D
beyond =
    record area { outline = corners (record { x1 = neg_ℤ (pos 1); y1 = pos 0; x2 = pos 100; y2 = pos 100 }) }
    ∷ record area { outline = corners (record { x1 = pos 0; y1 = neg_ℤ (pos 1); x2 = pos 100; y2 = pos 100 }) }
    ∷ record area { outline = corners (record { x1 = pos 0; y1 = pos 0; x2 = pos 101; y2 = pos 100 }) }
    ∷ record area { outline = corners (record { x1 = pos 0; y1 = pos 0; x2 = pos 100; y2 = pos 101 }) }
    ∷ record area { low = neg_ℤ (pos 1) }
    ∷ record area { high = pos 1001 }
    ∷ record area { start = pos 1700003599999999999 }
    ∷ record area { end = pos 1700005400000000001 }
    ∷ []

abbrev pub refusing : List (List ℕ × DssAsk)
refusing =
    (alpha, TicketPut ticket area (codes "http://a.test"))
    ∷ (beta, TicketPut other_ticket area (codes "http://b.test"))
    -- no extent, 65 extents, 10,001 vertices together, 1,025 OVNs
    ∷ creation [] [] ticket
    ∷ creation (replicate 65 area) [] ticket
    ∷ creation (area ∷ with_vertices 993 ∷ replicate 9 (with_vertices 996)) [] ticket
    ∷ creation (area ∷ []) (replicate 1025 no_ovn) ticket
    -- a ticket that is not there, and another client's
    ∷ creation (area ∷ []) [] no_ticket
    ∷ creation (area ∷ []) [] other_ticket
    -- extents that do not lie in the ticket's area, alone and beside one that does
    ∷ map (λ v. creation (v ∷ []) [] ticket) beyond
    ++ map (λ v. creation (area ∷ v ∷ []) [] ticket) beyond
    -- 64 extents and 1,024 OVNs land; then 10,000 vertices
    ++ creation (replicate 64 area) (replicate 1024 no_ovn) ticket
    ∷ change_from (codes "ovn-0000000000000001") many_vertices
    -- of a flight that is there
    ∷ creation (area ∷ []) [] ticket
    ∷ change_from (codes "ovn-0000000000000001") (area ∷ [])
    ∷ (beta, Put flight (Some (codes "ovn-0000000000000002")) (area ∷ []) [] Accepted (codes "http://b.test/a/1") other_ticket)
    ∷ (beta, Put flight None (area ∷ []) [] Accepted (codes "http://b.test/a/1") other_ticket)
    -- of a flight that never was
    ∷ (beta, Put other (Some no_ovn) (area ∷ []) [] Accepted (codes "http://b.test/a/1") other_ticket)
    ∷ (beta, Remove other no_ovn)
    -- of tickets: there, another client's, never there, by another version than 1, cited
    ∷ (alpha, TicketPut ticket area (codes "http://a.test"))
    ∷ (beta, TicketPut ticket area (codes "http://b.test"))
    ∷ (beta, TicketGet ticket)
    ∷ (beta, TicketRemove ticket 1)
    ∷ (alpha, TicketGet no_ticket)
    ∷ (alpha, TicketRemove no_ticket 1)
    ∷ (beta, TicketRemove other_ticket 2)
    ∷ (beta, TicketRemove other_ticket 0)
    ∷ (alpha, TicketRemove ticket 2)
    ∷ (alpha, TicketRemove ticket 1)
    -- of what was removed, by whichever client
    ∷ (alpha, Remove flight (codes "ovn-0000000000000002"))
    ∷ (alpha, TicketRemove ticket 1)
    ∷ (beta, Get flight)
    ∷ (beta, Remove flight (codes "ovn-0000000000000002"))
    ∷ (beta, Put flight None (area ∷ []) [] Accepted (codes "http://b.test/a/1") other_ticket)
    ∷ (alpha, Put flight (Some (codes "ovn-0000000000000002")) (area ∷ []) [] Accepted (codes "http://a.test/a/3") ticket)
    ∷ (beta, TicketPut ticket area (codes "http://b.test"))
    ∷ (beta, TicketGet ticket)
    ∷ (beta, TicketRemove ticket 1)
    ∷ []

-- the reference after the change
abbrev pub changed : Reference
changed = record the_reference { version = 2; ovn = Some (codes "ovn-0000000000000002"); base = codes "http://a.test/a/2" }

abbrev pub the_refusing_replies : List DssReply
the_refusing_replies =
    TicketMade the_ticket
    ∷ TicketMade the_other_ticket
    ∷ replicate 4 (Refused BadCall)
    ++ replicate 2 (Refused NoTicket)
    ++ replicate 16 (Refused NotCovered)
    ++ Landed the_reference (record { base = codes "http://b.test"; ticket = other_ticket; index = 1 } ∷ [])
    ∷ Landed changed (record { base = codes "http://b.test"; ticket = other_ticket; index = 2 } ∷ [])
    ∷ Refused Exists
    ∷ Refused StaleOvn
    ∷ Refused NotYours
    ∷ Refused NotYours
    ∷ Refused Absent
    ∷ Refused Absent
    ∷ Refused Exists
    ∷ Refused NotYours
    ∷ Refused NotYours
    ∷ Refused NotYours
    ∷ Refused Absent
    ∷ Refused Absent
    ∷ Refused StaleOvn
    ∷ Refused StaleOvn
    ∷ Refused StaleOvn
    ∷ Refused TicketInUse
    ∷ Removed changed (record { base = codes "http://b.test"; ticket = other_ticket; index = 3 } ∷ [])
    ∷ TicketRemoved the_ticket
    ∷ replicate 7 (Refused Retired)
