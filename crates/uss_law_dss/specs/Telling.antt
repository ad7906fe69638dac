-- Worked calls of three clients: a change and a removal, and which tickets they notify.
use Rattle.std.specs.Prelude.{ℕ, ℤ, List, [], ◌∷◌, codes, Some, None, pos}
use Rattle.uss_shape.specs.Shape.{corners}
use Rattle.uss_vol4.specs.Volume.{Volume4D}
use Rattle.uss_intent.specs.declared.records.Reference.{Reference}
use Rattle.uss_intent.specs.declared.records.Ticket.{Ticket}
use Rattle.uss_intent.specs.declared.records.State.TheVariants.{Accepted, Activated}
use Rattle.uss_intent.specs.declared.calls.DssAsk.{DssAsk}
use Rattle.uss_intent.specs.declared.calls.DssAsk.TheVariants.{Get, Put, Remove, TicketPut, TicketGet}
use Rattle.uss_intent.specs.declared.calls.DssReply.{DssReply}
use Rattle.uss_intent.specs.declared.calls.DssReply.TheVariants.{Landed, Removed, TicketMade, TicketGot, Refused}
use Rattle.uss_intent.specs.declared.calls.DssRefusal.TheVariants.{StaleOvn, Retired}
use Rattle.uss_law_dss.specs.Transcript.{alpha, beta, flight, ticket, other_ticket, area}

abbrev pub gamma : List ℕ
gamma = codes "gamma"

-- the rectangle from (x1, y1) to (x2, y2), with the altitudes and times of the area
abbrev pub block : ℤ → ℤ → ℤ → ℤ → Volume4D
block x1 y1 x2 y2 = record area { outline = corners (record { x1 = x1; y1 = y1; x2 = x2; y2 = y2 }) }

-- the same from (x1, 0) to (x2, 100)
abbrev pub strip : ℤ → ℤ → Volume4D
strip x1 x2 = block x1 (pos 0) x2 (pos 100)

-- where the flight is first, and where it is after its change
abbrev pub old_place : Volume4D
old_place = strip (pos 0) (pos 100)

abbrev pub new_place : Volume4D
new_place = strip (pos 200) (pos 300)

-- further tickets of beta: 00000002-0001-4000-8000-000000000002 and 00000002-0001-4000-8000-000000000003
abbrev pub second_ticket : ℕ
second_ticket = 0x00000002_0001_4000_8000_000000000002

abbrev pub third_ticket : ℕ
third_ticket = 0x00000002_0001_4000_8000_000000000003

-- gamma's: 00000003-0001-4000-8000-000000000001
abbrev pub corner_ticket : ℕ
corner_ticket = 0x00000003_0001_4000_8000_000000000001

-- alpha's own ticket covers both places. Of beta's tickets one reaches the new place alone, one the old place alone, and one
-- lies between the two; gamma's touches the new place in one corner.
abbrev pub telling : List (List ℕ × DssAsk)
telling =
    (alpha, TicketPut ticket (strip (pos 0) (pos 300)) (codes "http://a.test"))
    ∷ (gamma, TicketPut corner_ticket (block (pos 300) (pos 100) (pos 400) (pos 200)) (codes "http://c.test"))
    ∷ (beta, TicketPut second_ticket (strip (pos 250) (pos 400)) (codes "http://b.test/2"))
    ∷ (beta, TicketPut other_ticket (strip (pos 50) (pos 60)) (codes "http://b.test"))
    ∷ (beta, TicketPut third_ticket (strip (pos 120) (pos 180)) (codes "http://b.test/3"))
    ∷ (alpha, Put flight None (old_place ∷ []) [] Accepted (codes "http://a.test/a/1") ticket)
    ∷ (alpha, Put flight (Some (codes "ovn-0000000000000001")) (new_place ∷ []) [] Activated (codes "http://a.test/a/2") ticket)
    ∷ (alpha, Put flight (Some (codes "ovn-0000000000000001")) (old_place ∷ []) [] Activated (codes "http://a.test/a/3") ticket)
    ∷ (beta, TicketGet other_ticket)
    ∷ (alpha, Remove flight (codes "ovn-0000000000000002"))
    ∷ (beta, TicketGet other_ticket)
    ∷ (beta, TicketGet second_ticket)
    ∷ (beta, TicketGet third_ticket)
    ∷ (gamma, TicketGet corner_ticket)
    ∷ (alpha, TicketGet ticket)
    ∷ (alpha, Get flight)
    ∷ (alpha, Put flight None (old_place ∷ []) [] Accepted (codes "http://a.test/a/4") ticket)
    ∷ []

abbrev pub wide_ticket : Ticket
wide_ticket = record { id = ticket; manager = alpha; area = strip (pos 0) (pos 300); base = codes "http://a.test"; index = 0 }

abbrev pub touching_ticket : Ticket
touching_ticket = record { id = corner_ticket; manager = gamma; area = block (pos 300) (pos 100) (pos 400) (pos 200); base = codes "http://c.test"; index = 0 }

abbrev pub new_place_ticket : Ticket
new_place_ticket = record { id = second_ticket; manager = beta; area = strip (pos 250) (pos 400); base = codes "http://b.test/2"; index = 0 }

abbrev pub old_place_ticket : Ticket
old_place_ticket = record { id = other_ticket; manager = beta; area = strip (pos 50) (pos 60); base = codes "http://b.test"; index = 0 }

abbrev pub between_ticket : Ticket
between_ticket = record { id = third_ticket; manager = beta; area = strip (pos 120) (pos 180); base = codes "http://b.test/3"; index = 0 }

-- the flight's reference after its creation, and after its change
abbrev pub first_reference : Reference
first_reference =
    record {
      flight = flight;
      manager = alpha;
      version = 1;
      state = Accepted;
      ovn = Some (codes "ovn-0000000000000001");
      start = pos 1700003600000000000;
      end = pos 1700005400000000000;
      base = codes "http://a.test/a/1";
      ticket = ticket;
    }

abbrev pub changed_reference : Reference
changed_reference =
    record first_reference { version = 2; state = Activated; ovn = Some (codes "ovn-0000000000000002"); base = codes "http://a.test/a/2" }

-- The change notifies the ticket near the old extents too; the removal those near the extents that were left last. A refused change
-- notifies nobody.
abbrev pub the_telling_replies : List DssReply
the_telling_replies =
    TicketMade wide_ticket
    ∷ TicketMade touching_ticket
    ∷ TicketMade new_place_ticket
    ∷ TicketMade old_place_ticket
    ∷ TicketMade between_ticket
    ∷ Landed first_reference (record { base = codes "http://b.test"; ticket = other_ticket; index = 1 } ∷ [])
    ∷ Landed changed_reference (
    record { base = codes "http://b.test"; ticket = other_ticket; index = 2 }
    ∷ record { base = codes "http://b.test/2"; ticket = second_ticket; index = 1 }
    ∷ record { base = codes "http://c.test"; ticket = corner_ticket; index = 1 }
    ∷ [])
    ∷ Refused StaleOvn
    ∷ TicketGot (record old_place_ticket { index = 2 })
    ∷ Removed changed_reference (
    record { base = codes "http://b.test/2"; ticket = second_ticket; index = 2 }
    ∷ record { base = codes "http://c.test"; ticket = corner_ticket; index = 2 }
    ∷ [])
    ∷ TicketGot (record old_place_ticket { index = 2 })
    ∷ TicketGot (record new_place_ticket { index = 2 })
    ∷ TicketGot between_ticket
    ∷ TicketGot (record touching_ticket { index = 2 })
    ∷ TicketGot wide_ticket
    ∷ Refused Retired
    ∷ Refused Retired
    ∷ []
