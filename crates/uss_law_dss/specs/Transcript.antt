-- Worked calls of two clients, with the replies that they get.
use Rattle.std.specs.Prelude.{ℕ, List, [], ◌∷◌, codes, Some, None, pos}
use Rattle.uss_shape.specs.Shape.{corners}
use Rattle.uss_vol4.specs.Volume.{Volume4D}
use Rattle.uss_intent.specs.declared.records.Reference.{Reference}
use Rattle.uss_intent.specs.declared.records.Ticket.{Ticket}
use Rattle.uss_intent.specs.declared.records.State.TheVariants.{Accepted}
use Rattle.uss_intent.specs.declared.calls.DssAsk.{DssAsk}
use Rattle.uss_intent.specs.declared.calls.DssAsk.TheVariants.{Query, Get, Put, Remove, TicketPut, TicketGet, TicketRemove}
use Rattle.uss_intent.specs.declared.calls.DssReply.{DssReply}
use Rattle.uss_intent.specs.declared.calls.DssReply.TheVariants.{Found, Got, Landed, Removed, TicketMade, TicketGot, TicketRemoved, Refused}
use Rattle.uss_intent.specs.declared.calls.DssRefusal.TheVariants.{NotYours, TicketInUse, StaleOvn, Retired, Absent, MissingKey}

abbrev pub alpha : List ℕ
alpha = codes "alpha"

abbrev pub beta : List ℕ
beta = codes "beta"

-- 00000001-0000-4000-8000-000000000001
abbrev pub flight : ℕ
flight = 0x00000001_0000_4000_8000_000000000001

-- 00000002-0000-4000-8000-000000000001
abbrev pub other : ℕ
other = 0x00000002_0000_4000_8000_000000000001

-- 00000001-0001-4000-8000-000000000001
abbrev pub ticket : ℕ
ticket = 0x00000001_0001_4000_8000_000000000001

-- the rectangle from (0, 0) to (100, 100), from 0 to 1000 mm, on 2023-11-14 from 23:13:20 to 23:43:20 UTC
abbrev pub area : Volume4D
area =
    record {
      outline = corners (record { x1 = pos 0; y1 = pos 0; x2 = pos 100; y2 = pos 100 });
      low = pos 0;
      high = pos 1000;
      start = pos 1700003600000000000;
      end = pos 1700005400000000000;
    }

abbrev pub calls : List (List ℕ × DssAsk)
calls =
    (alpha, TicketPut ticket area (codes "http://a.test"))
    ∷ (alpha, Put flight None (area ∷ []) [] Accepted (codes "http://a.test/a/1") ticket)
    ∷ (beta, Get flight)
    ∷ (beta, Remove flight (codes "ovn-0000000000000001"))
    ∷ (alpha, TicketRemove ticket 1)
    ∷ (alpha, Remove flight (codes "ovn-0000000000000009"))
    ∷ (alpha, Remove flight (codes "ovn-0000000000000001"))
    ∷ (alpha, TicketRemove ticket 1)
    ∷ (alpha, TicketGet ticket)
    ∷ (beta, Get other)
    ∷ []

abbrev pub the_ticket : Ticket
the_ticket = record { id = ticket; manager = alpha; area = area; base = codes "http://a.test"; index = 0 }

abbrev pub the_reference : Reference
the_reference =
    record {
      flight = flight;
      manager = alpha;
      version = 1;
      state = Accepted;
      ovn = Some (codes "ovn-0000000000000001");
      start = pos 1700003600000000000;
      end = pos 1700005400000000000;
      base = codes "http://a.test/a/1";
      ticket = ticket;
    }

abbrev pub the_replies : List DssReply
the_replies =
    TicketMade the_ticket
    ∷ Landed the_reference []
    ∷ Got (record the_reference { ovn = None })
    ∷ Refused NotYours
    ∷ Refused TicketInUse
    ∷ Refused StaleOvn
    ∷ Removed the_reference []
    ∷ TicketRemoved the_ticket
    ∷ Refused Retired
    ∷ Refused Absent
    ∷ []

-- 00000002-0001-4000-8000-000000000001
abbrev pub other_ticket : ℕ
other_ticket = 0x00000002_0001_4000_8000_000000000001

-- another client over the same area: with no key, with another OVN, with the right one; and then its question
abbrev pub contested : List (List ℕ × DssAsk)
contested =
    (alpha, TicketPut ticket area (codes "http://a.test"))
    ∷ (alpha, Put flight None (area ∷ []) [] Accepted (codes "http://a.test/a/1") ticket)
    ∷ (beta, TicketPut other_ticket area (codes "http://b.test"))
    ∷ (beta, Put other None (area ∷ []) [] Accepted (codes "http://b.test/a/7") other_ticket)
    ∷ (beta, Put other None (area ∷ []) (codes "ovn-0000000000000009" ∷ []) Accepted (codes "http://b.test/a/7") other_ticket)
    ∷ (beta, Put other None (area ∷ []) (codes "ovn-0000000000000001" ∷ []) Accepted (codes "http://b.test/a/7") other_ticket)
    ∷ (beta, Query area)
    ∷ (alpha, TicketGet ticket)
    ∷ []

abbrev pub the_other_ticket : Ticket
the_other_ticket = record { id = other_ticket; manager = beta; area = area; base = codes "http://b.test"; index = 0 }

abbrev pub the_other_reference : Reference
the_other_reference =
    record {
      flight = other;
      manager = beta;
      version = 1;
      state = Accepted;
      ovn = Some (codes "ovn-0000000000000002");
      start = pos 1700003600000000000;
      end = pos 1700005400000000000;
      base = codes "http://b.test/a/7";
      ticket = other_ticket;
    }

abbrev pub the_contested_replies : List DssReply
the_contested_replies =
    TicketMade the_ticket
    ∷ Landed the_reference []
    ∷ TicketMade the_other_ticket
    ∷ Refused (MissingKey (record the_reference { ovn = None } ∷ []))
    ∷ Refused (MissingKey (record the_reference { ovn = None } ∷ []))
    ∷ Landed the_other_reference (record { base = codes "http://a.test"; ticket = ticket; index = 1 } ∷ [])
    ∷ Found (record the_reference { ovn = None } ∷ the_other_reference ∷ [])
    ∷ TicketGot (record the_ticket { index = 1 })
    ∷ []
