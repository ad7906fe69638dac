-- Worked calls of two clients whose references share points: what the key has to have, and what a refusal for want of it lists.
use Rattle.std.specs.Prelude.{ℕ, List, [], ◌∷◌, codes, Option, Some, None, pos}
use Rattle.uss_vol4.specs.Volume.{Volume4D}
use Rattle.uss_intent.specs.declared.records.Reference.{Reference}
use Rattle.uss_intent.specs.declared.records.Ticket.{Ticket}
use Rattle.uss_intent.specs.declared.records.State.{State}
use Rattle.uss_intent.specs.declared.records.State.TheVariants.{Accepted, Activated, Nonconforming, Contingent}
use Rattle.uss_intent.specs.declared.calls.DssAsk.{DssAsk}
use Rattle.uss_intent.specs.declared.calls.DssAsk.TheVariants.{Query, Put, TicketPut}
use Rattle.uss_intent.specs.declared.calls.DssReply.{DssReply}
use Rattle.uss_intent.specs.declared.calls.DssReply.TheVariants.{Found, Landed, TicketMade, Refused}
use Rattle.uss_intent.specs.declared.calls.DssRefusal.TheVariants.{MissingKey}
use Rattle.uss_intent.specs.declared.records.Subscriber.{Subscriber}
use Rattle.uss_law_dss.specs.Transcript.{alpha, beta, flight, other, ticket, other_ticket}
use Rattle.uss_law_dss.specs.Telling.{strip, first_reference, wide_ticket}

-- beta's second flight: 00000002-0000-4000-8000-000000000002
abbrev pub second : ℕ
second = 0x00000002_0000_4000_8000_000000000002

-- from 0 to 100, from 150 to 200, and from 50 to 180, over both
abbrev pub west : Volume4D
west = strip (pos 0) (pos 100)

abbrev pub east : Volume4D
east = strip (pos 150) (pos 200)

abbrev pub middle : Volume4D
middle = strip (pos 50) (pos 180)

-- the OVN of the first landing, and so on
abbrev pub ovn_1 : List ℕ
ovn_1 = codes "ovn-0000000000000001"

abbrev pub ovn_2 : List ℕ
ovn_2 = codes "ovn-0000000000000002"

abbrev pub ovn_3 : List ℕ
ovn_3 = codes "ovn-0000000000000003"

abbrev pub ovn_4 : List ℕ
ovn_4 = codes "ovn-0000000000000004"

abbrev pub ovn_5 : List ℕ
ovn_5 = codes "ovn-0000000000000005"

abbrev pub ovn_6 : List ℕ
ovn_6 = codes "ovn-0000000000000006"

-- a Put of alpha's flight in the west, and one of beta's second flight in the middle
abbrev pub in_the_west : Option (List ℕ) → List (List ℕ) → State → List ℕ → List ℕ × DssAsk
in_the_west ovn key state base = (alpha, Put flight ovn (west ∷ []) key state base ticket)

abbrev pub in_the_middle : Option (List ℕ) → List (List ℕ) → State → List ℕ → List ℕ × DssAsk
in_the_middle ovn key state base = (beta, Put second ovn (middle ∷ []) key state base other_ticket)

-- alpha is in the west, beta in the east, and beta's second flight shares with both; then alpha leaves its volumes and comes back
abbrev pub keyed : List (List ℕ × DssAsk)
keyed =
    (alpha, TicketPut ticket (strip (pos 0) (pos 300)) (codes "http://a.test"))
    ∷ (beta, TicketPut other_ticket (strip (pos 0) (pos 300)) (codes "http://b.test"))
    ∷ (beta, Put other None (east ∷ []) [] Accepted (codes "http://b.test/a/1") other_ticket)
    ∷ in_the_west None [] Accepted (codes "http://a.test/a/1")
    ∷ in_the_middle None [] Accepted (codes "http://b.test/a/2")
    ∷ in_the_middle None (ovn_1 ∷ []) Activated (codes "http://b.test/a/2")
    ∷ in_the_middle None (ovn_2 ∷ ovn_1 ∷ []) Accepted (codes "http://b.test/a/2")
    ∷ in_the_west (Some ovn_2) [] Nonconforming (codes "http://a.test/a/2")
    ∷ in_the_west (Some ovn_4) [] Contingent (codes "http://a.test/a/3")
    ∷ in_the_middle (Some ovn_3) (ovn_1 ∷ ovn_2 ∷ []) Activated (codes "http://b.test/a/3")
    ∷ in_the_west (Some ovn_5) [] Activated (codes "http://a.test/a/4")
    ∷ in_the_west (Some ovn_5) (ovn_6 ∷ ovn_3 ∷ []) Activated (codes "http://a.test/a/4")
    ∷ (alpha, Query (strip (pos 100) (pos 149)))
    ∷ []

abbrev pub wide_other_ticket : Ticket
wide_other_ticket = record wide_ticket { id = other_ticket; manager = beta; base = codes "http://b.test" }

abbrev pub notified_alpha : ℕ → List Subscriber
notified_alpha index = record { base = codes "http://a.test"; ticket = ticket; index = index } ∷ []

abbrev pub notified_beta : ℕ → List Subscriber
notified_beta index = record { base = codes "http://b.test"; ticket = other_ticket; index = index } ∷ []

abbrev pub in_east : Reference
in_east = record first_reference { flight = other; manager = beta; base = codes "http://b.test/a/1"; ticket = other_ticket }

abbrev pub in_middle : Reference
in_middle = record in_east { flight = second; ovn = Some ovn_3; base = codes "http://b.test/a/2" }

-- the reference in the west, in one of its versions
abbrev pub in_west : ℕ → State → List ℕ → List ℕ → Reference
in_west version state ovn base = record first_reference { version = version; state = state; ovn = Some ovn; base = base }

-- as it is shown to beta
abbrev pub without_ovn : Reference → Reference
without_ovn r = record r { ovn = None }

-- All that the key lacks is listed, ascending by flight, own references with their OVN. Neither the order of a key nor what else it
-- has matters; the OVN of what was there before does not serve. A flight needs no key against itself, nor for the other two states.
abbrev pub the_keyed_replies : List DssReply
the_keyed_replies =
    TicketMade wide_ticket
    ∷ TicketMade wide_other_ticket
    ∷ Landed in_east (notified_alpha 1)
    ∷ Landed (in_west 1 Accepted ovn_2 (codes "http://a.test/a/1")) (notified_beta 1)
    ∷ Refused (MissingKey (without_ovn (in_west 1 Accepted ovn_2 (codes "http://a.test/a/1")) ∷ in_east ∷ []))
    ∷ Refused (MissingKey (without_ovn (in_west 1 Accepted ovn_2 (codes "http://a.test/a/1")) ∷ []))
    ∷ Landed in_middle (notified_alpha 2)
    ∷ Landed (in_west 2 Nonconforming ovn_4 (codes "http://a.test/a/2")) (notified_beta 2)
    ∷ Landed (in_west 3 Contingent ovn_5 (codes "http://a.test/a/3")) (notified_beta 3)
    ∷ Refused (MissingKey (without_ovn (in_west 3 Contingent ovn_5 (codes "http://a.test/a/3")) ∷ []))
    ∷ Refused (MissingKey (without_ovn in_middle ∷ []))
    ∷ Landed (in_west 4 Activated ovn_6 (codes "http://a.test/a/4")) (notified_beta 4)
    ∷ Found (in_west 4 Activated ovn_6 (codes "http://a.test/a/4") ∷ without_ovn in_middle ∷ [])
    ∷ []
