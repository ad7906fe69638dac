-- Worked codings: entries, and their bytes written by hand. Each number in an entry is another one, so that none can stand for a second.
-- This project's own.
use Rattle.std.specs.Prelude.{ℕ, pos, neg_ℤ, List, [], ◌∷◌, ◌++◌, codes, Some, None}
use Rattle.uss_vol4.specs.Volume.{Volume4D}
use Rattle.uss_intent.specs.declared.records.State.{State}
use Rattle.uss_intent.specs.declared.records.State.TheVariants as States
use Rattle.uss_intent.specs.declared.records.Subscriber.{Subscriber}
use Rattle.uss_event.specs.declared.rules.Verdict.{Verdict}
use Rattle.uss_event.specs.declared.asks.Wish.TheVariants.{Put, End}
use Rattle.uss_event.specs.declared.entries.Ending.TheVariants.{Conflict, Stale, Cancelled, Ended}
use Rattle.uss_event.specs.declared.entries.Entry.{Entry}
use Rattle.uss_event.specs.declared.entries.Entry.TheVariants.{Opened, TicketOpen, Pending, Held, Deciding, Done, TicketGone, Sent}
use Rattle.uss_event.specs.declared.entries.Entry.TheVariants as Enters

-- a number below 256 in four bytes and in eight
abbrev pub four : ℕ → List ℕ
four n = 0 ∷ 0 ∷ 0 ∷ n ∷ []

abbrev pub eight : ℕ → List ℕ
eight n = 0 ∷ 0 ∷ 0 ∷ 0 ∷ 0 ∷ 0 ∷ 0 ∷ n ∷ []

-- the ticket of job 1 is there
abbrev pub ticket_open : Entry
ticket_open = TicketOpen 1

abbrev pub ticket_open_bytes : List ℕ
ticket_open_bytes = 3 ∷ 0 ∷ 0 ∷ 0 ∷ 0 ∷ 0 ∷ 0 ∷ 0 ∷ 1 ∷ []

-- a job is opened on 2000-01-01, for a request that a flight goes to this state at priority 1000, in 16 rounds, without an alternative
abbrev pub opened : State → Entry
opened to = Opened (record { job = 2; moment = pos 946684800000000000; ask = record { flight = 3; number = 4; wish = Put to 1000 16 [] } })

-- the job, the moment, the flight, the request's number; that it is no end, the state, the priority in two bytes, the rounds, and that
-- there is no alternative
abbrev pub opened_bytes : ℕ → List ℕ
opened_bytes state =
    2 ∷ eight 2 ++ (13 ∷ 35 ∷ 76 ∷ 207 ∷ 82 ∷ 67 ∷ 0 ∷ 0 ∷ []) ++ eight 3 ++ eight 4 ++ (1 ∷ state ∷ 3 ∷ 232 ∷ 16 ∷ 0 ∷ [])

-- an identifier with 7 in its higher half and 8 in its lower
abbrev pub subscriber : Subscriber
subscriber = record { base = codes "http://b.test"; ticket = 129127208515966861320; index = 9 }

-- a job recorded its attempt with tag 6, and one subscriber is to be notified
abbrev pub held : Entry
held = Held (record { job = 5; tag = 6; ovn = codes "ovn-0000000000000001"; version = 10; owed = subscriber ∷ [] })

-- the job, the tag, the OVN after its length, the version; how many are to be notified, and of the one the base URL after its length,
-- the halves of the ticket, the index
abbrev pub held_bytes : List ℕ
held_bytes =
    5 ∷ eight 5 ++ eight 6 ++ four 20 ++ codes "ovn-0000000000000001" ++ four 10
    ++ four 1 ++ four 13 ++ codes "http://b.test" ++ eight 7 ++ eight 8 ++ eight 9

-- a job ended, since a flight with 12 in its higher half and 13 in its lower stands against it, by this rule
abbrev pub done : Verdict → Entry
done rule = Done (record { job = 11; end = Conflict 221360928884514619405 (codes "them") rule })

-- the job; that it is a conflict, the halves of the flight, the manager after its length, the rule
abbrev pub done_bytes : ℕ → List ℕ
done_bytes rule = 7 ∷ eight 11 ++ (1 ∷ eight 12) ++ eight 13 ++ four 4 ++ codes "them" ++ (rule ∷ [])

-- whose book it is: 16909060 has the bytes 1, 2, 3 and 4
abbrev pub owner : Entry
owner = Enters.Owner (record { number = 16909060; name = codes "uss"; base = codes "http://u.test"; table = 5 ∷ 1000 ∷ [] })

-- the number, the name and the base URL after their lengths; how many priorities, and each in two bytes
abbrev pub owner_bytes : List ℕ
owner_bytes = 1 ∷ 1 ∷ 2 ∷ 3 ∷ 4 ∷ four 3 ++ codes "uss" ++ four 13 ++ codes "http://u.test" ++ four 2 ++ (0 ∷ 5 ∷ 3 ∷ 232 ∷ [])

-- a job is opened to end a flight
abbrev pub opened_to_end : Entry
opened_to_end = Opened (record { job = 14; moment = pos 946684800000000015; ask = record { flight = 16; number = 17; wish = End } })

-- an instant of 2000-01-01, so many ns after midnight
abbrev pub instant : ℕ → List ℕ
instant n = 13 ∷ 35 ∷ 76 ∷ 207 ∷ 82 ∷ 67 ∷ 0 ∷ n ∷ []

-- the job, the moment, the flight, the request's number; that it is an end
abbrev pub opened_to_end_bytes : List ℕ
opened_to_end_bytes = 2 ∷ eight 14 ++ instant 15 ++ eight 16 ++ eight 17 ++ (2 ∷ [])

abbrev pub near : Volume4D
near = record {
  outline = record { x = neg_ℤ (pos 31); y = pos 32 } ∷ record { x = pos 33; y = neg_ℤ (pos 34) } ∷ record { x = pos 35; y = pos 36 } ∷ [];
  low = neg_ℤ (pos 37);
  high = pos 38;
  start = pos 946684800000000039;
  end = pos 946684800000000040;
}

-- -256 and n together, as the unsigned number with the same bits: of -31 the last byte is 225
abbrev pub below_zero : ℕ → List ℕ
below_zero n = 255 ∷ 255 ∷ 255 ∷ 255 ∷ 255 ∷ 255 ∷ 255 ∷ n ∷ []

-- how many vertices, and of each its longitude and its latitude; the lower altitude and the upper, the first instant and the last
abbrev pub near_bytes : List ℕ
near_bytes =
    four 3 ++ below_zero 225 ++ eight 32 ++ eight 33 ++ below_zero 222 ++ eight 35 ++ eight 36
    ++ below_zero 219 ++ eight 38 ++ instant 39 ++ instant 40

abbrev pub far : Volume4D
far = record {
  outline = record { x = pos 41; y = pos 42 } ∷ record { x = pos 43; y = pos 44 } ∷ record { x = pos 45; y = pos 46 } ∷ record { x = pos 47; y = pos 48 } ∷ [];
  low = pos 49;
  high = pos 50;
  start = pos 946684800000000051;
  end = pos 946684800000000052;
}

abbrev pub far_bytes : List ℕ
far_bytes =
    four 4 ++ eight 41 ++ eight 42 ++ eight 43 ++ eight 44 ++ eight 45 ++ eight 46 ++ eight 47 ++ eight 48
    ++ eight 49 ++ eight 50 ++ instant 51 ++ instant 52

-- a job is opened for a request with two alternatives: one has a volume, the other an off-nominal volume. 780 has the bytes 3 and 12
abbrev pub opened_to_put : Entry
opened_to_put =
    Opened (record {
      job = 23;
      moment = pos 946684800000000024;
      ask = record {
        flight = 25;
        number = 26;
        wish = Put States.Contingent 780 6 (record { volumes = near ∷ []; off_nominal = [] } ∷ record { volumes = []; off_nominal = far ∷ [] } ∷ []);
      };
    })

-- the job, the moment, the flight, the request's number; that it is no end, the state, the priority, the rounds, and that there are two
-- alternatives; one volume and no off-nominal one, no volume and an off-nominal one
abbrev pub opened_to_put_bytes : List ℕ
opened_to_put_bytes =
    2 ∷ eight 23 ++ instant 24 ++ eight 25 ++ eight 26 ++ (1 ∷ 4 ∷ 3 ∷ 12 ∷ 6 ∷ 2 ∷ [])
    ++ (1 ∷ near_bytes) ++ (0 ∷ 0 ∷ 1 ∷ far_bytes)

-- a job's attempt to change what is recorded, with two OVNs in its key
abbrev pub pending : Entry
pending = Pending (record { job = 27; tag = 28; alternative = 29; previous = Some (codes "ovn-0000000000000002"); key = codes "ovn-00000000000000003" ∷ codes "ovn-000000000000000004" ∷ [] })

-- the job, the tag, the alternative; that there is a previous OVN, and that after its length; how many are in the key, and each after
-- its length
abbrev pub pending_bytes : List ℕ
pending_bytes =
    4 ∷ eight 27 ++ eight 28 ++ (29 ∷ 1 ∷ four 20) ++ codes "ovn-0000000000000002"
    ++ four 2 ++ four 21 ++ codes "ovn-00000000000000003" ++ four 22 ++ codes "ovn-000000000000000004"

-- a job's attempt to create what isn't recorded, with an empty key
abbrev pub creating : Entry
creating = Pending (record { job = 30; tag = 31; alternative = 32; previous = None; key = [] })

-- the job, the tag, the alternative; that there is no previous OVN, and none in the key
abbrev pub creating_bytes : List ℕ
creating_bytes = 4 ∷ eight 30 ++ eight 31 ++ (32 ∷ 0 ∷ four 0)

-- two flights, with 19 and 21 in their higher halves, and 20 and 22 in their lower, were missing
abbrev pub deciding : Entry
deciding = Deciding (record { job = 33; end = Stale (350488137400481480724 ∷ 387381625547900583958 ∷ []) })

-- the job; that the key was stale, how many flights were missing, and the halves of each
abbrev pub deciding_bytes : List ℕ
deciding_bytes = 6 ∷ eight 33 ++ (2 ∷ four 2) ++ eight 19 ++ eight 20 ++ eight 21 ++ eight 22

abbrev pub cancelled : Entry
cancelled = Deciding (record { job = 34; end = Cancelled })

abbrev pub cancelled_bytes : List ℕ
cancelled_bytes = 6 ∷ eight 34 ++ (3 ∷ [])

-- a job ended its flight, and one subscriber is to be notified
abbrev pub ended : Entry
ended = Done (record { job = 35; end = Ended (subscriber ∷ []) })

-- the job; that the flight ended, how many are to be notified, and of the one the base URL after its length, the halves of the ticket, the
-- index
abbrev pub ended_bytes : List ℕ
ended_bytes = 7 ∷ eight 35 ++ (4 ∷ four 1) ++ four 13 ++ codes "http://b.test" ++ eight 7 ++ eight 8 ++ eight 9

-- the ticket of a job is gone
abbrev pub ticket_gone : Entry
ticket_gone = TicketGone 36

abbrev pub ticket_gone_bytes : List ℕ
ticket_gone_bytes = 8 ∷ eight 36

-- what a job owes was answered, at a place
abbrev pub sent : Entry
sent = Sent (record { job = 37; index = 38 })

-- the job, the place
abbrev pub sent_bytes : List ℕ
sent_bytes = 9 ∷ eight 37 ++ four 38
