-- The coding of each entry of a book: its bytes in the journal. One byte says which entry it is, and its fields follow. This
-- project's own.
use Rattle.std.specs.Prelude.{ℕ, List, [], ◌∷◌, ◌++◌}
use Rattle.uss_intent.specs.States.{state_number}
use Rattle.uss_intent.specs.declared.records.State.{State}
use Rattle.uss_intent.specs.declared.records.Subscriber.{Subscriber}
use Rattle.uss_event.specs.declared.rules.Verdict.{Verdict}
use Rattle.uss_event.specs.declared.rules.Verdict.TheVariants.{Clear, EqualForbidden, HigherStands}
use Rattle.uss_event.specs.declared.details.Proposal.{Proposal}
use Rattle.uss_event.specs.declared.asks.Wish.{Wish}
use Rattle.uss_event.specs.declared.asks.Wish.TheVariants.{Put, End}
use Rattle.uss_event.specs.declared.asks.FlightAsk.{FlightAsk}
use Rattle.uss_event.specs.declared.entries.Owner.{Owner}
use Rattle.uss_event.specs.declared.entries.Ending.{Ending}
use Rattle.uss_event.specs.declared.entries.Ending.TheVariants.{Conflict, Stale, Cancelled, Ended}
use Rattle.uss_event.specs.declared.entries.Entry.{Entry}
use Rattle.uss_event.specs.declared.entries.Entry.TheVariants.{Opened, TicketOpen, Pending, Held, Deciding, Done, TicketGone, Sent}
use Rattle.uss_event.specs.declared.entries.Entry.TheVariants as Enters
use Rattle.uss_codec.specs.Spelling.{in_1_byte, in_2_bytes, in_4_bytes, in_8_bytes, in_16_bytes, signed_in_8_bytes, text, optional, list, short_list, volume}

-- 1 Accepted, 2 Activated, 3 Nonconforming, 4 Contingent
abbrev pub state : State → List ℕ
state s = in_1_byte (state_number s)

abbrev pub owner : Owner → List ℕ
owner o = in_4_bytes o.number ++ (text o.name ++ (text o.base ++ list in_2_bytes o.table))

abbrev pub proposal : Proposal → List ℕ
proposal p = short_list volume p.volumes ++ short_list volume p.off_nominal

-- 1 for a Put, 2 for an End
abbrev pub wish : Wish → List ℕ
wish (Put to priority rounds proposals) =
    1 ∷ (state to ++ (in_2_bytes priority ++ (in_1_byte rounds ++ short_list proposal proposals)))
wish End = 2 ∷ []

abbrev pub ask : FlightAsk → List ℕ
ask a = in_8_bytes a.flight ++ (in_8_bytes a.number ++ wish a.wish)

abbrev pub subscriber : Subscriber → List ℕ
subscriber s = text s.base ++ (in_16_bytes s.ticket ++ in_8_bytes s.index)

-- a verdict that isn't Clear is a rule that refuses
abbrev pub rule_number : Verdict → ℕ
rule_number Clear = 0
rule_number EqualForbidden = 1
rule_number HigherStands = 2

abbrev pub rule : Verdict → List ℕ
rule v = in_1_byte (rule_number v)

abbrev pub ending : Ending → List ℕ
ending (Conflict flight manager why) = 1 ∷ (in_16_bytes flight ++ (text manager ++ rule why))
ending (Stale missing) = 2 ∷ list in_16_bytes missing
ending Cancelled = 3 ∷ []
ending (Ended owed) = 4 ∷ list subscriber owed

-- 1 to 9
abbrev pub kind_of : Entry → ℕ
kind_of (Enters.Owner o) = 1
kind_of (Opened o) = 2
kind_of (TicketOpen job) = 3
kind_of (Pending t) = 4
kind_of (Held h) = 5
kind_of (Deciding d) = 6
kind_of (Done d) = 7
kind_of (TicketGone job) = 8
kind_of (Sent n) = 9

abbrev pub fields_of : Entry → List ℕ
fields_of (Enters.Owner o) = owner o
fields_of (Opened o) = in_8_bytes o.job ++ (signed_in_8_bytes o.moment ++ ask o.ask)
fields_of (TicketOpen job) = in_8_bytes job
fields_of (Pending t) =
    in_8_bytes t.job ++ (in_8_bytes t.tag ++ (in_1_byte t.alternative ++ (optional text t.previous ++ list text t.key)))
fields_of (Held h) = in_8_bytes h.job ++ (in_8_bytes h.tag ++ (text h.ovn ++ (in_4_bytes h.version ++ list subscriber h.owed)))
fields_of (Deciding d) = in_8_bytes d.job ++ ending d.end
fields_of (Done d) = in_8_bytes d.job ++ ending d.end
fields_of (TicketGone job) = in_8_bytes job
fields_of (Sent n) = in_8_bytes n.job ++ in_4_bytes n.index

unfoldable pub coding_of : Entry → List ℕ
coding_of e = kind_of e ∷ fields_of e
