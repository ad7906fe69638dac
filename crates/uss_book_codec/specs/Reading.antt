-- How the entries of a book are read, field by field, and within the limits of each. This project's own.
use Rattle.std.specs.Prelude.{ℕ, zero, suc, ◌==◌, ℤ, Bool, true, false, nat_le, List, [], ◌∷◌, length, Option, Some, None, if◌then◌else◌}
use Rattle.uss_vol4.specs.Volume.{Volume4D}
use Rattle.uss_intent.specs.Limits.{most_ovns, most_references, most_tickets}
use Rattle.uss_intent.specs.declared.records.State.{State}
use Rattle.uss_intent.specs.declared.records.State.TheVariants.{Accepted, Activated, Nonconforming, Contingent}
use Rattle.uss_intent.specs.declared.records.Subscriber.{Subscriber}
use Rattle.uss_event.specs.Rules.{is_table}
use Rattle.uss_event.specs.declared.rules.Verdict.{Verdict}
use Rattle.uss_event.specs.declared.rules.Verdict.TheVariants.{EqualForbidden, HigherStands}
use Rattle.uss_event.specs.declared.details.Proposal.{Proposal}
use Rattle.uss_event.specs.declared.asks.Wish.{Wish}
use Rattle.uss_event.specs.declared.asks.Wish.TheVariants.{Put, End}
use Rattle.uss_event.specs.declared.asks.FlightAsk.{FlightAsk}
use Rattle.uss_event.specs.declared.entries.Owner.{Owner}
use Rattle.uss_event.specs.declared.entries.Ending.{Ending}
use Rattle.uss_event.specs.declared.entries.Ending.TheVariants.{Conflict, Stale, Cancelled, Ended}
use Rattle.uss_event.specs.declared.entries.Entry.{Entry}
use Rattle.uss_event.specs.declared.entries.Entry.TheVariants.{Opened, TicketOpen, Pending, Held, Deciding, Done, TicketGone, Sent}
use Rattle.uss_event.specs.declared.entries.Entry.TheVariants as Enters
use Rattle.uss_codec.specs.Reading.{Reading, ◌>>=◌, both_at, made_at, only_at, in_1_byte_at, in_2_bytes_at, in_4_bytes_at, in_8_bytes_at, in_16_bytes_at, signed_in_8_bytes_at, optional_at, list_at, short_list_at}
use Rattle.uss_vol4.specs.Ranges.{is_instant}
use Rattle.uss_codec.specs.Volumes.{volume_at}
use Rattle.uss_codec.specs.Texts.{name_at, ovn_at, base_at}

unfoldable pub instant_at : Reading ℤ
instant_at bytes = only_at is_instant signed_in_8_bytes_at bytes

-- what a byte stands for
abbrev pub known_at : {A : Type 0} → (ℕ → Option A) → Reading A
known_at meaning bytes = do
  n ← in_1_byte_at bytes
  x ← meaning n.0
  Some (x, n.1)

abbrev pub state_of : ℕ → Option State
state_of zero = None
state_of (suc zero) = Some Accepted
state_of (suc (suc zero)) = Some Activated
state_of (suc (suc (suc zero))) = Some Nonconforming
state_of (suc (suc (suc (suc zero)))) = Some Contingent
state_of (suc (suc (suc (suc (suc n))))) = None

unfoldable pub state_at : Reading State
state_at bytes = known_at state_of bytes

abbrev pub rule_of : ℕ → Option Verdict
rule_of zero = None
rule_of (suc zero) = Some EqualForbidden
rule_of (suc (suc zero)) = Some HigherStands
rule_of (suc (suc (suc n))) = None

unfoldable pub rule_at : Reading Verdict
rule_at bytes = known_at rule_of bytes

-- a configured base URL
abbrev pub is_short_base : List ℕ → Bool
is_short_base base = nat_le (length base) 256

unfoldable pub short_base_at : Reading (List ℕ)
short_base_at bytes = only_at is_short_base base_at bytes

-- a table of rules has at most 1,001 priorities
unfoldable pub table_at : Reading (List ℕ)
table_at bytes = only_at is_table (list_at 1001 in_2_bytes_at) bytes

abbrev pub owner_of : ℕ × (List ℕ × (List ℕ × List ℕ)) → Owner
owner_of t = record { number = t.0; name = t.1.0; base = t.1.1.0; table = t.1.1.1 }

unfoldable pub owner_at : Reading Owner
owner_at bytes = made_at owner_of (both_at in_4_bytes_at (both_at name_at (both_at short_base_at table_at))) bytes

abbrev pub proposal_of : List Volume4D × List Volume4D → Proposal
proposal_of t = record { volumes = t.0; off_nominal = t.1 }

unfoldable pub proposal_at : Reading Proposal
proposal_at bytes = made_at proposal_of (both_at (short_list_at volume_at) (short_list_at volume_at)) bytes

abbrev pub put_of : State × (ℕ × (ℕ × List Proposal)) → Wish
put_of t = Put t.0 t.1.0 t.1.1.0 t.1.1.1

unfoldable pub put_at : Reading (State × (ℕ × (ℕ × List Proposal)))
put_at bytes = both_at state_at (both_at in_2_bytes_at (both_at in_1_byte_at (short_list_at proposal_at))) bytes

unfoldable pub wish_at : Reading Wish
wish_at [] = None
wish_at (zero ∷ rest) = None
wish_at (suc zero ∷ rest) = made_at put_of put_at rest
wish_at (suc (suc zero) ∷ rest) = Some (End, rest)
wish_at (suc (suc (suc kind)) ∷ rest) = None

abbrev pub ask_of : ℕ × (ℕ × Wish) → FlightAsk
ask_of t = record { flight = t.0; number = t.1.0; wish = t.1.1 }

unfoldable pub ask_at : Reading FlightAsk
ask_at bytes = made_at ask_of (both_at in_8_bytes_at (both_at in_8_bytes_at wish_at)) bytes

abbrev pub subscriber_of : List ℕ × (ℕ × ℕ) → Subscriber
subscriber_of t = record { base = t.0; ticket = t.1.0; index = t.1.1 }

unfoldable pub subscriber_at : Reading Subscriber
subscriber_at bytes = made_at subscriber_of (both_at base_at (both_at in_16_bytes_at in_8_bytes_at)) bytes

unfoldable pub owed_at : Reading (List Subscriber)
owed_at bytes = list_at most_tickets subscriber_at bytes

abbrev pub conflict_of : ℕ × (List ℕ × Verdict) → Ending
conflict_of t = Conflict t.0 t.1.0 t.1.1

unfoldable pub conflict_at : Reading (ℕ × (List ℕ × Verdict))
conflict_at bytes = both_at in_16_bytes_at (both_at name_at rule_at) bytes

unfoldable pub missing_at : Reading (List ℕ)
missing_at bytes = list_at most_references in_16_bytes_at bytes

unfoldable pub ending_at : Reading Ending
ending_at [] = None
ending_at (zero ∷ rest) = None
ending_at (suc zero ∷ rest) = made_at conflict_of conflict_at rest
ending_at (suc (suc zero) ∷ rest) = made_at Stale missing_at rest
ending_at (suc (suc (suc zero)) ∷ rest) = Some (Cancelled, rest)
ending_at (suc (suc (suc (suc zero))) ∷ rest) = made_at Ended owed_at rest
ending_at (suc (suc (suc (suc (suc kind)))) ∷ rest) = None

-- a job that decides doesn't end its flight
abbrev pub is_decision : Ending → Bool
is_decision (Conflict flight manager why) = true
is_decision (Stale missing) = true
is_decision Cancelled = true
is_decision (Ended owed) = false

unfoldable pub decision_at : Reading Ending
decision_at bytes = only_at is_decision ending_at bytes

unfoldable pub opened_at : Reading (ℕ × (ℤ × FlightAsk))
opened_at bytes = both_at in_8_bytes_at (both_at instant_at ask_at) bytes

unfoldable pub key_at : Reading (List (List ℕ))
key_at bytes = list_at most_ovns ovn_at bytes

unfoldable pub pending_at : Reading (ℕ × (ℕ × (ℕ × (Option (List ℕ) × List (List ℕ)))))
pending_at bytes = both_at in_8_bytes_at (both_at in_8_bytes_at (both_at in_1_byte_at (both_at (optional_at ovn_at) key_at))) bytes

unfoldable pub held_at : Reading (ℕ × (ℕ × (List ℕ × (ℕ × List Subscriber))))
held_at bytes = both_at in_8_bytes_at (both_at in_8_bytes_at (both_at ovn_at (both_at in_4_bytes_at owed_at))) bytes

unfoldable pub deciding_at : Reading (ℕ × Ending)
deciding_at bytes = both_at in_8_bytes_at decision_at bytes

unfoldable pub done_at : Reading (ℕ × Ending)
done_at bytes = both_at in_8_bytes_at ending_at bytes

unfoldable pub sent_at : Reading (ℕ × ℕ)
sent_at bytes = both_at in_8_bytes_at in_4_bytes_at bytes

-- the fields of an entry, by its kind
unfoldable pub fields_at : ℕ → Reading Entry
fields_at zero rest = None
fields_at (suc zero) rest = made_at Enters.Owner owner_at rest
fields_at (suc (suc zero)) rest = made_at (λ t. Opened (record { job = t.0; moment = t.1.0; ask = t.1.1 })) opened_at rest
fields_at (suc (suc (suc zero))) rest = made_at TicketOpen in_8_bytes_at rest
fields_at (suc (suc (suc (suc zero)))) rest = made_at (λ t. Pending (record { job = t.0; tag = t.1.0; alternative = t.1.1.0; previous = t.1.1.1.0; key = t.1.1.1.1 })) pending_at rest
fields_at (suc (suc (suc (suc (suc zero))))) rest = made_at (λ t. Held (record { job = t.0; tag = t.1.0; ovn = t.1.1.0; version = t.1.1.1.0; owed = t.1.1.1.1 })) held_at rest
fields_at (suc (suc (suc (suc (suc (suc zero)))))) rest = made_at (λ t. Deciding (record { job = t.0; end = t.1 })) deciding_at rest
fields_at (suc (suc (suc (suc (suc (suc (suc zero))))))) rest = made_at (λ t. Done (record { job = t.0; end = t.1 })) done_at rest
fields_at (suc (suc (suc (suc (suc (suc (suc (suc zero)))))))) rest = made_at TicketGone in_8_bytes_at rest
fields_at (suc (suc (suc (suc (suc (suc (suc (suc (suc zero))))))))) rest = made_at (λ t. Sent (record { job = t.0; index = t.1 })) sent_at rest
fields_at (suc (suc (suc (suc (suc (suc (suc (suc (suc (suc kind)))))))))) rest = None

unfoldable pub entry_at : Reading Entry
entry_at bytes = do
  kind ← in_1_byte_at bytes
  fields_at kind.0 kind.1

-- all of the bytes
unfoldable pub all_of : List ℕ → Option Entry
all_of bytes = do
  e ← entry_at bytes
  if length e.1 == 0 then Some e.0 else None
