-- Which entries have a coding in the journal, and how many bytes that has. An entry is coded as a byte for its kind and then its
-- fields: a number with as many bytes as its type; an identifier with 16; a text as its length in 4 bytes and its bytes; an option as a
-- byte, 0, or 1 and the value; a list as its length in 4 bytes and its items, but the alternatives of a wish and their volumes
-- with their number in one byte, and a table of rules with 2 bytes for each priority. All of this is this project's own.
use Rattle.std.specs.Prelude.{ℕ, ◌+◌, ◌*◌, ◌^◌, ◌<◌, ◌≤◌, List, length, sum_by, All, Option, Some, None, IfSome}
use Rattle.uss_vol4.specs.Volume.{Volume4D, IsVolume, InTime}
use Rattle.uss_intent.specs.Limits.{most_ovns, most_references, most_tickets}
use Rattle.uss_intent.specs.Texts.{IsName, IsOvn, IsBase}
use Rattle.uss_intent.specs.declared.records.Subscriber.{Subscriber}
use Rattle.uss_event.specs.Rules.{IsTable}
use Rattle.uss_event.specs.declared.rules.Verdict.{Verdict}
use Rattle.uss_event.specs.declared.rules.Verdict.TheVariants.{Clear, EqualForbidden, HigherStands}
use Rattle.uss_event.specs.declared.details.Proposal.{Proposal}
use Rattle.uss_event.specs.declared.asks.Wish.{Wish}
use Rattle.uss_event.specs.declared.asks.Wish.TheVariants.{Put, End}
use Rattle.uss_event.specs.declared.asks.FlightAsk.{FlightAsk}
use Rattle.uss_event.specs.declared.entries.Owner.{Owner}
use Rattle.uss_event.specs.declared.entries.Ending.{Ending}
use Rattle.uss_event.specs.declared.entries.Ending.TheVariants.{Conflict, Stale, Cancelled, Ended}
use Rattle.uss_event.specs.declared.entries.Entry.{Entry}
use Rattle.uss_event.specs.declared.entries.Entry.TheVariants.{Opened, TicketOpen, Pending, Held, Deciding, Done, TicketGone, Sent}
use Rattle.uss_event.specs.declared.entries.Entry.TheVariants as Enters

-- whose book it is: a number, a name, a configured base URL of at most 256 bytes, a table of rules
pub record IsOwner (o : Owner) : Type 0 where
  pub number : o.number < 2 ^ 32
  pub name : IsName o.name
  pub base : IsBase o.base
  pub short_base : length o.base ≤ 256
  pub table : IsTable o.table

-- at most 255 volumes and 255 off-nominal volumes
pub record IsProposal (p : Proposal) : Type 0 where
  pub few_volumes : length p.volumes < 2 ^ 8
  pub few_off_nominal : length p.off_nominal < 2 ^ 8
  pub volumes : All IsVolume p.volumes
  pub off_nominal : All IsVolume p.off_nominal

pub record IsPutWish (priority rounds : ℕ) (proposals : List Proposal) : Type 0 where
  pub priority_fits : priority < 2 ^ 16
  pub rounds_fit : rounds < 2 ^ 8
  pub few_proposals : length proposals < 2 ^ 8
  pub valid_proposals : All IsProposal proposals

abbrev pub IsWish : Wish → Type 0
IsWish (Put to priority rounds proposals) = IsPutWish priority rounds proposals
IsWish End = Unit {0}

pub record IsAsk (a : FlightAsk) : Type 0 where
  pub flight : a.flight < 2 ^ 64
  pub number : a.number < 2 ^ 64
  pub wish : IsWish a.wish

pub record IsSubscriber (s : Subscriber) : Type 0 where
  pub base : IsBase s.base
  pub ticket : s.ticket < 2 ^ 128
  pub index : s.index < 2 ^ 64

-- at most 8,192 subscribers
abbrev pub AreOwed : List Subscriber → Type 0
AreOwed owed = (length owed ≤ most_tickets) × All IsSubscriber owed

-- a rule that refuses
abbrev pub IsRule : Verdict → Type 0
IsRule Clear = ⊥
IsRule EqualForbidden = Unit {0}
IsRule HigherStands = Unit {0}

-- at most 4,096 missing flights
abbrev pub IsEnding : Ending → Type 0
IsEnding (Conflict flight manager rule) = (flight < 2 ^ 128) × IsName manager × IsRule rule
IsEnding (Stale missing) = (length missing ≤ most_references) × All (λ flight. flight < 2 ^ 128) missing
IsEnding Cancelled = Unit {0}
IsEnding (Ended owed) = AreOwed owed

-- a job that decides doesn't end its flight
abbrev pub IsDecision : Ending → Type 0
IsDecision (Ended owed) = ⊥
IsDecision end = IsEnding end

pub record IsPending (job tag alternative : ℕ) (previous : Option (List ℕ)) (key : List (List ℕ)) : Type 0 where
  pub job_fits : job < 2 ^ 64
  pub tag_fits : tag < 2 ^ 64
  pub alternative_fits : alternative < 2 ^ 8
  pub valid_previous : IfSome previous IsOvn
  pub few : length key ≤ most_ovns
  pub valid_key : All IsOvn key

pub record IsHolding (job tag : ℕ) (ovn : List ℕ) (version : ℕ) (owed : List Subscriber) : Type 0 where
  pub job_fits : job < 2 ^ 64
  pub tag_fits : tag < 2 ^ 64
  pub valid_ovn : IsOvn ovn
  pub version_fits : version < 2 ^ 32
  pub valid_owed : AreOwed owed

-- the entry has a coding: each value is one of its type, and within the limits
abbrev pub HasCoding : Entry → Type 0
HasCoding (Enters.Owner owner) = IsOwner owner
HasCoding (Opened o) = (o.job < 2 ^ 64) × InTime o.moment × IsAsk o.ask
HasCoding (TicketOpen job) = job < 2 ^ 64
HasCoding (Pending t) = IsPending t.job t.tag t.alternative t.previous t.key
HasCoding (Held h) = IsHolding h.job h.tag h.ovn h.version h.owed
HasCoding (Deciding d) = (d.job < 2 ^ 64) × IsDecision d.end
HasCoding (Done d) = (d.job < 2 ^ 64) × IsEnding d.end
HasCoding (TicketGone job) = job < 2 ^ 64
HasCoding (Sent n) = (n.job < 2 ^ 64) × (n.index < 2 ^ 32)

-- the bytes of a text, and of texts one after another
abbrev pub text_length : List ℕ → ℕ
text_length text = 4 + length text

abbrev pub texts_length : List (List ℕ) → ℕ
texts_length texts = 4 + sum_by text_length texts

abbrev pub option_length : Option (List ℕ) → ℕ
option_length None = 1
option_length (Some text) = 1 + text_length text

-- an outline's vertices with 8 bytes for each coordinate, two altitudes and two instants
abbrev pub volume_length : Volume4D → ℕ
volume_length v = 4 + 16 * length v.outline + 32

abbrev pub volumes_length : List Volume4D → ℕ
volumes_length volumes = 1 + sum_by volume_length volumes

abbrev pub proposal_length : Proposal → ℕ
proposal_length p = volumes_length p.volumes + volumes_length p.off_nominal

-- a byte for the kind; for a Put the state, the priority, the rounds and the number of alternatives follow
abbrev pub wish_length : Wish → ℕ
wish_length (Put to priority rounds proposals) = 1 + 1 + 2 + 1 + 1 + sum_by proposal_length proposals
wish_length End = 1

abbrev pub subscriber_length : Subscriber → ℕ
subscriber_length s = text_length s.base + 16 + 8

abbrev pub owed_length : List Subscriber → ℕ
owed_length owed = 4 + sum_by subscriber_length owed

-- a byte for the kind; a rule has one byte
abbrev pub ending_length : Ending → ℕ
ending_length (Conflict flight manager rule) = 1 + 16 + text_length manager + 1
ending_length (Stale missing) = 1 + 4 + 16 * length missing
ending_length Cancelled = 1
ending_length (Ended owed) = 1 + owed_length owed

-- the number of bytes of an entry's coding
abbrev pub coding_length : Entry → ℕ
coding_length (Enters.Owner owner) = 1 + 4 + text_length owner.name + text_length owner.base + (4 + 2 * length owner.table)
coding_length (Opened o) = 1 + 8 + 8 + 8 + 8 + wish_length o.ask.wish
coding_length (TicketOpen job) = 1 + 8
coding_length (Pending t) = 1 + 8 + 8 + 1 + option_length t.previous + texts_length t.key
coding_length (Held h) = 1 + 8 + 8 + text_length h.ovn + 4 + owed_length h.owed
coding_length (Deciding d) = 1 + 8 + ending_length d.end
coding_length (Done d) = 1 + 8 + ending_length d.end
coding_length (TicketGone job) = 1 + 8
coding_length (Sent n) = 1 + 8 + 4

-- the number of bytes of its record: the length in 4 bytes, the coding, and the gate of the next record
abbrev pub record_length : Entry → ℕ
record_length e = 5 + coding_length e

-- the bytes of the journal of a book: its mark of 8 bytes, the first gate, and the records
unfoldable pub journal_length : List Entry → ℕ
journal_length book = 9 + sum_by record_length book
