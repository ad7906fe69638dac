-- Intents, notifications, requests and positions as they are written: their members ascending by name.
use Rattle.std.specs.Prelude.{◌≡◌, ◌<◌, ◌^◌, ℕ, List, true, Option, Some, None, codes}
use Rattle.serde_json.specs.Data.{Data, object, member, Members, no_members, number, unsigned, string, array, no_items, item}
use Rattle.serde_json.specs.Find.{of_integer}
use Rattle.uss_vol4.specs.Volume.{IsVolume}
use Rattle.uss_intent.specs.States.{state_text}
use Rattle.uss_intent.specs.Texts.{IsName, IsBase, IsOvn}
use Rattle.uss_event.specs.declared.calls.Note.{Note}
use Rattle.uss_event.specs.declared.details.Details.{Details}
use Rattle.uss_event.specs.declared.details.Proposal.{Proposal}
use Rattle.uss_event.specs.declared.asks.Wish.{Wish}
use Rattle.uss_event.specs.declared.asks.Wish.TheVariants.{Put, End}
use Rattle.uss_event.specs.declared.asks.FlightAsk.{FlightAsk}
use Rattle.uss_event.specs.declared.asks.PositionAsk.{PositionAsk}
use Rattle.uss_event.specs.Pairs.{OperationalIntent, is_pair}
use Rattle.uss_vol4.specs.Ranges.{is_instant}
use Rattle.uss_wire_base.specs.Writing.{IsSigned64, AllOf, list_json}
use Rattle.uss_wire_words.specs.VolumeWriting.{volume_json}
use Rattle.uss_wire_words.specs.ReferenceWriting.{identifier_json, reference_json}

unfoldable pub details_json : Details → Data
details_json d =
    object (member (codes "off_nominal_volumes") (list_json volume_json d.off_nominal) (member (codes "priority") (number (unsigned d.priority))
    (member (codes "volumes") (list_json volume_json d.volumes) no_members)))

unfoldable pub intent_json : OperationalIntent → Data
intent_json p = object (member (codes "details") (details_json p.details) (member (codes "reference") (reference_json p.reference) no_members))

unfoldable pub details_answer_json : OperationalIntent → Data
details_answer_json p = object (member (codes "operational_intent") (intent_json p) no_members)

-- by which subscription one is notified, and how often it was
unfoldable pub notified_json : (ticket index : ℕ) → Data
notified_json ticket index =
    object (member (codes "notification_index") (number (unsigned index)) (member (codes "subscription_id") (identifier_json ticket) no_members))

-- the members of a notification after its intent
abbrev pub behind_intent : Note → Members
behind_intent n =
    member (codes "operational_intent_id") (identifier_json n.flight) (member (codes "subscriptions") (array (item (notified_json n.ticket n.index) no_items)) no_members)

abbrev pub with_intent : Option OperationalIntent → Members → Members
with_intent None ms = ms
with_intent (Some p) ms = member (codes "operational_intent") (intent_json p) ms

unfoldable pub notification_json : Note → Data
notification_json n = object (with_intent n.pair (behind_intent n))

unfoldable pub proposal_json : Proposal → Data
proposal_json p = object (member (codes "off_nominal_volumes") (list_json volume_json p.off_nominal) (member (codes "volumes") (list_json volume_json p.volumes) no_members))

-- the members of a request for this flight, by this number
abbrev pub ask_members : (flight request : ℕ) → Wish → Members
ask_members flight request End =
    member (codes "flight") (number (unsigned flight)) (member (codes "number") (number (unsigned request)) (member (codes "wish") (string (codes "end")) no_members))
ask_members flight request (Put to priority rounds proposals) =
    member (codes "alternatives") (list_json proposal_json proposals) (member (codes "flight") (number (unsigned flight))
    (member (codes "number") (number (unsigned request)) (member (codes "priority") (number (unsigned priority))
    (member (codes "rounds") (number (unsigned rounds)) (member (codes "to") (string (state_text to))
    (member (codes "wish") (string (codes "put")) no_members))))))

unfoldable pub asks_json : FlightAsk → Data
asks_json a = object (ask_members a.flight a.number a.wish)

unfoldable pub positions_json : PositionAsk → Data
positions_json p =
    object (member (codes "altitude_mm") (number (of_integer p.altitude)) (member (codes "flight") (number (unsigned p.flight))
    (member (codes "lat_e7") (number (of_integer p.place.y)) (member (codes "lng_e7") (number (of_integer p.place.x))
    (member (codes "number") (number (unsigned p.number)) (member (codes "off_nominal_volumes") (list_json volume_json p.off_nominal) no_members))))))

-- ---- what a reader can give

-- an OVN that is shown
abbrev pub ShowsOvn : Option (List ℕ) → Type 0
ShowsOvn None = ⊥
ShowsOvn (Some ovn) = IsOvn ovn

-- an intent as a reader can give it
pub record IsReadable (p : OperationalIntent) : Type 0 where
  pub flight : p.reference.flight < 2 ^ 128
  pub manager : IsName p.reference.manager
  pub version : p.reference.version < 2 ^ 32
  pub ovn : ShowsOvn p.reference.ovn
  pub start : is_instant p.reference.start ≡ true
  pub end : is_instant p.reference.end ≡ true
  pub base : IsBase p.reference.base
  pub ticket : p.reference.ticket < 2 ^ 128
  pub volumes : AllOf IsVolume p.details.volumes
  pub off_nominal : AllOf IsVolume p.details.off_nominal
  pub fits : is_pair p.reference p.details ≡ true

abbrev pub IsReadableIfAny : Option OperationalIntent → Type 0
IsReadableIfAny None = Unit {0}
IsReadableIfAny (Some p) = IsReadable p

-- a notification as a reader can give it
pub record IsReadableNote (n : Note) : Type 0 where
  pub flight : n.flight < 2 ^ 128
  pub pair : IsReadableIfAny n.pair
  pub ticket : n.ticket < 2 ^ 128

-- an alternative of a request as a reader can give it
pub record IsReadableProposal (p : Proposal) : Type 0 where
  pub volumes : AllOf IsVolume p.volumes
  pub off_nominal : AllOf IsVolume p.off_nominal

-- a wish as a reader can give it
abbrev pub IsReadableWish : Wish → Type 0
IsReadableWish End = Unit {0}
IsReadableWish (Put to priority rounds proposals) = (priority < 2 ^ 16) × (rounds < 2 ^ 8) × AllOf IsReadableProposal proposals

-- a position as a reader can give it
pub record IsReadablePosition (p : PositionAsk) : Type 0 where
  pub x : IsSigned64 p.place.x
  pub y : IsSigned64 p.place.y
  pub altitude : IsSigned64 p.altitude
  pub off_nominal : AllOf IsVolume p.off_nominal
