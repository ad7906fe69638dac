-- The answers of the discovery service as they are written: their members ascending by name.
use Rattle.std.specs.Prelude.{◌≡◌, ◌≢◌, ◌<◌, ◌≤◌, ◌^◌, ◌==◌, ℕ, List, [], true, Option, Some, None, IsTrue, length, bytes_eq, codes, if◌then◌else◌}
use Rattle.serde_json.specs.Data.{Data, object, member, Members, no_members, number, unsigned, string}
use Rattle.uss_intent.specs.declared.records.Reference.{Reference}
use Rattle.uss_intent.specs.declared.records.Subscriber.{Subscriber}
use Rattle.uss_intent.specs.declared.records.Ticket.{Ticket}
use Rattle.uss_intent.specs.Limits.{most_references}
use Rattle.uss_intent.specs.Texts.{IsName, IsBase, IsOvn}
use Rattle.uss_vol4.specs.Ranges.{is_instant}
use Rattle.uss_wire_base.specs.Writing.{list_json, AllOf}
use Rattle.uss_wire_words.specs.ReferenceWriting.{reference_json, subscriber_json, ticket_json}
use Rattle.uss_wire_dss.specs.declared.errors.ErrorBody.{ErrorBody}

unfoldable pub query_answer_json : List Reference → Data
query_answer_json references = object (member (codes "operational_intent_references") (list_json reference_json references) no_members)

unfoldable pub get_answer_json : Reference → Data
get_answer_json reference = object (member (codes "operational_intent_reference") (reference_json reference) no_members)

unfoldable pub change_answer_json : Reference → List Subscriber → Data
change_answer_json reference subscribers =
    object (member (codes "operational_intent_reference") (reference_json reference) (member (codes "subscribers") (list_json subscriber_json subscribers) no_members))

unfoldable pub subscription_answer_json : Ticket → Data
subscription_answer_json t = object (member (codes "subscription") (ticket_json t) no_members)

-- the references that a key lacks stand in the error 209 alone
abbrev pub with_missing : ℕ → List Reference → Members → Members
with_missing refusal missing ms = if refusal == 209 then member (codes "missing_operational_intents") (list_json reference_json missing) ms else ms

unfoldable pub error_json : ErrorBody → Data
error_json e =
    object (member (codes "message") (string e.message) (with_missing e.refusal e.missing (member (codes "refusal") (number (unsigned e.refusal)) no_members)))

-- an OVN as it is shown to this client: that of its own reference alone
abbrev pub ShowsOvn : List ℕ → List ℕ → Option (List ℕ) → Type 0
ShowsOvn client manager None = Unit {0}
ShowsOvn client manager (Some ovn) = IsTrue (bytes_eq manager client) × IsOvn ovn

-- a reference as a reader of this client's can give it
pub record IsReadable (client : List ℕ) (r : Reference) : Type 0 where
  pub flight : r.flight < 2 ^ 128
  pub manager : IsName r.manager
  pub version : r.version < 2 ^ 32
  pub ovn : ShowsOvn client r.manager r.ovn
  pub start : is_instant r.start ≡ true
  pub end : is_instant r.end ≡ true
  pub base : IsBase r.base
  pub ticket : r.ticket < 2 ^ 128

-- one who is to be notified, as a reader can give it
pub record IsReadableSubscriber (s : Subscriber) : Type 0 where
  pub base : IsBase s.base
  pub ticket : s.ticket < 2 ^ 128

-- a ticket as a reader can give it
pub record IsReadableTicket (t : Ticket) : Type 0 where
  pub id : t.id < 2 ^ 128
  pub start : is_instant t.area.start ≡ true
  pub end : is_instant t.area.end ≡ true
  pub base : IsBase t.base

-- an error as a reader of this client's can give it
pub record IsReadableError (client : List ℕ) (e : ErrorBody) : Type 0 where
  pub refusal : e.refusal < 2 ^ 16
  pub each : AllOf (IsReadable client) e.missing
  pub few : length e.missing ≤ most_references
  pub only : e.refusal ≢ 209 → e.missing ≡ []
