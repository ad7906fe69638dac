-- The answers of the discovery service with references or a ticket alone: each object's members in their order. After the OpenAPI annex of
-- ASTM F3548-21, but for the limit of the references, which is this project's own.
use Rattle.std.specs.Prelude.{ℕ, List, Result, Ok}
use Rattle.uss_vol4.specs.Volume.{Volume4D}
use Rattle.uss_intent.specs.declared.records.Reference.{Reference}
use Rattle.uss_intent.specs.declared.records.Ticket.{Ticket}
use Rattle.serde_json.specs.Data.{Data}
use Rattle.uss_wire_base.specs.declared.refusal.Member.{Member}
use Rattle.uss_wire_base.specs.declared.refusal.WireRefusal.{WireRefusal}
use Rattle.uss_wire_base.specs.Reading.{◌>>=◌, Reader, object_at, field, natural_at, text_at}
use Rattle.uss_wire_words.specs.Volumes.{time_at}
use Rattle.uss_wire_words.specs.Texts.{base_at, identifier_at}
use Rattle.uss_wire_words.specs.References.{answered_reference_at, references_at}

-- the answer to a query of this client
unfoldable pub query_answer_at : List ℕ → Reader (List Reference)
query_answer_at client place d = do
  _ ← object_at place d
  field Member.OperationalIntentReferences (references_at client) d

-- the answer to a question for one reference
unfoldable pub get_answer_at : List ℕ → Reader Reference
get_answer_at client place d = do
  _ ← object_at place d
  field Member.OperationalIntentReference (answered_reference_at client) d

-- any text, of which nothing is kept
abbrev pub any_text_at : Member → Data → Result (Unit {0}) WireRefusal
any_text_at m d = field m text_at d >>= λ text. Ok tt

-- a ticket of this client: the area isn't in the message, and is the caller's
unfoldable pub ticket_at : List ℕ → Volume4D → Reader Ticket
ticket_at client area place d = do
  _ ← object_at place d
  id ← field Member.Id identifier_at d
  _ ← any_text_at Member.Version d
  index ← field Member.NotificationIndex natural_at d
  _ ← field Member.TimeStart time_at d
  _ ← field Member.TimeEnd time_at d
  base ← field Member.UssBaseUrl base_at d
  Ok (record { id = id; manager = client; area = area; base = base; index = index })

unfoldable pub subscription_answer_at : List ℕ → Volume4D → Reader Ticket
subscription_answer_at client area place d = do
  _ ← object_at place d
  field Member.Subscription (ticket_at client area) d
