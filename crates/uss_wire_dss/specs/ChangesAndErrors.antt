-- The answer of the discovery service to a change, and its errors: each object's members in their order. After the OpenAPI annex of
-- ASTM F3548-21; the limits and the numbers of errors are this project's own.
use Rattle.std.specs.Prelude.{ℕ, ◌==◌, ◌-◌, ◌^◌, ◌&&◌, List, [], ◌∷◌, ◌++◌, Bool, true, map, length, nat_le, Result, Ok, Err, if◌then◌else◌}
use Rattle.serde_json.specs.Data.{Data}
use Rattle.uss_intent.specs.declared.records.Reference.{Reference}
use Rattle.uss_intent.specs.declared.records.Subscriber.{Subscriber}
use Rattle.uss_intent.specs.Limits.{most_tickets}
use Rattle.uss_wire_base.specs.declared.refusal.Member.{Member}
use Rattle.uss_wire_base.specs.declared.refusal.WireRefusal.{WireRefusal}
use Rattle.uss_wire_base.specs.declared.refusal.WireRefusal.TheVariants.{TooMany}
use Rattle.uss_wire_base.specs.Reading.{◌>>=◌, Reader, object_at, field, natural_at, natural_below, text_at, list_at, few_at}
use Rattle.uss_wire_words.specs.Texts.{base_at, identifier_at}
use Rattle.uss_wire_words.specs.References.{answered_reference_at, references_at}
use Rattle.uss_wire_dss.specs.declared.changes.Notified.{Notified}
use Rattle.uss_wire_dss.specs.declared.changes.Listed.{Listed}
use Rattle.uss_wire_dss.specs.declared.errors.ErrorBody.{ErrorBody}

-- the lists, one after another
abbrev pub flatten : {A : Type 0} → List (List A) → List A
flatten [] = []
flatten (xs ∷ lists) = xs ++ flatten lists

-- by which subscription one is notified
unfoldable pub notified_at : Reader Notified
notified_at place d = do
  _ ← object_at place d
  ticket ← field Member.SubscriptionId identifier_at d
  index ← field Member.NotificationIndex natural_at d
  Ok (record { ticket = ticket; index = index })

abbrev pub notified_by : List ℕ → Notified → Subscriber
notified_by base t = record { base = base; ticket = t.ticket; index = t.index }

-- one with several subscriptions is taken as several, in their order
unfoldable pub subscriber_at : Reader (List Subscriber)
subscriber_at place d = do
  _ ← object_at place d
  notified ← field Member.Subscriptions (list_at notified_at) d
  base ← field Member.UssBaseUrl base_at d
  Ok (map (notified_by base) notified)

-- the same before it is taken as several: the base, and the subscriptions
unfoldable pub listed_at : Reader Listed
listed_at place d = do
  _ ← object_at place d
  notified ← field Member.Subscriptions (list_at notified_at) d
  base ← field Member.UssBaseUrl base_at d
  Ok (record { base = base; notified = notified })

abbrev pub owed_by : Listed → List Subscriber
owed_by l = map (notified_by l.base) l.notified

-- whether the items have at most so many subscriptions in all
abbrev pub fit : ℕ → List Listed → Bool
fit room [] = true
fit room (l ∷ lists) = nat_le (length l.notified) room && fit (room - length l.notified) lists

abbrev pub at_most_tickets : Member → List Subscriber → Result (List Subscriber) WireRefusal
at_most_tickets m all = if nat_le (length all) most_tickets then Ok all else Err (TooMany m)

-- at most `most_tickets` in all; a longer list is refused before its items
unfoldable pub subscribers_at : Reader (List Subscriber)
subscribers_at m d = do
  lists ← few_at most_tickets subscriber_at m d
  at_most_tickets m (flatten lists)

-- who is to be notified, and the reference as it is recorded
unfoldable pub change_answer_at : List ℕ → Reader (Reference × List Subscriber)
change_answer_at client place d = do
  _ ← object_at place d
  subscribers ← field Member.Subscribers subscribers_at d
  reference ← field Member.OperationalIntentReference (answered_reference_at client) d
  Ok (reference, subscribers)

-- the references that a key lacks stand in the error 209 alone
abbrev pub missing_at : List ℕ → ℕ → Data → Result (List Reference) WireRefusal
missing_at client refusal d = if refusal == 209 then field Member.MissingOperationalIntents (references_at client) d else Ok []

unfoldable pub error_at : List ℕ → Reader ErrorBody
error_at client place d = do
  _ ← object_at place d
  message ← field Member.Message text_at d
  refusal ← field Member.Refusal (natural_below (2 ^ 16)) d
  missing ← missing_at client refusal d
  Ok (record { message = message; refusal = refusal; missing = missing })
