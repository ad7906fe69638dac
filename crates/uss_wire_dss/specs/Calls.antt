-- The calls of the discovery service that have a message: each object's members in their order, and what this profile refuses first. After
-- the OpenAPI annex of ASTM F3548-21, but for the limit of a key, which is this project's own.
use Rattle.std.specs.Prelude.{ℕ, List, [], Option, Ok}
use Rattle.uss_intent.specs.Limits.{most_ovns}
use Rattle.uss_intent.specs.declared.calls.DssAsk.{DssAsk}
use Rattle.uss_intent.specs.declared.calls.DssAsk.TheVariants as Ask
use Rattle.uss_wire_base.specs.declared.refusal.Member.{Member}
use Rattle.uss_wire_base.specs.Reading.{◌>>=◌, Reader, object_at, without, without_true, field, field_or, list_at, few_at}
use Rattle.uss_wire_words.specs.Volumes.{volume_at}
use Rattle.uss_wire_words.specs.Texts.{base_at, ovn_at, state_at, identifier_at}

-- a query of the discovery service
unfoldable pub query_at : Reader DssAsk
query_at place d = do
  _ ← object_at place d
  area ← field Member.AreaOfInterest volume_at d
  Ok (Ask.Query area)

-- the creation or the change of a reference: the flight and the OVN stand in the call's path; without a key there are no OVNs
unfoldable pub put_reference_at : ℕ → Option (List ℕ) → Reader DssAsk
put_reference_at flight ovn place d = do
  _ ← object_at place d
  _ ← without Member.NewSubscription d
  extents ← field Member.Extents (list_at volume_at) d
  key ← field_or [] Member.Key (few_at most_ovns ovn_at) d
  state ← field Member.State state_at d
  base ← field Member.UssBaseUrl base_at d
  ticket ← field Member.SubscriptionId identifier_at d
  Ok (Ask.Put flight ovn extents key state base ticket)

-- the making of a ticket, whose identifier stands in the call's path
unfoldable pub put_subscription_at : ℕ → Reader DssAsk
put_subscription_at ticket place d = do
  _ ← object_at place d
  _ ← without_true Member.NotifyForConstraints d
  area ← field Member.Extents volume_at d
  base ← field Member.UssBaseUrl base_at d
  Ok (Ask.TicketPut ticket area base)
