-- The calls of the discovery service as they are written: their members ascending by name, with what this profile fixes.
use Rattle.std.specs.Prelude.{◌≤◌, ◌<◌, ◌^◌, ℕ, List, true, false, length, codes}
use Rattle.serde_json.specs.Data.{Data, object, member, no_members, string, boolean, null}
use Rattle.uss_vol4.specs.Volume.{Volume4D, IsVolume}
use Rattle.uss_intent.specs.Limits.{most_ovns}
use Rattle.uss_intent.specs.declared.records.State.{State}
use Rattle.uss_intent.specs.declared.calls.DssAsk.{DssAsk}
use Rattle.uss_intent.specs.declared.calls.DssAsk.TheVariants.{Query, Get, Put, Remove, TicketPut, TicketGet, TicketRemove}
use Rattle.uss_intent.specs.States.{state_text}
use Rattle.uss_intent.specs.Texts.{IsBase, IsOvn}
use Rattle.uss_wire_base.specs.Writing.{list_json, AllOf}
use Rattle.uss_wire_words.specs.VolumeWriting.{volume_json}
use Rattle.uss_wire_words.specs.ReferenceWriting.{identifier_json}

abbrev pub IsQuery : DssAsk → Type 0
IsQuery (Query area) = Unit {0}
IsQuery (Get flight) = ⊥
IsQuery (Put flight ovn extents key state base ticket) = ⊥
IsQuery (Remove flight ovn) = ⊥
IsQuery (TicketPut ticket area base) = ⊥
IsQuery (TicketGet ticket) = ⊥
IsQuery (TicketRemove ticket version) = ⊥

abbrev pub IsPut : DssAsk → Type 0
IsPut (Query area) = ⊥
IsPut (Get flight) = ⊥
IsPut (Put flight ovn extents key state base ticket) = Unit {0}
IsPut (Remove flight ovn) = ⊥
IsPut (TicketPut ticket area base) = ⊥
IsPut (TicketGet ticket) = ⊥
IsPut (TicketRemove ticket version) = ⊥

abbrev pub IsTicketPut : DssAsk → Type 0
IsTicketPut (Query area) = ⊥
IsTicketPut (Get flight) = ⊥
IsTicketPut (Put flight ovn extents key state base ticket) = ⊥
IsTicketPut (Remove flight ovn) = ⊥
IsTicketPut (TicketPut ticket area base) = Unit {0}
IsTicketPut (TicketGet ticket) = ⊥
IsTicketPut (TicketRemove ticket version) = ⊥

unfoldable pub query_json : Volume4D → Data
query_json area = object (member (codes "area_of_interest") (volume_json area) no_members)

unfoldable pub put_reference_json : List Volume4D → List (List ℕ) → State → List ℕ → ℕ → Data
put_reference_json extents key state base ticket =
    object (member (codes "extents") (list_json volume_json extents) (member (codes "key") (list_json string key)
    (member (codes "state") (string (state_text state)) (member (codes "subscription_id") (identifier_json ticket)
    (member (codes "uss_base_url") (string base) no_members)))))

unfoldable pub put_subscription_json : Volume4D → List ℕ → Data
put_subscription_json area base =
    object (member (codes "extents") (volume_json area) (member (codes "notify_for_constraints") (boolean false)
    (member (codes "notify_for_operational_intents") (boolean true) (member (codes "uss_base_url") (string base) no_members))))

-- the value of a call that has a message
abbrev pub ask_json : DssAsk → Data
ask_json (Query area) = query_json area
ask_json (Get flight) = null
ask_json (Put flight ovn extents key state base ticket) = put_reference_json extents key state base ticket
ask_json (Remove flight ovn) = null
ask_json (TicketPut ticket area base) = put_subscription_json area base
ask_json (TicketGet ticket) = null
ask_json (TicketRemove ticket version) = null

-- a change of a reference as a reader can give it
pub record IsReadablePut (volumes : List Volume4D) (ovns : List (List ℕ)) (url : List ℕ) (id : ℕ) : Type 0 where
  pub extents : AllOf IsVolume volumes
  pub key : AllOf IsOvn ovns
  pub few : length ovns ≤ most_ovns
  pub base : IsBase url
  pub ticket : id < 2 ^ 128
