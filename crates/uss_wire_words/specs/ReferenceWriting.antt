-- How references, tickets and those that are to be notified are written: members ascending by name, and what this profile fixes.
use Rattle.std.specs.Prelude.{ℕ, List, true, false, Option, Some, None, codes}
use Rattle.serde_json.specs.Data.{Data, object, member, Members, no_members, number, unsigned, string, boolean, array, no_items, item}
use Rattle.uss_intent.specs.declared.records.Reference.{Reference}
use Rattle.uss_intent.specs.declared.records.Subscriber.{Subscriber}
use Rattle.uss_intent.specs.declared.records.Ticket.{Ticket}
use Rattle.uss_intent.specs.States.{state_text}
use Rattle.uss_intent.specs.Identifiers.{identifier_text}
use Rattle.uss_wire_words.specs.VolumeWriting.{time_json}

abbrev pub identifier_json : ℕ → Data
identifier_json id = string (identifier_text id)

-- the members of a reference after its OVN
abbrev pub behind_ovn : Reference → Members
behind_ovn r =
    member (codes "state") (string (state_text r.state)) (member (codes "subscription_id") (identifier_json r.ticket)
    (member (codes "time_end") (time_json r.end) (member (codes "time_start") (time_json r.start)
    (member (codes "uss_availability") (string (codes "Unknown")) (member (codes "uss_base_url") (string r.base)
    (member (codes "version") (number (unsigned r.version)) no_members))))))

abbrev pub with_ovn : Option (List ℕ) → Members → Members
with_ovn None ms = ms
with_ovn (Some ovn) ms = member (codes "ovn") (string ovn) ms

unfoldable pub reference_json : Reference → Data
reference_json r = object (member (codes "id") (identifier_json r.flight) (member (codes "manager") (string r.manager) (with_ovn r.ovn (behind_ovn r))))

-- one who is to be notified, by one subscription
unfoldable pub notified_json : Subscriber → Data
notified_json s = object (member (codes "notification_index") (number (unsigned s.index)) (member (codes "subscription_id") (identifier_json s.ticket) no_members))

unfoldable pub subscriber_json : Subscriber → Data
subscriber_json s = object (member (codes "subscriptions") (array (item (notified_json s) no_items)) (member (codes "uss_base_url") (string s.base) no_members))

-- a ticket, with the times of its area
unfoldable pub ticket_json : Ticket → Data
ticket_json t = object (member (codes "id") (identifier_json t.id) (member (codes "notification_index") (number (unsigned t.index))
    (member (codes "notify_for_constraints") (boolean false) (member (codes "notify_for_operational_intents") (boolean true)
    (member (codes "time_end") (time_json t.area.end) (member (codes "time_start") (time_json t.area.start)
    (member (codes "uss_base_url") (string t.base) (member (codes "version") (string (codes "1")) no_members))))))))
