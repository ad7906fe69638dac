-- What is written has no fraction, and isn't deep.
use Rattle.std.proofs.Common.{◌≡◌, ℕ, ◌≤◌, false, Some, None, refl, arith}
use Rattle.std.specs.Prelude.{Option}
use Rattle.serde_json.specs.Data.{depth, Members, members_depth}
use Rattle.serde_json.specs.Written.{has_float, members_have_float}
use Rattle.uss_event.specs.declared.calls.Note.{Note}
use Rattle.uss_event.specs.declared.details.Details.{Details}
use Rattle.uss_event.specs.declared.details.Proposal.{Proposal}
use Rattle.uss_event.specs.declared.asks.Wish.{Wish}
use Rattle.uss_event.specs.declared.asks.Wish.TheVariants.{Put, End}
use Rattle.uss_event.specs.declared.asks.FlightAsk.{FlightAsk}
use Rattle.uss_event.specs.declared.asks.PositionAsk.{PositionAsk}
use Rattle.uss_event.specs.Pairs.{OperationalIntent}
use Rattle.uss_wire_base.specs.Writing.{IsPlain}
use Rattle.uss_wire_base.proofs.Again.{integer_whole, list_whole, list_shallow}
use Rattle.uss_wire_words.specs.VolumeWriting.{volume_json}
use Rattle.uss_wire_words.proofs.VolumesAgain.{volume_whole, volume_shallow}
use Rattle.uss_wire_words.proofs.ReferencesAgain.{reference_whole, reference_shallow}
use Rattle.uss_wire_uss.specs.Writing.{details_json, intent_json, details_answer_json, notified_json, behind_intent, with_intent, notification_json, proposal_json, ask_members, asks_json, positions_json}

-- ---- intents
details_whole : (d : Details) → has_float (details_json d) ≡ false
unfolding details_json
details_whole d = rw (list_whole volume_json volume_whole d.off_nominal, list_whole volume_json volume_whole d.volumes) refl

details_shallow : (d : Details) → depth (details_json d) ≤ 7
unfolding details_json
details_shallow d = let a = list_shallow volume_json 5 volume_shallow d.off_nominal in let b = list_shallow volume_json 5 volume_shallow d.volumes in omega arith

intent_whole : (p : OperationalIntent) → has_float (intent_json p) ≡ false
unfolding intent_json
intent_whole p = rw (details_whole p.details, reference_whole p.reference) refl

intent_shallow : (p : OperationalIntent) → depth (intent_json p) ≤ 8
unfolding intent_json
intent_shallow p = let a = details_shallow p.details in let b = reference_shallow p.reference in omega arith

pub details_answer_plain : (p : OperationalIntent) → IsPlain (details_answer_json p)
unfolding details_answer_json
details_answer_plain p = record { whole = rw (intent_whole p) refl; shallow = (let h = intent_shallow p in omega arith) }

-- ---- notifications
behind_whole : (n : Note) → members_have_float (behind_intent n) ≡ false
unfolding notified_json
behind_whole n = refl

behind_shallow : (n : Note) → members_depth (behind_intent n) ≤ 8
unfolding notified_json
behind_shallow n = omega arith

with_whole : (p : Option OperationalIntent) (ms : Members) → members_have_float ms ≡ false → members_have_float (with_intent p ms) ≡ false
with_whole None ms h = h
with_whole (Some p) ms h = rw (intent_whole p) h

with_shallow : (p : Option OperationalIntent) (ms : Members) → members_depth ms ≤ 8 → members_depth (with_intent p ms) ≤ 8
with_shallow None ms h = h
with_shallow (Some p) ms h = let k = intent_shallow p in omega arith

pub notification_plain : (n : Note) → IsPlain (notification_json n)
unfolding notification_json
notification_plain n = record {
  whole = with_whole n.pair (behind_intent n) (behind_whole n);
  shallow = (let h = with_shallow n.pair (behind_intent n) (behind_shallow n) in omega arith);
}

-- ---- requests and positions
proposal_whole : (p : Proposal) → has_float (proposal_json p) ≡ false
unfolding proposal_json
proposal_whole p = rw (list_whole volume_json volume_whole p.off_nominal, list_whole volume_json volume_whole p.volumes) refl

proposal_shallow : (p : Proposal) → depth (proposal_json p) ≤ 7
unfolding proposal_json
proposal_shallow p = let a = list_shallow volume_json 5 volume_shallow p.off_nominal in let b = list_shallow volume_json 5 volume_shallow p.volumes in omega arith

ask_whole : (flight request : ℕ) (w : Wish) → members_have_float (ask_members flight request w) ≡ false
ask_whole flight request End = refl
ask_whole flight request (Put to priority rounds proposals) = rw (list_whole proposal_json proposal_whole proposals) refl

ask_shallow : (flight request : ℕ) (w : Wish) → members_depth (ask_members flight request w) ≤ 8
ask_shallow flight request End = omega arith
ask_shallow flight request (Put to priority rounds proposals) = let h = list_shallow proposal_json 7 proposal_shallow proposals in omega arith

pub asks_plain : (a : FlightAsk) → IsPlain (asks_json a)
unfolding asks_json
asks_plain a = record { whole = ask_whole a.flight a.number a.wish; shallow = (let h = ask_shallow a.flight a.number a.wish in omega arith) }

pub positions_plain : (p : PositionAsk) → IsPlain (positions_json p)
unfolding positions_json
positions_plain p = record {
  whole = rw (integer_whole p.altitude, integer_whole p.place.y, integer_whole p.place.x, list_whole volume_json volume_whole p.off_nominal) refl;
  shallow = (let h = list_shallow volume_json 5 volume_shallow p.off_nominal in omega arith);
}
