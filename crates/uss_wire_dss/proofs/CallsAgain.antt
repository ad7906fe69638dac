-- Each call and each ticket that is written is read again.
use Rattle.std.proofs.Common.{◌≡◌, ℕ, ◌≤◌, true, false, List, length, Ok, refl, arith}
use Rattle.std.specs.Prelude.{nat_le, Option}
use Rattle.std.proofs.lemmas.Bool.Decides.{nat_tests}
use Rattle.serde_json.specs.Data.{string, depth}
use Rattle.serde_json.specs.Written.{has_float}
use Rattle.uss_vol4.specs.Volume.{Volume4D, IsVolume}
use Rattle.uss_intent.specs.declared.records.State.{State}
use Rattle.uss_intent.specs.declared.records.Ticket.{Ticket}
use Rattle.uss_intent.specs.declared.calls.DssAsk.TheVariants.{Query, Put, TicketPut}
use Rattle.uss_intent.specs.Limits.{most_ovns}
use Rattle.uss_intent.specs.Texts.{IsBase, IsOvn}
use Rattle.uss_wire_base.specs.Names.{name}
use Rattle.uss_wire_base.specs.declared.refusal.Member.TheVariants.{Whole, Extents, Key}
use Rattle.uss_wire_base.specs.Writing.{IsPlain}
use Rattle.uss_wire_base.proofs.Again.{list_again, list_length, list_whole, list_shallow}
use Rattle.uss_wire_words.specs.Volumes.{volume_at}
use Rattle.uss_wire_words.specs.VolumeWriting.{volume_json}
use Rattle.uss_wire_words.proofs.VolumesAgain.{volume_again, volume_whole, volume_shallow, time_again}
use Rattle.uss_wire_words.specs.Texts.{ovn_at}
use Rattle.uss_wire_words.specs.ReferenceWriting.{ticket_json}
use Rattle.uss_wire_words.proofs.ReferencesAgain.{base_again, ovn_again, identifier_again, state_again, ticket_whole, ticket_shallow}
use Rattle.uss_wire_dss.specs.Calls.{query_at, put_reference_at, put_subscription_at}
use Rattle.uss_wire_dss.specs.Replies.{ticket_at, subscription_answer_at}
use Rattle.uss_wire_dss.specs.CallWriting.{query_json, put_reference_json, put_subscription_json, IsReadablePut}
use Rattle.uss_wire_dss.specs.ReplyWriting.{subscription_answer_json, IsReadableTicket}

le_true : (m n : ℕ) → m ≤ n → nat_le m n ≡ true
le_true m n h = grind (arith, nat_tests)

pub query_again : (area : Volume4D) → IsVolume area → query_at Whole (query_json area) ≡ Ok (Query area)
unfolding query_at query_json name
query_again area h = rw (volume_again _ area h) refl

pub put_reference_again : (flight : ℕ) (ovn : Option (List ℕ)) (extents : List Volume4D) (key : List (List ℕ)) (state : State) (base : List ℕ) (ticket : ℕ) → IsReadablePut extents key base ticket → put_reference_at flight ovn Whole (put_reference_json extents key state base ticket) ≡ Ok (Put flight ovn extents key state base ticket)
unfolding put_reference_at put_reference_json name
put_reference_again flight ovn extents key state base ticket h =
    rw (list_again volume_json (volume_at Extents) IsVolume (volume_again Extents) extents h.extents, list_length string key, le_true (length key) most_ovns h.few, list_again string (ovn_at Key) IsOvn (ovn_again Key) key h.key, state_again _ state, base_again _ base h.base, identifier_again _ ticket h.ticket) refl

pub put_subscription_again : (ticket : ℕ) (area : Volume4D) (base : List ℕ) → IsVolume area → IsBase base → put_subscription_at ticket Whole (put_subscription_json area base) ≡ Ok (TicketPut ticket area base)
unfolding put_subscription_at put_subscription_json name
put_subscription_again ticket area base v b = rw (volume_again _ area v, base_again _ base b) refl

pub subscription_answer_again : (t : Ticket) → IsReadableTicket t → subscription_answer_at t.manager t.area Whole (subscription_answer_json t) ≡ Ok t
unfolding subscription_answer_at subscription_answer_json ticket_at ticket_json name
subscription_answer_again t h = rw (identifier_again _ t.id h.id, time_again _ t.area.start h.start, time_again _ t.area.end h.end, base_again _ t.base h.base) refl

-- ---- no fraction, and not deep
string_whole : (text : List ℕ) → has_float (string text) ≡ false
string_whole text = refl

string_shallow : (text : List ℕ) → depth (string text) ≤ 0
string_shallow text = omega arith

pub query_plain : (area : Volume4D) → IsPlain (query_json area)
unfolding query_json
query_plain area = record { whole = rw (volume_whole area) refl; shallow = (let h = volume_shallow area in omega arith) }

pub put_reference_plain : (extents : List Volume4D) (key : List (List ℕ)) (state : State) (base : List ℕ) (ticket : ℕ) → IsPlain (put_reference_json extents key state base ticket)
unfolding put_reference_json
put_reference_plain extents key state base ticket = record {
  whole = rw (list_whole volume_json volume_whole extents, list_whole string string_whole key) refl;
  shallow = (let h = list_shallow volume_json 5 volume_shallow extents in let k = list_shallow string 0 string_shallow key in omega arith);
}

pub put_subscription_plain : (area : Volume4D) (base : List ℕ) → IsPlain (put_subscription_json area base)
unfolding put_subscription_json
put_subscription_plain area base = record { whole = rw (volume_whole area) refl; shallow = (let h = volume_shallow area in omega arith) }

pub subscription_answer_plain : (t : Ticket) → IsPlain (subscription_answer_json t)
unfolding subscription_answer_json
subscription_answer_plain t = record { whole = rw (ticket_whole t) refl; shallow = (let h = ticket_shallow t in omega arith) }
