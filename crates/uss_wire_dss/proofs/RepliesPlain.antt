-- The answers that are written: no fraction, and not deep.
use Rattle.std.proofs.Common.{◌≡◌, ◌≤◌, Bool, true, false, List, refl, arith}
use Rattle.std.specs.Prelude.{◌==◌, codes, if◌then◌else◌}
use Rattle.serde_json.specs.Data.{depth, Members, member, no_members, members_depth, number, unsigned}
use Rattle.serde_json.specs.Written.{has_float, members_have_float}
use Rattle.uss_intent.specs.declared.records.Reference.{Reference}
use Rattle.uss_intent.specs.declared.records.Subscriber.{Subscriber}
use Rattle.uss_wire_base.specs.Writing.{IsPlain, list_json}
use Rattle.uss_wire_base.proofs.Again.{list_whole, list_shallow}
use Rattle.uss_wire_words.specs.ReferenceWriting.{reference_json, subscriber_json, notified_json}
use Rattle.uss_wire_words.proofs.ReferencesAgain.{reference_whole, reference_shallow}
use Rattle.uss_wire_dss.specs.declared.errors.ErrorBody.{ErrorBody}
use Rattle.uss_wire_dss.specs.ReplyWriting.{query_answer_json, get_answer_json, change_answer_json, error_json}

subscriber_whole : (s : Subscriber) → has_float (subscriber_json s) ≡ false
unfolding subscriber_json notified_json
subscriber_whole s = refl

subscriber_shallow : (s : Subscriber) → depth (subscriber_json s) ≤ 3
unfolding subscriber_json notified_json
subscriber_shallow s = omega arith

pub query_answer_plain : (rs : List Reference) → IsPlain (query_answer_json rs)
unfolding query_answer_json
query_answer_plain rs = record { whole = rw (list_whole reference_json reference_whole rs) refl; shallow = (let h = list_shallow reference_json 2 reference_shallow rs in omega arith) }

pub get_answer_plain : (r : Reference) → IsPlain (get_answer_json r)
unfolding get_answer_json
get_answer_plain r = record { whole = rw (reference_whole r) refl; shallow = (let h = reference_shallow r in omega arith) }

pub change_answer_plain : (r : Reference) (ss : List Subscriber) → IsPlain (change_answer_json r ss)
unfolding change_answer_json
change_answer_plain r ss = record {
  whole = rw (reference_whole r, list_whole subscriber_json subscriber_whole ss) refl;
  shallow = (let h = reference_shallow r in let k = list_shallow subscriber_json 3 subscriber_shallow ss in omega arith);
}

missing_whole : (b : Bool) (rs : List Reference) (ms : Members) → members_have_float ms ≡ false → members_have_float (if b then member (codes "missing_operational_intents") (list_json reference_json rs) ms else ms) ≡ false
missing_whole true rs ms h = rw (list_whole reference_json reference_whole rs) h
missing_whole false rs ms h = h

missing_shallow : (b : Bool) (rs : List Reference) (ms : Members) → members_depth ms ≤ 3 → members_depth (if b then member (codes "missing_operational_intents") (list_json reference_json rs) ms else ms) ≤ 3
missing_shallow true rs ms h = let k = list_shallow reference_json 2 reference_shallow rs in omega arith
missing_shallow false rs ms h = h

pub error_plain : (e : ErrorBody) → IsPlain (error_json e)
unfolding error_json
error_plain e = record {
  whole = missing_whole (e.refusal == 209) e.missing (member (codes "refusal") (number (unsigned e.refusal)) no_members) refl;
  shallow = (let h = missing_shallow (e.refusal == 209) e.missing (member (codes "refusal") (number (unsigned e.refusal)) no_members) (omega arith) in omega arith);
}
