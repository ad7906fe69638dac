-- Answers that are written are read again: references, those that are to be notified of a change, and errors.
use Rattle.std.proofs.Common.{◌≡◌, ◌^◌, ℕ, ◌<◌, ◌≤◌, Bool, true, false, List, [], ◌∷◌, length, Some, None, Ok, Result, refl, sym, ap, ◌∙◌, arith}
use Rattle.std.specs.Prelude.{Option, map, nat_lt, nat_le, ◌==◌, ◌≢◌, bytes_eq, if◌then◌else◌}
use Rattle.std.proofs.lemmas.Bool.Decides.{nat_tests}
use Rattle.uss_intent.specs.Limits.{most_references, most_tickets}
use Rattle.serde_json.specs.View.{items_of}
use Rattle.uss_intent.specs.declared.records.Reference.{Reference}
use Rattle.uss_intent.specs.declared.records.Subscriber.{Subscriber}
use Rattle.uss_wire_base.specs.Names.{name}
use Rattle.uss_wire_base.specs.declared.refusal.Member.{Member}
use Rattle.uss_wire_base.specs.declared.refusal.Member.TheVariants.{Whole}
use Rattle.uss_wire_base.specs.declared.refusal.WireRefusal.{WireRefusal}
use Rattle.uss_wire_base.specs.Reading.{◌>>=◌, each}
use Rattle.uss_wire_base.specs.Writing.{AllOf, list_json}
use Rattle.uss_wire_base.proofs.Again.{list_again, list_length}
use Rattle.uss_wire_words.proofs.VolumesAgain.{time_again}
use Rattle.uss_wire_words.specs.References.{front_at, back_at, answered_reference_at, references_at}
use Rattle.uss_wire_words.specs.ReferenceWriting.{reference_json, notified_json, subscriber_json}
use Rattle.uss_wire_words.proofs.ReferencesAgain.{base_again, name_again, ovn_again, identifier_again, state_again}
use Rattle.uss_wire_dss.specs.declared.errors.ErrorBody.{ErrorBody}
use Rattle.uss_wire_dss.specs.ChangesAndErrors.{flatten, notified_at, subscriber_at, subscribers_at, change_answer_at, error_at}
use Rattle.uss_wire_dss.specs.ReplyWriting.{change_answer_json, error_json, ShowsOvn, IsReadable, IsReadableSubscriber, IsReadableError}

below_true : (n limit : ℕ) → n < limit → nat_lt n limit ≡ true
below_true n limit h = grind (arith, nat_tests)

le_true : (m n : ℕ) → m ≤ n → nat_le m n ≡ true
le_true m n h = grind (arith, nat_tests)

-- the reference with another OVN, and its value
abbrev with_other : Reference → Option (List ℕ) → Reference
with_other r o =
    record { flight = r.flight; manager = r.manager; version = r.version; state = r.state; ovn = o; start = r.start; end = r.end; base = r.base; ticket = r.ticket }

chosen : {A : Type 0} (b : Bool) (x y z : A) → x ≡ z → y ≡ z → (if b then x else y) ≡ z
chosen true x y z p q = p
chosen false x y z p q = q

again_by : (client : List ℕ) (place : Member) (r : Reference) (o : Option (List ℕ)) → ShowsOvn client r.manager o → IsReadable client r → answered_reference_at client place (reference_json (with_other r o)) ≡ Ok (with_other r o)
unfolding answered_reference_at front_at back_at reference_json name
again_by client place r None shows h =
    rw (
      identifier_again _ r.flight h.flight,
      name_again _ r.manager h.manager,
      below_true r.version (2 ^ 32) h.version,
      state_again _ r.state,
      chosen {A = Result (Option (List ℕ)) WireRefusal} (bytes_eq r.manager client) (Ok None) (Ok None) (Ok None) refl refl,
      time_again _ r.start h.start,
      time_again _ r.end h.end,
      base_again _ r.base h.base,
      identifier_again _ r.ticket h.ticket,
    ) refl
again_by client place r (Some ovn) shows h =
    rw (
      identifier_again _ r.flight h.flight,
      name_again _ r.manager h.manager,
      below_true r.version (2 ^ 32) h.version,
      state_again _ r.state,
      shows.0,
      ovn_again _ ovn shows.1,
      time_again _ r.start h.start,
      time_again _ r.end h.end,
      base_again _ r.base h.base,
      identifier_again _ r.ticket h.ticket,
    ) refl

pub reference_again : (client : List ℕ) (place : Member) (r : Reference) → IsReadable client r → answered_reference_at client place (reference_json r) ≡ Ok r
reference_again client place r h = again_by client place r r.ovn h.ovn h

pub references_again : (client : List ℕ) (m : Member) (rs : List Reference) → AllOf (IsReadable client) rs → length rs ≤ most_references → references_at client m (list_json reference_json rs) ≡ Ok rs
unfolding references_at
references_again client m rs all few =
    rw (list_length reference_json rs, le_true (length rs) most_references few) (list_again reference_json (answered_reference_at client m) (IsReadable client) (reference_again client m) rs all)

-- ---- those that are to be notified
notified_again : (place : Member) (s : Subscriber) → s.ticket < 2 ^ 128 → notified_at place (notified_json s) ≡ Ok (record { ticket = s.ticket; index = s.index })
unfolding notified_at notified_json name
notified_again place s h = rw (identifier_again _ s.ticket h) refl

subscriber_again : (place : Member) (s : Subscriber) → IsReadableSubscriber s → subscriber_at place (subscriber_json s) ≡ Ok (s ∷ [])
unfolding subscriber_at subscriber_json name
subscriber_again place s h = rw (notified_again _ s h.ticket, base_again _ s.base h.base) refl

abbrev alone : Subscriber → List Subscriber
alone s = s ∷ []

each_alone : (m : Member) (ss : List Subscriber) → AllOf IsReadableSubscriber ss → each (subscriber_at m) (items_of (map subscriber_json ss)) ≡ Ok (map alone ss)
each_alone m [] all = refl
each_alone m (s ∷ ss) all =
    ap (λ r. r >>= λ y. each (subscriber_at m) (items_of (map subscriber_json ss)) >>= λ ys. Ok (y ∷ ys)) (subscriber_again m s all.0) ∙ ap (λ r. r >>= λ ys. Ok (alone s ∷ ys)) (each_alone m ss all.1)

flatten_alone : (ss : List Subscriber) → flatten (map alone ss) ≡ ss
flatten_alone [] = refl
flatten_alone (s ∷ ss) = ap (λ (rest : List Subscriber). s ∷ rest) (flatten_alone ss)

subscribers_again : (m : Member) (ss : List Subscriber) → AllOf IsReadableSubscriber ss → length ss ≤ most_tickets → subscribers_at m (list_json subscriber_json ss) ≡ Ok ss
unfolding subscribers_at
subscribers_again m ss all few =
    rw (list_length subscriber_json ss, le_true (length ss) most_tickets few, each_alone m ss all, flatten_alone ss, le_true (length ss) most_tickets few) refl

pub change_again : (client : List ℕ) (r : Reference) (ss : List Subscriber) → IsReadable client r → AllOf IsReadableSubscriber ss → length ss ≤ most_tickets → change_answer_at client Whole (change_answer_json r ss) ≡ Ok (r, ss)
unfolding change_answer_at change_answer_json name
change_again client r ss h all few = rw (subscribers_again _ ss all few, reference_again client _ r h) refl

-- ---- errors
other_number : (n : ℕ) → (n == 209) ≡ false → n ≢ 209
other_number n h = λ same. grind (arith, nat_tests)

error_with : (client : List ℕ) (e : ErrorBody) (b : Bool) → (e.refusal == 209) ≡ b → IsReadableError client e → error_at client Whole (error_json e) ≡ Ok e
unfolding error_at error_json name
error_with client e true is h = rw (is, below_true e.refusal (2 ^ 16) h.refusal, is, references_again client _ e.missing h.each h.few) refl
error_with client e false is h =
    rw (is, below_true e.refusal (2 ^ 16) h.refusal, is) (ap (λ (missing : List Reference). Ok (record { message = e.message; refusal = e.refusal; missing = missing })) (sym (h.only (other_number e.refusal is))))

pub error_again : (client : List ℕ) (e : ErrorBody) → IsReadableError client e → error_at client Whole (error_json e) ≡ Ok e
error_again client e h = error_with client e (e.refusal == 209) refl h
