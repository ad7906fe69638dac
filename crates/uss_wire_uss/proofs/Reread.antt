-- What is written is read again.
use Rattle.std.proofs.Common.{◌≡◌, ◌^◌, ℕ, ◌<◌, true, List, Some, None, Ok, refl, ap, ◌∙◌, arith}
use Rattle.std.specs.Prelude.{Option, nat_lt, is_some, is_none, map}
use Rattle.std.proofs.lemmas.Bool.{and_parts}
use Rattle.std.proofs.lemmas.Bool.Decides.{nat_tests}
use Rattle.serde_json.specs.Data.{object}
use Rattle.serde_json.specs.View.{items_of}
use Rattle.uss_vol4.specs.Volume.{Volume4D, IsVolume}
use Rattle.uss_intent.specs.declared.records.Reference.{Reference}
use Rattle.uss_intent.specs.declared.records.State.{State}
use Rattle.uss_event.specs.declared.calls.Note.{Note}
use Rattle.uss_event.specs.declared.details.Details.{Details}
use Rattle.uss_event.specs.declared.details.Proposal.{Proposal}
use Rattle.uss_event.specs.declared.asks.Wish.{Wish}
use Rattle.uss_event.specs.declared.asks.Wish.TheVariants.{Put, End}
use Rattle.uss_event.specs.declared.asks.FlightAsk.{FlightAsk}
use Rattle.uss_event.specs.declared.asks.PositionAsk.{PositionAsk}
use Rattle.uss_event.specs.declared.refusals.DetailsRefusal.{DetailsRefusal}
use Rattle.uss_event.specs.Plans.{is_plan, extents_of, is_least_start, is_greatest_end}
use Rattle.uss_event.specs.Pairs.{OperationalIntent, is_pair}
use Rattle.uss_event.specs.Refusals.{refusal_of, unless_refused}
use Rattle.uss_event.proofs.Accepted.{plan_unless_refused}
use Rattle.uss_wire_base.specs.Names.{name}
use Rattle.uss_wire_base.specs.declared.refusal.Member.{Member}
use Rattle.uss_wire_base.specs.declared.refusal.Member.TheVariants.{Whole, Volumes, OffNominalVolumes, Alternatives}
use Rattle.uss_wire_base.specs.Reading.{◌>>=◌, each}
use Rattle.uss_wire_base.specs.Writing.{AllOf}
use Rattle.uss_wire_base.proofs.Again.{integer_again, list_again}
use Rattle.uss_wire_words.specs.Volumes.{volume_at}
use Rattle.uss_wire_words.specs.VolumeWriting.{volume_json}
use Rattle.uss_wire_words.proofs.VolumesAgain.{volume_again, time_again}
use Rattle.uss_wire_words.specs.References.{front_at, back_at, intent_reference_at}
use Rattle.uss_wire_words.specs.ReferenceWriting.{reference_json}
use Rattle.uss_wire_words.proofs.ReferencesAgain.{base_again, name_again, ovn_again, identifier_again, state_again}
use Rattle.uss_wire_uss.specs.Intents.{details_at, accepted, timed, intent_of, intent_at, details_answer_at, notified_at, notification_at}
use Rattle.uss_wire_uss.specs.Asks.{proposal_at, put_at, asks_at, positions_at}
use Rattle.uss_wire_uss.specs.Writing.{details_json, intent_json, details_answer_json, notified_json, with_intent, behind_intent, notification_json, proposal_json, ask_members, asks_json, positions_json, ShowsOvn, IsReadable, IsReadableIfAny, IsReadableNote, IsReadableProposal, IsReadableWish, IsReadablePosition}

below_true : (n limit : ℕ) → n < limit → nat_lt n limit ≡ true
below_true n limit h = grind (arith, nat_tests)

each_again : (m : Member) (vs : List Volume4D) → AllOf IsVolume vs → each (volume_at m) (items_of (map volume_json vs)) ≡ Ok vs
each_again m vs h = list_again volume_json (volume_at m) IsVolume (volume_again m) vs h

-- ---- references

-- the reference with another OVN
abbrev with_other : Reference → Option (List ℕ) → Reference
with_other r o =
    record { flight = r.flight; manager = r.manager; version = r.version; state = r.state; ovn = o; start = r.start; end = r.end; base = r.base; ticket = r.ticket }

reference_with : (place : Member) (p : OperationalIntent) (o : Option (List ℕ)) → ShowsOvn o → IsReadable p → intent_reference_at place (reference_json (with_other p.reference o)) ≡ Ok (with_other p.reference o)
unfolding intent_reference_at front_at back_at reference_json name
reference_with place p None shows h = absurd shows
reference_with place p (Some ovn) shows h =
    rw (
      identifier_again _ p.reference.flight h.flight,
      name_again _ p.reference.manager h.manager,
      below_true p.reference.version (2 ^ 32) h.version,
      state_again _ p.reference.state,
      ovn_again _ ovn shows,
      time_again _ p.reference.start h.start,
      time_again _ p.reference.end h.end,
      base_again _ p.reference.base h.base,
      identifier_again _ p.reference.ticket h.ticket,
    ) refl

reference_again : (place : Member) (p : OperationalIntent) → IsReadable p → intent_reference_at place (reference_json p.reference) ≡ Ok p.reference
reference_again place p h = reference_with place p p.reference.ovn h.ovn h

-- ---- details and intents
none_from : {A : Type 0} (o : Option A) → is_none o ≡ true → o ≡ None
none_from None h = refl
none_from (Some x) h = absurd (grind (arith, h))

refused_nowhere : (state : State) (vs os : List Volume4D) (priority : ℕ) → is_plan state vs os priority ≡ true → refusal_of state vs os priority ≡ None
refused_nowhere state vs os priority h = none_from (refusal_of state vs os priority) (plan_unless_refused state vs os priority ∙ h)

priority_small : (state : State) (vs os : List Volume4D) (priority : ℕ) → is_plan state vs os priority ≡ true → priority < 2 ^ 16
unfolding is_plan
priority_small state vs os priority h = grind (arith, nat_tests)

-- the parts of a pair that fits
record Fits (p : OperationalIntent) : Type 0 where
  plan : is_plan p.reference.state p.details.volumes p.details.off_nominal p.details.priority ≡ true
  start : is_least_start p.reference.start (extents_of p.details) ≡ true
  end : is_greatest_end p.reference.end (extents_of p.details) ≡ true

fits_from : (p : OperationalIntent) → is_pair p.reference p.details ≡ true → Fits p
unfolding is_pair
fits_from p h =
    let behind = and_parts (is_some p.reference.ovn) _ h in
    let plan = and_parts (is_plan p.reference.state p.details.volumes p.details.off_nominal p.details.priority) _ behind.1 in
    let times = and_parts (is_least_start p.reference.start (extents_of p.details)) (is_greatest_end p.reference.end (extents_of p.details)) plan.1 in
    record { plan = plan.0; start = times.0; end = times.1 }

timed_again : (p : OperationalIntent) → Fits p → timed p.reference p.details ≡ Ok p
timed_again p h = rw (h.start, h.end) refl

intent_of_again : (p : OperationalIntent) → Fits p → intent_of p.reference p.details ≡ Ok p
unfolding intent_of
intent_of_again p h =
    ap (λ (refusal : Option DetailsRefusal). accepted (unless_refused refusal p.details) >>= timed p.reference) (refused_nowhere p.reference.state p.details.volumes p.details.off_nominal p.details.priority h.plan)
    ∙ timed_again p h

details_again : (place : Member) (d : Details) → AllOf IsVolume d.volumes → AllOf IsVolume d.off_nominal → d.priority < 2 ^ 16 → details_at place (details_json d) ≡ Ok d
unfolding details_at details_json name
details_again place d vs os small = rw (each_again Volumes d.volumes vs, each_again OffNominalVolumes d.off_nominal os, below_true d.priority (2 ^ 16) small) refl

intent_again : (place : Member) (p : OperationalIntent) → IsReadable p → intent_at place (intent_json p) ≡ Ok p
unfolding intent_at intent_json name
intent_again place p h =
    let fits = fits_from p h.fits in
    let small = priority_small p.reference.state p.details.volumes p.details.off_nominal p.details.priority fits.plan in
    rw (reference_again _ p h, details_again _ p.details h.volumes h.off_nominal small, intent_of_again p fits) refl

pub details_answer_again : (p : OperationalIntent) → IsReadable p → details_answer_at Whole (details_answer_json p) ≡ Ok p
unfolding details_answer_at details_answer_json name
details_answer_again p h = intent_again _ p h

-- ---- notifications
notified_again : (place : Member) (ticket index : ℕ) → ticket < 2 ^ 128 → notified_at place (notified_json ticket index) ≡ Ok (ticket, index)
unfolding notified_at notified_json name
notified_again place ticket index h = rw (identifier_again _ ticket h) refl

notification_with : (n : Note) (pair : Option OperationalIntent) → IsReadableIfAny pair → IsReadableNote n → notification_at Whole (object (with_intent pair (behind_intent n))) ≡ Ok (record { flight = n.flight; pair = pair; ticket = n.ticket; index = n.index })
unfolding notification_at name
notification_with n None readable h = rw (identifier_again _ n.flight h.flight, notified_again _ n.ticket n.index h.ticket) refl
notification_with n (Some p) readable h = rw (identifier_again _ n.flight h.flight, intent_again _ p readable, notified_again _ n.ticket n.index h.ticket) refl

pub notification_again : (n : Note) → IsReadableNote n → notification_at Whole (notification_json n) ≡ Ok n
unfolding notification_json
notification_again n h = notification_with n n.pair h.pair h

-- ---- requests and positions
proposal_again : (place : Member) (p : Proposal) → IsReadableProposal p → proposal_at place (proposal_json p) ≡ Ok p
unfolding proposal_at proposal_json name
proposal_again place p h = rw (each_again Volumes p.volumes h.volumes, each_again OffNominalVolumes p.off_nominal h.off_nominal) refl

asks_with : (flight request : ℕ) (w : Wish) → IsReadableWish w → asks_at Whole (object (ask_members flight request w)) ≡ Ok (record { flight = flight; number = request; wish = w })
unfolding asks_at put_at name
asks_with flight request End h = refl
asks_with flight request (Put to priority rounds proposals) h =
    rw (state_again _ to, below_true priority (2 ^ 16) h.0, below_true rounds (2 ^ 8) h.1, list_again proposal_json (proposal_at Alternatives) IsReadableProposal (proposal_again Alternatives) proposals h.2) refl

pub asks_again : (a : FlightAsk) → IsReadableWish a.wish → asks_at Whole (asks_json a) ≡ Ok a
unfolding asks_json
asks_again a h = asks_with a.flight a.number a.wish h

pub positions_again : (p : PositionAsk) → IsReadablePosition p → positions_at Whole (positions_json p) ≡ Ok p
unfolding positions_at positions_json name
positions_again p h =
    rw (integer_again p.place.y h.y, integer_again p.place.x h.x, integer_again p.altitude h.altitude, each_again OffNominalVolumes p.off_nominal h.off_nominal) refl
