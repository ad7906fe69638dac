-- What a reader gives of intents, notifications and requests is readable.
use Rattle.std.proofs.Common.{◌≡◌, ◌^◌, ℕ, ◌<◌, Bool, true, false, not, List, [], Some, None, Ok, Err, refl, sym, ◌∙◌}
use Rattle.std.specs.Prelude.{Option, is_some, is_none, bytes_eq, codes, if◌then◌else◌}
use Rattle.serde_json.specs.Data.{Data}
use Rattle.uss_vol4.specs.Volume.{Volume4D, IsVolume}
use Rattle.uss_intent.specs.Texts.{IsName, IsBase, IsOvn}
use Rattle.uss_intent.specs.declared.records.State.{State}
use Rattle.uss_intent.specs.declared.records.Reference.{Reference}
use Rattle.uss_event.specs.declared.details.Details.{Details}
use Rattle.uss_event.specs.declared.details.Proposal.{Proposal}
use Rattle.uss_event.specs.declared.asks.Wish.{Wish}
use Rattle.uss_event.specs.declared.asks.Wish.TheVariants.{End}
use Rattle.uss_event.specs.declared.asks.FlightAsk.{FlightAsk}
use Rattle.uss_event.specs.declared.asks.PositionAsk.{PositionAsk}
use Rattle.uss_event.specs.declared.refusals.DetailsRefusal.{DetailsRefusal}
use Rattle.uss_event.specs.Plans.{is_plan, extents_of, is_least_start, is_greatest_end}
use Rattle.uss_event.specs.Pairs.{OperationalIntent, is_pair}
use Rattle.uss_event.specs.Refusals.{refusal_of, unless_refused}
use Rattle.uss_event.proofs.Accepted.{plan_unless_refused}
use Rattle.uss_wire_base.specs.declared.refusal.Member.{Member}
use Rattle.uss_wire_base.specs.declared.refusal.WireRefusal.TheVariants.{WrongKind}
use Rattle.uss_vol4.specs.Ranges.{is_instant}
use Rattle.uss_wire_base.specs.Reading.{◌>>=◌, object_at, field, field_or, optional, integer_at, natural_at, natural_below, text_at, list_at, one_at}
use Rattle.uss_wire_base.specs.Writing.{AllOf}
use Rattle.uss_wire_words.specs.Volumes.{volume_at}
use Rattle.uss_wire_words.specs.Texts.{ovn_at, state_at, identifier_at}
use Rattle.uss_wire_words.specs.References.{front_at, back_at, joined, intent_reference_at}
use Rattle.uss_wire_uss.specs.Intents.{volumes_at, details_at, accepted, timed, intent_of, intent_at, details_answer_at, notified_at, notification_at}
use Rattle.uss_wire_uss.specs.Asks.{proposal_at, put_at, wish_by, wish_at, asks_at, positions_at}
use Rattle.uss_wire_uss.specs.Writing.{ShowsOvn, IsReadable, IsReadableIfAny, IsReadableNote, IsReadableProposal, IsReadableWish}
use Rattle.uss_law_wire.proofs.Yields.{Yields, after, behind, in_field, in_field_or, IfAny, in_optional, IsBelow, natural_small, in_list, in_one}
use Rattle.uss_law_wire.proofs.Volumes.{volume_given}
use Rattle.uss_law_wire.proofs.References.{KeepsFront, KeepsBack, front_given, back_given, ovn_given, IsIdentifier, identifier_given}

volumes_given : (m : Member) (d : Data) → Yields (AllOf IsVolume) (volumes_at m d)
volumes_given m d = in_list IsVolume m volume_at (volume_given m) d

-- ---- references
record IsShown (r : Reference) : Type 0 where
  flight : r.flight < 2 ^ 128
  manager : IsName r.manager
  version : r.version < 2 ^ 32
  ovn : ShowsOvn r.ovn
  start : is_instant r.start ≡ true
  end : is_instant r.end ≡ true
  base : IsBase r.base
  ticket : r.ticket < 2 ^ 128

shown_given : (place : Member) (d : Data) → Yields IsShown (intent_reference_at place d)
unfolding intent_reference_at
shown_given place d =
    after (KeepsFront joined) IsShown (front_at place d) _ (front_given place d)
    (λ f keeps. after IsOvn IsShown (field Member.Ovn ovn_at d) _ (in_field IsOvn Member.Ovn ovn_at (ovn_given Member.Ovn) d)
    (λ (o : List ℕ) ovn. after (KeepsBack joined) IsShown (back_at d) _ (back_given d)
    (λ b back. record { flight = (keeps (Some o) b).flight; manager = (keeps (Some o) b).manager; version = (keeps (Some o) b).version; ovn = ovn; start = (back f (Some o)).start; end = (back f (Some o)).end; base = (back f (Some o)).base; ticket = (back f (Some o)).ticket })))

-- ---- details and intents
record HasVolumes (d : Details) : Type 0 where
  volumes : AllOf IsVolume d.volumes
  off_nominal : AllOf IsVolume d.off_nominal

details_given : (place : Member) (d : Data) → Yields HasVolumes (details_at place d)
unfolding details_at
details_given place d =
    behind HasVolumes (object_at place d) _ (λ u. after (AllOf IsVolume) HasVolumes (field Member.Volumes volumes_at d) _ (in_field (AllOf IsVolume) Member.Volumes volumes_at (volumes_given Member.Volumes) d)
    (λ (vs : List Volume4D) volumes. after (AllOf IsVolume) HasVolumes (field_or [] Member.OffNominalVolumes volumes_at d) _ (in_field_or (AllOf IsVolume) [] Member.OffNominalVolumes volumes_at tt (volumes_given Member.OffNominalVolumes) d)
    (λ (os : List Volume4D) off_nominal. behind HasVolumes (field_or 0 Member.Priority (natural_below (2 ^ 16)) d) _ (λ priority. record { volumes = volumes; off_nominal = off_nominal }))))

shows_some : (o : Option (List ℕ)) → ShowsOvn o → is_some o ≡ true
shows_some None h = absurd h
shows_some (Some ovn) h = refl

none_refuses : (o : Option DetailsRefusal) → o ≡ None → is_none o ≡ true
none_refuses o h = rw h refl

plan_from : (state : State) (vs os : List Volume4D) (priority : ℕ) → refusal_of state vs os priority ≡ None → is_plan state vs os priority ≡ true
plan_from state vs os priority h = sym (plan_unless_refused state vs os priority) ∙ none_refuses (refusal_of state vs os priority) h

pair_true : (r : Reference) (d : Details) → is_some r.ovn ≡ true → is_plan r.state d.volumes d.off_nominal d.priority ≡ true → is_least_start r.start (extents_of d) ≡ true → is_greatest_end r.end (extents_of d) ≡ true → is_pair r d ≡ true
unfolding is_pair
pair_true r d shown plan start end = rw (shown, plan, start, end) refl

abbrev pair_of : Reference → Details → OperationalIntent
pair_of r d = record { reference = r; details = d }

timed_with : (r : Reference) (d : Details) (s e : Bool) → is_least_start r.start (extents_of d) ≡ s → is_greatest_end r.end (extents_of d) ≡ e → IsShown r → HasVolumes d → is_plan r.state d.volumes d.off_nominal d.priority ≡ true → Yields IsReadable (if not s then Err (WrongKind Member.TimeStart) else if not e then Err (WrongKind Member.TimeEnd) else Ok (pair_of r d))
timed_with r d false e start end shown volumes plan = tt
timed_with r d true false start end shown volumes plan = tt
timed_with r d true true start end shown volumes plan = record {
  flight = shown.flight;
  manager = shown.manager;
  version = shown.version;
  ovn = shown.ovn;
  start = shown.start;
  end = shown.end;
  base = shown.base;
  ticket = shown.ticket;
  volumes = volumes.volumes;
  off_nominal = volumes.off_nominal;
  fits = pair_true r d (shows_some r.ovn shown.ovn) plan start end;
}

intent_with : (r : Reference) (d : Details) (o : Option DetailsRefusal) → refusal_of r.state d.volumes d.off_nominal d.priority ≡ o → IsShown r → HasVolumes d → Yields IsReadable (accepted (unless_refused o d) >>= timed r)
intent_with r d None h shown volumes =
    timed_with r d (is_least_start r.start (extents_of d)) (is_greatest_end r.end (extents_of d)) refl refl shown volumes (plan_from r.state d.volumes d.off_nominal d.priority h)
intent_with r d (Some refusal) h shown volumes = tt

intent_of_given : (r : Reference) (d : Details) → IsShown r → HasVolumes d → Yields IsReadable (intent_of r d)
unfolding intent_of
intent_of_given r d shown volumes = intent_with r d (refusal_of r.state d.volumes d.off_nominal d.priority) refl shown volumes

intent_given : (place : Member) (d : Data) → Yields IsReadable (intent_at place d)
unfolding intent_at
intent_given place d =
    behind IsReadable (object_at place d) _ (λ u. after IsShown IsReadable (field Member.Reference intent_reference_at d) _ (in_field IsShown Member.Reference intent_reference_at (shown_given Member.Reference) d)
    (λ (r : Reference) shown. after HasVolumes IsReadable (field Member.Details details_at d) (λ details. intent_of r details) (in_field HasVolumes Member.Details details_at (details_given Member.Details) d)
    (λ (details : Details) volumes. intent_of_given r details shown volumes)))

pub details_answer_given : (d : Data) → Yields IsReadable (details_answer_at Member.Whole d)
unfolding details_answer_at
details_answer_given d = behind IsReadable (object_at Member.Whole d) _ (λ u. in_field IsReadable Member.OperationalIntent intent_at (intent_given Member.OperationalIntent) d)

-- ---- notifications
abbrev IsNotified : ℕ × ℕ → Type 0
IsNotified notified = notified.0 < 2 ^ 128

notified_given : (place : Member) (d : Data) → Yields IsNotified (notified_at place d)
unfolding notified_at
notified_given place d =
    behind IsNotified (object_at place d) _ (λ u. after IsIdentifier IsNotified (field Member.SubscriptionId identifier_at d) _ (in_field IsIdentifier Member.SubscriptionId identifier_at (identifier_given Member.SubscriptionId) d)
    (λ (id : ℕ) ticket. behind IsNotified (field Member.NotificationIndex natural_at d) _ (λ index. ticket)))

if_any : (o : Option OperationalIntent) → IfAny IsReadable o → IsReadableIfAny o
if_any None h = tt
if_any (Some p) h = h

pub notification_given : (d : Data) → Yields IsReadableNote (notification_at Member.Whole d)
unfolding notification_at
notification_given d =
    behind IsReadableNote (object_at Member.Whole d) _ (λ u. after IsIdentifier IsReadableNote (field Member.OperationalIntentId identifier_at d) _ (in_field IsIdentifier Member.OperationalIntentId identifier_at (identifier_given Member.OperationalIntentId) d)
    (λ (flight : ℕ) id. after (IfAny IsReadable) IsReadableNote (optional Member.OperationalIntent intent_at d) _ (in_optional IsReadable Member.OperationalIntent intent_at (intent_given Member.OperationalIntent) d)
    (λ (pair : Option OperationalIntent) readable. after IsNotified IsReadableNote (field Member.Subscriptions (one_at notified_at) d) _ (in_field IsNotified Member.Subscriptions (one_at notified_at) (in_one IsNotified Member.Subscriptions notified_at (notified_given Member.Subscriptions)) d)
    (λ (notified : ℕ × ℕ) ticket. record { flight = id; pair = if_any pair readable; ticket = ticket }))))

-- ---- requests and positions
proposal_given : (place : Member) (d : Data) → Yields IsReadableProposal (proposal_at place d)
unfolding proposal_at
proposal_given place d =
    behind IsReadableProposal (object_at place d) _ (λ u. after (AllOf IsVolume) IsReadableProposal (field Member.Volumes volumes_at d) _ (in_field (AllOf IsVolume) Member.Volumes volumes_at (volumes_given Member.Volumes) d)
    (λ (vs : List Volume4D) volumes. after (AllOf IsVolume) IsReadableProposal (field_or [] Member.OffNominalVolumes volumes_at d) _ (in_field_or (AllOf IsVolume) [] Member.OffNominalVolumes volumes_at tt (volumes_given Member.OffNominalVolumes) d)
    (λ (os : List Volume4D) off_nominal. record { volumes = volumes; off_nominal = off_nominal })))

put_given : (d : Data) → Yields IsReadableWish (put_at d)
unfolding put_at
put_given d =
    behind IsReadableWish (field Member.To state_at d) _ (λ to. after (IsBelow (2 ^ 16)) IsReadableWish (field Member.Priority (natural_below (2 ^ 16)) d) _ (in_field (IsBelow (2 ^ 16)) Member.Priority (natural_below (2 ^ 16)) (natural_small (2 ^ 16) Member.Priority) d)
    (λ (priority : ℕ) low. after (IsBelow (2 ^ 8)) IsReadableWish (field Member.Rounds (natural_below (2 ^ 8)) d) _ (in_field (IsBelow (2 ^ 8)) Member.Rounds (natural_below (2 ^ 8)) (natural_small (2 ^ 8) Member.Rounds) d)
    (λ (rounds : ℕ) few. after (AllOf IsReadableProposal) IsReadableWish (field Member.Alternatives (list_at proposal_at) d) _ (in_field (AllOf IsReadableProposal) Member.Alternatives (list_at proposal_at) (in_list IsReadableProposal Member.Alternatives proposal_at (proposal_given Member.Alternatives)) d)
    (λ (proposals : List Proposal) all. (low, few, all)))))

wish_with : (put end : Bool) (d : Data) → Yields IsReadableWish (if put then put_at d else if end then Ok End else Err (WrongKind Member.Wish))
wish_with true end d = put_given d
wish_with false true d = tt
wish_with false false d = tt

wish_given : (d : Data) → Yields IsReadableWish (wish_at d)
wish_given d = behind IsReadableWish (field Member.Wish text_at d) (λ word. wish_by word d) (λ word. wish_with (bytes_eq word (codes "put")) (bytes_eq word (codes "end")) d)

abbrev pub IsReadableAsk : FlightAsk → Type 0
IsReadableAsk a = IsReadableWish a.wish

pub asks_given : (d : Data) → Yields IsReadableAsk (asks_at Member.Whole d)
unfolding asks_at
asks_given d =
    behind IsReadableAsk (object_at Member.Whole d) _ (λ u. behind IsReadableAsk (field Member.Flight natural_at d) _ (λ flight. behind IsReadableAsk (field Member.Number natural_at d) _ (λ number. after IsReadableWish IsReadableAsk (wish_at d) _ (wish_given d) (λ (w : Wish) wish. wish))))

abbrev pub HasOffNominal : PositionAsk → Type 0
HasOffNominal p = AllOf IsVolume p.off_nominal

pub positions_given : (d : Data) → Yields HasOffNominal (positions_at Member.Whole d)
unfolding positions_at
positions_given d =
    behind HasOffNominal (object_at Member.Whole d) _ (λ u. behind HasOffNominal (field Member.Flight natural_at d) _ (λ flight. behind HasOffNominal (field Member.Number natural_at d) _ (λ number. behind HasOffNominal (field Member.LatE7 integer_at d) _ (λ lat. behind HasOffNominal (field Member.LngE7 integer_at d) _ (λ lng. behind HasOffNominal (field Member.AltitudeMm integer_at d) _ (λ altitude. after (AllOf IsVolume) HasOffNominal (field Member.OffNominalVolumes volumes_at d) _ (in_field (AllOf IsVolume) Member.OffNominalVolumes volumes_at (volumes_given Member.OffNominalVolumes) d)
    (λ (os : List Volume4D) all. all)))))))
