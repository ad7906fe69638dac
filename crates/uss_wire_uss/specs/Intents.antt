-- How operational intents are read, and the messages that carry them: the answer to a question for details, and the notification of a
-- change (OperationalIntent, OperationalIntentDetails, GetOperationalIntentDetailsResponse and PutOperationalIntentDetailsParameters of
-- the OpenAPI annex of ASTM F3548-21). The limits and the order of the refusals are this project's own.
use Rattle.std.specs.Prelude.{ℕ, ◌^◌, List, [], not, Result, Ok, Err, if◌then◌else◌}
use Rattle.uss_vol4.specs.Volume.{Volume4D}
use Rattle.uss_intent.specs.declared.records.State.{State}
use Rattle.uss_intent.specs.declared.records.Reference.{Reference}
use Rattle.uss_event.specs.declared.calls.Note.{Note}
use Rattle.uss_event.specs.declared.details.Details.{Details}
use Rattle.uss_event.specs.declared.refusals.DetailsRefusal.{DetailsRefusal}
use Rattle.uss_event.specs.declared.refusals.DetailsRefusal.TheVariants as Reason
use Rattle.uss_event.specs.Plans.{extents_of, is_least_start, is_greatest_end}
use Rattle.uss_event.specs.Pairs.{OperationalIntent}
use Rattle.uss_event.specs.Refusals.{details_from}
use Rattle.uss_wire_base.specs.declared.refusal.Member.TheVariants as Member
use Rattle.uss_wire_base.specs.declared.refusal.WireRefusal.{WireRefusal}
use Rattle.uss_wire_base.specs.declared.refusal.WireRefusal.TheVariants.{WrongKind, TooManyVolumes, TooManyVerticesTogether, OffNominalNotAllowed, NoVolume, PriorityRange, Memory}
use Rattle.uss_wire_base.specs.Reading.{◌>>=◌, Reader, object_at, field, field_or, optional, natural_at, natural_below, list_at, one_at}
use Rattle.uss_wire_words.specs.Volumes.{volume_at}
use Rattle.uss_wire_words.specs.Texts.{identifier_at}
use Rattle.uss_wire_words.specs.References.{intent_reference_at}

-- volumes, however many
abbrev pub volumes_at : Reader (List Volume4D)
volumes_at m d = list_at volume_at m d

-- details as they stand: without off-nominal volumes there are none, and without a priority it is 0
unfoldable pub details_at : Reader Details
details_at place d = do
  _ ← object_at place d
  volumes ← field Member.Volumes volumes_at d
  off_nominal ← field_or [] Member.OffNominalVolumes volumes_at d
  priority ← field_or 0 Member.Priority (natural_below (2 ^ 16)) d
  Ok (record { volumes = volumes; off_nominal = off_nominal; priority = priority })

-- the refusals of details, as those of a message
abbrev pub details_refusal : DetailsRefusal → WireRefusal
details_refusal Reason.TooManyVolumes = TooManyVolumes
details_refusal Reason.TooManyVerticesTogether = TooManyVerticesTogether
details_refusal Reason.OffNominalNotAllowed = OffNominalNotAllowed
details_refusal Reason.NoVolume = NoVolume
details_refusal Reason.PriorityRange = PriorityRange
details_refusal Reason.Memory = Memory

abbrev pub accepted : Result Details DetailsRefusal → Result Details WireRefusal
accepted (Ok details) = Ok details
accepted (Err refusal) = Err (details_refusal refusal)

-- the details of an intent in this state, or the first reason why they are none
abbrev pub details_in : State → Details → Result Details WireRefusal
details_in state d = accepted (details_from state d.volumes d.off_nominal d.priority)

-- the intent of a reference and details that its state allows: the times of the one must be those of the extents of the other
abbrev pub timed : Reference → Details → Result OperationalIntent WireRefusal
timed r d = if not (is_least_start r.start (extents_of d)) then Err (WrongKind Member.TimeStart)
    else if not (is_greatest_end r.end (extents_of d)) then Err (WrongKind Member.TimeEnd)
    else Ok (record { reference = r; details = d })

unfoldable pub intent_of : Reference → Details → Result OperationalIntent WireRefusal
intent_of r d = details_in r.state d >>= timed r

-- an operational intent: a reference that shows its OVN, and its details; what looks at both comes after them
unfoldable pub intent_at : Reader OperationalIntent
intent_at place d = do
  _ ← object_at place d
  reference ← field Member.Reference intent_reference_at d
  details ← field Member.Details details_at d
  intent_of reference details

-- the answer to a question for the details of a flight
unfoldable pub details_answer_at : Reader OperationalIntent
details_answer_at place d = do
  _ ← object_at place d
  field Member.OperationalIntent intent_at d

-- by which subscription one is notified of a change, and how often it was
unfoldable pub notified_at : Reader (ℕ × ℕ)
notified_at place d = do
  _ ← object_at place d
  ticket ← field Member.SubscriptionId identifier_at d
  index ← field Member.NotificationIndex natural_at d
  Ok (ticket, index)

-- the notification of a change, without an intent where the flight has ended
unfoldable pub notification_at : Reader Note
notification_at place d = do
  _ ← object_at place d
  flight ← field Member.OperationalIntentId identifier_at d
  pair ← optional Member.OperationalIntent intent_at d
  notified ← field Member.Subscriptions (one_at notified_at) d
  Ok (record { flight = flight; pair = pair; ticket = notified.0; index = notified.1 })
