-- How references are read (OperationalIntentReference of the OpenAPI annex of ASTM F3548-21), in the order of their members.
use Rattle.std.specs.Prelude.{ℕ, ◌^◌, List, Option, Some, None, Result, Ok, bytes_eq, if◌then◌else◌}
use Rattle.serde_json.specs.Data.{Data}
use Rattle.uss_intent.specs.declared.records.Reference.{Reference}
use Rattle.uss_intent.specs.Limits.{most_references}
use Rattle.uss_wire_base.specs.declared.refusal.Member.TheVariants as Member
use Rattle.uss_wire_base.specs.declared.refusal.WireRefusal.{WireRefusal}
use Rattle.uss_wire_base.specs.Reading.{◌>>=◌, Reader, object_at, field, optional, natural_below, text_at, few_at}
use Rattle.uss_wire_words.specs.Volumes.{time_at}
use Rattle.uss_wire_words.specs.declared.references.Front.{Front}
use Rattle.uss_wire_words.specs.declared.references.Back.{Back}
use Rattle.uss_wire_words.specs.Texts.{name_at, base_at, ovn_at, state_at, identifier_at}

-- any text, of which nothing is kept
abbrev pub no_ovn : Option (List ℕ) → Option (List ℕ)
no_ovn text = None

abbrev pub dropped_ovn : Data → Result (Option (List ℕ)) WireRefusal
dropped_ovn d = optional Member.Ovn text_at d >>= λ text. Ok (no_ovn text)

-- the OVN of a reference in an answer of the discovery service: that of another client's reference is any text, and is dropped
abbrev pub ovn_for : List ℕ → List ℕ → Data → Result (Option (List ℕ)) WireRefusal
ovn_for client manager d = if bytes_eq manager client then optional Member.Ovn ovn_at d else dropped_ovn d

-- the members before the OVN
unfoldable pub front_at : Reader Front
front_at place d = do
  _ ← object_at place d
  flight ← field Member.Id identifier_at d
  manager ← field Member.Manager name_at d
  version ← field Member.Version (natural_below (2 ^ 32)) d
  state ← field Member.State state_at d
  Ok (record { flight = flight; manager = manager; version = version; state = state })

-- the members after the OVN
unfoldable pub back_at : Data → Result Back WireRefusal
back_at d = do
  start ← field Member.TimeStart time_at d
  end ← field Member.TimeEnd time_at d
  base ← field Member.UssBaseUrl base_at d
  ticket ← field Member.SubscriptionId identifier_at d
  Ok (record { start = start; end = end; base = base; ticket = ticket })

abbrev pub joined : Front → Option (List ℕ) → Back → Reference
joined f ovn b =
    record { flight = f.flight; manager = f.manager; version = f.version; state = f.state; ovn = ovn; start = b.start; end = b.end; base = b.base; ticket = b.ticket }

-- a reference in an answer of the discovery service to this client
unfoldable pub answered_reference_at : List ℕ → Reader Reference
answered_reference_at client place d = do
  front ← front_at place d
  ovn ← ovn_for client front.manager d
  back ← back_at d
  Ok (joined front ovn back)

-- the reference of an intent, which shows its OVN
unfoldable pub intent_reference_at : Reader Reference
intent_reference_at place d = do
  front ← front_at place d
  ovn ← field Member.Ovn ovn_at d
  back ← back_at d
  Ok (joined front (Some ovn) back)

-- references in an answer to this client: no more than the service keeps
unfoldable pub references_at : List ℕ → Reader (List Reference)
references_at client m d = few_at most_references (answered_reference_at client) m d
