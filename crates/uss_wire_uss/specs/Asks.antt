-- How an operator's requests and positions are read. This project's own. What a plan may be isn't looked at here: the supplier's core
-- refuses that.
use Rattle.std.specs.Prelude.{ℕ, ◌^◌, List, [], bytes_eq, codes, Result, Ok, Err, if◌then◌else◌}
use Rattle.serde_json.specs.Data.{Data}
use Rattle.uss_event.specs.declared.asks.Wish.{Wish}
use Rattle.uss_event.specs.declared.asks.Wish.TheVariants.{Put, End}
use Rattle.uss_event.specs.declared.asks.FlightAsk.{FlightAsk}
use Rattle.uss_event.specs.declared.asks.PositionAsk.{PositionAsk}
use Rattle.uss_event.specs.declared.details.Proposal.{Proposal}
use Rattle.uss_wire_base.specs.declared.refusal.Member.TheVariants as Member
use Rattle.uss_wire_base.specs.declared.refusal.WireRefusal.{WireRefusal}
use Rattle.uss_wire_base.specs.declared.refusal.WireRefusal.TheVariants.{WrongKind}
use Rattle.uss_wire_base.specs.Reading.{◌>>=◌, Reader, object_at, field, field_or, integer_at, natural_at, natural_below, text_at, list_at}
use Rattle.uss_wire_words.specs.Texts.{state_at}
use Rattle.uss_wire_uss.specs.Intents.{volumes_at}

-- one alternative of a request: without off-nominal volumes there are none
unfoldable pub proposal_at : Reader Proposal
proposal_at place d = do
  _ ← object_at place d
  volumes ← field Member.Volumes volumes_at d
  off_nominal ← field_or [] Member.OffNominalVolumes volumes_at d
  Ok (record { volumes = volumes; off_nominal = off_nominal })

-- what is wanted of a flight that is to be recorded
unfoldable pub put_at : Data → Result Wish WireRefusal
put_at d = do
  to ← field Member.To state_at d
  priority ← field Member.Priority (natural_below (2 ^ 16)) d
  rounds ← field Member.Rounds (natural_below (2 ^ 8)) d
  proposals ← field Member.Alternatives (list_at proposal_at) d
  Ok (Put to priority rounds proposals)

-- the wish of this word
abbrev pub wish_by : List ℕ → Data → Result Wish WireRefusal
wish_by word d = if bytes_eq word (codes "put") then put_at d
    else if bytes_eq word (codes "end") then Ok End
    else Err (WrongKind Member.Wish)

abbrev pub wish_at : Data → Result Wish WireRefusal
wish_at d = field Member.Wish text_at d >>= λ word. wish_by word d

-- a request
unfoldable pub asks_at : Reader FlightAsk
asks_at place d = do
  _ ← object_at place d
  flight ← field Member.Flight natural_at d
  number ← field Member.Number natural_at d
  wish ← wish_at d
  Ok (record { flight = flight; number = number; wish = wish })

-- where a flight is now
unfoldable pub positions_at : Reader PositionAsk
positions_at place d = do
  _ ← object_at place d
  flight ← field Member.Flight natural_at d
  number ← field Member.Number natural_at d
  lat ← field Member.LatE7 integer_at d
  lng ← field Member.LngE7 integer_at d
  altitude ← field Member.AltitudeMm integer_at d
  off_nominal ← field Member.OffNominalVolumes volumes_at d
  Ok (record { flight = flight; number = number; place = record { x = lng; y = lat }; altitude = altitude; off_nominal = off_nominal })
