-- An operator's cancels and sweeps, as they are read and as they are written. This project's own.
use Rattle.std.specs.Prelude.{ℕ, codes, Ok}
use Rattle.serde_json.specs.Data.{Data, object, member, no_members, number, unsigned}
use Rattle.uss_wire_base.specs.declared.refusal.Member.TheVariants as Member
use Rattle.uss_wire_base.specs.Reading.{◌>>=◌, Reader, object_at, field, natural_at}

-- the cancelling of a request, by the numbers of its flight and of the request
unfoldable pub cancels_at : Reader (ℕ × ℕ)
cancels_at place d = do
  _ ← object_at place d
  flight ← field Member.Flight natural_at d
  request ← field Member.Number natural_at d
  Ok (flight, request)

-- how many of those owed a sweep leaves out
unfoldable pub sweeps_at : Reader ℕ
sweeps_at place d = do
  _ ← object_at place d
  field Member.Skip natural_at d

unfoldable pub cancels_json : ℕ → ℕ → Data
cancels_json flight request = object (member (codes "flight") (number (unsigned flight)) (member (codes "number") (number (unsigned request)) no_members))

unfoldable pub sweeps_json : ℕ → Data
sweeps_json skip = object (member (codes "skip") (number (unsigned skip)) no_members)
