-- Instants in messages: texts.
use Rattle.std.specs.Prelude.{ℤ, Result, Ok, Err}
use Rattle.serde_json.specs.Data.{Data, string}
use Rattle.uss_wire_base.specs.declared.refusal.Member.{Member}
use Rattle.uss_wire_base.specs.declared.refusal.WireRefusal.{WireRefusal}
use Rattle.uss_wire_base.specs.declared.refusal.WireRefusal.TheVariants as Wire
use Rattle.uss_wire_base.specs.declared.instants.InstantRefusal.{InstantRefusal}
use Rattle.uss_wire_base.specs.declared.instants.InstantRefusal.TheVariants as Instant
use Rattle.uss_wire_base.specs.Reading.{◌>>=◌, Reader, text_at}
use Rattle.uss_wire_base.specs.InstantText.{read_instant, instant_text}

abbrev pub refusal_at : Member → InstantRefusal → WireRefusal
refusal_at m Instant.BadTime = Wire.BadTime m
refusal_at m Instant.TimeRange = Wire.TimeRange
refusal_at m Instant.Memory = Wire.Memory

abbrev pub moment_at : Member → Result ℤ InstantRefusal → Result ℤ WireRefusal
moment_at m (Ok moment) = Ok moment
moment_at m (Err e) = Err (refusal_at m e)

-- a text that is an instant
abbrev pub instant_at : Reader ℤ
instant_at m d = text_at m d >>= λ text. moment_at m (read_instant text)

abbrev pub instant_json : ℤ → Data
instant_json moment = string (instant_text moment)
