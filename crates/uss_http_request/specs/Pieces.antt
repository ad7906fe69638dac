-- What a look at bytes shows of a piece of a message: a head, a line. This project's own.
use Rattle.std.specs.Prelude.{ℕ}
use Rattle.uss_http_request.specs.declared.piece.Look.{Look}
use Rattle.uss_http_request.specs.declared.piece.Look.TheVariants as look

-- 16 KiB, within which a head, a line before a chunk and the fields after the last chunk have to end
abbrev pub piece_limit : ℕ
piece_limit = 16384

-- a fact for each thing that a look shows
abbrev pub MatchLook : {F : Type 0} → Look F → (whole : F → Type 0) → (not_yet never : Type 0) → Type 0
MatchLook (look.Whole found) P Q R = P found
MatchLook look.NotYet P Q R = Q
MatchLook look.Never P Q R = R
