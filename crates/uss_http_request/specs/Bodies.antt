-- Bodies by their framing: RFC 9112, section 6.3, with at most 8 MiB.
use Rattle.std.specs.Prelude.{◌≡◌, ℕ, ◌<◌, ◌≤◌, List, [], length, take}
use Rattle.uss_http_request.specs.declared.fields.Framing.{Framing}
use Rattle.uss_http_request.specs.declared.fields.Framing.TheVariants.{Nothing, Length, Chunked}
use Rattle.uss_http_request.specs.declared.refusal.ReadRefusal.{ReadRefusal}
use Rattle.uss_http_request.specs.declared.refusal.ReadRefusal.TheVariants as refusal
use Rattle.uss_http_request.specs.Fields.{body_limit}
use Rattle.uss_http_request.specs.Chunks.{IsChunked, StopsWhere, ChunkFault, IsTooMuch, IsCutOff}
use Rattle.uss_http_request.specs.Streams.{Passes}

-- the bytes begin with this body
abbrev pub IsBody : Framing → (bytes body : List ℕ) → Type 0
IsBody Nothing bytes body = body ≡ []
IsBody (Length n) bytes body = (n ≤ body_limit) × (n ≤ length bytes) × (body ≡ take n bytes)
IsBody Chunked bytes body = IsChunked bytes body

-- why the bytes begin with no body
abbrev pub IsRefusedBody : Framing → List ℕ → ReadRefusal → Type 0
IsRefusedBody Nothing bytes e = ⊥
IsRefusedBody (Length n) bytes refusal.BodyTooLarge = body_limit < n
IsRefusedBody (Length n) bytes refusal.Truncated = (n ≤ body_limit) × (length bytes < n)
IsRefusedBody (Length n) bytes refusal.BadChunk = ⊥
IsRefusedBody (Length n) bytes refusal.HeadTooLarge = ⊥
IsRefusedBody (Length n) bytes refusal.BadHead = ⊥
IsRefusedBody (Length n) bytes refusal.NoClient = ⊥
IsRefusedBody (Length n) bytes refusal.Fault = ⊥
IsRefusedBody (Length n) bytes refusal.Memory = ⊥
IsRefusedBody Chunked bytes refusal.BodyTooLarge = StopsWhere IsTooMuch bytes
IsRefusedBody Chunked bytes refusal.BadChunk = StopsWhere ChunkFault bytes
IsRefusedBody Chunked bytes refusal.Truncated = StopsWhere IsCutOff bytes
IsRefusedBody Chunked bytes refusal.HeadTooLarge = ⊥
IsRefusedBody Chunked bytes refusal.BadHead = ⊥
IsRefusedBody Chunked bytes refusal.NoClient = ⊥
IsRefusedBody Chunked bytes refusal.Fault = ⊥
IsRefusedBody Chunked bytes refusal.Memory = ⊥

-- a body was taken from the stream
pub record TakesBody {S : Type 0} (gave : S → S → List ℕ → Type 0) (before : S) (kept : List ℕ) (after : S) (framing : Framing) (body : List ℕ) : Type 0 where
  pub all : List ℕ
  pub passes : Passes gave before kept after all
  pub is_body : IsBody framing all body

-- what came over the stream is refused for this; a body that is cut short, at the end of the stream
pub record ShowsNoBody {S : Type 0} (gave : S → S → List ℕ → Type 0) (ended : S → Type 0) (before : S) (kept : List ℕ) (after : S) (framing : Framing) (e : ReadRefusal) : Type 0 where
  pub all : List ℕ
  pub passes : Passes gave before kept after all
  pub refused : IsRefusedBody framing all e
  pub end : e ≡ refusal.Truncated → ended after

-- the same, unless a fault or out of memory came
abbrev pub MissesBody : {S : Type 0} (gave : S → S → List ℕ → Type 0) (ended : S → Type 0) (before : S) (kept : List ℕ) (after : S) → Framing → ReadRefusal → Type 0
MissesBody gave ended before kept after framing refusal.Fault = Unit {0}
MissesBody gave ended before kept after framing refusal.Memory = Unit {0}
MissesBody gave ended before kept after framing refusal.HeadTooLarge = ShowsNoBody gave ended before kept after framing refusal.HeadTooLarge
MissesBody gave ended before kept after framing refusal.BadHead = ShowsNoBody gave ended before kept after framing refusal.BadHead
MissesBody gave ended before kept after framing refusal.Truncated = ShowsNoBody gave ended before kept after framing refusal.Truncated
MissesBody gave ended before kept after framing refusal.NoClient = ShowsNoBody gave ended before kept after framing refusal.NoClient
MissesBody gave ended before kept after framing refusal.BodyTooLarge = ShowsNoBody gave ended before kept after framing refusal.BodyTooLarge
MissesBody gave ended before kept after framing refusal.BadChunk = ShowsNoBody gave ended before kept after framing refusal.BadChunk
