-- What reading a body in chunks answers, step by step. This project's own.
use Rattle.std.specs.Prelude.{◌≡◌, ℕ, ◌≤◌, List, ◌++◌, length, All}
use Rattle.httparse.specs.Grammar.{ChunkLine, print_chunk_line, chunk_size}
use Rattle.uss_http_request.specs.declared.halt.Halt.{Halt}
use Rattle.uss_http_request.specs.declared.halt.Halt.TheVariants as halt
use Rattle.uss_http_request.specs.declared.refusal.ReadRefusal.{ReadRefusal}
use Rattle.uss_http_request.specs.declared.refusal.ReadRefusal.TheVariants as refusal
use Rattle.uss_http_request.specs.Streams.{Passes}
use Rattle.uss_http_request.specs.Fields.{body_limit}
use Rattle.uss_http_request.specs.Chunks.{IsSizeLine, Chunk, IsChunk, print_chunk, chunks_text, body_of, IsLastLine, ChunkFault, IsTooMuch, IsCutOff, IsOpenLineEnd, NeverHasLineEnd}

-- a size line was taken from the stream
pub record TakesSize {S : Type 0} (gave : S → S → List ℕ → Type 0) (before : S) (kept : List ℕ) (after : S) (left : List ℕ) (size : ℕ) : Type 0 where
  pub line : ChunkLine
  pub line_is : IsSizeLine line
  pub size_is : size ≡ chunk_size line
  pub passes : Passes gave before kept after (print_chunk_line line ++ left)

-- what came over the stream stops so
pub record ShowsStop {S : Type 0} (gave : S → S → List ℕ → Type 0) (before : S) (kept : List ℕ) (after : S) (stop : List ℕ → Type 0) : Type 0 where
  pub all : List ℕ
  pub passes : Passes gave before kept after all
  pub stops : stop all

-- why no further chunk was taken, after so many bytes of the body
abbrev pub MissesChunk : {S : Type 0} (gave : S → S → List ℕ → Type 0) (ended : S → Type 0) (before : S) (kept : List ℕ) (after : S) (so_far : ℕ) → ReadRefusal → Type 0
MissesChunk gave ended before kept after so_far refusal.BadChunk = ShowsStop gave before kept after (ChunkFault so_far)
MissesChunk gave ended before kept after so_far refusal.BodyTooLarge = ShowsStop gave before kept after (IsTooMuch so_far)
MissesChunk gave ended before kept after so_far refusal.Truncated = ShowsStop gave before kept after (IsCutOff so_far) × ended after
MissesChunk gave ended before kept after so_far refusal.Fault = Unit {0}
MissesChunk gave ended before kept after so_far refusal.Memory = Unit {0}
MissesChunk gave ended before kept after so_far refusal.BadHead = ⊥
MissesChunk gave ended before kept after so_far refusal.HeadTooLarge = ⊥
MissesChunk gave ended before kept after so_far refusal.NoClient = ⊥

-- why no CR LF was taken
abbrev pub MissesLineEnd : {S : Type 0} (gave : S → S → List ℕ → Type 0) (ended : S → Type 0) (before : S) (kept : List ℕ) (after : S) → Halt → Type 0
MissesLineEnd gave ended before kept after halt.Bad = ShowsStop gave before kept after NeverHasLineEnd
MissesLineEnd gave ended before kept after halt.Cut = ShowsStop gave before kept after IsOpenLineEnd × ended after
MissesLineEnd gave ended before kept after halt.Fault = Unit {0}
MissesLineEnd gave ended before kept after halt.Memory = Unit {0}
MissesLineEnd gave ended before kept after halt.Long = ⊥

-- a chunk was taken, and its bytes were added to the body
pub record TakesChunk {S : Type 0} (gave : S → S → List ℕ → Type 0) (before : S) (kept : List ℕ) (after : S) (left old new : List ℕ) : Type 0 where
  pub chunk : Chunk
  pub is_chunk : IsChunk chunk
  pub added : new ≡ old ++ chunk.bytes
  pub within : length new ≤ body_limit
  pub passes : Passes gave before kept after (print_chunk chunk ++ left)

-- the last line was taken
pub record TakesLast {S : Type 0} (gave : S → S → List ℕ → Type 0) (before : S) (kept : List ℕ) (after : S) (left old new : List ℕ) : Type 0 where
  pub line : ChunkLine
  pub is_last : IsLastLine line
  pub same : new ≡ old
  pub passes : Passes gave before kept after (print_chunk_line line ++ left)

-- chunks were taken that carry this body
pub record TakesChunks {S : Type 0} (gave : S → S → List ℕ → Type 0) (before : S) (kept : List ℕ) (after : S) (left body : List ℕ) : Type 0 where
  pub chunks : List Chunk
  pub are_chunks : All IsChunk chunks
  pub carried : body ≡ body_of chunks
  pub within : length body ≤ body_limit
  pub passes : Passes gave before kept after (chunks_text chunks ++ left)

-- the halt, said of a piece of a body in chunks
abbrev pub refusal_of_piece : Halt → ReadRefusal
refusal_of_piece halt.Bad = refusal.BadChunk
refusal_of_piece halt.Long = refusal.BadChunk
refusal_of_piece halt.Cut = refusal.Truncated
refusal_of_piece halt.Fault = refusal.Fault
refusal_of_piece halt.Memory = refusal.Memory
