-- What reading the end of a body in chunks answers. This project's own.
use Rattle.std.specs.Prelude.{◌≡◌, ℕ, ◌<◌, ◌≤◌, List, ◌++◌, length, take, All}
use Rattle.httparse.specs.Grammar.{ChunkLine, print_chunk_line, LineEnd, Field, print_section, NeverHasSection}
use Rattle.uss_http_request.specs.declared.halt.Halt.{Halt}
use Rattle.uss_http_request.specs.declared.halt.Halt.TheVariants as halt
use Rattle.uss_http_request.specs.Pieces.{piece_limit}
use Rattle.uss_http_request.specs.Streams.{Passes}
use Rattle.uss_http_request.specs.Fields.{body_limit}
use Rattle.uss_http_request.specs.Chunks.{Chunk, IsChunk, chunks_text, body_of, IsLastLine, AreTrailers, AreOpenTrailers}
use Rattle.uss_http_request.specs.ChunkAnswers.{ShowsStop}

-- the chunks and the last line were taken, and they carry this body
pub record TakesToLast {S : Type 0} (gave : S → S → List ℕ → Type 0) (before : S) (kept : List ℕ) (after : S) (left body : List ℕ) : Type 0 where
  pub chunks : List Chunk
  pub line : ChunkLine
  pub are_chunks : All IsChunk chunks
  pub is_last : IsLastLine line
  pub carried : body ≡ body_of chunks
  pub within : length body ≤ body_limit
  pub passes : Passes gave before kept after (chunks_text chunks ++ (print_chunk_line line ++ left))

-- trailers came
pub record TakesTrailers {S : Type 0} (gave : S → S → List ℕ → Type 0) (before : S) (kept : List ℕ) (after : S) : Type 0 where
  pub fields : List Field
  pub end : LineEnd
  pub rest : List ℕ
  pub are_trailers : AreTrailers fields end
  pub passes : Passes gave before kept after (print_section fields end ++ rest)

-- no trailers can be at the start
abbrev pub HaveNoTrailers : List ℕ → Type 0
HaveNoTrailers bytes = NeverHasSection (take piece_limit bytes)

-- 16 KiB don't end the trailers
pub record HaveLongTrailers (bytes : List ℕ) : Type 0 where
  pub long : piece_limit ≤ length bytes
  pub open_end : AreOpenTrailers (take piece_limit bytes)

-- the trailers stop before their end
pub record HaveCutTrailers (bytes : List ℕ) : Type 0 where
  pub short : length bytes < piece_limit
  pub open_end : AreOpenTrailers bytes

-- why no trailers came
abbrev pub MissesTrailers : {S : Type 0} (gave : S → S → List ℕ → Type 0) (ended : S → Type 0) (before : S) (kept : List ℕ) (after : S) → Halt → Type 0
MissesTrailers gave ended before kept after halt.Bad = ShowsStop gave before kept after HaveNoTrailers
MissesTrailers gave ended before kept after halt.Long = ShowsStop gave before kept after HaveLongTrailers
MissesTrailers gave ended before kept after halt.Cut = ShowsStop gave before kept after HaveCutTrailers × ended after
MissesTrailers gave ended before kept after halt.Fault = Unit {0}
MissesTrailers gave ended before kept after halt.Memory = Unit {0}
