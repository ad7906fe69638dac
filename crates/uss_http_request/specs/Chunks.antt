-- Bodies in chunks: RFC 9112, section 7.1, with the size lines and the trailers as the grammar of the crate `httparse`
-- has them, each within 16 KiB, and with at most 8 MiB in all.
use Rattle.std.specs.Prelude.{◌≡◌, ℕ, ◌+◌, ◌<◌, ◌≤◌, ◌⊎◌, List, [], ◌∷◌, ◌++◌, length, take, All}
use Rattle.std.specs.List.{flat_map}
use Rattle.httparse.specs.Ascii.{crlf_bytes}
use Rattle.httparse.specs.Grammar.{ChunkLine, IsChunkLine, print_chunk_line, chunk_size, HasNoChunkLine, NeverHasChunkLine, MayBecomeChunkLine, LineEnd, Field, IsField, print_section, HasNoSection, NeverHasSection, MayBecomeSection}
use Rattle.uss_http_request.specs.Pieces.{piece_limit}
use Rattle.uss_http_request.specs.Fields.{body_limit}

-- a size line
pub record IsSizeLine (line : ChunkLine) : Type 0 where
  pub valid : IsChunkLine line
  pub within : length (print_chunk_line line) ≤ piece_limit

-- a size line, and so many bytes
pub record Chunk : Type 0 where
  pub line : ChunkLine
  pub bytes : List ℕ

-- after the bytes stands a CR LF
abbrev pub print_chunk : Chunk → List ℕ
print_chunk chunk = print_chunk_line chunk.line ++ (chunk.bytes ++ crlf_bytes)

pub record IsChunk (chunk : Chunk) : Type 0 where
  pub line : IsSizeLine chunk.line
  pub some : 0 < chunk_size chunk.line
  pub size : length chunk.bytes ≡ chunk_size chunk.line

-- the text of chunks, and the body that they carry
abbrev pub chunks_text : List Chunk → List ℕ
chunks_text chunks = flat_map print_chunk chunks

abbrev pub body_of : List Chunk → List ℕ
body_of chunks = flat_map (λ c. c.bytes) chunks

-- the line that ends the chunks says 0
pub record IsLastLine (line : ChunkLine) : Type 0 where
  pub line_is : IsSizeLine line
  pub none : chunk_size line ≡ 0

-- the trailers: fields, and the empty line after them. They are dropped.
pub record AreTrailers (fields : List Field) (end : LineEnd) : Type 0 where
  pub valid : All IsField fields
  pub within : length (print_section fields end) ≤ piece_limit

-- the bytes begin with chunks, the last line and the trailers, and carry this body
pub record IsChunked (bytes body : List ℕ) : Type 0 where
  pub chunks : List Chunk
  pub last : ChunkLine
  pub fields : List Field
  pub end : LineEnd
  pub rest : List ℕ
  pub are_chunks : All IsChunk chunks
  pub is_last : IsLastLine last
  pub are_trailers : AreTrailers fields end
  pub spelled : bytes ≡ chunks_text chunks ++ (print_chunk_line last ++ (print_section fields end ++ rest))
  pub carried : body ≡ body_of chunks
  pub within : length body ≤ body_limit

-- no line is at the start yet, and more bytes may make one
pub record IsOpenLine (bytes : List ℕ) : Type 0 where
  pub none : HasNoChunkLine bytes
  pub may : MayBecomeChunkLine bytes

-- the same of trailers
pub record AreOpenTrailers (bytes : List ℕ) : Type 0 where
  pub none : HasNoSection bytes
  pub may : MayBecomeSection bytes

-- the bytes begin with a CR LF
abbrev pub HasLineEnd : List ℕ → Type 0
HasLineEnd bytes = (rest : List ℕ) × (bytes ≡ crlf_bytes ++ rest)

-- a CR LF that isn't there yet
abbrev pub IsOpenLineEnd : List ℕ → Type 0
IsOpenLineEnd bytes = (bytes ≡ []) ⊎ (bytes ≡ 13 ∷ [])

-- whatever follows, the bytes don't begin with a CR LF
abbrev pub NeverHasLineEnd : List ℕ → Type 0
NeverHasLineEnd bytes = (more : List ℕ) → HasLineEnd (bytes ++ more) → ⊥

-- the bytes begin with this size line, and the rest follows it
pub record HasSizeLine (bytes : List ℕ) (line : ChunkLine) (rest : List ℕ) : Type 0 where
  pub line_is : IsSizeLine line
  pub spelled : bytes ≡ print_chunk_line line ++ rest

-- the bytes begin with a chunk, up to its CR LF, that is within the limit after so many bytes of the body
pub record HasData (so_far : ℕ) (bytes : List ℕ) (line : ChunkLine) (rest : List ℕ) : Type 0 where
  pub chunk_bytes : List ℕ
  pub line_is : IsSizeLine line
  pub some : 0 < chunk_size line
  pub size : length chunk_bytes ≡ chunk_size line
  pub within : so_far + chunk_size line ≤ body_limit
  pub spelled : bytes ≡ print_chunk_line line ++ (chunk_bytes ++ rest)

-- What is wrong with the bytes after the chunks read so far, which carry so many bytes. Nothing comes before the
-- whole piece that it belongs to was refused or found too long.
pub data ChunkFault (so_far : ℕ) (bytes : List ℕ) : Type 0 where
  no_line : NeverHasChunkLine (take piece_limit bytes) → ChunkFault so_far bytes
  long_line : piece_limit ≤ length bytes → IsOpenLine (take piece_limit bytes) → ChunkFault so_far bytes
  no_line_end : (line : ChunkLine) (rest : List ℕ) → HasData so_far bytes line rest → NeverHasLineEnd rest → ChunkFault so_far bytes
  bad_trailers : (line : ChunkLine) (rest : List ℕ) → IsLastLine line → bytes ≡ print_chunk_line line ++ rest → NeverHasSection (take piece_limit rest) → ChunkFault so_far bytes
  long_trailers : (line : ChunkLine) (rest : List ℕ) → IsLastLine line → bytes ≡ print_chunk_line line ++ rest → piece_limit ≤ length rest → AreOpenTrailers (take piece_limit rest) → ChunkFault so_far bytes

-- the next chunk has more bytes than the limit leaves room for
pub record IsTooMuch (so_far : ℕ) (bytes : List ℕ) : Type 0 where
  pub line : ChunkLine
  pub rest : List ℕ
  pub has : HasSizeLine bytes line rest
  pub over : body_limit < so_far + chunk_size line

-- where the bytes stop: in a size line, in a chunk's bytes, before the CR LF after them, or in the trailers
pub data IsCutOff (so_far : ℕ) (bytes : List ℕ) : Type 0 where
  in_line : length bytes < piece_limit → IsOpenLine bytes → IsCutOff so_far bytes
  in_data : (line : ChunkLine) (rest : List ℕ) → HasSizeLine bytes line rest → 0 < chunk_size line → so_far + chunk_size line ≤ body_limit → length rest < chunk_size line → IsCutOff so_far bytes
  before_line_end : (line : ChunkLine) (rest : List ℕ) → HasData so_far bytes line rest → IsOpenLineEnd rest → IsCutOff so_far bytes
  in_trailers : (line : ChunkLine) (rest : List ℕ) → IsLastLine line → bytes ≡ print_chunk_line line ++ rest → length rest < piece_limit → AreOpenTrailers rest → IsCutOff so_far bytes

-- the bytes begin with chunks within the limit, and this is so of what follows them
pub record StopsWhere (stop : ℕ → List ℕ → Type 0) (bytes : List ℕ) : Type 0 where
  pub chunks : List Chunk
  pub rest : List ℕ
  pub are_chunks : All IsChunk chunks
  pub within : length (body_of chunks) ≤ body_limit
  pub spelled : bytes ≡ chunks_text chunks ++ rest
  pub stops : stop (length (body_of chunks)) rest
