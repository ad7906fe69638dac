-- Heads of responses: RFC 9112, sections 2 to 6, as the grammar of the crate `httparse` has it, and within 16 KiB.
use Rattle.std.specs.Prelude.{◌≡◌, ℕ, ◌≤◌, ◌<◌, ◌==◌, ◌⊎◌, List, ◌++◌, length, take, map, Some, None, option_map, if◌then◌else◌}
use Rattle.httparse.specs.Grammar.{ResponseHead, IsResponseHead, print_response, status_code, HasNoResponse, NeverHasResponse, MayBecomeResponse}
use Rattle.httparse.specs.Spans.{name_and_value}
use Rattle.uss_http_request.specs.declared.fields.Framing.{Framing}
use Rattle.uss_http_request.specs.declared.fields.Framing.TheVariants.{Nothing, Length, Chunked}
use Rattle.uss_http_request.specs.declared.refusal.ReadRefusal.{ReadRefusal}
use Rattle.uss_http_request.specs.declared.refusal.ReadRefusal.TheVariants as refusal
use Rattle.uss_http_request.specs.Pieces.{piece_limit}
use Rattle.uss_http_request.specs.Fields.{framing_of}
use Rattle.uss_http_response.specs.declared.heads.BodyEnd.{BodyEnd}
use Rattle.uss_http_response.specs.declared.heads.BodyEnd.TheVariants.{Framed, AtTheEnd}
use Rattle.uss_http_response.specs.declared.heads.StatusHead.{StatusHead}

-- the bytes begin with this head, and the rest follows it
pub record BeginsWith (bytes : List ℕ) (head : ResponseHead) (rest : List ℕ) : Type 0 where
  pub valid : IsResponseHead head
  pub spelled : bytes ≡ print_response head ++ rest
  pub within : length (print_response head) ≤ piece_limit

-- no head is at the start yet, and more bytes may make one
pub record IsOpenHead (bytes : List ℕ) : Type 0 where
  pub none : HasNoResponse bytes
  pub may : MayBecomeResponse bytes

-- Where a body ends: as its fields say; and where they say nothing, with the stream, but for a 204, which has no body.
abbrev pub end_by : (status : ℕ) → Framing → BodyEnd
end_by status Nothing = if status == 204 then Framed Nothing else AtTheEnd
end_by status (Length n) = Framed (Length n)
end_by status Chunked = Framed Chunked

-- a head with this status and these fields
pub record IsHeadWith (status : ℕ) (fields : List (List ℕ × List ℕ)) (head : StatusHead) : Type 0 where
  pub status_is : head.status ≡ status
  pub ends : option_map (end_by status) (framing_of fields) ≡ Some head.body

-- the bytes begin with a head that says this, and the rest follows it
pub record HasHead (bytes : List ℕ) (head : StatusHead) (rest : List ℕ) : Type 0 where
  pub tree : ResponseHead
  pub begins : BeginsWith bytes tree rest
  pub says : IsHeadWith (status_code tree) (map name_and_value tree.fields) head

-- the bytes begin with a head whose fields say two things of the body, or what this profile doesn't have
pub record HasRefusedHead (bytes : List ℕ) : Type 0 where
  pub tree : ResponseHead
  pub rest : List ℕ
  pub begins : BeginsWith bytes tree rest
  pub unframed : framing_of (map name_and_value tree.fields) ≡ None

-- why these bytes, of which the first 16 KiB count, begin with no head that is accepted
abbrev pub IsRefusedHead : List ℕ → ReadRefusal → Type 0
IsRefusedHead bytes refusal.HeadTooLarge = (piece_limit ≤ length bytes) × IsOpenHead (take piece_limit bytes)
IsRefusedHead bytes refusal.BadHead = NeverHasResponse (take piece_limit bytes) ⊎ HasRefusedHead bytes
IsRefusedHead bytes refusal.Truncated = (length bytes < piece_limit) × IsOpenHead bytes
IsRefusedHead bytes refusal.NoClient = ⊥
IsRefusedHead bytes refusal.BodyTooLarge = ⊥
IsRefusedHead bytes refusal.BadChunk = ⊥
IsRefusedHead bytes refusal.Fault = ⊥
IsRefusedHead bytes refusal.Memory = ⊥
