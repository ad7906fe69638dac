-- Which requests and responses are read again as they were written, and which answers are the bytes'. This project's own.
use Rattle.std.specs.Prelude.{◌≡◌, ℕ, ◌+◌, ◌<◌, ◌≤◌, List, [], length, IsUtf8, Result, Ok, Err}
use Rattle.httparse.specs.Grammar.{IsToken, AllPass, is_uri_byte, is_value_byte}
use Rattle.uss_intent.specs.Texts.{IsName}
use Rattle.uss_http_request.specs.declared.request.Request.{Request}
use Rattle.uss_http_request.specs.Fields.{body_limit}
use Rattle.uss_http_request.specs.Pieces.{piece_limit}
use Rattle.uss_http_response.specs.declared.response.Response.{Response}
use Rattle.uss_http.specs.declared.refusal.HttpRefusal.{HttpRefusal}
use Rattle.uss_http.specs.declared.refusal.HttpRefusal.TheVariants as refusal
use Rattle.uss_http.specs.Writing.{request_text}

-- a request that some bytes can be read as
pub record IsReadable (request : Request) : Type 0 where
  pub method : IsToken request.method
  pub path : (0 < length request.path) × AllPass is_uri_byte request.path
  pub path_text : IsUtf8 request.path
  pub client : IsName request.client
  pub body : length request.body ≤ body_limit

-- a host that can be the value of a field, and with which the head, all that is written before the body, is within 16 KiB
pub record IsHostFor (request : Request) (host : List ℕ) : Type 0 where
  pub value : AllPass is_value_byte host
  pub within : length (request_text host request) ≤ piece_limit + length request.body

-- a response that can be written so that it is read again
pub record IsWritable (response : Response) : Type 0 where
  pub low : 100 ≤ response.status
  pub high : response.status ≤ 999
  pub empty : response.status ≡ 204 → response.body ≡ []
  pub body : length response.body ≤ body_limit

-- the bytes decide the answer: it is neither a fault nor out of memory
abbrev pub IsDecided : {T : Type 0} → Result T HttpRefusal → Type 0
IsDecided (Ok message) = Unit {0}
IsDecided (Err refusal.HeadTooLarge) = Unit {0}
IsDecided (Err refusal.BadHead) = Unit {0}
IsDecided (Err refusal.BodyTooLarge) = Unit {0}
IsDecided (Err refusal.BadChunk) = Unit {0}
IsDecided (Err refusal.Truncated) = Unit {0}
IsDecided (Err refusal.NoRoute) = Unit {0}
IsDecided (Err (refusal.WrongMethod allowed)) = Unit {0}
IsDecided (Err refusal.NoClient) = Unit {0}
IsDecided (Err refusal.ReadFault) = ⊥
IsDecided (Err refusal.DialFault) = ⊥
IsDecided (Err refusal.Memory) = ⊥
