-- The answer of reading a response, with the refusals of messages.
use Rattle.std.proofs.Common.{ℕ, List, ◌++◌, Option, Ok, Err}
use Rattle.uss_link.specs.Talks.{Talk}
use Rattle.uss_http_request.specs.declared.refusal.ReadRefusal.{ReadRefusal}
use Rattle.uss_http_request.specs.declared.refusal.ReadRefusal.TheVariants as read
use Rattle.uss_http_response.specs.declared.response.Response.{Response}
use Rattle.uss_http_response.specs.Responses.{IsAnswerOf}
use Rattle.uss_http_response.specs.Dials.{IsReceived}
use Rattle.uss_http_request.specs.Prompt as prompt
use Rattle.uss_http.specs.Refusals.{refusal_of, refusal_over, UnlessFault}
use Rattle.uss_http.specs.Responses.{IsReadOf, IsReadOver}

pub read_ok : (talks : List Talk) (after : Option (List Talk)) (response : Response) → IsReceived talks after (Ok response) → IsReadOver talks after (Ok response)
read_ok talks after response is = record { bytes = is.bytes; is_end = is.is_end; told = is.told; is_answer = λ more none. is.is_answer more none }

refused_of : (bytes : List ℕ) (e : ReadRefusal) → IsAnswerOf bytes (Err e) → IsReadOf bytes (Err (refusal_over e))
refused_of bytes read.HeadTooLarge r = r
refused_of bytes read.BadHead r = r
refused_of bytes read.BodyTooLarge r = r
refused_of bytes read.BadChunk r = r
refused_of bytes read.Truncated r = r
refused_of bytes read.NoClient r = r
refused_of bytes read.Fault r = tt
refused_of bytes read.Memory r = tt

pub read_err : (talks : List Talk) (after : Option (List Talk)) (e : ReadRefusal) → IsReceived talks after (Err e) → IsReadOver talks after (Err (refusal_over e))
read_err talks after e is = record { bytes = is.bytes; is_end = is.is_end; told = is.told; is_answer = λ more none. refused_of (is.bytes ++ more) e (is.is_answer more none) }

pub fault_of : (e : ReadRefusal) (P : Type 0) → prompt.UnlessFault e P → UnlessFault (refusal_of e) P
fault_of read.HeadTooLarge P p = p
fault_of read.BadHead P p = p
fault_of read.BodyTooLarge P p = p
fault_of read.BadChunk P p = p
fault_of read.Truncated P p = p
fault_of read.NoClient P p = p
fault_of read.Fault P p = tt
fault_of read.Memory P p = tt

pub fault_over : (e : ReadRefusal) (P : Type 0) → prompt.UnlessFault e P → UnlessFault (refusal_over e) P
fault_over read.HeadTooLarge P p = p
fault_over read.BadHead P p = p
fault_over read.BodyTooLarge P p = p
fault_over read.BadChunk P p = p
fault_over read.Truncated P p = p
fault_over read.NoClient P p = p
fault_over read.Fault P p = tt
fault_over read.Memory P p = tt
