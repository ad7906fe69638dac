-- There is room for each field of a head.
use Rattle.std.proofs.Common.{ℕ, ◌*◌, ◌≤◌, List, [], ◌∷◌, length, ap, arith, length-append}
use Rattle.httparse.specs.Grammar.{ResponseHead, IsResponseHead, print_response}
use Rattle.httparse.specs.Spans.{ResponseExceeds}
use Rattle.uss_http_request.proofs.Room.{fields_long}

response_long : (h : ResponseHead) → IsResponseHead h → 3 * length h.fields ≤ length (print_response h)
unfolding print_response
response_long h is =
    let some = fields_long h.fields is.fields in
    simp length-append (omega arith)

-- each field has three bytes, and the room is for more
pub roomy : (buf : List ℕ) → length buf ≤ 16384 → ResponseExceeds 5462 buf → ⊥
roomy buf short x =
    let front = x.0 in
    let h = x.3 in
    let whole = length-append front x.1 in
    let total = ap length x.2 in
    let read = ap length x.4.1 in
    let one = length-append front (10 ∷ []) in
    let printed = length-append (print_response h) [] in
    let long = response_long h x.4.0 in
    omega (arith, x.5)
