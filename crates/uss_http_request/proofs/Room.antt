-- There is room for each field of a head.
use Rattle.std.proofs.Common.{ℕ, ◌*◌, ◌≤◌, List, [], ◌∷◌, length, All, ap, arith, length-append}
use Rattle.std.specs.List.{flat_map}
use Rattle.std.proofs.lemmas.List.Elements.{All-head, All-tail}
use Rattle.httparse.specs.Grammar.{LineEnd, crlf, lf, print_end, Field, IsField, print_field, print_section, RequestHead, IsRequestHead, print_request}
use Rattle.httparse.specs.Spans.{RequestExceeds, SectionExceeds}

end_some : (e : LineEnd) → 1 ≤ length (print_end e)
end_some crlf = omega arith
end_some lf = omega arith

field_long : (f : Field) → IsField f → 3 ≤ length (print_field f)
field_long f is =
    let e = end_some f.end in
    let n = is.name.0 in
    simp length-append (omega arith)

pub fields_long : (fs : List Field) → All IsField fs → 3 * length fs ≤ length (flat_map print_field fs)
fields_long [] all = omega arith
fields_long (f ∷ fs) all =
    let here = field_long f (All-head IsField f fs all) in
    let later = fields_long fs (All-tail IsField f fs all) in
    let len = length-append (print_field f) (flat_map print_field fs) in
    omega arith

request_long : (h : RequestHead) → IsRequestHead h → 3 * length h.fields ≤ length (print_request h)
unfolding print_request
request_long h is =
    let some = fields_long h.fields is.fields in
    simp length-append (omega arith)

-- each field has three bytes, and the room is for more
pub roomy : (buf : List ℕ) → length buf ≤ 16384 → RequestExceeds 5462 buf → ⊥
roomy buf short x =
    let front = x.0 in
    let h = x.3 in
    let whole = length-append front x.1 in
    let total = ap length x.2 in
    let read = ap length x.4.1 in
    let one = length-append front (10 ∷ []) in
    let printed = length-append (print_request h) [] in
    let long = request_long h x.4.0 in
    omega (arith, x.5)

-- the same of a section
pub roomy_section : (buf : List ℕ) → length buf ≤ 16384 → SectionExceeds 5462 buf → ⊥
roomy_section buf short x =
    let front = x.0 in
    let fields = x.3 in
    let whole = length-append front x.1 in
    let total = ap length x.2 in
    let read = ap length x.4.1 in
    let one = length-append front (10 ∷ []) in
    let more = length-append (flat_map print_field fields) (print_end lf) in
    let all = length-append (print_section fields lf) [] in
    let long = fields_long fields x.4.0 in
    omega (arith, x.5)
