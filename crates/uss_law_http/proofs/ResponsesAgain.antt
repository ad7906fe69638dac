-- What is written of a response is read as that response.
use Rattle.std.proofs.Common.{◌≡◌, ℕ, zero, suc, ◌+◌, ◌^◌, ◌<◌, ◌≤◌, Bool, true, false, List, [], ◌∷◌, ◌++◌, length, All, Some, refl, sym, ap, ◌∙◌, subst, arith, append_assoc, length-append}
use Rattle.std.specs.Prelude.{codes, decimal, option_map, nat_le, ◌&&◌, ◌==◌}
use Rattle.std.specs.List.{list_all}
use Rattle.std.specs.Char.{is_ascii_digit, digit_value}
use Rattle.std.specs.Str.Parse.{AllDigits, digits_value}
use Rattle.std.proofs.lemmas.Bool.{cond-true, cond-false, and_parts, eq-eqb, ne_eqb, eqb-true, eqb-false, leb-true}
use Rattle.std.proofs.lemmas.Bool.Decides.{Decides-below_and, nat_tests}
use Rattle.std.proofs.lemmas.Fmt.{length-decimal-le}
use Rattle.std.proofs.lemmas.Int.Digits.{digits_value-lt}
use Rattle.std.proofs.lemmas.List.Elements.{All-nil, All-cons, All-head, All-tail}
use Rattle.std.proofs.lemmas.List.Sums.{AllPass-from_list_all}
use Rattle.httparse.specs.Grammar.{AllPass, is_value_byte, crlf, Field, IsField, print_section, ResponseHead, IsResponseHead, print_response, status_code}
use Rattle.httparse.proofs.GrammarLemmas.{print_response-append}
use Rattle.uss_http_request.specs.declared.fields.Framing.TheVariants.{Nothing, Length}
use Rattle.uss_http_request.specs.Fields.{body_limit, framing_by}
use Rattle.uss_http_request.specs.Pieces.{piece_limit}
use Rattle.uss_http_response.specs.declared.heads.BodyEnd.{BodyEnd}
use Rattle.uss_http_response.specs.declared.heads.BodyEnd.TheVariants.{Framed, AtTheEnd}
use Rattle.uss_http_response.specs.declared.response.Response.{Response}
use Rattle.uss_http_response.specs.Heads.{end_by}
use Rattle.uss_http_response.specs.Responses.{IsBodyAt, IsResponse}
use Rattle.uss_http.specs.Writing.{phrase_of, status_text, rest_text, response_text}
use Rattle.uss_law_http.specs.Again.{IsWritable}
use Rattle.uss_law_http.proofs.Texts.{Passes, Writes, decimal_writes, three_digits, digits_are_a_value, digits_trimmed, framed, field, is_field, section_more, whole_body}
use Rattle.uss_law_http.proofs.RequestsAgain.{named_type, named_length, named_connection, type_value, close_value, body_within}

-- the field that each response has, and those of a response with a body
abbrev pub closing : List Field
closing = field (codes "Connection") (codes "close") ∷ []

abbrev pub with_body : List ℕ → List Field
with_body digits = field (codes "Content-Type") (codes "application/json") ∷ field (codes "Content-Length") digits ∷ closing

abbrev pub response_head : (status phrase : List ℕ) → List Field → ResponseHead
response_head status phrase fields =
    record { blank = []; minor = 1; digits = status; reason = Some phrase; line_end = crlf; fields = fields; last = crlf }

-- ---- phrases

abbrev fits : ℕ → Bool
fits status = list_all is_value_byte (phrase_of status) && nat_le (length (phrase_of status)) 64

abbrev fit_below : ℕ → Bool
fit_below zero = true
fit_below (suc n) = fits n && fit_below n

phrase_fits : (status : ℕ) → status < 1000 → fits status ≡ true
phrase_fits status small = (Decides-below_and fits (λ k. fits k ≡ true) fit_below (λ k. (λ x. x, λ x. x)) refl (λ _. refl) 1000).0 refl status small

record IsPhrase (phrase : List ℕ) : Type 0 where
  value : AllPass is_value_byte phrase
  short : length phrase ≤ 64

is_phrase : (status : ℕ) → status < 1000 → IsPhrase (phrase_of status)
is_phrase status small =
    let parts = and_parts (list_all is_value_byte (phrase_of status)) (nat_le (length (phrase_of status)) 64) (phrase_fits status small) in
    record { value = AllPass-from_list_all is_value_byte (phrase_of status) parts.0; short = leb-true (length (phrase_of status)) 64 parts.1 }

-- ---- the text

fields_text : (digits x : List ℕ) → print_section (with_body digits) crlf ++ x ≡ codes "Content-Type: application/json\r\nContent-Length: " ++ (digits ++ (codes "\r\nConnection: close\r\n\r\n" ++ x))
fields_text digits x =
    section_more (codes "Content-Type") (codes "application/json") (field (codes "Content-Length") digits ∷ closing) x
    ∙ ap (λ (t : List ℕ). codes "Content-Type: application/json\r\n" ++ t) (
    section_more (codes "Content-Length") digits closing x
    ∙ ap (λ (t : List ℕ). codes "Content-Length: " ++ (digits ++ 13 ∷ 10 ∷ t)) (section_more (codes "Connection") (codes "close") [] x))

printed : (status phrase digits x : List ℕ) → print_response (response_head status phrase (with_body digits)) ++ x ≡ codes "HTTP/1.1 " ++ (status ++ (codes " " ++ (phrase ++ (codes "\r\nContent-Type: application/json\r\nContent-Length: " ++ (digits ++ (codes "\r\nConnection: close\r\n\r\n" ++ x))))))
printed status phrase digits x =
    print_response-append (response_head status phrase (with_body digits)) x
    ∙ ap (λ (t : List ℕ). codes "HTTP/1.1 " ++ (status ++ 32 ∷ (phrase ++ 13 ∷ 10 ∷ t))) (fields_text digits x)

printed_empty : (status phrase x : List ℕ) → print_response (response_head status phrase closing) ++ x ≡ codes "HTTP/1.1 " ++ (status ++ (codes " " ++ (phrase ++ (codes "\r\nConnection: close\r\n\r\n" ++ x))))
printed_empty status phrase x =
    print_response-append (response_head status phrase closing) x
    ∙ ap (λ (t : List ℕ). codes "HTTP/1.1 " ++ (status ++ 32 ∷ (phrase ++ 13 ∷ 10 ∷ t))) (section_more (codes "Connection") (codes "close") [] x)

regroup : (a b c d e f g h r : List ℕ) → a ++ b ++ c ++ d ++ (e ++ f ++ g ++ h) ++ r ≡ a ++ (b ++ (c ++ (d ++ (e ++ (f ++ (g ++ (h ++ r)))))))
regroup a b c d e f g h r = simp append_assoc

regroup_empty : (a b c d e r : List ℕ) → a ++ b ++ c ++ d ++ e ++ r ≡ a ++ (b ++ (c ++ (d ++ (e ++ r))))
regroup_empty a b c d e r = simp append_assoc

spelled : (status phrase digits body rest : List ℕ) → codes "HTTP/1.1 " ++ status ++ codes " " ++ phrase ++ (codes "\r\nContent-Type: application/json\r\nContent-Length: " ++ digits ++ codes "\r\nConnection: close\r\n\r\n" ++ body) ++ rest ≡ print_response (response_head status phrase (with_body digits)) ++ (body ++ rest)
spelled status phrase digits body rest =
    regroup (codes "HTTP/1.1 ") status (codes " ") phrase (codes "\r\nContent-Type: application/json\r\nContent-Length: ") digits (codes "\r\nConnection: close\r\n\r\n") body rest
    ∙ sym (printed status phrase digits (body ++ rest))

spelled_empty : (status phrase rest : List ℕ) → codes "HTTP/1.1 " ++ status ++ codes " " ++ phrase ++ codes "\r\nConnection: close\r\n\r\n" ++ rest ≡ print_response (response_head status phrase closing) ++ rest
spelled_empty status phrase rest =
    regroup_empty (codes "HTTP/1.1 ") status (codes " ") phrase (codes "\r\nConnection: close\r\n\r\n") rest
    ∙ sym (printed_empty status phrase rest)

-- ---- lengths

sum_of : (a b c d e f g x : List ℕ) → x ++ [] ≡ a ++ (b ++ (c ++ (d ++ (e ++ (f ++ (g ++ [])))))) → length x ≡ length a + (length b + (length c + (length d + (length e + (length f + length g)))))
sum_of a b c d e f g x same =
    omega (arith, ap length same, length-append x [], length-append a (b ++ (c ++ (d ++ (e ++ (f ++ (g ++ [])))))), length-append b (c ++ (d ++ (e ++ (f ++ (g ++ []))))), length-append c (d ++ (e ++ (f ++ (g ++ [])))), length-append d (e ++ (f ++ (g ++ []))), length-append e (f ++ (g ++ [])), length-append f (g ++ []), length-append g [])

sum_of_empty : (a b c d e x : List ℕ) → x ++ [] ≡ a ++ (b ++ (c ++ (d ++ (e ++ [])))) → length x ≡ length a + (length b + (length c + (length d + length e)))
sum_of_empty a b c d e x same =
    omega (arith, ap length same, length-append x [], length-append a (b ++ (c ++ (d ++ (e ++ [])))), length-append b (c ++ (d ++ (e ++ []))), length-append c (d ++ (e ++ [])), length-append d (e ++ []), length-append e [])

within : (status phrase digits : List ℕ) → length status ≤ 3 → length phrase ≤ 64 → length digits ≤ 7 → length (print_response (response_head status phrase (with_body digits))) ≤ piece_limit
within status phrase digits s p d =
    let sum = sum_of (codes "HTTP/1.1 ") status (codes " ") phrase (codes "\r\nContent-Type: application/json\r\nContent-Length: ") digits (codes "\r\nConnection: close\r\n\r\n") (print_response (response_head status phrase (with_body digits))) (printed status phrase digits []) in
    omega arith

within_empty : (status phrase : List ℕ) → length status ≤ 3 → length phrase ≤ 64 → length (print_response (response_head status phrase closing)) ≤ piece_limit
within_empty status phrase s p =
    let sum = sum_of_empty (codes "HTTP/1.1 ") status (codes " ") phrase (codes "\r\nConnection: close\r\n\r\n") (print_response (response_head status phrase closing)) (printed_empty status phrase []) in
    omega arith

-- ---- the head

close_field : IsField (field (codes "Connection") (codes "close"))
close_field = is_field (codes "Connection") (codes "close") named_connection close_value

are_closing : All IsField closing
are_closing = All-cons IsField (field (codes "Connection") (codes "close")) [] close_field (All-nil IsField)

are_with_body : (digits : List ℕ) → AllPass is_value_byte digits → All IsField (with_body digits)
are_with_body digits d =
    All-cons IsField (field (codes "Content-Type") (codes "application/json")) (field (codes "Content-Length") digits ∷ closing) (is_field (codes "Content-Type") (codes "application/json") named_type type_value)
    (All-cons IsField (field (codes "Content-Length") digits) closing (is_field (codes "Content-Length") digits named_length d) are_closing)

is_head : (status phrase : List ℕ) (fields : List Field) → length status ≡ 3 → AllPass is_ascii_digit status → AllPass is_value_byte phrase → All IsField fields → IsResponseHead (response_head status phrase fields)
is_head status phrase fields three digits value are = record { minor = omega arith; digits = (three, digits); reason = value; fields = are }

-- ---- both kinds

-- what a response is written with
record Parts (response : Response) : Type 0 where
  status : Writes response.status (decimal response.status)
  three : length (decimal response.status) ≡ 3
  phrase : IsPhrase (phrase_of response.status)

parts_of : (response : Response) → IsWritable response → Parts response
parts_of response is =
    let low = is.low in
    let high = is.high in
    record { status = decimal_writes response.status (omega arith); three = three_digits response.status is.low is.high; phrase = is_phrase response.status (omega arith) }

again_empty : (rest : List ℕ) (response : Response) → IsWritable response → response.status ≡ 204 → IsResponse (response_text response ++ rest) response
again_empty rest response is no_content =
    let parts = parts_of response is in
    let status = decimal response.status in
    let phrase = phrase_of response.status in
    let behind : rest_text response ≡ codes "\r\nConnection: close\r\n\r\n" = cond-true (response.status == 204) _ _ (eq-eqb response.status 204 no_content) in
    let text : response_text response ≡ status_text response.status ++ codes "\r\nConnection: close\r\n\r\n" = ap (λ (t : List ℕ). status_text response.status ++ t) behind in
    record {
      head = record { status = response.status; body = Framed Nothing };
      rest = rest;
      has_head = record {
        tree = response_head status phrase closing;
        begins = record {
          valid = is_head status phrase closing parts.three parts.status.all parts.phrase.value are_closing;
          spelled = ap (λ (t : List ℕ). t ++ rest) text ∙ spelled_empty status phrase rest;
          within = within_empty status phrase (omega (arith, parts.three)) parts.phrase.short;
        };
        says = record {
          status_is = sym parts.status.value;
          ends = ap (λ (n : ℕ). Some (end_by n Nothing)) (parts.status.value ∙ no_content);
        };
      };
      status_is = refl;
      has_body = is.empty no_content;
    }

again_full : (rest : List ℕ) (response : Response) → IsWritable response → (response.status ≡ 204 → ⊥) → IsResponse (response_text response ++ rest) response
again_full rest response is other =
    let parts = parts_of response is in
    let status = decimal response.status in
    let phrase = phrase_of response.status in
    let n = length response.body in
    let small = is.body in
    let writes = decimal_writes n (omega arith) in
    let behind : rest_text response ≡ codes "\r\nContent-Type: application/json\r\nContent-Length: " ++ decimal n ++ codes "\r\nConnection: close\r\n\r\n" ++ response.body = cond-false (response.status == 204) _ _ (ne_eqb response.status 204 other) in
    let text : response_text response ≡ status_text response.status ++ (codes "\r\nContent-Type: application/json\r\nContent-Length: " ++ decimal n ++ codes "\r\nConnection: close\r\n\r\n" ++ response.body) = ap (λ (t : List ℕ). status_text response.status ++ t) behind in
    record {
      head = record { status = response.status; body = Framed (Length n) };
      rest = response.body ++ rest;
      has_head = record {
        tree = response_head status phrase (with_body (decimal n));
        begins = record {
          valid = is_head status phrase (with_body (decimal n)) parts.three parts.status.all parts.phrase.value (are_with_body (decimal n) (digits_are_a_value (decimal n) writes.all));
          spelled = ap (λ (t : List ℕ). t ++ rest) text ∙ spelled status phrase (decimal n) response.body rest;
          within = within status phrase (decimal n) (omega (arith, parts.three)) parts.phrase.short (length-decimal-le 7 n (omega arith) (omega arith) (omega arith));
        };
        says = record {
          status_is = sym parts.status.value;
          ends = ap (option_map (end_by (status_code (response_head status phrase (with_body (decimal n)))))) (ap (λ (v : List ℕ). framing_by (v ∷ []) []) (digits_trimmed (decimal n) writes.all) ∙ framed n (decimal n) writes is.body);
        };
      };
      status_is = refl;
      has_body = whole_body response.body rest is.body;
    }

by_status : (rest : List ℕ) (response : Response) (t : Bool) → (response.status == 204) ≡ t → IsWritable response → IsResponse (response_text response ++ rest) response
by_status rest response true e is = again_empty rest response is (eqb-true response.status 204 e)
by_status rest response false e is = again_full rest response is (eqb-false response.status 204 e)

pub response_again : (rest : List ℕ) (response : Response) → IsWritable response → IsResponse (response_text response ++ rest) response
response_again rest response is = by_status rest response (response.status == 204) refl is

-- ---- what is read

digits_below : (digits : List ℕ) → AllPass is_ascii_digit digits → AllDigits 10 digits
digits_below [] all = tt
digits_below (c ∷ cs) all = (small c (All-head (Passes is_ascii_digit) c cs all), digits_below cs (All-tail (Passes is_ascii_digit) c cs all))
  where
    small : (c : ℕ) → is_ascii_digit c ≡ true → digit_value c < 10
    small c h = grind (arith, nat_tests)

status_below : (digits : List ℕ) → length digits ≡ 3 → AllPass is_ascii_digit digits → digits_value 10 digits < 1000
status_below digits three all = subst (λ (k : ℕ). digits_value 10 digits < 10 ^ k) three (digits_value-lt 10 digits (digits_below digits all))

body_within_at : (end : BodyEnd) (bytes body : List ℕ) → IsBodyAt end bytes body → length body ≤ body_limit
body_within_at (Framed framing) bytes body is = body_within framing bytes body is
body_within_at AtTheEnd bytes body is = let few = is.0 in omega (arith, ap length is.1)

pub writable : (bytes : List ℕ) (response : Response) → IsResponse bytes response → 100 ≤ response.status → (response.status ≡ 204 → response.body ≡ []) → IsWritable response
writable bytes response is low empty =
    let valid = is.has_head.begins.valid in
    let below = status_below is.has_head.tree.digits valid.digits.0 valid.digits.1 in
    let says = is.has_head.says.status_is in
    let same = is.status_is in
    record {
      low = low;
      high = omega arith;
      empty = empty;
      body = body_within_at is.head.body is.rest response.body is.has_body;
    }
