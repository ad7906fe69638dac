-- What is written of a request is read as that request.
use Rattle.std.proofs.Common.{◌≡◌, ℕ, ◌+◌, ◌<◌, ◌≤◌, Bool, true, false, List, [], ◌∷◌, ◌++◌, length, All, Some, None, refl, sym, ap, ◌∙◌, subst, arith, append_assoc, length-append, length-take}
use Rattle.std.specs.Prelude.{codes, decimal, map, IsUtf8, if◌then◌else◌}
use Rattle.std.proofs.lemmas.List.Elements.{All-nil, All-cons}
use Rattle.std.proofs.lemmas.List.Sums.{AllPass-from_list_all}
use Rattle.httparse.specs.Grammar.{AllPass, is_token_byte, IsToken, is_uri_byte, is_value_byte, crlf, Field, IsField, print_section, RequestHead, IsRequestHead, print_request}
use Rattle.httparse.specs.Spans.{name_and_value}
use Rattle.httparse.proofs.GrammarLemmas.{print_request-append}
use Rattle.uss_intent.specs.Texts.{is_name, IsName}
use Rattle.uss_http_request.specs.declared.fields.Framing.{Framing}
use Rattle.uss_http_request.specs.declared.fields.Framing.TheVariants.{Nothing, Length, Chunked}
use Rattle.uss_http_request.specs.declared.request.Request.{Request}
use Rattle.uss_http_request.specs.Bodies.{IsBody}
use Rattle.uss_http_request.specs.Fields.{body_limit, framing_of, framing_by, values_of, client_of, client_by}
use Rattle.uss_http_request.specs.Pieces.{piece_limit}
use Rattle.uss_http_request.specs.Requests.{IsRequest}
use Rattle.uss_http.specs.Writing.{request_text}
use Rattle.uss_law_http.specs.Again.{IsReadable, IsHostFor}
use Rattle.uss_law_http.proofs.Texts.{Writes, decimal_writes, digits_are_a_value, digits_trimmed, framed, name_is_a_value, name_trimmed, named, token, field, is_field, section_more, whole_body}

-- the fields that are written, in their order
abbrev pub request_fields : (host client digits : List ℕ) → List Field
request_fields host client digits =
    field (codes "Host") host
    ∷ field (codes "USS-Client") client
    ∷ field (codes "Content-Type") (codes "application/json")
    ∷ field (codes "Content-Length") digits
    ∷ field (codes "Connection") (codes "close")
    ∷ []

abbrev pub request_head : (method path host client digits : List ℕ) → RequestHead
request_head method path host client digits =
    record { blank = []; method = method; target = path; minor = 1; line_end = crlf; fields = request_fields host client digits; last = crlf }

-- ---- the text

fields_text : (host client digits x : List ℕ) → print_section (request_fields host client digits) crlf ++ x ≡ codes "Host: " ++ (host ++ (codes "\r\nUSS-Client: " ++ (client ++ (codes "\r\nContent-Type: application/json\r\nContent-Length: " ++ (digits ++ (codes "\r\nConnection: close\r\n\r\n" ++ x))))))
fields_text host client digits x =
    let last = field (codes "Connection") (codes "close") ∷ [] in
    let long = field (codes "Content-Length") digits ∷ last in
    let typed = field (codes "Content-Type") (codes "application/json") ∷ long in
    let by = field (codes "USS-Client") client ∷ typed in
    section_more (codes "Host") host by x
    ∙ ap (λ (t : List ℕ). codes "Host: " ++ (host ++ 13 ∷ 10 ∷ t)) (
    section_more (codes "USS-Client") client typed x
    ∙ ap (λ (t : List ℕ). codes "USS-Client: " ++ (client ++ 13 ∷ 10 ∷ t)) (
    section_more (codes "Content-Type") (codes "application/json") long x
    ∙ ap (λ (t : List ℕ). codes "Content-Type: application/json\r\n" ++ t) (
    section_more (codes "Content-Length") digits last x
    ∙ ap (λ (t : List ℕ). codes "Content-Length: " ++ (digits ++ 13 ∷ 10 ∷ t)) (section_more (codes "Connection") (codes "close") [] x))))

regroup : (a b c d e f g h i j k r : List ℕ) → a ++ b ++ c ++ d ++ e ++ f ++ g ++ h ++ i ++ j ++ k ++ r ≡ a ++ (b ++ (c ++ (d ++ (e ++ (f ++ (g ++ (h ++ (i ++ (j ++ (k ++ r))))))))))
regroup a b c d e f g h i j k r = simp append_assoc

printed : (method path host client digits x : List ℕ) → print_request (request_head method path host client digits) ++ x ≡ method ++ (codes " " ++ (path ++ (codes " HTTP/1.1\r\nHost: " ++ (host ++ (codes "\r\nUSS-Client: " ++ (client ++ (codes "\r\nContent-Type: application/json\r\nContent-Length: " ++ (digits ++ (codes "\r\nConnection: close\r\n\r\n" ++ x)))))))))
printed method path host client digits x =
    print_request-append (request_head method path host client digits) x
    ∙ ap (λ (t : List ℕ). method ++ 32 ∷ (path ++ (codes " HTTP/1.1\r\n" ++ t))) (fields_text host client digits x)

spelled : (host rest : List ℕ) (request : Request) → request_text host request ++ rest ≡ print_request (request_head request.method request.path host request.client (decimal (length request.body))) ++ (request.body ++ rest)
spelled host rest request =
    regroup request.method (codes " ") request.path (codes " HTTP/1.1\r\nHost: ") host (codes "\r\nUSS-Client: ") request.client (codes "\r\nContent-Type: application/json\r\nContent-Length: ") (decimal (length request.body)) (codes "\r\nConnection: close\r\n\r\n") request.body rest
    ∙ sym (printed request.method request.path host request.client (decimal (length request.body)) (request.body ++ rest))

head_within : (text head body : List ℕ) → text ++ [] ≡ head ++ (body ++ []) → length text ≤ piece_limit + length body → length head ≤ piece_limit
head_within text head body same within = omega (arith, ap length same, length-append text [], length-append head (body ++ []), length-append body [])

-- ---- the head

named_host : IsToken (codes "Host")
unfolding is_token_byte
named_host = token (codes "Host") refl

named_client : IsToken (codes "USS-Client")
unfolding is_token_byte
named_client = token (codes "USS-Client") refl

pub named_type : IsToken (codes "Content-Type")
unfolding is_token_byte
named_type = token (codes "Content-Type") refl

pub named_length : IsToken (codes "Content-Length")
unfolding is_token_byte
named_length = token (codes "Content-Length") refl

pub named_connection : IsToken (codes "Connection")
unfolding is_token_byte
named_connection = token (codes "Connection") refl

pub type_value : AllPass is_value_byte (codes "application/json")
type_value = AllPass-from_list_all is_value_byte (codes "application/json") refl

pub close_value : AllPass is_value_byte (codes "close")
close_value = AllPass-from_list_all is_value_byte (codes "close") refl

are_fields : (host client digits : List ℕ) → AllPass is_value_byte host → AllPass is_value_byte client → AllPass is_value_byte digits → All IsField (request_fields host client digits)
are_fields host client digits h c d =
    let last = field (codes "Connection") (codes "close") ∷ [] in
    let long = field (codes "Content-Length") digits ∷ last in
    let typed = field (codes "Content-Type") (codes "application/json") ∷ long in
    let by = field (codes "USS-Client") client ∷ typed in
    All-cons IsField (field (codes "Host") host) by (is_field (codes "Host") host named_host h)
    (All-cons IsField (field (codes "USS-Client") client) typed (is_field (codes "USS-Client") client named_client c)
    (All-cons IsField (field (codes "Content-Type") (codes "application/json")) long (is_field (codes "Content-Type") (codes "application/json") named_type type_value)
    (All-cons IsField (field (codes "Content-Length") digits) last (is_field (codes "Content-Length") digits named_length d)
    (All-cons IsField (field (codes "Connection") (codes "close")) [] (is_field (codes "Connection") (codes "close") named_connection close_value) (All-nil IsField)))))

is_head : (host digits : List ℕ) (request : Request) → IsReadable request → AllPass is_value_byte host → AllPass is_value_byte digits → IsRequestHead (request_head request.method request.path host request.client digits)
is_head host digits request is h d =
    record {
      method = is.method;
      target = is.path;
      target_text = is.path_text;
      minor = omega arith;
      fields = are_fields host request.client digits h (name_is_a_value request.client is.client) d;
    }

-- what the fields say of the body
framing_is : (host client digits : List ℕ) (n : ℕ) → Writes n digits → n ≤ body_limit → framing_of (map name_and_value (request_fields host client digits)) ≡ Some (Length n)
framing_is host client digits n writes within =
    ap (λ (v : List ℕ). framing_by (v ∷ []) []) (digits_trimmed digits writes.all) ∙ framed n digits writes within

-- and of the client
client_is : (host client digits : List ℕ) → IsName client → client_of (map name_and_value (request_fields host client digits)) ≡ Some client
client_is host client digits is =
    ap (λ (v : List ℕ). client_by (v ∷ [])) (name_trimmed client is) ∙ named client is

pub request_again : (host rest : List ℕ) (request : Request) → IsReadable request → IsHostFor request host → IsRequest (request_text host request ++ rest) request
request_again host rest request is fits =
    let n = length request.body in
    let writes = decimal_writes n (omega (arith, is.body)) in
    record {
      head = record { method = request.method; path = request.path; client = request.client; framing = Length n };
      rest = request.body ++ rest;
      has_head = record {
        tree = request_head request.method request.path host request.client (decimal n);
        begins = record {
          valid = is_head host (decimal n) request is fits.value (digits_are_a_value (decimal n) writes.all);
          spelled = spelled host rest request;
          within = head_within (request_text host request) (print_request (request_head request.method request.path host request.client (decimal n))) request.body (spelled host [] request) fits.within;
        };
        says = record {
          method_is = refl;
          path_is = refl;
          framed = framing_is host request.client (decimal n) n writes is.body;
          named = client_is host request.client (decimal n) is.client;
        };
      };
      method_is = refl;
      path_is = refl;
      client_is = refl;
      has_body = whole_body request.body rest is.body;
    }

-- ---- what is read

by_test : (t : Bool) (text client : List ℕ) → is_name text ≡ t → (if t then Some text else None) ≡ Some client → IsName client
by_test true text client is same = let e : text ≡ client = cc in subst IsName e is
by_test false text client is same = absurd (cc)

one_name : (texts : List (List ℕ)) (client : List ℕ) → client_by texts ≡ Some client → IsName client
one_name [] client same = absurd (cc)
one_name (text ∷ []) client same = by_test (is_name text) text client refl same
one_name (text ∷ more ∷ texts) client same = absurd (cc)

pub body_within : (framing : Framing) (bytes body : List ℕ) → IsBody framing bytes body → length body ≤ body_limit
body_within Nothing bytes body is = omega (arith, ap length is)
body_within (Length n) bytes body is = let few = is.0 in omega (arith, ap length is.2, length-take n bytes)
body_within Chunked bytes body is = is.within

pub readable : (bytes : List ℕ) (request : Request) → IsRequest bytes request → IsReadable request
readable bytes request is =
    let tree = is.has_head.tree in
    let valid = is.has_head.begins.valid in
    let says = is.has_head.says in
    let path : request.path ≡ tree.target = is.path_is ∙ says.path_is in
    record {
      method = subst IsToken (sym (is.method_is ∙ says.method_is)) valid.method;
      path = subst (λ (p : List ℕ). (0 < length p) × AllPass is_uri_byte p) (sym path) valid.target;
      path_text = subst IsUtf8 (sym path) valid.target_text;
      client = subst IsName (sym is.client_is) (one_name (values_of (codes "uss-client") (map name_and_value tree.fields)) is.head.client says.named);
      body = body_within is.head.framing is.rest request.body is.has_body;
    }
