-- How long the head of a response may be, and how its pieces make up the text.
use Rattle.std.proofs.Common.{◌≡◌, ℕ, zero, suc, ◌<◌, ◌≤◌, Bool, true, false, ◌&&◌, List, [], ◌++◌, length, nat_le, ◌==◌, if◌then◌else◌, codes, decimal, refl, sym, ap, ap₂, ◌∙◌, arith, append_assoc}
use Rattle.std.specs.Prelude.{unwrap_or}
use Rattle.std.proofs.lemmas.Bool.{cond-false, and_parts, leb-true, ne_eqb}
use Rattle.std.proofs.lemmas.Bool.Decides.{Decides-below_and}
use Rattle.uss_http_response.specs.declared.response.Response.{Response}
use Rattle.http.specs.StatusCode.{reason_phrase}
use Rattle.uss_http.specs.Writing.{phrase_of, status_text, rest_text, body_text, response_text}

abbrev is_short : ℕ → Bool
is_short status = nat_le (length (phrase_of status)) 31

abbrev are_short_below : ℕ → Bool
are_short_below zero = true
are_short_below (suc n) = is_short n && are_short_below n

short_below : (status : ℕ) → status < 1000 → is_short status ≡ true
short_below status small = (Decides-below_and is_short (λ k. is_short k ≡ true) are_short_below (λ k. (λ x. x, λ x. x)) refl (λ _. refl) 1000).0 refl status small

short_if : (test : Bool) (text : List ℕ) → (test ≡ true → length (if test then text else []) ≤ 31) → length (if test then text else []) ≤ 31
short_if true text h = h refl
short_if false text h = omega arith

-- no phrase is longer than "Network Authentication Required"
pub short_phrase : (status : ℕ) (text : List ℕ) → text ≡ phrase_of status → length text ≤ 31
short_phrase status text is =
    rw is (short_if (nat_le 100 status && nat_le status 999) (unwrap_or (reason_phrase status) []) (λ within.
    let most : status ≤ 999 = leb-true status 999 (and_parts (nat_le 100 status) (nat_le status 999) within).1 in
    leb-true (length (phrase_of status)) 31 (short_below status (omega arith))))

regroup : (line a b c body : List ℕ) → line ++ a ++ b ++ c ++ body ≡ line ++ (a ++ b ++ c ++ body)
regroup line a b c body = simp append_assoc

-- the status line, the fields and the body are the text of a response that isn't a 204
pub with_fields : (response : Response) (head : List ℕ) → (response.status ≡ 204 → ⊥)
    → head ≡ status_text response.status ++ codes "\r\nContent-Type: application/json\r\nContent-Length: " ++ decimal (length response.body) ++ codes "\r\nConnection: close\r\n\r\n"
    → head ++ body_text response ≡ response_text response
with_fields response head other is =
    let no : (response.status == 204) ≡ false = ne_eqb response.status 204 other in
    let line = status_text response.status in
    let digits = decimal (length response.body) in
    let body : body_text response ≡ response.body = cond-false (response.status == 204) _ _ no in
    let rest : rest_text response ≡ codes "\r\nContent-Type: application/json\r\nContent-Length: " ++ digits ++ codes "\r\nConnection: close\r\n\r\n" ++ response.body = cond-false (response.status == 204) _ _ no in
    ap₂ (λ (a b : List ℕ). a ++ b) is body ∙ regroup line (codes "\r\nContent-Type: application/json\r\nContent-Length: ") digits (codes "\r\nConnection: close\r\n\r\n") response.body ∙ ap (λ (t : List ℕ). line ++ t) (sym rest)
