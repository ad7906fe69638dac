-- A base URL followed by a path is a base URL.
use Rattle.std.proofs.Common.{◌^◌, ◌≡◌, ◌≢◌, ℕ, zero, suc, ◌+◌, ◌-◌, ◌<◌, ◌≤◌, Bool, true, false, not, cond, ◌&&◌, ◌||◌, ◌==◌, ltb, List, [], ◌∷◌, ◌++◌, length, get_or, take, drop, Some, None, Ok, Err, All, sym, refl, ap, ◌∙◌, subst, arith, length-append, take_all, one-add, zero-add, suc-add, append_assoc, lit≤}
use Rattle.std.specs.Prelude.{decimal, Option, unwrap_or, option_map, codes, bytes_eq, reverse}
use Rattle.std.specs.List.{prefix_len}
use Rattle.std.specs.Char.{is_ascii_alphabetic}
use Rattle.std.proofs.lemmas.Bool.{cond-false, lt-leb, and_parts}
use Rattle.std.proofs.lemmas.Bool.Decides.{nat_tests}
use Rattle.std.proofs.lemmas.List.{get_or-reverse, length-reverse, get_or_append_left}
use Rattle.std.proofs.lemmas.List.{take-append-le, drop-append-le}
use Rattle.std.proofs.lemmas.List.Elements.{All-nil, All-cons, All-head, All-tail, All-append, All-weaker}
use Rattle.std.proofs.lemmas.Slice.Eq.{bytes_eq-Decides}
use Rattle.std.proofs.Math.Nat.{sub-zero}
use Rattle.std.proofs.lemmas.Fmt.{length-decimal-le, decimal_nonempty}
use Rattle.url.proofs.HostRoundTrip.{All-decimal}
use Rattle.url.specs.declared.error.ParseError.{ParseError}
use Rattle.url.specs.declared.error.ParseError.TheVariants.{EmptyHost}
use Rattle.url.specs.declared.host.Host.TheVariants.{Domain}
use Rattle.url.specs.declared.scheme.SchemeType.TheVariants.{File, NotSpecial}
use Rattle.url.specs.Input.{is_c0_control_or_space, is_tab_or_new_line, trim_start, trim_c0_control_and_space, strip_tabs_and_new_lines, lowercase, split_once, rsplit_once}
use Rattle.url.specs.Scheme.{scheme_type, default_port, is_special, is_file, is_slash, is_scheme_byte, scheme_len}
use Rattle.url.specs.Host.{parse_host, parse_file_host}
use Rattle.url.specs.Path.{segment_len, is_windows_drive_letter, parse_path, parse_path_start}
use Rattle.url.specs.Parts.{Parts}
use Rattle.url.specs.Parser.{Parsed, and_then, split_port, parse_port, lacks_host, parse_authority, with_path, leading_slashes, skip_slashes, after_double_slash, parse_non_special, file_with_host, after_file_double_slash, file_start, parse_file, parse_body, with_tail, before_tail, parse_parts, split_scheme, parse_by_scheme, parse_url}
use Rattle.url.proofs.InputLemmas.{IsNot, Passes, StopsAt, split_once_none, filter_all}
use Rattle.url.proofs.SchemeLemmas.{file_from_is_file, file_from_scheme_type}
use Rattle.url.proofs.OnLiterals.{url_on_literals}
use Rattle.std.specs.Prelude.{is_none, nat_le}
use Rattle.std.specs.List.{list_all}
use Rattle.uss_intent.specs.Texts.{is_visible, is_plain_http, last_byte, IsBase, tagged_base}
use Rattle.uss_intent.proofs.TextLemmas.{base_parts}

-- a byte of visible ASCII
abbrev IsVisible : ℕ → Type 0
IsVisible b = (33 ≤ b) × (b ≤ 126)

-- a base URL, as facts
record IsBaseText (text : List ℕ) : Type 0 where
  visible : All IsVisible text
  short : length text ≤ 300
  ends : last_byte text ≢ 47
  http : is_plain_http (parse_url None text) ≡ true

-- ---- nothing is trimmed, stripped or split

none_at_front : (xs : List ℕ) → (0 < length xs → 32 < get_or xs 0 0) → prefix_len is_c0_control_or_space xs ≡ 0
none_at_front [] first = refl
none_at_front (x ∷ xs) first = cond-false _ _ _ (lt-leb x 32 (first (omega arith)))

untrimmed : (xs : List ℕ) → All IsVisible xs → trim_c0_control_and_space xs ≡ xs
unfolding trim_c0_control_and_space
untrimmed xs visible =
    let start = none_at_front xs (λ inside. let v : IsVisible (get_or xs 0 0) = visible 0 0 inside in omega arith) in
    let len = length-reverse xs in
    let end = none_at_front (reverse xs) (λ inside. rw (get_or-reverse xs 0 0 (omega arith), sub-zero) (let v : IsVisible (get_or xs (length xs - 1) 0) = visible (length xs - 1) 0 (omega arith) in omega arith)) in
    rw (start, end) (take_all _ xs (omega arith))

kept_byte : (b : ℕ) → IsVisible b → not (is_tab_or_new_line b) ≡ true
kept_byte b above = grind (arith, nat_tests)

unstripped : (xs : List ℕ) → All IsVisible xs → strip_tabs_and_new_lines xs ≡ xs
unfolding strip_tabs_and_new_lines
unstripped xs visible =
    filter_all _ xs (All-weaker IsVisible (Passes (λ b. not (is_tab_or_new_line b))) kept_byte xs visible)

clean : (xs : List ℕ) → All IsVisible xs → strip_tabs_and_new_lines (trim_c0_control_and_space xs) ≡ xs
clean xs visible = ap strip_tabs_and_new_lines (untrimmed xs visible) ∙ unstripped xs visible

not_same : (x s : ℕ) → (x == s) ≡ false → x ≢ s
not_same x s h = grind (arith, nat_tests)

unsplit_at : (test : Bool) (x : ℕ) (xs : List ℕ) (later : List ℕ × Option (List ℕ)) → (cond {A = List ℕ × Option (List ℕ)} test ([], Some xs) (x ∷ later.0, later.1)).1 ≡ None → (test ≡ false) × (later.1 ≡ None)
unsplit_at true x xs later none = cc
unsplit_at false x xs later none = (refl, none)

unsplit : (s : ℕ) (xs : List ℕ) → (split_once s xs).1 ≡ None → All (IsNot s) xs
unfolding split_once
unsplit s [] none = All-nil (IsNot s)
unsplit s (x ∷ xs) none =
    let h : ((x == s) ≡ false) × ((split_once s xs).1 ≡ None) = unsplit_at (x == s) x xs (split_once s xs) none in
    All-cons (IsNot s) x xs (not_same x s h.0) (unsplit s xs h.1)

-- ---- what is read tells how it was read

ok_then : {A B P : Type 0} (r : Parsed A) (next : A → Parsed B) (y : B) → and_then r next ≡ Ok y → ((x : A) → r ≡ Ok x → next x ≡ Ok y → P) → P
ok_then (Ok x) next y e k = k x refl e
ok_then (Err d) next y e k = cc

past_error : {A : Type 0} (test : Bool) (d : ParseError) (r : Parsed A) (y : A) → cond test (Err d) r ≡ Ok y → r ≡ Ok y
past_error true d r y e = cc
past_error false d r y e = e

by_test : {A P : Type 0} (test : Bool) (r s : Parsed A) (y : A) → cond test r s ≡ Ok y → (test ≡ true → r ≡ Ok y → P) → (test ≡ false → s ≡ Ok y → P) → P
by_test true r s y e k l = k refl e
by_test false r s y e k l = l refl e

same_ok : {A : Type 0} (x y : A) → ◌≡◌ {A = Parsed A} (Ok x) (Ok y) → x ≡ y
same_ok x y e = cc

same_some : {A : Type 0} (x y : A) → ◌≡◌ {A = Option A} (Some x) (Some y) → x ≡ y
same_some x y e = cc

mapped_none : {A B : Type 0} (f : A → B) (o : Option A) → option_map f o ≡ None → o ≡ None
mapped_none f None e = refl
mapped_none f (Some x) e = cc

scheme_of_ok : (x y : Parts) → ◌≡◌ {A = Parsed Parts} (Ok x) (Ok y) → y.scheme ≡ x.scheme
scheme_of_ok x y e = sym (ap (λ u. u.scheme) (same_ok x y e))

authority_scheme : (scheme bytes : List ℕ) (head : Parts) → parse_authority scheme bytes ≡ Ok head → head.scheme ≡ scheme
unfolding parse_authority
authority_scheme scheme bytes head e =
    let text = (split_port (rsplit_once 64 bytes).1).0 in
    let lacks = lacks_host (rsplit_once 64 bytes).0 text (split_port (rsplit_once 64 bytes).1).1 in
    ok_then (parse_host (scheme_type scheme) text) _ head (past_error lacks _ _ head e) λ host read e₁.
    ok_then (parse_port scheme (unwrap_or (split_port (rsplit_once 64 bytes).1).1 [])) _ head e₁ λ port got e₂.
    scheme_of_ok _ head e₂

slashes_scheme : (scheme bytes : List ℕ) (url : Parts) → after_double_slash scheme bytes ≡ Ok url → url.scheme ≡ scheme
unfolding after_double_slash
slashes_scheme scheme bytes url e =
    let kind = scheme_type scheme in
    let len = segment_len kind bytes in
    ok_then (parse_authority scheme (take len bytes)) _ url e λ head read e₁.
    scheme_of_ok (with_path head (parse_path_start kind [] (drop len bytes))) url e₁ ∙ authority_scheme scheme _ head read

file_slashes_scheme : (bytes : List ℕ) (url : Parts) → after_file_double_slash bytes ≡ Ok url → url.scheme ≡ codes "file"
unfolding after_file_double_slash
file_slashes_scheme bytes url e =
    let len = segment_len File bytes in
    by_test (is_windows_drive_letter (take len bytes)) _ _ url e (λ _ k. scheme_of_ok (with_path (file_with_host (Domain [])) (parse_path File [] bytes)) url k) λ _ k.
    ok_then (parse_file_host (take len bytes)) _ url k λ host read l.
    scheme_of_ok (with_path (file_with_host host) (parse_path_start File [] (drop len bytes))) url l

file_scheme : (body : List ℕ) (url : Parts) → parse_file None body ≡ Ok url → url.scheme ≡ codes "file"
unfolding parse_file
file_scheme body url e =
    let slashes = leading_slashes File body in
    by_test (slashes == 2) _ _ url e (λ _ k. file_slashes_scheme _ url k) λ _ k.
    scheme_of_ok (with_path (file_start None (slashes == 0) (drop slashes body)) (parse_path File (file_start None (slashes == 0) (drop slashes body)).path (drop slashes body))) url k

non_special_scheme : (scheme body : List ℕ) (url : Parts) → parse_non_special scheme body ≡ Ok url → url.scheme ≡ scheme
unfolding parse_non_special
non_special_scheme scheme body url e =
    by_test (leading_slashes NotSpecial body == 2) _ _ url e (λ _ k. slashes_scheme scheme (drop 2 body) url k) λ _ k.
    by_test (leading_slashes NotSpecial body == 1) _ _ url k (λ _ l. scheme_of_ok _ url l) λ _ l. scheme_of_ok _ url l

body_scheme : (scheme body : List ℕ) (url : Parts) → parse_body scheme None body ≡ Ok url → url.scheme ≡ scheme
unfolding parse_body
body_scheme scheme body url e =
    by_test (is_file (scheme_type scheme)) _ _ url e
    (λ file k. file_scheme body url k ∙ sym (file_from_scheme_type scheme (file_from_is_file _ file)))
    λ other k. by_test (is_special (scheme_type scheme)) _ _ url k (λ _ l. slashes_scheme scheme _ url l) (λ _ l. non_special_scheme scheme body url l)

end_scheme : (test : Bool) (u v : Parts) → u.scheme ≡ v.scheme → (cond test u v).scheme ≡ v.scheme
end_scheme true u v e = e
end_scheme false u v e = refl

tail_scheme : (u : Parts) (query fragment : Option (List ℕ)) → (with_tail (before_tail u query fragment) query fragment).scheme ≡ u.scheme
tail_scheme u query fragment = end_scheme _ _ u refl

http_body : (body : List ℕ) (url : Parts) → parse_body (codes "http") None body ≡ Ok url → after_double_slash (codes "http") (skip_slashes body) ≡ Ok url
unfolding parse_body scheme_type default_port
http_body body url e = e

pub record WasRead (found : Option (List ℕ × List ℕ)) (asked marked : Option (List ℕ)) : Type 0 where
  pub query : asked ≡ None
  pub fragment : marked ≡ None
  pub scheme : List ℕ
  pub body : List ℕ
  pub split : found ≡ Some (scheme, body)
  pub lower : lowercase scheme ≡ codes "http"
  pub read : Parts
  pub parsed : after_double_slash (codes "http") (skip_slashes body) ≡ Ok read

was_read : (split : Option (List ℕ × List ℕ)) (text : List ℕ) (query fragment : Option (List ℕ)) (url : Parts) → parse_by_scheme split None text query fragment ≡ Ok url → url.scheme ≡ codes "http" → url.query ≡ None → url.fragment ≡ None → WasRead split query fragment
unfolding parse_parts
was_read None text query fragment url e http q f = cc
was_read (Some split) text query fragment url e http q f =
    let scheme = lowercase split.0 in
    ok_then (parse_body scheme None split.1) _ url e λ u parsed e₁.
    let same : with_tail (before_tail u query fragment) query fragment ≡ url = same_ok _ url e₁ in
    let lower : scheme ≡ codes "http" = sym (body_scheme scheme split.1 u parsed) ∙ sym (tail_scheme u query fragment) ∙ ap (λ (x : Parts). x.scheme) same ∙ http in
    record {
      query = mapped_none _ query (ap (λ (x : Parts). x.query) same ∙ q);
      fragment = mapped_none _ fragment (ap (λ (x : Parts). x.fragment) same ∙ f);
      scheme = split.0;
      body = split.1;
      split = refl;
      lower = lower;
      read = u;
      parsed = http_body split.1 u (subst (λ s. parse_body s None split.1 ≡ Ok u) lower parsed);
    }

plain_read : (xs : List ℕ) → All IsVisible xs → All (IsNot 35) xs → All (IsNot 63) xs → parse_url None xs ≡ parse_by_scheme (split_scheme xs) None xs None None
unfolding parse_url
plain_read xs visible hash question =
    let first = ap (split_once 35) (clean xs visible) ∙ split_once_none 35 xs hash in
    let second = ap (λ r. split_once 63 r.0) first ∙ split_once_none 63 xs question in
    (λ i. parse_by_scheme (split_scheme (second i).0) None (second i).0 (second i).1 (first i).1)

-- the base as it was read
pub record HttpRead (xs : List ℕ) : Type 0 where
  pub hash : All (IsNot 35) xs
  pub question : All (IsNot 63) xs
  pub read : WasRead (split_scheme xs) None None

http_read : (xs : List ℕ) (url : Parts) → All IsVisible xs → parse_url None xs ≡ Ok url → url.scheme ≡ codes "http" → url.query ≡ None → url.fragment ≡ None → HttpRead xs
unfolding parse_url
http_read xs url visible e http q f =
    let hash = split_once 35 (strip_tabs_and_new_lines (trim_c0_control_and_space xs)) in
    let question = split_once 63 hash.0 in
    let read = was_read (split_scheme question.0) question.0 question.1 hash.1 url e http q f in
    let no_hash : All (IsNot 35) xs = unsplit 35 xs (sym (ap (λ l. (split_once 35 l).1) (clean xs visible)) ∙ read.fragment) in
    let whole : hash ≡ (xs, None) = ap (split_once 35) (clean xs visible) ∙ split_once_none 35 xs no_hash in
    let no_question : All (IsNot 63) xs = unsplit 63 xs (sym (ap (λ (r : List ℕ × Option (List ℕ)). (split_once 63 r.0).1) whole) ∙ read.query) in
    let front : question ≡ (xs, None) = ap (λ (r : List ℕ × Option (List ℕ)). split_once 63 r.0) whole ∙ split_once_none 63 xs no_question in
    record {
      hash = no_hash;
      question = no_question;
      read = subst (λ (s : List ℕ). WasRead (split_scheme s) None None) (ap (λ (r : List ℕ × Option (List ℕ)). r.0) front) (subst (λ (o : Option (List ℕ)). WasRead (split_scheme question.0) o None) read.query (subst (λ (o : Option (List ℕ)). WasRead (split_scheme question.0) question.1 o) read.fragment read));
    }

-- ---- more of a path

prefix_append : (test : ℕ → Bool) (xs ys : List ℕ) → StopsAt test ys → prefix_len test (xs ++ ys) ≡ prefix_len test xs
prefix_append test [] [] stops = refl
prefix_append test [] (y ∷ ys) stops = cond-false _ _ _ stops
prefix_append test (x ∷ xs) ys stops = ap (λ n. cond (test x) (1 + n) 0) (prefix_append test xs ys stops)

prefix_within : (test : ℕ → Bool) (xs : List ℕ) → prefix_len test xs ≤ length xs
prefix_within test [] = lit≤ tt
prefix_within test (x ∷ xs) = let h = prefix_within test xs in elim (test x) as (λ v. cond v (1 + prefix_len test xs) 0 ≤ length (x ∷ xs)) [ true ↦ omega arith | false ↦ omega arith ]

trim_append : (test : ℕ → Bool) (xs ys : List ℕ) → 0 < length (trim_start test xs) → trim_start test (xs ++ ys) ≡ trim_start test xs ++ ys
trim_append test [] ys some = absurd (omega arith)
trim_append test (x ∷ xs) ys some =
    elim (test x) as (λ v. 0 < length (drop (cond v (1 + prefix_len test xs) 0) (x ∷ xs)) → drop (cond v (1 + prefix_len test (xs ++ ys)) 0) (x ∷ xs ++ ys) ≡ drop (cond v (1 + prefix_len test xs) 0) (x ∷ xs) ++ ys)
    [ true ↦ λ s. rw (one-add, one-add) (trim_append test xs ys (rw one-add at s)) | false ↦ λ s. refl ] some

empty_refused : after_double_slash (codes "http") [] ≡ Err EmptyHost
unfolding url_on_literals
empty_refused = refl

has_host : (rest : List ℕ) (u : Parts) → after_double_slash (codes "http") rest ≡ Ok u → 0 < length rest
has_host [] u e = let none = sym empty_refused ∙ e in cc
has_host (b ∷ rest) u e = omega arith

slash_stops : (kind : _) (more : List ℕ) → StopsAt (λ b. not (is_slash kind b)) (47 ∷ more)
slash_stops kind more = refl

after_more : (rest more : List ℕ) (u : Parts) → after_double_slash (codes "http") rest ≡ Ok u → (v : Parts) × (after_double_slash (codes "http") (rest ++ 47 ∷ more) ≡ Ok v) × (v.scheme ≡ u.scheme)
unfolding after_double_slash
after_more rest more u e =
    let kind = scheme_type (codes "http") in
    let len = segment_len kind rest in
    let same : segment_len kind (rest ++ 47 ∷ more) ≡ len = prefix_append (λ b. not (is_slash kind b)) rest (47 ∷ more) (slash_stops kind more) in
    let within : len ≤ length rest = prefix_within (λ b. not (is_slash kind b)) rest in
    let front : take (segment_len kind (rest ++ 47 ∷ more)) (rest ++ 47 ∷ more) ≡ take len rest = ap (λ n. take n (rest ++ 47 ∷ more)) same ∙ take-append-le len rest (47 ∷ more) within in
    let path = parse_path_start kind [] (drop (segment_len kind (rest ++ 47 ∷ more)) (rest ++ 47 ∷ more)) in
    ok_then (parse_authority (codes "http") (take len rest)) _ u e λ head read e₁.
    let scheme = scheme_of_ok (with_path head (parse_path_start kind [] (drop len rest))) u e₁ in (
      with_path head path,
      ap (λ (r : Parsed Parts). and_then r (λ (h : Parts). Ok (with_path h path))) (ap (parse_authority (codes "http")) front ∙ read),
      sym scheme,
    )

-- ---- the scheme

cases_cond_some : (test : Bool) (x y : List ℕ × List ℕ) → cond test (Some x) None ≡ Some y → (test ≡ true) × (x ≡ y)
cases_cond_some true x y e = (refl, same_some x y e)
cases_cond_some false x y e = cc

inside_at : (xs : List ℕ) (i : ℕ) → get_or xs i 0 ≡ 58 → i < length xs
inside_at [] i e = let none : 0 ≡ 58 = e in cc
inside_at (x ∷ xs) zero e = omega arith
inside_at (x ∷ xs) (suc i) e = let h = inside_at xs i e in omega arith

scheme_len_append : (xs more : List ℕ) → 0 < length xs → scheme_len (xs ++ 47 ∷ more) ≡ scheme_len xs
unfolding scheme_len
scheme_len_append xs more some =
    rw (get_or_append_left xs (47 ∷ more) 0 0 some) (ap (λ n. cond (is_ascii_alphabetic (get_or xs 0 0)) n 0) (prefix_append is_scheme_byte xs (47 ∷ more) refl))

is_same : (x y : ℕ) → (x == y) ≡ true → x ≡ y
is_same x y h = grind (arith, nat_tests)

above : (m n : ℕ) → m < n → 0 < n
above m n h = omega arith

split_append : (xs scheme body more : List ℕ) → split_scheme xs ≡ Some (scheme, body) → split_scheme (xs ++ 47 ∷ more) ≡ Some (scheme, body ++ 47 ∷ more)
unfolding split_scheme
split_append xs scheme body more e =
    let len = scheme_len xs in
    let h = cases_cond_some (ltb 0 len && get_or xs len 0 == 58) (take len xs, drop (len + 1) xs) (scheme, body) e in
    let colon : get_or xs len 0 ≡ 58 = is_same _ 58 (and_parts (ltb 0 len) (get_or xs len 0 == 58) h.0).1 in
    let inside = inside_at xs len colon in
    let some : 0 < length xs = above len (length xs) inside in
    let same = scheme_len_append xs more some in
    rw (same, get_or_append_left xs (47 ∷ more) 0 len inside, h.0, take-append-le len xs (47 ∷ more) (omega arith), drop-append-le (len + 1) xs (47 ∷ more) (omega arith)) (ap (λ (p : List ℕ × List ℕ). Some (p.0, p.1 ++ 47 ∷ more)) h.1)

-- ---- the whole

-- what a base URL is, as url reads it
pub record IsHttp (url : Parts) : Type 0 where
  pub scheme : url.scheme ≡ codes "http"
  pub query : url.query ≡ None
  pub fragment : url.fragment ≡ None

none_from_test : (o : Option (List ℕ)) → is_none o ≡ true → o ≡ None
none_from_test None h = refl
none_from_test (Some x) h = cc

http_from_test : (r : Parsed Parts) → is_plain_http r ≡ true → (url : Parts) × (r ≡ Ok url) × IsHttp url
http_from_test (Err e) h = cc
http_from_test (Ok url) h =
    let both = and_parts (bytes_eq url.scheme (codes "http") && is_none url.query) (is_none url.fragment) h in
    let rest = and_parts (bytes_eq url.scheme (codes "http")) (is_none url.query) both.0 in
    (url, refl, record { scheme = (bytes_eq-Decides url.scheme (codes "http")).0 rest.0; query = none_from_test url.query rest.1; fragment = none_from_test url.fragment both.1 })

test_from_http : (url : Parts) → url.scheme ≡ codes "http" → url.query ≡ None → url.fragment ≡ None → is_plain_http (Ok url) ≡ true
test_from_http url s q f = rw (s, q, f) refl

-- a byte of a path, and no end of it
abbrev pub IsPathByte : ℕ → Type 0
IsPathByte b = IsVisible b × (b ≢ 35) × (b ≢ 63)

read_more : (xs more : List ℕ) → All IsVisible xs → All IsPathByte (47 ∷ more) → is_plain_http (parse_url None xs) ≡ true → is_plain_http (parse_url None (xs ++ 47 ∷ more)) ≡ true
unfolding parse_parts parse_body scheme_type default_port
read_more xs more visible path http =
    let h = http_from_test (parse_url None xs) http in
    let base = http_read xs h.0 visible h.1 h.2.scheme h.2.query h.2.fragment in
    let tail = 47 ∷ more in
    let whole : All IsVisible (xs ++ tail) = All-append IsVisible xs tail visible (All-weaker IsPathByte IsVisible (λ b p. p.0) tail path) in
    let hash : All (IsNot 35) (xs ++ tail) = All-append (IsNot 35) xs tail base.hash (All-weaker IsPathByte (IsNot 35) (λ b p. p.1) tail path) in
    let question : All (IsNot 63) (xs ++ tail) = All-append (IsNot 63) xs tail base.question (All-weaker IsPathByte (IsNot 63) (λ b p. p.2) tail path) in
    let w = base.read in
    let split : split_scheme (xs ++ tail) ≡ Some (w.scheme, w.body ++ tail) = split_append xs w.scheme w.body more w.split in
    let slashes : skip_slashes (w.body ++ tail) ≡ skip_slashes w.body ++ tail = trim_append (λ b. b == 47 || b == 92) w.body tail (has_host (skip_slashes w.body) w.read w.parsed) in
    let after = after_more (skip_slashes w.body) more w.read w.parsed in
    let body : parse_body (codes "http") None (w.body ++ tail) ≡ Ok after.0 = ap (after_double_slash (codes "http")) slashes ∙ after.1 in
    let v = after.0 in
    let read : parse_url None (xs ++ tail) ≡ Ok (with_tail (before_tail v None None) None None) =
    plain_read (xs ++ tail) whole hash question
    ∙ ap (λ (s : Option (List ℕ × List ℕ)). parse_by_scheme s None (xs ++ tail) None None) split
    ∙ ap (λ (s : List ℕ). parse_parts s None (w.body ++ tail) None None) w.lower
    ∙ ap (λ (r : Parsed Parts). and_then r (λ (u : Parts). Ok (with_tail (before_tail u None None) None None))) body in
    let scheme = tail_scheme v None None ∙ slashes_scheme (codes "http") _ v after.1 in
    ap is_plain_http read ∙ test_from_http (with_tail (before_tail v None None) None None) scheme refl refl

-- A base URL followed by a path that doesn't end in a slash is a base URL, if it isn't too long.
base_with_path : (xs more : List ℕ) → IsBaseText xs → All IsPathByte (47 ∷ more) → length (xs ++ 47 ∷ more) ≤ 300 → last_byte (xs ++ 47 ∷ more) ≢ 47 → IsBaseText (xs ++ 47 ∷ more)
base_with_path xs more base path short ends =
    record {
      visible = All-append IsVisible xs (47 ∷ more) base.visible (All-weaker IsPathByte IsVisible (λ b p. p.0) (47 ∷ more) path);
      short = short;
      ends = ends;
      http = read_more xs more base.visible path base.http;
    }

-- ---- the base URL of an attempt

at_right : (xs ys : List ℕ) (i : ℕ) → get_or (xs ++ ys) (length xs + i) 0 ≡ get_or ys i 0
at_right [] ys i = rw zero-add refl
at_right (x ∷ xs) ys i = rw suc-add (at_right xs ys i)

last_of_more : (xs ys : List ℕ) → 0 < length ys → last_byte (xs ++ ys) ≡ get_or ys (length ys - 1) 0
last_of_more xs ys some =
    let len = length-append xs ys in
    let at : length (xs ++ ys) - 1 ≡ length xs + (length ys - 1) = omega arith in
    ap (λ n. get_or (xs ++ ys) n 0) at ∙ at_right xs ys (length ys - 1)

digit_is : (b : ℕ) → (48 ≤ b) × (b ≤ 57) → IsPathByte b
digit_is b h = ((omega arith, omega arith), omega arith, omega arith)

tagged_text : (base : List ℕ) (n : ℕ) → IsBaseText base → length base ≤ 256 → n < 2 ^ 64 → IsBaseText (base ++ codes "/a/" ++ decimal n)
tagged_text base n is short fits =
    let some = decimal_nonempty n fits in
    let short_digits = length-decimal-le 20 n (omega arith) (omega arith) fits in
    let numerals = All-decimal n fits in
    let digits : All IsPathByte (decimal n) = All-weaker (λ (b : ℕ). (48 ≤ b) × (b ≤ 57)) IsPathByte digit_is (decimal n) numerals in
    let path : All IsPathByte (codes "/a/" ++ decimal n) = All-cons IsPathByte 47 (97 ∷ 47 ∷ decimal n) ((omega arith, omega arith), omega arith, omega arith) (All-cons IsPathByte 97 (47 ∷ decimal n) ((omega arith, omega arith), omega arith, omega arith) (All-cons IsPathByte 47 (decimal n) ((omega arith, omega arith), omega arith, omega arith) digits)) in
    let len = length-append base (codes "/a/" ++ decimal n) in
    let last : last_byte ((base ++ codes "/a/") ++ decimal n) ≡ get_or (decimal n) (length (decimal n) - 1) 0 = last_of_more (base ++ codes "/a/") (decimal n) some in
    let digit : (48 ≤ get_or (decimal n) (length (decimal n) - 1) 0) × (get_or (decimal n) (length (decimal n) - 1) 0 ≤ 57) = numerals (length (decimal n) - 1) 0 (omega arith) in
    let group : base ++ codes "/a/" ++ decimal n ≡ base ++ (codes "/a/" ++ decimal n) = append_assoc base (codes "/a/") (decimal n) in
    subst IsBaseText (sym group) (base_with_path base (97 ∷ 47 ∷ decimal n) is path (omega arith) (subst (λ (t : List ℕ). last_byte t ≢ 47) group (λ e. absurd (omega (arith, digit)))))

-- ---- as tests

visible_fact : (b : ℕ) → is_visible b ≡ true → IsVisible b
visible_fact b h = (grind (arith, nat_tests), grind (arith, nat_tests))

visible_test : (b : ℕ) → IsVisible b → is_visible b ≡ true
visible_test b h = grind (arith, nat_tests)

all_facts : (xs : List ℕ) → list_all is_visible xs ≡ true → All IsVisible xs
all_facts [] h = All-nil IsVisible
all_facts (x ∷ xs) h =
    let parts = and_parts (is_visible x) (list_all is_visible xs) h in
    All-cons IsVisible x xs (visible_fact x parts.0) (all_facts xs parts.1)

all_tests : (xs : List ℕ) → All IsVisible xs → list_all is_visible xs ≡ true
all_tests [] h = refl
all_tests (x ∷ xs) h =
    rw (visible_test x (All-head IsVisible x xs h)) (all_tests xs (All-tail IsVisible x xs h))

short_fact : (n : ℕ) → nat_le n 300 ≡ true → n ≤ 300
short_fact n h = grind (arith, nat_tests)

short_test : (n : ℕ) → n ≤ 300 → nat_le n 300 ≡ true
short_test n h = grind (arith, nat_tests)

ends_fact : (b : ℕ) → not (b == 47) ≡ true → b ≢ 47
ends_fact b h = grind (arith, nat_tests)

ends_test : (b : ℕ) → b ≢ 47 → not (b == 47) ≡ true
ends_test b h = grind (arith, nat_tests)

text_from_base : (xs : List ℕ) → IsBase xs → IsBaseText xs
text_from_base xs is =
    let parts = base_parts xs is in
    record { visible = all_facts xs parts.visible; short = short_fact (length xs) parts.short; ends = ends_fact (last_byte xs) parts.ends; http = parts.http }

base_from_text : (xs : List ℕ) → IsBaseText xs → IsBase xs
base_from_text xs is =
    rw (short_test (length xs) is.short, ends_test (last_byte xs) is.ends, all_tests xs is.visible) is.http

-- a base URL with `/a/` and a number in decimal is a base URL
pub tagged_is_base : (base : List ℕ) (n : ℕ) → IsBase base → length base ≤ 256 → n < 2 ^ 64 → IsBase (tagged_base base n)
tagged_is_base base n is short fits = base_from_text (tagged_base base n) (tagged_text base n (text_from_base base is) short fits)
