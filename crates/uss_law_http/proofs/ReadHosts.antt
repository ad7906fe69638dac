-- What the parser of URLs reads of an http URL has a host that fits, and a port that fits.
use Rattle.std.proofs.Common.{◌≡◌, ℕ, zero, suc, ◌+◌, ◌-◌, ◌*◌, ◌^◌, ◌<◌, ◌≤◌, inl, inr, Bool, true, false, cond, not, ◌&&◌, ◌||◌, ◌==◌, List, [], ◌∷◌, ◌++◌, length, get_or, take, drop, replicate, Option, Some, None, Ok, Err, All, MatchOption, refl, sym, ap, ◌∙◌, subst, arith, length-append}
use Rattle.std.specs.Prelude.{nat_eq, nat_lt, is_some, unwrap_or, codes, slice_index, slice_range}
use Rattle.std.specs.List.{list_all, list_any}
use Rattle.std.specs.Char.{is_ascii_digit}
use Rattle.std.specs.Int.{w32, to_be_bytes}
use Rattle.std.specs.Option.{option_eq}
use Rattle.std.specs.Str.Parse.{digits_value}
use Rattle.std.specs.Net.Addr.{segments_of}
use Rattle.std.specs.Net.Grammar.{IsDotted, IsGroup, IsGroupsAfter, IsColonHex}
use Rattle.std.specs.Net.Reader.{Read, whole_value, read_ipv6}
use Rattle.std.proofs.NetLemmas.Ipv6.{read_ipv6_sound}
use Rattle.std.proofs.lemmas.Bool.{cond_both, both_ways, and_parts, ltb-true, eq-eqb}
use Rattle.std.proofs.lemmas.Bool.Decides.{nat_tests}
use Rattle.std.proofs.lemmas.Int.Digits.{digits_value-lt}
use Rattle.std.proofs.lemmas.List.{length-replicate}
use Rattle.std.proofs.lemmas.List.Elements.{All-nil, All-cons, All-append}
use Rattle.url.specs.declared.error.ParseError.{ParseError}
use Rattle.url.specs.declared.host.Host.{Host}
use Rattle.url.specs.declared.host.Host.TheVariants.{Domain, Ipv4, Ipv6}
use Rattle.url.specs.declared.scheme.SchemeType.TheVariants.{File, SpecialNotFile, NotSpecial}
use Rattle.url.specs.Input.{is_empty, lowercase, split_once, rsplit_once, trim_c0_control_and_space, strip_tabs_and_new_lines}
use Rattle.url.specs.Scheme.{default_port, scheme_type, is_special, is_file}
use Rattle.url.specs.Ipv4.{ends_in_a_number, parse_ipv4}
use Rattle.url.specs.Host.{ipv4_host, ipv6_host, is_forbidden_in_domain, ascii_domain, host_of_ascii, parse_bracketed, parse_special_host, parse_host, parse_file_host, IsHostOf}
use Rattle.url.specs.Head.{scheme_only, with_authority}
use Rattle.url.specs.Path.{segment_len, is_windows_drive_letter, parse_path, parse_path_start, escape_end}
use Rattle.url.specs.Parts.{Parts, kind_of, IsPortOf}
use Rattle.url.specs.Parser.{Parsed, and_then, without_default_port, split_port, parse_port, lacks_host, parse_authority, with_path, leading_slashes, skip_slashes, after_double_slash, parse_non_special, file_with_host, file_start, after_file_double_slash, parse_file, parse_body, with_tail, before_tail, parse_parts, split_scheme, parse_by_scheme, parse_url}
use Rattle.url.proofs.HostLemmas.{none_from_list_any, ascii_domain-lower}

-- ---- steps

ok_then : {A B P : Type 0} (r : Parsed A) (next : A → Parsed B) (y : B) → and_then r next ≡ Ok y → ((x : A) → r ≡ Ok x → next x ≡ Ok y → P) → P
ok_then (Ok x) next y e k = k x refl e
ok_then (Err d) next y e k = cc

by_test : {A P : Type 0} (test : Bool) (r s : Parsed A) (y : A) → cond test r s ≡ Ok y → (test ≡ true → r ≡ Ok y → P) → (test ≡ false → s ≡ Ok y → P) → P
by_test true r s y e k l = k refl e
by_test false r s y e k l = l refl e

past_error : {A : Type 0} (test : Bool) (d : ParseError) (r : Parsed A) (y : A) → cond test (Err d) r ≡ Ok y → (test ≡ false) × (r ≡ Ok y)
past_error true d r y e = cc
past_error false d r y e = (refl, e)

same_ok : {A : Type 0} (x y : A) → ◌≡◌ {A = Parsed A} (Ok x) (Ok y) → x ≡ y
same_ok x y e = cc

-- ---- addresses

abbrev Below : ℕ → ℕ → Type 0
Below top item = item < top

at_each : (top : ℕ) (items : List ℕ) → 0 < top → All (Below top) items → (k : ℕ) → get_or items k 0 < top
at_each top [] some each k = some
at_each top (item ∷ items) some each zero = each 0 0 (omega arith)
at_each top (item ∷ items) some each (suc k) = at_each top items some (λ i d lt. each (suc i) d (omega arith)) k

zeros : (n : ℕ) → All (Below (2 ^ 16)) (replicate n 0)
zeros zero = All-nil (Below (2 ^ 16))
zeros (suc n) = All-cons (Below (2 ^ 16)) 0 (replicate n 0) (omega arith) (zeros n)

dotted_fits : (text octets : List ℕ) → IsDotted text octets → All (Below (2 ^ 16)) (segments_of octets)
dotted_fits text octets is =
    let (a, b, c, d) = is.fit in
    subst (λ (o : List ℕ). All (Below (2 ^ 16)) (segments_of o)) (sym is.value)
    (All-cons (Below (2 ^ 16)) (is.a * 256 + is.b) ((is.c * 256 + is.d) ∷ []) (omega arith) (All-cons (Below (2 ^ 16)) (is.c * 256 + is.d) [] (omega arith) (All-nil (Below (2 ^ 16)))))

group_fits : (text : List ℕ) (segment : ℕ) → IsGroup text segment → segment < 2 ^ 16
group_fits text segment is = short (length text) (digits_value 16 text) is.1 (digits_value-lt 16 text is.0.0.1) is.0.1
  where
    short : (n v : ℕ) → n ≤ 4 → v < 16 ^ n → v ≡ segment → segment < 2 ^ 16
    short zero v few lt same = omega arith
    short (suc zero) v few lt same = omega arith
    short (suc (suc zero)) v few lt same = omega arith
    short (suc (suc (suc zero))) v few lt same = omega arith
    short (suc (suc (suc (suc zero)))) v few lt same = omega arith
    short (suc (suc (suc (suc (suc n))))) v few lt same = absurd (omega arith)

groups_fit : (ipv4 : Bool) (lead text segments : List ℕ) → IsGroupsAfter ipv4 lead text segments → All (Below (2 ^ 16)) segments
groups_fit ipv4 lead text [] is = All-nil (Below (2 ^ 16))
groups_fit ipv4 lead text (s ∷ segments) (inl g) = All-cons (Below (2 ^ 16)) s segments (group_fits g.0 s g.3) (groups_fit ipv4 (codes ":") g.1 segments g.4)
groups_fit ipv4 lead text (s ∷ segments) (inr d) = subst (All (Below (2 ^ 16))) (sym d.5) (dotted_fits d.0 d.1 d.4)

abbrev AreSegments : List ℕ → Type 0
AreSegments segments = (length segments ≡ 8) × ((k : ℕ) → get_or segments k 0 < 2 ^ 16)

filled : (head tail : List ℕ) → length head + length tail < 8 → length (head ++ replicate (8 - length head - length tail) 0 ++ tail) ≡ 8
filled head tail room = simp (length-append, length-replicate) (omega arith)

six_fits : (text segments : List ℕ) → IsColonHex text segments → AreSegments segments
six_fits text segments (inl all) = (all.1, at_each (2 ^ 16) segments (omega arith) (groups_fit true [] text segments all.0))
six_fits text segments (inr e) =
    let n = 8 - length e.head - length e.tail in
    let head = groups_fit false [] e.head_text e.head e.head_groups in
    let tail = groups_fit true [] e.tail_text e.tail e.tail_groups in
    let each = All-append (Below (2 ^ 16)) (e.head ++ replicate n 0) e.tail (All-append (Below (2 ^ 16)) e.head (replicate n 0) head (zeros n)) tail in
    subst AreSegments (sym e.value) (filled e.head e.tail e.room, at_each (2 ^ 16) (e.head ++ replicate n 0 ++ e.tail) (omega arith) each)

four_fits : (bits : ℕ) → IsHostOf SpecialNotFile (Ipv4 (record { octets = to_be_bytes w32 bits }))
four_fits bits = (refl, each)
  where
    each : (k : ℕ) → slice_index (to_be_bytes w32 bits) k < 2 ^ 8
    each zero = omega arith
    each (suc zero) = omega arith
    each (suc (suc zero)) = omega arith
    each (suc (suc (suc zero))) = omega arith
    each (suc (suc (suc (suc k)))) = omega arith

-- ---- hosts

abbrev Fits : Host (List ℕ) → Type 0
Fits host = IsHostOf SpecialNotFile host

whole_read : (text : List ℕ) (r : Read (List ℕ)) → read_ipv6 text ≡ r → (h : Host (List ℕ)) → ipv6_host (whole_value r) ≡ Ok h → Fits h
whole_read text None is h e = cc
whole_read text (Some (segments, [])) is h e =
    let sound = read_ipv6_sound text segments [] is in
    subst Fits (same_ok (Ipv6 (record { segments = segments })) h e) (six_fits sound.0 segments sound.2)
whole_read text (Some (segments, b ∷ more)) is h e =
    let left : (length (b ∷ more) == 0) ≡ false = grind (arith, nat_tests) in let none = rw left at e in cc

bracketed_fits : (bytes : List ℕ) (h : Host (List ℕ)) → parse_bracketed bytes ≡ Ok h → Fits h
unfolding parse_bracketed
bracketed_fits bytes h e =
    by_test (get_or bytes (length bytes - 1) 0 == 93) _ _ h e (λ _ k. whole_read (slice_range bytes 1 (length bytes - 1)) (read_ipv6 (slice_range bytes 1 (length bytes - 1))) refl h k) (λ _ k. cc)

ipv4_fits : (o : Option ℕ) (h : Host (List ℕ)) → ipv4_host o ≡ Ok h → Fits h
ipv4_fits None h e = cc
ipv4_fits (Some bits) h e = subst Fits (same_ok (Ipv4 (record { octets = to_be_bytes w32 bits })) h e) (four_fits bits)

some_byte : (text : List ℕ) → is_empty text ≡ false → 0 < length text
some_byte [] e = cc
some_byte (b ∷ text) e = omega arith

domain_fits : (bytes : List ℕ) (o : Option (List ℕ)) → ascii_domain bytes ≡ o → (h : Host (List ℕ)) → host_of_ascii o ≡ Ok h → Fits h
domain_fits bytes None is h e = cc
domain_fits bytes (Some d) is h e =
    let (some, first) = past_error (is_empty d) _ _ h e in
    let (allowed, last) = past_error (list_any is_forbidden_in_domain d) _ _ h first in
    by_test (ends_in_a_number d) _ _ h last (λ _ k. ipv4_fits (parse_ipv4 d) h k)
    (λ named k. subst Fits (same_ok (Domain d) h k) (record { allowed = none_from_list_any is_forbidden_in_domain d allowed; lower = ascii_domain-lower bytes d is; named = named }, some_byte d some))

host_fits : (bytes : List ℕ) (h : Host (List ℕ)) → parse_special_host bytes ≡ Ok h → Fits h
unfolding parse_special_host
host_fits bytes h e = by_test (get_or bytes 0 0 == 91) _ _ h e (λ _ k. bracketed_fits bytes h k) (λ _ k. domain_fits _ _ refl h k)

-- ---- ports

own_port : (scheme : List ℕ) (n : ℕ) → n < 2 ^ 16 → IsPortOf scheme (without_default_port scheme (Some n))
own_port scheme n below = by (option_eq nat_eq (Some n) (default_port scheme)) refl
  where
    by : (test : Bool) → option_eq nat_eq (Some n) (default_port scheme) ≡ test → IsPortOf scheme (cond test None (Some n))
    by true is = tt
    by false is = (below, λ same. both_ways _ (rw same at is) (eq-eqb n n refl))

port_fits : (scheme digits : List ℕ) (port : Option ℕ) → parse_port scheme digits ≡ Ok port → IsPortOf scheme port
unfolding parse_port
port_fits scheme digits port e =
    let n = digits_value 10 digits in
    by_test (is_empty digits) _ _ port e (λ _ k. subst (IsPortOf scheme) (same_ok None port k) tt)
    (λ _ k. by_test (list_all is_ascii_digit digits && nat_lt n (2 ^ 16)) _ _ port k
    (λ is l. subst (IsPortOf scheme) (same_ok (without_default_port scheme (Some n)) port l) (own_port scheme n (ltb-true n (2 ^ 16) (and_parts (list_all is_ascii_digit digits) (nat_lt n (2 ^ 16)) is).1)))
    (λ _ l. cc))

-- ---- URLs

-- the URL has a host, and its host and its port fit
pub record IsServed (url : Parts) : Type 0 where
  pub host : MatchOption url.host ⊥ (IsHostOf SpecialNotFile)
  pub port : IsPortOf (codes "http") url.port

abbrev Good : Parts → Type 0
Good url = url.scheme ≡ codes "http" → IsServed url

no_file : codes "file" ≡ codes "http" → ⊥
no_file same = let letter : 105 ≡ 116 = ap (λ (text : List ℕ). get_or text 1 0) same in absurd (omega (arith, letter))

http_kind : scheme_type (codes "http") ≡ SpecialNotFile
unfolding scheme_type default_port
http_kind = refl

special : is_special (scheme_type (codes "http")) ≡ true
special = ap is_special http_kind

file_is_good : (made url : Parts) → made.scheme ≡ codes "file" → ◌≡◌ {A = Parsed Parts} (Ok made) (Ok url) → Good url
file_is_good made url is e = subst Good (same_ok made url e) (λ http. absurd (no_file (sym is ∙ http)))

file_slashes_good : (bytes : List ℕ) (url : Parts) → after_file_double_slash bytes ≡ Ok url → Good url
unfolding after_file_double_slash
file_slashes_good bytes url e =
    let len = segment_len File bytes in
    by_test (is_windows_drive_letter (take len bytes)) _ _ url e (λ _ k. file_is_good (with_path (file_with_host (Domain [])) (parse_path File [] bytes)) url refl k)
    (λ _ k. ok_then (parse_file_host (take len bytes)) _ url k (λ host read l. file_is_good (with_path (file_with_host host) (parse_path_start File [] (drop len bytes))) url refl l))

file_good : (body : List ℕ) (url : Parts) → parse_file None body ≡ Ok url → Good url
unfolding parse_file
file_good body url e =
    let slashes = leading_slashes File body in
    let rest = drop slashes body in
    let start = file_start None (slashes == 0) rest in
    by_test (slashes == 2) _ _ url e (λ _ k. file_slashes_good rest url k) (λ _ k. file_is_good (with_path start (parse_path File start.path rest)) url refl k)

kind_fits : (scheme bytes : List ℕ) (host : Host (List ℕ)) → parse_host (scheme_type scheme) bytes ≡ Ok host → scheme ≡ codes "http" → Fits host
kind_fits scheme bytes host e http = host_fits bytes host (rw (http, http_kind) at e)

authority_good : (scheme bytes : List ℕ) (url : Parts) → parse_authority scheme bytes ≡ Ok url → Good url
unfolding parse_authority
authority_good scheme bytes url e =
    let at = rsplit_once 64 bytes in
    let (host_bytes, digits) = split_port at.1 in
    let userinfo = split_once 58 (unwrap_or at.0 []) in
    let (some, first) = past_error (lacks_host at.0 host_bytes digits) _ _ url e in
    ok_then (parse_host (scheme_type scheme) host_bytes) _ url first (λ host read k.
    ok_then (parse_port scheme (unwrap_or digits [])) _ url k (λ port found l.
    subst Good (same_ok (with_authority scheme userinfo.0 (unwrap_or userinfo.1 []) host port) url l)
    (λ http. record { host = kind_fits scheme host_bytes host read http; port = subst (λ s. IsPortOf s port) http (port_fits scheme (unwrap_or digits []) port found) })))

slashes_good : (scheme bytes : List ℕ) (url : Parts) → after_double_slash scheme bytes ≡ Ok url → Good url
unfolding after_double_slash
slashes_good scheme bytes url e =
    let kind = scheme_type scheme in
    let len = segment_len kind bytes in
    ok_then (parse_authority scheme (take len bytes)) _ url e (λ head read k. subst Good (same_ok (with_path head (parse_path_start kind [] (drop len bytes))) url k) (λ http. let served = authority_good scheme (take len bytes) head read http in record { host = served.host; port = served.port }))

other_path : (scheme path : List ℕ) (url : Parts) → (scheme ≡ codes "http" → ⊥) → ◌≡◌ {A = Parsed Parts} (Ok (with_path (scheme_only scheme) path)) (Ok url) → Good url
other_path scheme path url never e = subst Good (same_ok (with_path (scheme_only scheme) path) url e) (λ http. absurd (never http))

other_good : (scheme body : List ℕ) (url : Parts) → is_special (scheme_type scheme) ≡ false → parse_non_special scheme body ≡ Ok url → Good url
unfolding parse_non_special
other_good scheme body url plain e =
    let never : scheme ≡ codes "http" → ⊥ = λ http. both_ways _ (rw http at plain) special in
    let slashes = leading_slashes NotSpecial body in
    by_test (slashes == 2) _ _ url e (λ _ k. slashes_good scheme (drop 2 body) url k)
    (λ _ k. by_test (slashes == 1) _ _ url k
    (λ _ l. other_path scheme (parse_path NotSpecial [] (drop 1 body)) url never l)
    (λ _ l. other_path scheme _ url never l))

body_good : (scheme body : List ℕ) (url : Parts) → parse_body scheme None body ≡ Ok url → Good url
unfolding parse_body
body_good scheme body url e =
    by_test (is_file (scheme_type scheme)) _ _ url e (λ _ k. file_good body url k)
    (λ _ k. by_test (is_special (scheme_type scheme)) _ _ url k (λ _ l. slashes_good scheme (skip_slashes body) url l) (λ plain l. other_good scheme body url plain l))

tail_good : (url : Parts) (query fragment : Option (List ℕ)) → Good url → Good (with_tail (before_tail url query fragment) query fragment)
tail_good url query fragment good =
    cond_both (not (is_special (kind_of url)) && (is_some query || is_some fragment)) (with_path url (escape_end url.path)) url (λ u. Good (with_tail u query fragment))
    (λ _ http. let served = good http in record { host = served.host; port = served.port }) (λ _ http. let served = good http in record { host = served.host; port = served.port })

all_good : (scheme body : List ℕ) (query fragment : Option (List ℕ)) (url : Parts) → parse_parts scheme None body query fragment ≡ Ok url → Good url
unfolding parse_parts
all_good scheme body query fragment url e =
    ok_then (parse_body scheme None body) _ url e (λ head read k. subst Good (same_ok (with_tail (before_tail head query fragment) query fragment) url k) (tail_good head query fragment (body_good scheme body head read)))

scheme_good : (split : Option (List ℕ × List ℕ)) (body : List ℕ) (query fragment : Option (List ℕ)) (url : Parts) → parse_by_scheme split None body query fragment ≡ Ok url → Good url
scheme_good None body query fragment url e = cc
scheme_good (Some split) body query fragment url e = all_good (lowercase split.0) split.1 query fragment url e

pub read_is_served : (text : List ℕ) (url : Parts) → parse_url None text ≡ Ok url → url.scheme ≡ codes "http" → IsServed url
unfolding parse_url
read_is_served text url e =
    let hash = split_once 35 (strip_tabs_and_new_lines (trim_c0_control_and_space text)) in
    let question = split_once 63 hash.0 in
    scheme_good (split_scheme question.0) question.0 question.1 hash.1 url e
