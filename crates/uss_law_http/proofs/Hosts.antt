-- The host of a base is not empty, and its bytes, with those of its port, can stand in the value of a field.
use Rattle.std.proofs.Common.{◌≡◌, ℕ, ◌<◌, ◌&&◌, IsTrue, true, List, [], length, take, drop, Option, Some, None, Ok, Err, MatchOption, refl, sym, ap, ◌∙◌, subst, arith, length-append}
use Rattle.std.specs.Prelude.{not, nat_le, ◌==◌, unwrap_or, option_map, decimal, codes, bytes_eq, is_none}
use Rattle.std.specs.List.{list_all}
use Rattle.std.specs.Char.{is_ascii_digit}
use Rattle.std.proofs.lemmas.Bool.{and_parts}
use Rattle.std.proofs.lemmas.Bool.Decides.{nat_tests}
use Rattle.std.proofs.lemmas.List.Elements.{All-nil, All-weaker}
use Rattle.std.proofs.lemmas.Slice.Eq.{bytes_eq-Decides}
use Rattle.httparse.specs.Grammar.{AllPass, is_value_byte}
use Rattle.url.specs.declared.host.Host.{Host}
use Rattle.url.specs.declared.host.Host.TheVariants.{Domain}
use Rattle.url.specs.declared.scheme.SchemeType.TheVariants.{SpecialNotFile}
use Rattle.url.specs.Host.{host_text, IsHostOf}
use Rattle.url.specs.Parser.{Parsed, parse_url}
use Rattle.url.specs.Parts.{Parts, pieces, IsPortOf}
use Rattle.url.proofs.HostRoundTrip.{IsHostByte, host_text_plain}
use Rattle.url.proofs.RoundTrip.{host_nonempty}
use Rattle.url.proofs.TextLemmas.{All-concat, All_one}
use Rattle.uss_intent.specs.Texts.{is_visible, is_plain_http, last_byte, IsBase}
use Rattle.uss_law_http.specs.Hosts.{IsReadAs, host_of, is_host_byte, IsHost, HasHost}
use Rattle.uss_law_http.proofs.ReadHosts.{IsServed, read_is_served}
use Rattle.uss_law_http.proofs.Texts.{Passes, decimal_writes}

-- ---- the bytes

plain_byte : (b : ℕ) → IsHostByte b → IsTrue (is_host_byte b)
plain_byte b h =
    let above = h.above in let below = h.below in let hash = h.no_hash in let slash = h.no_slash in let question = h.no_question in let at = h.no_at in let backslash = h.no_backslash in grind (arith, nat_tests)

digit_byte : (b : ℕ) → IsTrue (is_ascii_digit b) → IsTrue (is_host_byte b)
digit_byte b h = grind (arith, nat_tests)

value_byte : (b : ℕ) → IsTrue (is_host_byte b) → IsTrue (is_value_byte b)
value_byte b h = grind (arith, nat_tests)

host_bytes : (o : Option (Host (List ℕ))) → MatchOption o ⊥ (IsHostOf SpecialNotFile) → AllPass is_host_byte (host_text (unwrap_or o (Domain [])))
host_bytes None fits = absurd fits
host_bytes (Some host) fits = All-weaker IsHostByte (Passes is_host_byte) plain_byte (host_text host) (host_text_plain SpecialNotFile host fits)

port_bytes : (scheme : List ℕ) (port : Option ℕ) → IsPortOf scheme port → AllPass is_host_byte (unwrap_or (option_map decimal port) [])
port_bytes scheme None fits = All-nil (Passes is_host_byte)
port_bytes scheme (Some n) fits =
    let writes = decimal_writes n (omega (arith, fits.0)) in All-weaker (Passes is_ascii_digit) (Passes is_host_byte) digit_byte (decimal n) writes.all

bytes_of : (url : Parts) → IsServed url → AllPass is_host_byte (host_of url)
bytes_of url served =
    All-concat (Passes is_host_byte) (take 3 (drop 6 (pieces url))) (host_bytes url.host served.host, (All_one (Passes is_host_byte) _ 58 refl, (port_bytes (codes "http") url.port served.port, tt)))

-- ---- some byte

host_some : (o : Option (Host (List ℕ))) → MatchOption o ⊥ (IsHostOf SpecialNotFile) → 0 < length (host_text (unwrap_or o (Domain [])))
host_some None fits = absurd fits
host_some (Some host) fits = host_nonempty host fits

some_of : (url : Parts) → IsServed url → 0 < length (host_of url)
some_of url served = let some = host_some url.host served.host in simp length-append (omega arith)

-- ---- bases

plain_http : (base : List ℕ) → IsBase base → is_plain_http (parse_url None base) ≡ true
plain_http base is = (and_parts (nat_le (length base) 300 && not (last_byte base == 47) && list_all is_visible base) (is_plain_http (parse_url None base)) is).1

served : (base : List ℕ) (url : Parts) → IsReadAs base url → IsServed url
served base url is =
    let tests = sym (ap is_plain_http is.read) ∙ plain_http base is.is_base in
    let both = and_parts (bytes_eq url.scheme (codes "http") && is_none url.query) (is_none url.fragment) tests in
    let first = and_parts (bytes_eq url.scheme (codes "http")) (is_none url.query) both.0 in
    read_is_served base url is.read ((bytes_eq-Decides url.scheme (codes "http")).0 first.0)

pub host_of_is_a_value : (base : List ℕ) (url : Parts) → IsReadAs base url → AllPass is_value_byte (host_of url)
host_of_is_a_value base url is = All-weaker (Passes is_host_byte) (Passes is_value_byte) value_byte (host_of url) (bytes_of url (served base url is))

read : (r : Parsed Parts) → is_plain_http r ≡ true → (url : Parts) × (r ≡ Ok url)
read (Err e) is = cc
read (Ok url) is = (url, refl)

pub each : (base : List ℕ) → IsBase base → (host : List ℕ) × HasHost base host
each base is = let (url, same) = read (parse_url None base) (plain_http base is) in (host_of url, record { url = url; read = record { is_base = is; read = same }; named = refl })

pub named : (base host : List ℕ) → HasHost base host → IsHost host
named base host has =
    let is = served base has.url has.read in subst IsHost has.named (record { some = some_of has.url is; bytes = bytes_of has.url is })

pub one : (base host other : List ℕ) → HasHost base host → HasHost base other → host ≡ other
one base host other has that =
    let first = has.read.read in
    let second = that.read.read in
    let same : has.url ≡ that.url = cc in
    sym has.named ∙ ap host_of same ∙ that.named
