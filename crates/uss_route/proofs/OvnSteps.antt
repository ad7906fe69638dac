-- An OVN in a path, by the words of percent-encoding.
use Rattle.std.proofs.Common.{◌≡◌, ℕ, ◌/◌, ◌%◌, ◌<◌, Bool, true, false, List, [], ◌∷◌, ◌++◌, length, refl, sym, ap, ◌∙◌, subst, arith, All}
use Rattle.std.specs.Prelude.{◌&&◌, ◌||◌, ◌==◌, not, nat_le, if◌then◌else◌}
use Rattle.std.specs.Char.{is_ascii_hexdigit}
use Rattle.std.specs.List.{flat_map, list_all}
use Rattle.std.proofs.lemmas.Bool.{agree_below, agree_below_at, and_from, and_parts}
use Rattle.std.proofs.lemmas.Bool.Decides.{nat_tests}
use Rattle.std.proofs.lemmas.List.Elements.{All-head, All-tail, All-weaker}
use Rattle.std.proofs.lemmas.List.Sums.{AllPass-from_list_all}
use Rattle.percent_encoding.specs.AsciiSet.{contains, should_percent_encode}
use Rattle.percent_encoding.specs.Percent.{percent_encode_byte, encode_byte, percent_encode, percent_decode}
use Rattle.percent_encoding.proofs.AsciiSetLemmas.{ascii_from_kept}
use Rattle.percent_encoding.proofs.PercentLemmas.{IsByte, IsEscapeByte, All-percent_encode, percent_encode_nonempty, round_trip}
use Rattle.uss_intent.specs.Texts.{is_visible, is_ovn, IsOvn}
use Rattle.uss_route.specs.declared.ovns.TheConstants.{ESCAPED}
use Rattle.uss_route.specs.Ovns.{is_plain, upper_digit, segment_of_byte, segment_of, begins_with_digits, is_escaped, is_ovn_segment}
use Rattle.uss_route.specs.Spelling.{IsParameter}

-- ---- the set of bytes that are escaped

agree : agree_below (should_percent_encode ESCAPED) (λ b. not (is_plain b)) 256 ≡ true
unfolding should_percent_encode
agree = refl

others : (b : ℕ) → b < 256 → should_percent_encode ESCAPED b ≡ not (is_plain b)
others b small = agree_below_at (should_percent_encode ESCAPED) (λ b. not (is_plain b)) 256 b agree small

has_percent : contains ESCAPED 37 ≡ true
has_percent = refl

-- ---- writing

escape_is : (b : ℕ) → b < 256 → 37 ∷ upper_digit (b / 16) ∷ upper_digit (b % 16) ∷ [] ≡ percent_encode_byte b
unfolding percent_encode_byte
escape_is b small = let e : b / 16 ≡ b / 16 % 16 = omega arith in ap (λ (d : ℕ). 37 ∷ upper_digit d ∷ upper_digit (b % 16) ∷ []) e

either : (plain escaped : Bool) (b : ℕ) (x y : List ℕ) → escaped ≡ not plain → x ≡ y → (if plain then b ∷ [] else x) ≡ (if escaped then y else b ∷ [])
either true escaped b x y e same = ap (λ (t : Bool). if t then y else b ∷ []) (sym e)
either false escaped b x y e same = same ∙ ap (λ (t : Bool). if t then y else b ∷ []) (sym e)

byte_is : (b : ℕ) → b < 256 → segment_of_byte b ≡ encode_byte ESCAPED b
byte_is b small = either (is_plain b) (should_percent_encode ESCAPED b) b _ (percent_encode_byte b) (others b small) (escape_is b small)

pub written : (bytes : List ℕ) → All IsByte bytes → segment_of bytes ≡ percent_encode ESCAPED bytes
unfolding percent_encode
written [] all = refl
written (b ∷ bytes) all =
    let here = byte_is b (All-head IsByte b bytes all) in
    let later = written bytes (All-tail IsByte b bytes all) in
    ap (λ (x : List ℕ). x ++ flat_map segment_of_byte bytes) here ∙ ap (λ (x : List ℕ). encode_byte ESCAPED b ++ x) later

small_from_visible : (b : ℕ) → is_visible b ≡ true → b < 256
small_from_visible b h = grind (arith, nat_tests)

pub small_bytes : (ovn : List ℕ) → IsOvn ovn → All IsByte ovn
small_bytes ovn is =
    All-weaker (λ b. is_visible b ≡ true) IsByte small_from_visible ovn (AllPass-from_list_all is_visible ovn (and_parts (nat_le 16 (length ovn) && nat_le (length ovn) 128) (list_all is_visible ovn) is).1)

-- ---- reading

not_percent : (b : ℕ) → is_plain b ≡ true → (b == 37) ≡ false
not_percent b h = grind (arith, nat_tests)

digit_is : (d : ℕ) → d < 16 → is_ascii_hexdigit (upper_digit d) ≡ true
digit_is d small = agree_below_at (λ d. is_ascii_hexdigit (upper_digit d)) (λ d. true) 16 d refl small

digit_not_percent : (d : ℕ) → d < 16 → (upper_digit d == 37) ≡ false
digit_not_percent d small = agree_below_at (λ d. upper_digit d == 37) (λ d. false) 16 d refl small

two_there : (high low : ℕ) (rest : List ℕ) → nat_le 2 (length (high ∷ low ∷ rest)) ≡ true
two_there high low rest = grind (arith, nat_tests)

both_digits : (high low : ℕ) (rest : List ℕ) → is_ascii_hexdigit high ≡ true → is_ascii_hexdigit low ≡ true → begins_with_digits (high ∷ low ∷ rest) ≡ true
both_digits high low rest h l = and_from (nat_le 2 (length (high ∷ low ∷ rest))) (is_ascii_hexdigit high && (is_ascii_hexdigit low && true)) (two_there high low rest) (and_from (is_ascii_hexdigit high) (is_ascii_hexdigit low && true) h (and_from (is_ascii_hexdigit low) true l refl))

-- a byte that is no `%`
passed : (b : ℕ) (rest : List ℕ) → (b == 37) ≡ false → is_escaped (b ∷ rest) ≡ is_escaped rest
passed b rest other = ap (λ (t : Bool). (not t || begins_with_digits rest) && is_escaped rest) other

-- a `%` and its digits
passed_escape : (high low : ℕ) (rest : List ℕ) → high < 16 → low < 16 → is_escaped (37 ∷ upper_digit high ∷ upper_digit low ∷ rest) ≡ is_escaped rest
passed_escape high low rest h l =
    let u = upper_digit high in
    let v = upper_digit low in
    ap (λ (t : Bool). t && is_escaped (u ∷ v ∷ rest)) (both_digits u v rest (digit_is high h) (digit_is low l))
    ∙ passed u (v ∷ rest) (digit_not_percent high h)
    ∙ passed v rest (digit_not_percent low l)

passed_byte : (plain : Bool) (b : ℕ) (rest : List ℕ) → is_plain b ≡ plain → b < 256 → is_escaped ((if plain then b ∷ [] else 37 ∷ upper_digit (b / 16) ∷ upper_digit (b % 16) ∷ []) ++ rest) ≡ is_escaped rest
passed_byte true b rest e small = passed b rest (not_percent b e)
passed_byte false b rest e small = passed_escape (b / 16) (b % 16) rest (omega arith) (omega arith)

all_escaped : (bytes : List ℕ) → All IsByte bytes → is_escaped (segment_of bytes) ≡ true
all_escaped [] all = refl
all_escaped (b ∷ bytes) all = passed_byte (is_plain b) b (segment_of bytes) refl (All-head IsByte b bytes all) ∙ all_escaped bytes (All-tail IsByte b bytes all)

pub read_again : (ovn : List ℕ) → IsOvn ovn → percent_decode (segment_of ovn) ≡ ovn
read_again ovn is = ap percent_decode (written ovn (small_bytes ovn is)) ∙ round_trip ESCAPED ovn has_percent (small_bytes ovn is)

pub ovn_again : (ovn : List ℕ) → IsOvn ovn → (is_ovn_segment (segment_of ovn) ≡ true) × (percent_decode (segment_of ovn) ≡ ovn)
ovn_again ovn is = (and_from (is_escaped (segment_of ovn)) (is_ovn (percent_decode (segment_of ovn))) (all_escaped ovn (small_bytes ovn is)) (ap is_ovn (read_again ovn is) ∙ is), read_again ovn is)

-- ---- as a parameter

abbrev IsSegmentByte : ℕ → Type 0
IsSegmentByte b = (is_plain b || (b == 37)) ≡ true

kept_plain : (b : ℕ) → should_percent_encode ESCAPED b ≡ false → IsSegmentByte b
kept_plain b kept =
    let ascii = ascii_from_kept ESCAPED b kept in
    let o = others b (omega arith) in
    is_plain_from (is_plain b) (b == 37) (sym o ∙ kept)
  where
    is_plain_from : (plain percent : Bool) → not plain ≡ false → (plain || percent) ≡ true
    is_plain_from true percent e = refl
    is_plain_from false percent e = absurd (cc)

escape_byte : (b : ℕ) → IsEscapeByte b → IsSegmentByte b
escape_byte b h = grind (arith, nat_tests)

pub segment_bytes : (ovn : List ℕ) → IsOvn ovn → All (λ b. (is_plain b || (b == 37)) ≡ true) (segment_of ovn)
segment_bytes ovn is = subst (All IsSegmentByte) (sym (written ovn (small_bytes ovn is))) (All-percent_encode IsSegmentByte ESCAPED ovn kept_plain escape_byte)

some_from : (ovn : List ℕ) → IsOvn ovn → 0 < length ovn
some_from ovn is = sixteen (length ovn) (and_parts (nat_le 16 (length ovn)) (nat_le (length ovn) 128) (and_parts (nat_le 16 (length ovn) && nat_le (length ovn) 128) (list_all is_visible ovn) is).0).0
  where
    sixteen : (n : ℕ) → nat_le 16 n ≡ true → 0 < n
    sixteen n h = grind (arith, nat_tests)

no_slash : (b : ℕ) → IsSegmentByte b → (b == 47) ≡ false
no_slash b h = grind (arith, nat_tests)

pub segment_parameter : (ovn : List ℕ) → IsOvn ovn → IsParameter (segment_of ovn)
segment_parameter ovn is =
    record {
      some = subst (λ (x : List ℕ). 0 < length x) (sym (written ovn (small_bytes ovn is))) (percent_encode_nonempty ESCAPED ovn (some_from ovn is));
      free = All-weaker IsSegmentByte (λ b. (b == 47) ≡ false) no_slash (segment_of ovn) (segment_bytes ovn is);
    }
