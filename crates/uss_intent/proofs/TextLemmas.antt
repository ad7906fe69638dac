-- Names, OVNs and base URLs are ASCII, and so UTF-8.
use Rattle.std.proofs.Common.{◌≡◌, ℕ, zero, suc, ◌<◌, Bool, true, not, ◌&&◌, ◌==◌, nat_le, length, None, List, [], ◌∷◌, get_or, arith}
use Rattle.std.specs.List.{list_all}
use Rattle.std.specs.Str.{IsUtf8}
use Rattle.std.proofs.lemmas.Bool.{and_parts}
use Rattle.std.proofs.lemmas.Bool.Decides.{nat_tests}
use Rattle.std.proofs.lemmas.Str.{IsUtf8-from_ascii}
use Rattle.url.specs.Parser.{parse_url}
use Rattle.uss_intent.specs.Texts.{IsName, is_name_byte, IsOvn, is_visible, IsBase, last_byte, is_plain_http}

ascii_at : (p : ℕ → Bool) → ((b : ℕ) → p b ≡ true → b < 128) → (xs : List ℕ) → list_all p xs ≡ true → (i : ℕ) → get_or xs i 0 < 128
ascii_at p small [] h i = omega arith
ascii_at p small (x ∷ xs) h zero = small x (and_parts (p x) (list_all p xs) h).0
ascii_at p small (x ∷ xs) h (suc i) = ascii_at p small xs (and_parts (p x) (list_all p xs) h).1 i

name_byte_small : (b : ℕ) → is_name_byte b ≡ true → b < 128
name_byte_small b h = grind (arith, nat_tests)

visible_small : (b : ℕ) → is_visible b ≡ true → b < 128
visible_small b h = grind (arith, nat_tests)

pub visible_utf8 : (xs : List ℕ) → list_all is_visible xs ≡ true → IsUtf8 xs
visible_utf8 xs h = IsUtf8-from_ascii xs (ascii_at is_visible visible_small xs h)

pub name_utf8 : (xs : List ℕ) → IsName xs → IsUtf8 xs
name_utf8 xs h = IsUtf8-from_ascii xs (ascii_at is_name_byte name_byte_small xs (and_parts _ (list_all is_name_byte xs) h).1)

pub ovn_utf8 : (xs : List ℕ) → IsOvn xs → IsUtf8 xs
ovn_utf8 xs h = visible_utf8 xs (and_parts _ (list_all is_visible xs) h).1

-- the parts of a base URL
pub record BaseParts (text : List ℕ) : Type 0 where
  pub short : nat_le (length text) 300 ≡ true
  pub ends : not (last_byte text == 47) ≡ true
  pub visible : list_all is_visible text ≡ true
  pub http : is_plain_http (parse_url None text) ≡ true

pub base_parts : (text : List ℕ) → IsBase text → BaseParts text
base_parts text is =
    let h = and_parts (nat_le (length text) 300 && not (last_byte text == 47) && list_all is_visible text) (is_plain_http (parse_url None text)) is in
    let k = and_parts (nat_le (length text) 300 && not (last_byte text == 47)) (list_all is_visible text) h.0 in
    let l = and_parts (nat_le (length text) 300) (not (last_byte text == 47)) k.0 in
    record { short = l.0; ends = l.1; visible = k.1; http = h.1 }

pub base_utf8 : (xs : List ℕ) → IsBase xs → IsUtf8 xs
base_utf8 xs is = visible_utf8 xs (base_parts xs is).visible
