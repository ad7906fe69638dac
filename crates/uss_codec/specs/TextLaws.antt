-- Names, OVNs and base URLs are coded.
use Rattle.std.proofs.Common.{ℕ, ◌^◌, ◌<◌, ◌≤◌, List, length, arith}
use Rattle.std.specs.Prelude.{◌&&◌, nat_le}
use Rattle.std.specs.List.{list_all}
use Rattle.std.proofs.lemmas.Bool.{and_parts, leb-true}
use Rattle.uss_intent.specs.Texts.{IsName, IsOvn, IsBase, is_name, is_ovn, is_base, is_name_byte, is_visible}
use Rattle.uss_codec.specs.Spelling.{text}
use Rattle.uss_codec.specs.Reading.{text_at}
use Rattle.uss_codec.specs.Coded.{IsCoded}
use Rattle.uss_codec.specs.Texts.{name_at, ovn_at, base_at}
use Rattle.uss_codec.specs.Laws.{coded_only, coded_text}

pub name_short : (t : List ℕ) → IsName t → length t ≤ 64
name_short t h =
    let a = and_parts (nat_le 1 (length t) && nat_le (length t) 64) (list_all is_name_byte t) h in
    let b = and_parts (nat_le 1 (length t)) (nat_le (length t) 64) a.0 in
    leb-true (length t) 64 b.1

pub ovn_short : (t : List ℕ) → IsOvn t → length t ≤ 128
ovn_short t h =
    let a = and_parts (nat_le 16 (length t) && nat_le (length t) 128) (list_all is_visible t) h in
    let b = and_parts (nat_le 16 (length t)) (nat_le (length t) 128) a.0 in
    leb-true (length t) 128 b.1

pub base_short : (t : List ℕ) → IsBase t → length t ≤ 300
base_short t h =
    let a = and_parts (nat_le (length t) 300 && _ && list_all is_visible t) _ h in
    let b = and_parts (nat_le (length t) 300 && _) (list_all is_visible t) a.0 in
    let c = and_parts (nat_le (length t) 300) _ b.0 in
    leb-true (length t) 300 c.0

pub coded_name : IsCoded IsName text name_at
unfolding name_at
coded_name = coded_only (λ (t : List ℕ). length t < 2 ^ 32) text text_at is_name IsName (λ t h k. h) (λ t h. (h, omega (arith, name_short t h))) coded_text

pub coded_ovn : IsCoded IsOvn text ovn_at
unfolding ovn_at
coded_ovn = coded_only (λ (t : List ℕ). length t < 2 ^ 32) text text_at is_ovn IsOvn (λ t h k. h) (λ t h. (h, omega (arith, ovn_short t h))) coded_text

pub coded_base : IsCoded IsBase text base_at
unfolding base_at
coded_base = coded_only (λ (t : List ℕ). length t < 2 ^ 32) text text_at is_base IsBase (λ t h k. h) (λ t h. (h, omega (arith, base_short t h))) coded_text
