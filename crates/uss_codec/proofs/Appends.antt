-- Several pieces written one after another.
use Rattle.std.proofs.Common.{◌≡◌, ℕ, ℤ, List, ◌++◌, ap, ◌∙◌, append_assoc}
use Rattle.std.specs.Int.{w64, cast_signed, cast_unsigned}
use Rattle.std.specs.Int.RustNames.{FitsSigned}
use Rattle.std.proofs.lemmas.Int.{to_z-of_z}
use Rattle.uss_shape.specs.declared.Place.{Place}
use Rattle.uss_vol4.specs.Volume.{Volume4D, IsVolume}
use Rattle.uss_codec.specs.Spelling.{signed_in_8_bytes, place, list, volume}
use Rattle.uss_codec.specs.VolumeLaws.{instant_fits, altitude_fits}

pub appended_2 : (o p q a b : List ℕ) → p ≡ o ++ a → q ≡ p ++ b → q ≡ o ++ (a ++ b)
appended_2 o p q a b h k = k ∙ ap (λ (l : List ℕ). l ++ b) h ∙ append_assoc o a b

pub appended_3 : (o p q r a b c : List ℕ) → p ≡ o ++ a → q ≡ p ++ b → r ≡ q ++ c → r ≡ o ++ (a ++ (b ++ c))
appended_3 o p q r a b c h k l = appended_2 o p r a (b ++ c) h (appended_2 p q r b c k l)

pub appended_4 : (o p q r s a b c d : List ℕ) → p ≡ o ++ a → q ≡ p ++ b → r ≡ q ++ c → s ≡ r ++ d → s ≡ o ++ (a ++ (b ++ (c ++ d)))
appended_4 o p q r s a b c d h k l m = appended_2 o p s a (b ++ (c ++ d)) h (appended_3 p q r s b c d k l m)

pub appended_5 : (o p q r s t a b c d e : List ℕ) → p ≡ o ++ a → q ≡ p ++ b → r ≡ q ++ c → s ≡ r ++ d → t ≡ s ++ e → t ≡ o ++ (a ++ (b ++ (c ++ (d ++ e))))
appended_5 o p q r s t a b c d e h k l m n = appended_2 o p t a (b ++ (c ++ (d ++ e))) h (appended_4 p q r s t b c d e k l m n)

-- a signed number is written as the bits that it has
pub signed_appended : (o p : List ℕ) (y z : ℤ) → FitsSigned w64 z → y ≡ z → p ≡ o ++ signed_in_8_bytes (cast_signed w64 (cast_unsigned w64 y)) → p ≡ o ++ signed_in_8_bytes z
signed_appended o p y z h e k =
    k ∙ ap (λ (x : ℤ). o ++ signed_in_8_bytes (cast_signed w64 (cast_unsigned w64 x))) e ∙ ap (λ (x : ℤ). o ++ signed_in_8_bytes x) (to_z-of_z w64 z h)

pub volume_appended : (v : Volume4D) → IsVolume v → (o p q r s t : List ℕ) (vs : List Place) (low high start end : ℤ)
    → vs ≡ v.outline → low ≡ v.low → high ≡ v.high → start ≡ v.start → end ≡ v.end
    → p ≡ o ++ list place vs → q ≡ p ++ signed_in_8_bytes (cast_signed w64 (cast_unsigned w64 low)) → r ≡ q ++ signed_in_8_bytes (cast_signed w64 (cast_unsigned w64 high))
    → s ≡ r ++ signed_in_8_bytes (cast_signed w64 (cast_unsigned w64 start)) → t ≡ s ++ signed_in_8_bytes (cast_signed w64 (cast_unsigned w64 end)) → t ≡ o ++ volume v
volume_appended v is o p q r s t vs low high start end e1 e2 e3 e4 e5 h1 h2 h3 h4 h5 =
    appended_5 o p q r s t (list place v.outline) (signed_in_8_bytes v.low) (signed_in_8_bytes v.high) (signed_in_8_bytes v.start) (signed_in_8_bytes v.end)
    (h1 ∙ ap (λ (l : List Place). o ++ list place l) e1) (signed_appended p q low v.low (altitude_fits v.low is.low) e2 h2) (signed_appended q r high v.high (altitude_fits v.high is.high) e3 h3)
    (signed_appended r s start v.start (instant_fits v.start is.start) e4 h4) (signed_appended s t end v.end (instant_fits v.end is.end) e5 h5)
