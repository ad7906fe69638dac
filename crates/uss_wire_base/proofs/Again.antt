-- What is written is read again: words for each of the messages.
use Rattle.std.proofs.Common.{◌≡◌, ◌^◌, ℕ, ◌+◌, ◌≤◌, true, false, List, [], ◌∷◌, length, Some, None, Ok, Err, refl, ap, ◌∙◌, arith}
use Rattle.std.specs.Prelude.{ℤ, pos, negsuc, map, nat_lt, Result, IfOk}
use Rattle.std.specs.Str.{IsUtf8, is_utf8}
use Rattle.std.specs.declared.vec.Vec.{Vec}
use Rattle.std.specs.declared.alloc.Global.{Global}
use Rattle.std.proofs.lemmas.Str.{is_utf8-from_IsUtf8}
use Rattle.std.proofs.lemmas.Bool.{cond-true}
use Rattle.std.proofs.lemmas.Bool.Decides.{nat_tests}
use Rattle.serde_json.specs.Read.{read}
use Rattle.serde_json.specs.Data.{Data, depth, items_depth}
use Rattle.serde_json.specs.Find.{of_integer, as_i64, is_float}
use Rattle.serde_json.specs.View.{items_of}
use Rattle.serde_json.specs.Written.{compact_text, has_float, items_have_float}
use Rattle.uss_wire_base.specs.declared.refusal.Member.{Member}
use Rattle.uss_wire_base.specs.declared.refusal.WireRefusal.{WireRefusal}
use Rattle.uss_wire_base.specs.Reading.{◌>>=◌, Reader, each, items_length, message_of, whole_of}
use Rattle.uss_vol4.specs.Ranges.{is_instant}
use Rattle.uss_wire_base.specs.Moments.{moment_at, instant_at, instant_json}
use Rattle.uss_wire_base.proofs.InstantAgain.{instant_again}
use Rattle.uss_wire_base.specs.Writing.{IsPlain, IsTextOf, IsSigned64, AllOf}

pub integer_again : (z : ℤ) → IsSigned64 z → as_i64 (of_integer z) ≡ Some z
integer_again (pos n) fits = cond-true (nat_lt n (2 ^ 63)) (Some (pos n)) None (grind (arith, nat_tests))
integer_again (negsuc n) fits = refl

pub integer_whole : (z : ℤ) → is_float (of_integer z) ≡ false
integer_whole (pos n) = refl
integer_whole (negsuc n) = refl

-- ---- lists
pub list_whole : {A : Type 0} (f : A → Data) → ((x : A) → has_float (f x) ≡ false) → (xs : List A) → items_have_float (items_of (map f xs)) ≡ false
list_whole f each_whole [] = refl
list_whole f each_whole (x ∷ xs) = rw (each_whole x) (list_whole f each_whole xs)

pub list_shallow : {A : Type 0} (f : A → Data) (n : ℕ) → ((x : A) → depth (f x) ≤ n) → (xs : List A) → items_depth (items_of (map f xs)) ≤ n
list_shallow f n each_shallow [] = omega arith
list_shallow f n each_shallow (x ∷ xs) = let a = each_shallow x in let b = list_shallow f n each_shallow xs in omega arith

pub list_again : {A : Type 0} (f : A → Data) (read : Data → Result A WireRefusal) (P : A → Type 0) → ((x : A) → P x → read (f x) ≡ Ok x) → (xs : List A) → AllOf P xs → each read (items_of (map f xs)) ≡ Ok xs
list_again f read P again [] all = refl
list_again f read P again (x ∷ xs) all =
    ap (λ r. r >>= λ y. each read (items_of (map f xs)) >>= λ ys. Ok (y ∷ ys)) (again x all.0) ∙ ap (λ r. r >>= λ ys. Ok (x ∷ ys)) (list_again f read P again xs all.1)

pub list_length : {A : Type 0} (f : A → Data) (xs : List A) → items_length (items_of (map f xs)) ≡ length xs
list_length f [] = refl
list_length f (x ∷ xs) = ap (λ n. n + 1) (list_length f xs) ∙ omega arith

-- ---- messages
pub message_again : {A : Type 0} (read : Reader A) (d : Data) (bytes : List ℕ) → IsTextOf d bytes → message_of read bytes ≡ whole_of read (Some d)
message_again read d bytes is = ap (whole_of read) is.stands

pub written : {E : Type 0} (d : Data) (r : Result (Vec ℕ Global) E) → IsPlain d → IfOk r (λ b. has_float d ≡ false → b.items ≡ compact_text d) → IfOk r (λ b. IsUtf8 b.items) → IfOk r (λ b. depth d ≤ 127 → read b.items ≡ Some d) → IfOk r (λ b. IsTextOf d b.items)
written d (Ok b) plain text utf8 reads = record { text = text plain.whole; stands = cond-true (is_utf8 b.items) (read b.items) None (is_utf8-from_IsUtf8 b.items utf8) ∙ reads plain.shallow }
written d (Err e) plain text utf8 reads = tt

pub instant_at_again : (m : Member) (moment : ℤ) → is_instant moment ≡ true → instant_at m (instant_json moment) ≡ Ok moment
instant_at_again m moment h = ap (moment_at m) (instant_again moment h)
