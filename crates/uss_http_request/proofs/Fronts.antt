-- A prefix of bytes that end inside a target does too, or may become a head.
use Rattle.std.proofs.Common.{◌≡◌, ℕ, zero, suc, ◌<◌, List, [], ◌∷◌, ◌++◌, get_or, sym, refl, ap, ◌∙◌, subst, arith, lit≤, append_assoc, append-nil, ⊎_elim, inl, inr, lit<}
use Rattle.std.specs.Prelude.{◌⊎◌, codes, IsTrue}
use Rattle.std.proofs.lemmas.Str.{IsUtf8-from_ascii}
use Rattle.std.proofs.lemmas.List.Elements.{All-nil, All-cons, All-head, All-tail}
use Rattle.httparse.specs.Grammar.{LineEnd, lf, print_blank, IsToken, AllPass, is_uri_byte, IsField, RequestHead, IsRequestHead, print_request, HasNoRequest, NeverHasRequest, EndsInTarget}

-- of two spellings of one text, one goes on after the other
overlap : (xs ys us vs : List ℕ) → xs ++ ys ≡ us ++ vs → ((w : List ℕ) × (xs ++ w ≡ us)) ⊎ ((w : List ℕ) × (xs ≡ us ++ w) × (w ++ ys ≡ vs))
overlap [] ys us vs e = inl (us, refl)
overlap (x ∷ xs) ys [] vs e = inr (x ∷ xs, refl, e)
overlap (x ∷ xs) ys (u ∷ us) vs e =
    let head : x ≡ u = cc in
    let tail : xs ++ ys ≡ us ++ vs = cc in
    ⊎_elim (λ a. inl (a.0, (λ i. head i ∷ a.1 i))) (λ b. inr (b.0, (λ i. head i ∷ b.1 i), b.2)) (overlap xs ys us vs tail)

abbrev UriByte : ℕ → Type 0
UriByte b = IsTrue (is_uri_byte b)

-- a method that is there may be followed by a target
abbrev small : List LineEnd → List ℕ → RequestHead
small blank method = record { blank = blank; method = method; target = 47 ∷ []; minor = 1; line_end = lf; fields = []; last = lf }

slash_ascii : (i : ℕ) → get_or (47 ∷ []) i 0 < 128
slash_ascii zero = omega arith
slash_ascii (suc i) = omega arith

is_small : (blank : List LineEnd) (method : List ℕ) → IsToken method → IsRequestHead (small blank method)
is_small blank method token = record {
  method = token;
  target = (lit< tt, All-cons UriByte 47 [] refl (All-nil UriByte));
  target_text = IsUtf8-from_ascii (47 ∷ []) slash_ascii;
  minor = lit≤ tt;
  fields = All-nil IsField;
}

print_small : (blank : List LineEnd) (method : List ℕ) → print_request (small blank method) ≡ (print_blank blank ++ method) ++ codes " / HTTP/1.1\n\n"
unfolding print_request
print_small blank method = simp append_assoc

front_token : (taken : List ℕ) (blank : List LineEnd) (method : List ℕ) → IsToken method → taken ≡ print_blank blank ++ method → NeverHasRequest taken → ⊥
front_token taken blank method token is never =
    let text = codes " / HTTP/1.1\n\n" in
    never text (small blank method) [] (is_small blank method token, ap (λ (l : List ℕ). l ++ text) is ∙ sym (print_small blank method) ∙ sym (append-nil _))

all_front : (xs ys : List ℕ) → AllPass is_uri_byte (xs ++ ys) → AllPass is_uri_byte xs
all_front [] ys all = All-nil UriByte
all_front (x ∷ xs) ys all = All-cons UriByte x xs (All-head UriByte x (xs ++ ys) all) (all_front xs ys (All-tail UriByte x (xs ++ ys) all))

in_space : (taken w more : List ℕ) (blank : List LineEnd) (method target : List ℕ) → taken ≡ (print_blank blank ++ method) ++ w → w ++ more ≡ 32 ∷ target → IsToken method → AllPass is_uri_byte target → (EndsInTarget taken → ⊥) → NeverHasRequest taken → ⊥
in_space taken [] more blank method target is whole token uri outside never = front_token taken blank method token (is ∙ append-nil _) never
in_space taken (x ∷ w) more blank method target is whole token uri outside never =
    let space : x ≡ 32 = cc in
    let rest : w ++ more ≡ target = cc in
    outside (blank, method, w, token, all_front w more (subst (AllPass is_uri_byte) (sym rest) uri), is ∙ ap (λ n. (print_blank blank ++ method) ++ n ∷ w) space)

pub target_front : (taken more : List ℕ) → EndsInTarget (taken ++ more) → (EndsInTarget taken → ⊥) → NeverHasRequest taken → ⊥
target_front taken more t outside never =
    let front = print_blank t.0 ++ t.1 in
    ⊎_elim
    (λ (a : (w : List ℕ) × (taken ++ w ≡ front)).
    let text = codes " / HTTP/1.1\n\n" in
    never (a.0 ++ text) (small t.0 t.1) [] (is_small t.0 t.1 t.3, sym (append_assoc taken a.0 text) ∙ ap (λ (l : List ℕ). l ++ text) a.1 ∙ sym (print_small t.0 t.1) ∙ sym (append-nil _)))
    (λ (b : (w : List ℕ) × (taken ≡ front ++ w) × (w ++ more ≡ 32 ∷ t.2)). in_space taken b.0 more t.0 t.1 t.2 b.1 b.2 t.3 t.4 outside never)
    (overlap taken more front (32 ∷ t.2) t.5)

pub never_none : (bytes : List ℕ) → NeverHasRequest bytes → HasNoRequest bytes
never_none bytes never = subst HasNoRequest (append-nil bytes) (never [])
