-- The test finds the bytes that end inside a target.
use Rattle.std.proofs.Common.{◌≡◌, ◌≢◌, ℕ, ◌<◌, Bool, true, false, cond, ◌&&◌, ◌==◌, List, [], ◌∷◌, ◌++◌, length, sym, refl, ap, ◌∙◌, subst, arith, inl, inr, ⊎_elim, append_assoc, length-append}
use Rattle.std.specs.Prelude.{IsTrue, ◌⊎◌}
use Rattle.std.specs.List.{list_all}
use Rattle.std.proofs.lemmas.Bool.{cond-false, true≢false, and_parts, and_from, ne_eqb}
use Rattle.std.proofs.lemmas.Bool.Decides.{nat_tests}
use Rattle.std.proofs.lemmas.List.Elements.{All-nil, All-cons, All-head, All-tail}
use Rattle.httparse.specs.Grammar.{is_token_byte, is_uri_byte, AllPass, IsToken, LineEnd, crlf, lf, print_end, print_blank, EndsInTarget}
use Rattle.uss_http_request.specs.Target.{in_method, at_start}

abbrev Passes : (ℕ → Bool) → ℕ → Type 0
Passes test b = IsTrue (test b)

all_from : (test : ℕ → Bool) (xs : List ℕ) → list_all test xs ≡ true → AllPass test xs
all_from test [] h = All-nil (Passes test)
all_from test (x ∷ xs) h = let p = and_parts (test x) (list_all test xs) h in All-cons (Passes test) x xs p.0 (all_from test xs p.1)

all_to : (test : ℕ → Bool) (xs : List ℕ) → AllPass test xs → list_all test xs ≡ true
all_to test [] h = refl
all_to test (x ∷ xs) h = and_from (test x) (list_all test xs) (All-head (Passes test) x xs h) (all_to test xs (All-tail (Passes test) x xs h))

-- a method and a target
record Split (some : Bool) (bytes : List ℕ) : Type 0 where
  method : List ℕ
  target : List ℕ
  whole : bytes ≡ method ++ 32 ∷ target
  tokens : AllPass is_token_byte method
  first : (some ≡ false) → 0 < length method
  uri : AllPass is_uri_byte target

split_at : (some : Bool) (b : ℕ) (bytes : List ℕ) (t u : Bool) → cond t (some && list_all is_uri_byte bytes) u ≡ true → (t ≡ true → b ≡ 32) → (u ≡ true → Split some (b ∷ bytes)) → Split some (b ∷ bytes)
split_at some b bytes true u h here later =
    let p = and_parts some (list_all is_uri_byte bytes) h in
    record { method = []; target = bytes; whole = ap (λ x. x ∷ bytes) (here refl); tokens = All-nil (Passes is_token_byte); first = λ none. absurd (true≢false (sym p.0 ∙ none)); uri = all_from is_uri_byte bytes p.1 }
split_at some b bytes false u h here later = later h

is_same : (x y : ℕ) → (x == y) ≡ true → x ≡ y
is_same x y h = grind (arith, nat_tests)

more_method : (some : Bool) (b : ℕ) (bytes : List ℕ) → IsTrue (is_token_byte b) → Split true bytes → Split some (b ∷ bytes)
more_method some b bytes token s = record {
  method = b ∷ s.method;
  target = s.target;
  whole = ap (λ l. b ∷ l) s.whole;
  tokens = All-cons (Passes is_token_byte) b s.method token s.tokens;
  first = λ _. omega arith;
  uri = s.uri;
}

from_method : (some : Bool) (bytes : List ℕ) → in_method some bytes ≡ true → Split some bytes
from_method some [] h = absurd (true≢false (sym h))
from_method some (b ∷ bytes) h =
    split_at some b bytes (b == 32) (is_token_byte b && in_method true bytes) h (is_same b 32)
    (λ u. let p = and_parts (is_token_byte b) (in_method true bytes) u in more_method some b bytes p.0 (from_method true bytes p.1))

with_end : (e : LineEnd) (bytes : List ℕ) → EndsInTarget bytes → EndsInTarget (print_end e ++ bytes)
with_end e bytes t = (e ∷ t.0, t.1, t.2, t.3, t.4, ap (λ (l : List ℕ). print_end e ++ l) t.5 ∙ simp append_assoc)

start_cases : (s t : Bool) (x y z : Bool) (P : Type 0) → cond s x (cond t y z) ≡ true → (s ≡ true → x ≡ true → P) → (t ≡ true → y ≡ true → P) → (z ≡ true → P) → P
start_cases true t x y z P h a b c = a refl h
start_cases false true x y z P h a b c = b refl h
start_cases false false x y z P h a b c = c h

pub to_target : (bytes : List ℕ) → at_start bytes ≡ true → EndsInTarget bytes
to_target [] h = absurd (true≢false (sym h))
to_target (b ∷ []) h = absurd (true≢false (sym h))
to_target (b ∷ c ∷ bytes) h =
    start_cases (b == 10) (b == 13 && c == 10) (at_start (c ∷ bytes)) (at_start bytes) (in_method false (b ∷ c ∷ bytes)) (EndsInTarget (b ∷ c ∷ bytes)) h
    (λ s x. subst (λ n. EndsInTarget (n ∷ c ∷ bytes)) (sym (is_same b 10 s)) (with_end lf (c ∷ bytes) (to_target (c ∷ bytes) x)))
    (λ t y. let p = and_parts (b == 13) (c == 10) t in subst (λ n. EndsInTarget (n ∷ c ∷ bytes)) (sym (is_same b 13 p.0)) (subst (λ n. EndsInTarget (13 ∷ n ∷ bytes)) (sym (is_same c 10 p.1)) (with_end crlf bytes (to_target bytes y))))
    (λ z. let s = from_method false (b ∷ c ∷ bytes) z in ([], s.method, s.target, (s.first refl, s.tokens), s.uri, s.whole))

-- ---- and back

token_kind : (b : ℕ) → IsTrue (is_token_byte b) → (b ≢ 10) × (b ≢ 13) × (b ≢ 32)
unfolding is_token_byte
token_kind b h = (λ e. absurd (true≢false (sym (subst (λ (n : ℕ). IsTrue (is_token_byte n)) e h))), λ e. absurd (true≢false (sym (subst (λ (n : ℕ). IsTrue (is_token_byte n)) e h))), λ e. absurd (true≢false (sym (subst (λ (n : ℕ). IsTrue (is_token_byte n)) e h))))

to_method : (some : Bool) (method target : List ℕ) → AllPass is_token_byte method → (some ≡ true) ⊎ (0 < length method) → AllPass is_uri_byte target → in_method some (method ++ 32 ∷ target) ≡ true
to_method some [] target tokens first uri = and_from some (list_all is_uri_byte target) (⊎_elim (λ s. s) (λ l. absurd (omega arith)) first) (all_to is_uri_byte target uri)
to_method some (b ∷ method) target tokens first uri =
    let token = All-head (Passes is_token_byte) b method tokens in
    cond-false (b == 32) _ _ (ne_eqb b 32 (token_kind b token).2) ∙ and_from (is_token_byte b) (in_method true (method ++ 32 ∷ target)) token (to_method true method target (All-tail (Passes is_token_byte) b method tokens) (inl refl) uri)

start_method : (b : ℕ) (bytes : List ℕ) → IsTrue (is_token_byte b) → 0 < length bytes → at_start (b ∷ bytes) ≡ in_method false (b ∷ bytes)
start_method b [] token some = absurd (omega arith)
start_method b (c ∷ bytes) token some =
    let k = token_kind b token in
    cond-false (b == 10) _ _ (ne_eqb b 10 k.0) ∙ cond-false (b == 13 && c == 10) _ _ (ap (λ (t : Bool). t && c == 10) (ne_eqb b 13 k.1))

start_lf : (bytes : List ℕ) → 0 < length bytes → at_start (10 ∷ bytes) ≡ at_start bytes
start_lf [] some = absurd (omega arith)
start_lf (c ∷ bytes) some = refl

from_blank : (blank : List LineEnd) (method target : List ℕ) → IsToken method → AllPass is_uri_byte target → at_start (print_blank blank ++ (method ++ 32 ∷ target)) ≡ true
from_blank [] [] target token uri = absurd (omega (arith, token.0))
from_blank [] (b ∷ method) target token uri =
    start_method b (method ++ 32 ∷ target) (All-head (Passes is_token_byte) b method token.1) (simp length-append (omega arith)) ∙ to_method false (b ∷ method) target token.1 (inr (omega arith)) uri
from_blank (crlf ∷ blank) method target token uri = from_blank blank method target token uri
from_blank (lf ∷ blank) method target token uri =
    start_lf (print_blank blank ++ (method ++ 32 ∷ target)) (simp length-append (omega arith)) ∙ from_blank blank method target token uri

pub from_target : (bytes : List ℕ) → EndsInTarget bytes → at_start bytes ≡ true
from_target bytes t = ap at_start (t.5 ∙ append_assoc (print_blank t.0) t.1 (32 ∷ t.2)) ∙ from_blank t.0 t.1 t.2 t.3 t.4
