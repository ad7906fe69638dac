-- A row's paths are its text and its parameters.
use Rattle.std.proofs.Common.{◌≡◌, ℕ, zero, suc, ◌+◌, ◌<◌, Bool, true, false, List, [], ◌∷◌, ◌++◌, length, get_or, take, drop, refl, sym, ap, ◌∙◌, arith, cond, All, one-add}
use Rattle.std.specs.Prelude.{◌&&◌, ◌==◌, not, nat_lt, bytes_eq, codes, if◌then◌else◌}
use Rattle.std.proofs.lemmas.List.{take-append-drop}
use Rattle.std.proofs.lemmas.List.Sums.{take_while-cons}
use Rattle.std.proofs.lemmas.List.Elements.{All-nil, All-cons, All-head, All-tail}
use Rattle.std.proofs.lemmas.Bool.Decides.{nat_tests}
use Rattle.std.proofs.lemmas.Slice.Eq.{bytes_eq-Decides}
use Rattle.uss_route.specs.declared.rows.RouteRow.{RouteRow}
use Rattle.uss_route.specs.Rows.{text_of, count_of}
use Rattle.uss_route.specs.Routes.{segment, first_segment, behind_segment, are_parameters, behind_text, fits, first_of, second_of}
use Rattle.uss_route.specs.Spelling.{IsParameter, parameters_text, IsPathOf}
use Rattle.uss_route.proofs.Looking.{both_left, both_right}

abbrev pub NoSlash : ℕ → Type 0
NoSlash b = (b == 47) ≡ false

pub is_slash : (b : ℕ) → (b == 47) ≡ true → b ≡ 47
is_slash b e = grind (arith, nat_tests)

-- the first segment and what stands after it
segment_at : (bytes : List ℕ) (b : ℕ) (t : Bool) → (b == 47) ≡ t → segment (b ∷ bytes) ≡ cond (not t) (b ∷ segment bytes) []
segment_at bytes b t e = take_while-cons (λ c. not (c == 47)) b bytes ∙ ap (λ (u : Bool). cond (not u) (b ∷ segment bytes) []) e

parts_at : (bytes : List ℕ) (b : ℕ) (t : Bool) → (b == 47) ≡ t → bytes ≡ segment bytes ++ drop (length (segment bytes)) bytes → b ∷ bytes ≡ segment (b ∷ bytes) ++ drop (length (segment (b ∷ bytes))) (b ∷ bytes)
parts_at bytes b true e later = rw (segment_at bytes b true e) refl
parts_at bytes b false e later = rw (segment_at bytes b false e) (ap (λ (l : List ℕ). b ∷ l) later)

pub parts : (bytes : List ℕ) → bytes ≡ segment bytes ++ drop (length (segment bytes)) bytes
parts [] = refl
parts (b ∷ bytes) = parts_at bytes b (b == 47) refl (parts bytes)

free_at : (bytes : List ℕ) (b : ℕ) (t : Bool) → (b == 47) ≡ t → All NoSlash (segment bytes) → All NoSlash (segment (b ∷ bytes))
free_at bytes b true e later = rw (segment_at bytes b true e) (All-nil NoSlash)
free_at bytes b false e later = rw (segment_at bytes b false e) (All-cons NoSlash b (segment bytes) e later)

pub free : (bytes : List ℕ) → All NoSlash (segment bytes)
free [] = All-nil NoSlash
free (b ∷ bytes) = free_at bytes b (b == 47) refl (free bytes)

slash_is : (b : ℕ) → b ≡ 47 → (b == 47) ≡ true
slash_is b e = grind (arith, nat_tests)

-- what begins with a slash, or is nothing
abbrev pub begins : List ℕ → Type 0
begins [] = Unit {0}
begins (b ∷ bytes) = b ≡ 47

-- the segment before such bytes
pub segment_in_front : (p rest : List ℕ) → All NoSlash p → begins rest → segment (p ++ rest) ≡ p
segment_in_front [] [] all is = refl
segment_in_front [] (b ∷ rest) all is = segment_at rest b true (slash_is b is)
segment_in_front (b ∷ p) rest all is = segment_at (p ++ rest) b false (All-head NoSlash b p all) ∙ ap (λ (l : List ℕ). b ∷ l) (segment_in_front p rest (All-tail NoSlash b p all) is)

text_begins : (ps : List (List ℕ)) → begins (parameters_text ps)
text_begins [] = tt
text_begins (p ∷ ps) = refl

pub behind_front : (p rest : List ℕ) → drop (length p) (p ++ rest) ≡ rest
behind_front [] rest = refl
behind_front (b ∷ p) rest = behind_front p rest

first_is : (p : List ℕ) (ps : List (List ℕ)) → IsParameter p → first_segment (parameters_text (p ∷ ps)) ≡ p
first_is p ps is = segment_in_front p (parameters_text ps) is.free (text_begins ps)

behind_all : (p : List ℕ) (ps : List (List ℕ)) → drop (1 + length p) (parameters_text (p ∷ ps)) ≡ parameters_text ps
behind_all p ps = rw one-add (behind_front p (parameters_text ps))

behind_is : (p : List ℕ) (ps : List (List ℕ)) → IsParameter p → behind_segment (parameters_text (p ∷ ps)) ≡ parameters_text ps
behind_is p ps is = ap (λ (n : ℕ). drop (1 + n) (parameters_text (p ∷ ps))) (ap length (first_is p ps is)) ∙ behind_all p ps

pub some_length : (p : List ℕ) → 0 < length p → nat_lt 0 (length p) ≡ true
some_length p some = grind (arith, nat_tests)

some_is : (p : List ℕ) (ps : List (List ℕ)) → IsParameter p → nat_lt 0 (length (first_segment (parameters_text (p ∷ ps)))) ≡ true
some_is p ps is = ap (λ (l : List ℕ). nat_lt 0 (length l)) (first_is p ps is) ∙ some_length p is.some

-- parameters are found
pub found : (ps : List (List ℕ)) → All IsParameter ps → are_parameters (length ps) (parameters_text ps) ≡ true
found [] all = refl
found (p ∷ ps) all =
    let is = All-head IsParameter p ps all in
    ap (λ (n : Bool). n && are_parameters (length ps) (behind_segment (parameters_text (p ∷ ps)))) (some_is p ps is)
    ∙ ap (λ (b : List ℕ). are_parameters (length ps) b) (behind_is p ps is)
    ∙ found ps (All-tail IsParameter p ps all)

none_left : (bytes : List ℕ) → (length bytes == 0) ≡ true → bytes ≡ []
none_left [] e = refl
none_left (b ∷ bytes) e = absurd (grind (arith, nat_tests))

pub some_from : (p : List ℕ) → nat_lt 0 (length p) ≡ true → 0 < length p
some_from p e = grind (arith, nat_tests)

behind_rest : (x : ℕ) (rest text : List ℕ) → behind_segment (x ∷ rest) ≡ text → drop (length (segment rest)) rest ≡ text
behind_rest x rest text e = sym (ap (λ (n : ℕ). drop n (x ∷ rest)) (one-add (length (segment rest)))) ∙ e

-- parameters that stand in the bytes
record Read (n : ℕ) (bytes : List ℕ) : Type 0 where
  pub list : List (List ℕ)
  pub count : length list ≡ n
  pub are : All IsParameter list
  pub spelled : bytes ≡ parameters_text list

read_more : (n x : ℕ) (rest : List ℕ) → x ≡ 47 → nat_lt 0 (length (segment rest)) ≡ true → Read n (behind_segment (x ∷ rest)) → Read (suc n) (x ∷ rest)
read_more n x rest slash some later =
    record {
      list = segment rest ∷ later.list;
      count = ap suc later.count;
      are = All-cons IsParameter (segment rest) later.list (record { some = some_from (segment rest) some; free = free rest }) later.are;
      spelled = ap (λ (b : ℕ). b ∷ rest) slash ∙ ap (λ (l : List ℕ). 47 ∷ l) (parts rest ∙ ap (λ (l : List ℕ). segment rest ++ l) (behind_rest x rest (parameters_text later.list) later.spelled));
    }

read : (n : ℕ) (bytes : List ℕ) → are_parameters n bytes ≡ true → Read n bytes
read zero bytes e = record { list = []; count = refl; are = All-nil IsParameter; spelled = none_left bytes e }
read (suc n) [] e = absurd (cc)
read (suc n) (x ∷ rest) e =
    let slash = bytes_eq (x ∷ []) (codes "/") in
    let some = nat_lt 0 (length (segment rest)) in
    let later = are_parameters n (behind_segment (x ∷ rest)) in
    let front = both_left (slash && some) later e in
    read_more n x rest (is_slash x (both_left (x == 47) _ (both_left slash some front))) (both_right slash some front) (read n (behind_segment (x ∷ rest)) (both_right (slash && some) later e))

more_than_none : (n : ℕ) → nat_lt 0 (suc n) ≡ true
more_than_none n = grind (arith, nat_tests)

more_than_one : (n : ℕ) → nat_lt 1 (suc (suc n)) ≡ true
more_than_one n = grind (arith, nat_tests)

not_two : nat_lt 1 (suc 0) ≡ false
not_two = grind (arith, nat_tests)

-- the first and the second
first_at : (ps : List (List ℕ)) → All IsParameter ps → (if nat_lt 0 (length ps) then first_segment (parameters_text ps) else []) ≡ get_or ps 0 []
first_at [] all = refl
first_at (p ∷ ps) all = ap (λ (b : Bool). if b then first_segment (parameters_text (p ∷ ps)) else []) (more_than_none (length ps)) ∙ first_is p ps (All-head IsParameter p ps all)

second_at : (ps : List (List ℕ)) → All IsParameter ps → (if nat_lt 1 (length ps) then first_segment (behind_segment (parameters_text ps)) else []) ≡ get_or ps 1 []
second_at [] all = refl
second_at (p ∷ []) all = ap (λ (b : Bool). if b then first_segment (behind_segment (parameters_text (p ∷ []))) else []) not_two
second_at (p ∷ q ∷ ps) all = ap (λ (b : Bool). if b then first_segment (behind_segment (parameters_text (p ∷ q ∷ ps))) else []) (more_than_one (length ps)) ∙ ap first_segment (behind_is p (q ∷ ps) (All-head IsParameter p (q ∷ ps) all)) ∙ first_is q ps (All-head IsParameter q ps (All-tail IsParameter p (q ∷ ps) all))

take_front : (xs ys : List ℕ) → take (length xs) (xs ++ ys) ≡ xs
take_front [] ys = refl
take_front (x ∷ xs) ys = ap (λ (l : List ℕ). x ∷ l) (take_front xs ys)

pub fits_spelled : (row : RouteRow) (path : List ℕ) (ps : List (List ℕ)) → IsPathOf row ps path → fits row path ≡ true
fits_spelled row path ps is =
    let text = text_of row in
    let rest = parameters_text ps in
    let behind : behind_text row path ≡ rest = ap (drop (length text)) is.spelled ∙ behind_front text rest in
    let front : take (length text) path ≡ text = ap (take (length text)) is.spelled ∙ take_front text rest in
    ap (λ (f : List ℕ). bytes_eq f text && are_parameters (count_of row) (behind_text row path)) front
    ∙ ap (λ (b : Bool). b && are_parameters (count_of row) (behind_text row path)) ((bytes_eq-Decides text text).1 refl)
    ∙ ap (are_parameters (count_of row)) behind
    ∙ ap (λ (n : ℕ). are_parameters n rest) (sym is.count)
    ∙ found ps is.are

pub spelled_fits : (row : RouteRow) (path : List ℕ) → fits row path ≡ true → (ps : List (List ℕ)) × IsPathOf row ps path
spelled_fits row path e =
    let text = text_of row in
    let front : take (length text) path ≡ text = (bytes_eq-Decides (take (length text) path) text).0 (both_left (bytes_eq (take (length text) path) text) (are_parameters (count_of row) (behind_text row path)) e) in
    let ps = read (count_of row) (behind_text row path) (both_right (bytes_eq (take (length text) path) text) (are_parameters (count_of row) (behind_text row path)) e) in
    (ps.list, record { count = ps.count; are = ps.are; spelled = sym (take-append-drop (length text) path) ∙ ap (λ (f : List ℕ). f ++ behind_text row path) front ∙ ap (λ (l : List ℕ). text ++ l) ps.spelled })

pub parameters_are : (row : RouteRow) (path : List ℕ) (ps : List (List ℕ)) → IsPathOf row ps path → (first_of row path ≡ get_or ps 0 []) × (second_of row path ≡ get_or ps 1 [])
parameters_are row path ps is =
    let text = text_of row in
    let rest = parameters_text ps in
    let behind : behind_text row path ≡ rest = ap (drop (length text)) is.spelled ∙ behind_front text rest in (
      ap (λ (l : List ℕ). if nat_lt 0 (count_of row) then first_segment l else []) behind ∙ ap (λ (n : ℕ). if nat_lt 0 n then first_segment rest else []) (sym is.count) ∙ first_at ps is.are,
      ap (λ (l : List ℕ). if nat_lt 1 (count_of row) then first_segment (behind_segment l) else []) behind ∙ ap (λ (n : ℕ). if nat_lt 1 n then first_segment (behind_segment rest) else []) (sym is.count) ∙ second_at ps is.are,
    )
