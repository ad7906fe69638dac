-- What the walk of a router finds in rows that are joined, after a text, and after a parameter.
use Rattle.std.proofs.Common.{◌≡◌, ◌≢◌, ℕ, zero, suc, ◌+◌, ◌-◌, ◌<◌, ◌≤◌, Bool, true, false, List, [], ◌∷◌, ◌++◌, length, take, drop, Option, Some, None, refl, sym, ap, ◌∙◌, arith, cond, All, inl, inr, append-nil, nat_eq, ltb, is_some, subst}
use Rattle.std.specs.Prelude.{◌⊎◌, ◌&&◌, ◌||◌, ◌==◌, not}
use Rattle.std.specs.List.{list_all, starts_with, ends_with}
use Rattle.std.specs.Cmp.Lexicographic.{pointwise, bytes_decides}
use Rattle.std.proofs.lemmas.Bool.Decides.{nat_tests}
use Rattle.std.proofs.lemmas.List.{take-append-drop}
use Rattle.std.proofs.lemmas.List.Elements.{All-nil, All-cons, All-head, All-tail}
use Rattle.std.proofs.Math.Seq.{take-append_seam}
use Rattle.matchit.specs.Rows.{Rows, Seen, rows_of, ends, prepend, empty_node, param_token, catch_all_token}
use Rattle.matchit.specs.Level.{IsText, AllSegment, AreSuffixes}
use Rattle.matchit.specs.Seek.{own, step, or_else, seek, first, param_step, after_param, has_slash, cuts, longest_suffix}
use Rattle.matchit.specs.Seek.{segment as cut}
use Rattle.matchit.proofs.SeekLemmas.{own-append, own-ends, step-append, step-hit, step-miss, own-prepend, prepend-nil, or_else-none, param_step-empty, seek-empty, first-prefix}
use Rattle.matchit.proofs.LongestLemmas.{longest-kid}
use Rattle.matchit.proofs.ParamLemmas.{same_text-self, after_param-end, after_param-stop, after_param-kid}
use Rattle.uss_route.specs.Spelling.{IsParameter}
use Rattle.uss_route.proofs.Looking.{both_left, both_right}
use Rattle.uss_route.proofs.Spelled.{NoSlash, is_slash, behind_front}

-- ---- rows that are joined

-- the first pattern goes on with a byte where it leaves the second
abbrev pub splits : List ℕ → List ℕ → Bool
splits [] t = false
splits (x ∷ s) [] = ltb x param_token
splits (x ∷ s) (y ∷ t) = ltb x param_token && (not (x == y) || splits s t)

abbrev pub splits_all : List ℕ → Rows → Bool
splits_all s [] = true
splits_all s ((t, k) ∷ y) = splits s t && splits_all s y

abbrev pub all_split : Rows → Rows → Bool
all_split [] y = true
all_split ((s, k) ∷ x) y = splits_all s y && all_split x y

both : (a b : Bool) → a ≡ true → b ≡ true → (a && b) ≡ true
both true b e f = f
both false b e f = e

other_half : (a b : Bool) → a ≡ true → (not a || b) ≡ true → b ≡ true
other_half true b e f = f
other_half false b e f = absurd (cc)

same_number : (x b : ℕ) → (x == b) ≡ true → x ≡ b
same_number x b e = grind (arith, nat_tests)

splits_after : (b z : ℕ) (s t : List ℕ) → (z == b) ≡ true → splits (b ∷ s) (z ∷ t) ≡ true → splits s t ≡ true
splits_after b z s t e is =
    let same : (b == z) ≡ true = grind (arith, nat_tests) in
    other_half (b == z) (splits s t) same (both_right (ltb b param_token) (not (b == z) || splits s t) is)

-- what goes on with a byte in each is apart likewise
splits_step : (b : ℕ) (s : List ℕ) (y : Rows) → splits_all (b ∷ s) y ≡ true → splits_all s (step b y) ≡ true
splits_step b s [] e = refl
splits_step b s (([], k) ∷ y) e = splits_step b s y (both_right (ltb b param_token) (splits_all (b ∷ s) y) e)
splits_step b s ((z ∷ t, k) ∷ y) e =
    splits_by (z == b) refl (splits_step b s y (both_right (splits (b ∷ s) (z ∷ t)) (splits_all (b ∷ s) y) e))
  where
    splits_by : (v : Bool) → (z == b) ≡ v → splits_all s (step b y) ≡ true → splits_all s (cond v ((t, k) ∷ step b y) (step b y)) ≡ true
    splits_by true q later = both (splits s t) (splits_all s (step b y)) (splits_after b z s t q (both_left (splits (b ∷ s) (z ∷ t)) (splits_all (b ∷ s) y) e)) later
    splits_by false q later = later

split_step : (b : ℕ) (x y : Rows) → all_split x y ≡ true → all_split (step b x) (step b y) ≡ true
split_step b [] y e = refl
split_step b (([], k) ∷ x) y e = split_step b x y (both_right (splits_all [] y) (all_split x y) e)
split_step b ((z ∷ s, k) ∷ x) y e =
    split_by (z == b) refl (split_step b x y (both_right (splits_all (z ∷ s) y) (all_split x y) e))
  where
    split_by : (v : Bool) → (z == b) ≡ v → all_split (step b x) (step b y) ≡ true → all_split (cond v ((s, k) ∷ step b x) (step b x)) (step b y) ≡ true
    split_by true q later =
        let same : z ≡ b = same_number z b q in
        let here : splits_all (b ∷ s) y ≡ true = ap (λ (c : ℕ). splits_all (c ∷ s) y) (sym same) ∙ both_left (splits_all (z ∷ s) y) (all_split x y) e in
        both (splits_all s (step b y)) (all_split (step b x) (step b y)) (splits_step b s y here) later
    split_by false q later = later

-- beside other rows the first begin with bytes
byte_at : (x : ℕ) (s t : List ℕ) → splits (x ∷ s) t ≡ true → ltb x param_token ≡ true
byte_at x s [] e = e
byte_at x s (y ∷ t) e = both_left (ltb x param_token) (not (x == y) || splits s t) e

no_wild : (w : ℕ) (x : Rows) (t : List ℕ) (k : ℕ) (y : Rows) → param_token ≤ w → all_split x ((t, k) ∷ y) ≡ true → step w x ≡ []
no_wild w [] t k y high e = refl
no_wild w (([], j) ∷ x) t k y high e = absurd (cc)
no_wild w ((z ∷ s, j) ∷ x) t k y high e =
    let here = byte_at z s t (both_left (splits (z ∷ s) t) (splits_all (z ∷ s) y) (both_left (splits_all (z ∷ s) ((t, k) ∷ y)) (all_split x ((t, k) ∷ y)) e)) in
    let other : (z == w) ≡ false = grind (arith, nat_tests) in
    ap (λ (v : Bool). cond v ((s, j) ∷ step w x) (step w x)) other
    ∙ no_wild w x t k y high (both_right (splits_all (z ∷ s) ((t, k) ∷ y)) (all_split x ((t, k) ∷ y)) e)

-- the walk after a byte
abbrev after_byte : Rows → Rows → ℕ → List ℕ → Option ℕ
after_byte wild all b p = or_else (seek ((param_step wild (b ∷ p)).0 - 1) (param_step wild (b ∷ p)).1 p) (own all)

walk : (x : Rows) (b : ℕ) (p : List ℕ) → first x (b ∷ p) ≡ or_else (first (step b x) p) (after_byte (step param_token x) (step catch_all_token x) b p)
unfolding seek
walk x b p = refl

none_after : (b : ℕ) (p : List ℕ) → after_byte [] [] b p ≡ None
none_after b p =
    ap (λ (r : Rows). or_else (seek ((param_step {K = ℕ} [] (b ∷ p)).0 - 1) r p) None) (param_step-empty (b ∷ p))
    ∙ ap (λ (o : Option ℕ). or_else o None) (seek-empty ((param_step {K = ℕ} [] (b ∷ p)).0 - 1) p)

walk_bytes : (x : Rows) (b : ℕ) (p : List ℕ) → step param_token x ≡ [] → step catch_all_token x ≡ [] → first x (b ∷ p) ≡ first (step b x) p
walk_bytes x b p e f =
    walk x b p
    ∙ ap (λ (r : Rows). or_else (first (step b x) p) (after_byte r (step catch_all_token x) b p)) e
    ∙ ap (λ (r : Rows). or_else (first (step b x) p) (after_byte [] r b p)) f
    ∙ ap (or_else (first (step b x) p)) (none_after b p)
    ∙ or_else-none (first (step b x) p)

or_else-assoc : (a b c : Option ℕ) → or_else (or_else a b) c ≡ or_else a (or_else b c)
or_else-assoc None b c = refl
or_else-assoc (Some k) b c = refl

-- of rows that are apart the first are looked at first
pub joined_first : (x y : Rows) (p : List ℕ) → all_split x y ≡ true → first (x ++ y) p ≡ or_else (first x p) (first y p)
unfolding seek
joined_first x y [] e = own-append x y
joined_first x [] (b ∷ p) e =
    ap (λ (r : Rows). first r (b ∷ p)) (append-nil x) ∙ sym (or_else-none (first x (b ∷ p))) ∙ ap (or_else (first x (b ∷ p))) (sym (seek-empty 0 (b ∷ p)))
joined_first x ((t, k) ∷ y) (b ∷ p) e =
    let others = (t, k) ∷ y in
    let wild = no_wild param_token x t k y (omega arith) e in
    let all = no_wild catch_all_token x t k y (omega arith) e in
    let rest = after_byte (step param_token others) (step catch_all_token others) b p in
    walk (x ++ others) b p
    ∙ ap (λ (r : Rows). or_else (first r p) (after_byte (step param_token (x ++ others)) (step catch_all_token (x ++ others)) b p)) (step-append b x others)
    ∙ ap (λ (r : Rows). or_else (first (step b x ++ step b others) p) (after_byte r (step catch_all_token (x ++ others)) b p)) (step-append param_token x others ∙ ap (λ (r : Rows). r ++ step param_token others) wild)
    ∙ ap (λ (r : Rows). or_else (first (step b x ++ step b others) p) (after_byte (step param_token others) r b p)) (step-append catch_all_token x others ∙ ap (λ (r : Rows). r ++ step catch_all_token others) all)
    ∙ ap (λ (o : Option ℕ). or_else o rest) (joined_first (step b x) (step b others) p (split_step b x others e))
    ∙ or_else-assoc (first (step b x) p) (first (step b others) p) rest
    ∙ ap (λ (o : Option ℕ). or_else o (first others (b ∷ p))) (sym (walk_bytes x b p wild all))

-- something is found
abbrev pub Has : Rows → List ℕ → Type 0
Has x p = is_some (first x p) ≡ true

some_left : (a b : Option ℕ) → is_some a ≡ true → is_some (or_else a b) ≡ true
some_left None b e = absurd (cc)
some_left (Some k) b e = refl

some_right : (a b : Option ℕ) → is_some b ≡ true → is_some (or_else a b) ≡ true
some_right None b e = e
some_right (Some k) b e = refl

pub has_left : (x y : Rows) (p : List ℕ) → all_split x y ≡ true → Has x p → Has (x ++ y) p
has_left x y p e has = ap is_some (joined_first x y p e) ∙ some_left (first x p) (first y p) has

pub has_right : (x y : Rows) (p : List ℕ) → all_split x y ≡ true → Has y p → Has (x ++ y) p
has_right x y p e has = ap is_some (joined_first x y p e) ∙ some_right (first x p) (first y p) has

one_of : (a b : Option ℕ) (j : ℕ) → or_else a b ≡ Some j → (a ≡ Some j) ⊎ (b ≡ Some j)
one_of None b j e = inr e
one_of (Some k) b j e = inl e

pub found_in : (x y : Rows) (p : List ℕ) (j : ℕ) → all_split x y ≡ true → first (x ++ y) p ≡ Some j → (first x p ≡ Some j) ⊎ (first y p ≡ Some j)
found_in x y p j e is = one_of (first x p) (first y p) j (sym (joined_first x y p e) ∙ is)

-- ---- rows after a text

abbrev pub are_bytes : List ℕ → Bool
are_bytes w = list_all (λ b. ltb b 256) w

text_from : (w : List ℕ) → are_bytes w ≡ true → IsText w
text_from [] e = tt
text_from (b ∷ w) e =
    let here = both_left (ltb b 256) (are_bytes w) e in
    (grind (arith, nat_tests), text_from w (both_right (ltb b 256) (are_bytes w) e))

begins_with : (w q : List ℕ) → starts_with nat_eq (w ++ q) w ≡ true
begins_with w q = ap (λ (l : List ℕ). pointwise nat_eq w l) (take-append_seam w q) ∙ same_text-self w

pub after_text : (w : List ℕ) (x : Rows) (q : List ℕ) → are_bytes w ≡ true → first (prepend w x) (w ++ q) ≡ first x q
after_text w x q e =
    first-prefix w x (w ++ q) (text_from w e)
    ∙ ap (λ (v : Bool). cond v (first x (drop (length w) (w ++ q))) None) (begins_with w q)
    ∙ ap (first x) (behind_front w q)

text_by : (w : List ℕ) (x : Rows) (p : List ℕ) (j : ℕ) (v : Bool) → starts_with nat_eq p w ≡ v → cond v (first x (drop (length w) p)) None ≡ Some j → (q : List ℕ) × (p ≡ w ++ q) × (first x q ≡ Some j)
text_by w x p j false e is = absurd (cc)
text_by w x p j true e is =
    (drop (length w) p, sym (take-append-drop (length w) p) ∙ ap (λ (l : List ℕ). l ++ drop (length w) p) (sym ((bytes_decides w (take (length w) p)).0 e)), is)

pub text_found : (w : List ℕ) (x : Rows) (p : List ℕ) (j : ℕ) → are_bytes w ≡ true → first (prepend w x) p ≡ Some j → (q : List ℕ) × (p ≡ w ++ q) × (first x q ≡ Some j)
text_found w x p j e is = text_by w x p j (starts_with nat_eq p w) refl (sym (first-prefix w x p (text_from w e)) ∙ is)

-- ---- a path by its first slash

pub split_at : (q : List ℕ) → All NoSlash q ⊎ ((a : List ℕ) × (rest : List ℕ) × All NoSlash a × (q ≡ a ++ 47 ∷ rest))
split_at [] = inl (All-nil NoSlash)
split_at (b ∷ q) = split_by (b == 47) refl (split_at q)
  where
    split_by : (v : Bool) → (b == 47) ≡ v → All NoSlash q ⊎ ((a : List ℕ) × (rest : List ℕ) × All NoSlash a × (q ≡ a ++ 47 ∷ rest)) → All NoSlash (b ∷ q) ⊎ ((a : List ℕ) × (rest : List ℕ) × All NoSlash a × (b ∷ q ≡ a ++ 47 ∷ rest))
    split_by true e later = inr ([], q, All-nil NoSlash, ap (λ (c : ℕ). c ∷ q) (is_slash b e))
    split_by false e (inl all) = inl (All-cons NoSlash b q e all)
    split_by false e (inr s) = inr (b ∷ s.0, s.1, All-cons NoSlash b s.0 e s.2, ap (λ (l : List ℕ). b ∷ l) s.3)

no_slash_in : (l : List ℕ) → All NoSlash l → has_slash l ≡ false
no_slash_in [] all = refl
no_slash_in (b ∷ l) all = ap (λ (v : Bool). cond v true (has_slash l)) (All-head NoSlash b l all) ∙ no_slash_in l (All-tail NoSlash b l all)

true_either : (v w : Bool) → w ≡ true → cond v true w ≡ true
true_either true w e = refl
true_either false w e = e

slash_in : (a rest : List ℕ) → has_slash (a ++ 47 ∷ rest) ≡ true
slash_in [] rest = refl
slash_in (b ∷ a) rest = true_either (b == 47) (has_slash (a ++ 47 ∷ rest)) (slash_in a rest)

cut_none : (l : List ℕ) → All NoSlash l → cut l ≡ l
cut_none [] all = refl
cut_none (b ∷ l) all = ap (λ (v : Bool). cond v (b ∷ []) (b ∷ cut l)) (All-head NoSlash b l all) ∙ ap (λ (c : List ℕ). b ∷ c) (cut_none l (All-tail NoSlash b l all))

cut_at : (a rest : List ℕ) → All NoSlash a → cut (a ++ 47 ∷ rest) ≡ a ++ 47 ∷ []
cut_at [] rest all = refl
cut_at (b ∷ a) rest all =
    ap (λ (v : Bool). cond v (b ∷ []) (b ∷ cut (a ++ 47 ∷ rest))) (All-head NoSlash b a all) ∙ ap (λ (c : List ℕ). b ∷ c) (cut_at a rest (All-tail NoSlash b a all))

-- ---- rows after a parameter

-- what comes after a parameter: rows after a slash, and a row that ends
abbrev pub past_parameter : Rows → Option ℕ → Rows
past_parameter x v = prepend (47 ∷ []) x ++ ends v

abbrev pub at_parameter : Rows → Option ℕ → Rows
at_parameter x v = prepend (param_token ∷ []) (past_parameter x v)

abbrev node : Rows → Seen
node x = record { prefix = 47 ∷ []; tails = x; height = 0 }

abbrev nodes : Rows → List Seen
nodes [] = []
nodes (r ∷ x) = node (r ∷ x) ∷ []

rows_of_nodes : (x : Rows) → rows_of (nodes x) ≡ prepend (47 ∷ []) x
rows_of_nodes [] = refl
rows_of_nodes (r ∷ x) = append-nil (prepend (47 ∷ []) (r ∷ x))

all_slash : (x : Rows) → AllSegment (47 ∷ []) (prepend (47 ∷ []) x)
all_slash [] = tt
all_slash ((t, k) ∷ x) = (refl, all_slash x)

are_suffixes : (x : Rows) → AreSuffixes (nodes x)
are_suffixes [] = tt
are_suffixes ((t, k) ∷ x) = (record { some_prefix = omega arith; some_rows = omega arith; all_segment = all_slash ((t, k) ∷ x) }, tt, tt)

-- a segment that ends with no slash, or is one, leaves none
not_cut : (x : Rows) (seg : List ℕ) → cuts seg (47 ∷ []) ≡ false → longest_suffix seg (rows_of (nodes x)) ≡ []
not_cut [] seg e = refl
not_cut ((t, k) ∷ x) seg e =
    ap (longest_suffix seg) (rows_of_nodes ((t, k) ∷ x))
    ∙ longest-kid seg [] (47 ∷ []) (prepend (47 ∷ []) ((t, k) ∷ x)) (all_slash ((t, k) ∷ x)) (omega arith)
    ∙ ap (λ (v : Bool). cond v (47 ∷ []) []) e

and_none : (a b : Bool) → b ≡ false → (a && b) ≡ false
and_none true b e = e
and_none false b e = refl

other_byte : (b : ℕ) (v : Bool) → (b == 47) ≡ false → (nat_eq 47 b && v) ≡ false
other_byte b v e = let n : nat_eq 47 b ≡ false = grind (arith, nat_tests) in ap (λ (t : Bool). t && v) n

no_slash_ends : (l : List ℕ) (n : ℕ) → All NoSlash l → pointwise nat_eq (47 ∷ []) (drop n l) ≡ false
no_slash_ends [] zero all = refl
no_slash_ends [] (suc n) all = refl
no_slash_ends (b ∷ l) zero all = other_byte b (pointwise nat_eq [] l) (All-head NoSlash b l all)
no_slash_ends (b ∷ l) (suc n) all = no_slash_ends l n (All-tail NoSlash b l all)

no_slash_cuts : (l : List ℕ) → All NoSlash l → cuts (cut l) (47 ∷ []) ≡ false
no_slash_cuts l all =
    ap (λ (c : List ℕ). cuts c (47 ∷ [])) (cut_none l all) ∙ and_none (ltb 1 (length l)) (ends_with nat_eq l (47 ∷ [])) (no_slash_ends l (length l - 1) all)

pub parameter_end : (x : Rows) (v : Option ℕ) (p : List ℕ) → IsParameter p → after_param (past_parameter x v) p ≡ v
parameter_end x v [] is = absurd (omega (arith, is.some))
parameter_end x v (b ∷ p) is =
    ap (λ (r : Rows). after_param (r ++ ends v) (b ∷ p)) (sym (rows_of_nodes x))
    ∙ after_param-end (nodes x) v b p (are_suffixes x) (not_cut x (cut (b ∷ p)) (no_slash_cuts (b ∷ p) is.free)) (no_slash_in (b ∷ p) is.free)

pub parameter_none : (x : Rows) (v : Option ℕ) (rest : List ℕ) → after_param (past_parameter x v) (47 ∷ rest) ≡ None
parameter_none x v rest =
    ap (λ (r : Rows). after_param (r ++ ends v) (47 ∷ rest)) (sym (rows_of_nodes x)) ∙ after_param-stop (nodes x) v 47 rest (not_cut x (47 ∷ []) refl) refl

long_slash : (a : List ℕ) → length (a ++ 47 ∷ []) ≡ length a + 1
long_slash [] = refl
long_slash (b ∷ a) = let n = long_slash a in omega (arith, n)

before_slash : (a : List ℕ) → length (a ++ 47 ∷ []) - 1 ≡ length a
before_slash a = let n = long_slash a in omega (arith, n)

last_slash : (a : List ℕ) → drop (length (a ++ 47 ∷ []) - 1) (a ++ 47 ∷ []) ≡ 47 ∷ []
last_slash a =
    let n : length (a ++ 47 ∷ []) - 1 ≡ length a = before_slash a in
    ap (λ (m : ℕ). drop m (a ++ 47 ∷ [])) n ∙ behind_front a (47 ∷ [])

more_than_a_slash : (a : List ℕ) → 0 < length a → ltb 1 (length (a ++ 47 ∷ [])) ≡ true
more_than_a_slash a some = let n = long_slash a in grind (arith, nat_tests)

is_cut : (a : List ℕ) → 0 < length a → cuts (a ++ 47 ∷ []) (47 ∷ []) ≡ true
is_cut a some =
    both (ltb 1 (length (a ++ 47 ∷ []))) (ends_with nat_eq (a ++ 47 ∷ []) (47 ∷ [])) (more_than_a_slash a some) (ap (λ (l : List ℕ). pointwise nat_eq (47 ∷ []) l) (last_slash a))

chosen_here : (t : List ℕ) (k : ℕ) (x : Rows) (a rest : List ℕ) → IsParameter a → 47 ∷ [] ≡ longest_suffix (cut (a ++ 47 ∷ rest)) (rows_of (nodes ((t, k) ∷ x)))
chosen_here t k x a rest is =
    let seg = cut (a ++ 47 ∷ rest) in
    sym (
    ap (longest_suffix seg) (rows_of_nodes ((t, k) ∷ x))
    ∙ longest-kid seg [] (47 ∷ []) (prepend (47 ∷ []) ((t, k) ∷ x)) (all_slash ((t, k) ∷ x)) (omega arith)
    ∙ ap (λ (v : Bool). cond v (47 ∷ []) []) (ap (λ (c : List ℕ). cuts c (47 ∷ [])) (cut_at a rest is.free) ∙ is_cut a is.some)
    )

goes_on : (x : Rows) (a rest : List ℕ) → All NoSlash a → first (prepend (47 ∷ []) x) (drop (length (cut (a ++ 47 ∷ rest)) - 1) (a ++ 47 ∷ rest)) ≡ first x rest
goes_on x a rest free =
    ap (λ (n : ℕ). first (prepend (47 ∷ []) x) (drop n (a ++ 47 ∷ rest))) (ap (λ (c : List ℕ). length c - 1) (cut_at a rest free) ∙ before_slash a)
    ∙ ap (first (prepend (47 ∷ []) x)) (behind_front a (47 ∷ rest))
    ∙ after_text (47 ∷ []) x rest refl

pub parameter_goes_on : (x : Rows) (v : Option ℕ) (a rest : List ℕ) → IsParameter a → after_param (past_parameter x v) (a ++ 47 ∷ rest) ≡ first x rest
parameter_goes_on x v [] rest is = absurd (omega (arith, is.some))
parameter_goes_on [] v (b ∷ a) rest is = after_param-stop [] v b (a ++ 47 ∷ rest) refl (slash_in (b ∷ a) rest) ∙ sym (seek-empty 0 rest)
parameter_goes_on ((t, k) ∷ x) v (b ∷ a) rest is =
    ap (λ (r : Rows). after_param (r ++ ends v) (b ∷ (a ++ 47 ∷ rest))) (sym (rows_of_nodes ((t, k) ∷ x)))
    ∙ after_param-kid (nodes ((t, k) ∷ x)) 0 empty_node v b (a ++ 47 ∷ rest) (are_suffixes ((t, k) ∷ x)) (omega arith) (chosen_here t k x (b ∷ a) rest is)
    ∙ goes_on ((t, k) ∷ x) (b ∷ a) rest is.free

-- ---- what is found at a parameter

ends_none : (v : Option ℕ) (b : ℕ) (p : List ℕ) → first (ends v) (b ∷ p) ≡ None
ends_none None b p = seek-empty 0 (b ∷ p)
ends_none (Some k) b p = walk_bytes (([], k) ∷ []) b p refl refl ∙ seek-empty 0 p

none_found : {P : Type 0} (o : Option ℕ) (j : ℕ) → o ≡ None → o ≡ Some j → P
none_found o j e f = absurd (cc)

pub ends_found : (v : Option ℕ) (q : List ℕ) (j : ℕ) → first (ends v) q ≡ Some j → (q ≡ []) × (v ≡ Some j)
unfolding seek
ends_found v [] j e = (refl, sym (own-ends v) ∙ e)
ends_found v (b ∷ q) j e = none_found (first (ends v) (b ∷ q)) j (ends_none v b q) e

-- the path is a parameter and ends there, or goes on after a slash
abbrev pub AtParameter : Rows → Option ℕ → List ℕ → ℕ → Type 0
AtParameter x v p j =
    (IsParameter p × (v ≡ Some j)) ⊎ ((a : List ℕ) × (rest : List ℕ) × IsParameter a × (p ≡ a ++ 47 ∷ rest) × (first x rest ≡ Some j))

walk_parameter : (x : Rows) (v : Option ℕ) (b : ℕ) (p : List ℕ) → first (at_parameter x v) (b ∷ p) ≡ or_else (first (step b (at_parameter x v)) p) (after_param (past_parameter x v) (b ∷ p))
walk_parameter x v b p =
    let rows = at_parameter x v in
    let inner = past_parameter x v in
    walk rows b p
    ∙ ap (λ (r : Rows). or_else (first (step b rows) p) (after_byte r (step catch_all_token rows) b p)) (step-hit param_token [] inner ∙ prepend-nil inner)
    ∙ ap (λ (r : Rows). or_else (first (step b rows) p) (after_byte inner r b p)) (step-miss catch_all_token param_token [] inner (λ e. omega arith))
    ∙ ap (or_else (first (step b rows) p)) (or_else-none (after_param inner (b ∷ p)))

slash_splits : (x : Rows) (v : Option ℕ) → all_split (prepend (47 ∷ []) x) (ends v) ≡ true
slash_splits [] v = refl
slash_splits ((t, k) ∷ x) None = slash_splits x None
slash_splits ((t, k) ∷ x) (Some j) = slash_splits x (Some j)

-- the number of the token isn't that of a slash
token_parameter : (b : ℕ) → b ≡ param_token → IsParameter (b ∷ [])
token_parameter b e = record { some = omega arith; free = All-cons NoSlash b [] (grind (arith, nat_tests)) (All-nil NoSlash) }

inner_found : (x : Rows) (v : Option ℕ) (b : ℕ) (p : List ℕ) (j : ℕ) → b ≡ param_token → (first (prepend (47 ∷ []) x) p ≡ Some j) ⊎ (first (ends v) p ≡ Some j) → AtParameter x v (b ∷ p) j
inner_found x v b p j is (inl e) =
    let f = text_found (47 ∷ []) x p j refl e in
    inr (b ∷ [], f.0, token_parameter b is, ap (λ (l : List ℕ). b ∷ l) f.1, f.2)
inner_found x v b p j is (inr e) =
    let f = ends_found v p j e in
    inl (subst (λ (l : List ℕ). IsParameter (b ∷ l)) (sym f.0) (token_parameter b is), f.1)

token_found : (x : Rows) (v : Option ℕ) (b : ℕ) (p : List ℕ) (j : ℕ) (t : Bool) → (b == param_token) ≡ t → first (step b (at_parameter x v)) p ≡ Some j → AtParameter x v (b ∷ p) j
token_found x v b p j false is e =
    let other : param_token ≢ b = λ q. grind (arith, nat_tests) in
    none_found (first (step b (at_parameter x v)) p) j (ap (λ (r : Rows). first r p) (step-miss b param_token [] (past_parameter x v) other) ∙ seek-empty 0 p) e
token_found x v b p j true is e =
    let same : b ≡ param_token = same_number b param_token is in
    let here : step b (at_parameter x v) ≡ past_parameter x v = ap (λ (c : ℕ). step c (at_parameter x v)) same ∙ step-hit param_token [] (past_parameter x v) ∙ prepend-nil (past_parameter x v) in
    inner_found x v b p j same (found_in (prepend (47 ∷ []) x) (ends v) p j (slash_splits x v) (sym (ap (λ (r : Rows). first r p) here) ∙ e))

after_found : (x : Rows) (v : Option ℕ) (q : List ℕ) (j : ℕ) → All NoSlash q ⊎ ((a : List ℕ) × (rest : List ℕ) × All NoSlash a × (q ≡ a ++ 47 ∷ rest)) → after_param (past_parameter x v) q ≡ Some j → AtParameter x v q j
after_found x v [] j (inl all) e = absurd (cc)
after_found x v (b ∷ q) j (inl all) e =
    let is : IsParameter (b ∷ q) = record { some = omega arith; free = all } in
    inl (is, sym (parameter_end x v (b ∷ q) is) ∙ e)
after_found x v q j (inr s) e = at_slash x v q j s.0 s.1 s.2 s.3 e
  where
    at_slash : (x : Rows) (v : Option ℕ) (q : List ℕ) (j : ℕ) (a rest : List ℕ) → All NoSlash a → q ≡ a ++ 47 ∷ rest → after_param (past_parameter x v) q ≡ Some j → AtParameter x v q j
    at_slash x v q j [] rest all is e = none_found (after_param (past_parameter x v) q) j (ap (after_param (past_parameter x v)) is ∙ parameter_none x v rest) e
    at_slash x v q j (b ∷ a) rest all is e =
        let good : IsParameter (b ∷ a) = record { some = omega arith; free = all } in
        inr (b ∷ a, rest, good, is, sym (parameter_goes_on x v (b ∷ a) rest good) ∙ sym (ap (after_param (past_parameter x v)) is) ∙ e)

either_found : (x : Rows) (v : Option ℕ) (b : ℕ) (p : List ℕ) (j : ℕ) → (first (step b (at_parameter x v)) p ≡ Some j) ⊎ (after_param (past_parameter x v) (b ∷ p) ≡ Some j) → AtParameter x v (b ∷ p) j
either_found x v b p j (inl e) = token_found x v b p j (b == param_token) refl e
either_found x v b p j (inr e) = after_found x v (b ∷ p) j (split_at (b ∷ p)) e

pub parameter_found : (x : Rows) (v : Option ℕ) (p : List ℕ) (j : ℕ) → first (at_parameter x v) p ≡ Some j → AtParameter x v p j
unfolding seek
parameter_found x v [] j e = none_found (own (at_parameter x v)) j (own-prepend param_token [] (past_parameter x v)) e
parameter_found x v (b ∷ p) j e =
    either_found x v b p j (one_of (first (step b (at_parameter x v)) p) (after_param (past_parameter x v) (b ∷ p)) j (sym (walk_parameter x v b p) ∙ e))

-- ---- what has something to be found

pub has_text : (w : List ℕ) (x : Rows) (q : List ℕ) → are_bytes w ≡ true → Has x q → Has (prepend w x) (w ++ q)
has_text w x q e has = ap is_some (after_text w x q e) ∙ has

pub has_parameter : (x : Rows) (k : ℕ) (p : List ℕ) → IsParameter p → Has (at_parameter x (Some k)) p
has_parameter x k [] is = absurd (omega (arith, is.some))
has_parameter x k (b ∷ p) is =
    ap is_some (walk_parameter x (Some k) b p)
    ∙ some_right (first (step b (at_parameter x (Some k))) p) (after_param (past_parameter x (Some k)) (b ∷ p)) (ap is_some (parameter_end x (Some k) (b ∷ p) is))

pub has_more : (x : Rows) (v : Option ℕ) (a rest : List ℕ) → IsParameter a → Has x rest → Has (at_parameter x v) (a ++ 47 ∷ rest)
has_more x v [] rest is has = absurd (omega (arith, is.some))
has_more x v (b ∷ a) rest is has =
    let q = a ++ 47 ∷ rest in
    ap is_some (walk_parameter x v b q)
    ∙ some_right (first (step b (at_parameter x v)) q) (after_param (past_parameter x v) (b ∷ q)) (ap is_some (parameter_goes_on x v (b ∷ a) rest is) ∙ has)
