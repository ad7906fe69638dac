-- The vertices of a polygon, of which no more than 1,001 are kept.
use Rattle.std.proofs.Common.{◌≡◌, ℕ, zero, suc, ◌-◌, ◌<◌, ◌≤◌, Bool, true, false, List, [], ◌∷◌, ◌++◌, length, take, Result, Ok, Err, ℤ, refl, sym, ap, ◌∙◌, arith, if◌then◌else◌}
use Rattle.std.specs.Prelude.{bytes_eq, codes, nat_lt}
use Rattle.std.proofs.Math.ListN.{length-take, length-append}
use Rattle.std.proofs.lemmas.List.{take-append-le}
use Rattle.std.proofs.lemmas.Bool.Decides.{nat_tests}
use Rattle.uss_shape.specs.declared.Place.{Place}
use Rattle.uss_vol4.specs.Volume.{Volume4D}
use Rattle.uss_text.specs.declared.refusal.WordRefusal.{WordRefusal}
use Rattle.uss_text.specs.declared.refusal.WordRefusal.TheVariants.{BadLine, TooManyVertices}
use Rattle.uss_text.specs.Reading.{◌>>=◌, Words, Read, read, word_at, integer_at, many_at}
use Rattle.uss_text.specs.Volumes.{place_at, poly_at, rect_at, vertices_of, vertices_at, kept, kept_vertices_of, kept_vertices_at, volume_of, volume_behind, volume_at}
use Rattle.uss_text.proofs.Made.{lt_true, lt_false}
use Rattle.uss_text.proofs.Many.{in_front, step_from, stop_from, end_from}

-- what is taken first is taken again
take_again : (n : ℕ) (xs ys : List Place) → take n (take n xs ++ ys) ≡ take n (xs ++ ys)
take_again zero xs ys = refl
take_again (suc n) [] ys = refl
take_again (suc n) (x ∷ xs) ys = ap (λ (all : List Place). x ∷ all) (take_again n xs ys)

pub record SoFar (all given : Result (Read (List Place)) WordRefusal) (places : List Place) : Type 0 where
  pub is : kept all ≡ kept (in_front places given)
  pub few : length places ≤ 1001

none_in_front : (all : Result (Read (List Place)) WordRefusal) → kept all ≡ kept (in_front [] all)
none_in_front (Ok r) = refl
none_in_front (Err e) = refl

pub none_so_far : (all : Result (Read (List Place)) WordRefusal) (places : List Place) → places ≡ [] → SoFar all all places
none_so_far all places none = rw none (record { is = none_in_front all; few = omega arith })

kept_again : (places : List Place) (given : Result (Read (List Place)) WordRefusal) → kept (in_front places given) ≡ kept (in_front (take 1001 places) given)
kept_again places (Ok r) = ap (λ (all : List Place). Ok (read all r.rest)) (sym (take_again 1001 places r.value))
kept_again places (Err e) = refl

pub go_on : (all : Result (Read (List Place)) WordRefusal) (left : ℕ) (words rest : Words) (p : Place) (places more : List Place) → 0 < left → SoFar all (many_at place_at left words) places → place_at words ≡ Ok (read p rest) → more ≡ take 1001 (places ++ p ∷ []) → SoFar all (many_at place_at (left - 1) rest) more
go_on all left words rest p places more some so_far first is = rw is (record {
  is = so_far.is ∙ ap kept (step_from place_at left words rest p places some first) ∙ kept_again (places ++ p ∷ []) (many_at place_at (left - 1) rest);
  few = rw (length-take 1001 (places ++ p ∷ [])) (omega arith);
})

pub stop_at : (all : Result (Read (List Place)) WordRefusal) (left : ℕ) (words : Words) (e : WordRefusal) (places : List Place) → 0 < left → SoFar all (many_at place_at left words) places → place_at words ≡ Err e → kept all ≡ Err e
stop_at all left words e places some so_far first = so_far.is ∙ ap kept (stop_from place_at left words e places some first)

take_all : (n : ℕ) (xs : List Place) → length xs ≤ n → take n xs ≡ xs
take_all zero [] h = refl
take_all zero (x ∷ xs) h = absurd (omega arith)
take_all (suc n) [] h = refl
take_all (suc n) (x ∷ xs) h = ap (λ (all : List Place). x ∷ all) (take_all n xs (omega arith))

pub end_with : (all : Result (Read (List Place)) WordRefusal) (left : ℕ) (words : Words) (places : List Place) → left ≡ 0 → SoFar all (many_at place_at left words) places → kept all ≡ Ok (read places words)
end_with all left words places none so_far = so_far.is ∙ ap kept (end_from place_at left words places none) ∙ ap (λ (all : List Place). Ok (read all words)) (take_all 1001 places so_far.few)

pub put_behind : (xs : List Place) (x : Place) → length xs < 1001 → xs ++ x ∷ [] ≡ take 1001 (xs ++ x ∷ [])
put_behind xs x room = sym (take_all 1001 (xs ++ x ∷ []) (omega (arith, length-append xs (x ∷ []))))

pub no_room : (xs : List Place) (x : Place) → length xs ≡ 1001 → xs ≡ take 1001 (xs ++ x ∷ [])
no_room xs x full = sym (take_all 1001 xs (omega arith)) ∙ sym (take-append-le 1001 xs (x ∷ []) (omega arith))

-- 1,001 vertices are enough to be refused
too_many : (vs : List Place) (low high start end : ℤ) → 1000 < length vs → volume_of vs low high start end ≡ Err TooManyVertices
unfolding volume_of
too_many vs low high start end h = rw (lt_false (length vs) 3 (omega arith), lt_true 1000 (length vs) h) refl

is_more : (vs : List Place) → nat_lt 1000 (length vs) ≡ true → 1000 < length vs
is_more vs h = grind (arith, nat_tests)

is_few : (vs : List Place) → nat_lt 1000 (length vs) ≡ false → length vs ≤ 1000
is_few vs h = grind (arith, nat_tests)

kept_volume_by : (vs : List Place) (low high start end : ℤ) (t : Bool) → nat_lt 1000 (length vs) ≡ t → volume_of (take 1001 vs) low high start end ≡ volume_of vs low high start end
kept_volume_by vs low high start end true h = too_many (take 1001 vs) low high start end (rw (length-take 1001 vs) (omega (arith, is_more vs h))) ∙ sym (too_many vs low high start end (is_more vs h))
kept_volume_by vs low high start end false h = ap (λ (all : List Place). volume_of all low high start end) (take_all 1001 vs (let few = is_few vs h in omega arith))

kept_volume : (vs : List Place) → volume_of (take 1001 vs) ≡ volume_of vs
kept_volume vs = λ i low high start end. kept_volume_by vs low high start end (nat_lt 1000 (length vs)) refl i

kept_behind : (vs : List Place) (ws : Words) → volume_behind (take 1001 vs) ws ≡ volume_behind vs ws
unfolding volume_behind
kept_behind vs ws = ap (λ (made : (low high start end : ℤ) → Result Volume4D WordRefusal). integer_at ws >>= λ (low : Read ℤ). (integer_at low.rest >>= λ (high : Read ℤ). (integer_at high.rest >>= λ (start : Read ℤ). (integer_at start.rest >>= λ (end : Read ℤ). (made low.value high.value start.value end.value >>= λ (volume : Volume4D). Ok (read volume end.rest)))))) (kept_volume vs)

behind : Result (Read (List Place)) WordRefusal → Result (Read Volume4D) WordRefusal
behind given = given >>= λ (outline : Read (List Place)). volume_behind outline.value outline.rest

kept_given : (given : Result (Read (List Place)) WordRefusal) → behind (kept given) ≡ behind given
unfolding behind
kept_given (Ok r) = kept_behind r.value r.rest
kept_given (Err e) = refl

kept_kind : (kind : List ℕ) (ws : Words) (is_rect is_poly : Bool) → behind (if is_rect then rect_at ws else (if is_poly then kept (poly_at ws) else Err BadLine)) ≡ behind (if is_rect then rect_at ws else (if is_poly then poly_at ws else Err BadLine))
kept_kind kind ws true is_poly = refl
kept_kind kind ws false true = kept_given (poly_at ws)
kept_kind kind ws false false = refl

kept_word : (word : Result (Read (List ℕ)) WordRefusal) → behind (word >>= λ (kind : Read (List ℕ)). kept_vertices_of kind.value kind.rest) ≡ behind (word >>= λ (kind : Read (List ℕ)). vertices_of kind.value kind.rest)
kept_word (Ok kind) = kept_kind kind.value kind.rest (bytes_eq kind.value (codes "rect")) (bytes_eq kind.value (codes "poly"))
kept_word (Err e) = refl

-- so the volume is that of all of them
pub volume_kept : (ws : Words) → (kept_vertices_at ws >>= λ (outline : Read (List Place)). volume_behind outline.value outline.rest) ≡ volume_at ws
unfolding behind kept_vertices_at vertices_at volume_at
volume_kept ws = kept_word (word_at ws)
