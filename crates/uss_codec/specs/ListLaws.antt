-- Options and lists of coded values are coded.
use Rattle.std.proofs.Common.{◌≡◌, ℕ, zero, suc, ◌^◌, ◌<◌, ◌≤◌, Bool, true, false, cond, leb, List, [], ◌∷◌, ◌++◌, length, All, Option, Some, None, refl, sym, ap, subst, ◌∙◌, append_assoc, arith}
use Rattle.std.specs.Prelude.{IfSome}
use Rattle.std.specs.List.{flat_map}
use Rattle.std.proofs.lemmas.Bool.{leb-true, le-leb}
use Rattle.std.proofs.lemmas.List.Elements.{All-nil, All-cons, All-head, All-tail}
use Rattle.std.proofs.lemmas.List.Concat.{flat_map-cons}
use Rattle.uss_codec.specs.Spelling.{in_1_byte, in_4_bytes, optional, counted, list, short_list}
use Rattle.uss_codec.specs.Reading.{Reading, ◌>>=◌, in_1_byte_at, in_4_bytes_at, optional_at, many_at, counted_at, list_at, short_list_at}
use Rattle.uss_codec.specs.Coded.{AreBytes, IsCoded}
use Rattle.uss_codec.specs.Laws.{bytes_left, step_some, same_value, coded_in_1_byte, coded_in_4_bytes}

module _ {A : Type 0} (fits : A → Type 0) (spelling : A → List ℕ) (reading : Reading A) (c : IsCoded fits spelling reading) where
  -- ---- options

  optional_found : (bytes : List ℕ) (o : Option A) (rest : List ℕ) → AreBytes bytes → optional_at reading bytes ≡ Some (o, rest) → (bytes ≡ optional spelling o ++ rest) × IfSome o fits
  unfolding optional_at
  optional_found [] o rest are e = absurd cc
  optional_found (zero ∷ bytes) o rest are e =
      subst (λ (x : Option A × List ℕ). (0 ∷ bytes ≡ optional spelling x.0 ++ x.1) × IfSome x.0 fits) (same_value (None, bytes) (o, rest) e) (refl, tt)
  optional_found (suc zero ∷ bytes) o rest are e =
      let a = step_some (reading bytes) (λ (x : A × List ℕ). Some (Some x.0, x.1)) (o, rest) e in
      let f = c.found bytes a.0.0 a.0.1 (bytes_left (1 ∷ bytes) (1 ∷ []) bytes are refl) a.1 in
      let g : (1 ∷ bytes ≡ optional spelling (Some a.0.0) ++ a.0.1) × fits a.0.0 = (ap (λ (r : List ℕ). 1 ∷ r) f.0, f.1) in
      let made : Option A × List ℕ = (Some a.0.0, a.0.1) in
      subst (λ (x : Option A × List ℕ). (1 ∷ bytes ≡ optional spelling x.0 ++ x.1) × IfSome x.0 fits) (same_value made (o, rest) a.2) g
  optional_found (suc (suc b) ∷ bytes) o rest are e = absurd cc

  optional_again : (o : Option A) (rest : List ℕ) → IfSome o fits → optional_at reading (optional spelling o ++ rest) ≡ Some (o, rest)
  unfolding optional_at
  optional_again None rest h = refl
  optional_again (Some x) rest h = rw (c.again x rest h) refl

  pub coded_optional : IsCoded (λ o. IfSome o fits) (optional spelling) (optional_at reading)
  coded_optional = record { found = optional_found; again = optional_again }

  -- ---- lists

  many_found : (n : ℕ) (bytes : List ℕ) (x : List A × List ℕ) → AreBytes bytes → many_at reading n bytes ≡ Some x → (bytes ≡ flat_map spelling x.0 ++ x.1) × (length x.0 ≡ n) × All fits x.0
  unfolding many_at
  many_found zero bytes x are e =
      subst (λ (y : List A × List ℕ). (bytes ≡ flat_map spelling y.0 ++ y.1) × (length y.0 ≡ 0) × All fits y.0) (same_value ([], bytes) x e) (refl, refl, All-nil fits)
  many_found (suc n) bytes x are e =
      let a = step_some (reading bytes) (λ (first : A × List ℕ). many_at reading n first.1 >>= λ (others : List A × List ℕ). Some (first.0 ∷ others.0, others.1)) x e in
      let b = step_some (many_at reading n a.0.1) (λ (others : List A × List ℕ). Some (a.0.0 ∷ others.0, others.1)) x a.2 in
      let first = c.found bytes a.0.0 a.0.1 are a.1 in
      let second = many_found n a.0.1 b.0 (bytes_left bytes (spelling a.0.0) a.0.1 are first.0) b.1 in
      let whole : bytes ≡ flat_map spelling (a.0.0 ∷ b.0.0) ++ b.0.1 =
      first.0 ∙ ap (λ (r : List ℕ). spelling a.0.0 ++ r) second.0 ∙ sym (append_assoc (spelling a.0.0) (flat_map spelling b.0.0) b.0.1)
      ∙ ap (λ (r : List ℕ). r ++ b.0.1) (sym (flat_map-cons spelling a.0.0 b.0.0)) in
      let made : List A × List ℕ = (a.0.0 ∷ b.0.0, b.0.1) in
      subst (λ (y : List A × List ℕ). (bytes ≡ flat_map spelling y.0 ++ y.1) × (length y.0 ≡ suc n) × All fits y.0) (same_value made x b.2)
      (whole, ap suc second.1, All-cons fits a.0.0 b.0.0 first.1 second.2)

  many_again : (xs : List A) (rest : List ℕ) → All fits xs → many_at reading (length xs) (flat_map spelling xs ++ rest) ≡ Some (xs, rest)
  unfolding many_at
  many_again [] rest h = refl
  many_again (x ∷ xs) rest h =
      let regrouped : flat_map spelling (x ∷ xs) ++ rest ≡ spelling x ++ (flat_map spelling xs ++ rest) =
      ap (λ (r : List ℕ). r ++ rest) (flat_map-cons spelling x xs) ∙ append_assoc (spelling x) (flat_map spelling xs) rest in
      ap (many_at reading (suc (length xs))) regrouped
      ∙ rw (c.again x (flat_map spelling xs ++ rest) (All-head fits x xs h), many_again xs rest (All-tail fits x xs h)) refl

  -- a list of at most so many items, whose number is coded by a coding that holds it
  module _ (limit top : ℕ) (count : ℕ → List ℕ) (count_at : Reading ℕ) where
    pub coded_counted : limit < top → IsCoded (λ n. n < top) count count_at → IsCoded (λ (xs : List A). (length xs ≤ limit) × All fits xs) (counted count spelling) (counted_at limit count_at reading)
    unfolding counted_at
    coded_counted lower d = record {
      found = λ bytes xs rest are e.
          let a = step_some (count_at bytes) (λ (n : ℕ × List ℕ). cond (leb n.0 limit) (many_at reading n.0 n.1) None) (xs, rest) e in
          let f = d.found bytes a.0.0 a.0.1 are a.1 in
          let t = passed (leb a.0.0 limit) (many_at reading a.0.0 a.0.1) (xs, rest) a.2 in
          let m = many_found a.0.0 a.0.1 (xs, rest) (bytes_left bytes (count a.0.0) a.0.1 are f.0) t.1 in
          let whole : bytes ≡ counted count spelling xs ++ rest =
          f.0 ∙ ap (λ (r : List ℕ). count a.0.0 ++ r) m.0 ∙ ap (λ (n : ℕ). count n ++ (flat_map spelling xs ++ rest)) (sym m.1)
          ∙ sym (append_assoc (count (length xs)) (flat_map spelling xs) rest) in
          (whole, (omega (arith, leb-true a.0.0 limit t.0, m.1), m.2));
      again = λ xs rest h.
          let few : leb (length xs) limit ≡ true = le-leb (length xs) limit h.0 in
          let low : length xs < top = omega (arith, h.0, lower) in
          ap (counted_at limit count_at reading) (append_assoc (count (length xs)) (flat_map spelling xs) rest)
          ∙ rw (d.again (length xs) (flat_map spelling xs ++ rest) low, few) (many_again xs rest h.1);
    }
      where
        passed : (b : Bool) (o : Option (List A × List ℕ)) (y : List A × List ℕ) → cond b o None ≡ Some y → (b ≡ true) × (o ≡ Some y)
        passed true o y e = (refl, e)
        passed false o y e = absurd cc

  pub coded_list : (limit : ℕ) → limit < 2 ^ 32 → IsCoded (λ (xs : List A). (length xs ≤ limit) × All fits xs) (list spelling) (list_at limit reading)
  coded_list limit low = coded_counted limit (2 ^ 32) in_4_bytes in_4_bytes_at low coded_in_4_bytes

  pub coded_short_list : IsCoded (λ (xs : List A). (length xs ≤ 255) × All fits xs) (short_list spelling) (short_list_at reading)
  coded_short_list = coded_counted 255 (2 ^ 8) in_1_byte in_1_byte_at (omega arith) coded_in_1_byte
