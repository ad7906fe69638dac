-- Numbers and texts are coded: what is read is spelled so, and what fits is read again.
use Rattle.std.proofs.Common.{◌≡◌, ℕ, ◌+◌, ◌*◌, ◌/◌, ◌%◌, ◌^◌, ◌<◌, ◌≤◌, ℤ, pos, negsuc, Bool, true, false, cond, ltb, List, [], ◌∷◌, ◌++◌, length, take, drop, Option, Some, None, refl, sym, ap, subst, ◌∙◌, append_assoc, arith, inl, inr}
use Rattle.std.specs.Int.{Width, w16, w32, w64, byte_len, from_be_bytes, to_be_bytes, cast_signed, cast_unsigned}
use Rattle.std.specs.Int.RustNames.{FitsSigned}
use Rattle.std.proofs.Math.Facts.{sfits_to_z}
use Rattle.std.proofs.lemmas.Bool.{cases_lt, ltb-false, le-ltb}
use Rattle.std.proofs.lemmas.Int.{to_z-of_z, of_z-to_z}
use Rattle.std.proofs.lemmas.List.{take_at, drop_at, take-append-drop, length-append, length-take, get_or-drop, get_or-take, get_or_past, get_or-append-add}
use Rattle.std.proofs.lemmas.Nat.{be_bytes_2, be_bytes_4, be_bytes_8, from_be_bytes-to_be_bytes_2, from_be_bytes-to_be_bytes_4, from_be_bytes-to_be_bytes_8, div-mul-add, mod-mul-add, div-add-mod'}
use Rattle.uss_codec.specs.Spelling.{number, in_1_byte, in_2_bytes, in_4_bytes, in_8_bytes, in_16_bytes, signed_in_8_bytes, text}
use Rattle.uss_codec.specs.Reading.{Reading, ◌>>=◌, number_at, in_1_byte_at, in_2_bytes_at, in_4_bytes_at, in_8_bytes_at, in_16_bytes_at, signed_in_8_bytes_at, from_halves, both_at, made_at, only_at, text_at}
use Rattle.uss_codec.specs.Coded.{AreBytes, IsCoded}

-- ---- bytes

pub bytes_behind : (front rest : List ℕ) → AreBytes (front ++ rest) → AreBytes rest
bytes_behind front rest h i = subst (λ (n : ℕ). n < 256) (get_or-append-add front rest i 0) (h (length front + i))

pub bytes_left : (bytes front rest : List ℕ) → AreBytes bytes → bytes ≡ front ++ rest → AreBytes rest
bytes_left bytes front rest h e = bytes_behind front rest (subst AreBytes e h)

bytes_dropped : (n : ℕ) (bytes : List ℕ) → AreBytes bytes → AreBytes (drop n bytes)
bytes_dropped n bytes h i = rw get_or-drop (h (n + i))

bytes_taken : (n : ℕ) (bytes : List ℕ) → AreBytes bytes → AreBytes (take n bytes)
bytes_taken n bytes h i =
    elim (cases_lt i n) [
      | inl lt ↦ rw (get_or-take n bytes i 0 lt) (h i)
      | inr le ↦ rw (get_or_past (take n bytes) i 0 (omega (arith, length-take n bytes))) (omega arith)
    ]

-- ---- steps

-- the value of a step that gave one
pub step_some : {A B : Type 0} (r : Option A) (f : A → Option B) (y : B) → (r >>= f) ≡ Some y → (x : A) × (r ≡ Some x) × (f x ≡ Some y)
step_some None f y e = absurd cc
step_some (Some x) f y e = (x, refl, e)

-- a test that was passed
pub test_some : {A : Type 0} (b : Bool) (x y : A) → cond b (Some x) None ≡ Some y → (b ≡ true) × (x ≡ y)
test_some true x y e = (refl, cc)
test_some false x y e = absurd cc

-- a test that was not met
pub refused_some : {A : Type 0} (b : Bool) (x y : A) → cond b None (Some x) ≡ Some y → (b ≡ false) × (x ≡ y)
refused_some true x y e = absurd cc
refused_some false x y e = (refl, cc)

pub same_value : {A : Type 0} (x y : A) → Some x ≡ Some y → x ≡ y
same_value x y e = cc

-- ---- one value after another, what is made of values, and values that pass a test

module _ {A B : Type 0} (fits : A → Type 0) (spelling : A → List ℕ) (reading : Reading A) (fits' : B → Type 0) (spelling' : B → List ℕ) (reading' : Reading B) where
  pub coded_both : IsCoded fits spelling reading → IsCoded fits' spelling' reading'
      → IsCoded (λ (p : A × B). fits p.0 × fits' p.1) (λ p. spelling p.0 ++ spelling' p.1) (both_at reading reading')
  coded_both c d = record {
    found = λ bytes x rest are e.
        let a = step_some (reading bytes) (λ (v : A × List ℕ). reading' v.1 >>= λ (w : B × List ℕ). Some ((v.0, w.0), w.1)) (x, rest) e in
        let b = step_some (reading' a.0.1) (λ (w : B × List ℕ). Some ((a.0.0, w.0), w.1)) (x, rest) a.2 in
        let first = c.found bytes a.0.0 a.0.1 are a.1 in
        let second = d.found a.0.1 b.0.0 b.0.1 (bytes_left bytes (spelling a.0.0) a.0.1 are first.0) b.1 in
        let whole : bytes ≡ (spelling a.0.0 ++ spelling' b.0.0) ++ b.0.1 =
        first.0 ∙ ap (λ (r : List ℕ). spelling a.0.0 ++ r) second.0 ∙ sym (append_assoc (spelling a.0.0) (spelling' b.0.0) b.0.1) in
        let made : (A × B) × List ℕ = ((a.0.0, b.0.0), b.0.1) in
        subst (λ (y : (A × B) × List ℕ). (bytes ≡ (spelling y.0.0 ++ spelling' y.0.1) ++ y.1) × (fits y.0.0 × fits' y.0.1)) (same_value made (x, rest) b.2) (whole, (first.1, second.1));
    again = λ x rest h.
        ap (both_at reading reading') (append_assoc (spelling x.0) (spelling' x.1) rest)
        ∙ rw (c.again x.0 (spelling' x.1 ++ rest) h.0, d.again x.1 rest h.1) refl;
  }

module _ {A B : Type 0} (fits : A → Type 0) (spelling : A → List ℕ) (reading : Reading A) (make : A → B) (parts : B → A) where
  pub coded_made : ((x : A) → parts (make x) ≡ x) → ((y : B) → make (parts y) ≡ y) → IsCoded fits spelling reading
      → IsCoded (λ y. fits (parts y)) (λ y. spelling (parts y)) (made_at make reading)
  coded_made there back c = record {
    found = λ bytes y rest are e.
        let a = step_some (reading bytes) (λ (v : A × List ℕ). Some (make v.0, v.1)) (y, rest) e in
        let f = c.found bytes a.0.0 a.0.1 are a.1 in
        let g : (bytes ≡ spelling (parts (make a.0.0)) ++ a.0.1) × fits (parts (make a.0.0)) = subst (λ (x : A). (bytes ≡ spelling x ++ a.0.1) × fits x) (sym (there a.0.0)) f in
        let made : B × List ℕ = (make a.0.0, a.0.1) in
        subst (λ (z : B × List ℕ). (bytes ≡ spelling (parts z.0) ++ z.1) × fits (parts z.0)) (same_value made (y, rest) a.2) g;
    again = λ y rest h. rw (c.again (parts y) rest h, back y) refl;
  }

module _ {A : Type 0} (fits : A → Type 0) (spelling : A → List ℕ) (reading : Reading A) where
  pub coded_only : (test : A → Bool) (passes : A → Type 0) → ((x : A) → test x ≡ true → fits x → passes x) → ((x : A) → passes x → (test x ≡ true) × fits x) → IsCoded fits spelling reading
      → IsCoded passes spelling (only_at test reading)
  coded_only test passes there back c = record {
    found = λ bytes x rest are e.
        let a = step_some (reading bytes) (λ (v : A × List ℕ). cond (test v.0) (Some v) None) (x, rest) e in
        let t = test_some (test a.0.0) a.0 (x, rest) a.2 in
        let f = c.found bytes a.0.0 a.0.1 are a.1 in
        let g : (bytes ≡ spelling a.0.0 ++ a.0.1) × passes a.0.0 = (f.0, there a.0.0 t.0 f.1) in
        subst (λ (z : A × List ℕ). (bytes ≡ spelling z.0 ++ z.1) × passes z.0) t.1 g;
    again = λ x rest h.
        let b = back x h in
        rw (c.again x rest b.1, b.0) refl;
  }

  -- each has one spelling
  pub one_spelling : (x y : A) → IsCoded fits spelling reading → fits x → fits y → spelling x ≡ spelling y → x ≡ y
  one_spelling x y c h k e =
      let r : reading (spelling x ++ []) ≡ Some (y, []) = ap (λ (s : List ℕ). reading (s ++ [])) e ∙ c.again y [] k in
      ap (λ (p : A × List ℕ). p.0) (same_value (x, []) (y, []) (sym (c.again x [] h) ∙ r))

-- ---- numbers

record IsWide (w : Width) (limit : ℕ) : Type 0 where
  pub len : (n : ℕ) → length (to_be_bytes w n) ≡ byte_len w
  pub back : (bytes : List ℕ) → length bytes ≡ byte_len w → AreBytes bytes → to_be_bytes w (from_be_bytes w bytes) ≡ bytes
  pub once : (n : ℕ) → n < limit → from_be_bytes w (to_be_bytes w n) ≡ n
  pub below : (bytes : List ℕ) → AreBytes bytes → from_be_bytes w bytes < limit

wide16 : IsWide w16 (2 ^ 16)
wide16 = record {
  len = λ n. refl;
  back = λ bytes len are. be_bytes_2 bytes _ len are refl;
  once = λ n lt. from_be_bytes-to_be_bytes_2 n lt;
  below = λ bytes are. omega (arith, are 0, are 1);
}

wide32 : IsWide w32 (2 ^ 32)
wide32 = record {
  len = λ n. refl;
  back = λ bytes len are. be_bytes_4 bytes _ len are refl;
  once = λ n lt. from_be_bytes-to_be_bytes_4 n lt;
  below = λ bytes are. omega (arith, are 0, are 1, are 2, are 3);
}

wide64 : IsWide w64 (2 ^ 64)
wide64 = record {
  len = λ n. refl;
  back = λ bytes len are. be_bytes_8 bytes _ len are refl;
  once = λ n lt. from_be_bytes-to_be_bytes_8 n lt;
  below = λ bytes are. omega (arith, are 0, are 1, are 2, are 3, are 4, are 5, are 6, are 7);
}

coded_number : (w : Width) (limit : ℕ) → IsWide w limit → IsCoded (λ n. n < limit) (number w) (number_at w)
unfolding number number_at
coded_number w limit wide = record {
  found = λ bytes n rest are e.
      let g = refused_some (ltb (length bytes) (byte_len w)) (from_be_bytes w (take (byte_len w) bytes), drop (byte_len w) bytes) (n, rest) e in
      let long : byte_len w ≤ length bytes = ltb-false _ _ g.0 in
      let front : to_be_bytes w (from_be_bytes w (take (byte_len w) bytes)) ≡ take (byte_len w) bytes =
      wide.back (take (byte_len w) bytes) (omega (arith, length-take (byte_len w) bytes)) (bytes_taken (byte_len w) bytes are) in
      let parts : bytes ≡ to_be_bytes w (from_be_bytes w (take (byte_len w) bytes)) ++ drop (byte_len w) bytes =
      sym (take-append-drop (byte_len w) bytes) ∙ ap (λ (f : List ℕ). f ++ drop (byte_len w) bytes) (sym front) in
      subst (λ (p : ℕ × List ℕ). (bytes ≡ to_be_bytes w p.0 ++ p.1) × (p.0 < limit)) g.1 (parts, wide.below (take (byte_len w) bytes) (bytes_taken (byte_len w) bytes are));
  again = λ n rest lt.
      let len = wide.len n in
      let long : ltb (length (to_be_bytes w n ++ rest)) (byte_len w) ≡ false = le-ltb _ _ (omega (arith, length-append (to_be_bytes w n) rest)) in
      rw (long, take_at (to_be_bytes w n) rest (byte_len w) len, drop_at (to_be_bytes w n) rest (byte_len w) len, wide.once n lt) refl;
}

pub coded_in_2_bytes : IsCoded (λ n. n < 2 ^ 16) in_2_bytes in_2_bytes_at
coded_in_2_bytes = coded_number w16 (2 ^ 16) wide16

pub coded_in_4_bytes : IsCoded (λ n. n < 2 ^ 32) in_4_bytes in_4_bytes_at
coded_in_4_bytes = coded_number w32 (2 ^ 32) wide32

pub coded_in_8_bytes : IsCoded (λ n. n < 2 ^ 64) in_8_bytes in_8_bytes_at
coded_in_8_bytes = coded_number w64 (2 ^ 64) wide64

pub coded_in_1_byte : IsCoded (λ n. n < 2 ^ 8) in_1_byte in_1_byte_at
unfolding in_1_byte_at
coded_in_1_byte = record {
  found = found1;
  again = λ n rest lt. refl;
}
  where
    found1 : (bytes : List ℕ) (n : ℕ) (rest : List ℕ) → AreBytes bytes → in_1_byte_at bytes ≡ Some (n, rest) → (bytes ≡ in_1_byte n ++ rest) × (n < 2 ^ 8)
    found1 [] n rest are e = absurd cc
    found1 (b ∷ bs) n rest are e =
        subst (λ (p : ℕ × List ℕ). (b ∷ bs ≡ in_1_byte p.0 ++ p.1) × (p.0 < 2 ^ 8)) (same_value (b, bs) (n, rest) e) (refl, are 0)

-- ---- signed numbers, and identifiers of two halves

pub coded_signed : IsCoded (λ z. FitsSigned w64 z) signed_in_8_bytes signed_in_8_bytes_at
unfolding signed_in_8_bytes_at
coded_signed = record {
  found = λ bytes z rest are e.
      let c = signed_again bytes z rest are e in
      c;
  again = λ z rest h.
      rw (coded_in_8_bytes.again (cast_unsigned w64 z) rest (unsigned_below z h), to_z-of_z w64 z h) refl;
}
  where
    unsigned_below : (z : ℤ) → FitsSigned w64 z → cast_unsigned w64 z < 2 ^ 64
    unsigned_below (pos n) h = omega (arith, h.sfits)
    unsigned_below (negsuc n) h = omega arith

    signed_again : (bytes : List ℕ) (z : ℤ) (rest : List ℕ) → AreBytes bytes → signed_in_8_bytes_at bytes ≡ Some (z, rest) → (bytes ≡ signed_in_8_bytes z ++ rest) × FitsSigned w64 z
    signed_again bytes z rest are e =
        let a = step_some (in_8_bytes_at bytes) (λ (v : ℕ × List ℕ). Some (cast_signed w64 v.0, v.1)) (z, rest) e in
        let f = coded_in_8_bytes.found bytes a.0.0 a.0.1 are a.1 in
        let g : (bytes ≡ signed_in_8_bytes (cast_signed w64 a.0.0) ++ a.0.1) × FitsSigned w64 (cast_signed w64 a.0.0) =
        (f.0 ∙ ap (λ (n : ℕ). in_8_bytes n ++ a.0.1) (sym (of_z-to_z w64 a.0.0 f.1)), sfits_to_z (record { fits = f.1 })) in
        let made : ℤ × List ℕ = (cast_signed w64 a.0.0, a.0.1) in
        subst (λ (y : ℤ × List ℕ). (bytes ≡ signed_in_8_bytes y.0 ++ y.1) × FitsSigned w64 y.0) (same_value made (z, rest) a.2) g

halves_of : ℕ → ℕ × ℕ
halves_of n = (n / 2 ^ 64, n % 2 ^ 64)

pub coded_in_16_bytes : IsCoded (λ n. n < 2 ^ 128) in_16_bytes in_16_bytes_at
unfolding in_16_bytes_at
coded_in_16_bytes =
    let both = coded_both (λ n. n < 2 ^ 64) in_8_bytes in_8_bytes_at (λ n. n < 2 ^ 64) in_8_bytes in_8_bytes_at coded_in_8_bytes coded_in_8_bytes in
    record {
      found = λ bytes n rest are e.
          let a = step_some (both_at in_8_bytes_at in_8_bytes_at bytes) (λ (v : (ℕ × ℕ) × List ℕ). Some (from_halves v.0, v.1)) (n, rest) e in
          let f = both.found bytes a.0.0 a.0.1 are a.1 in
          let h : a.0.0.0 * 2 ^ 64 + a.0.0.1 < 2 ^ 128 = omega (arith, f.1.0, f.1.1) in
          let high : (a.0.0.0 * 2 ^ 64 + a.0.0.1) / 2 ^ 64 ≡ a.0.0.0 = div-mul-add a.0.0.0 (2 ^ 64) a.0.0.1 f.1.1 in
          let low : (a.0.0.0 * 2 ^ 64 + a.0.0.1) % 2 ^ 64 ≡ a.0.0.1 = mod-mul-add a.0.0.0 (2 ^ 64) a.0.0.1 f.1.1 in
          let parts : bytes ≡ in_16_bytes (from_halves a.0.0) ++ a.0.1 =
          f.0 ∙ ap (λ (m : ℕ). (in_8_bytes m ++ in_8_bytes a.0.0.1) ++ a.0.1) (sym high) ∙ ap (λ (m : ℕ). (in_8_bytes ((a.0.0.0 * 2 ^ 64 + a.0.0.1) / 2 ^ 64) ++ in_8_bytes m) ++ a.0.1) (sym low) in
          let made : ℕ × List ℕ = (from_halves a.0.0, a.0.1) in
          subst (λ (y : ℕ × List ℕ). (bytes ≡ in_16_bytes y.0 ++ y.1) × (y.0 < 2 ^ 128)) (same_value made (n, rest) a.2) (parts, h);
      again = λ n rest h.
          let fits : (n / 2 ^ 64 < 2 ^ 64) × (n % 2 ^ 64 < 2 ^ 64) = (omega arith, omega arith) in
          rw (both.again (n / 2 ^ 64, n % 2 ^ 64) rest fits, div-add-mod' n (2 ^ 64)) refl;
    }

-- ---- texts

pub coded_text : IsCoded (λ (t : List ℕ). length t < 2 ^ 32) text text_at
unfolding text_at
coded_text = record {
  found = λ bytes t rest are e.
      let b = step_some (in_4_bytes_at bytes) (λ (n : ℕ × List ℕ). cond (ltb (length n.1) n.0) None (Some (take n.0 n.1, drop n.0 n.1))) (t, rest) e in
      let n = b.0 in
      let f = coded_in_4_bytes.found bytes n.0 n.1 are b.1 in
      let g = refused_some (ltb (length n.1) n.0) (take n.0 n.1, drop n.0 n.1) (t, rest) b.2 in
      let long : n.0 ≤ length n.1 = ltb-false _ _ g.0 in
      let len : length (take n.0 n.1) ≡ n.0 = omega (arith, length-take n.0 n.1) in
      let behind : n.1 ≡ take n.0 n.1 ++ drop n.0 n.1 = sym (take-append-drop n.0 n.1) in
      let whole : bytes ≡ text (take n.0 n.1) ++ drop n.0 n.1 =
      f.0 ∙ ap (λ (r : List ℕ). in_4_bytes n.0 ++ r) behind ∙ ap (λ (k : ℕ). in_4_bytes k ++ (take n.0 n.1 ++ drop n.0 n.1)) (sym len)
      ∙ sym (append_assoc (in_4_bytes (length (take n.0 n.1))) (take n.0 n.1) (drop n.0 n.1)) in
      subst (λ (p : List ℕ × List ℕ). (bytes ≡ text p.0 ++ p.1) × (length p.0 < 2 ^ 32)) g.1 (whole, omega (arith, f.1));
  again = λ t rest lt.
      let long : ltb (length (t ++ rest)) (length t) ≡ false = le-ltb _ _ (omega (arith, length-append t rest)) in
      ap text_at (append_assoc (in_4_bytes (length t)) t rest)
      ∙ rw (coded_in_4_bytes.again (length t) (t ++ rest) lt, long, take_at t rest (length t) refl, drop_at t rest (length t) refl) refl;
}
