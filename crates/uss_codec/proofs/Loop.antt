-- Reading values one after another, as a loop does.
use Rattle.std.proofs.Common.{◌≡◌, ℕ, suc, ◌-◌, ◌+◌, ◌≤◌, ◌<◌, List, [], ◌∷◌, ◌++◌, Option, Some, None, refl, sym, ap, ◌∙◌, append_assoc, arith}
use Rattle.std.proofs.lemmas.List.{append-nil}
use Rattle.uss_codec.specs.declared.coded.Unread.{Unread}
use Rattle.uss_codec.specs.declared.coded.Unread.TheVariants.{Memory, Malformed}
use Rattle.uss_codec.specs.Reading.{Reading, ◌>>=◌, Fails, many_at}

module _ {A : Type 0} (reading : Reading A) where
  -- what was read before, before what is still read
  abbrev pub with_front : List A → Option (List A × List ℕ) → Option (List A × List ℕ)
  with_front front given = given >>= λ x. Some (front ++ x.0, x.1)

  regroup : (front : List A) (x : A) (given : Option (List A × List ℕ)) → with_front front (given >>= λ y. Some (x ∷ y.0, y.1)) ≡ with_front (front ++ x ∷ []) given
  regroup front x (Some y) = ap (λ (xs : List A). Some (xs, y.1)) (sym (append_assoc front (x ∷ []) y.0))
  regroup front x None = refl

  none_in_front : (total : Option (List A × List ℕ)) → with_front [] total ≡ total
  none_in_front None = refl
  none_in_front (Some x) = refl

  pub begins : (count : ℕ) (bytes : List ℕ) → with_front [] (many_at reading (count - 0) bytes) ≡ many_at reading count bytes
  begins count bytes =
      let k : count - 0 ≡ count = omega arith in
      rw k (none_in_front (many_at reading count bytes))

  pub goes_on : (front : List A) (count i : ℕ) (bytes : List ℕ) (x : A) (behind : List ℕ) (total : Option (List A × List ℕ)) → i < count → reading bytes ≡ Some (x, behind)
      → with_front front (many_at reading (count - i) bytes) ≡ total → with_front (front ++ x ∷ []) (many_at reading (count - (i + 1)) behind) ≡ total
  unfolding many_at
  goes_on front count i bytes x behind total lt h so_far =
      let k : count - i ≡ suc (count - (i + 1)) = omega arith in
      let one : with_front front (many_at reading (count - i) bytes) ≡ with_front (front ++ x ∷ []) (many_at reading (count - (i + 1)) behind) =
      rw (k, h) (regroup front x (many_at reading (count - (i + 1)) behind)) in
      sym one ∙ so_far

  pub ends : (e : Unread) (front : List A) (count i : ℕ) (bytes : List ℕ) (total : Option (List A × List ℕ)) → i < count → Fails e (reading bytes)
      → with_front front (many_at reading (count - i) bytes) ≡ total → Fails e total
  unfolding many_at
  ends Memory front count i bytes total lt h so_far = tt
  ends Malformed front count i bytes total lt h so_far =
      let k : count - i ≡ suc (count - (i + 1)) = omega arith in
      let one : with_front front (many_at reading (count - i) bytes) ≡ None = rw (k, h) refl in
      sym so_far ∙ one

  pub is_done : (front : List A) (count i : ℕ) (bytes : List ℕ) (total : Option (List A × List ℕ)) → count ≤ i → with_front front (many_at reading (count - i) bytes) ≡ total → total ≡ Some (front, bytes)
  unfolding many_at
  is_done front count i bytes total le so_far =
      let k : count - i ≡ 0 = omega arith in
      let one : with_front front (many_at reading (count - i) bytes) ≡ Some (front, bytes) = rw k (ap (λ (xs : List A). Some (xs, bytes)) (append-nil front)) in
      sym so_far ∙ one
