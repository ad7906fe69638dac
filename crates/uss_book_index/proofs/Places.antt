-- Places in a list that grows.
use Rattle.std.proofs.Common.{ℕ, ◌<◌, Bool, true, false, List, [], ◌∷◌, ◌++◌, ◌≡◌, length, length-append, refl, sym, subst, ◌∙◌, arith, Option, Some, None, slice_get, zero, suc}
use Rattle.std.specs.List.{find}
use Rattle.std.specs.Prelude.{Result, Ok, Err, OnOk, OnErr}
use Rattle.std.proofs.lemmas.List.Folds.{find-append}
use Rattle.uss_event.specs.declared.entries.Entry.{Entry}
use Rattle.uss_law_book.proofs.Finds.{find_kept, or_none}
use Rattle.uss_book_index.specs.Firsts.{IsAt}

pub got_left : {X : Type 0} (xs ys : List X) (n : ℕ) → n < length xs → slice_get (xs ++ ys) n ≡ slice_get xs n
got_left [] ys n h = absurd (omega arith)
got_left (x ∷ xs) ys zero h = refl
got_left (x ∷ xs) ys (suc n) h = got_left xs ys n (omega arith)

pub got_last : {X : Type 0} (xs : List X) (y : X) → slice_get (xs ++ y ∷ []) (length xs) ≡ Some y
got_last [] y = refl
got_last (x ∷ xs) y = got_last xs y

pub got_some : {X : Type 0} (xs : List X) (n : ℕ) → n < length xs → (x : X) × (slice_get xs n ≡ Some x)
got_some [] n h = absurd (omega arith)
got_some (x ∷ xs) zero h = (x, refl)
got_some (x ∷ xs) (suc n) h = got_some xs n (omega arith)

pub longer : {X : Type 0} (xs : List X) (y : X) (n : ℕ) → n < length xs → n < length (xs ++ y ∷ [])
longer xs y n h = let g = length-append xs (y ∷ []) in omega (arith, g, h)

pub last_is_in : {X : Type 0} (xs : List X) (y : X) → length xs < length (xs ++ y ∷ [])
last_is_in xs y = let g = length-append xs (y ∷ []) in omega (arith, g)

pub found_still : {X : Type 0} (p : X → Bool) (xs : List X) (y : X) → p y ≡ false → find p (xs ++ y ∷ []) ≡ find p xs
found_still p xs y unlike = find-append p xs (y ∷ []) ∙ rw unlike (or_none (find p xs))

pub found_now : {X : Type 0} (p : X → Bool) (xs : List X) (y : X) → find p xs ≡ None → p y ≡ true → find p (xs ++ y ∷ []) ≡ Some y
found_now p xs y none like = find-append p xs (y ∷ []) ∙ rw (none, like) refl

-- a place stays
pub place_stays : (es : List Entry) (e : Entry) (w : Option (Option ℕ)) (o : Option Entry) → IsAt es w o → IsAt (es ++ e ∷ []) w o
place_stays es e (Some (Some n)) o h = (got_left es (e ∷ []) n h.1 ∙ h.0, longer es e n h.1)
place_stays es e (Some None) o h = h
place_stays es e None o h = h

-- the new entry isn't looked for
pub unlike_stays : (p : Entry → Bool) (es : List Entry) (e : Entry) (w : Option (Option ℕ)) → p e ≡ false → IsAt es w (find p es) → IsAt (es ++ e ∷ []) w (find p (es ++ e ∷ []))
unlike_stays p es e w unlike h = subst (λ (o : Option Entry). IsAt (es ++ e ∷ []) w o) (sym (found_still p es e unlike)) (place_stays es e w (find p es) h)

-- there was one
pub first_stays : (p : Entry → Bool) (es : List Entry) (e : Entry) (n : ℕ) → IsAt es (Some (Some n)) (find p es) → IsAt (es ++ e ∷ []) (Some (Some n)) (find p (es ++ e ∷ []))
first_stays p es e n h =
    let s = got_some es n h.1 in
    let f : find p es ≡ Some s.0 = sym h.0 ∙ s.1 in
    (got_left es (e ∷ []) n h.1 ∙ s.1 ∙ sym (find_kept p es (e ∷ []) s.0 f), longer es e n h.1)

-- there was none
pub first_comes : (p : Entry → Bool) (es : List Entry) (e : Entry) → find p es ≡ None → p e ≡ true → IsAt (es ++ e ∷ []) (Some (Some (length es))) (find p (es ++ e ∷ []))
first_comes p es e none like = (got_last es e ∙ sym (found_now p es e none like), last_is_in es e)

-- what holds of a call that can't fail
pub done : {A B P Q : Type 0} (r : Result A B) → OnOk r P → OnErr r Q → (Q → ⊥) → P
done (Ok a) p q n = p
done (Err b) p q n = absurd (n q)

-- what follows where a call succeeded
pub on_ok : {A B P Q : Type 0} (r : Result A B) → OnOk r P → (P → Q) → OnOk r Q
on_ok (Ok a) p f = f p
on_ok (Err b) p f = tt
