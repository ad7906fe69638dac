-- Files that agree in their first bytes.
use Rattle.std.proofs.Common.{◌≡◌, ℕ, ◌+◌, ◌<◌, ◌≤◌, List, ◌++◌, length, get_or, take, drop, arith, sym, ◌∙◌, ap, slice_range, take-append-drop}
use Rattle.std.proofs.lemmas.List.{same_lists, get_or_default, take-take}
use Rattle.std.proofs.lemmas.List.Edits.{length-between, get_or-between}
use Rattle.std.proofs.lemmas.Slice.{between_from_start, between_is}

-- the first n bytes of both files are there, and are the same
pub record Agree (n : ℕ) (a b : List ℕ) : Type 0 where
  pub in_first : n ≤ length a
  pub in_second : n ≤ length b
  pub same : (k : ℕ) → k < n → get_or b k 0 ≡ get_or a k 0

-- two files that have the same bytes from i to j
pub same_range : (a b : List ℕ) (i j : ℕ) → j ≤ length a → j ≤ length b → ((k : ℕ) → i ≤ k → k < j → get_or b k 0 ≡ get_or a k 0) → slice_range b i j ≡ slice_range a i j
same_range a b i j in_a in_b same =
    let la = length-between a i j in_a in
    let lb = length-between b i j in_b in
    same_lists (slice_range b i j) (slice_range a i j) (lb ∙ sym la)
    (λ k d low.
    let at : i + k < j = omega (arith, lb) in
    get_or-between b i j k d at
    ∙ get_or_default b (i + k) d 0 (omega arith)
    ∙ same (i + k) (omega arith) at
    ∙ get_or_default a (i + k) 0 d (omega arith)
    ∙ sym (get_or-between a i j k d at))

module _ (n : ℕ) (a b : List ℕ) (agree : Agree n a b) where
  pub agree_less : (m : ℕ) → m ≤ n → Agree m a b
  agree_less m le = record { in_first = omega (arith, agree.in_first); in_second = omega (arith, agree.in_second); same = λ k low. agree.same k (omega arith) }

  pub agree_range : (i j : ℕ) → j ≤ n → slice_range b i j ≡ slice_range a i j
  agree_range i j le = same_range a b i j (omega (arith, agree.in_first)) (omega (arith, agree.in_second)) (λ k high low. agree.same k (omega arith))

  pub agree_take : take n b ≡ take n a
  agree_take = sym (between_from_start b n) ∙ agree_range 0 n (omega arith) ∙ between_from_start a n

-- a prefix of a file, with the bytes that stand after it there
pub front_more : (file old new : List ℕ) (have upto : ℕ) → length old ≡ have → have ≤ upto → length new ≡ upto → take have new ≡ old → drop have new ≡ slice_range file have upto → take (length old) file ≡ old
    → take (length new) file ≡ new
front_more file old new have upto had le size front rest is_front =
    ap (λ (n : ℕ). take n file) size
    ∙ sym (take-append-drop have (take upto file))
    ∙ ap (λ (l : List ℕ). l ++ drop have (take upto file)) (take-take have upto file le ∙ ap (λ (n : ℕ). take n file) (sym had) ∙ is_front ∙ sym front)
    ∙ ap (λ (l : List ℕ). take have new ++ l) (sym (between_is file have upto) ∙ sym rest)
    ∙ take-append-drop have new
