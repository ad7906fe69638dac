-- An ordered set of a key, one OVN more.
use Rattle.std.proofs.Common.{◌≡◌, ℕ, ◌+◌, ◌<◌, Bool, true, false, cond, ◌||◌, List, [], ◌∷◌, length, get_or, take, Option, Some, None, is_some, refl, sym, ap, ◌∙◌}
use Rattle.std.specs.List.{list_any}
use Rattle.std.specs.Cmp.Lexicographic.{nat_list_eq_equiv}
use Rattle.std.proofs.lemmas.List.Folds.{list_any_more}
use Rattle.uss_intent.specs.Same.{same_text}
use Rattle.uss_intent.specs.declared.records.Reference.{Reference}
use Rattle.uss_law_dss.specs.Service.{in_key, has_ovn}

either : (b a : Bool) (m : Option Bool) → is_some m ≡ a → is_some (cond b (Some true) m) ≡ (a || b)
either true true m e = refl
either true false m e = refl
either false true m e = e
either false false m e = e

pub key_more : (key : List (List ℕ)) (i : ℕ) (o q : List ℕ) (m n : Option Bool) → i < length key → o ≡ get_or key i o
    → is_some m ≡ list_any (λ p. same_text q p) (take i key) → n ≡ cond (same_text o q) (Some true) m
    → is_some n ≡ list_any (λ p. same_text q p) (take (i + 1) key)
key_more key i o q m n h e a u =
    let more = list_any_more (λ p. same_text q p) key i o h in
    ap is_some u
    ∙ either (same_text o q) (list_any (λ p. same_text q p) (take i key)) m a
    ∙ ap (λ b. list_any (λ p. same_text q p) (take i key) || b) (nat_list_eq_equiv.symm o q ∙ ap (same_text q) e)
    ∙ sym more

none_of : (key : List (List ℕ)) → false ≡ list_any (λ (o : List ℕ). false) key
none_of [] = refl
none_of (k ∷ ks) = none_of ks

pub key_without : (r : Reference) (key : List (List ℕ)) → r.ovn ≡ None → false ≡ in_key key r
key_without r key e = none_of key ∙ (λ i. list_any (λ p. has_ovn (sym e i) p) key)

pub key_with : (r : Reference) (q : List ℕ) (key : List (List ℕ)) → Some q ≡ r.ovn → list_any (λ p. same_text q p) key ≡ in_key key r
key_with r q key e = λ i. list_any (λ p. has_ovn (e i) p) key
