use Rattle.uss_shape.specs.Words.{SomeEdge, SomeCommon}
use Rattle.std.proofs.Common.{◌≡◌, ℕ, zero, suc, ◌-◌, ◌<◌, ◌≤◌, ◌⊎◌, ◌↔◌, inl, inr, refl, ap, arith, List, [], ◌∷◌, ◌++◌, length, get_or, take, drop}
use Rattle.std.proofs.lemmas.List.{take_all, length-drop}
use Rattle.uss_shape.specs.declared.Place.{Place}
use Rattle.uss_shape.specs.Plane.{Edge, edge, edges_from, Common}
use Rattle.uss_shape.proofs.Lowest.{map_some}

-- ---- a chain in two parts, the second from the last place of the first
split_after : (p d : Place) (us : List Place) (k : ℕ) → k < length us → edges_from p us ≡ edges_from p (take (suc k) us) ++ edges_from (get_or us k d) (drop (suc k) us)
split_after p d [] k l = absurd (omega arith)
split_after p d (u ∷ us) zero l = refl
split_after p d (u ∷ us) (suc k) l = ap (λ (es : List Edge). edge p u ∷ es) (split_after u d us k (omega (arith, l)))

pub chain_split : (p d : Place) (us : List Place) (k : ℕ) → 0 < k → k ≤ length us → edges_from p us ≡ edges_from p (take k us) ++ edges_from (get_or us (k - 1) d) (drop k us)
chain_split p d us zero h l = absurd (omega (arith, h))
chain_split p d us (suc k) h l = let e : suc k - 1 ≡ k = omega arith in rw e (split_after p d us k (omega (arith, l)))

some_left : (P : Edge → Type 0) (es fs : List Edge) → SomeEdge P es → SomeEdge P (es ++ fs)
some_left P [] fs s = absurd s
some_left P (e ∷ es) fs (inl h) = inl h
some_left P (e ∷ es) fs (inr s) = inr (some_left P es fs s)

some_right : (P : Edge → Type 0) (es fs : List Edge) → SomeEdge P fs → SomeEdge P (es ++ fs)
some_right P [] fs s = s
some_right P (e ∷ es) fs s = inr (some_right P es fs s)

some_parts : (P : Edge → Type 0) (es fs : List Edge) → SomeEdge P (es ++ fs) → SomeEdge P es ⊎ SomeEdge P fs
some_parts P [] fs s = inr s
some_parts P (e ∷ es) fs (inl h) = inl (inl h)
some_parts P (e ∷ es) fs (inr s) = elim (some_parts P es fs s) [ inl k ↦ inl (inr k) | inr k ↦ inr k ]

some_either : (P Q : Edge → Type 0) (es : List Edge) → SomeEdge (λ e. P e ⊎ Q e) es → SomeEdge P es ⊎ SomeEdge Q es
some_either P Q [] s = absurd s
some_either P Q (e ∷ es) (inl (inl h)) = inl (inl h)
some_either P Q (e ∷ es) (inl (inr h)) = inr (inl h)
some_either P Q (e ∷ es) (inr s) = elim (some_either P Q es s) [ inl k ↦ inl (inr k) | inr k ↦ inr (inr k) ]

-- ---- what two halves tell of the whole
back_is : (us : List Place) (k : ℕ) → take (length us - k) (drop k us) ≡ drop k us
back_is us k = take_all (length us - k) (drop k us) (omega (arith, length-drop k us))

pub first_halves : (p d : Place) (us : List Place) (fs : List Edge) (k : ℕ) → 0 < k → k ≤ length us → SomeCommon (edges_from p us) fs ↔ (SomeCommon (edges_from p (take k us)) fs ⊎ SomeCommon (edges_from (get_or us (k - 1) d) (take (length us - k) (drop k us))) fs)
first_halves p d us fs k h l =
    let P : Edge → Type 0 = λ e. SomeEdge (Common e) fs in
    let a = edges_from p (take k us) in
    let b = edges_from (get_or us (k - 1) d) (drop k us) in
    rw (chain_split p d us k h l, back_is us k) (λ s. some_parts P a b s, λ s. elim s [ inl i ↦ some_left P a b i | inr i ↦ some_right P a b i ])

pub second_halves : (q d : Place) (es : List Edge) (vs : List Place) (k : ℕ) → 0 < k → k ≤ length vs → SomeCommon es (edges_from q vs) ↔ (SomeCommon es (edges_from q (take k vs)) ⊎ SomeCommon es (edges_from (get_or vs (k - 1) d) (take (length vs - k) (drop k vs))))
second_halves q d es vs k h l =
    let a = edges_from q (take k vs) in
    let b = edges_from (get_or vs (k - 1) d) (drop k vs) in
    let P : Edge → Type 0 = λ e. SomeEdge (Common e) a in
    let Q : Edge → Type 0 = λ e. SomeEdge (Common e) b in
    rw (chain_split q d vs k h l, back_is vs k) (
      λ s. some_either P Q es (map_some (λ e. SomeEdge (Common e) (a ++ b)) (λ e. P e ⊎ Q e) (λ e i. some_parts (Common e) a b i) es s),
      λ s. elim s [
        | inl i ↦ map_some P (λ e. SomeEdge (Common e) (a ++ b)) (λ e j. some_left (Common e) a b j) es i
        | inr i ↦ map_some Q (λ e. SomeEdge (Common e) (a ++ b)) (λ e j. some_right (Common e) a b j) es i
      ],
    )
