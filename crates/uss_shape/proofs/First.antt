use Rattle.uss_shape.specs.Words.{Caught, SomeCommon, InR, SomeEdge, odd}
use Rattle.std.proofs.Common.{◌≡◌, ◌<◌, ◌↔◌, ◌⊎◌, inl, inr, Bool, true, cond, ap, sym, ◌∙◌, arith, List, [], ◌∷◌, length, get_or}
use Rattle.uss_shape.specs.declared.Place.{Place}
use Rattle.uss_shape.specs.Plane.{Edge, edge, edges, edges_from, last_of, is_above, IsOn, InRegion, Common, Meet, ParityIsKept}
use Rattle.uss_shape.proofs.Closing.{AllEdges, map_edges}
use Rattle.uss_shape.proofs.Touch.{swapped_common}
use Rattle.uss_shape.proofs.Meeting.{at_place, on_left, on_right}
use Rattle.uss_shape.proofs.Lowest.{map_some}
use Rattle.uss_shape.proofs.Decide.{dec_common, dec_edges}
use Rattle.uss_shape.proofs.Parity.{Free, law}
use Rattle.uss_shape.proofs.Complete.{Bound, MeetR}
use Rattle.uss_shape.proofs.Forms.{any_of_some, odd_rest, at_vertex, in_r, in_region, meet_is_bound, meet_of_bound, meet_of_r, swap_meet}

-- ---- the law, in the words of the definitions
none : (P : Edge → Type 0) (es : List Edge) → (SomeEdge P es → ⊥) → AllEdges (λ e. P e → ⊥) es
none P [] n = tt
none P (e ∷ es) n = (λ h. n (inl h), none P es (λ s. n (inr s)))

pub parity_is_kept : ParityIsKept
parity_is_kept vs p q n =
    let free : AllEdges (Free p q) (edges vs) = none (Common (edge p q)) (edges vs) (λ s. n (any_of_some (Common (edge p q)) (edges vs) s)) in
    odd_rest (is_above p) (edges vs) ∙ ap (λ (b : Bool). cond b 1 0) (law p q vs free) ∙ sym (odd_rest (is_above q) (edges vs))

-- ---- where no edge touches one of the other's, the first vertex decides for all
abbrev OneSide : List Place → Bool → Edge → Type 0
OneSide vs o e = odd (is_above e.from) (edges vs) ≡ o

abbrev SameSides : List Place → Edge → Type 0
SameSides vs e = odd (is_above e.from) (edges vs) ≡ odd (is_above e.to) (edges vs)

abbrev Apart : List Place → Edge → Type 0
Apart vs e = SomeEdge (Common e) (edges vs) → ⊥

along : (vs : List Place) (o : Bool) (b : Place) (ws : List Place) → odd (is_above b) (edges vs) ≡ o → AllEdges (SameSides vs) (edges_from b ws) → AllEdges (OneSide vs o) (edges_from b ws)
along vs o b [] h a = tt
along vs o b (w ∷ ws) h (s, a) = (h, along vs o w ws (sym s ∙ h) a)

round : (vs : List Place) (u : Place) (us : List Place) → AllEdges (SameSides vs) (edges (u ∷ us)) → AllEdges (OneSide vs (odd (is_above u) (edges vs))) (edges (u ∷ us))
round vs u us (s, a) = along vs (odd (is_above u) (edges vs)) (last_of u us) (u ∷ us) s (s, a)

same_sides : (vs : List Place) (e : Edge) → Apart vs e → SameSides vs e
same_sides vs e n = law e.from e.to vs (none (Common e) (edges vs) n)

caught_side : (vs : List Place) (o : Bool) (es : List Edge) → AllEdges (Apart vs) es → AllEdges (OneSide vs o) es → SomeEdge (Caught vs) es → o ≡ true
caught_side vs o [] n a s = absurd s
caught_side vs o (e ∷ es) (n, ns) (h, a) (inl (inl s)) = absurd (n s)
caught_side vs o (e ∷ es) (n, ns) (h, a) (inl (inr (inl on))) = absurd (n (map_some (IsOn e.from) (Common e) (λ f k. at_place e.from e f (on_left e.from e.to) k) (edges vs) on))
caught_side vs o (e ∷ es) (n, ns) (h, a) (inl (inr (inr k))) = sym h ∙ k
caught_side vs o (e ∷ es) (n, ns) (h, a) (inr s) = caught_side vs o es ns a s

-- the first vertex of the second list is in the region of the first
abbrev pub FirstIn : List Place → List Place → Type 0
FirstIn vs [] = ⊥
FirstIn vs (u ∷ us) = InR vs u

first_side : (us vs : List Place) → AllEdges (Apart vs) (edges us) → SomeEdge (Caught vs) (edges us) → FirstIn vs us
first_side [] vs n s = absurd s
first_side (u ∷ us) vs n s = inr (caught_side vs (odd (is_above u) (edges vs)) (edges (u ∷ us)) n (round vs u us (map_edges (Apart vs) (SameSides vs) (same_sides vs) (edges (u ∷ us)) n)) s)

swap_some : (R : Edge → Edge → Type 0) (es fs : List Edge) → SomeEdge (λ f. SomeEdge (R f) es) fs → SomeEdge (λ e. SomeEdge (λ f. R f e) fs) es
swap_some R es [] s = absurd s
swap_some R es (f ∷ fs) (inl h) = map_some (R f) (λ e. SomeEdge (λ g. R g e) (f ∷ fs)) (λ e k. inl k) es h
swap_some R es (f ∷ fs) (inr s) = map_some (λ e. SomeEdge (λ g. R g e) fs) (λ e. SomeEdge (λ g. R g e) (f ∷ fs)) (λ e k. inr k) es (swap_some R es fs s)

swap_edges : (us vs : List Place) → SomeCommon (edges us) (edges vs) → SomeCommon (edges vs) (edges us)
swap_edges us vs s =
    map_some (λ e. SomeEdge (λ f. Common f e) (edges us)) (λ e. SomeEdge (Common e) (edges us))
    (λ e k. map_some (λ f. Common f e) (Common e) (λ f c. swapped_common f e c) (edges us) k)
    (edges vs) (swap_some Common (edges vs) (edges us) s)

dec_some : (e : Edge) (fs : List Edge) → SomeEdge (Common e) fs ⊎ (SomeEdge (Common e) fs → ⊥)
dec_some e [] = inr (λ s. s)
dec_some e (f ∷ fs) = elim (dec_common e f) [
  | inl c ↦ inl (inl c)
  | inr n ↦ elim (dec_some e fs) [
    | inl s ↦ inl (inr s)
    | inr m ↦ inr (λ s. elim s [ inl c ↦ n c | inr k ↦ m k ])
  ]
]

-- what a test finds: two edges that touch, or a first vertex that is in the other region
abbrev pub Found : List Place → List Place → Type 0
Found us vs = SomeCommon (edges us) (edges vs) ⊎ (FirstIn vs us ⊎ FirstIn us vs)

found_of_bound : (us vs : List Place) → Bound us vs → Found us vs
found_of_bound us vs b = elim (dec_edges (λ e. SomeEdge (Common e) (edges vs)) (λ e. dec_some e (edges vs)) (edges us)) [
  | inl s ↦ inl s
  | inr n ↦ elim b [
    | inl s ↦ inr (inl (first_side us vs n s))
    | inr s ↦ elim (dec_edges (λ e. SomeEdge (Common e) (edges us)) (λ e. dec_some e (edges us)) (edges vs)) [
      | inl t ↦ inl (swap_edges vs us t)
      | inr m ↦ inr (inr (first_side vs us m s))
    ]
  ]
]

first_meets : (us vs : List Place) → FirstIn vs us → MeetR us vs
first_meets [] vs i = absurd i
first_meets (u ∷ us) vs i = at_vertex (u ∷ us) vs u (inl (inl (on_right (last_of u us) u))) i

meet_of_found : (us vs : List Place) → Found us vs → MeetR us vs
meet_of_found us vs (inl s) = meet_of_bound us vs (inl (map_some (λ e. SomeEdge (Common e) (edges vs)) (Caught vs) (λ e k. inl k) (edges us) s))
meet_of_found us vs (inr (inl i)) = first_meets us vs i
meet_of_found us vs (inr (inr i)) = swap_meet vs us (first_meets vs us i)

pub meet_is_found : (us vs : List Place) → Meet us vs ↔ Found us vs
meet_is_found us vs = (λ m. found_of_bound us vs ((meet_is_bound us vs).0 m), λ f. meet_of_r us vs (meet_of_found us vs f))

-- the first vertex, as code reads it
pub first_is : (us vs : List Place) (d : Place) → 0 < length us → FirstIn vs us ↔ InRegion vs (get_or us 0 d)
first_is [] vs d l = absurd (omega arith)
first_is (u ∷ us) vs d l = (λ i. in_region vs u i, λ r. in_r vs u r)
