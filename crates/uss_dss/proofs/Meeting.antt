-- What shares has boxes that meet, so that a look at those alone misses nothing.
use Rattle.std.proofs.Common.{◌≡◌, ℕ, ◌+◌, inl, inr, Bool, true, false, not, ◌||◌, cond, List, [], ◌∷◌, ◌++◌, map, filter, Some, refl, sym, ap, ◌∙◌, arith}
use Rattle.std.specs.Option.{option_map}
use Rattle.std.specs.BTreeSet.{BTreeSet, contains}
use Rattle.std.specs.Ordering.{nat_cmp}
use Rattle.uss_shape.proofs.Extreme.{any_here}
use Rattle.uss_vol4.specs.declared.Box4.{Box4}
use Rattle.uss_vol4.specs.Volume.{Volume4D, Shares, ListsShare}
use Rattle.uss_vol4.specs.Sharing.{shares, any_shares}
use Rattle.uss_vol4.specs.Bounding.{IsBoundingBox, bounding_box}
use Rattle.uss_vol4.proofs.Share.{any_shares_tells}
use Rattle.uss_index.specs.Points.{HaveCommonPoint}
use Rattle.uss_index.proofs.Meeting.{common_point_tells}
use Rattle.uss_index.proofs.Bounded.{sharing_lists}
use Rattle.uss_intent.specs.declared.records.Recorded.{Recorded}
use Rattle.uss_intent.specs.declared.records.Ticket.{Ticket}
use Rattle.uss_intent.specs.Same.{same_text}
use Rattle.uss_law_dss.specs.Lists.{Has}
use Rattle.uss_law_dss.specs.Service.{Service, reach}
use Rattle.uss_law_dss.specs.Step.{is_notified, subscribers}
use Rattle.uss_law_dss.specs.Orderly.{IsOrderly}
use Rattle.uss_law_dss.proofs.Lists.{has_filter}
use Rattle.uss_law_dss.proofs.Founds.{recorded_is, ticket_is}
use Rattle.uss_law_dss.proofs.EachOrderly.{index_fits}
use Rattle.uss_law_dss.proofs.Points.{reach_tells}
use Rattle.uss_law_dss.proofs.Tests.{both}
use Rattle.uss_dss.specs.declared.located.Located.{Located}
use Rattle.uss_dss.specs.Effects.{CanRise}
use Rattle.uss_dss.specs.Located.{area_in, extents_in, IsLocated, meets, IsBounded, is_met}

-- tests that are alike where it matters
pub filter_same : {X : Type 0} (p q : X → Bool) (xs : List X) → ((x : X) → Has xs x → p x ≡ q x) → filter p xs ≡ filter q xs
filter_same p q [] h = refl
filter_same {X} p q (x ∷ xs) h = ap (λ b. cond b (x ∷ filter p xs) (filter p xs)) (h x (inl refl)) ∙ ap (λ ys. cond (q x) (x ∷ ys) ys) (filter_same p q xs (λ y k. h y (inr k)))

filter_twice_at : {X : Type 0} (p q : X → Bool) (x : X) (xs : List X) (a b : Bool) → q x ≡ a → p x ≡ b → (b ≡ true → a ≡ true) → filter p (filter q xs) ≡ filter p xs → filter p (filter q (x ∷ xs)) ≡ filter p (x ∷ xs)
filter_twice_at p q x xs true true e f h rest = rw (e, f) (ap (λ ys. x ∷ ys) rest)
filter_twice_at p q x xs true false e f h rest = rw (e, f) rest
filter_twice_at p q x xs false true e f h rest = absurd (let no = h refl in cc)
filter_twice_at p q x xs false false e f h rest = rw (e, f) rest

-- a first test that lets pass whatever the second does
pub filter_twice : {X : Type 0} (p q : X → Bool) (xs : List X) → ((x : X) → Has xs x → p x ≡ true → q x ≡ true) → filter p (filter q xs) ≡ filter p xs
filter_twice p q [] h = refl
filter_twice {X} p q (x ∷ xs) h = filter_twice_at p q x xs (q x) (p x) refl refl (h x (inl refl)) (filter_twice p q xs (λ y k. h y (inr k)))

-- ---- volumes that share
met_lists : (vs ws : List Volume4D) → IsBounded vs → IsBoundingBox ws (bounding_box ws) → ListsShare vs ws → meets vs (Some ws) ≡ true
met_lists [] ws b c s = absurd (let less = s.2 in omega (arith, less))
met_lists (v ∷ vs) ws b c s = (common_point_tells (bounding_box (v ∷ vs)) (bounding_box ws)).1 (sharing_lists (v ∷ vs) ws (bounding_box (v ∷ vs)) (bounding_box ws) (b (omega arith)) c s)

pub met_any : (vs ws : List Volume4D) → IsBounded vs → IsBoundingBox ws (bounding_box ws) → any_shares vs ws ≡ true → meets vs (Some ws) ≡ true
met_any vs ws b c h = met_lists vs ws b c ((any_shares_tells vs ws).0 h)

pub met_reach : (vs : List Volume4D) (area : Volume4D) → IsBounded vs → IsBoundingBox (area ∷ []) (bounding_box (area ∷ [])) → reach vs area ≡ true → meets vs (Some (area ∷ [])) ≡ true
met_reach vs area b c h =
    let a = (reach_tells vs area).0 h in
    met_lists vs (area ∷ []) b c (a.0, a.1, a.2, a.3, any_here (Shares a.1) area [] a.4)

-- ---- tickets
reach_split : (old new : List Volume4D) (area : Volume4D) → reach (old ++ new) area ≡ (reach old area || reach new area)
reach_split [] new area = refl
reach_split (v ∷ vs) new area = step (shares v area) (reach_split vs new area)
  where
    step : (b : Bool) → reach (vs ++ new) area ≡ (reach vs area || reach new area) → (b || reach (vs ++ new) area) ≡ ((b || reach vs area) || reach new area)
    step true e = refl
    step false e = e

either_met : (a b c d : Bool) → (a ≡ true → c ≡ true) → (b ≡ true → d ≡ true) → (a || b) ≡ true → (c || d) ≡ true
either_met true b c d f g h = rw (f refl) refl
either_met false b true d f g h = refl
either_met false b false d f g h = g h

met_notified : (client : List ℕ) (old new : List Volume4D) (t : Ticket) → IsBounded old → IsBounded new → IsBoundingBox (t.area ∷ []) (bounding_box (t.area ∷ [])) → is_notified client (old ++ new) t ≡ true → is_met old new t ≡ true
met_notified client old new t b c d h =
    let r = (both (not (same_text t.manager client)) (reach (old ++ new) t.area) h).1 in
    either_met (reach old t.area) (reach new t.area) (meets old (Some (t.area ∷ []))) (meets new (Some (t.area ∷ [])))
    (met_reach old t.area b d) (met_reach new t.area c d) (sym (reach_split old new t.area) ∙ r)

module _ (s : Service) (j : IsOrderly s) (l : Located) (at : IsLocated (area_in s.tickets) l) (old new : List Volume4D) where
  area_is : (t : Ticket) → Has s.tickets t → area_in s.tickets t.id ≡ Some (t.area ∷ [])
  area_is t h = ap (option_map (λ (t : Ticket). t.area ∷ [])) (ticket_is s t.id t j h refl)

  pub met_tickets : (none some all : BTreeSet ℕ) → ((id : ℕ) → contains nat_cmp none id ≡ false) → ((id : ℕ) → contains nat_cmp some id ≡ (contains nat_cmp none id || meets old (area_in s.tickets id)))
      → ((id : ℕ) → contains nat_cmp all id ≡ (contains nat_cmp some id || meets new (area_in s.tickets id)))
      → filter (λ t. contains nat_cmp all t.id) s.tickets ≡ filter (is_met old new) s.tickets
  met_tickets none some all a b c = filter_same (λ t. contains nat_cmp all t.id) (is_met old new) s.tickets (λ t h.
      c t.id ∙ ap (λ x. x || meets new (area_in s.tickets t.id)) (b t.id ∙ ap (λ x. x || meets old (area_in s.tickets t.id)) (a t.id))
      ∙ ap (λ w. meets old w || meets new w) (area_is t h))

  pub all_told : IsBounded old → IsBounded new → (client : List ℕ) → subscribers client (old ++ new) (filter (is_met old new) s.tickets) ≡ subscribers client (old ++ new) s.tickets
  all_told b c client =
      ap (map (λ (t : Ticket). record { base = t.base; ticket = t.id; index = t.index + 1 }))
      (filter_twice (is_notified client (old ++ new)) (is_met old new) s.tickets (λ t h told. met_notified client old new t b c (at.all t.id (t.area ∷ []) (area_is t h)).bounding told))

  pub met_rise : CanRise (filter (is_met old new) s.tickets)
  met_rise = λ t h. index_fits s j t (has_filter (is_met old new) s.tickets t h)

-- ---- references
flipped : (a b : Box4) → HaveCommonPoint a b → HaveCommonPoint b a
flipped a b h = record { point = h.point; grid = h.grid; altitude = h.altitude; moment = h.moment; positive = h.positive; in_first = h.in_second; in_second = h.in_first }

pub met_shared : (ws vs : List Volume4D) → IsBoundingBox ws (bounding_box ws) → IsBounded vs → any_shares ws vs ≡ true → meets vs (Some ws) ≡ true
met_shared ws [] c b h = absurd (let s = (any_shares_tells ws []).0 h in let less = s.4.2 in omega (arith, less))
met_shared ws (v ∷ vs) c b h =
    (common_point_tells (bounding_box (v ∷ vs)) (bounding_box ws)).1
    (flipped (bounding_box ws) (bounding_box (v ∷ vs)) (sharing_lists ws (v ∷ vs) (bounding_box ws) (bounding_box (v ∷ vs)) c (b (omega arith)) ((any_shares_tells ws (v ∷ vs)).0 h)))

pub reach_shares : (vs : List Volume4D) (area : Volume4D) → reach vs area ≡ true → any_shares vs (area ∷ []) ≡ true
reach_shares vs area h =
    let a = (reach_tells vs area).0 h in
    (any_shares_tells vs (area ∷ [])).1 (a.0, a.1, a.2, a.3, any_here (Shares a.1) area [] a.4)

module _ (s : Service) (j : IsOrderly s) (l : Located) (at : IsLocated (extents_in s.references) l) (vs : List Volume4D) where
  extents_are : (r : Recorded) → Has s.references r → extents_in s.references r.reference.flight ≡ Some r.extents
  extents_are r h = ap (option_map (λ (x : Recorded). x.extents)) (recorded_is s r.reference.flight r j h refl)

  pub met_references : (none all : BTreeSet ℕ) → ((id : ℕ) → contains nat_cmp none id ≡ false) → ((id : ℕ) → contains nat_cmp all id ≡ (contains nat_cmp none id || meets vs (extents_in s.references id)))
      → filter (λ r. contains nat_cmp all r.reference.flight) s.references ≡ filter (λ r. meets vs (Some r.extents)) s.references
  met_references none all a b = filter_same (λ r. contains nat_cmp all r.reference.flight) (λ r. meets vs (Some r.extents)) s.references (λ r h.
      b r.reference.flight ∙ ap (λ x. x || meets vs (extents_in s.references r.reference.flight)) (a r.reference.flight) ∙ ap (meets vs) (extents_are r h))

  pub all_met : IsBounded vs → (p : Recorded → Bool) → ((r : Recorded) → p r ≡ true → any_shares r.extents vs ≡ true) → filter p (filter (λ r. meets vs (Some r.extents)) s.references) ≡ filter p s.references
  all_met b p c = filter_twice p (λ r. meets vs (Some r.extents)) s.references (λ r h e.
      met_shared r.extents vs (at.all r.reference.flight r.extents (extents_are r h)).bounding b (c r e))
