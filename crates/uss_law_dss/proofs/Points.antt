-- Sharing is to have a point in common.
use Rattle.std.proofs.Common.{ℕ, ◌≡◌, ◌≢◌, ◌↔◌, Bool, true, false, not, ◌&&◌, ◌==◌, List, Any, IsTrue, refl, ap}
use Rattle.std.proofs.lemmas.List.Folds.{Any-from_list_any, list_any-from_Any}
use Rattle.uss_vol4.specs.Volume.{Volume4D, Shares, ListsShare}
use Rattle.uss_vol4.specs.Sharing.{shares, any_shares}
use Rattle.uss_vol4.proofs.Share.{shares_tells, any_shares_tells}
use Rattle.uss_intent.specs.declared.records.Recorded.{Recorded}
use Rattle.uss_intent.specs.declared.records.Ticket.{Ticket}
use Rattle.uss_intent.specs.Same.{same_text}
use Rattle.uss_law_dss.specs.Lists.{Has}
use Rattle.uss_law_dss.specs.Service.{Service, reach, relevant}
use Rattle.uss_law_dss.specs.Step.{found_in, is_notified}
use Rattle.uss_law_dss.proofs.Lists.{has_filter, has_filtered, has_passed}
use Rattle.uss_law_dss.proofs.Tests.{both, and_true, other_number, unequal_number, not_true, equal_bytes, same_bytes, not_both}

any_map : {A : Type 0} (P Q : A → Type 0) → ((x : A) → P x → Q x) → (xs : List A) → Any P xs → Any Q xs
any_map P Q f xs a = (a.0, a.1, a.2, a.3, f a.1 a.4)

pub reach_tells : (extents : List Volume4D) (area : Volume4D) → IsTrue (reach extents area) ↔ Any (λ v. Shares v area) extents
reach_tells extents area = (
  λ h. any_map (λ v. shares v area ≡ true) (λ v. Shares v area) (λ v e. (shares_tells v area).0 e) extents (Any-from_list_any (λ v. shares v area) extents h),
  λ a. list_any-from_Any (λ v. shares v area) extents (any_map (λ v. Shares v area) (λ v. shares v area ≡ true) (λ v e. (shares_tells v area).1 e) extents a),
)

pub relevant_by_points : (s : Service) (flight : ℕ) (extents : List Volume4D) (r : Recorded)
    → Has (relevant flight extents s) r ↔ (Has s.references r × (r.reference.flight ≢ flight) × ListsShare r.extents extents)
relevant_by_points s flight extents r =
    let p : Recorded → Bool = λ r. not (r.reference.flight == flight) && any_shares r.extents extents in (
      λ h. (let q = both (not (r.reference.flight == flight)) (any_shares r.extents extents) (has_passed p s.references r h) in
          (has_filter p s.references r h, other_number r.reference.flight flight (not_true (r.reference.flight == flight) q.0), (any_shares_tells r.extents extents).0 q.1)),
      λ h. has_filtered p s.references r h.0 (and_true (not (r.reference.flight == flight)) (any_shares r.extents extents) (ap not (unequal_number r.reference.flight flight h.1)) ((any_shares_tells r.extents extents).1 h.2)),
    )

pub found_by_points : (area : Volume4D) (rs : List Recorded) (r : Recorded) → Has (found_in area rs) r ↔ (Has rs r × Any (λ v. Shares v area) r.extents)
found_by_points area rs r =
    let p : Recorded → Bool = λ r. reach r.extents area in (
      λ h. (has_filter p rs r h, (reach_tells r.extents area).0 (has_passed p rs r h)),
      λ h. has_filtered p rs r h.0 ((reach_tells r.extents area).1 h.1),
    )

differs : (a b : List ℕ) → not (same_text a b) ≡ true → a ≢ b
differs a b h = λ e. not_both (same_text a b) (equal_bytes a b e) (not_true (same_text a b) h)

differing : (a b : List ℕ) → a ≢ b → not (same_text a b) ≡ true
differing a b d = go (same_text a b) refl
  where
    go : (t : Bool) → same_text a b ≡ t → not t ≡ true
    go true e = absurd (d (same_bytes a b e))
    go false e = refl

pub notified_by_points : (client : List ℕ) (extents : List Volume4D) (t : Ticket) → IsTrue (is_notified client extents t) ↔ ((t.manager ≢ client) × Any (λ v. Shares v t.area) extents)
notified_by_points client extents t = (
  λ h. (let q = both (not (same_text t.manager client)) (reach extents t.area) h in (differs t.manager client q.0, (reach_tells extents t.area).0 q.1)),
  λ h. and_true (not (same_text t.manager client)) (reach extents t.area) (differing t.manager client h.0) ((reach_tells extents t.area).1 h.1),
)
