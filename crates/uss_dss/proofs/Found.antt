-- Who is near: the candidates of the index, as the things that they stand for.
use Rattle.std.proofs.Common.{◌≡◌, ℕ, ◌<◌, ◌+◌, Bool, true, false, ◌||◌, List, length, take, get_or, Option, Some, None, Contains, IsTrue, refl, sym, ap, ◌∙◌, subst}
use Rattle.std.specs.List.{list_any}
use Rattle.std.proofs.lemmas.Bool.{eqb-true, eq-eqb}
use Rattle.std.proofs.lemmas.List.Folds.{list_any_more, Any-from_list_any, list_any-from_Any}
use Rattle.std.proofs.lemmas.List.Elements.{Contains-get_or}
use Rattle.uss_vol4.specs.declared.Box4.{Box4}
use Rattle.uss_vol4.specs.Volume.{Volume4D}
use Rattle.uss_vol4.specs.Bounding.{bounding_box}
use Rattle.uss_index.specs.Boxes.{AreCandidates}
use Rattle.uss_index.specs.Points.{have_common_point}
use Rattle.uss_index.proofs.Meeting.{common_point_tells}
use Rattle.uss_index.proofs.Tests as tests
use Rattle.uss_dss.specs.declared.located.Located.{Located}
use Rattle.uss_dss.specs.Located.{whose, IsLocated, is_that, is_near}

or_more : (a b c d e f : Bool) → a ≡ (b || c) → d ≡ (a || f) → e ≡ (c || f) → d ≡ (b || e)
or_more a true c d e f g h i = h ∙ ap (λ x. x || f) g
or_more a false c d e f g h i = h ∙ ap (λ x. x || f) g ∙ sym i

pub one_more_number : (l : Located) (numbers : List ℕ) (i o k : ℕ) (start before after : Bool) → i < length numbers → o ≡ get_or numbers i o
    → before ≡ (start || list_any (λ n. is_that (whose n l) k) (take i numbers)) → after ≡ (before || is_that (whose o l) k)
    → after ≡ (start || list_any (λ n. is_that (whose n l) k) (take (i + 1) numbers))
one_more_number l numbers i o k start before after less is e f =
    let p : ℕ → Bool = λ n. is_that (whose n l) k in
    or_more before start (list_any p (take i numbers)) after (list_any p (take (i + 1) numbers)) (is_that (whose o l) k) e f
    (list_any_more p numbers i o less ∙ ap (λ n. list_any p (take i numbers) || is_that (whose n l) k) (sym is))

module _ (what : ℕ → Option (List Volume4D)) (l : Located) (q : Box4) (k : ℕ) (found : List ℕ) (j : IsLocated what l) (a : AreCandidates l.boxes q found) where
  named : ℕ → Bool
  named n = is_that (whose n l) k

  that_is : (n id : ℕ) → whose n l ≡ Some id → is_that (whose n l) k ≡ true → k ≡ id
  that_is n id owned h = eqb-true k id (sym (ap (λ w. is_that w k) owned) ∙ h)

  near_of : (n : ℕ) → Contains found n → is_that (whose n l) k ≡ true → is_near q (what k) ≡ true
  near_of n among h =
      let m = a.meet n among in
      let t = j.only n m.0 m.1 in
      let same = that_is n t.id t.owned h in
      let meets : have_common_point q m.0 ≡ true = (common_point_tells q m.0).1 m.2 in
      ap (is_near q) (ap what same ∙ t.there) ∙ ap (have_common_point q) (sym t.boxed) ∙ meets

  near_of_any : IsTrue (list_any (λ n. is_that (whose n l) k) found) → IsTrue (is_near q (what k))
  near_of_any h =
      let r = Any-from_list_any (λ n. is_that (whose n l) k) found h in
      near_of r.1 (subst (Contains found) r.3 (Contains-get_or found r.0 r.1 r.2)) r.4

  any_of_near : IsTrue (is_near q (what k)) → IsTrue (list_any (λ n. is_that (whose n l) k) found)
  any_of_near h = go (what k) refl h
    where
      go : (w : Option (List Volume4D)) → what k ≡ w → is_near q w ≡ true → list_any (λ n. is_that (whose n l) k) found ≡ true
      go None e h = cc
      go (Some vs) e h =
          let s = j.all k vs e in
          let among : Contains found s.number = a.all s.number (bounding_box vs) s.boxed ((common_point_tells q (bounding_box vs)).0 h) in
          list_any-from_Any (λ n. is_that (whose n l) k) found (among.0, s.number, among.1, among.2, ap (λ w. is_that w k) s.owned ∙ eq-eqb k k refl)

  pub near_numbers : list_any (λ n. is_that (whose n l) k) found ≡ is_near q (what k)
  near_numbers = tests.alike (list_any (λ n. is_that (whose n l) k) found) (is_near q (what k)) near_of_any any_of_near
