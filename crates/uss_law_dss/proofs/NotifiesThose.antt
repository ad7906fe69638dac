-- The tickets whose index rises, and the subscribers that are named, are those that share points.
use Rattle.std.proofs.Common.{ℕ, ◌≡◌, ◌↔◌, ◌⊎◌, inl, inr, Bool, true, false, ◌||◌, ◌+◌, List, [], ◌∷◌, ◌++◌, Option, Some, None, map, filter, IsTrue, refl, sym, subst, ◌∙◌, if◌then◌else◌}
use Rattle.std.proofs.lemmas.List.Folds.{list_any-append}
use Rattle.uss_vol4.specs.Volume.{Volume4D}
use Rattle.uss_vol4.specs.Sharing.{shares}
use Rattle.uss_intent.specs.declared.records.Recorded.{Recorded}
use Rattle.uss_intent.specs.declared.records.Ticket.{Ticket}
use Rattle.uss_intent.specs.declared.records.Subscriber.{Subscriber}
use Rattle.uss_law_dss.specs.Lists.{Has}
use Rattle.uss_law_dss.specs.Service.{Service, recorded_of, reach}
use Rattle.uss_law_dss.specs.Step.{is_notified, raised, subscribers, old_extents}
use Rattle.uss_law_dss.specs.Orderly.{Ascend, IsOrderly, id_of}
use Rattle.uss_law_dss.specs.Notified.{Reach, RecordedReach, IsNotifiedOfPut, IsNotifiedOfRemove, named, ticket_named, Becomes, InPlace, Notifies}
use Rattle.uss_law_dss.proofs.Lists.{has_filter, has_filtered, has_passed, has_map, mapped}
use Rattle.uss_law_dss.proofs.Tests.{left_true, right_true}
use Rattle.uss_law_dss.proofs.Placed.{ascend_filter, ascend_map}
use Rattle.uss_law_dss.proofs.Points.{reach_tells, notified_by_points}
use Rattle.uss_law_dss.proofs.Founds.{recorded_is, recorded_has}

-- ---- a test of tickets and what it means

becomes : (IsNotified : Ticket → Type 0) (b : Bool) (t : Ticket) → ((b ≡ true) ↔ IsNotified t) → Becomes IsNotified t (if b then record t { index = t.index + 1 } else t)
becomes IsNotified true t m = inl (m.0 refl, refl)
becomes IsNotified false t m = inr (λ k. (let e = m.1 k in cc), refl)

each_becomes : (IsNotified : Ticket → Type 0) (p : Ticket → Bool) → ((t : Ticket) → (p t ≡ true) ↔ IsNotified t) → (ts : List Ticket) → InPlace (Becomes IsNotified) ts (map (λ t. if p t then record t { index = t.index + 1 } else t) ts)
each_becomes IsNotified p m [] = tt
each_becomes IsNotified p m (t ∷ ts) = (becomes IsNotified (p t) t (m t), each_becomes IsNotified p m ts)

pub tells : (IsNotified : Ticket → Type 0) (client : List ℕ) (extents : List Volume4D) (ts : List Ticket) → Ascend id_of ts → ((t : Ticket) → IsTrue (is_notified client extents t) ↔ IsNotified t)
    → Notifies IsNotified ts (raised client extents ts) (subscribers client extents ts)
tells IsNotified client extents ts a m =
    let p : Ticket → Bool = is_notified client extents in
    record {
      those = λ u. (
        λ h. (let k = has_map named (filter p ts) u h in (k.0, has_filter p ts k.0 k.1, (m k.0).0 (has_passed p ts k.0 k.1), k.2)),
        λ k. subst (λ (x : Subscriber). Has (map named (filter p ts)) x) k.3 (mapped named (filter p ts) k.0 (has_filtered p ts k.0 k.1 ((m k.0).1 k.2))),
      );
      ascending = ascend_map named id_of ticket_named (λ t. refl) (filter p ts) (ascend_filter id_of p ts a);
      tickets = each_becomes IsNotified p m ts;
    }

-- ---- the extents before and after

old_reach : (s : Service) (flight : ℕ) (area : Volume4D) (o : Option Recorded) → recorded_of flight s ≡ o → reach (old_extents o) area ≡ true → RecordedReach s flight area
old_reach s flight area None e h = cc
old_reach s flight area (Some r) e h = let k = recorded_has s flight r e in (r, k.0, k.1, (reach_tells r.extents area).0 h)

reach_old : (s : Service) (flight : ℕ) (area : Volume4D) → IsOrderly s → RecordedReach s flight area → reach (old_extents (recorded_of flight s)) area ≡ true
reach_old s flight area j k = subst (λ (o : Option Recorded). reach (old_extents o) area ≡ true) (sym (recorded_is s flight k.0 j k.1 k.2)) ((reach_tells k.0.extents area).1 k.3)

either_reach : (s : Service) (flight : ℕ) (extents : List Volume4D) (area : Volume4D) → IsOrderly s → IsTrue (reach (old_extents (recorded_of flight s) ++ extents) area) ↔ (RecordedReach s flight area ⊎ Reach extents area)
either_reach s flight extents area j =
    let old = old_extents (recorded_of flight s) in
    let both : reach (old ++ extents) area ≡ (reach old area || reach extents area) = list_any-append (λ v. shares v area) old extents in (
      λ h. go (reach old area) refl (sym both ∙ h),
      λ k. elim k [
        | inl r ↦ both ∙ left_true (reach old area) (reach extents area) (reach_old s flight area j r)
        | inr r ↦ both ∙ right_true (reach old area) (reach extents area) ((reach_tells extents area).1 r)
      ],
    )
  where
    go : (b : Bool) → reach (old_extents (recorded_of flight s)) area ≡ b → (b || reach extents area) ≡ true → RecordedReach s flight area ⊎ Reach extents area
    go true e h = inl (old_reach s flight area (recorded_of flight s) refl e)
    go false e h = inr ((reach_tells extents area).0 h)

pub notified_of_put : (s : Service) (client : List ℕ) (flight : ℕ) (extents : List Volume4D) (t : Ticket) → IsOrderly s
    → IsTrue (is_notified client (old_extents (recorded_of flight s) ++ extents) t) ↔ IsNotifiedOfPut s client flight extents t
notified_of_put s client flight extents t j =
    let touched = old_extents (recorded_of flight s) ++ extents in
    let tells = notified_by_points client touched t in
    let reaches = reach_tells touched t.area in
    let those = either_reach s flight extents t.area j in (
      λ h. (let k = tells.0 h in (k.0, those.0 (reaches.1 k.1))),
      λ k. tells.1 (k.0, reaches.0 (those.1 k.1)),
    )

pub notified_of_remove : (s : Service) (client : List ℕ) (flight : ℕ) (r : Recorded) (t : Ticket) → IsOrderly s → recorded_of flight s ≡ Some r → IsTrue (is_notified client r.extents t) ↔ IsNotifiedOfRemove s client flight t
notified_of_remove s client flight r t j e =
    let tells = notified_by_points client r.extents t in
    let there = recorded_has s flight r e in (
      λ h. (let k = tells.0 h in (k.0, (r, there.0, there.1, k.1))),
      λ k. tells.1 (k.0, (reach_tells r.extents t.area).0 (same_reach (recorded_of flight s) e (reach_old s flight t.area j k.1))),
    )
  where
    same_reach : (o : Option Recorded) → o ≡ Some r → reach (old_extents o) t.area ≡ true → reach r.extents t.area ≡ true
    same_reach o q h = rw q at h
