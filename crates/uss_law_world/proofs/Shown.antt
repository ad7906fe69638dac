-- A reference that a supplier is shown with its OVN is that of its attempt, as it landed.
use Rattle.std.proofs.Common.{ℕ, ◌≡◌, ◌==◌, Bool, true, false, List, [], ◌++◌, refl, ap, sym, subst, ◌∙◌, Some, None, arith}
use Rattle.std.specs.Prelude.{count_by}
use Rattle.uss_vol4.specs.Volume.{Volume4D}
use Rattle.uss_vol4.specs.Bounding.{bounding_box}
use Rattle.uss_intent.specs.Same.{same_text}
use Rattle.uss_intent.specs.declared.records.Recorded.{Recorded}
use Rattle.uss_intent.specs.declared.records.Reference.{Reference}
use Rattle.uss_intent.specs.declared.records.Landing.{Landing}
use Rattle.uss_event.specs.declared.entries.Owner.{Owner}
use Rattle.uss_event.specs.declared.calls.DssCall.{DssCall}
use Rattle.uss_law_dss.specs.Lists.{Has}
use Rattle.uss_law_dss.specs.Service.{shown_to}
use Rattle.uss_law_dss.specs.Orderly.{IsAsLanded, last_of}
use Rattle.uss_law_dss.proofs.Tests.{same_bytes, some_same}
use Rattle.uss_law_dss.proofs.History.{last_has}
use Rattle.uss_law_book.specs.Lists.{owner_of}
use Rattle.uss_law_book.specs.Attempts.{attempt_of, recorded_as}
use Rattle.uss_law_book.proofs.Attempts.{owner_kept}
use Rattle.uss_law_world.specs.World.{Supplier, World, book_of, name_of}
use Rattle.uss_law_world.specs.Free.{AreSuppliers}
use Rattle.uss_law_world.specs.Claims.{tag_in, rank_of}
use Rattle.uss_law_world.specs.Invariants.{WasDue, ShowsLanding}
use Rattle.uss_law_world.proofs.Facts.{RecordedFrom, Facts}
use Rattle.uss_law_world.proofs.Parts.{Stands, stands, at, attempt_manager, recorded_tag}
use Rattle.uss_law_world.proofs.References.{same_reference}
use Rattle.uss_law_world.proofs.Jobs.{stands_by, same_name}
use Rattle.uss_law_world.proofs.Ranks.{rank_of_last}

module _ (table : List ℕ) (owners : List Owner) (w : World) (names : AreSuppliers table owners) (j : Facts table owners w) (s : ℕ) where
  -- a recorded reference that is shown with its OVN shows a landing of its manager
  rank_here : (q : Recorded) → Has w.service.references q → (m : Landing) → last_of q.reference.flight w.service.landings ≡ Some m → q.reference.flight ≡ m.flight
      → rank_of m.flight m.ovn w.service.landings ≡ count_by (λ (z : Landing). z.flight == q.reference.flight) w.service.landings
  rank_here q h m e f =
      let few = j.service.few_landings in
      subst (λ n. rank_of n m.ovn w.service.landings ≡ count_by (λ (z : Landing). z.flight == q.reference.flight) w.service.landings) f
      (rank_of_last q.reference.flight 0 w.service.landings m j.service.numbered (omega (arith, few)) e)

  pub recorded_shows : (x : Supplier) → Stands owners w s x → (reply : Reference) → (q : Recorded) → Has w.service.references q → reply ≡ shown_to (name_of s w) q.reference → ShowsLanding w s reply
  recorded_shows x st reply q h e = go (same_text q.reference.manager (name_of s w)) refl
    where
      f : RecordedFrom w q
      f = j.recorded q h

      -- what is recorded in the supplier's name is of its book
      here : q.reference.manager ≡ name_of s w → f.s ≡ s
      here c =
          let p = at table owners w names j f.s f.attempt.tag f.attempt f.found in
          same_name table owners w names j f.s s p.supplier x (stands table owners w j f.s p.supplier p.is) st
          (sym (attempt_manager table owners w names j f.s f.attempt.tag f.attempt f.found) ∙ (sym f.manager ∙ c))

      go : (y : Bool) → same_text q.reference.manager (name_of s w) ≡ y → ShowsLanding w s reply
      go true y o n =
          let same : reply ≡ q.reference = e ∙ rw y refl in
          let m = j.service.landed q h in
          let i : IsAsLanded m.0 q.reference = m.2 in
          let c : q.reference.manager ≡ name_of s w = same_bytes q.reference.manager (name_of s w) y in
          let ovn : q.reference.ovn ≡ Some o = ap (λ (z : Reference). z.ovn) (sym same) ∙ n in
          let version : q.reference.version ≡ reply.version = ap (λ (z : Reference). z.version) (sym same) in
          let tag : f.attempt.tag ≡ tag_in reply = sym (recorded_tag table owners w names j q f) ∙ ap (λ (z : Reference). tag_in z) (sym same) in
          let found : attempt_of f.attempt.tag (book_of s w) ≡ Some f.attempt = subst (λ z. attempt_of f.attempt.tag (book_of z w) ≡ Some f.attempt) (here c) f.found in
          record {
            landing = m.0;
            landed = last_has q.reference.flight w.service.landings m.0 m.1;
            ovn_is = some_same m.0.ovn o (sym i.ovn ∙ ovn);
            manager = sym i.manager ∙ c;
            flight = sym i.flight ∙ ap (λ (z : Reference). z.flight) (sym same);
            tag = i.tag ∙ ap (λ (z : Reference). tag_in z) (sym same);
            version = rank_here q h m.0 m.1 i.flight ∙ (sym (j.service.versions q h) ∙ version);
            attempt = f.attempt;
            found = subst (λ z. attempt_of z (book_of s w) ≡ Some f.attempt) tag found;
            is = same ∙ same_reference q.reference (recorded_as f.attempt o reply.version).reference f.flight f.manager version f.state ovn
                (j.service.start q h ∙ ap (λ (z : List Volume4D). (bounding_box z).start) f.extents)
                (j.service.end q h ∙ ap (λ (z : List Volume4D). (bounding_box z).end) f.extents)
                f.base f.ticket;
          }
      go false y o n =
          let hidden : reply.ovn ≡ None = ap (λ (z : Reference). z.ovn) e ∙ rw y refl in
          let g : None ≡ Some o = sym hidden ∙ n in
          cc

-- who sent a call is there
pub sender : (table : List ℕ) (owners : List Owner) (w : World) → AreSuppliers table owners → Facts table owners w → (s : ℕ) (call : DssCall) → WasDue w s call → (x : Supplier) × Stands owners w s x
sender table owners w names j s call d = stands_by table owners w names j s empty_not
  where
    empty_not : book_of s w ≡ [] → ⊥
    empty_not e =
        let o : owner_of (d.before ++ d.more) ≡ Some d.owner = owner_kept d.before d.more d.owner d.owns_book in
        let n : None ≡ Some d.owner = sym (ap owner_of (sym d.book_is ∙ e)) ∙ o in
        cc
