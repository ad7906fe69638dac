-- A landing leaves an orderly service orderly.
use Rattle.std.proofs.Common.{ℕ, ◌<◌, ◌≤◌, ◌+◌, ◌==◌, true, false, List, [], ◌∷◌, ◌++◌, ◌≡◌, ◌≢◌, ◌⊎◌, inl, inr, length, refl, ap, subst, sym, ◌∙◌, arith, Option, Some, None, length-append}
use Rattle.std.specs.Prelude.{count_by}
use Rattle.uss_vol4.specs.Volume.{Volume4D}
use Rattle.uss_vol4.specs.Bounding.{bounding_box}
use Rattle.uss_intent.specs.declared.records.Recorded.{Recorded}
use Rattle.uss_intent.specs.declared.records.Ticket.{Ticket}
use Rattle.uss_intent.specs.declared.records.Landing.{Landing}
use Rattle.uss_intent.specs.declared.records.State.{State}
use Rattle.uss_intent.specs.Numbers.{is_one_of}
use Rattle.uss_law_dss.specs.Lists.{Has}
use Rattle.uss_law_dss.specs.Service.{Service, recorded_of, ticket_of, ovn_of}
use Rattle.uss_law_dss.specs.Step.{put_recorded, old_extents, next_version, landed, landing_of, after_put}
use Rattle.uss_law_dss.specs.Orderly.{IsOrderly, IsCovered, IsAsLanded, last_of}
use Rattle.uss_law_dss.proofs.Lists.{has_push, has_left, find_has, find_none}
use Rattle.uss_law_dss.proofs.Tests.{same_number, equal_number, other_number, some_same, not_both}
use Rattle.uss_law_dss.proofs.Ovns.{ovns_differ}
use Rattle.uss_law_dss.proofs.Placed.{ascend_put, put_there, put_keeps, put_others, length-put_le, length-put_same}
use Rattle.uss_law_dss.proofs.Raised.{raised_from, raised_to, ascend_raised, length-raised}
use Rattle.uss_law_dss.proofs.History.{has_numbered, numbered_once, numbered_push, last_pushed, last_kept, last_has, count_more, count_same, count_none}

-- what the tests of a Put say
pub record IsAllowed (s : Service) (client : List ℕ) (flight : ℕ) (ovn : Option (List ℕ)) (extents : List Volume4D) (ticket : ℕ) : Type 0 where
  pub some_extents : 0 < length extents
  pub not_retired : is_one_of flight s.retired_flights ≡ false
  pub creates : ovn ≡ None → (recorded_of flight s ≡ None) × (length s.references < 4096)
  pub changes : (o : List ℕ) → ovn ≡ Some o → (r : Recorded) × (recorded_of flight s ≡ Some r) × (r.reference.ovn ≡ Some o) × (r.reference.version ≢ 4294967295)
  pub cites : (t : Ticket) × (ticket_of ticket s ≡ Some t) × (t.manager ≡ client)
  pub room : length s.landings < 9999999999999999

-- the reference that a change names
pub record IsChanged (s : Service) (flight : ℕ) (o : List ℕ) : Type 0 where
  pub recorded : Recorded
  pub found : recorded_of flight s ≡ Some recorded
  pub there : Has s.references recorded
  pub flight_is : recorded.reference.flight ≡ flight
  pub ovn : recorded.reference.ovn ≡ Some o
  pub version : recorded.reference.version ≢ 4294967295
  pub landing : Landing
  pub landed_there : Has s.landings landing
  pub landing_ovn : landing.ovn ≡ o
  pub landing_flight : landing.flight ≡ flight

is_changed : (s : Service) (client : List ℕ) (flight : ℕ) (ovn : Option (List ℕ)) (extents : List Volume4D) (ticket : ℕ) → IsAllowed s client flight ovn extents ticket → IsOrderly s
    → (o : List ℕ) → ovn ≡ Some o → IsChanged s flight o
is_changed s client flight ovn extents ticket allowed j o e =
    let c = allowed.changes o e in
    let h = find_has (λ r. r.reference.flight == flight) s.references c.0 c.1 in
    let l = j.landed c.0 h.0 in
    let same : c.0.reference.flight ≡ flight = same_number c.0.reference.flight flight h.1 in
    record {
      recorded = c.0;
      found = c.1;
      there = h.0;
      flight_is = same;
      ovn = c.2;
      version = c.3;
      landing = l.0;
      landed_there = last_has c.0.reference.flight s.landings l.0 l.1;
      landing_ovn = some_same l.0.ovn o (sym l.2.ovn ∙ c.2);
      landing_flight = sym l.2.flight ∙ same;
    }

-- a flight that isn't recorded and wasn't removed has no landing
no_landing : (s : Service) (flight : ℕ) → IsOrderly s → recorded_of flight s ≡ None → is_one_of flight s.retired_flights ≡ false → (l : Landing) → Has s.landings l → l.flight ≡ flight → ⊥
no_landing s flight j none kept l h e = elim (j.there l h) [
  | inl g ↦ not_both (is_one_of flight s.retired_flights) (subst (λ (f : ℕ). is_one_of f s.retired_flights ≡ true) e g) kept
  | inr r ↦ not_both (r.0.reference.flight == flight) (equal_number r.0.reference.flight flight (r.2 ∙ e)) (find_none (λ q. q.reference.flight == flight) s.references r.0 none r.1)
]

module _ (s : Service) (client : List ℕ) (flight : ℕ) (ovn : Option (List ℕ)) (extents : List Volume4D) (state : State) (base : List ℕ) (ticket : ℕ) (allowed : IsAllowed s client flight ovn extents ticket) (j : IsOrderly s) where
  abbrev new : Landing
  new = landing_of s client flight ovn base ticket

  abbrev made : Recorded
  made = landed s client flight extents state base ticket

  abbrev touched : List Volume4D
  touched = old_extents (recorded_of flight s) ++ extents

  more : length (s.landings ++ new ∷ []) ≡ length s.landings + 1
  more = length-append s.landings (new ∷ [])

  change : (o : List ℕ) → ovn ≡ Some o → IsChanged s flight o
  change o e = is_changed s client flight ovn extents ticket allowed j o e

  -- the new OVN is none that was given before
  fresh : (l : Landing) → Has s.landings l → l.ovn ≡ ovn_of (length s.landings + 1) → ⊥
  fresh l h e =
      let r = has_numbered 0 s.landings l j.numbered h in
      let high = r.3 in
      let room = allowed.room in
      let same : r.0 ≡ length s.landings + 1 = ovns_differ r.0 (length s.landings + 1) (omega arith) (omega arith) (sym r.1 ∙ e) in
      omega arith

  few : (p : Option (List ℕ)) → ovn ≡ p → length (put_recorded made s.references) ≤ 4096
  few None e = let c = (allowed.creates e).1 in let len = length-put_le made s.references in omega arith
  few (Some o) e =
      let c = change o e in
      let len = length-put_same made s.references c.recorded j.references_ascend c.there c.flight_is in
      let k = j.few_references in
      omega arith

  version_is : (p : Option (List ℕ)) → ovn ≡ p → next_version (recorded_of flight s) ≡ count_by (λ l. l.flight == flight) s.landings + 1
  version_is None e =
      let c = (allowed.creates e).0 in
      let none = count_none flight s.landings (λ l h f. no_landing s flight j c allowed.not_retired l h f) in
      ap next_version c ∙ (let z = none in omega arith)
  version_is (Some o) e =
      let c = change o e in
      let v : c.recorded.reference.version ≡ count_by (λ l. l.flight == flight) s.landings =
      j.versions c.recorded c.there ∙ ap (λ (f : ℕ). count_by (λ l. l.flight == f) s.landings) c.flight_is in
      ap next_version c.found ∙ ap (λ n. n + 1) v

  version_fits : (p : Option (List ℕ)) → ovn ≡ p → next_version (recorded_of flight s) ≤ 4294967295
  version_fits None e = subst (λ (r : Option Recorded). next_version r ≤ 4294967295) (sym (allowed.creates e).0) (omega arith)
  version_fits (Some o) e =
      let c = change o e in
      let k = j.versions_fit c.recorded c.there in
      let d = c.version in
      subst (λ (r : Option Recorded). next_version r ≤ 4294967295) (sym c.found) (omega arith)

  here : (r : Recorded) → Has (put_recorded made s.references) r → (made ≡ r) ⊎ (Has s.references r × (r.reference.flight ≢ flight))
  here r h = put_others made s.references r j.references_ascend h

  covered : (r : Recorded) → (made ≡ r) ⊎ (Has s.references r × (r.reference.flight ≢ flight)) → IsCovered (after_put s client flight ovn extents state base ticket).1 r.reference
  covered r (inl e) =
      let c = allowed.cites in
      let h = find_has (λ t. t.id == ticket) s.tickets c.0 c.1 in
      let u = raised_to client touched s.tickets c.0 h.0 in
      subst (λ (q : Recorded). IsCovered (after_put s client flight ovn extents state base ticket).1 q.reference) e
      (record { ticket = u.0; there = u.1; cited = u.2.id ∙ same_number c.0.id ticket h.1; manager = u.2.manager ∙ c.2 })
  covered r (inr k) =
      let c = j.covered r k.0 in
      let u = raised_to client touched s.tickets c.ticket c.there in
      record { ticket = u.0; there = u.1; cited = u.2.id ∙ c.cited; manager = u.2.manager ∙ c.manager }

  landed_as : (r : Recorded) → (made ≡ r) ⊎ (Has s.references r × (r.reference.flight ≢ flight)) → (l : Landing) × (last_of r.reference.flight (s.landings ++ new ∷ []) ≡ Some l) × IsAsLanded l r.reference
  landed_as r (inl e) =
      subst (λ (q : Recorded). (l : Landing) × (last_of q.reference.flight (s.landings ++ new ∷ []) ≡ Some l) × IsAsLanded l q.reference) e
      (new, last_pushed flight s.landings new refl, record { ovn = refl; manager = refl; flight = refl; tag = refl; ticket = refl })
  landed_as r (inr k) = let l = j.landed r k.0 in (l.0, last_kept r.reference.flight s.landings new (λ e. k.1 (sym e)) ∙ l.1, l.2)

  versions : (r : Recorded) → (made ≡ r) ⊎ (Has s.references r × (r.reference.flight ≢ flight)) → r.reference.version ≡ count_by (λ l. l.flight == r.reference.flight) (s.landings ++ new ∷ [])
  versions r (inl e) =
      subst (λ (q : Recorded). q.reference.version ≡ count_by (λ l. l.flight == q.reference.flight) (s.landings ++ new ∷ [])) e
      (version_is ovn refl ∙ sym (count_more flight s.landings new refl))
  versions r (inr k) = j.versions r k.0 ∙ sym (count_same r.reference.flight s.landings new (λ e. k.1 (sym e)))

  still_there : (l : Landing) → (is_one_of l.flight s.retired_flights ≡ true) ⊎ ((r : Recorded) × Has s.references r × (r.reference.flight ≡ l.flight))
      → (is_one_of l.flight s.retired_flights ≡ true) ⊎ ((r : Recorded) × Has (put_recorded made s.references) r × (r.reference.flight ≡ l.flight))
  still_there l (inl g) = inl g
  still_there l (inr r) = elim (r.0.reference.flight == flight) as (λ b. (r.0.reference.flight == flight) ≡ b → (is_one_of l.flight s.retired_flights ≡ true) ⊎ ((q : Recorded) × Has (put_recorded made s.references) q × (q.reference.flight ≡ l.flight))) [
    | true ↦ λ e. inr (made, put_there made s.references, sym (same_number r.0.reference.flight flight e) ∙ r.2)
    | false ↦ λ e. inr (r.0, put_keeps made s.references r.0 r.1 (other_number r.0.reference.flight flight e), r.2)
  ] refl

  previous : (l : Landing) (o : List ℕ) → Has s.landings l ⊎ (new ≡ l) → l.previous ≡ Some o → (m : Landing) × Has (s.landings ++ new ∷ []) m × (m.ovn ≡ o) × (m.flight ≡ l.flight)
  previous l o (inl h) e = let m = j.previous l o h e in (m.0, has_left s.landings (new ∷ []) m.0 m.1, m.2, m.3)
  previous l o (inr h) e =
      let c = change o (ap (λ (z : Landing). z.previous) h ∙ e) in
      (c.landing, has_left s.landings (new ∷ []) c.landing c.landed_there, c.landing_ovn, c.landing_flight ∙ ap (λ (z : Landing). z.flight) h)

  made_ovn : (r : Recorded) (o : List ℕ) → made ≡ r → r.reference.ovn ≡ Some o → ovn_of (length s.landings + 1) ≡ o
  made_ovn r o e g = some_same (ovn_of (length s.landings + 1)) o (ap (λ (z : Recorded). z.reference.ovn) e ∙ g)

  passed : (l : Landing) (o : List ℕ) (r : Recorded) → Has s.landings l ⊎ (new ≡ l) → (made ≡ r) ⊎ (Has s.references r × (r.reference.flight ≢ flight)) → l.previous ≡ Some o → r.reference.ovn ≡ Some o → ⊥
  passed l o r (inl h) (inl k) e g = let m = j.previous l o h e in fresh m.0 m.1 (m.2 ∙ sym (made_ovn r o k g))
  passed l o r (inl h) (inr k) e g = j.passed l o r h e k.0 g
  passed l o r (inr h) (inl k) e g =
      let c = change o (ap (λ (z : Landing). z.previous) h ∙ e) in
      fresh c.landing c.landed_there (c.landing_ovn ∙ sym (made_ovn r o k g))
  passed l o r (inr h) (inr k) e g =
      let c = change o (ap (λ (z : Landing). z.previous) h ∙ e) in
      let q = j.landed r k.0 in
      let few_landings = j.few_landings in
      let same : q.0 ≡ c.landing =
      numbered_once 0 s.landings q.0 c.landing j.numbered (omega arith) (last_has r.reference.flight s.landings q.0 q.1) c.landed_there (some_same q.0.ovn o (sym q.2.ovn ∙ g) ∙ sym c.landing_ovn) in
      k.1 (q.2.flight ∙ ap (λ (z : Landing). z.flight) same ∙ c.landing_flight)

  -- an older landing that took the place of the same version
  clash : (l : Landing) → Has s.landings l → l.flight ≡ flight → (p : Option (List ℕ)) → ovn ≡ p → l.previous ≡ p → ⊥
  clash l h e None a b = no_landing s flight j (allowed.creates a).0 allowed.not_retired l h e
  clash l h e (Some o) a b = let c = change o a in j.passed l o c.recorded h b c.there c.ovn

  once : (l m : Landing) → Has s.landings l ⊎ (new ≡ l) → Has s.landings m ⊎ (new ≡ m) → l.flight ≡ m.flight → l.previous ≡ m.previous → l ≡ m
  once l m (inl h) (inl i) e f = j.once l m h i e f
  once l m (inl h) (inr i) e f = absurd (clash l h (e ∙ ap (λ (z : Landing). z.flight) (sym i)) ovn refl (f ∙ ap (λ (z : Landing). z.previous) (sym i)))
  once l m (inr h) (inl i) e f = absurd (clash m i (sym e ∙ ap (λ (z : Landing). z.flight) (sym h)) ovn refl (sym f ∙ ap (λ (z : Landing). z.previous) (sym h)))
  once l m (inr h) (inr i) e f = sym h ∙ i

  on_made : {P : Recorded → Type 0} → P made → ((r : Recorded) → Has s.references r → P r) → (r : Recorded) → (made ≡ r) ⊎ (Has s.references r × (r.reference.flight ≢ flight)) → P r
  on_made {P} p others r (inl e) = subst P e p
  on_made {P} p others r (inr k) = others r k.0

  pub put_orderly : IsOrderly (after_put s client flight ovn extents state base ticket).1
  put_orderly =
      record {
        references_ascend = ascend_put made s.references j.references_ascend;
        tickets_ascend = ascend_raised client touched s.tickets j.tickets_ascend;
        few_references = few ovn refl;
        few_tickets = subst (λ n. n ≤ 8192) (sym (length-raised client touched s.tickets)) j.few_tickets;
        few_landings = (let room = allowed.room in omega (arith, more));
        flights_stay_retired = λ r h. on_made {P = λ (q : Recorded). is_one_of q.reference.flight s.retired_flights ≡ false} allowed.not_retired j.flights_stay_retired r (here r h);
        tickets_stay_retired = λ t h. (let m = raised_from client touched s.tickets t h in subst (λ (n : ℕ). is_one_of n s.retired_tickets ≡ false) (sym m.2.id) (j.tickets_stay_retired m.0 m.1));
        covered = λ r h. covered r (here r h);
        extents = λ r h. on_made {P = λ (q : Recorded). 0 < length q.extents} allowed.some_extents j.extents r (here r h);
        start = λ r h. on_made {P = λ (q : Recorded). q.reference.start ≡ (bounding_box q.extents).start} refl j.start r (here r h);
        end = λ r h. on_made {P = λ (q : Recorded). q.reference.end ≡ (bounding_box q.extents).end} refl j.end r (here r h);
        landed = λ r h. landed_as r (here r h);
        versions = λ r h. versions r (here r h);
        versions_fit = λ r h. on_made {P = λ (q : Recorded). q.reference.version ≤ 4294967295} (version_fits ovn refl) j.versions_fit r (here r h);
        numbered = numbered_push 0 s.landings new j.numbered (ap ovn_of (omega arith));
        there = λ l h. elim (has_push s.landings new l h) [
          | inl k ↦ still_there l (j.there l k)
          | inr k ↦ inr (made, put_there made s.references, ap (λ (z : Landing). z.flight) k)
        ];
        previous = λ l o h e. previous l o (has_push s.landings new l h) e;
        passed = λ l o r h e i g. passed l o r (has_push s.landings new l h) (here r i) e g;
        once = λ l m h i e f. once l m (has_push s.landings new l h) (has_push s.landings new m i) e f;
        indexes = λ t h. (let m = raised_from client touched s.tickets t h in let k = j.indexes m.0 m.1 in let u = m.2.index in omega (arith, more));
        ends = (let len = length-put_le made s.references in let k = j.ends in omega (arith, more));
      }
