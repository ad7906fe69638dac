-- A job has one landing at most; one that ended otherwise has none; and an open job's landing is recorded.
use Rattle.std.proofs.Common.{ℕ, ◌==◌, Bool, true, false, List, [], ◌≡◌, ◌≢◌, ◌⊎◌, inl, inr, refl, ap, sym, subst, ◌∙◌, Option, Some, None}
use Rattle.uss_intent.specs.Identifiers.{flight_number, ticket_number}
use Rattle.uss_intent.specs.declared.records.Recorded.{Recorded}
use Rattle.uss_intent.specs.declared.records.Landing.{Landing}
use Rattle.uss_intent.specs.Numbers.{is_one_of}
use Rattle.uss_event.specs.declared.entries.Owner.{Owner}
use Rattle.uss_event.specs.declared.entries.Entry.{Entry}
use Rattle.uss_law_dss.specs.Lists.{Has}
use Rattle.uss_law_dss.specs.Service.{recorded_of}
use Rattle.uss_law_dss.specs.Orderly.{IsAsLanded}
use Rattle.uss_law_dss.proofs.Lists.{find_has, list_any_has}
use Rattle.uss_law_dss.proofs.Tests.{same_number, other_number, not_both, some_same, either}
use Rattle.uss_law_dss.proofs.History.{last_has}
use Rattle.uss_law_dss.proofs.EachOrderly.{one_landing}
use Rattle.uss_event.specs.declared.entries.Opening.{Opening}
use Rattle.uss_event.specs.declared.entries.Trial.{Trial}
use Rattle.uss_event.specs.declared.entries.Holding.{Holding}
use Rattle.uss_event.specs.declared.entries.Closing.{Closing}
use Rattle.uss_law_book.specs.Lists.{openings, trials, holdings, endings}
use Rattle.uss_law_book.specs.Contents.{is_held, is_done, is_closed, is_ended, has_ended, holding, current_ovn_of}
use Rattle.uss_law_book.specs.Attempts.{Attempted, attempt_of}
use Rattle.uss_law_book.specs.Orderly.{IsOrderly}
use Rattle.uss_law_book.proofs.EachOrderly.{legal_is_orderly}
use Rattle.uss_law_world.specs.World.{Supplier, World, supplier_in, book_in, book_of, name_of}
use Rattle.uss_law_world.specs.Free.{AreSuppliers}
use Rattle.uss_law_world.specs.Claims.{IsLandingOf}
use Rattle.uss_law_world.proofs.Books.{BookFacts, legal_facts, alive}
use Rattle.uss_law_world.proofs.Lookups.{same_flight}
use Rattle.uss_law_world.proofs.Facts.{RecordedFrom, IsEntered, IsRecorded, Facts}
use Rattle.uss_law_world.proofs.Parts.{Stands, stands, Placed, at, attempt_manager, attempt_flight, attempt_ticket, one_attempt, recorded_landing}

-- a job's landing was entered
pub record IsHeldAs (w : World) (s job : ℕ) (l : Landing) : Type 0 where
  pub holding : Holding
  pub entered : Has (holdings (book_of s w)) holding
  pub job_is : holding.job ≡ job
  pub ovn_is : holding.ovn ≡ l.ovn

module _ (table : List ℕ) (owners : List Owner) (w : World) (names : AreSuppliers table owners) (j : Facts table owners w) where
  -- the supplier of a book that isn't empty is there
  pub stands_by : (s : ℕ) → (book_of s w ≡ [] → ⊥) → (x : Supplier) × Stands owners w s x
  stands_by s h = go (supplier_in s w.suppliers) refl
    where
      go : (y : Option Supplier) → supplier_in s w.suppliers ≡ y → (x : Supplier) × Stands owners w s x
      go None e = absurd (h (ap book_in e))
      go (Some x) e = (x, stands table owners w j s x e)

  pub by_trial : (s : ℕ) (t : Trial) → Has (trials (book_of s w)) t → (x : Supplier) × Stands owners w s x
  by_trial s t h = stands_by s (λ e. subst (λ (b : List Entry). Has (trials b) t) e h)

  pub by_holding : (s : ℕ) (k : Holding) → Has (holdings (book_of s w)) k → (x : Supplier) × Stands owners w s x
  by_holding s k h = stands_by s (λ e. subst (λ (b : List Entry). Has (holdings b) k) e h)

  pub by_opening : (s : ℕ) (o : Opening) → Has (openings (book_of s w)) o → (x : Supplier) × Stands owners w s x
  by_opening s o h = stands_by s (λ e. subst (λ (b : List Entry). Has (openings b) o) e h)

  pub by_closing : (s : ℕ) (d : Closing) → Has (endings (book_of s w)) d → (x : Supplier) × Stands owners w s x
  by_closing s d h = stands_by s (λ e. subst (λ (b : List Entry). Has (endings b) d) e h)

  pub same_name : (s t : ℕ) (x y : Supplier) → Stands owners w s x → Stands owners w t y → name_of s w ≡ name_of t w → s ≡ t
  same_name s t x y a b e = sym a.number ∙ (names.names x.owner y.owner a.one b.one (sym a.name_is ∙ (e ∙ b.name_is)) ∙ b.number)

  -- what a landing has of the entry of its attempt
  record IsLanded (s : ℕ) (t : Trial) (m : Landing) : Type 0 where
    attempt : Attempted
    found : attempt_of t.tag (book_of s w) ≡ Some attempt
    job : attempt.job ≡ t.job
    previous : m.previous ≡ t.previous
    flight : m.flight ≡ attempt.flight
    ticket : m.ticket ≡ ticket_number s t.job

  landed_by : (s : ℕ) (t : Trial) (m : Landing) → Has (trials (book_of s w)) t → Has w.service.landings m → m.manager ≡ name_of s w → t.tag ≡ m.tag → IsLanded s t m
  landed_by s t m h k e q =
      let st = by_trial s t h in
      let o = legal_is_orderly (book_of s w) st.1.legal in
      let c = o.attempted t h in
      let p = at table owners w names j s t.tag c.0 c.1 in
      let f = j.landings m k in
      let n : f.attempt.manager ≡ c.0.manager = sym f.manager ∙ (e ∙ sym (attempt_manager table owners w names j s t.tag c.0 c.1)) in
      let same : f.attempt ≡ c.0 = one_attempt table owners w names j f.s s m.tag t.tag f.attempt c.0 f.found c.1 n (sym q) in
      let trial : p.trial ≡ t = o.tags p.trial t p.tried h p.tag_is in
      let job : c.0.job ≡ t.job = p.its.job ∙ ap (λ (z : Trial). z.job) trial in
      record {
        attempt = c.0;
        found = c.1;
        job = job;
        previous = f.previous ∙ (ap (λ (z : Attempted). z.previous) same ∙ (p.its.previous ∙ ap (λ (z : Trial). z.previous) trial));
        flight = f.flight ∙ ap (λ (z : Attempted). z.flight) same;
        ticket = f.ticket ∙ (ap (λ (z : Attempted). z.ticket) same ∙ (attempt_ticket table owners w names j s t.tag c.0 c.1 ∙ ap (ticket_number s) job));
      }

  pub previous_is : (s : ℕ) (t : Trial) (m : Landing) → Has (trials (book_of s w)) t → Has w.service.landings m → m.manager ≡ name_of s w → t.tag ≡ m.tag → m.previous ≡ t.previous
  previous_is s t m h k e q = (landed_by s t m h k e q).previous

  pub ticket_is : (s : ℕ) (t : Trial) (m : Landing) → Has (trials (book_of s w)) t → Has w.service.landings m → m.manager ≡ name_of s w → t.tag ≡ m.tag → m.ticket ≡ ticket_number s t.job
  ticket_is s t m h k e q = (landed_by s t m h k e q).ticket

  pub flight_is : (s : ℕ) (t : Trial) (m : Landing) (o : Opening) → Has (trials (book_of s w)) t → Has w.service.landings m → m.manager ≡ name_of s w → t.tag ≡ m.tag
      → Has (openings (book_of s w)) o → o.job ≡ t.job → m.flight ≡ flight_number s o.ask.flight
  flight_is s t m o h k e q i f =
      let l = landed_by s t m h k e q in
      let p = at table owners w names j s t.tag l.attempt l.found in
      let s' = legal_is_orderly (book_of s w) p.legal in
      let a : p.opening ≡ o = s'.jobs p.opening o p.opened i (p.its_job ∙ (sym p.its.job ∙ (l.job ∙ sym f))) in
      l.flight ∙ (attempt_flight table owners w names j s t.tag l.attempt l.found ∙ ap (λ (z : Opening). flight_number s z.ask.flight) a)

  -- a job has one landing
  pub one_of_job : (s job : ℕ) (l m : Landing) → IsLandingOf w s job l → IsLandingOf w s job m → l ≡ m
  one_of_job s job l m a b =
      let st = by_trial s a.trial a.tried in
      let o = legal_is_orderly (book_of s w) st.1.legal in
      let r = o.tried a.trial a.tried in
      let x = landed_by s a.trial l a.tried a.there a.manager a.tag in
      let y = landed_by s b.trial m b.tried b.there b.manager b.tag in
      let p : a.trial.previous ≡ b.trial.previous = o.previous a.trial b.trial a.tried b.tried (a.job_is ∙ sym b.job_is) in
      let f : l.flight ≡ m.flight =
      flight_is s a.trial l r.0 a.tried a.there a.manager a.tag r.1 r.2
      ∙ sym (flight_is s b.trial m r.0 b.tried b.there b.manager b.tag r.1 (r.2 ∙ (a.job_is ∙ sym b.job_is))) in
      j.service.once l m a.there b.there f (x.previous ∙ (p ∙ sym y.previous))

  -- a landing of a job was entered by it, or is recorded
  pub held_or_recorded : (s job : ℕ) (l : Landing) → IsLandingOf w s job l → IsHeldAs w s job l ⊎ IsRecorded w l
  held_or_recorded s job l a = elim (j.standing l a.there) [
    | inr r ↦ inr r
    | inl e ↦ inl (held e)
  ]
    where
      held : IsEntered w l → IsHeldAs w s job l
      held e =
          let h = e.names.holding in
          let m = j.entered e.s h e.names.entered in
          let same : m.landing ≡ l = one_landing w.service j.service m.landing l m.landed a.there (m.ovn ∙ e.names.ovn_is) in
          let x = by_holding e.s h e.names.entered in
          let y = by_trial s a.trial a.tried in
          let n : e.s ≡ s = same_name e.s s x.0 y.0 x.1 y.1 (sym m.manager ∙ (ap (λ (z : Landing). z.manager) same ∙ a.manager)) in
          let entered : Has (holdings (book_of s w)) h = subst (λ z. Has (holdings (book_of z w)) h) n e.names.entered in
          let o = legal_is_orderly (book_of s w) y.1.legal in
          let t = o.own h entered in
          let tag : t.0.tag ≡ a.trial.tag = t.3 ∙ (sym m.tag_is ∙ (ap (λ (z : Landing). z.tag) same ∙ sym a.tag)) in
          let trial : t.0 ≡ a.trial = o.tags t.0 a.trial t.1 a.tried tag in
          record { holding = h; entered = entered; job_is = sym t.2 ∙ (ap (λ (z : Trial). z.job) trial ∙ a.job_is); ovn_is = e.names.ovn_is }

  -- the ticket of what is recorded isn't retired
  pub ticket_there : (r : Recorded) → Has w.service.references r → is_one_of r.reference.ticket w.service.retired_tickets ≡ false
  ticket_there r h = let c = j.service.covered r h in subst (λ n. is_one_of n w.service.retired_tickets ≡ false) c.cited (j.service.tickets_stay_retired c.ticket c.there)

  -- a recorded reference with a landing's OVN has its ticket
  pub ticket_of_landing : (l : Landing) → Has w.service.landings l → (r : Recorded) → Has w.service.references r → r.reference.ovn ≡ Some l.ovn → r.reference.ticket ≡ l.ticket
  ticket_of_landing l k r h e =
      let m = j.service.landed r h in
      let i : IsAsLanded m.0 r.reference = m.2 in
      let same : m.0 ≡ l = one_landing w.service j.service m.0 l (last_has r.reference.flight w.service.landings m.0 m.1) k (some_same m.0.ovn l.ovn (sym i.ovn ∙ e)) in
      i.ticket ∙ ap (λ (z : Landing). z.ticket) same

  -- a job that ended otherwise than by its flight's end or a record has no landing
  pub nothing_lands : (s : ℕ) (d : Closing) → Has (endings (book_of s w)) d → is_ended d.end ≡ false → (l : Landing) → IsLandingOf w s d.job l → ⊥
  nothing_lands s d h e l a = elim ((j.closed s d h).lands_nothing e) [
    | inl u ↦ u a.trial a.tried a.job_is
    | inr gone ↦ elim (held_or_recorded s d.job l a) [
      | inl k ↦ (let st = by_closing s d h in (legal_is_orderly (book_of s w) st.1.legal).held_or_ended k.holding d k.entered h k.job_is)
      | inr r ↦ (
          let x = landed_by s a.trial l a.tried a.there a.manager a.tag in
          let t : r.recorded.reference.ticket ≡ ticket_number s d.job = ticket_of_landing l a.there r.recorded r.there r.ovn_is ∙ (x.ticket ∙ ap (ticket_number s) a.job_is) in
          not_both (is_one_of (ticket_number s d.job) w.service.retired_tickets) gone (subst (λ n. is_one_of n w.service.retired_tickets ≡ false) t (ticket_there r.recorded r.there)))
    ]
  ]

  -- the landing of what is recorded is of its attempt's job
  pub landing_of_recorded : (r : Recorded) → Has w.service.references r → (s tag : ℕ) (b : Attempted) → (found : attempt_of tag (book_of s w) ≡ Some b) → (f : RecordedFrom w r) → f.attempt ≡ b
      → (l : Landing) × (r.reference.ovn ≡ Some l.ovn) × IsLandingOf w s b.job l
  landing_of_recorded r h s tag b found f e =
      let l = recorded_landing table owners w names j r h f in
      let p = at table owners w names j s tag b found in (
        l.0,
        l.2,
        record {
          there = l.1;
          manager = l.3 ∙ (ap (λ (z : Attempted). z.manager) e ∙ attempt_manager table owners w names j s tag b found);
          trial = p.trial;
          tried = p.tried;
          job_is = sym p.its.job;
          tag = sym p.its.tag ∙ (ap (λ (z : Attempted). z.tag) (sym e) ∙ sym l.5);
        },
      )

  -- the holding's landing is of its job
  pub holding_landing : (s : ℕ) (h : Holding) → Has (holdings (book_of s w)) h → (l : Landing) × (l.ovn ≡ h.ovn) × IsLandingOf w s h.job l
  holding_landing s h k =
      let st = by_holding s h k in
      let o = legal_is_orderly (book_of s w) st.1.legal in
      let m = j.entered s h k in
      let t = o.own h k in
      (m.landing, m.ovn, record { there = m.landed; manager = m.manager; trial = t.0; tried = t.1; job_is = t.2; tag = t.3 ∙ sym m.tag_is })

  -- of a flight with an open job, what is recorded by another job is what the open job's attempts change
  module _ (s : ℕ) (a b : Attempted) (found : attempt_of a.tag (book_of s w) ≡ Some a) (found' : attempt_of b.tag (book_of s w) ≡ Some b) (r : Recorded) (there : Has w.service.references r)
      (l : Landing) (ovn : r.reference.ovn ≡ Some l.ovn) (lands : IsLandingOf w s b.job l) where
    abbrev pub P : Placed owners w s a.tag a
    P = at table owners w names j s a.tag a found

    abbrev pub Q : Placed owners w s b.tag b
    Q = at table owners w names j s b.tag b found'

    O : IsOrderly (book_of s w)
    O = legal_is_orderly (book_of s w) P.legal

    B : BookFacts (book_of s w)
    B = legal_facts (book_of s w) P.legal

    held_base : P.opening.ask.flight ≡ Q.opening.ask.flight → is_closed P.opening.job (book_of s w) ≡ false → (h : Holding) → Has (holdings (book_of s w)) h → h.job ≡ Q.opening.job → a.previous ≡ r.reference.ovn
    unfolding holding
    held_base e u h k q = elim (B.followed h Q.opening k Q.opened (sym q)) [
      | inl last ↦ (
          let live : has_ended Q.opening.ask.flight (book_of s w) ≡ false = subst (λ z. has_ended z (book_of s w) ≡ false) e (alive (book_of s w) P.opening B P.opened u) in
          let base : current_ovn_of Q.opening.ask.flight (book_of s w) ≡ Some h.ovn = rw (live, last) refl in
          let x : P.trial.previous ≡ current_ovn_of P.opening.ask.flight (book_of s w) = O.based P.trial P.opening P.tried P.opened P.its_job u in
          P.its.previous ∙ (x ∙ (ap (λ z. current_ovn_of z (book_of s w)) e ∙ (base ∙ (ap Some same ∙ sym ovn)))))
      | inr f ↦ (
          let m = j.entered s f.next f.entered in
          let p = previous_is s f.trial m.landing f.tried m.landed m.manager (f.tag ∙ sym m.tag_is) in
          absurd (j.service.passed m.landing h.ovn r m.landed (p ∙ f.previous) there (ovn ∙ ap Some (sym same))))
    ]
      where
        same : h.ovn ≡ l.ovn
        same =
            let m = holding_landing s h k in
            let x : IsLandingOf w s b.job m.0 = subst (λ z. IsLandingOf w s z m.0) (q ∙ (Q.its_job ∙ sym Q.its.job)) m.2 in
            sym m.1 ∙ ap (λ (z : Landing). z.ovn) (one_of_job s b.job m.0 l x lands)

    done_base : P.opening.ask.flight ≡ Q.opening.ask.flight → is_closed P.opening.job (book_of s w) ≡ false → (d : Closing) → Has (endings (book_of s w)) d → d.job ≡ Q.opening.job → ⊥
    done_base e u d k q = go (is_ended d.end) refl
      where
        go : (x : Bool) → is_ended d.end ≡ x → ⊥
        go true y = not_both (is_closed P.opening.job (book_of s w)) (B.ended d Q.opening P.opening k y Q.opened (sym q) P.opened e) u
        go false y = nothing_lands s d k y l (subst (λ z. IsLandingOf w s z l) (Q.its.job ∙ (sym Q.its_job ∙ sym q)) lands)

    pub base_is_recorded : P.opening.ask.flight ≡ Q.opening.ask.flight → is_closed P.opening.job (book_of s w) ≡ false → a.job ≢ b.job → a.previous ≡ r.reference.ovn
    unfolding is_held is_done
    base_is_recorded e u d = shut (is_closed Q.opening.job (book_of s w)) refl
      where
        by_held : is_held Q.opening.job (book_of s w) ≡ true → a.previous ≡ r.reference.ovn
        by_held x = let h = list_any_has (λ (z : Holding). z.job == Q.opening.job) (holdings (book_of s w)) x in held_base e u h.0 h.1 (same_number h.0.job Q.opening.job h.2)

        by_done : is_done Q.opening.job (book_of s w) ≡ true → a.previous ≡ r.reference.ovn
        by_done x = let h = list_any_has (λ (z : Closing). z.job == Q.opening.job) (endings (book_of s w)) x in absurd (done_base e u h.0 h.1 (same_number h.0.job Q.opening.job h.2))

        which : (x : Bool) → is_held Q.opening.job (book_of s w) ≡ x → is_closed Q.opening.job (book_of s w) ≡ true → a.previous ≡ r.reference.ovn
        which true y z = by_held y
        which false y z = by_done (either (is_held Q.opening.job (book_of s w)) (is_done Q.opening.job (book_of s w)) z y)

        shut : (x : Bool) → is_closed Q.opening.job (book_of s w) ≡ x → a.previous ≡ r.reference.ovn
        shut true y = which (is_held Q.opening.job (book_of s w)) refl y
        shut false y =
            let k : P.opening ≡ Q.opening = O.unclosed P.opening Q.opening P.opened Q.opened u y e in
            absurd (d (P.its.job ∙ (sym P.its_job ∙ (ap (λ (z : Opening). z.job) k ∙ (Q.its_job ∙ sym Q.its.job)))))

  -- where another OVN is recorded of the flight than the one that an attempt of an open job changes, the job has a landing
  pub settled : (s job : ℕ) (a : Attempted) → attempt_of a.tag (book_of s w) ≡ Some a → a.job ≡ job → (r : Recorded) → recorded_of a.flight w.service ≡ Some r → a.previous ≢ r.reference.ovn
      → (is_closed job (book_of s w) ≡ true) ⊎ ((l : Landing) × IsLandingOf w s job l)
  settled s job a found is r rec differs = shut (is_closed job (book_of s w)) refl
    where
      there : Has w.service.references r × ((r.reference.flight == a.flight) ≡ true)
      there = find_has (λ (z : Recorded). z.reference.flight == a.flight) w.service.references r rec

      f : RecordedFrom w r
      f = j.recorded r there.0

      P' : Placed owners w s a.tag a
      P' = at table owners w names j s a.tag a found

      -- the flights are one supplier's, and one
      flights : (t : ℕ) → (k : attempt_of f.attempt.tag (book_of t w) ≡ Some f.attempt) → (s ≡ t) × (P'.opening.ask.flight ≡ (at table owners w names j t f.attempt.tag f.attempt k).opening.ask.flight)
      flights t k =
          let q = at table owners w names j t f.attempt.tag f.attempt k in
          let e : flight_number s P'.opening.ask.flight ≡ flight_number t q.opening.ask.flight =
          sym (attempt_flight table owners w names j s a.tag a found) ∙ (sym (same_number r.reference.flight a.flight there.1) ∙ (f.flight ∙ attempt_flight table owners w names j t f.attempt.tag f.attempt k)) in
          let x = (legal_facts (book_of s w) P'.legal).fits P'.opening P'.opened in
          let y = (legal_facts (book_of t w) q.legal).fits q.opening q.opened in
          same_flight s t P'.opening.ask.flight q.opening.ask.flight x.1 y.1 e

      here : attempt_of f.attempt.tag (book_of s w) ≡ Some f.attempt
      here = subst (λ z. attempt_of f.attempt.tag (book_of z w) ≡ Some f.attempt) (sym (flights f.s f.found).0) f.found

      l : (l : Landing) × (r.reference.ovn ≡ Some l.ovn) × IsLandingOf w s f.attempt.job l
      l = landing_of_recorded r there.0 s f.attempt.tag f.attempt here f refl

      decide : (x : Bool) → (a.job == f.attempt.job) ≡ x → is_closed job (book_of s w) ≡ false → (is_closed job (book_of s w) ≡ true) ⊎ ((m : Landing) × IsLandingOf w s job m)
      decide true e u = inr (l.0, subst (λ z. IsLandingOf w s z l.0) (sym (same_number a.job f.attempt.job e) ∙ is) l.2)
      decide false e u =
          let v : is_closed P'.opening.job (book_of s w) ≡ false = subst (λ z. is_closed z (book_of s w) ≡ false) (sym is ∙ (P'.its.job ∙ sym P'.its_job)) u in
          absurd (differs (base_is_recorded s a f.attempt found here r there.0 l.0 l.1 l.2 (flights s here).1 v (other_number a.job f.attempt.job e)))

      shut : (x : Bool) → is_closed job (book_of s w) ≡ x → (is_closed job (book_of s w) ≡ true) ⊎ ((m : Landing) × IsLandingOf w s job m)
      shut true u = inl u
      shut false u = decide (a.job == f.attempt.job) refl u
