-- Between the jobs of a flight, what is recorded of it is what its supplier holds.
use Rattle.std.proofs.Common.{ℕ, ◌<◌, ◌^◌, ◌==◌, ◌≡◌, inl, inr, Bool, true, false, List, refl, ap, sym, subst, ◌∙◌, arith, Option, Some, None}
use Rattle.uss_vol4.specs.Volume.{Volume4D}
use Rattle.uss_vol4.specs.Bounding.{bounding_box}
use Rattle.uss_intent.specs.Identifiers.{flight_number}
use Rattle.uss_intent.specs.declared.records.Recorded.{Recorded}
use Rattle.uss_intent.specs.declared.records.Landing.{Landing}
use Rattle.uss_intent.specs.Numbers.{is_one_of}
use Rattle.uss_event.specs.Pairs.{OperationalIntent}
use Rattle.uss_event.specs.declared.asks.Wish.{Wish}
use Rattle.uss_event.specs.declared.asks.Wish.TheVariants.{Put, End}
use Rattle.uss_event.specs.declared.entries.Owner.{Owner}
use Rattle.uss_event.specs.Plans as Plans
use Rattle.uss_law_dss.specs.Lists.{Has}
use Rattle.uss_law_dss.specs.Orderly.{IsAsLanded}
use Rattle.uss_law_dss.proofs.Lists.{list_any_has}
use Rattle.uss_law_dss.proofs.Tests.{same_number, some_same, not_both, either}
use Rattle.uss_law_dss.proofs.History.{last_has}
use Rattle.uss_law_dss.proofs.EachOrderly.{one_landing}
use Rattle.uss_event.specs.declared.entries.Opening.{Opening}
use Rattle.uss_event.specs.declared.entries.Trial.{Trial}
use Rattle.uss_event.specs.declared.entries.Holding.{Holding}
use Rattle.uss_event.specs.declared.entries.Closing.{Closing}
use Rattle.uss_law_book.specs.Lists.{openings, trials, holdings, endings}
use Rattle.uss_law_book.specs.Contents.{is_held, is_done, is_closed, is_ended, has_ended, last_holding, holding, open_job_of}
use Rattle.uss_law_book.specs.Attempts.{Attempted, attempt_of, extents_of, recorded_as, held, held_by, by_wish}
use Rattle.uss_law_book.specs.Orderly.{IsOrderly}
use Rattle.uss_law_book.proofs.Attempts.{parts, trial_has}
use Rattle.uss_law_book.proofs.Greatest.{each_is_closed}
use Rattle.uss_law_book.proofs.Kept.{opening_has}
use Rattle.uss_law_book.proofs.Held.{holding_has, held_of}
use Rattle.uss_law_book.proofs.EachOrderly.{legal_is_orderly}
use Rattle.uss_law_world.specs.World.{Supplier, World, book_of}
use Rattle.uss_law_world.specs.Free.{AreSuppliers}
use Rattle.uss_law_world.specs.Claims.{IsLandingOf, rank_of, HoldsWhatIsRecorded, BooksAgree}
use Rattle.uss_law_world.proofs.Books.{legal_facts, ended_is, ended_tells}
use Rattle.uss_law_world.proofs.Lookups.{same_flight}
use Rattle.uss_law_world.proofs.References.{same_reference}
use Rattle.uss_law_world.proofs.Facts.{HasLanding, RecordedFrom, Facts}
use Rattle.uss_law_world.proofs.Parts.{Stands, at, attempt_tag, attempt_flight, landed_as}
use Rattle.uss_law_world.proofs.Jobs.{by_opening, by_holding, by_closing, holding_landing, landing_of_recorded, nothing_lands, one_of_job, previous_is, flight_is}
use Rattle.uss_law_world.proofs.Ranks.{rank_of_last}

no_wish : (a : Attempted) (owner : Owner) (opening : Opening) (trial : Trial) (wish : Wish) → wish ≡ End → by_wish owner opening trial wish ≡ Some a → ⊥
no_wish a owner opening trial (Put to priority rounds proposals) e h = cc
no_wish a owner opening trial End e h = cc

module _ (table : List ℕ) (owners : List Owner) (w : World) (names : AreSuppliers table owners) (j : Facts table owners w) where
  -- a flight that has ended is retired
  pub ended_is_retired : (s flight : ℕ) → has_ended flight (book_of s w) ≡ true → is_one_of (flight_number s flight) w.service.retired_flights ≡ true
  ended_is_retired s flight h =
      let x = ended_tells (book_of s w) flight h in
      let st = by_closing table owners w names j s x.closing x.entered in
      let o = legal_is_orderly (book_of s w) st.1.legal in
      let f = (j.closed s x.closing x.entered).ends x.is in
      let same : f.opening ≡ x.opening = o.jobs f.opening x.opening f.opened x.opened (f.job_is ∙ sym x.job) in
      let g : f.opening.ask.flight ≡ flight = ap (λ (z : Opening). z.ask.flight) same ∙ x.flight_is in
      subst (λ n. is_one_of (flight_number s n) w.service.retired_flights ≡ true) g f.retired

  -- a closed job recorded something, or ended
  pub which : {P : Type 0} (s job : ℕ) → is_closed job (book_of s w) ≡ true → ((k : Holding) → Has (holdings (book_of s w)) k → k.job ≡ job → P) → ((d : Closing) → Has (endings (book_of s w)) d → d.job ≡ job → P) → P
  unfolding is_held is_done
  which {P} s job h held done = go (is_held job (book_of s w)) refl
    where
      go : (x : Bool) → is_held job (book_of s w) ≡ x → P
      go true e = let k = list_any_has (λ (z : Holding). z.job == job) (holdings (book_of s w)) e in held k.0 k.1 (same_number k.0.job job k.2)
      go false e =
          let k = list_any_has (λ (z : Closing). z.job == job) (endings (book_of s w)) (either (is_held job (book_of s w)) (is_done job (book_of s w)) h e) in
          done k.0 k.1 (same_number k.0.job job k.2)

  -- a job that is to end its flight makes no attempt
  pub end_tries_nothing : (s : ℕ) (o : Opening) (t : Trial) → Has (openings (book_of s w)) o → o.ask.wish ≡ End → Has (trials (book_of s w)) t → t.job ≡ o.job → ⊥
  end_tries_nothing s o t i end h e =
      let st = by_opening table owners w names j s o i in
      let r = legal_is_orderly (book_of s w) st.1.legal in
      let a = r.attempted t h in
      let p = parts t.tag (book_of s w) a.0 a.1 in
      let q = opening_has (book_of s w) p.trial.job p.opening p.has_opening in
      let y = trial_has (book_of s w) t.tag p.trial p.has_trial in
      let u : p.trial ≡ t = r.tags p.trial t y.0 h y.1 in
      let same : p.opening ≡ o = r.jobs p.opening o q.0 i (q.1 ∙ (ap (λ (z : Trial). z.job) u ∙ e)) in
      no_wish a.0 p.owner p.opening p.trial p.opening.ask.wish (ap (λ (z : Opening). z.ask.wish) same ∙ end) p.is

  -- where one is closed, its flight has ended
  pub end_ends : (s : ℕ) (o : Opening) → Has (openings (book_of s w)) o → o.ask.wish ≡ End → is_closed o.job (book_of s w) ≡ true → has_ended o.ask.flight (book_of s w) ≡ true
  end_ends s o i end shut =
      let st = by_opening table owners w names j s o i in
      let r = legal_is_orderly (book_of s w) st.1.legal in
      which s o.job shut
      (λ k n e. (let t = r.own k n in absurd (end_tries_nothing s o t.0 i end t.1 (t.2 ∙ e))))
      (λ d n e. (let z = (legal_facts (book_of s w) st.1.legal).ends d o n i (sym e) end in ended_is (book_of s w) d o r n z i (sym e)))

  -- a retired flight is one that a job of its supplier is to end
  pub ended_here : (s flight : ℕ) → flight < 2 ^ 64 → is_one_of (flight_number s flight) w.service.retired_flights ≡ true → (o : Opening) × Has (openings (book_of s w)) o × (o.ask.wish ≡ End) × (o.ask.flight ≡ flight)
  ended_here s flight small gone =
      let t = j.retired (flight_number s flight) gone in
      let st = by_opening table owners w names j t.s t.ends.opening t.ends.opened in
      let one = same_flight t.s s t.ends.opening.ask.flight flight ((legal_facts (book_of t.s w) st.1.legal).fits t.ends.opening t.ends.opened).1 small (sym t.ends.flight_is) in
      (t.ends.opening, subst (λ z. Has (openings (book_of z w)) t.ends.opening) one.0 t.ends.opened, t.ends.end, one.1)

  -- of a flight that hasn't ended and isn't retired, and whose jobs with a landing are closed
  module _ (s flight : ℕ) (small : flight < 2 ^ 64) (live : has_ended flight (book_of s w) ≡ false) (unretired : is_one_of (flight_number s flight) w.service.retired_flights ≡ false)
      (shut : (o : Opening) (l : Landing) → Has (openings (book_of s w)) o → o.ask.flight ≡ flight → IsLandingOf w s o.job l → is_closed o.job (book_of s w) ≡ true) where
    -- what is recorded of the flight was entered
    record WasHeld (r : Recorded) : Type 0 where
      holding : Holding
      entered : Has (holdings (book_of s w)) holding
      opening : Opening
      opened : Has (openings (book_of s w)) opening
      job_is : opening.job ≡ holding.job
      flight_is : opening.ask.flight ≡ flight
      ovn_is : r.reference.ovn ≡ Some holding.ovn

    was_held : (r : Recorded) → Has w.service.references r → r.reference.flight ≡ flight_number s flight → WasHeld r
    was_held r h e =
        let f = j.recorded r h in
        let b = f.attempt in
        let q = at table owners w names j f.s b.tag b f.found in
        let g : flight_number f.s q.opening.ask.flight ≡ flight_number s flight = sym (attempt_flight table owners w names j f.s b.tag b f.found) ∙ (sym f.flight ∙ e) in
        let one = same_flight f.s s q.opening.ask.flight flight ((legal_facts (book_of f.s w) q.legal).fits q.opening q.opened).1 small g in
        at_home r h f (subst (λ z. attempt_of b.tag (book_of z w) ≡ Some b) one.0 f.found) e
      where
        at_home : (r : Recorded) → Has w.service.references r → (f : RecordedFrom w r) → (here : attempt_of f.attempt.tag (book_of s w) ≡ Some f.attempt) → r.reference.flight ≡ flight_number s flight → WasHeld r
        at_home r h f here e =
            let b = f.attempt in
            let q = at table owners w names j s b.tag b here in
            let o = legal_is_orderly (book_of s w) q.legal in
            let g : flight_number s q.opening.ask.flight ≡ flight_number s flight = sym (attempt_flight table owners w names j s b.tag b here) ∙ (sym f.flight ∙ e) in
            let one = same_flight s s q.opening.ask.flight flight ((legal_facts (book_of s w) q.legal).fits q.opening q.opened).1 small g in
            let l = landing_of_recorded table owners w names j r h s b.tag b here f refl in
            let of_job : IsLandingOf w s q.opening.job l.0 = subst (λ z. IsLandingOf w s z l.0) (q.its.job ∙ sym q.its_job) l.2 in
            which s q.opening.job (shut q.opening l.0 q.opened one.1 of_job)
            (λ k i n. (let m = holding_landing table owners w names j s k i in
            let x : IsLandingOf w s b.job m.0 = subst (λ z. IsLandingOf w s z m.0) (n ∙ (q.its_job ∙ sym q.its.job)) m.2 in
            let same : m.0 ≡ l.0 = one_of_job table owners w names j s b.job m.0 l.0 x l.2 in
            record {
              holding = k;
              entered = i;
              opening = q.opening;
              opened = q.opened;
              job_is = sym n;
              flight_is = one.1;
              ovn_is = l.1 ∙ ap Some (ap (λ (z : Landing). z.ovn) (sym same) ∙ m.1);
            }))
            (λ d i n. absurd (over d i (q.opening) q.opened n one.1 (λ z. nothing_lands table owners w names j s d i z l.0 (subst (λ y. IsLandingOf w s y l.0) (q.its.job ∙ (sym q.its_job ∙ sym n)) l.2)) o))
          where
            over : (d : Closing) → Has (endings (book_of s w)) d → (p : Opening) → Has (openings (book_of s w)) p → d.job ≡ p.job → p.ask.flight ≡ flight → (is_ended d.end ≡ false → ⊥) → IsOrderly (book_of s w) → ⊥
            over d i p k n g none o = go (is_ended d.end) refl
              where
                go : (x : Bool) → is_ended d.end ≡ x → ⊥
                go true z = not_both (has_ended flight (book_of s w)) (subst (λ y. has_ended y (book_of s w) ≡ true) g (ended_is (book_of s w) d p o i z k (sym n))) live
                go false z = none z

    -- and it is the last that was
    was_last : (r : Recorded) → Has w.service.references r → (k : WasHeld r) → last_holding flight (book_of s w) ≡ Some k.holding
    was_last r h k =
        let st = by_holding table owners w names j s k.holding k.entered in
        elim ((legal_facts (book_of s w) st.1.legal).followed k.holding k.opening k.entered k.opened k.job_is) [
          | inl last ↦ subst (λ z. last_holding z (book_of s w) ≡ Some k.holding) k.flight_is last
          | inr f ↦ (
              let m = j.entered s f.next f.entered in
              let p = previous_is table owners w names j s f.trial m.landing f.tried m.landed m.manager (f.tag ∙ sym m.tag_is) in
              absurd (j.service.passed m.landing k.holding.ovn r m.landed (p ∙ f.previous) h k.ovn_is))
        ]

    holding_is : (k : Holding) → last_holding flight (book_of s w) ≡ Some k → holding flight (book_of s w) ≡ Some k
    unfolding holding
    holding_is k e = rw live e

    -- where nothing is held, nothing is recorded
    absent : held flight (book_of s w) ≡ None → (r : Recorded) → Has w.service.references r → r.reference.flight ≡ flight_number s flight → ⊥
    absent n r h e =
        let k = was_held r h e in
        let st = by_holding table owners w names j s k.holding k.entered in
        let x = held_of (book_of s w) flight k.holding (legal_is_orderly (book_of s w) st.1.legal) (holding_is k.holding (was_last r h k)) in
        let y : None ≡ Some (recorded_as x.attempt k.holding.ovn k.holding.version) = sym n ∙ x.is in
        cc

    none_held : (p : OperationalIntent) → held flight (book_of s w) ≡ Some p → holding flight (book_of s w) ≡ None → ⊥
    unfolding held
    none_held p k e = let n : None ≡ Some p = sym (ap (held_by (book_of s w)) e) ∙ k in cc

    by_holding_of : (h : Holding) → holding flight (book_of s w) ≡ Some h → (x : Supplier) × Stands owners w s x
    by_holding_of h e = by_holding table owners w names j s h (holding_has (book_of s w) flight h e).0

    -- what is recorded is the attempt that was entered last
    same_as : (h : Holding) (a : Attempted) → attempt_of h.tag (book_of s w) ≡ Some a → (m : HasLanding w s h.tag h.ovn h.version) → (r : Recorded) → Has w.service.references r → r.reference.flight ≡ flight_number s flight
        → last_holding flight (book_of s w) ≡ Some h → (r.reference ≡ (recorded_as a h.ovn h.version).reference) × (r.extents ≡ Plans.extents_of (recorded_as a h.ovn h.version).details)
    same_as h a found m r there e last =
        let k = was_held r there e in
        let one : k.holding ≡ h = some_same k.holding h (sym (was_last r there k) ∙ last) in
        let ovn : r.reference.ovn ≡ Some h.ovn = k.ovn_is ∙ ap (λ (z : Holding). Some z.ovn) one in
        let tag : a.tag ≡ h.tag = attempt_tag table owners w names j s h.tag a found in
        let found' : attempt_of a.tag (book_of s w) ≡ Some a = subst (λ t. attempt_of t (book_of s w) ≡ Some a) (sym tag) found in
        let f = j.recorded r there in
        let same : f.attempt ≡ a = landed_as table owners w names j r there f s a h.ovn h.version found' (subst (λ t. HasLanding w s t h.ovn h.version) (sym tag) m) ovn in
        let l = j.service.landed r there in
        let i : IsAsLanded l.0 r.reference = l.2 in
        let few = j.service.few_landings in
        let rank = rank_of_last r.reference.flight 0 w.service.landings l.0 j.service.numbered (omega (arith, few)) l.1 in
        let landing : l.0 ≡ m.landing = one_landing w.service j.service l.0 m.landing (last_has r.reference.flight w.service.landings l.0 l.1) m.landed (some_same l.0.ovn h.ovn (sym i.ovn ∙ ovn) ∙ sym m.ovn) in
        let version : r.reference.version ≡ h.version =
        j.service.versions r there ∙ (sym rank ∙ (ap (λ n. rank_of n l.0.ovn w.service.landings) i.flight ∙ (ap (λ (z : Landing). rank_of z.flight z.ovn w.service.landings) landing ∙ m.rank))) in
        let extents : r.extents ≡ extents_of a = f.extents ∙ ap extents_of same in (
          same_reference r.reference (recorded_as a h.ovn h.version).reference
              (f.flight ∙ ap (λ (z : Attempted). z.flight) same)
              (f.manager ∙ ap (λ (z : Attempted). z.manager) same)
              version
              (f.state ∙ ap (λ (z : Attempted). z.state) same)
              ovn
              (j.service.start r there ∙ ap (λ (z : List Volume4D). (bounding_box z).start) extents)
              (j.service.end r there ∙ ap (λ (z : List Volume4D). (bounding_box z).end) extents)
              (f.base ∙ ap (λ (z : Attempted). z.base) same)
              (f.ticket ∙ ap (λ (z : Attempted). z.ticket) same),
          extents,
        )

    -- where something is held, it is recorded so
    recorded_so : (h : Holding) → holding flight (book_of s w) ≡ Some h → (p : OperationalIntent) → held flight (book_of s w) ≡ Some p
        → (r : Recorded) × Has w.service.references r × (r.reference ≡ p.reference) × (r.extents ≡ Plans.extents_of p.details)
    unfolding holding
    recorded_so h e p k =
        let last : last_holding flight (book_of s w) ≡ Some h = (rw live at e) in
        last_so h e last p k
      where
        last_so : (h : Holding) → holding flight (book_of s w) ≡ Some h → last_holding flight (book_of s w) ≡ Some h → (p : OperationalIntent) → held flight (book_of s w) ≡ Some p
            → (r : Recorded) × Has w.service.references r × (r.reference ≡ p.reference) × (r.extents ≡ Plans.extents_of p.details)
        last_so h e last p k =
            let st = by_holding_of h e in
            let o = legal_is_orderly (book_of s w) st.1.legal in
            let x = held_of (book_of s w) flight h o e in
            let m = j.entered s h x.entered in
            let i = opening_has (book_of s w) h.job x.opening x.opened in
            let f = flight_is table owners w names j s x.trial m.landing x.opening x.tried m.landed m.manager (x.tag ∙ sym m.tag_is) i.0 (i.1 ∙ sym x.job) in
            let g : m.landing.flight ≡ flight_number s flight = f ∙ ap (flight_number s) x.flight_is in
            let is : p ≡ recorded_as x.attempt h.ovn h.version = some_same p (recorded_as x.attempt h.ovn h.version) (sym k ∙ x.is) in
            elim (j.service.there m.landing m.landed) [
              | inl gone ↦ not_both (is_one_of (flight_number s flight) w.service.retired_flights) (subst (λ n. is_one_of n w.service.retired_flights ≡ true) g gone) unretired
              | inr r ↦ (r.0, r.1, (same_as h x.attempt x.found m r.0 r.1 (r.2 ∙ g) last).0 ∙ ap (λ (z : OperationalIntent). z.reference) (sym is), (same_as h x.attempt x.found m r.0 r.1 (r.2 ∙ g) last).1 ∙ ap (λ (z : OperationalIntent). Plans.extents_of z.details) (sym is))
            ]

    pub holds_what_is_recorded : HoldsWhatIsRecorded w s flight
    holds_what_is_recorded = record { recorded = λ p k. at_holding p k (holding flight (book_of s w)) refl; absent = absent }
      where
        at_holding : (p : OperationalIntent) → held flight (book_of s w) ≡ Some p → (x : Option Holding) → holding flight (book_of s w) ≡ x
            → (r : Recorded) × Has w.service.references r × (r.reference ≡ p.reference) × (r.extents ≡ Plans.extents_of p.details)
        at_holding p k None e = absurd (none_held p k e)
        at_holding p k (Some h) e = recorded_so h e p k

  -- between jobs
  between : (s flight : ℕ) → flight < 2 ^ 64 → open_job_of flight (book_of s w) ≡ None → has_ended flight (book_of s w) ≡ false → HoldsWhatIsRecorded w s flight
  between s flight small free live = holds_what_is_recorded s flight small live (unretired (is_one_of (flight_number s flight) w.service.retired_flights) refl) (λ o l i g a. each_is_closed (book_of s w) flight o free i g)
    where
      unretired : (x : Bool) → is_one_of (flight_number s flight) w.service.retired_flights ≡ x → x ≡ false
      unretired false e = refl
      unretired true e =
          let o = ended_here s flight small e in
          let y = end_ends s o.0 o.1 o.2 (each_is_closed (book_of s w) flight o.0 free o.1 o.3) in
          not_both (has_ended flight (book_of s w)) (subst (λ z. has_ended z (book_of s w) ≡ true) o.3 y) live

  pub books_agree : BooksAgree w
  books_agree = record { between_jobs = between; ended = ended_is_retired }
