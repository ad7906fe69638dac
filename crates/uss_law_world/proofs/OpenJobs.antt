-- While a job is open, what is recorded of its flight is what is held, or the job's landing.
use Rattle.std.proofs.Common.{ℕ, ◌<◌, ◌^◌, ◌==◌, ◌≡◌, ◌⊎◌, inl, inr, Bool, true, false, List, [], ◌∷◌, refl, ap, sym, subst, ◌∙◌, Some}
use Rattle.uss_intent.specs.Identifiers.{flight_number, ticket_number}
use Rattle.uss_intent.specs.declared.records.Recorded.{Recorded}
use Rattle.uss_intent.specs.declared.records.Landing.{Landing}
use Rattle.uss_intent.specs.Numbers.{is_one_of}
use Rattle.uss_event.specs.declared.asks.Wish.{Wish}
use Rattle.uss_event.specs.declared.asks.Wish.TheVariants.{End}
use Rattle.uss_event.specs.declared.entries.Owner.{Owner}
use Rattle.uss_law_dss.specs.Lists.{Has}
use Rattle.uss_law_dss.specs.Orderly.{IsAsLanded}
use Rattle.uss_law_dss.proofs.Lists.{find_has}
use Rattle.uss_law_dss.proofs.Tests.{same_number, equal_number, not_both, some_same}
use Rattle.uss_law_dss.proofs.History.{last_has}
use Rattle.uss_law_dss.proofs.EachOrderly.{one_landing}
use Rattle.uss_event.specs.declared.entries.Opening.{Opening}
use Rattle.uss_law_book.specs.Lists.{openings}
use Rattle.uss_law_book.specs.Contents.{opening_of, open_job_of, is_open, is_closed, is_put, has_ended}
use Rattle.uss_law_book.specs.Orderly.{IsOrderly}
use Rattle.uss_law_book.proofs.Finds.{find_found}
use Rattle.uss_law_book.proofs.Kept.{opening_has, open_parts}
use Rattle.uss_law_book.proofs.Held.{open_job_is_found}
use Rattle.uss_law_book.proofs.EachOrderly.{legal_is_orderly}
use Rattle.uss_law_world.specs.World.{World, book_of}
use Rattle.uss_law_world.specs.Free.{AreSuppliers}
use Rattle.uss_law_world.specs.Claims.{IsLandingOf, landings_of, NothingLanded, HoldsWhatIsRecorded}
use Rattle.uss_law_world.specs.Invariants.{IsRetired, IsUnretired, IsUnrecorded, IsAsBefore, IsByTheJob, IsBeingEnded, OpenJobsAgree}
use Rattle.uss_law_world.proofs.Books.{BookFacts, legal_facts, alive}
use Rattle.uss_law_world.proofs.Facts.{Facts}
use Rattle.uss_law_world.proofs.Jobs.{by_opening, previous_is, ticket_is, flight_is, ticket_of_landing}
use Rattle.uss_law_world.proofs.Replies.{one_recorded}
use Rattle.uss_law_world.proofs.Between.{end_tries_nothing, end_ends, ended_here, holds_what_is_recorded}
use Rattle.uss_law_world.proofs.Headline.{landing_is_of, open_landings_stay}

no_put : {P : Type 0} (wish : Wish) → is_put wish ≡ true → wish ≡ End → P
no_put wish e f = let x : is_put wish ≡ false = ap is_put f in not_both (is_put wish) e x

module _ (table : List ℕ) (owners : List Owner) (w : World) (names : AreSuppliers table owners) (j : Facts table owners w) where
  -- a job has a landing or none
  landing_or_none : (s job : ℕ) → NothingLanded w s job ⊎ ((l : Landing) × IsLandingOf w s job l)
  landing_or_none s job = go (landings_of s job w) refl
    where
      go : (ls : List Landing) → landings_of s job w ≡ ls → NothingLanded w s job ⊎ ((l : Landing) × IsLandingOf w s job l)
      go [] e = inl (λ l a. (let h : Has (landings_of s job w) l = (landing_is_of table owners w names j s job l).1 a in subst (λ (z : List Landing). Has z l) e h))
      go (l ∷ ls) e = inr (l, (landing_is_of table owners w names j s job l).0 (subst (λ (z : List Landing). Has z l) (sym e) (inl refl)))

  module _ (s : ℕ) (o : Opening) (opened : Has (openings (book_of s w)) o) (unclosed : is_closed o.job (book_of s w) ≡ false) (r : IsOrderly (book_of s w)) (b : BookFacts (book_of s w)) where
    abbrev flight : ℕ
    flight = o.ask.flight

    live : has_ended flight (book_of s w) ≡ false
    live = alive (book_of s w) o b opened unclosed

    small : flight < 2 ^ 64
    small = (b.fits o opened).1

    -- each other job of the flight is closed
    others_shut : (q : Opening) → Has (openings (book_of s w)) q → q.ask.flight ≡ flight → (q ≡ o → is_closed q.job (book_of s w) ≡ true) → is_closed q.job (book_of s w) ≡ true
    others_shut q i g f = go (is_closed q.job (book_of s w)) refl
      where
        go : (x : Bool) → is_closed q.job (book_of s w) ≡ x → is_closed q.job (book_of s w) ≡ true
        go true e = e
        go false e = f (r.unclosed q o i opened e unclosed g)

    -- a retired flight has an open job that is to end it
    retired_by_end : IsRetired w s flight → o.ask.wish ≡ End
    retired_by_end gone = go (is_closed x.0.job (book_of s w)) refl
      where
        x : (q : Opening) × Has (openings (book_of s w)) q × (q.ask.wish ≡ End) × (q.ask.flight ≡ flight)
        x = ended_here table owners w names j s flight small gone

        go : (y : Bool) → is_closed x.0.job (book_of s w) ≡ y → o.ask.wish ≡ End
        go true e = not_both (has_ended flight (book_of s w)) (subst (λ z. has_ended z (book_of s w) ≡ true) x.3 (end_ends table owners w names j s x.0 x.1 x.2 e)) live
        go false e = ap (λ (z : Opening). z.ask.wish) (sym (r.unclosed x.0 o x.1 opened e unclosed x.3)) ∙ x.2

    -- while a job is to record something
    put_unretired : is_put o.ask.wish ≡ true → IsUnretired w s flight
    put_unretired put = go (is_one_of (flight_number s flight) w.service.retired_flights) refl
      where
        go : (x : Bool) → is_one_of (flight_number s flight) w.service.retired_flights ≡ x → x ≡ false
        go false e = refl
        go true e = no_put o.ask.wish put (retired_by_end e)

    put_as_before : is_put o.ask.wish ≡ true → NothingLanded w s o.job → IsAsBefore w s o
    put_as_before put none =
        record {
          nothing = none;
          held = holds_what_is_recorded table owners w names j s flight small live (put_unretired put)
              (λ q l i g a. others_shut q i g (λ e. absurd (none l (subst (λ (z : Opening). IsLandingOf w s z.job l) e a))));
        }

    put_by_the_job : is_open o.job (book_of s w) ≡ true → (l : Landing) → IsLandingOf w s o.job l → IsByTheJob w s o
    put_by_the_job open_ l a =
        let k = open_landings_stay table owners w names j s o.job l open_ a in
        let q = k.0 in
        let m = j.service.landed q k.1 in
        let i : IsAsLanded m.0 q.reference = m.2 in
        let same : m.0 ≡ l = one_landing w.service j.service m.0 l (last_has q.reference.flight w.service.landings m.0 m.1) a.there (some_same m.0.ovn l.ovn (sym i.ovn ∙ k.2)) in
        let f : q.reference.flight ≡ flight_number s flight =
        i.flight ∙ (ap (λ (z : Landing). z.flight) same ∙ flight_is table owners w names j s a.trial l o a.tried a.there a.manager a.tag opened (sym a.job_is)) in
        let x = find_found (λ (z : Recorded). z.reference.flight == flight_number s flight) w.service.references q k.1 (equal_number q.reference.flight (flight_number s flight) f) in
        let y = find_has (λ (z : Recorded). z.reference.flight == flight_number s flight) w.service.references x.0 x.1 in
        let one : x.0 ≡ q = one_recorded w.service.references x.0 q j.service.references_ascend y.0 k.1 (same_number x.0.reference.flight (flight_number s flight) y.1 ∙ sym f) in
        record {
          landing = l;
          of_job = a;
          current = previous_is table owners w names j s a.trial l a.tried a.there a.manager a.tag ∙ r.based a.trial o a.tried opened (sym a.job_is) unclosed;
          recorded = q;
          found = x.1 ∙ ap Some one;
          ovn = k.2;
          ticket = ticket_of_landing table owners w names j l a.there q k.1 k.2 ∙ (ticket_is table owners w names j s a.trial l a.tried a.there a.manager a.tag ∙ ap (ticket_number s) a.job_is);
        }

    put_agrees : is_open o.job (book_of s w) ≡ true → is_put o.ask.wish ≡ true → IsUnretired w s flight × (IsAsBefore w s o ⊎ IsByTheJob w s o)
    put_agrees open_ put = (put_unretired put, elim (landing_or_none s o.job) [ inl none ↦ inl (put_as_before put none) | inr l ↦ inr (put_by_the_job open_ l.0 l.1) ])

    -- while a job is to end the flight
    end_agrees : o.ask.wish ≡ End → (IsUnretired w s flight × HoldsWhatIsRecorded w s flight) ⊎ (IsRetired w s flight × IsUnrecorded w s flight)
    end_agrees end = go (is_one_of (flight_number s flight) w.service.retired_flights) refl
      where
        go : (x : Bool) → is_one_of (flight_number s flight) w.service.retired_flights ≡ x → (IsUnretired w s flight × HoldsWhatIsRecorded w s flight) ⊎ (IsRetired w s flight × IsUnrecorded w s flight)
        go true e = inr (e, λ q h g. not_both (is_one_of (flight_number s flight) w.service.retired_flights) e (subst (λ n. is_one_of n w.service.retired_flights ≡ false) g (j.service.flights_stay_retired q h)))
        go false e =
            inl (
              e,
              holds_what_is_recorded table owners w names j s flight small live e
                  (λ q l i g a. others_shut q i g (λ z. absurd (end_tries_nothing table owners w names j s o a.trial opened end a.tried (a.job_is ∙ ap (λ (y : Opening). y.job) z)))),
            )

  pub open_jobs_agree : OpenJobsAgree w
  open_jobs_agree =
      record {
        puts = λ s job o open_ opened put. (let k = parts_of s job o open_ opened in put_agrees s o k.0 k.1 k.3 k.4 k.2 put);
        ends = λ s job o open_ opened end. (let k = parts_of s job o open_ opened in end_agrees s o k.0 k.1 k.3 k.4 end);
        retired = retired_so;
      }
    where
      retired_so : (s flight : ℕ) → flight < 2 ^ 64 → IsRetired w s flight → (has_ended flight (book_of s w) ≡ true) ⊎ IsBeingEnded (book_of s w) flight
      retired_so s flight small gone = go (ended_here table owners w names j s flight small gone)
        where
          go : (q : Opening) × Has (openings (book_of s w)) q × (q.ask.wish ≡ End) × (q.ask.flight ≡ flight) → (has_ended flight (book_of s w) ≡ true) ⊎ IsBeingEnded (book_of s w) flight
          go x = decide (is_closed x.0.job (book_of s w)) refl
            where
              decide : (y : Bool) → is_closed x.0.job (book_of s w) ≡ y → (has_ended flight (book_of s w) ≡ true) ⊎ IsBeingEnded (book_of s w) flight
              decide true e = inl (subst (λ z. has_ended z (book_of s w) ≡ true) x.3 (end_ends table owners w names j s x.0 x.1 x.2 e))
              decide false e =
                  let st = by_opening table owners w names j s x.0 x.1 in
                  let f = open_job_is_found (book_of s w) x.0 (legal_is_orderly (book_of s w) st.1.legal) x.1 e in
                  inr (record { opening = x.0; open_job = subst (λ z. open_job_of z (book_of s w) ≡ Some x.0) x.3 f; end = x.2 })

      parts_of : (s job : ℕ) (o : Opening) → is_open job (book_of s w) ≡ true → opening_of job (book_of s w) ≡ Some o
          → Has (openings (book_of s w)) o × (is_closed o.job (book_of s w) ≡ false) × (is_open o.job (book_of s w) ≡ true) × IsOrderly (book_of s w) × BookFacts (book_of s w)
      parts_of s job o open_ opened =
          let i = opening_has (book_of s w) job o opened in
          let u = open_parts (book_of s w) job open_ in
          let st = by_opening table owners w names j s o i.0 in (
            i.0,
            subst (λ n. is_closed n (book_of s w) ≡ false) (sym i.1) u.2,
            subst (λ n. is_open n (book_of s w) ≡ true) (sym i.1) open_,
            legal_is_orderly (book_of s w) st.1.legal,
            legal_facts (book_of s w) st.1.legal,
          )
