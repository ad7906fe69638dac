-- What a closed job recorded is its one landing, and any other closed job has none.
use Rattle.std.proofs.Common.{ℕ, ◌==◌, ◌≡◌, inl, inr, Bool, true, false, List, refl, ap, sym, subst, ◌∙◌}
use Rattle.uss_intent.specs.Identifiers.{ticket_number}
use Rattle.uss_intent.specs.Numbers.{is_one_of}
use Rattle.uss_event.specs.declared.entries.Owner.{Owner}
use Rattle.uss_law_dss.specs.Lists.{Has}
use Rattle.uss_law_dss.proofs.Lists.{list_any_has}
use Rattle.uss_law_dss.proofs.Tests.{same_number, not_both}
use Rattle.uss_event.specs.declared.entries.Trial.{Trial}
use Rattle.uss_event.specs.declared.entries.Holding.{Holding}
use Rattle.uss_event.specs.declared.entries.Closing.{Closing}
use Rattle.uss_law_book.specs.Lists.{trials, holdings, endings}
use Rattle.uss_law_book.specs.Contents.{is_open, is_done, is_ended}
use Rattle.uss_law_book.proofs.EachOrderly.{legal_is_orderly}
use Rattle.uss_law_world.specs.World.{World, book_of}
use Rattle.uss_law_world.specs.Free.{AreSuppliers}
use Rattle.uss_law_world.specs.Claims.{IsLandingOf, NothingLanded}
use Rattle.uss_law_world.specs.Invariants.{HasItsOneLanding, JobsLandWhatTheyHold}
use Rattle.uss_law_world.proofs.Facts.{Facts}
use Rattle.uss_law_world.proofs.Jobs.{by_holding, one_of_job, ticket_is, ticket_there, ticket_of_landing, nothing_lands}
use Rattle.uss_law_world.proofs.Between.{end_tries_nothing}
use Rattle.uss_law_world.proofs.Headline.{open_landings_stay}

module _ (table : List ℕ) (owners : List Owner) (w : World) (names : AreSuppliers table owners) (j : Facts table owners w) where
  held_lands : (s : ℕ) (h : Holding) → Has (holdings (book_of s w)) h → HasItsOneLanding w s h
  held_lands s h k =
      let st = by_holding table owners w names j s h k in
      let m = j.entered s h k in
      let t = (legal_is_orderly (book_of s w) st.1.legal).own h k in
      let a : IsLandingOf w s h.job m.landing = record { there = m.landed; manager = m.manager; trial = t.0; tried = t.1; job_is = t.2; tag = t.3 ∙ sym m.tag_is } in
      record {
        landing = m.landing;
        of_job = a;
        tag = m.tag_is;
        ovn = m.ovn;
        version = m.rank;
        one = λ l b. one_of_job table owners w names j s h.job l m.landing b a;
      }

  done_by : (s job : ℕ) → is_done job (book_of s w) ≡ true → (d : Closing) × Has (endings (book_of s w)) d × (d.job ≡ job)
  unfolding is_done
  done_by s job e = let k = list_any_has (λ (z : Closing). z.job == job) (endings (book_of s w)) e in (k.0, k.1, same_number k.0.job job k.2)

  -- a job that ended its flight made no attempt
  ended_untried : (s : ℕ) (d : Closing) → Has (endings (book_of s w)) d → is_ended d.end ≡ true → (t : Trial) → Has (trials (book_of s w)) t → t.job ≡ d.job → ⊥
  ended_untried s d k e t h q =
      let f = (j.closed s d k).ends e in
      end_tries_nothing table owners w names j s f.opening t f.opened f.end h (q ∙ sym f.job_is)

  done_lands_nothing : (s job : ℕ) → is_done job (book_of s w) ≡ true → NothingLanded w s job
  done_lands_nothing s job e l a =
      let d = done_by s job e in
      go d.0 d.1 d.2 (is_ended d.0.end) refl
    where
      go : (d : Closing) → Has (endings (book_of s w)) d → d.job ≡ job → (x : Bool) → is_ended d.end ≡ x → ⊥
      go d k q true f = ended_untried s d k f a.trial a.tried (a.job_is ∙ sym q)
      go d k q false f = nothing_lands table owners w names j s d k f l (subst (λ n. IsLandingOf w s n l) (sym q) a)

  done_loses : (s : ℕ) (t : Trial) → Has (trials (book_of s w)) t → is_done t.job (book_of s w) ≡ true → is_one_of (ticket_number s t.job) w.service.retired_tickets ≡ true
  done_loses s t h e =
      let d = done_by s t.job e in
      go d.0 d.1 d.2 (is_ended d.0.end) refl
    where
      go : (d : Closing) → Has (endings (book_of s w)) d → d.job ≡ t.job → (x : Bool) → is_ended d.end ≡ x → is_one_of (ticket_number s t.job) w.service.retired_tickets ≡ true
      go d k q true f = absurd (ended_untried s d k f t h (sym q))
      go d k q false f = elim ((j.closed s d k).lands_nothing f) [
        | inl u ↦ absurd (u t h (sym q))
        | inr gone ↦ subst (λ n. is_one_of (ticket_number s n) w.service.retired_tickets ≡ true) q gone
      ]

  losing_lands_nothing : (s job : ℕ) → is_open job (book_of s w) ≡ true → is_one_of (ticket_number s job) w.service.retired_tickets ≡ true → NothingLanded w s job
  losing_lands_nothing s job open_ gone l a =
      let r = open_landings_stay table owners w names j s job l open_ a in
      let t : r.0.reference.ticket ≡ ticket_number s job =
      ticket_of_landing table owners w names j l a.there r.0 r.1 r.2 ∙ (ticket_is table owners w names j s a.trial l a.tried a.there a.manager a.tag ∙ ap (ticket_number s) a.job_is) in
      not_both (is_one_of (ticket_number s job) w.service.retired_tickets) gone (subst (λ n. is_one_of n w.service.retired_tickets ≡ false) t (ticket_there table owners w names j r.0 r.1))

  pub jobs_land_what_they_hold : JobsLandWhatTheyHold w
  jobs_land_what_they_hold = record { held = held_lands; ended = done_lands_nothing; lost = done_loses; losing = losing_lands_nothing }
