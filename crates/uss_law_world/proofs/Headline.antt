-- The claims hold after every free list of moves.
use Rattle.std.proofs.Common.{ℕ, ◌≤◌, ◌<◌, ◌+◌, ◌^◌, ◌≡◌, ◌↔◌, inl, inr, ◌==◌, ◌&&◌, Bool, true, false, List, [], ◌∷◌, ◌++◌, refl, ap, sym, subst, ◌∙◌, arith, Option, Some, None, filter, length}
use Rattle.uss_intent.specs.Same.{same_text}
use Rattle.uss_intent.specs.declared.records.Recorded.{Recorded}
use Rattle.uss_intent.specs.declared.records.Reference.{Reference}
use Rattle.uss_intent.specs.declared.records.Landing.{Landing}
use Rattle.uss_intent.specs.declared.records.Subscriber.{Subscriber}
use Rattle.uss_intent.specs.declared.calls.DssAsk.TheVariants as Asks
use Rattle.uss_intent.specs.declared.calls.DssReply.{DssReply}
use Rattle.uss_intent.specs.declared.calls.DssReply.TheVariants as Replies
use Rattle.uss_event.specs.Pairs.{OperationalIntent}
use Rattle.uss_event.specs.declared.entries.Owner.{Owner}
use Rattle.uss_event.specs.declared.entries.Entry.{Entry}
use Rattle.uss_event.specs.declared.calls.DssCall.{DssCall}
use Rattle.uss_law_dss.specs.Lists.{Has}
use Rattle.uss_law_dss.specs.Service.{Service, recorded_of, ovn_of}
use Rattle.uss_law_dss.specs.Step.{after_put, service_step}
use Rattle.uss_law_dss.specs.Effects.{Effect, Lands, TellsNoChange}
use Rattle.uss_law_dss.specs.Effects.Effect.{lands, removes, makes_ticket, takes_ticket_out, stays}
use Rattle.uss_law_dss.specs.Orderly.{AreNumbered, IsAsLanded}
use Rattle.uss_law_dss.proofs.Lists.{has_filter, has_filtered, has_passed, find_has}
use Rattle.uss_law_dss.proofs.Tests.{both, and_true, same_bytes, equal_bytes, same_number, equal_number, not_both, some_same}
use Rattle.uss_law_dss.proofs.History.{has_numbered, last_has}
use Rattle.uss_law_dss.proofs.Ovns.{ovns_differ}
use Rattle.uss_law_dss.proofs.EachEffect.{effect}
use Rattle.uss_law_dss.proofs.EachOrderly.{step_orderly, one_landing}
use Rattle.uss_event.specs.declared.entries.Trial.{Trial}
use Rattle.uss_law_book.specs.Lists.{openings, trials}
use Rattle.uss_law_book.specs.Contents.{is_closed, owns, holding, holdings_of, has_ended}
use Rattle.uss_law_book.specs.Attempts.{Attempted, attempt_of, extents_of, put_of, recorded_as, held}
use Rattle.uss_law_book.proofs.Finds.{none_filtered, find_found}
use Rattle.uss_law_book.proofs.Kept.{open_parts, held_closes, opening_has}
use Rattle.uss_law_book.proofs.EachOrderly.{owned, legal_is_orderly}
use Rattle.uss_law_dss.proofs.Lists.{any_true}
use Rattle.uss_intent.specs.Identifiers.{flight_number}
use Rattle.uss_intent.specs.Numbers.{is_one_of}
use Rattle.uss_law_world.proofs.Replies.{one_recorded}
use Rattle.uss_law_world.specs.World.{Supplier, World, supplier_in, book_in, book_of, name_of, start}
use Rattle.uss_law_world.specs.World.Post.{Called}
use Rattle.uss_law_world.specs.Moves.{Move, run}
use Rattle.uss_law_world.specs.Free.{AreSuppliers, IsFree}
use Rattle.uss_law_world.specs.Claims.{tag_in, EachIsIntended, IsMade, EachPairIsMade, Forbidden, NoneForbidden, IsClearAtLanding, LandingsAreClear, IsLandingOf, landings_of, is_request, EachAtMostOnce, FinalAnswersAreTrue, RefusalsAreSettled, OpenLandingsStay, OpenLandingsAreGot, BooksAgree}
use Rattle.uss_law_world.proofs.Books.{legal_facts}
use Rattle.uss_law_world.proofs.Facts.{IsPairLanded, Facts}
use Rattle.uss_law_world.proofs.Acts.{held_made}
use Rattle.uss_law_world.proofs.Parts.{stands, attempt_manager, one_attempt, intent_is, intended, is_record, base_tag}
use Rattle.uss_law_world.proofs.Clear.{stands_clear}
use Rattle.uss_law_world.proofs.Jobs.{one_of_job, held_or_recorded, flight_is}
use Rattle.uss_law_world.proofs.Calls.{is_tried, put_out, keyed, before, fields}
use Rattle.uss_law_world.proofs.Between.{books_agree}
use Rattle.uss_law_world.proofs.Runs.{reached_facts, run_append}
use Rattle.uss_law_world.proofs.Answers.{run_says, said_is_true}

nothing_held : (flight : ℕ) (p : OperationalIntent) → held flight [] ≡ Some p → ⊥
unfolding held holding holdings_of has_ended
nothing_held flight p h = cc

-- of a numbered history, what two items can't both be is at most one
at_most_one : (p : Landing → Bool) (n : ℕ) (ls : List Landing) → AreNumbered n ls → n + length ls < 10 ^ 16
    → ((l m : Landing) → Has ls l → Has ls m → p l ≡ true → p m ≡ true → l ≡ m) → length (filter p ls) ≤ 1
at_most_one p n [] a r f = omega arith
at_most_one p n (l ∷ ls) a r f = go (p l) refl (at_most_one p (n + 1) ls a.1 (omega (arith, r)) (λ x y h k. f x y (inr h) (inr k)))
  where
    later : p l ≡ true → (m : Landing) → Has ls m → p m ≡ false
    later e m h = at (p m) refl
      where
        at : (b : Bool) → p m ≡ b → b ≡ false
        at false g = refl
        at true g =
            let k = has_numbered (n + 1) ls m a.1 h in
            let same : l ≡ m = f l m (inl refl) (inr h) e g in
            let o : ovn_of (n + 1) ≡ ovn_of k.0 = sym a.0 ∙ (ap (λ (z : Landing). z.ovn) same ∙ k.1) in
            let q = k.2 in
            let q' = k.3 in
            let x : n + 1 ≡ k.0 = ovns_differ (n + 1) k.0 (omega (arith, r)) (omega (arith, r, q')) o in
            absurd (omega (arith, x, q))

    go : (b : Bool) → p l ≡ b → length (filter p ls) ≤ 1 → length (filter p (l ∷ ls)) ≤ 1
    go false e rest = rw e rest
    go true e rest = let none = none_filtered p ls (later e) in rw (e, none) (omega arith)

module _ (table : List ℕ) (owners : List Owner) (w : World) (names : AreSuppliers table owners) (j : Facts table owners w) where
  -- each has one intent, and no two are forbidden
  pub each_is_intended : EachIsIntended w
  each_is_intended =
      record {
        some = λ r h. (let f = j.recorded r h in (f.attempt, intended table owners w names j r f, is_record table owners w names j r h f));
        one = λ r a b h x y. (let f = j.recorded r h in sym (intent_is table owners w names j r a f x) ∙ intent_is table owners w names j r b f y);
      }

  pub none_forbidden : NoneForbidden table w
  none_forbidden r q a b h k x y f =
      let p = j.apart r q h k in
      let e : p.first.attempt ≡ a = intent_is table owners w names j r a p.first x in
      let g : p.second.attempt ≡ b = intent_is table owners w names j q b p.second y in
      p.apart (subst (λ (z : Attempted). Forbidden table z p.second.attempt) (sym e) (subst (Forbidden table a) (sym g) f))

  -- the landings of a job are those that are told so
  pub landing_is_of : (s job : ℕ) (l : Landing) → Has (landings_of s job w) l ↔ IsLandingOf w s job l
  unfolding owns
  landing_is_of s job l =
      let test : Landing → Bool = λ l. same_text l.manager (name_of s w) && owns job l.tag (book_of s w) in (
        λ h. (let b = both (same_text l.manager (name_of s w)) (owns job l.tag (book_of s w)) (has_passed test w.service.landings l h) in
            let t = owned (book_of s w) job l.tag b.1 in
            record { there = has_filter test w.service.landings l h; manager = same_bytes l.manager (name_of s w) b.0; trial = t.0; tried = t.1; job_is = t.2; tag = t.3 }),
        λ a. has_filtered test w.service.landings l a.there (and_true (same_text l.manager (name_of s w)) (owns job l.tag (book_of s w)) (equal_bytes l.manager (name_of s w) a.manager)
            (any_true (λ (t : Trial). (t.job == job) && (t.tag == l.tag)) (trials (book_of s w)) a.trial a.tried
            (and_true (a.trial.job == job) (a.trial.tag == l.tag) (equal_number a.trial.job job a.job_is) (equal_number a.trial.tag l.tag a.tag)))),
      )

  -- a request opened one job, which landed once
  pub each_at_most_once : EachAtMostOnce w
  each_at_most_once =
      record {
        openings = λ s flight number. opened s flight number (supplier_in s w.suppliers) refl;
        landings = λ s job. (
            let few = j.service.few_landings in
            at_most_one (λ l. same_text l.manager (name_of s w) && owns job l.tag (book_of s w)) 0 w.service.landings j.service.numbered (omega (arith, few)) (λ l m h k x y. one s job l m h k x y));
      }
    where
      opened : (s flight number : ℕ) (y : Option Supplier) → supplier_in s w.suppliers ≡ y → length (filter (is_request flight number) (openings (book_of s w))) ≤ 1
      opened s flight number None e = subst (λ (b : List Entry). length (filter (is_request flight number) (openings b)) ≤ 1) (sym (ap book_in e)) (omega arith)
      opened s flight number (Some x) e = let st = stands table owners w j s x e in (legal_facts (book_of s w) st.legal).once flight number

      one : (s job : ℕ) (l m : Landing) → Has w.service.landings l → Has w.service.landings m → (same_text l.manager (name_of s w) && owns job l.tag (book_of s w)) ≡ true
          → (same_text m.manager (name_of s w) && owns job m.tag (book_of s w)) ≡ true → l ≡ m
      one s job l m h k x y =
          let test : Landing → Bool = λ l. same_text l.manager (name_of s w) && owns job l.tag (book_of s w) in
          one_of_job table owners w names j s job l m ((landing_is_of s job l).0 (has_filtered test w.service.landings l h x)) ((landing_is_of s job m).0 (has_filtered test w.service.landings m k y))

  -- a landing is clear
  clear_by_put : (s k : ℕ) (call : DssCall) → (a : Attempted) → (found : attempt_of a.tag (book_of s w) ≡ Some a) → (l : Lands w.service (name_of s w) (put_of a) (service_step w.service (name_of s w) call.ask))
      → (is : service_step w.service (name_of s w) call.ask ≡ after_put w.service (name_of s w) a.flight a.previous (extents_of a) a.state a.base a.ticket)
      → (landed : Reference) (subscribers : List Subscriber) → (service_step w.service (name_of s w) call.ask).0 ≡ Replies.Landed landed subscribers → IsClearAtLanding table w s landed
  clear_by_put s k call a found l is landed subscribers e =
      let out = service_step w.service (name_of s w) call.ask in
      let o = step_orderly w.service (name_of s w) call.ask j.service in
      let r : (after_put w.service (name_of s w) a.flight a.previous (extents_of a) a.state a.base a.ticket).0 ≡ Replies.Landed landed subscribers = ap (λ (z : DssReply × Service). z.0) (sym is) ∙ e in
      let ref = landed_is _ landed _ subscribers r in
      let tag : tag_in landed ≡ a.tag = ap (λ (z : Reference). tag_in z) (sym ref) ∙ base_tag table owners w names j s a.tag a found in
      record {
        attempt = a;
        found = subst (λ z. attempt_of z (book_of s w) ≡ Some a) (sym tag) found;
        flight = ap (λ (z : Reference). z.flight) (sym ref);
        state = ap (λ (z : Reference). z.state) (sym ref);
        clear = stands_clear table owners w names j s a.tag a found (keyed table owners w names j k s call a found out is l o)
            (λ q h. (let f = find_has (λ (z : Recorded). z.reference.flight == a.flight) w.service.references q h in
            let m = j.service.landed q f.0 in
            m.2.ovn ∙ sym (before table owners w names j k s call a found out is l o q f.0 (same_number q.reference.flight a.flight f.1) m.0.ovn m.2.ovn)))
            (λ n. none a.previous refl n);
      }
    where
      landed_is : (x y : Reference) (u v : List Subscriber) → Replies.Landed x u ≡ Replies.Landed y v → x ≡ y
      landed_is x y u v e = cc

      none : (x : Option (List ℕ)) → a.previous ≡ x → recorded_of a.flight w.service ≡ None → x ≡ None
      none None q n = refl
      none (Some p) q n =
          let o = step_orderly w.service (name_of s w) call.ask j.service in
          let f = fields table owners w names j k s call a found (service_step w.service (name_of s w) call.ask) is l o in
          let c = l.changes p (f.1 ∙ q) in
          let z : recorded_of a.flight w.service ≡ Some c.0 = subst (λ n. recorded_of n w.service ≡ Some c.0) f.0 c.1 in
          let y : None ≡ Some c.0 = sym n ∙ z in
          cc

  clear_by : (s : ℕ) (call : DssCall) → Has w.posts (Called s call) → Effect w.service (name_of s w) call.ask (service_step w.service (name_of s w) call.ask) → (landed : Reference) (subscribers : List Subscriber)
      → (service_step w.service (name_of s w) call.ask).0 ≡ Replies.Landed landed subscribers → IsClearAtLanding table w s landed
  clear_by s call h (lands l) landed subscribers e =
      let q = is_tried call.ask l.flight l.ovn l.extents l.key l.state l.base l.ticket w s call.job l.is (j.calls s call h) in
      let a = q.attempt in
      clear_by_put s 0 call a q.found (subst (λ z. Lands w.service (name_of s w) z (service_step w.service (name_of s w) call.ask)) (l.is ∙ q.is) l)
      (l.out_is ∙ put_out w.service (name_of s w) l.flight l.ovn l.extents l.key l.state l.base l.ticket a q.is) landed subscribers e
  clear_by s call h (removes l) landed subscribers e = let x = sym (ap (λ (z : DssReply × Service). z.0) l.out_is) ∙ e in cc
  clear_by s call h (makes_ticket l) landed subscribers e = let x = sym (ap (λ (z : DssReply × Service). z.0) l.out_is) ∙ e in cc
  clear_by s call h (takes_ticket_out l) landed subscribers e = let x = sym (ap (λ (z : DssReply × Service). z.0) l.out_is) ∙ e in cc
  clear_by s call h (stays l) landed subscribers e = absurd (subst TellsNoChange e l.reply)

  pub landings_are_clear : LandingsAreClear table w
  landings_are_clear s call landed subscribers h e = clear_by s call h (effect w.service (name_of s w) call.ask) landed subscribers e

  -- a refusal that unsettles comes where the job has its landing
  pub refusals_are_settled : RefusalsAreSettled w
  refusals_are_settled s answered call refusal h u open_ =
      let o = open_parts (book_of s w) call.job open_ in
      elim ((j.replies s answered call (Replies.Refused refusal) h).settled u) [
        | inl c ↦ not_both (is_closed call.job (book_of s w)) c o.2
        | inr l ↦ elim (held_or_recorded table owners w names j s call.job l.0 l.1) [
          | inl k ↦ absurd (held_closes (book_of s w) k.holding k.entered (subst (λ z. is_closed z (book_of s w) ≡ false) (sym k.job_is) o.2))
          | inr r ↦ record { landing = l.0; of_job = l.1; recorded = r.recorded; there = r.there; ovn = r.ovn_is }
        ]
      ]

  -- a made pair, told by its landing
  pub pair_is_made : (p : OperationalIntent) → IsPairLanded w p → IsMade w p
  pair_is_made p m =
      let f = j.landings m.landing.landing m.landing.landed in
      let manager : m.landing.landing.manager ≡ m.attempt.manager = m.landing.manager ∙ sym (attempt_manager table owners w names j m.s m.attempt.tag m.attempt m.found) in
      let same : f.attempt ≡ m.attempt = one_attempt table owners w names j f.s m.s m.landing.landing.tag m.attempt.tag f.attempt m.attempt f.found m.found (sym f.manager ∙ manager) m.landing.tag_is in
      record {
        supplier = m.s;
        attempt = m.attempt;
        landing = m.landing.landing;
        version = m.version;
        found = m.found;
        landed = m.landing.landed;
        manager = manager;
        flight = f.flight ∙ ap (λ (z : Attempted). z.flight) same;
        tag = m.landing.tag_is;
        rank = m.landing.rank;
        is = m.is ∙ ap (λ o. recorded_as m.attempt o m.version) (sym m.landing.ovn);
      }

  pub each_pair_is_made : EachPairIsMade w
  each_pair_is_made =
      record {
        held = λ s flight p h. held_by s flight p h (supplier_in s w.suppliers) refl;
        heard = λ s p h. pair_is_made p (j.heard s p h);
        said = λ x p h e. pair_is_made p (j.said x p h e);
        served = λ s k call p h. pair_is_made p (j.served s k call p h);
        noted = λ s to job place base note p h e. pair_is_made p (j.notes s to job place base note p h e);
      }
    where
      held_by : (s flight : ℕ) (p : OperationalIntent) → held flight (book_of s w) ≡ Some p → (y : Option Supplier) → supplier_in s w.suppliers ≡ y → IsMade w p
      held_by s flight p h None e = absurd (nothing_held flight p (subst (λ (z : Option Supplier). held flight (book_in z) ≡ Some p) e h))
      held_by s flight p h (Some x) e =
          let st = stands table owners w j s x e in
          pair_is_made p (held_made w s (book_of s w) (legal_is_orderly (book_of s w) st.legal) refl (j.entered s) p (record { flight = flight; is = h }))

  -- while a job is open, its landing stays recorded
  pub open_landings_stay : OpenLandingsStay w
  open_landings_stay s job l open_ a =
      let o = open_parts (book_of s w) job open_ in
      elim (held_or_recorded table owners w names j s job l a) [
        | inl k ↦ absurd (held_closes (book_of s w) k.holding k.entered (subst (λ z. is_closed z (book_of s w) ≡ false) (sym k.job_is) o.2))
        | inr r ↦ (r.recorded, r.there, r.ovn_is)
      ]

  -- and is got
  pub open_landings_are_got : OpenLandingsAreGot w
  open_landings_are_got s job o l open_ opened a =
      let k = open_landings_stay s job l open_ a in
      let r = k.0 in
      let m = j.service.landed r k.1 in
      let i : IsAsLanded m.0 r.reference = m.2 in
      let same : m.0 ≡ l = one_landing w.service j.service m.0 l (last_has r.reference.flight w.service.landings m.0 m.1) a.there (some_same m.0.ovn l.ovn (sym i.ovn ∙ k.2)) in
      let h = opening_has (book_of s w) job o opened in
      let f : r.reference.flight ≡ flight_number s o.ask.flight =
      i.flight ∙ (ap (λ (z : Landing). z.flight) same ∙ flight_is table owners w names j s a.trial l o a.tried a.there a.manager a.tag h.0 (h.1 ∙ sym a.job_is)) in
      let c : r.reference.manager ≡ name_of s w = i.manager ∙ (ap (λ (z : Landing). z.manager) same ∙ a.manager) in
      record {
        reference = r.reference;
        reply = got (flight_number s o.ask.flight) r k.1 f c;
        ovn = k.2;
        tag = sym i.tag ∙ ap (λ (z : Landing). z.tag) same;
      }
    where
      got : (flight : ℕ) (r : Recorded) → Has w.service.references r → r.reference.flight ≡ flight → r.reference.manager ≡ name_of s w
          → (service_step w.service (name_of s w) (Asks.Get flight)).0 ≡ Replies.Got r.reference
      got flight r h e c =
          let x = find_found (λ (z : Recorded). z.reference.flight == flight) w.service.references r h (equal_number r.reference.flight flight e) in
          let y = find_has (λ (z : Recorded). z.reference.flight == flight) w.service.references x.0 x.1 in
          let one : x.0 ≡ r = one_recorded w.service.references x.0 r j.service.references_ascend y.0 h (same_number x.0.reference.flight flight y.1 ∙ sym e) in
          let rec : recorded_of flight w.service ≡ Some r = x.1 ∙ ap Some one in
          let kept : is_one_of flight w.service.retired_flights ≡ false = subst (λ n. is_one_of n w.service.retired_flights ≡ false) e (j.service.flights_stay_retired r h) in
          let own : same_text r.reference.manager (name_of s w) ≡ true = equal_bytes r.reference.manager (name_of s w) c in
          rw (rec, kept, own) refl

-- the claims of every free list of moves
module _ (table : List ℕ) (owners : List Owner) (names : AreSuppliers table owners) (ms : List Move) (free : IsFree (start owners) ms) where
  abbrev w : World
  w = run (start owners) ms

  pub intended_after : EachIsIntended w
  intended_after = each_is_intended table owners w names (reached_facts table owners names ms free)

  pub none_forbidden_after : NoneForbidden table w
  none_forbidden_after = none_forbidden table owners w names (reached_facts table owners names ms free)

  pub once_after : EachAtMostOnce w
  once_after = each_at_most_once table owners w names (reached_facts table owners names ms free)

  pub clear_after : LandingsAreClear table w
  clear_after = landings_are_clear table owners w names (reached_facts table owners names ms free)

  pub settled_after : RefusalsAreSettled w
  settled_after = refusals_are_settled table owners w names (reached_facts table owners names ms free)

  pub made_after : EachPairIsMade w
  made_after = each_pair_is_made table owners w names (reached_facts table owners names ms free)

  pub stay_after : OpenLandingsStay w
  stay_after = open_landings_stay table owners w names (reached_facts table owners names ms free)

  pub got_after : OpenLandingsAreGot w
  got_after = open_landings_are_got table owners w names (reached_facts table owners names ms free)

  pub agree_after : BooksAgree w
  agree_after = books_agree table owners w names (reached_facts table owners names ms free)

  pub true_now : FinalAnswersAreTrue w w
  true_now = said_is_true table owners w names (reached_facts table owners names ms free)

-- and what was said stays true
pub true_ever : (table : List ℕ) (owners : List Owner) → AreSuppliers table owners → (ms more : List Move) → IsFree (start owners) (ms ++ more) → FinalAnswersAreTrue (run (start owners) ms) (run (start owners) (ms ++ more))
true_ever table owners names ms more free x h =
    let e = run_append ms more (start owners) in
    let k : Has (run (start owners) (ms ++ more)).sayings x = subst (λ (z : World). Has z.sayings x) (sym e) (run_says more (run (start owners) ms) x h) in
    said_is_true table owners (run (start owners) (ms ++ more)) names (reached_facts table owners names (ms ++ more) free) x k
