-- A job asks for its own flight only once it has its landing, and gets it while it is open.
use Rattle.std.proofs.Common.{ℕ, ◌≡◌, ◌⊎◌, ◌==◌, ◌&&◌, Bool, true, false, List, [], ◌∷◌, ◌++◌, map, inl, inr, refl, ap, sym, subst, ◌∙◌, Option, Some, None, unwrap_or, if◌then◌else◌}
use Rattle.std.proofs.lemmas.List.{append-nil}
use Rattle.uss_intent.specs.Identifiers.{flight_number}
use Rattle.uss_intent.specs.declared.records.Reference.{Reference}
use Rattle.uss_intent.specs.declared.records.Landing.{Landing}
use Rattle.uss_intent.specs.declared.calls.DssAsk.{DssAsk}
use Rattle.uss_intent.specs.declared.calls.DssAsk.TheVariants as Asks
use Rattle.uss_intent.specs.declared.calls.DssReply.{DssReply}
use Rattle.uss_intent.specs.declared.calls.DssReply.TheVariants as Replies
use Rattle.uss_event.specs.declared.entries.Owner.{Owner}
use Rattle.uss_event.specs.declared.entries.Entry.{Entry}
use Rattle.uss_event.specs.declared.calls.DssCall.{DssCall}
use Rattle.uss_event.specs.declared.calls.PeerCall.{PeerCall}
use Rattle.uss_event.specs.declared.calls.PeerReply.{PeerReply}
use Rattle.uss_event.specs.declared.calls.Outgoing.{Outgoing}
use Rattle.uss_event.specs.declared.calls.Outgoing.TheVariants as Goes
use Rattle.uss_event.specs.declared.events.Answer.TheVariants as Answers
use Rattle.uss_event.specs.declared.events.Said.{Said}
use Rattle.uss_event.specs.declared.events.Said.TheVariants as Says
use Rattle.uss_event.specs.declared.events.Event.{Event}
use Rattle.uss_event.specs.declared.events.Event.TheVariants as Comes
use Rattle.uss_law_dss.specs.Lists.{Has}
use Rattle.uss_law_dss.specs.Service.{Service}
use Rattle.uss_law_dss.specs.Step.{landing_of, service_step}
use Rattle.uss_law_dss.specs.Effects.{Effect}
use Rattle.uss_law_dss.specs.Effects.Effect.{lands, removes, makes_ticket, takes_ticket_out, stays}
use Rattle.uss_law_dss.proofs.Lists.{has_append, has_left, has_map, has_push, any_true}
use Rattle.uss_law_dss.proofs.Tests.{same_number, equal_number, other_number, not_both, and_true}
use Rattle.uss_law_dss.proofs.EachEffect.{effect}
use Rattle.uss_event.specs.declared.entries.Opening.{Opening}
use Rattle.uss_event.specs.declared.entries.Trial.{Trial}
use Rattle.uss_law_book.specs.Lists.{openings, trials}
use Rattle.uss_law_book.specs.Contents.{opening_of, is_closed, is_open, owns}
use Rattle.uss_law_book.proofs.Entries.{opening_stays, trial_stays, closed_by_either}
use Rattle.uss_law_book.proofs.Kept.{opening_has, open_parts}
use Rattle.uss_law_book.proofs.Held.{opening_is_found}
use Rattle.uss_law_book.proofs.EachOrderly.{owned, legal_is_orderly}
use Rattle.uss_law_duty.specs.Answers.{flight_of}
use Rattle.uss_law_duty.specs.Entered.{shown_tag}
use Rattle.uss_law_duty.specs.Sayings.{UnsettledBy, RefusedBy, RefusesWith, SayingHasCause}
use Rattle.uss_law_duty.specs.Duties.{book_after, Choice, clamped}
use Rattle.uss_law_supplier.specs.Values.{Values, no_values, progress_of, awaited_of}
use Rattle.uss_law_supplier.specs.Turns.{Turn}
use Rattle.uss_law_supplier.specs.Fitting.{IsDssAwaited}
use Rattle.uss_law_world.specs.World.{Supplier, Post, Saying, World, supplier_in, book_in, name_in, book_of, name_of, post_of}
use Rattle.uss_law_world.specs.World.Post.{Called, Replied, Answered}
use Rattle.uss_law_world.specs.Moves.{Asker, Arrival, answer_with, answer_to, reply_by, posts_of, saying_of, stepped, restarted, with_supplier, after_step, after_restart, after_call}
use Rattle.uss_law_world.specs.Free.{AreSuppliers}
use Rattle.uss_law_world.specs.Claims.{tag_in, IsLandingOf, HasItsLanding}
use Rattle.uss_law_world.specs.Claims.{IsGot as GivesLanding}
use Rattle.uss_law_world.proofs.Facts.{Facts}
use Rattle.uss_law_world.proofs.Lookups.{at_any, has_found, same_supplier, other_supplier}
use Rattle.uss_law_world.proofs.Jobs.{by_opening}
use Rattle.uss_law_world.proofs.Headline.{refusals_are_settled, open_landings_are_got}
use Rattle.uss_law_exact.specs.Exact.{Exact, choice_by, turn_by, chosen_by, choice_for, keeping, kept_by, kept_for}
use Rattle.uss_law_exact.specs.Laws.{IsSettled}
use Rattle.uss_law_exact.proofs.Fine.{IsFine, IsBrought, IsArrival}
use Rattle.uss_law_exact.proofs.Turning.{allowed, sound_then, before}
use Rattle.uss_law_exact.proofs.Gets.{IsGet, IsGets}
use Rattle.uss_law_exact.proofs.Causes.{Cause, own_call, gets_stepped}

-- names stay, and books and landings grow
pub record Follows (w v : World) : Type 0 where
  pub names : (s : ℕ) → name_of s v ≡ name_of s w
  pub books : (s : ℕ) → (more : List Entry) × (book_of s v ≡ book_of s w ++ more)
  pub landings : (l : Landing) → Has w.service.landings l → Has v.service.landings l

-- the flight is that of a job that has its landing
pub record HasLanded (w : World) (s j f : ℕ) : Type 0 where
  pub opening : Opening
  pub opened : Has (openings (book_of s w)) opening
  pub job_is : opening.job ≡ j
  pub flight_is : f ≡ flight_number s opening.ask.flight
  pub landing : Landing
  pub landed : IsLandingOf w s j landing

-- the reply gives what an attempt of the job recorded
pub record IsOwnGot (w : World) (s job : ℕ) (reply : DssReply) : Type 0 where
  pub reference : Reference
  pub is : reply ≡ Replies.Got reference
  pub own : owns job (unwrap_or (shown_tag reference) 0) (book_of s w) ≡ true

abbrev pub IsGot : World → ℕ → ℕ → DssReply → Type 0
IsGot w s job reply = (is_closed job (book_of s w) ≡ true) ⊎ IsOwnGot w s job reply

pub record Settled (w : World) (kept : ℕ → Values) : Type 0 where
  -- who waits for its own flight has its landing
  pub awaits : (s j : ℕ) (x : Supplier) (call : DssCall) → supplier_in s w.suppliers ≡ Some x → awaited_of j (kept s) ≡ Some (Goes.Dss call)
      → IsGet call.ask → (l : Landing) × IsLandingOf w s j l
  -- and so has who asked for it
  pub calls : (s : ℕ) (call : DssCall) (f : ℕ) → Has w.posts (Called s call) → call.ask ≡ Asks.Get f → HasLanded w s call.job f
  -- who gets it, while its job is open
  pub replies : (s k : ℕ) (call : DssCall) (reply : DssReply) (f : ℕ) → Has w.posts (Replied s k call reply) → call.ask ≡ Asks.Get f
      → IsGot w s call.job reply
  pub sayings : (x : Saying) → Has w.sayings x → IsSettled x.said

-- what stays
owns_by : (book : List Entry) (job tag : ℕ) (t : Trial) → Has (trials book) t → t.job ≡ job → t.tag ≡ tag → owns job tag book ≡ true
unfolding owns
owns_by book job tag t h e g =
    any_true (λ (x : Trial). (x.job == job) && (x.tag == tag)) (trials book) t h (and_true (t.job == job) (t.tag == tag) (equal_number t.job job e) (equal_number t.tag tag g))

module _ {w v : World} (g : Follows w v) where
  in_book : (s : ℕ) (P : List Entry → Type 0) → ((more : List Entry) → P (book_of s w ++ more)) → P (book_of s v)
  in_book s P f = let b = g.books s in subst P (sym b.1) (f b.0)

  landing_then : (s j : ℕ) (l : Landing) → IsLandingOf w s j l → IsLandingOf v s j l
  landing_then s j l h =
      record {
        there = g.landings l h.there;
        manager = h.manager ∙ sym (g.names s);
        trial = h.trial;
        tried = in_book s (λ b. Has (trials b) h.trial) (λ more. trial_stays (book_of s w) more h.trial h.tried);
        job_is = h.job_is;
        tag = h.tag;
      }

  landed_then : (s j f : ℕ) → HasLanded w s j f → HasLanded v s j f
  landed_then s j f h =
      record {
        opening = h.opening;
        opened = in_book s (λ b. Has (openings b) h.opening) (λ more. opening_stays (book_of s w) more h.opening h.opened);
        job_is = h.job_is;
        flight_is = h.flight_is;
        landing = h.landing;
        landed = landing_then s j h.landing h.landed;
      }

  got_then : (s job : ℕ) (reply : DssReply) → IsGot w s job reply → IsGot v s job reply
  got_then s job reply (inl c) = inl (in_book s (λ b. is_closed job b ≡ true) (λ more. closed_by_either job (book_of s w) more ∙ rw c refl))
  got_then s job reply (inr o) =
      let t = owned (book_of s w) job (unwrap_or (shown_tag o.reference) 0) o.own in
      inr (record {
        reference = o.reference;
        is = o.is;
        own = in_book s (λ b. owns job (unwrap_or (shown_tag o.reference) 0) b ≡ true)
            (λ more. owns_by (book_of s w ++ more) job (unwrap_or (shown_tag o.reference) 0) t.0 (trial_stays (book_of s w) more t.0 t.1) t.2 t.3);
      })

-- how worlds follow

more_of : (book : List Entry) (entry : Option Entry) → (more : List Entry) × (book_after book entry ≡ book ++ more)
more_of book None = ([], sym (append-nil book))
more_of book (Some e) = (e ∷ [], refl)

follows_step : (w : World) (a : Arrival) (c : Choice) (posts : List Post) → Follows w (after_step w a c posts)
follows_step w a c posts =
    record {
      names = λ k. at_any a.supplier (stepped c) w.suppliers (λ x. refl) k (λ o. name_in o ≡ name_of k w) (λ x e f. sym (ap name_in f)) refl;
      books = λ k. at_any a.supplier (stepped c) w.suppliers (λ x. refl) k (λ o. (more : List Entry) × (book_in o ≡ book_of k w ++ more)) (λ x e f. longer k x f) ([], sym (append-nil (book_of k w)));
      landings = λ l h. h;
    }
  where
    longer : (k : ℕ) (x : Supplier) → supplier_in k w.suppliers ≡ Some x → (more : List Entry) × (book_after x.book c.entry ≡ book_of k w ++ more)
    longer k x f = let m = more_of x.book c.entry in (m.0, m.1 ∙ ap (λ o. book_in o ++ m.0) (sym f))

follows_restart : (w : World) (s : ℕ) → Follows w (after_restart w s)
follows_restart w s =
    record {
      names = λ k. at_any s restarted w.suppliers (λ x. refl) k (λ o. name_in o ≡ name_of k w) (λ x e f. sym (ap name_in f)) refl;
      books = λ k. at_any s restarted w.suppliers (λ x. refl) k (λ o. (more : List Entry) × (book_in o ≡ book_of k w ++ more))
          (λ x e f. ([], ap book_in (sym f) ∙ sym (append-nil (book_of k w)))) ([], sym (append-nil (book_of k w)));
      landings = λ l h. h;
    }

landings_kept : (s : Service) (client : List ℕ) (ask : DssAsk) (out : DssReply × Service) → Effect s client ask out → (l : Landing)
    → Has s.landings l → Has out.1.landings l
landings_kept s client ask out (lands e) l h =
    subst (λ (z : DssReply × Service). Has z.1.landings l) (sym e.out_is) (has_left s.landings (landing_of s client e.flight e.ovn e.base e.ticket ∷ []) l h)
landings_kept s client ask out (removes e) l h = subst (λ (z : DssReply × Service). Has z.1.landings l) (sym e.out_is) h
landings_kept s client ask out (makes_ticket e) l h = subst (λ (z : DssReply × Service). Has z.1.landings l) (sym e.out_is) h
landings_kept s client ask out (takes_ticket_out e) l h = subst (λ (z : DssReply × Service). Has z.1.landings l) (sym e.out_is) h
landings_kept s client ask out (stays e) l h = subst (λ (z : Service). Has z.landings l) (sym e.same) h

-- which messages a step sends

sent_call : (xs : List Supplier) (s : ℕ) (y : Outgoing) (k : ℕ) (call : DssCall) → post_of xs s y ≡ Called k call → (s ≡ k) × (y ≡ Goes.Dss call)
sent_call xs s (Goes.Dss c) k call e = (cc, cc)
sent_call xs s (Goes.Peer c) k call e = cc

sent_reply : (xs : List Supplier) (s : ℕ) (y : Outgoing) (k n : ℕ) (call : DssCall) (reply : DssReply) → post_of xs s y ≡ Replied k n call reply → ⊥
sent_reply xs s (Goes.Dss c) k n call reply e = cc
sent_reply xs s (Goes.Peer c) k n call reply e = cc

only_answers : (P : Post → Type 0) → ((to answered : ℕ) (call : PeerCall) (reply : PeerReply) → P (Answered to answered call reply))
    → (k : Option Asker) (said : Said) (p : Post) → Has (answer_to k said) p → P p
only_answers P f None said p h = absurd h
only_answers P f (Some k) said p h = go (reply_by said) h
  where
    go : (r : Option PeerReply) → Has (answer_with k r) p → P p
    go None h = absurd h
    go (Some reply) (inl e) = subst P e (f k.from k.number k.call reply)
    go (Some reply) (inr n) = absurd n

abbrev IsNoCall : Post → Type 0
IsNoCall (Called k call) = ⊥
IsNoCall _ = Unit {0}

abbrev IsNoReply : Post → Type 0
IsNoReply (Replied to answered call reply) = ⊥
IsNoReply _ = Unit {0}

get_flight : (f g : ℕ) → Asks.Get f ≡ Asks.Get g → f ≡ g
get_flight f g e = cc

got_same : (r q : Reference) → Replies.Got r ≡ Replies.Got q → r ≡ q
got_same r q e = cc

module _ (table : List ℕ) (owners : List Owner) (names : AreSuppliers table owners) (e : Exact) (j : Facts table owners e.world) (f : IsFine e.world e.kept) (g : Settled e.world e.kept) (a : Arrival)
    (i : IsArrival e.world a) (x : Supplier) (is : supplier_in a.supplier e.world.suppliers ≡ Some x) where
  abbrev s : ℕ
  s = a.supplier

  abbrev w : World
  w = e.world

  abbrev t : Turn
  t = turn_by e a x

  abbrev c : Choice
  c = choice_by t

  abbrev after : List Entry
  after = book_after x.book t.entry

  book_is : book_of s w ≡ x.book
  book_is = ap book_in is

  gets : IsGets (e.kept s) (Cause x.book a.event) t
  gets = gets_stepped (record { owner = x.owner; book = x.book; values = e.kept s }) (clamped w.moment) a.event (before e f a i x is).sound.fit

  cause_landing : (ev : Event) → IsBrought w s ev → (q : ℕ) → Cause x.book ev q → (l : Landing) × IsLandingOf w s q l
  cause_landing (Comes.Dss call reply) b q h =
      let u : is_open call.job (book_of s w) ≡ true = subst (λ z. is_open call.job z ≡ true) (sym book_is) (subst (λ n. is_open n x.book ≡ true) (sym h.its_job) h.unfinished) in
      let r : HasItsLanding w s call.job = refusals_are_settled table owners w names j s b.0 call h.refusal (subst (λ z. Has w.posts (Replied s b.0 call z)) h.is b.1) h.unsettles u in
      (r.landing, subst (λ n. IsLandingOf w s n r.landing) h.its_job r.of_job)
  cause_landing _ b q h = absurd h

  waits_then : (q : ℕ) (call : DssCall) → awaited_of q t.values ≡ Some (Goes.Dss call) → IsGet call.ask → (l : Landing) × IsLandingOf w s q l
  waits_then q call k o = elim (gets.waits q call k o) [ inl old ↦ g.awaits s q x call is old o | inr h ↦ cause_landing a.event i.brought q h ]

  -- a reply for the own flight
  got_own : (call : DssCall) (reply : DssReply) (n f : ℕ) → Has w.posts (Replied s n call reply) → call.ask ≡ Asks.Get f
      → is_open call.job x.book ≡ true → IsOwnGot w s call.job reply
  got_own call reply n f h k u =
      elim (g.replies s n call reply f h k) [
        | inl d ↦ not_both (is_closed call.job x.book) (subst (λ z. is_closed call.job z ≡ true) book_is d) (open_parts x.book call.job u).2
        | inr o ↦ o
      ]

  settled_by : (owner : Owner) (ev : Event) (tag : ℕ) → SayingHasCause owner x.book (clamped w.moment) ev (Says.Answer (Answers.Unsettled tag))
      → IsBrought w s ev → ⊥
  settled_by owner (Comes.Dss call reply) tag h b =
      let u : UnsettledBy owner x.book call reply tag = h in
      let o = got_own call reply b.0 (flight_of owner u.its_call.opening) b.1 u.its_call.is u.unfinished in
      let r : o.reference ≡ u.reference = got_same o.reference u.reference (sym o.is ∙ u.got) in
      let q : unwrap_or (shown_tag o.reference) 0 ≡ tag = ap (λ (z : Reference). unwrap_or (shown_tag z) 0) r ∙ u.shown in
      let own : owns call.job tag x.book ≡ true = subst (λ z. owns call.job tag z ≡ true) book_is (subst (λ z. owns call.job z (book_of s w) ≡ true) q o.own) in
      not_both (owns call.job tag x.book) own u.not_own
  settled_by owner _ tag h b = cc

  pub said_settled : IsSettled t.said
  said_settled = go t.said (allowed e f a i x is).acts.cause
    where
      go : (said : Said) → SayingHasCause (allowed e f a i x is).acts.owner x.book (clamped w.moment) a.event said → IsSettled said
      go (Says.Answer (Answers.Unsettled tag)) h = absurd (settled_by (allowed e f a i x is).acts.owner a.event tag h i.brought)
      go _ h = tt

  pub unrefused : (call : DssCall) (reply : DssReply) (flight number : ℕ) → a.event ≡ Comes.Dss call reply → call.ask ≡ Asks.Get flight
      → t.said ≡ Says.Answer (Answers.DssRefused number) → ⊥
  unrefused call reply flight number q k h =
      let b : IsBrought w s (Comes.Dss call reply) = subst (IsBrought w s) q i.brought in
      let m = subst (λ z. SayingHasCause (allowed e f a i x is).acts.owner x.book (clamped w.moment) z t.said) q (allowed e f a i x is).acts.cause in
      let u : RefusedBy x.book call reply number = subst (SayingHasCause (allowed e f a i x is).acts.owner x.book (clamped w.moment) (Comes.Dss call reply)) h m in
      let o = got_own call reply b.0 flight b.1 k u.unfinished in
      subst (λ z. RefusesWith z number) o.is u.refused

  pub settled_step : (posts : List Post) → ((p : Post) → Has posts p → Has (posts_of w a c) p)
      → Settled (after_step w a c posts) (keeping s t.values e.kept)
  settled_step posts sub =
      record {
        awaits = λ k q y call n h o. at k (k == s) refl q y call n h o;
        calls = λ k call n h o. elim (has_append w.posts posts (Called k call) h) [
          | inl old ↦ landed_then (follows_step w a c posts) k call.job n (g.calls k call n old o)
          | inr new ↦ new_call k call n (sub (Called k call) new) o
        ];
        replies = λ k n call reply q h o. elim (has_append w.posts posts (Replied k n call reply) h) [
          | inl old ↦ got_then (follows_step w a c posts) k call.job reply (g.replies k n call reply q old o)
          | inr new ↦ absurd (no_reply k n call reply (sub (Replied k n call reply) new))
        ];
        sayings = λ y h. elim (has_push w.sayings (saying_of a c (book_after (book_of s w) c.entry)) y h) [ inl old ↦ g.sayings y old | inr q ↦ subst (λ (z : Saying). IsSettled z.said) q said_settled ];
      }
    where
      at : (k : ℕ) (b : Bool) → (k == s) ≡ b → (q : ℕ) (y : Supplier) (call : DssCall)
          → supplier_in k (with_supplier s (stepped c) w.suppliers) ≡ Some y
          → awaited_of q (if b then t.values else e.kept k) ≡ Some (Goes.Dss call) → IsGet call.ask
          → (l : Landing) × IsLandingOf (after_step w a c posts) k q l
      at k true d q y call n h o =
          let l = waits_then q call h o in
          (l.0, landing_then (follows_step w a c posts) k q l.0 (subst (λ z. IsLandingOf w z q l.0) (sym (same_number k s d)) l.1))
      at k false d q y call n h o =
          let l = g.awaits k q y call (sym (other_supplier s k (stepped c) w.suppliers (λ z. refl) (other_number k s d)) ∙ n) h o in
          (l.0, landing_then (follows_step w a c posts) k q l.0 l.1)

      sent_landed : (call : DssCall) (n : ℕ) → Has t.sends (Goes.Dss call) → call.ask ≡ Asks.Get n → HasLanded (after_step w a c posts) s call.job n
      sent_landed call n h o =
          let get : IsGet call.ask = subst IsGet (sym o) refl in
          let aw = gets.sent call h get in
          let l = waits_then call.job call aw get in
          let d : IsDssAwaited x.owner after call.job call = (sound_then e f a i x is).fit call.job (Goes.Dss call) aw in
          let k = own_call x.owner after call.job call d get in
          let m = opening_has after call.job d.opening d.opened in
          let b : book_of s (after_step w a c posts) ≡ after = ap book_in (same_supplier s (stepped c) w.suppliers x (λ z. refl) is) in
          record {
            opening = d.opening;
            opened = subst (λ z. Has (openings z) d.opening) (sym b) m.0;
            job_is = m.1;
            flight_is = get_flight n (flight_of x.owner d.opening) (sym o ∙ k) ∙ ap (λ z. flight_number z d.opening.ask.flight) (has_found s w.suppliers x is).1;
            landing = l.0;
            landed = landing_then (follows_step w a c posts) s call.job l.0 l.1;
          }

      new_call : (k : ℕ) (call : DssCall) (n : ℕ) → Has (posts_of w a c) (Called k call) → call.ask ≡ Asks.Get n
          → HasLanded (after_step w a c posts) k call.job n
      new_call k call n h o = elim (has_append (map (post_of w.suppliers s) c.sends) (answer_to a.asker c.said) (Called k call) h) [
        | inl q ↦ (let m = has_map (post_of w.suppliers s) c.sends (Called k call) q in
            let p = sent_call w.suppliers s m.0 k call m.2 in
            subst (λ z. HasLanded (after_step w a c posts) z call.job n) p.0 (sent_landed call n (subst (λ z. Has t.sends z) p.1 m.1) o))
        | inr q ↦ absurd (only_answers IsNoCall (λ to answered call reply. tt) a.asker c.said (Called k call) q)
      ]

      no_reply : (k n : ℕ) (call : DssCall) (reply : DssReply) → Has (posts_of w a c) (Replied k n call reply) → ⊥
      no_reply k n call reply h = elim (has_append (map (post_of w.suppliers s) c.sends) (answer_to a.asker c.said) (Replied k n call reply) h) [
        | inl q ↦ (let m = has_map (post_of w.suppliers s) c.sends (Replied k n call reply) q in sent_reply w.suppliers s m.0 k n call reply m.2)
        | inr q ↦ only_answers IsNoReply (λ to answered call reply. tt) a.asker c.said (Replied k n call reply) q
      ]

-- whatever comes
pub settled_arrival : (table : List ℕ) (owners : List Owner) → AreSuppliers table owners → (e : Exact) → Facts table owners e.world
    → IsFine e.world e.kept → Settled e.world e.kept → (a : Arrival) → IsArrival e.world a
    → (posts : Choice → List Post) → ((c : Choice) (p : Post) → Has (posts c) p → Has (posts_of e.world a c) p)
    → Settled (after_step e.world a (choice_for e (Some a)) (posts (choice_for e (Some a)))) (kept_for e (Some a))
settled_arrival table owners names e j f g a i posts sub =
    subst (λ y. Settled (after_step e.world a (chosen_by e a y) (posts (chosen_by e a y))) (kept_by e a y)) (sym i.there)
    (settled_step table owners names e j f g a i i.supplier i.there (posts (choice_by (turn_by e a i.supplier))) (sub (choice_by (turn_by e a i.supplier))))

-- a restart
pub nothing_awaited : {P : Type 0} (q : ℕ) (call : DssCall) → awaited_of q no_values ≡ Some (Goes.Dss call) → P
unfolding progress_of
nothing_awaited q call h = cc

pub settled_restart : (w : World) (earlier kept : ℕ → Values) (s : ℕ) → ((k : ℕ) → (k == s) ≡ false → earlier k ≡ kept k) → Settled w earlier
    → Settled (after_restart w s) (keeping s no_values kept)
settled_restart w earlier kept s agree g =
    record {
      awaits = λ k q y call n h o. at k (k == s) refl q y call n h o;
      calls = λ k call n h o. landed_then (follows_restart w s) k call.job n (g.calls k call n h o);
      replies = λ k n call reply q h o. got_then (follows_restart w s) k call.job reply (g.replies k n call reply q h o);
      sayings = g.sayings;
    }
  where
    at : (k : ℕ) (b : Bool) → (k == s) ≡ b → (q : ℕ) (y : Supplier) (call : DssCall) → supplier_in k (with_supplier s restarted w.suppliers) ≡ Some y
        → awaited_of q (if b then no_values else kept k) ≡ Some (Goes.Dss call) → IsGet call.ask
        → (l : Landing) × IsLandingOf (after_restart w s) k q l
    at k true d q y call n h o = nothing_awaited q call h
    at k false d q y call n h o =
        let l = g.awaits k q y call (sym (other_supplier s k restarted w.suppliers (λ z. refl) (other_number k s d)) ∙ n) (ap (awaited_of q) (agree k d) ∙ h) o in
        (l.0, landing_then (follows_restart w s) k q l.0 l.1)

-- the discovery service takes a call

replied_is : (s k s' k' : ℕ) (call call' : DssCall) (reply reply' : DssReply) → Replied s k call reply ≡ Replied s' k' call' reply'
    → (s ≡ s') × (call ≡ call') × (reply ≡ reply')
replied_is s k s' k' call call' reply reply' e = (cc, cc, cc)

shown_is : (r : Reference) (o : List ℕ) → r.ovn ≡ Some o → unwrap_or (shown_tag r) 0 ≡ tag_in r
shown_is r o e = rw e refl

module _ (table : List ℕ) (owners : List Owner) (names : AreSuppliers table owners) (w : World) (kept : ℕ → Values) (k s : ℕ) (call : DssCall) (h : Has w.posts (Called s call)) (j : Facts table owners w) (g : Settled w kept) where
  abbrev out : DssReply × Service
  out = service_step w.service (name_of s w) call.ask

  abbrev v : World
  v = after_call w k s call out

  follows_call : Follows w v
  follows_call =
      record {
        names = λ n. refl;
        books = λ n. ([], sym (append-nil (book_of n w)));
        landings = λ l i. landings_kept w.service (name_of s w) call.ask out (effect w.service (name_of s w) call.ask) l i;
      }

  got_now : (n : ℕ) → call.ask ≡ Asks.Get n → IsGot w s call.job out.0
  got_now n e = go (is_closed call.job (book_of s w)) refl
    where
      l : HasLanded w s call.job n
      l = g.calls s call n h e

      go : (b : Bool) → is_closed call.job (book_of s w) ≡ b → IsGot w s call.job out.0
      go true c = inl c
      go false c =
          let st = by_opening table owners w names j s l.opening l.opened in
          let found : opening_of call.job (book_of s w) ≡ Some l.opening =
          subst (λ z. opening_of z (book_of s w) ≡ Some l.opening) l.job_is (opening_is_found (book_of s w) l.opening (legal_is_orderly (book_of s w) st.1.legal) l.opened) in
          let open_ : is_open call.job (book_of s w) ≡ true = rw (found, c) refl in
          let o : GivesLanding w s (flight_number s l.opening.ask.flight) l.landing = open_landings_are_got table owners w names j s call.job l.opening l.landing open_ found l.landed in
          let ask : call.ask ≡ Asks.Get (flight_number s l.opening.ask.flight) = e ∙ ap Asks.Get l.flight_is in
          inr (record {
            reference = o.reference;
            is = ap (λ z. (service_step w.service (name_of s w) z).0) ask ∙ o.reply;
            own = owns_by (book_of s w) call.job (unwrap_or (shown_tag o.reference) 0) l.landed.trial l.landed.tried l.landed.job_is (l.landed.tag ∙ (sym o.tag ∙ sym (shown_is o.reference l.landing.ovn o.ovn)));
          })

  pub settled_call : Settled v kept
  settled_call =
      record {
        awaits = λ n q y d z i o. (let l = g.awaits n q y d z i o in (l.0, landing_then follows_call n q l.0 l.1));
        calls = λ n d m i o. landed_then follows_call n d.job m (g.calls n d m (old_call n d i) o);
        replies = λ n m d reply q i o. got_then follows_call n d.job reply (each_reply n m d reply q i o);
        sayings = g.sayings;
      }
    where
      old_call : (n : ℕ) (d : DssCall) → Has v.posts (Called n d) → Has w.posts (Called n d)
      old_call n d i = elim (has_push w.posts (Replied s k call out.0) (Called n d) i) [ inl old ↦ old | inr e ↦ absurd (subst IsNoCall e tt) ]

      each_reply : (n m : ℕ) (d : DssCall) (reply : DssReply) (q : ℕ) → Has v.posts (Replied n m d reply) → d.ask ≡ Asks.Get q → IsGot w n d.job reply
      each_reply n m d reply q i o = elim (has_push w.posts (Replied s k call out.0) (Replied n m d reply) i) [
        | inl old ↦ g.replies n m d reply q old o
        | inr e ↦ (let p = replied_is s k n m call d out.0 reply e in
            subst (λ z. IsGot w z d.job reply) p.0 (subst (λ z. IsGot w s d.job z) p.2 (subst (λ (z : DssCall). IsGot w s z.job out.0) p.1 (got_now q (subst (λ (z : DssCall). z.ask ≡ Asks.Get q) (sym p.1) o)))))
      ]
