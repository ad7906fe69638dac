-- A step of a supplier that keeps its duties keeps what holds.
use Rattle.std.proofs.Common.{ℕ, ◌≡◌, ◌⊎◌, inl, inr, ◌==◌, Bool, true, false, cond, List, [], ◌∷◌, ◌++◌, refl, ap, sym, subst, ◌∙◌, Option, Some, None, IfSome, is_some, map, unwrap_or}
use Rattle.std.proofs.lemmas.List.{append-nil}
use Rattle.uss_intent.specs.Identifiers.{flight_number, ticket_number}
use Rattle.uss_intent.specs.Tags.{tag_of}
use Rattle.uss_intent.specs.declared.records.Reference.{Reference}
use Rattle.uss_intent.specs.declared.calls.DssAsk.{DssAsk}
use Rattle.uss_intent.specs.declared.calls.DssAsk.TheVariants as Asks
use Rattle.uss_intent.specs.declared.calls.DssReply.{DssReply}
use Rattle.uss_intent.specs.declared.calls.DssReply.TheVariants as Replies
use Rattle.uss_intent.specs.States.{is_strategic}
use Rattle.uss_intent.specs.Numbers.{is_one_of}
use Rattle.uss_event.specs.Pairs.{OperationalIntent}
use Rattle.uss_event.specs.Verdicts.{verdict}
use Rattle.uss_event.specs.declared.rules.Verdict.TheVariants.{Clear}
use Rattle.uss_event.specs.declared.asks.Wish.{Wish}
use Rattle.uss_event.specs.declared.asks.Wish.TheVariants as Wishes
use Rattle.uss_event.specs.declared.entries.Owner.{Owner}
use Rattle.uss_event.specs.declared.entries.Ending.{Ending}
use Rattle.uss_event.specs.declared.entries.Ending.TheVariants as Ends
use Rattle.uss_event.specs.declared.entries.Entry.{Entry}
use Rattle.uss_event.specs.declared.entries.Entry.TheVariants as Enters
use Rattle.uss_event.specs.declared.calls.DssCall.{DssCall}
use Rattle.uss_event.specs.declared.calls.PeerCall.{PeerCall}
use Rattle.uss_event.specs.declared.calls.PeerCall.TheVariants as Calls
use Rattle.uss_event.specs.declared.calls.PeerReply.{PeerReply}
use Rattle.uss_event.specs.declared.calls.PeerReply.TheVariants as Peers
use Rattle.uss_event.specs.declared.calls.Note.{Note}
use Rattle.uss_event.specs.declared.events.Said.TheVariants as Says
use Rattle.uss_event.specs.declared.events.Event.{Event}
use Rattle.uss_event.specs.declared.events.Event.TheVariants as Events
use Rattle.uss_law_dss.specs.Lists.{Has}
use Rattle.uss_law_dss.proofs.Lists.{has_append, has_push, has_map, list_any_has, has_filtered}
use Rattle.uss_law_dss.proofs.Tests.{some_same, same_number, equal_number, either}
use Rattle.uss_event.specs.declared.entries.Opening.{Opening}
use Rattle.uss_event.specs.declared.entries.Trial.{Trial}
use Rattle.uss_event.specs.declared.entries.Holding.{Holding}
use Rattle.uss_event.specs.declared.entries.Closing.{Closing}
use Rattle.uss_law_book.specs.Lists.{owner_of, openings, trials, holdings, endings}
use Rattle.uss_law_book.specs.Contents.{holding, is_held, is_done, is_closed, is_ended, decision_of, trials_of, current_ovn_of}
use Rattle.uss_law_book.specs.Attempts.{Attempted, attempt_of, held, held_by, recorded_as}
use Rattle.uss_law_book.specs.Legal.{IsLegal, IsDue, MayFollow, EndsFlight, EndsWish}
use Rattle.uss_law_book.specs.Orderly.{IsOrderly}
use Rattle.uss_law_book.proofs.Entries.{which_trial, which_holding, which_ending, new_trial}
use Rattle.uss_law_book.proofs.Kept.{opening_has, open_parts, done_closes}
use Rattle.uss_law_book.proofs.Attempts.{parts, owner_kept, attempt_kept, trial_has}
use Rattle.uss_law_book.proofs.Held.{held_of, base_is}
use Rattle.uss_law_book.proofs.EachOrderly.{legal_is_orderly}
use Rattle.uss_event.specs.Heard.{News, brought, by_reply, by_pair}
use Rattle.uss_event.specs.Heard.News.{Heard}
use Rattle.uss_law_duty.specs.Answers.{flight_of}
use Rattle.uss_law_duty.specs.Sends.{MayLose, RecordsAreDue, TicketsAreDue, RemovalsAreDue, IsHeldPair, NotesAreHeld, OfDss, OfPeer, ticket_remove}
use Rattle.uss_law_duty.specs.Entered.{candidate_of, Answers, IsKnown, KeyIsClear, shown_tag, ShowsRecord, HoldsByReply, HeldIsShown, IsRemoved, IsTicketRemoved, EndsByReply, LosesByReply, EndsAs, RemovalIsShown}
use Rattle.uss_law_duty.specs.Sayings.{PairIsHeld}
use Rattle.uss_law_duty.specs.Duties.{book_after, MayStep, Choice, clamped}
use Rattle.uss_law_duty.proofs.Stays.{step_is_legal}
use Rattle.uss_law_world.specs.World.{Supplier, Post, Saying, World, supplier_in, book_in, heard_in, name_in, book_of, heard_of, name_of, post_of}
use Rattle.uss_law_world.specs.World.Post.{Called, Replied, Asked, Answered}
use Rattle.uss_law_world.specs.Moves.{Arrival, answer_to, posts_of, request_named, saying_of, stepped, after_step}
use Rattle.uss_law_world.specs.Free.{AreSuppliers}
use Rattle.uss_law_world.specs.Claims.{tag_in}
use Rattle.uss_law_world.proofs.Books.{based}
use Rattle.uss_law_world.proofs.Lookups.{at_each, same_supplier}
use Rattle.uss_law_world.specs.Invariants.{HasLegalBook, WasDue, ShowsLanding, IsRemovedOf}
use Rattle.uss_law_world.proofs.Answering.{says}
use Rattle.uss_law_world.proofs.Sendings.{sent_call, sent_reply, sent_answer, sent_peer, answered, served_said}
use Rattle.uss_law_world.proofs.Facts.{HasLanding, IsPairLanded, CallFrom, ReplyShows, IsClearOfPair, IsFlightRetired, IsUntried, EndingShows, SaidIsKept, Facts}
use Rattle.uss_law_world.proofs.Grows.{Grows, News as Changes, kept, opening, made, has_landing, entered_still}
use Rattle.uss_law_world.proofs.Parts.{Stands, stands, by_the_wish}

-- the message that brings an event
pub record IsNoted (w : World) (note : Note) : Type 0 where
  pub from : ℕ
  pub to : Option ℕ
  pub job : ℕ
  pub index : ℕ
  pub base : List ℕ
  pub sent : Has w.posts (Asked from to (Calls.Notify job index base note))

abbrev pub Comes : World → ℕ → Event → Type 0
Comes w s (Events.Dss call reply) = (k : ℕ) × Has w.posts (Replied s k call reply)
Comes w s (Events.Peer call reply) = (k : ℕ) × Has w.posts (Answered s k call reply)
Comes w s (Events.Notified client note) = IsNoted w note
Comes w s _ = Unit {0}

-- what a held pair is, of a book whose records landed
pub held_made : (w : World) (s : ℕ) (book : List Entry) → IsOrderly book → book_of s w ≡ book → ((h : Holding) → Has (holdings book) h → HasLanding w s h.tag h.ovn h.version) → (p : OperationalIntent) → IsHeldPair book p → IsPairLanded w p
unfolding held
held_made w s book o e lands p q = go (holding q.flight book) refl
  where
    go : (x : Option Holding) → holding q.flight book ≡ x → IsPairLanded w p
    go None f = let n : None ≡ Some p = sym (ap (held_by book) f) ∙ q.is in cc
    go (Some h) f =
        let k = held_of book q.flight h o f in
        let tag : k.attempt.tag ≡ h.tag = (let x = parts h.tag book k.attempt k.found in (by_the_wish x.owner x.opening x.trial x.opening.ask.wish k.attempt x.is).tag ∙ (trial_has book h.tag x.trial x.has_trial).1) in
        record {
          s = s;
          attempt = k.attempt;
          ovn = h.ovn;
          version = h.version;
          found = subst (λ b. attempt_of k.attempt.tag b ≡ Some k.attempt) (sym e) (subst (λ t. attempt_of t book ≡ Some k.attempt) (sym tag) k.found);
          is = some_same p (recorded_as k.attempt h.ovn h.version) (sym q.is ∙ k.is);
          landing = subst (λ t. HasLanding w s t h.ovn h.version) (sym tag) (lands h k.entered);
        }

module _ (table : List ℕ) (owners : List Owner) (w : World) (names : AreSuppliers table owners) (j : Facts table owners w) (a : Arrival) (c : Choice) (posts : List Post)
    (sub : (p : Post) → Has posts p → Has (posts_of w a c) p)
    (m : MayStep (book_of a.supplier w) (heard_of a.supplier w) (clamped w.moment) a.event c.entry c.sends c.said c.heard)
    (came : Comes w a.supplier a.event) where
  abbrev s : ℕ
  s = a.supplier

  abbrev v : World
  v = after_step w a c posts

  abbrev book : List Entry
  book = book_of s w

  abbrev after : List Entry
  after = book_after book c.entry

  own : (x : Supplier) × Stands owners w s x
  own = go (supplier_in s w.suppliers) refl
    where
      go : (y : Option Supplier) → supplier_in s w.suppliers ≡ y → (x : Supplier) × Stands owners w s x
      go None e = let n : None ≡ Some m.acts.owner = sym (ap (λ z. owner_of (book_in z)) e) ∙ m.acts.owns_book in cc
      go (Some x) e = (x, stands table owners w j s x e)

  abbrev st : Stands owners w s own.0
  st = own.1

  owner_is : m.acts.owner ≡ own.0.owner
  owner_is = some_same m.acts.owner own.0.owner (sym m.acts.owns_book ∙ st.own)

  number_is : m.acts.owner.number ≡ s
  number_is = ap (λ (z : Owner). z.number) owner_is ∙ st.number

  legal_after : IsLegal after
  legal_after = step_is_legal book (heard_of s w) (clamped w.moment) a.event c.entry c.sends c.said c.heard st.legal m

  orderly : IsOrderly book
  orderly = legal_is_orderly book st.legal

  -- what is true of the book and of what was heard after the step, and of every other supplier's, is true of each
  each : (k : ℕ) (P : List Entry → List News → Type 0) → (k ≡ s → P after c.heard) → P (book_of k w) (heard_of k w) → P (book_of k v) (heard_of k v)
  each k P here there =
      at_each s (stepped c) w.suppliers own.0 (λ x. refl) st.is k (λ o. P (book_in o) (heard_in o))
      (λ e. subst (λ b. P (book_after b c.entry) c.heard) st.book_is (here e)) there

  after_is : book_of s v ≡ after
  after_is = ap book_in (same_supplier s (stepped c) w.suppliers own.0 (λ x. refl) st.is) ∙ ap (λ b. book_after b c.entry) (sym st.book_is)

  grows : Grows w v
  grows =
      record {
        names = λ k. at_each s (stepped c) w.suppliers own.0 (λ x. refl) st.is k (λ o. name_in o ≡ name_of k w) (λ e. sym (ap (λ z. name_of z w) e ∙ st.name_is)) refl;
        books = λ k. each k (λ b h. (more : List Entry) × (b ≡ book_of k w ++ more)) (λ e. longer k e) ([], sym (append-nil (book_of k w)));
        untried = λ k. each k (λ b h. (d : Closing) → Has (endings (book_of k w)) d → (t : Trial) → Has (trials b) t → t.job ≡ d.job → Has (trials (book_of k w)) t) (λ e. untried k e) (λ d h t n q. n);
        landings = λ l h. h;
        ranks = λ flight l h. refl;
        flights = λ n h. h;
        tickets = λ n h. h;
        there = λ t h. inl (record { found = t; there = h; id = refl; manager = refl });
      }
    where
      more_of : (entry : Option Entry) → (more : List Entry) × (book_after book entry ≡ book ++ more)
      more_of None = ([], sym (append-nil book))
      more_of (Some e) = (e ∷ [], refl)

      longer : (k : ℕ) → k ≡ s → (more : List Entry) × (after ≡ book_of k w ++ more)
      longer k e = let x = more_of c.entry in (x.0, x.1 ∙ ap (λ z. book_of z w ++ x.0) (sym e))

      untried_by : (entry : Option Entry) → IfSome entry (MayFollow book) → (d : Closing) → Has (endings book) d → (t : Trial) → Has (trials (book_after book entry)) t → t.job ≡ d.job → Has (trials book) t
      untried_by None l d h t n q = n
      untried_by (Some e) l d h t n q = elim (which_trial book (e ∷ []) t n) [
        | inl old ↦ old
        | inr new ↦ (let x = new_trial book e t l.due new in absurd (done_closes book d h (subst (λ z. is_closed z book ≡ false) q x.unclosed)))
      ]

      untried : (k : ℕ) → k ≡ s → (d : Closing) → Has (endings (book_of k w)) d → (t : Trial) → Has (trials after) t → t.job ≡ d.job → Has (trials (book_of k w)) t
      untried k e d h t n q = subst (λ z. Has (trials (book_of z w)) t) (sym e) (untried_by c.entry m.acts.legal d (subst (λ z. Has (endings (book_of z w)) d) e h) t n q)

  -- what the event shows
  came_reply : (job : ℕ) (ask : DssAsk) (reply : DssReply) → Answers a.event job ask reply → ReplyShows w s job ask reply
  came_reply job ask reply h = go a.event h came
    where
      go : (e : Event) → Answers e job ask reply → Comes w s e → ReplyShows w s job ask reply
      go (Events.Dss call given) h k =
          let x : ReplyShows w s call.job call.ask given = j.replies s k.0 call given k.1 in
          subst (λ z. ReplyShows w s job ask z) h.2 (subst (λ z. ReplyShows w s job z given) h.1 (subst (λ z. ReplyShows w s z call.ask given) h.0 x))
      go _ h k = absurd h

  came_news : (p : OperationalIntent) → Has (brought a.event) (Heard p) → IsPairLanded w p
  came_news p h = go a.event h came
    where
      by_note : (flight : ℕ) (x : Option OperationalIntent) → Has (by_pair flight x) (Heard p) → x ≡ Some p
      by_note flight None (inl e) = cc
      by_note flight None (inr n) = absurd n
      by_note flight (Some q) (inl e) = cc
      by_note flight (Some q) (inr n) = absurd n

      by_serving : (call : PeerCall) (reply : PeerReply) → Has (by_reply reply) (Heard p) → (k : ℕ) × Has w.posts (Answered s k call reply) → IsPairLanded w p
      by_serving call (Peers.Served q) (inl e) k = let f : q ≡ p = cc in subst (IsPairLanded w) f (j.served s k.0 call q k.1)
      by_serving call (Peers.Served q) (inr n) k = absurd n
      by_serving call _ h k = absurd h

      go : (e : Event) → Has (brought e) (Heard p) → Comes w s e → IsPairLanded w p
      go (Events.Peer call reply) h k = by_serving call reply h k
      go (Events.Notified client note) h k = j.notes k.from k.to k.job k.index k.base note p k.sent (by_note note.flight note.pair h)
      go _ h k = absurd h

  heard_made : (p : OperationalIntent) → Has (heard_of s w ++ brought a.event) (Heard p) → IsPairLanded w p
  heard_made p h = elim (has_append (heard_of s w) (brought a.event) (Heard p) h) [ inl old ↦ j.heard s p old | inr new ↦ came_news p new ]

  -- what is entered as held
  tag_shown : (r : Reference) (tag : ℕ) (ovn : List ℕ) → shown_tag r ≡ Some tag → r.ovn ≡ Some ovn → tag_in r ≡ tag
  tag_shown r tag ovn e f =
      let x : tag_of r.base ≡ Some tag = sym (go r.ovn f) ∙ e in
      ap (λ (z : Option ℕ). unwrap_or z 0) x
    where
      go : (o : Option (List ℕ)) → o ≡ Some ovn → cond (is_some o) (tag_of r.base) None ≡ tag_of r.base
      go None q = cc
      go (Some z) q = refl

  shows_landing : (job tag : ℕ) (ask : DssAsk) (reply : DssReply) (r : Reference) → ReplyShows w s job ask reply → ShowsRecord m.acts.owner book job tag ask reply r → ShowsLanding w s r
  shows_landing job tag ask (Replies.Landed reference subscribers) r x h = subst (ShowsLanding w s) h.1 x
  shows_landing job tag ask (Replies.Got reference) r x h = subst (ShowsLanding w s) h.1 x
  shows_landing job tag ask _ r x h = absurd h

  held_landing : (job tag : ℕ) (ovn : List ℕ) (version : ℕ) → HoldsByReply m.acts.owner book a.event job tag ovn version → HasLanding w s tag ovn version
  held_landing job tag ovn version h =
      let x = came_reply job h.ask h.reply h.answers in
      let y = shows_landing job tag h.ask h.reply h.reference x h.shows in
      let k = y ovn h.ovn_is in
      let n : HasLanding w s (tag_in h.reference) ovn h.reference.version =
      record { landing = k.landing; landed = k.landed; ovn = k.ovn_is; manager = k.manager; tag_is = k.tag; rank = k.version } in
      subst (λ z. HasLanding w s z ovn version) (tag_shown h.reference tag ovn h.tag_is h.ovn_is) (subst (λ z. HasLanding w s (tag_in h.reference) ovn z) h.version_is n)

  new_held : (e : Entry) → HeldIsShown m.acts.owner book a.event e → (h : Holding) → Has (holdings (e ∷ [])) h → HasLanding w s h.tag h.ovn h.version
  new_held (Enters.Held holding) d h (inl q) = subst (λ (z : Holding). HasLanding w s z.tag z.ovn z.version) q (held_landing holding.job holding.tag holding.ovn holding.version d)
  new_held (Enters.Held holding) d h (inr n) = absurd n
  new_held _ d h n = absurd n

  held_after : (h : Holding) → Has (holdings after) h → Has (holdings book) h ⊎ HasLanding w s h.tag h.ovn h.version
  held_after h k = go c.entry m.acts.held k
    where
      go : (entry : Option Entry) → IfSome entry (HeldIsShown m.acts.owner book a.event) → Has (holdings (book_after book entry)) h → Has (holdings book) h ⊎ HasLanding w s h.tag h.ovn h.version
      go None d k = inl k
      go (Some e) d k = elim (which_holding book (e ∷ []) h k) [ inl old ↦ inl old | inr new ↦ inr (new_held e d h new) ]

  landed_after : (h : Holding) → Has (holdings after) h → HasLanding v s h.tag h.ovn h.version
  landed_after h k = has_landing grows s h.tag h.ovn h.version (elim (held_after h k) [ inl old ↦ j.entered s h old | inr new ↦ new ])

  -- a held pair is made
  pair_after : (p : OperationalIntent) → IsHeldPair after p → IsPairLanded v p
  pair_after p h = held_made v s after (legal_is_orderly after legal_after) after_is landed_after p h

  pair_before : (p : OperationalIntent) → IsHeldPair book p → IsPairLanded w p
  pair_before p h = held_made w s book orderly refl (j.entered s) p h

  -- the calls
  closed_opening : (job : ℕ) → IsOrderly after → is_closed job after ≡ true → (o : Opening) × Has (openings after) o × (o.job ≡ job)
  unfolding is_held is_done
  closed_opening job o h = which (is_held job after) refl
    where
      which : (x : Bool) → is_held job after ≡ x → (p : Opening) × Has (openings after) p × (p.job ≡ job)
      which true e =
          let k = list_any_has (λ (z : Holding). z.job == job) (holdings after) e in
          let p = o.recorded k.0 k.1 in
          (p.0, p.1, p.2 ∙ same_number k.0.job job k.2)
      which false e =
          let k = list_any_has (λ (z : Closing). z.job == job) (endings after) (either (is_held job after) (is_done job after) h e) in
          let p = o.ended k.0 k.1 in
          (p.0, p.1, p.2 ∙ same_number k.0.job job k.2)

  lose_opening : (job : ℕ) → MayLose after job → (o : Opening) × Has (openings after) o × (o.job ≡ job)
  lose_opening job (inl h) = let x = open_parts after job h.0 in let i = opening_has after job x.0 x.1 in (x.0, i.0, i.1)
  lose_opening job (inr h) = closed_opening job (legal_is_orderly after legal_after) h.0

  remove_is : (o : Opening) (flight : ℕ) (ovn x : List ℕ) → Asks.Remove flight ovn ≡ Asks.Remove (flight_of m.acts.owner o) x → ovn ≡ x
  remove_is o flight ovn x e = cc

  remove_flight : (o : Opening) (flight : ℕ) (ovn x : List ℕ) → Asks.Remove flight ovn ≡ Asks.Remove (flight_of m.acts.owner o) x → flight ≡ flight_of m.acts.owner o
  remove_flight o flight ovn x e = cc

  ticket_is : (job ticket version : ℕ) → Asks.TicketRemove ticket version ≡ ticket_remove m.acts.owner job → ticket ≡ ticket_number m.acts.owner.number job
  ticket_is job ticket version e = cc

  call_due : (job : ℕ) (ask : DssAsk) → RecordsAreDue m.acts.owner after job ask → RemovalsAreDue m.acts.owner after job ask → CallFrom v s job ask
  call_due job (Asks.Put flight ovn extents key state base ticket) h k =
      record {
        attempt = h.attempt;
        found = subst (λ b. attempt_of h.attempt.tag b ≡ Some h.attempt) (sym after_is) h.found;
        its_job = h.its_job;
        is = h.is;
      }
  call_due job (Asks.Remove flight ovn) h k =
      let x = based after h.opening.ask.flight h.ovn h.base in
      let i = opening_has after job h.opening h.opened in
      let f : flight ≡ flight_number m.acts.owner.number h.opening.ask.flight = remove_flight h.opening flight ovn h.ovn h.is in
      record {
        names = record { holding = x.0; entered = subst (λ b. Has (holdings b) x.0) (sym after_is) x.1; ovn_is = x.2 ∙ sym (remove_is h.opening flight ovn h.ovn h.is) };
        ends = record {
          opening = h.opening;
          opened = subst (λ b. Has (openings b) h.opening) (sym after_is) i.0;
          end = h.end;
          flight_is = f ∙ ap (λ n. flight_number n h.opening.ask.flight) number_is;
        };
      }
  call_due job (Asks.TicketRemove ticket version) h k =
      let o = lose_opening job k.may in
      record {
        opening = o.0;
        opened = subst (λ b. Has (openings b) o.0) (sym after_is) o.1;
        job_is = o.2;
        ticket_is = ticket_is job ticket version k.is ∙ ap (λ n. ticket_number n job) number_is;
      }
  call_due job _ h k = tt

  new_call : (k : ℕ) (call : DssCall) → Has posts (Called k call) → CallFrom v k call.job call.ask
  new_call k call h = elim (has_append (map (post_of w.suppliers s) c.sends) (answer_to a.asker c.said) (Called k call) (sub (Called k call) h)) [
    | inl sent ↦ (
        let x = has_map (post_of w.suppliers s) c.sends (Called k call) sent in
        let y = sent_call w.suppliers s x.0 k call x.2 in
        let r : RecordsAreDue m.acts.owner after call.job call.ask = subst (OfDss (RecordsAreDue m.acts.owner after)) y.1 (m.acts.records x.0 x.1) in
        let q : RemovalsAreDue m.acts.owner after call.job call.ask = subst (OfDss (RemovalsAreDue m.acts.owner after)) y.1 (m.acts.ticket_removals x.0 x.1) in
        subst (λ z. CallFrom v z call.job call.ask) y.0 (call_due call.job call.ask r q))
    | inr notifying ↦ (let x = answered a.asker c.said (Called k call) notifying in let e = x.3 in cc)
  ]

  owned_after : (entry : Option Entry) → owner_of (book_after book entry) ≡ Some m.acts.owner
  owned_after None = m.acts.owns_book
  owned_after (Some e) = owner_kept book (e ∷ []) m.acts.owner m.acts.owns_book

  new_due : (k : ℕ) (call : DssCall) → Has posts (Called k call) → WasDue v k call
  new_due k call h = elim (has_append (map (post_of w.suppliers s) c.sends) (answer_to a.asker c.said) (Called k call) (sub (Called k call) h)) [
    | inl sent ↦ (
        let x = has_map (post_of w.suppliers s) c.sends (Called k call) sent in
        let y = sent_call w.suppliers s x.0 k call x.2 in
        subst (λ z. WasDue v z call) y.0 (record {
          before = after;
          more = [];
          book_is = after_is ∙ sym (append-nil after);
          owner = m.acts.owner;
          owns_book = owned_after c.entry;
          number = number_is;
          records = subst (OfDss (RecordsAreDue m.acts.owner after)) y.1 (m.acts.records x.0 x.1);
          tickets = subst (OfDss (TicketsAreDue m.acts.owner after)) y.1 (m.acts.ticket_calls x.0 x.1);
          ticket_removals = subst (OfDss (RemovalsAreDue m.acts.owner after)) y.1 (m.acts.ticket_removals x.0 x.1);
        }))
    | inr notifying ↦ (let x = answered a.asker c.said (Called k call) notifying in let e = x.3 in cc)
  ]

  no_reply : {P : Type 0} (k n : ℕ) (call : DssCall) (reply : DssReply) → Has posts (Replied k n call reply) → P
  no_reply k n call reply h = elim (has_append (map (post_of w.suppliers s) c.sends) (answer_to a.asker c.said) (Replied k n call reply) (sub (Replied k n call reply) h)) [
    | inl sent ↦ (let x = has_map (post_of w.suppliers s) c.sends (Replied k n call reply) sent in sent_reply w.suppliers s x.0 k n call reply x.2)
    | inr notifying ↦ (let x = answered a.asker c.said (Replied k n call reply) notifying in let e = x.3 in cc)
  ]

  served_is : (f n k i : ℕ) (call call' : PeerCall) (x y : PeerReply) → Answered f n call x ≡ Answered k i call' y → x ≡ y
  served_is f n k i call call' x y e = cc

  new_served : (k n : ℕ) (call : PeerCall) (p : OperationalIntent) → Has posts (Answered k n call (Peers.Served p)) → IsPairLanded v p
  new_served k n call p h = elim (has_append (map (post_of w.suppliers s) c.sends) (answer_to a.asker c.said) (Answered k n call (Peers.Served p)) (sub (Answered k n call (Peers.Served p)) h)) [
    | inl sent ↦ (let x = has_map (post_of w.suppliers s) c.sends (Answered k n call (Peers.Served p)) sent in sent_answer w.suppliers s x.0 k n call (Peers.Served p) x.2)
    | inr notifying ↦ (
        let x = answered a.asker c.said (Answered k n call (Peers.Served p)) notifying in
        let e : x.1 ≡ Peers.Served p = served_is x.0.from x.0.number k n x.0.call call x.1 (Peers.Served p) x.3 in
        let f : c.said ≡ Says.Pair (Some p) = served_said c.said p (x.2 ∙ ap Some e) in
        let g : PairIsHeld after (Says.Pair (Some p)) = subst (PairIsHeld after) f m.acts.pair in
        pair_after p g)
  ]

  new_said : (x : Saying) (p : OperationalIntent) → saying_of a c after ≡ x → x.said ≡ Says.Pair (Some p) → IsPairLanded v p
  new_said x p f e =
      let g : c.said ≡ Says.Pair (Some p) = ap (λ (z : Saying). z.said) f ∙ e in
      let h : PairIsHeld after (Says.Pair (Some p)) = subst (PairIsHeld after) g m.acts.pair in
      pair_after p h

  new_note : (k : ℕ) (to : Option ℕ) (job index : ℕ) (base : List ℕ) (note : Note) (p : OperationalIntent) → Has posts (Asked k to (Calls.Notify job index base note)) → note.pair ≡ Some p → IsPairLanded v p
  new_note k to job index base note p h e = elim (has_append (map (post_of w.suppliers s) c.sends) (answer_to a.asker c.said) (Asked k to (Calls.Notify job index base note)) (sub (Asked k to (Calls.Notify job index base note)) h)) [
    | inl sent ↦ (
        let x = has_map (post_of w.suppliers s) c.sends (Asked k to (Calls.Notify job index base note)) sent in
        let y = sent_peer w.suppliers s x.0 k to (Calls.Notify job index base note) x.2 in
        let r : IfSome note.pair (IsHeldPair after) = subst (OfPeer (NotesAreHeld after)) y.1 (m.acts.notes x.0 x.1) in
        let q : IsHeldPair after p = subst (λ (z : Option OperationalIntent). IfSome z (IsHeldPair after)) e r in
        pair_after p q)
    | inr notifying ↦ (let x = answered a.asker c.said (Asked k to (Calls.Notify job index base note)) notifying in let f = x.3 in cc)
  ]

  -- what is heard
  new_heard : (p : OperationalIntent) → Has c.heard (Heard p) → IsPairLanded w p
  new_heard p h = elim m.hears [
    | inl same ↦ j.heard s p (subst (λ z. Has z (Heard p)) same h)
    | inr more ↦ heard_made p (subst (λ z. Has z (Heard p)) more h)
  ]

  -- a new attempt's key is clear
  new_clear : (e : Entry) → KeyIsClear m.acts.owner book (heard_of s w) a.event e → IsDue book e → (t : Trial) → Has (trials (e ∷ [])) t → (tag : ℕ) (x : Attempted) → t.tag ≡ tag → attempt_of tag (book ++ e ∷ []) ≡ Some x
      → x.key ≡ t.key → x.previous ≡ t.previous → is_strategic x.state ≡ true → (o : List ℕ) → Has x.key o → IsClearOfPair table v x o
  new_clear (Enters.Pending trial) k d t (inl q) tag x n f key_is previous_is strategic o h =
      let i : attempt_of trial.tag (book ++ Enters.Pending trial ∷ []) ≡ Some x =
      subst (λ z. attempt_of z (book ++ Enters.Pending trial ∷ []) ≡ Some x) (sym n ∙ ap (λ (z : Trial). z.tag) (sym q)) f in
      let h' : Has trial.key o = subst (λ (z : List (List ℕ)). Has z o) (key_is ∙ ap (λ (z : Trial). z.key) (sym q)) h in
      let y = k x i strategic d.opening d.unfinished.opened o h' in
      let p : x.previous ≡ current_ovn_of d.opening.ask.flight book = previous_is ∙ (ap (λ (z : Trial). z.previous) (sym q) ∙ d.current) in
      let b = base_is book d.opening.ask.flight orderly in
      let tb : m.acts.owner.table ≡ table = ap (λ (z : Owner). z.table) owner_is ∙ names.one_table own.0.owner st.one in
      record {
        pair = y.pair;
        made = made grows y.pair (known y.pair y.known);
        ovn_is = y.ovn_is;
        previous = held d.opening.ask.flight book;
        previous_made = held_before (held d.opening.ask.flight book) d.opening.ask.flight refl;
        previous_is = sym (p ∙ b);
        clear = subst (λ z. verdict z (candidate_of x) y.pair (held d.opening.ask.flight book) ≡ Clear) tb y.clear;
      }
    where
      known : (p : OperationalIntent) → IsKnown book (heard_of s w) a.event p → IsPairLanded w p
      known p (inl z) = heard_made p z
      known p (inr z) = pair_before p z

      held_before : (z : Option OperationalIntent) (flight : ℕ) → held flight book ≡ z → IfSome z (IsPairLanded v)
      held_before None flight e = tt
      held_before (Some p) flight e = made grows p (pair_before p (record { flight = flight; is = e }))
  new_clear (Enters.Pending trial) k d t (inr z) tag x n f key_is previous_is strategic o h = absurd z
  new_clear _ k d t z tag x n f key_is previous_is strategic o h = absurd z

  attempt_after : (tag : ℕ) (x : Attempted) → attempt_of tag after ≡ Some x → (attempt_of tag book ≡ Some x) ⊎ (is_strategic x.state ≡ true → (o : List ℕ) → Has x.key o → IsClearOfPair table v x o)
  attempt_after tag x f = go c.entry m.keys m.acts.legal f
    where
      go : (entry : Option Entry) → IfSome entry (KeyIsClear m.acts.owner book (heard_of s w) a.event) → IfSome entry (MayFollow book) → attempt_of tag (book_after book entry) ≡ Some x
          → (attempt_of tag book ≡ Some x) ⊎ (is_strategic x.state ≡ true → (o : List ℕ) → Has x.key o → IsClearOfPair table v x o)
      go None k l f = inl f
      go (Some e) k l f =
          let p = parts tag (book ++ e ∷ []) x f in
          let t = trial_has (book ++ e ∷ []) tag p.trial p.has_trial in
          let i = by_the_wish p.owner p.opening p.trial p.opening.ask.wish x p.is in
          elim (which_trial book (e ∷ []) p.trial t.0) [
            | inl old ↦ (
                let y = orderly.attempted p.trial old in
                let z : attempt_of tag book ≡ Some y.0 = subst (λ n. attempt_of n book ≡ Some y.0) t.1 y.1 in
                let same : y.0 ≡ x = some_same y.0 x (sym (attempt_kept book (e ∷ []) tag y.0 z) ∙ f) in
                inl (z ∙ ap Some same))
            | inr new ↦ inr (λ strategic o h. new_clear e k l.due p.trial new tag x t.1 f i.key i.previous strategic o h)
          ]

  -- the end of a job
  retired_by : (job : ℕ) (ask : DssAsk) (reply : DssReply) → ReplyShows w s job ask reply → IsRemoved reply → IsRemovedOf w ask
  retired_by job ask (Replies.Removed r subscribers) x h = x.1
  retired_by job ask (Replies.Refused refusal) x h = x.retired h
  retired_by job ask _ x h = absurd h

  ticket_retired_by : (job : ℕ) (ask : DssAsk) (reply : DssReply) → ReplyShows w s job ask reply → IsTicketRemoved reply → IsRemovedOf w ask
  ticket_retired_by job ask (Replies.TicketRemoved t) x h = x
  ticket_retired_by job ask (Replies.Refused refusal) x h = x.retired h
  ticket_retired_by job ask _ x h = absurd h

  end_flight : (job : ℕ) → EndsByReply m.acts.owner book a.event job → IsFlightRetired v s job
  end_flight job h =
      let q = h.its_call in
      let x = retired_by job h.ask h.reply (came_reply job h.ask h.reply h.answers) h.removed in
      let y : is_one_of (flight_number m.acts.owner.number q.opening.ask.flight) w.service.retired_flights ≡ true = subst (IsRemovedOf w) q.is x in
      let i = opening_has book job q.opening q.opened in
      record {
        opening = q.opening;
        opened = opening grows s q.opening i.0;
        job_is = i.1;
        end = q.end;
        retired = subst (λ n. is_one_of (flight_number n q.opening.ask.flight) w.service.retired_flights ≡ true) number_is y;
      }

  lose_ticket : (job : ℕ) → LosesByReply m.acts.owner a.event job → is_one_of (ticket_number s job) w.service.retired_tickets ≡ true
  lose_ticket job h =
      let ask = ticket_remove m.acts.owner job in
      let x : is_one_of (ticket_number m.acts.owner.number job) w.service.retired_tickets ≡ true = ticket_retired_by job ask h.reply (came_reply job ask h.reply h.answers) h.removed in
      subst (λ n. is_one_of (ticket_number n job) w.service.retired_tickets ≡ true) number_is x

  ends_or_not : {P : Type 0} (end : Ending) → EndsFlight end → is_ended end ≡ false → P
  ends_or_not (Ends.Conflict flight manager rule) h e = absurd h
  ends_or_not (Ends.Stale missing) h e = absurd h
  ends_or_not Ends.Cancelled h e = absurd h
  ends_or_not (Ends.Ended owed) h e = cc

  lands_nothing : (job : ℕ) (end : Ending) (wish : Wish) → EndsWish book job end wish → EndsAs m.acts.owner book a.event job end → is_ended end ≡ false
      → IsUntried (book ++ Enters.Done (record { job = job; end = end }) ∷ []) job ⊎ (is_one_of (ticket_number s job) w.service.retired_tickets ≡ true)
  unfolding trials_of
  lands_nothing job end (Wishes.Put to priority rounds proposals) (inl decided) r e =
      let some : is_some (decision_of job book) ≡ true = ap is_some decided in
      inr (lose_ticket job (r.1 some))
  lands_nothing job end (Wishes.Put to priority rounds proposals) (inr u) r e = inl (λ t h q. elim (which_trial book (Enters.Done (record { job = job; end = end }) ∷ []) t h) [
    | inl old ↦ (let k : Has (trials_of job book) t = has_filtered (λ (z : Trial). z.job == job) (trials book) t old (equal_number t.job job q) in subst (λ (l : List Trial). Has l t) u.0 k)
    | inr new ↦ new
  ])
  lands_nothing job end Wishes.End h r e = ends_or_not end h e

  pub record EndShows (entry : Entry) (d : Closing) : Type 0 where
    pub ends : is_ended d.end ≡ true → IsFlightRetired v s d.job
    pub nothing : is_ended d.end ≡ false → IsUntried (book ++ entry ∷ []) d.job ⊎ (is_one_of (ticket_number s d.job) w.service.retired_tickets ≡ true)

  end_shows : (e : Entry) → RemovalIsShown m.acts.owner book a.event e → MayFollow book e → (d : Closing) → Has (endings (e ∷ [])) d → EndShows e d
  end_shows (Enters.Done ending) r l d (inl q) =
      subst (EndShows (Enters.Done ending)) q (record { ends = λ e. end_flight ending.job (r.0 e); nothing = λ e. lands_nothing ending.job ending.end l.due.opening.ask.wish l.due.wish r e })
  end_shows (Enters.Done ending) r l d (inr n) = absurd n
  end_shows _ r l d h = absurd h

  ending_after : (d : Closing) → Has (endings after) d → Has (endings book) d ⊎ EndingShows v s d
  ending_after d h = go c.entry refl m.acts.removals m.acts.legal h
    where
      go : (entry : Option Entry) → c.entry ≡ entry → IfSome entry (RemovalIsShown m.acts.owner book a.event) → IfSome entry (MayFollow book) → Has (endings (book_after book entry)) d → Has (endings book) d ⊎ EndingShows v s d
      go None e r l h = inl h
      go (Some x) e r l h = elim (which_ending book (x ∷ []) d h) [
        | inl old ↦ inl old
        | inr new ↦ (
            let y = end_shows x r l d new in
            let b : book_of s v ≡ book ++ x ∷ [] = after_is ∙ ap (book_after book) e in
            inr (record {
              ends = y.ends;
              lands_nothing = λ z. elim (y.nothing z) [ inl u ↦ inl (subst (λ k. IsUntried k d.job) (sym b) u) | inr g ↦ inr g ];
            }))
      ]

  -- what is said
  new_saying : (x : Saying) → saying_of a c after ≡ x → SaidIsKept (book_of x.supplier v) x.supplier x.flight x.number x.said
  new_saying x e =
      subst (λ (z : Saying). SaidIsKept (book_of z.supplier v) z.supplier z.flight z.number z.said) e
      (subst (λ b. SaidIsKept b s (request_named a.event after).0 (request_named a.event after).1 c.said) (sym after_is) (says m.acts.owner s number_is after a.event c.said m.acts.final))

  sound : (k : ℕ) (x : Supplier) → supplier_in k v.suppliers ≡ Some x → HasLegalBook owners x
  sound k = at_each s (stepped c) w.suppliers own.0 (λ x. refl) st.is k (λ o. (x : Supplier) → o ≡ Some x → HasLegalBook owners x) (λ e x f. here x f) (j.suppliers k)
    where
      own_after : (entry : Option Entry) → owner_of (book_after book entry) ≡ Some own.0.owner
      own_after None = st.own
      own_after (Some e) = owner_kept book (e ∷ []) own.0.owner st.own

      now : HasLegalBook owners (stepped c own.0)
      now =
          record {
            legal = subst (λ b. IsLegal (book_after b c.entry)) st.book_is legal_after;
            own = subst (λ b. owner_of (book_after b c.entry) ≡ Some own.0.owner) st.book_is (own_after c.entry);
            one = st.one;
          }

      here : (x : Supplier) → Some (stepped c own.0) ≡ Some x → HasLegalBook owners x
      here x f = subst (HasLegalBook owners) (some_same (stepped c own.0) x f) now

  act_news : Changes table owners w v
  act_news =
      record {
        grows = grows;
        service = j.service;
        suppliers = sound;
        calls = λ k call h. elim (has_append w.posts posts (Called k call) h) [ inl old ↦ inl old | inr new ↦ inr (new_call k call new) ];
        due = λ k call h. elim (has_append w.posts posts (Called k call) h) [ inl old ↦ inl old | inr new ↦ inr (new_due k call new) ];
        replies = λ k n call reply h. elim (has_append w.posts posts (Replied k n call reply) h) [ inl old ↦ inl old | inr new ↦ no_reply k n call reply new ];
        said = λ x p h e. elim (has_push w.sayings (saying_of a c after) x h) [ inl old ↦ inl old | inr f ↦ inr (new_said x p f e) ];
        served = λ k n call p h. elim (has_append w.posts posts (Answered k n call (Peers.Served p)) h) [ inl old ↦ inl old | inr new ↦ inr (new_served k n call p new) ];
        notes = λ k to job index base note p h e. elim (has_append w.posts posts (Asked k to (Calls.Notify job index base note)) h) [ inl old ↦ inl old | inr new ↦ inr (new_note k to job index base note p new e) ];
        heard = λ k p. each k (λ b h. Has h (Heard p) → Has (heard_of k w) (Heard p) ⊎ IsPairLanded v p) (λ e h. inr (made grows p (new_heard p h))) (λ h. inl h);
        entered = λ k h. each k (λ b z. Has (holdings b) h → Has (holdings (book_of k w)) h ⊎ HasLanding v k h.tag h.ovn h.version) (λ e i. inr (subst (λ z. HasLanding v z h.tag h.ovn h.version) (sym e) (landed_after h i))) (λ i. inl i);
        keys = λ k tag x. each k (λ b z. attempt_of tag b ≡ Some x → (attempt_of tag (book_of k w) ≡ Some x) ⊎ (is_strategic x.state ≡ true → (o : List ℕ) → Has x.key o → IsClearOfPair table v x o)) (λ e f. keys_at k tag x e f) (λ f. inl f);
        landings = λ l h. inl h;
        recorded = λ r h. inl h;
        apart = λ r q h i. inl (h, i);
        standing = λ l h. elim (j.standing l h) [ inl e ↦ inl (entered_still grows l e) | inr r ↦ inr (record { recorded = r.recorded; there = r.there; ovn_is = r.ovn_is }) ];
        retired = λ n h. inl h;
        closed = λ k d. each k (λ b z. Has (endings b) d → Has (endings (book_of k w)) d ⊎ EndingShows v k d) (λ e h. ending_at k d e h) (λ h. inl h);
        sayings = λ x h. elim (has_push w.sayings (saying_of a c after) x h) [ inl old ↦ inl old | inr e ↦ inr (new_saying x e) ];
      }
    where
      keys_at : (k tag : ℕ) (x : Attempted) → k ≡ s → attempt_of tag after ≡ Some x → (attempt_of tag (book_of k w) ≡ Some x) ⊎ (is_strategic x.state ≡ true → (o : List ℕ) → Has x.key o → IsClearOfPair table v x o)
      keys_at k tag x e f = elim (attempt_after tag x f) [ inl old ↦ inl (subst (λ z. attempt_of tag (book_of z w) ≡ Some x) (sym e) old) | inr new ↦ inr new ]

      ending_at : (k : ℕ) (d : Closing) → k ≡ s → Has (endings after) d → Has (endings (book_of k w)) d ⊎ EndingShows v k d
      ending_at k d e h = elim (ending_after d h) [ inl old ↦ inl (subst (λ z. Has (endings (book_of z w)) d) (sym e) old) | inr new ↦ inr (subst (λ z. EndingShows v z d) (sym e) new) ]

  pub act_facts : Facts table owners v
  act_facts = kept table owners w v act_news j
