-- What is kept where books and landings grow.
use Rattle.std.proofs.Common.{ℕ, true, List, ◌++◌, ◌≡◌, ◌⊎◌, inl, inr, Option, Some, None, IfSome, refl, ap, sym, subst, ◌∙◌}
use Rattle.std.proofs.lemmas.List.{append_assoc}
use Rattle.uss_intent.specs.declared.records.Recorded.{Recorded}
use Rattle.uss_intent.specs.declared.records.Reference.{Reference}
use Rattle.uss_intent.specs.declared.records.Landing.{Landing}
use Rattle.uss_intent.specs.declared.records.Ticket.{Ticket}
use Rattle.uss_intent.specs.declared.calls.DssAsk.{DssAsk}
use Rattle.uss_intent.specs.declared.calls.DssAsk.TheVariants as Asks
use Rattle.uss_intent.specs.declared.calls.DssReply.{DssReply}
use Rattle.uss_intent.specs.declared.calls.DssReply.TheVariants as Replies
use Rattle.uss_intent.specs.States.{is_strategic}
use Rattle.uss_intent.specs.Numbers.{is_one_of}
use Rattle.uss_event.specs.Pairs.{OperationalIntent}
use Rattle.uss_event.specs.declared.entries.Owner.{Owner}
use Rattle.uss_event.specs.declared.entries.Entry.{Entry}
use Rattle.uss_event.specs.declared.calls.DssCall.{DssCall}
use Rattle.uss_event.specs.declared.calls.PeerCall.{PeerCall}
use Rattle.uss_event.specs.declared.calls.PeerCall.TheVariants as Calls
use Rattle.uss_event.specs.declared.calls.PeerReply.TheVariants as Peers
use Rattle.uss_event.specs.declared.calls.Note.{Note}
use Rattle.uss_event.specs.declared.events.Said.{Said}
use Rattle.uss_event.specs.declared.events.Said.TheVariants as Says
use Rattle.uss_law_dss.specs.Lists.{Has}
use Rattle.uss_law_dss.specs.Service.{Service}
use Rattle.uss_law_dss.specs.Orderly.{IsOrderly}
use Rattle.uss_event.specs.declared.entries.Opening.{Opening}
use Rattle.uss_event.specs.declared.entries.Trial.{Trial}
use Rattle.uss_event.specs.declared.entries.Holding.{Holding}
use Rattle.uss_event.specs.declared.entries.Closing.{Closing}
use Rattle.uss_law_book.specs.Lists.{openings, trials, holdings, endings}
use Rattle.uss_law_book.specs.Contents.{trial_of, is_closed}
use Rattle.uss_law_book.specs.Attempts.{Attempted, attempt_of}
use Rattle.uss_law_book.proofs.Entries.{opening_stays, trial_stays, closed_by_either}
use Rattle.uss_law_book.proofs.Attempts.{attempt_kept, trial_kept}
use Rattle.uss_event.specs.Heard.News.{Heard}
use Rattle.uss_law_world.specs.World.{Supplier, Saying, World, supplier_in, book_of, heard_of, name_of}
use Rattle.uss_law_world.specs.World.Post.{Called, Replied, Asked, Answered}
use Rattle.uss_law_world.specs.Claims.{tag_in, rank_of, IsLandingOf}
use Rattle.uss_law_world.proofs.Books.{holding_stays, ending_stays}
use Rattle.uss_law_world.specs.Invariants.{HasLegalBook, WasDue, ShowsLanding, IsTicketThere, IsTicketThereOrGone, IsTicketMadeOf, IsRemovedOf}
use Rattle.uss_law_world.proofs.Facts.{HasLanding, IsPairLanded, LandingFrom, RecordedFrom, AreApart, NamesHeld, IsEndOf, IsToEnd, CallFrom, ReplyShows, IsClearOfPair, IsEntered, IsStanding, EndingShows, SaidIsKept, Facts}

-- a ticket is there, whatever its index, or was removed
pub record IsStillThere (s : Service) (t : Ticket) : Type 0 where
  pub found : Ticket
  pub there : Has s.tickets found
  pub id : found.id ≡ t.id
  pub manager : found.manager ≡ t.manager

abbrev pub IsTicketKept : Service → Ticket → Type 0
IsTicketKept s t = IsStillThere s t ⊎ (is_one_of t.id s.retired_tickets ≡ true)

-- books and landings grow, and what is retired stays so; no attempt is made for a job that has ended
pub record Grows (w v : World) : Type 0 where
  pub names : (s : ℕ) → name_of s v ≡ name_of s w
  pub books : (s : ℕ) → (more : List Entry) × (book_of s v ≡ book_of s w ++ more)
  pub untried : (s : ℕ) (d : Closing) → Has (endings (book_of s w)) d → (t : Trial) → Has (trials (book_of s v)) t → t.job ≡ d.job → Has (trials (book_of s w)) t
  pub landings : (l : Landing) → Has w.service.landings l → Has v.service.landings l
  pub ranks : (flight : ℕ) (l : Landing) → Has w.service.landings l → rank_of flight l.ovn v.service.landings ≡ rank_of flight l.ovn w.service.landings
  pub flights : (n : ℕ) → is_one_of n w.service.retired_flights ≡ true → is_one_of n v.service.retired_flights ≡ true
  pub tickets : (n : ℕ) → is_one_of n w.service.retired_tickets ≡ true → is_one_of n v.service.retired_tickets ≡ true
  pub there : (t : Ticket) → Has w.service.tickets t → IsTicketKept v.service t

module _ {w v : World} (g : Grows w v) where
  -- what every longer book has
  in_book : (s : ℕ) (P : List Entry → Type 0) → ((more : List Entry) → P (book_of s w ++ more)) → P (book_of s v)
  in_book s P f = let b = g.books s in subst P (sym b.1) (f b.0)

  pub attempt : (s tag : ℕ) (a : Attempted) → attempt_of tag (book_of s w) ≡ Some a → attempt_of tag (book_of s v) ≡ Some a
  attempt s tag a h = in_book s (λ b. attempt_of tag b ≡ Some a) (λ more. attempt_kept (book_of s w) more tag a h)

  pub holding : (s : ℕ) (h : Holding) → Has (holdings (book_of s w)) h → Has (holdings (book_of s v)) h
  holding s h k = in_book s (λ b. Has (holdings b) h) (λ more. holding_stays (book_of s w) more h k)

  pub trial : (s : ℕ) (t : Trial) → Has (trials (book_of s w)) t → Has (trials (book_of s v)) t
  trial s t k = in_book s (λ b. Has (trials b) t) (λ more. trial_stays (book_of s w) more t k)

  pub opening : (s : ℕ) (o : Opening) → Has (openings (book_of s w)) o → Has (openings (book_of s v)) o
  opening s o k = in_book s (λ b. Has (openings b) o) (λ more. opening_stays (book_of s w) more o k)

  ending : (s : ℕ) (d : Closing) → Has (endings (book_of s w)) d → Has (endings (book_of s v)) d
  ending s d k = in_book s (λ b. Has (endings b) d) (λ more. ending_stays (book_of s w) more d k)

  closed : (s job : ℕ) → is_closed job (book_of s w) ≡ true → is_closed job (book_of s v) ≡ true
  closed s job k = in_book s (λ b. is_closed job b ≡ true) (λ more. closed_by_either job (book_of s w) more ∙ rw k refl)

  pub has_landing : (s tag : ℕ) (o : List ℕ) (n : ℕ) → HasLanding w s tag o n → HasLanding v s tag o n
  has_landing s tag o n h =
      record { landing = h.landing; landed = g.landings h.landing h.landed; ovn = h.ovn; manager = h.manager ∙ sym (g.names s); tag_is = h.tag_is; rank = g.ranks h.landing.flight h.landing h.landed ∙ h.rank }

  pub made : (p : OperationalIntent) → IsPairLanded w p → IsPairLanded v p
  made p h =
      record {
        s = h.s;
        attempt = h.attempt;
        ovn = h.ovn;
        version = h.version;
        found = attempt h.s h.attempt.tag h.attempt h.found;
        is = h.is;
        landing = has_landing h.s h.attempt.tag h.ovn h.version h.landing;
      }

  pub landing_from : (l : Landing) → LandingFrom w l → LandingFrom v l
  landing_from l h =
      record {
        s = h.s;
        attempt = h.attempt;
        found = attempt h.s l.tag h.attempt h.found;
        manager = h.manager;
        flight = h.flight;
        previous = h.previous;
        ticket = h.ticket;
      }

  unfoldable pub recorded_from : (r : Recorded) → RecordedFrom w r → RecordedFrom v r
  recorded_from r h =
      record {
        s = h.s;
        attempt = h.attempt;
        found = attempt h.s h.attempt.tag h.attempt h.found;
        flight = h.flight;
        manager = h.manager;
        state = h.state;
        extents = h.extents;
        base = h.base;
        ticket = h.ticket;
      }

  pub are_apart : (table : List ℕ) (r q : Recorded) → AreApart table w r q → AreApart table v r q
  unfolding recorded_from
  are_apart table r q h = record { first = recorded_from r h.first; second = recorded_from q h.second; apart = h.apart }

  pub names_held : (s : ℕ) (o : List ℕ) → NamesHeld w s o → NamesHeld v s o
  names_held s o h = record { holding = h.holding; entered = holding s h.holding h.entered; ovn_is = h.ovn_is }

  pub end_of : (s flight : ℕ) → IsEndOf w s flight → IsEndOf v s flight
  end_of s flight h = record { opening = h.opening; opened = opening s h.opening h.opened; end = h.end; flight_is = h.flight_is }

  pub to_end : (flight : ℕ) → IsToEnd w flight → IsToEnd v flight
  to_end flight h = record { s = h.s; ends = end_of h.s flight h.ends }

  pub call_from : (s job : ℕ) (ask : DssAsk) → CallFrom w s job ask → CallFrom v s job ask
  call_from s job (Asks.Put flight ovn extents key state base ticket) h =
      record { attempt = h.attempt; found = attempt s h.attempt.tag h.attempt h.found; its_job = h.its_job; is = h.is }
  call_from s job (Asks.Remove flight ovn) h = record { names = names_held s ovn h.names; ends = end_of s flight h.ends }
  call_from s job (Asks.TicketRemove ticket version) h = record { opening = h.opening; opened = opening s h.opening h.opened; job_is = h.job_is; ticket_is = h.ticket_is }
  call_from s job _ h = tt

  pub was_due : (s : ℕ) (call : DssCall) → WasDue w s call → WasDue v s call
  was_due s call h =
      let b = g.books s in
      record {
        before = h.before;
        more = h.more ++ b.0;
        book_is = b.1 ∙ (ap (λ l. l ++ b.0) h.book_is ∙ append_assoc h.before h.more b.0);
        owner = h.owner;
        owns_book = h.owns_book;
        number = h.number;
        records = h.records;
        tickets = h.tickets;
        ticket_removals = h.ticket_removals;
      }

  landing_of : (s job : ℕ) (l : Landing) → IsLandingOf w s job l → IsLandingOf v s job l
  landing_of s job l h =
      record { there = g.landings l h.there; manager = h.manager ∙ sym (g.names s); trial = h.trial; tried = trial s h.trial h.tried; job_is = h.job_is; tag = h.tag }

  pub shows : (s : ℕ) (r : Reference) → ShowsLanding w s r → ShowsLanding v s r
  shows s r h = λ o e. (let k = h o e in record {
    landing = k.landing;
    landed = g.landings k.landing k.landed;
    ovn_is = k.ovn_is;
    manager = k.manager ∙ sym (g.names s);
    flight = k.flight;
    tag = k.tag;
    version = g.ranks k.landing.flight k.landing k.landed ∙ k.version;
    attempt = k.attempt;
    found = attempt s (tag_in r) k.attempt k.found;
    is = k.is;
  })

  there_still : (s ticket : ℕ) → IsTicketThere w s ticket → IsTicketThereOrGone v s ticket
  there_still s ticket h = elim (g.there h.found h.there) [
    | inl k ↦ inl (record { found = k.found; there = k.there; id = k.id ∙ h.id; manager = k.manager ∙ (h.manager ∙ sym (g.names s)) })
    | inr k ↦ inr (subst (λ n. is_one_of n v.service.retired_tickets ≡ true) h.id k)
  ]

  pub there_or_gone : (s ticket : ℕ) → IsTicketThereOrGone w s ticket → IsTicketThereOrGone v s ticket
  there_or_gone s ticket (inl h) = there_still s ticket h
  there_or_gone s ticket (inr h) = inr (g.tickets ticket h)

  pub made_by : (s : ℕ) (ask : DssAsk) → IsTicketMadeOf w s ask → IsTicketMadeOf v s ask
  made_by s (Asks.TicketPut ticket area base) h = there_or_gone s ticket h
  made_by s _ h = tt

  pub removed_of : (ask : DssAsk) → IsRemovedOf w ask → IsRemovedOf v ask
  removed_of (Asks.Query area) h = tt
  removed_of (Asks.Get flight) h = g.flights flight h
  removed_of (Asks.Put flight ovn extents key state base ticket) h = g.flights flight h
  removed_of (Asks.Remove flight ovn) h = g.flights flight h
  removed_of (Asks.TicketPut ticket area base) h = g.tickets ticket h
  removed_of (Asks.TicketGet ticket) h = g.tickets ticket h
  removed_of (Asks.TicketRemove ticket version) h = g.tickets ticket h

  pub reply_shows : (s job : ℕ) (ask : DssAsk) (reply : DssReply) → ReplyShows w s job ask reply → ReplyShows v s job ask reply
  reply_shows s job ask (Replies.Found references) h = λ r i. shows s r (h r i)
  reply_shows s job ask (Replies.Landed r subscribers) h = shows s r h
  reply_shows s job ask (Replies.Got r) h = shows s r h
  reply_shows s job ask (Replies.Removed r subscribers) h = (shows s r h.0, removed_of ask h.1)
  reply_shows s job ask (Replies.TicketMade t) h = made_by s ask h
  reply_shows s job ask (Replies.TicketRemoved t) h = removed_of ask h
  reply_shows s job ask (Replies.Refused refusal) h =
      record {
        there = λ e. made_by s ask (h.there e);
        retired = λ e. removed_of ask (h.retired e);
        missing = λ rs e r i. shows s r (h.missing rs e r i);
        settled = λ e. elim (h.settled e) [ inl c ↦ inl (closed s job c) | inr l ↦ inr (l.0, landing_of s job l.0 l.1) ];
      }
  reply_shows s job ask _ h = tt

  pub clear_ovn : (table : List ℕ) (a : Attempted) (o : List ℕ) → IsClearOfPair table w a o → IsClearOfPair table v a o
  clear_ovn table a o h =
      record {
        pair = h.pair;
        made = made h.pair h.made;
        ovn_is = h.ovn_is;
        previous = h.previous;
        previous_made = each h.previous h.previous_made;
        previous_is = h.previous_is;
        clear = h.clear;
      }
    where
      each : (x : Option OperationalIntent) → IfSome x (IsPairLanded w) → IfSome x (IsPairLanded v)
      each None k = tt
      each (Some p) k = made p k

  pub entered_still : (l : Landing) → IsEntered w l → IsEntered v l
  entered_still l h = record { s = h.s; names = names_held h.s l.ovn h.names }

  pub ending_shows : (s : ℕ) (d : Closing) → Has (endings (book_of s w)) d → EndingShows w s d → EndingShows v s d
  ending_shows s d k h =
      record {
        ends = λ e. (let r = h.ends e in record { opening = r.opening; opened = opening s r.opening r.opened; job_is = r.job_is; end = r.end; retired = g.flights _ r.retired });
        lands_nothing = λ e. elim (h.lands_nothing e) [ inl u ↦ inl (λ t m q. u t (g.untried s d k t m q) q) | inr r ↦ inr (g.tickets _ r) ];
      }

  said_is_kept : (s flight number : ℕ) (said : Said) → SaidIsKept (book_of s w) s flight number said → SaidIsKept (book_of s v) s flight number said
  said_is_kept s flight number (Says.Answer answer) h = λ f. (let k = h f in record {
    opening = k.opening;
    opened = opening s k.opening k.opened;
    flight_is = k.flight_is;
    number_is = k.number_is;
    keeps = elim k.keeps [
      | inl x ↦ inl (record {
        holding = x.holding;
        trial = x.trial;
        entered = holding s x.holding x.entered;
        job = x.job;
        tried = in_book s (λ b. trial_of x.holding.tag b ≡ Some x.trial) (λ more. trial_kept (book_of s w) more x.holding.tag x.trial x.tried);
        is = x.is;
      })
      | inr x ↦ inr (record { closing = x.closing; entered = ending s x.closing x.entered; job = x.job; is = x.is })
    ];
  })
  said_is_kept s flight number _ h = tt

  pub saying_kept : (x : Saying) → SaidIsKept (book_of x.supplier w) x.supplier x.flight x.number x.said → SaidIsKept (book_of x.supplier v) x.supplier x.flight x.number x.said
  saying_kept x h = said_is_kept x.supplier x.flight x.number x.said h

-- what is new in a world, each with what is claimed of it
pub record News (table : List ℕ) (owners : List Owner) (w v : World) : Type 0 where
  pub grows : Grows w v
  pub service : IsOrderly v.service
  pub suppliers : (s : ℕ) (x : Supplier) → supplier_in s v.suppliers ≡ Some x → HasLegalBook owners x
  pub calls : (s : ℕ) (call : DssCall) → Has v.posts (Called s call) → Has w.posts (Called s call) ⊎ CallFrom v s call.job call.ask
  pub due : (s : ℕ) (call : DssCall) → Has v.posts (Called s call) → Has w.posts (Called s call) ⊎ WasDue v s call
  pub replies : (s k : ℕ) (call : DssCall) (reply : DssReply) → Has v.posts (Replied s k call reply) → Has w.posts (Replied s k call reply) ⊎ ReplyShows v s call.job call.ask reply
  pub said : (x : Saying) (p : OperationalIntent) → Has v.sayings x → x.said ≡ Says.Pair (Some p) → Has w.sayings x ⊎ IsPairLanded v p
  pub served : (s k : ℕ) (call : PeerCall) (p : OperationalIntent) → Has v.posts (Answered s k call (Peers.Served p)) → Has w.posts (Answered s k call (Peers.Served p)) ⊎ IsPairLanded v p
  pub notes : (s : ℕ) (to : Option ℕ) (job index : ℕ) (base : List ℕ) (note : Note) (p : OperationalIntent) → Has v.posts (Asked s to (Calls.Notify job index base note)) → note.pair ≡ Some p
      → Has w.posts (Asked s to (Calls.Notify job index base note)) ⊎ IsPairLanded v p
  pub heard : (s : ℕ) (p : OperationalIntent) → Has (heard_of s v) (Heard p) → Has (heard_of s w) (Heard p) ⊎ IsPairLanded v p
  pub entered : (s : ℕ) (h : Holding) → Has (holdings (book_of s v)) h → Has (holdings (book_of s w)) h ⊎ HasLanding v s h.tag h.ovn h.version
  pub keys : (s tag : ℕ) (a : Attempted) → attempt_of tag (book_of s v) ≡ Some a
      → (attempt_of tag (book_of s w) ≡ Some a) ⊎ (is_strategic a.state ≡ true → (o : List ℕ) → Has a.key o → IsClearOfPair table v a o)
  pub landings : (l : Landing) → Has v.service.landings l → Has w.service.landings l ⊎ LandingFrom v l
  pub recorded : (r : Recorded) → Has v.service.references r → Has w.service.references r ⊎ RecordedFrom v r
  pub apart : (r q : Recorded) → Has v.service.references r → Has v.service.references q → (Has w.service.references r × Has w.service.references q) ⊎ AreApart table v r q
  pub standing : (l : Landing) → Has v.service.landings l → IsStanding v l
  pub retired : (n : ℕ) → is_one_of n v.service.retired_flights ≡ true → (is_one_of n w.service.retired_flights ≡ true) ⊎ IsToEnd v n
  pub closed : (s : ℕ) (d : Closing) → Has (endings (book_of s v)) d → Has (endings (book_of s w)) d ⊎ EndingShows v s d
  pub sayings : (x : Saying) → Has v.sayings x → Has w.sayings x ⊎ SaidIsKept (book_of x.supplier v) x.supplier x.flight x.number x.said

pub kept : (table : List ℕ) (owners : List Owner) (w v : World) → News table owners w v → Facts table owners w → Facts table owners v
kept table owners w v n j =
    let g = n.grows in
    record {
      service = n.service;
      suppliers = n.suppliers;
      calls = λ s call h. elim (n.calls s call h) [ inl old ↦ call_from g s call.job call.ask (j.calls s call old) | inr new ↦ new ];
      due = λ s call h. elim (n.due s call h) [ inl old ↦ was_due g s call (j.due s call old) | inr new ↦ new ];
      replies = λ s k call reply h. elim (n.replies s k call reply h) [ inl old ↦ reply_shows g s call.job call.ask reply (j.replies s k call reply old) | inr new ↦ new ];
      said = λ x p h e. elim (n.said x p h e) [ inl old ↦ made g p (j.said x p old e) | inr new ↦ new ];
      served = λ s k call p h. elim (n.served s k call p h) [ inl old ↦ made g p (j.served s k call p old) | inr new ↦ new ];
      notes = λ s to job place base note p h e. elim (n.notes s to job place base note p h e) [ inl old ↦ made g p (j.notes s to job place base note p old e) | inr new ↦ new ];
      heard = λ s p h. elim (n.heard s p h) [ inl old ↦ made g p (j.heard s p old) | inr new ↦ new ];
      entered = λ s h k. elim (n.entered s h k) [ inl old ↦ has_landing g s h.tag h.ovn h.version (j.entered s h old) | inr new ↦ new ];
      keys = λ s tag a h k o i. elim (n.keys s tag a h) [ inl old ↦ clear_ovn g table a o (j.keys s tag a old k o i) | inr new ↦ new k o i ];
      landings = λ l h. elim (n.landings l h) [ inl old ↦ landing_from g l (j.landings l old) | inr new ↦ new ];
      recorded = λ r h. elim (n.recorded r h) [ inl old ↦ recorded_from g r (j.recorded r old) | inr new ↦ new ];
      apart = λ r q h i. elim (n.apart r q h i) [ inl old ↦ are_apart g table r q (j.apart r q old.0 old.1) | inr new ↦ new ];
      standing = n.standing;
      retired = λ m h. elim (n.retired m h) [ inl old ↦ to_end g m (j.retired m old) | inr new ↦ new ];
      closed = λ s d h. elim (n.closed s d h) [ inl old ↦ ending_shows g s d old (j.closed s d old) | inr new ↦ new ];
      sayings = λ x h. elim (n.sayings x h) [ inl old ↦ saying_kept g x (j.sayings x old) | inr new ↦ new ];
    }
