-- A step in its parts: what its entry rests on, and what goes on from the book with the entry.
use Rattle.std.proofs.Common.{ℕ, ℤ, ◌≢◌, true, List, [], ◌∷◌, ◌++◌, ◌≡◌, ◌⊎◌, inl, inr, length, refl, sym, subst, ◌∙◌, Option, Some, None, IfSome}
use Rattle.uss_event.specs.declared.entries.Owner.{Owner}
use Rattle.uss_event.specs.declared.entries.Entry.{Entry}
use Rattle.uss_event.specs.declared.calls.Outgoing.{Outgoing}
use Rattle.uss_event.specs.declared.calls.Outgoing.TheVariants as Goes
use Rattle.uss_event.specs.declared.events.Said.{Said}
use Rattle.uss_event.specs.declared.events.Event.{Event}
use Rattle.uss_law_dss.specs.Lists.{Has}
use Rattle.uss_event.specs.declared.entries.Opening.{Opening}
use Rattle.uss_law_book.specs.Lists.{owner_of, openings}
use Rattle.uss_law_book.specs.Reserve.{ReserveCovers}
use Rattle.uss_law_book.specs.Legal.{MayFollow, IsLegal}
use Rattle.uss_law_book.specs.Orderly.{IsOrderly}
use Rattle.uss_event.specs.Heard.{News}
use Rattle.uss_law_duty.specs.Duties.{book_after, HearsOnly, GoesOn, MayStep, says_something}
use Rattle.uss_law_duty.specs.Entered.{KeyIsClear, HeldIsShown, RemovalIsShown, TicketIsShown}
use Rattle.uss_law_duty.specs.Sayings.{PairIsHeld, FinalIsKept, SayingHasCause}
use Rattle.uss_law_duty.specs.Sends.{OfDss, OfPeer, RecordsAreDue, TicketsAreDue, RemovalsAreDue, NotesAreHeld}
use Rattle.uss_law_supplier.specs.declared.duties.Awaited.{Awaited}
use Rattle.uss_law_supplier.specs.declared.duties.Awaited.TheVariants as Waits
use Rattle.uss_law_supplier.specs.Values.{Values, awaiting, without_job, with_progress}
use Rattle.uss_law_supplier.specs.Turns.{Standing, Turn, saying, calling, dss_call, entered, entering}
use Rattle.uss_law_supplier.specs.Jobs.{making, asking}
use Rattle.uss_law_supplier.specs.Typed.{IsHeard}
use Rattle.uss_law_supplier.specs.Fitting.{IsPhase, IsAwaited, IsFit}
use Rattle.uss_law_book.proofs.Known.{Known}
use Rattle.uss_law_supplier.proofs.Waits.{awaiting_own, awaiting_other, without_own, other_without}
use Rattle.uss_law_supplier.proofs.Onward as Onward
use Rattle.uss_law_supplier.proofs.Onward.{IsDssDue, IsOpenJob, call_is_some, call_is_due, kind_is}
use Rattle.uss_law_supplier.proofs.Fits.{IsFitBut, all_fit}

-- the supplier stands on a legal book of its own, and what it keeps beside the book fits
pub record Sound (s : Standing) : Type 0 where
  pub owned : owner_of s.book ≡ Some s.owner
  pub legal : IsLegal s.book
  pub orderly : IsOrderly s.book
  pub known : Known s.book
  pub room : ReserveCovers s.book
  pub fit : IsFit s.owner s.book s.values
  pub heard : IsHeard s.values.heard

-- what an entry rests on
pub record IsEntryDue (owner : Owner) (book : List Entry) (heard : List News) (event : Event) (e : Entry) : Type 0 where
  pub follows : MayFollow book e
  pub keys : KeyIsClear owner book heard event e
  pub held : HeldIsShown owner book event e
  pub removals : RemovalIsShown owner book event e
  pub tickets : TicketIsShown owner book event e

-- what is sent, said and kept by a book
pub record IsOnward (owner : Owner) (book : List Entry) (event : Event) (heard : List News) (t : Turn) : Type 0 where
  pub sends : (x : Outgoing) → Has t.sends x → Onward.IsDue owner book x
  pub pair : PairIsHeld book t.said
  pub final : FinalIsKept owner book event t.said
  pub fit : IsFit owner book t.values
  pub heard_is : t.values.heard ≡ heard
  pub goes : (says_something t.said ≡ true) ⊎ (length t.sends ≡ 1)

-- the whole of a step
pub record IsGood (s : Standing) (heard : List News) (moment : ℤ) (event : Event) (t : Turn) : Type 0 where
  pub entry : IfSome t.entry (IsEntryDue s.owner s.book heard event)
  pub sends : (x : Outgoing) → Has t.sends x → Onward.IsDue s.owner (book_after s.book t.entry) x
  pub pair : PairIsHeld (book_after s.book t.entry) t.said
  pub final : FinalIsKept s.owner (book_after s.book t.entry) event t.said
  pub fit : IsFit s.owner (book_after s.book t.entry) t.values
  pub heard_is : t.values.heard ≡ s.values.heard
  pub cause : SayingHasCause s.owner s.book moment event t.said
  pub goes_on : GoesOn event s.book t.sends t.said

due_records : (owner : Owner) (book : List Entry) (x : Outgoing) → Onward.IsDue owner book x → OfDss (RecordsAreDue owner book) x
due_records owner book (Goes.Dss call) d = d.records
due_records owner book (Goes.Peer call) d = tt

due_tickets : (owner : Owner) (book : List Entry) (x : Outgoing) → Onward.IsDue owner book x → OfDss (TicketsAreDue owner book) x
due_tickets owner book (Goes.Dss call) d = d.tickets
due_tickets owner book (Goes.Peer call) d = tt

due_removals : (owner : Owner) (book : List Entry) (x : Outgoing) → Onward.IsDue owner book x → OfDss (RemovalsAreDue owner book) x
due_removals owner book (Goes.Dss call) d = d.removals
due_removals owner book (Goes.Peer call) d = tt

due_notes : (owner : Owner) (book : List Entry) (x : Outgoing) → Onward.IsDue owner book x → OfPeer (NotesAreHeld book) x
due_notes owner book (Goes.Dss call) d = tt
due_notes owner book (Goes.Peer call) d = d

each : {P Q : Entry → Type 0} (e : Option Entry) → ((x : Entry) → P x → Q x) → IfSome e P → IfSome e Q
each None f h = tt
each (Some x) f h = f x h

-- a good step is one that the duties allow
pub may_step : (s : Standing) (heard : List News) (moment : ℤ) (event : Event) (t : Turn) → Sound s → HearsOnly heard event s.values.heard → IsGood s heard moment event t
    → MayStep s.book heard moment event t.entry t.sends t.said t.values.heard
may_step s heard moment event t sound hears g =
    let after = book_after s.book t.entry in
    record {
      acts =
          record {
            owner = s.owner;
            owns_book = sound.owned;
            records = λ x h. due_records s.owner after x (g.sends x h);
            pair = g.pair;
            notes = λ x h. due_notes s.owner after x (g.sends x h);
            held = each t.entry (λ e (d : IsEntryDue s.owner s.book heard event e). d.held) g.entry;
            removals = each t.entry (λ e (d : IsEntryDue s.owner s.book heard event e). d.removals) g.entry;
            tickets = each t.entry (λ e (d : IsEntryDue s.owner s.book heard event e). d.tickets) g.entry;
            ticket_calls = λ x h. due_tickets s.owner after x (g.sends x h);
            ticket_removals = λ x h. due_removals s.owner after x (g.sends x h);
            legal = each t.entry (λ e (d : IsEntryDue s.owner s.book heard event e). d.follows) g.entry;
            final = g.final;
            cause = g.cause;
            goes_on = g.goes_on;
          };
      keys = each t.entry (λ e (d : IsEntryDue s.owner s.book heard event e). d.keys) g.entry;
      hears = subst (HearsOnly heard event) (sym g.heard_is) hears;
    }

-- an entry and what goes on from it
pub good_entering : (s : Standing) (heard : List News) (moment : ℤ) (event : Event) (e : Entry) (next : Standing → Turn) → IsEntryDue s.owner s.book heard event e
    → IsOnward s.owner (s.book ++ e ∷ []) event s.values.heard (next (entered s e)) → SayingHasCause s.owner s.book moment event (next (entered s e)).said
    → IsGood s heard moment event (entering s e next)
good_entering s heard moment event e next d o c =
    record { entry = d; sends = o.sends; pair = o.pair; final = o.final; fit = o.fit; heard_is = o.heard_is; cause = c; goes_on = λ p. o.goes }

-- no entry
pub good_onward : (s : Standing) (heard : List News) (moment : ℤ) (event : Event) (values : Values) (sends : List Outgoing) (said : Said)
    → IsOnward s.owner s.book event s.values.heard (record { entry = None; sends = sends; said = said; values = values }) → SayingHasCause s.owner s.book moment event said
    → IsGood s heard moment event (record { entry = None; sends = sends; said = said; values = values })
good_onward s heard moment event values sends said o c =
    record { entry = tt; sends = o.sends; pair = o.pair; final = o.final; fit = o.fit; heard_is = o.heard_is; cause = c; goes_on = λ p. o.goes }

pub none_sent : (P : Outgoing → Type 0) (x : Outgoing) → Has [] x → P x
none_sent P x h = absurd h

pub one_sent : (P : Outgoing → Type 0) (y x : Outgoing) → P y → Has (y ∷ []) x → P x
one_sent P y x p (inl e) = subst P e p
one_sent P y x p (inr n) = absurd n

heard_of_awaiting : (job : ℕ) (call : Outgoing) (v : Values) → (awaiting job call v).heard ≡ v.heard
unfolding with_progress
heard_of_awaiting job call v = refl

heard_of_without : (job : ℕ) (v : Values) → (without_job job v).heard ≡ v.heard
unfolding without_job
heard_of_without job v = refl

-- a job makes a call and waits for it
pub onward_calling : (owner : Owner) (book : List Entry) (event : Event) (job : ℕ) (call : Outgoing) (values : Values) → IsFitBut owner book values job → Onward.IsDue owner book call
    → IsAwaited owner book (awaiting job call values) job call → IsOnward owner book event values.heard (calling job call values)
onward_calling owner book event job call values f d a =
    record {
      sends = λ x h. one_sent (Onward.IsDue owner book) call x d h;
      pair = tt;
      final = tt;
      fit = all_fit owner book values (awaiting job call values) job f (λ i n. awaiting_other i job call values n)
          (λ c e. subst (IsAwaited owner book (awaiting job call values) job) (Onward.some_same_call call c (sym (awaiting_own job call values) ∙ e)) a);
      heard_is = heard_of_awaiting job call values;
      goes = inr refl;
    }

-- and of the discovery service, in the phase for it
pub onward_asking : (s : Standing) (event : Event) (o : Opening) (kind : Awaited) → IsOrderly s.book → Known s.book → Has (openings s.book) o → IsOpenJob s.book o → IsPhase s.book o kind → kind ≢ Waits.Details
    → IsFitBut s.owner s.book s.values o.job → IsOnward s.owner s.book event s.values.heard (asking s o kind)
onward_asking s event o kind orderly known h i p n f =
    let c = call_is_some s.owner s.book o kind orderly known h i p n in
    subst (λ x. IsOnward s.owner s.book event s.values.heard (making s o.job x)) (sym c.1)
    (onward_calling s.owner s.book event o.job (dss_call o.job c.0) s.values f (call_is_due s.owner s.book o kind c.0 orderly known i p c.1)
    (record { opening = o; opened = i.opened; unclosed = i.unclosed; its_job = refl; kind = kind; is_of_kind = kind_is s.owner s.book o kind c.0 c.1; is = c.1; phase = p }))

-- a job waits for nothing any more
pub fit_without : (owner : Owner) (book : List Entry) (values : Values) (job : ℕ) → IsFitBut owner book values job → IsFit owner book (without_job job values)
fit_without owner book values job f =
    all_fit owner book values (without_job job values) job f (λ i n. other_without i job values n) (λ c e. absurd (Onward.none_some c (sym (without_own job values) ∙ e)))

pub onward_saying : (owner : Owner) (book : List Entry) (event : Event) (job : ℕ) (values : Values) (said : Said) → IsFitBut owner book values job → PairIsHeld book said → FinalIsKept owner book event said
    → says_something said ≡ true → IsOnward owner book event values.heard (saying (without_job job values) said)
onward_saying owner book event job values said f p k h =
    record { sends = none_sent (Onward.IsDue owner book); pair = p; final = k; fit = fit_without owner book values job f; heard_is = heard_of_without job values; goes = inl h }
