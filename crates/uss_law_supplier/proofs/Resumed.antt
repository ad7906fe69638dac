-- A resumed job does what its table says.
use Rattle.std.proofs.Common.{ℕ, pos, Bool, true, false, cond, nat_lt, [], ◌∷◌, ◌++◌, ◌≡◌, inl, inr, refl, ap, sym, subst, Option, Some, None}
use Rattle.std.specs.Option.{option_and_then}
use Rattle.uss_intent.specs.declared.calls.DssAsk.{DssAsk}
use Rattle.uss_event.specs.declared.entries.Entry.{Entry}
use Rattle.uss_event.specs.declared.calls.Outgoing.{Outgoing}
use Rattle.uss_event.specs.declared.calls.Outgoing.TheVariants as Goes
use Rattle.uss_event.specs.declared.events.Event.{Event}
use Rattle.uss_event.specs.declared.events.Event.TheVariants as Comes
use Rattle.uss_event.specs.declared.entries.Opening.{Opening}
use Rattle.uss_law_book.proofs.Kept.{opening_has}
use Rattle.uss_law_supplier.specs.declared.duties.Awaited.{Awaited}
use Rattle.uss_law_supplier.specs.declared.duties.Awaited.TheVariants as Waits
use Rattle.uss_law_supplier.specs.declared.duties.JobView.{JobView}
use Rattle.uss_law_supplier.specs.declared.duties.Duty.{Duty}
use Rattle.uss_law_supplier.specs.declared.duties.Duty.TheVariants as Duties
use Rattle.uss_law_supplier.specs.Values.{awaited_of}
use Rattle.uss_law_supplier.specs.Turns.{Standing, Turn, dss_call, entered, with_entry}
use Rattle.uss_law_supplier.specs.Table.{with_ticket, by_book, again_or}
use Rattle.uss_law_supplier.specs.Calls.{kind_of, call_of}
use Rattle.uss_law_supplier.specs.Jobs.{view_of, making, pending, carry_on, resuming_by}
use Rattle.uss_law_supplier.specs.Fitting.{IsAwaited}
use Rattle.uss_law_supplier.specs.Resumed.{MakesCall, MakesAttempt, DoesDuty, JobsResumeByTheTable}
use Rattle.uss_law_supplier.proofs.Onward.{kind_is}
use Rattle.uss_law_supplier.proofs.Good.{IsGood}
use Rattle.uss_law_supplier.proofs.Resuming.{good_going_on}
use Rattle.uss_law_supplier.proofs.Asking.{at_hand}
use Rattle.uss_law_supplier.proofs.Law.{sound_of}

-- what a book may bring: a call of the discovery service, or an attempt
abbrev IsOfBook : Duty → Type 0
IsOfBook (Duties.Call Waits.Details) = ⊥
IsOfBook (Duties.Call kind) = Unit {0}
IsOfBook Duties.Attempt = Unit {0}
IsOfBook _ = ⊥

by_book_is : (v : JobView) → IsOfBook (by_book v)
by_book_is v = at_end v.end
  where
    at_key : (b : Bool) → IsOfBook (with_ticket b)
    at_key true = tt
    at_key false = tt

    at_ticket : (b : Bool) → IsOfBook (cond b (with_ticket v.keyed) (Duties.Call Waits.TicketPut))
    at_ticket true = at_key v.keyed
    at_ticket false = tt

    at_tried : (b : Bool) → IsOfBook (cond b (Duties.Call Waits.Put) (cond v.ticket_open (with_ticket v.keyed) (Duties.Call Waits.TicketPut)))
    at_tried true = tt
    at_tried false = at_ticket v.ticket_open

    at_decided : (b : Bool) → IsOfBook (cond b (Duties.Call Waits.TicketRemove) (cond (nat_lt 0 v.attempts) (Duties.Call Waits.Put) (cond v.ticket_open (with_ticket v.keyed) (Duties.Call Waits.TicketPut))))
    at_decided true = tt
    at_decided false = at_tried (nat_lt 0 v.attempts)

    at_end : (b : Bool) → IsOfBook (cond b (Duties.Call Waits.Remove) (cond v.deciding (Duties.Call Waits.TicketRemove) (cond (nat_lt 0 v.attempts) (Duties.Call Waits.Put) (cond v.ticket_open (with_ticket v.keyed) (Duties.Call Waits.TicketPut)))))
    at_end true = tt
    at_end false = at_decided v.deciding

-- a step of which nobody hears makes a call
abbrev Repeated : Opening → Event
Repeated o = Comes.Ask o.ask

called : (s : Standing) (o : Opening) (kind : Awaited) (x : Option DssAsk) → call_of s.owner s.book o kind ≡ x → IsGood s s.values.heard (pos 0) (Repeated o) (making s o.job x) → MakesCall kind (making s o.job x)
called s o kind None e g = elim (g.goes_on refl) [ inl h ↦ cc | inr h ↦ cc ]
called s o kind (Some ask) e g = record { entry = refl; call = dss_call o.job ask; sends = refl; is_of_kind = kind_is s.owner s.book o kind ask e }

tried : (s : Standing) (o : Opening) (e : Entry) (x : Option DssAsk) → e ≡ pending s o 0 [] → call_of s.owner (s.book ++ e ∷ []) o Waits.Put ≡ x
    → IsGood s s.values.heard (pos 0) (Repeated o) (with_entry e (making (entered s e) o.job x)) → MakesAttempt o.job (with_entry e (making (entered s e) o.job x))
tried s o e None p q g = elim (g.goes_on refl) [ inl h ↦ cc | inr h ↦ cc ]
tried s o e (Some ask) p q g =
    record { tag = _; previous = _; entry = ap Some p; call = dss_call o.job ask; sends = refl; is_of_kind = kind_is s.owner (s.book ++ e ∷ []) o Waits.Put ask q }

does : (s : Standing) (o : Opening) (d : Duty) → IsOfBook d → IsGood s s.values.heard (pos 0) (Repeated o) (carry_on s o d) → DoesDuty o.job d (carry_on s o d)
does s o (Duties.Call Waits.TicketPut) h g = called s o Waits.TicketPut _ refl g
does s o (Duties.Call Waits.Query) h g = called s o Waits.Query _ refl g
does s o (Duties.Call Waits.Details) h g = absurd h
does s o (Duties.Call Waits.Put) h g = called s o Waits.Put _ refl g
does s o (Duties.Call Waits.Get) h g = called s o Waits.Get _ refl g
does s o (Duties.Call Waits.TicketRemove) h g = called s o Waits.TicketRemove _ refl g
does s o (Duties.Call Waits.Remove) h g = called s o Waits.Remove _ refl g
does s o Duties.Attempt h g = tried s o (pending s o 0 []) _ refl refl g
does s o _ h g = absurd h

-- the kind of the call that a job waits for
awaited_kind : (s : Standing) (job : ℕ) (call : Outgoing) → IsAwaited s.owner s.book s.values job call → (kind : Awaited) × (kind_of call ≡ Some kind)
awaited_kind s job (Goes.Dss call) w = (w.kind, w.is_of_kind)
awaited_kind s job (Goes.Peer call) w = (Waits.Details, ap (λ c. kind_of (Goes.Peer c)) w.is)

again : (s : Standing) (o : Opening) (call : Outgoing) (kind : Awaited) (other : Duty) (t : Turn) → kind_of call ≡ Some kind → t.entry ≡ None → t.sends ≡ call ∷ [] → DoesDuty o.job (again_or (kind_of call) other) t
again s o call kind other t e n q =
    subst (λ k. DoesDuty o.job (again_or k other) t) (sym e) (record { entry = n; call = call; sends = q; is_of_kind = e })

pub jobs_resume_by_the_table : JobsResumeByTheTable
unfolding view_of
jobs_resume_by_the_table s o sound opened unclosed = go (awaited_of o.job s.values) refl
  where
    go : (x : Option Outgoing) → awaited_of o.job s.values ≡ x → DoesDuty o.job (again_or (option_and_then kind_of x) (by_book (view_of s o))) (resuming_by s o x)
    go None e =
        let d = sound_of s.owner s.book s.values sound in
        let a = at_hand s o d (opening_has s.book o.job o opened).0 unclosed in
        does s o (by_book (view_of s o)) (by_book_is (view_of s o)) (good_going_on s s.values.heard (pos 0) (Repeated o) o a)
    go (Some call) e =
        let k = awaited_kind s o.job call (sound.fit o.job call e) in
        again s o call k.0 (by_book (view_of s o)) (resuming_by s o (Some call)) k.1 refl refl
