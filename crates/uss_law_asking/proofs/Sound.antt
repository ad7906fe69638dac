-- That a supplier stays sound along an exchange, and that nobody is left without an answer or a next call.
use Rattle.std.proofs.Common.{ℕ, ℤ, ◌+◌, ◌≤◌, ◌≡◌, ◌⊎◌, inl, inr, Bool, true, false, not, ◌&&◌, List, [], ◌∷◌, length, max, refl, ap, sym, subst, ◌∙◌, Some}
use Rattle.uss_event.specs.declared.entries.Entry.{Entry}
use Rattle.uss_event.specs.declared.calls.Outgoing.{Outgoing}
use Rattle.uss_event.specs.declared.events.Event.{Event}
use Rattle.uss_event.specs.declared.events.Event.TheVariants as Comes
use Rattle.uss_event.specs.declared.entries.Opening.{Opening}
use Rattle.uss_law_book.specs.Contents.{opening_of, open_job_of, is_closed}
use Rattle.uss_law_duty.specs.Duties.{says_something, clamped, is_ticket_remove, is_notify, is_awaited, is_prompting, MayStep}
use Rattle.uss_law_supplier.specs.Turns.{Standing, Turn}
use Rattle.uss_law_book.specs.Contents.{rounds_of}
use Rattle.uss_law_supplier.specs.Typed.{IsEvent}
use Rattle.uss_law_supplier.specs.Laws.{IsSound}
use Rattle.uss_law_supplier.proofs.Law.{steps_keep_duties, steps_stay_sound}
use Rattle.uss_law_asking.specs.Exchange.{Exchanged, is_operators, call_in, event_in, turn_of, stands_then, IsBegun, last_turn, AllFit, AllTyped, most_found, found_before, ExchangesGoOn}
use Rattle.uss_law_asking.specs.Exchange.Exchanged.{OfDss, OfPeer}
use Rattle.uss_law_asking.proofs.Budget.{cost, IsWaiting, IsWithin}
use Rattle.uss_law_asking.proofs.Bounded.{steps, first_call, first_fits, first_few}
use Rattle.uss_law_asking.proofs.First.{FirstStep, first_step}
use Rattle.uss_law_asking.proofs.Outcomes.{refuses_none, steady_none, most}

-- the supplier is sound where it stands
abbrev pub IsSoundAt : Standing → Type 0
IsSoundAt s = IsSound s.owner s.book s.values

-- the call that a job makes is waited for by it
pub waits_for : (n : ℕ) (s : Standing) (o : Opening) (t : Turn) (call : Outgoing) (b : ℕ) → IsWithin n s o t b → t.sends ≡ call ∷ [] → (c : ℕ) × IsWaiting n (stands_then s t) o call c
waits_for n s o t call b (inl e) q = let w : [] ≡ call ∷ [] = sym e ∙ q in cc (w)
waits_for n s o t call b (inr (x, c, e, w, l)) q = (c, subst (λ z. IsWaiting n (stands_then s t) o z c) (first_call x call (sym e ∙ q)) w)

-- somebody waits for what comes of the reply to an open job

awaited_so : (job : ℕ) (chore : Bool) (book : List Entry) (o : Opening) → opening_of job book ≡ Some o → is_closed job book ≡ false → is_awaited job chore book ≡ true
awaited_so job chore book o e u = rw (e, u) (go chore)
  where
    go : (b : Bool) → not (b && false) ≡ true
    go true = refl
    go false = refl

pub prompts_so : (n : ℕ) (s : Standing) (o : Opening) (x : Exchanged) (b : ℕ) → IsWaiting n s o (call_in x) b → is_prompting (event_in x) s.book ≡ true
prompts_so n s o (OfDss call reply) b w =
    ap (λ j. is_awaited j (is_ticket_remove call.ask) s.book) w.its_job ∙ awaited_so o.job (is_ticket_remove call.ask) s.book o w.unfinished.opened w.unfinished.unclosed
prompts_so n s o (OfPeer call reply) b w =
    ap (λ j. is_awaited j (is_notify call) s.book) w.its_job ∙ awaited_so o.job (is_notify call) s.book o w.unfinished.opened w.unfinished.unclosed

pub operators_prompt : (event : Event) (book : List Entry) → is_operators event ≡ true → is_prompting event book ≡ true
operators_prompt (Comes.Ask ask) book h = refl
operators_prompt (Comes.Cancel flight number) book h = refl
operators_prompt (Comes.Position p) book h = refl
operators_prompt _ book h = cc

pub sound_then : (s : Standing) (moment : ℤ) (event : Event) → IsSoundAt s → IsEvent event → IsSoundAt (stands_then s (turn_of s moment event))
sound_then s moment event sound typed = steps_stay_sound s.owner s.book s.values moment event sound typed

pub may_step : (s : Standing) (moment : ℤ) (event : Event) → IsSoundAt s → IsEvent event
    → MayStep s.book s.values.heard (clamped moment) event (turn_of s moment event).entry (turn_of s moment event).sends (turn_of s moment event).said (turn_of s moment event).values.heard
may_step s moment event sound typed = steps_keep_duties s.owner s.book s.values moment event sound typed

-- after a reply
on_from : (n : ℕ) (s : Standing) (moment : ℤ) (o : Opening) (x : Exchanged) (xs : List Exchanged) (b : ℕ) → IsSoundAt s → IsWaiting n s o (call_in x) b → IsBegun s moment (event_in x) xs → AllFit (x ∷ xs) → AllTyped (x ∷ xs)
    → most_found (x ∷ xs) ≤ n → (says_something (last_turn s moment (event_in x) xs).said ≡ true) ⊎ (length (last_turn s moment (event_in x) xs).sends ≡ 1)
on_from n s moment o x [] b sound w begun fit typed few = (may_step s moment (event_in x) sound typed.0).acts.goes_on (prompts_so n s o x b w)
on_from n s moment o x (y ∷ ys) b sound w begun fit typed few =
    let f = first_fits x (y ∷ ys) fit in
    let g = first_few n x (y ∷ ys) few in
    let v = waits_for n s o (turn_of s moment (event_in x)) (call_in y) b (steps n s moment o x b w f.0 g.0) begun.1 in
    on_from n (stands_then s (turn_of s moment (event_in x))) moment o y ys v.0 (sound_then s moment (event_in x) sound typed.0) v.1 begun.2 f.1 typed.1 g.1

pub exchanges_go_on : ExchangesGoOn
exchanges_go_on s moment event [] operators sound typed begun fit all = (may_step s moment event sound typed).acts.goes_on (operators_prompt event s.book operators)
exchanges_go_on s moment event (x ∷ xs) operators sound typed begun fit all = go (first_step s (clamped moment) event operators sound)
  where
    go : FirstStep s (clamped moment) event (turn_of s moment event) → (says_something (last_turn s moment event (x ∷ xs)).said ≡ true) ⊎ (length (last_turn s moment event (x ∷ xs)).sends ≡ 1)
    go (inl (inl (r, e, q))) = refuses_none s r (turn_of s moment event) q begun.0
    go (inr (e, f, a, q, n)) = steady_none f (turn_of s moment event).said q begun.0
    go (inl (inr (e, o, p, j))) =
        let found = found_before s.values (open_job_of o.ask.flight s.book) in
        let n = max found (most_found (x ∷ xs)) in
        let m = most found (most_found (x ∷ xs)) in
        let w = waits_for n s o (turn_of s moment event) (call_in x) (5 + cost (rounds_of o.ask.wish) n) (j.within n m.0) begun.1 in
        on_from n (stands_then s (turn_of s moment event)) moment o x xs w.0 (sound_then s moment event sound typed) w.1 begun.2 fit all m.1
