-- That an ask makes no more calls than its rounds and what is found allow: its first step.
use Rattle.std.proofs.Common.{ℕ, suc, ℤ, ◌+◌, ◌≤◌, ◌<◌, ◌==◌, ◌≡◌, inr, Bool, true, false, cond, nat_lt, List, [], ◌∷◌, ◌++◌, length, refl, ap, sym, subst, ◌∙◌, arith, Option, Some, None, is_some}
use Rattle.std.specs.List.{find}
use Rattle.std.specs.Option.{option_or}
use Rattle.std.proofs.lemmas.List.Folds.{find-append}
use Rattle.uss_event.specs.declared.asks.Wish.{Wish}
use Rattle.uss_event.specs.declared.asks.Wish.TheVariants.{Put, End}
use Rattle.uss_event.specs.declared.asks.FlightAsk.{FlightAsk}
use Rattle.uss_event.specs.declared.entries.Entry.{Entry}
use Rattle.uss_event.specs.declared.entries.Entry.TheVariants as Enters
use Rattle.uss_event.specs.declared.calls.Outgoing.{Outgoing}
use Rattle.uss_event.specs.declared.calls.Outgoing.TheVariants as Goes
use Rattle.uss_law_dss.proofs.Tests.{equal_number, left_false, not_both, not_less, less_is, some_same}
use Rattle.uss_event.specs.declared.entries.Opening.{Opening}
use Rattle.uss_law_book.specs.Lists.{openings}
use Rattle.uss_law_book.specs.Contents.{is_put, opening_of, is_closed, is_ticket_open, decision_of, trials_of, rounds_of}
use Rattle.uss_law_book.specs.Orderly.{IsOrderly}
use Rattle.uss_law_book.proofs.Entries.{openings_append, closed_by_either}
use Rattle.uss_law_book.proofs.Kept.{opening_has}
use Rattle.uss_law_duty.specs.Answers.{job_of_call}
use Rattle.uss_law_supplier.specs.declared.duties.Awaited.{Awaited}
use Rattle.uss_law_supplier.specs.declared.duties.Awaited.TheVariants as Waits
use Rattle.uss_law_supplier.specs.declared.duties.Duty.TheVariants as Duties
use Rattle.uss_law_supplier.specs.Values.{awaited_of, round_of}
use Rattle.uss_law_supplier.specs.Table.{with_ticket}
use Rattle.uss_law_supplier.specs.Calls.{kind_of_call}
use Rattle.uss_law_supplier.specs.Turns.{Standing, Turn, entered, entering, with_entry}
use Rattle.uss_law_supplier.specs.Jobs.{is_end, keeps_key, view_of, asking, carry_on, going_on, resuming_by, resuming}
use Rattle.uss_law_supplier.specs.Asks.{plan_refusal, opening_entry, opening_for}
use Rattle.uss_law_supplier.specs.Fitting.{IsPhase, IsAwaited, IsFit}
use Rattle.uss_law_book.proofs.Known.{IsFirm, Known, tried_ticketed}
use Rattle.uss_law_supplier.proofs.Onward.{IsOpenJob}
use Rattle.uss_law_supplier.proofs.Asking.{none_of_new, new_unclosed, new_untried, new_unticketed, new_undecided, opened_leaves_open, same_trials, same_ticket, first_kind, first_duty, are_plans}
use Rattle.uss_law_book.proofs.Still.{decision_still}
use Rattle.uss_law_asking.proofs.Budget.{cost, cost_up, left, Allows, IsWaiting, IsWithin, asks, asks_after}
use Rattle.uss_law_asking.proofs.Acts.{first_round, attempts, gap}
use Rattle.uss_law_asking.proofs.Bounded.{left_found}

-- a job goes on by its book

firm_rounds : (wish : Wish) → is_end wish ≡ false → IsFirm wish → 1 ≤ rounds_of wish
firm_rounds (Put to priority rounds proposals) e f = f.some_rounds
firm_rounds End e f = cc

none_of : (n : ℕ) → nat_lt 0 n ≡ false → n ≡ 0
none_of n h = let a = not_less 0 n h in omega (arith, a)

goes_by_book : (n : ℕ) (s : Standing) (o : Opening) → IsOpenJob s.book o → IsFirm o.ask.wish → IsWithin n s o (going_on s o) (5 + cost (rounds_of o.ask.wish) n)
unfolding view_of
goes_by_book n s o u firm = at_end (is_end o.ask.wish) refl
  where
    rounds : ℕ
    rounds = rounds_of o.ask.wish

    tried : ℕ
    tried = length (trials_of o.job s.book)

    b : ℕ
    b = 5 + cost (rounds_of o.ask.wish) n

    at_key : (x : Bool) → tried ≡ 0 → 1 ≤ rounds → IsWithin n s o (carry_on s o (with_ticket x)) b
    at_key true t r =
        let c = first_round n tried rounds b t r (omega arith) in
        asks n s o Waits.Query c.0 b u c.1 c.2
    at_key false t r =
        let c = first_round n tried rounds b t r (omega arith) in
        let l = c.1.2 in
        let k = c.2 in
        attempts n s o 0 [] b u (c.1.0, c.1.1, omega (arith, l, k))

    at_ticket : (x : Bool) → tried ≡ 0 → 1 ≤ rounds → IsWithin n s o (carry_on s o (cond x (with_ticket (keeps_key o.ask.wish)) (Duties.Call Waits.TicketPut))) b
    at_ticket true t r = at_key (keeps_key o.ask.wish) t r
    at_ticket false t r = asks n s o Waits.TicketPut (3 + cost rounds n) b u (t, r, omega arith) (omega arith)

    at_tried : (x : Bool) → nat_lt 0 tried ≡ x → 1 ≤ rounds → IsWithin n s o (carry_on s o (cond x (Duties.Call Waits.Put) (cond (is_ticket_open o.job s.book) (with_ticket (keeps_key o.ask.wish)) (Duties.Call Waits.TicketPut)))) b
    at_tried true e r = asks n s o Waits.Put (3 + cost rounds n) b u (rounds, omega arith, omega arith) (omega arith)
    at_tried false e r = at_ticket (is_ticket_open o.job s.book) (none_of tried e) r

    at_decided : (x : Bool) → 1 ≤ rounds
        → IsWithin n s o (carry_on s o (cond x (Duties.Call Waits.TicketRemove) (cond (nat_lt 0 tried) (Duties.Call Waits.Put) (cond (is_ticket_open o.job s.book) (with_ticket (keeps_key o.ask.wish)) (Duties.Call Waits.TicketPut))))) b
    at_decided true r = asks n s o Waits.TicketRemove 2 b u (omega arith) (omega arith)
    at_decided false r = at_tried (nat_lt 0 tried) refl r

    at_end : (x : Bool) → is_end o.ask.wish ≡ x
        → IsWithin n s o (carry_on s o (cond x (Duties.Call Waits.Remove) (cond (is_some (decision_of o.job s.book)) (Duties.Call Waits.TicketRemove) (cond (nat_lt 0 tried) (Duties.Call Waits.Put) (cond (is_ticket_open o.job s.book) (with_ticket (keeps_key o.ask.wish)) (Duties.Call Waits.TicketPut)))))) b
    at_end true e = asks n s o Waits.Remove 1 b u (omega arith) (omega arith)
    at_end false e = at_decided (is_some (decision_of o.job s.book)) (firm_rounds o.ask.wish e firm)

-- a job that waits for a call makes it again

abbrev Enough : ℕ → Standing → Opening → Awaited → Type 0
Enough n s o kind = (c : ℕ) × Allows n (left (round_of o.job s.values)) (length (trials_of o.job s.book)) (rounds_of o.ask.wish) kind c × (c < 5 + cost (rounds_of o.ask.wish) n)

untried : (s : Standing) (o : Opening) → Known s.book → is_ticket_open o.job s.book ≡ false → length (trials_of o.job s.book) ≡ 0
untried s o k h = go (nat_lt 0 (length (trials_of o.job s.book))) refl
  where
    go : (x : Bool) → nat_lt 0 (length (trials_of o.job s.book)) ≡ x → length (trials_of o.job s.book) ≡ 0
    go true e = not_both (is_ticket_open o.job s.book) (tried_ticketed o.job s.book k (less_is 0 (length (trials_of o.job s.book)) e)) h
    go false e = none_of (length (trials_of o.job s.book)) e

put_rounds : (wish : Wish) → is_put wish ≡ true → IsFirm wish → 1 ≤ rounds_of wish
put_rounds (Put to priority rounds proposals) e f = f.some_rounds
put_rounds End e f = cc

enough : (n : ℕ) (s : Standing) (o : Opening) (kind : Awaited) → Known s.book → IsFirm o.ask.wish → length (round_of o.job s.values).found ≤ n → IsPhase s.book o kind → Enough n s o kind
enough n s o Waits.TicketPut k f l p = (3 + cost (rounds_of o.ask.wish) n, (untried s o k p.1, put_rounds o.ask.wish p.0 f, omega arith), omega arith)
enough n s o Waits.Query k f l p =
    let g = gap (length (trials_of o.job s.book)) (rounds_of o.ask.wish) p.round in
    let e = g.1 in
    let up : cost (suc g.0) n ≤ cost (rounds_of o.ask.wish) n = cost_up (suc g.0) (rounds_of o.ask.wish) n (omega (arith, e)) in
    (4 + n + cost g.0 n, (g.0, e, omega arith), omega (arith, up))
enough n s o Waits.Details k f l p =
    let g = gap (length (trials_of o.job s.book)) (rounds_of o.ask.wish) p.0.round in
    let e = g.1 in
    let up : cost (suc g.0) n ≤ cost (rounds_of o.ask.wish) n = cost_up (suc g.0) (rounds_of o.ask.wish) n (omega (arith, e)) in
    let m = left_found (round_of o.job s.values) in
    (4 + left (round_of o.job s.values) + cost g.0 n, (g.0, e, omega arith), omega (arith, up, m, l))
enough n s o Waits.Put k f l p = (3 + cost (rounds_of o.ask.wish) n, (rounds_of o.ask.wish, omega arith, omega arith), omega arith)
enough n s o Waits.Get k f l p = (1, omega arith, omega arith)
enough n s o Waits.TicketRemove k f l p = (2, omega arith, omega arith)
enough n s o Waits.Remove k f l p = (1, omega arith, omega arith)

pub resumes : (n : ℕ) (s : Standing) (o : Opening) → IsOpenJob s.book o → Known s.book → IsFirm o.ask.wish → IsFit s.owner s.book s.values → length (round_of o.job s.values).found ≤ n
    → IsWithin n s o (resuming s o) (5 + cost (rounds_of o.ask.wish) n)
resumes n s o u k firm fit few = go (awaited_of o.job s.values) refl
  where
    waits : (call : Outgoing) → awaited_of o.job s.values ≡ Some call → IsAwaited s.owner s.book s.values o.job call → (c : ℕ) × IsWaiting n s o call c × (c < 5 + cost (rounds_of o.ask.wish) n)
    waits (Goes.Dss call) e w =
        let same : w.opening ≡ o = some_same w.opening o (sym w.opened ∙ u.opened) in
        let c = enough n s o w.kind k firm few (subst (λ (x : Opening). IsPhase s.book x w.kind) same w.phase) in
        (c.0, record { unfinished = u; waits = e; its_job = w.its_job; kind = w.kind; is = w.is_of_kind; allows = c.1 }, c.2)
    waits (Goes.Peer call) e w =
        let same : w.opening ≡ o = some_same w.opening o (sym w.opened ∙ u.opened) in
        let c = enough n s o Waits.Details k firm few (subst (λ (x : Opening). IsPhase s.book x Waits.Details) same w.phase) in
        (c.0, record { unfinished = u; waits = e; its_job = ap job_of_call w.is; kind = Waits.Details; is = ap kind_of_call w.is; allows = c.1 }, c.2)

    go : (x : Option Outgoing) → awaited_of o.job s.values ≡ x → IsWithin n s o (resuming_by s o x) (5 + cost (rounds_of o.ask.wish) n)
    go None e = goes_by_book n s o u firm
    go (Some call) e = let w = waits call e (fit o.job call e) in inr (call, w.0, refl, w.1, w.2)

-- a new job

pub new_opened : (book : List Entry) (o : Opening) → IsOrderly book → o.job ≡ length (openings book) + 1 → opening_of o.job (book ++ Enters.Opened o ∷ []) ≡ Some o
unfolding opening_of
new_opened book o s n =
    let none : find (λ (p : Opening). p.job == o.job) (openings book) ≡ None = go (opening_of o.job book) refl in
    ap (λ (l : List Opening). find (λ (p : Opening). p.job == o.job) l) (openings_append book (Enters.Opened o ∷ []))
    ∙ find-append (λ (p : Opening). p.job == o.job) (openings book) (o ∷ [])
    ∙ ap (λ x. option_or x (find (λ (p : Opening). p.job == o.job) (o ∷ []))) none
    ∙ rw (equal_number o.job o.job refl) refl
  where
    go : (x : Option Opening) → opening_of o.job book ≡ x → x ≡ None
    go None e = refl
    go (Some p) e = let h = opening_has book o.job p e in absurd (none_of_new book o.job s n p h.0 h.1)

pub new_unfinished : (s : Standing) (at : ℤ) (ask : FlightAsk) → IsOrderly s.book → IsOpenJob (s.book ++ opening_entry s.book at ask ∷ []) (opening_for s at ask)
new_unfinished s at ask orderly =
    let o = opening_for s at ask in
    record {
      opened = new_opened s.book o orderly refl;
      unclosed = closed_by_either o.job s.book (opening_entry s.book at ask ∷ []) ∙ left_false (is_closed o.job s.book) (is_closed o.job (opening_entry s.book at ask ∷ [])) (new_unclosed s.book o.job orderly refl) (opened_leaves_open o.job at ask);
    }

-- it asks for its ticket, or removes its flight
pub new_duty : (s : Standing) (at : ℤ) (ask : FlightAsk) → IsOrderly s.book → Known s.book
    → going_on (entered s (opening_entry s.book at ask)) (opening_for s at ask) ≡ asking (entered s (opening_entry s.book at ask)) (opening_for s at ask) (first_kind (is_end ask.wish))
new_duty s at ask orderly known =
    let o = opening_for s at ask in
    let e = opening_entry s.book at ask in
    first_duty (entered s e) o (decision_still o.job s.book e refl ∙ new_undecided s.book o.job orderly known refl) (same_trials o.job s.book at ask ∙ new_untried s.book o.job orderly refl)
    (same_ticket o.job s.book at ask ∙ new_unticketed s.book o.job orderly known refl)

pub opens : (n : ℕ) (s : Standing) (at : ℤ) (ask : FlightAsk) → IsOrderly s.book → Known s.book → plan_refusal ask.wish ≡ None
    → IsWithin n s (opening_for s at ask) (entering s (opening_entry s.book at ask) (λ after. going_on after (opening_for s at ask))) (5 + cost (rounds_of ask.wish) n)
opens n s at ask orderly known plan =
    let o = opening_for s at ask in
    let e = opening_entry s.book at ask in
    let u = new_unfinished s at ask orderly in
    let t : length (trials_of o.job (s.book ++ e ∷ [])) ≡ 0 = ap length (same_trials o.job s.book at ask ∙ new_untried s.book o.job orderly refl) in
    subst (λ (t : Turn). IsWithin n s o (with_entry e t) (5 + cost (rounds_of ask.wish) n)) (sym (new_duty s at ask orderly known)) (go (is_end ask.wish) refl u t)
  where
    some : (wish : Wish) → is_end wish ≡ false → plan_refusal wish ≡ None → 1 ≤ rounds_of wish
    some (Put to priority rounds proposals) h p = (are_plans to priority rounds proposals p).some_rounds
    some End h p = cc

    go : (x : Bool) → is_end ask.wish ≡ x → IsOpenJob (s.book ++ opening_entry s.book at ask ∷ []) (opening_for s at ask) → length (trials_of (opening_for s at ask).job (s.book ++ opening_entry s.book at ask ∷ [])) ≡ 0
        → IsWithin n s (opening_for s at ask) (entering s (opening_entry s.book at ask) (λ after. asking after (opening_for s at ask) (first_kind x))) (5 + cost (rounds_of ask.wish) n)
    go true e u t = asks_after n s (opening_entry s.book at ask) (opening_for s at ask) Waits.Remove 1 (5 + cost (rounds_of ask.wish) n) u (omega arith) (omega arith)
    go false e u t =
        asks_after n s (opening_entry s.book at ask) (opening_for s at ask) Waits.TicketPut (3 + cost (rounds_of ask.wish) n) (5 + cost (rounds_of ask.wish) n) u
        (t, some ask.wish e plan, omega arith) (omega arith)
