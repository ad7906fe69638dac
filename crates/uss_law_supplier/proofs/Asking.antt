-- That a supplier may do what a request comes to.
use Rattle.std.proofs.Common.{ℕ, ℤ, ◌≤◌, ◌<◌, ◌+◌, ◌==◌, ◌≢◌, Bool, true, false, cond, not, ◌&&◌, ◌||◌, nat_lt, nat_le, List, [], ◌∷◌, ◌++◌, ◌≡◌, ◌⊎◌, inl, inr, length, filter, refl, ap, sym, subst, ◌∙◌, arith, Option, Some, None, is_some, is_none, IfSome, map}
use Rattle.std.specs.Prelude.{IsTrue}
use Rattle.std.proofs.lemmas.Bool.Decides.{nat_tests}
use Rattle.std.specs.List.{AllByRecursion}
use Rattle.std.specs.Option.{option_and_then}
use Rattle.std.proofs.lemmas.List.{append-nil}
use Rattle.std.proofs.lemmas.List.Elements.{All-from_recursion}
use Rattle.uss_vol4.specs.Volume.{Volume4D, InTime}
use Rattle.uss_law_book.specs.Coding.{IsWish, journal_length, record_length}
use Rattle.uss_law_book.specs.Reserve.{journal_limit, need}
use Rattle.uss_law_book.specs.Room.{IsSpared}
use Rattle.uss_law_supplier.specs.Typed.{IsOfType, IsRequest}
use Rattle.uss_law_book.proofs.Counts.{few_jobs}
use Rattle.uss_intent.specs.declared.records.State.{State}
use Rattle.uss_event.specs.Same.{differing}
use Rattle.uss_event.specs.Plans.{is_plan}
use Rattle.uss_event.specs.Refusals.{number_of, refusal_of}
use Rattle.uss_event.specs.Transitions.{begins, goes}
use Rattle.uss_event.proofs.Accepted.{plan_unless_refused}
use Rattle.uss_event.specs.declared.refusals.DetailsRefusal.{DetailsRefusal}
use Rattle.uss_event.specs.declared.refusals.DetailsRefusal.TheVariants as Details
use Rattle.uss_event.specs.declared.details.Proposal.{Proposal}
use Rattle.uss_event.specs.declared.asks.Wish.{Wish}
use Rattle.uss_event.specs.declared.asks.Wish.TheVariants.{Put, End}
use Rattle.uss_event.specs.declared.asks.FlightAsk.{FlightAsk}
use Rattle.uss_event.specs.declared.asks.AskField.{AskField}
use Rattle.uss_event.specs.declared.asks.AskRefusal.{AskRefusal}
use Rattle.uss_event.specs.declared.asks.AskRefusal.TheVariants as Refuses
use Rattle.uss_event.specs.declared.entries.Entry.{Entry}
use Rattle.uss_event.specs.declared.entries.Entry.TheVariants as Enters
use Rattle.uss_event.specs.declared.entries.Ending.TheVariants as Ends
use Rattle.uss_event.specs.declared.events.Said.TheVariants as Says
use Rattle.uss_event.specs.declared.events.Event.{Event}
use Rattle.uss_event.specs.declared.events.Event.TheVariants as Comes
use Rattle.uss_law_dss.specs.Lists.{Has}
use Rattle.uss_law_dss.proofs.Lists.{find_has, has_filter, has_passed, none_passes, has_last}
use Rattle.uss_law_dss.proofs.Tests.{same_number, equal_number, unequal_number, other_number, not_less, both, and_true, not_both, none_is, some_same, left_false, neither}
use Rattle.uss_event.specs.declared.entries.Opening.{Opening}
use Rattle.uss_event.specs.declared.entries.Trial.{Trial}
use Rattle.uss_event.specs.declared.entries.Holding.{Holding}
use Rattle.uss_event.specs.declared.entries.Closing.{Closing}
use Rattle.uss_law_book.specs.Lists.{openings, trials, holdings, endings}
use Rattle.uss_law_book.specs.Contents.{is_held, is_done, is_closed, decision_of, trials_of, jobs_of, open_job_of, greater, greatest, last_of, has_ended, is_ticket_open}
use Rattle.uss_law_book.specs.Attempts.{held_state}
use Rattle.uss_law_book.specs.Legal.{ArePlans, MayWish, IsAfter, IsDue}
use Rattle.uss_law_book.specs.Orderly.{IsOrderly}
use Rattle.uss_law_book.proofs.Finds.{find_found, none_filtered}
use Rattle.uss_law_book.proofs.Entries.{openings_append, closed_by_either}
use Rattle.uss_law_book.proofs.Kept.{opening_has}
use Rattle.uss_law_book.proofs.Held.{opening_is_found}
use Rattle.uss_law_book.proofs.EachOrderly.{orderly_after}
use Rattle.uss_event.specs.Heard.{News}
use Rattle.uss_law_duty.specs.Answers.{job_of_request, job_named}
use Rattle.uss_law_duty.specs.Sayings.{RefusalHasCause, SayingHasCause}
use Rattle.uss_law_supplier.specs.declared.duties.Awaited.{Awaited}
use Rattle.uss_law_supplier.specs.declared.duties.Awaited.TheVariants as Waits
use Rattle.uss_law_supplier.specs.declared.duties.Duty.TheVariants as Duties
use Rattle.uss_law_supplier.specs.Turns.{Standing, Turn, entered, entering}
use Rattle.uss_law_supplier.specs.Jobs.{is_end, view_of, asking, carry_on, going_on}
use Rattle.uss_law_supplier.specs.Asks.{first_some, proposal_refusal, proposals_refusal, plan_refusal, busy_by, busy, ended, begins_flight, unknown, wrong_way, wrong, past, too_far, opening_entry, full, new_refusal, refusing, opening_for, new_by, asked_anew, asked_for, repeated_by, repeated, asked_after, asked_with, asked}
use Rattle.uss_law_supplier.specs.Cancels.{cancelled_open, cancelled_job, cancelled_after, cancelled}
use Rattle.uss_law_supplier.specs.Fitting.{IsPhase}
use Rattle.uss_law_book.proofs.Others.{trials_either, ticket_either}
use Rattle.uss_law_book.proofs.Known.{Known, known_after, has_ticket, decided_ticketed}
use Rattle.uss_law_supplier.proofs.Onward.{IsDue as Due}
use Rattle.uss_law_supplier.proofs.Onward.{IsOpenJob}
use Rattle.uss_law_supplier.proofs.Fits.{fit_others}
use Rattle.uss_law_supplier.proofs.Good.{Sound, IsOnward, IsGood, good_onward, good_entering, onward_asking, none_sent}
use Rattle.uss_law_supplier.proofs.Jobs.{IsAt, follows, made_silently, silent_cause, good_again}
use Rattle.uss_law_supplier.proofs.Entering.{another}
use Rattle.uss_law_book.proofs.Still.{decision_still}
use Rattle.uss_law_book.proofs.Room.{spared_beside_all}
use Rattle.uss_law_supplier.proofs.Chosen.{good_giving_up}
use Rattle.uss_law_supplier.proofs.Resuming.{not_end, is_an_end, good_resuming}

-- a refusal

abbrev is_old : AskRefusal → Bool
is_old (Refuses.OldPosition last) = true
is_old _ = false

has_cause : (moment : ℤ) (event : Event) (refusal : AskRefusal) → is_old refusal ≡ false → RefusalHasCause moment event refusal
has_cause moment event (Refuses.OldPosition last) h = cc
has_cause moment (Comes.Position p) refusal h = tt
has_cause moment _ refusal h = tt

pub good_refusing_so : (s : Standing) (heard : List News) (moment : ℤ) (event : Event) (refusal : AskRefusal) → Sound s → RefusalHasCause moment event refusal → IsGood s heard moment event (refusing s refusal)
good_refusing_so s heard moment event refusal d c =
    good_onward s heard moment event s.values [] (Says.Refused refusal) (record { sends = none_sent (Due s.owner s.book); pair = tt; final = tt; fit = d.fit; heard_is = refl; goes = inl refl }) c

pub good_refusing : (s : Standing) (heard : List News) (moment : ℤ) (event : Event) (refusal : AskRefusal) → Sound s → is_old refusal ≡ false → IsGood s heard moment event (refusing s refusal)
good_refusing s heard moment event refusal d h = good_refusing_so s heard moment event refusal d (has_cause moment event refusal h)

-- the flight's last request is one of its requests

greatest_has : (os : List Opening) (o : Opening) → greatest os ≡ Some o → Has os o
greatest_has [] o e = cc
greatest_has (p ∷ os) o e = go (greatest os) refl (greatest_has os o) e
  where
    at : (r : Opening) (b : Bool) → (Some r ≡ Some o → Has os o) → cond b (Some r) (Some p) ≡ Some o → (p ≡ o) ⊎ Has os o
    at r true rec h = inr (rec h)
    at r false rec h = inl (some_same p o h)

    go : (x : Option Opening) → greatest os ≡ x → (greatest os ≡ Some o → Has os o) → greater p x ≡ Some o → (p ≡ o) ⊎ Has os o
    go None q rec k = inl (some_same p o k)
    go (Some r) q rec k = at r (nat_lt p.ask.number r.ask.number) (λ h. rec (q ∙ h)) k

pub last_is : (flight : ℕ) (book : List Entry) (o : Opening) → last_of flight book ≡ Some o → Has (openings book) o × (o.ask.flight ≡ flight)
unfolding last_of jobs_of
last_is flight book o e =
    let h = greatest_has (filter (λ (p : Opening). p.ask.flight == flight) (openings book)) o e in
    (has_filter (λ (p : Opening). p.ask.flight == flight) (openings book) o h, same_number o.ask.flight flight (has_passed (λ (p : Opening). p.ask.flight == flight) (openings book) o h))

-- and is found by its number
pub request_found : (flight number : ℕ) (book : List Entry) (o : Opening) → IsOrderly book → Has (openings book) o → o.ask.flight ≡ flight → o.ask.number ≡ number → job_of_request flight number book ≡ Some o
unfolding job_of_request
request_found flight number book o s h f n =
    let p : Opening → Bool = λ x. (x.ask.flight == flight) && (x.ask.number == number) in
    let y = find_found p (openings book) o h (and_true (o.ask.flight == flight) (o.ask.number == number) (equal_number o.ask.flight flight f) (equal_number o.ask.number number n)) in
    let k = find_has p (openings book) y.0 y.1 in
    let b = both (y.0.ask.flight == flight) (y.0.ask.number == number) k.1 in
    let same : y.0 ≡ o = s.requests y.0 o k.0 h (same_number y.0.ask.flight flight b.0 ∙ sym f) (same_number y.0.ask.number number b.1 ∙ sym n) in
    y.1 ∙ ap Some same

-- an open job is at hand
pub at_hand : (s : Standing) (o : Opening) → Sound s → Has (openings s.book) o → is_closed o.job s.book ≡ false → IsAt s o
at_hand s o d h u = record { sound = d; has = h; unfinished = record { opened = opening_is_found s.book o d.orderly h; unclosed = u } }

-- a new job

pub parts_none : {X : Type 0} (x : Option X) (xs : List (Option X)) → first_some (x ∷ xs) ≡ None → (x ≡ None) × (first_some xs ≡ None)
parts_none None xs h = (refl, h)
parts_none (Some x) xs h = cc

never_memory : (r : Option DetailsRefusal) → option_and_then number_of r ≡ None → (r ≡ Some Details.Memory → ⊥) → is_none r ≡ true
never_memory None h n = refl
never_memory (Some Details.TooManyVolumes) h n = cc
never_memory (Some Details.TooManyVerticesTogether) h n = cc
never_memory (Some Details.OffNominalNotAllowed) h n = cc
never_memory (Some Details.NoVolume) h n = cc
never_memory (Some Details.PriorityRange) h n = cc
never_memory (Some Details.Memory) h n = absurd (n refl)

-- a plan isn't refused as out of memory
no_memory : (a b c d e : Bool) → cond a (Some Details.TooManyVolumes) (cond b (Some Details.TooManyVerticesTogether) (cond c (Some Details.OffNominalNotAllowed) (cond d (Some Details.NoVolume) (cond e (Some Details.PriorityRange) None)))) ≡ Some Details.Memory → ⊥
no_memory true b c d e h = cc
no_memory false true c d e h = cc
no_memory false false true d e h = cc
no_memory false false false true e h = cc
no_memory false false false false true h = cc
no_memory false false false false false h = cc

not_for_memory : (state : State) (volumes off_nominal : List Volume4D) (priority : ℕ) → refusal_of state volumes off_nominal priority ≡ Some Details.Memory → ⊥
unfolding refusal_of
not_for_memory state volumes off_nominal priority e = no_memory _ _ _ _ _ e

each_plan : (to : State) (priority : ℕ) (ps : List Proposal) → proposals_refusal to priority ps ≡ None → AllByRecursion (λ (p : Proposal). IsTrue (is_plan to p.volumes p.off_nominal priority)) ps
each_plan to priority [] e = tt
each_plan to priority (p ∷ ps) e =
    let a = parts_none (proposal_refusal to priority p) (map (proposal_refusal to priority) ps) e in
    let n = never_memory (refusal_of to p.volumes p.off_nominal priority) a.0 (not_for_memory to p.volumes p.off_nominal priority) in
    (sym (plan_unless_refused to p.volumes p.off_nominal priority) ∙ n, each_plan to priority ps a.1)

le_is : (a b : ℕ) → nat_le a b ≡ true → a ≤ b
le_is a b h = grind (arith, nat_tests)

pub are_plans : (to : State) (priority rounds : ℕ) (proposals : List Proposal) → plan_refusal (Put to priority rounds proposals) ≡ None → ArePlans to priority rounds proposals
are_plans to priority rounds proposals e = at_rounds (nat_le 1 rounds && nat_le rounds 16) refl e
  where
    at_proposals : (b : Bool) → (nat_le 1 (length proposals) && nat_le (length proposals) 8) ≡ b → (nat_le 1 rounds && nat_le rounds 16) ≡ true
        → cond (not b) (Some 126) (proposals_refusal to priority proposals) ≡ None → ArePlans to priority rounds proposals
    at_proposals true q r h =
        let x = both (nat_le 1 rounds) (nat_le rounds 16) r in
        let y = both (nat_le 1 (length proposals)) (nat_le (length proposals) 8) q in
        record {
          some_rounds = le_is 1 rounds x.0;
          few_rounds = le_is rounds 16 x.1;
          some_proposals = le_is 1 (length proposals) y.0;
          few_proposals = le_is (length proposals) 8 y.1;
          each = All-from_recursion (λ (p : Proposal). IsTrue (is_plan to p.volumes p.off_nominal priority)) proposals (each_plan to priority proposals h);
        }
    at_proposals false q r h = cc

    at_rounds : (b : Bool) → (nat_le 1 rounds && nat_le rounds 16) ≡ b
        → cond (not b) (Some 127) (cond (not (nat_le 1 (length proposals) && nat_le (length proposals) 8)) (Some 126) (proposals_refusal to priority proposals)) ≡ None → ArePlans to priority rounds proposals
    at_rounds true q h = at_proposals (nat_le 1 (length proposals) && nat_le (length proposals) 8) refl q h
    at_rounds false q h = cc

-- what the refusals leave

free_of : (x : Option Opening) → busy_by x ≡ None → x ≡ None
free_of None h = refl
free_of (Some o) h = cc

alive_of : (b : Bool) → cond b (Some Refuses.Closed) None ≡ None → b ≡ false
alive_of true h = cc
alive_of false h = refl

may_wish : (old : Option State) (wish : Wish) → plan_refusal wish ≡ None → cond (is_none old && not (begins_flight wish)) (Some Refuses.NoSuchFlight) None ≡ None → wrong_way old wish ≡ None → MayWish old wish
may_wish None (Put to priority rounds proposals) p u w = (are_plans to priority rounds proposals p, at_begin (begins to) u)
  where
    at_begin : (b : Bool) → cond (not b) (Some Refuses.NoSuchFlight) None ≡ None → b ≡ true
    at_begin true h = refl
    at_begin false h = cc
may_wish (Some from) (Put to priority rounds proposals) p u w = (are_plans to priority rounds proposals p, at_way (goes from to) w)
  where
    at_way : (b : Bool) → cond b None (Some (Refuses.WrongTransition from to)) ≡ None → b ≡ true
    at_way true h = refl
    at_way false h = cc
may_wish None End p u w = cc
may_wish (Some from) End p u w = refl

-- the new job has nothing yet

pub none_of_new : (book : List Entry) (job : ℕ) → IsOrderly book → job ≡ length (openings book) + 1 → (o : Opening) → Has (openings book) o → o.job ≢ job
none_of_new book job s n o h = λ q. (let a = s.job_numbers o h in omega (arith, a, n, q))

pub new_unclosed : (book : List Entry) (job : ℕ) → IsOrderly book → job ≡ length (openings book) + 1 → is_closed job book ≡ false
unfolding is_held is_done
new_unclosed book job s n =
    left_false (is_held job book) (is_done job book)
    (none_passes (λ (x : Holding). x.job == job) (holdings book) (λ x h. (let o = s.recorded x h in unequal_number x.job job (λ q. none_of_new book job s n o.0 o.1 (o.2 ∙ q)))))
    (none_passes (λ (x : Closing). x.job == job) (endings book) (λ x h. (let o = s.ended x h in unequal_number x.job job (λ q. none_of_new book job s n o.0 o.1 (o.2 ∙ q)))))

pub new_untried : (book : List Entry) (job : ℕ) → IsOrderly book → job ≡ length (openings book) + 1 → trials_of job book ≡ []
unfolding trials_of
new_untried book job s n =
    none_filtered (λ (t : Trial). t.job == job) (trials book) (λ t h. (let o = s.tried t h in unequal_number t.job job (λ q. none_of_new book job s n o.0 o.1 (o.2 ∙ q))))

pub new_unticketed : (book : List Entry) (job : ℕ) → IsOrderly book → Known book → job ≡ length (openings book) + 1 → is_ticket_open job book ≡ false
new_unticketed book job s k n = go (is_ticket_open job book) refl
  where
    go : (b : Bool) → is_ticket_open job book ≡ b → b ≡ false
    go false e = refl
    go true e =
        let p = k.putting job (has_ticket job book e) in
        let h = opening_has book job p.0 p.1 in
        absurd (none_of_new book job s n p.0 h.0 h.1)

pub new_undecided : (book : List Entry) (job : ℕ) → IsOrderly book → Known book → job ≡ length (openings book) + 1 → decision_of job book ≡ None
new_undecided book job s k n = go (decision_of job book) refl
  where
    go : (x : Option Closing) → decision_of job book ≡ x → x ≡ None
    go None e = refl
    go (Some d) e = not_both (is_ticket_open job book) (decided_ticketed job book k (rw e refl)) (new_unticketed book job s k n)

-- the entry leaves that so
pub opened_leaves_open : (job : ℕ) (moment : ℤ) (ask : FlightAsk) → is_closed job (Enters.Opened (record { job = job; moment = moment; ask = ask }) ∷ []) ≡ false
unfolding is_held is_done
opened_leaves_open job moment ask = refl

pub same_trials : (job : ℕ) (book : List Entry) (moment : ℤ) (ask : FlightAsk) → trials_of job (book ++ Enters.Opened (record { job = job; moment = moment; ask = ask }) ∷ []) ≡ trials_of job book
unfolding trials_of
same_trials job book moment ask = trials_either job book (Enters.Opened (record { job = job; moment = moment; ask = ask }) ∷ []) ∙ append-nil (trials_of job book)

or_nothing : (b : Bool) → (b || false) ≡ b
or_nothing true = refl
or_nothing false = refl

pub same_ticket : (job : ℕ) (book : List Entry) (moment : ℤ) (ask : FlightAsk) → is_ticket_open job (book ++ Enters.Opened (record { job = job; moment = moment; ask = ask }) ∷ []) ≡ is_ticket_open job book
unfolding is_ticket_open
same_ticket job book moment ask = ticket_either job book (Enters.Opened (record { job = job; moment = moment; ask = ask }) ∷ []) ∙ or_nothing (is_ticket_open job book)

-- by its book it ends its flight, or asks for its ticket
abbrev pub first_kind : Bool → Awaited
first_kind true = Waits.Remove
first_kind false = Waits.TicketPut

pub first_duty : (s : Standing) (o : Opening) → decision_of o.job s.book ≡ None → trials_of o.job s.book ≡ [] → is_ticket_open o.job s.book ≡ false → going_on s o ≡ asking s o (first_kind (is_end o.ask.wish))
unfolding view_of
first_duty s o d t k = rw (d, t, k) (at (is_end o.ask.wish))
  where
    at : (b : Bool) → carry_on s o (cond b (Duties.Call Waits.Remove) (Duties.Call Waits.TicketPut)) ≡ asking s o (first_kind b)
    at true = refl
    at false = refl

first_phase : (book : List Entry) (o : Opening) (b : Bool) → is_end o.ask.wish ≡ b → is_ticket_open o.job book ≡ false → IsPhase book o (first_kind b)
first_phase book o true e k = is_an_end o.ask.wish e
first_phase book o false e k = (not_end o.ask.wish e, k)

first_not_details : (b : Bool) → first_kind b ≢ Waits.Details
first_not_details true = λ q. cc
first_not_details false = λ q. cc

-- it has room
spared_of : (book : List Entry) (moment : ℤ) (ask : FlightAsk) → full book moment ask ≡ None → IsSpared book (opening_entry book moment ask)
spared_of book moment ask h = go (nat_lt journal_limit (journal_length book + need book + 8388608 + record_length (opening_entry book moment ask))) refl h
  where
    go : (b : Bool) → nat_lt journal_limit (journal_length book + need book + 8388608 + record_length (opening_entry book moment ask)) ≡ b
        → cond b (Some (Refuses.BookFull (journal_length book) (need book))) None ≡ None → IsSpared book (opening_entry book moment ask)
    go true q k = cc
    go false q k = spared_beside_all book (length (openings book) + 1) moment ask (not_less journal_limit (journal_length book + need book + 8388608 + record_length (opening_entry book moment ask)) q)

-- a request that is a plan has a coding

plan_few : (state : State) (volumes off_nominal : List Volume4D) (priority : ℕ) → is_plan state volumes off_nominal priority ≡ true → length volumes + length off_nominal ≤ 64
unfolding is_plan
plan_few state volumes off_nominal priority h = le_is (length volumes + length off_nominal) 64 (both (nat_le (length volumes + length off_nominal) 64) _ h).0

wish_coded : (wish : Wish) → IsOfType wish → plan_refusal wish ≡ None → IsWish wish
wish_coded (Put to priority rounds proposals) w e =
    let p = are_plans to priority rounds proposals e in
    let eight = p.few_proposals in
    record {
      priority_fits = w.priority_fits;
      rounds_fit = w.rounds_fit;
      few_proposals = omega (arith, eight);
      valid_proposals = λ k d l. (
          let a = w.alternatives k d l in
          let f = plan_few to _ _ priority (p.each k d l) in
          record { few_volumes = omega (arith, f); few_off_nominal = omega (arith, f); volumes = a.volumes; off_nominal = a.off_nominal });
    }
wish_coded End w e = tt

pub good_opened : (s : Standing) (heard : List News) (moment at : ℤ) (event : Event) (ask : FlightAsk) → Sound s → IsRequest ask → InTime at → plan_refusal ask.wish ≡ None → IfSome (last_of ask.flight s.book) (IsAfter ask) → new_refusal s.book at ask ≡ None
    → IsGood s heard moment event (entering s (opening_entry s.book at ask) (λ after. going_on after (opening_for s at ask)))
unfolding new_refusal
good_opened s heard moment at event ask d typed time plan later none =
    let job = length (openings s.book) + 1 in
    let e = opening_entry s.book at ask in
    let o = opening_for s at ask in
    let n1 = parts_none (busy s.book ask) _ none in
    let n2 = parts_none (ended s.book ask) _ n1.1 in
    let n3 = parts_none (unknown s.book ask) _ n2.1 in
    let n4 = parts_none (wrong s.book ask) _ n3.1 in
    let n5 = parts_none (past at ask) _ n4.1 in
    let n6 = parts_none (too_far at ask) _ n5.1 in
    let n7 = parts_none (full s.book at ask) [] n6.1 in
    let due : IsDue s.book e = record {
      next = refl;
      free = free_of (open_job_of ask.flight s.book) n1.0;
      alive = alive_of (has_ended ask.flight s.book) n2.0;
      later = later;
      wish = may_wish (held_state ask.flight s.book) ask.wish plan n3.0 n4.0;
    } in
    let few = few_jobs s.book d.room in
    let m = follows s e d refl (omega (arith, few), time, record { flight = typed.flight; number = typed.number; wish = wish_coded ask.wish typed.wish plan }) (spared_of s.book at ask n7.0) due in
    let book = s.book ++ e ∷ [] in
    let orderly = orderly_after s.book e d.orderly m in
    let known = known_after s.book e d.orderly d.known due in
    let has : Has (openings book) o = subst (λ (l : List Opening). Has l o) (sym (openings_append s.book (e ∷ []))) (has_last (openings s.book) o) in
    let unclosed : is_closed job book ≡ false = closed_by_either job s.book (e ∷ []) ∙ left_false (is_closed job s.book) (is_closed job (e ∷ [])) (new_unclosed s.book job d.orderly refl) (opened_leaves_open job at ask) in
    let unfinished : IsOpenJob book o = record { opened = opening_is_found book o orderly has; unclosed = unclosed } in
    let ticket : is_ticket_open job book ≡ false = same_ticket job s.book at ask ∙ new_unticketed s.book job d.orderly d.known refl in
    let goes = first_duty (entered s e) o (decision_still job s.book e refl ∙ new_undecided s.book job d.orderly d.known refl) (same_trials job s.book at ask ∙ new_untried s.book job d.orderly refl) ticket in
    let fit = fit_others s.owner s.book s.values e job d.orderly due (λ i n. another i job n) d.fit in
    let onward = onward_asking (entered s e) event o (first_kind (is_end ask.wish)) orderly known has unfinished (first_phase book o (is_end ask.wish) refl ticket) (first_not_details (is_end ask.wish)) fit in
    good_entering s heard moment event e (λ after. going_on after o) (record { follows = m; keys = tt; held = tt; removals = tt; tickets = tt })
    (subst (λ t. IsOnward s.owner book event s.values.heard t) (sym goes) onward)
    (subst (λ (t : Turn). SayingHasCause s.owner s.book moment event t.said) (sym goes) (silent_cause s.owner s.book moment event _ (made_silently (entered s e) job _)))

-- none of these refusals is for an old position

some_part : (x : Option AskRefusal) (xs : List (Option AskRefusal)) (r : AskRefusal) → first_some (x ∷ xs) ≡ Some r → (x ≡ Some r) ⊎ (first_some xs ≡ Some r)
some_part None xs r h = inr h
some_part (Some x) xs r h = inl h

if_some : (b : Bool) (q r : AskRefusal) → cond b (Some q) None ≡ Some r → is_old q ≡ false → is_old r ≡ false
if_some true q r h n = subst (λ (x : AskRefusal). is_old x ≡ false) (some_same q r h) n
if_some false q r h n = cc

busy_is : (x : Option Opening) (r : AskRefusal) → busy_by x ≡ Some r → is_old r ≡ false
busy_is None r h = cc
busy_is (Some o) r h = subst (λ (x : AskRefusal). is_old x ≡ false) (some_same (Refuses.Busy o.ask.number) r h) refl

wrong_is : (old : Option State) (wish : Wish) (r : AskRefusal) → wrong_way old wish ≡ Some r → is_old r ≡ false
wrong_is (Some from) (Put to priority rounds proposals) r h = go (goes from to) h
  where
    go : (b : Bool) → cond b None (Some (Refuses.WrongTransition from to)) ≡ Some r → is_old r ≡ false
    go true k = cc
    go false k = subst (λ (x : AskRefusal). is_old x ≡ false) (some_same (Refuses.WrongTransition from to) r k) refl
wrong_is (Some from) End r h = cc
wrong_is None (Put to priority rounds proposals) r h = cc
wrong_is None End r h = cc

never_old : (book : List Entry) (moment : ℤ) (ask : FlightAsk) (r : AskRefusal) → new_refusal book moment ask ≡ Some r → is_old r ≡ false
unfolding new_refusal
never_old book moment ask r h = elim (some_part (busy book ask) _ r h) [
  | inl e ↦ busy_is (open_job_of ask.flight book) r e
  | inr h1 ↦ elim (some_part (ended book ask) _ r h1) [
    | inl e ↦ if_some _ Refuses.Closed r e refl
    | inr h2 ↦ elim (some_part (unknown book ask) _ r h2) [
      | inl e ↦ if_some _ Refuses.NoSuchFlight r e refl
      | inr h3 ↦ elim (some_part (wrong book ask) _ r h3) [
        | inl e ↦ wrong_is (held_state ask.flight book) ask.wish r e
        | inr h4 ↦ elim (some_part (past moment ask) _ r h4) [
          | inl e ↦ if_some _ Refuses.Past r e refl
          | inr h5 ↦ elim (some_part (too_far moment ask) _ r h5) [
            | inl e ↦ if_some _ (Refuses.TooFar _) r e refl
            | inr h6 ↦ elim (some_part (full book moment ask) [] r h6) [ inl e ↦ if_some _ (Refuses.BookFull _ _) r e refl | inr n ↦ absurd (no_some r n) ]
          ]
        ]
      ]
    ]
  ]
]
  where
    no_some : (r : AskRefusal) → None ≡ Some r → ⊥
    no_some r e = cc

-- a request

-- the event is about this request
abbrev pub IsAbout : Event → FlightAsk → Type 0
IsAbout event ask = (book : List Entry) → job_named event book ≡ job_of_request ask.flight ask.number book

good_anew : (s : Standing) (heard : List News) (moment at : ℤ) (event : Event) (ask : FlightAsk) → Sound s → IsRequest ask → InTime at → plan_refusal ask.wish ≡ None → IfSome (last_of ask.flight s.book) (IsAfter ask)
    → IsGood s heard moment event (asked_anew s at ask)
good_anew s heard moment at event ask d typed time plan later = go (new_refusal s.book at ask) refl
  where
    go : (x : Option AskRefusal) → new_refusal s.book at ask ≡ x → IsGood s heard moment event (new_by s at ask x)
    go None e = good_opened s heard moment at event ask d typed time plan later e
    go (Some refusal) e = good_refusing s heard moment event refusal d (never_old s.book at ask refusal e)

good_repeated : (s : Standing) (heard : List News) (moment : ℤ) (event : Event) (ask : FlightAsk) (last : Opening) → Sound s → IsAbout event ask → last_of ask.flight s.book ≡ Some last → last.ask.number ≡ ask.number
    → IsGood s heard moment event (repeated s last ask)
good_repeated s heard moment event ask last d about e n = at_field (differing last.ask.wish ask.wish)
  where
    l : Has (openings s.book) last × (last.ask.flight ≡ ask.flight)
    l = last_is ask.flight s.book last e

    at_closed : (b : Bool) → is_closed last.job s.book ≡ b → IsGood s heard moment event (asked_for s last b)
    at_closed true q = good_again s heard moment event last d q (about s.book ∙ request_found ask.flight ask.number s.book last d.orderly l.0 l.1 n)
    at_closed false q = good_resuming s heard moment event last (at_hand s last d l.0 q)

    at_field : (x : Option AskField) → IsGood s heard moment event (repeated_by s last x)
    at_field (Some field) = good_refusing s heard moment event (Refuses.DifferentRepeat field) d refl
    at_field None = at_closed (is_closed last.job s.book) refl

pub good_asked : (s : Standing) (heard : List News) (moment at : ℤ) (event : Event) (ask : FlightAsk) → Sound s → IsRequest ask → InTime at → IsAbout event ask → IsGood s heard moment event (asked s at ask)
good_asked s heard moment at event ask d typed time about = at_plan (plan_refusal ask.wish) refl
  where
    at_same : (last : Opening) → last_of ask.flight s.book ≡ Some last → plan_refusal ask.wish ≡ None → last.ask.number ≤ ask.number → (b : Bool) → (ask.number == last.ask.number) ≡ b
        → IsGood s heard moment event (cond b (repeated s last ask) (asked_anew s at ask))
    at_same last e plan k true q = good_repeated s heard moment event ask last d about e (sym (same_number ask.number last.ask.number q))
    at_same last e plan k false q =
        let n = other_number ask.number last.ask.number q in
        let later : last.ask.number < ask.number = omega (arith, k, n) in
        good_anew s heard moment at event ask d typed time plan (subst (λ (x : Option Opening). IfSome x (IsAfter ask)) (sym e) later)

    at_less : (last : Opening) → last_of ask.flight s.book ≡ Some last → plan_refusal ask.wish ≡ None → (b : Bool) → nat_lt ask.number last.ask.number ≡ b
        → IsGood s heard moment event (cond b (refusing s (Refuses.OldNumber last.ask.number)) (cond (ask.number == last.ask.number) (repeated s last ask) (asked_anew s at ask)))
    at_less last e plan true q = good_refusing s heard moment event (Refuses.OldNumber last.ask.number) d refl
    at_less last e plan false q = at_same last e plan (not_less ask.number last.ask.number q) (ask.number == last.ask.number) refl

    at_last : (x : Option Opening) → last_of ask.flight s.book ≡ x → plan_refusal ask.wish ≡ None → IsGood s heard moment event (asked_after s at ask x)
    at_last None e plan = good_anew s heard moment at event ask d typed time plan (rw e tt)
    at_last (Some last) e plan = at_less last e plan (nat_lt ask.number last.ask.number) refl

    at_plan : (x : Option ℕ) → plan_refusal ask.wish ≡ x → IsGood s heard moment event (asked_with s at ask x)
    at_plan (Some number) e = good_refusing s heard moment event (Refuses.BadPlan number) d refl
    at_plan None e = at_last (last_of ask.flight s.book) refl e

-- a cancel

pub good_cancelled : (s : Standing) (heard : List News) (moment : ℤ) (flight number : ℕ) → Sound s → IsGood s heard moment (Comes.Cancel flight number) (cancelled s flight number)
good_cancelled s heard moment flight number d = at_last (last_of flight s.book) refl
  where
    event : Event
    event = Comes.Cancel flight number

    at_end : (last : Opening) → IsAt s last → job_named event s.book ≡ Some last → (b : Bool) → (is_end last.ask.wish || is_some (decision_of last.job s.book)) ≡ b
        → IsGood s heard moment event (cancelled_open s last b)
    at_end last a named true q = good_resuming s heard moment event last a
    at_end last a named false q =
        let n = neither (is_end last.ask.wish) (is_some (decision_of last.job s.book)) q in
        good_giving_up s heard moment event last Ends.Cancelled a (not_end last.ask.wish n.0) (none_is (decision_of last.job s.book) n.1) (λ tried rounds. tt) tt refl tt named

    at_closed : (last : Opening) → Has (openings s.book) last → job_named event s.book ≡ Some last → (b : Bool) → is_closed last.job s.book ≡ b
        → IsGood s heard moment event (cancelled_job s last b)
    at_closed last h named true q = good_again s heard moment event last d q named
    at_closed last h named false q = at_end last (at_hand s last d h q) named (is_end last.ask.wish || is_some (decision_of last.job s.book)) refl

    at_number : (last : Opening) → last_of flight s.book ≡ Some last → (b : Bool) → (number == last.ask.number) ≡ b
        → IsGood s heard moment event (cond b (cancelled_job s last (is_closed last.job s.book)) (refusing s (Refuses.NotAsked last.ask.number)))
    at_number last e true q =
        let l = last_is flight s.book last e in
        at_closed last l.0 (request_found flight number s.book last d.orderly l.0 l.1 (sym (same_number number last.ask.number q))) (is_closed last.job s.book) refl
    at_number last e false q = good_refusing s heard moment event (Refuses.NotAsked last.ask.number) d refl

    at_last : (x : Option Opening) → last_of flight s.book ≡ x → IsGood s heard moment event (cancelled_after s number x)
    at_last None e = good_refusing s heard moment event Refuses.NoSuchFlight d refl
    at_last (Some last) e = at_number last e (number == last.ask.number) refl
