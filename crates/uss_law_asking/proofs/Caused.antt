-- From what each answer of an exchange comes.
use Rattle.std.proofs.Common.{ℕ, ℤ, ◌<◌, ◌≡◌, inl, inr, Bool, true, false, cond, nat_lt, List, [], length, refl, ap, sym, subst, ◌∙◌, Option, Some, None, unwrap_or}
use Rattle.uss_intent.specs.Numbers.{is_one_of}
use Rattle.uss_intent.specs.Refusals.{refusal_number}
use Rattle.uss_intent.specs.declared.records.Reference.{Reference}
use Rattle.uss_intent.specs.declared.calls.DssReply.TheVariants as Replies
use Rattle.uss_intent.specs.declared.calls.DssRefusal.{DssRefusal}
use Rattle.uss_event.specs.declared.asks.AskRefusal.{AskRefusal}
use Rattle.uss_event.specs.declared.entries.Owner.{Owner}
use Rattle.uss_event.specs.declared.entries.Entry.{Entry}
use Rattle.uss_event.specs.declared.entries.Ending.{Ending}
use Rattle.uss_event.specs.declared.entries.Ending.TheVariants as Ends
use Rattle.uss_event.specs.declared.calls.DssCall.{DssCall}
use Rattle.uss_event.specs.declared.calls.PeerCall.TheVariants as Calls
use Rattle.uss_event.specs.declared.calls.PeerReply.TheVariants as Peers
use Rattle.uss_event.specs.declared.events.Answer.{Answer}
use Rattle.uss_event.specs.declared.events.Answer.TheVariants as Answers
use Rattle.uss_event.specs.declared.events.Said.{Said}
use Rattle.uss_event.specs.declared.events.Said.TheVariants as Says
use Rattle.uss_event.specs.declared.events.Event.{Event}
use Rattle.uss_law_dss.specs.Lists.{Has}
use Rattle.uss_law_dss.proofs.Tests.{some_same, less_is, less_test, not_both}
use Rattle.uss_event.specs.declared.entries.Opening.{Opening}
use Rattle.uss_event.specs.declared.entries.Trial.{Trial}
use Rattle.uss_event.specs.declared.entries.Holding.{Holding}
use Rattle.uss_event.specs.declared.entries.Closing.{Closing}
use Rattle.uss_law_book.specs.Contents.{is_closed, trial_of, holding_of, ending_of}
use Rattle.uss_law_duty.specs.Answers.{is_final, flight_of, by_trial, by_end, by_close, kept_answer, job_named}
use Rattle.uss_law_duty.specs.Sayings.{others}
use Rattle.uss_law_duty.specs.Entered.{shown_tag}
use Rattle.uss_law_supplier.specs.Turns.{Standing}
use Rattle.uss_law_supplier.specs.Jobs.{keeps_key, owns_tag}
use Rattle.uss_law_asking.specs.Exchange.{Exchanged}
use Rattle.uss_law_asking.specs.Exchange.Exchanged.{OfDss, OfPeer}
use Rattle.uss_law_asking.specs.Causes.{IsCarriedOut, outcome, book_then, is_answer, settled, IsRefusedByDss, IsRefusedByPeer, FindsTooMany, IsAnothers, CrowdedIsFound, DssRefusedIsReplied, PeerRefusedIsReplied, UnsettledIsGot}
use Rattle.uss_law_asking.proofs.Ends.{none_held, none_done}
use Rattle.uss_law_asking.proofs.Stops.{by_found, by_got, by_refusal, stop_by}
use Rattle.uss_law_asking.proofs.Outcomes.{Outcome, outcome_of}
use Rattle.uss_law_asking.proofs.Outcomes.Outcome.{Refused, Steady, Kept, Stopped}

-- what a book keeps is final, and of a closed job

trial_final : (flight : ℕ) (h : Holding) (x : Option Trial) (a : Answer) → by_trial flight h x ≡ Some a → is_final a ≡ true
trial_final flight h None a e = cc
trial_final flight h (Some t) a e = go t.previous e
  where
    go : (p : Option (List ℕ)) → by_trial flight h (Some (record t { previous = p })) ≡ Some a → is_final a ≡ true
    go None q = ap is_final (sym (some_same (Answers.Planned flight h.tag t.alternative h.ovn h.version) a q))
    go (Some p) q = ap is_final (sym (some_same (Answers.Changed flight h.tag t.alternative h.ovn h.version) a q))

pub end_final : (flight : ℕ) (end : Ending) → is_final (by_end flight end) ≡ true
end_final flight (Ends.Conflict other manager rule) = refl
end_final flight (Ends.Stale missing) = refl
end_final flight Ends.Cancelled = refl
end_final flight (Ends.Ended owed) = refl

close_final : (book : List Entry) (flight : ℕ) (h : Option Holding) (d : Option Closing) (a : Answer) → by_close book flight h d ≡ Some a → is_final a ≡ true
close_final book flight (Some h) d a e = trial_final flight h (trial_of h.tag book) a e
close_final book flight None (Some d) a e = ap is_final (sym (some_same (by_end flight d.end) a e)) ∙ end_final flight d.end
close_final book flight None None a e = cc

pub kept_final : (owner : Owner) (o : Opening) (book : List Entry) (a : Answer) → kept_answer owner o book ≡ Some a → is_final a ≡ true
unfolding kept_answer
kept_final owner o book a e = close_final book (flight_of owner o) (holding_of o.job book) (ending_of o.job book) a e

pub open_keeps_none : (owner : Owner) (o : Opening) (book : List Entry) → is_closed o.job book ≡ false → kept_answer owner o book ≡ None
unfolding kept_answer
open_keeps_none owner o book u = rw (none_held o.job book u, none_done o.job book u) refl

-- why a job stops at a reply

pub data Why (owner : Owner) (o : Opening) (book : List Entry) (z : Exchanged) (a : Answer) : Type 0 where
  Finds : (call : DssCall) (references : List Reference) (is : z ≡ OfDss call (Replies.Found references)) (keyed : keeps_key o.ask.wish ≡ true) (many : 1024 < length (others (flight_of owner o) references))
      (answer : a ≡ Answers.Crowded (length (others (flight_of owner o) references))) → Why owner o book z a
  Gets : (call : DssCall) (reference : Reference) (is : z ≡ OfDss call (Replies.Got reference)) (not_own : owns_tag o.job book (shown_tag reference) ≡ false)
      (answer : a ≡ Answers.Unsettled (unwrap_or (shown_tag reference) 0)) → Why owner o book z a
  Refuses : (call : DssCall) (refusal : DssRefusal) (is : z ≡ OfDss call (Replies.Refused refusal)) (unsettled : is_one_of (refusal_number refusal) (settled (keeps_key o.ask.wish) call.ask) ≡ false)
      (answer : a ≡ Answers.DssRefused (refusal_number refusal)) → Why owner o book z a
  PeerRefuses : (job flight : ℕ) (manager base : List ℕ) (status : ℕ) (is : z ≡ OfPeer (Calls.Details job flight manager base) (Peers.Status status)) (answer : a ≡ Answers.PeerRefused manager status) → Why owner o book z a

pub why_stops : (owner : Owner) (o : Opening) (book : List Entry) (z : Exchanged) (a : Answer) → stop_by owner o book z ≡ Some a → Why owner o book z a
why_stops owner o book (OfDss call (Replies.Found rs)) a h = at_key (keeps_key o.ask.wish) refl h
  where
    at_many : (b : Bool) → nat_lt 1024 (length (others (flight_of owner o) rs)) ≡ b → keeps_key o.ask.wish ≡ true → cond b (Some (Answers.Crowded (length (others (flight_of owner o) rs)))) None ≡ Some a → Why owner o book (OfDss call (Replies.Found rs)) a
    at_many true e k q = Finds call rs refl k (less_is 1024 (length (others (flight_of owner o) rs)) e) (sym (some_same (Answers.Crowded (length (others (flight_of owner o) rs))) a q))
    at_many false e k q = cc

    at_key : (b : Bool) → keeps_key o.ask.wish ≡ b → by_found b (length (others (flight_of owner o) rs)) ≡ Some a → Why owner o book (OfDss call (Replies.Found rs)) a
    at_key true e q = at_many (nat_lt 1024 (length (others (flight_of owner o) rs))) refl e q
    at_key false e q = cc
why_stops owner o book (OfDss call (Replies.Got r)) a h = go (owns_tag o.job book (shown_tag r)) refl h
  where
    go : (b : Bool) → owns_tag o.job book (shown_tag r) ≡ b → by_got b (unwrap_or (shown_tag r) 0) ≡ Some a → Why owner o book (OfDss call (Replies.Got r)) a
    go true e q = cc
    go false e q = Gets call r refl e (sym (some_same (Answers.Unsettled (unwrap_or (shown_tag r) 0)) a q))
why_stops owner o book (OfDss call (Replies.Refused refusal)) a h = go (is_one_of (refusal_number refusal) (settled (keeps_key o.ask.wish) call.ask)) refl h
  where
    go : (b : Bool) → is_one_of (refusal_number refusal) (settled (keeps_key o.ask.wish) call.ask) ≡ b → cond b None (Some (Answers.DssRefused (refusal_number refusal))) ≡ Some a → Why owner o book (OfDss call (Replies.Refused refusal)) a
    go true e q = cc
    go false e q = Refuses call refusal refl e (sym (some_same (Answers.DssRefused (refusal_number refusal)) a q))
why_stops owner o book (OfDss call reply) a h = let q = h in cc
why_stops owner o book (OfPeer (Calls.Details job flight manager base) (Peers.Status status)) a h = PeerRefuses job flight manager base status refl (sym (some_same (Answers.PeerRefused manager status) a h))
why_stops owner o book (OfPeer call reply) a h = let q = h in cc

pub stop_is : (owner : Owner) (o : Opening) (book : List Entry) (z : Exchanged) (a : Answer) → Why owner o book z a → (is_final a ≡ false) × (is_answer (Says.Answer a) ≡ true)
stop_is owner o book z a (Finds call rs is k m e) = rw e (refl, refl)
stop_is owner o book z a (Gets call r is n e) = rw e (refl, refl)
stop_is owner o book z a (Refuses call refusal is u e) = rw e (refl, refl)
stop_is owner o book z a (PeerRefuses job flight manager base status is e) = rw e (refl, refl)

-- what is said

pub said_is : (a b : Answer) (said : Said) → said ≡ Says.Answer a → said ≡ Says.Answer b → a ≡ b
said_is a b said p q = let e : Says.Answer a ≡ Says.Answer b = sym p ∙ q in cc (e)

pub refused_not : {P : Type 0} (r : AskRefusal) (b : Answer) (said : Said) → said ≡ Says.Refused r → said ≡ Says.Answer b → P
refused_not r b said p q = let e : Says.Refused r ≡ Says.Answer b = sym p ∙ q in cc (e)

pub same_job : (event : Event) (book : List Entry) (o p : Opening) → job_named event book ≡ Some o → job_named event book ≡ Some p → o ≡ p
same_job event book o p h k = some_same o p (sym h ∙ k)

pub final_is_answer : (a : Answer) → is_final a ≡ true → is_answer (Says.Answer a) ≡ true
final_is_answer (Answers.Planned flight tag alternative ovn version) h = refl
final_is_answer (Answers.Changed flight tag alternative ovn version) h = refl
final_is_answer (Answers.Ended flight) h = refl
final_is_answer (Answers.Conflict flight manager rule) h = refl
final_is_answer (Answers.Stale missing) h = refl
final_is_answer Answers.Cancelled h = refl
final_is_answer (Answers.Steady f) h = cc
final_is_answer (Answers.Crowded count) h = cc
final_is_answer (Answers.DssRefused number) h = cc
final_is_answer (Answers.PeerRefused peer status) h = cc
final_is_answer (Answers.Unsettled tag) h = cc

pub none_has : {P : Type 0} (xs : List Exchanged) (z : Exchanged) → xs ≡ [] → Has xs z → P
none_has xs z e h = absurd (subst (λ (l : List Exchanged). Has l z) e h)

pub none_some : {P : Type 0} {X : Type 0} (o : Option X) (x : X) → o ≡ None → o ≡ Some x → P
none_some o x p q = let e : None ≡ Some x = sym p ∙ q in cc (e)

-- a job stops with an answer where a reply makes it

abbrev Stops : Standing → ℤ → Event → List Exchanged → Answer → Type 0
Stops s moment event xs a = (o : Opening) × (job_named event (book_then s moment event xs) ≡ Some o) × (z : Exchanged) × Has xs z × (stop_by s.owner o (book_then s moment event xs) z ≡ Some a)

stopped : (s : Standing) (moment : ℤ) (event : Event) (xs : List Exchanged) (a : Answer) → IsCarriedOut s moment event xs → is_final a ≡ false → is_answer (Says.Answer a) ≡ true → outcome s moment event xs ≡ Says.Answer a → Stops s moment event xs a
stopped s moment event xs a c f n h = go (outcome_of s moment event xs c)
  where
    go : Outcome s moment event xs → Stops s moment event xs a
    go (Refused r) = refused_not r.refusal a (outcome s moment event xs) r.is h
    go (Steady r) = not_both (is_answer (Says.Answer a)) n (ap (λ (x : Answer). is_answer (Says.Answer x)) (said_is a (Answers.Steady r.finding) (outcome s moment event xs) h r.is))
    go (Kept r) = not_both (is_final a) (ap is_final (said_is a r.answer (outcome s moment event xs) h r.is) ∙ kept_final s.owner r.opening (book_then s moment event xs) r.answer r.kept) f
    go (Stopped r) = (r.opening, r.named, r.last, r.has, r.stops ∙ ap Some (said_is r.answer a (outcome s moment event xs) r.is h))

stops : (s : Standing) (moment : ℤ) (event : Event) (xs : List Exchanged) (a : Answer) (z : Exchanged) → IsCarriedOut s moment event xs → Has xs z
    → ((o : Opening) → job_named event (book_then s moment event xs) ≡ Some o → stop_by s.owner o (book_then s moment event xs) z ≡ Some a) → outcome s moment event xs ≡ Says.Answer a
stops s moment event xs a z c h by = go (outcome_of s moment event xs c)
  where
    book : List Entry
    book = book_then s moment event xs

    go : Outcome s moment event xs → outcome s moment event xs ≡ Says.Answer a
    go (Refused r) = none_has xs z r.at_once h
    go (Steady r) = none_has xs z r.at_once h
    go (Kept r) = none_some (stop_by s.owner r.opening book z) a (r.goes z h) (by r.opening r.named)
    go (Stopped r) = elim (r.others z h) [
      | inl e ↦ r.is ∙ ap (λ (x : Answer). Says.Answer x) (some_same r.answer a (sym r.stops ∙ ap (stop_by s.owner r.opening book) (sym e) ∙ by r.opening r.named))
      | inr n ↦ none_some (stop_by s.owner r.opening book z) a n (by r.opening r.named)
    ]

-- Crowded

pub crowded_is_found : CrowdedIsFound
crowded_is_found s moment event xs count c = (λ h. to (stopped s moment event xs (Answers.Crowded count) c refl refl h), from)
  where
    book : List Entry
    book = book_then s moment event xs

    why : (o : Opening) (z : Exchanged) → job_named event (book_then s moment event xs) ≡ Some o → Has xs z → Why s.owner o (book_then s moment event xs) z (Answers.Crowded count) → FindsTooMany s.owner (book_then s moment event xs) event xs count
    why o z named has (Finds call rs is k m e) =
        let n : length (others (flight_of s.owner o) rs) ≡ count = (let q = e in cc) in
        record { opening = o; named = named; keyed = k; call = call; references = rs; found = subst (Has xs) is has; so_many = n; too_many = subst (λ i. 1024 < i) n m }
    why o z named has (Gets call r is n e) = let q = e in cc
    why o z named has (Refuses call refusal is u e) = let q = e in cc
    why o z named has (PeerRefuses job flight manager base status is e) = let q = e in cc

    to : Stops s moment event xs (Answers.Crowded count) → FindsTooMany s.owner (book_then s moment event xs) event xs count
    to (o, named, z, has, e) = why o z named has (why_stops s.owner o book z (Answers.Crowded count) e)

    from : FindsTooMany s.owner (book_then s moment event xs) event xs count → outcome s moment event xs ≡ Says.Answer (Answers.Crowded count)
    from f =
        stops s moment event xs (Answers.Crowded count) (OfDss f.call (Replies.Found f.references)) c f.found
        (λ o named. subst (λ (p : Opening). stop_by s.owner p book (OfDss f.call (Replies.Found f.references)) ≡ Some (Answers.Crowded count)) (same_job event book f.opening o f.named named)
        (ap (λ b. by_found b (length (others (flight_of s.owner f.opening) f.references))) f.keyed ∙ ap (λ n. by_found true n) f.so_many ∙ rw (less_test 1024 count f.too_many) refl))

-- DssRefused

pub dss_refused_is_replied : DssRefusedIsReplied
dss_refused_is_replied s moment event xs number c = (λ h. to (stopped s moment event xs (Answers.DssRefused number) c refl refl h), from)
  where
    book : List Entry
    book = book_then s moment event xs

    why : (o : Opening) (z : Exchanged) → job_named event (book_then s moment event xs) ≡ Some o → Has xs z → Why s.owner o (book_then s moment event xs) z (Answers.DssRefused number) → IsRefusedByDss (book_then s moment event xs) event xs number
    why o z named has (Refuses call refusal is u e) =
        let n : refusal_number refusal ≡ number = (let q = e in cc) in
        record { opening = o; named = named; call = call; refusal = refusal; replied = subst (Has xs) is has; number_is = n; unsettled = subst (λ i. is_one_of i (settled (keeps_key o.ask.wish) call.ask) ≡ false) n u }
    why o z named has (Finds call rs is k m e) = let q = e in cc
    why o z named has (Gets call r is n e) = let q = e in cc
    why o z named has (PeerRefuses job flight manager base status is e) = let q = e in cc

    to : Stops s moment event xs (Answers.DssRefused number) → IsRefusedByDss (book_then s moment event xs) event xs number
    to (o, named, z, has, e) = why o z named has (why_stops s.owner o book z (Answers.DssRefused number) e)

    from : IsRefusedByDss (book_then s moment event xs) event xs number → outcome s moment event xs ≡ Says.Answer (Answers.DssRefused number)
    from f =
        stops s moment event xs (Answers.DssRefused number) (OfDss f.call (Replies.Refused f.refusal)) c f.replied
        (λ o named. subst (λ (p : Opening). stop_by s.owner p book (OfDss f.call (Replies.Refused f.refusal)) ≡ Some (Answers.DssRefused number)) (same_job event book f.opening o f.named named)
        (ap (λ n. by_refusal (keeps_key f.opening.ask.wish) f.call.ask n) f.number_is ∙ rw f.unsettled refl))

-- PeerRefused

pub peer_refused_is_replied : PeerRefusedIsReplied
peer_refused_is_replied s moment event xs peer status c = (λ h. to (stopped s moment event xs (Answers.PeerRefused peer status) c refl refl h), from)
  where
    why : (o : Opening) (z : Exchanged) → Has xs z → Why s.owner o (book_then s moment event xs) z (Answers.PeerRefused peer status) → IsRefusedByPeer xs peer status
    why o z has (PeerRefuses job flight manager base status' is e) =
        let m : manager ≡ peer = (let q = e in cc) in
        let n : status' ≡ status = (let q = e in cc) in
        record { job = job; flight = flight; base = base; replied = subst (λ k. Has xs (OfPeer (Calls.Details job flight peer base) (Peers.Status k))) n (subst (λ l. Has xs (OfPeer (Calls.Details job flight l base) (Peers.Status status'))) m (subst (Has xs) is has)) }
    why o z has (Finds call rs is k m e) = let q = e in cc
    why o z has (Gets call r is n e) = let q = e in cc
    why o z has (Refuses call refusal is u e) = let q = e in cc

    to : Stops s moment event xs (Answers.PeerRefused peer status) → IsRefusedByPeer xs peer status
    to (o, named, z, has, e) = why o z has (why_stops s.owner o (book_then s moment event xs) z (Answers.PeerRefused peer status) e)

    from : IsRefusedByPeer xs peer status → outcome s moment event xs ≡ Says.Answer (Answers.PeerRefused peer status)
    from f = stops s moment event xs (Answers.PeerRefused peer status) (OfPeer (Calls.Details f.job f.flight peer f.base) (Peers.Status status)) c f.replied (λ o named. refl)

-- Unsettled

pub unsettled_is_got : UnsettledIsGot
unsettled_is_got s moment event xs tag c = (λ h. to (stopped s moment event xs (Answers.Unsettled tag) c refl refl h), from)
  where
    book : List Entry
    book = book_then s moment event xs

    why : (o : Opening) (z : Exchanged) → job_named event (book_then s moment event xs) ≡ Some o → Has xs z → Why s.owner o (book_then s moment event xs) z (Answers.Unsettled tag) → IsAnothers (book_then s moment event xs) event xs tag
    why o z named has (Gets call r is n e) =
        let t : unwrap_or (shown_tag r) 0 ≡ tag = (let q = e in cc) in
        record { opening = o; named = named; call = call; reference = r; got = subst (Has xs) is has; tag_is = t; not_own = n }
    why o z named has (Finds call rs is k m e) = let q = e in cc
    why o z named has (Refuses call refusal is u e) = let q = e in cc
    why o z named has (PeerRefuses job flight manager base status is e) = let q = e in cc

    to : Stops s moment event xs (Answers.Unsettled tag) → IsAnothers (book_then s moment event xs) event xs tag
    to (o, named, z, has, e) = why o z named has (why_stops s.owner o book z (Answers.Unsettled tag) e)

    from : IsAnothers (book_then s moment event xs) event xs tag → outcome s moment event xs ≡ Says.Answer (Answers.Unsettled tag)
    from f =
        stops s moment event xs (Answers.Unsettled tag) (OfDss f.call (Replies.Got f.reference)) c f.got
        (λ o named. subst (λ (p : Opening). stop_by s.owner p book (OfDss f.call (Replies.Got f.reference)) ≡ Some (Answers.Unsettled tag)) (same_job event book f.opening o f.named named)
        (ap (λ b. by_got b (unwrap_or (shown_tag f.reference) 0)) f.not_own ∙ ap (λ t. Some (Answers.Unsettled t)) f.tag_is))
