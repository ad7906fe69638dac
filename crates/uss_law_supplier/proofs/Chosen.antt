-- That a job may do what its choice comes to.
use Rattle.std.proofs.Common.{ℕ, zero, suc, ℤ, ◌≤◌, ◌<◌, ◌+◌, ◌==◌, Bool, true, false, cond, List, [], ◌∷◌, ◌++◌, ◌≡◌, inl, inr, length, refl, ap, sym, subst, ◌∙◌, arith, Option, Some, None, is_some, slice_get, IfSome}
use Rattle.std.specs.Prelude.{All}
use Rattle.std.specs.List.{find, list_all, filter_map}
use Rattle.std.specs.Option.{option_or, option_and_then}
use Rattle.std.proofs.lemmas.List.Folds.{find-append}
use Rattle.uss_intent.specs.declared.records.State.{State}
use Rattle.uss_intent.specs.declared.records.Reference.{Reference}
use Rattle.uss_event.specs.Pairs.{OperationalIntent}
use Rattle.uss_event.specs.Verdicts.{verdict}
use Rattle.uss_event.specs.declared.rules.Verdict.{Verdict}
use Rattle.uss_event.specs.declared.rules.Verdict.TheVariants.{Clear, EqualForbidden, HigherStands}
use Rattle.uss_event.specs.declared.details.Proposal.{Proposal}
use Rattle.uss_event.specs.declared.asks.Wish.{Wish}
use Rattle.uss_event.specs.declared.asks.Wish.TheVariants.{Put, End}
use Rattle.uss_event.specs.declared.entries.Owner.{Owner}
use Rattle.uss_event.specs.declared.entries.Ending.{Ending}
use Rattle.uss_event.specs.declared.entries.Ending.TheVariants as Ends
use Rattle.uss_event.specs.declared.entries.Entry.{Entry}
use Rattle.uss_event.specs.declared.events.Event.{Event}
use Rattle.uss_plan.specs.declared.choice.Choice.{Choice}
use Rattle.uss_plan.specs.declared.choice.Choice.TheVariants.{Chosen, Blocked}
use Rattle.uss_plan.specs.Choice.{wanted, is_clear, verdict_on, is_free, choice}
use Rattle.uss_law_dss.specs.Lists.{Has}
use Rattle.uss_law_dss.proofs.Lists.{has_left, has_append}
use Rattle.uss_law_dss.proofs.Tests.{equal_number, unequal_number, both, not_both, some_same}
use Rattle.uss_event.specs.declared.entries.Opening.{Opening}
use Rattle.uss_event.specs.declared.entries.Trial.{Trial}
use Rattle.uss_law_book.specs.Lists.{trials}
use Rattle.uss_law_book.specs.Contents.{opening_of, is_put, is_ended, trial_of, trials_of, decision_of, current_ovn_of, is_ticket_open, rounds_of}
use Rattle.uss_law_book.specs.Attempts.{Attempted, attempted, by_wish, attempt_of, held}
use Rattle.uss_intent.specs.Texts.{IsOvn}
use Rattle.uss_intent.specs.States.{is_strategic}
use Rattle.uss_intent.specs.Numbers.{is_one_of}
use Rattle.uss_event.specs.declared.events.Event.TheVariants as Comes
use Rattle.uss_law_book.specs.Coding.{IsRule, IsDecision}
use Rattle.uss_law_book.specs.Legal.{IsBlind, ArePlans, MayEndSo, EndsUntried, EndsPut, EndsWish}
use Rattle.uss_law_book.specs.Orderly.{IsOrderly}
use Rattle.uss_law_book.proofs.Attempts.{owner_kept, parts}
use Rattle.uss_law_book.proofs.Entries.{trials_append, opening_kept}
use Rattle.uss_event.specs.Heard.{News, brought, kept_pair}
use Rattle.uss_event.specs.Heard.News.{Heard}
use Rattle.uss_law_duty.specs.Answers.{flight_of, job_named}
use Rattle.uss_law_duty.specs.Duties.{HearsOnly}
use Rattle.uss_law_duty.specs.Sends.{IsHeldPair}
use Rattle.uss_law_duty.specs.Entered.{candidate_of, IsKnown, KeyIsClear}
use Rattle.uss_law_supplier.specs.declared.duties.Awaited.TheVariants as Waits
use Rattle.uss_law_supplier.specs.Values.{Round, round_of}
use Rattle.uss_law_supplier.specs.Turns.{Standing}
use Rattle.uss_law_supplier.specs.Airspace.{flight_found, held_as, is_own, pair_of, pairs_in, ovn_of, key_of, choice_of}
use Rattle.uss_law_supplier.specs.Jobs.{keeps_key, pending, giving_up_after, giving_up, blocked_by, choosing_by, choosing}
use Rattle.uss_law_supplier.specs.Fitting.{IsPhase}
use Rattle.uss_law_book.proofs.Known.{IsFirm}
use Rattle.uss_law_supplier.proofs.Good.{Sound, IsGood}
use Rattle.uss_law_supplier.specs.Typed.{IsIntent}
use Rattle.uss_law_supplier.proofs.Coded.{all_from, held_pair_coded, decision_ends}
use Rattle.uss_law_supplier.proofs.Jobs.{IsAt}
use Rattle.uss_law_supplier.proofs.Entering.{good_attempting, good_deciding, good_ending}
use Rattle.uss_law_supplier.proofs.Choosing.{chosen_is_free, blocked_is_by, has_picked, key_is_short, kept_pair_was_heard}

-- a pair of the choice is known

pub held_is : (owner : Owner) (id : ℕ) (book : List Entry) (p : OperationalIntent) → held_as owner id book ≡ Some p → IsHeldPair book p
unfolding held_as
held_is owner id book p e = go (flight_found owner id book) e
  where
    go : (x : Option Opening) → option_and_then (λ (o : Opening). held o.ask.flight book) x ≡ Some p → IsHeldPair book p
    go None k = cc
    go (Some o) k = record { flight = o.ask.flight; is = k }

heard_is_known : (heard : List News) (event : Event) (after : List News) (p : OperationalIntent) → HearsOnly heard event after → Has after (Heard p) → Has (heard ++ brought event) (Heard p)
heard_is_known heard event after p (inl e) h = has_left heard (brought event) (Heard p) (subst (λ l. Has l (Heard p)) e h)
heard_is_known heard event after p (inr e) h = subst (λ l. Has l (Heard p)) e h

pair_is_known : (s : Standing) (heard : List News) (event : Event) (round : Round) (r : Reference) (p : OperationalIntent) → HearsOnly heard event s.values.heard → pair_of s round r ≡ Some p
    → IsKnown s.book heard event p
unfolding pair_of
pair_is_known s heard event round r p h e = at_own (is_own s.owner r) e
  where
    at_gone : (b : Bool) → cond b None (kept_pair r.flight s.values.heard) ≡ Some p → IsKnown s.book heard event p
    at_gone true k = cc
    at_gone false k = inl (heard_is_known heard event s.values.heard p h (kept_pair_was_heard r.flight s.values.heard p k))

    at_own : (b : Bool) → cond b (held_as s.owner r.flight s.book) (cond (is_one_of r.flight round.gone) None (kept_pair r.flight s.values.heard)) ≡ Some p → IsKnown s.book heard event p
    at_own true k = inr (held_is s.owner r.flight s.book p k)
    at_own false k = at_gone (is_one_of r.flight round.gone) k

none_found : {X : Type 0} (p : X → Bool) (xs : List X) → ((x : X) → Has xs x → p x ≡ false) → find p xs ≡ None
none_found p [] h = refl
none_found p (x ∷ xs) h = rw (h x (inl refl)) (none_found p xs (λ y k. h y (inr k)))

none_old : (book : List Entry) → IsOrderly book → find (λ (t : Trial). t.tag == (length (trials book) + 1)) (trials book) ≡ None
none_old book d = none_found (λ (t : Trial). t.tag == (length (trials book) + 1)) (trials book)
    (λ t h. (let a = d.tag_numbers t h in unequal_number t.tag (length (trials book) + 1) (λ q. omega (arith, a, q))))

-- the attempt that a new entry makes
new_trial_found : (s : Standing) (o : Opening) (alternative : ℕ) (key : List (List ℕ)) → IsOrderly s.book
    → trial_of (length (trials s.book) + 1) (s.book ++ pending s o alternative key ∷ [])
    ≡ Some (record { job = o.job; tag = length (trials s.book) + 1; alternative = alternative; previous = current_ovn_of o.ask.flight s.book; key = key })
unfolding trial_of
new_trial_found s o alternative key d =
    let tag = length (trials s.book) + 1 in
    let t : Trial = record { job = o.job; tag = tag; alternative = alternative; previous = current_ovn_of o.ask.flight s.book; key = key } in
    ap (λ (l : List Trial). find (λ (t : Trial). t.tag == tag) l) (trials_append s.book (pending s o alternative key ∷ []))
    ∙ find-append (λ (t : Trial). t.tag == tag) (trials s.book) (t ∷ [])
    ∙ ap (λ x. option_or x (find (λ (t : Trial). t.tag == tag) (t ∷ []))) (none_old s.book d)
    ∙ rw (equal_number tag tag refl) refl

abbrev new_trial : Standing → Opening → ℕ → List (List ℕ) → Trial
new_trial s o alternative key = record { job = o.job; tag = length (trials s.book) + 1; alternative = alternative; previous = current_ovn_of o.ask.flight s.book; key = key }

-- it is the one of its job's wish
by_wish_is : (owner : Owner) (o : Opening) (t : Trial) (wish : Wish) (a : Attempted) (to : State) (priority rounds : ℕ) (proposals : List Proposal) (proposal : Proposal) → wish ≡ Put to priority rounds proposals
    → slice_get proposals t.alternative ≡ Some proposal → by_wish owner o t wish ≡ Some a → attempted owner o t to priority proposal ≡ a
by_wish_is owner o t wish a to priority rounds proposals proposal w g e =
    let f : by_wish owner o t wish ≡ Some (attempted owner o t to priority proposal) = rw (w, g) refl in
    some_same (attempted owner o t to priority proposal) a (sym f ∙ e)

new_attempt_is : (s : Standing) (o : Opening) (alternative : ℕ) (key : List (List ℕ)) (a : Attempted) (to : State) (priority rounds : ℕ) (proposals : List Proposal) (proposal : Proposal) → IsAt s o
    → o.ask.wish ≡ Put to priority rounds proposals → slice_get proposals alternative ≡ Some proposal
    → attempt_of (length (trials s.book) + 1) (s.book ++ pending s o alternative key ∷ []) ≡ Some a → attempted s.owner o (new_trial s o alternative key) to priority proposal ≡ a
new_attempt_is s o alternative key a to priority rounds proposals proposal at w g f =
    let book = s.book ++ pending s o alternative key ∷ [] in
    let t : Trial = new_trial s o alternative key in
    let p = parts (length (trials s.book) + 1) book a f in
    let owner : p.owner ≡ s.owner = some_same p.owner s.owner (sym p.has_owner ∙ owner_kept s.book (pending s o alternative key ∷ []) s.owner at.sound.owned) in
    let trial : p.trial ≡ t = some_same p.trial t (sym p.has_trial ∙ new_trial_found s o alternative key at.sound.orderly) in
    let job : p.trial.job ≡ o.job = ap (λ (x : Trial). x.job) trial in
    let opening : p.opening ≡ o = some_same p.opening o (sym p.has_opening ∙ ap (λ j. opening_of j book) job ∙ opening_kept s.book (pending s o alternative key ∷ []) o.job o at.unfinished.opened) in
    let i1 = subst (λ (x : Opening). by_wish p.owner x p.trial x.ask.wish ≡ Some a) opening p.is in
    let i2 = subst (λ (x : Trial). by_wish p.owner o x o.ask.wish ≡ Some a) trial i1 in
    let i3 = subst (λ (x : Owner). by_wish x o t o.ask.wish ≡ Some a) owner i2 in
    by_wish_is s.owner o t o.ask.wish a to priority rounds proposals proposal w g i3

all_has : {X : Type 0} (p : X → Bool) (xs : List X) (x : X) → list_all p xs ≡ true → Has xs x → p x ≡ true
all_has p [] x h k = absurd k
all_has p (y ∷ xs) x h (inl e) = subst (λ z. p z ≡ true) e (both (p y) (list_all p xs) h).0
all_has p (y ∷ xs) x h (inr k) = all_has p xs x (both (p y) (list_all p xs) h).1 k

clear_is : (v : Verdict) → is_clear v ≡ true → v ≡ Clear
clear_is Clear h = refl
clear_is EqualForbidden h = cc
clear_is HigherStands h = cc

-- the key of what is chosen is clear
pub key_is_clear : (s : Standing) (heard : List News) (event : Event) (o : Opening) (round : Round) (alternative : ℕ) (to : State) (priority rounds : ℕ) (proposals : List Proposal) (proposal : Proposal) → IsAt s o
    → HearsOnly heard event s.values.heard → o.ask.wish ≡ Put to priority rounds proposals → slice_get proposals alternative ≡ Some proposal
    → is_free (wanted s.owner.table (flight_of s.owner o) to priority (held o.ask.flight s.book)) (pairs_in s round) proposal ≡ true
    → KeyIsClear s.owner s.book heard event (pending s o alternative (key_of (pairs_in s round)))
unfolding key_of pairs_in verdict_on
key_is_clear s heard event o round alternative to priority rounds proposals proposal at hears w g free a f strategic opening opened ovn h =
    let k = has_picked ovn_of (pairs_in s round) ovn h in
    let r = has_picked (pair_of s round) round.found k.0 k.1 in
    let is = new_attempt_is s o alternative (key_of (pairs_in s round)) a to priority rounds proposals proposal at w g f in
    let same : o ≡ opening = some_same o opening (sym at.unfinished.opened ∙ opened) in
    let clear = clear_is _ (all_has (λ p. is_clear (verdict_on (wanted s.owner.table (flight_of s.owner o) to priority (held o.ask.flight s.book)) proposal p)) (pairs_in s round) k.0 free k.1) in
    record {
      pair = k.0;
      known = pair_is_known s heard event round r.0 k.0 hears r.2;
      ovn_is = k.2;
      clear = subst (λ (x : Opening). verdict s.owner.table (candidate_of a) k.0 (held x.ask.flight s.book) ≡ Clear) same
          (subst (λ (x : Attempted). verdict s.owner.table (candidate_of x) k.0 (held o.ask.flight s.book) ≡ Clear) is clear);
    }

-- what the pairs of a choice are

got_has : {X : Type 0} (xs : List X) (i : ℕ) (x : X) → slice_get xs i ≡ Some x → Has xs x
got_has [] i x e = cc
got_has (y ∷ xs) zero x e = inl (some_same y x e)
got_has (y ∷ xs) (suc i) x e = inr (got_has xs i x e)

pair_is_valid : (s : Standing) (round : Round) (p : OperationalIntent) → Sound s → Has (pairs_in s round) p → IsIntent p
unfolding pairs_in
pair_is_valid s round p d h =
    let r = has_picked (pair_of s round) round.found p h in
    elim (pair_is_known s s.values.heard (Comes.Sweep 0) round r.0 p (inl refl) r.2) [
      | inl known ↦ elim (has_append s.values.heard [] (Heard p) known) [ inl a ↦ d.heard p a | inr n ↦ absurd n ]
      | inr held ↦ held_pair_coded s p d held
    ]

key_is_valid : (s : Standing) (round : Round) → Sound s → All IsOvn (key_of (pairs_in s round))
unfolding key_of
key_is_valid s round d = all_from IsOvn (filter_map ovn_of (pairs_in s round)) valid
  where
    valid : (ovn : List ℕ) → Has (filter_map ovn_of (pairs_in s round)) ovn → IsOvn ovn
    valid ovn h =
        let k = has_picked ovn_of (pairs_in s round) ovn h in
        let v = (pair_is_valid s round k.0 d k.1).ovn in
        subst (λ (x : Option (List ℕ)). IfSome x IsOvn) k.2 v

rule_is : (rule : Verdict) → is_clear rule ≡ false → IsRule rule
rule_is Clear h = cc
rule_is EqualForbidden h = tt
rule_is HigherStands h = tt

conflict_is_valid : (p : OperationalIntent) (rule : Verdict) → IsIntent p → is_clear rule ≡ false → IsDecision (Ends.Conflict p.reference.flight p.reference.manager rule)
conflict_is_valid p rule t v = (t.flight, t.manager, rule_is rule v)

-- a job gives up

ends_wish : (book : List Entry) (job : ℕ) (end : Ending) (wish : Wish) → is_put wish ≡ true → EndsPut book job end → EndsWish book job end wish
ends_wish book job end (Put to priority rounds proposals) h e = e
ends_wish book job end End h e = cc

pub good_giving_up : (s : Standing) (heard : List News) (moment : ℤ) (event : Event) (o : Opening) (end : Ending) → IsAt s o → is_put o.ask.wish ≡ true → decision_of o.job s.book ≡ None
    → ((tried rounds : ℕ) → MayEndSo tried rounds end) → EndsUntried (is_ticket_open o.job s.book) end → is_ended end ≡ false → IsDecision end → job_named event s.book ≡ Some o
    → IsGood s heard moment event (giving_up s o end)
good_giving_up s heard moment event o end a put undecided so untried not_ended valid named = go (trials_of o.job s.book) refl
  where
    go : (ts : List Trial) → trials_of o.job s.book ≡ ts → IsGood s heard moment event (giving_up_after s o end ts)
    go [] e =
        good_ending s heard moment event o end a
        (record { opening = o; opened = a.unfinished.opened; unclosed = a.unfinished.unclosed; wish = ends_wish s.book o.job end o.ask.wish put (inr (e, untried)) })
        ((λ q. not_both (is_ended end) q not_ended), (λ q. not_both (is_some (decision_of o.job s.book)) q (rw undecided refl)))
        named (decision_ends end valid)
    go (t ∷ ts) e =
        good_deciding s heard moment event o end a (record { put = put; tried = rw e (omega arith); undecided = undecided; so = so (length (trials_of o.job s.book)) (rounds_of o.ask.wish) }) valid

-- a choice

keyed_put : (wish : Wish) → keeps_key wish ≡ true → (to : State) × (priority : ℕ) × (rounds : ℕ) × (proposals : List Proposal) × (wish ≡ Put to priority rounds proposals) × (is_strategic to ≡ true)
keyed_put (Put to priority rounds proposals) h = (to, priority, rounds, proposals, refl, h)
keyed_put End h = cc

keyed_blind : (to : State) (alternative : ℕ) (key : List (List ℕ)) → is_strategic to ≡ true → IsBlind (is_strategic to) alternative key
keyed_blind to alternative key h = rw h tt

firm_put : (wish : Wish) (to : State) (priority rounds : ℕ) (proposals : List Proposal) → wish ≡ Put to priority rounds proposals → IsFirm wish → ArePlans to priority rounds proposals
firm_put wish to priority rounds proposals w f = subst IsFirm w f

pub good_choosing : (s : Standing) (heard : List News) (moment : ℤ) (event : Event) (o : Opening) → IsAt s o → IsPhase s.book o Waits.Details → length (round_of o.job s.values).found ≤ 1024
    → HearsOnly heard event s.values.heard → job_named event s.book ≡ Some o → IsGood s heard moment event (choosing s o)
good_choosing s heard moment event o a p few hears named =
    let w = keyed_put o.ask.wish p.1 in
    let pairs = pairs_in s (round_of o.job s.values) in
    let wants = wanted s.owner.table (flight_of s.owner o) w.0 w.1 (held o.ask.flight s.book) in
    go w.0 w.1 w.2 w.3 w.4 w.5 (choice_of s o pairs) (by_put w.0 w.1 w.2 w.3 pairs w.4)
  where
    by_put : (to : State) (priority rounds : ℕ) (proposals : List Proposal) (pairs : List OperationalIntent) → o.ask.wish ≡ Put to priority rounds proposals
        → choice (wanted s.owner.table (flight_of s.owner o) to priority (held o.ask.flight s.book)) proposals pairs ≡ choice_of s o pairs
    by_put to priority rounds proposals pairs w = rw w refl

    at_pair : (x : Option OperationalIntent) (rule : Verdict) (q : OperationalIntent) → x ≡ Some q → is_clear rule ≡ false → IsIntent q → IsGood s heard moment event (blocked_by s o rule x)
    at_pair None rule q e v t = cc
    at_pair (Some q2) rule q e v t =
        good_giving_up s heard moment event o (Ends.Conflict q2.reference.flight q2.reference.manager rule) a p.0.put p.0.undecided (λ tried rounds. tt) p.0.ticket refl
        (conflict_is_valid q2 rule (subst IsIntent (sym (some_same q2 q e)) t) v) named

    go : (to : State) (priority rounds : ℕ) (proposals : List Proposal) (w : o.ask.wish ≡ Put to priority rounds proposals) → is_strategic to ≡ true → (c : Choice)
        → choice (wanted s.owner.table (flight_of s.owner o) to priority (held o.ask.flight s.book)) proposals (pairs_in s (round_of o.job s.values)) ≡ c
        → IsGood s heard moment event (choosing_by s o (pairs_in s (round_of o.job s.values)) c)
    go to priority rounds proposals w keyed (Chosen alternative) e =
        let f = chosen_is_free (wanted s.owner.table (flight_of s.owner o) to priority (held o.ask.flight s.book)) proposals (pairs_in s (round_of o.job s.values)) alternative e in
        let k = key_is_short s (round_of o.job s.values) in
        good_attempting s heard moment event o alternative (key_of (pairs_in s (round_of o.job s.values))) a
        (record {
          to = to;
          priority = priority;
          rounds = rounds;
          proposals = proposals;
          put = w;
          ticket = p.0.ticket;
          undecided = p.0.undecided;
          round = subst (λ n. length (trials_of o.job s.book) < n) (ap rounds_of w) p.0.round;
          one_of = f.within;
          few = omega (arith, k, few);
          blind = keyed_blind to alternative (key_of (pairs_in s (round_of o.job s.values))) keyed;
        })
        (key_is_clear s heard event o (round_of o.job s.values) alternative to priority rounds proposals f.proposal a hears w f.at f.free)
        (key_is_valid s (round_of o.job s.values) a.sound)
    go to priority rounds proposals w keyed (Blocked place rule) e =
        let plans = firm_put o.ask.wish to priority rounds proposals w (a.sound.known.firm o a.has) in
        let some = plans.some_proposals in
        let b = blocked_is_by (wanted s.owner.table (flight_of s.owner o) to priority (held o.ask.flight s.book)) proposals (pairs_in s (round_of o.job s.values)) place rule (omega (arith, some)) e in
        at_pair (slice_get (pairs_in s (round_of o.job s.values)) place) rule b.pair b.at b.against (pair_is_valid s (round_of o.job s.values) b.pair a.sound (got_has (pairs_in s (round_of o.job s.values)) place b.pair b.at))
