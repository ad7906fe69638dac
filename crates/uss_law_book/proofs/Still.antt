-- What an entry doesn't change of what a book tells: all of other jobs, and of its own what the entry doesn't say.
use Rattle.std.proofs.Common.{ℕ, ◌+◌, ◌*◌, ◌==◌, Bool, true, false, not, ◌||◌, ◌&&◌, List, [], ◌∷◌, ◌++◌, ◌≡◌, filter, length, append-nil, refl, ap, ◌∙◌, Some, None, is_some}
use Rattle.std.specs.List.{list_any, find, range_with_len}
use Rattle.std.specs.Option.{option_or}
use Rattle.std.proofs.lemmas.List.Folds.{list_any-append, find-append}
use Rattle.uss_intent.specs.declared.records.Subscriber.{Subscriber}
use Rattle.uss_intent.specs.Numbers.{is_one_of}
use Rattle.uss_event.specs.declared.entries.Ending.{Ending}
use Rattle.uss_event.specs.declared.entries.Entry.{Entry}
use Rattle.uss_event.specs.declared.entries.Entry.TheVariants.{Held, Deciding, Done, TicketGone, Sent}
use Rattle.uss_law_dss.proofs.Tests.{equal_number, none_is}
use Rattle.uss_event.specs.declared.entries.Holding.{Holding}
use Rattle.uss_event.specs.declared.entries.Closing.{Closing}
use Rattle.uss_event.specs.declared.entries.Sending.{Sending}
use Rattle.uss_law_book.specs.Lists.{tickets_opened, holdings, decisions, endings, tickets_gone, sendings}
use Rattle.uss_law_book.specs.Contents.{is_held, is_done, is_closed, decision_of, holding_of, ending_of, is_ticket_open, is_ticket_gone, owed_of, is_sent, unsent, keeps_ticket}
use Rattle.uss_law_book.proofs.Finds.{any_found, or_false, or_none}
use Rattle.uss_law_book.proofs.Entries.{holdings_append, endings_append}
use Rattle.uss_law_book.proofs.Others.{is_of_job, tickets_append, decisions_append, closed_same, ticket_same, decision_same}

pub gone_append : (xs ys : List Entry) → tickets_gone (xs ++ ys) ≡ tickets_gone xs ++ tickets_gone ys
gone_append [] ys = refl
gone_append (TicketGone job ∷ xs) ys = ap (λ (l : List ℕ). job ∷ l) (gone_append xs ys)
gone_append (_ ∷ xs) ys = gone_append xs ys

pub sendings_append : (xs ys : List Entry) → sendings (xs ++ ys) ≡ sendings xs ++ sendings ys
sendings_append [] ys = refl
sendings_append (Sent n ∷ xs) ys = ap (λ (l : List Sending). n ∷ l) (sendings_append xs ys)
sendings_append (_ ∷ xs) ys = sendings_append xs ys

-- ---- by the old entries or by the new ones

pub held_either : (job : ℕ) (xs ys : List Entry) → is_held job (xs ++ ys) ≡ (is_held job xs || is_held job ys)
unfolding is_held
held_either job xs ys = rw (holdings_append xs ys) (list_any-append (λ h. h.job == job) (holdings xs) (holdings ys))

pub done_either : (job : ℕ) (xs ys : List Entry) → is_done job (xs ++ ys) ≡ (is_done job xs || is_done job ys)
unfolding is_done
done_either job xs ys = rw (endings_append xs ys) (list_any-append (λ d. d.job == job) (endings xs) (endings ys))

pub gone_either : (job : ℕ) (xs ys : List Entry) → is_one_of job (tickets_gone (xs ++ ys)) ≡ (is_one_of job (tickets_gone xs) || is_one_of job (tickets_gone ys))
gone_either job xs ys = rw (gone_append xs ys) (list_any-append (λ m. m == job) (tickets_gone xs) (tickets_gone ys))

pub sent_either : (job index : ℕ) (xs ys : List Entry) → is_sent job index (xs ++ ys) ≡ (is_sent job index xs || is_sent job index ys)
unfolding is_sent
sent_either job index xs ys = rw (sendings_append xs ys) (list_any-append (λ t. (t.job == job) && (t.index == index)) (sendings xs) (sendings ys))

-- ---- by an entry that says nothing of the kind

holdings_still : (es : List Entry) (e : Entry) → holdings (e ∷ []) ≡ [] → holdings (es ++ e ∷ []) ≡ holdings es
holdings_still es e h = holdings_append es (e ∷ []) ∙ ap (λ (l : List Holding). holdings es ++ l) h ∙ append-nil (holdings es)

endings_still : (es : List Entry) (e : Entry) → endings (e ∷ []) ≡ [] → endings (es ++ e ∷ []) ≡ endings es
endings_still es e h = endings_append es (e ∷ []) ∙ ap (λ (l : List Closing). endings es ++ l) h ∙ append-nil (endings es)

decisions_still : (es : List Entry) (e : Entry) → decisions (e ∷ []) ≡ [] → decisions (es ++ e ∷ []) ≡ decisions es
decisions_still es e h = decisions_append es (e ∷ []) ∙ ap (λ (l : List Closing). decisions es ++ l) h ∙ append-nil (decisions es)

tickets_still : (es : List Entry) (e : Entry) → tickets_opened (e ∷ []) ≡ [] → tickets_opened (es ++ e ∷ []) ≡ tickets_opened es
tickets_still es e h = tickets_append es (e ∷ []) ∙ ap (λ (l : List ℕ). tickets_opened es ++ l) h ∙ append-nil (tickets_opened es)

all_gone_still : (es : List Entry) (e : Entry) → tickets_gone (e ∷ []) ≡ [] → tickets_gone (es ++ e ∷ []) ≡ tickets_gone es
all_gone_still es e h = gone_append es (e ∷ []) ∙ ap (λ (l : List ℕ). tickets_gone es ++ l) h ∙ append-nil (tickets_gone es)

all_sent_still : (es : List Entry) (e : Entry) → sendings (e ∷ []) ≡ [] → sendings (es ++ e ∷ []) ≡ sendings es
all_sent_still es e h = sendings_append es (e ∷ []) ∙ ap (λ (l : List Sending). sendings es ++ l) h ∙ append-nil (sendings es)

pub held_still : (job : ℕ) (es : List Entry) (e : Entry) → holdings (e ∷ []) ≡ [] → is_held job (es ++ e ∷ []) ≡ is_held job es
unfolding is_held
held_still job es e h = ap (λ (l : List Holding). list_any (λ x. x.job == job) l) (holdings_still es e h)

pub done_still : (job : ℕ) (es : List Entry) (e : Entry) → endings (e ∷ []) ≡ [] → is_done job (es ++ e ∷ []) ≡ is_done job es
unfolding is_done
done_still job es e h = ap (λ (l : List Closing). list_any (λ x. x.job == job) l) (endings_still es e h)

pub closed_still : (job : ℕ) (es : List Entry) (e : Entry) → holdings (e ∷ []) ≡ [] → endings (e ∷ []) ≡ [] → is_closed job (es ++ e ∷ []) ≡ is_closed job es
closed_still job es e h k = rw (held_still job es e h, done_still job es e k) refl

pub ticket_still : (job : ℕ) (es : List Entry) (e : Entry) → tickets_opened (e ∷ []) ≡ [] → is_ticket_open job (es ++ e ∷ []) ≡ is_ticket_open job es
unfolding is_ticket_open
ticket_still job es e h = ap (λ (l : List ℕ). is_one_of job l) (tickets_still es e h)

pub gone_still : (job : ℕ) (es : List Entry) (e : Entry) → tickets_gone (e ∷ []) ≡ [] → is_one_of job (tickets_gone (es ++ e ∷ [])) ≡ is_one_of job (tickets_gone es)
gone_still job es e h = ap (λ (l : List ℕ). is_one_of job l) (all_gone_still es e h)

pub sent_still : (job index : ℕ) (es : List Entry) (e : Entry) → sendings (e ∷ []) ≡ [] → is_sent job index (es ++ e ∷ []) ≡ is_sent job index es
unfolding is_sent
sent_still job index es e h = ap (λ (l : List Sending). list_any (λ t. (t.job == job) && (t.index == index)) l) (all_sent_still es e h)

pub holding_still : (job : ℕ) (es : List Entry) (e : Entry) → holdings (e ∷ []) ≡ [] → holding_of job (es ++ e ∷ []) ≡ holding_of job es
unfolding holding_of
holding_still job es e h = ap (λ (l : List Holding). find (λ x. x.job == job) l) (holdings_still es e h)

pub ending_still : (job : ℕ) (es : List Entry) (e : Entry) → endings (e ∷ []) ≡ [] → ending_of job (es ++ e ∷ []) ≡ ending_of job es
unfolding ending_of
ending_still job es e h = ap (λ (l : List Closing). find (λ x. x.job == job) l) (endings_still es e h)

pub decision_still : (job : ℕ) (es : List Entry) (e : Entry) → decisions (e ∷ []) ≡ [] → decision_of job (es ++ e ∷ []) ≡ decision_of job es
unfolding decision_of
decision_still job es e h = ap (λ (l : List Closing). find (λ x. x.job == job) l) (decisions_still es e h)

pub owed_still : (job : ℕ) (es : List Entry) (e : Entry) → holdings (e ∷ []) ≡ [] → endings (e ∷ []) ≡ [] → owed_of job (es ++ e ∷ []) ≡ owed_of job es
unfolding owed_of
owed_still job es e h k = rw (holding_still job es e h, ending_still job es e k) refl

pub ticket_gone_still : (job : ℕ) (es : List Entry) (e : Entry) → decisions (e ∷ []) ≡ [] → endings (e ∷ []) ≡ [] → tickets_gone (e ∷ []) ≡ [] → is_ticket_gone job (es ++ e ∷ []) ≡ is_ticket_gone job es
unfolding is_ticket_gone
ticket_gone_still job es e h k g = rw (gone_still job es e g, done_still job es e k, decision_still job es e h) refl

pub filters_agree : (p q : ℕ → Bool) (ns : List ℕ) → ((n : ℕ) → p n ≡ q n) → filter p ns ≡ filter q ns
filters_agree p q [] h = refl
filters_agree p q (n ∷ ns) h = rw (h n, filters_agree p q ns h) refl

unsent_by : (job : ℕ) (es : List Entry) (e : Entry) → owed_of job (es ++ e ∷ []) ≡ owed_of job es → ((index : ℕ) → is_sent job index (es ++ e ∷ []) ≡ is_sent job index es) → unsent job (es ++ e ∷ []) ≡ unsent job es
unfolding unsent
unsent_by job es e o t =
    ap (λ (owed : List Subscriber). filter (λ index. not (is_sent job index (es ++ e ∷ []))) (range_with_len 0 (length owed))) o
    ∙ filters_agree (λ index. not (is_sent job index (es ++ e ∷ []))) (λ index. not (is_sent job index es)) (range_with_len 0 (length (owed_of job es))) (λ index. ap not (t index))

pub unsent_still : (job : ℕ) (es : List Entry) (e : Entry) → holdings (e ∷ []) ≡ [] → endings (e ∷ []) ≡ [] → sendings (e ∷ []) ≡ [] → unsent job (es ++ e ∷ []) ≡ unsent job es
unsent_still job es e h k t = unsent_by job es e (owed_still job es e h k) (λ index. sent_still job index es e t)

-- ---- by the entry itself

pub holds_it : (job tag : ℕ) (ovn : List ℕ) (version : ℕ) (owed : List Subscriber) → is_held job (Held (record { job = job; tag = tag; ovn = ovn; version = version; owed = owed }) ∷ []) ≡ true
unfolding is_held
holds_it job tag ovn version owed = rw (equal_number job job refl) refl

pub ends_it : (job : ℕ) (end : Ending) → is_done job (Done (record { job = job; end = end }) ∷ []) ≡ true
unfolding is_done
ends_it job end = rw (equal_number job job refl) refl

pub goes_now : (job : ℕ) → is_one_of job (tickets_gone (TicketGone job ∷ [])) ≡ true
goes_now job = rw (equal_number job job refl) refl

pub sends_it : (job index p : ℕ) → is_sent job p (Sent (record { job = job; index = index }) ∷ []) ≡ (index == p)
unfolding is_sent
sends_it job index p = rw (equal_number job job refl) (or_false (index == p))

pub nothing_held : (job : ℕ) (es : List Entry) → is_held job es ≡ false → holding_of job es ≡ None
unfolding is_held holding_of
nothing_held job es h = none_is (find (λ (x : Holding). x.job == job) (holdings es)) (any_found (λ (x : Holding). x.job == job) (holdings es) ∙ h)

pub nothing_ended : (job : ℕ) (es : List Entry) → is_done job es ≡ false → ending_of job es ≡ None
unfolding is_done ending_of
nothing_ended job es h = none_is (find (λ (x : Closing). x.job == job) (endings es)) (any_found (λ (x : Closing). x.job == job) (endings es) ∙ h)

pub held_now : (es : List Entry) (x : Holding) → holding_of x.job es ≡ None → holding_of x.job (es ++ Held x ∷ []) ≡ Some x
unfolding holding_of
held_now es x h =
    ap (λ (l : List Holding). find (λ (y : Holding). y.job == x.job) l) (holdings_append es (Held x ∷ []))
    ∙ find-append (λ (y : Holding). y.job == x.job) (holdings es) (x ∷ [])
    ∙ rw (h, equal_number x.job x.job refl) refl

pub ended_now : (es : List Entry) (x : Closing) → ending_of x.job es ≡ None → ending_of x.job (es ++ Done x ∷ []) ≡ Some x
unfolding ending_of
ended_now es x h =
    ap (λ (l : List Closing). find (λ (y : Closing). y.job == x.job) l) (endings_append es (Done x ∷ []))
    ∙ find-append (λ (y : Closing). y.job == x.job) (endings es) (x ∷ [])
    ∙ rw (h, equal_number x.job x.job refl) refl

-- what a job decides is decided then
pub decided_then : (job : ℕ) (es : List Entry) (end : Ending) → decision_of job es ≡ None → is_some (decision_of job (es ++ Deciding (record { job = job; end = end }) ∷ [])) ≡ true
unfolding decision_of
decided_then job es end h =
    let d : Closing = record { job = job; end = end } in
    let e : find (λ (c : Closing). c.job == job) (decisions (es ++ Deciding (record { job = job; end = end }) ∷ [])) ≡ Some d =
    ap (λ (l : List Closing). find (λ (c : Closing). c.job == job) l) (decisions_append es (Deciding (record { job = job; end = end }) ∷ []))
    ∙ find-append (λ (c : Closing). c.job == job) (decisions es) (d ∷ [])
    ∙ ap (λ o. option_or o (find (λ (c : Closing). c.job == job) (d ∷ []))) h
    ∙ rw (equal_number job job refl) refl in
    ap is_some e

-- ---- of another job

none_held : (job : ℕ) (e : Entry) → is_of_job job e ≡ false → find (λ (x : Holding). x.job == job) (holdings (e ∷ [])) ≡ None
none_held job (Held holding) h = rw h refl
none_held job _ h = refl

none_ended : (job : ℕ) (e : Entry) → is_of_job job e ≡ false → find (λ (x : Closing). x.job == job) (endings (e ∷ [])) ≡ None
none_ended job (Done d) h = rw h refl
none_ended job _ h = refl

none_gone : (job : ℕ) (e : Entry) → is_of_job job e ≡ false → is_one_of job (tickets_gone (e ∷ [])) ≡ false
none_gone job (TicketGone j) h = rw h refl
none_gone job _ h = refl

not_ended : (job : ℕ) (e : Entry) → is_of_job job e ≡ false → is_done job (e ∷ []) ≡ false
unfolding is_done
not_ended job (Done d) h = rw h refl
not_ended job _ h = refl

none_sent : (job index : ℕ) (e : Entry) → is_of_job job e ≡ false → is_sent job index (e ∷ []) ≡ false
unfolding is_sent
none_sent job index (Sent n) h = rw h refl
none_sent job index _ h = refl

holding_same : (job : ℕ) (es : List Entry) (e : Entry) → is_of_job job e ≡ false → holding_of job (es ++ e ∷ []) ≡ holding_of job es
unfolding holding_of
holding_same job es e h =
    ap (λ (l : List Holding). find (λ (x : Holding). x.job == job) l) (holdings_append es (e ∷ []))
    ∙ find-append (λ (x : Holding). x.job == job) (holdings es) (holdings (e ∷ []))
    ∙ ap (λ o. option_or (find (λ (x : Holding). x.job == job) (holdings es)) o) (none_held job e h)
    ∙ or_none (find (λ (x : Holding). x.job == job) (holdings es))

ending_same : (job : ℕ) (es : List Entry) (e : Entry) → is_of_job job e ≡ false → ending_of job (es ++ e ∷ []) ≡ ending_of job es
unfolding ending_of
ending_same job es e h =
    ap (λ (l : List Closing). find (λ (x : Closing). x.job == job) l) (endings_append es (e ∷ []))
    ∙ find-append (λ (x : Closing). x.job == job) (endings es) (endings (e ∷ []))
    ∙ ap (λ o. option_or (find (λ (x : Closing). x.job == job) (endings es)) o) (none_ended job e h)
    ∙ or_none (find (λ (x : Closing). x.job == job) (endings es))

done_same : (job : ℕ) (es : List Entry) (e : Entry) → is_of_job job e ≡ false → is_done job (es ++ e ∷ []) ≡ is_done job es
done_same job es e h = done_either job es (e ∷ []) ∙ ap (λ b. is_done job es || b) (not_ended job e h) ∙ or_false (is_done job es)

gone_same : (job : ℕ) (es : List Entry) (e : Entry) → is_of_job job e ≡ false → is_one_of job (tickets_gone (es ++ e ∷ [])) ≡ is_one_of job (tickets_gone es)
gone_same job es e h = gone_either job es (e ∷ []) ∙ ap (λ b. is_one_of job (tickets_gone es) || b) (none_gone job e h) ∙ or_false (is_one_of job (tickets_gone es))

sent_same : (job index : ℕ) (es : List Entry) (e : Entry) → is_of_job job e ≡ false → is_sent job index (es ++ e ∷ []) ≡ is_sent job index es
sent_same job index es e h = sent_either job index es (e ∷ []) ∙ ap (λ b. is_sent job index es || b) (none_sent job index e h) ∙ or_false (is_sent job index es)

owed_same : (job : ℕ) (es : List Entry) (e : Entry) → is_of_job job e ≡ false → owed_of job (es ++ e ∷ []) ≡ owed_of job es
unfolding owed_of
owed_same job es e h = rw (holding_same job es e h, ending_same job es e h) refl

ticket_gone_same : (job : ℕ) (es : List Entry) (e : Entry) → is_of_job job e ≡ false → is_ticket_gone job (es ++ e ∷ []) ≡ is_ticket_gone job es
unfolding is_ticket_gone
ticket_gone_same job es e h = rw (gone_same job es e h, done_same job es e h, decision_same job es e h) refl

-- ---- what is kept free for a job

abbrev pub one_if : Bool → ℕ
one_if true = 1
one_if false = 0

unfoldable pub cost : List Entry → ℕ → ℕ
cost es job = 8388608 * one_if (not (is_closed job es)) + 64 * length (unsent job es) + 64 * one_if (keeps_ticket job es)

pub cost_still : (job : ℕ) (es : List Entry) (e : Entry) → is_of_job job e ≡ false → cost (es ++ e ∷ []) job ≡ cost es job
unfolding cost
cost_still job es e h =
    rw (
      closed_same job es e h,
      unsent_by job es e (owed_same job es e h) (λ index. sent_same job index es e h),
      ticket_same job es e h,
      ticket_gone_same job es e h,
    ) refl
