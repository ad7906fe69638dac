-- An entry of one job leaves what the book says of each other job as it is.
use Rattle.std.proofs.Common.{ℕ, ◌==◌, Bool, false, ◌||◌, List, [], ◌∷◌, ◌++◌, ◌≡◌, ◌⊎◌, refl, ap, subst, ◌∙◌, None}
use Rattle.std.specs.List.{find}
use Rattle.std.specs.Option.{option_or}
use Rattle.std.proofs.lemmas.List.{append-nil}
use Rattle.std.proofs.lemmas.List.Folds.{list_any-append, find-append}
use Rattle.std.proofs.lemmas.List.Elements.{filter-append}
use Rattle.uss_intent.specs.Numbers.{is_one_of}
use Rattle.uss_event.specs.declared.entries.Entry.{Entry}
use Rattle.uss_event.specs.declared.entries.Entry.TheVariants.{Opened, TicketOpen, Pending, Held, Deciding, Done, TicketGone, Sent}
use Rattle.uss_event.specs.declared.entries.Entry.TheVariants as Enters
use Rattle.uss_law_dss.specs.Lists.{Has}
use Rattle.uss_law_dss.proofs.Lists.{has_append}
use Rattle.uss_event.specs.declared.entries.Trial.{Trial}
use Rattle.uss_event.specs.declared.entries.Closing.{Closing}
use Rattle.uss_law_book.specs.Lists.{tickets_opened, trials, decisions}
use Rattle.uss_law_book.specs.Contents.{is_held, is_done, is_closed, is_ticket_open, decision_of, trials_of}
use Rattle.uss_law_book.proofs.Finds.{or_false, or_none}
use Rattle.uss_law_book.proofs.Entries.{trials_append, closed_by_either}

-- the entry is one of the job
abbrev pub is_of_job : ℕ → Entry → Bool
is_of_job i (Enters.Owner owner) = false
is_of_job i (Opened o) = o.job == i
is_of_job i (TicketOpen job) = job == i
is_of_job i (Pending t) = t.job == i
is_of_job i (Held h) = h.job == i
is_of_job i (Deciding d) = d.job == i
is_of_job i (Done d) = d.job == i
is_of_job i (TicketGone job) = job == i
is_of_job i (Sent n) = n.job == i

pub tickets_append : (xs ys : List Entry) → tickets_opened (xs ++ ys) ≡ tickets_opened xs ++ tickets_opened ys
tickets_append [] ys = refl
tickets_append (TicketOpen job ∷ xs) ys = ap (λ (l : List ℕ). job ∷ l) (tickets_append xs ys)
tickets_append (_ ∷ xs) ys = tickets_append xs ys

pub decisions_append : (xs ys : List Entry) → decisions (xs ++ ys) ≡ decisions xs ++ decisions ys
decisions_append [] ys = refl
decisions_append (Deciding d ∷ xs) ys = ap (λ (l : List Closing). d ∷ l) (decisions_append xs ys)
decisions_append (_ ∷ xs) ys = decisions_append xs ys

pub which_ticket : (xs ys : List Entry) (job : ℕ) → Has (tickets_opened (xs ++ ys)) job → Has (tickets_opened xs) job ⊎ Has (tickets_opened ys) job
which_ticket xs ys job h = has_append (tickets_opened xs) (tickets_opened ys) job (subst (λ (l : List ℕ). Has l job) (tickets_append xs ys) h)

pub which_decision : (xs ys : List Entry) (d : Closing) → Has (decisions (xs ++ ys)) d → Has (decisions xs) d ⊎ Has (decisions ys) d
which_decision xs ys d h = has_append (decisions xs) (decisions ys) d (subst (λ (l : List Closing). Has l d) (decisions_append xs ys) h)

unclosed_of : (i : ℕ) (e : Entry) → is_of_job i e ≡ false → is_closed i (e ∷ []) ≡ false
unfolding is_held is_done
unclosed_of i (Held holding) h = rw h refl
unclosed_of i (Done d) h = rw h refl
unclosed_of i _ h = refl

pub closed_same : (i : ℕ) (book : List Entry) (e : Entry) → is_of_job i e ≡ false → is_closed i (book ++ e ∷ []) ≡ is_closed i book
closed_same i book e h = closed_by_either i book (e ∷ []) ∙ ap (λ b. is_closed i book || b) (unclosed_of i e h) ∙ or_false (is_closed i book)

unticketed_of : (i : ℕ) (e : Entry) → is_of_job i e ≡ false → is_one_of i (tickets_opened (e ∷ [])) ≡ false
unticketed_of i (TicketOpen job) h = rw h refl
unticketed_of i _ h = refl

pub ticket_either : (i : ℕ) (xs ys : List Entry) → is_ticket_open i (xs ++ ys) ≡ (is_ticket_open i xs || is_ticket_open i ys)
unfolding is_ticket_open
ticket_either i xs ys = rw (tickets_append xs ys) (list_any-append (λ m. m == i) (tickets_opened xs) (tickets_opened ys))

pub ticket_same : (i : ℕ) (book : List Entry) (e : Entry) → is_of_job i e ≡ false → is_ticket_open i (book ++ e ∷ []) ≡ is_ticket_open i book
unfolding is_ticket_open
ticket_same i book e h = ticket_either i book (e ∷ []) ∙ ap (λ b. is_ticket_open i book || b) (unticketed_of i e h) ∙ or_false (is_ticket_open i book)

none_decided : (i : ℕ) (e : Entry) → is_of_job i e ≡ false → find (λ (d : Closing). d.job == i) (decisions (e ∷ [])) ≡ None
none_decided i (Deciding d) h = rw h refl
none_decided i _ h = refl

pub decision_same : (i : ℕ) (book : List Entry) (e : Entry) → is_of_job i e ≡ false → decision_of i (book ++ e ∷ []) ≡ decision_of i book
unfolding decision_of
decision_same i book e h =
    rw (decisions_append book (e ∷ []))
    (find-append (λ (d : Closing). d.job == i) (decisions book) (decisions (e ∷ [])) ∙ ap (λ o. option_or (find (λ (d : Closing). d.job == i) (decisions book)) o) (none_decided i e h)
    ∙ or_none (find (λ (d : Closing). d.job == i) (decisions book)))

untried_of : (i : ℕ) (e : Entry) → is_of_job i e ≡ false → trials_of i (e ∷ []) ≡ []
unfolding trials_of
untried_of i (Pending t) h = rw h refl
untried_of i _ h = refl

pub trials_either : (i : ℕ) (xs ys : List Entry) → trials_of i (xs ++ ys) ≡ trials_of i xs ++ trials_of i ys
unfolding trials_of
trials_either i xs ys = rw (trials_append xs ys) (filter-append (λ (t : Trial). t.job == i) (trials xs) (trials ys))

pub trials_same : (i : ℕ) (book : List Entry) (e : Entry) → is_of_job i e ≡ false → trials_of i (book ++ e ∷ []) ≡ trials_of i book
trials_same i book e h = trials_either i book (e ∷ []) ∙ ap (λ (l : List Trial). trials_of i book ++ l) (untried_of i e h) ∙ append-nil (trials_of i book)
