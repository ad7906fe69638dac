-- What a book tells, by tests on its entries.
use Rattle.std.proofs.Common.{ℕ, ◌==◌, Bool, true, false, cond, ◌||◌, ◌&&◌, List, [], ◌∷◌, ◌≡◌, refl, ap, Some}
use Rattle.std.specs.List.{list_any, find}
use Rattle.std.specs.Option.{option_and_then}
use Rattle.uss_intent.specs.Numbers.{is_one_of}
use Rattle.uss_event.specs.declared.entries.Entry.{Entry}
use Rattle.uss_event.specs.declared.entries.Entry.TheVariants.{Opened, TicketOpen, Pending, Held, Deciding, Done, TicketGone, Sent}
use Rattle.uss_law_book.specs.Lists.{tickets_gone}
use Rattle.uss_law_book.specs.Contents.{opening_of, is_held, is_done, trial_of, decision_of, holding_of, ending_of, is_ticket_open, is_sent}
use Rattle.uss_book_rules.specs.Speaks.{opens, has_ticket, tries, records, decides, ends, retires, sends, opening_in, trial_in, holding_in, decision_in, ending_in}

pub held_by_any : (job : ℕ) (es : List Entry) → list_any (records job) es ≡ is_held job es
unfolding is_held
held_by_any job [] = refl
held_by_any job (Held h ∷ es) = ap (λ b. (h.job == job) || b) (held_by_any job es)
held_by_any job (_ ∷ es) = held_by_any job es

pub done_by_any : (job : ℕ) (es : List Entry) → list_any (ends job) es ≡ is_done job es
unfolding is_done
done_by_any job [] = refl
done_by_any job (Done d ∷ es) = ap (λ b. (d.job == job) || b) (done_by_any job es)
done_by_any job (_ ∷ es) = done_by_any job es

pub ticket_by_any : (job : ℕ) (es : List Entry) → list_any (has_ticket job) es ≡ is_ticket_open job es
unfolding is_ticket_open
ticket_by_any job [] = refl
ticket_by_any job (TicketOpen j ∷ es) = ap (λ b. (j == job) || b) (ticket_by_any job es)
ticket_by_any job (_ ∷ es) = ticket_by_any job es

pub gone_by_any : (job : ℕ) (es : List Entry) → list_any (retires job) es ≡ is_one_of job (tickets_gone es)
gone_by_any job [] = refl
gone_by_any job (TicketGone j ∷ es) = ap (λ b. (j == job) || b) (gone_by_any job es)
gone_by_any job (_ ∷ es) = gone_by_any job es

pub sent_by_any : (job index : ℕ) (es : List Entry) → list_any (sends job index) es ≡ is_sent job index es
unfolding is_sent
sent_by_any job index [] = refl
sent_by_any job index (Sent n ∷ es) = ap (λ b. ((n.job == job) && (n.index == index)) || b) (sent_by_any job index es)
sent_by_any job index (_ ∷ es) = sent_by_any job index es

-- look-ups
pub opening_by_find : (job : ℕ) (es : List Entry) → opening_of job es ≡ option_and_then opening_in (find (opens job) es)
unfolding opening_of
opening_by_find job [] = refl
opening_by_find job (Opened o ∷ es) = found (o.job == job) (opening_by_find job es)
  where
    found : (b : Bool) → opening_of job es ≡ option_and_then opening_in (find (opens job) es) → cond b (Some o) (opening_of job es) ≡ option_and_then opening_in (cond b (Some (Opened o)) (find (opens job) es))
    found true h = refl
    found false h = h
opening_by_find job (_ ∷ es) = opening_by_find job es

pub trial_by_find : (tag : ℕ) (es : List Entry) → trial_of tag es ≡ option_and_then trial_in (find (tries tag) es)
unfolding trial_of
trial_by_find tag [] = refl
trial_by_find tag (Pending o ∷ es) = found (o.tag == tag) (trial_by_find tag es)
  where
    found : (b : Bool) → trial_of tag es ≡ option_and_then trial_in (find (tries tag) es)
        → cond b (Some o) (trial_of tag es) ≡ option_and_then trial_in (cond b (Some (Pending o)) (find (tries tag) es))
    found true h = refl
    found false h = h
trial_by_find tag (_ ∷ es) = trial_by_find tag es

pub holding_by_find : (job : ℕ) (es : List Entry) → holding_of job es ≡ option_and_then holding_in (find (records job) es)
unfolding holding_of
holding_by_find job [] = refl
holding_by_find job (Held o ∷ es) = found (o.job == job) (holding_by_find job es)
  where
    found : (b : Bool) → holding_of job es ≡ option_and_then holding_in (find (records job) es) → cond b (Some o) (holding_of job es) ≡ option_and_then holding_in (cond b (Some (Held o)) (find (records job) es))
    found true h = refl
    found false h = h
holding_by_find job (_ ∷ es) = holding_by_find job es

pub decision_by_find : (job : ℕ) (es : List Entry) → decision_of job es ≡ option_and_then decision_in (find (decides job) es)
unfolding decision_of
decision_by_find job [] = refl
decision_by_find job (Deciding o ∷ es) = found (o.job == job) (decision_by_find job es)
  where
    found : (b : Bool) → decision_of job es ≡ option_and_then decision_in (find (decides job) es) → cond b (Some o) (decision_of job es) ≡ option_and_then decision_in (cond b (Some (Deciding o)) (find (decides job) es))
    found true h = refl
    found false h = h
decision_by_find job (_ ∷ es) = decision_by_find job es

pub ending_by_find : (job : ℕ) (es : List Entry) → ending_of job es ≡ option_and_then ending_in (find (ends job) es)
unfolding ending_of
ending_by_find job [] = refl
ending_by_find job (Done o ∷ es) = found (o.job == job) (ending_by_find job es)
  where
    found : (b : Bool) → ending_of job es ≡ option_and_then ending_in (find (ends job) es) → cond b (Some o) (ending_of job es) ≡ option_and_then ending_in (cond b (Some (Done o)) (find (ends job) es))
    found true h = refl
    found false h = h
ending_by_find job (_ ∷ es) = ending_by_find job es
