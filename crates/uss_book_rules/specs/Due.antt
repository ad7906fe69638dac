-- Whether an entry is due after others, as tests. `Legal` of the law of the book says the same as facts. This project's own.
use Rattle.std.specs.Prelude.{ℕ, ◌+◌, Bool, true, false, not, ◌&&◌, ◌==◌, nat_lt, nat_le, List, length, Option, Some, None, is_none, is_some}
use Rattle.std.specs.List.{list_all}
use Rattle.std.specs.Option.{option_eq}
use Rattle.uss_intent.specs.Limits.{most_ovns}
use Rattle.uss_intent.specs.Same.{same_text}
use Rattle.uss_intent.specs.declared.records.State.{State}
use Rattle.uss_intent.specs.States.{is_strategic}
use Rattle.uss_event.specs.Plans.{is_plan}
use Rattle.uss_event.specs.Transitions.{may_go}
use Rattle.uss_event.specs.declared.details.Proposal.{Proposal}
use Rattle.uss_event.specs.declared.asks.Wish.{Wish}
use Rattle.uss_event.specs.declared.asks.Wish.TheVariants.{Put, End}
use Rattle.uss_event.specs.declared.asks.FlightAsk.{FlightAsk}
use Rattle.uss_event.specs.declared.entries.Ending.{Ending}
use Rattle.uss_event.specs.declared.entries.Ending.TheVariants.{Conflict, Stale, Cancelled, Ended}
use Rattle.uss_event.specs.declared.entries.Entry.{Entry}
use Rattle.uss_event.specs.declared.entries.Opening.{Opening}
use Rattle.uss_law_book.specs.Lists.{openings, trials}
use Rattle.uss_law_book.specs.Contents.{opening_of, is_closed, is_open, open_job_of, last_of, has_ended, trials_of, owns, decision_of, current_ovn_of, is_put_job, is_ticket_open, is_ticket_gone, is_ticket_needed, owed_of, is_sent}
use Rattle.uss_law_book.specs.Attempts.{held_state}

-- ---- a job is opened

unfoldable pub are_plans : State → (priority rounds : ℕ) → List Proposal → Bool
are_plans to priority rounds proposals =
    nat_le 1 rounds && (nat_le rounds 16 && (nat_le 1 (length proposals) && (nat_le (length proposals) 8
    && list_all (λ p. is_plan to p.volumes p.off_nominal priority) proposals)))

abbrev pub may_wish : Option State → Wish → Bool
may_wish old (Put to priority rounds proposals) = are_plans to priority rounds proposals && may_go old to
may_wish old End = is_some old

abbrev pub is_later : FlightAsk → Option Opening → Bool
is_later ask None = true
is_later ask (Some last) = nat_lt last.ask.number ask.number

unfoldable pub may_open : List Entry → ℕ → FlightAsk → Bool
may_open es job ask =
    (job == length (openings es) + 1) && (is_none (open_job_of ask.flight es) && (not (has_ended ask.flight es)
    && (is_later ask (last_of ask.flight es) && may_wish (held_state ask.flight es) ask.wish)))

-- ---- an open job that is to record something

unfoldable pub is_open_put : List Entry → ℕ → Bool
is_open_put es job = is_put_job job es && not (is_closed job es)

unfoldable pub may_open_ticket : List Entry → ℕ → Bool
may_open_ticket es job = is_open_put es job && not (is_ticket_open job es)

-- what an attempt is to fit
abbrev pub is_blind : Bool → ℕ → List (List ℕ) → Bool
is_blind true alternative key = true
is_blind false alternative key = (alternative == 0) && (length key == 0)

abbrev pub fits_wish : List Entry → (job alternative : ℕ) → List (List ℕ) → Wish → Bool
fits_wish es job alternative key End = false
fits_wish es job alternative key (Put to priority rounds proposals) =
    nat_lt (length (trials_of job es)) rounds && (nat_lt alternative (length proposals) && is_blind (is_strategic to) alternative key)

abbrev pub fits_opening : List Entry → (job alternative : ℕ) → Option (List ℕ) → List (List ℕ) → Option Opening → Bool
fits_opening es job alternative previous key None = false
fits_opening es job alternative previous key (Some o) =
    option_eq same_text previous (current_ovn_of o.ask.flight es) && fits_wish es job alternative key o.ask.wish

unfoldable pub may_try : List Entry → (job tag alternative : ℕ) → Option (List ℕ) → List (List ℕ) → Bool
may_try es job tag alternative previous key =
    not (is_closed job es) && (is_ticket_open job es && (is_none (decision_of job es) && ((tag == length (trials es) + 1)
    && (nat_le (length key) most_ovns && fits_opening es job alternative previous key (opening_of job es)))))

unfoldable pub may_hold : List Entry → (job tag : ℕ) → Bool
may_hold es job tag = is_open job es && owns job tag es

-- ---- how a job ends

abbrev pub may_end_so : ℕ → ℕ → Ending → Bool
may_end_so tried rounds (Conflict flight manager rule) = true
may_end_so tried rounds (Stale missing) = tried == rounds
may_end_so tried rounds Cancelled = true
may_end_so tried rounds (Ended owed) = false

abbrev pub may_end_wish : ℕ → Ending → Wish → Bool
may_end_wish tried end End = false
may_end_wish tried end (Put to priority rounds proposals) = may_end_so tried rounds end

abbrev pub may_end_opening : ℕ → Ending → Option Opening → Bool
may_end_opening tried end None = false
may_end_opening tried end (Some o) = may_end_wish tried end o.ask.wish

unfoldable pub may_decide : List Entry → ℕ → Ending → Bool
may_decide es job end =
    not (is_closed job es) && (nat_le 1 (length (trials_of job es)) && (is_none (decision_of job es) && may_end_opening (length (trials_of job es)) end (opening_of job es)))

-- ---- what a closed job may hear

unfoldable pub may_retire : List Entry → ℕ → Bool
may_retire es job =
    is_put_job job es && (is_closed job es && (is_ticket_open job es && (not (is_ticket_gone job es) && not (is_ticket_needed job es))))

unfoldable pub may_send : List Entry → (job index : ℕ) → Bool
may_send es job index = is_closed job es && (nat_lt index (length (owed_of job es)) && not (is_sent job index es))
