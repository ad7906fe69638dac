-- Whether a job may end without recording anything, as a test. `MayEnd` of the law of the book says the same as facts. This project's
-- own.
use Rattle.std.specs.Prelude.{ℕ, Bool, true, false, not, ◌&&◌, ◌||◌, ◌==◌, List, length, Option, Some, None}
use Rattle.std.specs.Cmp.Lexicographic.{pointwise}
use Rattle.uss_intent.specs.Same.{same_text}
use Rattle.uss_intent.specs.declared.records.Subscriber.{Subscriber}
use Rattle.uss_event.specs.declared.rules.Verdict.{Verdict}
use Rattle.uss_event.specs.declared.rules.Verdict.TheVariants.{Clear, EqualForbidden, HigherStands}
use Rattle.uss_event.specs.declared.asks.Wish.{Wish}
use Rattle.uss_event.specs.declared.asks.Wish.TheVariants.{Put, End}
use Rattle.uss_event.specs.declared.entries.Ending.{Ending}
use Rattle.uss_event.specs.declared.entries.Ending.TheVariants.{Conflict, Stale, Cancelled, Ended}
use Rattle.uss_event.specs.declared.entries.Entry.{Entry}
use Rattle.uss_event.specs.declared.entries.Opening.{Opening}
use Rattle.uss_event.specs.declared.entries.Closing.{Closing}
use Rattle.uss_law_book.specs.Contents.{opening_of, is_closed, trials_of, decision_of, is_ticket_open, is_ended}

-- ---- two endings are the same in their kind and in each of their fields

abbrev pub same_rule : Verdict → Verdict → Bool
same_rule Clear Clear = true
same_rule EqualForbidden EqualForbidden = true
same_rule HigherStands HigherStands = true
same_rule _ _ = false

abbrev pub same_subscriber : Subscriber → Subscriber → Bool
same_subscriber a b = same_text a.base b.base && ((a.ticket == b.ticket) && (a.index == b.index))

abbrev pub same_ending : Ending → Ending → Bool
same_ending (Conflict flight manager rule) (Conflict flight' manager' rule') = (flight == flight') && (same_text manager manager' && same_rule rule rule')
same_ending (Stale missing) (Stale missing') = same_text missing missing'
same_ending Cancelled Cancelled = true
same_ending (Ended owed) (Ended owed') = pointwise same_subscriber owed owed'
same_ending _ _ = false

-- ---- how a job ends

-- the job decided to end so
abbrev pub is_decided_so : ℕ → Ending → Option Closing → Bool
is_decided_so job end None = false
is_decided_so job end (Some d) = (d.job == job) && same_ending d.end end

-- a job without an attempt
abbrev pub ends_untried : Bool → Ending → Bool
ends_untried ticket_open (Conflict flight manager rule) = ticket_open
ends_untried ticket_open (Stale missing) = false
ends_untried ticket_open Cancelled = true
ends_untried ticket_open (Ended owed) = false

-- a job that is to record something
abbrev pub ends_put : List Entry → ℕ → Ending → Bool
ends_put es job end = is_decided_so job end (decision_of job es) || ((length (trials_of job es) == 0) && ends_untried (is_ticket_open job es) end)

abbrev pub ends_wish : List Entry → ℕ → Ending → Wish → Bool
ends_wish es job end (Put to priority rounds proposals) = ends_put es job end
ends_wish es job end End = is_ended end

abbrev pub ends_opening : List Entry → ℕ → Ending → Option Opening → Bool
ends_opening es job end None = false
ends_opening es job end (Some o) = ends_wish es job end o.ask.wish

unfoldable pub may_end : List Entry → ℕ → Ending → Bool
may_end es job end = not (is_closed job es) && ends_opening es job end (opening_of job es)
