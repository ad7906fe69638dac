-- What a step changes of what a supplier keeps beside its book: what it hears, which position it counts, and how far one job is. This
-- project's own.
use Rattle.std.specs.Prelude.{ℕ, ◌≡◌, ◌≢◌, ◌⊎◌, ℤ, Bool, true, false, ◌||◌, List, [], ◌∷◌, ◌++◌, Option, Some, None, is_some, if◌then◌else◌}
use Rattle.uss_event.specs.Pairs.{OperationalIntent}
use Rattle.uss_event.specs.declared.asks.PositionAsk.{PositionAsk}
use Rattle.uss_event.specs.declared.entries.Owner.{Owner}
use Rattle.uss_event.specs.declared.entries.Entry.{Entry}
use Rattle.uss_event.specs.declared.calls.Outgoing.{Outgoing}
use Rattle.uss_event.specs.declared.events.Said.{Said}
use Rattle.uss_event.specs.declared.events.Event.{Event}
use Rattle.uss_event.specs.declared.events.Event.TheVariants as Comes
use Rattle.uss_law_book.specs.Contents.{open_job_of}
use Rattle.uss_law_book.specs.Attempts.{held}
use Rattle.uss_event.specs.Heard.{News, by_pair}
use Rattle.uss_law_duty.specs.Duties.{clamped}
use Rattle.uss_law_supplier.specs.Values.{Values, Counted, progress_of, awaited_of}
use Rattle.uss_law_supplier.specs.Turns.{Turn}
use Rattle.uss_law_supplier.specs.Positions.{sighting_of, is_numbered, is_refused}
use Rattle.uss_law_supplier.specs.Replies.{heard_by}
use Rattle.uss_law_supplier.specs.Step.{is_of_another, supplier_step}

-- what an event makes the supplier hear: a served pair that fits its call; and the pair of a note, or that its flight is to be forgotten,
-- but not a pair that somebody else manages
abbrev pub news_of : Event → List News
news_of (Comes.Peer call reply) = heard_by call reply
news_of (Comes.Notified client note) = if is_of_another client note.pair then [] else by_pair note.flight note.pair
news_of _ = []

-- the position that it counts: one of a flight of which something is held, that resumes no job and isn't refused
abbrev pub counted_position : Bool → PositionAsk → ℤ → OperationalIntent → List Counted
counted_position true p moment pair = []
counted_position false p moment pair = record { flight = p.flight; sighting = sighting_of pair p moment } ∷ []

abbrev pub counted_by : List Entry → PositionAsk → ℤ → Said → Option OperationalIntent → List Counted
counted_by book p moment said None = []
counted_by book p moment said (Some pair) =
    counted_position (is_some (is_numbered p.number (open_job_of p.flight book)) || is_refused said) p moment pair

abbrev pub counted_of : List Entry → Event → ℤ → Said → List Counted
counted_of book (Comes.Position p) moment said = counted_by book p moment said (held p.flight book)
counted_of book _ moment said = []

-- what a job waits for after the step: nothing, or the same as before, or the one call that the step makes
abbrev pub WaitsThen : Values → ℕ → List Outgoing → Values → Type 0
WaitsThen before job sends after =
    (awaited_of job after ≡ None) ⊎ ((awaited_of job after ≡ awaited_of job before)
    ⊎ ((call : Outgoing) × (awaited_of job after ≡ Some call) × (sends ≡ call ∷ [])))

-- at most one job gets further, or is stopped
pub record Advances (before : Values) (job : ℕ) (sends : List Outgoing) (after : Values) : Type 0 where
  pub others : (i : ℕ) → i ≢ job → progress_of i after ≡ progress_of i before
  pub waits : WaitsThen before job sends after

pub record Changes (book : List Entry) (before : Values) (moment : ℤ) (event : Event) (t : Turn) : Type 0 where
  pub heard : t.values.heard ≡ before.heard ++ news_of event
  pub positions : t.values.positions ≡ before.positions ++ counted_of book event moment t.said
  pub jobs : (job : ℕ) × Advances before job t.sends t.values

-- so does each step, whatever the book and whatever is kept
abbrev pub StepsChangeSo : Type 0
StepsChangeSo =
    (owner : Owner) (book : List Entry) (values : Values) (moment : ℤ) (event : Event)
    → Changes book values (clamped moment) event (supplier_step owner book values moment event)
