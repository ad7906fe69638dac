-- What holds of every legal book.
use Rattle.std.specs.Prelude.{ℕ, ◌≤◌, ◌<◌, ◌^◌, ◌≡◌, false, List, length, Some}
use Rattle.uss_event.specs.declared.entries.Owner.{Owner}
use Rattle.uss_event.specs.declared.entries.Entry.{Entry}
use Rattle.uss_law_dss.specs.Lists.{Has}
use Rattle.uss_event.specs.declared.entries.Opening.{Opening}
use Rattle.uss_event.specs.declared.entries.Trial.{Trial}
use Rattle.uss_event.specs.declared.entries.Holding.{Holding}
use Rattle.uss_event.specs.declared.entries.Closing.{Closing}
use Rattle.uss_law_book.specs.Lists.{owner_of, openings, trials, holdings, endings}
use Rattle.uss_law_book.specs.Contents.{opening_of, is_closed, current_ovn_of}
use Rattle.uss_law_book.specs.Attempts.{Attempted, attempt_of, recorded_as, held}
use Rattle.uss_law_book.specs.Legal.{is_new}

pub record IsOrderly (book : List Entry) : Type 0 where
  -- jobs are numbered from 1 on, and a number is one job's
  pub job_numbers : (o : Opening) → Has (openings book) o → o.job ≤ length (openings book)
  pub jobs : (o p : Opening) → Has (openings book) o → Has (openings book) p → o.job ≡ p.job → o ≡ p
  -- the owner is known
  pub owner : is_new book ≡ false → (o : Owner) × (owner_of book ≡ Some o)
  -- tags are numbered likewise, within 64 bits
  pub tags_begin : (t : Trial) → Has (trials book) t → 1 ≤ t.tag
  pub tags_fit : (t : Trial) → Has (trials book) t → t.tag < 2 ^ 64
  pub tag_numbers : (t : Trial) → Has (trials book) t → t.tag ≤ length (trials book)
  pub tags : (t u : Trial) → Has (trials book) t → Has (trials book) u → t.tag ≡ u.tag → t ≡ u
  -- a request opens one job
  pub requests : (o p : Opening) → Has (openings book) o → Has (openings book) p → o.ask.flight ≡ p.ask.flight → o.ask.number ≡ p.ask.number → o ≡ p
  -- a flight has one open job
  pub unclosed : (o p : Opening) → Has (openings book) o → Has (openings book) p → is_closed o.job book ≡ false → is_closed p.job book ≡ false → o.ask.flight ≡ p.ask.flight → o ≡ p
  -- each attempt, and each record and end of a job, is of a job that was opened
  pub tried : (t : Trial) → Has (trials book) t → (o : Opening) × Has (openings book) o × (o.job ≡ t.job)
  pub recorded : (h : Holding) → Has (holdings book) h → (o : Opening) × Has (openings book) o × (o.job ≡ h.job)
  pub ended : (d : Closing) → Has (endings book) d → (o : Opening) × Has (openings book) o × (o.job ≡ d.job)
  -- what is recorded is an attempt of the job
  pub own : (h : Holding) → Has (holdings book) h → (t : Trial) × Has (trials book) t × (t.job ≡ h.job) × (t.tag ≡ h.tag)
  -- the attempts of a job change one reference
  pub previous : (t u : Trial) → Has (trials book) t → Has (trials book) u → t.job ≡ u.job → t.previous ≡ u.previous
  -- while the job is open, that is the one which is recorded of the flight
  pub based : (t : Trial) (o : Opening) → Has (trials book) t → Has (openings book) o → o.job ≡ t.job → is_closed o.job book ≡ false → t.previous ≡ current_ovn_of o.ask.flight book
  -- a job is closed once
  pub held_once : (h k : Holding) → Has (holdings book) h → Has (holdings book) k → h.job ≡ k.job → h ≡ k
  pub ended_once : (d c : Closing) → Has (endings book) d → Has (endings book) c → d.job ≡ c.job → d ≡ c
  pub held_or_ended : (h : Holding) (d : Closing) → Has (holdings book) h → Has (endings book) d → h.job ≡ d.job → ⊥
  -- each attempt is of one of its job's alternatives
  pub attempted : (t : Trial) → Has (trials book) t → (a : Attempted) × (attempt_of t.tag book ≡ Some a)

-- what is held of a flight is what a job of the flight recorded: one of the job's attempts, with the OVN and the version that its entry has
pub record IsHeldOf (book : List Entry) (flight : ℕ) (h : Holding) : Type 0 where
  pub opening : Opening
  pub trial : Trial
  pub attempt : Attempted
  pub entered : Has (holdings book) h
  pub opened : opening_of h.job book ≡ Some opening
  pub flight_is : opening.ask.flight ≡ flight
  pub tried : Has (trials book) trial
  pub job : trial.job ≡ h.job
  pub tag : trial.tag ≡ h.tag
  pub found : attempt_of h.tag book ≡ Some attempt
  pub is : held flight book ≡ Some (recorded_as attempt h.ovn h.version)
