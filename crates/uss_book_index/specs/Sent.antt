-- Of what is found, whose it is, and whether it is still open. This project's own.
use Rattle.std.specs.Prelude.{ℕ, Bool, false, not, ◌==◌, List, Option, Some, None}
use Rattle.uss_event.specs.declared.entries.Entry.{Entry}
use Rattle.uss_event.specs.declared.entries.Opening.{Opening}
use Rattle.uss_event.specs.declared.entries.Trial.{Trial}
use Rattle.uss_law_book.specs.Contents.{is_closed}

-- the attempt is one of the job
abbrev pub is_by_job : ℕ → Option Trial → Bool
is_by_job job None = false
is_by_job job (Some t) = t.job == job

-- the opening is that of a job that isn't closed
abbrev pub is_unclosed : List Entry → Option Opening → Bool
is_unclosed es None = false
is_unclosed es (Some o) = not (is_closed o.job es)
