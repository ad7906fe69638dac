-- What is counted of each job. This project's own.
use Rattle.std.specs.Prelude.{ℕ, ◌+◌, ◌*◌, ◌<◌, ◌≤◌, ◌^◌, ◌≡◌, Bool, List, [], ◌∷◌, length, Option, Some, None, is_some}
use Rattle.std.specs.BTreeMap.{BTreeMap, get}
use Rattle.std.specs.Ordering.{nat_cmp}
use Rattle.uss_event.specs.declared.entries.Entry.{Entry}
use Rattle.uss_law_book.specs.Contents.{trials_of}
use Rattle.uss_law_book.specs.Changes.{bytes_of}
use Rattle.uss_book_rules.specs.Speaks.{job_of}
use Rattle.uss_book_index.specs.declared.tally.Tally.{Tally}

abbrev pub attempts_in : Option Tally → ℕ
attempts_in None = 0
attempts_in (Some t) = t.attempts

abbrev pub bytes_in : Option Tally → ℕ
bytes_in None = 0
bytes_in (Some t) = t.bytes

-- what is counted of a job is right
pub record IsTally (es : List Entry) (job : ℕ) (tally : Option Tally) : Type 0 where
  pub attempts : attempts_in tally ≡ length (trials_of job es)
  pub bytes : bytes_in tally ≡ bytes_of job es
  -- no record has more bytes
  pub small : bytes_in tally ≤ 2085482354 * length es

abbrev pub AreTallies : BTreeMap ℕ Tally → List Entry → Type 0
AreTallies tallies es = (job : ℕ) → IsTally es job (get nat_cmp tallies job)

abbrev pub has_tally : BTreeMap ℕ Tally → ℕ → Bool
has_tally tallies job = is_some (get nat_cmp tallies job)

-- one more entry can be counted
pub record CanGrow (tally : Option Tally) (e : Entry) : Type 0 where
  pub attempts : attempts_in tally + length (trials_of (job_of e) (e ∷ [])) < 2 ^ 64
  pub bytes : bytes_in tally + 2 ^ 32 < 2 ^ 128
