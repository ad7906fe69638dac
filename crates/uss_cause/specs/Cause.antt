-- The words in which an answer of a fault names its cause. This project's own.
use Rattle.std.specs.Prelude.{◌≡◌, ℕ, ◌<◌, ◌≤◌, ◌⊎◌, Result, OnOk, OnErr}

-- A count of faults never falls. It rose from one moment to a later one, or it stands at its greatest value,
-- 2 ^ 64 - 1, where it cannot rise further.
abbrev pub Rose : (before after : ℕ) → Type 0
Rose before after = (before < after) ⊎ (18446744073709551615 ≤ after)

-- what one call does to the count of faults of an outside object: the count has not fallen, the call
-- answers a fault only where it rose, and a call that answers Ok met no fault
pub record Counts {T E : Type 0} (before after : ℕ) (answer : Result T E) : Type 0 where
  pub kept : before ≤ after
  pub cause : OnErr answer (Rose before after)
  pub calm : OnOk answer (after ≡ before)
