-- What came of a request and of a sweep, as it is written for the operator. This project's own.
use Rattle.std.specs.Prelude.{ℕ, codes}
use Rattle.serde_json.specs.Data.{Data, object, member, no_members, number, unsigned, string}
use Rattle.uss_outcome.specs.declared.outcome.Outcome.{Outcome}
use Rattle.uss_outcome.specs.Outcomes.{outcome_text}

unfoldable pub outcome_json : Outcome → Data
outcome_json outcome = object (member (codes "outcome") (string (outcome_text outcome)) no_members)

-- how many calls of a sweep failed, and how many were made
unfoldable pub swept_json : (tried failed : ℕ) → Data
swept_json tried failed = object (member (codes "failed") (number (unsigned failed)) (member (codes "tried") (number (unsigned tried)) no_members))
