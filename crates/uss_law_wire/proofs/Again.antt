-- The answers to a query and to a question for one reference are read again.
use Rattle.std.proofs.Common.{◌≡◌, ◌≤◌, ℕ, List, length, Ok, refl}
use Rattle.uss_intent.specs.Limits.{most_references}
use Rattle.uss_intent.specs.declared.records.Reference.{Reference}
use Rattle.uss_wire_base.specs.Names.{name}
use Rattle.uss_wire_base.specs.declared.refusal.Member.TheVariants.{Whole}
use Rattle.uss_wire_base.specs.Writing.{AllOf}
use Rattle.uss_wire_dss.specs.ReplyWriting.{query_answer_json, get_answer_json, IsReadable}
use Rattle.uss_wire_dss.proofs.RepliesAgain.{reference_again, references_again}
use Rattle.uss_wire_dss.specs.Replies.{query_answer_at, get_answer_at}

pub query_answer_again : (client : List ℕ) (rs : List Reference) → AllOf (IsReadable client) rs → length rs ≤ most_references → query_answer_at client Whole (query_answer_json rs) ≡ Ok rs
unfolding query_answer_at query_answer_json name
query_answer_again client rs all few = rw (references_again client _ rs all few) refl

pub get_answer_again : (client : List ℕ) (r : Reference) → IsReadable client r → get_answer_at client Whole (get_answer_json r) ≡ Ok r
unfolding get_answer_at get_answer_json name
get_answer_again client r fits = rw (reference_again client _ r fits) refl
