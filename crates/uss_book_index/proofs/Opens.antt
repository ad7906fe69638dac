-- The open job of a flight is that of its last request, by the test of the code.
use Rattle.std.proofs.Common.{ℕ, true, false, List, ◌≡◌, refl, ◌∙◌, Option, Some, None}
use Rattle.uss_event.specs.declared.entries.Entry.{Entry}
use Rattle.uss_law_dss.proofs.Tests.{not_true, not_false}
use Rattle.uss_event.specs.declared.entries.Opening.{Opening}
use Rattle.uss_law_book.specs.Contents.{is_closed, open_job_of, last_of}
use Rattle.uss_law_book.specs.Legal.{IsLegal}
use Rattle.uss_law_book.proofs.Opens.{unless_closed, open_job_is_last}
use Rattle.uss_book_index.specs.Sent.{is_unclosed}

pub open_where : (flight : ℕ) (es : List Entry) → IsLegal es → is_unclosed es (last_of flight es) ≡ true → last_of flight es ≡ open_job_of flight es
open_where flight es l h = go (last_of flight es) h ∙ open_job_is_last flight es l
  where
    go : (w : Option Opening) → is_unclosed es w ≡ true → w ≡ unless_closed es w
    go None k = refl
    go (Some o) k = rw (not_true (is_closed o.job es) k) refl

pub none_where : (flight : ℕ) (es : List Entry) → IsLegal es → is_unclosed es (last_of flight es) ≡ false → None ≡ open_job_of flight es
none_where flight es l h = go (last_of flight es) h ∙ open_job_is_last flight es l
  where
    go : (w : Option Opening) → is_unclosed es w ≡ false → None ≡ unless_closed es w
    go None k = refl
    go (Some o) k = rw (not_false (is_closed o.job es) k) refl
