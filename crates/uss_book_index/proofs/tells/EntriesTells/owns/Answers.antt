use Rattle.std.proofs.Common.{◌∙◌, ap}
use Rattle.uss_law_book.specs.Orderly.{IsOrderly}
use Rattle.uss_law_book.proofs.EachOrderly.{legal_is_orderly}
use Rattle.uss_book_index.specs.Sent.{is_by_job}
use Rattle.uss_book_index.proofs.Sent.{owns_is}
use Rattle.uss_book_index.proofs.tells.EntriesTells.owns.Goals as goal

pub returns : goal.returns
returns c =
    let es = c.args.self.now.entries in
    let s : IsOrderly es = rw (← c.self.view_is) (legal_is_orderly _ c.self.invariant.legal) in
    c.is_by_job.ensures ∙ ap (λ t. is_by_job c.args.job t) c.trial.ensures ∙ owns_is c.args.job c.args.tag es s
