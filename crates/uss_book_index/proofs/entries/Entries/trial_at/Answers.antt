use Rattle.std.proofs.Common.{◌∙◌, ap, List, slice_get}
use Rattle.std.specs.Option.{option_and_then}
use Rattle.uss_event.specs.declared.entries.Entry.{Entry}
use Rattle.uss_law_book.specs.Contents.{trials_of}
use Rattle.uss_book_rules.specs.Speaks.{trial_in}
use Rattle.uss_book_index.proofs.Sent.{said_in}
use Rattle.uss_book_index.proofs.entries.Entries.trial_at.Goals as goal

pub returns : goal.returns
returns c =
    let es = c.args.self.now.entries in
    c.trial_in.ensures ∙ ap (option_and_then trial_in) (c.at.ensures ∙ ap (λ (l : List Entry). option_and_then (slice_get l) c.place_of.result) c.as_slice.ensures)
    ∙ said_in es trial_in c.place_of.result (slice_get (trials_of c.args.job es) c.args.number) c.place_of.ensures.says
