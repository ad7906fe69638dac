use Rattle.std.proofs.Common.{◌∙◌, ap, List, slice_get}
use Rattle.std.specs.Option.{option_and_then}
use Rattle.uss_event.specs.declared.entries.Entry.{Entry}
use Rattle.uss_law_book.specs.Contents.{last_of}
use Rattle.uss_book_rules.specs.Speaks.{opening_in}
use Rattle.uss_book_index.proofs.Sent.{said_in}
use Rattle.uss_book_index.proofs.tells.EntriesTells.last.Goals as goal

pub returns : goal.returns
returns c =
    let es = c.args.self.now.entries in
    c.opening_in.ensures ∙ ap (option_and_then opening_in) (c.at.ensures ∙ ap (λ (l : List Entry). option_and_then (slice_get l) c.kept_of.result.last) c.as_slice.ensures)
    ∙ said_in es opening_in c.kept_of.result.last (last_of c.args.flight es) c.kept_of.ensures.last
