use Rattle.std.proofs.Common.{◌∙◌, ap, List, slice_get}
use Rattle.std.specs.Option.{option_and_then}
use Rattle.uss_event.specs.declared.entries.Entry.{Entry}
use Rattle.uss_law_book.specs.Contents.{last_holding}
use Rattle.uss_book_rules.specs.Speaks.{holding_in}
use Rattle.uss_book_index.proofs.Sent.{said_in}
use Rattle.uss_book_index.proofs.tells.EntriesTells.last_holding.Goals as goal

pub returns : goal.returns
returns c =
    let es = c.args.self.now.entries in
    c.holding_in.ensures ∙ ap (option_and_then holding_in) (c.at.ensures ∙ ap (λ (l : List Entry). option_and_then (slice_get l) c.kept_of.result.recorded) c.as_slice.ensures)
    ∙ said_in es holding_in c.kept_of.result.recorded (last_holding c.args.flight es) c.kept_of.ensures.recorded
