use Rattle.std.proofs.Common.{◌≡◌, ◌∙◌, ap, sym, Some, None}
use Rattle.std.specs.Option.{option_and_then}
use Rattle.uss_book_rules.specs.Speaks.{trial_in}
use Rattle.uss_book_rules.proofs.Direct.{trial_by_find}
use Rattle.uss_law_book.specs.Contents.{trial_of}
use Rattle.uss_book_index.specs.Records.{tried_of, pair_by_tried}
use Rattle.uss_book_index.proofs.Planned.{attempt_says}
use Rattle.uss_book_index.proofs.made.pair_by_tag.Goals as goal

pub returns-in-Some : goal.returns-in-Some
returns-in-Some c =
    let es = c.args.entries.now in
    let t : tried_of c.args.version (trial_of c.args.tag es) ≡ Some c.in-Some.tried =
    ap (tried_of c.args.version) (sym (c.trial.ensures c.requires.index)) ∙ sym c.tried_of.ensures ∙ c.in-Some.is in
    rw (attempt_says es c.args.tag c.args.version c.args.ovn.now, t) c.pair_by_tried.ensures

pub returns-in-None : goal.returns-in-None
returns-in-None c =
    let es = c.args.entries.now in
    let t : tried_of c.args.version (trial_of c.args.tag es) ≡ None =
    ap (tried_of c.args.version) (sym (c.trial.ensures c.requires.index)) ∙ sym c.tried_of.ensures ∙ c.in-None.is in
    sym (attempt_says es c.args.tag c.args.version c.args.ovn.now ∙ ap (pair_by_tried es c.args.ovn.now) t)
