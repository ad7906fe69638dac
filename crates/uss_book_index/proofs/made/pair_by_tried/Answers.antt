use Rattle.std.proofs.Common.{◌≡◌, ◌∙◌, ap, sym, refl, Some, None}
use Rattle.std.specs.Option.{option_and_then, option_copied}
use Rattle.uss_law_book.specs.Lists.{owner_of}
use Rattle.uss_law_book.specs.Contents.{opening_of}
use Rattle.uss_book_rules.specs.Speaks.{opening_in}
use Rattle.uss_book_rules.proofs.Direct.{opening_by_find}
use Rattle.uss_book_index.specs.Records.{ask_of}
use Rattle.uss_book_index.proofs.Planned.{asked_is_planned, owner_is_short}
use Rattle.uss_book_index.proofs.made.pair_by_tried.Goals as goal

pub pair_by_wish-requires-clause-base : goal.pair_by_wish-requires-clause-base
pair_by_wish-requires-clause-base c = owner_is_short c.args.entries.now c.in-Some.owner.now c.requires.legal (sym c.in-Some.ensures)

pub pair_by_wish-requires-clause-plans : goal.pair_by_wish-requires-clause-plans
pair_by_wish-requires-clause-plans c =
    let es = c.args.entries.now in
    let at : ask_of (opening_of c.args.tried.job es) ≡ Some c.in-Some-ask_of.ask.now =
    ap ask_of (sym (c.opening.ensures c.requires.index)) ∙ sym c.ask_of.ensures ∙ ap option_copied c.in-Some-ask_of.is in
    asked_is_planned es c.args.tried.job c.in-Some-ask_of.ask.now c.requires.legal at

pub returns-in-Some-ask_of : goal.returns-in-Some-ask_of
returns-in-Some-ask_of c =
    let es = c.args.entries.now in
    let at : ask_of (opening_of c.args.tried.job es) ≡ Some c.in-Some-ask_of.ask.now =
    ap ask_of (sym (c.opening.ensures c.requires.index)) ∙ sym c.ask_of.ensures ∙ ap option_copied c.in-Some-ask_of.is in
    let whose : owner_of es ≡ Some c.in-Some.owner.now = sym c.in-Some.ensures in
    rw (whose, at) c.pair_by_wish.ensures

pub returns-in-None-ask_of : goal.returns-in-None-ask_of
returns-in-None-ask_of c =
    let es = c.args.entries.now in
    let at : ask_of (opening_of c.args.tried.job es) ≡ None =
    ap ask_of (sym (c.opening.ensures c.requires.index)) ∙ sym c.ask_of.ensures ∙ ap option_copied c.in-None-ask_of.is in
    let whose : owner_of es ≡ Some c.in-Some.owner.now = sym c.in-Some.ensures in
    rw (whose, at) refl
