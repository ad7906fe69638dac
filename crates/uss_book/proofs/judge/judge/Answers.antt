use Rattle.std.proofs.Common.{◌≡◌, ◌∙◌, ◌++◌, ◌∷◌, [], List, Option, IfSome, ap, subst}
use Rattle.uss_event.specs.declared.entries.Entry.{Entry}
use Rattle.uss_law_book.specs.Coding.{HasCoding}
use Rattle.uss_book_codec.specs.Coding.{coding_of}
use Rattle.uss_book.proofs.Records.{judged}
use Rattle.uss_book.proofs.judge.judge.Goals as goal

pub returns : goal.returns
returns c =
    let coded = subst (λ (o : Option Entry). IfSome o (λ e. HasCoding e × (c.args.bytes.now ≡ coding_of e))) c.in-Some.is c.in_ok-e.ensures.found in
    let last = c.enter.ensures ∙ ap (λ (l : List Entry). l ++ c.in-Some.e ∷ []) c.make_room.ensures.entries in
    judged c.args.kept.now.entries c.enter.new.self.entries c.args.bytes.now c.in-Some.e (c.may_follow.ensures.0 c.if-not-may_follow.false) coded.1 last
