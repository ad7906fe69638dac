use Rattle.std.proofs.Common.{◌↔◌, List, ap, subst}
use Rattle.std.specs.Prelude.{IsTrue}
use Rattle.uss_event.specs.declared.entries.Entry.{Entry}
use Rattle.uss_law_book.specs.Legal.{MayFollow}
use Rattle.uss_book.specs.Book.{BookView}
use Rattle.uss_book.proofs.book.Book.may_follow.Goals as goal

pub returns : goal.returns
returns g c =
    subst (λ (es : List Entry). IsTrue c.may_follow.result ↔ MayFollow es c.args.e.now) (ap (λ (v : BookView g.row.D.Denot). v.entries) c.self.view_is) c.may_follow.ensures
