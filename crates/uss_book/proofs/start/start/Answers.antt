use Rattle.std.proofs.Common.{◌≡◌, ◌∙◌, ap, sym, subst, ◌++◌, ◌∷◌, [], List}
use Rattle.uss_event.specs.declared.entries.Entry.{Entry}
use Rattle.uss_book_codec.specs.Coding.{coding_of}
use Rattle.uss_book.specs.Refusal.{UnlessFault}
use Rattle.uss_book.specs.declared.refusal.BookFault.{BookFault}
use Rattle.uss_book.proofs.FirstEntry.{follows_none, first_legal, first_fits, append_passed, append_untouched, start_crash}
use Rattle.uss_book.proofs.start.start.Goals as goal

pub passed_on-requires : goal.passed_on-requires
passed_on-requires g c =
    let coded = c.as_slice.ensures.value ∙ c.in_ok-bytes.ensures in
    let fits = first_fits c.args.owner c.first_entry-e.result c.args.journal.now.records c.as_slice.result.now c.first_entry-e.ensures.is c.first_entry-e.ensures.coding c.requires.unwritten coded in
    append_passed g.D.Disk.fault_count c.args.journal.now c.as_slice.result.now c.in-Err.refusal c.append.new.self c.in-Err.ensures.answer c.requires.reopened fits

pub enter-requires-clause-follows : goal.enter-requires-clause-follows
enter-requires-clause-follows g c =
    follows_none c.args.owner c.first_entry-e.result c.make_room.new.self.entries c.first_entry-e.ensures.is c.first_entry-e.ensures.coding (c.in_ok-make_room.ensures.entries ∙ c.requires.empty)

pub returns-in-Ok-clause-legal : goal.returns-in-Ok-clause-legal
returns-in-Ok-clause-legal g c =
    let before = c.in_ok-make_room.ensures.entries ∙ c.requires.empty in
    first_legal c.args.owner c.first_entry-e.result c.enter.new.self.entries c.first_entry-e.ensures.is c.first_entry-e.ensures.coding
    (c.enter.ensures ∙ ap (λ (l : List Entry). l ++ c.first_entry-e.result ∷ []) before)

pub returns-in-Err-clause-crash : goal.returns-in-Err-clause-crash
returns-in-Err-clause-crash g c = λ honest.
    let D = g.D.Disk in
    let coded = c.as_slice.ensures.value ∙ c.in_ok-bytes.ensures ∙ ap coding_of c.first_entry-e.ensures.is in
    start_crash D.may_leave D.moment D.left_since c.args.journal.now.disk c.append.new.self.disk c.args.owner c.args.journal.now.records c.as_slice.result.now c.requires.unwritten coded
    (c.in-Err.ensures.crash honest c.requires.reopened)

pub returns-in-Err-clause-untouched : goal.returns-in-Err-clause-untouched
returns-in-Err-clause-untouched g c =
    subst (λ (f : BookFault). UnlessFault f (c.append.new.self.disk ≡ c.args.journal.now.disk)) (sym c.passed_on.ensures)
    (append_untouched g.D.Disk.fault_count c.args.journal.now c.as_slice.result.now c.in-Err.refusal c.append.new.self c.in-Err.ensures.answer)
