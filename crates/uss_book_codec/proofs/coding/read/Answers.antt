use Rattle.std.proofs.Common.{◌≡◌, ℕ, List, Option, Some, None, sym, ap, ◌∙◌, arith}
use Rattle.uss_event.specs.declared.entries.Entry.{Entry}
use Rattle.uss_law_book.specs.Coding.{HasCoding}
use Rattle.uss_book_codec.specs.Coding.{coding_of}
use Rattle.uss_book_codec.specs.Reading.{all_of}
use Rattle.uss_book_codec.specs.Laws.{all_found, all_again}
use Rattle.uss_book_codec.proofs.coding.read.Goals as goal

-- what is read from the coding of an entry is that entry
again : (bytes : List ℕ) (given : Option Entry) (e : Entry) → all_of bytes ≡ given → HasCoding e → bytes ≡ coding_of e → given ≡ Some e
again bytes given e h k is = sym h ∙ ap all_of is ∙ all_again e k

pub returns-in-Ok-clause-found : goal.returns-in-Ok-clause-found
returns-in-Ok-clause-found c = all_found c.args.bytes.now c.in-Ok.entry (λ i. omega (arith, c.type_inv.bytes i)) (rw c.in-Ok.entry-is at c.in-Ok.ensures)

pub returns-in-Ok-clause-only : goal.returns-in-Ok-clause-only
returns-in-Ok-clause-only c = λ e k is. again c.args.bytes.now (Some c.in-Ok.entry) e (rw c.in-Ok.entry-is at c.in-Ok.ensures) k is

pub returns-in-Err-Malformed-clause-only : goal.returns-in-Err-Malformed-clause-only
returns-in-Err-Malformed-clause-only c = λ e k is. again c.args.bytes.now None e (rw c.in-Err-Malformed.field-0-is at c.in-Err-Malformed.ensures) k is
