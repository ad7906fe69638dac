use Rattle.std.proofs.Common.{◌<◌, ◌≤◌, ◌∙◌, length, sym, arith}
use Rattle.uss_law_book.specs.Contents.{owed_of}
use Rattle.uss_book_index.proofs.Unanswered.{unsent_at, unsent_none, sent_more}
use Rattle.uss_book_index.proofs.entries.Entries.unsent.Goals as goal

pub loop-index-preserved : goal.loop-index-preserved
loop-index-preserved c = sent_more c.args.job c.args.from c.loop-index.index c.args.self.now.entries c.loop-index.invariant (sym c.is_sent.ensures ∙ c.if-not-is_sent.false)

pub returns-then-not-is_sent : goal.returns-then-not-is_sent
returns-then-not-is_sent c =
    let es = c.args.self.now.entries in
    let index = c.loop-index.index in
    let within : index < length (owed_of c.args.job es) = omega (arith, c.owed_count-index-end.ensures) in
    let f : c.args.from ≤ index = omega arith in
    sym (unsent_at c.args.job c.args.from index es f within (sym c.is_sent.ensures ∙ c.if-not-is_sent.true) c.loop-index.invariant)

pub returns : goal.returns
returns c =
    let es = c.args.self.now.entries in
    let index = c.loop-index.index in
    let past : length (owed_of c.args.job es) ≤ index = omega (arith, c.owed_count-index-end.ensures) in
    sym (unsent_none c.args.job c.args.from es (λ k f h. c.loop-index.invariant k f (omega arith)))
