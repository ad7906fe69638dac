use Rattle.std.proofs.Common.{◌∙◌, sym}
use Rattle.uss_journal.proofs.Chain.{length_records}
use Rattle.uss_journal.proofs.known.Known.count.Goals as goal

pub returns : goal.returns
returns c =
    c.len.ensures ∙ c.args.self.now.gates.ok.0
    ∙ sym (length_records c.args.self.now.bytes.items 0 c.args.self.now.gates.items 8)
