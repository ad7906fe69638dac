use Rattle.std.proofs.Common.{◌+◌, ◌≤◌, vec_len, arith, rules}
use Rattle.uss_journal.proofs.Chain.{used_between, last_in_file}
use Rattle.uss_journal.proofs.known.Known.used.Goals as goal

pub overflow_add-result : goal.overflow_add-result
overflow_add-result c =
    let low : c.args.self.now.last + 1 ≤ vec_len c.args.self.now.bytes = omega (arith, c.requires.is_last, last_in_file _ 8 _ c.requires.reaches, c.args.self.now.bytes.ok.0) in
    search rules

pub returns : goal.returns
returns c = omega (arith, c.requires.is_last, used_between c.args.self.now.bytes.items c.args.self.now.gates.items 8 c.requires.reaches)
