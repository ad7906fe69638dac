use Rattle.std.proofs.Common.{arith}
use Rattle.uss_text.proofs.Script.{lines_few}
use Rattle.uss_text.proofs.Each.{too_large, small_enough}
use Rattle.uss_text.proofs.discover.read_discover.Goals as goal

pub returns-then-text-gt-MOST_BYTES : goal.returns-then-text-gt-MOST_BYTES
returns-then-text-gt-MOST_BYTES c = λ real. too_large c.args.text.now c.if-text-gt-MOST_BYTES.true

pub read_lines-requires : goal.read_lines-requires
read_lines-requires c = rw c.of.ensures (omega (arith, lines_few c.args.text.now, c.if-text-gt-MOST_BYTES.false))

pub returns : goal.returns
returns c = rw (small_enough c.args.text.now c.if-text-gt-MOST_BYTES.false, ← c.of.ensures) c.read_lines.ensures
