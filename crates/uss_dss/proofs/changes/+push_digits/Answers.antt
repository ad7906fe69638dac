-- One more digit.
use Rattle.std.proofs.Common.{◌-◌, sym, arith}
use Rattle.uss_dss.proofs.Places.{digits_more}
use Rattle.uss_dss.proofs.changes.+push_digits.Goals as goal

pub returns : goal.returns
returns t c =
    rw (c.in_ok-push.ensures.items, c.in_ok-push_digits.ensures)
    (sym (digits_more c.args.count (c.args.count - 1) c.args.n c.args.text.now.items (omega (arith, c.if-count-eq0.false))))
