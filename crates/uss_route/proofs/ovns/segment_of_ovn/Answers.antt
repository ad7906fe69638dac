use Rattle.std.proofs.Common.{sym}
use Rattle.uss_route.proofs.OvnSteps.{written, small_bytes}
use Rattle.uss_route.proofs.ovns.segment_of_ovn.Goals as goal

pub returns : goal.returns
returns c =
    record {
      text = rw (c.in_ok-append_to.ensures.ok, c.new-text.ensures.bytes, c.percent_encode.ensures.text, c.as_bytes.ensures.value)
          (sym (written c.args.ovn.now (small_bytes c.args.ovn.now c.as_bytes.ensures.valid)));
    }
