-- One OVN more.
use Rattle.uss_dss.proofs.KeyLemmas.{key_more}
use Rattle.uss_dss.proofs.key.key_set.Goals as goal

pub loop-ovn-preserved : goal.loop-ovn-preserved
loop-ovn-preserved c =
    λ q. key_more c.args.key.now c.loop-ovn.ovn-index c.ovn-item.result q _ _ c.loop-ovn-test.true c.ovn-item.is (c.loop-ovn.invariant q)
    (rw (← c.as_str.ensures.value) (c.in_ok-put_text.ensures.put q))
