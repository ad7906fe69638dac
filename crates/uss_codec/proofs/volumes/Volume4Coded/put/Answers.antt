use Rattle.std.proofs.Common.{◌∙◌}
use Rattle.uss_codec.proofs.Appends.{volume_appended}
use Rattle.uss_codec.proofs.volumes.Volume4Coded.put.Goals as goal

pub returns : goal.returns
returns c =
    volume_appended c.args.self.now c.requires _ _ _ _ _ _ _ _ _ _ _ (c.vertices.ensures.vertices ∙ c.outline.ensures.value) c.low.ensures c.high.ensures c.start.ensures c.end.ensures
    c.in_ok-put_list.ensures c.in_ok-put.ensures c.in_ok-put-2.ensures c.in_ok-put-3.ensures c.in_ok-put-4.ensures
