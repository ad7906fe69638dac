-- The set finds one text more.
use Rattle.std.proofs.lemmas.Map.Text.{btree_map_updates_str}
use Rattle.uss_dss.proofs.key.put_text.Goals as goal

pub returns : goal.returns
returns c = record { put = btree_map_updates_str c.args.text.now c.args.set.now c.insert.new.self _ c.in_ok-insert.ensures.updates }
