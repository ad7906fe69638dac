use Rattle.serde_json.specs.View.{view}
use Rattle.uss_wire_base.proofs.Again.{written}
use Rattle.uss_wire_base.proofs.writing.message.Goals as goal

pub returns : goal.returns
returns c = let e = c.to_vec.ensures in written (view c.args.value.now) c.to_vec.result c.requires e.text e.utf8 e.reads_back
