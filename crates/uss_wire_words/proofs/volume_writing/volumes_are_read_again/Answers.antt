use Rattle.uss_wire_words.proofs.VolumesAgain.{volume_again}
use Rattle.uss_wire_words.proofs.volume_writing.volumes_are_read_again.Goals as goal

pub returns : goal.returns
returns c = volume_again
