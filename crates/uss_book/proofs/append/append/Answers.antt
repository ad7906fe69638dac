use Rattle.uss_book.proofs.Entering.{refusal_fits}
use Rattle.uss_book.proofs.append.append.Goals as goal

pub refused-requires : goal.refused-requires
refused-requires g c =
    refusal_fits g.D.Disk.fault_count c.args.journal.now c.args.bytes.now c.in-Err.refusal c.append.new.self c.in-Err.ensures.answer c.requires.unspent c.requires.fits
