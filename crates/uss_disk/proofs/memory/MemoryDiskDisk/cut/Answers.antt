use Rattle.uss_disk.proofs.Calls.{count_after, time_passes, grown, cut_done, cut_in_part, cut_crash}
use Rattle.uss_disk.proofs.memory.MemoryDiskDisk.cut.Goals as goal

pub returns-clause-done : goal.returns-clause-done
returns-clause-done c = λ honest. cut_done _ _ _ _ c.shorten.ensures

pub returns-clause-in_part : goal.returns-clause-in_part
returns-clause-in_part c = λ honest. cut_in_part _ _ _ _ c.shorten.ensures

pub returns-clause-crash : goal.returns-clause-crash
returns-clause-crash c = λ honest. cut_crash _ _ _ _ c.shorten.ensures

pub returns-clause-time : goal.returns-clause-time
returns-clause-time c = λ honest. time_passes _ _ (grown _ _ _ _ c.shorten.ensures)

pub returns-clause-count : goal.returns-clause-count
returns-clause-count c = count_after _ _ _ _ c.shorten.ensures
