use Rattle.uss_disk.proofs.Calls.{count_after, time_passes, grown, write_done, write_in_part, write_crash}
use Rattle.uss_disk.proofs.memory.MemoryDiskDisk.write_at.Goals as goal

pub returns-clause-done : goal.returns-clause-done
returns-clause-done c = λ honest. write_done _ _ _ _ _ c.put.ensures

pub returns-clause-in_part : goal.returns-clause-in_part
returns-clause-in_part c = λ honest. write_in_part _ _ _ _ _ c.put.ensures

pub returns-clause-crash : goal.returns-clause-crash
returns-clause-crash c = λ honest. write_crash _ _ _ _ _ c.put.ensures

pub returns-clause-time : goal.returns-clause-time
returns-clause-time c = λ honest. time_passes _ _ (grown _ _ _ _ c.put.ensures)

pub returns-clause-count : goal.returns-clause-count
returns-clause-count c = count_after _ _ _ _ c.put.ensures
