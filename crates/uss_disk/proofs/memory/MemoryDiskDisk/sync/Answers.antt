use Rattle.uss_disk.proofs.Calls.{count_after, time_passes, grown, sync_reading, sync_durable, sync_refused}
use Rattle.uss_disk.proofs.memory.MemoryDiskDisk.sync.Goals as goal

pub returns-clause-reading : goal.returns-clause-reading
returns-clause-reading c = λ honest. sync_reading _ _ _ c.note.ensures

pub returns-clause-durable : goal.returns-clause-durable
returns-clause-durable c = λ honest. sync_durable _ _ _ c.note.ensures

pub returns-clause-refused : goal.returns-clause-refused
returns-clause-refused c = λ honest. sync_refused _ _ _ c.note.ensures

pub returns-clause-time : goal.returns-clause-time
returns-clause-time c = λ honest. time_passes _ _ (grown _ _ _ _ c.note.ensures)

pub returns-clause-count : goal.returns-clause-count
returns-clause-count c = count_after _ _ _ _ c.note.ensures
