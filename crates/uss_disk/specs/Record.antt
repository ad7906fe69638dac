-- The record of a disk in memory, as what its contracts see. This project's own.
use Rattle.std.specs.Prelude.{ℕ, List}
use Rattle.uss_disk.specs.Memory.{MemoryView}
use Rattle.uss_disk.specs.declared.record.Record.{Record}

-- a disk that was made with these bytes and has this record
abbrev pub with_record : (first : List ℕ) → Record → MemoryView
with_record first log = record { first = first; calls = log.calls.items; failing = log.failing.items; faults = log.faults }
