-- What is said of a disk over a real file. This project's own.
use Rattle.std.specs.Prelude.{◌≡◌, ℕ, Bool, false, IsNone}
use Rattle.uss_disk.specs.declared.act.Act.{Act}
use Rattle.uss_disk.specs.declared.file.FileDisk.{FileDisk}

-- the faults that it has counted
abbrev pub faults_of : FileDisk → ℕ
faults_of disk = disk.faults

-- its file isn't open: it couldn't be opened, or a sync of it was refused
abbrev pub IsShut : FileDisk → Type 0
IsShut disk = IsNone disk.file

-- once its file isn't open, each call is refused, and the file stays so
abbrev pub StaysShut : FileDisk → Act → Bool → FileDisk → Type 0
StaysShut old act answer new = IsShut old → (answer ≡ false) × IsShut new
