use Rattle.std.proofs.Common.{◌≡◌, ◌-◌, ◌≤◌, vec_len}
use Rattle.uss_disk.specs.Disk.{bytes_of}
use Rattle.uss_journal.specs.Gates.{Leads}
use Rattle.uss_journal.specs.Sound.{OnlyLooked, IsFront}
use Rattle.uss_journal.proofs.scan.scan.Given as goal

abbrev pub invariant-loop-disk : goal.invariant-loop-disk
invariant-loop-disk g l = record {
  looked : OnlyLooked g.D.Disk.reads g.D.Disk.may_leave g.D.Disk.moment g.D.Disk.left_since g.D.Disk.is_honest g.D.Disk.fault_count l.fn.disk l.disk;
  calm : g.D.Disk.fault_count l.disk ≡ g.D.Disk.fault_count l.fn.disk;
  leads : Leads l.known.bytes.items l.known.gates.items l.known.last;
  within : vec_len l.known.bytes ≤ l.len;
  front : g.D.Disk.is_honest l.fn.disk → IsFront l.known.bytes.items (bytes_of (g.D.Disk.reads l.fn.disk));
}

abbrev pub decreases-loop-disk : goal.decreases-loop-disk
decreases-loop-disk g l = l.len - l.known.last
