-- A file as a disk.
use Rattle.std.specs.Prelude.{ℕ, ℤ, Bool, [], None}
use Rattle.std.specs.Fd.{file_raw_fd}
use Rattle.relay_disk.specs.declared.file.FileDisk.{FileDisk}
use Rattle.relay_disk.specs.Device.{DiskWords}

-- the number by which the system knows the open file: 0, 1 and 2 are those of the standard streams
abbrev pub descriptor_of : FileDisk → ℤ
descriptor_of disk = file_raw_fd disk.file

-- how many calls on the file have failed
abbrev pub failures_of : FileDisk → ℕ
failures_of disk = disk.failures

-- a sync has failed since the file was opened
abbrev pub sync_failed : FileDisk → Bool
sync_failed disk = disk.sync_failed

-- what contracts say of it: which calls have failed, and nothing of its octets
abbrev pub file_words : DiskWords FileDisk
file_words = record {
  seen = λ _. [];
  may_leave = λ _ _. ⊥;
  moment = λ _. 0;
  left_since = λ _ _ _. ⊥;
  failed = failures_of;
  calls_left = λ _. None;
}
