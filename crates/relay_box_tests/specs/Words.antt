-- What contracts say of the disks of the box: how many calls have failed, and nothing of their octets.
use Rattle.std.specs.Prelude.{[], None}
use Rattle.relay_disk.specs.Device.{DiskWords}
use Rattle.relay_box_tests.specs.declared.ballast.BoxBallast.{BoxBallast}
use Rattle.relay_box_tests.specs.declared.disk.BoxDisk.{BoxDisk}

abbrev pub box_disk_words : DiskWords BoxDisk
box_disk_words = record {
  seen = λ _. [];
  may_leave = λ _ _. ⊥;
  moment = λ _. 0;
  left_since = λ _ _ _. ⊥;
  failed = λ disk. disk.failures;
  calls_left = λ _. None;
}

abbrev pub box_ballast_words : DiskWords BoxBallast
box_ballast_words = record {
  seen = λ _. [];
  may_leave = λ _ _. ⊥;
  moment = λ _. 0;
  left_since = λ _ _ _. ⊥;
  failed = λ file. file.failures;
  calls_left = λ _. None;
}
