-- The file of a ballast, as a disk.
use Rattle.std.specs.Prelude.{[], None}
use Rattle.relay_room.specs.declared.room_file.RoomFile.{RoomFile}
use Rattle.relay_disk.specs.Device.{DiskWords}

-- what contracts say of it: how many calls have failed, and nothing of its octets
abbrev pub room_file_words : DiskWords RoomFile
room_file_words = record {
  seen = λ _. [];
  may_leave = λ _ _. ⊥;
  moment = λ _. 0;
  left_since = λ _ _ _. ⊥;
  failed = λ file. file.failures;
  calls_left = λ _. None;
}
