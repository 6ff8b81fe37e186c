-- A spool opened for reading: the queue that is shown is the one that the spool's files were opened to.
use Rattle.relay_disk.specs.declared.disks.Disks.{Disks}
use Rattle.relay_disk.specs.declared.file.FileDisk.{FileDisk}
use Rattle.relay_disk.specs.File.{file_words}
use Rattle.relay_book.specs.Queue.{Queue}
use Rattle.relay_outlines.specs.Look.{Seen, Shows}
use Rattle.relay_records.specs.Open.{Opens}
use Rattle.relay_records.specs.Records.{Kept}

-- the records are those that some files were opened to
pub record IsOpened (records : Kept FileDisk) : Type 0 where
  pub disk : Disks FileDisk
  pub opens : Opens ⊥ file_words disk records

-- the look shows this queue, which is the one that some files hold, but for the octets of its texts
pub record IsLook (look : Seen) (queue : Queue) : Type 0 where
  pub disk : Disks FileDisk
  pub shows : Shows ⊥ file_words disk look queue
