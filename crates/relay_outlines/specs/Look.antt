-- What a look shows of a queue: all but the octets of its texts.
use Rattle.std.specs.Prelude.{◌≡◌, ℕ, length, map, replicate}
use Rattle.relay_disk.specs.declared.disks.Disks.{Disks}
use Rattle.relay_disk.specs.Device.{DiskWords}
use Rattle.relay_spool.specs.Image.{size_of}
use Rattle.relay_spool.specs.Spool.{ReadsAs}
use Rattle.relay_book.specs.declared.message.Message.{Message}
use Rattle.relay_book.specs.Outline.{length_in}
use Rattle.relay_book.specs.Queue.{Queue}
use Rattle.relay_book.specs.StandsFor.{ReadsAll}

-- a message with a blank text of this length: all of its octets are 0
abbrev pub with_blank : ℕ → Message → Message
with_blank count message =
    record message { accept = record message.accept { stored_text = replicate count 0 } }

-- a message with a blank text in place of its own, as long as that
abbrev pub blank : Message → Message
blank message = with_blank (length message.accept.stored_text) message

-- a queue with blank texts
abbrev pub blank_entry : ℕ × Message → ℕ × Message
blank_entry entry = (entry.0, blank entry.1)

abbrev pub blank_texts : Queue → Queue
blank_texts queue = record { next = queue.next; messages = map blank_entry queue.messages }

-- a message with a blank text as long as its outline says
abbrev pub blank_as_told : Message → Message
blank_as_told message = with_blank (length_in message.accept.stored_text) message

-- a queue with blank texts, each as long as an outline says
abbrev pub entry_as_told : ℕ × Message → ℕ × Message
entry_as_told entry = (entry.0, blank_as_told entry.1)

abbrev pub texts_as_told : Queue → Queue
texts_as_told outline = record { next = outline.next; messages = map entry_as_told outline.messages }

-- what a caller sees of a look: the queue with blank texts, and how many octets the spool takes
pub record Seen : Type 0 where
  pub queue : Queue
  pub size : ℕ

-- what an outline and a size show
abbrev pub seen : Queue → ℕ → Seen
seen outline size = record { queue = texts_as_told outline; size = size }

-- a look shows this queue, but for the octets of its texts, and it is the one that disks hold, in a spool of the size
-- that the look has: `Opens` of relay_records says the same of the queue and size of opened records
pub record Shows {D : Type 0} (honest : Type 0) (words : DiskWords D) (disk : Disks D) (look : Seen)
    (queue : Queue) : Type 0 where
  pub blank : look.queue ≡ blank_texts queue
  pub reads : honest → ReadsAs words disk (λ bodies. ReadsAll bodies queue)
  pub sized : honest → ReadsAs words disk (λ bodies. look.size ≡ size_of bodies)
