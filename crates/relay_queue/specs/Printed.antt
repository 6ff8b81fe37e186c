-- What `list`, `show` and `status` print: it is of the queue that files were opened to, and a terminal may see it.
use Rattle.std.specs.Prelude.{◌≡◌, ℕ, List, ◌++◌, codes, decimal}
use Rattle.std.specs.Prelude.{Option, None, Some, Ok}
use Rattle.std.specs.Io.KnownBytes.{Appends}
use Rattle.relay_disk.specs.declared.file.FileDisk.{FileDisk}
use Rattle.relay_routes.specs.Config.{ReadsConfig}
use Rattle.relay_routes.specs.Routes.{RouteTable}
use Rattle.relay_routes.specs.declared.config.Config.{Config}
use Rattle.relay_book.specs.declared.message.Message.{Message}
use Rattle.relay_book.specs.Queue.{Queue, message_of}
use Rattle.relay_records.specs.Records.{Kept}
use Rattle.relay_outlines.specs.Look.{Seen}
use Rattle.relay_files.specs.Opening.{IsLook, IsOpened}
use Rattle.relay_queue.specs.declared.calls.ListForm.{ListForm}
use Rattle.relay_queue.specs.declared.calls.ListForm.TheVariants.{Table, Json}
use Rattle.relay_queue.specs.declared.calls.MessageForm.{MessageForm}
use Rattle.relay_queue.specs.declared.calls.MessageForm.TheVariants.{Shown, Raw}
use Rattle.relay_queue.specs.declared.calls.StatusForm.{StatusForm}
use Rattle.relay_queue.specs.declared.calls.StatusForm.TheVariants.{Table as StatusTable, Metrics}
use Rattle.relay_queue.specs.declared.filter.Filter.{Filter}
use Rattle.relay_listing.specs.Load.{queue_by_hop}
use Rattle.relay_listing.specs.declared.load.Load.{Load}
use Rattle.relay_queue.specs.Objects.{objects_text}
use Rattle.relay_queue.specs.Message.{IsMessageText}
use Rattle.relay_queue.specs.Picks.{AreListed}
use Rattle.relay_queue.specs.Screen.{AreSafe}
use Rattle.relay_queue.specs.Status.{IsSummary, fill_text, metrics_text}
use Rattle.relay_queue.specs.Table.{IsTable}

-- the recipients with these keys, in a form
abbrev pub IsList : ListForm → ℕ → RouteTable → Queue → List (ℕ × ℕ × ℕ) → List ℕ → Type 0
IsList Table now table queue keys text = IsTable now table queue keys text
IsList Json now table queue keys text = text ≡ objects_text now table queue keys

-- the queued recipients that pass the filter were printed, in the order of the list, by the routes of a configuration;
-- the time is what the clock has said, of which nothing is known
pub record IsListPrinted (filter : Filter) (form : ListForm) (old new : Option (List ℕ)) : Type 0 where
  pub look : Seen
  pub queue : Queue
  pub opened : IsLook look queue
  pub document : List ℕ
  pub config : Config
  pub reads : ReadsConfig document (Ok config)
  pub now : ℕ
  pub keys : List (ℕ × ℕ × ℕ)
  pub picked : AreListed filter now config.routes queue keys
  pub text : List ℕ
  pub listed : IsList form now config.routes queue keys text
  pub safe : AreSafe text
  pub written : Appends old new text

-- a message for people, at a time that the clock has said
pub record IsShown (table : RouteTable) (message : Message) (old new : Option (List ℕ)) : Type 0 where
  pub now : ℕ
  pub text : List ℕ
  pub text_is : IsMessageText now table message text
  pub safe : AreSafe text
  pub written : Appends old new text

-- a message in a form: its text alone, octet by octet, or after what is known of the message
abbrev pub IsTextPrinted : MessageForm → RouteTable → Message → Option (List ℕ) → Option (List ℕ) → Type 0
IsTextPrinted Shown table message old new = IsShown table message old new
IsTextPrinted Raw table message old new = Appends old new message.accept.stored_text

-- the message of this number was printed, which is queued, by the routes of a configuration
pub record IsMessagePrinted (number : ℕ) (form : MessageForm) (old new : Option (List ℕ)) : Type 0 where
  pub records : Kept FileDisk
  pub opened : IsOpened records
  pub document : List ℕ
  pub config : Config
  pub reads : ReadsConfig document (Ok config)
  pub message : Message
  pub queued : message_of records.queue.messages number ≡ Some message
  pub printed : IsTextPrinted form config.routes message old new

-- no message of this number is queued
pub record IsNotQueued (number : ℕ) : Type 0 where
  pub records : Kept FileDisk
  pub opened : IsOpened records
  pub absent : message_of records.queue.messages number ≡ None

abbrev pub spool_gauge : ℕ → List ℕ
spool_gauge size = codes "relayd_spool_bytes " ++ decimal size ++ codes "\n"

-- the size of a spool in a form: the last line, after those of the next hops, or a gauge among others
abbrev pub ShowsFill : StatusForm → ℕ → List ℕ → Type 0
ShowsFill StatusTable size text = (front : List ℕ) × (limit : ℕ) × (text ≡ front ++ fill_text size limit)
ShowsFill Metrics size text = (front rest : List ℕ) × (text ≡ front ++ spool_gauge size ++ rest)

-- the loads of next hops and the size of a spool, in a form
abbrev pub IsStatus : StatusForm → ℕ → List (List ℕ × Load) → ℕ → ℕ → List ℕ → Type 0
IsStatus StatusTable now loads size limit text = IsSummary now loads size limit text
IsStatus Metrics now loads size limit text = text ≡ metrics_text now loads size limit

-- the queue that files were opened to was printed by next hop, by the routes of a configuration, and the size of the
-- spool; the time is what the clock has said
pub record IsStatusPrinted (form : StatusForm) (old new : Option (List ℕ)) : Type 0 where
  pub look : Seen
  pub queue : Queue
  pub opened : IsLook look queue
  pub document : List ℕ
  pub config : Config
  pub reads : ReadsConfig document (Ok config)
  pub now : ℕ
  pub text : List ℕ
  pub by_hop : IsStatus form now (queue_by_hop config.routes queue) look.size config.spool_limit text
  pub fill : ShowsFill form look.size text
  pub safe : AreSafe text
  pub written : Appends old new text
