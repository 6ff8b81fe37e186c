-- The length that the outline says, which is that of the text.
use Rattle.std.proofs.Common.{length, ap}
use Rattle.std.specs.Option.{option_map_or}
use Rattle.relay_book.specs.declared.message.Message.{Message}
use Rattle.relay_queue.proofs.BlankLemmas.{size_found}
use Rattle.relay_queue.proofs.table.size_of.Goals as goal

pub returns-in-Some : goal.returns-in-Some
returns-in-Some c = rw (c.length_in.ensures, c.as_slice.ensures) (size_found _ c.in-Some.outline.now _ c.in-Some.ensures)

pub returns-in-None : goal.returns-in-None
returns-in-None c =
    ap (λ m. option_map_or (λ (message : Message). length message.accept.stored_text) m 0) c.in-None.ensures
