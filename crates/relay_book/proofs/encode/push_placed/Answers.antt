use Rattle.relay_book.specs.declared.version.SnapshotVersion.TheVariants.{WithDelay}
use Rattle.relay_book.proofs.PlacedLemmas.{row_written}
use Rattle.relay_book.proofs.encode.push_placed.Goals as goal

pub returns : goal.returns
returns c =
    row_written WithDelay c.args.recipients.now c.args.places.now c.args.out.now.items c.push_1.new.out.items c.push_row.new.out.items c.requires.as_many
    c.in_ok-push_row.ensures c.in_ok-push_1.ensures
