-- the row of the message, with the size that its outline says
use Rattle.std.specs.Prelude.{Some, None}
use Rattle.relay_listing.specs.Row.{said_by}
use Rattle.relay_listing.proofs.RowLemmas.{sized_as_told}
use Rattle.relay_listing.proofs.row.row_as_told.Goals as goal

pub returns-in-Some : goal.returns-in-Some
returns-in-Some c =
    rw (c.length_in.ensures, c.as_slice.ensures) (sized_as_told c.args.table.now c.args.number c.args.place c.args.outline.now
    (Some (said_by c.in-Some.row)) c.in-Some.ensures)

pub returns-in-None : goal.returns-in-None
returns-in-None c = sized_as_told c.args.table.now c.args.number c.args.place c.args.outline.now None c.in-None.ensures
