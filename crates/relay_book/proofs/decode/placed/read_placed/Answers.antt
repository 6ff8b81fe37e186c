use Rattle.std.proofs.Common.{arith}
use Rattle.relay_book.proofs.PlacedLemmas.{few_places}
use Rattle.relay_book.proofs.decode.placed.read_placed.Goals as goal

pub new-requires : goal.new-requires
new-requires c =
    few_places c.args.version c.in-Some.count.now c.in-Some.after.now c.in_ok-recipients.recipients c.in_ok-recipients.places.items c.in_ok-recipients.rest.now
    c.in_ok-recipients.ensures.row (omega (arith, c.if-count-gt100.false))
