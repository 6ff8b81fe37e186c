-- The lines that were written are those of the queue that was opened.
use Rattle.std.proofs.Common.{rules, ◌≡◌, subst}
use Rattle.std.specs.Io.KnownBytes.{Appends}
use Rattle.relay_files.specs.Listing.{listing_of}
use Rattle.relay_files.proofs.ListingLemmas.{listed}
use Rattle.relay_files.proofs.listing.list.Goals as goal

pub returns : goal.returns
returns g c =
    let look = c.in_ok-look.look in
    let queue = c.in_ok-look.ensures.0 in
    let is = c.in_ok-look.ensures.1 in
    let lines : c.as_slice.result.now ≡ listing_of look.queue = search rules in
    record {
      look = look;
      queue = queue;
      opened = is;
      written =
          subst
          (λ text. Appends (g.W.Write.contents c.args.writer.now) (g.W.Write.contents c.write_out.new.writer) text)
          (listed c.as_slice.result.now look.queue queue lines is.shows.blank) c.in_ok-write_out.ensures;
    }
