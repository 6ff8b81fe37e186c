-- What both keep is kept.
use Rattle.relay_next_hops.proofs.ListingLemmas.{kept_then}
use Rattle.relay_next_hops.proofs.lanes.Lanes.note_time.Goals as goal

pub returns-clause-kept : goal.returns-clause-kept
returns-clause-kept g c = kept_then c.args.self.now c.note_due.new.self c.note_hold_end.new.self c.note_due.ensures.kept c.note_hold_end.ensures.kept
