-- One message after another is listed.
use Rattle.std.proofs.Common.{◌∙◌, arith}
use Rattle.relay_next_hops.proofs.ListingLemmas.{kept_then, messages_next, more_then}
use Rattle.relay_book.specs.Queue.{message_of}
use Rattle.relay_lanes.specs.Numbers.{with_newer}
use Rattle.relay_next_hops.proofs.KnownLemmas.{known_below, known_next, opens_then, unknown_stays}
use Rattle.relay_next_hops.proofs.lanes.Lanes.take_up_to.Goals as goal

pub loop-number-preserved : goal.loop-number-preserved
loop-number-preserved g c = record {
  more = more_then c.args.self.now c.loop-number.self c.take_one.new.self c.loop-number.invariant.more c.take_one.ensures.more;
  kept = kept_then c.args.self.now c.loop-number.self c.take_one.new.self c.loop-number.invariant.kept c.take_one.ensures.kept;
  listed = messages_next c.loop-number.self c.take_one.new.self c.take_one.ensures.more c.take_one.ensures.kept c.args.hops.now.hops c.args.now.now.moment c.args.relay.now.node c.args.self.now.next_number c.loop-number.number c.loop-number.invariant.listed c.take_one.ensures.listed;
  opens = opens_then c.args.self.now c.loop-number.self c.take_one.new.self c.loop-number.invariant.opens c.take_one.ensures.opens;
  next = c.take_one.ensures.next ∙ c.loop-number.invariant.next;
  known = λ before. known_next c.args.relay.now.node c.loop-number.number c.loop-number.self c.take_one.new.self (c.loop-number.invariant.known before) c.take_one.ensures.noted;
  all = λ unknown. unknown_stays (with_newer c.loop-number.number) (message_of c.args.relay.now.node.records.queue.messages c.loop-number.number) c.loop-number.self c.take_one.new.self c.take_one.ensures.noted (c.loop-number.invariant.all unknown);
  left = c.take_one.ensures.walk.0 ∙ c.loop-number.invariant.left;
  listing = c.take_one.ensures.walk.1 ∙ c.loop-number.invariant.listing;
}

pub returns-clause-listed : goal.returns-clause-listed
returns-clause-listed g c = λ known number from below. c.loop-number.invariant.listed number from (omega (arith, below, c.loop-number-test.false))

pub returns-clause-known : goal.returns-clause-known
returns-clause-known g c = λ started before.
    known_below c.args.relay.now.node c.loop-number.number c.args.next_number c.loop-number.self (omega (arith, c.loop-number-test.false)) (c.loop-number.invariant.known before)
