-- What the listing keeps, and the part that it lists.
use Rattle.std.proofs.Common.{◌≡◌, ◌⊎◌, [], ap, sym, subst, ◌∙◌, ℕ, List, drop}
use Rattle.std.specs.Prelude.{slice_get}
use Rattle.relay_lanes.specs.Numbers.{Walk}
use Rattle.relay_next_hops.specs.declared.listing.TheConstants.{PART_SIZE}
use Rattle.relay_next_hops.proofs.ListingLemmas.{kept_then, message_kept, more_of, more_then}
use Rattle.relay_next_hops.proofs.KnownLemmas.{knows_listed, knows_same, knows_taken}
use Rattle.relay_next_hops.proofs.lanes.Lanes.refresh.Goals as goal

pub returns-clause-more : goal.returns-clause-more
returns-clause-more g c =
    more_then c.args.self.now c.take_new.new.self c.end_part.new.self c.take_new.ensures.more
    (more_then c.take_new.new.self c.note_time.new.self c.end_part.new.self (more_of c.take_new.new.self c.note_time.new.self c.note_time.ensures.counts)
    (more_then c.note_time.new.self c.list_more.new.self c.end_part.new.self c.list_more.ensures.more (more_of c.list_more.new.self c.end_part.new.self c.end_part.ensures.counts)))

pub returns-clause-part : goal.returns-clause-part
returns-clause-part g c = λ listing.
    let left : c.note_time.new.self.queued.left ≡ c.args.self.now.queued.left = ap (λ (walk : Walk). walk.left) c.note_time.ensures.walk.0 ∙ c.take_new.ensures.walk.0 in
    let over : c.end_part.new.self.queued.left ≡ c.list_more.new.self.queued.left = ap (λ (walk : Walk). walk.left) c.end_part.ensures.walk in
    let part = c.in_ok-list_more.ensures.part (c.note_time.ensures.walk.1 ∙ c.take_new.ensures.walk.1 ∙ listing) in
    record {
      kept = kept_then c.args.self.now c.take_new.new.self c.end_part.new.self c.take_new.ensures.kept
          (kept_then c.take_new.new.self c.note_time.new.self c.end_part.new.self c.note_time.ensures.kept
          (kept_then c.note_time.new.self c.list_more.new.self c.end_part.new.self part.kept c.end_part.ensures.kept));
      size = part.size;
      walk = over ∙ part.walk ∙ ap (drop part.size) left;
      whole = subst (λ (left : List ℕ). (part.size ≡ PART_SIZE) ⊎ (left ≡ [])) (sym over) part.whole;
      listed = λ step number low there.
          message_kept c.list_more.new.self c.end_part.new.self (more_of c.list_more.new.self c.end_part.new.self c.end_part.ensures.counts) c.end_part.ensures.kept
          c.args.hops.now.hops c.args.now.now.moment c.args.relay.now.node number
          (part.listed step number low (ap (λ (left : List ℕ). slice_get left step) left ∙ there));
    }

pub returns-then-now-self-clause-known : goal.returns-then-now-self-clause-known
returns-then-now-self-clause-known g c = λ some before.
    knows_same c.args.relay.now.node c.take_new.new.self c.note_time.new.self
    c.note_time.ensures.walk.0 c.note_time.ensures.walk.1 c.note_time.ensures.numbers.next c.note_time.ensures.numbers.all
    (knows_taken c.args.relay.now.node c.args.self.now c.take_new.new.self some
    c.take_new.ensures.next c.take_new.ensures.walk.0 c.take_new.ensures.walk.1 c.take_new.ensures.known c.take_new.ensures.all before)

pub returns-clause-known : goal.returns-clause-known
returns-clause-known g c = λ some before.
    knows_listed c.args.relay.now.node c.note_time.new.self c.list_more.new.self c.end_part.new.self some
    (c.note_time.ensures.numbers.next ∙ c.take_new.ensures.next) c.list_more.ensures.next
    c.in_ok-list_more.ensures.goes_on c.in_ok-list_more.ensures.known
    c.end_part.ensures.walk c.end_part.ensures.numbers.next c.end_part.ensures.numbers.all c.end_part.ensures.goes_on
    (knows_same c.args.relay.now.node c.take_new.new.self c.note_time.new.self
    c.note_time.ensures.walk.0 c.note_time.ensures.walk.1 c.note_time.ensures.numbers.next c.note_time.ensures.numbers.all
    (knows_taken c.args.relay.now.node c.args.self.now c.take_new.new.self some
    c.take_new.ensures.next c.take_new.ensures.walk.0 c.take_new.ensures.walk.1 c.take_new.ensures.known c.take_new.ensures.all before))
