-- What came since is listed, and stays so.
use Rattle.relay_next_hops.proofs.ListingLemmas.{kept_then, message_kept, more_of}
use Rattle.std.proofs.Common.{inr, ap, subst, sym, ◌∙◌, ◌≡◌, true, List}
use Rattle.std.proofs.lemmas.Bool.{false≢true}
use Rattle.std.specs.Prelude.{slice_get}
use Rattle.std.specs.Option.{option_map_or}
use Rattle.relay_node.specs.Node.{NodeState}
use Rattle.relay_attempts.specs.Next.{IsNextDue}
use Rattle.relay_lanes.specs.Lane.{tasks_of}
use Rattle.relay_next_hops.specs.Lanes.{tasks_at}
use Rattle.relay_next_hops.specs.declared.lanes.Lanes.{Lanes}
use Rattle.relay_next_hops.proofs.KnownLemmas.{knows_same, knows_taken, opens_then, same_lanes}
use Rattle.relay_next_hops.proofs.lanes.Lanes.look_ahead.Goals as goal

pub returns-then-self-clause-listed : goal.returns-then-self-clause-listed
returns-then-self-clause-listed g c = c.take_new-self.ensures.listed

pub returns-in-Err-clause-listed : goal.returns-in-Err-clause-listed
returns-in-Err-clause-listed g c = c.take_new-self.ensures.listed

pub returns-in-Ok-clause-kept : goal.returns-in-Ok-clause-kept
returns-in-Ok-clause-kept g c = kept_then c.args.self.now c.take_new-self.new.self c.note_next.new.self c.take_new-self.ensures.kept
    (record {
      tasks = c.note_next.ensures.kept.tasks;
      unroutable = c.note_next.ensures.kept.unroutable;
      stale = c.note_next.ensures.kept.stale;
    })

pub returns-in-Ok-clause-listed : goal.returns-in-Ok-clause-listed
returns-in-Ok-clause-listed g c = λ known number from below.
    message_kept c.take_new-self.new.self c.note_next.new.self
    (more_of c.take_new-self.new.self c.note_next.new.self (record { places = c.note_next.ensures.counts.places; held = c.note_next.ensures.counts.held; runs = c.note_next.ensures.counts.runs }))
    (record {
      tasks = c.note_next.ensures.kept.tasks;
      unroutable = c.note_next.ensures.kept.unroutable;
      stale = c.note_next.ensures.kept.stale;
    })
    c.args.hops.now.hops c.args.now.now.moment c.args.relay.now.node number (c.take_new-self.ensures.listed known number from below)

pub returns-then-self-clause-known : goal.returns-then-self-clause-known
returns-then-self-clause-known g c = λ some before.
    knows_taken c.args.relay.now.node c.args.self.now (record c.take_new-self.new.self { is_fresh = c.take_new-self.result }) some
    c.take_new-self.ensures.next c.take_new-self.ensures.walk.0 c.take_new-self.ensures.walk.1 c.take_new-self.ensures.known c.take_new-self.ensures.all before

pub returns-in-Err-clause-known : goal.returns-in-Err-clause-known
returns-in-Err-clause-known g c = λ some before.
    knows_taken c.args.relay.now.node c.args.self.now (record c.take_new-self.new.self { is_fresh = c.take_new-self.result }) some
    c.take_new-self.ensures.next c.take_new-self.ensures.walk.0 c.take_new-self.ensures.walk.1 c.take_new-self.ensures.known c.take_new-self.ensures.all before

pub returns-in-Ok-clause-known : goal.returns-in-Ok-clause-known
returns-in-Ok-clause-known g c = λ some before.
    knows_same c.args.relay.now.node (record c.take_new-self.new.self { is_fresh = c.take_new-self.result }) c.note_next.new.self
    c.note_next.ensures.walk.0 c.note_next.ensures.walk.1 c.note_next.ensures.numbers.next c.note_next.ensures.numbers.all
    (knows_taken c.args.relay.now.node c.args.self.now (record c.take_new-self.new.self { is_fresh = c.take_new-self.result }) some
    c.take_new-self.ensures.next c.take_new-self.ensures.walk.0 c.take_new-self.ensures.walk.1 c.take_new-self.ensures.known c.take_new-self.ensures.all before)

pub returns-in-Ok-clause-opens : goal.returns-in-Ok-clause-opens
returns-in-Ok-clause-opens g c =
    opens_then c.args.self.now c.take_new-self.new.self c.note_next.new.self c.take_new-self.ensures.opens
    (inr (c.note_next.ensures.tasks.1, same_lanes c.take_new-self.new.self c.note_next.new.self c.note_next.ensures.tasks.0))

pub returns-in-Ok-clause-due : goal.returns-in-Ok-clause-due
returns-in-Ok-clause-due g c = λ unsure sure. (
  c.in-Ok.next,
  subst (λ (node : NodeState _). IsNextDue node.config.routes node.attempts node.records.queue c.args.now.now.moment c.in-Ok.next) c.node.ensures c.in-Ok.ensures.next,
  c.note_next.ensures.noted,
)

pub returns-then-self-clause-opens : goal.returns-then-self-clause-opens
returns-then-self-clause-opens g c = c.take_new-self.ensures.opens

pub returns-in-Err-clause-opens : goal.returns-in-Err-clause-opens
returns-in-Err-clause-opens g c = c.take_new-self.ensures.opens

pub returns-then-self-clause-due : goal.returns-then-self-clause-due
returns-then-self-clause-due g c = λ unsure sure. absurd (false≢true (sym sure ∙ c.take_new-self.ensures.unsure unsure))
