-- A node that stays up, and keeps its changes, keeps a world bound, and each place tried once.
use Rattle.std.proofs.Common.{inr, ◌≡◌, ◌≢◌, ◌≤◌, ℕ, zero, suc, false, List, [], length, Option, None, Some, refl, sym, subst, ap, ◌∙◌, arith}
use Rattle.std.specs.Prelude.{slice_get}
use Rattle.std.specs.List.{AllByRecursion}
use Rattle.std.proofs.lemmas.Option.{none-some}
use Rattle.relay_disk.specs.Device.{DiskWords}
use Rattle.relay_server.specs.Dialogue.{Said}
use Rattle.relay_book.specs.declared.change.Change.{Change}
use Rattle.relay_node.specs.Attempts.{Tells}
use Rattle.relay_node.specs.Node.{SeatHasSaid, NodeState}
use Rattle.relay_world.specs.GivingUp.{Withdrawing}
use Rattle.relay_world.specs.declared.link.Link.{Link}
use Rattle.relay_world.specs.Bound.{HasLink, HostKeeps, IsBound, NodeKeeps, SaysThere, link_of}
use Rattle.relay_world.specs.Ledger.{accepts_on, steps_in}
use Rattle.relay_world.specs.Once.{IsTriedOnce}
use Rattle.relay_world.specs.Stops.{StayingUpKeeps, StaysUp}
use Rattle.relay_world.specs.World.{Host, Up, World, link_at}
use Rattle.relay_world.proofs.ClaimLemmas.{given_up_at}
use Rattle.relay_world.proofs.FrameLemmas.{TellsOn}
use Rattle.relay_world.proofs.MoveLemmas.{Joins, Moves, moved_keeps, same_attempts, same_slots}
use Rattle.relay_world.proofs.OpenLemmas.{list_there, node_kept, same_Up}
use Rattle.relay_world.proofs.StopOnceLemmas.{state_alone}
use Rattle.relay_world.proofs.UndecidedLemmas.{up_not_down}

-- no link at all
nowhere : Link
nowhere = record { client = None; server = None; up = []; up_read = 0; down = []; down_read = 0; broken = false }

pub staying_up_keeps : {D : Type 0} (honest : Type 0) (words : DiskWords D) → StayingUpKeeps honest words
unfolding nowhere
staying_up_keeps {D} honest words old new lists node bound stays =
    moved_keeps honest words old new lists lists node 0 host moved changes changes nowhere bound moves joins
  where
    host : Host D
    host = stays.host

    moved : Host D
    moved = record host { state = Up stays.after }

    listed : (list : List Change) × (slice_get lists node ≡ Some list)
    listed = list_there old.hosts lists node host bound.even stays.host_at

    changes : List Change
    changes = listed.0

    kept : HostKeeps honest words host changes
    kept = bound.hosts node host changes (record { host_at = stays.host_at; list_at = listed.1 })

    its_node : NodeKeeps honest words host.config stays.before changes
    its_node = node_kept honest words host changes stays.before kept stays.up

    says : (session : Option ℕ) (peer : List ℕ) (said : Said) → SaysThere host session peer said
        → SaysThere moved session peer said
    says None peer said there = there
    says (Some session) peer said there = (
      stays.after,
      refl,
      subst (λ l. SeatHasSaid host.config l session peer said) (sym stays.seats)
          (subst (λ (n : NodeState D). SeatHasSaid host.config n.seats session peer said)
          (same_Up there.0 stays.before (sym there.1 ∙ stays.up)) there.2),
    )

    tells : (slot : ℕ) → TellsOn host moved changes changes slot
    tells slot told is = (
      stays.after,
      refl,
      subst (λ l. Tells host.config.host changes l slot told) (sym stays.attempts)
          (subst (λ (n : NodeState D). Tells host.config.host changes n.attempts slot told)
          (same_Up is.0 stays.before (sym is.1 ∙ stays.up)) is.2),
    )

    not_zero : (other : ℕ) (its : Link) → link_at new.links other ≡ Some its → other ≢ 0
    not_zero zero its is same = none-some its is
    not_zero (suc n) its is same = omega (arith, same)

    moves : Moves honest words old new lists lists node 0 host moved changes changes nowhere
    moves = record {
      stands = record { host_at = stays.host_at; list_at = listed.1 };
      hosts = stays.hosts;
      even = bound.even ∙ sym stays.rest.4;
      list = record { at = listed.1; others = λ other off. refl };
      links = λ other its is. inr (not_zero other its is, ap (λ l. link_at l other) (sym stays.rest.0) ∙ is);
      stays = λ other off. ap (λ l. link_at l other) stays.rest.0;
      attempts = λ place attempt at off. same_attempts old.attempts new.attempts stays.rest.1 place attempt at;
      config = refl;
      stay = λ k c is. is;
      messages = λ k a is. is;
      accepts = λ other off. ap (λ l. accepts_on other l) stays.rest.2;
      steps = ap (λ l. steps_in node l) stays.rest.2 ∙ bound.ledger node changes listed.1;
      other_steps = λ other off. ap (λ l. steps_in other l) stays.rest.2;
      lines = subst (λ l. AllByRecursion (λ line. link_of line ≤ length l) new.ledger) (sym stays.rest.0)
          (subst (λ l. AllByRecursion (λ line. link_of line ≤ length old.links) l) (sym stays.rest.2) bound.lines);
      says = λ other its session off is has peer said there. says (Some session) peer said there;
      tells = λ place attempt slot at off has. tells slot;
      keeps = record {
        list = kept.list;
        holds = record {
          config_is = stays.config ∙ its_node.config_is;
          keeps = stays.keeps changes its_node.keeps;
        };
        reports = kept.reports;
      };
    }

    joins : Joins honest words old new lists lists node 0 host moved changes changes nowhere
    joins = record {
      served = λ end serves. absurd (none-some end serves);
      tried = λ place client. absurd (none-some place client);
      reads = record { up = omega arith; down = omega arith };
      slots = same_slots old.attempts new.attempts stays.rest.1 bound.slots;
      apart = λ other its at session off is mine yours. none-some yours.end yours.serves;
      attempts = λ place attempt at.
          let has : HasLink old.links place attempt =
          bound.attempts place attempt (ap (λ l. slice_get l place) (sym stays.rest.1) ∙ at) in
          record {
            link = has.link;
            is_there = ap (λ l. link_at l attempt.link) stays.rest.0 ∙ has.is_there;
            client = has.client;
          };
      settled = λ was there broken. absurd (none-some was there);
      may_be_in = λ disk undecided down. absurd (up_not_down stays.after disk (Some undecided) down);
    }

module _ {D : Type 0} (honest : Type 0) (words : DiskWords D) (old new : World D) (lists later : List (List Change))
    (bound : IsBound honest words old lists) {asked : List Withdrawing} (once : IsTriedOnce old lists asked) (now : IsBound honest words new later) where
  pub stayed_up : (node : ℕ) → StaysUp honest words old new node → IsTriedOnce new later asked
  stayed_up node stays =
      state_alone honest words old new lists later bound once now node stays.host (Up stays.after) stays.host_at stays.hosts
      stays.rest.0 stays.rest.1 stays.rest.2
      (given_up_at honest words old new lists later bound once now node stays.host stays.after stays.host.records stays.hosts)
