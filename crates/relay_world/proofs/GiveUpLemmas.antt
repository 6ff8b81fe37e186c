-- Places that are given up keep a world bound.
use Rattle.std.proofs.Common.{inr, ◌≡◌, ◌≢◌, ◌≤◌, ℕ, zero, suc, false, List, [], ◌∷◌, ◌++◌, length, Option, None, Some, refl, sym, subst, ap, ◌∙◌, arith}
use Rattle.std.specs.Prelude.{slice_get}
use Rattle.std.proofs.lemmas.Option.{none-some}
use Rattle.relay_disk.specs.Device.{DiskWords}
use Rattle.relay_slots.specs.Slots.{slot_at}
use Rattle.relay_server.specs.Dialogue.{Said}
use Rattle.relay_book.specs.declared.change.Change.{Change}
use Rattle.relay_book.specs.declared.change.Outcome.{Outcome}
use Rattle.relay_book.proofs.Theorems.{message_stays}
use Rattle.relay_routes.specs.declared.config.Config.{Config}
use Rattle.relay_attempts.specs.AddedOutcome.{reported_as}
use Rattle.relay_node.specs.Attempts.{Tells}
use Rattle.relay_node.specs.Node.{SeatHasSaid, NodeState}
use Rattle.relay_node.proofs.Theorems.{told_stays}
use Rattle.relay_world.specs.GivingUp.{AddsGivenUp, outcome_for}
use Rattle.relay_world.specs.declared.link.Link.{Link}
use Rattle.relay_world.specs.Bound.{HasLink, HostKeeps, NodeKeeps, SaysThere}
use Rattle.relay_world.specs.Steps.{GivingUpKeeps, without_note}
use Rattle.relay_world.specs.World.{Host, Up, link_at}
use Rattle.relay_world.proofs.FrameLemmas.{TellsOn, changes_stay}
use Rattle.relay_world.proofs.PieceLemmas.{with_at, with_at-length, with_at-put}
use Rattle.relay_world.proofs.MoveLemmas.{Joins, Moves, moved_keeps, same_attempts, same_slots}
use Rattle.relay_world.proofs.RecordLemmas.{Recording, TakesOutcome, accepts_same, keeps_now, lines_now, other_steps, outcome_added, outcome_of_host, steps_now}
use Rattle.relay_world.proofs.UndecidedLemmas.{up_not_down}
use Rattle.relay_world.proofs.OpenLemmas.{list_there, node_kept, same_Up}
use Rattle.relay_report.specs.Report.{reporter_of}
use Rattle.relay_world.specs.Ledger.{left_lines, report_told}
use Rattle.relay_world.proofs.ReasonLemmas.{number_for}

-- no link at all
nowhere : Link
nowhere = record { client = None; server = None; up = []; up_read = 0; down = []; down_read = 0; broken = false }

pub giving_up_keeps : {D : Type 0} (honest : Type 0) (words : DiskWords D) → GivingUpKeeps honest words
unfolding nowhere
giving_up_keeps {D} honest words old new lists reason node message change_now bound gives = (
  with_at lists node grown,
  moved_keeps honest words old new lists (with_at lists node grown) node 0 host moved changes grown nowhere bound moves
      joins,
)
  where
    host : Host D
    host = gives.host

    moved : Host D
    moved = record host { state = Up (without_note gives.after); records = host.records ++ gives.noted.octets ∷ [] }

    listed : (list : List Change) × (slice_get lists node ≡ Some list)
    listed = list_there old.hosts lists node host bound.even gives.host_at

    changes : List Change
    changes = listed.0

    kept : HostKeeps honest words host changes
    kept = bound.hosts node host changes (record { host_at = gives.host_at; list_at = listed.1 })

    its_node : NodeKeeps honest words host.config gives.before changes
    its_node = node_kept honest words host changes gives.before kept gives.up

    given_up : AddsGivenUp honest words (reporter_of gives.before.config) gives.before.config.routes reason message old.clock changes
        gives.before.records gives.after.records change_now
    given_up = gives.gives_up changes its_node.keeps

    outcome : Outcome
    outcome = outcome_for reason gives.before.config.routes message old.clock given_up.message

    takes : TakesOutcome honest words (reporter_of host.config) changes outcome (without_note gives.after).records change_now
        gives.noted
    takes = outcome_of_host honest words (reporter_of gives.before.config) (reporter_of host.config) changes outcome
        (without_note gives.after).records change_now gives.noted (ap (λ (c : Config). reporter_of c) its_node.config_is)
        (outcome_added honest words (reporter_of gives.before.config) changes outcome 0 change_now gives.after gives.noted
        gives.note_is given_up.adds)

    added : Change
    added = reported_as outcome takes.report

    grown : List Change
    grown = changes ++ added ∷ []

    recording : Recording honest words old new lists node 0 host changes gives.before (without_note gives.after) outcome
        change_now
    recording = record {
      bound = bound;
      list_at = listed.1;
      kept = kept;
      its_node = its_node;
      config = gives.config;
      noted = gives.noted;
      takes = takes;
      ledger = gives.ledger
          ∙ ap (λ m. old.ledger ++ left_lines node m 0 (report_told change_now gives.noted.report) gives.noted.left.items)
          (sym (number_for reason gives.before.config.routes message old.clock given_up.message));
      grows = subst (λ l. length old.links ≤ length l) (sym gives.rest.0) (omega arith);
      few = omega arith;
    }

    says : (session : Option ℕ) (peer : List ℕ) (said : Said) → SaysThere host session peer said
        → SaysThere moved session peer said
    says None peer said there = there
    says (Some session) peer said there = (
      without_note gives.after,
      refl,
      subst (λ l. SeatHasSaid host.config l session peer said) (sym gives.seats)
          (subst (λ (n : NodeState D). SeatHasSaid host.config n.seats session peer said)
          (same_Up there.0 gives.before (sym there.1 ∙ gives.up)) there.2),
    )

    tells : (slot : ℕ) → TellsOn host moved changes grown slot
    tells slot told is = (
      without_note gives.after,
      refl,
      told_stays host.config.host changes added gives.before.attempts gives.after.attempts slot told
          takes.keeps.fitting (ap (λ l. slot_at l slot) gives.attempts)
          (subst (λ (n : NodeState D). Tells host.config.host changes n.attempts slot told)
          (same_Up is.0 gives.before (sym is.1 ∙ gives.up)) is.2),
    )

    not_zero : (other : ℕ) (its : Link) → link_at new.links other ≡ Some its → other ≢ 0
    not_zero zero its is same = none-some its is
    not_zero (suc n) its is same = omega (arith, same)

    moves : Moves honest words old new lists (with_at lists node grown) node 0 host moved changes grown nowhere
    moves = record {
      stands = record { host_at = gives.host_at; list_at = listed.1 };
      hosts = gives.hosts;
      even = with_at-length lists node grown ∙ bound.even ∙ sym gives.rest.3;
      list = with_at-put lists node grown changes listed.1;
      links = λ other its is. inr (not_zero other its is, ap (λ l. link_at l other) (sym gives.rest.0) ∙ is);
      stays = λ other off. ap (λ l. link_at l other) gives.rest.0;
      attempts = λ place attempt at off. same_attempts old.attempts new.attempts gives.rest.1 place attempt at;
      config = refl;
      stay = changes_stay changes added;
      messages = λ k a is. message_stays changes added takes.keeps.fitting k a is;
      accepts = λ other off.
          accepts_same honest words old new lists node 0 host changes gives.before (without_note gives.after) outcome
          change_now recording other;
      steps = steps_now honest words old new lists node 0 host changes gives.before (without_note gives.after) outcome
          change_now recording;
      other_steps =
          other_steps honest words old new lists node 0 host changes gives.before (without_note gives.after) outcome
          change_now recording;
      lines = lines_now honest words old new lists node 0 host changes gives.before (without_note gives.after) outcome
          change_now recording;
      says = λ other its session off is has peer said there. says (Some session) peer said there;
      tells = λ place attempt slot at off has. tells slot;
      keeps = keeps_now honest words old new lists node 0 host changes gives.before (without_note gives.after) outcome
          change_now recording;
    }

    joins : Joins honest words old new lists (with_at lists node grown) node 0 host moved changes grown nowhere
    joins = record {
      served = λ end serves. absurd (none-some end serves);
      tried = λ place client. absurd (none-some place client);
      reads = record { up = omega arith; down = omega arith };
      slots = same_slots old.attempts new.attempts gives.rest.1 bound.slots;
      apart = λ other its at session off is mine yours. none-some yours.end yours.serves;
      attempts = λ place attempt at.
          let has : HasLink old.links place attempt =
          bound.attempts place attempt (ap (λ l. slice_get l place) (sym gives.rest.1) ∙ at) in
          record {
            link = has.link;
            is_there = ap (λ l. link_at l attempt.link) gives.rest.0 ∙ has.is_there;
            client = has.client;
          };
      settled = λ was there broken. absurd (none-some was there);
      may_be_in = λ disk undecided down. absurd (up_not_down (without_note gives.after) disk (Some undecided) down);
    }
