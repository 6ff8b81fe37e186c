-- A node that stops between two calls, stays down, or stops while places without a hop are given up, keeps a world bound.
use Rattle.std.proofs.Common.{◌≡◌, ◌≤◌, ℕ, List, length, None, Some, refl, sym, subst, ap, ◌∙◌}
use Rattle.std.specs.Prelude.{slice_get}
use Rattle.std.specs.List.{AllByRecursion}
use Rattle.std.proofs.lemmas.Option.{none-some, same_Some}
use Rattle.relay_disk.specs.Device.{DiskWords}
use Rattle.relay_disk.specs.declared.disks.Disks.{Disks}
use Rattle.relay_book.specs.declared.change.Change.{Change}
use Rattle.relay_book.specs.declared.change.Outcome.{Outcome}
use Rattle.relay_routes.specs.declared.config.Config.{Config}
use Rattle.relay_attempts.specs.AddedOutcome.{CutsOutcome, reported_as}
use Rattle.relay_world.specs.GivingUp.{CutsGivenUp, outcome_for}
use Rattle.relay_world.specs.Bound.{StateKeeps, HostKeeps, IsBound, MayBeIn, NodeKeeps, StandsAt, link_of}
use Rattle.relay_world.specs.Ledger.{accepts_on, left_lines, report_told, steps_in}
use Rattle.relay_world.specs.Steps.{IsPut}
use Rattle.relay_world.specs.Stops.{NoAttempt, NoSession, OnlyHostsChange, StayingDownKeeps, StoppingGivingUpKeeps, StoppingKeeps}
use Rattle.relay_world.specs.World.{Down, FromGivingUp, HostState, Host, Undecided, World}
use Rattle.relay_world.proofs.DownLemmas.{Notes, down_halted, down_left, fits_more, host_moved, no_attempt_down, no_session_down, notes, outcome_steps, remains_same, same_undecided}
use Rattle.relay_world.proofs.OpenLemmas.{list_there, node_kept}
use Rattle.relay_world.proofs.ReasonLemmas.{number_for}
use Rattle.relay_world.proofs.UndecidedLemmas.{still_may_be_in}
use Rattle.relay_report.specs.Report.{reporter_of}

-- a node on which nothing went on has another state, which keeps its list, and all else is the same
module _ {D : Type 0} (honest : Type 0) (words : DiskWords D) (old new : World D) (lists : List (List Change)) (node : ℕ)
    (bound : IsBound honest words old lists) (host : Host D) (changes : List Change)
    (stands : StandsAt old lists node host changes) (state : HostState D)
    (hosts : IsPut old.hosts new.hosts node (record host { state = state })) (rest : OnlyHostsChange old new) where
  pub state_moved : NoSession old node → NoAttempt old node → StateKeeps honest words host.config state changes
      → ((disk : Disks D) (undecided : Undecided) → state ≡ Down disk (Some undecided)
      → MayBeIn new node (record host { state = state }) changes undecided) → IsBound honest words new lists
  state_moved no_session no_attempt holds may_be_in =
      let kept : HostKeeps honest words host changes = bound.hosts node host changes stands in
      host_moved honest words old new lists lists node host (record host { state = state }) changes changes bound (record {
        stands = stands;
        hosts = hosts;
        even = bound.even ∙ sym rest.4;
        list = record { at = stands.list_at; others = λ other off. refl };
        links = rest.0;
        attempts = rest.1;
        config = refl;
        stay = λ k c is. is;
        messages = λ k a is. is;
        accepts = λ other. ap (λ l. accepts_on other l) rest.2;
        steps = ap (λ l. steps_in node l) rest.2 ∙ bound.ledger node changes stands.list_at;
        other_steps = λ other off. ap (λ l. steps_in other l) rest.2;
        lines = subst (λ l. AllByRecursion (λ line. link_of line ≤ length l) new.ledger) (sym rest.0)
            (subst (λ l. AllByRecursion (λ line. link_of line ≤ length old.links) l) (sym rest.2) bound.lines);
        no_session = no_session;
        no_attempt = no_attempt;
        keeps = record { list = kept.list; holds = holds; reports = kept.reports };
        may_be_in = may_be_in;
      })

-- a node of a bound world stands with some list
stands_there : {D : Type 0} (honest : Type 0) (words : DiskWords D) (world : World D) (lists : List (List Change)) (node : ℕ)
    (host : Host D) → IsBound honest words world lists → slice_get world.hosts node ≡ Some host
    → (changes : List Change) × StandsAt world lists node host changes
stands_there honest words world lists node host bound at =
    let listed = list_there world.hosts lists node host bound.even at in
    (listed.0, record { host_at = at; list_at = listed.1 })

pub stopping_keeps : {D : Type 0} (honest : Type 0) (words : DiskWords D) → StoppingKeeps honest words
stopping_keeps honest words old new lists node bound stops =
    let its = stands_there honest words old lists node stops.host bound stops.host_at in
    let kept : HostKeeps honest words stops.host its.0 = bound.hosts node stops.host its.0 its.1 in
    let its_node = node_kept honest words stops.host its.0 stops.before kept stops.up in
    state_moved honest words old new lists node bound stops.host its.0 its.1 (Down stops.disk None) stops.hosts stops.rest
    stops.no_session stops.no_attempt
    (down_left honest words its.0 stops.before.records stops.disk None stops.host its_node.keeps stops.left)
    (λ disk undecided down. absurd (none-some undecided (same_undecided stops.disk disk None (Some undecided) down)))

pub staying_down_keeps : {D : Type 0} (honest : Type 0) (words : DiskWords D) → StayingDownKeeps honest words
staying_down_keeps {D} honest words old new lists node bound stays =
    state_moved honest words old new lists node bound host changes stands (Down stays.again stays.undecided) stays.hosts
    stays.rest
    (no_session_down honest words old lists bound node host stays.disk stays.undecided stays.host_at stays.down)
    (no_attempt_down honest words old lists bound node host stays.disk stays.undecided stays.host_at stays.down) holds
    (λ disk undecided down. may_be_in undecided (same_undecided stays.again disk stays.undecided (Some undecided) down))
  where
    host : Host D
    host = stays.host

    its : (changes : List Change) × StandsAt old lists node host changes
    its = stands_there honest words old lists node host bound stays.host_at

    changes : List Change
    changes = its.0

    stands : StandsAt old lists node host changes
    stands = its.1

    kept : HostKeeps honest words host changes
    kept = bound.hosts node host changes stands

    holds : StateKeeps honest words host.config (Down stays.again stays.undecided) changes
    holds is image may =
        subst (λ state. StateKeeps honest words host.config state changes) stays.down kept.holds is image
        (stays.left is image may)

    may_be_in : (undecided : Undecided) → stays.undecided ≡ Some undecided
        → MayBeIn new node (record host { state = Down stays.again stays.undecided }) changes undecided
    may_be_in undecided same =
        still_may_be_in old new node host (record host { state = Down stays.again stays.undecided }) changes refl
        (remains_same old new node stays.rest.0 stays.rest.1 (λ other. ap (λ l. accepts_on other l) stays.rest.2)) undecided
        (bound.may_be_in node host changes stays.disk undecided stands (stays.down ∙ ap (λ u. Down stays.disk u) same))

pub stopping_giving_up_keeps : {D : Type 0} (honest : Type 0) (words : DiskWords D) → StoppingGivingUpKeeps honest words
stopping_giving_up_keeps {D} honest words old new lists reason node message bound stops =
    state_moved honest words old new lists node bound host changes its.1 (Down stops.disk (Some its_undecided)) stops.hosts
    stops.rest stops.no_session stops.no_attempt
    (down_halted honest words changes added stops.stopped stops.disk stops.noted (FromGivingUp message) host
    cuts.cuts.halted told.octets stops.left)
    (λ disk undecided down.
    subst (λ u. MayBeIn new node moved changes u)
    (same_Some its_undecided undecided (same_undecided stops.disk disk (Some its_undecided) (Some undecided) down))
    may_be_in)
  where
    host : Host D
    host = stops.host

    its_undecided : Undecided
    its_undecided = record { note = stops.noted; origin = FromGivingUp message }

    moved : Host D
    moved = record host { state = Down stops.disk (Some its_undecided) }

    its : (changes : List Change) × StandsAt old lists node host changes
    its = stands_there honest words old lists node host bound stops.host_at

    changes : List Change
    changes = its.0

    kept : HostKeeps honest words host changes
    kept = bound.hosts node host changes its.1

    its_node : NodeKeeps honest words host.config stops.before changes
    its_node = node_kept honest words host changes stops.before kept stops.up

    cut : CutsGivenUp honest words (reporter_of stops.before.config) stops.before.config.routes reason message old.clock changes
        stops.before.records stops.stopped
    cut = stops.cuts changes its_node.keeps

    outcome : Outcome
    outcome = outcome_for reason stops.before.config.routes message old.clock cut.message

    cuts : CutsOutcome honest words (reporter_of host.config) changes outcome 0 stops.stopped
    cuts = subst (λ (c : Config). CutsOutcome honest words (reporter_of c) changes outcome 0 stops.stopped) its_node.config_is cut.cuts

    added : Change
    added = reported_as outcome cuts.report

    told : Notes stops.noted changes added 0
    told = notes stops.stopped.noted stops.noted changes added 0 stops.note_is cuts.cuts.noted

    may_be_in : MayBeIn new node moved changes its_undecided
    may_be_in = record {
      change = added;
      octets = told.octets;
      number = told.number;
      fitting = fits_more changes added its_node.keeps.fitting cuts.cuts.fits;
      reported = cuts.reported;
      steps = ap
          (λ m. steps_in node
          (left_lines node m 0 (report_told stops.noted.number stops.noted.report) stops.noted.left.items))
          (sym (number_for reason stops.before.config.routes message old.clock cut.message))
          ∙ outcome_steps node 0 stops.noted changes outcome cuts.report 0 told;
      came = tt;
    }
