-- A node that goes down, stays down or is opened again, and nothing else changes, keeps a world bound.
use Rattle.std.proofs.Common.{inl, inr, ◌≡◌, ◌≢◌, ◌≤◌, ◌+◌, ℕ, zero, suc, false, List, [], ◌∷◌, ◌++◌, length, map, Option, None, Some, refl, sym, subst, ap, ◌∙◌, cond, arith}
use Rattle.std.specs.Prelude.{slice_get}
use Rattle.std.specs.List.{AllByRecursion}
use Rattle.std.proofs.Math.Numerals.{add-one}
use Rattle.std.proofs.lemmas.Option.{none-some, same_Some}
use Rattle.relay_disk.specs.Device.{DiskWords}
use Rattle.relay_disk.specs.declared.disks.Disks.{Disks}
use Rattle.relay_book.specs.declared.change.Accept.{Accept}
use Rattle.relay_book.specs.declared.change.Change.{Change}
use Rattle.relay_book.specs.declared.change.Change.TheVariants as change
use Rattle.relay_book.specs.declared.change.Outcome.{Outcome}
use Rattle.relay_book.specs.declared.fate.PlaceStep.{PlaceStep}
use Rattle.relay_book.specs.Marks.{place_steps}
use Rattle.relay_book.specs.Queue.{FitsQueue, Fitting, empty_queue, queue_of}
use Rattle.relay_book.specs.Record.{encode}
use Rattle.relay_book.proofs.Theorems.{one_more_fits}
use Rattle.relay_records.specs.declared.noted.Noted.{Noted}
use Rattle.relay_records.specs.Note.{IsNoted, accepted_by, is_text, queues_report}
use Rattle.relay_records.specs.Records.{Halted, Keeps, Kept}
use Rattle.relay_attempts.specs.AddedOutcome.{reported_as}
use Rattle.relay_node.specs.Node.{NodeState}
use Rattle.relay_world.specs.declared.attempt.Attempt.{Attempt}
use Rattle.relay_world.specs.declared.attempt.Fate.TheVariants.{Running}
use Rattle.relay_world.specs.declared.link.Link.{Link}
use Rattle.relay_world.specs.Bound.{HasFate, HasLink, StateKeeps, HostKeeps, IsBound, IsServed, IsTried, MayBeIn, SaysThere, StandsAt, link_of}
use Rattle.relay_world.specs.Ledger.{Accepts, Becomes, accepts_on, left_lines, lines_by, report_told, steps_by, steps_in, steps_of}
use Rattle.relay_world.specs.Steps.{IsPut}
use Rattle.relay_world.specs.Stops.{IsLeftBy, LeavesList, NoAttempt, NoSession}
use Rattle.relay_world.specs.World.{Down, FromClient, HostState, Host, Origin, Undecided, Up, World, link_at}
use Rattle.relay_world.proofs.FrameLemmas.{ChangesStay, MessagesStay}
use Rattle.relay_world.proofs.PieceLemmas.{same_number}
use Rattle.relay_world.proofs.MoveLemmas.{Joins, Moves, moved_keeps, same_attempts, same_slots}
use Rattle.relay_world.proofs.RecordLemmas.{left_steps, report_is}
use Rattle.relay_world.proofs.UndecidedLemmas.{Remains, up_not_down}

-- no link at all
pub nowhere : Link
nowhere = record { client = None; server = None; up = []; up_read = 0; down = []; down_read = 0; broken = false }

-- what a state that is down leaves undecided
abbrev undecided_or : {D : Type 0} → Option Undecided → HostState D → Option Undecided
undecided_or other (Up node) = other
undecided_or other (Down disk undecided) = undecided

pub same_undecided : {D : Type 0} (disk other : Disks D) (one another : Option Undecided) → Down disk one ≡ Down other another
    → one ≡ another
same_undecided disk other one another same = ap (λ h. undecided_or one h) same

-- what a note tells of a change after these
pub record Notes (noted : Noted) (changes : List Change) (change : Change) (used : ℕ) : Type 0 where
  pub number : noted.number ≡ length changes + 1
  pub octets : noted.octets ≡ encode change
  pub used_is : noted.used ≡ used
  pub accepted : noted.accepted ≡ accepted_by change
  pub left : noted.left.items ≡ place_steps (queue_of changes) change
  pub report : noted.report ≡ queues_report change

pub notes : (is : Option Noted) (noted : Noted) (changes : List Change) (change : Change) (used : ℕ) → is ≡ Some noted
    → IsNoted is changes change used → Notes noted changes change used
notes is noted changes change used note_is told =
    let same : told.note ≡ noted = same_Some told.note noted (sym told.is ∙ note_is) in
    record {
      number = ap (λ (n : Noted). n.number) (sym same) ∙ told.number;
      octets = ap (λ (n : Noted). n.octets) (sym same) ∙ told.octets;
      used_is = ap (λ (n : Noted). n.used) (sym same) ∙ told.used_is;
      accepted = ap (λ (n : Noted). n.accepted) (sym same) ∙ told.accepted;
      left = ap (λ (n : Noted). n.left.items) (sym same) ∙ told.left;
      report = ap (λ (n : Noted). n.report) (sym same) ∙ told.report;
    }

-- the lines of a note are the change's steps
pub accept_steps : (node link : ℕ) (noted : Noted) (changes : List Change) (accept : Accept) (used : ℕ)
    → Notes noted changes (change.Accept accept) used
    → steps_in node (lines_by node noted (FromClient link)) ≡ steps_by changes (change.Accept accept)
accept_steps node link noted changes accept used told =
    ap (λ b. cond b (Accepts noted.number noted.accepted ∷ []) [] ++ []) (same_number node)
    ∙ ap (λ n. Accepts n noted.accepted ∷ []) (told.number ∙ add-one (length changes))
    ∙ ap (λ n. Accepts (suc (length changes)) n ∷ []) told.accepted

pub outcome_steps : (node link : ℕ) (noted : Noted) (changes : List Change) (outcome : Outcome) (report : List ℕ) (used : ℕ)
    → Notes noted changes (reported_as outcome report) used
    → steps_in node (left_lines node outcome.message link (report_told noted.number noted.report) noted.left.items)
    ≡ steps_by changes (reported_as outcome report)
outcome_steps node link noted changes outcome report used told =
    left_steps node outcome.message link (report_told noted.number noted.report) noted.left.items
    ∙ ap (λ (l : List (ℕ × PlaceStep)). map (λ one. Becomes one.1 outcome.message one.0 (report_told noted.number noted.report)) l)
    told.left
    ∙ ap (λ n. map (λ one. Becomes one.1 outcome.message one.0 n) (place_steps (queue_of changes) (reported_as outcome report)))
    (ap (λ b. report_told noted.number b) told.report
    ∙ ap (λ n. report_told n (is_text report)) (told.number ∙ add-one (length changes))
    ∙ report_is (suc (length changes)) report)

-- changes with one more that fits
pub fits_more : (changes : List Change) (change : Change) → Fitting changes → FitsQueue (queue_of changes) change
    → Fitting (changes ++ change ∷ [])
fits_more changes change fitting fits = one_more_fits empty_queue changes change fitting fits

module _ {D : Type 0} (honest : Type 0) (words : DiskWords D) where
  -- what a stop of live records leaves
  pub down_left : (changes : List Change) (records : Kept D) (disk : Disks D) (undecided : Option Undecided) (host : Host D)
      → Keeps honest words records changes → LeavesList honest words records disk
      → StateKeeps honest words host.config (Down disk undecided) changes
  down_left changes records disk undecided host keeps left is image may =
      let found = left changes keeps is image may in
      (found.0, found.1, inl found.2)

  -- what a stop of records leaves while a change was added, of which this is the note
  pub down_halted : (changes : List Change) (change : Change) (records : Kept D) (disk : Disks D) (noted : Noted) (origin : Origin)
      (host : Host D) → Halted honest words records changes (Some change) → noted.octets ≡ encode change
      → IsLeftBy honest words records disk
      → StateKeeps honest words host.config (Down disk (Some (record { note = noted; origin = origin }))) changes
  down_halted changes change records disk noted origin host halted octets left is image may =
      let found = halted.images is image (left.images is image may) in (
        found.0,
        found.1,
        elim found.2 [
          | inl stands ↦ inl stands
          | inr more ↦ inr (more.0, octets ∙ ap (λ c. encode c) (same_Some change more.0 more.1), more.3)
        ],
      )

  -- a node that is down has no session and no attempt
  module _ (world : World D) (lists : List (List Change)) (bound : IsBound honest words world lists) (node : ℕ) (host : Host D)
      (disk : Disks D) (undecided : Option Undecided) (at : slice_get world.hosts node ≡ Some host)
      (down : host.state ≡ Down disk undecided) where
    is_down : (n : ℕ) (h : Host D) (standing : NodeState D) → n ≡ node → slice_get world.hosts n ≡ Some h
        → h.state ≡ Up standing → ⊥
    is_down n h standing same there up =
        let same_host : h ≡ host = same_Some h host (sym there ∙ ap (λ k. slice_get world.hosts k) same ∙ at) in
        up_not_down standing disk undecided (sym up ∙ ap (λ (x : Host D). x.state) same_host ∙ down)

    pub no_session_down : NoSession world node
    no_session_down number link session is has =
        let served : IsServed world lists number link has.end = bound.servers number link has.end is has.serves in
        let live : SaysThere served.host (Some session) has.end.peer served.serves.said =
        subst (λ s. SaysThere served.host s has.end.peer served.serves.said) has.its_session served.serves.live in
        is_down has.end.node served.host live.0 has.its_node served.stands.host_at live.1

    pub no_attempt_down : NoAttempt world node
    no_attempt_down place attempt slot there has =
        let link : HasLink world.links place attempt = bound.attempts place attempt there in
        let tried : IsTried world lists attempt.link link.link place =
        bound.clients attempt.link place link.link link.is_there link.client in
        let same : tried.attempt ≡ attempt = same_Some tried.attempt attempt (sym tried.attempt_at ∙ there) in
        let fate : HasFate tried.host tried.changes link.link tried.attempt tried.passes.accept tried.passes.output
        tried.passes.told
        tried.passes.verdicts (Running slot) =
        subst (λ f. HasFate tried.host tried.changes link.link tried.attempt tried.passes.accept tried.passes.output
        tried.passes.told tried.passes.verdicts f) (ap (λ (a : Attempt). a.fate) same ∙ has.runs) tried.passes.fate in
        is_down tried.attempt.node tried.host fate.2.0 (ap (λ (a : Attempt). a.node) same ∙ has.its_node) tried.stands.host_at
        fate.2.1

-- what is undecided stays so where links, attempts and ledger do
pub remains_same : {D : Type 0} (old new : World D) (node : ℕ) → new.links ≡ old.links → new.attempts ≡ old.attempts
    → ((other : ℕ) → accepts_on other new.ledger ≡ accepts_on other old.ledger) → Remains old new node
remains_same old new node links attempts accepts = record {
  serves = λ number link end is broken serves its_node ended. record {
    now = link;
    now_is = ap (λ l. link_at l number) links ∙ is;
    stays = record { server = serves; up = refl; up_read = refl; down = refl; broken = broken };
    accepts = accepts number;
  };
  tries = λ number place link attempt is broken client at its_node dropped. record {
    now = link;
    now_is = ap (λ l. link_at l number) links ∙ is;
    stays = record { client = refl; up = refl; down = refl; down_read = refl; broken = broken };
    attempt_at = ap (λ l. slice_get l place) attempts ∙ at;
  };
}

module _ {D : Type 0} (honest : Type 0) (words : DiskWords D) (old new : World D) (lists later : List (List Change)) (node : ℕ)
    (host moved : Host D) (changes grown : List Change) where
  -- a node on which nothing goes on has changed, and no link and no attempt
  pub record HostMoves : Type 0 where
    pub stands : StandsAt old lists node host changes
    pub hosts : IsPut old.hosts new.hosts node moved
    pub even : length later ≡ length new.hosts
    pub list : IsPut lists later node grown
    pub links : new.links ≡ old.links
    pub attempts : new.attempts ≡ old.attempts
    pub config : moved.config ≡ host.config
    pub stay : ChangesStay changes grown
    pub messages : MessagesStay changes grown
    pub accepts : (other : ℕ) → accepts_on other new.ledger ≡ accepts_on other old.ledger
    pub steps : steps_in node new.ledger ≡ steps_of grown
    pub other_steps : (other : ℕ) → other ≢ node → steps_in other new.ledger ≡ steps_in other old.ledger
    pub lines : AllByRecursion (λ line. link_of line ≤ length new.links) new.ledger
    pub no_session : NoSession old node
    pub no_attempt : NoAttempt old node
    pub keeps : HostKeeps honest words moved grown
    pub may_be_in : (disk : Disks D) (undecided : Undecided) → moved.state ≡ Down disk (Some undecided)
        → MayBeIn new node moved grown undecided

  module _ (bound : IsBound honest words old lists) (host_moves : HostMoves) where
    not_zero : (other : ℕ) (its : Link) → link_at new.links other ≡ Some its → other ≢ 0
    not_zero zero its is same = none-some its is
    not_zero (suc n) its is same = omega (arith, same)

    moves : Moves honest words old new lists later node 0 host moved changes grown nowhere
    moves = record {
      stands = host_moves.stands;
      hosts = host_moves.hosts;
      even = host_moves.even;
      list = host_moves.list;
      links = λ other its is. inr (not_zero other its is, ap (λ l. link_at l other) (sym host_moves.links) ∙ is);
      stays = λ other off. ap (λ l. link_at l other) host_moves.links;
      attempts = λ place attempt at off. same_attempts old.attempts new.attempts host_moves.attempts place attempt at;
      config = host_moves.config;
      stay = host_moves.stay;
      messages = host_moves.messages;
      accepts = λ other off. host_moves.accepts other;
      steps = host_moves.steps;
      other_steps = host_moves.other_steps;
      lines = host_moves.lines;
      says = λ other its session off is has peer said there. absurd (host_moves.no_session other its session is has);
      tells = λ place attempt slot at off has. absurd (host_moves.no_attempt place attempt slot at has);
      keeps = host_moves.keeps;
    }

    joins : Joins honest words old new lists later node 0 host moved changes grown nowhere
    unfolding nowhere
    joins = record {
      served = λ end serves. absurd (none-some end serves);
      tried = λ place client. absurd (none-some place client);
      reads = record { up = omega arith; down = omega arith };
      slots = same_slots old.attempts new.attempts host_moves.attempts bound.slots;
      apart = λ other its at session off is mine yours. none-some yours.end yours.serves;
      attempts = λ place attempt at.
          let has : HasLink old.links place attempt =
          bound.attempts place attempt (ap (λ l. slice_get l place) (sym host_moves.attempts) ∙ at) in
          record {
            link = has.link;
            is_there = ap (λ l. link_at l attempt.link) host_moves.links ∙ has.is_there;
            client = has.client;
          };
      settled = λ was there broken. absurd (none-some was there);
      may_be_in = host_moves.may_be_in;
    }

    pub host_moved : IsBound honest words new later
    host_moved = moved_keeps honest words old new lists later node 0 host moved changes grown nowhere bound moves joins
