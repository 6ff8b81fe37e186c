-- An attempt that is told of its link's break.
use Rattle.std.proofs.Common.{◌≡◌, ◌<◌, ◌≤◌, ◌+◌, ◌-◌, ℕ, zero, suc, Bool, true, false, List, [], ◌∷◌, ◌++◌, length, take, Option, None, Some, refl, sym, subst, ap, ◌∙◌, arith}
use Rattle.std.specs.Prelude.{if◌then◌else◌, slice_get, slice_index_or, slice_set}
use Rattle.std.specs.Option.{option_map_or}
use Rattle.std.proofs.lemmas.Bool.{false≢true}
use Rattle.std.proofs.lemmas.List.{length-set}
use Rattle.std.proofs.lemmas.Option.{same_Some, slice_get_read}
use Rattle.relay_disk.specs.Device.{DiskWords}
use Rattle.relay_book.specs.declared.version.Version.TheVariants.{WithDelay}
use Rattle.relay_book.specs.declared.message.Message.{Message}
use Rattle.relay_book.specs.declared.change.Change.{Change}
use Rattle.relay_book.specs.declared.change.Verdict.{Verdict}
use Rattle.relay_book.specs.declared.fate.PlaceStep.{PlaceStep}
use Rattle.relay_book.specs.Queue.{message_of, queue_of}
use Rattle.relay_book.specs.Marks.{place_step, place_steps, place_steps_by}
use Rattle.relay_records.specs.declared.noted.Noted.{Noted}
use Rattle.relay_records.specs.Records.{Keeps}
use Rattle.relay_attempts.specs.AddedOutcome.{reported_as}
use Rattle.relay_attempts.specs.Outcomes.{outcome_of, rulings_of}
use Rattle.relay_attempts.specs.Reply.{Told}
use Rattle.relay_course.specs.VerdictTable.{all_later}
use Rattle.relay_routes.specs.declared.config.Config.{Config}
use Rattle.relay_node.specs.Attempts.{Tells}
use Rattle.relay_node.specs.Node.{NodeState}
use Rattle.relay_world.specs.declared.attempt.Attempt.{Attempt}
use Rattle.relay_world.specs.declared.attempt.Fate.{Fate}
use Rattle.relay_world.specs.declared.attempt.Fate.TheVariants.{Running, Replied, Lost, Dropped}
use Rattle.relay_world.specs.declared.line.Line.{Line}
use Rattle.relay_world.specs.declared.link.Link.{Link}
use Rattle.relay_world.specs.Bound.{HasFate, StateKeeps, IsBound, told_by}
use Rattle.relay_world.specs.Ledger.{left_lines, report_told}
use Rattle.relay_world.specs.Steps.{AttemptOf, DropsAttempt, HasLost, IsPut}
use Rattle.relay_world.specs.World.{HostState, Host, Up, Down, World, link_at}
use Rattle.relay_hosts.specs.declared.recorded.Recorded.{Recorded}
use Rattle.relay_events.specs.ClientEnd.{RunsOn}
use Rattle.relay_hosts.specs.Call.{HasAttempt, HoldsAttempt, Loses, LosesAttempt}
use Rattle.relay_hosts.specs.Links.{is_running, runs_there, tries_on}
use Rattle.relay_hosts.specs.Room.{HasRoom, lines_held}
use Rattle.relay_events.specs.Told.{ends_of}
use Rattle.relay_events.proofs.CountLemmas.{count_of, lines_less, running_less}
use Rattle.relay_events.proofs.PlaceLemmas.{value_put}
use Rattle.relay_events.proofs.ReopenLemmas.{held_put}
use Rattle.relay_events.proofs.TellLemmas.{get_within}

-- where no client end is, or its attempt is over, nothing is tried
pub no_client : (attempts : List Attempt) (client : Option ℕ) → client ≡ None → tries_on attempts client ≡ true → ⊥
no_client attempts client none tries = false≢true (sym (ap (λ cl. tries_on attempts cl) none) ∙ tries)

pub not_running : (fate : Fate) → ((slot : ℕ) → fate ≡ Running slot → ⊥) → is_running fate ≡ true → ⊥
not_running (Running slot) over runs = over slot refl
not_running (Replied number) over runs = false≢true runs
not_running (Lost number) over runs = false≢true runs
not_running Dropped over runs = false≢true runs

pub running_is : (fate : Fate) (slot : ℕ) → fate ≡ Running slot → is_running fate ≡ true
running_is fate slot is = ap is_running is

runs_within : (attempts : List Attempt) (place : ℕ) → runs_there (slice_get attempts place) ≡ true
    → (attempt : Attempt) × (slice_get attempts place ≡ Some attempt)
runs_within [] place runs = absurd (false≢true runs)
runs_within (x ∷ xs) zero runs = (x, refl)
runs_within (x ∷ xs) (suc place) runs = runs_within xs place runs

-- what leaves or is late by an outcome is some of its places
one_step : (made : Option PlaceStep) (place : ℕ) (rest : List (ℕ × PlaceStep))
    → length (option_map_or (λ one. (place, one) ∷ []) made [] ++ rest) ≤ suc (length rest)
one_step None place rest = omega arith
one_step (Some made) place rest = omega arith

few_by : (message : Message) (at : ℕ) (places : List ℕ) (verdicts : List Verdict)
    → length (place_steps_by WithDelay message at (rulings_of places verdicts)) ≤ length places
few_by message at [] verdicts = omega arith
few_by message at (place ∷ places) [] = omega arith
few_by message at (place ∷ places) (verdict ∷ verdicts) =
    let one = one_step (place_step WithDelay message at (record { place = place; verdict = verdict })) place
    (place_steps_by WithDelay message at (rulings_of places verdicts)) in
    let rest = few_by message at places verdicts in
    omega (arith, one, rest)

few_of : (message : Option Message) (at : ℕ) (places : List ℕ) (verdicts : List Verdict)
    → length (option_map_or (λ m. place_steps_by WithDelay m at (rulings_of places verdicts)) message []) ≤ length places
few_of None at places verdicts = omega arith
few_of (Some message) at places verdicts = few_by message at places verdicts

pub few_left : (changes : List Change) (message at : ℕ) (hop places : List ℕ) (verdicts : List Verdict) (report : List ℕ)
    → length (place_steps (queue_of changes) (reported_as (outcome_of message at hop (rulings_of places verdicts)) report))
    ≤ length places
few_left changes message at hop places verdicts report =
    few_of (message_of (queue_of changes).messages message) at places verdicts

-- the node of an up state
abbrev node_or : {D : Type 0} → NodeState D → HostState D → NodeState D
node_or other (Up node) = node
node_or other (Down disk undecided) = other

pub same_up : {D : Type 0} (one other : NodeState D) → Up one ≡ Up other → one ≡ other
same_up one other same = ap (node_or one) same

module _ {D : Type 0} (honest : Type 0) (words : DiskWords D) where
  has_attempt : (host : Host D) (slot : ℕ) (before : NodeState D) (changes : List Change) (told : Told) → host.state ≡ Up before
      → Keeps honest words before.records changes → Tells before.config.host changes before.attempts slot told
      → HasAttempt honest words host slot
  has_attempt host slot before changes told up keeps tells =
      subst (λ h. HoldsAttempt honest words h slot) (sym up) (record { changes = changes; keeps = keeps; told = told; tells = tells })

  -- the attempt of a client end on which something is tried is there
  pub attempt_at : (world : World D) (number place : ℕ) (client : Option ℕ) (attempt : Attempt) → client ≡ Some place
      → tries_on world.attempts client ≡ true → attempt ≡ slice_index_or world.attempts place attempt
      → slice_get world.attempts place ≡ Some attempt
  attempt_at world number place client attempt is tries there =
      let its = runs_within world.attempts place (sym (ap (λ cl. tries_on world.attempts cl) is) ∙ tries) in
      slice_get_read world.attempts (length world.attempts) place attempt refl (get_within world.attempts place its.0 its.1) there

  pub attempt_within : (world : World D) (place : ℕ) (client : Option ℕ) → client ≡ Some place
      → tries_on world.attempts client ≡ true → place < length world.attempts
  attempt_within world place client is tries =
      let its = runs_within world.attempts place (sym (ap (λ cl. tries_on world.attempts cl) is) ∙ tries) in
      get_within world.attempts place its.0 its.1

  pub runs_on : (world : World D) (lists : List (List Change)) (number place slot : ℕ) (link : Link) (attempt : Attempt)
      → IsBound honest words world lists → link_at world.links number ≡ Some link → link.client ≡ Some place
      → slice_get world.attempts place ≡ Some attempt → attempt.fate ≡ Running slot
      → RunsOn honest words world number place slot attempt
  runs_on world lists number place slot link attempt bound is client there runs =
      let tried = bound.clients number place link is client in
      let same : tried.attempt ≡ attempt = same_Some tried.attempt attempt (sym tried.attempt_at ∙ there) in
      let passes = tried.passes in
      let fate : HasFate tried.host tried.changes link tried.attempt passes.accept passes.output passes.told passes.verdicts
      (Running slot) =
      subst
      (λ f. HasFate tried.host tried.changes link tried.attempt passes.accept passes.output passes.told passes.verdicts f)
      (ap (λ (a : Attempt). a.fate) same ∙ runs) passes.fate in
      let kept = bound.hosts tried.attempt.node tried.host tried.changes tried.stands in
      let before = fate.2.0 in
      let up = fate.2.1 in
      let keeps : StateKeeps honest words tried.host.config (Up before) tried.changes =
      subst (λ h. StateKeeps honest words tried.host.config h tried.changes) up kept.holds in
      let told = told_by tried.attempt passes.accept (take link.down_read link.down) passes.output in
      let tells : Tells before.config.host tried.changes before.attempts slot told =
      subst (λ (cf : Config). Tells cf.host tried.changes before.attempts slot told) (sym keeps.config_is) fate.2.2 in
      record {
        link = link;
        link_is = is;
        client = client;
        attempt_at = there;
        runs = runs;
        host = tried.host;
        host_at = subst (λ (a : Attempt). slice_get world.hosts a.node ≡ Some tried.host) same tried.stands.host_at;
        before = before;
        up = up;
        changes = tried.changes;
        keeps = keeps.keeps;
        told = told;
        places = ap (λ (a : Attempt). a.places.items) same;
        tells = tells;
        has = has_attempt tried.host slot before tried.changes told up keeps.keeps tells;
      }

module _ {D : Type 0} (honest : Type 0) (words : DiskWords D) (old : World D) (number place slot : ℕ) (attempt : Attempt)
    (on : RunsOn honest words old number place slot attempt) (was now : Host D)
    (was_is : was ≡ on.host) where
  pub was_at : slice_get old.hosts attempt.node ≡ Some was
  was_at = subst (λ h. slice_get old.hosts attempt.node ≡ Some h) (sym was_is) on.host_at

  -- its node is the one that runs there
  pub same_before : (before : NodeState D) → was.state ≡ Up before → on.before ≡ before
  same_before before up = same_up on.before before (sym on.up ∙ ap (λ (h : Host D). h.state) (sym was_is) ∙ up)

  abbrev pub attempt_of : (before : NodeState D) → was.state ≡ Up before → AttemptOf old number
  attempt_of before up = record {
    link = on.link;
    link_is = on.link_is;
    place = place;
    client = on.client;
    attempt = attempt;
    attempt_at = on.attempt_at;
    slot = slot;
    runs = on.runs;
    host = was;
    host_at = was_at;
    before = before;
    up = up;
  }

  pub put_of : (host : Host D) → now ≡ host → IsPut old.hosts (slice_set old.hosts attempt.node now) attempt.node host
  put_of host is =
      subst (λ h. IsPut old.hosts (slice_set old.hosts attempt.node now) attempt.node h) is
      (value_put old.hosts attempt.node was now was_at)

  -- the world in which the node was called, and the attempt is over
  abbrev pub over_world : Attempt → List Line → World D
  over_world ended ledger = record old {
    hosts = slice_set old.hosts attempt.node now;
    attempts = slice_set old.attempts place ended;
    ledger = ledger;
  }

  pub ended_put : (ended : Attempt) (fate : Fate) → ended ≡ record attempt { fate = fate }
      → IsPut old.attempts (slice_set old.attempts place ended) place (record attempt { fate = fate })
  ended_put ended fate is =
      subst (λ a. IsPut old.attempts (slice_set old.attempts place ended) place a) is
      (value_put old.attempts place attempt ended on.attempt_at)

  abbrev pub has_dropped : (ended : Attempt) → ended ≡ record attempt { fate = Dropped } → LosesAttempt was now slot
      → DropsAttempt old (over_world ended old.ledger) number
  has_dropped ended is loses = record {
    of = attempt_of loses.before loses.runs.up;
    after = loses.after;
    records = loses.records;
    gone = loses.gone;
    others = loses.others;
    config = loses.runs.config;
    seats = loses.seats;
    hosts = put_of (record was { state = Up loses.after }) loses.runs.new_is;
    attempts = ended_put ended Dropped is;
    links = refl;
    ledger = refl;
    rest = (refl, length-set old.hosts attempt.node now);
  }

  pub has_lost : (change : ℕ) (recorded : Recorded) (ended : Attempt) (ledger : List Line)
      → ended ≡ record attempt { fate = Lost change }
      → ledger ≡ old.ledger ++ left_lines attempt.node attempt.message number (report_told change recorded.report) recorded.left.items
      → Loses honest words old.clock was now slot change recorded → HasLost honest words old (over_world ended ledger) number change
  has_lost change recorded ended ledger is lines loses = record {
    of = attempt_of loses.before loses.up;
    after = loses.after;
    loses = loses.loses;
    others = loses.others;
    config = loses.config;
    seats = loses.seats;
    links = refl;
    records = record {
      noted = loses.notes.noted;
      note_is = loses.notes.note_is;
      hosts = put_of _ loses.notes.new_is;
      ledger =
          lines
          ∙ ap (λ (b : Bool). old.ledger ++ left_lines attempt.node attempt.message number (report_told change b) recorded.left.items)
          loses.notes.tells.report
          ∙ ap (λ (l : List (ℕ × PlaceStep)). old.ledger
          ++ left_lines attempt.node attempt.message number (report_told change loses.notes.noted.report) l) loses.notes.tells.left;
      attempts = ended_put ended (Lost change) is;
    };
    rest = (refl, length-set old.hosts attempt.node now);
  }

  -- no more places have left than the attempt has
  pub few_recorded : (change : ℕ) (recorded : Recorded) → Loses honest words old.clock was now slot change recorded
      → length recorded.left.items ≤ length attempt.places.items
  few_recorded change recorded loses =
      let same = same_before loses.before loses.up in
      let lost = loses.loses on.changes on.told (subst (λ (n : NodeState D). Keeps honest words n.records on.changes) same on.keeps)
      (subst (λ (n : NodeState D). Tells n.config.host on.changes n.attempts slot on.told) same on.tells) in
      let noted = lost.adds.adds.noted in
      let its : loses.notes.noted ≡ noted.note = same_Some loses.notes.noted noted.note (sym loses.notes.note_is ∙ noted.is) in
      let left = ap (λ (l : List (ℕ × PlaceStep)). length l) (loses.notes.tells.left ∙ ap (λ (n : Noted). n.left.items) its ∙ noted.left) in
      let few = few_left on.changes on.told.message old.clock on.told.hop on.told.places (all_later on.told.places) lost.adds.report in
      let places = ap (λ (l : List ℕ). length l) on.places in
      omega (arith, left, few, places)

  up_held : (node : NodeState D) (host : Host D) → host.state ≡ Up node → lines_held attempt.node host.state ≡ 0
  up_held node host up = ap (λ h. lines_held attempt.node h) up

  pub over_room : (ended : Attempt) (fate : Fate) (ledger : List Line) (after : NodeState D) (left free free_now : ℕ)
      → ended ≡ record attempt { fate = fate } → is_running fate ≡ false → now.state ≡ Up after → left ≤ length attempt.places.items
      → free ≤ free_now + left → HasRoom old free → HasRoom (over_world ended ledger) free_now
  over_room ended fate ledger after left free free_now is over up few most room =
      let less = lines_less old.attempts place attempt ended on.attempt_at
      (ap (λ (a : Attempt). is_running a.fate) is ∙ over) in
      let one = ap (λ b. if b then length attempt.places.items else 0) (running_is attempt.fate slot on.runs) in
      let put = held_put old.hosts attempt.node 0 attempt.node was now (omega arith) was_at in
      let none = up_held on.before was (ap (λ (h : Host D). h.state) was_is ∙ on.up) in
      let none_now = up_held after now up in
      omega (arith, less, one, put, none, none_now, few, most, room)

  pub over_fewer : (ended : Attempt) (fate : Fate) (ledger : List Line) → ended ≡ record attempt { fate = fate }
      → is_running fate ≡ false → ends_of (over_world ended ledger) < ends_of old
  over_fewer ended fate ledger is over =
      let less = running_less old.attempts place attempt ended on.attempt_at
      (ap (λ (a : Attempt). is_running a.fate) is ∙ over) in
      let one = ap count_of (running_is attempt.fate slot on.runs) in
      omega (arith, less, one)

  -- there is room for its lines
  pub lines_room : (len capacity left : ℕ) → len ≤ capacity → left ≤ length attempt.places.items → HasRoom old (capacity - len)
      → len + left ≤ capacity
  lines_room len capacity left fits few room =
      let less = lines_less old.attempts place attempt (record attempt { fate = Dropped }) on.attempt_at refl in
      let one = ap (λ b. if b then length attempt.places.items else 0) (running_is attempt.fate slot on.runs) in
      omega (arith, less, one, few, fits, room)
