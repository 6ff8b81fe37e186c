-- An attempt that has read replies.
use Rattle.std.proofs.Common.{◌≡◌, ◌≤◌, ◌+◌, ◌-◌, ℕ, true, false, List, [], ◌++◌, length, take, drop, length-take, length-drop, Option, None, Some, refl, sym, subst, ap, ◌∙◌, arith}
use Rattle.std.specs.Prelude.{if◌then◌else◌, slice_set}
use Rattle.std.proofs.lemmas.List.{append-nil, length-map, length-set}
use Rattle.std.proofs.lemmas.Option.{same_Some}
use Rattle.relay_disk.specs.Device.{DiskWords}
use Rattle.relay_book.specs.declared.fate.PlaceStep.{PlaceStep}
use Rattle.relay_records.specs.declared.noted.Noted.{Noted}
use Rattle.relay_records.specs.Records.{Keeps}
use Rattle.relay_attempts.specs.declared.reply.Replied.{Replied}
use Rattle.relay_node.specs.Attempts.{RepliesBy, Tells}
use Rattle.relay_node.specs.Node.{NodeState}
use Rattle.relay_world.specs.declared.attempt.Attempt.{Attempt}
use Rattle.relay_world.specs.declared.attempt.Fate.TheVariants.{Replied as RepliedBy}
use Rattle.relay_world.specs.declared.line.Line.{Line}
use Rattle.relay_world.specs.declared.link.Link.{Link}
use Rattle.relay_world.specs.Ledger.{left_lines, report_told}
use Rattle.relay_world.specs.Once.{BreaksOff, Reads as ReadsEvent}
use Rattle.relay_world.specs.Steps.{Breaks, HasRead, IsPut, IsPutAt, read_link, waiting_down}
use Rattle.relay_world.specs.World.{Host, Up, World, link_at}
use Rattle.relay_events.specs.declared.act.Act.{Act}
use Rattle.relay_events.specs.declared.act.Act.TheVariants as act
use Rattle.relay_hosts.specs.declared.recorded.Recorded.{Recorded}
use Rattle.relay_hosts.specs.Call.{NotesChange, Reads}
use Rattle.relay_events.specs.Act.{did_of}
use Rattle.relay_events.specs.Carried.{IsAnswered, RunsAndWaits}
use Rattle.relay_hosts.specs.Replied.{replied_attempt, replied_lines}
use Rattle.relay_events.specs.ClientEnd.{RunsOn}
use Rattle.relay_events.specs.Happened.{HasHappened}
use Rattle.relay_hosts.specs.Room.{HasRoom, lines_held, lines_to_come}
use Rattle.relay_events.specs.Step.{Carries, Reads as ReadsThere, ReadsUnwritten, Refuses, Shows}
use Rattle.relay_events.proofs.BreakLemmas.{breaks_there}
use Rattle.relay_events.proofs.CarriedLemmas.{carried_to}
use Rattle.relay_events.proofs.EventLemmas.{AttemptRead, replies_read}
use Rattle.relay_events.proofs.LossLemmas.{attempt_of, few_left, over_room, put_of, same_before, was_at}
use Rattle.relay_events.proofs.PlaceLemmas.{link_put, set_same, value_put}
use Rattle.relay_events.proofs.ReopenLemmas.{held_put}
use Rattle.relay_events.proofs.RunLemmas.{both_happened, one_happened}
use Rattle.relay_report.specs.Report.{reporter_of}

-- what was used of the octets that wait was there
pub used_within : (octets : List ℕ) (count read used : ℕ) → read ≤ length octets → used ≤ length (take count (drop read octets))
    → read + used ≤ length octets
used_within octets count read used within few =
    let taken = length-take count (drop read octets) in
    let dropped = length-drop read octets in
    omega (arith, within, few, taken, dropped)

-- the same place was written twice
put_twice : (links : List Link) (number : ℕ) (link one two : Link) → link_at links number ≡ Some link
    → IsPutAt (slice_set links (number - 1) one) (slice_set links (number - 1) two) number two
put_twice links number link one two is =
    let first = link_put links number link one is in
    let second = link_put links number link two is in
    let len = length-set links (number - 1) one in
    let long = length-set links (number - 1) two in
    record {
      at = second.at;
      others = λ other off. second.others other off ∙ sym (first.others other off);
      grows = omega (arith, len, long);
    }

module _ {D : Type 0} (honest : Type 0) (words : DiskWords D) (old : World D) (number place slot : ℕ) (attempt : Attempt)
    (on : RunsOn honest words old number place slot attempt) where
  abbrev broken_link : Link
  broken_link = record on.link { broken = true }

  -- the link of an attempt that runs is broken
  abbrev pub broken_world : World D
  broken_world = record old { links = slice_set old.links (number - 1) broken_link }

  abbrev pub on_broken : RunsOn honest words broken_world number place slot attempt
  on_broken = record {
    link = broken_link;
    link_is = (link_put old.links number on.link broken_link on.link_is).at;
    client = on.client;
    attempt_at = on.attempt_at;
    runs = on.runs;
    host = on.host;
    host_at = on.host_at;
    before = on.before;
    up = on.up;
    changes = on.changes;
    keeps = on.keeps;
    told = on.told;
    places = on.places;
    tells = on.tells;
    has = on.has;
  }

module _ {D : Type 0} (honest : Type 0) (words : DiskWords D) (old : World D) (number place slot : ℕ) (attempt : Attempt)
    (on : RunsOn honest words old number place slot attempt) (was now : Host D) (was_is : was ≡ on.host) (count : ℕ)
    (replied : Replied) (recorded : Option Recorded)
    (reads : Reads honest words old.clock was now slot (waiting_down count on.link) replied recorded) where
  -- the world in which the node was called, with this attempt, ledger and links
  abbrev pub read_world : Attempt → List Line → List Link → World D
  read_world ended ledger links = record old {
    hosts = slice_set old.hosts attempt.node now;
    links = links;
    attempts = slice_set old.attempts place ended;
    ledger = ledger;
  }

  pub became : (change : Option ℕ) (lines : Option Recorded)
      (after : NodeState D) (ended : Attempt) (ledger : List Line) (links : List Link) → ended ≡ replied_attempt attempt change
      → ledger ≡ old.ledger ++ replied_lines number attempt change lines → NotesChange was now after change lines
      → AttemptRead honest words old (read_world ended ledger links) number
      (attempt_of honest words old number place slot attempt on was now was_is reads.before reads.up) change lines
  became None lines after ended ledger links is more notes =
      (more ∙ append-nil old.ledger, set_same old.attempts place attempt ended on.attempt_at is)
  became (Some change) None after ended ledger links is more notes = absurd notes
  became (Some change) (Some one) after ended ledger links is more notes = (
    more,
    subst (λ a. IsPut old.attempts (slice_set old.attempts place ended) place a) is
        (value_put old.attempts place attempt ended on.attempt_at),
  )

  -- replies were read
  abbrev pub has_read : (ended : Attempt) (ledger : List Line) (links : List Link) → ended ≡ replied_attempt attempt replied.change
      → ledger ≡ old.ledger ++ replied_lines number attempt replied.change recorded
      → IsPutAt old.links links number (read_link on.link replied)
      → HasRead honest words old (read_world ended ledger links) number count
  has_read ended ledger links is more put =
      replies_read honest words old (read_world ended ledger links) number count
      (attempt_of honest words old number place slot attempt on was now was_is reads.before reads.up) now replied recorded reads
      (put_of honest words old number place slot attempt on was now was_is now refl) put
      (became
      replied.change recorded reads.after ended ledger links is more reads.notes)
      (refl, length-set old.hosts attempt.node now)

  -- no more places have left than the attempt has
  few_by : (before after : NodeState D) (change : Option ℕ) (lines : Option Recorded) → NotesChange was now after change lines
      → RepliesBy honest words (reporter_of before.config) old.clock on.changes slot on.told (waiting_down count on.link) before after replied
      change → length (replied_lines number attempt change lines) ≤ length attempt.places.items
  few_by before after None lines notes replies = omega arith
  few_by before after (Some change) None notes replies = absurd notes
  few_by before after (Some change) (Some one) notes replies =
      let noted = replies.adds.adds.noted in
      let its : notes.noted ≡ noted.note = same_Some notes.noted noted.note (sym notes.note_is ∙ noted.is) in
      let left = ap (λ (l : List (ℕ × PlaceStep)). length l) (notes.tells.left ∙ ap (λ (n : Noted). n.left.items) its ∙ noted.left) in
      let few = few_left on.changes on.told.message old.clock on.told.hop on.told.places replies.verdicts replies.adds.report in
      let places = ap (λ (l : List ℕ). length l) on.places in
      let lines : length (left_lines attempt.node attempt.message number (report_told change one.report) one.left.items)
      ≡ length one.left.items =
      length-map one.left.items _ in
      omega (arith, left, few, places, lines)

  pub few_replied : length (replied_lines number attempt replied.change recorded) ≤ length attempt.places.items
  few_replied =
      let same = same_before honest words old number place slot attempt on was now was_is reads.before reads.up in
      few_by reads.before reads.after replied.change recorded reads.notes (reads.replies on.changes on.told
      (subst (λ (n : NodeState D). Keeps honest words n.records on.changes) same on.keeps)
      (subst (λ (n : NodeState D). Tells n.config.host on.changes n.attempts slot on.told) same on.tells))

  up_by : (after : NodeState D) (change : Option ℕ) (lines : Option Recorded) → NotesChange was now after change lines
      → (node : NodeState D) × (now.state ≡ Up node)
  up_by after None None notes = (after, ap (λ (h : Host D). h.state) notes)
  up_by after None (Some one) notes = absurd notes
  up_by after (Some change) None notes = absurd notes
  up_by after (Some change) (Some one) notes = (_, ap (λ (h : Host D). h.state) notes.new_is)

  room_by : (change : Option ℕ) (lines : Option Recorded) (ended : Attempt) (ledger : List Line) (after : NodeState D)
      (free free_now : ℕ) → ended ≡ replied_attempt attempt change → now.state ≡ Up after
      → length (replied_lines number attempt change lines) ≤ length attempt.places.items
      → free ≤ free_now + length (replied_lines number attempt change lines) → HasRoom old free
      → HasRoom (record old {
        hosts = slice_set old.hosts attempt.node now;
        attempts = slice_set old.attempts place ended;
        ledger = ledger;
      }) free_now
  room_by None lines ended ledger after free free_now is up few most room =
      let attempts = ap lines_to_come (set_same old.attempts place attempt ended on.attempt_at is) in
      let put = held_put old.hosts attempt.node 0 attempt.node was now (omega arith)
      (was_at honest words old number place slot attempt on was now was_is) in
      let none : lines_held attempt.node was.state ≡ 0 =
      ap (λ h. lines_held attempt.node h) (ap (λ (h : Host D). h.state) was_is ∙ on.up) in
      let none_now : lines_held attempt.node now.state ≡ 0 = ap (λ h. lines_held attempt.node h) up in
      omega (arith, attempts, put, none, none_now, most, room)
  room_by (Some change) lines ended ledger after free free_now is up few most room =
      over_room honest words old number place slot attempt on was now was_is ended (RepliedBy change) ledger after _ free free_now is
      refl up few most room

  pub read_room : (ended : Attempt) (ledger : List Line) (free free_now : ℕ) → ended ≡ replied_attempt attempt replied.change
      → free ≤ free_now + length (replied_lines number attempt replied.change recorded) → HasRoom old free
      → HasRoom (record old {
        hosts = slice_set old.hosts attempt.node now;
        attempts = slice_set old.attempts place ended;
        ledger = ledger;
      }) free_now
  read_room ended ledger free free_now is most room =
      let up = up_by reads.after replied.change recorded reads.notes in
      room_by replied.change recorded ended ledger up.0 free free_now is up.1 few_replied most room

-- what a node writes stands on a whole link, and doesn't on a broken one
whole_written : (link moved : Link) (replied : Replied) → link.broken ≡ false
    → moved ≡ record link { up = link.up ++ replied.out.items; down_read = link.down_read + replied.used }
    → moved ≡ read_link link replied
whole_written link moved replied whole is =
    is
    ∙ ap (λ b. let written : Link = record link {
      up = link.up ++ (if b then [] else replied.out.items);
      down_read = link.down_read + replied.used;
    } in written) (sym whole)

broken_unwritten : (link moved : Link) (replied : Replied)
    → moved ≡ record link { down_read = link.down_read + replied.used; broken = true }
    → moved ≡ read_link (record link { broken = true }) replied
broken_unwritten link moved replied is =
    is
    ∙ ap (λ (u : List ℕ). let unwritten : Link = record link {
      up = u;
      down_read = link.down_read + replied.used;
      broken = true;
    } in unwritten) (sym (append-nil link.up))

module _ {D : Type 0} (honest : Type 0) (words : DiskWords D) (old : World D) (number place slot : ℕ) (attempt : Attempt)
    (on : RunsOn honest words old number place slot attempt) (was now : Host D) (was_is : was ≡ on.host) (count : ℕ)
    (replied : Replied) (recorded : Option Recorded)
    (reads : Reads honest words old.clock was now slot (waiting_down count on.link) replied recorded) (ended : Attempt)
    (ledger : List Line) (ended_is : ended ≡ replied_attempt attempt replied.change)
    (lines : ledger ≡ old.ledger ++ replied_lines number attempt replied.change recorded) (moved : Link) where
  abbrev pub carried_world : World D
  carried_world = record old {
    hosts = slice_set old.hosts attempt.node now;
    links = slice_set old.links (number - 1) moved;
    attempts = slice_set old.attempts place ended;
    ledger = ledger;
  }

  abbrev read_whole : moved ≡ read_link on.link replied → HasRead honest words old carried_world number count
  read_whole is =
      has_read honest words old number place slot attempt on was now was_is count replied recorded reads ended ledger
      (slice_set old.links (number - 1) moved) ended_is lines
      (subst (λ l. IsPutAt old.links (slice_set old.links (number - 1) moved) number l) is
      (link_put old.links number on.link moved on.link_is))

  abbrev in_broken : World D
  in_broken = broken_world honest words old number place slot attempt on

  breaks_first : Breaks old in_broken number
  breaks_first = breaks_there old number on.link (record on.link { broken = true }) on.link_is refl

  abbrev read_broken : moved ≡ read_link (record on.link { broken = true }) replied
      → HasRead honest words in_broken carried_world number count
  read_broken is =
      has_read honest words in_broken number place slot attempt (on_broken honest words old number place slot attempt on) was now
      was_is count replied recorded reads ended ledger (slice_set old.links (number - 1) moved) ended_is lines
      (subst (λ l. IsPutAt in_broken.links (slice_set old.links (number - 1) moved) number l) is
      (put_twice old.links number on.link (record on.link { broken = true }) moved on.link_is))

  pub answered_carries : (act : Act) → IsAnswered on.link moved replied act → on.link.broken ≡ false → (node : ℕ)
      → RunsAndWaits old number node true → Carries honest words old number node count carried_world (did_of act)
  answered_carries (act.Shows own) is whole node runs =
      subst (λ o. Carries honest words old number node count carried_world (Shows o)) (sym is.1)
      (ReadsThere (read_whole (whole_written on.link moved replied whole is.0))
      (carried_to old number node on.link on.link_is place on.client attempt on.attempt_at true runs))
  answered_carries (act.Refuses why) is whole node runs =
      let there = carried_to old number node on.link on.link_is place on.client attempt on.attempt_at true runs in
      subst (λ w. Carries honest words old number node count carried_world (Refuses w)) (sym is.1)
      (ReadsUnwritten in_broken breaks_first (read_broken (broken_unwritten on.link moved replied is.0))
      (record { its_node = there.its_node; unserved = there.unserved; waiting = there.waiting }) is.2)
  answered_carries (act.Stops stopped) is whole node runs = absurd is

  pub answered_happened : (act : Act) → IsAnswered on.link moved replied act → on.link.broken ≡ false
      → HasHappened honest words old carried_world
  answered_happened (act.Shows own) is whole =
      one_happened honest words old carried_world
      (ReadsEvent number count (read_whole (whole_written on.link moved replied whole is.0)))
  answered_happened (act.Refuses why) is whole =
      both_happened honest words old in_broken carried_world (one_happened honest words old in_broken (BreaksOff number breaks_first))
      (one_happened honest words in_broken carried_world
      (ReadsEvent number count (read_broken (broken_unwritten on.link moved replied is.0))))
  answered_happened (act.Stops node) is whole = absurd is
