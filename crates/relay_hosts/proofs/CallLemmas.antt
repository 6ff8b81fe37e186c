-- A host after a call of its node.
use Rattle.std.proofs.Common.{inl, inr, ◌≡◌, ◌≢◌, ◌≤◌, ◌+◌, ℕ, true, false, cond, List, Option, None, Some, ◌-◌, refl, sym, subst, ap, ◌∙◌, arith}
use Rattle.std.specs.Prelude.{◌⊎◌}
use Rattle.std.specs.Option.{is_some}
use Rattle.std.proofs.lemmas.Bool.{false≢true, true≢false}
use Rattle.std.proofs.lemmas.Option.{none-some}
use Rattle.relay_disk.specs.Device.{DiskWords}
use Rattle.relay_slots.specs.Slots.{OthersStay, slot_at}
use Rattle.relay_routes.specs.declared.config.Config.{Config}
use Rattle.relay_server.specs.Dialogue.{Offered, Said}
use Rattle.relay_server.specs.Setup.{setup_for}
use Rattle.relay_book.specs.declared.change.Change.{Change}
use Rattle.relay_records.specs.declared.fault.NodeFault.{NodeFault}
use Rattle.relay_records.specs.declared.fault.NodeFault.TheVariants.{NoMemory, Stopped, Unknown, TooMany, NotDue, Busy, Open, Full, NoSecond}
use Rattle.relay_records.specs.declared.noted.Noted.{Noted}
use Rattle.relay_records.specs.Note.{IsNoted}
use Rattle.relay_records.specs.Records.{IsStopped, Keeps, Kept}
use Rattle.relay_attempts.specs.declared.reply.Replied.{Replied}
use Rattle.relay_attempts.specs.Reply.{CutsLoss, CutsReply, AttemptHasEnded, Told}
use Rattle.relay_node.specs.Attempts.{RefusesToReply, Replies, RepliesBy, Tells}
use Rattle.relay_node.specs.declared.receive.Received.{Received}
use Rattle.relay_node.specs.Node.{CutsTalk, Makes, Receives, RefusesToReceive, SeatHasSaid, NodeState}
use Rattle.relay_node.specs.Room.{ComesToOffer}
use Rattle.relay_world.specs.Steps.{without_note}
use Rattle.relay_world.specs.World.{Up}
use Rattle.relay_hosts.specs.declared.recorded.Recorded.{Recorded}
use Rattle.relay_hosts.specs.Call.{IsWhyUnheard, KnowsAttempt, KnowsSession, LosesAttempt, LosesSession, NotesChange, NotesOne, Runs, StopsHearing, StopsLosing, StopsReading, TakesNote, is_stop}
use Rattle.relay_hosts.specs.Host.{OwesWithin, count_some, host_of, notes_of}
use Rattle.relay_hosts.proofs.SlotLemmas.{count_drop, count_no_more, count_one}
use Rattle.relay_report.specs.Report.{Reporter, reporter_of}

-- a fault that stopped the node is the one fault that says so
pub stop_is : (fault : NodeFault) → is_stop fault ≡ true → fault ≡ Stopped
stop_is NoMemory is = absurd (false≢true is)
stop_is Stopped is = refl
stop_is Unknown is = absurd (false≢true is)
stop_is TooMany is = absurd (false≢true is)
stop_is NotDue is = absurd (false≢true is)
stop_is Busy is = absurd (false≢true is)
stop_is (Open cause) is = absurd (false≢true is)
stop_is Full is = absurd (false≢true is)
stop_is NoSecond is = absurd (false≢true is)

pub noted_some : (noted : Option Noted) (changes : List Change) (change : Change) (used : ℕ) → IsNoted noted changes change used
    → is_some noted ≡ true
noted_some noted changes change used is = ap is_some is.is

-- what is owed by a node that is live, and by one that isn't
pub owed_live : {D : Type 0} (node : NodeState D) → node.records.spool.live ≡ true → notes_of node ≡ count_some node.attempts
owed_live node live = ap (λ b. cond b (count_some node.attempts) 1) live

pub owed_stopped : {D : Type 0} (node : NodeState D) → node.records.spool.live ≡ false → notes_of node ≡ 1
owed_stopped node stopped = ap (λ b. cond b (count_some node.attempts) 1) stopped

module _ {D : Type 0} (before after : NodeState D) (records : List (List ℕ)) (config : after.config ≡ before.config) where
  host_is : host_of after records ≡ record (host_of before records) { state = Up after }
  host_is = ap (λ (c : Config). record { config = c; state = Up after; records = records }) config

  pub runs_on : Runs (host_of before records) (host_of after records) before after
  runs_on = record { up = refl; config = config; new_is = host_is }

  module _ (words : DiskWords D) where
    -- the records stay where a call on a session is refused
    pub session_records : (session : ℕ) (fault : NodeFault) → is_stop fault ≡ false
        → RefusesToReceive words session before after fault → after.records ≡ before.records
    session_records session NoMemory ok refuses = refuses.records
    session_records session Stopped ok refuses = absurd (true≢false ok)
    session_records session Unknown ok refuses = ap (λ (n : NodeState D). n.records) refuses
    session_records session TooMany ok refuses = absurd refuses
    session_records session NotDue ok refuses = absurd refuses
    session_records session Busy ok refuses = absurd refuses
    session_records session (Open cause) ok refuses = absurd refuses
    session_records session Full ok refuses = refuses.0.records
    session_records session NoSecond ok refuses = absurd refuses

    -- a call that stopped the node is one in which its device failed
    pub session_stopped : (session : ℕ) (fault : NodeFault) → is_stop fault ≡ true
        → RefusesToReceive words session before after fault → IsStopped words 4 before.records after.records
    session_stopped session fault stop refuses =
        subst (λ f. RefusesToReceive words session before after f) (stop_is fault stop) refuses

    pub attempt_stopped : (slot : ℕ) (fault : NodeFault) → is_stop fault ≡ true
        → RefusesToReply words slot before after fault → IsStopped words 4 before.records after.records
    attempt_stopped slot fault stop refuses =
        subst (λ f. RefusesToReply words slot before after f) (stop_is fault stop) refuses

    -- a session that was known is gone where a call on it is refused
    pub session_gone : (session : ℕ) (fault : NodeFault) → is_stop fault ≡ false → fault ≢ Unknown
        → RefusesToReceive words session before after fault → slot_at after.seats session ≡ None
    session_gone session NoMemory ok known refuses = refuses.session
    session_gone session Stopped ok known refuses = absurd (true≢false ok)
    session_gone session Unknown ok known refuses = absurd (known refl)
    session_gone session TooMany ok known refuses = absurd refuses
    session_gone session NotDue ok known refuses = absurd refuses
    session_gone session Busy ok known refuses = absurd refuses
    session_gone session (Open cause) ok known refuses = absurd refuses
    session_gone session Full ok known refuses = refuses.0.session
    session_gone session NoSecond ok known refuses = absurd refuses

    -- and so is an attempt
    pub attempt_gone : (slot : ℕ) (fault : NodeFault) → is_stop fault ≡ false → fault ≢ Unknown
        → RefusesToReply words slot before after fault → slot_at after.attempts slot ≡ None
    attempt_gone slot NoMemory ok known refuses = refuses.attempt
    attempt_gone slot Stopped ok known refuses = absurd (true≢false ok)
    attempt_gone slot Unknown ok known refuses = absurd (known refl)
    attempt_gone slot TooMany ok known refuses = absurd refuses
    attempt_gone slot NotDue ok known refuses = absurd refuses
    attempt_gone slot Busy ok known refuses = absurd refuses
    attempt_gone slot (Open cause) ok known refuses = absurd refuses
    attempt_gone slot Full ok known refuses = refuses.attempt
    attempt_gone slot NoSecond ok known refuses = absurd refuses

    -- and there was no memory for what was heard, or no number for a message
    pub session_why : (session : ℕ) (piece : List ℕ) (fault : NodeFault) → is_stop fault ≡ false → fault ≢ Unknown
        → (fault ≡ Full → (peer : List ℕ) (said : Said) → SeatHasSaid before.config before.seats session peer said
        → ComesToOffer (setup_for before.config peer) said piece)
        → RefusesToReceive words session before after fault → IsWhyUnheard (Up before) session piece fault
    session_why session piece NoMemory ok known comes refuses = inl refl
    session_why session piece Stopped ok known comes refuses = absurd (true≢false ok)
    session_why session piece Unknown ok known comes refuses = absurd (known refl)
    session_why session piece TooMany ok known comes refuses = absurd refuses
    session_why session piece NotDue ok known comes refuses = absurd refuses
    session_why session piece Busy ok known comes refuses = absurd refuses
    session_why session piece (Open cause) ok known comes refuses = absurd refuses
    session_why session piece Full ok known comes refuses = inr (refl, record { none_left = refuses.1; comes = comes refl })
    session_why session piece NoSecond ok known comes refuses = absurd refuses

    pub attempt_records : (slot : ℕ) (fault : NodeFault) → is_stop fault ≡ false
        → RefusesToReply words slot before after fault → after.records ≡ before.records
    attempt_records slot NoMemory ok refuses = refuses.records
    attempt_records slot Stopped ok refuses = absurd (true≢false ok)
    attempt_records slot Unknown ok refuses = ap (λ (n : NodeState D). n.records) refuses
    attempt_records slot TooMany ok refuses = absurd refuses
    attempt_records slot NotDue ok refuses = absurd refuses
    attempt_records slot Busy ok refuses = absurd refuses
    attempt_records slot (Open cause) ok refuses = absurd refuses
    attempt_records slot Full ok refuses = refuses.records
    attempt_records slot NoSecond ok refuses = absurd refuses

    -- an attempt that is known is gone for want of memory alone, or of room
    pub attempt_why : {NoRoom : Type 0} (slot : ℕ) (fault : NodeFault) → is_stop fault ≡ false → fault ≢ Unknown
        → (fault ≡ Full → NoRoom) → RefusesToReply words slot before after fault
        → (fault ≡ NoMemory) ⊎ ((fault ≡ Full) × NoRoom)
    attempt_why slot NoMemory ok known room refuses = inl refl
    attempt_why slot Stopped ok known room refuses = absurd (true≢false ok)
    attempt_why slot Unknown ok known room refuses = absurd (known refl)
    attempt_why slot TooMany ok known room refuses = absurd refuses
    attempt_why slot NotDue ok known room refuses = absurd refuses
    attempt_why slot Busy ok known room refuses = absurd refuses
    attempt_why slot (Open cause) ok known room refuses = absurd refuses
    attempt_why slot Full ok known room refuses = inr (refl, room refl)
    attempt_why slot NoSecond ok known room refuses = absurd refuses

  pub session_lost : (session : ℕ) → after.records ≡ before.records → slot_at after.seats session ≡ None
      → OthersStay before.seats after.seats session → after.attempts ≡ before.attempts → LosesSession (host_of before records) (host_of after records) session
  session_lost session same gone others attempts = record {
    before = before;
    after = after;
    runs = runs_on;
    records = same;
    gone = gone;
    others = others;
    attempts = attempts;
  }

  pub attempt_lost : (slot : ℕ) → after.records ≡ before.records → slot_at after.attempts slot ≡ None
      → OthersStay before.attempts after.attempts slot → after.seats ≡ before.seats → LosesAttempt (host_of before records) (host_of after records) slot
  attempt_lost slot same gone others seats = record {
    before = before;
    after = after;
    runs = runs_on;
    records = same;
    gone = gone;
    others = others;
    seats = seats;
  }

-- the note of a call that made a change was taken
pub notes_one : {D : Type 0} (before after now : NodeState D) (old new : List (List ℕ)) (recorded : Recorded)
    → after.config ≡ before.config → (takes : TakesNote after now old new recorded)
    → NotesOne (host_of before old) (host_of now new) after recorded
notes_one before after now old new recorded config takes = record {
  noted = takes.noted;
  note_is = takes.note_is;
  tells = takes.tells;
  new_is =
      ap (λ (n : NodeState _). host_of n new) takes.after_is
      ∙ ap (λ (c : Config). record { config = c; state = Up (without_note after); records = new }) config
      ∙ ap (λ (rs : List (List ℕ)). record { config = before.config; state = Up (without_note after); records = rs })
      takes.records;
}

pub notes_some : {D : Type 0} (before after now : NodeState D) (old new : List (List ℕ)) (recorded : Recorded) (change : Option ℕ)
    → (change ≡ None → ⊥) → NotesOne (host_of before old) (host_of now new) after recorded
    → NotesChange (host_of before old) (host_of now new) after change (Some recorded)
notes_some before after now old new recorded None there notes = absurd (there refl)
notes_some before after now old new recorded (Some number) there notes = notes

pub notes_none : {D : Type 0} (before after : NodeState D) (records : List (List ℕ)) (change : Option ℕ)
    → after.config ≡ before.config → change ≡ None
    → NotesChange (host_of before records) (host_of after records) after change None
notes_none before after records change config is =
    subst (λ ch. NotesChange (host_of before records) (host_of after records) after ch None) (sym is)
    (ap (λ (c : Config). record { config = c; state = Up after; records = records }) config)

-- what is owed after a call for an attempt that is gone: one record less, or as much as before, where it had none
module _ {D : Type 0} (honest : Type 0) (words : DiskWords D) (before after : NodeState D) (slot len capacity owed : ℕ)
    (knows : KnowsAttempt honest words before slot) (room : OwesWithin (notes_of before) len capacity owed)
    (others : OthersStay before.attempts after.attempts slot) where
  pub owes_one : 1 ≤ owed
  owes_one =
      let few = room.0 in
      let live = owed_live before knows.keeps.live in
      let one = count_one before.attempts slot knows.tells.run knows.tells.at in
      omega (arith, few, live, one)

  pub owes_less : (len_now capacity_now : ℕ) → slot_at after.attempts slot ≡ None → after.records.spool.live ≡ true
      → len_now ≡ len + 1 → capacity ≤ capacity_now → OwesWithin (notes_of (without_note after)) len_now capacity_now (owed - 1)
  owes_less len_now capacity_now gone live longer wider =
      let few = room.0 in
      let fits = room.1 in
      let was = owed_live before knows.keeps.live in
      let now = owed_live after live in
      let less = count_drop before.attempts after.attempts slot knows.tells.run others knows.tells.at gone in (
        (omega (arith, few, was, now, less)),
        (omega (arith, few, fits, was, less, longer, wider)),
      )

  pub owes_same : after.records ≡ before.records → OwesWithin (notes_of after) len capacity owed
  owes_same same =
      let few = room.0 in
      let was = owed_live before knows.keeps.live in
      let now = owed_live after (ap (λ (r : Kept D). r.spool.live) same ∙ knows.keeps.live) in
      let less = count_no_more before.attempts after.attempts slot knows.tells.run others knows.tells.at in
      (omega (arith, few, was, now, less), room.1)

  pub owes_stopped : after.records.spool.live ≡ false → OwesWithin (notes_of after) len capacity owed
  owes_stopped stopped =
      let one = owes_one in
      let now = owed_stopped after stopped in
      (omega (arith, one, now), room.1)

-- a call for an attempt that stopped its node
module _ {D : Type 0} (honest : Type 0) (words : DiskWords D) (before after : NodeState D) (records : List (List ℕ)) (slot now : ℕ)
    (knows : KnowsAttempt honest words before slot) (config : after.config ≡ before.config)
    (failed : IsStopped words 4 before.records after.records) where
  pub stops_losing : ((changes : List Change) (told : Told) → Keeps honest words before.records changes
      → Tells before.config.host changes before.attempts slot told
      → CutsLoss honest words (reporter_of before.config) now changes slot told after.records)
      → StopsLosing honest words now (host_of before records) (host_of after records) slot
  stops_losing cuts =
      let cut = cuts knows.changes knows.told knows.keeps knows.tells in
      record {
        before = before;
        after = after;
        runs = runs_on before after records config;
        cuts = cuts;
        failed = failed;
        noted = cut.cuts.cuts.noted.note;
        note_is = cut.cuts.cuts.noted.is;
      }

  pub stops_reading : (piece : List ℕ) → ((changes : List Change) (told : Told) → Keeps honest words before.records changes
      → Tells before.config.host changes before.attempts slot told
      → CutsReply honest words (reporter_of before.config) now changes slot told piece after.records)
      → StopsReading honest words now (host_of before records) (host_of after records) slot piece
  stops_reading piece cuts =
      let cut = cuts knows.changes knows.told knows.keeps knows.tells in
      record {
        before = before;
        after = after;
        runs = runs_on before after records config;
        cuts = cuts;
        failed = failed;
        noted = cut.cuts.cuts.noted.note;
        note_is = cut.cuts.cuts.noted.is;
      }

-- room after a note that was taken
pub owes_taken : {D : Type 0} (after now : NodeState D) (old new : List (List ℕ)) (recorded : Recorded) (len capacity owed : ℕ)
    → TakesNote after now old new recorded → OwesWithin (notes_of (without_note after)) len capacity owed
    → OwesWithin (notes_of now) len capacity owed
owes_taken after now old new recorded len capacity owed takes room =
    subst (λ (n : NodeState _). OwesWithin (notes_of n) len capacity owed) (sym takes.after_is) room

-- replies that ended no attempt left the records as they were, and others recorded its outcome
module _ {D : Type 0} (honest : Type 0) (words : DiskWords D) (before after : NodeState D) (reporter : Reporter) (now : ℕ)
    (changes : List Change) (slot : ℕ) (told : Told) (piece : List ℕ) (replied : Replied) where
  pub read_same : Replies honest words reporter now changes slot told piece before after replied → replied.change ≡ None
      → after.records ≡ before.records
  read_same replies is = by replied.change replies is
    where
      by : (change : Option ℕ) → RepliesBy honest words reporter now changes slot told piece before after replied change
          → change ≡ None → after.records ≡ before.records
      by None on none = on.same
      by (Some number) ended none = absurd (none-some number (sym none))

  pub read_ended : Replies honest words reporter now changes slot told piece before after replied → (replied.change ≡ None → ⊥)
      → (number : ℕ) × AttemptHasEnded honest words reporter now changes slot told piece before.records after.records after.attempts replied number
  read_ended replies some = by replied.change replies some
    where
      by : (change : Option ℕ) → RepliesBy honest words reporter now changes slot told piece before after replied change
          → (change ≡ None → ⊥)
          → (number : ℕ) × AttemptHasEnded honest words reporter now changes slot told piece before.records after.records after.attempts replied number
      by None on there = absurd (there refl)
      by (Some number) ended there = (number, ended)

-- a call on a session that stopped its node
pub stops_hearing : {D : Type 0} (honest : Type 0) (words : DiskWords D) (before after : NodeState D) (old new : List (List ℕ))
    (session now : ℕ) (piece : List ℕ) → KnowsSession honest words before session → new ≡ old → after.config ≡ before.config
    → IsStopped words 4 before.records after.records → ((changes : List Change) (peer : List ℕ) (said : Said) → Keeps honest words before.records changes
    → SeatHasSaid before.config before.seats session peer said
    → CutsTalk honest words before.config changes peer now said piece before.records after.records)
    → StopsHearing honest words now (host_of before old) (host_of after new) session piece
stops_hearing honest words before after old new session now piece knows same config failed cuts =
    let cut = cuts knows.changes knows.peer knows.said knows.keeps knows.says in
    subst (λ l. StopsHearing honest words now (host_of before old) (host_of after l) session piece) (sym same) (record {
      before = before;
      after = after;
      runs = runs_on before after old config;
      cuts = cuts;
      failed = failed;
      noted = cut.cuts.noted.note;
      note_is = cut.cuts.noted.is;
    })

-- what is owed after a call on a session: the attempts are the same
pub owes_heard : {D : Type 0} (before after : NodeState D) (len capacity owed len_now capacity_now : ℕ)
    → OwesWithin (notes_of before) len capacity owed → before.records.spool.live ≡ true → after.records.spool.live ≡ true
    → after.attempts ≡ before.attempts → len_now + owed ≤ capacity_now
    → OwesWithin (notes_of after) len_now capacity_now owed
owes_heard before after len capacity owed len_now capacity_now room was now attempts fits =
    let few = room.0 in
    let live = owed_live before was in
    let live_now = owed_live after now in
    let same = ap (λ l. count_some l) attempts in
    (omega (arith, few, live, live_now, same), fits)

-- octets that made no change left the records as they were, and others added an accept
module _ {D : Type 0} (honest : Type 0) (words : DiskWords D) (before after : NodeState D) (changes : List Change)
    (peer : List ℕ) (now session : ℕ) (said : Said) (piece : List ℕ) (received : Received) where
  pub heard_same : Receives honest words before.config changes peer now session said piece before after received
      → received.change ≡ None → after.records ≡ before.records
  heard_same receives is = by received.change receives.later receives.talks.refused receives.talks.makes is
    where
      by : (change : Option ℕ) (later : Said) (refused : List Offered)
          → Makes honest words before.config changes peer now said later refused received.used before.records after.records change
          → change ≡ None → after.records ≡ before.records
      by None later refused makes none = makes.1
      by (Some number) later refused makes none = absurd (none-some number (sym none))

  pub heard_added : Receives honest words before.config changes peer now session said piece before after received
      → (received.change ≡ None → ⊥)
      → (is_some after.records.noted ≡ true) × (after.records.spool.live ≡ true)
  heard_added receives some = by received.change receives.later receives.talks.refused receives.talks.makes some
    where
      by : (change : Option ℕ) (later : Said) (refused : List Offered)
          → Makes honest words before.config changes peer now said later refused received.used before.records after.records change
          → (change ≡ None → ⊥) → (is_some after.records.noted ≡ true) × (after.records.spool.live ≡ true)
      by None later refused makes there = absurd (there refl)
      by (Some number) later refused makes there = (noted_some _ _ _ _ makes.adds.noted, makes.adds.keeps.live)

-- a note that was taken out of a node that is live owes no more and no less
pub owes_noted : {D : Type 0} (before after now : NodeState D) (old new : List (List ℕ)) (recorded : Recorded)
    (len capacity owed len_now capacity_now : ℕ) → TakesNote after now old new recorded
    → OwesWithin (notes_of before) len capacity owed → before.records.spool.live ≡ true → after.records.spool.live ≡ true
    → after.attempts ≡ before.attempts → len_now + owed ≤ capacity_now
    → OwesWithin (notes_of now) len_now capacity_now owed
owes_noted before after now old new recorded len capacity owed len_now capacity_now takes room was live attempts fits =
    owes_taken after now old new recorded len_now capacity_now owed takes
    (owes_heard before (without_note after) len capacity owed len_now capacity_now room was live attempts fits)
