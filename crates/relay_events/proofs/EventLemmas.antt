-- What a call of one host makes of a world: the event of which it is the node's part, where its caller has put the host, the link,
-- the attempt and the lines of the ledger.
use Rattle.std.proofs.Common.{◌≡◌, ℕ, suc, List, [], ◌∷◌, ◌++◌, length, Option, None, Some, subst, ap, ◌∙◌}
use Rattle.std.specs.Prelude.{slice_get}
use Rattle.relay_disk.specs.Device.{DiskWords}
use Rattle.relay_book.specs.declared.fate.PlaceStep.{PlaceStep}
use Rattle.relay_attempts.specs.declared.reply.Replied.{Replied}
use Rattle.relay_node.specs.declared.node.Connected.{Connected}
use Rattle.relay_node.specs.declared.receive.Received.{Received}
use Rattle.relay_node.specs.Node.{NodeState}
use Rattle.relay_world.specs.GivingUp.{Reason}
use Rattle.relay_world.specs.declared.attempt.Fate.{Fate}
use Rattle.relay_world.specs.declared.attempt.Fate.TheVariants.{Replied as RepliedBy}
use Rattle.relay_world.specs.declared.line.Line.TheVariants.{Accepted}
use Rattle.relay_world.specs.Ledger.{left_lines, report_told}
use Rattle.relay_world.specs.Steps.{AttemptOf, EndsSession, HasGivenUp, HasHeard, HasOpened, HasRead, IsPut, IsPutAt, RecordsHeard, RecordsOutcome, RecordsRead, SessionOf, heard_link, opened_link, read_link, waiting_down, waiting_up, without_note}
use Rattle.relay_world.specs.World.{Host, Up, World}
use Rattle.relay_hosts.specs.declared.recorded.Recorded.{Recorded}
use Rattle.relay_hosts.specs.Call.{Hears, LosesSession, NotesChange, NotesOne, Reads}
use Rattle.relay_hosts.specs.Work.{GivesUp, OpensSession}

module _ {D : Type 0} (honest : Type 0) (words : DiskWords D) (old new : World D) where
  -- the host of this number was put as it is now
  pub put_as : (node : ℕ) (one other : Host D) → one ≡ other → IsPut old.hosts new.hosts node one → IsPut old.hosts new.hosts node other
  put_as node one other same put = subst (λ (h : Host D). IsPut old.hosts new.hosts node h) same put

  -- a client was let in
  abbrev pub opened : (node : ℕ) (peer : List ℕ) (host next : Host D) (connected : Connected)
      → slice_get old.hosts node ≡ Some host → OpensSession host next peer connected → IsPut old.hosts new.hosts node next
      → IsPutAt old.links new.links (suc (length old.links)) (opened_link node peer connected)
      → (new.attempts ≡ old.attempts) × (new.ledger ≡ old.ledger) × (new.clock ≡ old.clock)
      × (length new.hosts ≡ length old.hosts)
      → HasOpened old new node peer
  opened node peer host next connected host_at opens put links rest = record {
    host = host;
    host_at = host_at;
    before = opens.before;
    up = opens.runs.up;
    after = opens.after;
    connected = connected;
    connects = opens.connects;
    records = opens.records;
    config = opens.runs.config;
    attempts = opens.attempts;
    hosts = put_as node next (record host { state = Up opens.after }) opens.runs.new_is put;
    links = links;
    rest = rest;
  }

  -- the ledger has the line of what a node that heard octets has accepted
  abbrev pub LedgerHeard : ℕ → ℕ → Option ℕ → Option Recorded → Type 0
  LedgerHeard node number None recorded = new.ledger ≡ old.ledger
  LedgerHeard node number (Some change) None = new.ledger ≡ old.ledger
  LedgerHeard node number (Some change) (Some recorded) =
      new.ledger ≡ old.ledger ++ Accepted node change recorded.accepted number ∷ []

  pub records_heard : (node number : ℕ) (host next : Host D) (after : NodeState D) (change : Option ℕ) (recorded : Option Recorded)
      → NotesChange host next after change recorded → IsPut old.hosts new.hosts node next
      → LedgerHeard node number change recorded → RecordsHeard old new node number host after change
  records_heard node number host next after None None notes put ledger =
      (put_as node next (record host { state = Up after }) notes put, ledger)
  records_heard node number host next after None (Some recorded) notes put ledger = absurd notes
  records_heard node number host next after (Some change) None notes put ledger = absurd notes
  records_heard node number host next after (Some change) (Some recorded) notes put ledger = (
    notes.noted,
    notes.note_is,
    put_as node next (record host { state = Up (without_note after); records = host.records ++ notes.noted.octets ∷ [] })
        notes.new_is put,
    subst (λ (places : ℕ). new.ledger ≡ old.ledger ++ Accepted node change places number ∷ []) notes.tells.accepted ledger,
  )

  -- octets were heard
  abbrev pub heard : (number count : ℕ) (of : SessionOf old number) (next : Host D) (received : Received)
      (recorded : Option Recorded)
      → Hears honest words old.clock of.host next of.session (waiting_up count of.link) received recorded
      → IsPut old.hosts new.hosts of.end.node next
      → IsPutAt old.links new.links number (heard_link of.link of.end of.session received)
      → LedgerHeard of.end.node number received.change recorded
      → (new.attempts ≡ old.attempts) × (new.clock ≡ old.clock) × (length new.hosts ≡ length old.hosts)
      → HasHeard honest words old new number count
  heard number count of next received recorded hears put links ledger rest = record {
    of = record of { before = hears.before; up = hears.up };
    after = hears.after;
    received = received;
    receives = λ changes said keeps says. hears.receives changes of.end.peer said keeps says;
    used = hears.used;
    others = hears.others;
    config = hears.config;
    attempts = hears.attempts;
    links = links;
    records = records_heard of.end.node number of.host next hears.after received.change recorded hears.notes put ledger;
    rest = rest;
  }

  -- a session is gone: its node was told of its end, or had no memory or room for what it heard
  abbrev pub session_ended : (number : ℕ) (of : SessionOf old number) (next : Host D) → LosesSession of.host next of.session
      → IsPut old.hosts new.hosts of.end.node next
      → IsPutAt old.links new.links number (record of.link { server = Some (record of.end { session = None }) })
      → (new.attempts ≡ old.attempts) × (new.ledger ≡ old.ledger) × (new.clock ≡ old.clock)
      × (length new.hosts ≡ length old.hosts)
      → EndsSession old new number
  session_ended number of next loses put links rest = record {
    of = record of { before = loses.before; up = loses.runs.up };
    after = loses.after;
    records = loses.records;
    gone = loses.gone;
    others = loses.others;
    config = loses.runs.config;
    attempts = loses.attempts;
    hosts = put_as of.end.node next (record of.host { state = Up loses.after }) loses.runs.new_is put;
    links = links;
    rest = rest;
  }

  -- an attempt has ended, and its outcome is recorded
  pub records_outcome : (number : ℕ) (of : AttemptOf old number) (next : Host D) (after : NodeState D) (fate : Fate) (change : ℕ)
      (recorded : Recorded) → NotesOne of.host next after recorded → IsPut old.hosts new.hosts of.attempt.node next
      → new.ledger
      ≡ old.ledger ++ left_lines of.attempt.node of.attempt.message number (report_told change recorded.report) recorded.left.items
      → IsPut old.attempts new.attempts of.place (record of.attempt { fate = fate })
      → RecordsOutcome old new number of after fate change
  records_outcome number of next after fate change recorded notes put ledger attempts = record {
    noted = notes.noted;
    note_is = notes.note_is;
    hosts = put_as of.attempt.node next
        (record of.host { state = Up (without_note after); records = of.host.records ++ notes.noted.octets ∷ [] }) notes.new_is put;
    ledger = ledger
        ∙ ap (λ (report : _). old.ledger ++ left_lines of.attempt.node of.attempt.message number (report_told change report)
        recorded.left.items) notes.tells.report
        ∙ ap (λ (left : List (ℕ × PlaceStep)). old.ledger ++ left_lines of.attempt.node of.attempt.message number
        (report_told change notes.noted.report) left) notes.tells.left;
    attempts = attempts;
  }

  -- what becomes of an attempt that has read replies, and of the ledger
  abbrev pub AttemptRead : (number : ℕ) → AttemptOf old number → Option ℕ → Option Recorded → Type 0
  AttemptRead number of None recorded = (new.ledger ≡ old.ledger) × (new.attempts ≡ old.attempts)
  AttemptRead number of (Some change) None = (new.ledger ≡ old.ledger) × (new.attempts ≡ old.attempts)
  AttemptRead number of (Some change) (Some recorded) =
      (new.ledger
      ≡ old.ledger ++ left_lines of.attempt.node of.attempt.message number (report_told change recorded.report) recorded.left.items)
      × IsPut old.attempts new.attempts of.place (record of.attempt { fate = RepliedBy change })

  pub records_read : (number : ℕ) (of : AttemptOf old number) (next : Host D) (after : NodeState D) (change : Option ℕ)
      (recorded : Option Recorded) → NotesChange of.host next after change recorded
      → IsPut old.hosts new.hosts of.attempt.node next → AttemptRead number of change recorded
      → RecordsRead old new number of after change
  records_read number of next after None None notes put became =
      (put_as of.attempt.node next (record of.host { state = Up after }) notes put, became.0, became.1)
  records_read number of next after None (Some recorded) notes put became = absurd notes
  records_read number of next after (Some change) None notes put became = absurd notes
  records_read number of next after (Some change) (Some recorded) notes put became =
      records_outcome number of next after (RepliedBy change) change recorded notes put became.0 became.1

  -- replies were read
  abbrev pub replies_read : (number count : ℕ) (of : AttemptOf old number) (next : Host D) (replied : Replied)
      (recorded : Option Recorded)
      → Reads honest words old.clock of.host next of.slot (waiting_down count of.link) replied recorded
      → IsPut old.hosts new.hosts of.attempt.node next → IsPutAt old.links new.links number (read_link of.link replied)
      → AttemptRead number of replied.change recorded → (new.clock ≡ old.clock) × (length new.hosts ≡ length old.hosts)
      → HasRead honest words old new number count
  replies_read number count of next replied recorded reads put links became rest = record {
    of = record of { before = reads.before; up = reads.up };
    after = reads.after;
    replied = replied;
    replies = reads.replies;
    used = reads.used;
    others = reads.others;
    config = reads.config;
    seats = reads.seats;
    links = links;
    records = records_read number (record of { before = reads.before; up = reads.up }) next reads.after replied.change recorded
        reads.notes put became;
    rest = rest;
  }

  -- places without a hop were given up
  pub given_up : (reason : Reason) (node message change : ℕ) (host next : Host D) (recorded : Recorded) → slice_get old.hosts node ≡ Some host
      → GivesUp honest words reason old.clock host next message change recorded → IsPut old.hosts new.hosts node next
      → new.ledger ≡ old.ledger ++ left_lines node message 0 (report_told change recorded.report) recorded.left.items
      → (new.links ≡ old.links) × (new.attempts ≡ old.attempts) × (new.clock ≡ old.clock)
      × (length new.hosts ≡ length old.hosts)
      → HasGivenUp honest words old new reason node message change
  given_up reason node message change host next recorded host_at gives put ledger rest = record {
    host = host;
    host_at = host_at;
    before = gives.before;
    up = gives.up;
    after = gives.after;
    gives_up = gives.gives_up;
    free = gives.free;
    config = gives.config;
    seats = gives.seats;
    attempts = gives.attempts;
    noted = gives.notes.noted;
    note_is = gives.notes.note_is;
    hosts = put_as node next
        (record host { state = Up (without_note gives.after); records = host.records ++ gives.notes.noted.octets ∷ [] })
        gives.notes.new_is put;
    ledger = ledger
        ∙ ap (λ (report : _). old.ledger ++ left_lines node message 0 (report_told change report) recorded.left.items)
        gives.notes.tells.report
        ∙ ap (λ (left : List (ℕ × PlaceStep)). old.ledger ++ left_lines node message 0 (report_told change gives.notes.noted.report) left)
        gives.notes.tells.left;
    rest = rest;
  }
