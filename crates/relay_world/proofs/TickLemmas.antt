-- A clock that is set keeps a world bound.
use Rattle.std.proofs.Common.{ℕ, List, sym, subst}
use Rattle.relay_disk.specs.Device.{DiskWords}
use Rattle.relay_book.specs.declared.change.Change.{Change}
use Rattle.relay_records.specs.declared.noted.Noted.{Noted}
use Rattle.relay_world.specs.declared.attempt.Fate.{Fate}
use Rattle.relay_world.specs.declared.attempt.Fate.TheVariants.{Lost, Replied}
use Rattle.relay_world.specs.declared.link.Link.{Link}
use Rattle.relay_world.specs.declared.link.ServerEnd.{ServerEnd}
use Rattle.relay_world.specs.Bound.{IsBound, IsServed, IsTried, MayBeHeard, MayBeIn, MayHaveCome, MayHaveEnded}
use Rattle.relay_world.specs.Steps.{TickingKeeps}
use Rattle.relay_world.specs.World.{FromClient, FromLoss, FromGivingUp, FromReplies, Host, Origin, Undecided, World}

module _ {D : Type 0} (honest : Type 0) (words : DiskWords D) (old : World D) (lists : List (List Change)) (now : ℕ) where
  served_still : (number : ℕ) (link : Link) (end : ServerEnd) → IsServed old lists number link end
      → IsServed (record old { clock = now }) lists number link end
  served_still number link end served = record {
    host = served.host;
    changes = served.changes;
    stands = record { host_at = served.stands.host_at; list_at = served.stands.list_at };
    serves = served.serves;
  }

  tried_still : (number place : ℕ) (link : Link) → IsTried old lists number link place
      → IsTried (record old { clock = now }) lists number link place
  tried_still number place link tried = record {
    attempt = tried.attempt;
    attempt_at = tried.attempt_at;
    its_link = tried.its_link;
    host = tried.host;
    changes = tried.changes;
    stands = record { host_at = tried.stands.host_at; list_at = tried.stands.list_at };
    passes = tried.passes;
  }

  heard_still : (node : ℕ) (host : Host D) (changes : List Change) (change : Change) (note : Noted) (number : ℕ)
      → MayBeHeard old node host changes change note number
      → MayBeHeard (record old { clock = now }) node host changes change note number
  heard_still node host changes change note number may = record {
    link = may.link;
    link_is = may.link_is;
    broken = may.broken;
    end = may.end;
    serves = may.serves;
    its_node = may.its_node;
    ended = may.ended;
    within = may.within;
    with_it = may.with_it;
  }

  ended_still : (node : ℕ) (host : Host D) (changes : List Change) (change : Change) (note : Noted) (number place : ℕ) (fate : Fate)
      → MayHaveEnded old node host changes change note number place fate
      → MayHaveEnded (record old { clock = now }) node host changes change note number place fate
  ended_still node host changes change note number place fate may = record {
    link = may.link;
    link_is = may.link_is;
    broken = may.broken;
    client = may.client;
    attempt = may.attempt;
    attempt_at = may.attempt_at;
    its_node = may.its_node;
    dropped = may.dropped;
    within = may.within;
    with_it = may.with_it;
  }

  came_still : (node : ℕ) (host : Host D) (changes : List Change) (change : Change) (note : Noted) (origin : Origin)
      → MayHaveCome old node host changes change note origin
      → MayHaveCome (record old { clock = now }) node host changes change note origin
  came_still node host changes change note (FromClient number) may = heard_still node host changes change note number may
  came_still node host changes change note (FromReplies number place message) may =
      ended_still node host changes change note number place (Replied note.number) may
  came_still node host changes change note (FromLoss number place message) may =
      ended_still node host changes change note number place (Lost note.number) may
  came_still node host changes change note (FromGivingUp message) may = may

  -- a change that is undecided stays so
  undecided_still : (node : ℕ) (host : Host D) (changes : List Change) (undecided : Undecided)
      → MayBeIn old node host changes undecided → MayBeIn (record old { clock = now }) node host changes undecided
  undecided_still node host changes undecided may = record {
    change = may.change;
    octets = may.octets;
    number = may.number;
    fitting = may.fitting;
    reported = may.reported;
    steps = may.steps;
    came = came_still node host changes may.change undecided.note undecided.origin may.came;
  }

  pub bound_still : IsBound honest words old lists → IsBound honest words (record old { clock = now }) lists
  bound_still bound = record {
    even = bound.even;
    hosts = λ node host changes stands.
        bound.hosts node host changes (record { host_at = stands.host_at; list_at = stands.list_at });
    may_be_in = λ node host changes disk undecided stands down. undecided_still node host changes undecided
        (bound.may_be_in node host changes disk undecided
        (record { host_at = stands.host_at; list_at = stands.list_at }) down);
    servers = λ number link end is serves. served_still number link end (bound.servers number link end is serves);
    clients = λ number place link is client. tried_still number place link (bound.clients number place link is client);
    attempts = bound.attempts;
    reads = bound.reads;
    ledger = bound.ledger;
    lines = bound.lines;
    sessions = bound.sessions;
    slots = bound.slots;
  }

pub ticking_keeps : {D : Type 0} (honest : Type 0) (words : DiskWords D) → TickingKeeps honest words
ticking_keeps honest words old new lists now bound ticks =
    subst (λ w. IsBound honest words w lists) (sym ticks.new_is) (bound_still honest words old lists now bound)
