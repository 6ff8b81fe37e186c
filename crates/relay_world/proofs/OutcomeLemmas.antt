-- An outcome that a node has recorded of an attempt keeps a world bound.
use Rattle.std.proofs.Common.{◌≡◌, true, ℕ, List, [], ◌∷◌, ◌++◌, length, Some, sym, ap, ◌∙◌}
use Rattle.relay_disk.specs.Device.{DiskWords}
use Rattle.relay_slots.specs.Slots.{OthersStay}
use Rattle.relay_book.specs.declared.change.Accept.{Accept}
use Rattle.relay_book.specs.declared.change.Change.{Change}
use Rattle.relay_book.specs.declared.change.Outcome.{Outcome}
use Rattle.relay_book.specs.Marks.{change_at, message_at}
use Rattle.relay_book.proofs.Theorems.{message_stays}
use Rattle.relay_records.specs.declared.noted.Noted.{Noted}
use Rattle.relay_attempts.specs.AddedOutcome.{reported_as}
use Rattle.relay_node.specs.Node.{NodeState}
use Rattle.relay_node.proofs.Theorems.{told_stays}
use Rattle.relay_world.specs.declared.attempt.Fate.{Fate}
use Rattle.relay_world.specs.declared.attempt.Fate.TheVariants.{Running}
use Rattle.relay_world.specs.declared.link.Link.{Link}
use Rattle.relay_world.specs.Bound.{IsBound, PassesOn, ReadsWithin}
use Rattle.relay_world.specs.Ledger.{left_lines, report_told}
use Rattle.relay_world.specs.Steps.{AttemptOf, IsPutAt}
use Rattle.relay_world.specs.World.{Up, World}
use Rattle.relay_world.proofs.FrameLemmas.{changes_stay}
use Rattle.relay_world.proofs.PieceLemmas.{with_at, with_at-length, with_at-put}
use Rattle.relay_world.proofs.AttemptLemmas.{KnowsAttempt}
use Rattle.relay_world.proofs.AttemptMoveLemmas.{attempt_moved}
use Rattle.relay_world.proofs.RecordLemmas.{HasTakenOutcome, Recording, TakesOutcome, accepts_same, found_now, keeps_now, lines_now, other_steps, steps_now}
use Rattle.relay_world.proofs.OpenLemmas.{number_within}
use Rattle.relay_report.specs.Report.{reporter_of}

-- the attempt's link: more may have been written and read on it, and else it is the same
pub record GoesOnAs (link now : Link) (more : List ℕ) : Type 0 where
  pub client : now.client ≡ link.client
  pub server : now.server ≡ link.server
  pub up : now.up ≡ link.up ++ more
  pub silent : link.broken ≡ true → more ≡ []
  pub up_read : now.up_read ≡ link.up_read
  pub down : now.down ≡ link.down
  pub broken : now.broken ≡ link.broken
  pub reads : ReadsWithin now

module _ {D : Type 0} (honest : Type 0) (words : DiskWords D) (old new : World D) (lists : List (List Change))
    (number : ℕ) (bound : IsBound honest words old lists) (of : AttemptOf old number)
    (knows : KnowsAttempt honest words old lists number of) (link : Link) (more : List ℕ) (after : NodeState D)
    (outcome : Outcome) (change_now : ℕ) (fate : Fate) (noted : Noted) where
  -- The attempt has ended with this outcome, and is of this fate; its node is this now.
  pub record Ending : Type 0 where
    pub goes_on : GoesOnAs of.link link more
    pub links : IsPutAt old.links new.links number link
    pub others : OthersStay of.before.attempts after.attempts of.slot
    pub config : after.config ≡ of.before.config
    pub seats : after.seats ≡ of.before.seats
    pub count : length new.hosts ≡ length old.hosts
    pub message : outcome.message ≡ of.attempt.message
    pub ends : (slot : ℕ) → fate ≡ Running slot → ⊥
    pub takes : TakesOutcome honest words (reporter_of of.host.config) knows.changes outcome after.records change_now noted
    pub taken : HasTakenOutcome old new number of after fate change_now noted

  module _ (ending : Ending) where
    abbrev added : Change
    added = reported_as outcome ending.takes.report

    abbrev grown : List Change
    grown = knows.changes ++ added ∷ []

    abbrev lists_now : List (List Change)
    lists_now = with_at lists of.attempt.node grown

    recording : Recording honest words old new lists of.attempt.node number of.host knows.changes of.before after outcome
        change_now
    recording = record {
      bound = bound;
      list_at = knows.list_at;
      kept = knows.kept;
      its_node = knows.its_node;
      config = ending.config;
      noted = noted;
      takes = ending.takes;
      ledger = ending.taken.ledger
          ∙ ap (λ m. old.ledger ++ left_lines of.attempt.node m number (report_told change_now noted.report)
          noted.left.items) (sym ending.message);
      grows = ending.links.grows;
      few = number_within new.links number link ending.links.at;
    }

    pub found_here : change_at grown change_now ≡ Some added
    unfolding recording
    found_here =
        found_now honest words old new lists of.attempt.node number of.host knows.changes of.before after outcome
        change_now recording

    pub message_now : (accept : Accept) → message_at knows.changes of.attempt.message ≡ Some accept
        → message_at grown of.attempt.message ≡ Some accept
    message_now accept was =
        message_stays knows.changes added ending.takes.keeps.fitting of.attempt.message accept was

    pub recorded : PassesOn (record of.host { state = Up after; records = of.host.records ++ noted.octets ∷ [] }) grown
        link (record of.attempt { fate = fate })
        → IsBound honest words new lists_now
    unfolding recording
    recorded passes =
        attempt_moved honest words old new lists lists_now number bound of knows link more after
        (of.host.records ++ noted.octets ∷ []) grown fate (record {
          client = ending.goes_on.client;
          server = ending.goes_on.server;
          up = ending.goes_on.up;
          silent = ending.goes_on.silent;
          up_read = ending.goes_on.up_read;
          down = ending.goes_on.down;
          broken = ending.goes_on.broken;
          reads = ending.goes_on.reads;
          links = ending.links;
          attempts = ending.taken.attempts;
          runs = λ slot is. absurd (ending.ends slot is);
          hosts = ending.taken.hosts;
          list = with_at-put lists of.attempt.node grown knows.changes knows.list_at;
          even = with_at-length lists of.attempt.node grown ∙ bound.even ∙ sym ending.count;
          stay = changes_stay knows.changes added;
          messages = λ k a is. message_stays knows.changes added ending.takes.keeps.fitting k a is;
          keeps = keeps_now honest words old new lists of.attempt.node number of.host knows.changes of.before after outcome
              change_now recording;
          seats = ending.seats;
          tells = λ slot told off is. told_stays of.host.config.host knows.changes added of.before.attempts
              after.attempts slot told ending.takes.keeps.fitting (ending.others slot off) is;
          accepts = accepts_same honest words old new lists of.attempt.node number of.host knows.changes of.before after
              outcome change_now recording;
          steps = steps_now honest words old new lists of.attempt.node number of.host knows.changes of.before after
              outcome change_now recording;
          other_steps = other_steps honest words old new lists of.attempt.node number of.host knows.changes of.before
              after outcome change_now recording;
          lines = lines_now honest words old new lists of.attempt.node number of.host knows.changes of.before after
              outcome change_now recording;
          passes = passes;
        })
