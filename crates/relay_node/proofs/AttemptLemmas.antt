-- The attempts of a node, and what is told of them, by the queue and by the list of changes.
use Rattle.std.proofs.Common.{◌≡◌, ℕ, List, Option, Some, Result, Ok, Err, IfOk, refl, sym, ap, ◌∙◌, subst}
use Rattle.relay_disk.specs.Device.{DiskWords}
use Rattle.relay_slots.proofs.Theorems.{others_of_set}
use Rattle.relay_routes.specs.declared.config.Config.{Config}
use Rattle.relay_routes.specs.Routes.{RouteTable}
use Rattle.relay_book.specs.declared.change.Change.{Change}
use Rattle.relay_book.specs.Queue.{Fitting, Queue, message_of, queue_of}
use Rattle.relay_book.proofs.Theorems.{fold_knows, message_stays}
use Rattle.relay_records.specs.Records.{Kept}
use Rattle.relay_records.specs.declared.fault.NodeFault.{NodeFault}
use Rattle.relay_records.specs.declared.fault.NodeFault.TheVariants.{NoMemory, Stopped, Unknown, TooMany, NotDue, Busy, Open, Full, NoSecond}
use Rattle.relay_attempts.specs.declared.runs.Run.{Run}
use Rattle.relay_attempts.specs.declared.start.Started.{Started}
use Rattle.relay_attempts.specs.Attempts.{Serves, AttemptTable, StartsAtMost}
use Rattle.relay_attempts.specs.Runs.{EachRuns, NoneTwice}
use Rattle.relay_node.specs.Attempts.{BeginsAtMost, ToldStays}
use Rattle.relay_node.specs.Node.{RefusesToHear}

-- attempts serve a queue as long as these parts stay
pub same_serves : (host : List ℕ) (table : RouteTable) (old new : AttemptTable) (queue after : Queue) → new.runs ≡ old.runs → new.stranded ≡ old.stranded → after ≡ queue → Serves host table old queue → Serves host table new after
same_serves host table old new queue after runs stranded same serves =
    subst (λ (q : Queue). Serves host table new q) (sym same) (record {
      stranded = stranded ∙ serves.stranded;
      runs = subst (λ (l : List (Option Run)). EachRuns host table queue l) (sym runs) serves.runs;
      once = subst (λ (l : List (Option Run)). NoneTwice l) (sym runs) serves.once;
    })

-- a call that accepts nothing leaves the queue
pub refused_queue : {D : Type 0} (words : DiskWords D) (old new : Kept D) (fault : NodeFault) → RefusesToHear words old new fault → new.queue ≡ old.queue
refused_queue {D = D} words old new NoMemory refused = ap (λ (k : Kept D). k.queue) refused
refused_queue words old new Stopped refused = refused.queue
refused_queue words old new Unknown refused = absurd refused
refused_queue words old new TooMany refused = absurd refused
refused_queue words old new NotDue refused = absurd refused
refused_queue words old new Busy refused = absurd refused
refused_queue words old new NoSecond refused = absurd refused
refused_queue words old new (Open cause) refused = absurd refused
refused_queue {D = D} words old new Full refused = ap (λ (k : Kept D). k.queue) refused.0

-- what has begun by the queue has begun by the list
begins : (config : Config) (changes : List Change) (number : ℕ) (hop : List ℕ) (most : Option ℕ) (now : ℕ) (queue : Queue) (old new : List (Option Run)) (started : Started) → Fitting changes → queue ≡ queue_of changes
    → StartsAtMost config.host config.routes number hop most now queue old new started → BeginsAtMost config changes number hop most now old new started
begins config changes number hop most now queue old new started fitting queue_is s =
    let found : message_of (queue_of changes).messages number ≡ Some s.message = subst (λ (q : Queue). message_of q.messages number ≡ Some s.message) queue_is s.found in
    record {
      least = s.least;
      free = s.free;
      message = s.message;
      found = found;
      places = s.places;
      some = s.some;
      tells = record {
        run = s.run;
        at = s.at;
        its_message = s.begun.its_message;
        its_hop = s.begun.its_hop;
        its_places = s.begun.its_places;
        accept = s.message.accept;
        accepted = (fold_knows changes fitting number s.message found).accept_is;
        envelope_is = refl;
        text_is = refl;
        follows = s.begun.follows s.message.accept.envelope s.message.accept.stored_text;
      };
      others = others_of_set old new started.attempt (Some s.run) s.put;
    }

pub begins_if : (config : Config) (changes : List Change) (number : ℕ) (hop : List ℕ) (most : Option ℕ) (now : ℕ) (queue : Queue) (old new : List (Option Run)) (result : Result Started NodeFault) → Fitting changes → queue ≡ queue_of changes
    → IfOk result (StartsAtMost config.host config.routes number hop most now queue old new) → IfOk result (BeginsAtMost config changes number hop most now old new)
begins_if config changes number hop most now queue old new (Ok started) fitting queue_is s = begins config changes number hop most now queue old new started fitting queue_is s
begins_if config changes number hop most now queue old new (Err fault) fitting queue_is s = tt

pub told_stays : ToldStays
told_stays host changes change old new number told fitting same t = record {
  run = t.run;
  at = same ∙ t.at;
  its_message = t.its_message;
  its_hop = t.its_hop;
  its_places = t.its_places;
  accept = t.accept;
  accepted = message_stays changes change fitting told.message t.accept t.accepted;
  envelope_is = t.envelope_is;
  text_is = t.text_is;
  follows = t.follows;
}
