-- Replies to attempts and lost connections, by the list of changes.
use Rattle.std.proofs.Common.{◌≡◌, ◌≢◌, inl, inr, ℕ, true, false, List, take, Option, Some, None, Result, Ok, Err, IfOk, IfErr, OnOk, refl, sym, ap, ◌∙◌, subst}
use Rattle.relay_disk.specs.Device.{DiskWords}
use Rattle.relay_disk.specs.Disks.{FailsNot}
use Rattle.relay_slots.specs.Slots.{slot_at}
use Rattle.relay_routes.specs.declared.config.Config.{Config}
use Rattle.relay_routes.specs.Routes.{RouteTable}
use Rattle.relay_book.specs.declared.change.Accept.{Accept}
use Rattle.relay_book.specs.declared.change.Change.{Change}
use Rattle.relay_book.specs.Queue.{Fitting, Queue, message_of, queue_of}
use Rattle.relay_book.proofs.Theorems.{fold_knows}
use Rattle.relay_records.specs.Records.{Kept}
use Rattle.relay_records.specs.declared.fault.NodeFault.{NodeFault}
use Rattle.relay_records.specs.declared.fault.NodeFault.TheVariants.{NoMemory, Stopped, Unknown, TooMany, NotDue, Busy, Open, Full, NoSecond}
use Rattle.relay_attempts.specs.declared.reply.Replied.{Replied}
use Rattle.relay_attempts.specs.declared.runs.Run.{Run}
use Rattle.relay_attempts.specs.Attempts.{Serves, AttemptTable}
use Rattle.relay_attempts.specs.Reply.{EndsBy, HasHeard, Makes, RefusesToHear, TellsAt, Told, told_more, Replies as RepliesOfQueue}
use Rattle.relay_node.specs.Attempts.{RefusesToReply, Replies, RepliesBy, Tells, UsesReply}
use Rattle.relay_node.specs.declared.seat.Seat.{Seat}
use Rattle.relay_node.specs.Node.{NodeState}
use Rattle.relay_report.specs.Report.{Reporter, reporter_of}

one_some : (first second : Accept) → Some first ≡ Some second → first ≡ second
one_some first second e = cc

module _ (host : List ℕ) (changes : List Change) (queue : Queue) (fitting : Fitting changes) (queue_is : queue ≡ queue_of changes) where
  -- what is told by the list is told by the queue
  pub told_by_queue : (table : RouteTable) (attempts : AttemptTable) (number : ℕ) (told : Told) → Serves host table attempts queue → Tells host changes attempts.runs number told → TellsAt host queue attempts.runs number told
  told_by_queue table attempts number told serves t =
      let runs = serves.runs number t.run t.at in
      let found : message_of queue.messages told.message ≡ Some runs.message = subst (λ n. message_of queue.messages n ≡ Some runs.message) t.its_message runs.found in
      let listed : message_of (queue_of changes).messages told.message ≡ Some runs.message = subst (λ (q : Queue). message_of q.messages told.message ≡ Some runs.message) queue_is found in
      let same = one_some runs.message.accept t.accept (sym (fold_knows changes fitting told.message runs.message listed).accept_is ∙ t.accepted) in
      record {
        run = t.run;
        at = t.at;
        its_message = t.its_message;
        its_hop = t.its_hop;
        its_places = t.its_places;
        message = runs.message;
        found = found;
        envelope_is = ap (λ (a : Accept). a.envelope) same ∙ t.envelope_is;
        text_is = ap (λ (a : Accept). a.stored_text) same ∙ t.text_is;
        follows = t.follows;
      }

  -- and the other way
  pub told_by_list : (runs : List (Option Run)) (number : ℕ) (told : Told) → TellsAt host queue runs number told → Tells host changes runs number told
  told_by_list runs number told t =
      let listed : message_of (queue_of changes).messages told.message ≡ Some t.message = subst (λ (q : Queue). message_of q.messages told.message ≡ Some t.message) queue_is t.found in
      record {
        run = t.run;
        at = t.at;
        its_message = t.its_message;
        its_hop = t.its_hop;
        its_places = t.its_places;
        accept = t.message.accept;
        accepted = (fold_knows changes fitting told.message t.message listed).accept_is;
        envelope_is = t.envelope_is;
        text_is = t.text_is;
        follows = t.follows;
      }

-- what a reply has done by the queue it has done by the list
module _ {D : Type 0} (honest : Type 0) (words : DiskWords D) (reporter : Reporter) (now : ℕ) (changes : List Change) (number : ℕ) (told : Told) (piece : List ℕ) (old new : NodeState D)
    (fitting : Fitting changes) (queue_is : old.records.queue ≡ queue_of changes) where
  by_change : (replied : Replied) (change : Option ℕ) → RepliesOfQueue honest words reporter now changes number told piece old.records new.records new.attempts replied change → RepliesBy honest words reporter now changes number told piece old new replied change
  by_change replied None r = record {
    used = r.used;
    same = r.same;
    tells = told_by_list reporter.host changes new.records.queue fitting (ap (λ (k : Kept D). k.queue) r.same ∙ queue_is) new.attempts number (told_more told (take replied.used piece) replied.out.items) r.tells;
  }
  by_change replied (Some change) r = r

  pub replies : (result : Result Replied NodeFault) → IfOk result (λ replied. RepliesOfQueue honest words reporter now changes number told piece old.records new.records new.attempts replied replied.change) → IfOk result (Replies honest words reporter now changes number told piece old new)
  replies (Ok replied) r = by_change replied replied.change r
  replies (Err fault) r = tt

-- what was used, whatever is told
pub uses : {D : Type 0} (words : DiskWords D) (now number len : ℕ) (old new : NodeState D) (result : Result Replied NodeFault)
    → IfOk result (HasHeard words (reporter_of old.config) now number len old.attempts new.attempts old.records new.records) → IfOk result (UsesReply words now number len old new)
uses {D = D} words now number len old new (Err fault) heard = tt
uses {D = D} words now number len old new (Ok replied) heard = record {
  within = heard.within;
  whole = heard.whole;
  gone = gone_by replied.change heard.makes;
  makes = heard.makes;
  failures = not_failed replied.change heard.makes;
}
  where
    gone_by : (change : Option ℕ) → Makes words (reporter_of old.config) now number old.attempts new.attempts old.records new.records change → change ≢ None → slot_at new.attempts number ≡ None
    gone_by None made some = absurd (some refl)
    gone_by (Some change) made some = made.gone

    not_failed : (change : Option ℕ) → Makes words (reporter_of old.config) now number old.attempts new.attempts old.records new.records change → FailsNot words old.records.spool.disk new.records.spool.disk
    not_failed None made =
        (ap (λ (kept : Kept D). words.failed kept.spool.disk.first) made.2, ap (λ (kept : Kept D). words.failed kept.spool.disk.second) made.2)
    not_failed (Some change) made = made.grows.grows.failures

-- a fault of a live node
module _ {D : Type 0} (words : DiskWords D) (number : ℕ) (before after : AttemptTable) (old new : NodeState D) (was : old.attempts ≡ before.runs) (is : new.attempts ≡ after.runs) (config : new.config ≡ old.config)
    (seats : new.seats ≡ old.seats) (live : old.records.spool.live ≡ true) where
  -- what is left after it
  refuses : (fault : NodeFault) → RefusesToHear words number before after old.records new.records fault → RefusesToReply words number old new fault
  refuses NoMemory r = record { attempt = ap (λ (l : List (Option Run)). slot_at l number) is ∙ r.0.gone; records = r.1 }
  refuses Stopped (inl stopped) = absurd (dead (sym live ∙ stopped.0))
    where
      dead : true ≡ false → ⊥
      dead e = cc
  refuses Stopped (inr stopped) = stopped.1
  refuses Unknown r = same_node (is ∙ ap (λ (s : AttemptTable). s.runs) r.2 ∙ sym was) r.3
    where
      parts : Config → List (Option Seat) → List (Option Run) → Kept D → NodeState D
      parts config seats attempts records = record { config = config; seats = seats; attempts = attempts; records = records }

      same_node : new.attempts ≡ old.attempts → new.records ≡ old.records → new ≡ old
      same_node attempts records =
          ap (λ (c : Config). parts c new.seats new.attempts new.records) config
          ∙ ap (λ (s : List (Option Seat)). parts old.config s new.attempts new.records) seats
          ∙ ap (λ (a : List (Option Run)). parts old.config old.seats a new.records) attempts
          ∙ ap (λ (r : Kept D). parts old.config old.seats old.attempts r) records
  refuses TooMany r = absurd r
  refuses NotDue r = absurd r
  refuses Busy r = absurd r
  refuses NoSecond r = absurd r
  refuses (Open cause) r = absurd r
  refuses Full r = record { attempt = ap (λ (l : List (Option Run)). slot_at l number) is ∙ r.0.gone; records = r.1 }

  pub refuses_reply : {T : Type 0} (result : Result T NodeFault) → IfErr result (RefusesToHear words number before after old.records new.records) → IfErr result (RefusesToReply words number old new)
  refuses_reply (Ok value) r = tt
  refuses_reply (Err fault) r = refuses fault r

-- an attempt that isn't there is unknown, and only such a one
module _ {D : Type 0} (words : DiskWords D) (number : ℕ) (before after : AttemptTable) (old new : Kept D) (live : old.spool.live ≡ true) where
  none_else : (fault : NodeFault) → RefusesToHear words number before after old new fault → slot_at before.runs number ≡ None → fault ≡ Unknown
  none_else NoMemory r none = absurd (r.0.was none)
  none_else Stopped (inl r) none = absurd (dead (sym live ∙ r.0))
    where
      dead : true ≡ false → ⊥
      dead e = cc
  none_else Stopped (inr r) none = absurd (r.0.was none)
  none_else Unknown r none = refl
  none_else TooMany r none = absurd r
  none_else NotDue r none = absurd r
  none_else Busy r none = absurd r
  none_else NoSecond r none = absurd r
  none_else (Open cause) r none = absurd r
  none_else Full r none = absurd (r.0.was none)

  pub unknown_there : {T : Type 0} (result : Result T NodeFault) → IfErr result (RefusesToHear words number before after old new) → result ≡ Err Unknown → slot_at before.runs number ≡ None
  unknown_there (Ok value) r e = absurd (cc)
  unknown_there {T = T} (Err fault) r e =
      let is : fault ≡ Unknown = cc in
      (subst (RefusesToHear words number before after old new) is r).1

  pub there_unknown : {T : Type 0} (result : Result T NodeFault) → OnOk result (slot_at before.runs number ≢ None) → IfErr result (RefusesToHear words number before after old new) → slot_at before.runs number ≡ None → result ≡ Err Unknown
  there_unknown (Ok value) there r none = absurd (there none)
  there_unknown (Err fault) there r none = ap Err (none_else fault r none)

-- where it was heard, it was there
pub heard_there : {D : Type 0} (words : DiskWords D) (reporter : Reporter) (now number len : ℕ) (before after : List (Option Run)) (old new : Kept D) (result : Result Replied NodeFault) → IfOk result (HasHeard words reporter now number len before after old new) → OnOk result (slot_at before number ≢ None)
heard_there words reporter now number len before after old new (Err fault) heard = tt
heard_there {D = D} words reporter now number len before after old new (Ok replied) heard = by replied.change heard.makes
  where
    some_there : (run : Run) → slot_at before number ≡ Some run → slot_at before number ≢ None
    some_there run is none = absurd (cc)

    by : (change : Option ℕ) → Makes words reporter now number before after old new change → slot_at before number ≢ None
    by None made = made.1
    by (Some change) made = some_there made.run made.was

pub ended_there : {D : Type 0} (words : DiskWords D) (reporter : Reporter) (now number : ℕ) (before after : List (Option Run)) (old new : Kept D) (result : Result ℕ NodeFault) → IfOk result (EndsBy words reporter now number before after old new) → OnOk result (slot_at before number ≢ None)
ended_there words reporter now number before after old new (Err fault) ends = tt
ended_there words reporter now number before after old new (Ok change) ends = λ none. absurd (none_some ends.run (sym ends.was ∙ none))
  where
    none_some : (run : Run) → Some run ≡ None → ⊥
    none_some run e = cc
