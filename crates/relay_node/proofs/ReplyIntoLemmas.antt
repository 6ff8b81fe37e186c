-- Replies to attempts whose outcomes are staged, by the list of changes.
use Rattle.std.proofs.Common.{◌≡◌, ◌≢◌, inl, inr, ◌⊎◌, ℕ, ◌+◌, ◌≤◌, ◌^◌, List, [], ◌∷◌, ◌++◌, fold, take, Option, Some, None, Result, Ok, Err, IfOk, IfErr, OnErr, OnOk, refl, sym, ap, ◌∙◌, subst}
use Rattle.relay_disk.specs.Device.{DiskWords}
use Rattle.relay_slots.specs.Slots.{slot_at}
use Rattle.relay_spool.specs.Image.{room_of}
use Rattle.relay_routes.specs.declared.config.Config.{Config}
use Rattle.relay_book.specs.declared.change.Change.{Change}
use Rattle.relay_book.specs.Queue.{FitsFrom, Fitting, Queue, empty_queue, step}
use Rattle.relay_records.specs.Records.{Kept}
use Rattle.relay_records.specs.Staged.{Awaits, Row}
use Rattle.relay_records.specs.declared.fault.NodeFault.{NodeFault}
use Rattle.relay_records.specs.declared.fault.NodeFault.TheVariants.{NoMemory, Stopped, Unknown, TooMany, NotDue, Busy, Open, Full, NoSecond}
use Rattle.relay_attempts.specs.declared.reply.Replied.{Replied}
use Rattle.relay_attempts.specs.declared.runs.Run.{Run}
use Rattle.relay_attempts.specs.Attempts.{AttemptTable}
use Rattle.relay_attempts.specs.Reply.{Told, told_more}
use Rattle.relay_attempts.specs.Staging.{HasHeardAfter, MakesAfter, RefusesToHearAfter, RepliesAfter}
use Rattle.relay_node.specs.declared.seat.Seat.{Seat}
use Rattle.relay_node.specs.Node.{NodeState}
use Rattle.relay_node.specs.StagedReplies.{RefusesToReplyInto, RepliesInto, UsesReplyInto}
use Rattle.relay_node.proofs.ReplyLemmas.{told_by_list}
use Rattle.relay_report.specs.Report.{Reporter, reporter_of}

-- changes that fit after others that do
fit_after : (queue : Queue) (changes pending : List Change) → FitsFrom queue changes
    → FitsFrom (fold step queue changes) pending → FitsFrom queue (changes ++ pending)
fit_after queue [] pending first second = second
fit_after queue (one ∷ changes) pending first second =
    (first.0, fit_after (step queue one) changes pending first.1 second)

-- the list of records that await changes fits, with these
pub awaited_fit : {D : Type 0} (honest : Type 0) (words : DiskWords D) (records : Kept D) (changes pending : List Change)
    (row : Row) → Awaits honest words records changes pending row → Fitting (changes ++ pending)
awaited_fit honest words records changes pending row awaits =
    fit_after empty_queue changes pending awaits.fitting awaits.fits

-- what a reply has done by the queue it has done by the list
module _ {D : Type 0} (honest : Type 0) (words : DiskWords D) (reporter : Reporter) (now : ℕ) (changes pending : List Change)
    (number : ℕ) (told : Told) (row : Row) (piece : List ℕ) (old new : NodeState D) (left : Row)
    (awaits : Awaits honest words old.records changes pending row) where
  by_change : (replied : Replied) (change : Option ℕ)
      → RepliesAfter honest words reporter changes pending row now number told piece old.records new.records left
      new.attempts replied change
      → RepliesInto honest words reporter now changes pending number told row piece old new left replied change
  by_change replied None r = record {
    used = r.used;
    same = r.same;
    row_is = r.row_is;
    tells =
        told_by_list reporter.host (changes ++ pending) new.records.queue
        (awaited_fit honest words old.records changes pending row awaits)
        (ap (λ (k : Kept D). k.queue) r.same ∙ awaits.queue) new.attempts number
        (told_more told (take replied.used piece) replied.out.items) r.tells;
  }
  by_change replied (Some change) r = r

  pub replies_into : (result : Result Replied NodeFault)
      → IfOk result (λ replied. RepliesAfter honest words reporter changes pending row now number told piece old.records
      new.records left new.attempts replied replied.change)
      → IfOk result (λ replied. RepliesInto honest words reporter now changes pending number told row piece old new left
      replied replied.change)
  replies_into (Ok replied) r = by_change replied replied.change r
  replies_into (Err fault) r = tt

-- what a reply has made of records and row
module _ {D : Type 0} (now number : ℕ) (old new : NodeState D) (row left : Row) (used : ℕ) where
  abbrev Made : Option ℕ → Type 0
  Made change =
      MakesAfter (reporter_of old.config) now number old.attempts new.attempts used old.records new.records row left change

  gone_by : (change : Option ℕ) → Made change → change ≢ None → slot_at new.attempts number ≡ None
  gone_by None made some = absurd (some refl)
  gone_by (Some change) made some = made.gone

  spool_by : (change : Option ℕ) → Made change → new.records.spool ≡ old.records.spool
  spool_by None made = ap (λ (k : Kept D). k.spool) made.1
  spool_by (Some change) made = made.grows.stages.spool

  noted_by : (change : Option ℕ) → Made change → new.records.noted ≡ old.records.noted
  noted_by None made = ap (λ (k : Kept D). k.noted) made.1
  noted_by (Some change) made = made.grows.stages.noted

  room_by : (change : Option ℕ) → Made change
      → (left ≡ row) ⊎ (new.records.spool.size + room_of left.bodies ≤ 2 ^ 40)
  room_by None made = inl made.2
  room_by (Some change) made = inr made.grows.stages.room

-- what was used, whatever is told
pub uses_into : {D : Type 0} (now number len : ℕ) (old new : NodeState D) (row left : Row)
    (result : Result Replied NodeFault)
    → IfOk result (HasHeardAfter (reporter_of old.config) now number len old.attempts new.attempts old.records new.records row
    left)
    → IfOk result (UsesReplyInto now number len old new row left)
uses_into now number len old new row left (Err fault) heard = tt
uses_into now number len old new row left (Ok replied) heard = record {
  within = heard.within;
  whole = heard.whole;
  gone = gone_by now number old new row left replied.used replied.change heard.makes;
  makes = heard.makes;
  spool = spool_by now number old new row left replied.used replied.change heard.makes;
  noted = noted_by now number old new row left replied.used replied.change heard.makes;
  room = room_by now number old new row left replied.used replied.change heard.makes;
}

-- a fault of a live node
module _ {D : Type 0} (number : ℕ) (before after : AttemptTable) (old new : NodeState D) (row left : Row)
    (was : old.attempts ≡ before.runs) (is : new.attempts ≡ after.runs) (config : new.config ≡ old.config)
    (seats : new.seats ≡ old.seats) where
  -- what is left after it
  refuses : (fault : NodeFault) → RefusesToHearAfter number before after old.records new.records row left fault
      → RefusesToReplyInto number old new row left fault
  refuses NoMemory r = record {
    attempt = ap (λ (l : List (Option Run)). slot_at l number) is ∙ r.1;
    records = r.2;
    row_is = r.3;
  }
  refuses Stopped r = absurd r
  refuses Unknown r = (same_node (is ∙ ap (λ (s : AttemptTable). s.runs) r.1 ∙ sym was) r.2, r.3)
    where
      parts : Config → List (Option Seat) → List (Option Run) → Kept D → NodeState D
      parts config seats attempts records =
          record { config = config; seats = seats; attempts = attempts; records = records }

      same_node : new.attempts ≡ old.attempts → new.records ≡ old.records → new ≡ old
      same_node attempts records =
          ap (λ (c : Config). parts c new.seats new.attempts new.records) config
          ∙ ap (λ (s : List (Option Seat)). parts old.config s new.attempts new.records) seats
          ∙ ap (λ (a : List (Option Run)). parts old.config old.seats a new.records) attempts
          ∙ ap (λ (r : Kept D). parts old.config old.seats old.attempts r) records
  refuses TooMany r = absurd r
  refuses NotDue r = absurd r
  refuses Busy r = absurd r
  refuses NoSecond r = absurd r
  refuses (Open cause) r = absurd r
  refuses Full r = record {
    attempt = ap (λ (l : List (Option Run)). slot_at l number) is ∙ r.1;
    records = r.2;
    row_is = r.3;
  }

  pub refuses_reply_into : {T : Type 0} (result : Result T NodeFault)
      → IfErr result (RefusesToHearAfter number before after old.records new.records row left)
      → IfErr result (RefusesToReplyInto number old new row left)
  refuses_reply_into (Ok value) r = tt
  refuses_reply_into (Err fault) r = refuses fault r

-- an attempt that isn't there is unknown, and only such a one; the row stays at each fault
module _ {D : Type 0} (number : ℕ) (before after : AttemptTable) (old new : Kept D) (row left : Row) where
  none_else : (fault : NodeFault) → RefusesToHearAfter number before after old new row left fault
      → slot_at before.runs number ≡ None → fault ≡ Unknown
  none_else NoMemory r none = absurd (r.0 none)
  none_else Stopped r none = absurd r
  none_else Unknown r none = refl
  none_else TooMany r none = absurd r
  none_else NotDue r none = absurd r
  none_else Busy r none = absurd r
  none_else NoSecond r none = absurd r
  none_else (Open cause) r none = absurd r
  none_else Full r none = absurd (r.0 none)

  row_by : (fault : NodeFault) → RefusesToHearAfter number before after old new row left fault → left ≡ row
  row_by NoMemory r = r.3
  row_by Stopped r = absurd r
  row_by Unknown r = r.3
  row_by TooMany r = absurd r
  row_by NotDue r = absurd r
  row_by Busy r = absurd r
  row_by NoSecond r = absurd r
  row_by (Open cause) r = absurd r
  row_by Full r = r.3

  pub row_stays : {T : Type 0} (result : Result T NodeFault)
      → IfErr result (RefusesToHearAfter number before after old new row left) → OnErr result (left ≡ row)
  row_stays (Ok value) r = tt
  row_stays (Err fault) r = row_by fault r

  pub unknown_into : {T : Type 0} (result : Result T NodeFault)
      → IfErr result (RefusesToHearAfter number before after old new row left) → result ≡ Err Unknown
      → slot_at before.runs number ≡ None
  unknown_into (Ok value) r e = absurd (cc)
  unknown_into {T = T} (Err fault) r e =
      let is : fault ≡ Unknown = cc in
      (subst (RefusesToHearAfter number before after old new row left) is r).0

  pub into_unknown : {T : Type 0} (result : Result T NodeFault) → OnOk result (slot_at before.runs number ≢ None)
      → IfErr result (RefusesToHearAfter number before after old new row left) → slot_at before.runs number ≡ None
      → result ≡ Err Unknown
  into_unknown (Ok value) there r none = absurd (there none)
  into_unknown (Err fault) there r none = ap Err (none_else fault r none)

-- where it was heard, it was there
pub heard_after_there : {D : Type 0} (reporter : Reporter) (now number len : ℕ) (before after : List (Option Run))
    (old new : Kept D) (row left : Row) (result : Result Replied NodeFault)
    → IfOk result (HasHeardAfter reporter now number len before after old new row left)
    → OnOk result (slot_at before number ≢ None)
heard_after_there reporter now number len before after old new row left (Err fault) heard = tt
heard_after_there {D = D} reporter now number len before after old new row left (Ok replied) heard =
    by replied.change heard.makes
  where
    some_there : (run : Run) → slot_at before number ≡ Some run → slot_at before number ≢ None
    some_there run is none = absurd (cc)

    by : (change : Option ℕ)
        → MakesAfter reporter now number before after replied.used old new row left change
        → slot_at before number ≢ None
    by None made = made.0
    by (Some change) made = some_there made.run made.was
