-- An outcome with the report that is due of it fits the queue.
use Rattle.std.proofs.Common.{◌≡◌, ◌↔◌, ◌⊎◌, inl, inr, ℕ, ◌+◌, ◌<◌, ◌≤◌, ◌^◌, ◌||◌, Bool, true, false, List, [], ◌∷◌, length, is_some, Some, Option, MatchOption, Result, Ok, Err, IfErr, refl, sym, ap, ◌∙◌, subst, arith}
use Rattle.relay_trace.specs.declared.moment.TheConstants.{LAST_SECOND}
use Rattle.relay_envelope.specs.HostName.{IsHostName}
use Rattle.std.specs.List.{list_any}
use Rattle.relay_book.specs.declared.version.Version.{Version}
use Rattle.relay_book.specs.declared.version.Version.TheVariants.{WithDelay}
use Rattle.relay_book.specs.declared.due_report.DueReport.{DueReport}
use Rattle.relay_book.specs.declared.change.Outcome.{Outcome}
use Rattle.relay_book.specs.declared.change.Ruling.{Ruling}
use Rattle.relay_book.specs.declared.message.Message.{Message}
use Rattle.relay_book.specs.DueReport.{reports_delay}
use Rattle.relay_book.specs.Queue.{Queue, FitsMessage, due_report_at, message_of, reports_at}
use Rattle.relay_book.specs.Snapshot.{IsQueue}
use Rattle.relay_book.proofs.Theorems.{found_is_queued, later_report_alike}
use Rattle.relay_disk.specs.Device.{DiskWords}
use Rattle.relay_book.specs.declared.change.Change.{Change}
use Rattle.relay_book.specs.Record.{encode}
use Rattle.relay_records.specs.declared.fault.NodeFault.{NodeFault}
use Rattle.relay_records.specs.declared.fault.NodeFault.TheVariants.{NoMemory, Stopped, Unknown, TooMany, NotDue, Busy, Open, Full, NoSecond}
use Rattle.relay_records.specs.Records.{Kept, RefusesToAdd}
use Rattle.relay_routes.specs.declared.report_form.ReportForm.{ReportForm}
use Rattle.relay_report.specs.Report.{IsDueReport, IsReportedOf, ReportedFrom, Reporter, is_due, told_by}
use Rattle.relay_report.proofs.Theorems.{due_report_fits}
use Rattle.relay_attempts.specs.AddedOutcome.{HasNoRoom, NoNumber, TooLarge, IsReported, MayCome, RefusesOutcome, RulesOn, reported_as}

-- a report that tells of equal values
pub due_as : (form : ReportForm) (host : List ℕ) (number same_number : ℕ) (message : Message) (hop same_hop : List ℕ) (rulings same_rulings : List Ruling)
    (at : ℕ) (text : List ℕ) → number ≡ same_number → hop ≡ same_hop → rulings ≡ same_rulings
    → IsDueReport (record { form = form; host = host; number = number; message = message; hop = hop; rulings = rulings; at = at }) text
    → IsDueReport (record { form = form; host = host; number = same_number; message = message; hop = same_hop; rulings = same_rulings; at = at }) text
due_as form host number same_number message hop same_hop rulings same_rulings at text n h r due =
    subst (λ (l : List Ruling). IsDueReport (record { form = form; host = host; number = same_number; message = message; hop = same_hop; rulings = l; at = at }) text) r
    (subst (λ (l : List ℕ). IsDueReport (record { form = form; host = host; number = same_number; message = message; hop = l; rulings = rulings; at = at }) text) h
    (subst (λ (l : ℕ). IsDueReport (record { form = form; host = host; number = l; message = message; hop = hop; rulings = rulings; at = at }) text) n due))

-- outcomes of later versions than the first report alike
alike_reports : (version : Version) (message : Message) (at : ℕ) (rulings : List Ruling) → reports_delay version ≡ true
    → list_any (reports_at version message at) rulings ≡ is_due message at rulings
alike_reports version message at [] later = refl
alike_reports version message at (ruling ∷ rulings) later =
    ap (λ (o : Option DueReport). is_some o || list_any (reports_at version message at) rulings)
    (later_report_alike version later message at ruling)
    ∙ ap (λ (b : Bool). is_some (due_report_at WithDelay message at ruling) || b) (alike_reports version message at rulings later)

pub is_reported : (reporter : Reporter) (queue : Queue) (outcome : Outcome) (message : Message) (text : List ℕ)
    → queue.next ≤ 2 ^ 62 → IsHostName reporter.host → outcome.at ≤ LAST_SECOND → MayCome queue outcome → IsQueue queue
    → message_of queue.messages outcome.message ≡ Some message → IsDueReport (told_by reporter queue.next outcome message) text
    → IsReported reporter queue outcome (reported_as outcome text)
is_reported reporter queue outcome message text next is_host moment comes valid found due =
    let queued = found_is_queued queue outcome.message message valid found in
    let rules : RulesOn outcome message = subst (λ (o : Option Message). MatchOption o ⊥ (RulesOn outcome)) found comes.message in
    let fit = due_report_fits (told_by reporter queue.next outcome message) text (record {
      host = is_host;
      number = omega (arith, next);
      message = subst (λ (n : ℕ). n < 2 ^ 64) (sym queued.number_is) comes.number;
      accept = queued.accept;
      hop = comes.hop;
      at = moment;
      within = comes.within;
      rulings = comes.rulings;
    }) due in
    record {
      report = text;
      change_is = refl;
      reported = subst (λ (o : Option Message). MatchOption o ⊥ (IsReportedOf reporter queue.next (record outcome { report = text }))) (sym found)
          (record { version = comes.version; report = due });
      fits = (
        next,
        subst (λ (o : Option Message). MatchOption o ⊥ (λ message. FitsMessage message (record outcome { report = text }))) (sym found)
            (record {
              rulings = rules.rulings;
              hop = rules.hop;
              report =
                  subst (λ (b : Bool). (text ≡ []) ↔ (b ≡ false))
                  (sym (alike_reports outcome.version message outcome.at outcome.rulings comes.version)) fit.0;
            }),
        record {
          message = comes.number;
          moment = moment;
          hop = comes.hop;
          some = comes.some;
          within = comes.within;
          rulings = comes.rulings;
          version = comes.verdicts;
          report = fit.1;
        },
      );
    }

-- there is no room for the outcome where there is none for its record
no_room : {D : Type 0} (reporter : Reporter) (outcome : Outcome) (change : Change) (octets : List ℕ) (old : Kept D)
    → IsReported reporter old.queue outcome change → octets ≡ encode change
    → (2 ^ 62 < old.queue.next) ⊎ (2 ^ 40 < old.spool.size + 5 + length octets) → HasNoRoom reporter outcome old
no_room reporter outcome change octets old is octets_are (inl many) = NoNumber many
no_room reporter outcome change octets old is octets_are (inr large) =
    TooLarge is.report (subst (ReportedFrom reporter old.queue) is.change_is is.reported)
    (subst (λ (text : List ℕ). 2 ^ 40 < old.spool.size + 5 + length text) (octets_are ∙ ap encode is.change_is) large)

-- what is left where a change isn't added is left where the outcome isn't
pub refused_outcome : {D : Type 0} (words : DiskWords D) (reporter : Reporter) (outcome : Outcome) (change : Change) (octets : List ℕ)
    (old new : Kept D) (result : Result ℕ NodeFault) → IsReported reporter old.queue outcome change → octets ≡ encode change
    → (result ≡ Err Full) ↔ ((2 ^ 62 < old.queue.next) ⊎ (2 ^ 40 < old.spool.size + 5 + length octets))
    → IfErr result (RefusesToAdd words old new) → IfErr result (RefusesOutcome words reporter outcome old new)
refused_outcome words reporter outcome change octets old new (Ok number) is octets_are full refused = tt
refused_outcome words reporter outcome change octets old new (Err NoMemory) is octets_are full refused = refused
refused_outcome words reporter outcome change octets old new (Err Stopped) is octets_are full refused = refused
refused_outcome words reporter outcome change octets old new (Err Unknown) is octets_are full refused = refused
refused_outcome words reporter outcome change octets old new (Err TooMany) is octets_are full refused = refused
refused_outcome words reporter outcome change octets old new (Err NotDue) is octets_are full refused = refused
refused_outcome words reporter outcome change octets old new (Err Busy) is octets_are full refused = refused
refused_outcome words reporter outcome change octets old new (Err (Open cause)) is octets_are full refused = refused
refused_outcome words reporter outcome change octets old new (Err NoSecond) is octets_are full refused = refused
refused_outcome words reporter outcome change octets old new (Err Full) is octets_are full refused =
    (refused, no_room reporter outcome change octets old is octets_are (full.0 refl))
