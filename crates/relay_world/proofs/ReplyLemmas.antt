-- A world stays bound where a call has read replies to an attempt, whatever brings its outcome into the records.
use Rattle.std.proofs.Common.{◌≡◌, ◌≤◌, ◌+◌, ℕ, false, List, ◌∷◌, [], ◌++◌, length, take, Option, None, Some, refl, sym, subst, ap, ◌∙◌}
use Rattle.std.specs.Prelude.{slice_get}
use Rattle.std.specs.List.{AllByRecursion}
use Rattle.relay_octets.specs.Beginning.{Begins}
use Rattle.relay_disk.specs.Device.{DiskWords}
use Rattle.relay_slots.specs.Slots.{OthersStay}
use Rattle.relay_book.specs.declared.change.Change.{Change}
use Rattle.relay_book.specs.declared.change.Outcome.{Outcome}
use Rattle.relay_book.specs.declared.change.Verdict.{Verdict}
use Rattle.relay_records.specs.declared.noted.Noted.{Noted}
use Rattle.relay_records.specs.Records.{Keeps}
use Rattle.relay_routes.specs.declared.config.Config.{Config}
use Rattle.relay_course.specs.Course.{IsCourse}
use Rattle.relay_client.proofs.Theorems.{followed_is_course}
use Rattle.relay_attempts.specs.declared.reply.Replied.{Replied}
use Rattle.relay_attempts.specs.AddedOutcome.{reported_as}
use Rattle.relay_attempts.specs.Reply.{IsItsCourse, Told, outcome_at, told_more}
use Rattle.relay_node.specs.Attempts.{Tells}
use Rattle.relay_node.specs.Node.{NodeState}
use Rattle.relay_world.specs.declared.attempt.Fate.TheVariants.{Replied as RepliedBy}
use Rattle.relay_world.specs.Bound.{HasFate, IsBound, PassesOn, link_of, told_by}
use Rattle.relay_world.specs.Ledger.{accepts_on, steps_in}
use Rattle.relay_world.specs.Steps.{AttemptOf, IsPut, IsPutAt, read_link, unless_broken, waiting_down}
use Rattle.relay_world.specs.World.{Up, World}
use Rattle.relay_world.proofs.FateLemmas.{replied_ends}
use Rattle.relay_world.proofs.PieceLemmas.{begins_more, few_within, read_more, read_within, with_at, written_broken, written_whole}
use Rattle.relay_world.proofs.AttemptLemmas.{KnowsAttempt, still_tells}
use Rattle.relay_world.proofs.AttemptMoveLemmas.{attempt_moved}
use Rattle.relay_world.proofs.MoveLemmas.{same_attempts}
use Rattle.relay_world.proofs.OutcomeLemmas.{Ending, GoesOnAs, found_here, message_now, recorded}
use Rattle.relay_world.proofs.RecordLemmas.{HasTakenOutcome, TakesOutcome, outcome_of_host}
use Rattle.relay_world.proofs.OpenLemmas.{lines_within}
use Rattle.relay_report.specs.Report.{reporter_of}

module _ {D : Type 0} (honest : Type 0) (words : DiskWords D) (old : World D) (lists : List (List Change)) (number : ℕ)
    (bound : IsBound honest words old lists) (of : AttemptOf old number)
    (knows : KnowsAttempt honest words old lists number of) where
  abbrev pub told_was : Told
  told_was = told_by of.attempt knows.was.accept (take of.link.down_read of.link.down) knows.was.output

  its_host : of.before.config.host ≡ of.host.config.host
  its_host = ap (λ (c : Config). c.host) knows.its_node.config_is

  -- what is told of it, by the host that its node goes by
  pub tells_was : Tells of.before.config.host knows.changes of.before.attempts of.slot told_was
  tells_was = subst (λ h. Tells h knows.changes of.before.attempts of.slot told_was) (sym its_host) knows.tells

  -- A call has read replies on the link, of the octets that wait as many as were carried, and has made the node so.
  pub record Reading (new : World D) (count : ℕ) (after : NodeState D) (replied : Replied) : Type 0 where
    pub used : replied.used ≤ length (waiting_down count of.link)
    pub others : OthersStay of.before.attempts after.attempts of.slot
    pub config : after.config ≡ of.before.config
    pub seats : after.seats ≡ of.before.seats
    pub links : IsPutAt old.links new.links number (read_link of.link replied)
    pub rest : (new.clock ≡ old.clock) × (length new.hosts ≡ length old.hosts)

  module _ (new : World D) (count : ℕ) (after : NodeState D) (replied : Replied)
      (reading : Reading new count after replied) where
    -- what is told of it after that
    abbrev pub told_now : Told
    told_now = told_more told_was (take replied.used (waiting_down count of.link)) replied.out.items

    abbrev out_now : List ℕ
    out_now = unless_broken of.link replied.out.items

    written : of.link.broken ≡ false → of.link.up ++ out_now ≡ knows.was.output ++ replied.out.items
    written whole =
        ap (λ l. of.link.up ++ l) (written_whole of.link replied.out.items whole)
        ∙ ap (λ l. l ++ replied.out.items) (knows.was.whole whole)

    wrote : Begins (of.link.up ++ out_now) (knows.was.output ++ replied.out.items)
    wrote = begins_more of.link.broken of.link.up knows.was.output replied.out.items knows.was.wrote knows.was.whole

    input_now : take (of.link.down_read + replied.used) of.link.down
        ≡ take of.link.down_read of.link.down ++ take replied.used (waiting_down count of.link)
    input_now = read_more of.link.down_read replied.used count of.link.down reading.used

    goes_on : GoesOnAs of.link (read_link of.link replied) out_now
    goes_on = record {
      client = refl;
      server = refl;
      up = refl;
      silent = written_broken of.link replied.out.items;
      up_read = refl;
      down = refl;
      broken = refl;
      reads = record {
        up = few_within of.link.up_read of.link.up out_now (bound.reads number of.link of.link_is).up;
        down = read_within of.link.down_read replied.used count of.link.down
            (bound.reads number of.link of.link_is).down reading.used;
      };
    }

    -- what the attempt has read and written now, by a course of its host
    course_at : (host : List ℕ) → host ≡ of.host.config.host → (verdicts : Option (List Verdict))
        → IsCourse host knows.was.accept.envelope knows.was.accept.stored_text of.attempt.places.items told_now.input
        false told_now.output verdicts
        → IsCourse of.host.config.host knows.was.accept.envelope knows.was.accept.stored_text of.attempt.places.items
        (take (of.link.down_read + replied.used) of.link.down) false told_now.output verdicts
    course_at host same verdicts course =
        subst (λ l. IsCourse of.host.config.host knows.was.accept.envelope knows.was.accept.stored_text
        of.attempt.places.items l false told_now.output verdicts) (sym input_now)
        (subst (λ h. IsCourse h knows.was.accept.envelope knows.was.accept.stored_text of.attempt.places.items
        told_now.input false told_now.output verdicts) same course)

    -- nothing was recorded
    pub read_nothing : after.records ≡ of.before.records
        → Tells of.before.config.host knows.changes after.attempts of.slot told_now
        → IsPut old.hosts new.hosts of.attempt.node (record of.host { state = Up after })
        × (new.ledger ≡ old.ledger) × (new.attempts ≡ old.attempts)
        → IsBound honest words new lists
    read_nothing same tells puts =
        attempt_moved honest words old new lists lists number bound of knows (read_link of.link replied) out_now after
        of.host.records knows.changes of.attempt.fate (record {
          client = refl;
          server = refl;
          up = refl;
          silent = goes_on.silent;
          up_read = refl;
          down = refl;
          broken = refl;
          reads = goes_on.reads;
          links = reading.links;
          attempts = record {
            at = same_attempts old.attempts new.attempts puts.2 of.place of.attempt of.attempt_at;
            others = λ other off. ap (λ l. slice_get l other) puts.2;
          };
          runs = λ slot is. is;
          hosts = puts.0;
          list = record { at = knows.list_at; others = λ other off. refl };
          even = bound.even ∙ sym reading.rest.1;
          stay = λ k c is. is;
          messages = λ k a is. is;
          keeps = record {
            list = knows.kept.list;
            holds = record {
              config_is = reading.config ∙ knows.its_node.config_is;
              keeps = subst (λ r. Keeps honest words r knows.changes) (sym same) knows.its_node.keeps;
            };
            reports = knows.kept.reports;
          };
          seats = reading.seats;
          tells = λ slot told off is.
              still_tells of.host.config.host knows.changes of.before.attempts after.attempts slot told
              (reading.others slot off) is;
          accepts = λ other. ap (λ l. accepts_on other l) puts.1;
          steps = ap (λ l. steps_in of.attempt.node l) puts.1
              ∙ bound.ledger of.attempt.node knows.changes knows.list_at;
          other_steps = λ other off. ap (λ l. steps_in other l) puts.1;
          lines = subst (λ l. AllByRecursion (λ line. link_of line ≤ length new.links) l) (sym puts.1)
              (lines_within (length old.links) (length new.links) old.ledger reading.links.grows bound.lines);
          passes = passes;
        })
      where
        tells_now : Tells of.host.config.host knows.changes after.attempts of.slot told_now
        tells_now = subst (λ h. Tells h knows.changes after.attempts of.slot told_now) its_host tells

        passes : PassesOn (record of.host { state = Up after }) knows.changes (read_link of.link replied) of.attempt
        passes = record {
          accept = knows.was.accept;
          accepted = knows.was.accepted;
          valid = knows.was.valid;
          some = knows.was.some;
          few = knows.was.few;
          within = knows.was.within;
          told = false;
          output = told_now.output;
          verdicts = None;
          course = course_at of.host.config.host refl None
              (followed_is_course tells_now.run.client of.host.config.host knows.was.accept.stored_text
              of.attempt.places.items told_now.input told_now.output knows.was.accept.envelope tells_now.follows);
          wrote = wrote;
          whole = written;
          fate = subst (λ f. HasFate (record of.host { state = Up after }) knows.changes (read_link of.link replied)
              of.attempt knows.was.accept told_now.output false None f) (sym of.runs) (
                refl,
                refl,
                (
                  after,
                  refl,
                  subst (λ l. Tells of.host.config.host knows.changes after.attempts of.slot
                      (told_by of.attempt knows.was.accept l told_now.output)) (sym input_now) tells_now,
                ),
              );
        }

    -- The attempt has ended: the outcome of these verdicts, at this moment, was recorded as the change of this number.
    module _ (at change_now : ℕ) (noted : Noted) (verdicts : List Verdict)
        (course : IsItsCourse of.before.config.host told_now false verdicts)
        (takes_by : TakesOutcome honest words (reporter_of of.before.config) knows.changes (outcome_at at told_was verdicts)
        after.records change_now noted)
        (taken : HasTakenOutcome old new number of after (RepliedBy change_now) change_now noted) where
      abbrev outcome : Outcome
      outcome = outcome_at at told_was verdicts

      abbrev takes : TakesOutcome honest words (reporter_of of.host.config) knows.changes outcome after.records change_now noted
      takes = outcome_of_host honest words (reporter_of of.before.config) (reporter_of of.host.config) knows.changes outcome after.records
          change_now noted (ap (λ (c : Config). reporter_of c) knows.its_node.config_is) takes_by

      abbrev ending : Ending honest words old new lists number bound of knows (read_link of.link replied) out_now after
          outcome change_now (RepliedBy change_now) noted
      ending = record {
        goes_on = goes_on;
        links = reading.links;
        others = reading.others;
        config = reading.config;
        seats = reading.seats;
        count = reading.rest.1;
        message = refl;
        ends = replied_ends change_now;
        takes = takes;
        taken = taken;
      }

      abbrev pub grown : List Change
      grown = knows.changes ++ reported_as outcome takes_by.report ∷ []

      pub read_outcome : IsBound honest words new (with_at lists of.attempt.node grown)
      read_outcome =
          recorded honest words old new lists number bound of knows (read_link of.link replied) out_now after outcome
          change_now (RepliedBy change_now) noted ending (record {
            accept = knows.was.accept;
            accepted = message_now honest words old new lists number bound of knows (read_link of.link replied) out_now
                after outcome change_now (RepliedBy change_now) noted ending knows.was.accept knows.was.accepted;
            valid = knows.was.valid;
            some = knows.was.some;
            few = knows.was.few;
            within = knows.was.within;
            told = false;
            output = told_now.output;
            verdicts = Some verdicts;
            course = course_at of.before.config.host its_host (Some verdicts) course;
            wrote = wrote;
            whole = written;
            fate = (
              refl,
              (
                verdicts,
                refl,
                record {
                  at = at;
                  report = takes_by.report;
                  found = found_here honest words old new lists number bound of knows (read_link of.link replied)
                      out_now after outcome change_now (RepliedBy change_now) noted ending;
                },
              ),
            );
          })
