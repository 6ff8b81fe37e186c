-- The loss of a link, and an attempt that is dropped, keep a world bound.
use Rattle.std.proofs.Common.{◌≡◌, ◌≤◌, ℕ, true, false, List, [], length, take, None, Some, refl, sym, subst, ap, ◌∙◌, arith}
use Rattle.std.specs.List.{AllByRecursion}
use Rattle.std.proofs.lemmas.List.{append-nil}
use Rattle.relay_disk.specs.Device.{DiskWords}
use Rattle.relay_book.specs.declared.change.Outcome.{Outcome}
use Rattle.relay_records.specs.Records.{Keeps}
use Rattle.relay_routes.specs.declared.config.Config.{Config}
use Rattle.relay_attempts.specs.Reply.{IsLost}
use Rattle.relay_course.specs.VerdictTable.{all_later}
use Rattle.relay_course.specs.Course.{IsCourse}
use Rattle.relay_client.proofs.Theorems.{followed_is_course}
use Rattle.relay_attempts.specs.Reply.{Told, outcome_at}
use Rattle.relay_node.specs.Attempts.{Tells}
use Rattle.relay_world.specs.declared.attempt.Fate.TheVariants.{Lost, Dropped}
use Rattle.relay_world.specs.declared.link.Link.{Link}
use Rattle.relay_world.specs.Bound.{ReadsWithin, link_of, told_by}
use Rattle.relay_world.specs.Ledger.{accepts_on, steps_in}
use Rattle.relay_world.specs.Steps.{AttemptOf, DroppingKeeps, LosingKeeps, IsPutAt, without_note}
use Rattle.relay_world.specs.World.{link_at}
use Rattle.relay_world.proofs.AttemptLemmas.{KnowsAttempt, known, still_tells}
use Rattle.relay_world.proofs.AttemptMoveLemmas.{attempt_moved}
use Rattle.relay_world.proofs.FateLemmas.{dropped_ends, lost_ends}
use Rattle.relay_world.proofs.OutcomeLemmas.{Ending, GoesOnAs, found_here, message_now, recorded}
use Rattle.relay_world.proofs.RecordLemmas.{TakesOutcome, outcome_added, outcome_of_host, outcome_taken}
use Rattle.relay_world.proofs.OpenLemmas.{lines_within}
use Rattle.relay_report.specs.Report.{reporter_of}

-- a link that is the same
same_put : (old new : List Link) (number : ℕ) (link : Link) → new ≡ old → link_at old number ≡ Some link
    → IsPutAt old new number link
same_put old new number link same is = record {
  at = ap (λ l. link_at l number) same ∙ is;
  others = λ other off. ap (λ l. link_at l other) same;
  grows = subst (λ l. length old ≤ length l) (sym same) (omega arith);
}

-- a link that goes on as it was
same_link : (link : Link) → ReadsWithin link → GoesOnAs link link []
same_link link reads = record {
  client = refl;
  server = refl;
  up = sym (append-nil link.up);
  silent = λ broken. refl;
  up_read = refl;
  down = refl;
  broken = refl;
  reads = reads;
}

pub losing_keeps : {D : Type 0} (honest : Type 0) (words : DiskWords D) → LosingKeeps honest words
losing_keeps {D} honest words old new lists number change_now bound lost = (
  _,
  recorded honest words old new lists number bound of knows of.link [] (without_note lost.after) outcome change_now
      (Lost change_now) lost.records.noted ending (record {
        accept = knows.was.accept;
        accepted = message_now honest words old new lists number bound of knows of.link [] (without_note lost.after)
            outcome change_now (Lost change_now) lost.records.noted ending knows.was.accept knows.was.accepted;
        valid = knows.was.valid;
        some = knows.was.some;
        few = knows.was.few;
        within = knows.was.within;
        told = true;
        output = knows.was.output;
        verdicts = Some (all_later of.attempt.places.items);
        course = subst (λ h. IsCourse h knows.was.accept.envelope knows.was.accept.stored_text of.attempt.places.items
            (take of.link.down_read of.link.down) true knows.was.output (Some (all_later of.attempt.places.items)))
            its_host ended.course;
        wrote = knows.was.wrote;
        whole = knows.was.whole;
        fate = (
          refl,
          (
            all_later of.attempt.places.items,
            refl,
            record {
              at = old.clock;
              report = ending.takes.report;
              found = found_here honest words old new lists number bound of knows of.link [] (without_note lost.after)
                  outcome change_now (Lost change_now) lost.records.noted ending;
            },
          ),
        );
      }),
)
  where
    of : AttemptOf old number
    of = lost.of

    knows : KnowsAttempt honest words old lists number of
    knows = known honest words old lists number bound of

    told_was : Told
    told_was = told_by of.attempt knows.was.accept (take of.link.down_read of.link.down) knows.was.output

    outcome : Outcome
    outcome = outcome_at old.clock told_was (all_later of.attempt.places.items)

    its_host : of.before.config.host ≡ of.host.config.host
    its_host = ap (λ (c : Config). c.host) knows.its_node.config_is

    ended : IsLost honest words (reporter_of of.before.config) old.clock knows.changes of.slot told_was of.before.records
        lost.after.records lost.after.attempts change_now
    ended = lost.loses knows.changes told_was knows.its_node.keeps
        (subst (λ h. Tells h knows.changes of.before.attempts of.slot told_was) (sym its_host) knows.tells)

    takes : TakesOutcome honest words (reporter_of of.host.config) knows.changes outcome (without_note lost.after).records
        change_now lost.records.noted
    takes = outcome_of_host honest words (reporter_of of.before.config) (reporter_of of.host.config) knows.changes outcome
        (without_note lost.after).records change_now lost.records.noted (ap (λ (c : Config). reporter_of c) knows.its_node.config_is)
        (outcome_added honest words (reporter_of of.before.config) knows.changes outcome 0 change_now lost.after
        lost.records.noted lost.records.note_is ended.adds)

    ending : Ending honest words old new lists number bound of knows of.link [] (without_note lost.after) outcome
        change_now (Lost change_now) lost.records.noted
    ending = record {
      goes_on = same_link of.link (bound.reads number of.link of.link_is);
      links = same_put old.links new.links number of.link lost.links of.link_is;
      others = lost.others;
      config = lost.config;
      seats = lost.seats;
      count = lost.rest.1;
      message = refl;
      ends = lost_ends change_now;
      takes = takes;
      taken = outcome_taken old new number of lost.after (Lost change_now) change_now lost.records;
    }

pub dropping_keeps : {D : Type 0} (honest : Type 0) (words : DiskWords D) → DroppingKeeps honest words
dropping_keeps {D} honest words old new lists number bound drops =
    attempt_moved honest words old new lists lists number bound of knows of.link [] drops.after of.host.records
    knows.changes Dropped
    (record {
      client = refl;
      server = refl;
      up = goes_on.up;
      silent = goes_on.silent;
      up_read = refl;
      down = refl;
      broken = refl;
      reads = goes_on.reads;
      links = links;
      attempts = drops.attempts;
      runs = λ slot is. absurd (dropped_ends slot is);
      hosts = drops.hosts;
      list = record { at = knows.list_at; others = λ other off. refl };
      even = bound.even ∙ sym drops.rest.1;
      stay = λ k c is. is;
      messages = λ k a is. is;
      keeps = record {
        list = knows.kept.list;
        holds = record {
          config_is = drops.config ∙ knows.its_node.config_is;
          keeps = subst (λ r. Keeps honest words r knows.changes) (sym drops.records) knows.its_node.keeps;
        };
        reports = knows.kept.reports;
      };
      seats = drops.seats;
      tells = λ slot told off is.
          still_tells of.host.config.host knows.changes of.before.attempts drops.after.attempts slot told
          (drops.others slot off) is;
      accepts = λ other. ap (λ l. accepts_on other l) drops.ledger;
      steps = ap (λ l. steps_in of.attempt.node l) drops.ledger
          ∙ bound.ledger of.attempt.node knows.changes knows.list_at;
      other_steps = λ other off. ap (λ l. steps_in other l) drops.ledger;
      lines = subst (λ l. AllByRecursion (λ line. link_of line ≤ length new.links) l) (sym drops.ledger)
          (lines_within (length old.links) (length new.links) old.ledger links.grows bound.lines);
      passes = record {
        accept = knows.was.accept;
        accepted = knows.was.accepted;
        valid = knows.was.valid;
        some = knows.was.some;
        few = knows.was.few;
        within = knows.was.within;
        told = false;
        output = knows.was.output;
        verdicts = None;
        course = followed_is_course knows.tells.run.client of.host.config.host knows.was.accept.stored_text
            of.attempt.places.items (take of.link.down_read of.link.down) knows.was.output knows.was.accept.envelope
            knows.tells.follows;
        wrote = knows.was.wrote;
        whole = knows.was.whole;
        fate = (refl, refl);
      };
    })
  where
    of : AttemptOf old number
    of = drops.of

    knows : KnowsAttempt honest words old lists number of
    knows = known honest words old lists number bound of

    links : IsPutAt old.links new.links number of.link
    links = same_put old.links new.links number of.link drops.links of.link_is

    goes_on : GoesOnAs of.link of.link []
    goes_on = same_link of.link (bound.reads number of.link of.link_is)
