-- A node that stops while it adds the outcome of an attempt keeps a world bound.
use Rattle.std.proofs.Common.{inl, inr, ◌≡◌, ◌≢◌, ◌≤◌, ◌+◌, ℕ, Bool, true, false, List, [], ◌∷◌, ◌++◌, length, take, Option, None, Some, refl, sym, subst, ap, ◌∙◌, arith}
use Rattle.std.specs.Prelude.{slice_get}
use Rattle.std.specs.List.{AllByRecursion}
use Rattle.std.proofs.Math.Numerals.{add-one}
use Rattle.std.proofs.lemmas.Bool.{false≢true}
use Rattle.std.proofs.lemmas.List.{append_assoc, append-nil}
use Rattle.std.proofs.lemmas.Option.{same_Some}
use Rattle.relay_disk.specs.Device.{DiskWords}
use Rattle.relay_server.specs.Dialogue.{Said}
use Rattle.relay_book.specs.declared.change.Change.{Change}
use Rattle.relay_book.specs.declared.change.Verdict.{Verdict}
use Rattle.relay_book.specs.Marks.{change_at}
use Rattle.relay_book.specs.Queue.{Fitting}
use Rattle.relay_book.specs.Record.{encode}
use Rattle.relay_book.proofs.Theorems.{message_stays}
use Rattle.relay_records.specs.Records.{Halted, Kept}
use Rattle.relay_routes.specs.declared.config.Config.{Config}
use Rattle.relay_course.specs.Course.{IsCourse}
use Rattle.relay_course.specs.VerdictTable.{all_later}
use Rattle.relay_client.proofs.Theorems.{followed_is_course}
use Rattle.relay_attempts.specs.Reply.{CutsLoss, CutsReply, Told, outcome_at}
use Rattle.relay_attempts.specs.AddedOutcome.{CutsOutcome, reported_as}
use Rattle.relay_node.specs.Attempts.{Tells}
use Rattle.relay_world.specs.declared.attempt.Attempt.{Attempt}
use Rattle.relay_world.specs.declared.attempt.Fate.{Fate}
use Rattle.relay_world.specs.declared.attempt.Fate.TheVariants.{Dropped, Lost, Replied}
use Rattle.relay_world.specs.declared.link.Link.{Link}
use Rattle.relay_world.specs.declared.link.ServerEnd.{ServerEnd}
use Rattle.relay_world.specs.Bound.{HasFate, IsBound, IsItsOutcome, IsServed, IsTried, MayBeIn, MayHaveEnded, PassesOn, SaysThere, link_of, told_by}
use Rattle.relay_world.specs.Ledger.{accepts_on, steps_in}
use Rattle.relay_world.specs.Steps.{AttemptOf, waiting_down}
use Rattle.relay_world.specs.Stops.{DropsAtStop, StoppingLosingKeeps, StoppingReadingKeeps, StopsLosing, StopsReading}
use Rattle.relay_world.specs.World.{Down, FromLoss, FromReplies, Host, Origin, Undecided, World}
use Rattle.relay_world.proofs.AttemptLemmas.{KnowsAttempt, known, other_place}
use Rattle.relay_world.proofs.CutLemmas.{LinkMoves, WasThere, link_moved, link_moved_so}
use Rattle.relay_world.proofs.DownLemmas.{Notes, down_halted, fits_more, notes, outcome_steps, same_undecided}
use Rattle.relay_world.proofs.FateLemmas.{dropped_ends}
use Rattle.relay_world.proofs.FrameLemmas.{get_last}
use Rattle.relay_world.proofs.MoveLemmas.{Settled, put_cases, still_served}
use Rattle.relay_world.proofs.OpenLemmas.{lines_within}
use Rattle.relay_world.proofs.PieceLemmas.{read_more, read_within}
use Rattle.relay_world.proofs.UndecidedLemmas.{serves_cut}
use Rattle.relay_report.specs.Report.{Reporter, reporter_of}

module _ {D : Type 0} (honest : Type 0) (words : DiskWords D) (old new : World D) (lists : List (List Change)) (number : ℕ)
    (bound : IsBound honest words old lists) (of : AttemptOf old number) (knows : KnowsAttempt honest words old lists number of)
    (stopped : Kept D) (origin : Origin) (drops : DropsAtStop honest words old new number of stopped origin) where
  abbrev link_now : Link
  link_now = record of.link { broken = true }

  abbrev attempt_now : Attempt
  attempt_now = record of.attempt { fate = Dropped }

  abbrev its_undecided : Undecided
  its_undecided = record { note = drops.noted; origin = origin }

  abbrev moved : Host D
  moved = record of.host { state = Down drops.disk (Some its_undecided) }

  passes_now : PassesOn moved knows.changes link_now attempt_now
  passes_now = record {
    accept = knows.was.accept;
    accepted = knows.was.accepted;
    valid = knows.was.valid;
    some = knows.was.some;
    few = knows.was.few;
    within = knows.was.within;
    told = false;
    output = knows.was.output;
    verdicts = None;
    course = followed_is_course knows.tells.run.client of.host.config.host knows.was.accept.stored_text
        of.attempt.places.items (take of.link.down_read of.link.down) knows.was.output knows.was.accept.envelope
        knows.tells.follows;
    wrote = knows.was.wrote;
    whole = λ is. absurd (false≢true (sym is));
    fate = (refl, refl);
  }

  were : (place : ℕ) (attempt : Attempt) → slice_get new.attempts place ≡ Some attempt → WasThere old.attempts place attempt
  were place attempt at = elim (put_cases old.attempts new.attempts of.place attempt_now drops.attempts place attempt at) [
    | inl here ↦ record {
      was = of.attempt;
      at = ap (λ n. slice_get old.attempts n) here.0 ∙ of.attempt_at;
      its_node = ap (λ (a : Attempt). a.node) (sym here.1);
      its_link = ap (λ (a : Attempt). a.link) (sym here.1);
      runs = λ slot is. absurd (dropped_ends slot (ap (λ (a : Attempt). a.fate) here.1 ∙ is));
    }
    | inr there ↦ record { was = attempt; at = there.1; its_node = refl; its_link = refl; runs = λ slot is. is }
  ]

  apart : (place : ℕ) (attempt : Attempt) → slice_get old.attempts place ≡ Some attempt → attempt.link ≢ number → place ≢ of.place
  apart place attempt at off = other_place honest words old lists number bound of place attempt at off

  module _ (change : Change) (halted : Halted honest words stopped knows.changes (Some change))
      (octets : drops.noted.octets ≡ encode change)
      (may_be_in : MayBeIn new of.attempt.node moved knows.changes its_undecided) where
    moves : LinkMoves honest words old new lists lists of.attempt.node number of.host moved knows.changes knows.changes
        of.link link_now
    moves = record {
      stands = record { host_at = of.host_at; list_at = knows.list_at };
      hosts = drops.hosts;
      even = bound.even ∙ sym drops.rest.2;
      list = record { at = knows.list_at; others = λ other off. refl };
      link_is = of.link_is;
      links = drops.links;
      client = refl;
      session = λ at session has.
          record { end = has.end; serves = has.serves; its_node = has.its_node; its_session = has.its_session };
      attempts = λ place attempt at off. drops.attempts.others place (apart place attempt at off) ∙ at;
      were = were;
      config = refl;
      stay = λ k c is. is;
      messages = λ k a is. is;
      accepts = λ other off. ap (λ l. accepts_on other l) drops.rest.0;
      steps = ap (λ l. steps_in of.attempt.node l) drops.rest.0 ∙ bound.ledger of.attempt.node knows.changes knows.list_at;
      other_steps = λ other off. ap (λ l. steps_in other l) drops.rest.0;
      lines = subst (λ l. AllByRecursion (λ line. link_of line ≤ length new.links) l) (sym drops.rest.0)
          (lines_within (length old.links) (length new.links) old.ledger drops.links.grows bound.lines);
      no_session = λ other its session off is has. drops.no_session other its session is has;
      no_attempt = λ place attempt slot at off has. drops.no_attempt place attempt slot (apart place attempt at off) at has;
      keeps = record {
        list = knows.kept.list;
        holds = down_halted honest words knows.changes change stopped drops.disk drops.noted origin of.host halted octets
            drops.left;
        reports = knows.kept.reports;
      };
    }

    -- a session at the other end of the link may go on, at another node
    still_says : (end : ServerEnd) → of.link.server ≡ Some end → end.node ≡ of.attempt.node → (session : Option ℕ)
        → end.session ≡ session → (said : Said) → SaysThere of.host session end.peer said → SaysThere moved session end.peer said
    still_says end serves same None goes said says = tt
    still_says end serves same (Some session) goes said says =
        absurd (drops.no_session number of.link session of.link_is
        (record { end = end; serves = serves; its_node = same; its_session = goes }))

    served_now : (end : ServerEnd) → link_now.server ≡ Some end → IsServed new lists number link_now end
    served_now end serves =
        let served : IsServed new lists number of.link end =
        still_served honest words old new lists lists of.attempt.node number of.host moved knows.changes knows.changes
        link_now bound
        (link_moved_so honest words old new lists lists of.attempt.node number of.host moved knows.changes knows.changes
        of.link link_now
        bound moves) number of.link end of.link_is serves (ap (λ l. accepts_on number l) drops.rest.0)
        (λ same said says. still_says end serves same end.session refl said says) in
        record {
          host = served.host;
          changes = served.changes;
          stands = served.stands;
          serves = serves_cut served.host served.changes new.ledger number of.link link_now end refl refl refl served.serves;
        }

    -- the server end of a link that was broken stays; the client end is the attempt's
    settled : of.link.broken ≡ true
        → Settled honest words old new lists lists of.attempt.node number of.host moved knows.changes knows.changes link_now of.link
    settled broken = record {
      serves = λ end serves off ended. record {
        now = link_now;
        now_is = drops.links.at;
        stays = record { server = serves; up = refl; up_read = refl; down = refl; broken = refl };
        accepts = ap (λ l. accepts_on number l) drops.rest.0;
      };
      tries = λ place attempt client at off dropped.
          absurd (off (ap (λ (a : Attempt). a.node) (same_Some attempt of.attempt (sym at
          ∙ ap (λ p. slice_get old.attempts p) (same_Some place of.place (sym client ∙ of.client)) ∙ of.attempt_at))));
    }

    pub stopped_ending : IsBound honest words new lists
    stopped_ending =
        link_moved honest words old new lists lists of.attempt.node number of.host moved knows.changes knows.changes of.link
        link_now
        bound moves (record {
          served = served_now;
          tried = λ place client. subst (λ p. IsTried new lists number link_now p)
              (same_Some of.place place (sym of.client ∙ client)) (record {
                attempt = attempt_now;
                attempt_at = drops.attempts.at;
                its_link = knows.its_link;
                host = moved;
                changes = knows.changes;
                stands = record { host_at = drops.hosts.at; list_at = knows.list_at };
                passes = passes_now;
              });
          reads = record {
            up = (bound.reads number of.link of.link_is).up;
            down = (bound.reads number of.link of.link_is).down;
          };
          settled = settled;
          may_be_in = λ disk undecided down.
              subst (λ u. MayBeIn new of.attempt.node moved knows.changes u)
              (same_Some its_undecided undecided (same_undecided drops.disk disk (Some its_undecided) (Some undecided) down))
              may_be_in;
        })

  -- the attempt with the outcome, once it has read what the note tells
  module _ (verdicts : List Verdict) (used : ℕ) (fate : Fate) (told_loss : Bool) (more : List ℕ)
      (cuts : CutsOutcome honest words (reporter_of of.host.config) knows.changes
      (outcome_at old.clock (told_by of.attempt knows.was.accept (take of.link.down_read of.link.down) knows.was.output) verdicts)
      used stopped) where
    abbrev added : Change
    added = reported_as
        (outcome_at old.clock (told_by of.attempt knows.was.accept (take of.link.down_read of.link.down) knows.was.output)
        verdicts)
        cuts.report

    abbrev grown : List Change
    grown = knows.changes ++ added ∷ []

    pub noted_so : Notes drops.noted knows.changes added used
    noted_so = notes stopped.noted drops.noted knows.changes added used drops.note_is cuts.cuts.noted

    pub fitting_with : Fitting grown
    fitting_with = fits_more knows.changes added knows.its_node.keeps.fitting cuts.cuts.fits

    pub its_outcome : IsItsOutcome (record of.attempt { fate = fate }) verdicts grown drops.noted.number
    its_outcome = record {
      at = old.clock;
      report = cuts.report;
      found = ap (λ n. change_at grown n) (noted_so.number ∙ add-one (length knows.changes)) ∙ get_last knows.changes added;
    }

    pub may_have_ended : of.link.down_read + drops.noted.used ≤ length of.link.down
        → IsCourse of.host.config.host knows.was.accept.envelope knows.was.accept.stored_text of.attempt.places.items
        (take (of.link.down_read + drops.noted.used) of.link.down) told_loss (knows.was.output ++ more) (Some verdicts)
        → HasFate moved grown (record link_now { down_read = of.link.down_read + drops.noted.used })
        (record of.attempt { fate = fate }) knows.was.accept (knows.was.output ++ more) told_loss (Some verdicts) fate
        → MayHaveEnded new of.attempt.node moved knows.changes added drops.noted number of.place fate
    may_have_ended within course has_fate = record {
      link = link_now;
      link_is = drops.links.at;
      broken = refl;
      client = of.client;
      attempt = attempt_now;
      attempt_at = drops.attempts.at;
      its_node = refl;
      dropped = refl;
      within = within;
      with_it = record {
        accept = knows.was.accept;
        accepted = message_stays knows.changes added fitting_with of.attempt.message knows.was.accept knows.was.accepted;
        valid = knows.was.valid;
        some = knows.was.some;
        few = knows.was.few;
        within = knows.was.within;
        told = told_loss;
        output = knows.was.output ++ more;
        verdicts = Some verdicts;
        course = course;
        wrote = (
          knows.was.wrote.0 ++ more,
          ap (λ l. l ++ more) knows.was.wrote.1 ∙ append_assoc of.link.up knows.was.wrote.0 more,
        );
        whole = λ is. absurd (false≢true (sym is));
        fate = has_fate;
      };
    }

module _ {D : Type 0} (honest : Type 0) (words : DiskWords D) (old new : World D) (lists : List (List Change)) (number count : ℕ)
    (bound : IsBound honest words old lists) (stops : StopsReading honest words old new number count)
    (knows : KnowsAttempt honest words old lists number stops.of) where
  abbrev told_was : Told
  told_was = told_by stops.of.attempt knows.was.accept (take stops.of.link.down_read stops.of.link.down) knows.was.output

  its_host : stops.of.before.config.host ≡ stops.of.host.config.host
  its_host = ap (λ (c : Config). c.host) knows.its_node.config_is

  cut : CutsReply honest words (reporter_of stops.of.before.config) old.clock knows.changes stops.of.slot told_was
      (waiting_down count stops.of.link) stops.stopped
  cut = stops.cuts knows.changes told_was knows.its_node.keeps
      (subst (λ h. Tells h knows.changes stops.of.before.attempts stops.of.slot told_was) (sym its_host) knows.tells)

  cuts : CutsOutcome honest words (reporter_of stops.of.host.config) knows.changes (outcome_at old.clock told_was cut.ends.verdicts)
      cut.ends.used stops.stopped
  cuts = subst (λ (r : Reporter). CutsOutcome honest words r knows.changes (outcome_at old.clock told_was cut.ends.verdicts) cut.ends.used
      stops.stopped) (ap (λ (c : Config). reporter_of c) knows.its_node.config_is) cut.cuts

  abbrev change_read : Change
  change_read = reported_as (outcome_at old.clock told_was cut.ends.verdicts) cuts.report

  noted_read : Notes stops.drops.noted knows.changes change_read cut.ends.used
  noted_read = notes stops.stopped.noted stops.drops.noted knows.changes change_read cut.ends.used stops.drops.note_is
      cuts.cuts.noted

  used_within : stops.drops.noted.used ≤ length (waiting_down count stops.of.link)
  used_within = subst (λ n. n ≤ length (waiting_down count stops.of.link)) (sym noted_read.used_is) cut.ends.within

  input_with : take (stops.of.link.down_read + stops.drops.noted.used) stops.of.link.down
      ≡ take stops.of.link.down_read stops.of.link.down ++ take cut.ends.used (waiting_down count stops.of.link)
  input_with =
      read_more stops.of.link.down_read stops.drops.noted.used count stops.of.link.down used_within
      ∙ ap (λ n. take stops.of.link.down_read stops.of.link.down ++ take n (waiting_down count stops.of.link)) noted_read.used_is

  course_with : IsCourse stops.of.host.config.host knows.was.accept.envelope knows.was.accept.stored_text
      stops.of.attempt.places.items (take (stops.of.link.down_read + stops.drops.noted.used) stops.of.link.down) false
      (knows.was.output ++ cut.ends.out) (Some cut.ends.verdicts)
  course_with =
      subst (λ l. IsCourse stops.of.host.config.host knows.was.accept.envelope knows.was.accept.stored_text
      stops.of.attempt.places.items l false (knows.was.output ++ cut.ends.out) (Some cut.ends.verdicts)) (sym input_with)
      (subst (λ h. IsCourse h knows.was.accept.envelope knows.was.accept.stored_text stops.of.attempt.places.items
      (take stops.of.link.down_read stops.of.link.down ++ take cut.ends.used (waiting_down count stops.of.link)) false
      (knows.was.output ++ cut.ends.out) (Some cut.ends.verdicts)) its_host cut.ends.course)

  abbrev undecided_read : Undecided
  undecided_read =
      record { note = stops.drops.noted; origin = FromReplies number stops.of.place stops.of.attempt.message }

  abbrev moved_read : Host D
  moved_read = record stops.of.host { state = Down stops.drops.disk (Some undecided_read) }

  may_be_in_read : MayBeIn new stops.of.attempt.node moved_read knows.changes undecided_read
  may_be_in_read = record {
    change = change_read;
    octets = noted_read.octets;
    number = noted_read.number;
    fitting = fits_more knows.changes change_read knows.its_node.keeps.fitting cuts.cuts.fits;
    reported = cuts.reported;
    steps = outcome_steps stops.of.attempt.node number stops.drops.noted knows.changes
        (outcome_at old.clock told_was cut.ends.verdicts) cuts.report cut.ends.used noted_read;
    came = may_have_ended honest words old new lists number bound stops.of knows stops.stopped
        (FromReplies number stops.of.place stops.of.attempt.message) stops.drops cut.ends.verdicts cut.ends.used
        (Replied stops.drops.noted.number) false cut.ends.out cuts
        (read_within stops.of.link.down_read stops.drops.noted.used count stops.of.link.down
        (bound.reads number stops.of.link stops.of.link_is).down used_within)
        course_with (
          refl,
          (
            cut.ends.verdicts,
            refl,
            its_outcome honest words old new lists number bound stops.of knows stops.stopped
                (FromReplies number stops.of.place stops.of.attempt.message) stops.drops cut.ends.verdicts cut.ends.used
                (Replied stops.drops.noted.number) false cut.ends.out cuts,
          ),
        );
  }

  pub stopped_reading : IsBound honest words new lists
  stopped_reading =
      stopped_ending honest words old new lists number bound stops.of knows stops.stopped
      (FromReplies number stops.of.place stops.of.attempt.message) stops.drops change_read cuts.cuts.halted noted_read.octets
      may_be_in_read

pub stopping_reading_keeps : {D : Type 0} (honest : Type 0) (words : DiskWords D) → StoppingReadingKeeps honest words
stopping_reading_keeps honest words old new lists number count bound stops =
    stopped_reading honest words old new lists number count bound stops (known honest words old lists number bound stops.of)

module _ {D : Type 0} (honest : Type 0) (words : DiskWords D) (old new : World D) (lists : List (List Change)) (number : ℕ)
    (bound : IsBound honest words old lists) (stops : StopsLosing honest words old new number)
    (knows : KnowsAttempt honest words old lists number stops.of) where
  abbrev told_lost : Told
  told_lost = told_by stops.of.attempt knows.was.accept (take stops.of.link.down_read stops.of.link.down) knows.was.output

  abbrev laters : List Verdict
  laters = all_later stops.of.attempt.places.items

  host_lost : stops.of.before.config.host ≡ stops.of.host.config.host
  host_lost = ap (λ (c : Config). c.host) knows.its_node.config_is

  cut_lost : CutsLoss honest words (reporter_of stops.of.before.config) old.clock knows.changes stops.of.slot told_lost stops.stopped
  cut_lost = stops.cuts knows.changes told_lost knows.its_node.keeps
      (subst (λ h. Tells h knows.changes stops.of.before.attempts stops.of.slot told_lost) (sym host_lost) knows.tells)

  cuts_lost : CutsOutcome honest words (reporter_of stops.of.host.config) knows.changes (outcome_at old.clock told_lost laters) 0
      stops.stopped
  cuts_lost = subst (λ (r : Reporter). CutsOutcome honest words r knows.changes (outcome_at old.clock told_lost laters) 0 stops.stopped)
      (ap (λ (c : Config). reporter_of c) knows.its_node.config_is) cut_lost.cuts

  abbrev change_lost : Change
  change_lost = reported_as (outcome_at old.clock told_lost laters) cuts_lost.report

  noted_lost : Notes stops.drops.noted knows.changes change_lost 0
  noted_lost = notes stops.stopped.noted stops.drops.noted knows.changes change_lost 0 stops.drops.note_is cuts_lost.cuts.noted

  read_same : stops.of.link.down_read + stops.drops.noted.used ≡ stops.of.link.down_read
  read_same = let none = noted_lost.used_is in omega (arith, none)

  course_lost : IsCourse stops.of.host.config.host knows.was.accept.envelope knows.was.accept.stored_text
      stops.of.attempt.places.items (take (stops.of.link.down_read + stops.drops.noted.used) stops.of.link.down) true
      (knows.was.output ++ []) (Some laters)
  course_lost =
      subst (λ n. IsCourse stops.of.host.config.host knows.was.accept.envelope knows.was.accept.stored_text
      stops.of.attempt.places.items (take n stops.of.link.down) true (knows.was.output ++ []) (Some laters)) (sym read_same)
      (subst (λ l. IsCourse stops.of.host.config.host knows.was.accept.envelope knows.was.accept.stored_text
      stops.of.attempt.places.items (take stops.of.link.down_read stops.of.link.down) true l (Some laters))
      (sym (append-nil knows.was.output))
      (subst (λ h. IsCourse h knows.was.accept.envelope knows.was.accept.stored_text stops.of.attempt.places.items
      (take stops.of.link.down_read stops.of.link.down) true knows.was.output (Some laters)) host_lost cut_lost.course))

  abbrev undecided_lost : Undecided
  undecided_lost = record { note = stops.drops.noted; origin = FromLoss number stops.of.place stops.of.attempt.message }

  abbrev moved_lost : Host D
  moved_lost = record stops.of.host { state = Down stops.drops.disk (Some undecided_lost) }

  may_be_in_lost : MayBeIn new stops.of.attempt.node moved_lost knows.changes undecided_lost
  may_be_in_lost = record {
    change = change_lost;
    octets = noted_lost.octets;
    number = noted_lost.number;
    fitting = fits_more knows.changes change_lost knows.its_node.keeps.fitting cuts_lost.cuts.fits;
    reported = cuts_lost.reported;
    steps = outcome_steps stops.of.attempt.node number stops.drops.noted knows.changes (outcome_at old.clock told_lost laters)
        cuts_lost.report 0 noted_lost;
    came = may_have_ended honest words old new lists number bound stops.of knows stops.stopped
        (FromLoss number stops.of.place stops.of.attempt.message) stops.drops laters 0 (Lost stops.drops.noted.number) true []
        cuts_lost
        (subst (λ n. n ≤ length stops.of.link.down) (sym read_same) (bound.reads number stops.of.link stops.of.link_is).down)
        course_lost (
          refl,
          (
            laters,
            refl,
            its_outcome honest words old new lists number bound stops.of knows stops.stopped
                (FromLoss number stops.of.place stops.of.attempt.message) stops.drops laters 0 (Lost stops.drops.noted.number)
                true []
                cuts_lost,
          ),
        );
  }

  pub stopped_losing : IsBound honest words new lists
  stopped_losing =
      stopped_ending honest words old new lists number bound stops.of knows stops.stopped
      (FromLoss number stops.of.place stops.of.attempt.message) stops.drops change_lost cuts_lost.cuts.halted noted_lost.octets
      may_be_in_lost

pub stopping_losing_keeps : {D : Type 0} (honest : Type 0) (words : DiskWords D) → StoppingLosingKeeps honest words
stopping_losing_keeps honest words old new lists number bound stops =
    stopped_losing honest words old new lists number bound stops (known honest words old lists number bound stops.of)
