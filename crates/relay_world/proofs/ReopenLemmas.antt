-- A node that is opened again keeps a world bound: with the list that it had, or with the change that was undecided.
use Rattle.std.proofs.Common.{inl, inr, ◌≡◌, ◌≢◌, ◌≤◌, ◌+◌, ℕ, List, [], ◌∷◌, ◌++◌, length, map, Option, None, Some, refl, sym, subst, ap, ◌∙◌, arith}
use Rattle.std.specs.Prelude.{slice_get}
use Rattle.std.specs.List.{AllByRecursion}
use Rattle.std.proofs.lemmas.List.{append-nil, map-append}
use Rattle.std.proofs.lemmas.Option.{same_Some}
use Rattle.relay_disk.specs.Device.{DiskWords}
use Rattle.relay_server.specs.Dialogue.{Said}
use Rattle.relay_book.specs.declared.change.Change.{Change}
use Rattle.relay_book.specs.Record.{encode}
use Rattle.relay_book.proofs.Theorems.{message_stays}
use Rattle.relay_records.specs.declared.noted.Noted.{Noted}
use Rattle.relay_records.specs.Records.{Keeps}
use Rattle.relay_world.specs.declared.attempt.Attempt.{Attempt}
use Rattle.relay_world.specs.declared.attempt.Fate.{Fate}
use Rattle.relay_world.specs.declared.attempt.Fate.TheVariants.{Lost, Replied, Running}
use Rattle.relay_world.specs.declared.link.Link.{Link}
use Rattle.relay_world.specs.declared.link.ServerEnd.{ServerEnd}
use Rattle.relay_world.specs.Bound.{StateKeeps, HostKeeps, IsBound, IsServed, IsTried, MayBeHeard, MayBeIn, MayHaveEnded, SaysThere, StandsAt, link_of}
use Rattle.relay_world.specs.Ledger.{accepts_on, lines_by, report_told, steps_in, steps_of}
use Rattle.relay_world.specs.Steps.{IsPut, IsPutAt}
use Rattle.relay_world.specs.Stops.{Decides, FindsOutcome, HasFound, HasNotFound, HasReopened, FindsAccept, ReopeningKeeps}
use Rattle.relay_world.specs.World.{Down, FromClient, FromLoss, FromGivingUp, FromReplies, Host, Origin, Undecided, Up, World, link_at}
use Rattle.relay_world.proofs.CutLemmas.{LinkMoves, WasThere, link_moved, link_moved_so, still_there}
use Rattle.relay_world.proofs.DownLemmas.{host_moved, no_attempt_down, no_session_down}
use Rattle.relay_world.proofs.FateLemmas.{lost_ends, replied_ends}
use Rattle.relay_world.proofs.FoundLemmas.{lines_accepted, lines_elsewhere, lines_few, opens_before, opens_to_list, opens_with, origin_link}
use Rattle.relay_world.proofs.FrameLemmas.{accepts_on_more, changes_stay, passes_on, steps_in_more, steps_more}
use Rattle.relay_world.proofs.MoveLemmas.{put_cases, same_attempts, still_served, still_tried}
use Rattle.relay_world.proofs.OpenLemmas.{lines_within, list_there, number_within}
use Rattle.relay_world.proofs.PieceLemmas.{all_append, passes_as, reports_more, with_at, with_at-length, with_at-put}
use Rattle.relay_world.proofs.RecordLemmas.{none_left_accepted}
use Rattle.relay_world.proofs.UndecidedLemmas.{serves_as, serves_cut, up_not_down}
use Rattle.relay_report.specs.Report.{reporter_of}

module _ {D : Type 0} (honest : Type 0) (words : DiskWords D) (old new : World D) (lists : List (List Change)) (node : ℕ)
    (bound : IsBound honest words old lists) (opens : HasReopened honest words old new node) where
  listed : (list : List Change) × (slice_get lists node ≡ Some list)
  listed = list_there old.hosts lists node opens.host bound.even opens.host_at

  stands : StandsAt old lists node opens.host listed.0
  stands = record { host_at = opens.host_at; list_at = listed.1 }

  kept : HostKeeps honest words opens.host listed.0
  kept = bound.hosts node opens.host listed.0 stands

  holds : StateKeeps honest words opens.host.config (Down opens.disk opens.undecided) listed.0
  holds = subst (λ state. StateKeeps honest words opens.host.config state listed.0) opens.down kept.holds

  may_be_there : (undecided : Undecided) → opens.undecided ≡ Some undecided → MayBeIn old node opens.host listed.0 undecided
  may_be_there undecided same =
      bound.may_be_in node opens.host listed.0 opens.disk undecided stands (opens.down ∙ ap (λ u. Down opens.disk u) same)

  -- the list is as it was
  opened_before : Keeps honest words opens.after.records listed.0 → HasNotFound old new node opens.host opens.after
      → IsBound honest words new lists
  opened_before keeps found =
      host_moved honest words old new lists lists node opens.host (record opens.host { state = Up opens.after }) listed.0
      listed.0 bound
      (record {
        stands = stands;
        hosts = found.hosts;
        even = bound.even ∙ sym opens.rest.1;
        list = record { at = listed.1; others = λ other off. refl };
        links = found.links;
        attempts = found.attempts;
        config = refl;
        stay = λ k c is. is;
        messages = λ k a is. is;
        accepts = λ other. ap (λ l. accepts_on other l) found.ledger;
        steps = ap (λ l. steps_in node l) found.ledger ∙ bound.ledger node listed.0 listed.1;
        other_steps = λ other off. ap (λ l. steps_in other l) found.ledger;
        lines = subst (λ l. AllByRecursion (λ line. link_of line ≤ length l) new.ledger) (sym found.links)
            (subst (λ l. AllByRecursion (λ line. link_of line ≤ length old.links) l) (sym found.ledger) bound.lines);
        no_session = no_session_down honest words old lists bound node opens.host opens.disk opens.undecided opens.host_at
            opens.down;
        no_attempt = no_attempt_down honest words old lists bound node opens.host opens.disk opens.undecided opens.host_at
            opens.down;
        keeps = record {
          list = kept.list;
          holds = record { config_is = opens.idle.config_is; keeps = keeps };
          reports = kept.reports;
        };
        may_be_in = λ disk undecided down. absurd (up_not_down opens.after disk (Some undecided) down);
      })

  -- the change is there
  module _ (undecided : Undecided) (may : MayBeIn old node opens.host listed.0 undecided)
      (keeps : Keeps honest words opens.after.records (listed.0 ++ may.change ∷ []))
      (hosts : IsPut old.hosts new.hosts node
      (record opens.host { state = Up opens.after; records = opens.host.records ++ undecided.note.octets ∷ [] }))
      (ledger : new.ledger ≡ old.ledger ++ lines_by node undecided.note undecided.origin) where
    abbrev grown : List Change
    grown = listed.0 ++ may.change ∷ []

    abbrev lists_now : List (List Change)
    lists_now = with_at lists node grown

    abbrev moved : Host D
    moved = record opens.host { state = Up opens.after; records = opens.host.records ++ undecided.note.octets ∷ [] }

    keeps_now : HostKeeps honest words moved grown
    keeps_now = record {
      list = record {
        fitting = may.fitting;
        records_are = ap (λ l. l ++ undecided.note.octets ∷ []) kept.list.records_are
            ∙ ap (λ o. map encode listed.0 ++ o ∷ []) may.octets
            ∙ sym (map-append encode listed.0 (may.change ∷ []));
      };
      holds = record { config_is = opens.idle.config_is; keeps = keeps };
      reports = reports_more (reporter_of opens.host.config) [] listed.0 may.change kept.reports may.reported;
    }

    steps_now : steps_in node new.ledger ≡ steps_of grown
    steps_now =
        ap (λ l. steps_in node l) ledger ∙ steps_in_more node old.ledger (lines_by node undecided.note undecided.origin)
        ∙ ap (λ l. l ++ steps_in node (lines_by node undecided.note undecided.origin)) (bound.ledger node listed.0 listed.1)
        ∙ ap (λ l. steps_of listed.0 ++ l) may.steps
        ∙ sym (steps_more listed.0 may.change)

    other_steps : (other : ℕ) → other ≢ node → steps_in other new.ledger ≡ steps_in other old.ledger
    other_steps other off =
        ap (λ l. steps_in other l) ledger ∙ steps_in_more other old.ledger (lines_by node undecided.note undecided.origin)
        ∙ ap (λ l. steps_in other old.ledger ++ l) (lines_elsewhere node other undecided.note undecided.origin off)
        ∙ append-nil (steps_in other old.ledger)

    accepts_by : (other : ℕ) → accepts_on other (lines_by node undecided.note undecided.origin) ≡ []
        → accepts_on other new.ledger ≡ accepts_on other old.ledger
    accepts_by other none =
        ap (λ l. accepts_on other l) ledger ∙ accepts_on_more other old.ledger (lines_by node undecided.note undecided.origin)
        ∙ ap (λ l. accepts_on other old.ledger ++ l) none ∙ append-nil (accepts_on other old.ledger)

    lines_now : length old.links ≤ length new.links → origin_link undecided.origin ≤ length new.links
        → AllByRecursion (λ line. link_of line ≤ length new.links) new.ledger
    lines_now grows few = subst (λ l. AllByRecursion (λ line. link_of line ≤ length new.links) l) (sym ledger)
        (all_append (λ line. link_of line ≤ length new.links) old.ledger (lines_by node undecided.note undecided.origin)
        (lines_within (length old.links) (length new.links) old.ledger grows bound.lines)
        (lines_few node (length new.links) undecided.note undecided.origin few))

    -- it has no link
    found_unlinked : ((other : ℕ) → accepts_on other (lines_by node undecided.note undecided.origin) ≡ [])
        → origin_link undecided.origin ≡ 0 → new.links ≡ old.links → new.attempts ≡ old.attempts
        → IsBound honest words new lists_now
    found_unlinked none no_link links attempts =
        host_moved honest words old new lists lists_now node opens.host moved listed.0 grown bound (record {
          stands = stands;
          hosts = hosts;
          even = with_at-length lists node grown ∙ bound.even ∙ sym opens.rest.1;
          list = with_at-put lists node grown listed.0 listed.1;
          links = links;
          attempts = attempts;
          config = refl;
          stay = changes_stay listed.0 may.change;
          messages = λ k a is. message_stays listed.0 may.change may.fitting k a is;
          accepts = λ other. accepts_by other (none other);
          steps = steps_now;
          other_steps = other_steps;
          lines = lines_now (subst (λ l. length old.links ≤ length l) (sym links) (omega arith)) (omega (arith, no_link));
          no_session = no_session_down honest words old lists bound node opens.host opens.disk opens.undecided opens.host_at
              opens.down;
          no_attempt = no_attempt_down honest words old lists bound node opens.host opens.disk opens.undecided opens.host_at
              opens.down;
          keeps = keeps_now;
          may_be_in = λ disk undecided down. absurd (up_not_down opens.after disk (Some undecided) down);
        })

    -- what the change makes of the node, and of a link, whose octets only are read further
    module _ (number : ℕ) (origin_is : origin_link undecided.origin ≡ number) (link now : Link)
        (link_is : link_at old.links number ≡ Some link) (links : IsPutAt old.links new.links number now)
        (server : now.server ≡ link.server) (client : now.client ≡ link.client)
        (attempts : (place : ℕ) (attempt : Attempt) → slice_get old.attempts place ≡ Some attempt → attempt.link ≢ number
        → slice_get new.attempts place ≡ Some attempt)
        (were : (place : ℕ) (attempt : Attempt) → slice_get new.attempts place ≡ Some attempt
        → WasThere old.attempts place attempt)
      where
        linked_moves : LinkMoves honest words old new lists lists_now node number opens.host moved listed.0 grown link now
        linked_moves = record {
          stands = stands;
          hosts = hosts;
          even = with_at-length lists node grown ∙ bound.even ∙ sym opens.rest.1;
          list = with_at-put lists node grown listed.0 listed.1;
          link_is = link_is;
          links = links;
          client = client;
          session = λ at session has.
              record { end = has.end; serves = sym server ∙ has.serves; its_node = has.its_node; its_session = has.its_session };
          attempts = attempts;
          were = were;
          config = refl;
          stay = changes_stay listed.0 may.change;
          messages = λ k a is. message_stays listed.0 may.change may.fitting k a is;
          accepts = λ other off. accepts_by other
              (lines_accepted node other undecided.note undecided.origin (λ same. off (same ∙ origin_is)));
          steps = steps_now;
          other_steps = other_steps;
          lines = lines_now links.grows
              (subst (λ n. n ≤ length new.links) (sym origin_is) (number_within new.links number now links.at));
          no_session = λ other its session off is has.
              no_session_down honest words old lists bound node opens.host opens.disk opens.undecided opens.host_at opens.down
              other its session is has;
          no_attempt = λ place attempt slot at off has.
              no_attempt_down honest words old lists bound node opens.host opens.disk opens.undecided opens.host_at opens.down
              place attempt slot at has;
          keeps = keeps_now;
        }

    -- it is an accept of what the link's server end had read
    module _ (number : ℕ) (origin_is : origin_link undecided.origin ≡ number)
        (lines_are : lines_by node undecided.note undecided.origin ≡ lines_by node undecided.note (FromClient number))
        (heard : MayBeHeard old node opens.host listed.0 may.change undecided.note number)
        (found : FindsAccept old new number undecided.note.used) where
      abbrev heard_link : Link
      heard_link = record heard.link { up_read = heard.link.up_read + undecided.note.used }

      heard_put : IsPutAt old.links new.links number heard_link
      heard_put = subst (λ (l : Link). IsPutAt old.links new.links number
          (record l { up_read = l.up_read + undecided.note.used }))
          (same_Some found.link heard.link (sym found.link_is ∙ heard.link_is)) found.links

      heard_moves : LinkMoves honest words old new lists lists_now node number opens.host moved listed.0 grown heard.link
          heard_link
      heard_moves = linked_moves number origin_is heard.link heard_link heard.link_is heard_put refl refl
          (λ place attempt at off. same_attempts old.attempts new.attempts found.attempts place attempt at)
          (λ place attempt at. still_there old.attempts new.attempts place attempt found.attempts at)

      heard_served : (end : ServerEnd) → heard_link.server ≡ Some end → IsServed new lists_now number heard_link end
      heard_served end serves =
          subst (λ e. IsServed new lists_now number heard_link e) (same_Some heard.end end (sym heard.serves ∙ serves)) (record {
            host = moved;
            changes = grown;
            stands = record {
              host_at = ap (λ n. slice_get new.hosts n) heard.its_node ∙ hosts.at;
              list_at = ap (λ n. slice_get lists_now n) heard.its_node ∙ (with_at-put lists node grown listed.0 listed.1).at;
            };
            serves = serves_as opens.host moved grown (old.ledger ++ lines_by node undecided.note (FromClient number)) new.ledger
                number heard_link heard_link heard.end refl heard.ended
                (ap (λ l. accepts_on number l) (ledger ∙ ap (λ l. old.ledger ++ l) lines_are)) refl refl heard.broken
                heard.with_it;
          })

      heard_tried : (place : ℕ) → heard_link.client ≡ Some place → IsTried new lists_now number heard_link place
      heard_tried place client =
          let tried : IsTried new lists_now number heard.link place =
          still_tried honest words old new lists lists_now node number opens.host moved listed.0 grown heard_link bound
          (link_moved_so honest words old new lists lists_now node number opens.host moved listed.0 grown heard.link
          heard_link bound
          heard_moves) number place heard.link heard.link_is client
          (λ attempt at its_link. same_attempts old.attempts new.attempts found.attempts place attempt at)
          (λ attempt slot at its_link has. absurd
          (no_attempt_down honest words old lists bound node opens.host opens.disk opens.undecided opens.host_at opens.down
          place attempt slot at has)) in
          record {
            attempt = tried.attempt;
            attempt_at = tried.attempt_at;
            its_link = tried.its_link;
            host = tried.host;
            changes = tried.changes;
            stands = tried.stands;
            passes = passes_as tried.host tried.changes heard.link heard_link tried.attempt refl refl refl tried.passes;
          }

      found_heard : IsBound honest words new lists_now
      found_heard =
          link_moved honest words old new lists lists_now node number opens.host moved listed.0 grown heard.link heard_link bound
          heard_moves (record {
            served = heard_served;
            tried = heard_tried;
            reads = record { up = heard.within; down = (bound.reads number heard.link heard.link_is).down };
            settled = λ broken. record {
              serves = λ end serves off ended. absurd (off
                  (ap (λ (e : ServerEnd). e.node) (same_Some end heard.end (sym serves ∙ heard.serves)) ∙ heard.its_node));
              tries = λ place attempt client at off dropped. record {
                now = heard_link;
                now_is = heard_put.at;
                stays = record { client = refl; up = refl; down = refl; down_read = refl; broken = heard.broken };
                attempt_at = same_attempts old.attempts new.attempts found.attempts place attempt at;
              };
            };
            may_be_in = λ disk other down. absurd (up_not_down opens.after disk (Some other) down);
          })

    -- it is the outcome of an attempt
    module _ (number place : ℕ) (fate : Fate) (origin_is : origin_link undecided.origin ≡ number)
        (none : (other : ℕ) → accepts_on other (lines_by node undecided.note undecided.origin) ≡ [])
        (ends : (slot : ℕ) → fate ≡ Running slot → ⊥)
        (ended : MayHaveEnded old node opens.host listed.0 may.change undecided.note number place fate)
        (found : FindsOutcome old new number place undecided.note.used fate) where
      abbrev read_link : Link
      read_link = record ended.link { down_read = ended.link.down_read + undecided.note.used }

      abbrev attempt_now : Attempt
      attempt_now = record ended.attempt { fate = fate }

      read_put : IsPutAt old.links new.links number read_link
      read_put = subst (λ (l : Link). IsPutAt old.links new.links number
          (record l { down_read = l.down_read + undecided.note.used }))
          (same_Some found.link ended.link (sym found.link_is ∙ ended.link_is)) found.links

      attempt_put : IsPut old.attempts new.attempts place attempt_now
      attempt_put = subst (λ (a : Attempt). IsPut old.attempts new.attempts place (record a { fate = fate }))
          (same_Some found.attempt ended.attempt (sym found.attempt_at ∙ ended.attempt_at)) found.attempts

      its_link : ended.attempt.link ≡ number
      its_link =
          let tried : IsTried old lists number ended.link place = bound.clients number place ended.link ended.link_is
          ended.client in
          ap (λ (a : Attempt). a.link) (same_Some ended.attempt tried.attempt (sym ended.attempt_at ∙ tried.attempt_at))
          ∙ tried.its_link

      apart : (other : ℕ) (attempt : Attempt) → slice_get old.attempts other ≡ Some attempt → attempt.link ≢ number
          → other ≢ place
      apart other attempt at off same =
          off (ap (λ (a : Attempt). a.link)
          (same_Some attempt ended.attempt (sym at ∙ ap (λ n. slice_get old.attempts n) same ∙ ended.attempt_at)) ∙ its_link)

      were : (other : ℕ) (attempt : Attempt) → slice_get new.attempts other ≡ Some attempt → WasThere old.attempts other attempt
      were other attempt at = elim (put_cases old.attempts new.attempts place attempt_now attempt_put other attempt at) [
        | inl here ↦ record {
          was = ended.attempt;
          at = ap (λ n. slice_get old.attempts n) here.0 ∙ ended.attempt_at;
          its_node = ap (λ (a : Attempt). a.node) (sym here.1);
          its_link = ap (λ (a : Attempt). a.link) (sym here.1);
          runs = λ slot is. absurd (ends slot (ap (λ (a : Attempt). a.fate) here.1 ∙ is));
        }
        | inr there ↦ record { was = attempt; at = there.1; its_node = refl; its_link = refl; runs = λ slot is. is }
      ]

      ended_moves : LinkMoves honest words old new lists lists_now node number opens.host moved listed.0 grown ended.link
          read_link
      ended_moves = linked_moves number origin_is ended.link read_link ended.link_is read_put refl refl
          (λ other attempt at off. attempt_put.others other (apart other attempt at off) ∙ at) were

      still_says : (end : ServerEnd) → ended.link.server ≡ Some end → end.node ≡ node → (session : Option ℕ)
          → end.session ≡ session → (said : Said) → SaysThere opens.host session end.peer said
          → SaysThere moved session end.peer said
      still_says end serves same None goes said says = tt
      still_says end serves same (Some session) goes said says =
          absurd (no_session_down honest words old lists bound node opens.host opens.disk opens.undecided opens.host_at opens.down
          number ended.link session ended.link_is
          (record { end = end; serves = serves; its_node = same; its_session = goes }))

      ended_served : (end : ServerEnd) → read_link.server ≡ Some end → IsServed new lists_now number read_link end
      ended_served end serves =
          let served : IsServed new lists_now number ended.link end =
          still_served honest words old new lists lists_now node number opens.host moved listed.0 grown read_link bound
          (link_moved_so honest words old new lists lists_now node number opens.host moved listed.0 grown ended.link read_link
          bound
          ended_moves) number ended.link end ended.link_is serves (accepts_by number (none number))
          (λ same said says. still_says end serves same end.session refl said says) in
          record {
            host = served.host;
            changes = served.changes;
            stands = served.stands;
            serves = serves_cut served.host served.changes new.ledger number ended.link read_link end refl refl ended.broken
                served.serves;
          }

      found_ended : IsBound honest words new lists_now
      found_ended =
          link_moved honest words old new lists lists_now node number opens.host moved listed.0 grown ended.link read_link bound
          ended_moves (record {
            served = ended_served;
            tried = λ other client. subst (λ p. IsTried new lists_now number read_link p)
                (same_Some place other (sym ended.client ∙ client)) (record {
                  attempt = attempt_now;
                  attempt_at = attempt_put.at;
                  its_link = its_link;
                  host = moved;
                  changes = grown;
                  stands = record {
                    host_at = ap (λ n. slice_get new.hosts n) ended.its_node ∙ hosts.at;
                    list_at = ap (λ n. slice_get lists_now n) ended.its_node
                        ∙ (with_at-put lists node grown listed.0 listed.1).at;
                  };
                  passes = passes_on opens.host moved grown grown read_link attempt_now refl (λ k c is. is) (λ k a is. is)
                      (λ slot runs. absurd (ends slot runs)) ended.with_it;
                });
            reads = record { up = (bound.reads number ended.link ended.link_is).up; down = ended.within };
            settled = λ broken. record {
              serves = λ end serves off ended_too. record {
                now = read_link;
                now_is = read_put.at;
                stays = record { server = serves; up = refl; up_read = refl; down = refl; broken = ended.broken };
                accepts = accepts_by number (none number);
              };
              tries = λ other attempt client at off dropped.
                  let same_place : other ≡ place = same_Some other place (sym client ∙ ended.client) in
                  absurd (off (ap (λ (a : Attempt). a.node)
                  (same_Some attempt ended.attempt (sym at ∙ ap (λ n. slice_get old.attempts n) same_place ∙ ended.attempt_at))
                  ∙ ended.its_node));
            };
            may_be_in = λ disk other down. absurd (up_not_down opens.after disk (Some other) down);
          })

  -- whatever it came from
  found_by : (note : Noted) (origin : Origin)
      (may : MayBeIn old node opens.host listed.0 (record { note = note; origin = origin }))
      → Keeps honest words opens.after.records (listed.0 ++ may.change ∷ [])
      → HasFound old new node opens.host opens.after (record { note = note; origin = origin })
      → IsBound honest words new (with_at lists node (listed.0 ++ may.change ∷ []))
  found_by note (FromClient number) may keeps found =
      found_heard (record { note = note; origin = FromClient number }) may keeps found.hosts found.ledger number refl refl
      may.came
      found.finds
  found_by note (FromReplies number place message) may keeps found =
      found_ended (record { note = note; origin = FromReplies number place message }) may keeps found.hosts found.ledger
      number place
      (Replied note.number) refl
      (λ other. none_left_accepted node other message number (report_told note.number note.report) note.left.items)
      (replied_ends note.number) may.came found.finds
  found_by note (FromLoss number place message) may keeps found =
      found_ended (record { note = note; origin = FromLoss number place message }) may keeps found.hosts found.ledger number place
      (Lost note.number) refl
      (λ other. none_left_accepted node other message number (report_told note.number note.report) note.left.items)
      (lost_ends note.number) may.came found.finds
  found_by note (FromGivingUp message) may keeps found =
      found_unlinked (record { note = note; origin = FromGivingUp message }) may keeps found.hosts found.ledger
      (λ other. none_left_accepted node other message 0 (report_told note.number note.report) note.left.items)
      refl found.finds.0 found.finds.1

  -- by the next number
  module _ (sees_now : (disk : D) → words.may_leave disk (words.seen disk)) (h : honest) where
    decided : (undecided : Option Undecided) → opens.undecided ≡ undecided → Decides old new node opens.host opens.after undecided
        → (later : List (List Change)) × IsBound honest words new later
    decided None same found = (
      lists,
      opened_before (opens_to_list honest words sees_now h opens.host opens.disk opens.after.records listed.0 kept.list.fitting
          (subst (λ u. StateKeeps honest words opens.host.config (Down opens.disk u) listed.0) same holds) opens.opens) found,
    )
    decided (Some undecided) same (inl before) =
        let may : MayBeIn old node opens.host listed.0 undecided = may_be_there undecided same in (
          lists,
          opened_before (opens_before honest words sees_now h old node opens.host opens.disk opens.after.records listed.0
              undecided kept.list.fitting
              (subst (λ u. StateKeeps honest words opens.host.config (Down opens.disk u) listed.0) same holds) opens.opens
              may before.0)
              before.1,
        )
    decided (Some undecided) same (inr more) =
        let may : MayBeIn old node opens.host listed.0 undecided = may_be_there undecided same in (
          _,
          found_by undecided.note undecided.origin may
              (opens_with honest words sees_now h old node opens.host opens.disk opens.after.records listed.0 undecided
              kept.list.fitting
              (subst (λ u. StateKeeps honest words opens.host.config (Down opens.disk u) listed.0) same holds) opens.opens
              may more.0)
              more.1,
        )

    pub reopened : (later : List (List Change)) × IsBound honest words new later
    reopened = decided opens.undecided refl opens.decides

pub reopening_keeps : {D : Type 0} (honest : Type 0) (words : DiskWords D)
    → ((disk : D) → words.may_leave disk (words.seen disk)) → honest → ReopeningKeeps honest words
reopening_keeps honest words sees_now h old new lists node bound opens =
    reopened honest words old new lists node bound opens sees_now h
