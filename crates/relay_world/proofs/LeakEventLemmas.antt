-- Nothing leaks by an event, where a node that stops lets go of its ends in the same event.
use Rattle.std.proofs.Common.{◌≡◌, ◌≢◌, ◌⊎◌, inl, inr, ◌+◌, ℕ, zero, suc, Bool, true, false, cond, List, [], ◌∷◌, ◌++◌, length, take, Option, None, Some, refl, sym, subst, ap, ◌∙◌, arith}
use Rattle.std.specs.Prelude.{slice_get}
use Rattle.std.specs.Option.{option_map}
use Rattle.std.proofs.lemmas.Bool.{cases_Bool}
use Rattle.std.proofs.lemmas.Option.{same_Some, slice_get_within}
use Rattle.relay_disk.specs.Device.{DiskWords}
use Rattle.relay_disk.specs.declared.disks.Disks.{Disks}
use Rattle.relay_routes.specs.declared.config.Config.{Config}
use Rattle.relay_book.specs.declared.change.Change.{Change}
use Rattle.relay_lines.specs.Reply.{Reply}
use Rattle.relay_attempts.specs.Reply.{IsLost, Told}
use Rattle.relay_node.specs.Attempts.{Begins, RepliesBy, Tells}
use Rattle.relay_node.specs.Node.{NodeState}
use Rattle.relay_slots.specs.Slots.{AreFree, slot_at}
use Rattle.relay_world.specs.GivingUp.{Reason}
use Rattle.relay_world.specs.declared.attempt.Attempt.{Attempt}
use Rattle.relay_world.specs.declared.attempt.Fate.{Fate}
use Rattle.relay_world.specs.declared.attempt.Fate.TheVariants.{Replied, Lost, Dropped}
use Rattle.relay_world.specs.declared.link.Link.{Link}
use Rattle.relay_world.specs.Bound.{HasSession, HasSlot, IsBound, MayBeIn, MayHaveCome, MayHaveEnded, NodeKeeps, told_by}
use Rattle.relay_world.specs.Crashes.{GoesDown, has_end_of, let_go_link}
use Rattle.relay_world.specs.HangUp.{broken_link, dropped, hung_up_attempt, hung_up_end, hung_up_link}
use Rattle.relay_world.specs.Leaks.{GoesOnThere, NothingLeaks, RunsThere}
use Rattle.relay_world.specs.Steps.{Breaks, DropsAttempt, EndsWith, HasGivenUp, HasHeard, HasLost, HasOpened, HasRead, HasStarted, HasTicked, HasWritten, IsPut, IsPutAt, RecordsHeard, RecordsRead, WritesAs, ended_link, heard_link, opened_link, read_link, session_after, waiting_down, without_note}
use Rattle.relay_world.specs.Stops.{Decides, Finds, FindsOutcome, HasReopened, StaysDown, StaysUp}
use Rattle.relay_world.specs.World.{Down, FromClient, FromLoss, FromGivingUp, FromReplies, Host, Origin, Undecided, Up, World, link_at}
use Rattle.relay_world.proofs.AttemptLemmas.{KnowsAttempt, known}
use Rattle.relay_world.proofs.HangUpLemmas.{get_map, link_map}
use Rattle.relay_world.proofs.HearLemmas.{closed_gone}
use Rattle.relay_world.proofs.LeakLemmas.{AllGoOn, AllRun, attempt_next, attempt_put, attempts_same, dropped_put, hosts_same, link_next, link_put, links_same, moved, now_down, other_run, other_seat, same_runs, same_seats, session_put, still_up}
use Rattle.relay_world.proofs.OpenLemmas.{list_there, node_kept, off_by, same_Up}
use Rattle.relay_report.specs.Report.{reporter_of}

-- no slot of a free table is taken
free_none : {A : Type 0} (slots : List (Option A)) → AreFree slots → (number : ℕ) → slot_at slots number ≡ None
free_none [] free number = refl
free_none (None ∷ slots) free zero = refl
free_none (None ∷ slots) free (suc number) = free_none slots free number
free_none (Some value ∷ slots) free number = absurd free

-- what a node lets go of isn't another's
session_still : (node n session : ℕ) (attempts : List Attempt) (link : Link) → n ≢ node → HasSession link n session
    → HasSession (let_go_link node attempts link) n session
session_still node n session attempts link off has = by (has_end_of node attempts link)
  where
    by : (mine : Bool) → HasSession (cond mine (broken_link (hung_up_link node link)) link) n session
    by false = has
    by true = record {
      end = has.end;
      serves = ap (option_map (hung_up_end node)) has.serves
          ∙ ap (λ b. Some (cond b (record has.end { session = None }) has.end))
          (off_by has.end.node node (λ same. off (sym has.its_node ∙ same)));
      its_node = has.its_node;
      its_session = has.its_session;
    }

slot_still : (node n slot : ℕ) (attempt : Attempt) → n ≢ node → HasSlot attempt n slot
    → HasSlot (hung_up_attempt node attempt) n slot
slot_still node n slot attempt off has =
    subst (λ b. HasSlot (cond b (record attempt { fate = dropped attempt.fate }) attempt) n slot)
    (sym (off_by attempt.node node (λ same. off (sym has.its_node ∙ same)))) has

module _ {D : Type 0} (old new : World D) where
  -- a node goes down and lets go of its ends
  pub down_leaks : (node : ℕ) (host : Host D) (disk : Disks D) (undecided : Option Undecided)
      → GoesDown old new node host disk undecided → NothingLeaks old → NothingLeaks new
  down_leaks node host disk undecided down was =
      now_down old new node host disk undecided
      (subst (λ l. IsPut old.hosts l node (record host { state = Down disk undecided }))
      (sym (ap (λ (w : World D). w.hosts) down.new_is)) down.put)
      (λ n session off on. record {
        number = on.number;
        link = let_go_link node old.attempts on.link;
        is_there = ap (λ (w : World D). link_at w.links on.number) down.new_is
            ∙ link_map (let_go_link node old.attempts) old.links on.number
            ∙ ap (option_map (let_go_link node old.attempts)) on.is_there;
        has = session_still node n session old.attempts on.link off on.has;
      })
      (λ n slot off on. record {
        place = on.place;
        attempt = hung_up_attempt node on.attempt;
        is_there = ap (λ (w : World D). slice_get w.attempts on.place) down.new_is
            ∙ get_map (hung_up_attempt node) old.attempts on.place
            ∙ ap (option_map (hung_up_attempt node)) on.is_there;
        has = slot_still node n slot on.attempt off on.has;
      })
      was

  pub opened_leaks : (node : ℕ) (peer : List ℕ) → HasOpened old new node peer → NothingLeaks old → NothingLeaks new
  opened_leaks node peer is was =
      still_up old new node is.host is.before is.after is.host.records is.hosts
      (other_seat old new node is.host is.before is.after is.connected.session is.host_at is.up is.connects.others
      (λ n session off on. go_on n session on) was
      (λ taken. record {
        number = suc (length old.links);
        link = opened_link node peer is.connected;
        is_there = is.links.at;
        has = record { end = _; serves = refl; its_node = refl; its_session = refl };
      }))
      (same_runs old new node is.host is.before is.after is.host_at is.up is.attempts run was)
      (λ n session off on. go_on n session on) (λ n slot off on. run n slot on) was
    where
      go_on : AllGoOn old new
      go_on = link_next old new (opened_link node peer is.connected) is.links

      run : AllRun old new
      run = attempts_same old new is.rest.0

  -- one link alone has changed, with the server end that it had
  one_link : (links : List Link) (number : ℕ) (link its : Link) → new ≡ record old { links = links }
      → link_at old.links number ≡ Some link → its.server ≡ link.server → IsPutAt old.links links number its
      → NothingLeaks old → NothingLeaks new
  one_link links number link its is there same put was =
      hosts_same old new (ap (λ (w : World D). w.hosts) is)
      (link_put old new number link its there same
      (subst (λ l. IsPutAt old.links l number its) (sym (ap (λ (w : World D). w.links) is)) put))
      (attempts_same old new (ap (λ (w : World D). w.attempts) is)) was

  written_server : (link written : Link) (octets : List ℕ) → WritesAs link octets written → written.server ≡ link.server
  written_server link written octets (inl up) = ap (λ (l : Link). l.server) up.1
  written_server link written octets (inr down) = ap (λ (l : Link). l.server) down.1

  pub written_leaks : (number : ℕ) (octets : List ℕ) → HasWritten old new number octets → NothingLeaks old → NothingLeaks new
  written_leaks number octets is was =
      one_link is.links number is.link is.written is.new_is is.link_is
      (written_server is.link is.written octets is.writes) is.put was

  pub broken_leaks : (number : ℕ) → Breaks old new number → NothingLeaks old → NothingLeaks new
  broken_leaks number is was =
      one_link is.links number is.link (record is.link { broken = true }) is.new_is is.link_is refl is.put was

  pub ended_leaks : (number : ℕ) (closing : Option Reply) → EndsWith old new number closing → NothingLeaks old
      → NothingLeaks new
  ended_leaks number closing is was =
      still_up old new is.of.end.node is.of.host is.of.before is.after is.of.host.records is.hosts
      (other_seat old new is.of.end.node is.of.host is.of.before is.after is.of.session is.of.host_at is.of.up is.others
      (session_put old new number is.of (ended_link is.of.link is.of.end closing) is.links) was
      (λ taken. absurd (taken is.gone)))
      (same_runs old new is.of.end.node is.of.host is.of.before is.after is.of.host_at is.of.up is.attempts
      (attempts_same old new is.rest.0) was)
      (λ n session off on. session_put old new number is.of (ended_link is.of.link is.of.end closing) is.links n session
      (λ here. absurd (off here)) on)
      (λ n slot off on. attempts_same old new is.rest.0 n slot on) was

  pub dropped_leaks : (number : ℕ) → DropsAttempt old new number → NothingLeaks old → NothingLeaks new
  dropped_leaks number is was =
      still_up old new is.of.attempt.node is.of.host is.of.before is.after is.of.host.records is.hosts
      (same_seats old new is.of.attempt.node is.of.host is.of.before is.after is.of.host_at is.of.up is.seats
      (links_same old new is.links) was)
      (other_run old new is.of.attempt.node is.of.host is.of.before is.after is.of.slot is.of.host_at is.of.up is.others
      (attempt_put old new number is.of (record is.of.attempt { fate = Dropped }) is.attempts) was
      (λ taken. absurd (taken is.gone)))
      (λ n session off on. links_same old new is.links n session on)
      (λ n slot off on. attempt_put old new number is.of (record is.of.attempt { fate = Dropped }) is.attempts n slot
      (λ here. absurd (off here)) on) was

  pub ticked_leaks : (now : ℕ) → HasTicked old new now → NothingLeaks old → NothingLeaks new
  ticked_leaks now is was =
      hosts_same old new (ap (λ (w : World D). w.hosts) is.new_is)
      (links_same old new (ap (λ (w : World D). w.links) is.new_is))
      (attempts_same old new (ap (λ (w : World D). w.attempts) is.new_is)) was

module _ {D : Type 0} (honest : Type 0) (words : DiskWords D) (old new : World D) where
  pub given_leaks : (reason : Reason) (node message change : ℕ) → HasGivenUp honest words old new reason node message change → NothingLeaks old
      → NothingLeaks new
  given_leaks reason node message change is was =
      still_up old new node is.host is.before (without_note is.after) (is.host.records ++ is.noted.octets ∷ []) is.hosts
      (same_seats old new node is.host is.before (without_note is.after) is.host_at is.up is.seats
      (links_same old new is.rest.0) was)
      (same_runs old new node is.host is.before (without_note is.after) is.host_at is.up is.attempts
      (attempts_same old new is.rest.1) was)
      (λ n session off on. links_same old new is.rest.0 n session on)
      (λ n slot off on. attempts_same old new is.rest.1 n slot on) was

  pub stayed_leaks : (node : ℕ) → StaysUp honest words old new node → NothingLeaks old → NothingLeaks new
  stayed_leaks node is was =
      still_up old new node is.host is.before is.after is.host.records is.hosts
      (same_seats old new node is.host is.before is.after is.host_at is.up is.seats (links_same old new is.rest.0) was)
      (same_runs old new node is.host is.before is.after is.host_at is.up is.attempts
      (attempts_same old new is.rest.1) was)
      (λ n session off on. links_same old new is.rest.0 n session on)
      (λ n slot off on. attempts_same old new is.rest.1 n slot on) was

  pub down_still_leaks : (node : ℕ) → StaysDown honest words old new node → NothingLeaks old → NothingLeaks new
  down_still_leaks node is was =
      now_down old new node is.host is.again is.undecided is.hosts
      (λ n session off on. links_same old new is.rest.0 n session on)
      (λ n slot off on. attempts_same old new is.rest.1 n slot on) was

  module _ (lists : List (List Change)) (bound : IsBound honest words old lists) where
    pub heard_leaks : (number count : ℕ) → HasHeard honest words old new number count → NothingLeaks old → NothingLeaks new
    heard_leaks number count is was = by is.received.change is.records
      where
        its : Link
        its = heard_link is.of.link is.of.end is.of.session is.received

        this : slot_at is.after.seats is.of.session ≢ None → GoesOnThere new is.of.end.node is.of.session
        this taken = elim (cases_Bool is.received.close) [
          | inl closed ↦ absurd (taken (closed_gone honest words old new lists number count bound is closed))
          | inr goes_on ↦ record {
            number = number;
            link = its;
            is_there = is.links.at;
            has = record {
              end = record is.of.end { session = session_after is.received.close is.of.session };
              serves = refl;
              its_node = refl;
              its_session = ap (λ c. session_after c is.of.session) goes_on;
            };
          }
        ]

        up : (after : NodeState D) (records : List (List ℕ)) → after.seats ≡ is.after.seats
            → after.attempts ≡ is.after.attempts
            → IsPut old.hosts new.hosts is.of.end.node (record is.of.host { state = Up after; records = records })
            → NothingLeaks new
        up after records seats attempts put =
            still_up old new is.of.end.node is.of.host is.of.before after records put
            (other_seat old new is.of.end.node is.of.host is.of.before after is.of.session is.of.host_at is.of.up
            (λ k off. ap (λ s. slot_at s k) seats ∙ is.others k off)
            (session_put old new number is.of its is.links) was
            (λ taken. this (λ free. taken (ap (λ s. slot_at s is.of.session) seats ∙ free))))
            (same_runs old new is.of.end.node is.of.host is.of.before after is.of.host_at is.of.up
            (attempts ∙ is.attempts) (attempts_same old new is.rest.0) was)
            (λ n session off on. session_put old new number is.of its is.links n session (λ here. absurd (off here)) on)
            (λ n slot off on. attempts_same old new is.rest.0 n slot on) was

        by : (change : Option ℕ) → RecordsHeard old new is.of.end.node number is.of.host is.after change
            → NothingLeaks new
        by None records = up is.after is.of.host.records refl refl records.0
        by (Some change) records =
            up (without_note is.after) (is.of.host.records ++ records.0.octets ∷ []) refl refl records.2

    pub read_leaks : (number count : ℕ) → HasRead honest words old new number count → NothingLeaks old → NothingLeaks new
    read_leaks number count is was = by is.replied.change
        (is.replies knows.changes told knows.its_node.keeps
        (subst (λ (c : Config). Tells c.host knows.changes is.of.before.attempts is.of.slot told)
        (sym knows.its_node.config_is) knows.tells)) is.records
      where
        knows : KnowsAttempt honest words old lists number is.of
        knows = known honest words old lists number bound is.of

        told : Told
        told = told_by is.of.attempt knows.was.accept (take is.of.link.down_read is.of.link.down) knows.was.output

        go_on : AllGoOn old new
        go_on = link_put old new number is.of.link (read_link is.of.link is.replied) is.of.link_is refl is.links

        by : (made : Option ℕ)
            → RepliesBy honest words (reporter_of is.of.before.config) old.clock knows.changes is.of.slot told
            (waiting_down count is.of.link) is.of.before is.after is.replied made
            → RecordsRead old new number is.of is.after made → NothingLeaks new
        by None on records =
            still_up old new is.of.attempt.node is.of.host is.of.before is.after is.of.host.records records.0
            (same_seats old new is.of.attempt.node is.of.host is.of.before is.after is.of.host_at is.of.up is.seats go_on
            was)
            (other_run old new is.of.attempt.node is.of.host is.of.before is.after is.of.slot is.of.host_at is.of.up
            is.others (λ n slot off run. attempts_same old new records.2 n slot run) was
            (λ taken. record {
              place = is.of.place;
              attempt = is.of.attempt;
              is_there = ap (λ l. slice_get l is.of.place) records.2 ∙ is.of.attempt_at;
              has = record { its_node = refl; runs = is.of.runs };
            }))
            (λ n session off on. go_on n session on)
            (λ n slot off on. attempts_same old new records.2 n slot on) was
        by (Some change_now) ended records =
            still_up old new is.of.attempt.node is.of.host is.of.before (without_note is.after)
            (is.of.host.records ++ records.noted.octets ∷ []) records.hosts
            (same_seats old new is.of.attempt.node is.of.host is.of.before (without_note is.after) is.of.host_at is.of.up
            is.seats go_on was)
            (other_run old new is.of.attempt.node is.of.host is.of.before (without_note is.after) is.of.slot is.of.host_at
            is.of.up is.others
            (attempt_put old new number is.of (record is.of.attempt { fate = Replied change_now }) records.attempts) was
            (λ taken. absurd (taken ended.gone)))
            (λ n session off on. go_on n session on)
            (λ n slot off on. attempt_put old new number is.of (record is.of.attempt { fate = Replied change_now })
            records.attempts n slot (λ here. absurd (off here)) on) was

    pub lost_leaks : (number change : ℕ) → HasLost honest words old new number change → NothingLeaks old → NothingLeaks new
    lost_leaks number change_now is was =
        still_up old new is.of.attempt.node is.of.host is.of.before (without_note is.after)
        (is.of.host.records ++ is.records.noted.octets ∷ []) is.records.hosts
        (same_seats old new is.of.attempt.node is.of.host is.of.before (without_note is.after) is.of.host_at is.of.up
        is.seats (links_same old new is.links) was)
        (other_run old new is.of.attempt.node is.of.host is.of.before (without_note is.after) is.of.slot is.of.host_at
        is.of.up is.others
        (attempt_put old new number is.of (record is.of.attempt { fate = Lost change_now }) is.records.attempts) was
        (λ taken. absurd (taken ended.gone)))
        (λ n session off on. links_same old new is.links n session on)
        (λ n slot off on. attempt_put old new number is.of (record is.of.attempt { fate = Lost change_now })
        is.records.attempts n slot (λ here. absurd (off here)) on) was
      where
        knows : KnowsAttempt honest words old lists number is.of
        knows = known honest words old lists number bound is.of

        told : Told
        told = told_by is.of.attempt knows.was.accept (take is.of.link.down_read is.of.link.down) knows.was.output

        ended : IsLost honest words (reporter_of is.of.before.config) old.clock knows.changes is.of.slot told
            is.of.before.records is.after.records is.after.attempts change_now
        ended = is.loses knows.changes told knows.its_node.keeps
            (subst (λ (c : Config). Tells c.host knows.changes is.of.before.attempts is.of.slot told)
            (sym knows.its_node.config_is) knows.tells)

    pub started_leaks : (number message : ℕ) (hop : List ℕ) → HasStarted honest words old new number message hop
        → NothingLeaks old → NothingLeaks new
    started_leaks number message hop is was =
        still_up old new is.attempt.node is.host is.before is.after is.host.records is.hosts
        (same_seats old new is.attempt.node is.host is.before is.after is.host_at is.up is.seats
        (go_on is.is_blank.there) was)
        (other_run old new is.attempt.node is.host is.before is.after is.started.attempt is.host_at is.up begins.others
        (λ n slot off on. run n slot on) was
        (λ taken. record {
          place = length old.attempts;
          attempt = is.attempt;
          is_there = is.attempts.at;
          has = record { its_node = refl; runs = is.is_attempt.5 };
        }))
        (λ n session off on. go_on is.is_blank.there n session on) (λ n slot off on. run n slot on) was
      where
        its : Link
        its = record is.blank { client = Some (length old.attempts) }

        go_on : (link_at old.links number ≡ Some is.blank)
            ⊎ ((number ≡ suc (length old.links)) × (is.blank.server ≡ None) × (is.blank.up_read ≡ 0)) → AllGoOn old new
        go_on (inl there) = link_put old new number is.blank its there refl is.links
        go_on (inr next) = link_next old new its (subst (λ n. IsPutAt old.links new.links n its) next.0 is.links)

        run : AllRun old new
        run = attempt_next old new is.attempt is.attempts
            (λ at attempt there same.
            let within = slice_get_within old.attempts at attempt there in omega (arith, within, same))

        listed : (list : List Change) × (slice_get lists is.attempt.node ≡ Some list)
        listed = list_there old.hosts lists is.attempt.node is.host bound.even is.host_at

        its_node : NodeKeeps honest words is.host.config is.before listed.0
        its_node = node_kept honest words is.host listed.0 is.before
            (bound.hosts is.attempt.node is.host listed.0 (record { host_at = is.host_at; list_at = listed.1 })) is.up

        begins : Begins is.before.config listed.0 message hop old.clock is.before.attempts is.after.attempts is.started
        begins = is.begins listed.0 its_node.keeps

    pub reopened_leaks : (node : ℕ) → HasReopened honest words old new node → NothingLeaks old → NothingLeaks new
    reopened_leaks node is was = by is.undecided refl is.decides
      where
        up : (records : List (List ℕ))
            → IsPut old.hosts new.hosts node (record is.host { state = Up is.after; records = records })
            → AllGoOn old new → AllRun old new → NothingLeaks new
        up records put go_on run =
            moved old new node (record is.host { state = Up is.after; records = records }) put
            (λ standing its. subst
            (λ (s : NodeState D). ((session : ℕ) → slot_at s.seats session ≢ None → GoesOnThere new node session)
            × ((slot : ℕ) → slot_at s.attempts slot ≢ None → RunsThere new node slot))
            (same_Up is.after standing its) (
              λ session taken. absurd (taken (free_none is.after.seats is.idle.free session)),
              λ slot taken. absurd (taken (free_none is.after.attempts is.idle.none_runs slot)),
            ))
            (λ n session off on. go_on n session on) (λ n slot off on. run n slot on) was

        outcome : (changes : List Change) (undecided : Undecided) (may : MayBeIn old node is.host changes undecided)
            (number place used : ℕ) (fate : Fate) → FindsOutcome old new number place used fate
            → MayHaveEnded old node is.host changes may.change undecided.note number place fate → AllRun old new
        outcome changes undecided may number place used fate finds came =
            let same : came.attempt ≡ finds.attempt =
            same_Some came.attempt finds.attempt (sym came.attempt_at ∙ finds.attempt_at) in
            dropped_put old new place finds.attempt (record finds.attempt { fate = fate }) finds.attempt_at
            (ap (λ (a : Attempt). a.fate) (sym same) ∙ came.dropped) finds.attempts

        found : (changes : List Change) (undecided : Undecided) (may : MayBeIn old node is.host changes undecided)
            (origin : Origin) → Finds old new undecided.note origin
            → MayHaveCome old node is.host changes may.change undecided.note origin → AllGoOn old new × AllRun old new
        found changes undecided may (FromClient number) finds came = (
          link_put old new number finds.link (record finds.link { up_read = finds.link.up_read + undecided.note.used })
              finds.link_is refl finds.links,
          attempts_same old new finds.attempts,
        )
        found changes undecided may (FromReplies number place message) finds came = (
          link_put old new number finds.link (record finds.link { down_read = finds.link.down_read + undecided.note.used })
              finds.link_is refl finds.links,
          outcome changes undecided may number place undecided.note.used (Replied undecided.note.number) finds came,
        )
        found changes undecided may (FromLoss number place message) finds came = (
          link_put old new number finds.link (record finds.link { down_read = finds.link.down_read + undecided.note.used })
              finds.link_is refl finds.links,
          outcome changes undecided may number place undecided.note.used (Lost undecided.note.number) finds came,
        )
        found changes undecided may (FromGivingUp message) finds came =
            (links_same old new finds.0, attempts_same old new finds.1)

        by : (undecided : Option Undecided) → is.undecided ≡ undecided
            → Decides old new node is.host is.after undecided → NothingLeaks new
        by None same none =
            up is.host.records none.hosts (links_same old new none.links) (attempts_same old new none.attempts)
        by (Some undecided) same (inl none) =
            up is.host.records none.1.hosts (links_same old new none.1.links) (attempts_same old new none.1.attempts)
        by (Some undecided) same (inr its) =
            let listed = list_there old.hosts lists node is.host bound.even is.host_at in
            let may : MayBeIn old node is.host listed.0 undecided =
            bound.may_be_in node is.host listed.0 is.disk undecided
            (record { host_at = is.host_at; list_at = listed.1 })
            (is.down ∙ ap (λ u. Down is.disk u) same) in
            let all = found listed.0 undecided may undecided.origin its.1.finds may.came in
            up (is.host.records ++ undecided.note.octets ∷ []) its.1.hosts all.0 all.1
