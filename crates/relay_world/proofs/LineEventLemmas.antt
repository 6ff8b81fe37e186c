-- Each event keeps it so that each line of the ledger has its source.
use Rattle.std.proofs.Common.{◌≡◌, ◌⊎◌, ◌+◌, inl, inr, ℕ, suc, List, [], ◌∷◌, ◌++◌, length, take, Option, None, Some, refl, sym, subst, ap, ◌∙◌}
use Rattle.std.specs.Prelude.{slice_get}
use Rattle.std.specs.List.{Contains}
use Rattle.std.proofs.Math.Numerals.{add-one}
use Rattle.std.proofs.lemmas.Option.{same_Some}
use Rattle.relay_disk.specs.Device.{DiskWords}
use Rattle.relay_routes.specs.declared.config.Config.{Config}
use Rattle.relay_book.specs.declared.change.Change.{Change}
use Rattle.relay_book.specs.declared.change.Change.TheVariants as change
use Rattle.relay_book.specs.declared.message.Message.{Message}
use Rattle.relay_book.specs.declared.change.Outcome.{Outcome}
use Rattle.relay_book.specs.declared.fate.PlaceStep.{PlaceStep}
use Rattle.relay_book.specs.Marks.{change_at, message_at}
use Rattle.relay_book.specs.Queue.{Fitting, Queue, message_of, queue_of}
use Rattle.relay_book.specs.Record.{IsChange, encode}
use Rattle.relay_book.proofs.Theorems.{encoding_is_one, fold_knows}
use Rattle.relay_attempts.specs.AddedOutcome.{reported_as}
use Rattle.relay_attempts.specs.Reply.{IsLost, Told}
use Rattle.relay_node.specs.Attempts.{RepliesBy, Tells}
use Rattle.relay_node.specs.Node.{NodeState}
use Rattle.relay_world.specs.declared.attempt.Attempt.{Attempt}
use Rattle.relay_world.specs.declared.attempt.Fate.{Fate}
use Rattle.relay_world.specs.declared.attempt.Fate.TheVariants.{Replied, Lost}
use Rattle.relay_world.specs.declared.line.Line.TheVariants.{Accepted}
use Rattle.relay_world.specs.declared.link.Link.{Link}
use Rattle.relay_world.specs.declared.link.ServerEnd.{ServerEnd}
use Rattle.relay_world.specs.Bound.{HostKeeps, IsBound, IsListOf, IsTried, MayBeHeard, MayBeIn, MayHaveCome, MayHaveEnded, NodeKeeps, told_by}
use Rattle.relay_world.specs.Growth.{AttemptsGrow, HasGrown}
use Rattle.relay_world.specs.Ledger.{Becomes, lines_by, report_told, steps_by}
use Rattle.relay_world.specs.Lines.{HasEndedOn, HasSources, SaysNoHop, SaysWithdrawn}
use Rattle.relay_routes.specs.Routes.{RouteTable}
use Rattle.relay_world.specs.GivingUp.{AddsGivenUp, Reason, Withdrawing, asked_by, outcome_for}
use Rattle.relay_world.specs.Once.{EndsAlone, GivesUpAlone, IsTriedOnce}
use Rattle.relay_world.specs.Steps.{HasGivenUp, HasLost, HasRead, IsPutAt, RecordsHeard, RecordsRead, SessionOf, waiting_down, without_note}
use Rattle.relay_world.specs.Stops.{Decides, FindsAccept, FindsOutcome, Finds, HasFound, HasReopened}
use Rattle.relay_world.specs.World.{Down, FromClient, FromLoss, FromGivingUp, FromReplies, Host, Origin, Undecided, Up, World, link_at}
use Rattle.relay_world.proofs.AddedLemmas.{asks_itself, given_up_alone, same_outcome}
use Rattle.relay_world.proofs.AttemptLemmas.{KnowsAttempt, known}
use Rattle.relay_world.proofs.FrameLemmas.{get_last}
use Rattle.relay_world.proofs.GrowLemmas.{one_more, some_more, stored_fits}
use Rattle.relay_world.proofs.HeldLemmas.{last_fits}
use Rattle.relay_world.proofs.LineLemmas.{accepted, ended_cause, made_by, recorded, sources_same}
use Rattle.relay_world.proofs.OpenLemmas.{list_there, node_kept}
use Rattle.relay_world.proofs.RecordLemmas.{TakesOutcome, outcome_added}
use Rattle.relay_report.specs.Report.{reporter_of}

-- an outcome without an attempt says so of each of its places
says_alone : (asked : List Withdrawing) (node : ℕ) (table : RouteTable) (changes : List Change) (one : Change) (outcome : Outcome) → one ≡ change.Outcome outcome
    → EndsAlone asked node table changes outcome → SaysNoHop one ⊎ SaysWithdrawn one
says_alone asked node table changes one outcome is (inl none) =
    inl (record { outcome = outcome; is = is; each = λ place verdict has. (none.each place verdict has).0 })
says_alone asked node table changes one outcome is (inr withdrawn) =
    inr (record {
      outcome = outcome;
      is = is;
      each = λ place verdict has. let his = withdrawn.each place verdict has in (his.0, his.1);
    })

-- so does the outcome by which places of a message are given up
says_given_up : (reason : Reason) (config : Config) (changes : List Change) (number at : ℕ) (given : Message) (report : List ℕ)
    → message_at changes number ≡ Some given.accept
    → SaysNoHop (reported_as (outcome_for reason config.routes number at given) report)
    ⊎ SaysWithdrawn (reported_as (outcome_for reason config.routes number at given) report)
says_given_up reason config changes number at given report accepted =
    let outcome : Outcome = record (outcome_for reason config.routes number at given) { report = report } in
    let asked : List Withdrawing = asked_by reason 0 number ++ [] in
    says_alone asked 0 config.routes changes (change.Outcome outcome) outcome refl
    (given_up_alone asked 0 reason config.routes changes number at given report outcome
    (asks_itself reason 0 number []) accepted refl)

module _ {D : Type 0} (honest : Type 0) (words : DiskWords D) (old new : World D) (lists later : List (List Change))
    (bound : IsBound honest words old lists) (now : IsBound honest words new later) (grows : HasGrown old new)
    (goes : AttemptsGrow old new) (was : HasSources old lists) where
  -- a node whose records have one more has one change more in its list
  pub added_list : (node : ℕ) (host moved : Host D) (octets : List ℕ) → slice_get old.hosts node ≡ Some host
      → slice_get new.hosts node ≡ Some moved → moved.records ≡ host.records ++ octets ∷ [] → (before : List Change)
      → slice_get lists node ≡ Some before → (one : Change) × (slice_get later node ≡ Some (before ++ one ∷ []))
  added_list node host moved octets at there records before first =
      let after = list_there new.hosts later node moved now.even there in
      let added = some_more host.records octets before after.0
      (bound.hosts node host before (record { host_at = at; list_at = first })).list
      (subst (λ r. IsListOf r after.0) records
      (now.hosts node moved after.0 (record { host_at = there; list_at = after.1 })).list) in
      (added.0, after.1 ∙ ap (λ l. Some l) added.1)

  -- this one, where that was recorded
  listed_with : (node : ℕ) (host moved : Host D) (octets : List ℕ) → slice_get old.hosts node ≡ Some host
      → slice_get new.hosts node ≡ Some moved → moved.records ≡ host.records ++ octets ∷ [] → (before : List Change)
      → slice_get lists node ≡ Some before → (one : Change) → Fitting (before ++ one ∷ []) → octets ≡ encode one
      → slice_get later node ≡ Some (before ++ one ∷ [])
  listed_with node host moved octets at there records before first one fitting same =
      let after = list_there new.hosts later node moved now.even there in
      after.1
      ∙ ap (λ l. Some l) (one_more host.records octets before after.0 one
      (bound.hosts node host before (record { host_at = at; list_at = first })).list fitting same
      (subst (λ r. IsListOf r after.0) records
      (now.hosts node moved after.0 (record { host_at = there; list_at = after.1 })).list))

  pub same : new.ledger ≡ old.ledger → HasSources new later
  same is = sources_same honest words old new lists later bound now grows goes is was

  -- what was heard
  pub heard_line : (number : ℕ) (of : SessionOf old number) (link : Link) (end : ServerEnd)
      → link_at new.links number ≡ Some link → link.server ≡ Some end → end.node ≡ of.end.node → (change places : ℕ)
      → new.ledger ≡ old.ledger ++ Accepted of.end.node change places number ∷ [] → HasSources new later
  heard_line number of link end at serves node change places is =
      accepted honest words old new lists later bound now grows goes of.end.node change places number is
      (record { its = link; is_there = at; end = end; serves = serves; its_node = node }) was

  pub heard : (number : ℕ) (of : SessionOf old number) (session : Option ℕ) (link : Link)
      → link.server ≡ Some (record of.end { session = session }) → IsPutAt old.links new.links number link
      → (after : NodeState D) (change : Option ℕ) → RecordsHeard old new of.end.node number of.host after change
      → HasSources new later
  heard number of session link serves links after None records = same records.1
  heard number of session link serves links after (Some change) records =
      heard_line number of link (record of.end { session = session }) links.at serves refl change records.0.accepted records.3

  -- replies that have ended an attempt
  pub read_by : (number count : ℕ) → HasRead honest words old new number count → HasSources new later
  read_by number count reads = by reads.replied.change
      (reads.replies knows.changes told knows.its_node.keeps
      (subst (λ (c : Config). Tells c.host knows.changes reads.of.before.attempts reads.of.slot told)
      (sym knows.its_node.config_is) knows.tells)) reads.records
    where
      knows : KnowsAttempt honest words old lists number reads.of
      knows = known honest words old lists number bound reads.of

      told : Told
      told = told_by reads.of.attempt knows.was.accept (take reads.of.link.down_read reads.of.link.down) knows.was.output

      by : (made : Option ℕ)
          → RepliesBy honest words (reporter_of reads.of.before.config) old.clock knows.changes reads.of.slot told
          (waiting_down count reads.of.link) reads.of.before reads.after reads.replied made
          → RecordsRead old new number reads.of reads.after made → HasSources new later
      by None on records = same records.1
      by (Some change_now) ended records =
          let added = added_list reads.of.attempt.node reads.of.host
          (record reads.of.host {
            state = Up (without_note reads.after);
            records = reads.of.host.records ++ records.noted.octets ∷ [];
          }) records.noted.octets reads.of.host_at records.hosts.at refl knows.changes knows.list_at in
          recorded honest words old new lists later bound now grows goes reads.of.attempt.node reads.of.attempt.message
          number (report_told change_now records.noted.report) records.noted.left.items knows.changes added.0
          knows.list_at added.1 records.ledger
          (λ step place makes. inl (ended_cause honest words old new lists later bound now grows goes number change_now
          reads.of (Replied change_now) (inl refl) records.attempts knows.changes ended.adds.number_is)) was

  -- the loss of an attempt's link
  pub lost : (number change : ℕ) → HasLost honest words old new number change → HasSources new later
  lost number change_now loses =
      recorded honest words old new lists later bound now grows goes loses.of.attempt.node loses.of.attempt.message
      number (report_told change_now loses.records.noted.report) loses.records.noted.left.items knows.changes added.0
      knows.list_at added.1 loses.records.ledger
      (λ step place makes. inl (ended_cause honest words old new lists later bound now grows goes number change_now
      loses.of (Lost change_now) (inr refl) loses.records.attempts knows.changes ended.adds.number_is)) was
    where
      knows : KnowsAttempt honest words old lists number loses.of
      knows = known honest words old lists number bound loses.of

      told : Told
      told = told_by loses.of.attempt knows.was.accept (take loses.of.link.down_read loses.of.link.down) knows.was.output

      ended : IsLost honest words (reporter_of loses.of.before.config) old.clock knows.changes loses.of.slot told
          loses.of.before.records loses.after.records loses.after.attempts change_now
      ended = loses.loses knows.changes told knows.its_node.keeps
          (subst (λ (c : Config). Tells c.host knows.changes loses.of.before.attempts loses.of.slot told)
          (sym knows.its_node.config_is) knows.tells)

      added : (one : Change) × (slice_get later loses.of.attempt.node ≡ Some (knows.changes ++ one ∷ []))
      added = added_list loses.of.attempt.node loses.of.host
          (record loses.of.host {
            state = Up (without_note loses.after);
            records = loses.of.host.records ++ loses.records.noted.octets ∷ [];
          }) loses.records.noted.octets loses.of.host_at loses.records.hosts.at refl knows.changes knows.list_at

  -- places that are given up
  pub given : (reason : Reason) (node message change : ℕ) → HasGivenUp honest words old new reason node message change → HasSources new later
  given reason node message change_now gives =
      recorded honest words old new lists later bound now grows goes node message 0
      (report_told change_now gives.noted.report) gives.noted.left.items listed.0
      (reported_as (outcome_for reason gives.before.config.routes message old.clock given_up.message) takes.report)
      listed.1 listed_now gives.ledger (λ step place makes. inr (refl, says)) was
    where
      listed : (list : List Change) × (slice_get lists node ≡ Some list)
      listed = list_there old.hosts lists node gives.host bound.even gives.host_at

      kept : HostKeeps honest words gives.host listed.0
      kept = bound.hosts node gives.host listed.0 (record { host_at = gives.host_at; list_at = listed.1 })

      its_node : NodeKeeps honest words gives.host.config gives.before listed.0
      its_node = node_kept honest words gives.host listed.0 gives.before kept gives.up

      given_up : AddsGivenUp honest words (reporter_of gives.before.config) gives.before.config.routes reason message old.clock listed.0
          gives.before.records gives.after.records change_now
      given_up = gives.gives_up listed.0 its_node.keeps

      takes : TakesOutcome honest words (reporter_of gives.before.config) listed.0
          (outcome_for reason gives.before.config.routes message old.clock given_up.message) (without_note gives.after).records
          change_now gives.noted
      takes = outcome_added honest words (reporter_of gives.before.config) listed.0
          (outcome_for reason gives.before.config.routes message old.clock given_up.message) 0 change_now gives.after gives.noted
          gives.note_is given_up.adds

      listed_now : slice_get later node
          ≡ Some (listed.0
          ++ reported_as (outcome_for reason gives.before.config.routes message old.clock given_up.message) takes.report ∷ [])
      listed_now = listed_with node gives.host
          (record gives.host {
            state = Up (without_note gives.after);
            records = gives.host.records ++ gives.noted.octets ∷ [];
          }) gives.noted.octets gives.host_at gives.hosts.at refl listed.0 listed.1
          (reported_as (outcome_for reason gives.before.config.routes message old.clock given_up.message) takes.report)
          takes.keeps.fitting takes.octets

      says : SaysNoHop (reported_as (outcome_for reason gives.before.config.routes message old.clock given_up.message) takes.report)
          ⊎ SaysWithdrawn (reported_as (outcome_for reason gives.before.config.routes message old.clock given_up.message) takes.report)
      says = says_given_up reason gives.before.config listed.0 message old.clock given_up.message takes.report
          (fold_knows listed.0 its_node.keeps.fitting message given_up.message
          (ap (λ (q : Queue). message_of q.messages message) (sym its_node.keeps.queue) ∙ given_up.found)).accept_is

  -- a node that is opened again
  module _ {asked : List Withdrawing} (once : IsTriedOnce old lists asked) (node : ℕ) (reopens : HasReopened honest words old new node) where
    listed : (list : List Change) × (slice_get lists node ≡ Some list)
    listed = list_there old.hosts lists node reopens.host bound.even reopens.host_at

    module _ (undecided : Undecided) (is : reopens.undecided ≡ Some undecided)
        (found : HasFound old new node reopens.host reopens.after undecided) where
      down : reopens.host.state ≡ Down reopens.disk (Some undecided)
      down = reopens.down ∙ ap (λ u. Down reopens.disk u) is

      may : MayBeIn old node reopens.host listed.0 undecided
      may = bound.may_be_in node reopens.host listed.0 reopens.disk undecided
          (record { host_at = reopens.host_at; list_at = listed.1 }) down

      listed_now : slice_get later node ≡ Some (listed.0 ++ may.change ∷ [])
      listed_now = listed_with node reopens.host
          (record reopens.host {
            state = Up reopens.after;
            records = reopens.host.records ++ undecided.note.octets ∷ [];
          }) undecided.note.octets reopens.host_at found.hosts.at refl listed.0 listed.1 may.change may.fitting may.octets

      -- an accept
      found_accept : (number : ℕ) → FindsAccept old new number undecided.note.used
          → MayBeHeard old node reopens.host listed.0 may.change undecided.note number
          → new.ledger ≡ old.ledger ++ lines_by node undecided.note (FromClient number) → HasSources new later
      found_accept number finds came ledger =
          accepted honest words old new lists later bound now grows goes node undecided.note.number
          undecided.note.accepted number ledger (record {
            its = record finds.link { up_read = finds.link.up_read + undecided.note.used };
            is_there = finds.links.at;
            end = came.end;
            serves = ap (λ (l : Link). l.server) (same_Some finds.link came.link (sym finds.link_is ∙ came.link_is))
                ∙ came.serves;
            its_node = came.its_node;
          }) was

      number_is : undecided.note.number ≡ suc (length listed.0)
      number_is = may.number ∙ add-one (length listed.0)

      -- an outcome under the next number is the change
      outcome_is : (outcome : Outcome)
          → change_at (listed.0 ++ may.change ∷ []) undecided.note.number ≡ Some (change.Outcome outcome)
          → may.change ≡ change.Outcome outcome
      outcome_is outcome at =
          same_Some may.change (change.Outcome outcome) (sym (get_last listed.0 may.change)
          ∙ ap (λ k. change_at (listed.0 ++ may.change ∷ []) k) (sym number_is) ∙ at)

      -- the outcome of an attempt
      found_outcome : (number place message : ℕ) (fate : Fate)
          → (fate ≡ Replied undecided.note.number) ⊎ (fate ≡ Lost undecided.note.number)
          → FindsOutcome old new number place undecided.note.used fate
          → (came : MayHaveEnded old node reopens.host listed.0 may.change undecided.note number place fate)
          → ((outcome : Outcome) → may.change ≡ change.Outcome outcome → outcome.message ≡ came.attempt.message)
          → new.ledger ≡ old.ledger ++ lines_by node undecided.note (FromReplies number place message)
          → HasSources new later
      found_outcome number place message fate ends finds came its ledger =
          recorded honest words old new lists later bound now grows goes node message number
          (report_told undecided.note.number undecided.note.report) undecided.note.left.items listed.0 may.change listed.1
          listed_now ledger (λ step p makes. inl (cause step p makes)) was
        where
          tried : IsTried old lists number came.link place
          tried = bound.clients number place came.link came.link_is came.client

          same_one : came.attempt ≡ finds.attempt
          same_one = same_Some came.attempt finds.attempt (sym came.attempt_at ∙ finds.attempt_at)

          cause : (step : PlaceStep) (p : ℕ)
              → Contains (steps_by listed.0 may.change)
              (Becomes step message p (report_told undecided.note.number undecided.note.report))
              → HasEndedOn new node message number (suc (length listed.0))
          cause step p makes =
              let one = made_by listed.0 may.change step message p
              (report_told undecided.note.number undecided.note.report) makes in
              record {
                at = place;
                attempt = record finds.attempt { fate = fate };
                is_there = finds.attempts.at;
                its_node = ap (λ (a : Attempt). a.node) (sym same_one) ∙ came.its_node;
                its_message = ap (λ (a : Attempt). a.message) (sym same_one) ∙ sym (its one.0 one.1) ∙ one.2;
                its_link = ap (λ (a : Attempt). a.link) (sym same_one)
                    ∙ ap (λ (a : Attempt). a.link)
                    (same_Some came.attempt tried.attempt (sym came.attempt_at ∙ tried.attempt_at))
                    ∙ tried.its_link;
                ended = subst (λ n. (fate ≡ Replied n) ⊎ (fate ≡ Lost n)) number_is ends;
              }

      -- places that were given up
      found_given_up : (message : ℕ) → undecided.origin ≡ FromGivingUp message
          → new.ledger ≡ old.ledger ++ lines_by node undecided.note (FromGivingUp message) → HasSources new later
      found_given_up message origin ledger =
          let none : GivesUpAlone asked node reopens.host.config.routes listed.0 undecided.note.octets =
          once.given_up node message reopens.host listed.0 reopens.disk undecided
          (record { host_at = reopens.host_at; list_at = listed.1 }) down origin in
          let valid : IsChange may.change =
          stored_fits (queue_of listed.0) may.change (last_fits listed.0 may.change may.fitting) in
          let same_one : none.one ≡ may.change =
          encoding_is_one none.one may.change none.valid valid (sym none.octets_are ∙ may.octets) in
          recorded honest words old new lists later bound now grows goes node message 0
          (report_told undecided.note.number undecided.note.report) undecided.note.left.items listed.0 may.change listed.1
          listed_now ledger
          (λ step p makes.
          let one = made_by listed.0 may.change step message p
          (report_told undecided.note.number undecided.note.report) makes in
          inr (
            refl,
            says_alone asked node reopens.host.config.routes listed.0 may.change one.0 one.1 (none.alone one.0 (same_one ∙ one.1)),
          ))
          was

      found_by : (origin : Origin) → undecided.origin ≡ origin → Finds old new undecided.note origin
          → MayHaveCome old node reopens.host listed.0 may.change undecided.note origin
          → new.ledger ≡ old.ledger ++ lines_by node undecided.note origin → HasSources new later
      found_by (FromClient number) is_origin finds came ledger = found_accept number finds came ledger
      found_by (FromReplies number place message) is_origin finds came ledger =
          let fate = came.with_it.fate in
          found_outcome number place message (Replied undecided.note.number) (inl refl) finds came
          (λ outcome is_one. ap (λ (o : Outcome). o.message)
          (same_outcome outcome _ (sym is_one ∙ outcome_is _ fate.1.2.found)))
          ledger
      found_by (FromLoss number place message) is_origin finds came ledger =
          let fate = came.with_it.fate in
          found_outcome number place message (Lost undecided.note.number) (inr refl) finds came
          (λ outcome is_one. ap (λ (o : Outcome). o.message)
          (same_outcome outcome _ (sym is_one ∙ outcome_is _ fate.1.2.found)))
          ledger
      found_by (FromGivingUp message) is_origin finds came ledger = found_given_up message is_origin ledger

      found_all : HasSources new later
      found_all = found_by undecided.origin refl found.finds may.came found.ledger

    decided : (undecided : Option Undecided) → reopens.undecided ≡ undecided
        → Decides old new node reopens.host reopens.after undecided → HasSources new later
    decided None is none = same none.ledger
    decided (Some undecided) is (inl none) = same none.1.ledger
    decided (Some undecided) is (inr its) = found_all undecided is its.1

    pub reopened : HasSources new later
    reopened = decided reopens.undecided refl reopens.decides
