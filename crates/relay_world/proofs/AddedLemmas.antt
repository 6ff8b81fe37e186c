-- What change an event has added to a node's list, and whose outcome it is.
use Rattle.std.proofs.Common.{◌≡◌, ◌⊎◌, inl, inr, true, not, ℕ, Bool, List, [], ◌∷◌, ◌++◌, length, map, take, Option, None, Some, refl, sym, subst, ap, ◌∙◌, cond}
use Rattle.std.specs.Prelude.{slice_get}
use Rattle.std.specs.List.{Contains}
use Rattle.std.proofs.Math.Numerals.{add-one}
use Rattle.std.proofs.lemmas.List.{append_cancel_left}
use Rattle.std.proofs.lemmas.Option.{same_Some}
use Rattle.std.specs.Option.{is_some}
use Rattle.std.proofs.lemmas.Bool.{and_parts, false≢true}
use Rattle.relay_disk.specs.Device.{DiskWords}
use Rattle.relay_book.specs.declared.change.Change.{Change}
use Rattle.relay_book.specs.declared.change.Change.TheVariants as change
use Rattle.relay_book.specs.declared.change.Outcome.{Outcome}
use Rattle.relay_book.specs.declared.change.Ruling.{Ruling}
use Rattle.relay_book.specs.declared.change.Verdict.TheVariants.{NoRoute, Taken, Withdrawn}
use Rattle.relay_book.specs.declared.change.Withdrawal.{Withdrawal}
use Rattle.relay_book.specs.declared.fate.PlaceStep.{PlaceStep}
use Rattle.relay_book.specs.declared.message.Message.{Message}
use Rattle.relay_book.specs.Marks.{message_at, place_steps}
use Rattle.relay_book.specs.Queue.{Queue, message_of, queue_of}
use Rattle.relay_book.proofs.Theorems.{fold_knows}
use Rattle.relay_book.specs.Record.{encode}
use Rattle.relay_records.specs.declared.noted.Noted.{Noted}
use Rattle.relay_records.specs.Note.{IsNoted}
use Rattle.relay_routes.specs.declared.config.Config.{Config}
use Rattle.relay_course.specs.VerdictTable.{all_later}
use Rattle.relay_attempts.specs.AddedOutcome.{reported_as}
use Rattle.relay_routes.specs.Routes.{RouteTable}
use Rattle.relay_attempts.specs.Hops.{hop_of_place, is_stranded, stranded_places}
use Rattle.relay_attempts.specs.Outcomes.{rulings_of, unroutable, unrouted}
use Rattle.relay_attempts.specs.Withdrawals.{is_held_of, is_named, named_places, withdrawal_of, withdrawn}
use Rattle.relay_attempts.specs.Reply.{IsLost, Told, outcome_at}
use Rattle.relay_node.specs.Attempts.{RepliesBy, Tells}
use Rattle.relay_node.specs.Node.{NodeState}
use Rattle.relay_world.specs.declared.attempt.Fate.{Fate}
use Rattle.relay_world.specs.declared.attempt.Fate.TheVariants.{Lost, Replied}
use Rattle.relay_world.specs.declared.line.Line.TheVariants.{Accepted}
use Rattle.relay_world.specs.Bound.{HostKeeps, IsBound, IsListOf, NodeKeeps, told_by}
use Rattle.relay_world.specs.Ledger.{Accepts, Becomes, Step, steps_by, steps_in, steps_of}
use Rattle.relay_world.specs.GivingUp.{AddsGivenUp, NoHop, Postmaster, Reason, Withdrawing, asked_by, outcome_for}
use Rattle.relay_world.specs.Once.{EndsAlone, HasNoHops, IsTriedOnce, IsWithdrawal}
use Rattle.relay_world.specs.Steps.{AttemptOf, HasGivenUp, HasLost, HasRead, IsPut, RecordsHeard, RecordsRead, SessionOf, waiting_down, without_note}
use Rattle.relay_world.specs.World.{Host, Up, World}
use Rattle.relay_world.proofs.AmongLemmas.{found_in, in_first, in_found, of_map, ruled_by}
use Rattle.relay_world.proofs.AttemptLemmas.{KnowsAttempt, known}
use Rattle.relay_world.proofs.FrameLemmas.{steps_in_more, steps_more}
use Rattle.relay_world.proofs.GrowLemmas.{one_more, some_more}
use Rattle.relay_world.proofs.OpenLemmas.{list_there, node_kept}
use Rattle.relay_world.proofs.PassingLemmas.{none_taken}
use Rattle.relay_world.proofs.PlaceLemmas.{passing_there}
use Rattle.relay_world.proofs.PieceLemmas.{same_number}
use Rattle.relay_world.proofs.RecordLemmas.{HasTakenOutcome, TakesOutcome, outcome_added, outcome_taken}
use Rattle.relay_world.proofs.TakerLemmas.{AddsTo, HasTakers, ListsAdd, lists_put, lists_stay}
use Rattle.relay_report.specs.Report.{Reporter, reporter_of}

-- what leaves is no accept
pub none_accepts : (message report number places : ℕ) (left : List (ℕ × PlaceStep))
    → map (λ one. Becomes one.1 message one.0 report) left ≡ Accepts number places ∷ [] → ⊥
none_accepts message report number places [] same = cc
none_accepts message report number places (one ∷ left) same = cc

pub same_outcome : (one other : Outcome) → change.Outcome one ≡ change.Outcome other → one ≡ other
same_outcome one other same = cc

-- an outcome of a lost attempt says of no place that it was Taken
pub lost_takes_none : (places : List ℕ) (place : ℕ) (dsn : Bool)
    → Contains (rulings_of places (all_later places)) (record { place = place; verdict = Taken dsn }) → ⊥
lost_takes_none places place dsn has =
    let ruling : Ruling = record { place = place; verdict = Taken dsn } in
    let there = found_in (rulings_of places (all_later places)) ruling has in
    none_taken places there.0 dsn (ruled_by places (all_later places) there.0 ruling there.1).1

-- a place without a hop has none
no_hop : (hop : Option (List ℕ)) → not (is_some hop) ≡ true → hop ≡ None
no_hop None is = refl
no_hop (Some name) is = absurd (false≢true is)

stranded_there : (table : RouteTable) (message : Message) (place : ℕ) → Contains (stranded_places table message) place
    → hop_of_place table message.accept.envelope.recipients place ≡ None
stranded_there table message place has =
    let there = passing_there (is_stranded table message.accept.envelope.recipients) 0 message.places place has in
    no_hop (hop_of_place table message.accept.envelope.recipients place)
    (and_parts there.1.held (not (is_some (hop_of_place table message.accept.envelope.recipients place))) there.4).1

-- and the outcome by which a message's places without a hop are given up says so of each
pub stranded_no_hops : (table : RouteTable) (changes : List Change) (number at : ℕ) (message : Message) (report : List ℕ)
    (outcome : Outcome) → message_at changes number ≡ Some message.accept
    → reported_as (unroutable table number at message) report ≡ change.Outcome outcome → HasNoHops table changes outcome
stranded_no_hops table changes number at message report outcome accepted same =
    subst (λ o. HasNoHops table changes o)
    (same_outcome (record (unroutable table number at message) { report = report }) outcome same) (record {
      accept = message.accept;
      accepted = accepted;
      each = λ place verdict has.
          let ruling : Ruling = record { place = place; verdict = verdict } in
          let there = found_in (unrouted (stranded_places table message)) ruling has in
          let one = of_map (λ (p : ℕ). record { place = p; verdict = NoRoute }) (stranded_places table message) there.0 ruling
          there.1 in
          let its_place : one.0 ≡ place = ap (λ (r : Ruling). r.place) one.2 in (
            sym (ap (λ (r : Ruling). r.verdict) one.2),
            stranded_there table message place
                (subst (λ p. Contains (stranded_places table message) p) its_place
                (in_found (stranded_places table message) one.0 there.0 one.1)),
          );
    })

-- a place that is withdrawn is named
named_there : (names : List ℕ) (message : Message) (place : ℕ) → Contains (named_places names message) place
    → is_named names place ≡ true
named_there names message place has =
    let there = passing_there (is_held_of names) 0 message.places place has in
    (and_parts there.1.held (is_named names place) there.4).1

-- the postmaster has asked for it, if it is he
abbrev pub AsksBy : List Withdrawing → Reason → ℕ → ℕ → Type 0
AsksBy asked NoHop node message = Unit {0}
AsksBy asked (Postmaster withdrawal names) node message =
    Contains asked (record { node = node; message = message; withdrawal = withdrawal; names = names })

pub asks_itself : (reason : Reason) (node message : ℕ) (asked : List Withdrawing)
    → AsksBy (asked_by reason node message ++ asked) reason node message
asks_itself NoHop node message asked = tt
asks_itself (Postmaster withdrawal names) node message asked =
    in_first (record { node = node; message = message; withdrawal = withdrawal; names = names }) asked

-- the outcome by which the postmaster withdraws places says so of each
withdrawn_alone : (asked : List Withdrawing) (node : ℕ) (withdrawal : Withdrawal) (names : List ℕ) (number at : ℕ)
    (message : Message) (report : List ℕ) (outcome : Outcome)
    → Contains asked (record { node = node; message = number; withdrawal = withdrawal; names = names })
    → reported_as (withdrawal_of number at withdrawal names message) report ≡ change.Outcome outcome
    → IsWithdrawal asked node outcome
withdrawn_alone asked node withdrawal names number at message report outcome asks same =
    subst (λ o. IsWithdrawal asked node o)
    (same_outcome (record (withdrawal_of number at withdrawal names message) { report = report }) outcome same) (record {
      each = λ place verdict has.
          let ruling : Ruling = record { place = place; verdict = verdict } in
          let there = found_in (withdrawn withdrawal (named_places names message)) ruling has in
          let one = of_map (λ (p : ℕ). record { place = p; verdict = Withdrawn withdrawal }) (named_places names message)
          there.0 ruling there.1 in
          let its_place : one.0 ≡ place = ap (λ (r : Ruling). r.place) one.2 in (
            withdrawal,
            sym (ap (λ (r : Ruling). r.verdict) one.2),
            record {
              names = names;
              named = named_there names message place
                  (subst (λ p. Contains (named_places names message) p) its_place
                  (in_found (named_places names message) one.0 there.0 one.1));
              there = asks;
            },
          );
    })

-- so an outcome by which places are given up is without an attempt
pub given_up_alone : (asked : List Withdrawing) (node : ℕ) (reason : Reason) (table : RouteTable) (changes : List Change)
    (number at : ℕ) (message : Message) (report : List ℕ) (outcome : Outcome) → AsksBy asked reason node number
    → message_at changes number ≡ Some message.accept
    → reported_as (outcome_for reason table number at message) report ≡ change.Outcome outcome
    → EndsAlone asked node table changes outcome
given_up_alone asked node NoHop table changes number at message report outcome asks accepted same =
    inl (stranded_no_hops table changes number at message report outcome accepted same)
given_up_alone asked node (Postmaster withdrawal names) table changes number at message report outcome asks accepted same =
    inr (withdrawn_alone asked node withdrawal names number at message report outcome asks same)

pub noted_octets : (noted : Option Noted) (note : Noted) (changes : List Change) (one : Change) (used : ℕ) → noted ≡ Some note
    → IsNoted noted changes one used → note.octets ≡ encode one
noted_octets noted note changes one used is has =
    ap (λ (n : Noted). n.octets) (same_Some note has.note (sym is ∙ has.is)) ∙ has.octets

-- what a node that heard octets has recorded, and is now: nothing; or the accept of this number
abbrev pub HasTakenDown : {D : Type 0} → World D → World D → ℕ → ℕ → Host D → NodeState D → Option ℕ → Type 0
HasTakenDown old new node number host after None =
    IsPut old.hosts new.hosts node (record host { state = Up after }) × (new.ledger ≡ old.ledger)
HasTakenDown old new node number host after (Some change) =
    (noted : Noted)
    × IsPut old.hosts new.hosts node (record host { state = Up after; records = host.records ++ noted.octets ∷ [] })
    × (new.ledger ≡ old.ledger ++ Accepted node change noted.accepted number ∷ [])

-- a call whose note was taken leaves it so
abbrev pub left_by : {D : Type 0} → NodeState D → Option ℕ → NodeState D
left_by after None = after
left_by after (Some change) = without_note after

pub taken_down : {D : Type 0} (old new : World D) (node number : ℕ) (host : Host D) (after : NodeState D) (change : Option ℕ)
    → RecordsHeard old new node number host after change
    → HasTakenDown old new node number host (left_by after change) change
taken_down old new node number host after None records = records
taken_down old new node number host after (Some change) records = (records.0, records.2, records.3)

module _ {D : Type 0} (honest : Type 0) (words : DiskWords D) (old new : World D) (lists later : List (List Change))
    (bound : IsBound honest words old lists) {asked : List Withdrawing} (once : IsTriedOnce old lists asked) (now : IsBound honest words new later) where
  abbrev Adds : Type 0
  Adds = ListsAdd honest words old new lists later bound once now

  abbrev Takers : ℕ → List Change → Change → Type 0
  Takers node before one = HasTakers honest words old new lists later bound once now node before one

  -- a node's list has an outcome more, which was noted
  outcome_adds : (node : ℕ) (host : Host D) (after : NodeState D) (noted : Noted) (name : Reporter) (outcome : Outcome)
      (number : ℕ) (changes : List Change) → slice_get lists node ≡ Some changes → slice_get old.hosts node ≡ Some host
      → IsPut old.hosts new.hosts node
      (record host { state = Up after; records = host.records ++ noted.octets ∷ [] })
      → (takes : TakesOutcome honest words name changes outcome after.records number noted)
      → Takers node changes (reported_as outcome takes.report) → Adds
  outcome_adds node host after noted name outcome number changes list at put takes takers =
      let one : Change = reported_as outcome takes.report in
      lists_put honest words old new lists later bound once now node host
      (record host { state = Up after; records = host.records ++ noted.octets ∷ [] }) at put
      (λ before more first second is more_is.
      let same : changes ≡ before = same_Some changes before (sym list ∙ first) in
      subst (λ l. AddsTo honest words old new lists later bound once now node l more) same
      (inr (
        one,
        one_more host.records noted.octets changes more one (subst (λ l. IsListOf host.records l) (sym same) is)
            takes.keeps.fitting takes.octets more_is,
        takers,
      )))

  -- an attempt that has ended adds its outcome
  pub ended_adds : (number change_now : ℕ) (of : AttemptOf old number) (after : NodeState D) (fate : Fate)
      (noted : Noted) (name : Reporter) (outcome : Outcome) (changes : List Change)
      → slice_get lists of.attempt.node ≡ Some changes → (fate ≡ Replied change_now) ⊎ (fate ≡ Lost change_now)
      → TakesOutcome honest words name changes outcome after.records change_now noted
      → HasTakenOutcome old new number of after fate change_now noted → Adds
  ended_adds number change_now of after fate noted name outcome changes list ends takes taken =
      outcome_adds of.attempt.node of.host after noted name outcome change_now changes list of.host_at taken.hosts takes
      (λ outcome same host at. inl (record {
        at = of.place;
        attempt = record of.attempt { fate = fate };
        is_there = taken.attempts.at;
        its_node = refl;
        ended = subst (λ n. (fate ≡ Replied n) ⊎ (fate ≡ Lost n)) (takes.number_is ∙ add-one (length changes)) ends;
      }))

  -- what a node has heard adds an accept, or nothing
  pub heard_adds : (number : ℕ) (of : SessionOf old number) (after : NodeState D) (change_now : Option ℕ)
      → HasTakenDown old new of.end.node number of.host after change_now → Adds
  heard_adds number of after None records =
      lists_stay honest words old new lists later bound once now of.end.node of.host
      (record of.host { state = Up after }) of.host_at records.0 refl
  heard_adds number of after (Some change_now) records =
      lists_put honest words old new lists later bound once now of.end.node of.host
      (record of.host { state = Up after; records = of.host.records ++ records.0.octets ∷ [] }) of.host_at records.1
      (λ before more first second is more_is.
      let added = some_more of.host.records records.0.octets before more is more_is in
      inr (added.0, added.1, λ outcome same was at. absurd (by before more first second added.0 added.1 outcome same)))
    where
      by : (before more : List Change) → slice_get lists of.end.node ≡ Some before
          → slice_get later of.end.node ≡ Some more → (one : Change) → more ≡ before ++ one ∷ [] → (outcome : Outcome)
          → one ≡ change.Outcome outcome → ⊥
      by before more first second one is outcome same =
          let node : ℕ = of.end.node in
          let accept : Step = Accepts change_now records.0.accepted in
          let ledger : steps_in node new.ledger ≡ steps_in node old.ledger ++ accept ∷ [] =
          ap (λ l. steps_in node l) records.2
          ∙ steps_in_more node old.ledger (Accepted node change_now records.0.accepted number ∷ [])
          ∙ ap (λ b. steps_in node old.ledger ++ (cond b (accept ∷ []) [] ++ [])) (same_number node) in
          let steps : steps_of before ++ steps_by before one ≡ steps_of before ++ accept ∷ [] =
          sym (steps_more before one) ∙ sym (ap steps_of is) ∙ sym (now.ledger node more second) ∙ ledger
          ∙ ap (λ l. l ++ accept ∷ []) (bound.ledger node before first) in
          let only : steps_by before one ≡ accept ∷ [] = append_cancel_left (steps_of before) _ _ steps in
          none_accepts outcome.message _ change_now records.0.accepted (place_steps (queue_of before) (change.Outcome outcome))
          (ap (λ c. steps_by before c) (sym same) ∙ only)

  -- replies that have ended an attempt add its outcome
  pub read_adds : (number count : ℕ) (reads : HasRead honest words old new number count) → Adds
  read_adds number count reads = by reads.replied.change
      (reads.replies knows.changes told knows.its_node.keeps
      (subst (λ (c : Config). Tells c.host knows.changes reads.of.before.attempts reads.of.slot told)
      (sym knows.its_node.config_is) knows.tells)) reads.records
    where
      knows : KnowsAttempt honest words old lists number reads.of
      knows = known honest words old lists number bound reads.of

      told : Told
      told = told_by reads.of.attempt knows.was.accept (take reads.of.link.down_read reads.of.link.down) knows.was.output

      by : (made : Option ℕ)
          → RepliesBy honest words (reporter_of reads.of.before.config) old.clock knows.changes reads.of.slot told
          (waiting_down count reads.of.link) reads.of.before reads.after reads.replied made
          → RecordsRead old new number reads.of reads.after made → Adds
      by None on records =
          lists_stay honest words old new lists later bound once now reads.of.attempt.node reads.of.host
          (record reads.of.host { state = Up reads.after }) reads.of.host_at records.0 refl
      by (Some change_now) ended records =
          ended_adds number change_now reads.of (without_note reads.after) (Replied change_now) records.noted
          (reporter_of reads.of.before.config) (outcome_at old.clock told ended.verdicts) knows.changes knows.list_at (inl refl)
          (outcome_added honest words (reporter_of reads.of.before.config) knows.changes (outcome_at old.clock told ended.verdicts)
          reads.replied.used change_now reads.after records.noted records.note_is ended.adds)
          (outcome_taken old new number reads.of reads.after (Replied change_now) change_now records)

  -- the loss of an attempt adds an outcome by which each place may be tried again
  pub lost_adds : (number change_now : ℕ) (loses : HasLost honest words old new number change_now) → Adds
  lost_adds number change_now loses =
      ended_adds number change_now loses.of (without_note loses.after) (Lost change_now) loses.records.noted
      (reporter_of loses.of.before.config) (outcome_at old.clock told (all_later told.places)) knows.changes knows.list_at
      (inr refl)
      (outcome_added honest words (reporter_of loses.of.before.config) knows.changes
      (outcome_at old.clock told (all_later told.places)) 0 change_now loses.after loses.records.noted
      loses.records.note_is ended.adds)
      (outcome_taken old new number loses.of loses.after (Lost change_now) change_now loses.records)
    where
      knows : KnowsAttempt honest words old lists number loses.of
      knows = known honest words old lists number bound loses.of

      told : Told
      told = told_by loses.of.attempt knows.was.accept (take loses.of.link.down_read loses.of.link.down) knows.was.output

      ended : IsLost honest words (reporter_of loses.of.before.config) old.clock knows.changes loses.of.slot told
          loses.of.before.records loses.after.records loses.after.attempts change_now
      ended = loses.loses knows.changes told knows.its_node.keeps
          (subst (λ (c : Config). Tells c.host knows.changes loses.of.before.attempts loses.of.slot told)
          (sym knows.its_node.config_is) knows.tells)

  -- and places that are given up one without an attempt
  pub given_adds : (reason : Reason) (node message change_now : ℕ) → AsksBy asked reason node message → (gives : HasGivenUp honest words old new reason node message change_now) → Adds
  given_adds reason node message change_now asks gives =
      outcome_adds node gives.host (without_note gives.after) gives.noted (reporter_of gives.before.config)
      (outcome_for reason gives.before.config.routes message old.clock given_up.message) change_now listed.0 listed.1
      gives.host_at gives.hosts takes (λ outcome same was at. inr
      (subst (λ (c : Config). EndsAlone asked node c.routes listed.0 outcome)
      (its_node.config_is ∙ ap (λ (h : Host D). h.config) (same_Some gives.host was (sym gives.host_at ∙ at)))
      (given_up_alone asked node reason gives.before.config.routes listed.0 message old.clock given_up.message takes.report outcome asks
      (fold_knows listed.0 its_node.keeps.fitting message given_up.message
      (ap (λ (q : Queue). message_of q.messages message) (sym its_node.keeps.queue) ∙ given_up.found)).accept_is same)))
    where
      listed : (list : List Change) × (slice_get lists node ≡ Some list)
      listed = list_there old.hosts lists node gives.host bound.even gives.host_at

      kept : HostKeeps honest words gives.host listed.0
      kept = bound.hosts node gives.host listed.0 (record { host_at = gives.host_at; list_at = listed.1 })

      its_node : NodeKeeps honest words gives.host.config gives.before listed.0
      its_node = node_kept honest words gives.host listed.0 gives.before kept gives.up

      given_up : AddsGivenUp honest words (reporter_of gives.before.config) gives.before.config.routes reason message old.clock listed.0
          gives.before.records gives.after.records change_now
      given_up = gives.gives_up listed.0 its_node.keeps

      takes : TakesOutcome honest words (reporter_of gives.before.config) listed.0
          (outcome_for reason gives.before.config.routes message old.clock given_up.message) (without_note gives.after).records
          change_now gives.noted
      takes = outcome_added honest words (reporter_of gives.before.config) listed.0
          (outcome_for reason gives.before.config.routes message old.clock given_up.message) 0 change_now gives.after gives.noted
          gives.note_is given_up.adds
