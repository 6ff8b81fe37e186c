-- All are served after each call of the turn.
use Rattle.std.proofs.Common.{◌≡◌, [], ◌++◌, None, sym, ap, ◌∙◌, subst}
use Rattle.std.proofs.lemmas.Bool.{false≢true}
use Rattle.relay_connections.specs.Hears.{LosesOne, OneMayHear}
use Rattle.relay_connections.specs.Leaving.{ClientsJoin, leavers_of}
use Rattle.relay_connections.specs.Readiness.{clients_of}
use Rattle.relay_connections.specs.Replies.{HearRepliesIf}
use Rattle.relay_connections.specs.Served.{AreServedAfter}
use Rattle.relay_connections.specs.Renewal.{AllWait}
use Rattle.relay_connections.specs.Welcome.{rules_of}
use Rattle.relay_connections.proofs.CarriedLemmas.{more_join}
use Rattle.relay_connections.proofs.HearsLemmas.{loses_one, one_is_heard, them_if}
use Rattle.relay_connections.proofs.RepliesLemmas.{heard_after, heard_before, heard_none, only_mail}
use Rattle.relay_connections.proofs.ServedLemmas.{served_at_once, served_after}
use Rattle.relay_connections.proofs.WaitLemmas.{all_then}
use Rattle.relay_connections.proofs.clients.Clients.serve.Goals as goal
use Rattle.relay_connections.proofs.clients.Clients.serve.Goals.{then-hears+in_ok-_none+in-Some-1, then-hears+in_ok-_none+in-None-1, else-hears}

pub returns-then-is_empty-clause-served : goal.returns-then-is_empty-clause-served
returns-then-is_empty-clause-served g c = λ changes setting served.
    let first = c.in_ok-hears.ensures.served changes setting served in
    (served_at_once g.D.Disk.honest g.D.Disk.words g.S.Stream.remaining g.S.Stream.contents changes setting c.read_each.new.self.clients c.read_each.new.relay first.0, first.1)

pub returns-clause-served : goal.returns-clause-served
returns-clause-served g c = λ changes setting served.
    let first = c.in_ok-hears.ensures.served changes setting served in
    let second = c.in_ok-hears-2.ensures.served changes setting first.0 in
    let joined = more_join g.S.Stream.remaining g.S.Stream.contents setting c.args.leaving.now.leavers c.read_each.new.leaving.leavers c.hear.new.leaving.leavers first.1 second.1 in
    elim c.if-hears.branch [
      | then-hears+in_ok-_none+in-Some-1 w ↦
          let third = w.in_ok-_none.ensures.served (changes ++ second.0.added) setting second.0.served in (
            subst (λ self. AreServedAfter g.D.Disk.honest g.D.Disk.words g.S.Stream.remaining g.S.Stream.contents changes setting (clients_of self) c.if-hears.relay) (sym w.self-is)
                (subst (λ relay. AreServedAfter g.D.Disk.honest g.D.Disk.words g.S.Stream.remaining g.S.Stream.contents changes setting (clients_of w.hear-then-hears.new.self) relay) (sym w.relay-is)
                (served_after g.D.Disk.honest g.D.Disk.words g.S.Stream.remaining g.S.Stream.contents changes setting second.0.added w.hear-then-hears.new.self.clients w.hear-then-hears.new.relay third.0)),
            subst (λ leaving. ClientsJoin g.S.Stream.remaining g.S.Stream.contents setting c.args.leaving.now.leavers (leavers_of leaving)) (sym w.leaving-is)
                (more_join g.S.Stream.remaining g.S.Stream.contents setting c.args.leaving.now.leavers c.hear.new.leaving.leavers w.hear-then-hears.new.leaving.leavers joined third.1),
          )
      | then-hears+in_ok-_none+in-None-1 w ↦
          let third = w.in_ok-_none.ensures.served (changes ++ second.0.added) setting second.0.served in (
            subst (λ self. AreServedAfter g.D.Disk.honest g.D.Disk.words g.S.Stream.remaining g.S.Stream.contents changes setting (clients_of self) c.if-hears.relay) (sym w.self-is)
                (subst (λ relay. AreServedAfter g.D.Disk.honest g.D.Disk.words g.S.Stream.remaining g.S.Stream.contents changes setting (clients_of w.hear-then-hears.new.self) relay) (sym w.relay-is)
                (served_after g.D.Disk.honest g.D.Disk.words g.S.Stream.remaining g.S.Stream.contents changes setting second.0.added w.hear-then-hears.new.self.clients w.hear-then-hears.new.relay third.0)),
            subst (λ leaving. ClientsJoin g.S.Stream.remaining g.S.Stream.contents setting c.args.leaving.now.leavers (leavers_of leaving)) (sym w.leaving-is)
                (more_join g.S.Stream.remaining g.S.Stream.contents setting c.args.leaving.now.leavers c.hear.new.leaving.leavers w.hear-then-hears.new.leaving.leavers joined third.1),
          )
      | else-hears w ↦ (
        subst (λ self. AreServedAfter g.D.Disk.honest g.D.Disk.words g.S.Stream.remaining g.S.Stream.contents changes setting (clients_of self) c.if-hears.relay) (sym w.self-is)
            (subst (λ relay. AreServedAfter g.D.Disk.honest g.D.Disk.words g.S.Stream.remaining g.S.Stream.contents changes setting (clients_of c.hear.new.self) relay) (sym w.relay-is) second.0),
        subst (λ leaving. ClientsJoin g.S.Stream.remaining g.S.Stream.contents setting c.args.leaving.now.leavers (leavers_of leaving)) (sym w.leaving-is) joined,
      )
    ]

-- Attempts hear their replies in the first call, and nothing in the second.
pub returns-then-is_empty-clause-heard : goal.returns-then-is_empty-clause-heard
returns-then-is_empty-clause-heard g c = only_mail [] c.args.relay.now c.read_each.new.relay c.read_each.ensures.mail

pub returns-clause-heard : goal.returns-clause-heard
returns-clause-heard g c =
    let at = c.args.now.now.moment in
    let heard = heard_after g.D.Disk.honest g.D.Disk.words c.args.replies.now at c.args.relay.now c.read_each.new.relay c.hear.new.relay c.in_ok-hears-2.replied c.read_each.ensures.mail c.in_ok-hears-2.ensures.heard in
    elim c.if-hears.branch [
      | then-hears+in_ok-_none+in-Some-1 w ↦
          subst (λ relay. HearRepliesIf g.D.Disk.honest g.D.Disk.words c.args.replies.now at c.args.relay.now relay c.in_ok-hears-2.replied) (sym w.relay-is)
          (heard_before g.D.Disk.honest g.D.Disk.words c.args.replies.now at c.args.relay.now c.hear.new.relay w.hear-then-hears.new.relay c.in_ok-hears-2.replied heard
          (heard_none g.D.Disk.honest g.D.Disk.words at c.hear.new.relay w.hear-then-hears.new.relay _ w.in_ok-_none.ensures.heard))
      | then-hears+in_ok-_none+in-None-1 w ↦
          subst (λ relay. HearRepliesIf g.D.Disk.honest g.D.Disk.words c.args.replies.now at c.args.relay.now relay c.in_ok-hears-2.replied) (sym w.relay-is)
          (heard_before g.D.Disk.honest g.D.Disk.words c.args.replies.now at c.args.relay.now c.hear.new.relay w.hear-then-hears.new.relay c.in_ok-hears-2.replied heard
          (heard_none g.D.Disk.honest g.D.Disk.words at c.hear.new.relay w.hear-then-hears.new.relay _ w.in_ok-_none.ensures.heard))
      | else-hears w ↦ subst (λ relay. HearRepliesIf g.D.Disk.honest g.D.Disk.words c.args.replies.now at c.args.relay.now relay c.in_ok-hears-2.replied) (sym w.relay-is) heard
    ]

-- Those that may hear something do so in the first call, or memory runs out, and one is closed.
pub returns-then-is_empty-clause-hears : goal.returns-then-is_empty-clause-hears
returns-then-is_empty-clause-hears g c = λ one. absurd (false≢true (sym c.if-not-hears.true ∙ c.in_ok-hears.ensures.one one))

pub returns-clause-hears : goal.returns-clause-hears
returns-clause-hears g c =
    let reads = c.in_ok-hears.ensures.hear in
    let silent = λ (none : c.in_ok-hears-2.replied ≡ None) (one : OneMayHear c.args.relay.now c.args.self.now.clients).
    loses_one c.args.self.now.clients c.read_each.new.self.clients c.hear.new.self.clients c.in_ok-hears.ensures.none
    (c.in_ok-hears-2.ensures.closes one.number (one_is_heard c.args.relay.now c.read_each.new.relay c.args.self.now.clients c.read_each.new.self.clients one reads) none) in
    them_if g.D.Disk.honest g.D.Disk.words c.args.self.now.clients c.read_each.new.self.clients c.if-hears.self.clients c.args.replies.now c.args.now.now.moment c.args.relay.now c.read_each.new.relay c.in_ok-hears-2.replied reads c.in_ok-hears-2.ensures.all
    (λ none. elim c.if-hears.branch [
      | then-hears+in_ok-_none+in-Some-1 w ↦ λ one. absurd (false≢true (sym (c.in_ok-hears-2.ensures.nobody none) ∙ w.if-hears.true))
      | then-hears+in_ok-_none+in-None-1 w ↦ λ one. absurd (false≢true (sym (c.in_ok-hears-2.ensures.nobody none) ∙ w.if-hears.true))
      | else-hears w ↦ λ one. subst (λ self. LosesOne c.args.self.now.clients (clients_of self)) (sym w.self-is) (silent none one)
    ])

-- The rules stay in each part of a turn, and so does whether few places are left.
pub returns-clause-rules : goal.returns-clause-rules
returns-clause-rules g c =
    let first = c.in_ok-hears-2.ensures.turn ∙ c.in_ok-hears.ensures.turn in
    elim c.if-hears.branch [
      | then-hears+in_ok-_none+in-Some-1 w ↦ ap (λ self. rules_of self) w.self-is ∙ ap (λ turn. turn.rules) (w.in_ok-_none.ensures.turn ∙ first)
      | then-hears+in_ok-_none+in-None-1 w ↦ ap (λ self. rules_of self) w.self-is ∙ ap (λ turn. turn.rules) (w.in_ok-_none.ensures.turn ∙ first)
      | else-hears w ↦ ap (λ self. rules_of self) w.self-is ∙ ap (λ turn. turn.rules) first
    ]

-- How long each client may be idle from then on.
pub returns-clause-waits : goal.returns-clause-waits
returns-clause-waits g c =
    let tick = c.args.now.now.tick in
    let turn = c.in_ok-hears-2.ensures.turn ∙ c.in_ok-hears.ensures.turn in
    let first = all_then tick (record c.args.self.now { is_crowded = _ }) c.read_each.new.self c.hear.new.self c.in_ok-hears.ensures.turn c.in_ok-hears.ensures.waits c.in_ok-hears-2.ensures.waits in
    elim c.if-hears.branch [
      | then-hears+in_ok-_none+in-Some-1 w ↦ subst (AllWait tick c.args.self.now) (sym w.self-is) (all_then tick (record c.args.self.now { is_crowded = _ }) c.hear.new.self w.hear-then-hears.new.self turn first w.in_ok-_none.ensures.waits)
      | then-hears+in_ok-_none+in-None-1 w ↦ subst (AllWait tick c.args.self.now) (sym w.self-is) (all_then tick (record c.args.self.now { is_crowded = _ }) c.hear.new.self w.hear-then-hears.new.self turn first w.in_ok-_none.ensures.waits)
      | else-hears w ↦ subst (AllWait tick c.args.self.now) (sym w.self-is) first
    ]
