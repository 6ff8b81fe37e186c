-- Clients came; then the calls for next hops left them alone, and they were served.
use Rattle.std.proofs.Common.{◌≡◌, ap}
use Rattle.relay_connections.specs.Readiness.{clients_of}
use Rattle.relay_connections.specs.declared.clients.Clients.{Clients}
use Rattle.relay_run.specs.Hops.{HopsMatch}
use Rattle.relay_run.specs.declared.shell.Shell.{Shell}
use Rattle.relay_run.proofs.ServedLemmas.{after_same, after_then, turned}
use Rattle.relay_run.proofs.HopsLemmas.{hops_same, hops_still}
use Rattle.relay_run.proofs.shell.Shell.turn.Goals as goal
use Rattle.relay_run.proofs.shell.Shell.turn.Goals.{then-serve-gt0, else-serve-gt0}

pub returns-clause-served : goal.returns-clause-served
returns-clause-served g c = λ changes setting served.
    let honest = g.D.Disk.honest in
    let words = g.D.Disk.words in
    let remaining = g.S.Stream.remaining in
    let contents = g.S.Stream.contents in
    let came = c.admit.new.self in
    let attended = c.attend_to_next_hops.new.self in
    let exchanged = c.exchange.new.self in
    let left = c.if-serve-gt0.self in
    let last = c.begin.new.self in
    let same : (left.clients ≡ exchanged.clients) × (left.relay ≡ exchanged.relay) = elim c.if-serve-gt0.branch [
      | then-serve-gt0 w ↦ (ap (λ (it : Shell _ _ _). it.clients) w.self-is, ap (λ (it : Shell _ _ _). it.relay) w.self-is)
      | else-serve-gt0 w ↦ (ap (λ (it : Shell _ _ _). it.clients) w.self-is, ap (λ (it : Shell _ _ _). it.relay) w.self-is)
    ] in
    turned honest words remaining contents c.begin.result changes setting (clients_of c.args.self.now.clients) (clients_of came.clients) (clients_of left.clients) (clients_of last.clients)
    came.relay left.relay last.relay (c.in_ok-admit.ensures.served changes setting served)
    (λ setting served.
    after_same honest words remaining contents changes setting (clients_of exchanged.clients) (clients_of left.clients) exchanged.relay left.relay
    (ap (λ (it : Clients _). clients_of it) same.0) same.1
    (after_then honest words remaining contents changes setting (clients_of attended.clients) (clients_of exchanged.clients) attended.relay exchanged.relay
    (c.in_ok-attend_to_next_hops.ensures.served changes setting served) (λ changes served. c.in_ok-exchange.ensures.served changes setting served)))
    (λ changes setting served. c.begin.ensures.served changes setting served)

-- The tables match after each of the calls.
pub returns-clause-matches : goal.returns-clause-matches
returns-clause-matches g c = λ matches.
    let came = c.admit.new.self in
    let exchanged = c.exchange.new.self in
    let left = c.if-serve-gt0.self in
    let before = hops_same c.args.self.now.next_hops came.next_hops c.args.self.now.relay came.relay c.admit.ensures.hops c.admit.ensures.config matches in
    let heard = c.in_ok-exchange.ensures.matches (c.in_ok-attend_to_next_hops.ensures.matches before) in
    let noted : HopsMatch left.next_hops left.relay = elim c.if-serve-gt0.branch [
      | then-serve-gt0 w ↦
          hops_still w.note_leaving.new.self left.next_hops exchanged.relay left.relay (ap (λ (it : Shell _ _ _). it.next_hops) w.self-is) (ap (λ (it : Shell _ _ _). it.relay) w.self-is)
          (w.note_leaving.ensures.matches exchanged.relay.node.config.routes.routes heard)
      | else-serve-gt0 w ↦
          hops_still exchanged.next_hops left.next_hops exchanged.relay left.relay (ap (λ (it : Shell _ _ _). it.next_hops) w.self-is) (ap (λ (it : Shell _ _ _). it.relay) w.self-is) heard
    ] in
    c.begin.ensures.matches noted
