-- Clients are served, and the replies of next hops leave them alone.
use Rattle.std.proofs.Common.{◌≡◌, ap, refl, subst, ◌∙◌}
use Rattle.relay_loop.specs.Relay.{RelayState}
use Rattle.relay_connections.specs.Readiness.{clients_of}
use Rattle.relay_connections.specs.Served.{LeavesClients}
use Rattle.relay_connections.specs.declared.clients.Clients.{Clients}
use Rattle.relay_run.specs.declared.shell.Shell.{Shell}
use Rattle.relay_run.proofs.HopsLemmas.{hears_gathered, hops_on, hops_same, hops_still}
use Rattle.relay_run.proofs.ServedLemmas.{after_same, left_after}
use Rattle.relay_run.proofs.shell.Shell.exchange.Goals as goal
use Rattle.relay_run.proofs.shell.Shell.exchange.Goals.{then-intake, else-intake, then-intake-2, else-intake-2}

pub returns-clause-served : goal.returns-clause-served
returns-clause-served g c = λ changes setting served.
    let honest = g.D.Disk.honest in
    let words = g.D.Disk.words in
    let remaining = g.S.Stream.remaining in
    let contents = g.S.Stream.contents in
    let noted = c.if-intake.self in
    let resumed = c.if-intake-2.self in
    let first : (noted.clients ≡ c.hear.new.clients) × (noted.relay ≡ c.hear.new.relay) = elim c.if-intake.branch [
      | then-intake w ↦ (ap (λ (it : Shell _ _ _). it.clients) w.self-is, ap (λ (it : Shell _ _ _). it.relay) w.self-is)
      | else-intake w ↦ (ap (λ (it : Shell _ _ _). it.clients) w.self-is, ap (λ (it : Shell _ _ _). it.relay) w.self-is)
    ] in
    let second : (resumed.clients ≡ noted.clients) × (resumed.relay ≡ noted.relay) = elim c.if-intake-2.branch [
      | then-intake-2 w ↦ (ap (λ (it : Shell _ _ _). it.clients) w.self-is, ap (λ (it : Shell _ _ _). it.relay) w.self-is)
      | else-intake-2 w ↦ (ap (λ (it : Shell _ _ _). it.clients) w.self-is, ap (λ (it : Shell _ _ _). it.relay) w.self-is)
    ] in
    let leaves : LeavesClients honest words c.hear.new.relay c.answer.new.relay = subst (λ (it : RelayState _). LeavesClients honest words it c.answer.new.relay) (second.1 ∙ first.1) c.in_ok-closed.ensures.leaves in
    after_same honest words remaining contents changes setting (clients_of c.hear.new.clients) (clients_of c.note_ends.new.self.clients) c.answer.new.relay c.note_ends.new.self.relay
    (ap (λ (it : Clients _). clients_of it) (c.note_ends.ensures.same.1 ∙ second.0 ∙ first.0)) c.note_ends.ensures.same.0
    (left_after honest words remaining contents changes setting (clients_of c.hear.new.clients) c.hear.new.relay c.answer.new.relay (c.in_ok-intake.ensures.served changes setting served) leaves)

-- The tables match as before.
pub returns-clause-matches : goal.returns-clause-matches
returns-clause-matches g c = λ matches.
    let noted = c.if-intake.self in
    let resumed = c.if-intake-2.self in
    let first : (noted.next_hops ≡ c.args.self.now.next_hops) × (noted.relay ≡ c.hear.new.relay) = elim c.if-intake.branch [
      | then-intake w ↦ (ap (λ (it : Shell _ _ _). it.next_hops) w.self-is, ap (λ (it : Shell _ _ _). it.relay) w.self-is)
      | else-intake w ↦ (ap (λ (it : Shell _ _ _). it.next_hops) w.self-is, ap (λ (it : Shell _ _ _). it.relay) w.self-is)
    ] in
    let second : (resumed.next_hops ≡ noted.next_hops) × (resumed.relay ≡ noted.relay) = elim c.if-intake-2.branch [
      | then-intake-2 w ↦ (ap (λ (it : Shell _ _ _). it.next_hops) w.self-is, ap (λ (it : Shell _ _ _). it.relay) w.self-is)
      | else-intake-2 w ↦ (ap (λ (it : Shell _ _ _). it.next_hops) w.self-is, ap (λ (it : Shell _ _ _). it.relay) w.self-is)
    ] in
    let heard = hops_same c.args.self.now.next_hops c.args.self.now.next_hops c.args.self.now.relay c.hear.new.relay refl c.hear.ensures.config matches in
    hops_still c.answer.new.self c.note_ends.new.self.next_hops c.answer.new.relay c.note_ends.new.self.relay c.note_ends.ensures.same.2 c.note_ends.ensures.same.0
    (hops_on resumed.next_hops c.answer.new.self resumed.relay c.answer.new.relay c.in_ok-closed.ensures.leaves.config c.in_ok-closed.ensures.matches
    (hops_still c.args.self.now.next_hops resumed.next_hops c.hear.new.relay resumed.relay (second.0 ∙ first.0) (second.1 ∙ first.1) heard))

-- Attempts heard their own, and the results went to their connections.
pub returns-clause-hears : goal.returns-clause-hears
returns-clause-hears g c =
    let noted = c.if-intake.self in
    let resumed = c.if-intake-2.self in
    let first : (noted.next_hops ≡ c.args.self.now.next_hops) × (noted.relay ≡ c.hear.new.relay) = elim c.if-intake.branch [
      | then-intake w ↦ (ap (λ (it : Shell _ _ _). it.next_hops) w.self-is, ap (λ (it : Shell _ _ _). it.relay) w.self-is)
      | else-intake w ↦ (ap (λ (it : Shell _ _ _). it.next_hops) w.self-is, ap (λ (it : Shell _ _ _). it.relay) w.self-is)
    ] in
    let second : (resumed.next_hops ≡ noted.next_hops) × (resumed.relay ≡ noted.relay) = elim c.if-intake-2.branch [
      | then-intake-2 w ↦ (ap (λ (it : Shell _ _ _). it.next_hops) w.self-is, ap (λ (it : Shell _ _ _). it.relay) w.self-is)
      | else-intake-2 w ↦ (ap (λ (it : Shell _ _ _). it.next_hops) w.self-is, ap (λ (it : Shell _ _ _). it.relay) w.self-is)
    ] in
    hears_gathered g.D.Disk.honest g.D.Disk.words c.args.now.now.moment c.args.now.now.tick c.args.self.now.next_hops resumed.next_hops c.answer.new.self c.note_ends.new.self.next_hops
    c.args.self.now.relay c.hear.new.relay resumed.relay c.answer.new.relay c.note_ends.new.self.relay _ (λ replies. replies.items) c.replies-gathered.result c.replies-gathered.ensures
    c.in_ok-intake.ensures.heard c.in_ok-intake.ensures.unheard (second.0 ∙ first.0) (second.1 ∙ first.1) c.in_ok-closed.ensures.heard c.in_ok-closed.ensures.leaves
    c.note_ends.ensures.same.2 c.note_ends.ensures.same.0
