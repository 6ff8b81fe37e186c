-- Clients are left alone and the tables match, whether attempts begin or not.
use Rattle.std.proofs.Common.{sym, subst}
use Rattle.relay_connections.specs.Readiness.{clients_of}
use Rattle.relay_connections.proofs.Theorems.{left_are_served}
use Rattle.relay_routes.specs.declared.config.Config.{Config}
use Rattle.relay_next_hops.specs.Tables.{TablesMatch}
use Rattle.relay_run.proofs.ServedLemmas.{after_none}
use Rattle.relay_run.proofs.shell.Shell.begin.Goals as goal

pub returns-then-not-may_start-clause-served : goal.returns-then-not-may_start-clause-served
returns-then-not-may_start-clause-served g c = λ changes setting served.
    after_none g.D.Disk.honest g.D.Disk.words g.S.Stream.remaining g.S.Stream.contents changes setting (clients_of c.args.self.now.clients) c.args.self.now.relay served

pub returns-then-gave_up-clause-served : goal.returns-then-gave_up-clause-served
returns-then-gave_up-clause-served g c = λ changes setting served.
    left_are_served g.D.Disk.honest g.D.Disk.words g.S.Stream.remaining g.S.Stream.contents changes setting (clients_of c.args.self.now.clients) c.args.self.now.relay c.begin.new.relay c.in_ok-gave_up.ensures.leaves served

pub returns-else-gave_up-clause-served : goal.returns-else-gave_up-clause-served
returns-else-gave_up-clause-served g c = λ changes setting served.
    left_are_served g.D.Disk.honest g.D.Disk.words g.S.Stream.remaining g.S.Stream.contents changes setting (clients_of c.args.self.now.clients) c.args.self.now.relay c.begin.new.relay c.in_ok-gave_up.ensures.leaves served

pub returns-then-gave_up-clause-matches : goal.returns-then-gave_up-clause-matches
returns-then-gave_up-clause-matches g c = λ matches.
    let routes = c.args.self.now.relay.node.config.routes.routes in
    subst (λ (config : Config). TablesMatch config.routes.routes c.look_ahead.new.self) (sym c.begin.ensures.config)
    (c.look_ahead.ensures.matches routes (c.in_ok-gave_up.ensures.matches (c.list.ensures.matches routes matches)))

pub returns-else-gave_up-clause-matches : goal.returns-else-gave_up-clause-matches
returns-else-gave_up-clause-matches g c = λ matches.
    let routes = c.args.self.now.relay.node.config.routes.routes in
    subst (λ (config : Config). TablesMatch config.routes.routes c.look_ahead.new.self) (sym c.begin.ensures.config)
    (c.look_ahead.ensures.matches routes (c.in_ok-gave_up.ensures.matches (c.list.ensures.matches routes matches)))
