-- One client more may stand, which may connect.
use Rattle.std.proofs.Common.{ap, subst}
use Rattle.std.specs.Net.Addr.{ipv4_octets}
use Rattle.relay_connections.specs.Welcome.{MayConnect, Rules}
use Rattle.relay_connections.proofs.WelcomeLemmas.{allowed_opened, served_connects}
use Rattle.relay_connections.proofs.clients.Clients.welcome.Goals as goal

pub returns-in_err-open-clause-allowed : goal.returns-in_err-open-clause-allowed
returns-in_err-open-clause-allowed g c =
    allowed_opened c.args.peer c.args.self.now c.open.new.self c.args.relay.now c.open.new.relay (ap (λ (it : Rules). it.allowed) c.open.ensures.rules)
    (subst (λ ip. MayConnect (ipv4_octets ip) c.args.self.now) c.ip.ensures (served_connects _ c.args.self.now c.refusal.result c.refusal.ensures c.in_default.not-Some))
    c.open.ensures.opens

pub returns-clause-allowed : goal.returns-clause-allowed
returns-clause-allowed g c =
    allowed_opened c.args.peer c.args.self.now c.open.new.self c.args.relay.now c.open.new.relay (ap (λ (it : Rules). it.allowed) c.open.ensures.rules)
    (subst (λ ip. MayConnect (ipv4_octets ip) c.args.self.now) c.ip.ensures (served_connects _ c.args.self.now c.refusal.result c.refusal.ensures c.in_default.not-Some))
    c.open.ensures.opens
