use Rattle.std.proofs.Common.{◌≡◌, length, ap, ◌∙◌, arith, rules}
use Rattle.std.specs.Prelude.{slice_index_or, vec_len}
use Rattle.relay_world.specs.World.{Host}
use Rattle.relay_events.proofs.PlaceLemmas.{value_same}
use Rattle.relay_events.proofs.relays.Relays.address_of.Goals as goal

pub index-requires : goal.index-requires
index-requires g c =
    let within = c.requires in
    let len : length c.args.self.now.hosts.items ≡ vec_len c.args.self.now.hosts = search rules in
    omega (arith, within, len)

pub returns : goal.returns
returns g c host there =
    let its = c.index.result.now in
    let its_at : its ≡ slice_index_or c.args.self.now.hosts.items c.args.node its = search rules in
    let read : c.octets.result ≡ its.config.listen.ip.octets = search rules in
    read
    ∙ ap (λ (h : Host _). h.config.listen.ip.octets) (value_same c.args.self.now.hosts.items c.args.node host its there its_at)
