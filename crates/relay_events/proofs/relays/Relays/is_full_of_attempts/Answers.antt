use Rattle.std.proofs.Common.{◌≡◌, ◌↔◌, length, subst, arith, rules}
use Rattle.std.specs.Prelude.{IsTrue, slice_index_or, vec_len}
use Rattle.relay_slots.specs.Slots.{IsFull}
use Rattle.relay_world.specs.World.{Host}
use Rattle.relay_hosts.specs.Work.{attempts_in}
use Rattle.relay_events.proofs.PlaceLemmas.{value_same}
use Rattle.relay_events.proofs.relays.Relays.is_full_of_attempts.Goals as goal

pub index-requires : goal.index-requires
index-requires g c =
    let within = c.requires in
    let len : length c.args.self.now.hosts.items ≡ vec_len c.args.self.now.hosts = search rules in
    omega (arith, within, len)

pub returns : goal.returns
returns g c host there =
    let its = c.index.result.now in
    let its_at : its ≡ slice_index_or c.args.self.now.hosts.items c.args.node its = search rules in
    subst (λ (h : Host _). IsTrue c.is_full_of_attempts.result ↔ IsFull (attempts_in h.state))
    (value_same c.args.self.now.hosts.items c.args.node host its there its_at) c.is_full_of_attempts.ensures
