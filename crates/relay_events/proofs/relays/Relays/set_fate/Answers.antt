use Rattle.std.proofs.Common.{◌≡◌, length, ap, arith, rules}
use Rattle.std.specs.Prelude.{slice_index_or, slice_set, vec_len}
use Rattle.relay_world.specs.declared.attempt.Attempt.{Attempt}
use Rattle.relay_world.specs.World.{World}
use Rattle.relay_events.specs.Relays.{world_of}
use Rattle.relay_events.proofs.PlaceLemmas.{value_same}
use Rattle.relay_events.proofs.relays.Relays.set_fate.Goals as goal

pub index_mut-requires : goal.index_mut-requires
index_mut-requires g c =
    let within = c.requires in
    let len : length c.args.self.now.attempts.items ≡ vec_len c.args.self.now.attempts = search rules in
    omega (arith, within, len)

pub returns-clause-world : goal.returns-clause-world
returns-clause-world g c attempt there =
    let old = world_of c.args.self.now in
    let read = c.index_mut.result.now in
    let at : read ≡ slice_index_or old.attempts c.args.place read = search rules in
    ap (λ (a : Attempt). let next : World _ = record old {
      attempts = slice_set old.attempts c.args.place (record a { fate = c.args.fate });
    } in next) (value_same old.attempts c.args.place attempt read there at)
