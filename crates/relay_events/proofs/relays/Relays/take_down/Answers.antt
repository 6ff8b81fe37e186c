use Rattle.std.proofs.Common.{inl, inr, ◌≡◌, ◌<◌, length, refl, ap, ◌∙◌, rules}
use Rattle.std.specs.Prelude.{slice_index_or}
use Rattle.std.specs.List.{insert, remove}
use Rattle.std.proofs.lemmas.Option.{slice_get_read}
use Rattle.relay_world.specs.Crashes.{let_go}
use Rattle.relay_events.specs.Relays.{world_of}
use Rattle.relay_events.proofs.PutLemmas.{back_in}
use Rattle.relay_events.proofs.relays.Relays.take_down.Goals as goal

pub returns-then-is_up-clause-world : goal.returns-then-is_up-clause-world
returns-then-is_up-clause-world g c =
    let old = world_of c.args.self.now in
    let hosts = c.args.self.now.hosts.items in
    let node = c.args.node in
    let was = c.remove-host.result in
    let now = c.stop-host.result in
    let at : was ≡ slice_index_or hosts node was = search rules in
    let within : node < length hosts = search rules in
    let again : c.insert.new.self.items ≡ insert (remove hosts node) node now = search rules in
    let set = again ∙ back_in hosts node now within in
    record {
      was = was;
      was_at = slice_get_read hosts (length hosts) node was refl within at;
      now = now;
      stops = inl (c.stop-host.ensures, c.let_go.ensures.world ∙ ap (λ hs. let_go node (record old { hosts = hs })) set);
    }

pub returns-clause-world : goal.returns-clause-world
returns-clause-world g c =
    let old = world_of c.args.self.now in
    let hosts = c.args.self.now.hosts.items in
    let node = c.args.node in
    let was = c.remove-host.result in
    let now = c.stop_again-host.result in
    let at : was ≡ slice_index_or hosts node was = search rules in
    let within : node < length hosts = search rules in
    let again : c.insert-2.new.self.items ≡ insert (remove hosts node) node now = search rules in
    let set = again ∙ back_in hosts node now within in
    record {
      was = was;
      was_at = slice_get_read hosts (length hosts) node was refl within at;
      now = now;
      stops = inr (c.stop_again-host.ensures, ap (λ hs. record old { hosts = hs }) set);
    }
