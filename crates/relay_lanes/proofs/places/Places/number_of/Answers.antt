-- The number that is found is that of the place, since its key is one to one.
use Rattle.std.proofs.Common.{◌≡◌, List, Some, nat_eq, sym, ap, ◌∙◌}
use Rattle.std.specs.Prelude.{slice_get}
use Rattle.std.specs.HashMap.{get}
use Rattle.std.specs.declared.net.socket_addr.SocketAddrV4.{SocketAddrV4}
use Rattle.relay_lanes.proofs.PlaceLemmas.{is_its_place}
use Rattle.relay_lanes.specs.Places.{key_of}
use Rattle.relay_lanes.proofs.places.Places.number_of.Goals as goal

pub returns-in-Some-clause-place : goal.returns-in-Some-clause-place
returns-in-Some-clause-place c =
    let there : get nat_eq c.self.inside.numbers (key_of c.args.at) ≡ Some c.in-Some.number.now = ap (get nat_eq c.self.inside.numbers) (sym c.key_of-key.ensures.key) ∙ sym c.in-Some.ensures.value in
    ap (λ (places : List SocketAddrV4). slice_get places c.in-Some.number.now) (sym c.self.view_is) ∙ is_its_place c.self.inside.numbers c.self.inside.places.items c.self.invariant c.args.at c.in-Some.number.now c.key_of-key.ensures.fits there
