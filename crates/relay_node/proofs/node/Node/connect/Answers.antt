-- A session that was just made stands after its greeting.
use Rattle.std.proofs.Common.{refl, sym, subst}
use Rattle.relay_server.specs.Setup.{setup_for}
use Rattle.relay_node.specs.Node.{SessionHasSaid, greeted_by}
use Rattle.relay_node.proofs.NodeLemmas.{all_have_histories, says_at}
use Rattle.relay_slots.proofs.Theorems.{others_of_set}
use Rattle.relay_node.proofs.node.Node.connect.Goals as goal

pub invariant_of-self : goal.invariant_of-self
invariant_of-self g c =
    let config = c.self.inside.config in
    let made = c.in-Ok.ensures in
    let made_says : SessionHasSaid (setup_for config c.args.peer) c.in-Ok.session (greeted_by c.in-Ok.out.items) = record { stands = made.stands (setup_for config c.args.peer) refl refl refl refl; settled = made.settled } in
    let says : SessionHasSaid (setup_for config c.args.peer) c.in-Ok-new.session.value (greeted_by c.in-Ok.out.items) = subst (λ session. SessionHasSaid (setup_for config c.args.peer) session (greeted_by c.in-Ok.out.items)) (sym c.in-Ok-new.ensures.ok) made_says in
    (all_have_histories config c.self.inside.seats _ c.in-Some.number _ c.put.ensures c.self.invariant.0 (greeted_by c.in-Ok.out.items, says), c.self.invariant.1)

pub returns-clause-connects : goal.returns-clause-connects
returns-clause-connects g c = rw (← c.self.view_is) (
    let config = c.self.inside.config in
    let made = c.in-Ok.ensures in
    let made_says : SessionHasSaid (setup_for config c.args.peer) c.in-Ok.session (greeted_by c.in-Ok.out.items) = record { stands = made.stands (setup_for config c.args.peer) refl refl refl refl; settled = made.settled } in
    let says : SessionHasSaid (setup_for config c.args.peer) c.in-Ok-new.session.value (greeted_by c.in-Ok.out.items) = subst (λ session. SessionHasSaid (setup_for config c.args.peer) session (greeted_by c.in-Ok.out.items)) (sym c.in-Ok-new.ensures.ok) made_says in
    record {
      free = c.in-Some.ensures.least;
      says = says_at config c.self.inside.seats _ c.in-Some.number _ c.args.peer (greeted_by c.in-Ok.out.items) c.in-Some.ensures.within c.put.ensures refl says;
      others = others_of_set c.self.inside.seats _ c.in-Some.number _ c.put.ensures;
    })
