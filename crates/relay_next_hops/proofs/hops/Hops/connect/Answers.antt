-- The connection is put under the number, with the delivery of its task.
use Rattle.std.proofs.Common.{ap, sym, subst, ◌∙◌}
use Rattle.relay_next_hops.specs.Deliveries.{IsOpenedTo}
use Rattle.relay_next_hops.proofs.hops.Hops.connect.Goals as goal

pub returns-in-Ok-clause-made : goal.returns-in-Ok-clause-made
returns-in-Ok-clause-made g c = λ low. record {
  hop = c.new-hop.result;
  opened = subst (IsOpenedTo g.N.Dial.leads_to g.S.Stream.remaining g.S.Stream.contents c.args.aim.now.at) (sym c.new-hop.ensures.channel) c.in-Ok.ensures.opened;
  put = c.put.ensures.stands low;
  its_aim = c.new-hop.ensures.aim;
  its_message = c.new-hop.ensures.delivery.0 ∙ ap (λ parts. parts.0) c.into_parts-message.ensures;
  its_name = c.new-hop.ensures.delivery.1 ∙ ap (λ parts. parts.1) c.into_parts-message.ensures;
  none = c.new-hop.ensures.none.0;
}
