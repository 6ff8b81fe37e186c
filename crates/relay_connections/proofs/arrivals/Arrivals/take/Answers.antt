-- The connection stands in the first free slot.
use Rattle.std.proofs.Common.{sym, ◌∙◌, subst}
use Rattle.relay_connections.specs.Arrivals.{IsNew}
use Rattle.relay_connections.proofs.arrivals.Arrivals.take.Goals as goal

pub returns-in-Ok : goal.returns-in-Ok
returns-in-Ok g c =
    let is = c.new.ensures in
    record {
      number = c.in-Some.number;
      arrival = c.in-Ok.arrival;
      free = c.in-Some.ensures.least;
      there = c.put.ensures.there c.in-Some.ensures.least.within;
      others = c.put.ensures.others;
      new_is =
          subst (λ arrival. IsNew g.S.Stream.remaining g.S.Stream.contents c.args.stream c.args.balancer c.args.now.now.tick arrival) (sym c.in-Ok.ensures.ok)
          (record {
            header = is.header;
            input = is.input ∙ c.register.ensures.remaining;
            output = is.output ∙ c.register.ensures.contents;
            balancer_is = is.balancer_is;
            reads = is.reads;
            deadline_is = is.deadline_is;
          });
    }
