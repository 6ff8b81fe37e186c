-- Of the connection that was come to octets may be read, or of none of all.
use Rattle.std.proofs.Common.{refl, sym, ap, ◌∙◌}
use Rattle.std.proofs.lemmas.Bool.{false≢true}
use Rattle.relay_connections.specs.Arrivals.{IsReadable}
use Rattle.relay_connections.proofs.LeftLemmas.{none_at_all, some_there, stands_there}
use Rattle.relay_connections.proofs.arrivals.Arrivals.is_ready.Goals as goal

pub returns-then-deref : goal.returns-then-deref
returns-then-deref g c =
    let number = c.loop-number.number in
    let there = stands_there c.standing-standing.result.now number c.index-standing-number.result c.loop-number-test.true c.index-standing-number.is in (
      λ _. record {
        number = number;
        readable = record {
          arrival = c.in-Some.arrival;
          there = sym (c.standing-standing.ensures.slots number) ∙ there ∙ c.in-Some.is;
          reads = ap (λ arrival. arrival.reads) (sym c.deref.ensures) ∙ c.if-deref.true;
        };
      },
      λ _. refl,
    )

pub returns : goal.returns
returns g c = (
  λ is. absurd (false≢true is),
  λ one.
      absurd (none_at_all c.standing-standing.result.now (IsReadable c.args.self.now.arrivals) c.loop-number.number c.loop-number-test.false
      (λ other here. some_there c.standing-standing.result.now c.args.self.now.arrivals other here.arrival (c.standing-standing.ensures.slots other) here.there)
      c.loop-number.invariant one.number one.readable),
)
