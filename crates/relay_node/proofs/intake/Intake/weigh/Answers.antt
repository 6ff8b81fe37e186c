-- An offer that may be stored has an accept that may be.
use Rattle.std.proofs.Common.{◌≤◌, ◌+◌, ◌-◌, length, rules, refl, arith}
use Rattle.relay_book.specs.declared.change.Change.TheVariants as change
use Rattle.relay_book.specs.Record.{encode}
use Rattle.relay_node.proofs.intake.Intake.weigh.Goals as goal

pub encode_change-requires : goal.encode_change-requires
encode_change-requires c = c.in_ok-accept.ensures.valid c.requires

pub returns-clause-weighs : goal.returns-clause-weighs
returns-clause-weighs c =
    let low : 5 + length (encode (change.Accept c.in_ok-accept.accept)) ≤ c.args.self.now.config.now.spool_limit - c.args.self.now.size = search rules in
    record {
      accept = c.in_ok-accept.accept;
      change_is = refl;
      room = record {
        number = search rules;
        is_accept = c.in_ok-accept.ensures.accept;
        room = omega (arith, low);
      };
      valid = c.in_ok-accept.ensures.valid c.requires;
      octets_are = search rules;
    }
