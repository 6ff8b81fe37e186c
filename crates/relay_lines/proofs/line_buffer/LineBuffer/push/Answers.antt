use Rattle.std.proofs.Common.{length, sym, arith}
use Rattle.std.proofs.lemmas.List.{length-take-le}
use Rattle.relay_lines.proofs.HeldLineLemmas.{kept_after, room_or_all, last_octet, no_last_octet, goes_on_nothing}
use Rattle.relay_lines.proofs.line_buffer.LineBuffer.push.Goals as goal

pub returns-in_default : goal.returns-in_default
returns-in_default c =
    let size = length-take-le c.self.inside.len c.self.inside.octets (omega arith) in
    let none = no_last_octet c.args.octets.now (sym c.in_default.ensures.value) in
    rw (← c.self.view_is, none) (goes_on_nothing _ (omega arith))

pub returns : goal.returns
returns c =
    let size = length-take-le c.self.inside.len c.self.inside.octets (omega arith) in
    rw (← c.self.view_is) (record {
      kept =
          kept_after c.self.inside.octets c.args.octets.now c.copy_from_slice.new.self c.self.inside.len c.min-count.result
          _ c.self.invariant c.self.told c.min-count.ensures c.copy_from_slice.ensures.after;
      is_long =
          room_or_all c.self.inside.is_long c.self.inside.len _
          (length c.args.octets.now) c.self.invariant size;
      after_cr =
          last_octet c.self.inside.after_cr c.args.octets.now c.in-Some.last.now
          (sym c.in-Some.ensures.value);
    })
