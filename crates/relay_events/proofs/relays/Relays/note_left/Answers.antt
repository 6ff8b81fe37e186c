use Rattle.std.proofs.Common.{◌≡◌, ◌≤◌, ◌+◌, ◌++◌, List, length, subst, sym, ap, rules}
use Rattle.std.specs.Prelude.{vec_capacity, vec_len}
use Rattle.relay_world.specs.declared.line.Line.{Line}
use Rattle.relay_world.specs.Ledger.{left_lines, report_told}
use Rattle.relay_world.specs.World.{World}
use Rattle.relay_events.specs.Relays.{world_of}
use Rattle.relay_events.proofs.relays.Relays.note_left.Goals as goal

pub push_left-requires : goal.push_left-requires
push_left-requires g c =
    let ledger = c.args.self.now.ledger in
    subst (λ l. vec_len ledger + length l ≤ vec_capacity ledger) (sym c.as_slice-left.ensures.value) c.requires

pub returns-clause-world : goal.returns-clause-world
returns-clause-world g c =
    let old = world_of c.args.self.now in
    let recorded = c.args.recorded.now in
    let lines : c.push_left.new.ledger.items ≡ old.ledger
    ++ left_lines c.args.node c.args.message c.args.link (report_told c.args.change recorded.report) recorded.left.items =
    search rules in
    ap (λ (l : List Line). let next : World _ = record old { ledger = l } in next) lines
