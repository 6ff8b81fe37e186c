-- A piece is left unread, read, or refused.
use Rattle.std.proofs.Common.{◌≢◌, ◌⊎◌, inl, inr, [], Ok, Err, rules, refl, sym, ap, subst}
use Rattle.relay_loop.specs.declared.clients.Heard.{Heard}
use Rattle.relay_loop.specs.GroupPieces.{AnswersOne, IsLaden}
use Rattle.relay_loop.specs.Outboxes.{unwritten_at}
use Rattle.relay_loop.specs.Relay.{RelayState}
use Rattle.relay_loop.proofs.GroupLemmas.{is_drained, is_open_drained, left_unread, some_there, was_read, was_refused}
use Rattle.relay_loop.proofs.relay.Relay.read_into.Goals as goal
use Rattle.relay_loop.proofs.relay.Relay.read_into.Goals.{then-not-is_empty-via-then-not-is_empty, then-not-is_empty-via-else-not-is_empty+then-is_laden}

pub returns-then-not-is_empty-clause-answers : goal.returns-then-not-is_empty-clause-answers
returns-then-not-is_empty-clause-answers g c = rw (← c.self.view_is) (λ changes pending awaits.
    let why : (unwritten_at c.self.inside.clients c.args.piece.now.session ≢ []) ⊎ IsLaden c.args.row.now = elim c.then-not-is_empty.branch [
      | then-not-is_empty-via-then-not-is_empty w ↦ inl (search rules)
      | then-not-is_empty-via-else-not-is_empty+then-is_laden w ↦ inr (search rules)
    ] in
    let old : RelayState g.row.D.Denot = record { node = c.self.inside.node; clients = c.self.inside.clients; hops = c.self.inside.hops } in
    let one = left_unread g.D.Disk.honest g.D.Disk.words changes c.args.now pending c.args.piece.now old c.args.row.now (some_there c.self.inside.clients c.args.piece.now.session c.in-Some.waiting.now c.in-Some.ensures.waiting) why awaits in
    ([], subst (λ (h : Heard). AnswersOne g.D.Disk.honest g.D.Disk.words changes c.args.now pending c.args.piece.now old c.args.row.now old c.args.row.now [] (Ok h)) (sym c.nothing.ensures) one))

pub returns-in-Ok-clause-answers : goal.returns-in-Ok-clause-answers
returns-in-Ok-clause-answers g c = rw (← c.self.view_is) (λ changes pending awaits.
    let drained = is_drained c.self.inside.clients c.args.piece.now.session c.in-Some.waiting.now c.is_empty.result c.in-Some.ensures.waiting c.is_empty.ensures c.if-not-is_empty.false in
    let light : IsLaden c.args.row.now → ⊥ = search rules in
    let after = c.in-Ok.ensures.receives changes pending awaits in
    let rest = c.in-Ok.ensures.rest in (
      after.more,
      was_read g.D.Disk.honest g.D.Disk.words changes c.args.now pending c.args.piece.now _ _ c.args.row.now c.receive_into.new.row c.in-Ok.received c.set_by.result
          (some_there c.self.inside.clients c.args.piece.now.session c.in-Some.waiting.now c.in-Some.ensures.waiting) drained light after c.in-Ok.ensures.used
          (record { seats = rest.0; clients = c.set_by.ensures.others; config = rest.1; attempts = rest.2; hops = refl }) c.set_by.ensures.heard c.set_by.ensures.set,
    ))

pub returns-in-Err-clause-answers : goal.returns-in-Err-clause-answers
returns-in-Err-clause-answers g c = rw (← c.self.view_is) (λ changes pending awaits.
    let rest = c.in-Err.ensures.rest in
    let refused = c.in-Err.ensures.refused in (
      [],
      was_refused g.D.Disk.honest g.D.Disk.words changes c.args.now pending c.args.piece.now _ _ c.args.row.now c.receive_into.new.row c.in-Err.fault
          c.remove.ensures.gone (refused.refused awaits.live) (λ is. inr (refused.unknown.0 (ap Err is)).1) (λ _. some_there c.self.inside.clients c.args.piece.now.session c.in-Some.waiting.now c.in-Some.ensures.waiting)
          (λ peer said seat is. c.in-Err.ensures.full peer said seat (ap Err is))
          (record { seats = rest.0; clients = c.remove.ensures.others; config = rest.1; attempts = rest.2; hops = refl }) awaits,
    ))

pub returns-then-not-is_empty-clause-hears : goal.returns-then-not-is_empty-clause-hears
returns-then-not-is_empty-clause-hears g c = rw (← c.self.view_is) (
    let why : (unwritten_at c.self.inside.clients c.args.piece.now.session ≢ []) ⊎ IsLaden c.args.row.now = elim c.then-not-is_empty.branch [
      | then-not-is_empty-via-then-not-is_empty w ↦ inl (search rules)
      | then-not-is_empty-via-else-not-is_empty+then-is_laden w ↦ inr (search rules)
    ] in
    record {
      by = inl (record {
        connection = some_there c.self.inside.clients c.args.piece.now.session c.in-Some.waiting.now c.in-Some.ensures.waiting;
        why = why;
        heard_is = c.nothing.ensures;
        same = refl;
        row_is = refl;
      });
      only = record { seats = λ other is. refl; clients = λ other is. refl; config = refl; attempts = refl; hops = refl };
    })

pub returns-in-Ok-clause-hears : goal.returns-in-Ok-clause-hears
returns-in-Ok-clause-hears g c = rw (← c.self.view_is) (
    let light : IsLaden c.args.row.now → ⊥ = search rules in
    let rest = c.in-Ok.ensures.rest in
    record {
      by = inr (record {
        connection = is_open_drained c.self.inside.clients c.args.piece.now.session c.in-Some.waiting.now c.is_empty.result c.in-Some.ensures.waiting c.is_empty.ensures c.if-not-is_empty.false;
        has_room = light;
        received = c.in-Ok.received;
        receives = λ changes pending awaits. c.in-Ok.ensures.receives changes pending awaits;
        uses = c.in-Ok.ensures.used;
        heard_is = c.set_by.ensures.heard;
        set = c.set_by.ensures.set;
      });
      only = record { seats = rest.0; clients = c.set_by.ensures.others; config = rest.1; attempts = rest.2; hops = refl };
    })

pub returns-in-Err-clause-hears : goal.returns-in-Err-clause-hears
returns-in-Err-clause-hears g c = rw (← c.self.view_is) (
    let rest = c.in-Err.ensures.rest in
    let refused = c.in-Err.ensures.refused in
    record {
      by = record {
        gone = c.remove.ensures.gone;
        leaves = refused.refused (search rules);
        unknown = λ is. inr (refused.unknown.0 (ap Err is)).1;
        connection = λ _. some_there c.self.inside.clients c.args.piece.now.session c.in-Some.waiting.now c.in-Some.ensures.waiting;
      };
      only = record { seats = rest.0; clients = c.remove.ensures.others; config = rest.1; attempts = rest.2; hops = refl };
    })
