-- A reply is left unread, heard, or refused.
use Rattle.std.proofs.Common.{◌≢◌, ◌⊎◌, inl, inr, [], Ok, Err, rules, refl, sym, ap, subst}
use Rattle.relay_loop.specs.declared.hops.Answered.{Answered}
use Rattle.relay_loop.specs.GroupPieces.{IsLaden}
use Rattle.relay_loop.specs.GroupReplies.{RepliesOne}
use Rattle.relay_loop.specs.Outboxes.{unwritten_at}
use Rattle.relay_loop.specs.Relay.{RelayState}
use Rattle.relay_loop.proofs.GroupLemmas.{is_drained, is_open_drained, some_there}
use Rattle.relay_loop.proofs.ReplyLemmas.{left_unheard, more_by, was_heard, was_refused}
use Rattle.relay_loop.proofs.relay.Relay.reply_into.Goals as goal
use Rattle.relay_loop.proofs.relay.Relay.reply_into.Goals.{then-not-is_empty-via-then-not-is_empty, then-not-is_empty-via-else-not-is_empty+then-is_laden}

pub returns-then-not-is_empty-clause-answers : goal.returns-then-not-is_empty-clause-answers
returns-then-not-is_empty-clause-answers g c = rw (← c.self.view_is) (λ changes pending awaits.
    let why : (unwritten_at c.self.inside.hops c.args.reply.now.attempt ≢ []) ⊎ IsLaden c.args.row.now = elim c.then-not-is_empty.branch [
      | then-not-is_empty-via-then-not-is_empty w ↦ inl (search rules)
      | then-not-is_empty-via-else-not-is_empty+then-is_laden w ↦ inr (search rules)
    ] in
    let old : RelayState g.row.D.Denot = record { node = c.self.inside.node; clients = c.self.inside.clients; hops = c.self.inside.hops } in
    let one = left_unheard g.D.Disk.honest g.D.Disk.words changes c.args.now pending c.args.reply.now old c.args.row.now (some_there c.self.inside.hops c.args.reply.now.attempt c.in-Some.waiting.now c.in-Some.ensures.waiting) why awaits in
    ([], subst (λ (a : Answered). RepliesOne g.D.Disk.honest g.D.Disk.words changes c.args.now pending c.args.reply.now old c.args.row.now old c.args.row.now [] (Ok a)) (sym c.nothing.ensures) one))

pub returns-in-Ok-clause-answers : goal.returns-in-Ok-clause-answers
returns-in-Ok-clause-answers g c = rw (← c.self.view_is) (λ changes pending awaits.
    let drained = is_drained c.self.inside.hops c.args.reply.now.attempt c.in-Some.waiting.now c.is_empty.result c.in-Some.ensures.waiting c.is_empty.ensures c.if-not-is_empty.false in
    let light : IsLaden c.args.row.now → ⊥ = search rules in
    let known = some_there c.self.inside.hops c.args.reply.now.attempt c.in-Some.waiting.now c.in-Some.ensures.waiting in
    let old : RelayState g.row.D.Denot = record { node = c.self.inside.node; clients = c.self.inside.clients; hops = c.self.inside.hops } in
    let new : RelayState g.row.D.Denot = record { node = c.reply_into.new.self; clients = c.self.inside.clients; hops = c.set_by.new.hops } in
    let rest = c.in-Ok.ensures.rest in
    let uses = c.in-Ok.ensures.used in (
      more_by g.D.Disk.honest g.D.Disk.words changes c.args.now pending c.args.reply.now old new c.args.row.now c.reply_into.new.row c.in-Ok.replied c.set_by.result drained awaits uses
          (record { attempts = rest.0; hops = c.set_by.ensures.others; config = rest.1; seats = rest.2; clients = refl }) c.set_by.ensures.answered c.in-Ok.replied.change uses.makes,
      was_heard g.D.Disk.honest g.D.Disk.words changes c.args.now pending c.args.reply.now old new c.args.row.now c.reply_into.new.row c.in-Ok.replied c.set_by.result drained awaits uses
          (record { attempts = rest.0; hops = c.set_by.ensures.others; config = rest.1; seats = rest.2; clients = refl }) c.set_by.ensures.answered known light
          (λ told tells. c.in-Ok.ensures.replies changes pending told awaits tells) c.set_by.ensures.set,
    ))

pub returns-in-Err-clause-answers : goal.returns-in-Err-clause-answers
returns-in-Err-clause-answers g c = rw (← c.self.view_is) (λ changes pending awaits.
    let rest = c.in-Err.ensures.rest in
    let refused = c.in-Err.ensures.refused in (
      [],
      was_refused g.D.Disk.honest g.D.Disk.words changes c.args.now pending c.args.reply.now _ _ c.args.row.now c.reply_into.new.row c.in-Err.fault
          c.remove.ensures.gone (refused.refused awaits.live) (λ is. inr (refused.unknown.0 (ap Err is)).1) (λ _. some_there c.self.inside.hops c.args.reply.now.attempt c.in-Some.waiting.now c.in-Some.ensures.waiting)
          (λ told tells is. c.in-Err.ensures.full changes pending told awaits tells (ap Err is))
          (record { attempts = rest.0; hops = c.remove.ensures.others; config = rest.1; seats = rest.2; clients = refl }) awaits,
    ))

pub returns-then-not-is_empty-clause-reads : goal.returns-then-not-is_empty-clause-reads
returns-then-not-is_empty-clause-reads g c = rw (← c.self.view_is) (
    let why : (unwritten_at c.self.inside.hops c.args.reply.now.attempt ≢ []) ⊎ IsLaden c.args.row.now = elim c.then-not-is_empty.branch [
      | then-not-is_empty-via-then-not-is_empty w ↦ inl (search rules)
      | then-not-is_empty-via-else-not-is_empty+then-is_laden w ↦ inr (search rules)
    ] in
    record {
      by = inl (record {
        connection = some_there c.self.inside.hops c.args.reply.now.attempt c.in-Some.waiting.now c.in-Some.ensures.waiting;
        why = why;
        answered_is = c.nothing.ensures;
        same = refl;
        row_is = refl;
      });
      only = record { attempts = λ other is. refl; hops = λ other is. refl; config = refl; seats = refl; clients = refl };
    })

pub returns-in-Ok-clause-reads : goal.returns-in-Ok-clause-reads
returns-in-Ok-clause-reads g c = rw (← c.self.view_is) (
    let light : IsLaden c.args.row.now → ⊥ = search rules in
    let rest = c.in-Ok.ensures.rest in
    record {
      by = inr (record {
        connection = is_open_drained c.self.inside.hops c.args.reply.now.attempt c.in-Some.waiting.now c.is_empty.result c.in-Some.ensures.waiting c.is_empty.ensures c.if-not-is_empty.false;
        has_room = light;
        replied = c.in-Ok.replied;
        replies = λ changes pending told awaits tells. c.in-Ok.ensures.replies changes pending told awaits tells;
        uses = c.in-Ok.ensures.used;
        answered_is = c.set_by.ensures.answered;
        set = c.set_by.ensures.set;
      });
      only = record { attempts = rest.0; hops = c.set_by.ensures.others; config = rest.1; seats = rest.2; clients = refl };
    })

pub returns-in-Err-clause-reads : goal.returns-in-Err-clause-reads
returns-in-Err-clause-reads g c = rw (← c.self.view_is) (
    let rest = c.in-Err.ensures.rest in
    let refused = c.in-Err.ensures.refused in
    record {
      by = record {
        gone = c.remove.ensures.gone;
        leaves = refused.refused (search rules);
        unknown = λ is. inr (refused.unknown.0 (ap Err is)).1;
        connection = λ _. some_there c.self.inside.hops c.args.reply.now.attempt c.in-Some.waiting.now c.in-Some.ensures.waiting;
      };
      only = record { attempts = rest.0; hops = c.remove.ensures.others; config = rest.1; seats = rest.2; clients = refl };
    })
