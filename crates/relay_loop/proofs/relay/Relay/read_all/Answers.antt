-- The changes of the pieces and of the replies are pending, and then added at once.
use Rattle.std.proofs.Common.{◌≡◌, List, refl, sym, ap, subst}
use Rattle.relay_disk.specs.declared.disks.Disks.{Disks}
use Rattle.relay_spool.specs.Pair.{HasBodies}
use Rattle.relay_spool.specs.Spool.{AtEachMoment}
use Rattle.relay_records.specs.declared.noted.Noted.{Noted}
use Rattle.relay_records.specs.Staged.{Row, Settles, StandsForOrWithAll}
use Rattle.relay_records.specs.declared.fault.NodeFault.TheVariants.{Stopped}
use Rattle.relay_loop.specs.GroupCalls.{HearsPieces, ReadsReplies}
use Rattle.relay_loop.specs.GroupPieces.{IsUndone}
use Rattle.relay_loop.specs.Relay.{RelayState}
use Rattle.relay_loop.proofs.AllLemmas.{are_pending}
use Rattle.relay_loop.proofs.EachLemmas.{HasEach as HasPieces}
use Rattle.relay_loop.proofs.EachReplyLemmas.{HasEach as HasReplies}
use Rattle.relay_loop.proofs.relay.Relay.read_all.Goals as goal

pub returns-in-Ok-settle-clause-reads : goal.returns-in-Ok-settle-clause-reads
returns-in-Ok-settle-clause-reads g c = λ changes keeps.
    let before : RelayState g.row.D.Denot = record { node = c.self-2.inside.node; clients = c.self-2.inside.clients; hops = c.self-2.inside.hops } in
    let first = subst (λ (r : Row). HasPieces g.D.Disk.honest g.D.Disk.words c.args.now c.args.self.now r c.args.pieces.now c.read_each.new.heard.items c.read_each.new.self c.read_each.new.row) c.new-row.ensures c.read_each.ensures.each in
    let second = subst (λ (s : RelayState g.row.D.Denot). HasReplies g.D.Disk.honest g.D.Disk.words c.args.now c.read_each.new.self c.read_each.new.row c.args.replies.now c.reply_each.new.answered.items s c.reply_each.new.row)
    (sym c.self-2.view_is) c.reply_each.ensures.each in
    let also = subst (IsUndone c.read_each.new.self) (sym c.self-2.view_is) c.reply_each.ensures.undone in
    let so = are_pending g.D.Disk.honest g.D.Disk.words changes c.args.now c.args.pieces.now c.args.replies.now c.read_each.new.heard.items c.reply_each.new.answered.items c.args.self.now c.read_each.new.self c.read_each.new.row before
    c.reply_each.new.row first second c.read_each.ensures.undone also (c.none_is_awaited.ensures _ changes keeps) in
    let disk = ap (λ s. s.disk) so.answers.undone.spool in
    record {
      pending = so.pending;
      before = before;
      row = c.reply_each.new.row;
      answers = so.answers;
      settles = c.in-Ok-settle.ensures.settles changes so.pending so.awaits;
      grows = c.in-Ok-settle.ensures.grows;
      config = c.in-Ok-settle.ensures.rest.0;
      seats = c.in-Ok-settle.ensures.rest.1;
      attempts = c.in-Ok-settle.ensures.rest.2;
      clients = refl;
      hops = refl;
      stop = λ honest. subst (λ (d : Disks g.row.D.Denot). AtEachMoment g.D.Disk.words d c.settle.new.self.records.spool.disk (HasBodies (StandsForOrWithAll changes so.pending))) disk (c.settle.ensures.stop changes so.pending so.awaits honest);
    }

pub returns-in-Ok-settle-clause-hears : goal.returns-in-Ok-settle-clause-hears
returns-in-Ok-settle-clause-hears g c =
    let before : RelayState g.row.D.Denot = record { node = c.self-2.inside.node; clients = c.self-2.inside.clients; hops = c.self-2.inside.hops } in
    let first = subst (λ (r : Row). HearsPieces g.D.Disk.honest g.D.Disk.words c.args.now c.args.pieces.now c.read_each.new.heard.items c.args.self.now r c.read_each.new.self c.read_each.new.row) c.new-row.ensures
    c.read_each.ensures.hears in
    let second = subst (λ (s : RelayState g.row.D.Denot). ReadsReplies g.D.Disk.honest g.D.Disk.words c.args.now c.args.replies.now c.reply_each.new.answered.items c.read_each.new.self c.read_each.new.row s c.reply_each.new.row)
    (sym c.self-2.view_is) c.reply_each.ensures.reads in
    let notes = c.in-Ok-settle.ensures.notes in
    record {
      between = c.read_each.new.self;
      beside = c.read_each.new.row;
      hears = first;
      before = before;
      row = c.reply_each.new.row;
      reads = second;
      notes = notes;
      adds = record {
        settles = λ changes pending awaits.
            subst (λ (ns : List Noted). Settles g.D.Disk.honest g.D.Disk.words c.settle.new.self.records changes pending ns) notes (c.in-Ok-settle.ensures.settles changes pending awaits);
        noted = c.in-Ok-settle.ensures.grows.noted;
        config = c.in-Ok-settle.ensures.rest.0;
        seats = c.in-Ok-settle.ensures.rest.1;
        attempts = c.in-Ok-settle.ensures.rest.2;
        clients = refl;
        hops = refl;
      };
    }

pub returns-in-Err-clause-cut : goal.returns-in-Err-clause-cut
returns-in-Err-clause-cut g c = λ changes keeps stopped.
    let is : c.in-Err.unsettled.fault ≡ Stopped = cc in
    let before : RelayState g.row.D.Denot = record { node = c.self-2.inside.node; clients = c.self-2.inside.clients; hops = c.self-2.inside.hops } in
    let first = subst (λ (r : Row). HasPieces g.D.Disk.honest g.D.Disk.words c.args.now c.args.self.now r c.args.pieces.now c.read_each.new.heard.items c.read_each.new.self c.read_each.new.row) c.new-row.ensures c.read_each.ensures.each in
    let second = subst (λ (s : RelayState g.row.D.Denot). HasReplies g.D.Disk.honest g.D.Disk.words c.args.now c.read_each.new.self c.read_each.new.row c.args.replies.now c.reply_each.new.answered.items s c.reply_each.new.row)
    (sym c.self-2.view_is) c.reply_each.ensures.each in
    let also = subst (IsUndone c.read_each.new.self) (sym c.self-2.view_is) c.reply_each.ensures.undone in
    let so = are_pending g.D.Disk.honest g.D.Disk.words changes c.args.now c.args.pieces.now c.args.replies.now c.read_each.new.heard.items c.reply_each.new.answered.items c.args.self.now c.read_each.new.self c.read_each.new.row before
    c.reply_each.new.row first second c.read_each.ensures.undone also (c.none_is_awaited.ensures _ changes keeps) in
    let disk = ap (λ s. s.disk) so.answers.undone.spool in
    record {
      heard = c.read_each.new.heard.items;
      answered = c.reply_each.new.answered.items;
      pending = so.pending;
      before = before;
      row = c.reply_each.new.row;
      answers = so.answers;
      notes = c.in-Err.unsettled.notes.items;
      cuts = c.in-Err.ensures.cut changes so.pending so.awaits is;
      stop = λ honest. subst (λ (d : Disks g.row.D.Denot). AtEachMoment g.D.Disk.words d c.settle.new.self.records.spool.disk (HasBodies (StandsForOrWithAll changes so.pending))) disk (c.settle.ensures.stop changes so.pending so.awaits honest);
    }
