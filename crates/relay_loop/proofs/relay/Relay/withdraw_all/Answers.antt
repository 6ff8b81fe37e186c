-- The changes of the withdrawals are staged, and then added at once.
use Rattle.std.proofs.Common.{◌≡◌, [], ◌++◌, List, map, true, refl, sym, ap, ◌∙◌, subst, rules}
use Rattle.relay_book.specs.declared.change.Change.{Change}
use Rattle.relay_disk.specs.declared.disks.Disks.{Disks}
use Rattle.relay_spool.specs.Pair.{HasBodies}
use Rattle.relay_spool.specs.Spool.{AtEachMoment}
use Rattle.relay_records.specs.Staged.{CutsAll, Row, StandsForOrWithAll, no_row}
use Rattle.relay_records.specs.declared.noted.Noted.{Noted}
use Rattle.relay_loop.specs.Relay.{RelayState}
use Rattle.relay_loop.specs.Withdrawing.{KeepsAllButMail, choice_of}
use Rattle.relay_loop.proofs.WithdrawingLemmas.{HasSome, fails_all, not_too_large, stays_all}
use Rattle.relay_loop.proofs.relay.Relay.withdraw_all.Goals as goal

pub returns-clause-withdraws : goal.returns-clause-withdraws
returns-clause-withdraws g c =
    let before : RelayState g.row.D.Denot = record { node = c.self-2.inside.node; clients = c.self-2.inside.clients; hops = c.self-2.inside.hops } in
    let after : RelayState g.row.D.Denot = record { node = c.settle.new.self; clients = c.self-2.inside.clients; hops = c.self-2.inside.hops } in
    let first = subst (λ (r : Row). HasSome g.D.Disk.honest g.D.Disk.words c.args.now c.args.withdrawal c.args.self.now r c.args.chosen.now c.withdraw_some-is_short.new.results.items c.withdraw_some-is_short.result c.withdraw_some-is_short.new.self c.withdraw_some-is_short.new.row) c.new-row.ensures c.withdraw_some-is_short.ensures.some in
    let so = subst (λ (s : RelayState g.row.D.Denot). HasSome g.D.Disk.honest g.D.Disk.words c.args.now c.args.withdrawal c.args.self.now no_row c.args.chosen.now c.withdraw_some-is_short.new.results.items c.withdraw_some-is_short.result s c.withdraw_some-is_short.new.row)
    (sym c.self-2.view_is) first in
    let kept = subst (KeepsAllButMail c.args.self.now) (sym c.self-2.view_is) c.withdraw_some-is_short.ensures.rest in
    let rest = c.in-Ok-settle.ensures.rest in
    let disk = ap (λ s. s.disk) so.1.undone.spool in
    record {
      before = before;
      row = c.withdraw_some-is_short.new.row;
      all = so.0;
      some = so.1;
      grows = c.in-Ok-settle.ensures.grows;
      noted = c.in-Ok-settle.ensures.notes;
      rest = stays_all c.args.self.now before after kept (record { config = rest.0; seats = rest.1; attempts = rest.2; clients = refl; hops = refl });
      settles = λ changes keeps. c.in-Ok-settle.ensures.settles changes so.0 (so.2 changes [] (c.none_is_awaited.ensures _ changes keeps));
      stop = λ changes keeps honest.
          subst (λ (d : Disks g.row.D.Denot). AtEachMoment g.D.Disk.words d c.settle.new.self.records.spool.disk (HasBodies (StandsForOrWithAll changes so.0))) disk
          (c.settle.ensures.stop changes so.0 (so.2 changes [] (c.none_is_awaited.ensures _ changes keeps)) honest);
    }

pub returns-in-Err-clause-refused : goal.returns-in-Err-clause-refused
returns-in-Err-clause-refused g c =
    let before : RelayState g.row.D.Denot = record { node = c.self-2.inside.node; clients = c.self-2.inside.clients; hops = c.self-2.inside.hops } in
    let after : RelayState g.row.D.Denot = record { node = c.settle.new.self; clients = c.self-2.inside.clients; hops = c.self-2.inside.hops } in
    let first = subst (λ (r : Row). HasSome g.D.Disk.honest g.D.Disk.words c.args.now c.args.withdrawal c.args.self.now r c.args.chosen.now c.withdraw_some-is_short.new.results.items c.withdraw_some-is_short.result c.withdraw_some-is_short.new.self c.withdraw_some-is_short.new.row) c.new-row.ensures c.withdraw_some-is_short.ensures.some in
    let so = subst (λ (s : RelayState g.row.D.Denot). HasSome g.D.Disk.honest g.D.Disk.words c.args.now c.args.withdrawal c.args.self.now no_row c.args.chosen.now c.withdraw_some-is_short.new.results.items c.withdraw_some-is_short.result s c.withdraw_some-is_short.new.row)
    (sym c.self-2.view_is) first in
    let kept = subst (KeepsAllButMail c.args.self.now) (sym c.self-2.view_is) c.withdraw_some-is_short.ensures.rest in
    let rest = c.in-Err.ensures.rest in
    let disk = ap (λ s. s.disk) so.1.undone.spool in
    let live : c.self-2.inside.node.records.spool.live ≡ true = search rules in
    fails_all g.D.Disk.honest g.D.Disk.words c.args.now c.args.withdrawal (map choice_of c.args.chosen.now) c.withdraw_some-is_short.new.results.items c.withdraw_some-is_short.result
    c.args.self.now before after c.withdraw_some-is_short.new.row so.0 so.1
    (stays_all c.args.self.now before after kept (record { config = rest.0; seats = rest.1; attempts = rest.2; clients = refl; hops = refl }))
    c.in-Err.unsettled.fault (c.in-Err.ensures.refused live)
    (λ full. not_too_large c.withdraw_some-is_short.new.row c.new-row.result c.self-2.inside.node.records.spool.size c.new-row.ensures (search rules) (c.in-Err.ensures.full full))
    (λ stopped changes keeps.
    subst (λ (notes : List Noted). CutsAll g.D.Disk.honest g.D.Disk.words c.settle.new.self.records changes so.0 notes) c.in-Err.ensures.notes
    (c.in-Err.ensures.cut changes so.0 (so.2 changes [] (c.none_is_awaited.ensures _ changes keeps)) stopped))
    (λ changes keeps honest.
    subst (λ (d : Disks g.row.D.Denot). AtEachMoment g.D.Disk.words d c.settle.new.self.records.spool.disk (HasBodies (StandsForOrWithAll changes so.0))) disk
    (c.settle.ensures.stop changes so.0 (so.2 changes [] (c.none_is_awaited.ensures _ changes keeps)) honest))
