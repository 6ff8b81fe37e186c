-- The copies of all attempts, one by one.
use Rattle.std.proofs.Common.{◌<◌, ◌≤◌, length, subst, ap, ◌∙◌, arith}
use Rattle.std.proofs.Math.ListN.{get_or}
use Rattle.relay_events.specs.Relays.{world_of}
use Rattle.relay_pair.proofs.CopyLemmas.{counts_all, counts_begin, counts_more, few_more, is_there}
use Rattle.relay_pair.proofs.copies.count_copies.Goals as goal

pub loop-at-init : goal.loop-at-init
loop-at-init g c =
    counts_begin g.D.Disk.honest g.D.Disk.words (world_of c.args.relays.now) c.args.node c.args.message c.args.place c.requires.lists
    c.requires.asked c.requires.bound c.requires.once
    (c.copies_are_few.ensures (world_of c.args.relays.now) c.requires.lists c.requires.asked c.requires.bound c.requires.once
    c.args.node c.args.message c.args.place)

pub overflow_add-count : goal.overflow_add-count
overflow_add-count g c =
    let items = c.deref-attempt-items.ensures.value in
    let within = subst (λ l. c.loop-at.at < length l) items c.loop-at-test.true in
    let there = c.attempt-item.is
    ∙ ap (λ l. get_or l c.loop-at.at c.attempt-item.result) items in
    let few = few_more g.D.Disk.honest g.D.Disk.words (world_of c.args.relays.now) c.args.node c.args.message c.args.place c.loop-at.at
    c.attempt-item.result c.loop-at.count c.in_ok-count.field-0 within there c.loop-at.invariant c.in_ok-count.ensures in
    omega (arith, few, c.deref-attempt-items.type_inv.1, ap (λ l. length l) items)

pub count_copies_by-requires-clause-is_there : goal.count_copies_by-requires-clause-is_there
count_copies_by-requires-clause-is_there g c =
    let items = c.deref-attempt-items.ensures.value in
    let within = subst (λ l. c.loop-at.at < length l) items c.loop-at-test.true in
    let there = c.attempt-item.is ∙ ap (λ l. get_or l c.loop-at.at c.attempt-item.result) items in
    is_there g.D.Disk.honest g.D.Disk.words (world_of c.args.relays.now) c.args.node c.args.message c.args.place c.loop-at.at
    c.attempt-item.result c.loop-at.count 0 within there

pub loop-at-preserved : goal.loop-at-preserved
loop-at-preserved g c =
    let items = c.deref-attempt-items.ensures.value in
    let within = subst (λ l. c.loop-at.at < length l) items c.loop-at-test.true in
    let there = c.attempt-item.is ∙ ap (λ l. get_or l c.loop-at.at c.attempt-item.result) items in
    counts_more g.D.Disk.honest g.D.Disk.words (world_of c.args.relays.now) c.args.node c.args.message c.args.place c.loop-at.at
    c.attempt-item.result c.loop-at.count c.in_ok-count.field-0 within there c.loop-at.invariant c.in_ok-count.ensures

pub returns : goal.returns
returns g c =
    let all : length c.args.relays.now.attempts.items ≤ c.loop-at.at = omega (arith, c.loop-at-test.false, ap (λ l. length l) c.deref-attempt-items.ensures.value) in
    counts_all g.D.Disk.honest g.D.Disk.words (world_of c.args.relays.now) c.args.node c.args.message c.args.place c.loop-at.at
    c.loop-at.count all c.loop-at.invariant
