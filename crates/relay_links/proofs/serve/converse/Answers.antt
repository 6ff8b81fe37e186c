-- A link goes on read by read.
use Rattle.std.proofs.Common.{◌≡◌, ◌<◌, ◌∙◌, ℕ, rules, List, [], length, drop, sym, ap, subst, refl, arith}
use Rattle.std.proofs.lemmas.List.{take_at}
use Rattle.relay_links.specs.declared.fault.LinkFault.TheVariants.{Input, NoMemory}
use Rattle.relay_links.proofs.LinkLemmas.{breaks, others_stay}
use Rattle.relay_links.proofs.serve.converse.Goals as goal

pub returns-in_default-clause-served : goal.returns-in_default-clause-served
returns-in_default-clause-served g c = λ start h. breaks g.D.Disk.honest g.D.Disk.words start c.args.now c.args.session _ _ [] c.args.node.now c.args.node.now.records NoMemory h refl (λ e. absurd cc) (λ e. absurd cc)

pub returns-in-Ok-true-clause-served : goal.returns-in-Ok-true-clause-served
returns-in-Ok-true-clause-served g c = λ start h.
    let goes = c.in-Ok-true.ensures.goes_on start (c.loop.invariant.so_far start h) in
    rw c.in-Ok-true.field-0-test at goes

pub returns-in-Err-clause-served : goal.returns-in-Err-clause-served
returns-in-Err-clause-served g c = λ start h. c.in-Err.ensures.goes_on start (c.loop.invariant.so_far start h)

pub loop-preserved : goal.loop-preserved
loop-preserved g c =
    let same : c.as_mut_slice.result.now ≡ c.loop.block.items = search rules in
    let size : length c.exchange_block.new.block ≡ length c.loop.block.items = c.in-Ok-false.ensures.block ∙ ap length same in
    let full : length c.exchange_block.new.block ≡ c.loop.block.len = search rules in
    let room : 0 < length c.exchange_block.new.block = omega (arith, size, c.loop.invariant.room) in
    record {
      room = subst (λ (l : List ℕ). 0 < length l) (sym (take_at c.exchange_block.new.block (drop (length c.exchange_block.new.block) c.loop.block.items) c.loop.block.len full)) room;
      rest = others_stay c.args.node.now c.loop.node c.exchange_block.new.node c.args.session c.loop.invariant.rest c.in-Ok-false.ensures.rest;
      so_far = λ start h.
          let goes = c.in-Ok-false.ensures.goes_on start (c.loop.invariant.so_far start h) in
          rw c.in-Ok-false.field-0-test at goes;
    }

pub returns-clause-served : goal.returns-clause-served
returns-clause-served g c = λ start h. breaks g.D.Disk.honest g.D.Disk.words start c.args.now c.args.session _ _ [] c.loop.node c.loop.node.records Input (c.loop.invariant.so_far start h) refl (λ e. absurd cc) (λ e. absurd cc)
