-- The link of an attempt goes on read by read.
use Rattle.std.proofs.Common.{◌≡◌, ◌<◌, ◌∙◌, ℕ, rules, List, [], Err, Ok, length, drop, sym, ap, subst, arith}
use Rattle.std.proofs.lemmas.List.{take_at}
use Rattle.relay_links.proofs.PushLemmas.{moves_since, rest_stays}
use Rattle.relay_links.proofs.push.converse.Goals as goal

pub returns-in-Ok-exchange_block-clause-goes : goal.returns-in-Ok-exchange_block-clause-goes
returns-in-Ok-exchange_block-clause-goes g c = λ start h. c.in-Ok-exchange_block.ensures.goes start (c.loop.invariant.so_far start h)

pub returns-in-Ok-exchange_block-clause-gone : goal.returns-in-Ok-exchange_block-clause-gone
returns-in-Ok-exchange_block-clause-gone g c = c.in-Ok-exchange_block.ensures.gone

pub returns-in-Ok-exchange_block-clause-rest : goal.returns-in-Ok-exchange_block-clause-rest
returns-in-Ok-exchange_block-clause-rest g c = rest_stays c.args.node.now c.loop.node c.exchange_block.new.node c.args.attempt c.loop.invariant.rest c.in-Ok-exchange_block.ensures.rest

pub returns-in-Ok-exchange_block-clause-moves : goal.returns-in-Ok-exchange_block-clause-moves
returns-in-Ok-exchange_block-clause-moves g c =
    moves_since g.D.Disk.words c.args.node.now c.loop.node c.exchange_block.new.node c.loop.invariant.rest.1 c.loop.invariant.same (Ok c.in-Ok-exchange_block.way) c.in-Ok-exchange_block.ensures.moves

pub returns-in-Err-clause-moves : goal.returns-in-Err-clause-moves
returns-in-Err-clause-moves g c =
    moves_since g.D.Disk.words c.args.node.now c.loop.node c.exchange_block.new.node c.loop.invariant.rest.1 c.loop.invariant.same (Err c.in-Err.fault) c.in-Err.ensures.moves

pub returns-in-Err-clause-goes : goal.returns-in-Err-clause-goes
returns-in-Err-clause-goes g c = λ start h. c.in-Err.ensures.goes start (c.loop.invariant.so_far start h)

pub loop-preserved : goal.loop-preserved
loop-preserved g c =
    let same : c.as_mut_slice.result.now ≡ c.loop.block.items = search rules in
    let size : length c.exchange_block.new.block ≡ length c.loop.block.items = c.in-Ok-On.ensures.block ∙ ap length same in
    let full : length c.exchange_block.new.block ≡ c.loop.block.len = search rules in
    let room : 0 < length c.exchange_block.new.block = omega (arith, size, c.loop.invariant.room) in
    record {
      room = subst (λ (l : List ℕ). 0 < length l) (sym (take_at c.exchange_block.new.block (drop (length c.exchange_block.new.block) c.loop.block.items) c.loop.block.len full)) room;
      rest = rest_stays c.args.node.now c.loop.node c.exchange_block.new.node c.args.attempt c.loop.invariant.rest c.in-Ok-On.ensures.rest;
      same = (rw c.in-Ok-On.field-0-is at c.in-Ok-On.ensures.moves) ∙ c.loop.invariant.same;
      so_far = λ start h.
          let goes = c.in-Ok-On.ensures.goes start (c.loop.invariant.so_far start h) in
          rw c.in-Ok-On.field-0-is at goes;
    }

pub returns-clause-goes : goal.returns-clause-goes
returns-clause-goes g c = λ start h. ([], [], c.loop.invariant.so_far start h)
