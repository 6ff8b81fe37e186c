-- A link goes on read by read.
use Rattle.std.proofs.Common.{◌≡◌, ◌<◌, ◌∙◌, ℕ, rules, List, [], length, drop, sym, ap, subst, refl, inl, inr, arith}
use Rattle.std.proofs.lemmas.List.{take_at}
use Rattle.relay_links.specs.declared.fault.LinkFault.TheVariants.{NoMemory}
use Rattle.relay_hub.proofs.LinkLemmas.{breaks_off, ended_by}
use Rattle.relay_hub.proofs.link.converse.Goals as goal

pub returns-in_err-block : goal.returns-in_err-block
returns-in_err-block g c = λ start h.
    ended_by g.J.Opening.has_answered c.args.terms.now.config.now c.args.terms.now.peer c.args.terms.now.at start _ _ c.args.pass.now NoMemory _ c.from_residual.ensures.1
    (breaks_off g.J.Opening.has_answered c.args.terms.now.config.now c.args.terms.now.peer c.args.terms.now.at start c.args.session.now _ _ [] [] c.args.pass.now NoMemory h (inl refl))

pub returns-then-branch : goal.returns-then-branch
returns-then-branch g c = λ start h.
    let goes = c.in_ok-exchange_block.ensures.goes_on start (c.loop.invariant.so_far start h) in
    rw c.if-branch.true at goes

pub loop-preserved : goal.loop-preserved
loop-preserved g c =
    let same : c.as_mut_slice.result.now ≡ c.loop.block.items = search rules in
    let size : length c.exchange_block.new.block ≡ length c.loop.block.items = c.in_ok-exchange_block.ensures.block ∙ ap length same in
    let full : length c.exchange_block.new.block ≡ c.loop.block.len = search rules in
    let room : 0 < length c.exchange_block.new.block = omega (arith, size, c.loop.invariant.room) in
    record {
      room = subst (λ (l : List ℕ). 0 < length l) (sym (take_at c.exchange_block.new.block (drop (length c.exchange_block.new.block) c.loop.block.items) c.loop.block.len full)) room;
      history = c.in_ok-exchange_block.ensures.history c.if-branch.false;
      so_far = λ start h.
          let goes = c.in_ok-exchange_block.ensures.goes_on start (c.loop.invariant.so_far start h) in
          rw c.if-branch.false at goes;
    }

pub returns : goal.returns
returns g c = λ start h. breaks_off g.J.Opening.has_answered c.args.terms.now.config.now c.args.terms.now.peer c.args.terms.now.at start c.loop.session _ _ [] [] c.loop.pass _ (c.loop.invariant.so_far start h) (inr (refl, refl))
