use Rattle.std.proofs.Common.{subst}
use Rattle.std.specs.List.Sorted.{IsStrictlySortedBy}
use Rattle.std.proofs.lemmas.Map.Keys.{sorted_tail}
use Rattle.relay_book.specs.Book.{AllTold, Rise, Shown}
use Rattle.relay_book.proofs.DueLemmas.{pair_cmp}
use Rattle.relay_book.proofs.LiveLemmas.{rise_live}
use Rattle.relay_book.proofs.MomentLemmas.{first_waits, none_waits, one_gone}
use Rattle.relay_book.proofs.book.Book.first_due_where.Goals as goal

pub loop-key-preserved : goal.loop-key-preserved
loop-key-preserved g c = record {
  rise =
      sorted_tail pair_cmp c.in-Some.key.now c.next.new.self
      (subst (IsStrictlySortedBy pair_cmp) c.in-Some.ensures.steps c.loop-key.invariant.rise);
  left =
      one_gone (g.Q.PlaceQuestion.holds c.args.question.now) c.args.self.now.queue.messages c.args.self.now.told c.loop-key.key-iterator c.next.new.self
      c.in-Some.key.now c.waits_where.result c.in-Some.ensures.steps c.waits_where.ensures c.if-waits_where.false c.loop-key.invariant.left;
}

pub returns-then-waits_where : goal.returns-then-waits_where
returns-then-waits_where g c =
    let rise = subst (λ (s : Shown). Rise 0 c.self.inside.next s.queue.messages) c.self.view_is (rise_live 0 c.self.inside.next c.self.inside.messages.entries c.self.invariant.0) in
    let told = subst (λ (s : Shown). AllTold s.told s.queue.messages) c.self.view_is c.self.invariant.1 in
    first_waits (g.Q.PlaceQuestion.holds c.args.question.now) c.args.self.now.queue.messages c.args.self.now.told c.loop-key.key-iterator c.next.new.self
    c.in-Some.key.now c.self.inside.next c.waits_where.result c.in-Some.ensures.steps c.loop-key.invariant.rise c.waits_where.ensures c.if-waits_where.true rise told c.loop-key.invariant.left

pub returns : goal.returns
returns g c =
    let rise = subst (λ (s : Shown). Rise 0 c.self.inside.next s.queue.messages) c.self.view_is (rise_live 0 c.self.inside.next c.self.inside.messages.entries c.self.invariant.0) in
    let told = subst (λ (s : Shown). AllTold s.told s.queue.messages) c.self.view_is c.self.invariant.1 in
    none_waits (g.Q.PlaceQuestion.holds c.args.question.now) c.args.self.now.queue.messages c.args.self.now.told c.loop-key.key-iterator
    c.self.inside.next c.in-None.ensures.steps.0 rise told c.loop-key.invariant.left
