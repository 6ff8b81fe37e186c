use Rattle.std.proofs.Common.{◌∙◌}
use Rattle.relay_book.specs.Queue.{left_place}
use Rattle.relay_book.proofs.ToldLemmas.{told_step_at}
use Rattle.relay_book.proofs.book.Book.tell_all.Goals as goal

pub loop-place-preserved : goal.loop-place-preserved
loop-place-preserved c = (
  c.tell_place.ensures.queue ∙ c.loop-place.invariant.0,
  c.tell_place.ensures.room ∙ c.loop-place.invariant.1,
  told_step_at c.loop-place.self.told c.tell_place.new.self.told c.args.number c.args.places.now c.loop-place.place-index left_place c.loop-place-test.true c.tell_place.ensures.kept c.loop-place.invariant.2 c.in_ok-tell_place.ensures.told,
  λ key h. c.tell_place.ensures.kept key (c.loop-place.invariant.3 key h),
)
