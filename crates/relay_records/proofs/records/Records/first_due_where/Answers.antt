use Rattle.std.proofs.Common.{subst}
use Rattle.relay_book.specs.Moments.{IsLeastOf, moments_of}
use Rattle.relay_records.specs.Records.{Kept}
use Rattle.relay_records.proofs.records.Records.first_due_where.Goals as goal

pub returns : goal.returns
returns g c =
    subst (λ (kept : Kept _). IsLeastOf (moments_of (g.Q.PlaceQuestion.holds c.args.question.now) kept.queue.messages) c.first_due_where.result)
    c.self.view_is c.first_due_where.ensures
