use Rattle.std.proofs.Common.{◌++◌, take, refl}
use Rattle.relay_course.specs.Course.{delivery_of}
use Rattle.relay_client.proofs.FollowLemmas.{ended_settles, feed_follows}
use Rattle.relay_client.proofs.attempt.Attempt.feed.Goals as goal

pub returns-in_ok-driven-in-Running-clause-follows : goal.returns-in_ok-driven-in-Running-clause-follows
returns-in_ok-driven-in-Running-clause-follows c = λ host places input output f.
    let envelope = c.args.mail.now.envelope.now in
    let text = c.args.mail.now.stored_text.now in
    let driven = c.in_ok-driven-in-Running.driven in
    feed_follows _ host envelope text places f.dot_text (input ++ take driven.used c.args.piece.now)
    (output ++ driven.out.items) driven.verdicts f.sent c.stage_after-self.ensures
    (c.in_ok-driven-in-Running.ensures.keeps (delivery_of host envelope text f.dot_text places) input output
    (record { envelope_is = refl; text_is = refl; sent = f.sent }) f.keeps)

pub returns-in_ok-driven-in-Running-clause-settled : goal.returns-in_ok-driven-in-Running-clause-settled
returns-in_ok-driven-in-Running-clause-settled c = λ host places input output verdicts f e.
    let envelope = c.args.mail.now.envelope.now in
    let text = c.args.mail.now.stored_text.now in
    let driven = c.in_ok-driven-in-Running.driven in
    ended_settles _ host envelope text places (input ++ take driven.used c.args.piece.now)
    (output ++ driven.out.items) driven.verdicts verdicts
    (returns-in_ok-driven-in-Running-clause-follows c host places input output f) e
