-- What a crate above may cite of this one: each lemma proves a law that the crate exports.
use Rattle.relay_course.specs.Course.{delivery_of}
use Rattle.relay_client.specs.Laws.{FollowedIsCourse, FollowedMayBeLost}
use Rattle.relay_client.proofs.KeepLemmas.{keeps_broken, keeps_open}

pub followed_is_course : FollowedIsCourse
followed_is_course attempt host text places input output envelope f = record {
  dot_text = f.dot_text;
  sent = f.sent;
  runs = keeps_open attempt.reader attempt.talk (delivery_of host envelope text f.dot_text places) input output f.keeps;
}

pub followed_may_be_lost : FollowedMayBeLost
followed_may_be_lost attempt host text places input output envelope f = record {
  dot_text = f.dot_text;
  sent = f.sent;
  runs = keeps_broken attempt.reader attempt.talk (delivery_of host envelope text f.dot_text places) input output f.keeps;
}
