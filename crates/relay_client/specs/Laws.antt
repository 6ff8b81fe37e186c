-- Laws of an attempt between its calls.
use Rattle.std.specs.Prelude.{ℕ, true, false, List, Some, None}
use Rattle.relay_envelope.specs.declared.envelope.Envelope.{Envelope}
use Rattle.relay_course.specs.VerdictTable.{all_later}
use Rattle.relay_course.specs.Course.{IsCourse}
use Rattle.relay_client.specs.declared.attempt.Attempt.{Attempt}
use Rattle.relay_client.specs.Attempt.{Follows}

-- What an attempt has read and written, while it goes on, is a course without verdicts.
abbrev pub FollowedIsCourse : Type 0
FollowedIsCourse =
    (attempt : Attempt) (host text places input output : List ℕ) (envelope : Envelope)
    → Follows attempt host envelope text places input output
    → IsCourse host envelope text places input false output None

-- Where its connection is lost then, each place may be tried again.
abbrev pub FollowedMayBeLost : Type 0
FollowedMayBeLost =
    (attempt : Attempt) (host text places input output : List ℕ) (envelope : Envelope)
    → Follows attempt host envelope text places input output
    → IsCourse host envelope text places input true output (Some (all_later places))
