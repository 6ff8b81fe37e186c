-- What a call does to an attempt, seen by its caller.
use Rattle.std.proofs.Common.{◌≡◌, ℕ, Bool, true, false, MatchBool, List, [], drop, Option, Some, None, refl, sym, ap, ◌∙◌, subst, arith}
use Rattle.relay_lines.specs.ReplySteps.{HasRead}
use Rattle.relay_body.specs.DotText.{WritesDotText, ends_in_line_end}
use Rattle.relay_body.proofs.Theorems.{each_content_is_written}
use Rattle.relay_envelope.specs.declared.envelope.Envelope.{Envelope}
use Rattle.relay_book.specs.declared.change.Verdict.{Verdict}
use Rattle.relay_course.specs.Course.{IsCourse, IsSentAs, delivery_of}
use Rattle.relay_course.specs.VerdictTable.{all_later}
use Rattle.relay_course.specs.Settling.{Settles}
use Rattle.relay_course.proofs.Theorems.{course_settles}
use Rattle.relay_client.specs.declared.attempt.Attempt.{Attempt}
use Rattle.relay_client.specs.declared.attempt.Stage.TheVariants.{Running}
use Rattle.relay_client.specs.Conversation.{IsAtGreeting}
use Rattle.relay_client.specs.Attempt.{Follows, FollowsOn, KeepsOn, stage_by}
use Rattle.relay_client.proofs.Theorems.{followed_may_be_lost}

sent_by : (text : List ℕ) (test : Bool) → (test ≡ true → (dot_text : List ℕ) × WritesDotText text dot_text)
    → (dot_text : List ℕ) × MatchBool test (WritesDotText text dot_text) (dot_text ≡ [])
sent_by text true writes = writes refl
sent_by text false writes = ([], refl)

-- each text is sent somehow, or isn't
is_sent : (text : List ℕ) → (dot_text : List ℕ) × IsSentAs text dot_text
is_sent text = sent_by text (ends_in_line_end text) (each_content_is_written text)

-- an attempt that begins follows whatever message it is fed
pub begins_to_follow : (attempt : Attempt) (host : List ℕ) (envelope : Envelope) (text places : List ℕ)
    → HasRead attempt.reader [] [] [] → IsAtGreeting host places attempt.talk → attempt.stage ≡ Running
    → Follows attempt host envelope text places [] []
begins_to_follow attempt host envelope text places reads g runs =
    let sent = is_sent text in
    record {
      dot_text = sent.0;
      sent = sent.1;
      keeps = record {
        replies = [];
        rest = [];
        reads = reads;
        each = refl;
        written = refl;
        holds = record {
          host_is = g.host_is;
          places_are = g.places_are;
          waits_are = g.waits_are;
          unasked_are = ap (λ (n : ℕ). drop n attempt.talk.places.items) g.asked_is ∙ g.places_are;
          extensions_are = g.extensions_are;
          settled_is = g.settled_is;
          running = refl;
        };
        waits = omega arith;
      };
      runs = runs;
    }

-- what a feed of an attempt that runs leads to
pub feed_follows : (attempt : Attempt) (host : List ℕ) (envelope : Envelope) (text places dot_text input output : List ℕ)
    (ended : Option (List Verdict)) → IsSentAs text dot_text → attempt.stage ≡ stage_by ended
    → KeepsOn attempt.reader attempt.talk (delivery_of host envelope text dot_text places) input output ended
    → FollowsOn attempt host envelope text places input output ended
feed_follows attempt host envelope text places dot_text input output None sent stage keeps =
    record { dot_text = dot_text; sent = sent; keeps = keeps; runs = stage }
feed_follows attempt host envelope text places dot_text input output (Some verdicts) sent stage runs =
    record { dot_text = dot_text; sent = sent; runs = runs }

pub broken_is_lost : (attempt : Attempt) (host : List ℕ) (envelope : Envelope) (text places input output : List ℕ)
    (verdicts : List Verdict) → verdicts ≡ all_later attempt.talk.places.items
    → Follows attempt host envelope text places input output
    → IsCourse host envelope text places input true output (Some verdicts)
broken_is_lost attempt host envelope text places input output verdicts e f =
    subst (λ (v : List Verdict). IsCourse host envelope text places input true output (Some v))
    (ap all_later (sym (f.keeps.holds.places_are)) ∙ sym e)
    (followed_may_be_lost attempt host text places input output envelope f)

-- the verdicts of an attempt that ended were settled by replies, or its connection was lost
pub ended_settles : (attempt : Attempt) (host : List ℕ) (envelope : Envelope) (text places input output : List ℕ)
    (ended : Option (List Verdict)) (verdicts : List Verdict)
    → FollowsOn attempt host envelope text places input output ended → ended ≡ Some verdicts
    → Settles text places input false verdicts
ended_settles attempt host envelope text places input output None verdicts follows e = absurd (cc)
ended_settles attempt host envelope text places input output (Some others) verdicts course e =
    let same : others ≡ verdicts = cc in
    subst (λ (v : List Verdict). Settles text places input false v) same
    (course_settles host envelope text places input false output others course)
