-- An attempt as its caller sees it: what it has read and written, and its verdicts.
use Rattle.std.specs.Prelude.{◌≡◌, ℕ, ◌<◌, false, List, [], length, Option, Some, None}
use Rattle.relay_lines.specs.Reply.{Reply}
use Rattle.relay_lines.specs.ReplySteps.{HasRead}
use Rattle.relay_lines.specs.declared.reply_reader.ReplyReader.{ReplyReader}
use Rattle.relay_envelope.specs.declared.envelope.Envelope.{Envelope}
use Rattle.relay_book.specs.declared.change.Verdict.{Verdict}
use Rattle.relay_course.specs.Progress.{Delivery, progress}
use Rattle.relay_course.specs.Course.{IsCourse, IsSentAs, Runs, delivery_of, joined}
use Rattle.relay_client.specs.declared.conversation.Conversation.{Conversation}
use Rattle.relay_client.specs.declared.attempt.Attempt.{Attempt}
use Rattle.relay_client.specs.declared.attempt.Driven.{Driven}
use Rattle.relay_client.specs.declared.attempt.Stage.{Stage}
use Rattle.relay_client.specs.declared.attempt.Stage.TheVariants.{Running, Ended, Failed}
use Rattle.relay_client.specs.Conversation.{Holds}

-- reader and conversation have read this input and written this output, and the delivery goes on
pub record KeepsTo (reader : ReplyReader) (talk : Conversation) (delivery : Delivery) (input output : List ℕ)
    : Type 0 where
  pub replies : List Reply
  pub rest : List ℕ
  pub reads : HasRead reader input replies rest
  pub each : length (progress delivery replies).answered ≡ length replies
  pub written : output ≡ joined (progress delivery replies).commands
  pub holds : Holds talk delivery (progress delivery replies)
  pub waits : 0 < length (progress delivery replies).waits

-- they go on, or the delivery has ended with these verdicts
abbrev pub KeepsOn
    : ReplyReader → Conversation → Delivery → List ℕ → List ℕ → Option (List Verdict) → Type 0
KeepsOn reader talk delivery input output None = KeepsTo reader talk delivery input output
KeepsOn reader talk delivery input output (Some verdicts) = Runs delivery input false output (Some verdicts)

-- the attempt relays a message of this envelope and stored text for this host and these places; it has read this input
-- and written this output, and goes on
pub record Follows (attempt : Attempt) (host : List ℕ) (envelope : Envelope) (text places input output : List ℕ)
    : Type 0 where
  pub dot_text : List ℕ
  pub sent : IsSentAs text dot_text
  pub keeps : KeepsTo attempt.reader attempt.talk (delivery_of host envelope text dot_text places) input output
  pub runs : attempt.stage ≡ Running

-- it goes on, or it has ended, and what it has read and written is its course with these verdicts
abbrev pub FollowsOn
    : Attempt → List ℕ → Envelope → List ℕ → List ℕ → List ℕ → List ℕ → Option (List Verdict) → Type 0
FollowsOn attempt host envelope text places input output None =
    Follows attempt host envelope text places input output
FollowsOn attempt host envelope text places input output (Some verdicts) =
    IsCourse host envelope text places input false output (Some verdicts)

-- the places that it was begun for
abbrev pub places_of : Attempt → List ℕ
places_of attempt = attempt.talk.places.items

-- it waits for replies
abbrev pub IsRunning : Attempt → Type 0
IsRunning attempt = attempt.stage ≡ Running

-- it has given its verdicts
abbrev pub HasEnded : Attempt → Type 0
HasEnded attempt = attempt.stage ≡ Ended

-- memory ran out, and each further feed answers that
abbrev pub HasFailed : Attempt → Type 0
HasFailed attempt = attempt.stage ≡ Failed

-- the stage after a feed of an attempt that runs
abbrev pub stage_by : Option (List Verdict) → Stage
stage_by None = Running
stage_by (Some verdicts) = Ended

-- a feed that used nothing, wrote nothing and gave nothing
pub record IsIdle (driven : Driven) : Type 0 where
  pub used_is : driven.used ≡ 0
  pub out_is : driven.out.items ≡ []
  pub verdicts_are : driven.verdicts ≡ None

-- what a feed of a piece of this length does to an attempt at this stage: one that runs uses all of the piece, or ends;
-- one that has ended does nothing any more; of one that failed there is no feed
abbrev pub TurnsAt : Stage → Attempt → Driven → ℕ → Type 0
TurnsAt Running new driven size =
    (new.stage ≡ stage_by driven.verdicts) × (driven.verdicts ≡ None → driven.used ≡ size)
TurnsAt Ended new driven size = HasEnded new × IsIdle driven
TurnsAt Failed new driven size = ⊥

abbrev pub Turns : Attempt → Attempt → Driven → ℕ → Type 0
Turns old new driven size = TurnsAt old.stage new driven size
