-- The course of an attempt: what a client has read and written, and the verdicts once it has ended.
use Rattle.std.specs.Prelude.{◌≡◌, ◌⊎◌, ℕ, Bool, true, false, MatchBool, List, [], length, Option, None, Some}
use Rattle.std.specs.List.{flat_map}
use Rattle.relay_lines.specs.ReplyReading.{CutsReplies, HasFault, IsUnfinished}
use Rattle.relay_lines.specs.Reply.{Reply}
use Rattle.relay_lines.specs.declared.reply_reader.ReplyFault.{ReplyFault}
use Rattle.relay_body.specs.DotText.{WritesDotText, ends_in_line_end}
use Rattle.relay_envelope.specs.declared.envelope.Envelope.{Envelope}
use Rattle.relay_book.specs.declared.change.Verdict.{Verdict}
use Rattle.relay_course.specs.VerdictTable.{all_later}
use Rattle.relay_course.specs.Progress.{Delivery, progress}

-- what was written, command after command
abbrev pub joined : List (List ℕ) → List ℕ
joined commands = flat_map (λ command. command) commands

-- how a text is sent after DATA (RFC 5321, section 4.5.2); one that doesn't end in CR LF isn't
abbrev pub IsSentAs : List ℕ → List ℕ → Type 0
IsSentAs text dot_text = MatchBool (ends_in_line_end text) (WritesDotText text dot_text) (dot_text ≡ [])

-- the delivery of this host with a message of this envelope and text, at these places
abbrev pub delivery_of : List ℕ → Envelope → List ℕ → List ℕ → List ℕ → Delivery
delivery_of host envelope text dot_text places =
    record { host = host; envelope = envelope; text = text; dot_text = dot_text; places = places }

-- what comes after the replies is none (RFC 5321, section 4.2)
abbrev pub IsFaulty : List ℕ → Type 0
IsFaulty rest = (fault : ReplyFault) × HasFault rest fault

-- How the replies and the end of the input decide the verdicts. If the replies ended the attempt, it has read nothing
-- after them. Else it goes on while more may come; or the caller told that the connection is lost, or what comes is no
-- reply: then each place may be tried again, and the replies read before count for nothing.
abbrev pub Concludes : List ℕ → Bool → List ℕ → Option (List Verdict) → Option (List Verdict) → Type 0
Concludes places told rest (Some all) verdicts = (told ≡ false) × (rest ≡ []) × (verdicts ≡ Some all)
Concludes places told rest None verdicts =
    ((told ≡ false) × IsUnfinished rest × (verdicts ≡ None))
    ⊎ (((told ≡ true) × IsUnfinished rest × (verdicts ≡ Some (all_later places)))
    ⊎ ((told ≡ false) × IsFaulty rest × (verdicts ≡ Some (all_later places))))

-- the client of this delivery has read this input, was told of a loss or not, has written this output, and has these
-- verdicts, or none yet
pub record Runs
    (delivery : Delivery) (input : List ℕ) (told : Bool) (output : List ℕ) (verdicts : Option (List Verdict))
    : Type 0 where
  pub replies : List Reply
  pub rest : List ℕ
  pub cut : CutsReplies input replies rest
  pub each : length (progress delivery replies).answered ≡ length replies
  pub written : output ≡ joined (progress delivery replies).commands
  pub concludes : Concludes delivery.places told rest (progress delivery replies).verdicts verdicts

-- the course of an attempt of this host to send a message of this envelope and stored text to these places
pub record IsCourse (host : List ℕ) (envelope : Envelope) (text places input : List ℕ) (told : Bool) (output : List ℕ)
    (verdicts : Option (List Verdict)) : Type 0 where
  pub dot_text : List ℕ
  pub sent : IsSentAs text dot_text
  pub runs : Runs (delivery_of host envelope text dot_text places) input told output verdicts
