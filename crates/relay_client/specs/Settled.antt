-- What the replies to RCPTs said, as it is kept until an attempt ends: a word for each, and the texts of the refusals
-- in one row.
use Rattle.std.specs.Prelude.{ℕ, ◌+◌, Bool, true, false, List, [], ◌∷◌, take, drop, Option, Some, None, unwrap_or}
use Rattle.relay_book.specs.declared.change.Verdict.{Verdict}
use Rattle.relay_book.specs.declared.change.Verdict.TheVariants.{Refused, Later}
use Rattle.relay_lines.specs.Reply.{Reply}
use Rattle.relay_course.specs.VerdictTable.{refusal}
use Rattle.relay_client.specs.declared.verdict.RcptAnswer.{RcptAnswer}
use Rattle.relay_client.specs.declared.verdict.RcptAnswer.TheVariants.{Accepts, Delays, Rejects}
use Rattle.relay_client.specs.declared.settled.Said.{Said}
use Rattle.relay_client.specs.declared.settled.Said.TheVariants.{Accepted, Delayed, Rejected}

-- the verdict of a place by what the reply to its RCPT does, none if it is accepted
abbrev pub verdict_as : RcptAnswer → Reply → Option Verdict
verdict_as Accepts reply = None
verdict_as Delays reply = Some Later
verdict_as Rejects reply = Some (refusal reply)

-- how many octets the text of this one has
abbrev pub text_size : Said → ℕ
text_size Accepted = 0
text_size Delayed = 0
text_size (Rejected code size) = size

-- how many the texts of these have
abbrev pub text_sizes : List Said → ℕ
text_sizes [] = 0
text_sizes (one ∷ said) = text_size one + text_sizes said

-- the verdict of this one, whose text begins the texts
abbrev pub settled_by : Said → List ℕ → Option Verdict
settled_by Accepted texts = None
settled_by Delayed texts = Some Later
settled_by (Rejected code size) texts = Some (Refused code (take size texts))

-- the verdicts of these, which have these texts, one after another
abbrev pub settled_of : List Said → List ℕ → List (Option Verdict)
settled_of [] texts = []
settled_of (one ∷ said) texts = settled_by one texts ∷ settled_of said (drop (text_size one) texts)

-- a RCPT was accepted
abbrev pub has_accepted : List Said → Bool
has_accepted [] = false
has_accepted (Accepted ∷ said) = true
has_accepted (Delayed ∷ said) = has_accepted said
has_accepted (Rejected code size ∷ said) = has_accepted said

-- how many octets the text of what was said has
abbrev pub size_by : Option Said → ℕ
size_by None = 0
size_by (Some one) = text_size one

-- the verdict by what was said, whose text begins the texts, or the last one
abbrev pub verdict_by : Option Said → List ℕ → Verdict → Verdict
verdict_by None texts last = last
verdict_by (Some one) texts last = unwrap_or (settled_by one texts) last
