-- Laws of replies, whoever writes and reads them.
use Rattle.std.specs.Prelude.{◌≡◌, ℕ, ◌<◌, List, ◌++◌, length}
use Rattle.std.specs.List.{AllByRecursion}
use Rattle.relay_lines.specs.Reply.{Reply, IsReply, ReadsReply, reply_text, written_replies}
use Rattle.relay_lines.specs.ReplyReading.{CutsAllReplies, CutsReplies, HasFault, IsUnfinished}
use Rattle.relay_lines.specs.ReplySteps.{HasRead, HoldsRest}
use Rattle.relay_lines.specs.declared.reply_reader.ReplyFault.{ReplyFault}
use Rattle.relay_lines.specs.declared.reply_reader.ReplyReader.{ReplyReader}

-- What is written is read as the same reply.
abbrev pub WrittenIsRead : Type 0
WrittenIsRead = (reply : Reply) → IsReply reply → ReadsReply (reply_text reply) reply

-- No reply begins another, and octets are one reply at most.
abbrev pub NoReplyBeginsAnother : Type 0
NoReplyBeginsAnother =
    (text other after rest : List ℕ) (reply second : Reply) → ReadsReply text reply
    → ReadsReply other second → text ++ after ≡ other ++ rest → (text ≡ other) × (after ≡ rest) × (reply ≡ second)

-- If octets are a prefix of written replies, the replies cut from them are a prefix of those, and the rest has no
-- fault.
abbrev pub BeginningIsCut : Type 0
BeginningIsCut =
    (octets more rest : List ℕ) (cut replies : List Reply) → AllByRecursion IsReply replies
    → octets ++ more ≡ written_replies replies → CutsReplies octets cut rest
    → ((later : List Reply) × (replies ≡ cut ++ later)) × ((fault : ReplyFault) → ¬ HasFault rest fault)

-- Octets that begin with a reply have no fault.
abbrev pub ReplyHasNoFault : Type 0
ReplyHasNoFault =
    (text rest : List ℕ) (reply : Reply) (fault : ReplyFault) → ReadsReply text reply
    → ¬ HasFault (text ++ rest) fault

-- An unfinished rest has no fault.
abbrev pub UnfinishedHasNoFault : Type 0
UnfinishedHasNoFault =
    (octets : List ℕ) (fault : ReplyFault) → IsUnfinished octets → ¬ HasFault octets fault

-- An unfinished rest begins with no reply.
abbrev pub UnfinishedHasNoReply : Type 0
UnfinishedHasNoReply =
    (text rest : List ℕ) (reply : Reply) → ReadsReply text reply → ¬ IsUnfinished (text ++ rest)

-- A proper prefix of a reply is an unfinished rest.
abbrev pub BeginningIsUnfinished : Type 0
BeginningIsUnfinished =
    (octets more : List ℕ) (reply : Reply) → ReadsReply (octets ++ more) reply → 0 < length more
    → IsUnfinished octets

-- A fault stays one, whatever comes after.
abbrev pub FaultStays : Type 0
FaultStays =
    (octets more : List ℕ) (fault : ReplyFault) → HasFault octets fault → HasFault (octets ++ more) fault

-- Octets have one fault at most.
abbrev pub FaultIsOne : Type 0
FaultIsOne =
    (octets : List ℕ) (fault other : ReplyFault) → HasFault octets fault → HasFault octets other
    → fault ≡ other

-- A reader holds an unfinished rest.
abbrev pub HeldIsUnfinished : Type 0
HeldIsUnfinished = (reader : ReplyReader) (rest : List ℕ) → HoldsRest reader rest → IsUnfinished rest

-- What a reader has used is cut into all its whole replies, and its rest is what it holds.
abbrev pub ReadIsCut : Type 0
ReadIsCut =
    (reader : ReplyReader) (octets rest : List ℕ) (replies : List Reply)
    → HasRead reader octets replies rest → CutsAllReplies octets replies rest

-- Octets are cut into all their whole replies in one way.
abbrev pub CutIsOne : Type 0
CutIsOne =
    (octets rest more : List ℕ) (replies others : List Reply) → CutsAllReplies octets replies rest
    → CutsAllReplies octets others more → (replies ≡ others) × (rest ≡ more)

-- What comes after replies comes after their rest.
abbrev pub CutGoesOn : Type 0
CutGoesOn =
    (octets rest more : List ℕ) (replies : List Reply) → CutsReplies octets replies rest
    → CutsReplies (octets ++ more) replies (rest ++ more)

-- Replies that were cut stay when more octets come: the further replies are those of the rest and these octets.
abbrev pub CutStays : Type 0
CutStays =
    (octets rest more left : List ℕ) (replies others : List Reply) → CutsReplies octets replies rest
    → CutsAllReplies (octets ++ more) others left
    → (later : List Reply) × (others ≡ replies ++ later) × CutsAllReplies (rest ++ more) later left
