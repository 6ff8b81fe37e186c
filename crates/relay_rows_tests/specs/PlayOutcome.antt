-- The outcome of a row, whatever the pieces that its octets come in.
use Rattle.std.specs.Prelude.{◌≡◌, ◌≢◌, ◌⊎◌, ℕ, ◌+◌, nat_lt, Bool, true, false, List, [], ◌∷◌, ◌++◌, codes, decimal}
use Rattle.std.specs.Prelude.{length, take, Result, Ok, Err, if◌then◌else◌}
use Rattle.relay_octets.specs.Line.{HasNoCrlf, ReadsLine, line_text}
use Rattle.relay_lines.specs.LineCut.{CutsLine}
use Rattle.relay_lines.specs.HeldLine.{HeldLine}
use Rattle.relay_lines.specs.Word.{are_domain_octets, is_address_literal, is_host_word}
use Rattle.relay_lines.specs.ChunkArgument.{begins_with_bdat}
use Rattle.relay_lines.specs.Command.{Command, reading_of}
use Rattle.relay_lines.specs.WrittenCommand.{written_command}
use Rattle.relay_lines.specs.Reply.{Reply, IsReply, made_of, one_line, reply_text, written_replies}
use Rattle.relay_lines.specs.ReplyReading.{CutsReplies, HasFault, IsUnfinished}
use Rattle.relay_lines.specs.declared.command.LineFault.{LineFault}
use Rattle.relay_lines.specs.declared.command.LineFault.TheVariants.{Unknown, BadByte, BadArgument, NotOffered}
use Rattle.relay_lines.specs.declared.command.LineFault.TheVariants.{BadChunkSize}
use Rattle.relay_lines.specs.declared.line.LineCut.{LineCut}
use Rattle.relay_lines.specs.declared.line.LineCut.TheVariants.{Whole, TooLong, More}
use Rattle.relay_lines.specs.declared.reply_reader.ReplyFault.{ReplyFault}
use Rattle.relay_lines.specs.declared.reply_reader.ReplyFault.TheVariants as fault
use Rattle.relay_rows_tests.specs.declared.play.Play.{Play}
use Rattle.relay_rows_tests.specs.declared.play.Play.TheVariants as play
use Rattle.relay_rows_tests.specs.declared.play.Question.{Question}
use Rattle.relay_rows_tests.specs.declared.play.Question.TheVariants as question
use Rattle.relay_rows_tests.specs.declared.verdict.Verdict.{Verdict}
use Rattle.relay_rows_tests.specs.declared.verdict.Verdict.TheVariants.{Equal, Differs}

-- how a cut is shown
abbrev pub cut_text : LineCut → List ℕ
cut_text (Whole end) = codes "whole " ++ decimal end
cut_text TooLong = codes "too long"
cut_text More = codes "more"

abbrev pub IsCutOutcome : List ℕ → ℕ → List ℕ → Type 0
IsCutOutcome octets limit outcome =
    (cut : LineCut) × CutsLine cut octets limit × (outcome ≡ cut_text cut)

-- what is held of a line, after a word where it is too long, and a word where it is nothing
abbrev pub kept_text : List ℕ → List ℕ
kept_text [] = codes "nothing"
kept_text (octet ∷ octets) = octet ∷ octets

abbrev pub held_text : HeldLine → List ℕ
held_text held = if held.is_long then codes "long " ++ kept_text held.kept else kept_text held.kept

-- a line that isn't ended, and one that is, by what is held
abbrev pub open_text : HeldLine → List ℕ
open_text held = codes "open: " ++ held_text held

abbrev pub ended_text : ℕ → HeldLine → List ℕ
ended_text used held = codes "used " ++ decimal used ++ codes ": " ++ held_text held

-- what is held of octets: the first 2,048 of them, and whether more than this many came
abbrev pub held_of : ℕ → List ℕ → Bool → HeldLine
held_of limit octets after_cr =
    record { kept = take 2048 octets; is_long = nat_lt limit (length octets); after_cr = after_cr }

-- the octets hold no whole line, or begin with this one
abbrev pub IsLineOutcome : List ℕ → List ℕ → Type 0
IsLineOutcome octets outcome =
    (HasNoCrlf octets × (outcome ≡ open_text (held_of 2048 octets false)))
    ⊎ ((line rest : List ℕ) × ReadsLine octets line rest
    × (outcome ≡ ended_text (length line + 2) (held_of 2046 line false)))

-- the word that names a fault of a line
abbrev pub fault_word : LineFault → List ℕ
fault_word Unknown = codes "Unknown"
fault_word BadByte = codes "BadByte"
fault_word BadArgument = codes "BadArgument"
fault_word NotOffered = codes "NotOffered"
fault_word BadChunkSize = codes "BadChunkSize"

-- what is read of a line is written again, and a fault is named
abbrev pub reading_text : Result Command LineFault → List ℕ
reading_text (Ok command) = line_text (written_command command)
reading_text (Err fault) = fault_word fault

abbrev pub answer_of : Question → List ℕ → Bool
answer_of question.BeginsWithBdat text = begins_with_bdat text
answer_of question.IsHostWord text = is_host_word text
answer_of question.AreDomainOctets text = are_domain_octets text
answer_of question.IsAddressLiteral text = is_address_literal text

abbrev pub yes_or_no : Bool → List ℕ
yes_or_no true = codes "yes"
yes_or_no false = codes "no"

-- the code and the texts make a reply, which is written after another, or none
abbrev pub IsReplyOutcome : ℕ → List (List ℕ) → List ℕ → Type 0
IsReplyOutcome code texts outcome =
    (IsReply (made_of code texts)
    × (outcome ≡ codes "220 ready\r\n" ++ reply_text (made_of code texts)))
    ⊎ ((¬ IsReply (made_of code texts)) × (outcome ≡ codes "no reply"))

abbrev pub IsLastLineOutcome : ℕ → List ℕ → List ℕ → List ℕ → Type 0
IsLastLineOutcome code front back outcome =
    outcome ≡ (if nat_lt code 1000 then reply_text (one_line code (front ++ back)) else codes "no code")

-- the word that names a fault of replies
abbrev pub reply_fault_word : ReplyFault → List ℕ
reply_fault_word fault.BadLine = codes "BadLine"
reply_fault_word fault.MixedCodes = codes "MixedCodes"
reply_fault_word fault.TooLong = codes "TooLong"
reply_fault_word fault.NoMemory = codes "NoMemory"

-- the octets are cut into replies, which are written again, and a rest that isn't whole or has a
-- fault; after a fault another is answered
abbrev pub IsRepliesOutcome : List ℕ → List ℕ → Type 0
IsRepliesOutcome octets outcome =
    (replies : List Reply) × (rest : List ℕ) × CutsReplies octets replies rest
    × ((IsUnfinished rest × (outcome ≡ written_replies replies ++ codes "more"))
    ⊎ ((fault : ReplyFault) × HasFault rest fault
    × (outcome ≡ written_replies replies ++ reply_fault_word fault ++ codes ", " ++ codes "BadLine")))

-- the outcome of a play
abbrev pub IsOutcome : Play → List ℕ → Type 0
IsOutcome (play.Cut limit octets) outcome = IsCutOutcome octets limit outcome
IsOutcome (play.Line octets) outcome = IsLineOutcome octets outcome
IsOutcome (play.Command octets) outcome = outcome ≡ reading_text (reading_of octets)
IsOutcome (play.Word asked octets) outcome = outcome ≡ yes_or_no (answer_of asked octets)
IsOutcome (play.Reply code texts) outcome = IsReplyOutcome code texts.items outcome
IsOutcome (play.LastLine code front back) outcome = IsLastLineOutcome code front back outcome
IsOutcome (play.Replies octets) outcome = IsRepliesOutcome octets outcome

-- the play comes to what is wanted, or to something else
abbrev pub IsVerdict : Play → List ℕ → Verdict → Type 0
IsVerdict play wanted Equal = IsOutcome play wanted
IsVerdict play wanted (Differs size outcome) = IsOutcome play outcome × (outcome ≢ wanted)
