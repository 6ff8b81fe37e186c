-- What a reader of replies holds between its calls, and what each step of it makes of a line.
use Rattle.std.specs.Prelude.{◌≡◌, ◌≢◌, ℕ, ◌<◌, ◌≤◌, Bool, true, false, List, [], ◌∷◌, ◌++◌, length, drop, Option, None}
use Rattle.std.specs.Prelude.{Some}
use Rattle.relay_octets.specs.Line.{HasNoCrlf}
use Rattle.relay_lines.specs.HeldLine.{Holds, HoldsLine}
use Rattle.relay_lines.specs.Reply.{Reply, IsCode, SpellsLine, ReadsReply, code_digits, followed_lines}
use Rattle.relay_lines.specs.ReplyReading.{AreFollowed, CutsReplies}
use Rattle.relay_lines.specs.declared.reply_reader.ReplyReader.{ReplyReader}

-- the line begins with this code
pub record HasCode (line : List ℕ) (code : ℕ) : Type 0 where
  pub code_is : IsCode code
  pub line_is : line ≡ code_digits code ++ drop 3 line

-- the line begins with no code
pub record HasNoCode (line : List ℕ) : Type 0 where
  pub none : (code : ℕ) (after : List ℕ) → IsCode code → line ≢ code_digits code ++ after

-- the line breaks no rule after these lines of a reply
pub record IsNextLine
    (code : ℕ) (lines : List (List ℕ)) (line : List ℕ) (line_code : ℕ) (is_last : Bool) : Type 0 where
  pub spells : SpellsLine line line_code is_last (drop 4 line)
  pub same_code : 0 < length lines → line_code ≡ code
  pub short : length line ≤ 2046
  pub few : length lines < 100

-- the reader holds this rest of what it has used
pub record HoldsRest (reader : ReplyReader) (rest : List ℕ) : Type 0 where
  pub part : List ℕ
  pub is_open : reader.has_failed ≡ false
  pub followed : AreFollowed reader.code reader.lines.items
  pub holds : Holds reader.line part
  pub short : length part < 2048
  pub rest_is : rest ≡ followed_lines reader.code reader.lines.items ++ part

-- the reader holds lines that others follow, and a line that has ended
pub record HoldsEnded (reader : ReplyReader) (line : List ℕ) : Type 0 where
  pub is_open : reader.has_failed ≡ false
  pub followed : AreFollowed reader.code reader.lines.items
  pub holds : HoldsLine reader.line line
  pub unbroken : HasNoCrlf line

-- of these octets a reader has made a reply, and holds nothing; or it holds them
abbrev pub HasMade : ReplyReader → Option Reply → List ℕ → Type 0
HasMade reader None octets = HoldsRest reader octets
HasMade reader (Some reply) octets = ReadsReply octets reply × HoldsRest reader []

-- the ended line is kept as one of the reply's, and nothing of another line has come
pub record KeepsLine (old new : ReplyReader) (code : ℕ) : Type 0 where
  pub code_is : new.code ≡ code
  pub lines_are : new.lines.items ≡ old.lines.items ++ drop 4 old.line.kept ∷ []
  pub holds : Holds new.line []
  pub is_open : new.has_failed ≡ old.has_failed

-- the lines are given away, and nothing else changes
pub record GivesLines (old new : ReplyReader) : Type 0 where
  pub code_is : new.code ≡ old.code
  pub lines_are : new.lines.items ≡ []
  pub line_is : new.line ≡ old.line
  pub is_open : new.has_failed ≡ old.has_failed

-- the reader has used these octets: they are these replies, and a rest, which it holds
pub record HasRead
    (reader : ReplyReader) (octets : List ℕ) (replies : List Reply) (rest : List ℕ) : Type 0 where
  pub cut : CutsReplies octets replies rest
  pub holds : HoldsRest reader rest

-- a fault was answered, and each further feed answers that the line is bad
abbrev pub HasFailed : ReplyReader → Type 0
HasFailed reader = reader.has_failed ≡ true
