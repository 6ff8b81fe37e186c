-- A reader of a dot text: what it has used so far, and what it keeps of it.
use Rattle.std.specs.Prelude.{◌≡◌, ◌≢◌, ℕ, ◌↔◌, Bool, true, false, IsTrue, MatchBool, List, [], ◌∷◌, ◌++◌, length, take}
use Rattle.std.specs.Option.{option_map_or}
use Rattle.relay_octets.specs.Line.{HasNoCrlf, lines_text, ends_in_cr}
use Rattle.relay_body.specs.declared.dot_reader.Phase.{Phase}
use Rattle.relay_body.specs.declared.dot_reader.Phase.TheVariants.{LineStart, Period, PeriodCr, Within, WithinCr, Done}
use Rattle.relay_body.specs.declared.dot_reader.Phase.TheVariants.{Failed}
use Rattle.relay_body.specs.declared.dot_reader.DotCut.{DotCut}
use Rattle.relay_body.specs.declared.dot_reader.DotReader.{DotReader}
use Rattle.relay_body.specs.DotText.{end_of_data, AreTextLines, without_period, content_of, ReadsDotText}
use Rattle.relay_body.specs.Gathering.{KeepsContent}

-- a part of a line that shows already that the line isn't the end of mail data
pub record BeginsTextLine (part : List ℕ) : Type 0 where
  pub no_crlf : HasNoCrlf part
  pub not_end : (rest : List ℕ) → end_of_data ≢ part ++ rest

-- by its phase, what a reader has used of a line, and what of that is known to be content
abbrev pub IsPart : Phase → List ℕ → List ℕ → Type 0
IsPart LineStart part content = (part ≡ []) × (content ≡ [])
IsPart Period part content = (part ≡ 46 ∷ []) × (content ≡ [])
IsPart PeriodCr part content = (part ≡ 46 ∷ 13 ∷ []) × (content ≡ [])
IsPart Within part content = BeginsTextLine part × (ends_in_cr part ≡ false) × (content ≡ without_period part)
IsPart WithinCr part content =
    BeginsTextLine part × (ends_in_cr part ≡ true) × (content ≡ without_period part)
IsPart Done part content = ⊥
IsPart Failed part content = ⊥

-- the reader has used these octets, lines of mail text and a part of one, and keeps their content
-- up to the limit
pub record IsReading (reader : DotReader) (limit : ℕ) (octets : List ℕ) : Type 0 where
  pub lines : List (List ℕ)
  pub part : List ℕ
  pub content : List ℕ
  pub each : AreTextLines lines
  pub octets_are : octets ≡ lines_text lines ++ part
  pub part_is : IsPart reader.phase part content
  pub keeps : KeepsContent reader.gathering limit (content_of lines ++ content)

-- the reader is done: it has used a dot text whole
abbrev pub IsDone : DotReader → Type 0
IsDone reader = reader.phase ≡ Done

-- memory ran out, and each further feed answers that
abbrev pub HasFailed : DotReader → Type 0
HasFailed reader = reader.phase ≡ Failed

-- the reader is done with this dot text, and keeps its content up to the limit
pub record HasRead (reader : DotReader) (limit : ℕ) (text content : List ℕ) : Type 0 where
  pub done : IsDone reader
  pub reads : ReadsDotText text content
  pub keeps : KeepsContent reader.gathering limit content

-- the reader has used these octets: they are a whole dot text, and it is done, or it reads on
abbrev pub HasUsed : Bool → DotReader → ℕ → List ℕ → Type 0
HasUsed done reader limit octets =
    MatchBool done ((content : List ℕ) × HasRead reader limit octets content) (IsReading reader limit octets)

-- whatever the reader had used before, it has used these octets after it, and is done exactly if a dot text ends
pub record Uses (old new : DotReader) (octets : List ℕ) (done : Bool) : Type 0 where
  pub stands : (limit : ℕ) (before : List ℕ) → IsReading old limit before
      → HasUsed done new limit (before ++ octets)

-- an answered feed: what it has used, all of the piece up to the end of a text, and whether that is
-- reached
pub record Feeds (old new : DotReader) (piece : List ℕ) (cut : DotCut) : Type 0 where
  pub uses : Uses old new (take cut.used piece) cut.done
  pub whole : cut.done ≡ false → cut.used ≡ length piece
  pub done : IsTrue cut.done ↔ IsDone new

-- the greatest length of a content that is kept
abbrev pub limit_of : DotReader → ℕ
limit_of reader = reader.gathering.limit

-- how many octets of content a reader holds
abbrev pub held_by : DotReader → ℕ
held_by reader = option_map_or length reader.gathering.kept 0
