-- A multipart text taken apart (RFC 2046, section 5.1.1).
use Rattle.std.specs.Prelude.{◌≡◌, ℕ, ◌+◌, List, [], ◌++◌, drop}
use Rattle.relay_octets.specs.Line.{ReadsLine, crlf}
use Rattle.relay_trace.specs.HeaderSection.{header_end_of}
use Rattle.relay_report.specs.Multipart.{Told, first_part, second_part, third_part}
use Rattle.relay_report.specs.Report.{IsReport}
use Rattle.relay_report.specs.Fits.{MayBeTold}
use Rattle.relay_report.specs.Parts.{BeginsOnce, IsThreeOf}

-- the text begins with an empty line and a boundary's line, in which no CR stands, and the rest follows
pub record OpensWith (text line rest : List ℕ) : Type 0 where
  pub after : List ℕ
  pub empty_line : ReadsLine text [] after
  pub boundary_line : ReadsLine after line rest
  pub no_cr : BeginsOnce (crlf ++ line)

-- the text begins so with no line
pub record OpensWithNone (text : List ℕ) : Type 0 where
  pub none : (line rest : List ℕ) → OpensWith text line rest → ⊥

-- the text begins with no empty line
pub record HasNoEmptyLine (text : List ℕ) : Type 0 where
  pub none : (after : List ℕ) → ReadsLine text [] after → ⊥

-- the text opens with the line of this mark, and the rest begins with the line's end
pub record Delimits (text mark pieces : List ℕ) : Type 0 where
  pub line : List ℕ
  pub rest : List ℕ
  pub opens : OpensWith text line rest
  pub mark_is : mark ≡ crlf ++ line
  pub pieces_are : pieces ≡ crlf ++ rest

-- what is after a header section and its empty line
abbrev pub after_header : List ℕ → List ℕ
after_header text = drop (header_end_of text + 2) text

-- the part of a piece: what is after the end of the boundary's line, the header section, and its empty line
abbrev pub part_of : List ℕ → List ℕ
part_of piece = after_header (drop 2 piece)

-- Three parts of a text: after its header section stands the boundary's line, which cuts what follows into pieces.
pub record HasParts (text one two three : List ℕ) : Type 0 where
  pub line : List ℕ
  pub rest : List ℕ
  pub first : List ℕ
  pub second : List ℕ
  pub third : List ℕ
  pub opens : OpensWith (drop (header_end_of text) text) line rest
  pub cuts : IsThreeOf (crlf ++ line) (crlf ++ rest) first second third
  pub one_is : one ≡ part_of first
  pub two_is : two ≡ part_of second
  pub three_is : three ≡ part_of third

-- the text has no three parts
pub record HasNoParts (text : List ℕ) : Type 0 where
  pub none : (one two three : List ℕ) → HasParts text one two three → ⊥

-- A text has its three parts in one way.
abbrev pub PartsAreOne : Type 0
PartsAreOne =
    (text one two three first second third : List ℕ) → HasParts text one two three → HasParts text first second third
    → (one ≡ first) × (two ≡ second) × (three ≡ third)

-- A report has the three parts that it was made of.
abbrev pub ReportComesApart : Type 0
ReportComesApart =
    (told : Told) (text : List ℕ) → MayBeTold told → (is : IsReport told text)
    → HasParts text (first_part told is.arrival is.until) (second_part told is.date is.arrival is.until)
    (third_part told)
