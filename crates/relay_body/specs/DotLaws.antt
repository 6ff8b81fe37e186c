-- Laws of dot texts and of their reader.
use Rattle.std.specs.Prelude.{◌≡◌, ◌≢◌, ℕ, ◌≤◌, true, ◌⊎◌, List, [], ◌++◌}
use Rattle.relay_octets.specs.Line.{crlf}
use Rattle.relay_body.specs.declared.dot_reader.DotReader.{DotReader}
use Rattle.relay_body.specs.DotText.{ends_in_line_end, HasNoDotText, ReadsDotText, WritesDotText}
use Rattle.relay_body.specs.DotReading.{HasFailed, IsDone, IsReading, held_by, limit_of}

-- a text has one content
abbrev pub OneContent : Type 0
OneContent =
    (text content other : List ℕ) → ReadsDotText text content → ReadsDotText text other → content ≡ other

-- no dot text begins another
abbrev pub NoTextBeginsAnother : Type 0
NoTextBeginsAnother =
    (text content other more after rest : List ℕ) → ReadsDotText text content → ReadsDotText other more
    → text ++ after ≡ other ++ rest → (text ≡ other) × (after ≡ rest)

-- what is written is read
abbrev pub WrittenIsRead : Type 0
WrittenIsRead = (content text : List ℕ) → WritesDotText content text → ReadsDotText text content

-- a content has one text
abbrev pub OneText : Type 0
OneText =
    (content text other : List ℕ) → WritesDotText content text → WritesDotText content other → text ≡ other

-- what is empty or ends in CR LF can be written
abbrev pub EachContentIsWritten : Type 0
EachContentIsWritten =
    (content : List ℕ) → ends_in_line_end content ≡ true → (text : List ℕ) × WritesDotText content text

-- whatever is read is empty or ends in CR LF
abbrev pub ContentEndsInLineEnd : Type 0
ContentEndsInLineEnd = (text content : List ℕ) → ReadsDotText text content → ends_in_line_end content ≡ true

-- the test of line ends is true of no octets, and of octets with CR LF after them
abbrev pub LineEndIsSeen : Type 0
LineEndIsSeen =
    (content front : List ℕ) → (content ≡ []) ⊎ (content ≡ front ++ crlf) → ends_in_line_end content ≡ true

-- and it is true of nothing else
abbrev pub SeenIsLineEnd : Type 0
SeenIsLineEnd =
    (content : List ℕ) → ends_in_line_end content ≡ true
    → (content ≡ []) ⊎ ((front : List ℕ) × (content ≡ front ++ crlf))

-- no dot text is empty
abbrev pub NoTextIsEmpty : Type 0
NoTextIsEmpty = (text content : List ℕ) → ReadsDotText text content → text ≢ []

-- a reader holds no more than its limit, whatever it has answered
abbrev pub HoldsWithinLimit : Type 0
HoldsWithinLimit = (reader : DotReader) → held_by reader ≤ limit_of reader

-- a reader that reads on has used no whole dot text
abbrev pub ReadingHasNoDotText : Type 0
ReadingHasNoDotText =
    (reader : DotReader) (limit : ℕ) (octets : List ℕ) → IsReading reader limit octets → HasNoDotText octets

-- and it is neither done nor failed
abbrev pub ReadingIsOpen : Type 0
ReadingIsOpen =
    (reader : DotReader) (limit : ℕ) (octets : List ℕ) → IsReading reader limit octets
    → (¬ IsDone reader) × (¬ HasFailed reader)
