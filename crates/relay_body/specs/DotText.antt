-- Dot texts: mail data and its transparency (RFC 5321, sections 4.1.1.4 and 4.5.2).
use Rattle.std.specs.Prelude.{◌≡◌, ◌≢◌, ℕ, Bool, true, false, ◌==◌, ◌&&◌, if◌then◌else◌, List, [], ◌∷◌, ◌++◌, map}
use Rattle.std.specs.List.{AllByRecursion}
use Rattle.relay_octets.specs.Line.{HasNoCrlf, AreLines, lines_text}

-- the end of mail data: a line that is a single period, with its CR LF
abbrev pub end_of_data : List ℕ
end_of_data = 46 ∷ 13 ∷ 10 ∷ []

-- the octets are empty, or CR LF are their last
abbrev pub ends_in_line_end : List ℕ → Bool
ends_in_line_end [] = true
ends_in_line_end (octet ∷ []) = false
ends_in_line_end (octet ∷ next ∷ []) = octet == 13 && next == 10
ends_in_line_end (octet ∷ next ∷ third ∷ more) = ends_in_line_end (next ∷ third ∷ more)

-- a line of mail text as it is received: no CR LF is in it, and it isn't composed of a single period
pub record IsTextLine (line : List ℕ) : Type 0 where
  pub no_crlf : HasNoCrlf line
  pub not_end : line ≢ 46 ∷ []

-- each of them is a line of mail text
abbrev pub AreTextLines : List (List ℕ) → Type 0
AreTextLines lines = AllByRecursion IsTextLine lines

-- a line as the receiver takes it: if its first character is a period, that is deleted
abbrev pub without_period : List ℕ → List ℕ
without_period [] = []
without_period (octet ∷ octets) = if octet == 46 then octets else octet ∷ octets

-- a line as the sender sends it: if its first character is a period, one additional period is
-- inserted before it
abbrev pub with_period : List ℕ → List ℕ
with_period [] = []
with_period (octet ∷ octets) = if octet == 46 then 46 ∷ octet ∷ octets else octet ∷ octets

-- the content of lines of mail text
abbrev pub content_of : List (List ℕ) → List ℕ
content_of lines = lines_text (map without_period lines)

-- the text is lines and the end of mail data, and the content is those lines as the receiver takes
-- them
pub record ReadsDotText (text content : List ℕ) : Type 0 where
  pub lines : List (List ℕ)
  pub each : AreTextLines lines
  pub text_is : text ≡ lines_text lines ++ end_of_data
  pub content_is : content ≡ content_of lines

-- the content is lines, and the text is those lines as the sender sends them and the end of mail
-- data
pub record WritesDotText (content text : List ℕ) : Type 0 where
  pub lines : List (List ℕ)
  pub each : AreLines lines
  pub content_is : content ≡ lines_text lines
  pub text_is : text ≡ lines_text (map with_period lines) ++ end_of_data

-- the dot text of the content is after what stood there
pub record AddsDotText (content old new : List ℕ) : Type 0 where
  pub text : List ℕ
  pub writes : WritesDotText content text
  pub added : new ≡ old ++ text

-- no beginning of the octets is a dot text
pub record HasNoDotText (octets : List ℕ) : Type 0 where
  pub nowhere : (text content rest : List ℕ) → ReadsDotText text content → octets ≢ text ++ rest
