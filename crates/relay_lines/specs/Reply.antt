-- Replies (RFC 5321, section 4.2): lines of one code, all but the last marked by a hyphen.
use Rattle.std.specs.Prelude.{◌≡◌, ℕ, ◌+◌, ◌/◌, ◌%◌, ◌<◌, ◌≤◌, ◌⊎◌, Bool, true, false, List, [], ◌∷◌, ◌++◌, length}
use Rattle.std.specs.List.{AllByRecursion, flat_map}
use Rattle.relay_octets.specs.Line.{crlf, HasNoCrlf}

-- a code, and the text of each line
pub record Reply : Type 0 where
  pub code : ℕ
  pub lines : List (List ℕ)

-- the reply of these parts
abbrev pub made_of : ℕ → List (List ℕ) → Reply
made_of code lines = record { code = code; lines = lines }

-- Reply-code: three digits
abbrev pub code_digits : ℕ → List ℕ
code_digits code = (48 + code / 100) ∷ (48 + code / 10 % 10) ∷ (48 + code % 10) ∷ []

-- a line that another follows: Reply-code "-" text CRLF
abbrev pub middle_line : ℕ → List ℕ → List ℕ
middle_line code text = code_digits code ++ 45 ∷ text ++ crlf

-- the last line: Reply-code [ SP text ] CRLF
abbrev pub last_line : ℕ → List ℕ → List ℕ
last_line code [] = code_digits code ++ crlf
last_line code (octet ∷ text) = code_digits code ++ 32 ∷ octet ∷ text ++ crlf

-- the lines of a reply, as they are written
abbrev pub lines_of_reply : ℕ → List (List ℕ) → List ℕ
lines_of_reply code [] = []
lines_of_reply code (text ∷ []) = last_line code text
lines_of_reply code (text ∷ next ∷ more) = middle_line code text ++ lines_of_reply code (next ∷ more)

-- a reply, as it is written
abbrev pub reply_text : Reply → List ℕ
reply_text reply = lines_of_reply reply.code reply.lines

-- any octets but CR LF; a line has at most 2,048 octets with its code, the mark after it and its
-- CR LF
pub record IsReplyLine (text : List ℕ) : Type 0 where
  pub line : HasNoCrlf text
  pub short : length text ≤ 2042

-- Reply-code: three digits, the first 2 to 5
pub record IsCode (code : ℕ) : Type 0 where
  pub low : 200 ≤ code
  pub high : code < 600

-- a code, and 1 line or more; profile: at most 100 lines
pub record IsReply (reply : Reply) : Type 0 where
  pub code_is : IsCode reply.code
  pub some_line : 0 < length reply.lines
  pub few_lines : length reply.lines ≤ 100
  pub each : AllByRecursion IsReplyLine reply.lines

-- a reply of one line
abbrev pub one_line : ℕ → List ℕ → Reply
one_line code text = made_of code (text ∷ [])

-- the text of the last line
abbrev pub last_text : List (List ℕ) → List ℕ
last_text [] = []
last_text (text ∷ []) = text
last_text (text ∷ next ∷ more) = last_text (next ∷ more)

-- replies as they are written, one after another
abbrev pub written_replies : List Reply → List ℕ
written_replies replies = flat_map reply_text replies

-- what follows the code in a line with this text: where it is the last line, SP and the text, or nothing if there is no
-- text; else a hyphen and the text
abbrev pub IsAfterCode : Bool → List ℕ → List ℕ → Type 0
IsAfterCode true text after = (after ≡ 32 ∷ text) ⊎ ((after ≡ []) × (text ≡ []))
IsAfterCode false text after = after ≡ 45 ∷ text

-- the line, without its CR LF, is a reply's line of this code and text, the last one or not
pub record SpellsLine (line : List ℕ) (code : ℕ) (is_last : Bool) (text : List ℕ) : Type 0 where
  pub after : List ℕ
  pub code_is : IsCode code
  pub after_is : IsAfterCode is_last text after
  pub line_is : line ≡ code_digits code ++ after

-- lines of one code, with these texts, each of which another follows
abbrev pub followed_lines : ℕ → List (List ℕ) → List ℕ
followed_lines code lines = flat_map (middle_line code) lines

-- The octets are this reply as it may come: Reply-code "-" text CRLF any number of times, and then
-- Reply-code [ SP text ] CRLF. That is its written form, or this with a space after the last code
-- where no text follows.
pub record ReadsReply (octets : List ℕ) (reply : Reply) : Type 0 where
  pub middle : List (List ℕ)
  pub last : List ℕ
  pub line : List ℕ
  pub is_reply : IsReply reply
  pub lines_are : reply.lines ≡ middle ++ last ∷ []
  pub last_is : SpellsLine line reply.code true last
  pub octets_are : octets ≡ followed_lines reply.code middle ++ (line ++ crlf)
