-- Command lines (RFC 5321, section 4.1.1): the command that a line, without its CR LF, gives, or
-- its first fault.
use Rattle.std.specs.Prelude.{◌≡◌, ◌↔◌, ◌==◌, List, [], ◌∷◌, ◌++◌, ℕ, Bool, true, false, ◌||◌, length, codes, Option}
use Rattle.std.specs.Prelude.{Some, None, option_map, ok_or, find, Result, Ok, Err, if◌then◌else◌}
use Rattle.std.specs.List.{AllPass}
use Rattle.relay_octets.specs.Line.{HasNoCrlf}
use Rattle.relay_octets.specs.LetterCase.{IsSameWord}
use Rattle.relay_lines.specs.Word.{is_printable, is_word, are_printable, without_trailing_blanks, first_word}
use Rattle.relay_lines.specs.Word.{argument_of, after_keyword, is_host_word, SplitsLine, BeginsWithKeyword, IsHostWord}
use Rattle.relay_lines.specs.declared.command.LineFault.{LineFault}
use Rattle.relay_lines.specs.declared.command.LineFault.TheVariants.{Unknown, BadByte, BadArgument, NotOffered}
use Rattle.relay_lines.specs.declared.command.LineFault.TheVariants.{BadChunkSize}
use Rattle.relay_lines.specs.declared.chunk_argument.BdatArgument.{BdatArgument}
use Rattle.relay_lines.specs.ChunkArgument.{SpellsBdat, bdat_argument_of}
use Rattle.relay_lines.specs.declared.command.Verb.{Verb}
use Rattle.relay_lines.specs.declared.command.Verb.TheVariants as verb
use Rattle.relay_lines.specs.declared.command.Command.{Command as Parsed}
use Rattle.relay_lines.specs.declared.command.Command.TheVariants as parsed

-- a command with its octets
pub data Command : Type 0 where
  Helo : List ℕ → Command
  Ehlo : List ℕ → Command
  Mail : List ℕ → Command
  Rcpt : List ℕ → Command
  Data : Command
  Bdat : BdatArgument → Command
  Rset : Command
  Noop : Command
  Vrfy : Command
  Help : Command
  Quit : Command

-- the word of each verb
abbrev pub word_of : Verb → List ℕ
word_of verb.Helo = codes "HELO"
word_of verb.Ehlo = codes "EHLO"
word_of verb.Mail = codes "MAIL"
word_of verb.Rcpt = codes "RCPT"
word_of verb.Data = codes "DATA"
word_of verb.Bdat = codes "BDAT"
word_of verb.Rset = codes "RSET"
word_of verb.Noop = codes "NOOP"
word_of verb.Vrfy = codes "VRFY"
word_of verb.Help = codes "HELP"
word_of verb.Expn = codes "EXPN"
word_of verb.Turn = codes "TURN"
word_of verb.Quit = codes "QUIT"

-- the verbs
abbrev pub verbs : List Verb
verbs =
    verb.Helo ∷ verb.Ehlo ∷ verb.Mail ∷ verb.Rcpt ∷ verb.Data ∷ verb.Bdat ∷ verb.Rset ∷ verb.Noop
    ∷ verb.Vrfy ∷ verb.Help ∷ verb.Expn ∷ verb.Turn ∷ verb.Quit ∷ []

-- profile: EXPN and TURN aren't offered
abbrev pub is_offered : Verb → Bool
is_offered verb.Expn = false
is_offered verb.Turn = false
is_offered _ = true

-- the verb that a word is, in any letter case
unfoldable pub verb_of : List ℕ → Option Verb
verb_of word = find (λ verb. is_word word (word_of verb)) verbs

-- the command, where its argument is as it must be
abbrev pub command_if : Bool → Command → Result Command LineFault
command_if true command = Ok command
command_if false command = Err BadArgument

-- a chunk, where the argument of BDAT can be read (RFC 3030, section 2)
abbrev pub bdat_if : Option BdatArgument → Result Command LineFault
bdat_if None = Err BadChunkSize
bdat_if (Some argument) = Ok (Bdat argument)

-- what each verb says with an argument (section 4.1.1)
unfoldable pub command_of : Verb → List ℕ → Result Command LineFault
command_of verb.Helo argument = command_if (is_host_word argument) (Helo argument)
command_of verb.Ehlo argument = command_if (is_host_word argument) (Ehlo argument)
command_of verb.Mail argument = ok_or (option_map Mail (after_keyword (codes "FROM:") argument)) BadArgument
command_of verb.Rcpt argument = ok_or (option_map Rcpt (after_keyword (codes "TO:") argument)) BadArgument
command_of verb.Data argument = command_if (length argument == 0) Data
command_of verb.Bdat argument = bdat_if (bdat_argument_of argument)
command_of verb.Rset argument = command_if (length argument == 0) Rset
command_of verb.Noop argument = Ok Noop
command_of verb.Vrfy argument = Ok Vrfy
command_of verb.Help argument = Ok Help
command_of verb.Expn argument = Err NotOffered
command_of verb.Turn argument = Err NotOffered
command_of verb.Quit argument = command_if (length argument == 0) Quit

-- the command of a verb, or the fault that there is none
abbrev pub reading_of_verb : Option Verb → List ℕ → Result Command LineFault
reading_of_verb None argument = Err Unknown
reading_of_verb (Some verb) argument = command_of verb argument

-- the reading of a word and an argument
unfoldable pub reading_of_words : List ℕ → List ℕ → Result Command LineFault
reading_of_words word argument = reading_of_verb (verb_of word) argument

-- the word is BDAT
abbrev pub is_bdat : List ℕ → Bool
is_bdat word = is_word word (codes "BDAT")

-- the reading of a text without blanks at its end: a bad octet is found before the verb, but after BDAT, if it makes a
-- bad chunk size; the verb is found before its argument
unfoldable pub reading_of_text : List ℕ → Result Command LineFault
reading_of_text text =
    if are_printable text || is_bdat (first_word text)
    then reading_of_words (first_word text) (argument_of text)
    else Err BadByte

-- the reading of a line
unfoldable pub reading_of : List ℕ → Result Command LineFault
reading_of line = reading_of_text (without_trailing_blanks line)

-- the octets of a command that the code answers
abbrev pub value_of : Parsed → Command
value_of (parsed.Helo word) = Helo word.now
value_of (parsed.Ehlo word) = Ehlo word.now
value_of (parsed.Mail path) = Mail path.now
value_of (parsed.Rcpt path) = Rcpt path.now
value_of parsed.Data = Data
value_of (parsed.Bdat argument) = Bdat argument
value_of parsed.Rset = Rset
value_of parsed.Noop = Noop
value_of parsed.Vrfy = Vrfy
value_of parsed.Help = Help
value_of parsed.Quit = Quit

-- what the code answers, with octets in place of slices
abbrev pub answer_of : Result Parsed LineFault → Result Command LineFault
answer_of (Ok command) = Ok (value_of command)
answer_of (Err fault) = Err fault

-- how each command is spelled: its verb, in any letter case, and its argument
abbrev pub IsSpelled : Command → List ℕ → List ℕ → Type 0
IsSpelled (Helo host) word argument =
    IsSameWord word (codes "HELO") × IsHostWord host × (argument ≡ host)
IsSpelled (Ehlo host) word argument =
    IsSameWord word (codes "EHLO") × IsHostWord host × (argument ≡ host)
IsSpelled (Mail path) word argument =
    IsSameWord word (codes "MAIL") × BeginsWithKeyword argument (codes "FROM:") path
IsSpelled (Rcpt path) word argument =
    IsSameWord word (codes "RCPT") × BeginsWithKeyword argument (codes "TO:") path
IsSpelled Data word argument = IsSameWord word (codes "DATA") × (argument ≡ [])
IsSpelled (Bdat chunk) word argument = IsSameWord word (codes "BDAT") × SpellsBdat argument chunk
IsSpelled Rset word argument = IsSameWord word (codes "RSET") × (argument ≡ [])
IsSpelled Noop word argument = IsSameWord word (codes "NOOP")
IsSpelled Vrfy word argument = IsSameWord word (codes "VRFY")
IsSpelled Help word argument = IsSameWord word (codes "HELP")
IsSpelled Quit word argument = IsSameWord word (codes "QUIT") × (argument ≡ [])

-- the line gives this command: its word and its argument are printable, and they spell it
pub record ReadsCommand (line : List ℕ) (command : Command) : Type 0 where
  pub word : List ℕ
  pub argument : List ℕ
  pub splits : SplitsLine line word argument
  pub printable : AllPass is_printable (word ++ argument)
  pub spelled : IsSpelled command word argument

-- A line has a word and an argument.
abbrev pub EveryLineSplits : Type 0
EveryLineSplits =
    (line : List ℕ) → (word : List ℕ) × (argument : List ℕ) × SplitsLine line word argument

-- A line has no other word and no other argument.
abbrev pub SplitIsOne : Type 0
SplitIsOne =
    (line word argument other more : List ℕ) → SplitsLine line word argument
    → SplitsLine line other more → (word ≡ other) × (argument ≡ more)

-- A line is read as its word and its argument, whatever spaces are between and after them.
abbrev pub ReadingIsOfWords : Type 0
ReadingIsOfWords =
    (line word argument : List ℕ) → SplitsLine line word argument
    → reading_of line
    ≡ (if are_printable (word ++ argument) || is_bdat word then reading_of_words word argument
    else Err BadByte)

-- What is read is spelled so, and what is spelled so is read.
abbrev pub ReadingIsOfSpelling : Type 0
ReadingIsOfSpelling =
    (line : List ℕ) (command : Command) → (reading_of line ≡ Ok command) ↔ ReadsCommand line command

-- A bad octet is found exactly if the word isn't BDAT, and it or the argument holds one.
abbrev pub BadByteIsFound : Type 0
BadByteIsFound =
    (line word argument : List ℕ) → SplitsLine line word argument
    → (reading_of line ≡ Err BadByte)
    ↔ ((¬ AllPass is_printable (word ++ argument)) × (¬ IsSameWord word (codes "BDAT")))

-- A line is unknown exactly if it is printable and its word is no verb.
abbrev pub UnknownIsFound : Type 0
UnknownIsFound =
    (line word argument : List ℕ) → SplitsLine line word argument
    → (reading_of line ≡ Err Unknown)
    ↔ (AllPass is_printable (word ++ argument) × ((verb : Verb) → ¬ IsSameWord word (word_of verb)))

-- the word is a verb that is offered, or one that isn't, as this says
abbrev pub IsVerb : Bool → List ℕ → Type 0
IsVerb offered word = (verb : Verb) × IsSameWord word (word_of verb) × (is_offered verb ≡ offered)

-- An argument is bad exactly if the line is printable, its word is a verb that is offered but not BDAT, and the two
-- spell no command.
abbrev pub BadArgumentIsFound : Type 0
BadArgumentIsFound =
    (line word argument : List ℕ) → SplitsLine line word argument
    → (reading_of line ≡ Err BadArgument)
    ↔ (AllPass is_printable (word ++ argument) × IsVerb true word × (¬ IsSameWord word (codes "BDAT"))
    × ((command : Command) → ¬ IsSpelled command word argument))

-- A verb isn't offered exactly if the line is printable, and its word is such a verb.
abbrev pub NotOfferedIsFound : Type 0
NotOfferedIsFound =
    (line word argument : List ℕ) → SplitsLine line word argument
    → (reading_of line ≡ Err NotOffered)
    ↔ (AllPass is_printable (word ++ argument) × IsVerb false word)

-- The letter case of a verb doesn't matter.
abbrev pub LetterCaseIsFree : Type 0
LetterCaseIsFree =
    (line other word again argument : List ℕ) → SplitsLine line word argument
    → SplitsLine other again argument → IsSameWord word again → reading_of line ≡ reading_of other

-- A bad chunk size is found exactly if the word is BDAT, and the argument spells no chunk, whatever octets it holds.
abbrev pub BadChunkSizeIsFound : Type 0
BadChunkSizeIsFound =
    (line word argument : List ℕ) → SplitsLine line word argument
    → (reading_of line ≡ Err BadChunkSize)
    ↔ (IsSameWord word (codes "BDAT") × ((chunk : BdatArgument) → ¬ SpellsBdat argument chunk))

-- A line that is read as a command has no CR LF in it.
abbrev pub CommandHasNoCrlf : Type 0
CommandHasNoCrlf =
    (line : List ℕ) (command : Command) → reading_of line ≡ Ok command → HasNoCrlf line
