-- Commands as a client writes them (RFC 5321, section 4.1.1; RFC 3030, section 2): the verb in
-- upper case, then what it asks for.
use Rattle.std.specs.Prelude.{◌≡◌, ℕ, ◌+◌, ◌^◌, ◌<◌, ◌≤◌, Bool, true, false, List, [], ◌++◌, codes, decimal, length, Ok}
use Rattle.std.specs.List.{AllPass, suffix_len}
use Rattle.relay_octets.specs.Line.{HasNoCrlf}
use Rattle.relay_lines.specs.Word.{is_blank, is_printable, IsHostWord}
use Rattle.relay_lines.specs.Command.{Command, Helo, Ehlo, Mail, Rcpt, Data, Bdat, Rset, Noop, Vrfy, Help, Quit}
use Rattle.relay_lines.specs.Command.{reading_of}

-- SP end-marker after the size of the last chunk, and after that of another nothing
abbrev pub end_marker : Bool → List ℕ
end_marker true = codes " LAST"
end_marker false = []

-- the line of a command, without its CR LF; if an argument may be left out, there is none
abbrev pub written_command : Command → List ℕ
written_command (Helo host) = codes "HELO " ++ host
written_command (Ehlo host) = codes "EHLO " ++ host
written_command (Mail text) = codes "MAIL FROM:" ++ text
written_command (Rcpt text) = codes "RCPT TO:" ++ text
written_command Data = codes "DATA"
written_command (Bdat chunk) = codes "BDAT " ++ (decimal chunk.size ++ end_marker chunk.last)
written_command Rset = codes "RSET"
written_command Noop = codes "NOOP"
written_command Vrfy = codes "VRFY"
written_command Help = codes "HELP"
written_command Quit = codes "QUIT"

-- the text may follow this front of a line: it is printable, ends in no blank, and the line with
-- its CR LF is short enough
pub record MayFollow (front text : List ℕ) : Type 0 where
  pub printable : AllPass is_printable text
  pub ends_in_no_blank : suffix_len is_blank text ≡ 0
  pub short : length (front ++ text) + 2 ≤ 2048

-- the parts of the command are such that it may be written
abbrev pub MayBeWritten : Command → Type 0
MayBeWritten (Helo host) = IsHostWord host
MayBeWritten (Ehlo host) = IsHostWord host
MayBeWritten (Mail text) = MayFollow (codes "MAIL FROM:") text
MayBeWritten (Rcpt text) = MayFollow (codes "RCPT TO:") text
MayBeWritten Data = Unit {0}
MayBeWritten (Bdat chunk) = chunk.size < 2 ^ 32
MayBeWritten Rset = Unit {0}
MayBeWritten Noop = Unit {0}
MayBeWritten Vrfy = Unit {0}
MayBeWritten Help = Unit {0}
MayBeWritten Quit = Unit {0}

-- the line is one of this command: read as it, without a CR LF, and with its own at most 2,048
-- octets
pub record IsCommandLine (line : List ℕ) (command : Command) : Type 0 where
  pub is_read : reading_of line ≡ Ok command
  pub has_no_crlf : HasNoCrlf line
  pub short : length line + 2 ≤ 2048

-- What is written of a command is a line of it.
abbrev pub WrittenCommandIsRead : Type 0
WrittenCommandIsRead =
    (command : Command) → MayBeWritten command → IsCommandLine (written_command command) command
