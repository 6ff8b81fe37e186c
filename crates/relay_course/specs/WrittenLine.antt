-- What a client writes (RFC 5321, section 4.1.1; RFC 3030, section 2; RFC 3461, section 4): the lines of its commands,
-- and the text as one chunk.
use Rattle.std.specs.Prelude.{ℕ, zero, suc, Bool, true, List, [], ◌∷◌, ◌++◌, length, if◌then◌else◌}
use Rattle.relay_octets.specs.Line.{line_text}
use Rattle.relay_lines.specs.Command.{Helo, Ehlo, Mail, Rcpt, Data, Bdat, Quit}
use Rattle.relay_lines.specs.WrittenCommand.{written_command}
use Rattle.relay_envelope.specs.declared.envelope.Envelope.{Envelope}
use Rattle.relay_envelope.specs.declared.envelope.Recipient.{Recipient}
use Rattle.relay_envelope.specs.Envelope.{mail_text, rcpt_text}

-- "EHLO" SP Domain CRLF, and "HELO" SP Domain CRLF
abbrev pub ehlo_line : List ℕ → List ℕ
ehlo_line host = line_text (written_command (Ehlo host))

abbrev pub helo_line : List ℕ → List ℕ
helo_line host = line_text (written_command (Helo host))

-- "MAIL FROM:" Reverse-path and its parameters CRLF: they are passed on to a server that offers DSN (RFC 3461, section
-- 5.2.1), and to no other
abbrev pub mail_line : Bool → Envelope → List ℕ
mail_line dsn envelope = line_text (written_command (Mail (if dsn then mail_text envelope else envelope.reverse_path)))

-- "RCPT TO:" Forward-path and its parameters CRLF, which are passed on likewise
abbrev pub rcpt_line : Bool → Recipient → List ℕ
rcpt_line dsn recipient = line_text (written_command (Rcpt (if dsn then rcpt_text recipient else recipient.path)))

-- the RCPT of a place of an envelope, from 0; a place that it doesn't have has none
abbrev pub rcpt_line_at : Bool → List Recipient → ℕ → List ℕ
rcpt_line_at dsn [] place = []
rcpt_line_at dsn (recipient ∷ recipients) zero = rcpt_line dsn recipient
rcpt_line_at dsn (recipient ∷ recipients) (suc place) = rcpt_line_at dsn recipients place

-- "DATA" CRLF
abbrev pub data_line : List ℕ
data_line = line_text (written_command Data)

-- the line of a last chunk of this size: "BDAT" SP chunk-size SP "LAST" CRLF
abbrev pub last_chunk_line : ℕ → List ℕ
last_chunk_line size = line_text (written_command (Bdat (record { size = size; last = true })))

-- the whole text as the one and last chunk
abbrev pub last_chunk : List ℕ → List ℕ
last_chunk text = last_chunk_line (length text) ++ text

-- "QUIT" CRLF
abbrev pub quit_line : List ℕ
quit_line = line_text (written_command Quit)
