-- The reply with which the relay closes a connection unasked (RFC 5321, section 3.8).
use Rattle.std.specs.Prelude.{ℕ, List, ◌++◌, codes}
use Rattle.relay_envelope.specs.HostName.{IsHostName}
use Rattle.relay_lines.specs.Reply.{IsReply, one_line, reply_text}
use Rattle.relay_loop.specs.declared.closing.Closing.{Closing}
use Rattle.relay_loop.specs.declared.closing.Closing.TheVariants.{TooMany, Timeout, Stopping}

-- the text after the name of the host
abbrev pub text_of : Closing → List ℕ
text_of TooMany = codes " too many connections, closing"
text_of Timeout = codes " timeout, closing"
text_of Stopping = codes " service stopping, closing"

-- the reply of a host of this name, as it is written
abbrev pub closing_of : List ℕ → Closing → List ℕ
closing_of host why = reply_text (one_line 421 (host ++ text_of why))

-- The text is one reply.
abbrev pub ClosingIsReply : Type 0
ClosingIsReply =
    (host : List ℕ) (why : Closing) → IsHostName host → IsReply (one_line 421 (host ++ text_of why))
