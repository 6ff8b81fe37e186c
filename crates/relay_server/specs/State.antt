-- What is between a server and its client (RFC 5321, sections 3.1, 3.3 and 4.1.4).
use Rattle.std.specs.Prelude.{List, ℕ}
use Rattle.relay_envelope.specs.declared.envelope.Envelope.{Envelope}
use Rattle.relay_trace.specs.declared.received.Protocol.{Protocol}
use Rattle.relay_server.specs.declared.client.Client.{Client}

-- a client by its word, and by HELO or EHLO
abbrev pub client_of : List ℕ → Protocol → Client
client_of word protocol = record { word = word; protocol = protocol }

-- while a command is awaited: the client hasn't said who it is; it has; a mail transaction is open;
-- chunks of its content have come; a chunk of it was refused (RFC 3030, section 2)
pub data CommandState : Type 0 where
  Fresh : CommandState
  Greeted : Client → CommandState
  Open : Client → Envelope → CommandState
  Gathering : Client → Envelope → List ℕ → CommandState
  Spent : Client → CommandState

-- a command is awaited; mail data is, for a client and an envelope; nothing is, after a close
pub data State : Type 0 where
  Command : CommandState → State
  Receiving : Client → Envelope → State
  Closed : State

-- a session begins
abbrev pub start : State
start = Command Fresh
