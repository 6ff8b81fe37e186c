-- What clients' streams have yielded and taken, beside what their sessions have heard and written. What was read of a
-- stream is the input of its session's dialogue, followed by what is unread still. What was written to it is the output
-- of that dialogue, without what is held back or unwritten.
use Rattle.std.specs.Prelude.{◌≡◌, ◌⊎◌, ℕ, List, [], ◌++◌, Option, None, Some, Box, drop}
use Rattle.std.specs.Global.{Global}
use Rattle.std.specs.Io.KnownBytes.{Appends, Consumes, Keeps, append_known, prepend_known}
use Rattle.relay_server.specs.Dialogue.{IsDialogue, Said}
use Rattle.relay_server.specs.Setup.{Setup}
use Rattle.relay_loop.specs.Closing.{closing_of}
use Rattle.relay_loop.specs.declared.closing.Closing.TheVariants.{Stopping, Timeout}
use Rattle.relay_connections.specs.Channel.{input_left, output_of, unread_of}
use Rattle.relay_connections.specs.declared.channel.Channel.{Channel}
use Rattle.relay_connections.specs.declared.client.Client.{Client}

-- the start of a client's connection: the client's address, and what its stream had left of its input and had taken of
-- its output then, if that is known
pub record Beginning : Type 0 where
  pub address : List ℕ
  pub input : Option (List ℕ)
  pub output : Option (List ℕ)

-- the parameters of sessions by client address, and the start of each client's connection by session number
pub record Setting : Type 0 where
  pub setups : List ℕ → Setup
  pub beginnings : ℕ → Beginning

-- the parameters of the session of a number
abbrev pub setup_at : Setting → ℕ → Setup
setup_at setting number = setting.setups (setting.beginnings number).address

-- the line with which a relay of this host cuts a client off (RFC 5321, section 3.8): the client is late, or the relay
-- ends its sessions
abbrev pub IsLastLine : List ℕ → List ℕ → Type 0
IsLastLine host line = (line ≡ closing_of host Timeout) ⊎ (line ≡ closing_of host Stopping)

-- What a peer gets in all: the output of a dialogue, followed by at most the one line with which the relay cuts a
-- client off.
pub record GetsDialogue (setup : Setup) (beginning : Beginning) (output : Option (List ℕ)) : Type 0 where
  pub said : Said
  pub dialogue : IsDialogue setup said
  pub gets : Appends beginning.output output said.output
      ⊎ ((line : List ℕ) × IsLastLine setup.host line × Appends beginning.output output (said.output ++ line))

-- Below: given what is known of the streams of connections.
module _ {S : Type 0} (remaining contents : S → Option (List ℕ)) where
  -- the start of a client's connection on this stream
  abbrev pub beginning_of : List ℕ → S → Beginning
  beginning_of address stream = record {
    address = address;
    input = remaining stream;
    output = contents stream;
  }

  -- what is left of a connection's input, after this many of the buffered octets were heard
  abbrev pub input_after : ℕ → Channel S → Option (List ℕ)
  input_after heard channel = prepend_known (drop heard (unread_of channel)) (remaining channel.stream)

  -- what a peer gets of a connection with these unwritten octets
  abbrev pub output_and : Channel S → List ℕ → Option (List ℕ)
  output_and channel waiting = append_known (output_of remaining contents channel) waiting

  -- A connection carries a dialogue. The input that it had at its start is what was heard, followed by what is left.
  -- Its output is what it had at its start, followed by what the session has written, of which these octets are
  -- unwritten.
  pub record Carries (beginning : Beginning) (heard : ℕ) (channel : Channel S) (said : Said) (waiting : List ℕ)
      : Type 0 where
    pub input : Consumes beginning.input (input_after heard channel) said.input
    pub output : Appends beginning.output (output_and channel waiting) said.output

  -- The last octets of a connection are those of its dialogue; or all of the dialogue was written, and they are the
  -- line with which the relay cuts the client off.
  pub record CarriesLast (setup : Setup) (beginning : Beginning) (heard : ℕ) (channel : Channel S) (last : List ℕ)
      : Type 0 where
    pub said : Said
    pub dialogue : IsDialogue setup said
    pub carries : Carries beginning heard channel said last
        ⊎ (Carries beginning heard channel said [] × IsLastLine setup.host last)

  -- The connection of a stream has begun with this output, of which something may be written already.
  pub record Begins (stream : S) (output : List ℕ) (channel : Channel S) (waiting : List ℕ) : Type 0 where
    pub input : Keeps (remaining stream) (input_left remaining contents channel)
    pub said : Keeps (append_known (contents stream) output) (output_and channel waiting)

  -- the start of the connection of a number after one of a client at this address, on this stream, was opened:
  -- unchanged if there was a client under the number
  abbrev pub beginning_or : Option (Box (Client S) Global) → Beginning → List ℕ → S → Beginning
  beginning_or None before address stream = beginning_of address stream
  beginning_or (Some client) before address stream = before
