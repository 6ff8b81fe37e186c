-- What callers see of a connection.
use Rattle.std.specs.Prelude.{◌≡◌, ◌≢◌, ◌<◌, ◌||◌, ℕ, List, Bool, true, false, Option, None, Some}
use Rattle.std.specs.Io.KnownBytes.{IsAtEnd, append_known, prepend_known}
use Rattle.std.specs.declared.io.ErrorKind.{ErrorKind}
use Rattle.std.specs.declared.io.ErrorKind.TheVariants.{Interrupted, WouldBlock}
use Rattle.relay_connections.specs.declared.channel.Channel.{Channel}
use Rattle.relay_connections.specs.declared.channel.End.TheVariants.{Broken, Input}
use Rattle.relay_connections.specs.declared.channel.Readiness.{Readiness}

-- what was read of it and isn't used yet
abbrev pub unread_of : {S : Type 0} → Channel S → List ℕ
unread_of channel = channel.block

-- what is held back, to be written before all else
abbrev pub held_of : {S : Type 0} → Channel S → List ℕ
held_of channel = channel.held

-- it counts as ready to be read
abbrev pub is_readable : {S : Type 0} → Channel S → Bool
is_readable channel = channel.ready.reads

-- it counts as ready to be written to
abbrev pub is_writable : {S : Type 0} → Channel S → Bool
is_writable channel = channel.ready.writes

-- its write side is shut down
abbrev pub is_shut : {S : Type 0} → Channel S → Bool
is_shut channel = channel.is_shut

-- octets may be written to it at once: the system has said so, and it is neither shut down nor broken
pub record MayWrite {S : Type 0} (channel : Channel S) : Type 0 where
  pub ready : is_writable channel ≡ true
  pub unshut : is_shut channel ≡ false
  pub whole : channel.end ≢ Some Broken

-- A stream had this many tries at writing and has had that many since, if they are counted: at least one more.
abbrev pub WasTried : Option ℕ → Option ℕ → Type 0
WasTried None after = Unit {0}
WasTried (Some before) None = ⊥
WasTried (Some before) (Some after) = before < after

-- A stream is registered under this token, as far as that is known.
abbrev pub IsUnder : ℕ → Option ℕ → Type 0
IsUnder token None = Unit {0}
IsUnder token (Some known) = known ≡ token

-- the connection after the system has reported what it may be ready for: this too, and nothing else has changed
abbrev pub noted : {S : Type 0} → Readiness → Channel S → Channel S
noted reported channel = record channel {
  ready = record {
    reads = channel.ready.reads || reported.reads;
    writes = channel.ready.writes || reported.writes;
    ends = channel.ready.ends || reported.ends;
  };
}

-- The connection after a read has failed in this way: one that would have to wait waits until the system reports that
-- it can be read, one that a signal interrupted can be repeated, and after any other it is broken.
pub record FailsReading {S : Type 0} (kind : ErrorKind) (old new : Channel S) : Type 0 where
  pub waits : kind ≡ WouldBlock → new ≡ record old { ready = record old.ready { reads = false } }
  pub again : kind ≡ Interrupted → new ≡ old
  pub breaks : kind ≢ WouldBlock → kind ≢ Interrupted → new ≡ record old { end = Some Broken }

-- the same after a write
pub record FailsWriting {S : Type 0} (kind : ErrorKind) (old new : Channel S) : Type 0 where
  pub waits : kind ≡ WouldBlock → new ≡ record old { ready = record old.ready { writes = false } }
  pub again : kind ≡ Interrupted → new ≡ old
  pub breaks : kind ≢ WouldBlock → kind ≢ Interrupted → new ≡ record old { end = Some Broken }

-- what was read and isn't used, what is held back, and the stream are the same
pub record KeepsOctets {S : Type 0} (old new : Channel S) : Type 0 where
  pub unread : unread_of new ≡ unread_of old
  pub held : held_of new ≡ held_of old
  pub stream : new.stream ≡ old.stream
  pub shut : is_shut new ≡ is_shut old

-- Below: given what a stream has left of its input, and what it has taken of the output, as far as that is known.
module _ {S : Type 0} (remaining contents : S → Option (List ℕ)) where
  -- what is left of a connection's input: what was read and isn't used, followed by what its stream has left
  abbrev pub input_left : Channel S → Option (List ℕ)
  input_left channel = prepend_known (unread_of channel) (remaining channel.stream)

  -- a connection's output so far: what its stream has taken, followed by what is held back
  abbrev pub output_of : Channel S → Option (List ℕ)
  output_of channel = append_known (contents channel.stream) (held_of channel)

  -- if it counts as at its end, its stream has nothing left
  abbrev pub IsEndTrue : Channel S → Type 0
  IsEndTrue channel = channel.end ≡ Some Input → IsAtEnd (remaining channel.stream)

  -- a call that writes nothing, and keeps what is held back
  pub record KeepsOutput (old new : Channel S) : Type 0 where
    pub held : held_of new ≡ held_of old
    pub taken : contents new.stream ≡ contents old.stream
    pub shut : is_shut new ≡ is_shut old

  -- a call that reads nothing, and keeps what was read
  pub record KeepsInput (old new : Channel S) : Type 0 where
    pub unread : unread_of new ≡ unread_of old
    pub left : remaining new.stream ≡ remaining old.stream
    pub ends : IsEndTrue old → IsEndTrue new
