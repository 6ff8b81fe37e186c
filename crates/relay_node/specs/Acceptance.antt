-- What is accepted of an offer: its envelope, and its content after one time stamp line (RFC 5321, section
-- 4.4).
use Rattle.std.specs.Prelude.{◌≡◌, ℕ, List}
use Rattle.relay_trace.specs.TimeStamp.{Stamp, IsPassed}
use Rattle.relay_routes.specs.declared.config.Config.{Config}
use Rattle.relay_server.specs.declared.client.Client.{Client}
use Rattle.relay_server.specs.Dialogue.{Offered}
use Rattle.relay_server.specs.DialogueLaws.{MayBeStored}
use Rattle.relay_server.specs.Setup.{setup_for}
use Rattle.relay_book.specs.declared.change.Accept.{Accept}

-- by which host, from which address, under which number and when a message is accepted
pub record Acceptance : Type 0 where
  pub host : List ℕ
  pub peer : List ℕ
  pub number : ℕ
  pub at : ℕ

-- by the host of this configuration
abbrev pub acceptance_by : Config → List ℕ → ℕ → ℕ → Acceptance
acceptance_by config peer number at = record { host = config.host; peer = peer; number = number; at = at }

-- what the time stamp line of this client's message says
abbrev pub stamp_at : Acceptance → Client → Stamp
stamp_at acceptance client = record {
  client = client.word;
  peer = acceptance.peer;
  host = acceptance.host;
  protocol = client.protocol;
  number = acceptance.number;
  accepted = acceptance.at;
}

-- the accept of this offer
pub record IsAcceptOf (acceptance : Acceptance) (offer : Offered) (accept : Accept) : Type 0 where
  pub at : accept.at ≡ acceptance.at
  pub envelope : accept.envelope ≡ offer.envelope
  pub passed : IsPassed (stamp_at acceptance offer.client) offer.content accept.stored_text

-- under some configuration a session may offer this
abbrev pub IsStorable : Offered → Type 0
IsStorable offer = (config : Config) × (client : List ℕ) × MayBeStored (setup_for config client) offer
