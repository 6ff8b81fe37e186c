-- What a next hop is waited for, and how long.
use Rattle.std.specs.Prelude.{ℕ, Bool, true, false}
use Rattle.relay_next_hops.specs.declared.phase.Phase.{Phase}
use Rattle.relay_next_hops.specs.declared.phase.Phase.TheVariants.{Connecting, Command, Recipient, Data, Content}

-- RFC 5321, section 4.5.3.2: how many seconds may pass without an octet, while octets are still to be written or not
abbrev pub patience : Phase → Bool → ℕ
patience Connecting writes = 30
patience Command writes = 300
patience Recipient writes = 300
patience Data writes = 120
patience Content true = 180
patience Content false = 600

-- RFC 5321, section 3.3: recipients of a mail transaction were sent, or more of it
abbrev pub is_in_transaction : Phase → Bool
is_in_transaction Connecting = false
is_in_transaction Command = false
is_in_transaction Recipient = true
is_in_transaction Data = true
is_in_transaction Content = true
