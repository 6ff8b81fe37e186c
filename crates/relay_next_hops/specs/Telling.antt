-- What the log has heard of the connection to a next hop.
use Rattle.std.specs.Prelude.{◌≡◌, ℕ, List, [], ◌++◌, MatchOption, Result, Ok, Err}
use Rattle.relay_records.specs.declared.fault.NodeFault.{NodeFault}
use Rattle.relay_loop.specs.declared.hops.Answered.{Answered}
use Rattle.relay_connections.specs.Channel.{unread_of}
use Rattle.relay_log.specs.Talk.{HasHeard}
use Rattle.relay_next_hops.specs.declared.hop.Hop.{Hop}

-- the log has heard all that came on the connection: these octets, which the attempt has used, and those that were read
-- after them
abbrev pub HasTold : {S : Type 0} → Hop S → List ℕ → Type 0
HasTold hop used = HasHeard hop.talk (used ++ unread_of hop.channel)

-- the same, of a connection whose attempt may not have begun: before that the log has heard nothing
abbrev pub HasToldAll : {S : Type 0} → Hop S → List ℕ → Type 0
HasToldAll hop used =
    MatchOption hop.attempt ((used ≡ []) × HasHeard hop.talk []) (λ attempt. HasTold hop used)

-- how many octets an attempt has used; none after a fault
abbrev pub used_of : Result Answered NodeFault → ℕ
used_of (Ok answered) = answered.used
used_of (Err fault) = 0
