-- The result of accepting a client.
use Rattle.std.specs.declared.net.socket_addr.SocketAddrV4.{SocketAddrV4}
use Rattle.relay_run.specs.declared.listen.Found.{Found}
use Rattle.relay_run.specs.declared.listen.Found.TheVariants.{Client, Missed, Nobody, Want}

-- the stream of a client comes from the address that is returned with it
abbrev pub IsFound : {S : Type 0} → (S → SocketAddrV4 → Type 0) → Found S → Type 0
IsFound comes_from (Client stream peer) = comes_from stream peer
IsFound comes_from Missed = Unit {0}
IsFound comes_from Nobody = Unit {0}
IsFound comes_from Want = Unit {0}
