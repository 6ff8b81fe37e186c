-- What a configuration says of balancers, whose connections begin with a header of the PROXY protocol.
use Rattle.std.specs.Prelude.{◌≡◌, List, [], Option, None, Some}
use Rattle.toml.specs.Data.{Data}
use Rattle.relay_routes.specs.Network.{GivesNetworks}
use Rattle.relay_routes.specs.declared.network.Network.{Network}

-- profile: an array of networks; a value that is none is bad; if none is, there is no balancer
abbrev pub ReadsBalancers : Option Data → Option (List Network) → Type 0
ReadsBalancers None found = found ≡ Some []
ReadsBalancers (Some value) None = (networks : List Network) → ¬ GivesNetworks value networks
ReadsBalancers (Some value) (Some networks) = GivesNetworks value networks
