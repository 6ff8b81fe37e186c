-- What a configuration says of the clients that may connect, and which clients these are.
use Rattle.std.specs.Prelude.{◌≡◌, ℕ, Bool, true, List, Option, None, Some}
use Rattle.std.specs.List.{list_any}
use Rattle.toml.specs.Data.{Data}
use Rattle.relay_routes.specs.Network.{GivesNetworks, is_in}
use Rattle.relay_routes.specs.declared.network.Network.{Network}

-- the client at this address may connect: it is in one of the networks; if none are named, everybody may
abbrev pub may_connect : Option (List Network) → List ℕ → Bool
may_connect None client = true
may_connect (Some networks) client = list_any (is_in client) networks

-- profile: an array of networks; a value that is none is bad; if there is no value, everybody may connect
abbrev pub ReadsClients : Option Data → Option (Option (List Network)) → Type 0
ReadsClients None found = found ≡ Some None
ReadsClients (Some value) None = (networks : List Network) → ¬ GivesNetworks value networks
ReadsClients (Some value) (Some None) = ⊥
ReadsClients (Some value) (Some (Some networks)) = GivesNetworks value networks
