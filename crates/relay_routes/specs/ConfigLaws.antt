-- Laws of the texts of configurations.
use Rattle.std.specs.Prelude.{◌≡◌, ℕ, List, Result}
use Rattle.relay_routes.specs.Config.{ReadsConfig}
use Rattle.relay_routes.specs.declared.config.Config.{Config}
use Rattle.relay_routes.specs.declared.fault.ConfigFault.{ConfigFault}

-- a text says one configuration, or has one first fault, and not both
abbrev pub OneReading : Type 0
OneReading =
    (text : List ℕ) (one other : Result Config ConfigFault) → ReadsConfig text one → ReadsConfig text other
    → one ≡ other
