-- A text with a fault says no configuration.
use Rattle.std.proofs.Common.{◌≡◌, ℕ, List, None, Result, Ok, Err, subst}
use Rattle.toml.specs.Parse.{parse_document}
use Rattle.relay_routes.specs.declared.config.Config.{Config}
use Rattle.relay_routes.specs.declared.fault.ConfigFault.{ConfigFault}
use Rattle.relay_routes.specs.declared.fault.ConfigFault.TheVariants.{NotToml}
use Rattle.relay_routes.specs.Config.{ReadsConfig, ReadsParsed}
use Rattle.relay_routes.proofs.Theorems.{one_reading}
use Rattle.relay_check.specs.Check.{SaysConfiguration}

pub refused_says_none : (text : List ℕ) (fault : ConfigFault) → ReadsConfig text (Err fault) → ¬ SaysConfiguration text
refused_says_none text fault bad says =
    let same : ◌≡◌ {A = Result Config ConfigFault} (Ok says.0) (Err fault) = one_reading text (Ok says.0) (Err fault) says.1 bad in
    absurd (cc same)

pub unread_says_none : (text : List ℕ) → parse_document text ≡ None → ¬ SaysConfiguration text
unread_says_none text none says =
    let same : ◌≡◌ {A = Result Config ConfigFault} (Ok says.0) (Err NotToml) = subst (λ parsed. ReadsParsed parsed (Ok says.0)) none says.1 in
    absurd (cc same)
