-- How the end of a round ends the service.
use Rattle.std.specs.Prelude.{◌≡◌, Bool, true, false, List, [], ◌∷◌, Option, Some, Result, Ok, Err}
use Rattle.relay_links.specs.declared.fault.LinkFault.{LinkFault}
use Rattle.relay_links.specs.declared.fault.LinkFault.TheVariants as link_fault
use Rattle.relay_rounds.specs.declared.served.Served.{Served}
use Rattle.relay_files.specs.declared.fault.Fault.{Fault}
use Rattle.relay_files.specs.declared.fault.Fault.TheVariants as fault

-- a connection that met a failing device ends the service, and no other end does
abbrev pub end_by : Option (Result (Unit {0}) LinkFault) → Result (Unit {0}) Fault → Result (Unit {0}) Fault
end_by (Some (Err link_fault.Device)) rest = Err fault.Device
end_by _ rest = rest

-- the service ends if one of the links ended it
abbrev pub end_in : {R W : Type 0} → List (Served R W) → Result (Unit {0}) Fault
end_in [] = Ok tt
end_in (link ∷ links) = end_by link.ended (end_in links)

-- receipts that disagree with what the node has accepted end the service before all else
abbrev pub IsEndOf : {R W : Type 0} → Bool → List (Served R W) → Result (Unit {0}) Fault → Type 0
IsEndOf false links result = result ≡ Err fault.Receipts
IsEndOf true links result = result ≡ end_in links
