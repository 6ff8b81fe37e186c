-- What stands there, and the text of the octets that are left, is the whole text.
use Rattle.std.proofs.Common.{◌≡◌, ◌++◌, drop}
use Rattle.relay_script.specs.Text.{spelled}
use Rattle.relay_script.proofs.text.push_text.Given as goal

abbrev pub invariant-loop-octet : goal.invariant-loop-octet
invariant-loop-octet l =
    l.out.items ++ spelled (drop l.octet-index l.octets) ≡ l.fn.out.items ++ spelled l.octets
