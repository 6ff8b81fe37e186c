-- what is shown so far, and its length
use Rattle.std.proofs.Common.{◌≡◌, length, string_bytes}
use Rattle.std.specs.Prelude.{string_len}
use Rattle.relay_check.specs.Shown.{IsShown}
use Rattle.relay_check.proofs.shown.printable.Given as goal

abbrev pub invariant-loop-character : goal.invariant-loop-character
invariant-loop-character l = IsShown (string_bytes l.shown) × (string_len l.shown ≡ length (string_bytes l.shown))
