-- fewer passes are left
use Rattle.std.specs.Prelude.{◌+◌, ◌*◌, length}
use Rattle.relay_hub.proofs.pass.+audit.Given as goal

abbrev pub decreases-audit : goal.decreases-audit
decreases-audit g l = 2 * length l.passes.now

abbrev pub decreases-lend : goal.decreases-lend
decreases-lend g l = 2 * length l.rest.now + 1
