-- A node that stops, and is opened again.
use Rattle.std.proofs.Common.{◌≡◌, ℕ, List, ap, ◌∙◌}
use Rattle.relay_world.specs.declared.attempt.Attempt.{Attempt}
use Rattle.relay_world.specs.declared.line.Line.{Line}
use Rattle.relay_world.specs.declared.link.Link.{Link}
use Rattle.relay_world.specs.World.{Host, World}

-- a world, part by part
pub same_world : {D : Type 0} (hosts : List (Host D)) (links gone : List Link) (attempts dropped : List Attempt)
    (ledger : List Line) (clock : ℕ) → links ≡ gone → attempts ≡ dropped
    → ◌≡◌ {A = World D} (record { hosts = hosts; links = links; attempts = attempts; ledger = ledger; clock = clock })
    (record { hosts = hosts; links = gone; attempts = dropped; ledger = ledger; clock = clock })
same_world hosts links gone attempts dropped ledger clock one other =
    ap (λ (l : List Link). record { hosts = hosts; links = l; attempts = attempts; ledger = ledger; clock = clock }) one
    ∙ ap (λ (l : List Attempt). record { hosts = hosts; links = gone; attempts = l; ledger = ledger; clock = clock }) other
