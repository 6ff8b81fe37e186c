-- A node for which a stop is set.
use Rattle.std.proofs.Common.{◌≡◌, ℕ, List, Some, refl, sym, subst, ap}
use Rattle.relay_disk.specs.Device.{DiskWords}
use Rattle.relay_disk.specs.Disks.{calls_left_of}
use Rattle.relay_book.specs.declared.change.Change.{Change}
use Rattle.relay_records.specs.Records.{Keeps}
use Rattle.relay_routes.specs.declared.config.Config.{Config}
use Rattle.relay_node.specs.Node.{IsFused, NodeState}
use Rattle.relay_world.specs.World.{Host, Up}
use Rattle.relay_hosts.specs.Host.{host_of}
use Rattle.relay_hosts.specs.StopNow.{IsArmed}

pub is_armed : {D : Type 0} (honest : Type 0) (words : DiskWords D) (before after : NodeState D) (records : List (List ℕ)) (old : Host D)
    → old ≡ host_of before records
    → (after.config ≡ before.config) × (after.seats ≡ before.seats) × (after.attempts ≡ before.attempts)
    → IsFused before.records after.records
    → ((changes : List Change) → Keeps honest words before.records changes → Keeps honest words after.records changes)
    → (calls : ℕ) → calls_left_of words after.records.spool.disk ≡ Some calls → IsArmed honest words old (host_of after records) calls
is_armed honest words before after records old is rest fused keeps calls left =
    subst (λ h. IsArmed honest words h (host_of after records) calls) (sym is) (record {
      before = before;
      up = refl;
      after = after;
      fused = fused;
      keeps = keeps;
      config = rest.0;
      seats = rest.1;
      attempts = rest.2;
      calls_left = left;
      new_is = ap (λ (c : Config). record { config = c; state = Up after; records = records }) rest.0;
    })
