-- A host whose node was called.
use Rattle.std.proofs.Common.{◌≡◌, ℕ, List, None, Ok, Err, refl, sym, subst, ap, ◌∙◌}
use Rattle.std.specs.Prelude.{OnOk, Result}
use Rattle.std.proofs.lemmas.Option.{none-some}
use Rattle.relay_disk.specs.Device.{DiskWords}
use Rattle.relay_slots.specs.Slots.{OthersStay, slot_at}
use Rattle.relay_records.specs.declared.fault.NodeFault.{NodeFault}
use Rattle.relay_records.specs.declared.fault.NodeFault.TheVariants.{NoMemory, Stopped, Unknown, TooMany, NotDue, Busy, Open, Full, NoSecond}
use Rattle.relay_node.specs.Node.{NodeState, RefusesAt, RefusesToEnd}
use Rattle.relay_routes.specs.declared.config.Config.{Config}
use Rattle.relay_world.specs.World.{Host, Up}
use Rattle.relay_hosts.specs.Call.{KnowsSession, LosesSession}

module _ {D : Type 0} (node after : NodeState D) (records : List (List ℕ)) where
  -- the host of this node
  abbrev pub up_with : NodeState D → Host D
  up_with one = record { config = one.config; state = Up one; records = records }

  pub loses_session : (old : Host D) (session : ℕ) → old ≡ up_with node → after.config ≡ node.config
      → after.records ≡ node.records → slot_at after.seats session ≡ None → OthersStay node.seats after.seats session
      → after.attempts ≡ node.attempts
      → LosesSession old (up_with after) session
  loses_session old session is config same gone others attempts = subst (λ h. LosesSession h (up_with after) session) (sym is) (record {
    before = node;
    after = after;
    runs = record {
      up = refl;
      config = config;
      new_is = ap (λ (c : Config). record { config = c; state = Up after; records = records }) config;
    };
    records = same;
    gone = gone;
    others = others;
    attempts = attempts;
  })

  -- a session that goes on is gone when its node is told of its end
  module _ (honest : Type 0) (words : DiskWords D) (session : ℕ) (knows : KnowsSession honest words node session) where
    never_refused : (fault : NodeFault) → RefusesToEnd node after fault
        → (fault ≡ Unknown → slot_at node.seats session ≡ None) → ⊥
    never_refused NoMemory refuses unknown = refuses
    never_refused Stopped refuses unknown = refuses
    never_refused Unknown refuses unknown = none-some knows.says.seat (sym (unknown refl) ∙ knows.says.at)
    never_refused TooMany refuses unknown = refuses
    never_refused NotDue refuses unknown = refuses
    never_refused Busy refuses unknown = refuses
    never_refused (Open cause) refuses unknown = refuses
    never_refused Full refuses unknown = refuses
    never_refused NoSecond refuses unknown = refuses

    pub ended_gone : {T : Type 0} (result : Result T NodeFault) → OnOk result (slot_at after.seats session ≡ None)
        → RefusesAt node after (slot_at node.seats session ≡ None) (RefusesToEnd node after) result
        → slot_at after.seats session ≡ None
    ended_gone (Ok value) gone refused = gone
    ended_gone (Err fault) gone refused =
        absurd (never_refused fault (refused.refused knows.keeps.live) (λ is. (refused.unknown.0 (ap (λ f. Err f) is)).1))
