-- A node that stopped in a call goes down, with the change that it was adding: what that makes of the relays.
use Rattle.std.proofs.Common.{◌≡◌, ◌+◌, ℕ, false, List, length, Some, sym, subst, ap, ◌∙◌, arith}
use Rattle.std.specs.Prelude.{slice_get, slice_set}
use Rattle.std.specs.Option.{is_some}
use Rattle.std.proofs.lemmas.List.{length-set}
use Rattle.std.proofs.lemmas.Option.{same_Some}
use Rattle.relay_disk.specs.Device.{DiskWords}
use Rattle.relay_records.specs.declared.noted.Noted.{Noted}
use Rattle.relay_node.specs.Node.{NodeState}
use Rattle.relay_world.specs.Crashes.{GoesDown, let_go}
use Rattle.relay_world.specs.Ledger.{lines_of}
use Rattle.relay_world.specs.World.{Down, Host, Undecided, Up, World}
use Rattle.relay_hosts.specs.declared.host.Origin.{Origin}
use Rattle.relay_hosts.specs.Call.{Runs}
use Rattle.relay_hosts.specs.Crash.{IsCutShort}
use Rattle.relay_hosts.specs.Host.{origin_in}
use Rattle.relay_events.specs.Restart.{CrashesAt, IsCutShortAt}
use Rattle.relay_hosts.specs.Room.{lines_held, lines_left}
use Rattle.relay_events.proofs.LossLemmas.{same_up}
use Rattle.relay_events.proofs.PlaceLemmas.{value_put}
use Rattle.relay_events.proofs.ReopenLemmas.{held_put}

module _ {D : Type 0} (honest : Type 0) (words : DiskWords D) (old called : World D) (node : ℕ) (was now : Host D)
    (was_at : slice_get old.hosts node ≡ Some was) (called_is : called ≡ record old { hosts = slice_set old.hosts node now })
    (before after : NodeState D) (runs : Runs was now before after) where
  hosts_are : called.hosts ≡ slice_set old.hosts node now
  hosts_are = ap (λ (w : World D). w.hosts) called_is

  now_at : slice_get called.hosts node ≡ Some now
  now_at = ap (λ (hs : List (Host D)). slice_get hs node) hosts_are ∙ (value_put old.hosts node was now was_at).at

  pub cut_short : after.records.spool.live ≡ false → (noted : Noted) → after.records.noted ≡ Some noted
      → IsCutShortAt called node
  cut_short live noted note_is = record {
    host = now;
    host_at = now_at;
    cut = subst (λ (h : Host D). IsCutShort h.state) (sym runs.new_is) (live, ap is_some note_is);
  }

  module _ (origin : Origin) (down : World D) (crashes : CrashesAt honest words called down node origin) where
    host_same : crashes.host ≡ record was { state = Up after }
    host_same = same_Some crashes.host now (sym crashes.host_at ∙ now_at) ∙ runs.new_is

    pub stopped_same : after ≡ crashes.before
    stopped_same = same_up after crashes.before (sym (ap (λ (h : Host D). h.state) host_same) ∙ crashes.up)

    -- what its opening decides
    abbrev pub undecided_now : Undecided
    undecided_now = record { note = crashes.noted; origin = origin_in origin }

    pub goes_down : GoesDown old down node was crashes.disk (Some undecided_now)
    goes_down = record {
      hosts = crashes.down.hosts;
      put = record {
        at =
            crashes.down.put.at
            ∙ ap (λ (h : Host D). Some (record h { state = Down crashes.disk (Some undecided_now) })) host_same;
        others = λ other off. crashes.down.put.others other off
            ∙ ap (λ (hs : List (Host D)). slice_get hs other) hosts_are
            ∙ (value_put old.hosts node was now was_at).others other off;
      };
      as_many = crashes.down.as_many ∙ ap (λ (hs : List (Host D)). length hs) hosts_are ∙ length-set old.hosts node now;
      new_is =
          crashes.down.new_is
          ∙ ap (λ (w : World D). let fell : World D = record (let_go node w) { hosts = crashes.down.hosts } in fell) called_is;
    }

    -- and the lines that tell of the change are what nodes that are down hold more
    pub held_more : lines_left 0 down.hosts ≡ lines_left 0 old.hosts + length (lines_of node undecided_now)
    held_more =
        let fallen = ap (λ (hs : List (Host D)). lines_left 0 hs) crashes.hosts_are in
        let hosts = ap (λ (hs : List (Host D)). lines_left 0 hs) hosts_are in
        let put = held_put old.hosts node 0 node was now (omega arith) was_at in
        let fell = held_put called.hosts node 0 node now
        (record crashes.host { state = Down crashes.disk (Some undecided_now) }) (omega arith) now_at in
        let none : lines_held node was.state ≡ 0 = ap (λ h. lines_held node h) runs.up in
        let none_now : lines_held node now.state ≡ 0 = ap (λ (h : Host D). lines_held node h.state) runs.new_is in
        omega (arith, fallen, hosts, put, fell, none, none_now)

    -- the note is the one that the call left
    pub note_there : after.records.noted ≡ Some crashes.noted
    note_there = ap (λ (n : NodeState D). n.records.noted) stopped_same ∙ crashes.note_is
