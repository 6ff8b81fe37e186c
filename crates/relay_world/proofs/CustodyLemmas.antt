-- Each node of a bound world keeps custody.
use Rattle.std.proofs.Common.{◌≡◌, ℕ, List, sym, subst}
use Rattle.std.specs.Prelude.{◌↔◌}
use Rattle.std.specs.List.{Contains}
use Rattle.relay_disk.specs.Device.{DiskWords}
use Rattle.relay_book.specs.declared.change.Change.{Change}
use Rattle.relay_book.specs.Marks.{Held}
use Rattle.relay_book.specs.Queue.{Queue, held_of}
use Rattle.relay_book.proofs.Theorems.{exactly_one, fold_holds}
use Rattle.relay_node.specs.Node.{NodeState}
use Rattle.relay_records.specs.Records.{Keeps}
use Rattle.relay_world.specs.Bound.{StateKeeps, HostKeeps}
use Rattle.relay_world.specs.Custody.{CustodyIsKept}
use Rattle.relay_world.specs.World.{Host, Up}
use Rattle.relay_world.proofs.AcknowledgedLemmas.{acknowledged_added}
use Rattle.relay_world.proofs.CauseLemmas.{left_for}
use Rattle.relay_report.specs.Report.{reporter_of}

module _ {D : Type 0} (honest : Type 0) (words : DiskWords D) where
  -- a node that is up keeps its list
  up_keeps : (host : Host D) (changes : List Change) → HostKeeps honest words host changes → (standing : NodeState D)
      → host.state ≡ Up standing → Keeps honest words standing.records changes
  up_keeps host changes keeps standing up =
      (subst (λ state. StateKeeps honest words host.config state changes) up keeps.holds).keeps

  held_as : (host : Host D) (changes : List Change) → HostKeeps honest words host changes → (standing : NodeState D)
      → host.state ≡ Up standing → (number place : ℕ)
      → Contains {X = ℕ × ℕ} (held_of standing.records.queue) (number, place) ↔ Held changes number place
  held_as host changes keeps standing up number place =
      let kept : Keeps honest words standing.records changes = up_keeps host changes keeps standing up in
      subst (λ (q : Queue). Contains {X = ℕ × ℕ} (held_of q) (number, place) ↔ Held changes number place) (sym kept.queue)
      (fold_holds changes kept.fitting number place)

  pub custody_is_kept : CustodyIsKept honest words
  custody_is_kept world lists bound node host changes stands =
      let keeps : HostKeeps honest words host changes = bound.hosts node host changes stands in
      record {
        acknowledged = acknowledged_added honest words world lists bound node host changes stands;
        one_of = exactly_one changes keeps.list.fitting;
        held = held_as host changes keeps;
        images = λ is standing up. (up_keeps host changes keeps standing up).images is;
        images_down = λ is disk undecided down.
            subst (λ state. StateKeeps honest words host.config state changes) down keeps.holds is;
        left = λ at number place way leaves. left_for (reporter_of host.config) changes at number place way keeps.reports leaves;
      }
