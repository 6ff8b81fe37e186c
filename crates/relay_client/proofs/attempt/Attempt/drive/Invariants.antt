-- what the octets used so far lead to; the whole piece is used at the end
use Rattle.std.proofs.Common.{◌≡◌, ◌-◌, ◌≤◌, ◌++◌, ℕ, List, length, take}
use Rattle.relay_course.specs.Progress.{Delivery}
use Rattle.relay_client.specs.Conversation.{IsDeliveryOf}
use Rattle.relay_client.specs.Attempt.{KeepsTo}
use Rattle.relay_client.proofs.attempt.Attempt.drive.Given as goal

abbrev pub invariant-loop-used : goal.invariant-loop-used
invariant-loop-used l = record {
  within : l.used ≤ length l.piece;
  stage : l.self.stage ≡ l.initial.self.stage;
  keeps : (delivery : Delivery) (input output : List ℕ) → IsDeliveryOf delivery l.mail
      → KeepsTo l.initial.self.reader l.initial.self.talk delivery input output
      → KeepsTo l.self.reader l.self.talk delivery (input ++ take l.used l.piece) (output ++ l.out.items);
}

abbrev pub decreases-loop-used : goal.decreases-loop-used
decreases-loop-used l = length l.piece - l.used
