-- the RCPTs written so far lead to where all of them lead
use Rattle.std.proofs.Common.{◌-◌, length}
use Rattle.relay_course.specs.Progress.{Delivery, Progress}
use Rattle.relay_client.specs.Conversation.{AsksOn, Holds, IsDeliveryOf}
use Rattle.relay_client.proofs.conversation.Conversation.ask_rcpts.Given as goal

abbrev pub decreases-loop-self : goal.decreases-loop-self
decreases-loop-self l = length l.self.places.items - l.self.asked

abbrev pub invariant-loop-self : goal.invariant-loop-self
invariant-loop-self l =
    (delivery : Delivery) (old : Progress) → Holds l.initial.self delivery old → IsDeliveryOf delivery l.mail
    → AsksOn delivery old l.self l.initial.out.items l.out.items
