-- the places so far
use Rattle.std.proofs.Common.{◌≡◌, take}
use Rattle.relay_course.specs.VerdictTable.{all_later}
use Rattle.relay_client.proofs.conversation.Conversation.all_later.Given as goal

abbrev pub invariant-loop : goal.invariant-loop
invariant-loop l = l.verdicts ≡ all_later (take l.index l.self.places.items)
