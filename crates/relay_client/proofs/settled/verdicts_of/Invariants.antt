-- the places so far, and those after them by what is left of the texts
use Rattle.std.proofs.Common.{◌≡◌, ◌++◌, drop}
use Rattle.relay_client.specs.Conversation.{verdicts_from}
use Rattle.relay_client.specs.Settled.{settled_of}
use Rattle.relay_client.proofs.settled.verdicts_of.Given as goal

abbrev pub invariant-loop-index : goal.invariant-loop-index
invariant-loop-index l =
    l.verdicts ++ verdicts_from (drop l.index l.places) (settled_of (drop l.index l.said) l.texts) l.last
    ≡ verdicts_from l.places (settled_of l.said l.initial.texts) l.last
