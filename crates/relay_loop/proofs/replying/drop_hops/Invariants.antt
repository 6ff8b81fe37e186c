-- the connections of the replies so far are gone, and no others
use Rattle.std.proofs.Common.{◌≡◌, ℕ, take}
use Rattle.relay_slots.specs.Slots.{slot_at}
use Rattle.relay_loop.specs.GroupReplies.{AreToOthers}
use Rattle.relay_loop.specs.Groups.{HopsAreGone}
use Rattle.relay_loop.proofs.replying.drop_hops.Given as goal

abbrev pub invariant-loop-reply : goal.invariant-loop-reply
invariant-loop-reply l = record {
  gone : HopsAreGone l.hops (take l.reply-index l.replies);
  others : (attempt : ℕ) → AreToOthers attempt (take l.reply-index l.replies) → slot_at l.hops attempt ≡ slot_at l.initial.hops attempt;
}
