-- How many copies of a message reach a recipient, from what attempts have read and nodes have accepted.
use Rattle.std.specs.Prelude.{◌≤◌, ◌==◌, ℕ, ◌+◌, Bool, true, false, ◌&&◌, List, [], ◌∷◌, drop, if◌then◌else◌}
use Rattle.relay_disk.specs.Device.{DiskWords}
use Rattle.relay_lines.specs.Reply.{Reply}
use Rattle.relay_lines.specs.ReplyReading.{CutsAllReplies}
use Rattle.relay_lines.specs.declared.reply_reader.ReplyFault.{ReplyFault}
use Rattle.relay_lines.specs.declared.reply_reader.ReplyFault.TheVariants.{BadLine, MixedCodes, TooLong, NoMemory}
use Rattle.relay_book.specs.declared.change.Change.{Change}
use Rattle.relay_course.specs.declared.reply_kind.ReplyKind.{ReplyKind}
use Rattle.relay_course.specs.declared.reply_kind.ReplyKind.TheVariants.{Completion, Intermediate, Transient, Permanent}
use Rattle.relay_course.specs.VerdictTable.{is_accepted, kind_of}
use Rattle.relay_world.specs.declared.attempt.Attempt.{Attempt}
use Rattle.relay_world.specs.Bound.{IsBound}
use Rattle.relay_world.specs.Copies.{Copies, CopiesBy, lost_replies_of}
use Rattle.relay_world.specs.GivingUp.{Withdrawing}
use Rattle.relay_world.specs.Once.{IsTriedOnce}
use Rattle.relay_world.specs.World.{World}

-- the octets are these replies, and a rest without another whole reply
abbrev pub AreReplies : List ℕ → List Reply → Type 0
AreReplies octets replies = (rest : List ℕ) × CutsAllReplies octets replies rest

-- whether a fault means that memory ran out
abbrev pub is_no_memory : ReplyFault → Bool
is_no_memory BadLine = false
is_no_memory MixedCodes = false
is_no_memory TooLong = false
is_no_memory NoMemory = true

-- whether the client sends HELO, because EHLO got a 5yz reply (RFC 5321, section 3.2)
abbrev pub is_greeted_again : ReplyKind → Bool
is_greeted_again Completion = false
is_greeted_again Intermediate = false
is_greeted_again Transient = false
is_greeted_again Permanent = true

-- the replies after the one to MAIL: the greeting and the replies to EHLO, perhaps HELO, and MAIL come before
abbrev pub after_mail : List Reply → List Reply
after_mail [] = []
after_mail (greeting ∷ []) = []
after_mail (greeting ∷ ehlo ∷ replies) = drop (if is_greeted_again (kind_of ehlo.code) then 2 else 1) replies

-- whether the RCPT of this place was accepted, given the replies in the order of the places
abbrev pub accepts_place : ℕ → List ℕ → List Reply → Bool
accepts_place place [] replies = false
accepts_place place (tried ∷ places) [] = false
accepts_place place (tried ∷ places) (reply ∷ replies) =
    if tried == place && is_accepted reply then true else accepts_place place places replies

-- this attempt has made this many copies, whatever lists of changes the world has, if it has the invariant and tries
-- each place once
abbrev pub CountsBy
    : {D : Type 0} → Type 0 → DiskWords D → World D → ℕ → ℕ → ℕ → Attempt → ℕ → Type 0
CountsBy honest words world node message place attempt count =
    (lists : List (List Change)) (asked : List Withdrawing) → IsBound honest words world lists
    → IsTriedOnce world lists asked → CopiesBy world lists node message place attempt count

-- This many copies of a node's message hold a place, by the nodes' lists of changes, which is at most one more than the
-- lost replies.
pub record CountsCopies {D : Type 0} (honest : Type 0) (words : DiskWords D) (world : World D)
    (node message place count : ℕ) : Type 0 where
  pub lists : List (List Change)
  pub theirs : IsBound honest words world lists
  pub copies : Copies world lists node message place count
  pub few : count ≤ 1 + lost_replies_of node message place world.attempts
