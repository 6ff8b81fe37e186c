-- What attempts hear in a turn: the octets that were read from their own next hop's connection, and none of them twice.
use Rattle.std.specs.Prelude.{◌≡◌, ◌≢◌, ◌⊎◌, ℕ, ◌%◌, ◌≤◌, List, [], ◌∷◌, Option, None, Some, Result, Ok, Err}
use Rattle.std.specs.Prelude.{IfOk, MatchOption, drop, if◌then◌else◌, min, option_and_then, option_map}
use Rattle.std.specs.List.{filter_map}
use Rattle.relay_disk.specs.Device.{DiskWords}
use Rattle.relay_slots.specs.Slots.{OthersStay, slot_at}
use Rattle.relay_book.specs.declared.change.Change.{Change}
use Rattle.relay_records.specs.Records.{Keeps}
use Rattle.relay_records.specs.declared.fault.NodeFault.{NodeFault}
use Rattle.relay_attempts.specs.Reply.{Told}
use Rattle.relay_loop.specs.Hops.{HandsTo, RefusesHop, Replies}
use Rattle.relay_loop.specs.Outboxes.{unwritten_at}
use Rattle.relay_loop.specs.Relay.{RelayState}
use Rattle.relay_loop.specs.declared.hops.Answered.{Answered}
use Rattle.relay_loop.specs.declared.replying.ReplyPiece.{ReplyPiece}
use Rattle.relay_connections.specs.Channel.{unread_of}
use Rattle.relay_connections.specs.Hearing.{turned}
use Rattle.relay_connections.specs.Served.{LeavesClients}
use Rattle.relay_connections.specs.declared.clocks.Now.{Now}
use Rattle.relay_log.specs.declared.hop_link.Loss.TheVariants.{Silent}
use Rattle.relay_records.specs.declared.noted.Noted.{Noted}
use Rattle.relay_next_hops.specs.Deliveries.{KeepsDelivery}
use Rattle.relay_next_hops.specs.declared.delivery.Course.{Course}
use Rattle.relay_next_hops.specs.declared.delivery.Course.TheVariants.{Stays, Ended, Lost, Void}
use Rattle.relay_next_hops.specs.declared.hop.Hop.{Hop}
use Rattle.relay_next_hops.specs.declared.hops.Hops.{Hops}

-- an attempt, and octets of its next hop
abbrev pub told_of : ReplyPiece → ℕ × List ℕ
told_of reply = (reply.attempt, reply.octets.now)

-- the attempt of a connection, if there are octets that it may hear
abbrev pub hearing_of : {S : Type 0} → Hop S → Option ℕ
hearing_of hop = if hop.hears then hop.attempt else None

-- what the attempt of a connection is to hear: all that was read from the connection and isn't used yet
abbrev pub reply_of : {S : Type 0} → Option (Hop S) → Option (ℕ × List ℕ)
reply_of None = None
reply_of (Some hop) = option_map (λ attempt. (attempt, unread_of hop.channel)) (hearing_of hop)

-- the attempt of the connection of a number, if it has octets to hear
abbrev pub hearing_at : {S : Type 0} → List (Option (Hop S)) → ℕ → Option ℕ
hearing_at hops number = option_and_then hearing_of (slot_at hops number)

abbrev pub reply_at : {S : Type 0} → List (Option (Hop S)) → ℕ → Option (ℕ × List ℕ)
reply_at hops number = reply_of (slot_at hops number)

-- the numbers of all connections, in the order in which they are served: a circle, from the first on
unfoldable pub order_of : {S : Type 0} → Hops S → List ℕ
order_of hops = turned 64 (hops.first % 64) 64

-- what all attempts are to hear, in that order
abbrev pub replies_of : {S : Type 0} → Hops S → List (ℕ × List ℕ)
replies_of hops = filter_map (reply_at hops.hops) (order_of hops)

-- no octet of the reply was used, because the call took no more, and the attempt goes on
abbrev pub IsLeft : Answered → Type 0
IsLeft answered = (answered.used ≡ 0) × (answered.last ≡ None)

abbrev pub WasLeft : Result Answered NodeFault → Type 0
WasLeft (Ok answered) = IsLeft answered
WasLeft (Err fault) = ⊥

-- the next hop of a connection has taken too long at this tick
abbrev pub IsLate : {S : Type 0} → ℕ → Hop S → Type 0
IsLate tick hop = min hop.idle_deadline hop.answer_deadline ≤ tick

-- What happens to a connection after its attempt has heard octets. After a fault the attempt is gone; if the attempt
-- has ended, these are its last octets; else the connection goes on without the used octets, unless its next hop has
-- taken too long.
abbrev pub IsCourse : {S : Type 0} → ℕ → Result Answered NodeFault → Hop S → Hop S → Course → Type 0
IsCourse tick (Err fault) old new course = course ≡ Void
IsCourse tick (Ok answered) old new course =
    MatchOption answered.last
    ((unread_of new.channel ≡ drop answered.used (unread_of old.channel))
    × ((course ≡ Stays) ⊎ ((course ≡ Lost Silent) × IsLate tick new)))
    (λ outbox. (noted : Option Noted) × (course ≡ Ended outbox noted))

-- In a call of its own, the attempt of a connection has heard all that was read from the connection and not used yet.
-- This is the course of the connection after the result. What follows leaves clients alone.
pub record HearsOwn {D S : Type 0} (honest : Type 0) (words : DiskWords D) (now : Now) (attempt : ℕ)
    (relay_old relay_new : RelayState D) (old new : Hop S) (course : Course)
    : Type 0 where
  pub answer : Result Answered NodeFault
  pub between : RelayState D
  pub replies : (changes : List Change) (told : Told) (written : List ℕ)
      → Keeps honest words relay_old.node.records changes → HandsTo changes relay_old attempt told written
      → unwritten_at relay_old.hops attempt ≡ []
      → IfOk answer (Replies honest words changes attempt now.moment told written (unread_of old.channel) relay_old
      between)
  pub refused : RefusesHop words attempt relay_old between answer
  pub course_is : IsCourse now.tick answer old new course
  pub meanwhile : LeavesClients honest words between relay_new

-- A connection stays for its delivery, without the used octets. If none was used, its attempt may hear them in a call
-- of its own, and then some are used.
pub record UsesOwn {S : Type 0} (answered : Answered) (old new : Hop S) : Type 0 where
  pub goes_on : answered.last ≡ None
  pub unread : (unread_of new.channel ≡ drop answered.used (unread_of old.channel))
      ⊎ (IsLeft answered × (used : ℕ) × (unread_of new.channel ≡ drop used (unread_of old.channel)))
  pub delivery : KeepsDelivery old new

-- Below: at a tick.
module _ {S : Type 0} (tick : ℕ) where
  -- the connection went on so, and then its next hop had taken too long
  pub record WentLate (answered : Answered) (old : Hop S) : Type 0 where
    pub new : Hop S
    pub uses : UsesOwn answered old new
    pub late : IsLate tick new

  -- A connection is gone: its attempt has ended, or its next hop has taken too long. If none of its octets was used,
  -- its attempt has heard them in a call of its own.
  abbrev pub IsGone : Answered → Hop S → Type 0
  IsGone answered old = (answered.last ≢ None) ⊎ IsLeft answered ⊎ WentLate answered old

  -- what happened to a connection after this result for its attempt; after a fault it is gone
  abbrev pub IsAnswered : Result Answered NodeFault → Option (Hop S) → Option (Hop S) → Type 0
  IsAnswered answer None None = Unit {0}
  IsAnswered answer None (Some new) = ⊥
  IsAnswered (Err fault) (Some old) None = Unit {0}
  IsAnswered (Err fault) (Some old) (Some new) = ⊥
  IsAnswered (Ok answered) (Some old) None = IsGone answered old
  IsAnswered (Ok answered) (Some old) (Some new) = UsesOwn answered old new

  -- the connection of this number got this result, and no other has changed
  pub record AnswersOne (number : ℕ) (answer : Result Answered NodeFault) (old new : List (Option (Hop S)))
      : Type 0 where
    pub own : IsAnswered answer (slot_at old number) (slot_at new number)
    pub others : OthersStay old new number

  -- the next of these results goes to the connection of this number, and the others go on from there
  pub record HearsNext (GoesOn : List (Result Answered NodeFault) → List (Option (Hop S)) → Type 0) (number : ℕ)
      (answers : List (Result Answered NodeFault)) (old : List (Option (Hop S)))
      : Type 0 where
    pub answer : Result Answered NodeFault
    pub rest : List (Result Answered NodeFault)
    pub answers_are : answers ≡ answer ∷ rest
    pub between : List (Option (Hop S))
    pub one : AnswersOne number answer old between
    pub goes_on : GoesOn rest between

  -- Of these connections, in this order, each with octets to hear gets the next of these results, as long as there are
  -- any.
  abbrev pub AnswersEach
      : List ℕ → List (Result Answered NodeFault) → List (Option (Hop S)) → List (Option (Hop S)) → Type 0
  AnswersEach [] answers old new = new ≡ old
  AnswersEach (number ∷ order) answers old new =
      ((hearing_at old number ≡ None) × AnswersEach order answers old new)
      ⊎ ((hearing_at old number ≢ None) × (answers ≡ []) × (new ≡ old))
      ⊎ ((hearing_at old number ≢ None)
      × HearsNext (λ rest between. AnswersEach order rest between new) number answers old)
