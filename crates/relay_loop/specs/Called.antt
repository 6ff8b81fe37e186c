-- The calls of a relay that change it, one after another: what was done to a relay is a list of them.
use Rattle.std.specs.Prelude.{◌≡◌, ℕ, Bool, true, List, [], ◌∷◌, Option, None, Some}
use Rattle.std.specs.List.{AllByRecursion}
use Rattle.relay_disk.specs.Device.{DiskWords}
use Rattle.relay_envelope.specs.HostName.{IsHostName}
use Rattle.relay_book.specs.declared.change.Withdrawal.{Withdrawal}
use Rattle.relay_attempts.specs.declared.start.Started.{Started}
use Rattle.relay_loop.specs.declared.clients.Heard.{Heard}
use Rattle.relay_loop.specs.declared.closing.Closing.{Closing}
use Rattle.relay_loop.specs.declared.group.Group.{Group}
use Rattle.relay_loop.specs.declared.group.Piece.{Piece}
use Rattle.relay_loop.specs.declared.hops.Answered.{Answered}
use Rattle.relay_loop.specs.declared.replying.ReplyPiece.{ReplyPiece}
use Rattle.relay_loop.specs.Calls.{AcceptSays, CompactSays, DropSays, EndSays, ForgetSays, GiveUpSays, HearSays}
use Rattle.relay_loop.specs.Calls.{LoseSays, ReplySays, StartSays, TrimSays, WithdrawSays, WroteHopSays, WroteSays}
use Rattle.relay_loop.specs.GroupCalls.{HearsGroup}
use Rattle.relay_loop.specs.Relay.{RelayState}

-- the relay, after the note of its last change was taken
abbrev pub untold : {D : Type 0} → RelayState D → RelayState D
untold relay = record relay { node = record relay.node { records = record relay.node.records { noted = None } } }

-- the relay after a call that has added the change of this number, whose note was taken, or none
abbrev pub told_of : {D : Type 0} → Option ℕ → RelayState D → RelayState D
told_of None relay = relay
told_of (Some change) relay = untold relay

-- A call of a relay that has succeeded, with its arguments and its result. `HearsOne` is a call for one client, `Hears`
-- one for several clients and next hops; `Drops` is a reply or a loss that a live node has refused for lack of memory
-- or of room; `Forgets` is an end of a session that was refused, because there is none or the node is stopped;
-- `IsRefused` is any call that was refused and has changed nothing.
pub data Call : Type 0 where
  Accepts : (peer : List ℕ) (session : ℕ) → Call
  Ends : (session : ℕ) (last : List ℕ) → Call
  CutsOff : (session : ℕ) (last : List ℕ) (why : Closing) → Call
  Forgets : (session : ℕ) → Call
  Writes : (session count : ℕ) → Call
  HearsOne : (session : ℕ) (octets : List ℕ) (now : ℕ) (heard : Heard) → Call
  Hears : (pieces : List Piece) (replies : List ReplyPiece) (now : ℕ) (group : Group) → Call
  Starts : (message : ℕ) (hop : List ℕ) (now : ℕ) (started : Started) → Call
  Reads : (slot : ℕ) (octets : List ℕ) (now : ℕ) (answered : Answered) → Call
  WritesToHop : (slot count : ℕ) → Call
  Loses : (slot now change : ℕ) → Call
  Drops : (slot : ℕ) → Call
  GivesUp : (message now change : ℕ) → Call
  Withdraws : (message : ℕ) (places : List ℕ) (withdrawal : Withdrawal) (now change : ℕ) → Call
  Compacts : Call
  Trims : Call
  IsRefused : Call

module _ {D : Type 0} (honest : Type 0) (words : DiskWords D) where
  -- The relay did what the contract of the call says. If the call has added a change, the note of it was taken.
  abbrev pub Does : Call → RelayState D → RelayState D → Type 0
  Does (Accepts peer session) old new = AcceptSays old new peer session
  Does (Ends session last) old new = EndSays old new session last
  Does (CutsOff session last why) old new = IsHostName old.node.config.host × EndSays old new session last
  Does (Forgets session) old new = ForgetSays old new session
  Does (Writes session count) old new = WroteSays old new session count
  Does (HearsOne session octets now heard) old new =
      (after : RelayState D) × HearSays honest words old after now session octets heard
      × (new ≡ told_of heard.change after)
  Does (Hears pieces replies now group) old new = HearsGroup honest words now pieces replies old new group
  Does (Starts message hop now started) old new = StartSays honest words old new message hop now started
  Does (Reads slot octets now answered) old new =
      (after : RelayState D) × ReplySays honest words old after now slot octets answered
      × (new ≡ told_of answered.change after)
  Does (WritesToHop slot count) old new = WroteHopSays old new slot count
  Does (Loses slot now change) old new =
      (after : RelayState D) × LoseSays honest words old after now slot change × (new ≡ untold after)
  Does (Drops slot) old new = DropSays old new slot
  Does (GivesUp message now change) old new =
      (after : RelayState D) × GiveUpSays honest words old after now message change × (new ≡ untold after)
  Does (Withdraws message places withdrawal now change) old new =
      (after : RelayState D) × WithdrawSays honest words old after withdrawal places now message change
      × (new ≡ untold after)
  Does Compacts old new = CompactSays honest words old new
  Does Trims old new = TrimSays honest words old new
  Does IsRefused old new = new ≡ old

  -- these calls were made, one after another
  abbrev pub DoesEach : List Call → RelayState D → RelayState D → Type 0
  DoesEach [] old new = new ≡ old
  DoesEach (call ∷ calls) old new = (next : RelayState D) × Does call old next × DoesEach calls next new

  -- Nothing was done to the relay but calls of this sort, one after another. A call that was refused is one too.
  pub record HasCalled (sort : Call → Bool) (old new : RelayState D) : Type 0 where
    pub calls : List Call
    pub each : AllByRecursion (λ (call : Call). sort call ≡ true) calls
    pub does : DoesEach calls old new

-- A relay to which nothing was done has no call.
abbrev pub NothingIsNoCall : {D : Type 0} → Type 0 → DiskWords D → Type 0
NothingIsNoCall {D} honest words =
    (sort : Call → Bool) (relay : RelayState D) → HasCalled honest words sort relay relay

-- A call alone is a list of calls.
abbrev pub OneIsCalled : {D : Type 0} → Type 0 → DiskWords D → Type 0
OneIsCalled {D} honest words =
    (sort : Call → Bool) (call : Call) (old new : RelayState D) → sort call ≡ true → Does honest words call old new
    → HasCalled honest words sort old new

-- Calls, and then calls, are calls.
abbrev pub CallsFollow : {D : Type 0} → Type 0 → DiskWords D → Type 0
CallsFollow {D} honest words =
    (sort : Call → Bool) (old between new : RelayState D) → HasCalled honest words sort old between
    → HasCalled honest words sort between new → HasCalled honest words sort old new

-- Calls of a sort are calls of each sort that has them all.
abbrev pub CallsAreAmong : {D : Type 0} → Type 0 → DiskWords D → Type 0
CallsAreAmong {D} honest words =
    (sort wider : Call → Bool) (old new : RelayState D) → ((call : Call) → sort call ≡ true → wider call ≡ true)
    → HasCalled honest words sort old new → HasCalled honest words wider old new
