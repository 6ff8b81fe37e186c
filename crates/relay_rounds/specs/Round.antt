-- What a round does with its links.
use Rattle.std.specs.Prelude.{◌≡◌, ◌+◌, ◌≤◌, ℕ, Bool, true, false, List, [], ◌∷◌, length, Option, None, Some, Result}
use Rattle.std.specs.Prelude.{vec_len, vec_capacity}
use Rattle.relay_routes.specs.declared.config.Config.{Config}
use Rattle.relay_disk.specs.Device.{DiskWords}
use Rattle.relay_server.specs.declared.offer.Answer.{Answer}
use Rattle.relay_server.specs.Dialogue.{Offered}
use Rattle.relay_book.specs.declared.change.Change.{Change}
use Rattle.relay_records.specs.Records.{Kept}
use Rattle.relay_links.specs.declared.fault.LinkFault.{LinkFault}
use Rattle.relay_hub.specs.declared.receipt.Receipt.{Receipt}
use Rattle.relay_rounds.specs.declared.served.Link.{Link}
use Rattle.relay_rounds.specs.declared.served.Served.{Served}
use Rattle.relay_rounds.specs.declared.lane.Lane.{Lane}
use Rattle.relay_rounds.specs.declared.lane.Started.{Started}
use Rattle.relay_rounds.specs.declared.lane.Started.TheVariants.{Running, Idle}
use Rattle.relay_rounds.specs.declared.rounds.Room.{Room}
use Rattle.relay_hub.specs.Hub.{GrowsBy, HasTaken}
use Rattle.relay_hub.specs.Link.{HasEnded, link_start}
use Rattle.relay_hub.specs.Receipts.{AreReceipts, count_of}

-- Below: what the hub has answered, what a link's reader has left, and what its writer holds.
module _ {R W : Type 0} (has_answered : List ℕ → ℕ → Offered → Answer → Type 0) (remaining : R → Option (List ℕ))
    (contents : W → Option (List ℕ)) where
  -- for links of this configuration and acceptance time
  module _ (config : Config) (at : ℕ) where
    -- How a link ended, whose client is at this address. One that got no thread has read and written nothing, and has
    -- queued nothing.
    abbrev pub EndsBy : List ℕ → R → W → List Receipt → R → W → List Receipt
        → Option (Result (Unit {0}) LinkFault) → Type 0
    EndsBy peer old_reader old_writer old_receipts reader writer receipts None =
        (reader ≡ old_reader) × (writer ≡ old_writer) × (receipts ≡ old_receipts)
    EndsBy peer old_reader old_writer old_receipts reader writer receipts (Some result) =
        HasEnded has_answered config peer at (link_start (remaining old_reader) (contents old_writer) old_receipts)
        (remaining reader) (contents writer) receipts result

    -- the lane was served, or it got no thread and is unchanged
    pub record IsServed {J : Type 0} (old new : Lane J R W) : Type 0 where
      pub peer : new.peer ≡ old.peer
      pub ends : EndsBy old.peer old.reader old.writer old.pass new.reader new.writer new.pass new.ended

    -- the lane's thread runs, or the lane got no thread
    abbrev pub IsBegun : {J : Type 0} → Lane J R W → Started J R W → Type 0
    IsBegun old (Running handle) =
        (handle.promise.lane.value ≡ old) × (handle.promise.config.value ≡ config) × (handle.promise.at ≡ at)
    IsBegun old (Idle lane) = IsServed old lane

  -- the lane that comes back is the outcome of whatever lane was begun
  abbrev pub Ends : {J : Type 0} → Started J R W → Lane J R W → Type 0
  Ends {J} started new =
      (config : Config) (at : ℕ) (old : Lane J R W) → IsBegun config at old started → IsServed config at old new

  -- the outcome of a link, with its receipts
  pub record HasComeOut (config : Config) (at : ℕ) (link : Link R W) (served : Served R W) : Type 0 where
    pub peer : served.peer ≡ link.peer
    pub ends : EndsBy config at link.peer link.reader link.writer [] served.reader served.writer
        served.receipts.items served.ended

  -- each link has its outcome, in order
  abbrev pub HaveComeOut : Config → ℕ → List (Link R W) → List (Served R W) → Type 0
  HaveComeOut config at [] [] = Unit {0}
  HaveComeOut config at [] (one ∷ served) = ⊥
  HaveComeOut config at (link ∷ links) [] = ⊥
  HaveComeOut config at (link ∷ links) (one ∷ served) =
      HasComeOut config at link one × HaveComeOut config at links served

-- the receipts of each link
abbrev pub receipts_of : {R W : Type 0} → List (Served R W) → List (List Receipt)
receipts_of [] = []
receipts_of (one ∷ served) = one.receipts.items ∷ receipts_of served

module _ {J R W : Type 0} where
  -- a lane of this link that hasn't begun
  pub record IsLaneOf (link : Link R W) (lane : Lane J R W) : Type 0 where
    pub peer : lane.peer ≡ link.peer
    pub reader : lane.reader ≡ link.reader
    pub writer : lane.writer ≡ link.writer
    pub pass : lane.pass ≡ []
    pub ended : lane.ended ≡ None

  -- this many flags, and room for as many lanes that have begun and have ended
  pub record MayBegin (count word_count : ℕ) (started : List (Started J R W)) (started_room : ℕ)
      (ended : List (Lane J R W)) (ended_room : ℕ) : Type 0 where
    pub words : count ≤ word_count
    pub none_started : started ≡ []
    pub room_to_start : count ≤ started_room
    pub none_ended : ended ≡ []
    pub room_to_end : count ≤ ended_room

  -- all of a lane but its pass
  pub record IsRestOf (lane : Lane J R W) (rest : Served R W) : Type 0 where
    pub peer : rest.peer ≡ lane.peer
    pub reader : rest.reader ≡ lane.reader
    pub writer : rest.writer ≡ lane.writer
    pub ended : rest.ended ≡ lane.ended

  -- the passes of the lanes, and the rest of each
  abbrev pub AreApart : List (Lane J R W) → List (List Receipt) → List (Served R W) → Type 0
  AreApart [] [] [] = Unit {0}
  AreApart [] [] (rest ∷ rests) = ⊥
  AreApart [] (pass ∷ passes) rests = ⊥
  AreApart (lane ∷ lanes) [] rests = ⊥
  AreApart (lane ∷ lanes) (pass ∷ passes) [] = ⊥
  AreApart (lane ∷ lanes) (pass ∷ passes) (rest ∷ rests) =
      (pass ≡ lane.pass) × IsRestOf lane rest × AreApart lanes passes rests

-- a result with these receipts in place of its own
pub record IsWith {R W : Type 0} (pass : List Receipt) (rest one : Served R W) : Type 0 where
  pub receipts : one.receipts.items ≡ pass
  pub peer : one.peer ≡ rest.peer
  pub reader : one.reader ≡ rest.reader
  pub writer : one.writer ≡ rest.writer
  pub ended : one.ended ≡ rest.ended

-- each pass's receipts joined with the rest of its lane
abbrev pub AreTogether : {R W : Type 0} → List (List Receipt) → List (Served R W) → List (Served R W) → Type 0
AreTogether [] [] [] = Unit {0}
AreTogether [] [] (one ∷ served) = ⊥
AreTogether [] (rest ∷ rests) served = ⊥
AreTogether (pass ∷ passes) [] served = ⊥
AreTogether (pass ∷ passes) (rest ∷ rests) [] = ⊥
AreTogether (pass ∷ passes) (rest ∷ rests) (one ∷ served) = IsWith pass rest one × AreTogether passes rests served

-- reserved room for this many links
pub record HasRoom {J R W : Type 0} (count : ℕ) (room : Room J R W) : Type 0 where
  pub words : vec_len room.have_threads ≡ count
  pub no_lanes : room.lanes.items ≡ []
  pub lanes : count ≤ vec_capacity room.lanes
  pub none_started : room.started.items ≡ []
  pub started : count ≤ vec_capacity room.started
  pub none_ended : room.ended.items ≡ []
  pub ended : count ≤ vec_capacity room.ended
  pub no_passes : room.passes.items ≡ []
  pub passes : count ≤ vec_capacity room.passes
  pub no_rests : room.rests.items ≡ []
  pub rests : count ≤ vec_capacity room.rests
  pub none_served : room.served.items ≡ []
  pub served : count ≤ vec_capacity room.served

-- Whether these receipts agree with what the node has accepted after these changes. If so, it is one accept for each
-- receipt. If not, it is still as many accepts as there are receipts.
abbrev pub HasRun :
    {D : Type 0} → Type 0 → DiskWords D → List Change → List (List Receipt) → Kept D → Bool → Type 0
HasRun honest words changes receipts records true = HasTaken honest words changes receipts records
HasRun honest words changes receipts records false =
    (AreReceipts (length changes + 1) records.queue receipts → ⊥)
    × GrowsBy honest words changes (count_of receipts) records
