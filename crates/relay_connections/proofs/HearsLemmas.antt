-- Those whose sessions may hear something, while one client after another is read of.
use Rattle.std.proofs.Common.{◌≡◌, ◌≢◌, ◌⊎◌, ℕ, ◌+◌, ◌%◌, ◌<◌, ◌≤◌, Bool, true, false, ◌||◌, is_some, List, Option, None, Some, Box, IfSome, inl, inr, refl, sym, ap, ◌∙◌, subst, arith}
use Rattle.std.proofs.lemmas.Bool.{cases_eq, cases_lt}
use Rattle.std.specs.Global.{Global}
use Rattle.relay_disk.specs.Device.{DiskWords}
use Rattle.relay_slots.specs.Slots.{OthersStay, slot_at}
use Rattle.relay_loop.specs.Outboxes.{octets_of}
use Rattle.relay_loop.specs.Relay.{RelayState}
use Rattle.relay_loop.specs.declared.replying.ReplyPiece.{ReplyPiece}
use Rattle.relay_connections.specs.Hears.{AreToHear, HearsAll, HearsThemIf, IsHearing, IsToHear, LosesOne, MayHear, OneMayHear}
use Rattle.relay_connections.specs.Hearing.{hears, hears_at}
use Rattle.relay_connections.specs.declared.hearing.Replied.{Replied}
use Rattle.relay_connections.specs.Served.{ActsOn}
use Rattle.relay_connections.specs.declared.channel.Channel.{Channel}
use Rattle.relay_connections.specs.declared.client.Client.{Client}
use Rattle.relay_connections.proofs.CircleLemmas.{leads_to}
use Rattle.relay_connections.proofs.ExchangeLemmas.{some_is_not_none}

-- a client that stands in a slot and whose session hears something
pub record Hearer {S : Type 0} (channel : Channel S) (slot : Option (Box (Client S) Global)) : Type 0 where
  pub client : Box (Client S) Global
  pub there : slot ≡ Some client
  pub hears : client.value.hears ≡ true
  pub same : client.value.channel ≡ channel

pub hearer : {S : Type 0} (channel : Channel S) (slot : Option (Box (Client S) Global)) → IsHearing channel slot → Hearer channel slot
hearer channel None hearing = absurd hearing
hearer channel (Some client) hearing = record { client = client; there = refl; hears = hearing.0; same = hearing.1 }

-- a client stands with its connection, and its session is as it was
pub record StaysOn {D S : Type 0} (number : ℕ) (channel : Channel S) (old new : RelayState D) (clients : List (Option (Box (Client S) Global))) : Type 0 where
  pub client : Box (Client S) Global
  pub there : slot_at clients number ≡ Some client
  pub same : client.value.channel ≡ channel
  pub connection : slot_at new.clients number ≡ slot_at old.clients number
  pub session : slot_at new.node.seats number ≡ slot_at old.node.seats number

-- its session may hear something still
pub may_still : {D S : Type 0} (number : ℕ) (before after : Channel S) (old new : RelayState D) → MayHear old number before → after ≡ before → slot_at new.clients number ≡ slot_at old.clients number → MayHear new number after
may_still number before after old new may same connection =
    subst (λ (channel : Channel _). MayHear new number channel) (sym same)
    (record { unread = may.unread; held = may.held; unwritten = ap octets_of connection ∙ may.unwritten; whole = may.whole })

-- those whose sessions may hear something stay so
abbrev pub AllStay : {D S : Type 0} → RelayState D → List (Option (Box (Client S) Global)) → RelayState D → List (Option (Box (Client S) Global)) → Type 0
AllStay old before new after =
    (number : ℕ) (client : Box (Client _) Global) → slot_at before number ≡ Some client → MayHear old number client.value.channel → StaysOn number client.value.channel old new after

-- and those that were read of hear something
abbrev pub SeenHear : {D S : Type 0} → ℕ → ℕ → ℕ → RelayState D → List (Option (Box (Client S) Global)) → Bool → List (Option (Box (Client S) Global)) → Type 0
SeenHear count first steps old before hears after =
    (step : ℕ) → step < steps → (client : Box (Client _) Global) → slot_at before ((first + step) % count) ≡ Some client → MayHear old ((first + step) % count) client.value.channel
    → (hears ≡ true) × IsHearing client.value.channel (slot_at after ((first + step) % count))

-- at the start
pub stays_first : {D S : Type 0} (old : RelayState D) (before : List (Option (Box (Client S) Global))) → AllStay old before old before
stays_first old before number client there may = record { client = client; there = there; same = refl; connection = refl; session = refl }

-- One more client is read of.
module _ {D S : Type 0} (old mid new : RelayState D) (before between after : List (Option (Box (Client S) Global))) (at : ℕ) (acts : ActsOn at between after mid new)
    (reads : (client : Box (Client S) Global) → slot_at between at ≡ Some client → MayHear mid at client.value.channel → IsToHear at client.value.channel mid new after)
    (stay : AllStay old before mid between) where
  pub all_stay : AllStay old before new after
  all_stay number client there may = by (cases_eq number at) where
    so : StaysOn number client.value.channel old mid between
    so = stay number client there may

    here : (number ≡ at) → StaysOn number client.value.channel old new after
    here same = subst (λ (n : ℕ). slot_at before n ≡ Some client → MayHear old n client.value.channel → StaysOn n client.value.channel old new after) (sym same) at_it there may where
      at_it : slot_at before at ≡ Some client → MayHear old at client.value.channel → StaysOn at client.value.channel old new after
      at_it there_at may_at =
          let was = stay at client there_at may_at in
          let now = reads was.client was.there (may_still at client.value.channel was.client.value.channel old mid may_at was.same was.connection) in
          let one = hearer was.client.value.channel (slot_at after at) now.hearing in
          record { client = one.client; there = one.there; same = one.same ∙ was.same; connection = now.connection ∙ was.connection; session = now.session ∙ was.session }

    by : (number ≡ at) ⊎ (number ≡ at → ⊥) → StaysOn number client.value.channel old new after
    by (inl same) = here same
    by (inr apart) = record {
      client = so.client;
      there = acts.clients number apart ∙ so.there;
      same = so.same;
      connection = acts.rest.only.clients number apart ∙ so.connection;
      session = acts.rest.only.seats number apart ∙ so.session;
    }

  -- the one that is read of hears something
  pub one_hears : (client : Box (Client S) Global) → slot_at before at ≡ Some client → MayHear old at client.value.channel → IsHearing client.value.channel (slot_at after at)
  one_hears client there may =
      let was = stay at client there may in
      let now = reads was.client was.there (may_still at client.value.channel was.client.value.channel old mid may was.same was.connection) in
      subst (λ (channel : Channel S). IsHearing channel (slot_at after at)) was.same now.hearing

  -- those that were read of hear something, and so does this one
  pub seen_more : (count first steps : ℕ) (hears more : Bool) → (first + steps) % count ≡ at → (hears ≡ true → more ≡ true)
      → ((client : Box (Client S) Global) → slot_at before at ≡ Some client → MayHear old at client.value.channel → more ≡ true)
      → SeenHear count first steps old before hears between → SeenHear count first (steps + 1) old before more after
  seen_more count first steps hears more is still now seen step below client there may = by (cases_eq number at) where
    number : ℕ
    number = (first + step) % count

    earlier : (number ≡ at → ⊥) → step < steps
    earlier apart = omega (arith, below, other) where
      other : step ≡ steps → ⊥
      other same = apart (ap (λ n. (first + n) % count) same ∙ is)

    here : slot_at before at ≡ Some client → MayHear old at client.value.channel → (more ≡ true) × IsHearing client.value.channel (slot_at after at)
    here there_at may_at = (now client there_at may_at, one_hears client there_at may_at)

    by : (number ≡ at) ⊎ (number ≡ at → ⊥) → (more ≡ true) × IsHearing client.value.channel (slot_at after number)
    by (inl same) = subst (λ (n : ℕ). slot_at before n ≡ Some client → MayHear old n client.value.channel → (more ≡ true) × IsHearing client.value.channel (slot_at after n)) (sym same) here there may
    by (inr apart) = let was = seen step (earlier apart) client there may in (still was.0, subst (λ slot. IsHearing client.value.channel slot) (sym (acts.clients number apart)) was.1)

module _ {D S : Type 0} (old new : RelayState D) (before after : List (Option (Box (Client S) Global))) (stay : AllStay old before new after) where
  -- a free slot is passed over
  pub seen_free : (count first steps : ℕ) (hears : Bool) (at : ℕ) → (first + steps) % count ≡ at → slot_at after at ≡ None → SeenHear count first steps old before hears after → SeenHear count first (steps + 1) old before hears after
  seen_free count first steps hears at is free seen step below client there may = by (cases_eq number at) where
    number : ℕ
    number = (first + step) % count

    earlier : (number ≡ at → ⊥) → step < steps
    earlier apart = omega (arith, below, other) where
      other : step ≡ steps → ⊥
      other same = apart (ap (λ n. (first + n) % count) same ∙ is)

    by : (number ≡ at) ⊎ (number ≡ at → ⊥) → (hears ≡ true) × IsHearing client.value.channel (slot_at after number)
    by (inl same) = absurd (some_is_not_none (stay number client there may).there (ap (slot_at after) same ∙ free))
    by (inr apart) = seen step (earlier apart) client there may

  -- once all slots were passed, each hears something that may
  module _ (count first steps : ℕ) (hears : Bool) (past : count ≤ steps) (rest : (number : ℕ) → count ≤ number → slot_at before number ≡ None) (seen : SeenHear count first steps old before hears after) where
    heard_at : (number : ℕ) (client : Box (Client S) Global) → slot_at before number ≡ Some client → MayHear old number client.value.channel → (hears ≡ true) × IsHearing client.value.channel (slot_at after number)
    heard_at number client there may = by (cases_lt number count) where
      by : (number < count) ⊎ (count ≤ number) → (hears ≡ true) × IsHearing client.value.channel (slot_at after number)
      by (inr beyond) = absurd (some_is_not_none there (rest number beyond))
      by (inl below) =
          let leads = leads_to count first number below in
          subst (λ (n : ℕ). slot_at before n ≡ Some client → MayHear old n client.value.channel → (hears ≡ true) × IsHearing client.value.channel (slot_at after n)) leads.there
          (λ there_at may_at. seen leads.step (omega (arith, leads.within, past)) client there_at may_at) there may

    pub all_hear : AreToHear old before new after
    all_hear number client there may = record {
      hearing = (heard_at number client there may).1;
      connection = (stay number client there may).connection;
      session = (stay number client there may).session;
    }

    pub hears_one : OneMayHear old before → hears ≡ true
    hears_one one = (heard_at one.number one.client one.there one.may).0

-- what is so of a client that is read of is so of the one that stood there at the start
pub still_reads : {D S : Type 0} {P : Type 0} (old mid : RelayState D) (before between : List (Option (Box (Client S) Global))) (at : ℕ) → AllStay old before mid between
    → ((client : Box (Client S) Global) → slot_at between at ≡ Some client → MayHear mid at client.value.channel → P) → (client : Box (Client S) Global) → slot_at before at ≡ Some client → MayHear old at client.value.channel → P
still_reads old mid before between at stay reads client there may =
    let was = stay at client there may in
    reads was.client was.there (may_still at client.value.channel was.client.value.channel old mid may was.same was.connection)

pub or_second : (one two : Bool) → two ≡ true → (one || two) ≡ true
or_second true two is = refl
or_second false two is = is

-- a slot in which nothing stands
pub none_there : {A : Type 0} (slot : Option A) → is_some slot ≡ false → slot ≡ None
none_there None free = refl
none_there (Some value) free = absurd (cc free)

-- a free slot stays free
pub none_on : {A : Type 0} (between after : List (Option A)) (at : ℕ) → OthersStay between after at → (slot_at between at ≡ None → slot_at after at ≡ None) → (number : ℕ) → slot_at between number ≡ None → slot_at after number ≡ None
none_on between after at others here number free = by (cases_eq number at) where
  by : (number ≡ at) ⊎ (number ≡ at → ⊥) → slot_at after number ≡ None
  by (inl same) = ap (slot_at after) same ∙ here (ap (slot_at between) (sym same) ∙ free)
  by (inr apart) = others number apart ∙ free

-- a client whose session hears something
pub hearing_at : {S : Type 0} (channel : Channel S) (slot : Option (Box (Client S) Global)) → IsHearing channel slot → hears slot ≡ true
hearing_at channel None hearing = absurd hearing
hearing_at channel (Some client) hearing = hearing.0

-- the slots that were passed over have no client whose session hears something
abbrev pub SilentTo : {S : Type 0} → ℕ → ℕ → ℕ → List (Option (Box (Client S) Global)) → Type 0
SilentTo count first steps clients = (step : ℕ) → step < steps → hears_at clients ((first + step) % count) ≡ false

pub silent_more : {S : Type 0} (count first steps : ℕ) (clients : List (Option (Box (Client S) Global))) → hears_at clients ((first + steps) % count) ≡ false → SilentTo count first steps clients → SilentTo count first (steps + 1) clients
silent_more count first steps clients here silent step below = by (cases_eq step steps) where
  by : (step ≡ steps) ⊎ (step ≡ steps → ⊥) → hears_at clients ((first + step) % count) ≡ false
  by (inl same) = ap (λ n. hears_at clients ((first + n) % count)) same ∙ here
  by (inr apart) = silent step (omega (arith, below, apart))

-- then none has
pub silent_none : {S : Type 0} (count first steps : ℕ) (clients : List (Option (Box (Client S) Global))) → count ≤ steps → ((number : ℕ) → count ≤ number → slot_at clients number ≡ None) → SilentTo count first steps clients
    → (number : ℕ) → hears_at clients number ≡ true → ⊥
silent_none count first steps clients past rest silent number does = by (cases_lt number count) where
  not_both : (test : Bool) → test ≡ true → test ≡ false → ⊥
  not_both test yes_it no_it = absurd (cc (sym yes_it ∙ no_it))

  by : (number < count) ⊎ (count ≤ number) → ⊥
  by (inr beyond) = not_both (hears_at clients number) does (ap hears (rest number beyond))
  by (inl below) =
      let leads = leads_to count first number below in
      not_both (hears_at clients number) does (ap (hears_at clients) (sym leads.there) ∙ silent leads.step (omega (arith, leads.within, past)))

-- a client that stood is gone
pub loses_one : {S : Type 0} (before between after : List (Option (Box (Client S) Global))) → ((number : ℕ) → slot_at before number ≡ None → slot_at between number ≡ None) → LosesOne between after → LosesOne before after
loses_one before between after none lost = record { number = lost.number; stood = λ free. lost.stood (none lost.number free); gone = lost.gone }

-- one that may hear something does, after the reading
pub one_is_heard : {D S : Type 0} (old before : RelayState D) (clients between : List (Option (Box (Client S) Global))) (one : OneMayHear old clients) → AreToHear old clients before between → hears_at between one.number ≡ true
one_is_heard old before clients between one reads = hearing_at one.client.value.channel (slot_at between one.number) (reads one.number one.client one.there one.may).hearing

-- what a turn lets clients hear, by its results
module _ {D S : Type 0} (honest : Type 0) (words : DiskWords D) (clients between later : List (Option (Box (Client S) Global))) (replies : List ReplyPiece) (at : ℕ) (old before : RelayState D) where
  pub them_if : (end : Option Replied) → AreToHear old clients before between → IfSome end (HearsAll honest words between replies at before) → (end ≡ None → OneMayHear old clients → LosesOne clients later)
      → HearsThemIf honest words clients later replies at old end
  them_if None reads all none = none refl
  them_if (Some replied) reads all none = record { between = between; before = before; reads = reads; hears = all }
