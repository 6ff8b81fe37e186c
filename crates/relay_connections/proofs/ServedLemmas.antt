-- What the relay has for each client of the table, where one number changes.
use Rattle.std.proofs.Common.{◌≡◌, ◌≢◌, ◌⊎◌, inl, inr, ℕ, true, List, [], ◌++◌, Option, None, Some, Box, is_some, refl, sym, ap, ◌∙◌, subst, append_assoc, append-nil}
use Rattle.std.proofs.lemmas.Bool.{cases_eq}
use Rattle.std.specs.Global.{Global}
use Rattle.std.specs.Net.Addr.{ipv4_octets}
use Rattle.std.specs.Net.Socket.{v4_ip}
use Rattle.std.specs.declared.net.socket_addr.SocketAddrV4.{SocketAddrV4}
use Rattle.relay_disk.specs.Device.{DiskWords}
use Rattle.relay_slots.specs.Slots.{IsLeastFree, OthersStay, slot_at}
use Rattle.relay_book.specs.declared.change.Change.{Change}
use Rattle.relay_records.specs.Records.{Keeps}
use Rattle.relay_server.specs.Dialogue.{IsDialogue, Said}
use Rattle.relay_server.specs.Setup.{Setup, setup_for}
use Rattle.relay_node.specs.Node.{NodeState}
use Rattle.relay_loop.specs.Clients.{TalksTo}
use Rattle.relay_loop.specs.Outboxes.{octets_of, unwritten_at}
use Rattle.relay_loop.specs.Relay.{OnlyClient, RelayState}
use Rattle.relay_loop.proofs.Theorems.{talks_are_dialogues, talks_stay}
use Rattle.relay_connections.specs.Carried.{Begins, Carries, Setting, beginning_of, beginning_or, setup_at}
use Rattle.relay_connections.specs.Channel.{KeepsOctets}
use Rattle.relay_connections.specs.Exchange.{HandsAndReads, IsRead, OnlyOutbox}
use Rattle.relay_connections.specs.Matched.{IsFreed, IsMatched}
use Rattle.relay_connections.specs.Readiness.{IsStill}
use Rattle.relay_connections.specs.Served.{ActsOn, AreServed, AreServedAfter, FreeAreServed, HasNext, HasSaid, HasSession, HaveRelayed, HaveSetups, IsUnused, LeavesRest, LeavesThen, LeftAreServed, NotedAreServed, ServedAreMatched, ServedGoesOn, Serves, StaysOrEnds, StaysSaid, WorksWith, address_of, opened}
use Rattle.std.specs.Io.KnownBytes.{append_known, prepend_known}
use Rattle.relay_connections.specs.Sessions.{EndsAlone}
use Rattle.relay_connections.specs.declared.channel.Channel.{Channel}
use Rattle.relay_connections.specs.declared.client.Client.{Client}
use Rattle.relay_connections.specs.declared.client.Next.{Next}
use Rattle.relay_connections.specs.declared.client.Next.TheVariants.{Stays, Leaves, Gone}
use Rattle.relay_connections.proofs.CarriedLemmas.{carries_first, carries_on}
use Rattle.relay_connections.proofs.KnownLemmas.{keeps_same}
use Rattle.relay_connections.proofs.ExchangeLemmas.{ends_on, some_is_not_none}
use Rattle.relay_connections.proofs.LeftLemmas.{same_value}
use Rattle.relay_connections.proofs.RelayedLemmas.{relayed_still}
use Rattle.relay_connections.proofs.TableLemmas.{free_at}

stands_still : {A : Type 0} (old new : Option A) → is_some new ≡ is_some old → old ≢ None → new ≢ None
stands_still None new same stands none = stands refl
stands_still (Some value) None same stands none = absurd (cc same)
stands_still (Some value) (Some other) same stands none = absurd (cc none)

-- sessions work with the same as long as the configuration is the same
pub setups_on : {D : Type 0} (setups : List ℕ → Setup) (old new : RelayState D) → new.node.config ≡ old.node.config → HaveSetups setups old → HaveSetups setups new
setups_on setups old new same have = λ address. ap (λ config. setup_for config address) same ∙ have address

-- what the session of a number works with, by its client's address
pub setup_is_at : {D : Type 0} (setting : Setting) (relay : RelayState D) (number : ℕ) (address : List ℕ) → HaveSetups setting.setups relay → (setting.beginnings number).address ≡ address
    → setup_for relay.node.config address ≡ setup_at setting number
setup_is_at setting relay number address have is = have address ∙ ap setting.setups (sym is)

-- what a session has said is a dialogue
pub dialogue_of : {D : Type 0} (changes : List Change) (setting : Setting) (relay : RelayState D) (number : ℕ) (address : List ℕ) (said : Said) → HaveSetups setting.setups relay
    → (setting.beginnings number).address ≡ address → HasSaid changes relay number address said → IsDialogue (setup_at setting number) said
dialogue_of changes setting relay number address said have is has =
    subst (λ (setup : Setup). IsDialogue setup said) (setup_is_at setting relay number address have is) ((talks_are_dialogues changes relay number address said has.written has.talks).0)

module _ {D S : Type 0} (remaining contents : S → Option (List ℕ)) (setting : Setting) where
  -- more changes were made, and nothing of this number is different
  pub session_later : (changes added : List Change) (old new : RelayState D) (number heard : ℕ) (address : List ℕ) (channel : Channel S)
      → slot_at new.node.seats number ≡ slot_at old.node.seats number → slot_at new.clients number ≡ slot_at old.clients number → new.node.config ≡ old.node.config
      → HasSession remaining contents changes setting old number heard address channel → HasSession remaining contents (changes ++ added) setting new number heard address channel
  session_later changes added old new number heard address channel seats clients config session = record {
    address_is = session.address_is;
    said = session.said;
    has_said = record {
      written = session.has_said.written;
      talks = talks_stay changes added old new number address session.said session.has_said.written seats clients config session.has_said.talks;
    };
    carries = subst (λ (waiting : List ℕ). Carries remaining contents (setting.beginnings number) heard channel session.said waiting) (sym (ap octets_of clients)) session.carries;
  }

  pub serves_later : (changes added : List Change) (old new : RelayState D) (number : ℕ) (slot : Option (Box (Client S) Global))
      → slot_at new.node.seats number ≡ slot_at old.node.seats number → slot_at new.clients number ≡ slot_at old.clients number → new.node.config ≡ old.node.config
      → Serves remaining contents changes setting old number slot → Serves remaining contents (changes ++ added) setting new number slot
  serves_later changes added old new number None seats clients config unused = record {
    connection = clients ∙ unused.connection;
    seat = seats ∙ unused.seat;
  }
  serves_later changes added old new number (Some client) seats clients config session =
      session_later changes added old new number 0 (address_of client.value) client.value.channel seats clients config session

  -- no change was made
  pub serves_still : (changes : List Change) (old new : RelayState D) (number : ℕ) (slot : Option (Box (Client S) Global))
      → slot_at new.node.seats number ≡ slot_at old.node.seats number → slot_at new.clients number ≡ slot_at old.clients number → new.node.config ≡ old.node.config
      → Serves remaining contents changes setting old number slot → Serves remaining contents changes setting new number slot
  serves_still changes old new number slot seats clients config serves =
      subst (λ (list : List Change). Serves remaining contents list setting new number slot) (append-nil changes) (serves_later changes [] old new number slot seats clients config serves)

module _ {D : Type 0} where
  -- a session that is ended leaves nothing
  pub frees : (changes : List Change) (old new : RelayState D) (number : ℕ) (address : List ℕ) (said : Said) → old.node.records.spool.live ≡ true
      → HasSaid changes old number address said → IsFreed number old new → IsUnused new number
  frees changes old new number address said live has freed = record {
    connection = freed.ended.gone;
    seat = freed.seat live (some_is_not_none has.talks.connection) (some_is_not_none has.talks.seat.at);
  }

  -- so does one that is ended after octets that were handed over
  pub frees_on : (number : ℕ) (one two three : RelayState D) → OnlyOutbox number one two → IsFreed number two three → IsFreed number one three
  frees_on number one two three outbox freed = record {
    ended = ends_on number one two three outbox freed.ended;
    seat = λ live connection seat.
        freed.seat (ap (λ node. node.records.spool.live) outbox.node ∙ live)
        (stands_still (slot_at one.clients number) (slot_at two.clients number) outbox.stands connection)
        (λ none. seat (ap (λ node. slot_at node.seats number) (sym outbox.node) ∙ none));
  }

  pub rest_of_outbox : (number : ℕ) (old new : RelayState D) → OnlyOutbox number old new → LeavesRest number old new
  rest_of_outbox number old new outbox = record {
    only = record {
      seats = λ other apart. ap (λ node. slot_at node.seats other) outbox.node;
      clients = outbox.others;
      config = ap (λ node. node.config) outbox.node;
      attempts = ap (λ node. node.attempts) outbox.node;
      hops = outbox.hops;
    };
    records = ap (λ node. node.records) outbox.node;
  }

  pub rest_of_end : (number : ℕ) (old new : RelayState D) → EndsAlone number old new → LeavesRest number old new
  rest_of_end number old new ends = record { only = ends.only; records = ends.records }

  pub rest_on : (number : ℕ) (one two three : RelayState D) → LeavesRest number one two → LeavesRest number two three → LeavesRest number one three
  rest_on number one two three first second = record {
    only = record {
      seats = λ other apart. second.only.seats other apart ∙ first.only.seats other apart;
      clients = λ other apart. second.only.clients other apart ∙ first.only.clients other apart;
      config = second.only.config ∙ first.only.config;
      attempts = second.only.attempts ∙ first.only.attempts;
      hops = second.only.hops ∙ first.only.hops;
    };
    records = second.records ∙ first.records;
  }

  -- what the sessions work with stays
  pub works_on : (setups : List ℕ → Setup) (number : ℕ) (old new : RelayState D) → LeavesRest number old new → WorksWith setups old → WorksWith setups new
  works_on setups number old new rest works = record {
    live = ap (λ records. records.spool.live) rest.records ∙ works.live;
    setups_are = setups_on setups old new rest.only.config works.setups_are;
  }

-- whatever is to become of the connection
module _ {D S : Type 0} (remaining contents : S → Option (List ℕ)) (changes : List Change) (setting : Setting) (old new : RelayState D) (number : ℕ) (address : List ℕ) (before after : Channel S)
    (session : HasSession remaining contents changes setting old number 0 address before) where
  pub session_reads : StaysSaid number old new → HandsAndReads remaining contents number old new before after → HasSession remaining contents changes setting new number 0 address after
  session_reads stays read = record {
    address_is = session.address_is;
    said = session.said;
    has_said = stays changes address session.said session.has_said;
    carries = carries_on remaining contents (setting.beginnings number) 0 0 before after session.said (unwritten_at old.clients number) (unwritten_at new.clients number)
        read.input read.handed.said session.carries;
  }

  pub next_has : (next : Next) → WorksWith setting.setups old → StaysOrEnds number old new (Some next) → IsRead remaining contents number old new before after (Some next)
      → HasNext remaining contents changes setting new number address after next
  next_has Stays works stays read = session_reads stays read
  next_has (Leaves last) works freed read = record {
    unused = frees changes old new number address session.said works.live session.has_said freed;
    ends = record {
      said = session.said;
      dialogue = dialogue_of changes setting old number address session.said works.setups_are session.address_is session.has_said;
      carries = inl (carries_on remaining contents (setting.beginnings number) 0 0 before after session.said (unwritten_at old.clients number) last read.input read.said session.carries);
    };
  }
  next_has Gone works freed read = frees changes old new number address session.said works.live session.has_said freed

-- a read of a client leaves the rest
pub read_rest : {D S : Type 0} (remaining contents : S → Option (List ℕ)) (number : ℕ) (old new : RelayState D) (before after : Channel S) (next : Option Next)
    → IsRead remaining contents number old new before after next → LeavesRest number old new
read_rest remaining contents number old new before after None read = rest_of_outbox number old new read.0.handed.outbox
read_rest remaining contents number old new before after (Some Stays) read = rest_of_outbox number old new read.handed.outbox
read_rest remaining contents number old new before after (Some (Leaves last)) read = rest_of_end number old new read.ended
read_rest remaining contents number old new before after (Some Gone) read = rest_of_end number old new read

module _ {D S : Type 0} (honest : Type 0) (words : DiskWords D) (remaining contents : S → Option (List ℕ)) (changes : List Change) (setting : Setting) where
  pub served_works : (clients : List (Option (Box (Client S) Global))) (relay : RelayState D) → AreServed honest words remaining contents changes setting clients relay → WorksWith setting.setups relay
  served_works clients relay served = record { live = served.keeps.live; setups_are = served.setups_are }

  -- a call on one client leaves all served, where it leaves that one served
  pub served_on : (clients later : List (Option (Box (Client S) Global))) (before after : RelayState D) (number : ℕ) → AreServed honest words remaining contents changes setting clients before
      → ActsOn number clients later before after → Serves remaining contents changes setting after number (slot_at later number)
      → AreServed honest words remaining contents changes setting later after
  served_on clients later before after number served acts here = record {
    keeps = subst (λ records. Keeps honest words records changes) (sym acts.rest.records) served.keeps;
    setups_are = setups_on setting.setups before after acts.rest.only.config served.setups_are;
    relayed = relayed_still changes before after acts.rest.only.attempts acts.rest.only.hops acts.rest.only.config served.relayed;
    each = λ other. by other (cases_eq other number);
  }
    where
      by : (other : ℕ) → (other ≡ number) ⊎ (other ≡ number → ⊥) → Serves remaining contents changes setting after other (slot_at later other)
      by other (inl same) = subst (λ (at : ℕ). Serves remaining contents changes setting after at (slot_at later at)) (sym same) here
      by other (inr apart) =
          subst (λ slot. Serves remaining contents changes setting after other slot) (sym (acts.clients other apart))
          (serves_still remaining contents setting changes before after other (slot_at clients other) (acts.rest.only.seats other apart) (acts.rest.only.clients other apart) acts.rest.only.config (served.each other))

  -- what is served after changes is served after more
  pub served_after : (added : List Change) (clients : List (Option (Box (Client S) Global))) (relay : RelayState D)
      → AreServedAfter honest words remaining contents (changes ++ added) setting clients relay → AreServedAfter honest words remaining contents changes setting clients relay
  served_after added clients relay afterwards = record {
    added = added ++ afterwards.added;
    served = subst (λ (list : List Change). AreServed honest words remaining contents list setting clients relay) (append_assoc changes added afterwards.added) afterwards.served;
  }

  pub served_at_once : (clients : List (Option (Box (Client S) Global))) (relay : RelayState D) → AreServed honest words remaining contents changes setting clients relay
      → AreServedAfter honest words remaining contents changes setting clients relay
  served_at_once clients relay served = record {
    added = [];
    served = subst (λ (list : List Change). AreServed honest words remaining contents list setting clients relay) (sym (append-nil changes)) served;
  }

  -- a relay whose node and connections are as before serves the clients that it served
  pub still_served : (clients : List (Option (Box (Client S) Global))) (old new : RelayState D) → new.clients ≡ old.clients → new.hops ≡ old.hops → new.node ≡ old.node
      → AreServed honest words remaining contents changes setting clients old → AreServed honest words remaining contents changes setting clients new
  still_served clients old new same hops node served = record {
    keeps = subst (λ (state : NodeState D). Keeps honest words state.records changes) (sym node) served.keeps;
    setups_are = setups_on setting.setups old new (ap (λ (state : NodeState D). state.config) node) served.setups_are;
    relayed = relayed_still changes old new (ap (λ (state : NodeState D). state.attempts) node) hops (ap (λ (state : NodeState D). state.config) node) served.relayed;
    each = λ number.
        serves_still remaining contents setting changes old new number (slot_at clients number) (ap (λ (state : NodeState D). slot_at state.seats number) node) (ap (λ table. slot_at table number) same)
        (ap (λ (state : NodeState D). state.config) node) (served.each number);
  }

  -- nobody was opened
  pub none_opened : (peer : SocketAddrV4) (stream : S) (clients : List (Option (Box (Client S) Global))) (relay : RelayState D) → AreServed honest words remaining contents changes setting clients relay
      → AreServed honest words remaining contents changes (opened remaining contents setting clients peer stream) clients relay
  none_opened peer stream clients relay served = record {
    keeps = served.keeps;
    setups_are = served.setups_are;
    relayed = served.relayed;
    each = λ number. by number (slot_at clients number) refl (served.each number);
  }
    where
      by : (number : ℕ) (slot : Option (Box (Client S) Global)) → slot_at clients number ≡ slot → Serves remaining contents changes setting relay number slot
          → Serves remaining contents changes (opened remaining contents setting clients peer stream) relay number (slot_at clients number)
      by number None there unused = subst (λ (slot : Option (Box (Client S) Global)). Serves remaining contents changes (opened remaining contents setting clients peer stream) relay number slot) (sym there) unused
      by number (Some client) there session =
          subst (λ (slot : Option (Box (Client S) Global)). Serves remaining contents changes (opened remaining contents setting clients peer stream) relay number slot) (sym there)
          (record {
            address_is = ap (λ (slot : Option (Box (Client S) Global)). (beginning_or remaining contents slot (setting.beginnings number) (ipv4_octets (v4_ip peer)) stream).address) there ∙ session.address_is;
            said = session.said;
            has_said = session.has_said;
            carries = subst (λ beginning. Carries remaining contents beginning 0 client.value.channel session.said (unwritten_at relay.clients number))
                (ap (λ (slot : Option (Box (Client S) Global)). beginning_or remaining contents slot (setting.beginnings number) (ipv4_octets (v4_ip peer)) stream) (sym there)) session.carries;
          })

pub served_are_matched : {D S : Type 0} (honest : Type 0) (words : DiskWords D) (remaining contents : S → Option (List ℕ)) → ServedAreMatched honest words remaining contents
served_are_matched honest words remaining contents changes setting clients relay served number = by (slot_at clients number) refl (served.each number) where
  by : (slot : Option (Box (Client _) Global)) → slot_at clients number ≡ slot → Serves remaining contents changes setting relay number slot → IsMatched clients relay number
  by None there unused = record {
    connection = ap is_some unused.connection ∙ ap is_some (sym there);
    session = ap is_some unused.seat ∙ ap is_some (sym there);
    peer = λ client stands. absurd (some_is_not_none stands there);
  }
  by (Some client) there session =
      let talks = session.has_said.talks in
      record {
        connection = ap is_some talks.connection ∙ ap is_some (sym there);
        session = ap is_some talks.seat.at ∙ ap is_some (sym there);
        peer = λ other stands. record {
          seat = talks.seat.seat;
          there = talks.seat.at;
          same = talks.seat.peer_is ∙ ap (λ client. address_of client.value) (same_value client other (sym there ∙ stands));
        };
      }

pub free_are_served : {D S : Type 0} (honest : Type 0) (words : DiskWords D) (remaining contents : S → Option (List ℕ)) → FreeAreServed honest words remaining contents
free_are_served honest words remaining contents changes setting clients relay keeps setups free connections hops seats = record {
  keeps = keeps;
  setups_are = setups;
  relayed = λ attempt stands. absurd (stands (free_at relay.hops hops attempt));
  each = λ number.
      subst (λ slot. Serves remaining contents changes setting relay number slot) (sym (free_at clients free number))
      (record { connection = free_at relay.clients connections number; seat = free_at relay.node.seats seats number });
}

-- clients are left alone
pub left_are_served : {D S : Type 0} (honest : Type 0) (words : DiskWords D) (remaining contents : S → Option (List ℕ)) → LeftAreServed honest words remaining contents
left_are_served honest words remaining contents changes setting clients old new leaves served =
    let kept = leaves.keeps changes served.keeps served.relayed in
    record {
      added = kept.added;
      served = record {
        keeps = kept.keeps;
        setups_are = setups_on setting.setups old new leaves.config served.setups_are;
        relayed = kept.relayed;
        each = λ number.
            serves_later remaining contents setting changes kept.added old new number (slot_at clients number) (ap (λ seats. slot_at seats number) leaves.seats) (ap (λ table. slot_at table number) leaves.clients)
            leaves.config (served.each number);
      };
    }

pub leaves_then : {D : Type 0} (honest : Type 0) (words : DiskWords D) → LeavesThen honest words
leaves_then honest words one two three first second = record {
  clients = second.clients ∙ first.clients;
  seats = second.seats ∙ first.seats;
  config = second.config ∙ first.config;
  keeps = λ changes keeps relayed.
      let mid = first.keeps changes keeps relayed in
      let last = second.keeps (changes ++ mid.added) mid.keeps mid.relayed in
      let all : (changes ++ mid.added) ++ last.added ≡ changes ++ (mid.added ++ last.added) = append_assoc changes mid.added last.added in
      record {
        added = mid.added ++ last.added;
        keeps = subst (λ (list : List Change). Keeps honest words three.node.records list) all last.keeps;
        relayed = subst (λ (list : List Change). HaveRelayed list three) all last.relayed;
      };
}

pub served_goes_on : {D S : Type 0} (honest : Type 0) (words : DiskWords D) (remaining contents : S → Option (List ℕ)) → ServedGoesOn honest words remaining contents
served_goes_on honest words remaining contents changes added setting clients relay afterwards = served_after honest words remaining contents changes setting added clients relay afterwards

-- the system told what a connection may be ready for
pub noted_are_served : {D S : Type 0} (honest : Type 0) (words : DiskWords D) (remaining contents : S → Option (List ℕ)) → NotedAreServed honest words remaining contents
noted_are_served honest words remaining contents changes setting old new relay number noted served = record {
  keeps = served.keeps;
  setups_are = served.setups_are;
  relayed = served.relayed;
  each = λ other. by other (cases_eq other number);
}
  where
    carried : (before after : Channel _) (said : Said) (waiting : List ℕ) → KeepsOctets before after
        → Carries remaining contents (setting.beginnings number) 0 before said waiting → Carries remaining contents (setting.beginnings number) 0 after said waiting
    carried before after said waiting keeps carries =
        carries_on remaining contents (setting.beginnings number) 0 0 before after said waiting waiting
        (keeps_same (prepend_known before.block (remaining before.stream)) (prepend_known after.block (remaining after.stream))
        (ap (λ (unread : List ℕ). prepend_known unread (remaining before.stream)) (sym keeps.unread) ∙ ap (λ stream. prepend_known after.block (remaining stream)) (sym keeps.stream)))
        (keeps_same (append_known (append_known (contents before.stream) before.held) waiting) (append_known (append_known (contents after.stream) after.held) waiting)
        (ap (λ (held : List ℕ). append_known (append_known (contents before.stream) held) waiting) (sym keeps.held)
        ∙ ap (λ stream. append_known (append_known (contents stream) after.held) waiting) (sym keeps.stream)))
        carries

    still : (one other : Option (Box (Client _) Global)) → IsStill one other → Serves remaining contents changes setting relay number one → Serves remaining contents changes setting relay number other
    still None other same serves = subst (λ slot. Serves remaining contents changes setting relay number slot) (sym same) serves
    still (Some client) None same serves = absurd same
    still (Some client) (Some later) (peer, octets) session = record {
      address_is = session.address_is ∙ ap (λ (at : SocketAddrV4). ipv4_octets (v4_ip at)) (sym peer);
      said = session.said;
      has_said = subst (λ (at : SocketAddrV4). HasSaid changes relay number (ipv4_octets (v4_ip at)) session.said) (sym peer) session.has_said;
      carries = carried client.value.channel later.value.channel session.said (unwritten_at relay.clients number) octets session.carries;
    }

    by : (other : ℕ) → (other ≡ number) ⊎ (other ≡ number → ⊥) → Serves remaining contents changes setting relay other (slot_at new other)
    by other (inl same) =
        subst (λ (at : ℕ). Serves remaining contents changes setting relay at (slot_at new at)) (sym same) (still (slot_at old number) (slot_at new number) noted.still (served.each number))
    by other (inr apart) = subst (λ slot. Serves remaining contents changes setting relay other slot) (sym (noted.others other apart)) (served.each other)

-- a session was opened for a client
module _ {D S : Type 0} (honest : Type 0) (words : DiskWords D) (remaining contents : S → Option (List ℕ)) (changes : List Change) (setting : Setting) (peer : SocketAddrV4) (stream : S)
    (clients : List (Option (Box (Client S) Global))) (old mid new : RelayState D) (session : ℕ) (said : Said)
    (talks : TalksTo changes mid session (ipv4_octets (v4_ip peer)) said []) (free : IsLeastFree old.node.seats session) (only : OnlyClient old mid session) (records : mid.node.records ≡ old.node.records)
    (served : AreServed honest words remaining contents changes setting clients old) where
  none_before : slot_at clients session ≡ None
  none_before = by (slot_at clients session) refl (served.each session) where
    by : (slot : Option (Box (Client S) Global)) → slot_at clients session ≡ slot → Serves remaining contents changes setting old session slot → slot_at clients session ≡ None
    by None there unused = there
    by (Some client) there has = absurd (some_is_not_none has.has_said.talks.seat.at free.free)

  abbrev after : Setting
  after = opened remaining contents setting clients peer stream

  as_before : AreServed honest words remaining contents changes after clients old
  as_before = none_opened honest words remaining contents changes setting peer stream clients old served

  -- it is ended again
  pub opens_freed : IsFreed session mid new → AreServed honest words remaining contents changes after clients new
  opens_freed freed =
      served_on honest words remaining contents changes after clients clients old new session as_before
      (record { clients = λ other apart. refl; rest = rest_on session old mid new (record { only = only; records = records }) (rest_of_end session mid new freed.ended) })
      (subst (λ (slot : Option (Box (Client S) Global)). Serves remaining contents changes after new session slot) (sym none_before)
      (frees changes mid new session (ipv4_octets (v4_ip peer)) said (ap (λ records. records.spool.live) records ∙ served.keeps.live) (record { written = []; talks = talks }) freed))

  -- its client stands
  pub opens_one : (later : List (Option (Box (Client S) Global))) (client : Box (Client S) Global) (output : List ℕ) → client.value.peer ≡ peer → OnlyOutbox session mid new → StaysSaid session mid new
      → slot_at later session ≡ Some client → OthersStay clients later session → said.input ≡ [] → said.output ≡ output
      → Begins remaining contents stream output client.value.channel (unwritten_at new.clients session)
      → AreServed honest words remaining contents changes after later new
  opens_one later client output same outbox stays there others none greeting begins =
      let first : HasSaid changes new session (ipv4_octets (v4_ip peer)) said = stays changes (ipv4_octets (v4_ip peer)) said (record { written = []; talks = talks }) in
      let begun : Carries remaining contents (beginning_of remaining contents (ipv4_octets (v4_ip peer)) stream) 0 client.value.channel said (unwritten_at new.clients session) =
      carries_first remaining contents (ipv4_octets (v4_ip peer)) stream client.value.channel said output (unwritten_at new.clients session) none greeting begins in
      served_on honest words remaining contents changes after clients later old new session as_before
      (record { clients = others; rest = rest_on session old mid new (record { only = only; records = records }) (rest_of_outbox session mid new outbox) })
      (subst (λ (slot : Option (Box (Client S) Global)). Serves remaining contents changes after new session slot) (sym there)
      (record {
        address_is = ap (λ (slot : Option (Box (Client S) Global)). (beginning_or remaining contents slot (setting.beginnings session) (ipv4_octets (v4_ip peer)) stream).address) none_before ∙ ap (λ (at : SocketAddrV4). ipv4_octets (v4_ip at)) (sym same);
        said = said;
        has_said = subst (λ (at : SocketAddrV4). HasSaid changes new session (ipv4_octets (v4_ip at)) said) (sym same) first;
        carries = subst (λ beginning. Carries remaining contents beginning 0 client.value.channel said (unwritten_at new.clients session))
            (ap (λ (slot : Option (Box (Client S) Global)). beginning_or remaining contents slot (setting.beginnings session) (ipv4_octets (v4_ip peer)) stream) (sym none_before)) begun;
      }))
