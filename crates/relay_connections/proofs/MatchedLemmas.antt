-- The table of clients beside the relay, where one number changes.
use Rattle.std.proofs.Common.{◌≡◌, ◌≢◌, ◌⊎◌, inl, inr, ℕ, zero, suc, Bool, true, false, List, Option, None, Some, Box, Result, Ok, Err, is_some, refl, sym, ap, ◌∙◌, subst, arith}
use Rattle.std.specs.Global.{Global}
use Rattle.std.specs.Net.Addr.{ipv4_octets}
use Rattle.std.specs.Net.Socket.{v4_ip}
use Rattle.relay_slots.specs.Slots.{OthersStay, slot_at}
use Rattle.relay_node.specs.Node.{NodeState, RefusesToConnect}
use Rattle.relay_loop.specs.Relay.{RelayState}
use Rattle.relay_connections.specs.declared.client.Client.{Client}
use Rattle.relay_slots.specs.Slots.{IsLeastFree}
use Rattle.relay_loop.specs.Relay.{OnlyClient}
use Rattle.relay_records.specs.declared.fault.NodeFault.{NodeFault}
use Rattle.relay_records.specs.declared.fault.NodeFault.TheVariants.{Stopped}
use Rattle.relay_records.specs.declared.fault.NodeFault.TheVariants as fault
use Rattle.std.specs.declared.net.socket_addr.SocketAddrV4.{SocketAddrV4}
use Rattle.relay_connections.proofs.ExchangeLemmas.{some_is_not_none}
use Rattle.relay_connections.proofs.LeftLemmas.{same_value}
use Rattle.relay_connections.specs.Exchange.{OnlyOutbox}
use Rattle.relay_connections.specs.Matched.{AreMatched, IsFreed, IsGreeted, IsMatched, IsOfPeer, Opens}

same_or_not : (one other : ℕ) → (one ≡ other) ⊎ (one ≢ other)
same_or_not zero zero = inl refl
same_or_not zero (suc other) = inr (λ e. absurd (omega (arith, e)))
same_or_not (suc one) zero = inr (λ e. absurd (omega (arith, e)))
same_or_not (suc one) (suc other) = by (same_or_not one other) where
  by : (one ≡ other) ⊎ (one ≢ other) → (suc one ≡ suc other) ⊎ (suc one ≢ suc other)
  by (inl same) = inl (ap suc same)
  by (inr apart) = inr (λ e. apart (omega (arith, e)))

-- a node that refuses a session is as it was
pub refused_same : {D : Type 0} (old new : NodeState D) (fault : NodeFault) → RefusesToConnect old new fault → new ≡ old
refused_same old new fault.NoMemory same = same
refused_same old new fault.Stopped same = same
refused_same old new fault.Unknown same = absurd same
refused_same old new fault.TooMany same = same
refused_same old new fault.NotDue same = absurd same
refused_same old new fault.Busy same = absurd same
refused_same old new (fault.Open cause) same = absurd same
refused_same old new fault.Full same = absurd same
refused_same old new fault.NoSecond same = absurd same

module _ {S D : Type 0} where
  -- what is true of this number, and of all others, is true of all
  pub all_matched : (clients : List (Option (Box (Client S) Global))) (relay : RelayState D) (number : ℕ)
      → IsMatched clients relay number → ((other : ℕ) → other ≢ number → IsMatched clients relay other) → AreMatched clients relay
  all_matched clients relay number here others at = by (same_or_not at number) where
    by : (at ≡ number) ⊎ (at ≢ number) → IsMatched clients relay at
    by (inl same) = subst (IsMatched clients relay) (sym same) here
    by (inr apart) = others at apart

  -- a number at which nothing changes
  pub still_matched : (clients later : List (Option (Box (Client S) Global))) (old new : RelayState D) (at : ℕ)
      → IsMatched clients old at → slot_at later at ≡ slot_at clients at → slot_at new.clients at ≡ slot_at old.clients at
      → slot_at new.node.seats at ≡ slot_at old.node.seats at → IsMatched later new at
  still_matched clients later old new at matched same connections seats = record {
    connection = ap is_some connections ∙ matched.connection ∙ ap is_some (sym same);
    session = ap is_some seats ∙ matched.session ∙ ap is_some (sym same);
    peer = λ client there.
        let was = matched.peer client (sym same ∙ there) in
        record { seat = was.seat; there = seats ∙ was.there; same = was.same };
  }

  -- a number under which nothing is left
  pub none_matched : (clients : List (Option (Box (Client S) Global))) (relay : RelayState D) (at : ℕ)
      → slot_at clients at ≡ None → slot_at relay.clients at ≡ None → slot_at relay.node.seats at ≡ None → IsMatched clients relay at
  none_matched clients relay at none connection seat = record {
    connection = ap is_some connection ∙ sym (ap is_some none);
    session = ap is_some seat ∙ sym (ap is_some none);
    peer = λ client there. absurd (some_is_not_none there none);
  }

  -- a relay whose node and connections are as before has the clients that it had
  pub stays_matched : (clients : List (Option (Box (Client S) Global))) (old new : RelayState D) → new.clients ≡ old.clients → new.node ≡ old.node → AreMatched clients old → AreMatched clients new
  stays_matched clients old new same node matched = λ at.
      still_matched clients clients old new at (matched at) refl (ap (λ table. slot_at table at) same) (ap (λ (state : NodeState D). slot_at state.seats at) node)

  -- nobody was opened
  pub nobody_opened : (peer : SocketAddrV4) (clients : List (Option (Box (Client S) Global))) (old new : RelayState D) → new.clients ≡ old.clients → new.node ≡ old.node → AreMatched clients old → Opens peer clients clients new
  nobody_opened peer clients old new same node matched = record {
    matched = stays_matched clients old new same node matched;
    others = λ number there. refl;
    opened = λ number client none there. absurd (some_is_not_none there none);
  }

  module _ (peer : SocketAddrV4) (clients : List (Option (Box (Client S) Global))) (old mid new : RelayState D) (session : ℕ) (waiting : List ℕ)
      (connection : slot_at mid.clients session ≡ Some waiting) (seat : IsOfPeer mid.node.seats session (ipv4_octets (v4_ip peer))) (free : IsLeastFree old.node.seats session) (only : OnlyClient old mid session)
      (live : mid.node.records.spool.live ≡ true) (matched : AreMatched clients old) where
    none_there : slot_at clients session ≡ None
    none_there = none_of (slot_at clients session) (sym (matched session).session ∙ ap is_some free.free)
      where
        none_of : {A : Type 0} (slot : Option A) → is_some slot ≡ false → slot ≡ None
        none_of None not = refl
        none_of (Some value) not = absurd (cc not)

    -- the session was ended again
    pub opens_freed : IsFreed session mid new → Opens peer clients clients new
    opens_freed freed = record {
      matched = all_matched clients new session
          (none_matched clients new session none_there freed.ended.gone (freed.seat live (some_is_not_none connection) (some_is_not_none seat.there)))
          (λ other apart. still_matched clients clients old new other (matched other) refl
          (freed.ended.only.clients other apart ∙ only.clients other apart) (freed.ended.only.seats other apart ∙ only.seats other apart));
      others = λ number stands. refl;
      opened = λ number client free there. absurd (some_is_not_none there free);
    }

    -- its client stands
    pub opens_one : (later : List (Option (Box (Client S) Global))) (client : Box (Client S) Global) → client.value.peer ≡ peer → OnlyOutbox session mid new
        → slot_at later session ≡ Some client → OthersStay clients later session → Opens peer clients later new
    opens_one later client same outbox there rest = record {
      matched = all_matched later new session
          (record {
            connection = outbox.stands ∙ ap is_some connection ∙ sym (ap is_some there);
            session = ap (λ node. is_some (slot_at node.seats session)) outbox.node ∙ ap is_some seat.there ∙ sym (ap is_some there);
            peer = λ other stands. record {
              seat = seat.seat;
              there = ap (λ node. slot_at node.seats session) outbox.node ∙ seat.there;
              same = seat.same ∙ ap (λ at. ipv4_octets (v4_ip at)) (sym same ∙ ap (λ client. client.value.peer) (same_value client other (sym there ∙ stands)));
            };
          })
          (λ other apart. still_matched clients later old new other (matched other) (rest other apart)
          (outbox.others other apart ∙ only.clients other apart) (ap (λ node. slot_at node.seats other) outbox.node ∙ only.seats other apart));
      others = λ number stands. rest number (λ here. stands (ap (slot_at clients) here ∙ none_there));
      opened = λ number other none stands. by number other stands (same_or_not number session) none;
    }
      where
        by : (number : ℕ) (other : Box (Client S) Global) → slot_at later number ≡ Some other → (number ≡ session) ⊎ (number ≢ session)
            → slot_at clients number ≡ None → other.value.peer ≡ peer
        by number other stands (inl here) none =
            ap (λ client. client.value.peer) (same_value other client (sym stands ∙ ap (slot_at later) here ∙ there)) ∙ same
        by number other stands (inr apart) none = absurd (some_is_not_none (sym (rest number apart) ∙ stands) none)

-- where nobody was greeted, the session is ended
pub greeted_none : {S D : Type 0} (session : ℕ) (peer : SocketAddrV4) (old new : RelayState D) (client : Option (Box (Client S) Global))
    → IsGreeted session peer old new client → ((value : Box (Client S) Global) → client ≡ Some value → ⊥) → IsFreed session old new
greeted_none session peer old new None greeted not = greeted
greeted_none session peer old new (Some client) greeted not = absurd (not client refl)

-- a node that has opened a session is live
pub is_live : {D : Type 0} (old new : RelayState D) (session : ℕ) → new.node.records ≡ old.node.records
    → (old.node.records.spool.live ≡ false → ◌≡◌ {A = Result ℕ NodeFault} (Ok session) (Err Stopped)) → new.node.records.spool.live ≡ true
is_live old new session same refused = ap (λ records. records.spool.live) same ∙ by old.node.records.spool.live refused where
  by : (live : Bool) → (live ≡ false → ◌≡◌ {A = Result ℕ NodeFault} (Ok session) (Err Stopped)) → live ≡ true
  by true refused = refl
  by false refused = absurd (cc (refused refl))
