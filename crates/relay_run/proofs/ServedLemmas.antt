-- Clients that are served, through the calls of a turn.
use Rattle.std.proofs.Common.{◌≡◌, ◌≢◌, ◌++◌, ℕ, List, Option, None, Some, Box, Result, Ok, Err, [], refl, sym, ap, ◌∙◌, subst, append-nil}
use Rattle.std.specs.Prelude.{IfOk, IfSome, OnOk}
use Rattle.std.specs.Global.{Global}
use Rattle.std.specs.Net.Addr.{ipv4_octets}
use Rattle.std.specs.Net.Socket.{v4_ip}
use Rattle.std.specs.declared.net.socket_addr.SocketAddrV4.{SocketAddrV4}
use Rattle.relay_disk.specs.Device.{DiskWords}
use Rattle.relay_slots.specs.Slots.{slot_at}
use Rattle.relay_book.specs.declared.change.Change.{Change}
use Rattle.relay_connections.specs.Carried.{Beginning, Setting, beginning_or}
use Rattle.relay_connections.specs.Matched.{AreMatched, Opens}
use Rattle.relay_connections.specs.Served.{AreServed, AreServedAfter, LeavesClients, opened}
use Rattle.relay_connections.specs.Readiness.{clients_of}
use Rattle.relay_connections.specs.Welcome.{IsRefusedFor}
use Rattle.relay_connections.specs.declared.client.Client.{Client}
use Rattle.relay_connections.specs.declared.clients.Clients.{Clients}
use Rattle.relay_log.specs.declared.client_line.Refusal.{Refusal}
use Rattle.relay_connections.proofs.Theorems.{left_are_served, served_are_matched, served_goes_on}
use Rattle.relay_loop.specs.Relay.{RelayState}
use Rattle.relay_run.specs.Serving.{AreServedOn, AreServedWithMore}

-- a client from before has the start that it had
starts_still : {S : Type 0} (remaining contents : S → Option (List ℕ)) (slot : Option (Box (Client S) Global)) (before : Beginning) (address : List ℕ) (stream : S) → slot ≢ None
    → beginning_or remaining contents slot before address stream ≡ before
starts_still remaining contents None before address stream stands = absurd (stands refl)
starts_still remaining contents (Some client) before address stream stands = refl

module _ {D S : Type 0} (honest : Type 0) (words : DiskWords D) (remaining contents : S → Option (List ℕ)) where
  abbrev pub Table : Type 0
  Table = List (Option (Box (Client S) Global))

  -- no client came
  pub more_none : (changes : List Change) (setting : Setting) (clients later : Table) (relay after : RelayState D) → later ≡ clients → after ≡ relay → AreServed honest words remaining contents changes setting clients relay
      → AreServedWithMore honest words remaining contents changes setting clients later after
  more_none changes setting clients later relay after same alike served = record {
    later = setting;
    keeps = record { setups = refl; starts = λ number stands. refl };
    stand = λ number stands. ap (λ (table : Table). slot_at table number) same;
    served = subst (λ (table : Table). AreServed honest words remaining contents changes setting table after) (sym same)
        (subst (λ (it : RelayState D). AreServed honest words remaining contents changes setting clients it) (sym alike) served);
  }

  -- one client came
  pub more_one : (changes : List Change) (setting : Setting) (clients later : Table) (relay after : RelayState D) (peer : SocketAddrV4) (stream : S) → (AreMatched clients relay → Opens peer clients later after)
      → AreServed honest words remaining contents changes (opened remaining contents setting clients peer stream) later after → AreServed honest words remaining contents changes setting clients relay
      → AreServedWithMore honest words remaining contents changes setting clients later after
  more_one changes setting clients later relay after peer stream opens now served = record {
    later = opened remaining contents setting clients peer stream;
    keeps = record {
      setups = refl;
      starts = λ number stands. starts_still remaining contents (slot_at clients number) (setting.beginnings number) (ipv4_octets (v4_ip peer)) stream stands;
    };
    stand = (opens (served_are_matched honest words remaining contents changes setting clients relay served)).others;
    served = now;
  }

  -- some clients came, and then others
  pub more_then : (changes : List Change) (setting : Setting) (one two three : Table) (before after : RelayState D) → AreServedWithMore honest words remaining contents changes setting one two before
      → ((setting : Setting) → AreServed honest words remaining contents changes setting two before → AreServedWithMore honest words remaining contents changes setting two three after)
      → AreServedWithMore honest words remaining contents changes setting one three after
  more_then changes setting one two three before after first second =
      let next = second first.later first.served in
      record {
        later = next.later;
        keeps = record {
          setups = next.keeps.setups ∙ first.keeps.setups;
          starts = λ number stands. next.keeps.starts number (λ none. stands (sym (first.stand number stands) ∙ none)) ∙ first.keeps.starts number stands;
        };
        stand = λ number stands. next.stand number (λ none. stands (sym (first.stand number stands) ∙ none)) ∙ first.stand number stands;
        served = next.served;
      }

  -- a call leaves clients alone
  pub left_after : (changes : List Change) (setting : Setting) (clients : Table) (old new : RelayState D) → AreServedAfter honest words remaining contents changes setting clients old → LeavesClients honest words old new
      → AreServedAfter honest words remaining contents changes setting clients new
  left_after changes setting clients old new served leaves =
      served_goes_on honest words remaining contents changes served.added setting clients new
      (left_are_served honest words remaining contents (changes ++ served.added) setting clients old new leaves served.served)

  -- the table and the relay are the same
  pub after_same : (changes : List Change) (setting : Setting) (clients later : Table) (relay after : RelayState D) → later ≡ clients → after ≡ relay → AreServedAfter honest words remaining contents changes setting clients relay
      → AreServedAfter honest words remaining contents changes setting later after
  after_same changes setting clients later relay after same alike served =
      subst (λ (table : Table). AreServedAfter honest words remaining contents changes setting table after) (sym same)
      (subst (λ (it : RelayState D). AreServedAfter honest words remaining contents changes setting clients it) (sym alike) served)

  -- a call follows that serves clients
  pub after_then : (changes : List Change) (setting : Setting) (clients later : Table) (old new : RelayState D) → AreServedAfter honest words remaining contents changes setting clients old
      → ((changes : List Change) → AreServed honest words remaining contents changes setting clients old → AreServedAfter honest words remaining contents changes setting later new)
      → AreServedAfter honest words remaining contents changes setting later new
  after_then changes setting clients later old new served serves =
      served_goes_on honest words remaining contents changes served.added setting later new (serves (changes ++ served.added) served.served)

  -- clients came, and then a call served them
  pub on_then : (changes : List Change) (setting : Setting) (one two three : Table) (before after : RelayState D) → AreServedWithMore honest words remaining contents changes setting one two before
      → ((setting : Setting) → AreServed honest words remaining contents changes setting two before → AreServedAfter honest words remaining contents changes setting three after)
      → AreServedOn honest words remaining contents changes setting one three after
  on_then changes setting one two three before after came serves = record {
    later = came.later;
    keeps = came.keeps;
    served = serves came.later came.served;
  }

  -- a client was welcomed, or turned away for a reason
  pub welcomed : (changes : List Change) (setting : Setting) (old new : Clients S) (before after : RelayState D) (peer : SocketAddrV4) (stream : S) (Told : Refusal → Type 0) (found : Option Refusal)
      → IsRefusedFor (ipv4_octets (v4_ip peer)) old found → IfSome found (λ why. (new ≡ old) × (after ≡ before) × Told why)
      → (IsRefusedFor (ipv4_octets (v4_ip peer)) old None → AreMatched (clients_of old) before → Opens peer (clients_of old) (clients_of new) after)
      → (IsRefusedFor (ipv4_octets (v4_ip peer)) old None → AreServed honest words remaining contents changes (opened remaining contents setting (clients_of old) peer stream) (clients_of new) after)
      → AreServed honest words remaining contents changes setting (clients_of old) before → AreServedWithMore honest words remaining contents changes setting (clients_of old) (clients_of new) after
  welcomed changes setting old new before after peer stream Told None judged refused opens now served =
      more_one changes setting (clients_of old) (clients_of new) before after peer stream (opens judged) (now judged) served
  welcomed changes setting old new before after peer stream Told (Some why) judged refused opens now served =
      more_none changes setting (clients_of old) (clients_of new) before after (ap (λ (it : Clients S). clients_of it) refused.0) refused.1 served

  -- in a call that takes several clients: those so far are served
  abbrev pub ServesMore : Clients S → Clients S → RelayState D → RelayState D → Type 0
  ServesMore first clients start relay = (changes : List Change) (setting : Setting) → AreServed honest words remaining contents changes setting (clients_of first) start
      → AreServedWithMore honest words remaining contents changes setting (clients_of first) (clients_of clients) relay

  pub serves_still : (first clients later : Clients S) (start relay after : RelayState D) → later ≡ clients → after ≡ relay → ServesMore first clients start relay → ServesMore first later start after
  serves_still first clients later start relay after same alike serves =
      subst (λ (it : Clients S). ServesMore first it start after) (sym same) (subst (λ (it : RelayState D). ServesMore first clients start it) (sym alike) serves)

  pub serves_on : (first clients later : Clients S) (start relay after : RelayState D) → ServesMore first clients start relay → ServesMore clients later relay after → ServesMore first later start after
  serves_on first clients later start relay after serves next = λ changes setting served.
      more_then changes setting (clients_of first) (clients_of clients) (clients_of later) relay after (serves changes setting served) (λ setting served. next changes setting served)

  -- nothing happened
  pub after_none : (changes : List Change) (setting : Setting) (clients : Table) (relay : RelayState D) → AreServed honest words remaining contents changes setting clients relay
      → AreServedAfter honest words remaining contents changes setting clients relay
  after_none changes setting clients relay served = record {
    added = [];
    served = subst (λ (list : List Change). AreServed honest words remaining contents list setting clients relay) (sym (append-nil changes)) served;
  }

  pub first_on : {A E : Type 0} (X Y : Type 0) (result : Result A E) → IfOk result (λ _. X × Y) → OnOk result X
  first_on X Y (Ok value) both = both.0
  first_on X Y (Err fault) none = none

  -- clients came, and then calls served them; what follows is a last one
  pub turned : {A E : Type 0} (result : Result A E) (changes : List Change) (setting : Setting) (one two three four : Table) (before between after : RelayState D)
      → AreServedWithMore honest words remaining contents changes setting one two before
      → ((setting : Setting) → AreServed honest words remaining contents changes setting two before → AreServedAfter honest words remaining contents changes setting three between)
      → ((changes : List Change) (setting : Setting) → AreServed honest words remaining contents changes setting three between → OnOk result (AreServedAfter honest words remaining contents changes setting four after))
      → OnOk result (AreServedOn honest words remaining contents changes setting one four after)
  turned (Ok value) changes setting one two three four before between after came serves last =
      on_then changes setting one two four before after came
      (λ setting served. after_then changes setting three four between after (serves setting served) (λ changes served. last changes setting served))
  turned (Err fault) changes setting one two three four before between after came serves last = tt

  -- a last call takes more
  pub serves_last : {A E : Type 0} (result : Result A E) (changes : List Change) (setting : Setting) (first clients later : Clients S) (relay after : RelayState D)
      → AreServedWithMore honest words remaining contents changes setting (clients_of first) (clients_of clients) relay
      → ((setting : Setting) → AreServed honest words remaining contents changes setting (clients_of clients) relay → OnOk result (AreServedWithMore honest words remaining contents changes setting (clients_of clients) (clients_of later) after))
      → OnOk result (AreServedWithMore honest words remaining contents changes setting (clients_of first) (clients_of later) after)
  serves_last (Ok value) changes setting first clients later relay after came more = more_then changes setting (clients_of first) (clients_of clients) (clients_of later) relay after came more
  serves_last (Err fault) changes setting first clients later relay after came more = tt

  -- nothing that concerns clients happened, or a call left them alone
  pub on_left : (changes : List Change) (setting : Setting) (clients later : Table) (old new : RelayState D) → later ≡ clients → LeavesClients honest words old new → AreServed honest words remaining contents changes setting clients old
      → AreServedOn honest words remaining contents changes setting clients later new
  on_left changes setting clients later old new same leaves served = record {
    later = setting;
    keeps = record { setups = refl; starts = λ number stands. refl };
    served = subst (λ (table : Table). AreServedAfter honest words remaining contents changes setting table new) (sym same) (left_are_served honest words remaining contents changes setting clients old new leaves served);
  }

  pub on_same : (changes : List Change) (setting : Setting) (clients : Table) (relay : RelayState D) → AreServed honest words remaining contents changes setting clients relay
      → AreServedOn honest words remaining contents changes setting clients clients relay
  on_same changes setting clients relay served = record {
    later = setting;
    keeps = record { setups = refl; starts = λ number stands. refl };
    served = after_none changes setting clients relay served;
  }

  -- a call follows that keeps the changes
  pub on_kept : (changes : List Change) (setting : Setting) (one two three : Table) (before after : RelayState D) → AreServedOn honest words remaining contents changes setting one two before
      → ((changes : List Change) (setting : Setting) → AreServed honest words remaining contents changes setting two before → AreServed honest words remaining contents changes setting three after)
      → AreServedOn honest words remaining contents changes setting one three after
  on_kept changes setting one two three before after on kept = record {
    later = on.later;
    keeps = on.keeps;
    served = record { added = on.served.added; served = kept (changes ++ on.served.added) on.later on.served.served };
  }

  -- if that returned without a fault
  pub on_kept_ok : {A E : Type 0} (result : Result A E) (changes : List Change) (setting : Setting) (one two three : Table) (before after : RelayState D)
      → AreServedOn honest words remaining contents changes setting one two before
      → ((changes : List Change) (setting : Setting) → AreServed honest words remaining contents changes setting two before → OnOk result (AreServed honest words remaining contents changes setting three after))
      → OnOk result (AreServedOn honest words remaining contents changes setting one three after)
  on_kept_ok (Ok value) changes setting one two three before after on kept = on_kept changes setting one two three before after on kept
  on_kept_ok (Err fault) changes setting one two three before after on kept = tt

  -- the table and the relay are the same
  pub served_same : (changes : List Change) (setting : Setting) (clients later : Table) (relay after : RelayState D) → later ≡ clients → after ≡ relay → AreServed honest words remaining contents changes setting clients relay
      → AreServed honest words remaining contents changes setting later after
  served_same changes setting clients later relay after same alike served =
      subst (λ (table : Table). AreServed honest words remaining contents changes setting table after) (sym same)
      (subst (λ (it : RelayState D). AreServed honest words remaining contents changes setting clients it) (sym alike) served)
