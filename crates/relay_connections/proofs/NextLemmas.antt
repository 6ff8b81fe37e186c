-- What the relay has of a client, whose connection is to become this.
use Rattle.std.proofs.Common.{◌≡◌, ◌≢◌, ◌↔◌, inl, inr, ℕ, Bool, false, List, [], ◌∷◌, Option, None, Some, Box, Result, Ok, Err, IfOk, IsTrue, refl, sym, ap, ◌∙◌, subst}
use Rattle.std.specs.Global.{Global}
use Rattle.relay_book.specs.declared.change.Change.{Change}
use Rattle.relay_records.specs.declared.fault.NodeFault.{NodeFault}
use Rattle.relay_loop.specs.declared.clients.Heard.{Heard}
use Rattle.relay_loop.specs.Relay.{RelayState}
use Rattle.relay_loop.specs.Closing.{closing_of}
use Rattle.relay_loop.specs.declared.closing.Closing.{Closing}
use Rattle.relay_loop.specs.declared.closing.Closing.TheVariants.{Stopping, Timeout, TooMany}
use Rattle.relay_loop.specs.Outboxes.{octets_of, unwritten_at}
use Rattle.relay_server.specs.Setup.{Setup}
use Rattle.relay_connections.specs.Carried.{Carries, CarriesLast, IsLastLine, Setting, setup_at}
use Rattle.relay_connections.specs.Channel.{KeepsOutput, held_of}
use Rattle.relay_connections.specs.Exchange.{HandsAndReads, IsHanded, IsRead, Uses}
use Rattle.relay_connections.specs.Matched.{IsFreed}
use Rattle.relay_connections.proofs.CarriedLemmas.{carries_on, keeps_output, last_on, uses_heard}
use Rattle.relay_connections.proofs.ServedLemmas.{dialogue_of, frees, rest_of_outbox, setup_is_at, works_on}
use Rattle.relay_connections.specs.Served.{HasAnswered, HasEnded, HasHeard, HasNext, HasSession, IsUnused, Serves, StaysOrEnds, StaysSaid, WorksWith, address_of}
use Rattle.relay_connections.specs.Sessions.{EndsCut, EndsFor, IsCutFor, IsCutOff, IsCutOffAfter}
use Rattle.relay_connections.specs.declared.channel.Channel.{Channel}
use Rattle.relay_connections.specs.declared.client.Client.{Client}
use Rattle.relay_connections.specs.declared.clients.Clients.{Clients}
use Rattle.relay_connections.specs.declared.client.Next.{Next}
use Rattle.relay_connections.specs.declared.client.Next.TheVariants.{Stays, Leaves, Gone}

module _ {D S : Type 0} (remaining contents : S → Option (List ℕ)) (changes : List Change) (setting : Setting) (relay : RelayState D) (number : ℕ) where
  -- it stays, and stands in the slot
  pub next_stays : (client : Box (Client S) Global) (slot : Option (Box (Client S) Global)) (next : Next) → next ≡ Stays → slot ≡ Some client
      → HasNext remaining contents changes setting relay number (address_of client.value) client.value.channel next → Serves remaining contents changes setting relay number slot
  next_stays client slot next is there has =
      subst (λ (slot : Option (Box (Client S) Global)). Serves remaining contents changes setting relay number slot) (sym there)
      (subst (λ (next : Next). HasNext remaining contents changes setting relay number (address_of client.value) client.value.channel next) is has)

  -- it leaves, and the slot is free
  pub next_leaves : (address : List ℕ) (channel : Channel S) (slot : Option (Box (Client S) Global)) (next : Next) (last : List ℕ) → next ≡ Leaves last → slot ≡ None
      → HasNext remaining contents changes setting relay number address channel next
      → Serves remaining contents changes setting relay number slot × CarriesLast remaining contents (setup_at setting number) (setting.beginnings number) 0 channel last
  next_leaves address channel slot next last is free has =
      let ended = subst (λ (next : Next). HasNext remaining contents changes setting relay number address channel next) is has in
      (subst (λ (slot : Option (Box (Client S) Global)). Serves remaining contents changes setting relay number slot) (sym free) ended.unused, ended.ends)

  -- it is gone, and the slot is free
  pub next_gone : (address : List ℕ) (channel : Channel S) (slot : Option (Box (Client S) Global)) (next : Next) → next ≡ Gone → slot ≡ None
      → HasNext remaining contents changes setting relay number address channel next → Serves remaining contents changes setting relay number slot
  next_gone address channel slot next is free has =
      subst (λ (slot : Option (Box (Client S) Global)). Serves remaining contents changes setting relay number slot) (sym free)
      (subst (λ (next : Next). HasNext remaining contents changes setting relay number address channel next) is has)

-- the answer to octets of a client, and what was made of it
module _ {D S : Type 0} (remaining contents : S → Option (List ℕ)) (changes : List Change) (setting : Setting) (old new : RelayState D) (number : ℕ) (client : Box (Client S) Global) (after : Channel S)
    (heard : Result Heard NodeFault) (next : Next)
    (uses : (one : Heard) → heard ≡ Ok one → Uses remaining one.used client.value.channel after)
    (stays : (one : Heard) → heard ≡ Ok one → one.last ≡ None → (next ≡ Stays) × IsHanded remaining contents number old new client.value.channel after)
    (said : (one : Heard) → heard ≡ Ok one → one.last ≡ None → StaysSaid number old new)
    (leaves : (one : Heard) (last : List ℕ) → heard ≡ Ok one → one.last ≡ Some last → (next ≡ Leaves last) × (new ≡ old) × KeepsOutput remaining contents client.value.channel after)
    (gone : (fault : NodeFault) → heard ≡ Err fault → (next ≡ Gone) × (new ≡ old)) where
  pub answer_next : HasAnswered remaining contents changes setting old number (Some client) heard
      → HasNext remaining contents changes setting new number (address_of client.value) after next
  answer_next has = by heard refl has where
    address : List ℕ
    address = address_of client.value

    before : Channel S
    before = client.value.channel

    unused : new ≡ old → IsUnused old number → IsUnused new number
    unused same was = subst (λ (relay : RelayState D). IsUnused relay number) (sym same) was

    by_last : (one : Heard) → heard ≡ Ok one → (last : Option (List ℕ)) → one.last ≡ last → HasHeard remaining contents changes setting old number (Some client) one.used last
        → HasNext remaining contents changes setting new number address after next
    by_last one is None none session =
        let so = stays one is none in
        let later : HasSession remaining contents changes setting new number 0 address after = record {
          address_is = session.address_is;
          said = session.said;
          has_said = said one is none changes address session.said session.has_said;
          carries = carries_on remaining contents (setting.beginnings number) one.used 0 before after session.said (unwritten_at old.clients number) (unwritten_at new.clients number)
              (uses_heard remaining contents one.used before after (uses one is)) so.1.said session.carries;
        } in
        subst (λ (next : Next). HasNext remaining contents changes setting new number address after next) (sym so.0) later
    by_last one is (Some last) some ended =
        let so = leaves one last is some in
        let later : HasEnded remaining contents changes setting new number 0 after last = record {
          unused = unused so.1 ended.unused;
          ends = last_on remaining contents (setup_at setting number) (setting.beginnings number) one.used 0 before after last (uses_heard remaining contents one.used before after (uses one is))
              (λ waiting. keeps_output remaining contents before after waiting so.2) ended.ends;
        } in
        subst (λ (next : Next). HasNext remaining contents changes setting new number address after next) (sym so.0) later

    by : (its : Result Heard NodeFault) → heard ≡ its → HasAnswered remaining contents changes setting old number (Some client) its
        → HasNext remaining contents changes setting new number address after next
    by (Ok one) is answered = by_last one is one.last refl answered
    by (Err fault) is was =
        let so = gone fault is in
        subst (λ (next : Next). HasNext remaining contents changes setting new number address after next) (sym so.0) (unused so.1 was)

  pub answer_works : WorksWith setting.setups old → WorksWith setting.setups new
  answer_works works = by heard refl where
    same : new ≡ old → WorksWith setting.setups new
    same is = subst (λ (relay : RelayState D). WorksWith setting.setups relay) (sym is) works

    by_last : (one : Heard) → heard ≡ Ok one → (last : Option (List ℕ)) → one.last ≡ last → WorksWith setting.setups new
    by_last one is None none = works_on setting.setups number old new (rest_of_outbox number old new ((stays one is none).1.outbox)) works
    by_last one is (Some last) some = same ((leaves one last is some).1)

    by : (its : Result Heard NodeFault) → heard ≡ its → WorksWith setting.setups new
    by (Ok one) is = by_last one is one.last refl
    by (Err fault) is = same ((gone fault is).1)

-- a client that is cut off
module _ {D S : Type 0} (remaining contents : S → Option (List ℕ)) (changes : List Change) (setting : Setting) (old new : RelayState D) (number : ℕ) (address : List ℕ) (channel : Channel S)
    (works : WorksWith setting.setups old) (session : HasSession remaining contents changes setting old number 0 address channel) (freed : IsFreed number old new) where
  unused_late : IsUnused new number
  unused_late = frees changes old new number address session.said works.live session.has_said freed

  -- it takes nothing
  pub gone_late : (result : Result Next NodeFault) → IfOk result (λ next. next ≡ Gone) → IfOk result (HasNext remaining contents changes setting new number address channel)
  gone_late (Ok next) is = subst (λ (next : Next). HasNext remaining contents changes setting new number address channel next) (sym is) unused_late
  gone_late (Err fault) is = tt

  -- it is told so
  last_line : (why : Closing) → why ≢ TooMany → (host last : List ℕ) → last ≡ closing_of host why → IsLastLine host last
  last_line Timeout other host last line = inl line
  last_line Stopping other host last line = inr line
  last_line TooMany other host last line = absurd (other refl)

  pub cut_late : (why : Closing) → why ≢ TooMany → (result : Result Next NodeFault) → IfOk result (IsCutOff old number why) → IfOk result (HasNext remaining contents changes setting new number address channel)
  cut_late why other (Ok Stays) cut = absurd cut
  cut_late why other (Ok (Leaves last)) (none, line) = record {
    unused = unused_late;
    ends = record {
      said = session.said;
      dialogue = dialogue_of changes setting old number address session.said works.setups_are session.address_is session.has_said;
      carries = inr (
        subst (λ (waiting : List ℕ). Carries remaining contents (setting.beginnings number) 0 channel session.said waiting) (ap octets_of none) session.carries,
        last_line why other (setup_at setting number).host last
            (line ∙ ap (λ (setup : Setup). closing_of setup.host why) (setup_is_at setting old number address works.setups_are session.address_is)),
      );
    };
  }
  cut_late why other (Ok Gone) cut = unused_late
  cut_late why other (Err fault) cut = tt

pub nothing_held : (octets : List ℕ) (is : Bool) → IsTrue is ↔ (octets ≢ []) → is ≡ false → octets ≡ []
nothing_held [] is tells none = refl
nothing_held (octet ∷ octets) is tells none = absurd (cc (sym none ∙ tells.1 (λ same. absurd (cc same))))

-- a client that is told why it is cut off
pub told_late : {D S : Type 0} (old : RelayState D) (number : ℕ) (channel : Channel S) (why : Closing) (result : Result Next NodeFault) → held_of channel ≡ []
    → IfOk result (IsCutOff old number why) → IfOk result (IsCutOffAfter old number channel why)
told_late old number channel why (Ok Stays) held cut = absurd cut
told_late old number channel why (Ok (Leaves last)) held cut = (held, cut)
told_late old number channel why (Ok Gone) held cut = tt
told_late old number channel why (Err fault) held cut = tt

-- a client that was to stay, after it was considered whether to cut it off
pub ends_cut : {D S : Type 0} (clients : Clients S) (old : RelayState D) (session : ℕ) (client : Client S) (tick : ℕ) (next : Next) (why : Option Closing) (result : Result Next NodeFault) → next ≡ Stays
    → IsCutFor clients old session client tick why → IfOk result (EndsFor old session client.channel why) → IfOk result (EndsCut clients old session client tick next)
ends_cut clients old session client tick next why (Ok later) is cut ends = subst (λ (next : Next). EndsCut clients old session client tick next later) (sym is) (why, cut, ends)
ends_cut clients old session client tick next why (Err fault) is cut ends = tt

-- a client that was not to stay
pub ends_same : {D S : Type 0} (clients : Clients S) (old : RelayState D) (session : ℕ) (client : Client S) (tick : ℕ) (next : Next) → (next ≡ Stays → ⊥) → EndsCut clients old session client tick next next
ends_same clients old session client tick Stays not = absurd (not refl)
ends_same clients old session client tick (Leaves last) not = refl
ends_same clients old session client tick Gone not = refl

-- nobody stands under the number
module _ {D S : Type 0} (remaining contents : S → Option (List ℕ)) (changes : List Change) (setting : Setting) (relay : RelayState D) (number : ℕ) where
  pub serves_none : (taken slot later : Option (Box (Client S) Global)) → taken ≡ slot → ((value : Box (Client S) Global) → taken ≡ Some value → ⊥) → later ≡ None
      → Serves remaining contents changes setting relay number slot → Serves remaining contents changes setting relay number later
  serves_none None slot later is nothing free serves =
      subst (λ (slot : Option (Box (Client S) Global)). Serves remaining contents changes setting relay number slot) (sym free)
      (subst (λ (slot : Option (Box (Client S) Global)). Serves remaining contents changes setting relay number slot) (sym is) serves)
  serves_none (Some client) slot later is nothing free serves = absurd (nothing client refl)

  unused_none : (heard : Result Heard NodeFault) → HasAnswered remaining contents changes setting relay number None heard → IsUnused relay number
  unused_none (Ok heard) unused = unused
  unused_none (Err fault) unused = unused

  pub answered_none : (heard : Result Heard NodeFault) (taken slot later : Option (Box (Client S) Global)) → taken ≡ slot → ((value : Box (Client S) Global) → taken ≡ Some value → ⊥) → later ≡ None
      → HasAnswered remaining contents changes setting relay number slot heard → Serves remaining contents changes setting relay number later
  answered_none heard None slot later is nothing free answered =
      subst (λ (slot : Option (Box (Client S) Global)). Serves remaining contents changes setting relay number slot) (sym free)
      (unused_none heard (subst (λ (slot : Option (Box (Client S) Global)). HasAnswered remaining contents changes setting relay number slot heard) (sym is) answered))
  answered_none heard (Some client) slot later is nothing free answered = absurd (nothing client refl)

-- a client that is to be heard
pub read_none : {D S : Type 0} (remaining contents : S → Option (List ℕ)) (number : ℕ) (old new : RelayState D) (before after : Channel S) (next : Option Next)
    → IsRead remaining contents number old new before after next → ((value : Next) → next ≡ Some value → ⊥) → HandsAndReads remaining contents number old new before after
read_none remaining contents number old new before after None read nothing = read.0
read_none remaining contents number old new before after (Some next) read nothing = absurd (nothing next refl)

pub stays_none : {D : Type 0} (number : ℕ) (old new : RelayState D) (next : Option Next) → StaysOrEnds number old new next → ((value : Next) → next ≡ Some value → ⊥) → StaysSaid number old new
stays_none number old new None stays nothing = stays
stays_none number old new (Some next) stays nothing = absurd (nothing next refl)
