-- What is known of a balancer's connection, as more of its header comes.
use Rattle.std.proofs.Common.{◌≡◌, ◌≢◌, ◌⊎◌, inl, inr, ◌+◌, ◌<◌, ◌≤◌, ℕ, min, List, ◌++◌, Option, None, Some, Box, refl, sym, ap, ◌∙◌, subst, arith}
use Rattle.std.proofs.Math.Nat.{eq-or-lt_of_le}
use Rattle.std.specs.Global.{Global}
use Rattle.std.specs.Io.KnownBytes.{Consumes}
use Rattle.std.specs.declared.net.socket_addr.SocketAddrV4.{SocketAddrV4}
use Rattle.relay_connections.specs.Arrivals.{ClientsFollowHeaders, HasArrived, HasLeft, IsDueAt, IsFault, MayReadOn, OneLeaves, ReadsAreOne, ReadsOn, WaitsOn, Within}
use Rattle.relay_connections.specs.HeaderFront.{Comes, IsPeer}
use Rattle.relay_connections.specs.declared.arrival.Arrival.{Arrival}
use Rattle.relay_connections.specs.declared.arrival.Arrived.{Arrived}
use Rattle.relay_connections.specs.declared.arrival.Arrived.TheVariants.{Client, Refused}
use Rattle.relay_slots.specs.Slots.{OthersStay, slot_at}
use Rattle.relay_log.specs.declared.client_line.HeaderFault.{HeaderFault}
use Rattle.relay_connections.proofs.HeaderFrontLemmas.{comes_on, comes_still}
use Rattle.relay_connections.proofs.LeftLemmas.{below_or_after}

-- a slot in which nothing stands has no deadline
pub within_none : {S : Type 0} (tick : ℕ) (slot : Option (Box (Arrival S) Global)) → ((arrival : Box (Arrival S) Global) → slot ≡ Some arrival → ⊥) → Within tick slot
within_none tick None not = tt
within_none tick (Some arrival) not = absurd (not arrival refl)

-- The next deadline of connections, one slot after another.
module _ {S : Type 0} (arrivals : List (Option (Box (Arrival S) Global))) where
  within_sooner : (tick sooner : ℕ) (slot : Option (Box (Arrival S) Global)) → sooner ≤ tick → Within tick slot → Within sooner slot
  within_sooner tick sooner None below within = tt
  within_sooner tick sooner (Some arrival) below within = omega (arith, below, within)

  pub within_more : (tick sooner number : ℕ) → sooner ≤ tick → ((other : ℕ) → other < number → Within tick (slot_at arrivals other)) → Within sooner (slot_at arrivals number)
      → (other : ℕ) → other < number + 1 → Within sooner (slot_at arrivals other)
  within_more tick sooner number below before here other low = by (eq-or-lt_of_le (omega (arith, low))) where
    by : (other ≡ number) ⊎ (other < number) → Within sooner (slot_at arrivals other)
    by (inl same) = subst (λ (at : ℕ). Within sooner (slot_at arrivals at)) (sym same) here
    by (inr less) = within_sooner tick sooner (slot_at arrivals other) below (before other less)

  pub due_more : (otherwise tick sooner number : ℕ) (arrival : Box (Arrival S) Global) → slot_at arrivals number ≡ Some arrival → sooner ≡ min tick arrival.value.deadline
      → (tick ≡ otherwise) ⊎ IsDueAt tick arrivals → (sooner ≡ otherwise) ⊎ IsDueAt sooner arrivals
  due_more otherwise tick sooner number arrival there is before = by (below_or_after tick arrival.value.deadline) where
    by : (tick < arrival.value.deadline) ⊎ (arrival.value.deadline ≤ tick) → (sooner ≡ otherwise) ⊎ IsDueAt sooner arrivals
    by (inl less) = subst (λ (at : ℕ). (at ≡ otherwise) ⊎ IsDueAt at arrivals) (omega (arith, is, less)) before
    by (inr past) = inr (record { number = number; arrival = arrival; there = there; due = omega (arith, is, past) })

module _ {S : Type 0} (remaining contents : S → Option (List ℕ)) where
  pub reads_on_still : (arrival : Arrival S) → ReadsOn remaining contents arrival arrival
  reads_on_still arrival = record {
    comes = comes_still (remaining arrival.stream) (remaining arrival.stream) arrival.header arrival.header refl refl;
    output = refl;
    balancer = refl;
    deadline = refl;
  }

  pub reads_on_on : (old mid new : Arrival S) → ReadsOn remaining contents old mid → ReadsOn remaining contents mid new → ReadsOn remaining contents old new
  reads_on_on old mid new first second = record {
    comes = comes_on (remaining old.stream) (remaining mid.stream) (remaining new.stream) old.header mid.header new.header first.comes second.comes;
    output = second.output ∙ first.output;
    balancer = second.balancer ∙ first.balancer;
    deadline = second.deadline ∙ first.deadline;
  }

  -- what comes of a connection later comes of it now
  pub arrived_on : (tick : ℕ) (old new : Arrival S) (arrived : Arrived S) → ReadsOn remaining contents old new → HasArrived remaining contents tick new arrived → HasArrived remaining contents tick old arrived
  arrived_on tick old new (Client stream peer) goes is = record {
    header = is.header;
    source = is.source;
    comes = comes_on (remaining old.stream) (remaining new.stream) (remaining stream) old.header new.header is.header goes.comes is.comes;
    is_header = is.is_header;
    peer_is = subst (λ balancer. IsPeer is.source balancer peer) goes.balancer is.peer_is;
    output = is.output ∙ goes.output;
  }
  arrived_on tick old new (Refused balancer fault) goes is = record {
    octets = is.octets;
    left = is.left;
    comes = comes_on (remaining old.stream) (remaining new.stream) is.left old.header new.header is.octets goes.comes is.comes;
    fault_is = subst (λ (deadline : ℕ). IsFault tick deadline is.octets fault) goes.deadline is.fault_is;
    balancer_is = is.balancer_is ∙ goes.balancer;
  }

  -- a connection fails by what was read of it
  pub fails : (tick : ℕ) (arrival : Arrival S) (fault : HeaderFault) → IsFault tick arrival.deadline arrival.header fault → HasArrived remaining contents tick arrival (Refused arrival.balancer fault)
  fails tick arrival fault is = record {
    octets = arrival.header;
    left = remaining arrival.stream;
    comes = comes_still (remaining arrival.stream) (remaining arrival.stream) arrival.header arrival.header refl refl;
    fault_is = is;
    balancer_is = refl;
  }

  -- a slot may stay as it is, or wait on
  pub may_stay : (slot : Option (Box (Arrival S) Global)) → MayReadOn remaining contents slot slot
  may_stay None = refl
  may_stay (Some arrival) = reads_on_still arrival.value

  pub may_wait : (tick : ℕ) (old new : Option (Box (Arrival S) Global)) → WaitsOn remaining contents tick old new → MayReadOn remaining contents old new
  may_wait tick None new waits = waits
  may_wait tick (Some arrival) None waits = waits
  may_wait tick (Some arrival) (Some later) waits = waits.0

  -- Of those before a connection that has left its slot each waits on, and those after it are as they were.
  pub one_leaves : (tick number : ℕ) (first old new : List (Option (Box (Arrival S) Global))) (arrived : Arrived S)
      → ((other : ℕ) → other < number → WaitsOn remaining contents tick (slot_at first other) (slot_at old other))
      → ((other : ℕ) → number ≤ other → slot_at old other ≡ slot_at first other)
      → OthersStay old new number → HasLeft remaining contents tick number old new arrived
      → OneLeaves remaining contents tick first new arrived
  one_leaves tick number first old new arrived done left others has = record {
    number = number;
    left = record {
      arrival = has.arrival;
      there = sym (left number (omega arith)) ∙ has.there;
      gone = has.gone;
      has = has.has;
    };
    others = λ other apart. by other apart (below_or_after other number);
  } where
    by : (other : ℕ) → other ≢ number → (other < number) ⊎ (number ≤ other) → MayReadOn remaining contents (slot_at first other) (slot_at new other)
    by other apart (inl below) =
        subst (λ (slot : Option (Box (Arrival S) Global)). MayReadOn remaining contents (slot_at first other) slot) (sym (others other apart))
        (may_wait tick (slot_at first other) (slot_at old other) (done other below))
    by other apart (inr after) =
        subst (λ (slot : Option (Box (Arrival S) Global)). MayReadOn remaining contents (slot_at first other) slot) (sym (others other apart ∙ left other after))
        (may_stay (slot_at first other))

  pub reads_are_one : ReadsAreOne remaining contents
  reads_are_one = record {
    again = reads_on_on;
    noted = λ reads one two noted. record {
      comes = comes_still (remaining one.stream) (remaining two.stream) one.header two.header (ap remaining noted.stream) noted.header;
      output = ap contents noted.stream;
      balancer = noted.balancer;
      deadline = noted.deadline;
    };
  }

  -- of what a connection gave from its beginning the header is all
  pub clients_follow_headers : ClientsFollowHeaders remaining contents
  clients_follow_headers = λ begun stream balancer peer tick first last new reads client.
      let whole : Comes (remaining first.stream) (remaining stream) first.header client.header =
      comes_on (remaining first.stream) (remaining last.stream) (remaining stream) first.header last.header client.header reads.comes client.comes in
      let all : client.header ≡ whole.came = whole.octets ∙ ap (λ (front : List ℕ). front ++ whole.came) new.header in
      record {
        header = client.header;
        source = client.source;
        is_header = client.is_header;
        input = subst (λ (input : Option (List ℕ)). Consumes input (remaining stream) client.header) new.input (subst (λ (octets : List ℕ). Consumes (remaining first.stream) (remaining stream) octets) (sym all) whole.stream);
        output = client.output ∙ reads.output ∙ new.output;
        peer_is = subst (λ (own : SocketAddrV4). IsPeer client.source own peer) (reads.balancer ∙ new.balancer_is) client.peer_is;
      }
