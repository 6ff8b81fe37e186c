-- A node that hears octets of a link: what its call, and what was put after it, make of the relays.
use Rattle.std.proofs.Common.{inl, inr, ◌≡◌, ◌<◌, ◌≤◌, ◌+◌, ◌-◌, ℕ, Bool, true, false, List, ◌++◌, length, take, drop, Option, None, Some, refl, sym, subst, ap, ◌∙◌, arith, length-drop}
use Rattle.std.specs.Prelude.{slice_set}
use Rattle.std.specs.Option.{option_map}
use Rattle.std.proofs.lemmas.List.{append-nil, length-set, length-take}
use Rattle.std.proofs.lemmas.Option.{same_Some}
use Rattle.relay_disk.specs.Device.{DiskWords}
use Rattle.relay_node.specs.declared.receive.Received.{Received}
use Rattle.relay_node.specs.Node.{NodeState}
use Rattle.relay_records.specs.declared.fault.NodeFault.{NodeFault}
use Rattle.relay_world.specs.declared.line.Line.{Line}
use Rattle.relay_world.specs.declared.link.Link.{Link}
use Rattle.relay_world.specs.declared.link.ServerEnd.{ServerEnd}
use Rattle.relay_world.specs.HangUp.{broken_link}
use Rattle.relay_world.specs.Once.{BreaksOff, Ends as EndsEvent, Hears as HearsEvent}
use Rattle.relay_world.specs.Steps.{Breaks, EndsSession, HasHeard, IsPut, IsPutAt, SessionOf, heard_link, session_after, unless_broken, waiting_up}
use Rattle.relay_world.specs.World.{Host, World, link_at}
use Rattle.relay_hosts.specs.declared.calls.Heard.TheVariants.{Done, Gone, NoRoom}
use Rattle.relay_events.specs.declared.fault.PairFault.TheVariants as fault
use Rattle.relay_hosts.specs.declared.recorded.Recorded.{Recorded}
use Rattle.relay_events.specs.declared.seen.Seen.TheVariants as seen
use Rattle.relay_hosts.specs.Call.{Hears, LosesSession, NotesChange}
use Rattle.relay_events.specs.Hear.{IsCalledToHear, MayRead, TakesHeard, WaitsAt, world_heard}
use Rattle.relay_hosts.specs.Heard.{accept_lines, cut_off, end_after, heard_on}
use Rattle.relay_events.specs.Happened.{HasHappened}
use Rattle.relay_events.specs.Relays.{AreBound}
use Rattle.relay_hosts.specs.Room.{HasRoom, HasRoomFor, lines_held, lines_left, lines_to_come}
use Rattle.relay_events.specs.Step.{Carries, Did, Hears as HearsOctets, HearsUnanswered, Refuses, RefusesToHear, Shows, fault_of}
use Rattle.relay_hosts.specs.Links.{waits_up}
use Rattle.relay_events.proofs.EndLemmas.{served_by}
use Rattle.relay_events.proofs.EventLemmas.{LedgerHeard, heard, session_ended}
use Rattle.relay_events.proofs.PlaceLemmas.{link_put, set_same, value_put}
use Rattle.relay_events.proofs.ReopenLemmas.{held_put}
use Rattle.relay_events.proofs.RunLemmas.{both_happened, one_happened}

pub ledger_heard : {D : Type 0} (honest : Type 0) (words : DiskWords D) (old new : World D) (node number : ℕ) (change : Option ℕ)
    (recorded : Option Recorded) → new.ledger ≡ old.ledger ++ accept_lines node number change recorded
    → LedgerHeard honest words old new node number change recorded
ledger_heard honest words old new node number None recorded is = is ∙ append-nil old.ledger
ledger_heard honest words old new node number (Some change) None is = is ∙ append-nil old.ledger
ledger_heard honest words old new node number (Some change) (Some recorded) is = is

end_is : (end : ServerEnd) (session : ℕ) → end.session ≡ Some session → (close : Bool)
    → end_after close end ≡ record end { session = session_after close session }
end_is end session goes_on true = refl
end_is end session goes_on false = ap (λ (s : Option ℕ). let is : ServerEnd = record end { session = s } in is) goes_on

pub heard_is : (link : Link) (end : ServerEnd) (session : ℕ) → link.server ≡ Some end → end.session ≡ Some session
    → (received : Received) → heard_on link received ≡ heard_link link end session received
heard_is link end session serves goes_on received =
    ap (λ (s : Option ServerEnd). let moved : Link = record link {
      server = s;
      up_read = link.up_read + received.used;
      down = link.down ++ unless_broken link received.out.items;
    } in moved) (ap (option_map (end_after received.close)) serves ∙ ap Some (end_is end session goes_on received.close))

module _ {D : Type 0} (honest : Type 0) (words : DiskWords D) (old : World D) (number count : ℕ) (of : SessionOf old number)
    (now : Host D) where
  pub host_put : IsPut old.hosts (slice_set old.hosts of.end.node now) of.end.node now
  host_put = value_put old.hosts of.end.node of.host now of.host_at

  pub as_many : length (slice_set old.hosts of.end.node now) ≡ length old.hosts
  as_many = length-set old.hosts of.end.node now

  pub link_moved : (moved : Link) → IsPutAt old.links (slice_set old.links (number - 1) moved) number moved
  link_moved moved = link_put old.links number of.link moved of.link_is

  -- one link is put at the place of another
  pub moved_on : (one other : Link)
      → IsPutAt (slice_set old.links (number - 1) one) (slice_set old.links (number - 1) other) number other
  moved_on one other =
      let one_long = length-set old.links (number - 1) one in
      let other_long = length-set old.links (number - 1) other in
      record {
        at = (link_moved other).at;
        others = λ place off. (link_moved other).others place off ∙ sym ((link_moved one).others place off);
        grows = omega (arith, one_long, other_long);
      }

  -- the world after the call, with this link, and lines in the ledger
  abbrev pub called_world : Link → List Line → World D
  called_world moved lines = record old {
    hosts = slice_set old.hosts of.end.node now;
    links = slice_set old.links (number - 1) moved;
    ledger = old.ledger ++ lines;
  }

  abbrev pub has_heard : (received : Received) (recorded : Option Recorded)
      → Hears honest words old.clock of.host now of.session (waiting_up count of.link) received recorded
      → HasHeard honest words old
      (called_world (heard_on of.link received) (accept_lines of.end.node number received.change recorded)) number count
  has_heard received recorded hears =
      let moved = heard_on of.link received in
      let new : World D = called_world moved (accept_lines of.end.node number received.change recorded) in
      heard honest words old new number count of now received recorded hears host_put
      (subst (λ l. IsPutAt old.links (slice_set old.links (number - 1) moved) number l)
      (heard_is of.link of.end of.session of.serves of.goes_on received) (link_moved moved))
      (ledger_heard honest words old new of.end.node number received.change recorded refl) (refl, refl, as_many)

  -- the world in which the link broke before
  abbrev pub broken_world : World D
  broken_world = record old { links = slice_set old.links (number - 1) (broken_link of.link) }

  pub breaks_off : Breaks old broken_world number
  breaks_off = record {
    link = of.link;
    link_is = of.link_is;
    links = slice_set old.links (number - 1) (broken_link of.link);
    put = link_moved (broken_link of.link);
    new_is = refl;
  }

  abbrev pub of_broken : SessionOf broken_world number
  of_broken = record {
    link = broken_link of.link;
    link_is = (link_moved (broken_link of.link)).at;
    end = of.end;
    serves = of.serves;
    session = of.session;
    goes_on = of.goes_on;
    host = of.host;
    host_at = of.host_at;
    before = of.before;
    up = of.up;
  }

  abbrev pub has_heard_broken : (received : Received) (recorded : Option Recorded)
      → Hears honest words old.clock of.host now of.session (waiting_up count of.link) received recorded
      → HasHeard honest words broken_world
      (called_world (heard_on (broken_link of.link) received) (accept_lines of.end.node number received.change recorded)) number
      count
  has_heard_broken received recorded hears =
      let moved = heard_on (broken_link of.link) received in
      let new : World D = called_world moved (accept_lines of.end.node number received.change recorded) in
      heard honest words broken_world new number count of_broken now received recorded hears host_put
      (subst
      (λ l. IsPutAt (slice_set old.links (number - 1) (broken_link of.link)) (slice_set old.links (number - 1) moved) number l)
      (heard_is (broken_link of.link) of.end of.session of.serves of.goes_on received) (moved_on (broken_link of.link) moved))
      (ledger_heard honest words broken_world new of.end.node number received.change recorded refl) (refl, refl, as_many)

  -- the session is gone, and then the link breaks
  abbrev gone_link : Link
  gone_link = record of.link { server = Some (record of.end { session = None }) }

  abbrev pub gone_world : World D
  gone_world = record old {
    hosts = slice_set old.hosts of.end.node now;
    links = slice_set old.links (number - 1) gone_link;
  }

  abbrev pub session_gone : LosesSession of.host now of.session → EndsSession old gone_world number
  session_gone loses =
      session_ended honest words old gone_world number of now loses host_put (link_moved gone_link) (refl, refl, refl, as_many)

  abbrev pub cut_world : World D
  cut_world = record old {
    hosts = slice_set old.hosts of.end.node now;
    links = slice_set old.links (number - 1) (cut_off of.link);
  }

  cut_is : cut_off of.link ≡ record gone_link { broken = true }
  cut_is =
      ap (λ (s : Option ServerEnd). let cut : Link = record of.link { server = s; broken = true } in cut)
      (ap (option_map (end_after true)) of.serves)

  pub gone_breaks : Breaks gone_world cut_world number
  gone_breaks = record {
    link = gone_link;
    link_is = (link_moved gone_link).at;
    links = slice_set old.links (number - 1) (cut_off of.link);
    put = subst
        (λ l. IsPutAt (slice_set old.links (number - 1) gone_link) (slice_set old.links (number - 1) (cut_off of.link)) number l)
        cut_is (moved_on gone_link (cut_off of.link));
    new_is = refl;
  }

  -- a node that is up holds no lines of the ledger
  up_after : (after : NodeState D) (change : Option ℕ) (recorded : Option Recorded)
      → NotesChange of.host now after change recorded → lines_held of.end.node now.state ≡ 0
  up_after after None None is = ap (λ (h : Host D). lines_held of.end.node h.state) is
  up_after after None (Some recorded) never = absurd never
  up_after after (Some change) None never = absurd never
  up_after after (Some change) (Some recorded) notes = ap (λ (h : Host D). lines_held of.end.node h.state) notes.new_is

  lines_same : lines_held of.end.node now.state ≡ 0
      → lines_left 0 (slice_set old.hosts of.end.node now) ≡ lines_left 0 old.hosts
  lines_same none_now =
      let put = held_put old.hosts of.end.node 0 of.end.node of.host now (omega arith) of.host_at in
      let none : lines_held of.end.node of.host.state ≡ 0 = ap (λ h. lines_held of.end.node h) of.up in
      omega (arith, put, none, none_now)

module _ {D : Type 0} (honest : Type 0) (words : DiskWords D) (old called : World D) (number node count : ℕ)
    (waits : WaitsAt old number node) where
  pub its_node : (of : SessionOf old number) → of.end.node ≡ node
  its_node of = served_by old number node of waits.link waits.link_is waits.serves

  its_link : (of : SessionOf old number) → of.link ≡ waits.link
  its_link of = same_Some of.link waits.link (sym of.link_is ∙ waits.link_is)

  pub waits_there : (of : SessionOf old number) → waits_up of.link ≡ true
  waits_there of = ap waits_up (its_link of) ∙ waits.waits

  -- octets were heard
  module _ (received : Received) (recorded : Option Recorded)
      (calls : IsCalledToHear honest words old called number count (Done received recorded)) where
    pub may_read : AreBound honest words old → MayRead called number received.used
    may_read bound =
        let of = calls.of in
        let used = calls.hears.used in
        let reads = (bound.bound.reads number of.link of.link_is).up in
        record {
          link = of.link;
          link_is = ap (λ (w : World D). link_at w.links number) calls.new_is ∙ of.link_is;
          whole = ap (λ (l : Link). l.broken) (its_link of) ∙ waits.whole;
          within = used_within of.link.up of.link.up_read received.used used reads;
        }
      where
        used_within : (octets : List ℕ) (read used : ℕ) → used ≤ length (take count (drop read octets)) → read ≤ length octets
            → read + used ≤ length octets
        used_within octets read used fits reads =
            let some = length-take count (drop read octets) in
            let rest = length-drop read octets in
            omega (arith, fits, reads, some, rest)

    module _ (new : World D) (did : Did) (takes : TakesHeard called new number node received recorded did) where
      same_link : takes.link ≡ calls.of.link
      same_link =
          same_Some takes.link calls.of.link
          (sym takes.link_is ∙ ap (λ (w : World D). link_at w.links number) calls.new_is ∙ calls.of.link_is)

      -- the world that was made, with this link
      made : (change : Link → Link) → new ≡ world_heard called number node (change takes.link) received recorded
          → new ≡ called_world honest words old number count calls.of calls.now (heard_on (change calls.of.link) received)
          (accept_lines calls.of.end.node number received.change recorded)
      made change is =
          is
          ∙ ap (λ (w : World D). world_heard w number node (change takes.link) received recorded) calls.new_is
          ∙ ap (λ (l : Link). world_heard (record old { hosts = slice_set old.hosts calls.of.end.node calls.now }) number node
          (change l) received recorded) same_link
          ∙ ap (λ (n : ℕ). world_heard (record old { hosts = slice_set old.hosts calls.of.end.node calls.now }) number n
          (change calls.of.link) received recorded) (sym (its_node calls.of))

      heard_of : new ≡ world_heard called number node takes.link received recorded → HasHeard honest words old new number count
      heard_of is = subst (λ w. HasHeard honest words old w number count) (sym (made (λ l. l) is))
          (has_heard honest words old number count calls.of calls.now received recorded calls.hears)

      pub heard_carries : Carries honest words old number node count new did
      heard_carries = elim takes.takes [
        | inl written ↦ subst (λ d. Carries honest words old number node count new d) (sym written.1)
            (subst
            (λ w. Carries honest words old number node count w
            (Shows (seen.Carried received.used (length received.out.items) received.change received.close)))
            (sym (made (λ l. l) written.0))
            (HearsOctets (has_heard honest words old number count calls.of calls.now received recorded calls.hears)
            (its_node calls.of) (waits_there calls.of)))
        | inr broken ↦ subst (λ d. Carries honest words old number node count new d) (sym broken.1)
            (subst (λ w. Carries honest words old number node count w (Refuses fault.NoMemory))
            (sym (made broken_link broken.0))
            (HearsUnanswered (broken_world honest words old number count calls.of calls.now)
            (breaks_off honest words old number count calls.of calls.now)
            (has_heard_broken honest words old number count calls.of calls.now received recorded calls.hears)
            (its_node calls.of) (waits_there calls.of) broken.2))
      ]

      pub heard_happened : HasHappened honest words old new
      heard_happened = elim takes.takes [
        | inl written ↦ subst (λ w. HasHappened honest words old w) (sym (made (λ l. l) written.0))
            (one_happened honest words old _ (HearsEvent number count
            (has_heard honest words old number count calls.of calls.now received recorded calls.hears)))
        | inr broken ↦ subst (λ w. HasHappened honest words old w) (sym (made broken_link broken.0))
            (both_happened honest words old (broken_world honest words old number count calls.of calls.now) _
            (one_happened honest words old _ (BreaksOff number (breaks_off honest words old number count calls.of calls.now)))
            (one_happened honest words (broken_world honest words old number count calls.of calls.now) _
            (HearsEvent number count
            (has_heard_broken honest words old number count calls.of calls.now received recorded calls.hears))))
      ]

      attempts_as : (link : Link) → new ≡ world_heard called number node link received recorded
          → new.attempts ≡ old.attempts
      attempts_as link is = ap (λ (w : World D). w.attempts) is ∙ ap (λ (w : World D). w.attempts) calls.new_is

      hosts_as : (link : Link) → new ≡ world_heard called number node link received recorded
          → new.hosts ≡ slice_set old.hosts calls.of.end.node calls.now
      hosts_as link is = ap (λ (w : World D). w.hosts) is ∙ ap (λ (w : World D). w.hosts) calls.new_is

      heard_attempts : new.attempts ≡ old.attempts
      heard_attempts = elim takes.takes [
        | inl written ↦ attempts_as takes.link written.0
        | inr broken ↦ attempts_as (broken_link takes.link) broken.0
      ]

      heard_hosts : new.hosts ≡ slice_set old.hosts calls.of.end.node calls.now
      heard_hosts = elim takes.takes [
        | inl written ↦ hosts_as takes.link written.0
        | inr broken ↦ hosts_as (broken_link takes.link) broken.0
      ]

      pub heard_room : (free free_now : ℕ) → HasRoomFor old 1 free → free ≤ free_now + 1 → HasRoom new free_now
      heard_room free free_now room less =
          let attempts = ap lines_to_come heard_attempts in
          let hosts = ap (λ (hs : List (Host D)). lines_left 0 hs) heard_hosts in
          let same = lines_same honest words old number count calls.of calls.now
          (up_after honest words old number count calls.of calls.now calls.hears.after received.change recorded calls.hears.notes) in
          omega (arith, room, less, attempts, hosts, same)

  -- the session is gone
  module _ (why : NodeFault) (calls : IsCalledToHear honest words old called number count (Gone why)) where
    pub cut_there : link_at called.links number ≡ Some calls.of.link
    cut_there = ap (λ (w : World D). link_at w.links number) calls.new_is ∙ calls.of.link_is

    module _ (link : Link) (link_is : link ≡ calls.of.link) (cut : Link) (cut_as : cut ≡ cut_off link) where
      gone_is : record called { links = slice_set called.links (number - 1) cut }
          ≡ cut_world honest words old number count calls.of calls.now
      gone_is =
          ap (λ (w : World D). let new : World D = record w { links = slice_set w.links (number - 1) cut } in new) calls.new_is
          ∙ ap (λ (l : Link). let new : World D = record old {
            hosts = slice_set old.hosts calls.of.end.node calls.now;
            links = slice_set old.links (number - 1) l;
          } in new) (cut_as ∙ ap cut_off link_is)

      pub gone_carries : Carries honest words old number node count
          (record called { links = slice_set called.links (number - 1) cut }) (Refuses (fault_of why))
      gone_carries =
          subst (λ w. Carries honest words old number node count w (Refuses (fault_of why))) (sym gone_is)
          (RefusesToHear (gone_world honest words old number count calls.of calls.now)
          (session_gone honest words old number count calls.of calls.now calls.hears.0) (its_node calls.of) (waits_there calls.of)
          (gone_breaks honest words old number count calls.of calls.now) why calls.hears.1)

      pub gone_happened : HasHappened honest words old (record called { links = slice_set called.links (number - 1) cut })
      gone_happened =
          subst (λ w. HasHappened honest words old w) (sym gone_is)
          (both_happened honest words old (gone_world honest words old number count calls.of calls.now) _
          (one_happened honest words old _
          (EndsEvent number (session_gone honest words old number count calls.of calls.now calls.hears.0)))
          (one_happened honest words (gone_world honest words old number count calls.of calls.now) _
          (BreaksOff number (gone_breaks honest words old number count calls.of calls.now))))

    gone_attempts : called.attempts ≡ old.attempts
    gone_attempts = ap (λ (w : World D). w.attempts) calls.new_is

    pub gone_room : (free : ℕ) → HasRoomFor old 1 free → lines_to_come called.attempts + lines_left 0 called.hosts ≤ free
    gone_room free room =
        let attempts = ap lines_to_come gone_attempts in
        let hosts = ap (λ (w : World D). lines_left 0 w.hosts) calls.new_is in
        let same = lines_same honest words old number count calls.of calls.now
        (ap (λ (h : Host D). lines_held calls.of.end.node h.state) calls.hears.0.runs.new_is) in
        omega (arith, room, attempts, hosts, same)

  -- it wasn't called
  module _ (calls : IsCalledToHear honest words old called number count NoRoom) where
    pub uncalled : called ≡ old
    uncalled =
        calls.new_is
        ∙ ap (λ (hs : List (Host D)). let new : World D = record old { hosts = hs } in new)
        (ap (λ (h : Host D). slice_set old.hosts calls.of.end.node h) calls.hears
        ∙ set_same old.hosts calls.of.end.node calls.of.host calls.of.host calls.of.host_at refl)

-- What was put on the link and into the ledger, in a world of the same nodes.
module _ {D : Type 0} (old : World D) (number node : ℕ) (received : Received) (recorded : Option Recorded) (link : Link)
    (link_is : link_at old.links number ≡ Some link) (whole : link.broken ≡ false) (moved : Link) where
  put_is : (heard_as : Link) → moved ≡ heard_on heard_as received → (ledger : List Line)
      → ledger ≡ old.ledger ++ accept_lines node number received.change recorded
      → record old { links = slice_set old.links (number - 1) moved; ledger = ledger }
      ≡ world_heard old number node heard_as received recorded
  put_is heard_as moved_is ledger lines =
      ap (λ (l : Link). let new : World D = record old { links = slice_set old.links (number - 1) l; ledger = ledger } in new) moved_is
      ∙ ap (λ (ls : List Line). let new : World D = record old {
        links = slice_set old.links (number - 1) (heard_on heard_as received);
        ledger = ls;
      } in new) lines

  pub takes_whole : moved ≡ heard_on link received → (ledger : List Line)
      → ledger ≡ old.ledger ++ accept_lines node number received.change recorded
      → (out : ℕ) → out ≡ length received.out.items
      → TakesHeard old (record old { links = slice_set old.links (number - 1) moved; ledger = ledger }) number node received recorded
      (Shows (seen.Carried received.used out received.change received.close))
  takes_whole moved_is ledger lines out out_is = record {
    link = link;
    link_is = link_is;
    whole = whole;
    takes = inl (
      put_is link moved_is ledger lines,
      ap (λ (n : ℕ). Shows (seen.Carried received.used n received.change received.close)) out_is,
    );
  }

  pub takes_broken : moved ≡ heard_on (broken_link link) received → (ledger : List Line)
      → ledger ≡ old.ledger ++ accept_lines node number received.change recorded → 0 < length received.out.items
      → TakesHeard old (record old { links = slice_set old.links (number - 1) moved; ledger = ledger }) number node received recorded
      (Refuses fault.NoMemory)
  takes_broken moved_is ledger lines some = record {
    link = link;
    link_is = link_is;
    whole = whole;
    takes = inr (put_is (broken_link link) moved_is ledger lines, refl, some);
  }
