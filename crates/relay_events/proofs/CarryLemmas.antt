-- What is carried on a link: what it means that no fault stands against it, and what it makes of the relays.
use Rattle.std.proofs.Common.{inl, inr, ◌≡◌, ◌≤◌, ℕ, zero, suc, Bool, true, false, not, List, drop, Option, None, Some, Result, Ok, Err, refl, sym, subst, ap, ◌∙◌, arith}
use Rattle.std.specs.Prelude.{if◌then◌else◌, slice_get, vec_capacity, vec_len}
use Rattle.std.specs.Option.{is_none, is_some}
use Rattle.std.proofs.lemmas.Bool.{false≢true, true≢false}
use Rattle.std.proofs.lemmas.Option.{none-some, same_Some}
use Rattle.relay_disk.specs.Device.{DiskWords}
use Rattle.relay_world.specs.declared.attempt.Attempt.{Attempt}
use Rattle.relay_world.specs.declared.link.Link.{Link}
use Rattle.relay_world.specs.declared.link.ServerEnd.{ServerEnd}
use Rattle.relay_world.specs.Crashes.{is_tried_for, serves_for}
use Rattle.relay_world.specs.Once.{Ends as EndsEvent}
use Rattle.relay_world.specs.Steps.{EndsSession}
use Rattle.relay_world.specs.World.{World, link_at}
use Rattle.relay_events.specs.declared.event.Event.TheVariants.{Carry}
use Rattle.relay_events.specs.declared.fault.PairFault.{PairFault}
use Rattle.relay_events.specs.declared.fault.PairFault.TheVariants as fault
use Rattle.relay_events.specs.declared.seen.Seen.{Seen}
use Rattle.relay_events.specs.declared.seen.Seen.TheVariants as seen
use Rattle.relay_events.specs.Act.{IsFinished}
use Rattle.relay_events.specs.FirstFault.{carry_fault, carry_idles, first_fault, unless_up}
use Rattle.relay_hosts.specs.Links.{client_closed, client_idles, hears_on, is_nil, is_untold, server_closed, server_idles, tries_on, waits_up, whole_link}
use Rattle.relay_hosts.specs.Host.{is_up}
use Rattle.relay_events.specs.Hear.{WaitsAt}
use Rattle.relay_events.specs.Happened.{HasHappened}
use Rattle.relay_events.specs.declared.relays.Relays.{Relays}
use Rattle.relay_events.specs.Relays.{AreBound, AreInOrder, free_lines, world_of}
use Rattle.relay_hosts.specs.Room.{HasRoom}
use Rattle.relay_events.specs.Step.{Carries, Did, Ends as EndsCarried, Shows, Steps}
use Rattle.relay_events.specs.Told.{HearsAt, LearnsOfBreaks}
use Rattle.relay_events.proofs.EndLemmas.{served_by}
use Rattle.relay_events.proofs.RunLemmas.{one_happened}
use Rattle.relay_events.proofs.SendLemmas.{told_put, whole_there}
use Rattle.relay_events.proofs.StepLemmas.{done_steps, told_already}

-- a link on which something is carried: it is whole
pub record IsCarried (links : List Link) (number : ℕ) : Type 0 where
  pub link : Link
  pub found : whole_link links number ≡ Some link
  pub link_is : link_at links number ≡ Some link
  pub whole : link.broken ≡ false

pub is_carried : {D : Type 0} (world : World D) (links : List Link) (number node count : ℕ)
    → carry_fault world (whole_link links number) node count ≡ None → IsCarried links number
is_carried world links number node count none = by (whole_link links number) none refl
  where
    by : (found : Option Link) → carry_fault world found node count ≡ None → whole_link links number ≡ found
        → IsCarried links number
    by None is found = absurd (none-some fault.NoLink (sym is))
    by (Some link) is found =
        let there = whole_there (link_at links number) link found in
        record { link = link; found = found; link_is = there.0; whole = there.1 }

-- where nothing stands against what is carried to a server end, it is open, and octets wait there, or the client end has closed
goes_on : {D : Type 0} (world : World D) (node count : ℕ) (idles : Bool) → unless_up world node (carry_idles world count idles) ≡ None
    → idles ≡ false
goes_on world node count idles none = by (is_up (slice_get world.hosts node)) none
  where
    by_count : (count : ℕ) (idles : Bool) → carry_idles world count idles ≡ None → idles ≡ false
    by_count zero idles is = absurd (none-some fault.Nothing (sym is))
    by_count (suc count) true is = absurd (none-some fault.Nothing (sym is))
    by_count (suc count) false is = refl

    by : (up : Bool) → (if up then carry_idles world count idles else Some fault.Down) ≡ None → idles ≡ false
    by true is = by_count count idles is
    by false is = absurd (none-some fault.Down (sym is))

module _ {D : Type 0} (world : World D) (links : List Link) (number node count : ℕ)
    (none : carry_fault world (whole_link links number) node count ≡ None) where
  abbrev its : IsCarried links number
  its = is_carried world links number node count none

  none_there : carry_fault world (Some its.link) node count ≡ None
  none_there = sym (ap (λ found. carry_fault world found node count) its.found) ∙ none

  pub not_idle : serves_for node its.link.server ≡ true → server_idles world.attempts its.link ≡ false
  not_idle serves =
      goes_on world node count (server_idles world.attempts its.link)
      (sym (ap (λ b. if b then unless_up world node (carry_idles world count (server_idles world.attempts its.link)) else
      (if is_tried_for node world.attempts its.link.client
      then unless_up world node (carry_idles world count (client_idles world.attempts its.link)) else Some fault.NotYours))
      serves) ∙ none_there)

  -- where the server end isn't the node's, the client end is
  pub is_tried : serves_for node its.link.server ≡ false → is_tried_for node world.attempts its.link.client ≡ true
  is_tried serves = by (is_tried_for node world.attempts its.link.client)
      (sym (ap (λ b. if b then unless_up world node (carry_idles world count (server_idles world.attempts its.link)) else
      (if is_tried_for node world.attempts its.link.client
      then unless_up world node (carry_idles world count (client_idles world.attempts its.link)) else Some fault.NotYours))
      serves) ∙ none_there)
    where
      by : (tried : Bool)
          → (if tried then unless_up world node (carry_idles world count (client_idles world.attempts its.link))
          else Some fault.NotYours) ≡ None → tried ≡ true
      by true is = refl
      by false is = absurd (none-some fault.NotYours (sym is))

hears_if : (attempts : List Attempt) (link : Link) (node : ℕ) → serves_for node link.server ≡ true
    → server_idles attempts link ≡ false → hears_on link.server ≡ true
hears_if attempts link node serves idles = by link.server refl serves
  where
    of_session : (session : Option ℕ) → is_none session ≡ false → is_some session ≡ true
    of_session None some = absurd (true≢false some)
    of_session (Some session) some = refl

    opens : (closed : Bool)
        → (if closed then true else (if is_nil (drop link.up_read link.up) then not (client_closed attempts link.client) else false))
        ≡ false → closed ≡ false
    opens true is = absurd (true≢false is)
    opens false is = refl

    by : (server : Option ServerEnd) → link.server ≡ server → serves_for node server ≡ true → hears_on server ≡ true
    by None is serves = absurd (false≢true serves)
    by (Some end) is serves =
        of_session end.session (sym (ap server_closed is) ∙ opens (server_closed link.server) idles)

module _ {D : Type 0} (old : World D) (number node count : ℕ)
    (none : carry_fault old (whole_link old.links number) node count ≡ None)
    (served : (link : Link) → whole_link old.links number ≡ Some link → serves_for node link.server ≡ true) where
  abbrev pub carried : IsCarried old.links number
  carried = is_carried old old.links number node count none

  serves : serves_for node carried.link.server ≡ true
  serves = served carried.link carried.found

  hears : hears_on carried.link.server ≡ true
  hears = hears_if old.attempts carried.link node serves (not_idle old old.links number node count none serves)

  pub hears_at : HearsAt old number
  hears_at = record { link = carried.link; link_is = carried.link_is; hears = hears }

  -- octets wait there
  pub waits_at : waits_up carried.link ≡ true → WaitsAt old number node
  waits_at waits = record {
    link = carried.link;
    link_is = carried.link_is;
    whole = carried.whole;
    serves = serves;
    hears = hears;
    waits = waits;
  }

  -- none waits, and the node was told that the client end has closed
  module _ (new : World D) (ended : EndsSession old new number) where
    ended_link : ended.of.link ≡ carried.link
    ended_link = same_Some ended.of.link carried.link (sym ended.of.link_is ∙ carried.link_is)

    pub still_told : LearnsOfBreaks old → LearnsOfBreaks new
    still_told told other link is =
        ap (λ (l : List Attempt). is_untold l link) ended.rest.0
        ∙ told_put old new.links number (record ended.of.link { server = Some (record ended.of.end { session = None }) }) ended.links
        untold told other link is
      where
        untold : is_untold old.attempts (record ended.of.link { server = Some (record ended.of.end { session = None }) }) ≡ false
        untold =
            ap (λ b. if b then (if false then true else tries_on old.attempts ended.of.link.client) else false)
            (ap (λ (l : Link). l.broken) ended_link ∙ carried.whole)

    pub end_steps : (honest : Type 0) (words : DiskWords D) → waits_up carried.link ≡ false → LearnsOfBreaks old
        → Steps honest words old (Carry number node count) new (Ok (seen.Carried 0 0 None true))
    end_steps honest words silent told = (
      none,
      (
        new,
        (
          Shows (seen.Carried 0 0 None true),
          EndsCarried ended (served_by old number node ended.of carried.link carried.link_is serves)
              (ap waits_up ended_link ∙ silent),
          (told_already honest words new (still_told told), refl),
        ),
      ),
    )

module _ {D : Type 0} (honest : Type 0) (words : DiskWords D) where
  pub carried_steps : (old middle new : World D) (number node count : ℕ) (did : Did) (answer : Result Seen PairFault)
      → first_fault old (Carry number node count) ≡ None → Carries honest words old number node count middle did
      → IsFinished honest words middle did new answer → Steps honest words old (Carry number node count) new answer
  carried_steps old middle new number node count did answer none carries finished =
      done_steps honest words old (Carry number node count) new answer (none, (middle, (did, carries, (finished.0, finished.1))))

  pub end_happened : (old new : World D) (number : ℕ) → EndsSession old new number → HasHappened honest words old new
  end_happened old new number ended = one_happened honest words old new (EndsEvent number ended)

  -- nothing was done, for want of memory
  pub unheard_steps : (old new : World D) (number node count : ℕ) → first_fault old (Carry number node count) ≡ None → new ≡ old
      → Steps honest words old (Carry number node count) new (Err fault.NoMemory)
  unheard_steps old new number node count none same = inr (inl (tt, inl none, refl, same))

  -- relays of the same world, with as much room or more, are in order
  pub kept_order : (old new : Relays D) → world_of new ≡ world_of old → free_lines old ≤ free_lines new
      → AreInOrder honest words old → AreInOrder honest words new
  kept_order old new same more order = record {
    bound = subst (λ w. AreBound honest words w) (sym same) order.bound;
    told = subst (λ w. LearnsOfBreaks w) (sym same) order.told;
    room = subst (λ w. HasRoom w (free_lines new)) (sym same) (more_room (world_of old) (free_lines old) (free_lines new) more order.room);
  }
    where
      more_room : (world : World D) (free more : ℕ) → free ≤ more → HasRoom world free → HasRoom world more
      more_room world free more less room = omega (arith, less, room)

  -- the same where nothing has changed, the ledger included
  pub same_order : (old new : Relays D) → world_of new ≡ world_of old → new.ledger ≡ old.ledger → AreInOrder honest words old
      → AreInOrder honest words new
  same_order old new same ledger order =
      kept_order old new same (less (ap vec_len ledger) (ap vec_capacity ledger)) order
    where
      less : vec_len new.ledger ≡ vec_len old.ledger → vec_capacity new.ledger ≡ vec_capacity old.ledger
          → free_lines old ≤ free_lines new
      less len capacity = omega (arith, len, capacity)
