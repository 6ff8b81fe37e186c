-- A node that was down is opened: with the change that was undecided, or without it, or it stays down.
use Rattle.std.proofs.Common.{inl, inr, ◌≡◌, ◌<◌, ◌≤◌, ◌+◌, ◌-◌, ℕ, zero, suc, List, [], ◌∷◌, ◌++◌, length, Option, None, Some, refl, sym, subst, ap, ◌∙◌, arith}
use Rattle.std.specs.Prelude.{slice_get, slice_set}
use Rattle.std.specs.Option.{is_none, option_map}
use Rattle.std.proofs.lemmas.Bool.{true≢false}
use Rattle.std.proofs.lemmas.List.{length-set}
use Rattle.std.proofs.lemmas.Option.{none-some, same_Some}
use Rattle.relay_disk.specs.Device.{DiskWords}
use Rattle.relay_disk.specs.declared.disks.Disks.{Disks}
use Rattle.relay_disk.specs.Disks.{seen_of}
use Rattle.relay_book.specs.declared.change.Change.{Change}
use Rattle.relay_records.specs.declared.noted.Noted.{Noted}
use Rattle.relay_routes.specs.declared.config.Config.{Config}
use Rattle.relay_records.specs.declared.fault.Cause.{Cause}
use Rattle.relay_records.specs.ListLaws.{IsNoFaultOfImage}
use Rattle.relay_records.specs.Open.{Opens, RefusesImage}
use Rattle.relay_node.specs.Node.{IsIdle, NodeState}
use Rattle.relay_world.specs.declared.line.Line.{Line}
use Rattle.relay_world.specs.Bound.{IsBound, MayHaveCome}
use Rattle.relay_world.specs.Ledger.{lines_by}
use Rattle.relay_world.specs.Steps.{IsPut}
use Rattle.relay_world.specs.Stops.{Decides, DownIsNotRefused, Finds, HasNotFound}
use Rattle.relay_world.specs.World.{Down, Host, Undecided as WorldUndecided, Up, World}
use Rattle.relay_hosts.specs.declared.host.Origin.{Origin}
use Rattle.relay_hosts.specs.declared.host.Origin.TheVariants.{FromClient, FromReplies, FromLoss, FromGivingUp}
use Rattle.relay_hosts.specs.declared.host.Undecided.{Undecided}
use Rattle.relay_hosts.specs.Crash.{Decided, OpensOrNot, without_octets}
use Rattle.relay_hosts.specs.Links.{is_running}
use Rattle.relay_hosts.specs.Host.{host_of, origin_in, undecided_in}
use Rattle.relay_events.specs.Relays.{AreBound}
use Rattle.relay_events.specs.Restart.{FindsChange, MayBeFound, OpensAt}
use Rattle.relay_hosts.specs.Room.{HasRoom, lines_held, lines_left, lines_to_come}
use Rattle.relay_events.specs.Told.{IsOpened, ends_of}
use Rattle.relay_events.proofs.PlaceLemmas.{some_at, value_put}
use Rattle.relay_events.proofs.TellLemmas.{get_within}

-- the lines that nodes which are down hold, where one host is put in the place of another
pub held_put : {D : Type 0} (hosts : List (Host D)) (place base node : ℕ) (was now : Host D) → node ≡ base + place
    → slice_get hosts place ≡ Some was
    → lines_left base (slice_set hosts place now) + lines_held node was.state ≡ lines_left base hosts + lines_held node now.state
held_put [] place base node was now at is = absurd (true≢false (ap is_none is))
held_put (x ∷ xs) zero base node was now at is =
    let there : lines_held node was.state ≡ lines_held base x.state =
    ap (λ n. lines_held n was.state) (at_base base node at) ∙ ap (λ (h : Host _). lines_held base h.state) (sym (same_Some x was is)) in
    let moved : lines_held node now.state ≡ lines_held base now.state = ap (λ n. lines_held n now.state) (at_base base node at) in
    omega (arith, there, moved)
  where
    at_base : (base node : ℕ) → node ≡ base + 0 → node ≡ base
    at_base base node at = omega (arith, at)
held_put (x ∷ xs) (suc place) base node was now at is =
    let rest = held_put xs place (base + 1) node was now (omega (arith, at)) is in omega (arith, rest)

-- what one of them holds is among them
pub held_within : {D : Type 0} (hosts : List (Host D)) (place base node : ℕ) (was : Host D) → node ≡ base + place
    → slice_get hosts place ≡ Some was → lines_held node was.state ≤ lines_left base hosts
held_within [] place base node was at is = absurd (true≢false (ap is_none is))
held_within (x ∷ xs) zero base node was at is =
    let there : lines_held node was.state ≡ lines_held base x.state =
    ap (λ n. lines_held n was.state) (at_base base node at) ∙ ap (λ (h : Host _). lines_held base h.state) (sym (same_Some x was is)) in
    omega (arith, there)
  where
    at_base : (base node : ℕ) → node ≡ base + 0 → node ≡ base
    at_base base node at = omega (arith, at)
held_within (x ∷ xs) (suc place) base node was at is =
    let rest = held_within xs place (base + 1) node was (omega (arith, at)) is in omega (arith, rest)

module _ {D : Type 0} (honest : Type 0) (words : DiskWords D) (old : World D) (node : ℕ) (was now : Host D)
    (was_at : slice_get old.hosts node ≡ Some was) where
  -- the world with this host
  abbrev with_now : World D
  with_now = record old { hosts = slice_set old.hosts node now }

  put_now : (host : Host D) → now ≡ host → IsPut old.hosts (slice_set old.hosts node now) node host
  put_now host is = subst (λ h. IsPut old.hosts (slice_set old.hosts node now) node h) is (value_put old.hosts node was now was_at)

  up_is : (after : NodeState D) → after.config ≡ was.config → now ≡ host_of after was.records → now ≡ record was { state = Up after }
  up_is after config is =
      is ∙ ap (λ (c : Config). record { config = c; state = Up after; records = was.records }) config

  not_found : (after : NodeState D) → after.config ≡ was.config → now ≡ host_of after was.records
      → HasNotFound old with_now node was after
  not_found after config is =
      record { hosts = put_now (record was { state = Up after }) (up_is after config is); links = refl; attempts = refl; ledger = refl }

  decides_without : (after : NodeState D) (undecided : Option Undecided) → after.config ≡ was.config
      → Decided after was.records undecided now None → Decides old with_now node was after (option_map undecided_in undecided)
  decides_without after None config is = not_found after config is
  decides_without after (Some undecided) config is = inl (is.0, not_found after config is.1)

  opened_without : (honest → (cause : Cause) (disk : Disks D) (undecided : Option WorldUndecided) → was.state ≡ Down disk undecided
      → RefusesImage honest (seen_of words disk) cause → IsNoFaultOfImage cause)
      → OpensOrNot honest words was now None → IsOpened honest words old with_now node
  opened_without never (inl comes) = inl (record {
    host = was;
    host_at = was_at;
    disk = comes.disk;
    undecided = option_map undecided_in comes.undecided;
    down = comes.down;
    after = comes.after;
    opens = comes.opens;
    idle = comes.idle;
    decides = decides_without comes.after comes.undecided comes.idle.config_is comes.decides;
    rest = (refl, length-set old.hosts node now);
  })
  opened_without never (inr refused) =
      let stays = refused.stays in
      inr (record {
        stays = record {
          host = was;
          host_at = was_at;
          disk = stays.disk;
          undecided = stays.undecided;
          down = stays.down;
          again = stays.again;
          left = stays.left;
          hosts = put_now (record was { state = Down stays.again stays.undecided }) stays.new_is;
          rest = (refl, refl, refl, refl, length-set old.hosts node now);
        };
        cause = refused.cause;
        why = refused.why;
        failures = refused.failures;
        calls = refused.calls;
        not_octets = λ is_honest. never is_honest refused.cause stays.disk stays.undecided stays.down refused.why;
      })

  held_without_up : (after : NodeState D) (undecided : Option Undecided) → Decided after was.records undecided now None
      → lines_held node now.state ≡ 0
  held_without_up after None is = ap (λ (h : Host D). lines_held node h.state) is
  held_without_up after (Some undecided) is = ap (λ (h : Host D). lines_held node h.state) is.1

  held_less : OpensOrNot honest words was now None → lines_held node now.state ≤ lines_held node was.state
  held_less (inl comes) = let none = held_without_up comes.after comes.undecided comes.decides in omega (arith, none)
  held_less (inr refused) =
      let same : lines_held node now.state ≡ lines_held node was.state =
      ap (λ (h : Host D). lines_held node h.state) refused.stays.new_is
      ∙ ap (λ h. lines_held node h) (sym refused.stays.down) in
      omega (arith, same)

  pub room_without : (free : ℕ) → OpensOrNot honest words was now None → HasRoom old free → HasRoom with_now free
  room_without free opens room =
      let put = held_put old.hosts node 0 node was now (omega arith) was_at in
      let less = held_less opens in
      omega (arith, put, less, room)

-- a node of relays that are bound is not refused for its octets
pub reopened_without : {D : Type 0} (honest : Type 0) (words : DiskWords D) (old new : World D) (node : ℕ)
    → (honest → DownIsNotRefused honest words) → AreBound honest words old
    → OpensAt honest words old new node None → IsOpened honest words old new node
reopened_without honest words old new node never bound at =
    let within = get_within old.hosts node at.was at.was_at in
    let even = bound.bound.even in
    let list = some_at bound.lists node (omega (arith, within, even)) in
    subst (λ w. IsOpened honest words old w node) (sym at.new_is)
    (opened_without honest words old node at.was at.now at.was_at
    (λ is_honest cause disk undecided down why. never is_honest old bound.lists node at.was list.0 disk undecided cause
    bound.bound (record { host_at = at.was_at; list_at = list.1 }) down why) at.opens)

pub still_room : {D : Type 0} (honest : Type 0) (words : DiskWords D) (old new : World D) (node free : ℕ)
    → OpensAt honest words old new node None → HasRoom old free → HasRoom new free
still_room honest words old new node free at room =
    subst (λ w. HasRoom w free) (sym at.new_is) (room_without honest words old node at.was at.now at.was_at free at.opens room)

pub same_ends : {D : Type 0} (honest : Type 0) (words : DiskWords D) (old new : World D) (node : ℕ) (found : Option Undecided)
    → OpensAt honest words old new node found → ends_of new ≡ ends_of old
same_ends honest words old new node found at = ap (λ w. ends_of w) at.new_is

-- a node that was opened has the change that was undecided
record IsUpWith {D : Type 0} (honest : Type 0) (words : DiskWords D) (was now : Host D) (found : Undecided) : Type 0 where
  pub disk : Disks D
  pub undecided : Undecided
  pub down : was.state ≡ Down disk (Some (undecided_in undecided))
  pub after : NodeState D
  pub opens : Opens honest words disk after.records
  pub idle : IsIdle was.config after
  pub above : undecided.note.number < after.records.queue.next
  pub found_is : found ≡ without_octets undecided
  pub now_is : now ≡ host_of after (was.records ++ undecided.note.octets ∷ [])

up_with : {D : Type 0} (honest : Type 0) (words : DiskWords D) (was now : Host D) (found : Undecided)
    → OpensOrNot honest words was now (Some found) → IsUpWith honest words was now found
up_with {D} honest words was now found (inl comes) = by comes.undecided comes.down comes.decides
  where
    by : (undecided : Option Undecided) → was.state ≡ Down comes.disk (option_map undecided_in undecided)
        → Decided comes.after was.records undecided now (Some found) → IsUpWith honest words was now found
    by None down is = absurd is
    by (Some undecided) down is = record {
      disk = comes.disk;
      undecided = undecided;
      down = down;
      after = comes.after;
      opens = comes.opens;
      idle = comes.idle;
      above = is.0;
      found_is = is.1;
      now_is = is.2;
    }
up_with honest words was now found (inr refused) = absurd (none-some found (sym refused.stays.none))

may_found : {D : Type 0} (world : World D) (node : ℕ) (host : Host D) (changes : List Change) (change : Change) (note : Noted)
    (origin : Origin) → MayHaveCome world node host changes change note (origin_in origin)
    → MayBeFound world.links world.attempts note.used origin
may_found world node host changes change note (FromClient number) came =
    record { link = came.link; link_is = came.link_is; within = came.within }
may_found world node host changes change note (FromReplies number place message) came = record {
  link = came.link;
  link_is = came.link_is;
  within = came.within;
  attempt = came.attempt;
  attempt_at = came.attempt_at;
  over = ap is_running came.dropped;
}
may_found world node host changes change note (FromLoss number place message) came = record {
  link = came.link;
  link_is = came.link_is;
  within = came.within;
  attempt = came.attempt;
  attempt_at = came.attempt_at;
  over = ap is_running came.dropped;
}
may_found world node host changes change note (FromGivingUp message) came = tt

-- the lines of a change don't tell of its record
same_lines : (node : ℕ) (note : Noted) (origin : Origin)
    → lines_by node (record note { octets = [] }) (origin_in origin) ≡ lines_by node note (origin_in origin)
same_lines node note (FromClient number) = refl
same_lines node note (FromReplies number place message) = refl
same_lines node note (FromLoss number place message) = refl
same_lines node note (FromGivingUp message) = refl

finds_before : {D : Type 0} (old new : World D) (hosts : List (Host D)) (note : Noted) (origin : Origin)
    → Finds (record old { hosts = hosts }) new (record note { octets = [] }) (origin_in origin)
    → Finds old new note (origin_in origin)
finds_before old new hosts note (FromClient number) finds =
    record { link = finds.link; link_is = finds.link_is; links = finds.links; attempts = finds.attempts }
finds_before old new hosts note (FromReplies number place message) finds = record {
  link = finds.link;
  link_is = finds.link_is;
  links = finds.links;
  attempt = finds.attempt;
  attempt_at = finds.attempt_at;
  attempts = finds.attempts;
}
finds_before old new hosts note (FromLoss number place message) finds = record {
  link = finds.link;
  link_is = finds.link_is;
  links = finds.links;
  attempt = finds.attempt;
  attempt_at = finds.attempt_at;
  attempts = finds.attempts;
}
finds_before old new hosts note (FromGivingUp message) finds = finds

-- how many lines a change that is found has
abbrev pub found_lines : ℕ → Undecided → ℕ
found_lines node found = length (lines_by node found.note (origin_in found.origin))

module _ {D : Type 0} (honest : Type 0) (words : DiskWords D) (old middle : World D) (node : ℕ) (found : Undecided)
    (at : OpensAt honest words old middle node (Some found)) where
  its_up : IsUpWith honest words at.was at.now found
  its_up = up_with honest words at.was at.now found at.opens

  pub found_may : (lists : List (List Change)) → IsBound honest words old lists
      → MayBeFound middle.links middle.attempts found.note.used found.origin
  found_may lists bound =
      let up = its_up in
      let within = get_within old.hosts node at.was at.was_at in
      let even = bound.even in
      let list = some_at lists node (omega (arith, within, even)) in
      let may = bound.may_be_in node at.was list.0 up.disk (undecided_in up.undecided)
      (record { host_at = at.was_at; list_at = list.1 }) up.down in
      subst (λ (w : World D). MayBeFound w.links w.attempts found.note.used found.origin) (sym at.new_is)
      (subst (λ (u : Undecided). MayBeFound old.links old.attempts u.note.used u.origin) (sym up.found_is)
      (may_found old node at.was list.0 may.change up.undecided.note up.undecided.origin may.came))

  held_is : lines_held node at.was.state ≡ found_lines node found
  held_is =
      let up = its_up in
      ap (λ h. lines_held node h) up.down
      ∙ ap (λ (l : List Line). length l) (sym (same_lines node up.undecided.note up.undecided.origin))
      ∙ ap (λ u. found_lines node u) (sym up.found_is)

  -- there is room for them
  pub found_room : (len capacity : ℕ) → len ≤ capacity → HasRoom old (capacity - len) → len + found_lines node found ≤ capacity
  found_room len capacity fits room =
      let held = held_is in
      let within = held_within old.hosts node 0 node at.was (omega arith) at.was_at in
      omega (arith, fits, room, held, within)

  module _ (new : World D) (finds : FindsChange middle new node found.note (origin_in found.origin)) where
    hosts_now : new.hosts ≡ slice_set old.hosts node at.now
    hosts_now = finds.hosts ∙ ap (λ (w : World D). w.hosts) at.new_is

    pub reopened_with : IsOpened honest words old new node
    reopened_with =
        let up = its_up in
        let undecided = up.undecided in
        let now_is : at.now
        ≡ record at.was { state = Up up.after; records = at.was.records ++ undecided.note.octets ∷ [] } =
        up.now_is
        ∙ ap (λ (c : Config). record {
          config = c;
          state = Up up.after;
          records = at.was.records ++ undecided.note.octets ∷ [];
        }) up.idle.config_is in
        let its : FindsChange middle new node (without_octets undecided).note (origin_in undecided.origin) =
        subst (λ (u : Undecided). FindsChange middle new node u.note (origin_in u.origin)) up.found_is finds in
        let its_finds : Finds (record old { hosts = slice_set old.hosts node at.now }) new (without_octets undecided).note
        (origin_in undecided.origin) =
        subst (λ (w : World D). Finds w new (without_octets undecided).note (origin_in undecided.origin)) at.new_is its.finds in
        inl (record {
          host = at.was;
          host_at = at.was_at;
          disk = up.disk;
          undecided = Some (undecided_in undecided);
          down = up.down;
          after = up.after;
          opens = up.opens;
          idle = up.idle;
          decides = inr (
            up.above,
            record {
              hosts = subst (λ hs. IsPut old.hosts hs node (record at.was {
                state = Up up.after;
                records = at.was.records ++ undecided.note.octets ∷ [];
              })) (sym hosts_now) (put_now honest words old node at.was at.now at.was_at _ now_is);
              ledger =
                  its.ledger ∙ ap (λ (w : World D). w.ledger ++ lines_by node (without_octets undecided).note (origin_in undecided.origin)) at.new_is
                  ∙ ap (λ (l : List Line). old.ledger ++ l) (same_lines node undecided.note undecided.origin);
              finds = finds_before old new (slice_set old.hosts node at.now) undecided.note undecided.origin its_finds;
            },
          );
          rest = (
            finds.clock ∙ ap (λ (w : World D). w.clock) at.new_is,
            ap (λ (hs : List (Host D)). length hs) hosts_now ∙ length-set old.hosts node at.now,
          );
        })

    pub room_with : (free now : ℕ) → HasRoom old free → free ≤ now + found_lines node found → HasRoom new now
    room_with free now room most =
        let up = its_up in
        let held = held_is in
        let put = held_put old.hosts node 0 node at.was at.now (omega arith) at.was_at in
        let none : lines_held node at.now.state ≡ 0 = ap (λ (h : Host D). lines_held node h.state) up.now_is in
        let hosts = ap (λ (hs : List (Host D)). lines_left 0 hs) hosts_now in
        let attempts = ap (λ (w : World D). lines_to_come w.attempts) at.new_is in
        let fewer = finds.lines_fewer in
        omega (arith, room, most, held, put, none, hosts, attempts, fewer)

    pub ends_with : ends_of new ≤ ends_of old
    ends_with =
        let same = same_ends honest words old middle node (Some found) at in
        let fewer = finds.ends_fewer in
        omega (arith, same, fewer)
