-- Relays that have just begun are bound.
use Rattle.std.proofs.Common.{◌≡◌, ℕ, zero, suc, Bool, true, false, Option, None, List, [], ◌∷◌, ◌++◌, map, length, Some, ◌<◌, ◌≤◌, ◌+◌, ◌-◌, refl, sym, subst, ap, ◌∙◌, arith, inl, inr}
use Rattle.std.specs.Prelude.{codes, slice_get}
use Rattle.std.proofs.Math.ListN.{get_or}
use Rattle.std.specs.Option.{is_some, option_map}
use Rattle.std.proofs.lemmas.Bool.{cases_lt, false≢true}
use Rattle.std.proofs.lemmas.Option.{same_Some}
use Rattle.std.specs.declared.net.socket_addr.SocketAddrV4.{SocketAddrV4}
use Rattle.relay_disk.specs.Device.{DiskWords}
use Rattle.relay_disk.specs.Disks.{calls_left_of}
use Rattle.relay_disk.specs.declared.disks.Disks.{Disks}
use Rattle.relay_routes.specs.declared.config.Config.{Config}
use Rattle.relay_book.specs.declared.change.Change.{Change}
use Rattle.relay_world.specs.declared.link.Link.{Link}
use Rattle.relay_world.specs.Bound.{StateKeeps, HostKeeps, IsBound}
use Rattle.relay_world.specs.Ledger.{steps_of}
use Rattle.relay_world.specs.World.{Down, HostState, Host, Undecided, Up, link_at}
use Rattle.relay_node.specs.Node.{NodeState}
use Rattle.relay_slots.specs.Slots.{AreFree, slot_at}
use Rattle.relay_world.specs.Leaks.{NothingLeaks}
use Rattle.relay_world.specs.Once.{OnceAtFirst}
use Rattle.relay_world.specs.HopLinks.{HopLinksAtFirst}
use Rattle.relay_pair.specs.Begin.{AreNew, HasNoneSet, NoneIsSet}
use Rattle.relay_hosts.specs.Begin.{IsMadeOf, IsNew}
use Rattle.relay_pair.specs.Profiles.{address_of, at_place, mail_at}
use Rattle.relay_events.specs.Begin.{begun_with}
use Rattle.relay_pair.specs.Network.{HaveOneHost, IsHostBefore}
use Rattle.relay_events.specs.Relays.{AreBound, HaveOwnNames}
use Rattle.relay_hosts.specs.Room.{HasRoom, lines_held, lines_left}
use Rattle.relay_events.specs.Told.{LearnsOfBreaks}

none_there : {A : Type 0} (place : ℕ) (value : A) → slice_get {X = A} [] place ≡ Some value → ⊥
none_there zero value is = false≢true (ap is_some is)
none_there (suc place) value is = false≢true (ap is_some is)

no_link : (number : ℕ) (link : Link) → link_at [] number ≡ Some link → ⊥
no_link zero link is = false≢true (ap is_some is)
no_link (suc place) link is = none_there place link is

abbrev nothing : List Change
nothing = []

-- a list of no changes for each node
abbrev no_lists : {D : Type 0} → List (Host D) → List (List Change)
no_lists hosts = map (λ _. nothing) hosts

as_many : {D : Type 0} (hosts : List (Host D)) → length (no_lists hosts) ≡ length hosts
as_many [] = refl
as_many (host ∷ hosts) = let rest = as_many hosts in omega (arith, rest)

no_changes : {D : Type 0} (hosts : List (Host D)) (node : ℕ) (changes : List Change)
    → slice_get (no_lists hosts) node ≡ Some changes → changes ≡ []
no_changes [] node changes list = absurd (none_there node changes list)
no_changes (host ∷ hosts) zero changes list = sym (same_Some nothing changes list)
no_changes (host ∷ hosts) (suc node) changes list = no_changes hosts node changes list

-- no slot of a free table is taken
free_none : {A : Type 0} (slots : List (Option A)) → AreFree slots → (number : ℕ) → slot_at slots number ≡ None
free_none [] free number = refl
free_none (None ∷ slots) free zero = refl
free_none (None ∷ slots) free (suc number) = free_none slots free number
free_none (Some value ∷ slots) free number = absurd free

same_node : {D : Type 0} (one other : NodeState D) → Up one ≡ Up other → one ≡ other
same_node one other same = cc

-- whether a state is up
abbrev is_up : {D : Type 0} → HostState D → Bool
is_up (Up node) = true
is_up (Down disk undecided) = false

-- a configuration that has the address of its place already
own_place : (place : ℕ) (config : Config) → config.listen ≡ mail_at (address_of place) → at_place place config ≡ config
own_place place config is = ap (λ (at : SocketAddrV4). let moved : Config = record config { listen = at } in moved) (sym is)

-- the names of the two nodes of a play begin otherwise
names_differ : codes "a.example" ≡ codes "b.example" → ⊥
names_differ same = let first : 97 ≡ 98 = ap (λ (l : List ℕ). get_or l 0 0) same in omega (arith, first)

pub two_hosts : (one other : Config) → one.host ≡ codes "a.example" → other.host ≡ codes "b.example"
    → ¬ HaveOneHost (one ∷ other ∷ [])
two_hosts one other a b has = by has.0 has.1
  where
    by : (place : ℕ) → IsHostBefore (one ∷ other ∷ []) place → ⊥
    by zero is = let less = is.before in omega (arith, less)
    by (suc zero) is = at is.one is.before is.first_at
      where
        at : (first : ℕ) → first < 1 → slice_get (one ∷ other ∷ []) first ≡ Some is.first → ⊥
        at zero before there =
            let firsts = same_Some one is.first there in
            let seconds = same_Some other is.second is.second_at in
            names_differ (sym a ∙ ap (λ (c : Config). c.host) firsts ∙ is.same ∙ sym (ap (λ (c : Config). c.host) seconds) ∙ b)
        at (suc first) before there = omega (arith, before)
    by (suc (suc place)) is = none_there place is.second is.second_at

module _ {D : Type 0} (honest : Type 0) (words : DiskWords D) where
  -- the two nodes of a play, which have the addresses of their places
  pub two_are_new : (one other : Config) (a b : Host D) → one.listen ≡ mail_at (address_of 0)
      → other.listen ≡ mail_at (address_of 1) → IsNew honest words one a → IsNew honest words other b
      → AreNew honest words 0 (one ∷ other ∷ []) (a ∷ b ∷ [])
  two_are_new one other a b first second a_is b_is = (
    subst (λ c. IsNew honest words c a) (sym (own_place 0 one first)) a_is,
    (subst (λ c. IsNew honest words c b) (sym (own_place 1 other second)) b_is, tt),
  )

  -- a host that has just begun, by the configuration of its place
  record NewAt (configs : List Config) (node : ℕ) (host : Host D) : Type 0 where
    config : Config
    config_at : slice_get configs node ≡ Some config
    place : ℕ
    is : IsNew honest words (at_place place config) host

  new_at : (place : ℕ) (configs : List Config) (hosts : List (Host D)) → AreNew honest words place configs hosts
      → (node : ℕ) (host : Host D) → slice_get hosts node ≡ Some host → NewAt configs node host
  new_at place [] [] are node host at = absurd (none_there node host at)
  new_at place [] (first ∷ hosts) are node host at = absurd are
  new_at place (config ∷ configs) [] are node host at = absurd are
  new_at place (config ∷ configs) (first ∷ hosts) are zero host at = record {
    config = config;
    config_at = refl;
    place = place;
    is = subst (λ h. IsNew honest words (at_place place config) h) (same_Some first host at) are.0;
  }
  new_at place (config ∷ configs) (first ∷ hosts) are (suc node) host at =
      let later = new_at (place + 1) configs hosts are.1 node host at in record {
        config = later.config;
        config_at = later.config_at;
        place = later.place;
        is = later.is;
      }

  new_keeps : (config : Config) (host : Host D) → IsNew honest words config host → HostKeeps honest words host []
  new_keeps config host is = record {
    list = record { fitting = is.keeps.fitting; records_are = is.records };
    holds = subst (λ h. StateKeeps honest words host.config h []) (sym is.up)
        (record { config_is = is.idle.config_is ∙ sym is.config_is; keeps = is.keeps });
    reports = tt;
  }

  -- a host that has just begun isn't down
  not_down : (config : Config) (host : Host D) (disk : Disks D) (undecided : Option Undecided)
      → IsNew honest words config host → host.state ≡ Down disk undecided → ⊥
  not_down config host disk undecided is down = false≢true (sym (ap is_up (sym is.up ∙ down)))

  none_left : (place node : ℕ) (configs : List Config) (hosts : List (Host D)) → AreNew honest words place configs hosts
      → lines_left node hosts ≡ 0
  none_left place node [] [] are = refl
  none_left place node [] (host ∷ hosts) are = absurd are
  none_left place node (config ∷ configs) [] are = refl
  none_left place node (config ∷ configs) (host ∷ hosts) are =
      let held : lines_held node host.state ≡ 0 = ap (λ (h : HostState D). lines_held node h) are.0.up in
      let others = none_left (place + 1) (node + 1) configs hosts are.1 in
      omega (arith, held, others)

  -- there is a host for each configuration
  pub as_many_hosts : (place : ℕ) (configs : List Config) (hosts : List (Host D)) → AreNew honest words place configs hosts
      → length hosts ≡ length configs
  as_many_hosts place [] [] are = refl
  as_many_hosts place [] (host ∷ hosts) are = absurd are
  as_many_hosts place (config ∷ configs) [] are = absurd are
  as_many_hosts place (config ∷ configs) (host ∷ hosts) are =
      let rest = as_many_hosts (place + 1) configs hosts are.1 in omega (arith, rest)

  -- one host more
  pub one_more_new : (place : ℕ) (configs : List Config) (hosts : List (Host D)) (config : Config) (host : Host D)
      → AreNew honest words place configs hosts → IsNew honest words (at_place (place + length hosts) config) host
      → AreNew honest words place (configs ++ config ∷ []) (hosts ++ host ∷ [])
  one_more_new place [] [] config host are is = (
    let here : place + 0 ≡ place = omega arith in
        subst (λ p. IsNew honest words (at_place p config) host) here is,
    tt,
  )
  one_more_new place [] (first ∷ hosts) config host are is = absurd are
  one_more_new place (one ∷ configs) [] config host are is = absurd are
  one_more_new place (one ∷ configs) (first ∷ hosts) config host are is =
      let further : place + length (first ∷ hosts) ≡ (place + 1) + length hosts = omega arith in (
        are.0,
        one_more_new (place + 1) configs hosts config host are.1
            (subst (λ p. IsNew honest words (at_place p config) host) further is),
      )

  module _ (configs : List Config) (hosts : List (Host D)) (are : AreNew honest words 0 configs hosts) where
    there : (node : ℕ) (host : Host D) → slice_get hosts node ≡ Some host → NewAt configs node host
    there node host at = new_at 0 configs hosts are node host at

    begun_is_bound : IsBound honest words (begun_with hosts) (no_lists hosts)
    begun_is_bound = record {
      even = as_many hosts;
      hosts = λ node host changes stands.
          let new = there node host stands.host_at in
          subst (λ cs. HostKeeps honest words host cs) (sym (no_changes hosts node changes stands.list_at))
          (new_keeps (at_place new.place new.config) host new.is);
      may_be_in = λ node host changes disk undecided stands down.
          let new = there node host stands.host_at in
          absurd (not_down (at_place new.place new.config) host disk (Some undecided) new.is down);
      servers = λ number link end is serves. absurd (no_link number link is);
      clients = λ number place link is client. absurd (no_link number link is);
      attempts = λ place attempt at. absurd (none_there place attempt at);
      reads = λ number link is. absurd (no_link number link is);
      ledger = λ node changes list. ap steps_of (sym (no_changes hosts node changes list));
      lines = tt;
      sessions = λ one_link its link others node session is at mine yours. absurd (no_link one_link link is);
      slots = λ one_place its attempt others node slot at is mine yours. absurd (none_there one_place attempt at);
    }

    all_up : (node : ℕ) (host : Host D) → slice_get hosts node ≡ Some host
        → (standing : NodeState D) × (host.state ≡ Up standing)
    all_up node host at = let new = there node host at in (new.is.node, new.is.up)

    -- they have names of their own
    begun_are_named : ¬ HaveOneHost configs → HaveOwnNames hosts
    begun_are_named apart one other host others one_at other_at same =
        let first = there one host one_at in
        let second = there other others other_at in
        let its : first.config.host ≡ second.config.host =
        sym (ap (λ (c : Config). c.host) first.is.config_is) ∙ same ∙ ap (λ (c : Config). c.host) second.is.config_is in
        elim (cases_lt one other) [
          | inl below ↦ absurd (apart (
            other,
            record {
              one = one;
              before = below;
              first = first.config;
              first_at = first.config_at;
              second = second.config;
              second_at = second.config_at;
              same = its;
            },
          ))
          | inr from ↦ elim (cases_lt other one) [
            | inl above ↦ absurd (apart (
              one,
              record {
                one = other;
                before = above;
                first = second.config;
                first_at = second.config_at;
                second = first.config;
                second_at = first.config_at;
                same = sym its;
              },
            ))
            | inr both ↦ omega (arith, from, both)
          ]
        ]

    pub begun_are_bound : ¬ HaveOneHost configs → length configs ≤ 16 → OnceAtFirst words → HopLinksAtFirst D
        → AreBound honest words (begun_with hosts)
    begun_are_bound apart few once linked = record {
      named = begun_are_named apart;
      few = let many = as_many_hosts 0 configs hosts are in omega (arith, few, many);
      lists = no_lists hosts;
      bound = begun_is_bound;
      asked = [];
      once = once (begun_with hosts) (no_lists hosts) (no_changes hosts) all_up refl refl;
      linked = linked (begun_with hosts) refl;
      sources = tt;
    }

    -- and no seat is taken yet, nor a number
    pub begun_leak_nothing : NothingLeaks (begun_with hosts)
    begun_leak_nothing = record {
      seats = λ node host standing at up session taken.
          let new = there node host at in
          absurd (taken (subst (λ (s : NodeState D). slot_at s.seats session ≡ None)
          (same_node new.is.node standing (sym new.is.up ∙ up)) (free_none new.is.node.seats new.is.idle.free session)));
      runs = λ node host standing at up slot taken.
          let new = there node host at in
          absurd (taken (subst (λ (s : NodeState D). slot_at s.attempts slot ≡ None)
          (same_node new.is.node standing (sym new.is.up ∙ up)) (free_none new.is.node.attempts new.is.idle.none_runs slot)));
    }

    pub begun_are_told : LearnsOfBreaks (begun_with hosts)
    begun_are_told number link is = absurd (no_link number link is)

    pub begun_has_room : (free : ℕ) → HasRoom (begun_with hosts) free
    begun_has_room free = subst (λ (lines : ℕ). 0 + lines ≤ free) (sym (none_left 0 0 configs hosts are)) (omega arith)

module _ {D : Type 0} (words : DiskWords D) where
  -- a node that was made of disks without a fuse has none
  pub made_with_none : (disk : Disks D) (state : HostState D) → IsMadeOf words disk state → calls_left_of words disk ≡ None
      → HasNoneSet words state
  made_with_none disk (Up node) made none =
      made.calls ∙ ap (λ (left : Option ℕ). option_map (λ calls. calls - 8) left) none
  made_with_none disk (Down left undecided) made none = absurd made

  -- one node more
  pub none_more : (hosts : List (Host D)) (host : Host D) → NoneIsSet words hosts → HasNoneSet words host.state
      → NoneIsSet words (hosts ++ host ∷ [])
  none_more [] host none one = (one, tt)
  none_more (first ∷ hosts) host none one = (none.0, none_more hosts host none.1 one)
