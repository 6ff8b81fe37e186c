-- A link that outside opens keeps a world bound.
use Rattle.std.proofs.Common.{inl, inr, get_or, ◌≡◌, ◌≢◌, ◌≤◌, ◌<◌, ℕ, zero, suc, nat_eq, false, List, [], ◌∷◌, ◌++◌, length, None, Some, refl, sym, subst, ap, ◌∙◌, cond, arith}
use Rattle.std.specs.Prelude.{slice_get}
use Rattle.std.specs.List.{AllByRecursion}
use Rattle.std.specs.Option.{is_some}
use Rattle.std.proofs.lemmas.Bool.{false≢true}
use Rattle.std.proofs.lemmas.Bool.Decides.{eqb_tells}
use Rattle.std.proofs.lemmas.List.{append-nil}
use Rattle.std.proofs.lemmas.Option.{same_Some, slice_get-get_or, slice_get_within}
use Rattle.relay_disk.specs.Device.{DiskWords}
use Rattle.relay_slots.specs.Slots.{OthersStay, slot_at}
use Rattle.relay_server.specs.Dialogue.{IsDialogue, Said}
use Rattle.relay_server.specs.Setup.{setup_for}
use Rattle.relay_server.proofs.Theorems.{what_stands_is_a_dialogue}
use Rattle.relay_routes.specs.declared.config.Config.{Config}
use Rattle.relay_book.specs.declared.change.Change.{Change}
use Rattle.relay_records.specs.Records.{Keeps}
use Rattle.relay_node.specs.Attempts.{Tells}
use Rattle.relay_node.specs.Node.{SeatHasSaid, NodeState, greeted_by}
use Rattle.relay_world.specs.declared.line.Line.{Line}
use Rattle.relay_world.specs.declared.line.Line.TheVariants.{Accepted, Became}
use Rattle.relay_world.specs.declared.link.Link.{Link}
use Rattle.relay_world.specs.declared.link.ServerEnd.{ServerEnd}
use Rattle.relay_world.specs.Bound.{HasSession, StateKeeps, HostKeeps, IsBound, IsServed, NodeKeeps, SaysThere, ServesLink, StandsAt, link_of}
use Rattle.relay_world.specs.Ledger.{accepts_on, steps_in}
use Rattle.relay_world.specs.Steps.{OpeningKeeps, opened_link}
use Rattle.relay_world.specs.World.{Down, HostState, Host, Up, World, link_at}
use Rattle.relay_world.proofs.FrameLemmas.{TellsOn}
use Rattle.relay_world.proofs.MoveLemmas.{link_cases, links_kept, Joins, Moves, moved_keeps, same_attempts, same_slots}
use Rattle.relay_world.proofs.UndecidedLemmas.{up_not_down}

pub off_by : (a b : ℕ) → a ≢ b → nat_eq a b ≡ false
off_by a b off = elim (eqb_tells a b) [ inl same ↦ absurd (off same.1) | inr other ↦ other.0 ]

pub number_within : (links : List Link) (number : ℕ) (link : Link) → link_at links number ≡ Some link → number ≤ length links
number_within links zero link is = omega arith
number_within links (suc n) link is = let within = slice_get_within links n link is in omega (arith, within)

-- no line tells of a link beyond the last
pub none_accepted : (number count : ℕ) (ledger : List Line) → count < number → AllByRecursion (λ line. link_of line ≤ count) ledger
    → accepts_on number ledger ≡ []
none_accepted number count [] beyond lines = refl
none_accepted number count (Accepted node change places link ∷ ledger) beyond lines =
    let off : nat_eq link number ≡ false = off_by link number (λ same. omega (arith, beyond, lines.0, same)) in
    ap (λ b. cond b ((change, places) ∷ []) [] ++ accepts_on number ledger) off
    ∙ none_accepted number count ledger beyond lines.1
none_accepted number count (Became step node change place link report ∷ ledger) beyond lines =
    none_accepted number count ledger beyond lines.1

pub lines_within : (count more : ℕ) (ledger : List Line) → count ≤ more → AllByRecursion (λ line. link_of line ≤ count) ledger
    → AllByRecursion (λ line. link_of line ≤ more) ledger
lines_within count more [] few lines = lines
lines_within count more (line ∷ ledger) few lines =
    let first = lines.0 in (omega (arith, few, first), lines_within count more ledger few lines.1)

-- the node that a state is, if it is up
abbrev node_or : {D : Type 0} → NodeState D → HostState D → NodeState D
node_or other (Up node) = node
node_or other (Down disk undecided) = other

pub same_Up : {D : Type 0} (one other : NodeState D) → Up one ≡ Up other → one ≡ other
same_Up one other same = ap (λ h. node_or one h) same

-- a number with a session isn't free
pub not_free : {D : Type 0} (config : Config) (node : NodeState D) (session : ℕ) (peer : List ℕ) (said : Said)
    → SeatHasSaid config node.seats session peer said → slot_at node.seats session ≡ None → ⊥
not_free config node session peer said says free = false≢true (ap is_some (sym free ∙ says.at))

-- what a session says where another number's value has changed
pub still_says : {D : Type 0} (config : Config) (before after : NodeState D) (number session : ℕ) (peer : List ℕ) (said : Said)
    → OthersStay before.seats after.seats number → session ≢ number → SeatHasSaid config before.seats session peer said
    → SeatHasSaid config after.seats session peer said
still_says config before after number session peer said others off says = record {
  seat = says.seat;
  at = others session off ∙ says.at;
  peer_is = says.peer_is;
  says = says.says;
}

-- a place of nodes has a list
pub list_there : {A : Type 0} (hosts : List A) (lists : List (List Change)) (n : ℕ) (host : A) → length lists ≡ length hosts
    → slice_get hosts n ≡ Some host → (list : List Change) × (slice_get lists n ≡ Some list)
list_there hosts lists n host even at =
    let within = slice_get_within hosts n host at in
    (get_or lists n [], slice_get-get_or lists n [] (omega (arith, even, within)))

module _ {D : Type 0} (honest : Type 0) (words : DiskWords D) where
  pub node_kept : (host : Host D) (changes : List Change) (before : NodeState D) → HostKeeps honest words host changes
      → host.state ≡ Up before → NodeKeeps honest words host.config before changes
  node_kept host changes before keeps up = subst (λ h. StateKeeps honest words host.config h changes) up keeps.holds

  -- the session of a link is taken at its node
  pub session_taken : (world : World D) (lists : List (List Change)) → IsBound honest words world lists → (node : ℕ) (host : Host D)
      (before : NodeState D) → slice_get world.hosts node ≡ Some host → host.state ≡ Up before
      → (other : ℕ) (its : Link) (session : ℕ) → link_at world.links other ≡ Some its → HasSession its node session
      → slot_at before.seats session ≡ None → ⊥
  session_taken world lists bound node host before at up other its session is has free =
      let served : IsServed world lists other its has.end = bound.servers other its has.end is has.serves in
      let same : served.host ≡ host =
      same_Some served.host host (sym served.stands.host_at ∙ ap (λ n. slice_get world.hosts n) has.its_node ∙ at) in
      let live : SaysThere served.host (Some session) has.end.peer served.serves.said =
      subst (λ s. SaysThere served.host s has.end.peer served.serves.said) has.its_session served.serves.live in
      let same_node : live.0 ≡ before = same_Up live.0 before (sym live.1 ∙ ap (λ (h : Host D). h.state) same ∙ up) in
      not_free served.host.config live.0 session has.end.peer served.serves.said live.2
      (ap (λ (n : NodeState D). slot_at n.seats session) same_node ∙ free)

  pub opening_keeps : OpeningKeeps honest words
  opening_keeps old new lists node peer bound opens = moved_keeps honest words old new lists lists node number host moved changes
      changes link bound moves joins
    where
      number : ℕ
      number = suc (length old.links)

      host : Host D
      host = opens.host

      moved : Host D
      moved = record host { state = Up opens.after }

      link : Link
      link = opened_link node peer opens.connected

      listed : (list : List Change) × (slice_get lists node ≡ Some list)
      listed = list_there old.hosts lists node host bound.even opens.host_at

      changes : List Change
      changes = listed.0

      stands : StandsAt old lists node host changes
      stands = record { host_at = opens.host_at; list_at = listed.1 }

      kept : HostKeeps honest words host changes
      kept = bound.hosts node host changes stands

      its_node : NodeKeeps honest words host.config opens.before changes
      its_node = node_kept host changes opens.before kept opens.up

      says_now : SeatHasSaid host.config opens.after.seats opens.connected.session peer (greeted_by opens.connected.out.items)
      says_now = subst (λ c. SeatHasSaid c opens.after.seats opens.connected.session peer (greeted_by opens.connected.out.items))
          its_node.config_is opens.connects.says

      dialogue : IsDialogue (setup_for host.config peer) (greeted_by opens.connected.out.items)
      dialogue = what_stands_is_a_dialogue (setup_for host.config peer) says_now.seat.session.value
          (greeted_by opens.connected.out.items) says_now.says.stands

      its_end : ServerEnd
      its_end = record { node = node; peer = peer; session = Some opens.connected.session }

      serves : ServesLink moved changes new.ledger number link its_end
      serves = record {
        said = greeted_by opens.connected.out.items;
        dialogue = dialogue;
        numbered = tt;
        answered = refl;
        input = refl;
        closing = None;
        closes = tt;
        closed = tt;
        wrote = ([], sym (append-nil opens.connected.out.items));
        whole = λ _. refl;
        accepts = ap (λ l. accepts_on number l) opens.rest.1
            ∙ none_accepted number (length old.links) old.ledger (omega arith) bound.lines;
        stored = tt;
        live = (opens.after, refl, says_now);
      }

      served : (end : ServerEnd) → link.server ≡ Some end → IsServed new lists number link end
      served end is = subst (λ e. IsServed new lists number link e) (same_Some its_end end is) (record {
        host = moved;
        changes = changes;
        stands = record { host_at = opens.hosts.at; list_at = listed.1 };
        serves = serves;
      })

      taken : (other : ℕ) (its : Link) → link_at old.links other ≡ Some its
          → HasSession its node opens.connected.session → ⊥
      taken other its is has = session_taken old lists bound node host opens.before opens.host_at opens.up other its
          opens.connected.session is has opens.connects.free.free

      still : (other : ℕ) (its : Link) (session : ℕ) → other ≢ number → link_at old.links other ≡ Some its
          → HasSession its node session → (peers : List ℕ) (said : Said) → SaysThere host (Some session) peers said
          → SaysThere moved (Some session) peers said
      still other its session off is has peers said says = (
        opens.after,
        refl,
        still_says host.config opens.before opens.after opens.connected.session session peers said opens.connects.others
            (λ same. taken other its is (subst (λ s. HasSession its node s) same has))
            (subst (λ (n : NodeState D). SeatHasSaid host.config n.seats session peers said)
            (same_Up says.0 opens.before (sym says.1 ∙ opens.up)) says.2),
      )

      tells : (slot : ℕ) → TellsOn host moved changes changes slot
      tells slot told is = (
        opens.after,
        refl,
        subst (λ l. Tells host.config.host changes l slot told) (sym opens.attempts)
            (subst (λ (n : NodeState D). Tells host.config.host changes n.attempts slot told)
            (same_Up is.0 opens.before (sym is.1 ∙ opens.up)) is.2),
      )

      moves : Moves honest words old new lists lists node number host moved changes changes link
      moves = record {
        stands = stands;
        hosts = opens.hosts;
        even = bound.even ∙ sym opens.rest.3;
        list = record { at = listed.1; others = λ other off. refl };
        links = link_cases old.links new.links number link opens.links;
        stays = opens.links.others;
        attempts = λ place attempt at off. same_attempts old.attempts new.attempts opens.rest.0 place attempt at;
        config = refl;
        stay = λ k c is. is;
        messages = λ k a is. is;
        accepts = λ other off. ap (λ l. accepts_on other l) opens.rest.1;
        steps = ap (λ l. steps_in node l) opens.rest.1 ∙ bound.ledger node changes listed.1;
        other_steps = λ other off. ap (λ l. steps_in other l) opens.rest.1;
        lines = subst (λ l. AllByRecursion (λ line. link_of line ≤ length new.links) l) (sym opens.rest.1)
            (lines_within (length old.links) (length new.links) old.ledger opens.links.grows bound.lines);
        says = still;
        tells = λ place attempt slot at off has. tells slot;
        keeps = record {
          list = kept.list;
          holds = record {
            config_is = opens.config ∙ its_node.config_is;
            keeps = subst (λ r. Keeps honest words r changes) (sym opens.records) its_node.keeps;
          };
          reports = kept.reports;
        };
      }

      joins : Joins honest words old new lists lists node number host moved changes changes link
      joins = record {
        served = served;
        tried = λ place is. absurd (false≢true (ap is_some is));
        reads = record { up = omega arith; down = omega arith };
        slots = same_slots old.attempts new.attempts opens.rest.0 bound.slots;
        attempts = links_kept old.links new.links number link opens.links
            (λ was there. let within = number_within old.links number was there in absurd (omega (arith, within)))
            old.attempts new.attempts opens.rest.0 bound.attempts;
        settled = λ was there broken. let within = number_within old.links number was there in absurd (omega (arith, within));
        may_be_in = λ disk undecided down. absurd (up_not_down opens.after disk (Some undecided) down);
        apart = λ other its at session off is mine yours.
            let same_end : its_end ≡ yours.end = same_Some its_end yours.end yours.serves in
            let same_node : node ≡ at = ap (λ (e : ServerEnd). e.node) same_end ∙ yours.its_node in
            let same_session : Some opens.connected.session ≡ Some session =
            ap (λ (e : ServerEnd). e.session) same_end ∙ yours.its_session in
            taken other its is (subst (λ n. HasSession its n opens.connected.session) (sym same_node)
            (subst (λ s. HasSession its at s) (sym (same_Some opens.connected.session session same_session)) mine));
      }
