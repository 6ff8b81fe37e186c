-- A session that is told of its link's break.
use Rattle.std.proofs.Common.{inl, inr, nat_eq, ◌≡◌, ◌<◌, ◌-◌, ℕ, Bool, true, false, List, Option, None, Some, refl, sym, subst, ap, ◌∙◌, arith}
use Rattle.std.specs.Prelude.{if◌then◌else◌, slice_get, slice_set}
use Rattle.std.specs.Option.{is_some}
use Rattle.std.proofs.lemmas.Bool.{false≢true}
use Rattle.std.proofs.lemmas.Bool.Decides.{eqb_tells}
use Rattle.std.proofs.lemmas.List.{length-set}
use Rattle.std.proofs.lemmas.Option.{same_Some}
use Rattle.relay_disk.specs.Device.{DiskWords}
use Rattle.relay_book.specs.declared.change.Change.{Change}
use Rattle.relay_server.specs.Dialogue.{Said}
use Rattle.relay_routes.specs.declared.config.Config.{Config}
use Rattle.relay_node.specs.Node.{SeatHasSaid, NodeState}
use Rattle.relay_world.specs.declared.link.Link.{Link}
use Rattle.relay_world.specs.declared.link.ServerEnd.{ServerEnd}
use Rattle.relay_world.specs.Bound.{StateKeeps, IsBound, NodeKeeps, SaysThere}
use Rattle.relay_world.specs.Crashes.{serves_for}
use Rattle.relay_world.specs.Steps.{EndsSession, IsPut, IsPutAt, SessionOf}
use Rattle.relay_world.specs.World.{Host, Up, World, link_at}
use Rattle.relay_hosts.specs.Call.{HasSession, HoldsSession, LosesSession}
use Rattle.relay_hosts.specs.Room.{HasRoom, lines_held}
use Rattle.relay_events.specs.Told.{IsFirstUntold, TriesAt, ends_of}
use Rattle.relay_hosts.specs.Links.{hears_on, tries_on}
use Rattle.relay_events.proofs.CountLemmas.{session_less}
use Rattle.relay_events.proofs.PlaceLemmas.{link_put, link_there, value_put}
use Rattle.relay_events.proofs.ReopenLemmas.{held_put}

-- where no server end is, or no session goes on there, nothing is heard
pub no_server : (server : Option ServerEnd) → server ≡ None → hears_on server ≡ true → ⊥
no_server server none hears = false≢true (sym (ap hears_on none) ∙ hears)

pub no_session : (server : Option ServerEnd) (end : ServerEnd) → server ≡ Some end → end.session ≡ None → hears_on server ≡ true → ⊥
no_session server end is none hears = false≢true (sym (ap hears_on is ∙ ap is_some none) ∙ hears)

module _ {D : Type 0} (honest : Type 0) (words : DiskWords D) where
  -- the node of a session that goes on, and what it knows of it
  pub record ServesThere (world : World D) (end : ServerEnd) (session : ℕ) : Type 0 where
    pub host : Host D
    pub host_at : slice_get world.hosts end.node ≡ Some host
    pub before : NodeState D
    pub up : host.state ≡ Up before
    pub has : HasSession honest words host session

  knows_session : (host : Host D) (changes : List Change) (peer : List ℕ) (said : Said) (session : ℕ) (before : NodeState D)
      → host.state ≡ Up before → NodeKeeps honest words host.config before changes
      → SeatHasSaid host.config before.seats session peer said → HasSession honest words host session
  knows_session host changes peer said session before up keeps says =
      subst (λ h. HoldsSession honest words h session) (sym up) (record {
        changes = changes;
        keeps = keeps.keeps;
        peer = peer;
        said = said;
        says = subst (λ (c : Config). SeatHasSaid c before.seats session peer said) (sym keeps.config_is) says;
      })

  pub serves_there : (world : World D) (lists : List (List Change)) (number : ℕ) (link : Link) (end : ServerEnd) (session : ℕ)
      → IsBound honest words world lists → link_at world.links number ≡ Some link → link.server ≡ Some end
      → end.session ≡ Some session → ServesThere world end session
  serves_there world lists number link end session bound is serves goes_on =
      let served = bound.servers number link end is serves in
      let there : SaysThere served.host (Some session) end.peer served.serves.said =
      subst (λ s. SaysThere served.host s end.peer served.serves.said) goes_on served.serves.live in
      let kept = bound.hosts end.node served.host served.changes served.stands in
      let keeps : StateKeeps honest words served.host.config (Up there.0) served.changes =
      subst (λ h. StateKeeps honest words served.host.config h served.changes) there.1 kept.holds in
      record {
        host = served.host;
        host_at = served.stands.host_at;
        before = there.0;
        up = there.1;
        has = knows_session served.host served.changes end.peer served.serves.said session there.0 there.1 keeps there.2;
      }

module _ {D : Type 0} (old : World D) (number : ℕ) (link : Link) (link_is : link_at old.links number ≡ Some link) (end : ServerEnd)
    (serves : link.server ≡ Some end) (session : ℕ) (goes_on : end.session ≡ Some session) (was now : Host D)
    (was_at : slice_get old.hosts end.node ≡ Some was) (loses : LosesSession was now session) (moved : Link)
    (moved_is : moved ≡ record link { server = Some (record end { session = None }) }) where
  abbrev pub ended_world : World D
  ended_world = record old {
    hosts = slice_set old.hosts end.node now;
    links = slice_set old.links (number - 1) moved;
  }

  pub has_ended : EndsSession old ended_world number
  has_ended = record {
    of = record {
      link = link;
      link_is = link_is;
      end = end;
      serves = serves;
      session = session;
      goes_on = goes_on;
      host = was;
      host_at = was_at;
      before = loses.before;
      up = loses.runs.up;
    };
    after = loses.after;
    records = loses.records;
    gone = loses.gone;
    others = loses.others;
    config = loses.runs.config;
    attempts = loses.attempts;
    hosts = subst (λ h. IsPut old.hosts (slice_set old.hosts end.node now) end.node h) loses.runs.new_is
        (value_put old.hosts end.node was now was_at);
    links = subst (λ l. IsPutAt old.links (slice_set old.links (number - 1) moved) number l) moved_is
        (link_put old.links number link moved link_is);
    rest = (refl, refl, refl, length-set old.hosts end.node now);
  }

  pub ended_room : (free : ℕ) → HasRoom old free → HasRoom ended_world free
  ended_room free room =
      let put = held_put old.hosts end.node 0 end.node was now (omega arith) was_at in
      let none : lines_held end.node was.state ≡ 0 = ap (λ h. lines_held end.node h) loses.runs.up in
      let none_now : lines_held end.node now.state ≡ 0 = ap (λ (h : Host D). lines_held end.node h.state) loses.runs.new_is in
      omega (arith, room, put, none, none_now)

  pub ended_fewer : ends_of ended_world < ends_of old
  ended_fewer =
      let less = session_less old.links (number - 1) link moved (link_there old.links number link link_is)
      (ap hears_on serves ∙ ap is_some goes_on) (ap (λ (l : Link). hears_on l.server) moved_is) in
      omega (arith, less)

-- of a link of which a node has still to be told, where no session goes on, the attempt runs
pub tries_there : {D : Type 0} (world : World D) (number : ℕ) → (first : IsFirstUntold world number)
    → hears_on first.link.server ≡ false → TriesAt world number
tries_there world number first silent = record {
  link = first.link;
  link_is = first.link_is;
  tries = tries_of first.link.broken (hears_on first.link.server) (tries_on world.attempts first.link.client) silent first.untold;
}
  where
    tries_of : (broken hears tries : Bool) → hears ≡ false
        → (if broken then (if hears then true else tries) else false) ≡ true → tries ≡ true
    tries_of true hears tries silent untold = sym (ap (λ b. if b then true else tries) silent) ∙ untold
    tries_of false hears tries silent untold = absurd (false≢true untold)

same_node : (node other : ℕ) → nat_eq node other ≡ true → node ≡ other
same_node node other is =
    elim (eqb_tells node other) [ inl same ↦ same.1 | inr off ↦ absurd (false≢true (sym off.0 ∙ is)) ]

-- the node of a session is the one that has the server end of its link
pub served_by : {D : Type 0} (world : World D) (number node : ℕ) (of : SessionOf world number) (link : Link)
    → link_at world.links number ≡ Some link → serves_for node link.server ≡ true → of.end.node ≡ node
served_by world number node of link is serves =
    let same : link ≡ of.link = same_Some link of.link (sym is ∙ of.link_is) in
    same_node of.end.node node
    (sym (ap (λ s. serves_for node s) (ap (λ (l : Link). l.server) same ∙ of.serves)) ∙ serves)
