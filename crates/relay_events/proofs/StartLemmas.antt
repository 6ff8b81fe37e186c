-- An attempt that begins, on a link to outside, or on one that was opened to a node.
use Rattle.std.proofs.Common.{inl, inr, ◌≡◌, ◌≢◌, ◌<◌, ◌≤◌, ◌+◌, ℕ, true, false, List, [], ◌∷◌, ◌++◌, length, Option, None, Some, refl, sym, subst, ap, ◌∙◌, arith}
use Rattle.std.specs.Prelude.{if◌then◌else◌, slice_get, slice_set}
use Rattle.std.proofs.lemmas.Bool.Decides.{eqb_tells}
use Rattle.std.proofs.lemmas.List.{length-set}
use Rattle.std.proofs.lemmas.Option.{same_Some}
use Rattle.relay_disk.specs.Device.{DiskWords}
use Rattle.relay_routes.specs.declared.config.Config.{Config}
use Rattle.relay_world.specs.declared.attempt.Attempt.{Attempt}
use Rattle.relay_world.specs.declared.link.Link.{Link}
use Rattle.relay_world.specs.declared.link.ServerEnd.{ServerEnd}
use Rattle.relay_world.specs.HopLinks.{IsLinkedToHop}
use Rattle.relay_world.specs.Once.{RunsKeepAll, Starts}
use Rattle.relay_world.specs.Steps.{HasStarted, IsBlank, IsPut, IsPutAt}
use Rattle.relay_world.specs.World.{Host, Up, World, link_at}
use Rattle.relay_hosts.specs.Links.{hears_on, is_running, runs_there, tries_on}
use Rattle.relay_events.specs.Give.{HasBegun}
use Rattle.relay_hosts.specs.Named.{NoneIsNamed}
use Rattle.relay_events.specs.Happened.{HasHappened}
use Rattle.relay_events.specs.Relays.{AreBound, HaveOwnNames}
use Rattle.relay_hosts.specs.Room.{HasRoom, lines_held, lines_left, lines_to_come}
use Rattle.relay_events.specs.Told.{LearnsOfBreaks}
use Rattle.relay_events.proofs.CountLemmas.{lines_one}
use Rattle.relay_events.proofs.EventLemmas.{put_as}
use Rattle.relay_events.proofs.NamesLemmas.{SameNames, names_put}
use Rattle.relay_events.proofs.PlaceLemmas.{value_put}
use Rattle.relay_events.proofs.PutLemmas.{put_push}
use Rattle.relay_events.proofs.ReopenLemmas.{held_put}
use Rattle.relay_events.proofs.RunLemmas.{one_happened, still_bound}
use Rattle.relay_events.proofs.TellLemmas.{get_within}

-- an attempt more that runs may come to need its lines
lines_pushed : (attempts : List Attempt) (attempt : Attempt)
    → lines_to_come (attempts ++ attempt ∷ []) ≡ lines_to_come attempts + lines_one attempt
lines_pushed [] attempt = omega arith
lines_pushed (x ∷ xs) attempt = let rest = lines_pushed xs attempt in omega (arith, rest)

-- an attempt more changes nothing of those before it
tries_before : (attempts : List Attempt) (attempt : Attempt) (place : ℕ) (other : Attempt) → slice_get attempts place ≡ Some other
    → slice_get (attempts ++ attempt ∷ []) place ≡ slice_get attempts place
tries_before attempts attempt place other is =
    let within = get_within attempts place other is in
    (put_push attempts attempt).others place (off place (length attempts) within)
  where
    off : (n m : ℕ) → n < m → n ≢ m
    off n m less same = absurd (omega (arith, less, same))

-- a link with outside at its server end, and this attempt at its client end
abbrev pub outside_link : ℕ → Link
outside_link place = record {
  client = Some place;
  server = None;
  up = [];
  up_read = 0;
  down = [];
  down_read = 0;
  broken = false;
}

module _ {D : Type 0} (honest : Type 0) (words : DiskWords D) (old mid new : World D) (node message : ℕ) (hop : List ℕ)
    (number place : ℕ) (begun : HasBegun honest words old mid node message hop number place) (links : List Link) (blank : Link)
    (is_blank : IsBlank old number blank)
    (put : IsPutAt old.links links number (record blank { client = Some (length old.attempts) }))
    (new_is : new ≡ record old {
      hosts = slice_set old.hosts node begun.now;
      attempts = old.attempts ++ begun.attempt ∷ [];
      links = links;
    }) where
  pub same_node : begun.attempt.node ≡ node
  same_node = begun.is_attempt.0

  same_number : begun.attempt.link ≡ number
  same_number = begun.is_attempt.4

  pub host_put : IsPut old.hosts new.hosts node begun.now
  host_put =
      subst (λ hs. IsPut old.hosts hs node begun.now) (sym (ap (λ (w : World D). w.hosts) new_is))
      (value_put old.hosts node begun.was begun.now begun.was_at)

  pub attempt_put : IsPut old.attempts new.attempts (length old.attempts) begun.attempt
  attempt_put =
      subst (λ tries. IsPut old.attempts tries (length old.attempts) begun.attempt) (sym (ap (λ (w : World D). w.attempts) new_is))
      (put_push old.attempts begun.attempt)

  pub link_put_now : IsPutAt old.links new.links number (record blank { client = Some (length old.attempts) })
  link_put_now =
      subst (λ ls. IsPutAt old.links ls number (record blank { client = Some (length old.attempts) }))
      (sym (ap (λ (w : World D). w.links) new_is)) put

  pub started_names : SameNames old.hosts new.hosts
  started_names =
      names_put old.hosts new.hosts node begun.was begun.now begun.was_at host_put
      (ap (λ (h : Host D). h.config) begun.begins.runs.new_is)

  -- its link leads to outside, since no node has the name
  pub linked_outside : blank.server ≡ None → NoneIsNamed old.hosts hop → IsLinkedToHop new begun.attempt
  linked_outside outside none = record {
    link = record blank { client = Some (length old.attempts) };
    its_link = ap (λ n. link_at new.links n) same_number ∙ link_put_now.at;
    to_node = λ other host at named.
        let was = started_names other host at in
        absurd (none other was.0 was.1 (ap (λ (c : Config). c.host) (sym was.2) ∙ named ∙ begun.is_attempt.2));
    to_outside = λ all. outside;
  }

  -- or to the node that has the name
  pub linked_there : (to : ℕ) (end : ServerEnd) (host : Host D) → blank.server ≡ Some end → end.node ≡ to
      → slice_get old.hosts to ≡ Some host → host.config.host ≡ hop → HaveOwnNames old.hosts
      → end.peer ≡ begun.was.config.listen.ip.octets → IsLinkedToHop new begun.attempt
  linked_there to end host serves its_node host_at named own from = record {
    link = record blank { client = Some (length old.attempts) };
    its_link = ap (λ n. link_at new.links n) same_number ∙ link_put_now.at;
    to_node = λ other its at name.
        let was = started_names other its at in
        let same : to ≡ other = own to other host was.0 host_at was.1
        (named ∙ sym (begun.is_attempt.2) ∙ sym name ∙ ap (λ (c : Config). c.host) was.2) in
        record {
          end = end;
          serves = serves;
          its_node = its_node ∙ same;
          from = λ opener there. from_opener opener there;
        };
    to_outside = λ all.
        let there = there_still in
        absurd (all to there.0 there.1 (there.2 ∙ named ∙ sym (begun.is_attempt.2)));
  }
    where
      from_opener : (opener : Host D) → slice_get new.hosts begun.attempt.node ≡ Some opener
          → end.peer ≡ opener.config.listen.ip.octets
      from_opener opener there =
          let was = started_names begun.attempt.node opener there in
          let same : was.0 ≡ begun.was = same_Some was.0 begun.was
          (sym was.1 ∙ ap (λ n. slice_get old.hosts n) same_node ∙ begun.was_at) in
          from ∙ ap (λ (h : Host D). h.config.listen.ip.octets) (sym same)
          ∙ ap (λ (c : Config). c.listen.ip.octets) (sym was.2)

      there_still : (its : Host D) × (slice_get new.hosts to ≡ Some its) × (its.config.host ≡ host.config.host)
      there_still = elim (eqb_tells to node) [
        | inl here ↦
            let same : begun.was ≡ host = same_Some begun.was host
            (sym begun.was_at ∙ ap (λ n. slice_get old.hosts n) (sym here.1) ∙ host_at) in (
              begun.now,
              ap (λ n. slice_get new.hosts n) here.1 ∙ host_put.at,
              ap (λ (h : Host D). h.config.host) begun.begins.runs.new_is ∙ ap (λ (h : Host D). h.config.host) same,
            )
        | inr off ↦ (host, host_put.others to off.1 ∙ host_at, refl)
      ]

  module _ (linked : IsLinkedToHop new begun.attempt) where
    abbrev pub has_started : HasStarted honest words old new number message hop
    has_started = record {
      attempt = begun.attempt;
      host = begun.was;
      host_at = ap (λ n. slice_get old.hosts n) same_node ∙ begun.was_at;
      before = begun.begins.before;
      up = begun.begins.runs.up;
      after = begun.begins.after;
      started = begun.started;
      begins = begun.begins.begins;
      records = begun.begins.records;
      config = begun.begins.runs.config;
      seats = begun.begins.seats;
      is_attempt = (refl, begun.is_attempt.1, begun.is_attempt.2, begun.is_attempt.3, begun.is_attempt.4, begun.is_attempt.5);
      blank = blank;
      is_blank = is_blank;
      hosts = subst (λ n. IsPut old.hosts new.hosts n (record begun.was { state = Up begun.begins.after })) (sym same_node)
          (put_as honest words old new node begun.now (record begun.was { state = Up begun.begins.after }) begun.begins.runs.new_is
          host_put);
      links = link_put_now;
      attempts = attempt_put;
      linked = linked;
      rest = (
        ap (λ (w : World D). w.ledger) new_is,
        ap (λ (w : World D). w.clock) new_is,
        ap (λ (w : World D). length w.hosts) new_is ∙ length-set old.hosts node begun.now,
      );
    }

    pub started_happened : HasHappened honest words old new
    started_happened = one_happened honest words old new (Starts number message hop has_started)

    pub started_bound : honest → RunsKeepAll honest words → AreBound honest words old → AreBound honest words new
    started_bound is_honest keeps bound = still_bound honest words is_honest keeps old new bound started_happened

  runs : is_running begun.attempt.fate ≡ true
  runs = ap is_running begun.is_attempt.5

  -- an attempt has at most 100 places, where relays are bound
  few_places : AreBound honest words new → length begun.attempt.places.items ≤ 100
  few_places bound =
      let its = bound.bound.attempts (length old.attempts) begun.attempt attempt_put.at in
      let tried = bound.bound.clients begun.attempt.link (length old.attempts) its.link its.is_there its.client in
      let same : tried.attempt ≡ begun.attempt = same_Some tried.attempt begun.attempt (sym tried.attempt_at ∙ attempt_put.at) in
      let few = tried.passes.few in
      let as_many = ap (λ (a : Attempt). length a.places.items) same in
      omega (arith, few, as_many)

  pub started_room : (free : ℕ) → AreBound honest words new → lines_to_come old.attempts + lines_left 0 old.hosts + 100 ≤ free
      → HasRoom new free
  started_room free bound room =
      let put = held_put old.hosts node 0 node begun.was begun.now (omega arith) begun.was_at in
      let none : lines_held node begun.was.state ≡ 0 = ap (λ h. lines_held node h) begun.begins.runs.up in
      let none_now : lines_held node begun.now.state ≡ 0 =
      ap (λ (h : Host D). lines_held node h.state) begun.begins.runs.new_is in
      let attempts : lines_to_come new.attempts ≡ lines_to_come (old.attempts ++ begun.attempt ∷ []) =
      ap (λ (w : World D). lines_to_come w.attempts) new_is in
      let hosts : lines_left 0 new.hosts ≡ lines_left 0 (slice_set old.hosts node begun.now) =
      ap (λ (w : World D). lines_left 0 w.hosts) new_is in
      let pushed = lines_pushed old.attempts begun.attempt in
      let one : lines_one begun.attempt ≡ length begun.attempt.places.items =
      ap (λ b. if b then length begun.attempt.places.items else 0) runs in
      let few = few_places bound in
      omega (arith, room, put, none, none_now, attempts, hosts, pushed, one, few)

  tries_same : (client : Option ℕ)
      → ((at : ℕ) → client ≡ Some at → (attempt : Attempt) × (slice_get old.attempts at ≡ Some attempt))
      → tries_on new.attempts client ≡ tries_on old.attempts client
  tries_same None there = refl
  tries_same (Some at) there =
      let its = there at refl in
      ap runs_there (ap (λ (w : World D). slice_get w.attempts at) new_is ∙ tries_before old.attempts begun.attempt at its.0 its.1)

  -- the link is whole, so that each node was told of each break, as before
  pub started_told : AreBound honest words old → LearnsOfBreaks old → LearnsOfBreaks new
  started_told bound told other link is = elim (eqb_tells other number) [
    | inl here ↦
        let same : link ≡ record blank { client = Some (length old.attempts) } =
        same_Some link (record blank { client = Some (length old.attempts) })
        (sym is ∙ ap (λ n. link_at new.links n) here.1 ∙ link_put_now.at) in
        ap (λ b. if b then (if hears_on link.server then true else tries_on new.attempts link.client) else false)
        (ap (λ (l : Link). l.broken) same ∙ is_blank.whole)
    | inr off ↦
        let was : link_at old.links other ≡ Some link = sym (link_put_now.others other off.1) ∙ is in
        let same = tries_same link.client (λ at client.
        let tried = bound.bound.clients other at link was client in
        (tried.attempt, tried.attempt_at)) in
        ap (λ b. if link.broken then (if hears_on link.server then true else b) else false) same ∙ told other link was
  ]
