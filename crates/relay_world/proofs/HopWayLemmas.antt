-- What changes of nodes, links and attempts leave attempts with the links that they are meant to have.
use Rattle.std.proofs.Common.{◌≡◌, ◌≢◌, ◌⊎◌, ◌+◌, inl, inr, ℕ, suc, true, List, [], ◌∷◌, ◌++◌, length, Option, None, Some, refl, sym, subst, ap, ◌∙◌, arith}
use Rattle.std.specs.Prelude.{slice_get}
use Rattle.std.proofs.lemmas.Bool.{cases_eq}
use Rattle.std.proofs.lemmas.Option.{none-some, same_Some}
use Rattle.relay_disk.specs.Device.{DiskWords}
use Rattle.relay_lines.specs.Reply.{Reply}
use Rattle.relay_node.specs.Node.{NodeState}
use Rattle.relay_routes.specs.declared.config.Config.{Config}
use Rattle.relay_world.specs.declared.attempt.Attempt.{Attempt}
use Rattle.relay_world.specs.declared.attempt.Fate.{Fate}
use Rattle.relay_world.specs.declared.attempt.Fate.TheVariants.{Dropped, Lost, Replied}
use Rattle.relay_world.specs.declared.link.Link.{Link}
use Rattle.relay_world.specs.declared.link.ServerEnd.{ServerEnd}
use Rattle.relay_world.specs.HangUp.{HangsUp}
use Rattle.relay_world.specs.HopLinks.{AreLinkedToHops, IsLinkedToHop, LeadsTo}
use Rattle.relay_world.specs.Steps.{AttemptOf, DropsAttempt, HasStarted, IsPut, IsPutAt, RecordsHeard, RecordsRead, WritesAs, without_note, EndsWith, ended_link}
use Rattle.relay_world.specs.Stops.{Decides, DropsAtStop, Finds, FindsOutcome, HasFound}
use Rattle.relay_records.specs.Records.{Kept}
use Rattle.relay_records.specs.declared.noted.Noted.{Noted}
use Rattle.relay_world.specs.World.{Down, FromClient, FromLoss, FromGivingUp, FromReplies, Host, Origin, Undecided, Up, World, link_at}
use Rattle.relay_world.proofs.ClaimLemmas.{there_too}
use Rattle.relay_world.proofs.HangUpLemmas.{LooseAttempt, LooseServer, attempt_back, link_onward}
use Rattle.relay_world.proofs.MoveLemmas.{put_cases}
use Rattle.relay_world.proofs.OpenLemmas.{number_within}
use Rattle.relay_world.proofs.RecordLemmas.{HasTakenOutcome, outcome_taken}

-- a server end that is at the node where it was, with the peer that it had
abbrev pub LeadsAs : Option ServerEnd → Option ServerEnd → Type 0
LeadsAs None now = now ≡ None
LeadsAs (Some was) now = (end : ServerEnd) × (now ≡ Some end) × (end.node ≡ was.node) × (end.peer ≡ was.peer)

leads_same : (end : Option ServerEnd) → LeadsAs end end
leads_same None = refl
leads_same (Some end) = (end, refl, refl, refl)

leads_like : (was now : Option ServerEnd) → now ≡ was → LeadsAs was now
leads_like was now same = subst (λ s. LeadsAs was s) (sym same) (leads_same was)

leads_ended : (was now : Option ServerEnd) (end : ServerEnd) (session : Option ℕ) → was ≡ Some end
    → now ≡ Some (record end { session = session }) → LeadsAs was now
leads_ended None now end session is says = absurd (none-some end is)
leads_ended (Some was) now end session is says =
    let same = same_Some was end is in (
      record end { session = session },
      says,
      ap (λ (e : ServerEnd). e.node) (sym same),
      ap (λ (e : ServerEnd). e.peer) (sym same),
    )

leads_loose : (was now : Option ServerEnd) → LooseServer was now → LeadsAs was now
leads_loose was now (inl same) = leads_like was now same
leads_loose was now (inr gone) = leads_ended was now gone.0 None gone.1 gone.2

led : (was now : Option ServerEnd) (end : ServerEnd) → LeadsAs was now → was ≡ Some end
    → (other : ServerEnd) × (now ≡ Some other) × (other.node ≡ end.node) × (other.peer ≡ end.peer)
led None now end leads is = absurd (none-some end is)
led (Some was) now end leads is =
    let same = same_Some was end is in
    (leads.0, leads.1, leads.2 ∙ ap (λ (e : ServerEnd). e.node) same, leads.3 ∙ ap (λ (e : ServerEnd). e.peer) same)

led_outside : (was now : Option ServerEnd) → LeadsAs was now → was ≡ None → now ≡ None
led_outside None now leads is = leads
led_outside (Some end) now leads is = absurd (none-some end (sym is))

-- an attempt of the same node, for the same hop, on the same link
pub record IsForSame (was attempt : Attempt) : Type 0 where
  pub node : attempt.node ≡ was.node
  pub hop : attempt.hop ≡ was.hop
  pub link : attempt.link ≡ was.link

for_same : (attempt : Attempt) → IsForSame attempt attempt
for_same attempt = record { node = refl; hop = refl; link = refl }

for_fate : (was attempt : Attempt) (fate : Fate) → attempt ≡ record was { fate = fate } → IsForSame was attempt
for_fate was attempt fate is = record {
  node = ap (λ (a : Attempt). a.node) is;
  hop = ap (λ (a : Attempt). a.hop) is;
  link = ap (λ (a : Attempt). a.link) is;
}

for_loose : (was attempt : Attempt) → LooseAttempt was attempt → IsForSame was attempt
for_loose was attempt (inl same) = subst (λ a. IsForSame was a) (sym same) (for_same was)
for_loose was attempt (inr gone) = for_fate was attempt Dropped gone.2

module _ {D : Type 0} (old new : World D) where
  -- each node goes by the configuration that it had, each link leads where it led, and each attempt was there for the same
  abbrev pub SameNames : Type 0
  SameNames = (n : ℕ) (host : Host D) → slice_get new.hosts n ≡ Some host
      → (was : Host D) × (slice_get old.hosts n ≡ Some was) × (host.config ≡ was.config)

  abbrev pub SameWays : Type 0
  SameWays = (number : ℕ) (was : Link) → link_at old.links number ≡ Some was
      → (its : Link) × (link_at new.links number ≡ Some its) × LeadsAs was.server its.server

  abbrev pub SameHops : Type 0
  SameHops = (at : ℕ) (attempt : Attempt) → slice_get new.attempts at ≡ Some attempt
      → (was : Attempt) × (slice_get old.attempts at ≡ Some was) × IsForSame was attempt

  pub names_put : (node : ℕ) (host moved : Host D) → slice_get old.hosts node ≡ Some host → IsPut old.hosts new.hosts node moved
      → moved.config ≡ host.config → SameNames
  names_put node host moved at put config n there is =
      elim (put_cases old.hosts new.hosts node moved put n there is) [
        | inl here ↦
            (host, ap (λ k. slice_get old.hosts k) here.0 ∙ at, ap (λ (h : Host D). h.config) (sym here.1) ∙ config)
        | inr other ↦ (there, other.1, refl)
      ]

  pub names_same : new.hosts ≡ old.hosts → SameNames
  names_same same n there is = (there, ap (λ l. slice_get l n) (sym same) ∙ is, refl)

  pub ways_put : (number : ℕ) (link : Link) → IsPutAt old.links new.links number link
      → ((was : Link) → link_at old.links number ≡ Some was → LeadsAs was.server link.server) → SameWays
  ways_put number link put leads other was is = elim (cases_eq other number) [
    | inl same ↦ (
      link,
      ap (λ n. link_at new.links n) same ∙ put.at,
      leads was (ap (λ n. link_at old.links n) (sym same) ∙ is),
    )
    | inr off ↦ (was, put.others other off ∙ is, leads_same was.server)
  ]

  pub ways_like : (number : ℕ) (was link : Link) → link_at old.links number ≡ Some was → link.server ≡ was.server
      → IsPutAt old.links new.links number link → SameWays
  ways_like number was link is server put =
      ways_put number link put
      (λ its at. leads_like its.server link.server
      (server ∙ ap (λ (l : Link). l.server) (same_Some was its (sym is ∙ at))))

  pub ways_ended : (number : ℕ) (was link : Link) (end : ServerEnd) (session : Option ℕ) → link_at old.links number ≡ Some was
      → was.server ≡ Some end → link.server ≡ Some (record end { session = session })
      → IsPutAt old.links new.links number link → SameWays
  ways_ended number was link end session is serves now put =
      ways_put number link put
      (λ its at. leads_ended its.server link.server end session
      (ap (λ (l : Link). l.server) (same_Some its was (sym at ∙ is)) ∙ serves) now)

  pub ways_same : new.links ≡ old.links → SameWays
  ways_same same number was is = (was, ap (λ l. link_at l number) same ∙ is, leads_same was.server)

  pub hops_same : new.attempts ≡ old.attempts → SameHops
  hops_same same at attempt is = (attempt, ap (λ l. slice_get l at) (sym same) ∙ is, for_same attempt)

  pub hops_put : (place : ℕ) (was : Attempt) (fate : Fate) → slice_get old.attempts place ≡ Some was
      → IsPut old.attempts new.attempts place (record was { fate = fate }) → SameHops
  hops_put place was fate there put at attempt is =
      elim (put_cases old.attempts new.attempts place (record was { fate = fate }) put at attempt is) [
        | inl here ↦ (was, ap (λ k. slice_get old.attempts k) here.0 ∙ there, for_fate was attempt fate (sym here.1))
        | inr other ↦ (attempt, other.1, for_same attempt)
      ]

  module _ (even : length new.hosts ≡ length old.hosts) (names : SameNames) (ways : SameWays) where
    leads_on : (was attempt : Attempt) → IsForSame was attempt → (link its : Link) → LeadsAs link.server its.server → (node : ℕ)
        → LeadsTo old was link node → LeadsTo new attempt its node
    leads_on was attempt same link its leads node to =
        let found = led link.server its.server to.end leads to.serves in
        record {
          end = found.0;
          serves = found.1;
          its_node = found.2 ∙ to.its_node;
          from = λ opener at.
              let before = names attempt.node opener at in
              found.3
              ∙ to.from before.0 (ap (λ n. slice_get old.hosts n) (sym same.node) ∙ before.1)
              ∙ ap (λ (c : Config). c.listen.ip.octets) (sym before.2);
        }

    linked_by : (was attempt : Attempt) → IsForSame was attempt → IsLinkedToHop old was → IsLinkedToHop new attempt
    linked_by was attempt same linked =
        let way = ways was.link linked.link linked.its_link in
        record {
          link = way.0;
          its_link = ap (λ n. link_at new.links n) same.link ∙ way.1;
          to_node = λ node host at name.
              let before = names node host at in
              leads_on was attempt same linked.link way.0 way.2 node
              (linked.to_node node before.0 before.1
              (ap (λ (c : Config). c.host) (sym before.2) ∙ name ∙ same.hop));
          to_outside = λ none. led_outside linked.link.server way.0.server way.2
              (linked.to_outside (λ node host at name. none_there none same node host at name));
        }
      where
        none_there : ((node : ℕ) (host : Host D) → slice_get new.hosts node ≡ Some host → host.config.host ≢ attempt.hop)
            → IsForSame was attempt → (node : ℕ) (host : Host D) → slice_get old.hosts node ≡ Some host
            → host.config.host ≡ was.hop → ⊥
        none_there none like node host at name =
            let there = there_too old.hosts new.hosts node host (sym even) at in
            let before = names node there.0 there.1 in
            none node there.0 there.1
            (ap (λ (c : Config). c.host) before.2
            ∙ ap (λ (h : Host D). h.config.host) (same_Some before.0 host (sym before.1 ∙ at)) ∙ name ∙ sym like.hop)

    pub all_linked : AreLinkedToHops old → SameHops → AreLinkedToHops new
    all_linked linked hops at attempt is =
        let before = hops at attempt is in linked_by before.0 attempt before.2 (linked at before.0 before.1)

  module _ (linked : AreLinkedToHops old) where
    -- what one node holds has changed, and nothing else
    pub one_node : (node : ℕ) (host moved : Host D) → slice_get old.hosts node ≡ Some host → IsPut old.hosts new.hosts node moved
        → moved.config ≡ host.config → length new.hosts ≡ length old.hosts → new.links ≡ old.links
        → new.attempts ≡ old.attempts → AreLinkedToHops new
    one_node node host moved at put config even links attempts =
        all_linked even (names_put node host moved at put config) (ways_same links) linked (hops_same attempts)

    -- a link has changed, and nothing of nodes and attempts
    pub one_link : (links : List Link) (number : ℕ) (was link : Link) → new ≡ record old { links = links }
        → link_at old.links number ≡ Some was → link.server ≡ was.server → IsPutAt old.links links number link → AreLinkedToHops new
    one_link links number was link same is server put =
        all_linked (ap (λ (w : World D). length w.hosts) same) (names_same (ap (λ (w : World D). w.hosts) same))
        (ways_like number was link is server
        (subst (λ l. IsPutAt old.links l number link) (sym (ap (λ (w : World D). w.links) same)) put)) linked
        (hops_same (ap (λ (w : World D). w.attempts) same))

    -- the outcome of an attempt was recorded
    pub recorded : (number change : ℕ) (of : AttemptOf old number) (after : NodeState D) (fate : Fate) (noted : Noted)
        → HasTakenOutcome old new number of after fate change noted → length new.hosts ≡ length old.hosts → SameWays
        → AreLinkedToHops new
    recorded number change of after fate noted taken even ways =
        all_linked even
        (names_put of.attempt.node of.host
        (record of.host { state = Up after; records = of.host.records ++ noted.octets ∷ [] }) of.host_at taken.hosts refl)
        ways linked (hops_put of.place of.attempt fate of.attempt_at taken.attempts)

    pub heard_names : (node number : ℕ) (host : Host D) (after : NodeState D) (change : Option ℕ) → slice_get old.hosts node ≡ Some host
        → RecordsHeard old new node number host after change → SameNames
    heard_names node number host after None at records =
        names_put node host (record host { state = Up after }) at records.0 refl
    heard_names node number host after (Some change) at records =
        names_put node host
        (record host { state = Up (without_note after); records = host.records ++ records.0.octets ∷ [] }) at records.2 refl

    -- an attempt has read replies, and goes on
    pub read_on : (number : ℕ) (of : AttemptOf old number) (after : NodeState D)
        → IsPut old.hosts new.hosts of.attempt.node (record of.host { state = Up after }) → new.attempts ≡ old.attempts
        → length new.hosts ≡ length old.hosts → SameWays → AreLinkedToHops new
    read_on number of after put same even ways =
        all_linked even (names_put of.attempt.node of.host (record of.host { state = Up after }) of.host_at put refl) ways
        linked (hops_same same)

    pub read_by : (number : ℕ) (of : AttemptOf old number) (after : NodeState D) (change : Option ℕ)
        → RecordsRead old new number of after change → length new.hosts ≡ length old.hosts → SameWays
        → AreLinkedToHops new
    read_by number of after None records even ways = read_on number of after records.0 records.2 even ways
    read_by number of after (Some change) records even ways =
        recorded number change of (without_note after) (Replied change) records.noted
        (outcome_taken old new number of after (Replied change) change records) even ways

    -- an attempt was dropped
    pub dropped : (number : ℕ) → DropsAttempt old new number → AreLinkedToHops new
    dropped number drops =
        all_linked drops.rest.1
        (names_put drops.of.attempt.node drops.of.host (record drops.of.host { state = Up drops.after })
        drops.of.host_at drops.hosts refl)
        (ways_same drops.links) linked
        (hops_put drops.of.place drops.of.attempt Dropped drops.of.attempt_at drops.attempts)

    -- an attempt has begun, as it is meant
    pub started : {honest : Type 0} {words : DiskWords D} (number message : ℕ) (hop : List ℕ)
        → HasStarted honest words old new number message hop → AreLinkedToHops new
    started number message hop starts at attempt is =
        elim (put_cases old.attempts new.attempts (length old.attempts) starts.attempt starts.attempts at attempt is) [
          | inl here ↦ subst (λ a. IsLinkedToHop new a) here.1 starts.linked
          | inr there ↦ linked_by starts.rest.2
              (names_put starts.attempt.node starts.host (record starts.host { state = Up starts.after }) starts.host_at
              starts.hosts refl)
              (blank_ways starts.is_blank.there) attempt attempt (for_same attempt) (linked at attempt there.1)
        ]
      where
        blank_ways : (link_at old.links number ≡ Some starts.blank)
            ⊎ ((number ≡ suc (length old.links)) × (starts.blank.server ≡ None) × (starts.blank.up_read ≡ 0)) → SameWays
        blank_ways (inl there) =
            ways_like number starts.blank (record starts.blank { client = Some (length old.attempts) }) there refl starts.links
        blank_ways (inr fresh) =
            ways_put number (record starts.blank { client = Some (length old.attempts) }) starts.links
            (λ was its.
            let within = number_within old.links number was its in
            let is_next = fresh.0 in
            absurd (omega (arith, within, is_next)))

    -- an attempt was dropped at a stop
    pub dropped_at : {honest : Type 0} {words : DiskWords D} (number : ℕ) (of : AttemptOf old number) (stopped : Kept D)
        (origin : Origin) → DropsAtStop honest words old new number of stopped origin → AreLinkedToHops new
    dropped_at number of stopped origin drops =
        all_linked drops.rest.2
        (names_put of.attempt.node of.host
        (record of.host { state = Down drops.disk (Some (record { note = drops.noted; origin = origin })) }) of.host_at
        drops.hosts refl)
        (ways_like number of.link (record of.link { broken = true }) of.link_is refl drops.links) linked
        (hops_put of.place of.attempt Dropped of.attempt_at drops.attempts)

    -- what a node finds that is opened
    found : (node : ℕ) (host : Host D) (after : NodeState D) (undecided : Undecided) → slice_get old.hosts node ≡ Some host
        → length new.hosts ≡ length old.hosts → HasFound old new node host after undecided → AreLinkedToHops new
    found node host after undecided at even finds = by undecided.origin finds.finds
      where
        names : SameNames
        names = names_put node host
            (record host { state = Up after; records = host.records ++ undecided.note.octets ∷ [] }) at finds.hosts refl

        outcome : (number place used : ℕ) (fate : Fate) → FindsOutcome old new number place used fate → AreLinkedToHops new
        outcome number place used fate its =
            all_linked even names
            (ways_like number its.link (record its.link { down_read = its.link.down_read + used }) its.link_is refl its.links)
            linked (hops_put place its.attempt fate its.attempt_at its.attempts)

        by : (origin : Origin) → Finds old new undecided.note origin → AreLinkedToHops new
        by (FromClient number) its =
            all_linked even names
            (ways_like number its.link (record its.link { up_read = its.link.up_read + undecided.note.used }) its.link_is refl
            its.links) linked (hops_same its.attempts)
        by (FromReplies number place message) its =
            outcome number place undecided.note.used (Replied undecided.note.number) its
        by (FromLoss number place message) its = outcome number place undecided.note.used (Lost undecided.note.number) its
        by (FromGivingUp message) its = all_linked even names (ways_same its.0) linked (hops_same its.1)

    pub decided : (node : ℕ) (host : Host D) (after : NodeState D) (undecided : Option Undecided)
        → slice_get old.hosts node ≡ Some host → length new.hosts ≡ length old.hosts → Decides old new node host after undecided
        → AreLinkedToHops new
    decided node host after None at even none =
        one_node node host (record host { state = Up after }) at none.hosts refl even none.links none.attempts
    decided node host after (Some undecided) at even (inl none) =
        one_node node host (record host { state = Up after }) at none.1.hosts refl even none.1.links none.1.attempts
    decided node host after (Some undecided) at even (inr its) = found node host after undecided at even its.1

    pub let_go : (node : ℕ) → HangsUp old new node → AreLinkedToHops new
    let_go node hangs =
        all_linked (ap (λ (w : World D). length w.hosts) hangs.new_is) (names_same (ap (λ (w : World D). w.hosts) hangs.new_is))
        (λ number was is.
        let next = link_onward node (link_at old.links number) (link_at hangs.links number) was (hangs.each_link number) is in (
          next.0,
          ap (λ (w : World D). link_at w.links number) hangs.new_is ∙ next.1,
          leads_loose was.server next.0.server next.2.server,
        )) linked
        (λ at attempt is.
        let before = attempt_back node (slice_get old.attempts at) (slice_get hangs.attempts at) attempt (hangs.each_attempt at)
        (sym (ap (λ (w : World D). slice_get w.attempts at) hangs.new_is) ∙ is) in
        (before.0, before.1, for_loose before.0 attempt before.2))

pub written_server : (link written : Link) (octets : List ℕ) → WritesAs link octets written → written.server ≡ link.server
written_server link written octets (inl up) = ap (λ (l : Link). l.server) up.1
written_server link written octets (inr down) = ap (λ (l : Link). l.server) down.1

-- a session that is gone, with a reply after all others or none
pub ended : {D : Type 0} (old new : World D) → AreLinkedToHops old → (number : ℕ) (closing : Option Reply)
    → EndsWith old new number closing → AreLinkedToHops new
ended old new linked number closing ends =
    all_linked old new ends.rest.3
    (names_put old new ends.of.end.node ends.of.host (record ends.of.host { state = Up ends.after }) ends.of.host_at ends.hosts
    refl)
    (ways_ended old new number ends.of.link (ended_link ends.of.link ends.of.end closing) ends.of.end None ends.of.link_is
    ends.of.serves refl ends.links) linked (hops_same old new ends.rest.0)
