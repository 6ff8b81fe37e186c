-- Each event between two nodes that are up keeps a place from being tried twice.
use Rattle.std.proofs.Common.{◌≡◌, ◌≢◌, inl, inr, ℕ, suc, List, [], ◌∷◌, ◌++◌, length, true, Option, None, Some, refl, sym, subst, ap, ◌∙◌, cond, arith}
use Rattle.std.specs.Prelude.{slice_get}
use Rattle.std.proofs.lemmas.List.{append-nil}
use Rattle.std.proofs.lemmas.Option.{none-some}
use Rattle.relay_octets.specs.Beginning.{Begins}
use Rattle.relay_lines.specs.Reply.{Reply}
use Rattle.relay_disk.specs.Device.{DiskWords}
use Rattle.relay_book.specs.declared.change.Change.{Change}
use Rattle.relay_book.specs.declared.fate.PlaceStep.{PlaceStep}
use Rattle.relay_node.specs.Node.{NodeState}
use Rattle.relay_records.specs.declared.noted.Noted.{Noted}
use Rattle.relay_world.specs.GivingUp.{Reason, Withdrawing}
use Rattle.relay_world.specs.declared.attempt.Attempt.{Attempt}
use Rattle.relay_world.specs.declared.attempt.Fate.{Fate}
use Rattle.relay_world.specs.declared.attempt.Fate.TheVariants.{Lost, Dropped, Replied}
use Rattle.relay_world.specs.declared.line.Line.{Line}
use Rattle.relay_world.specs.declared.line.Line.TheVariants.{Accepted}
use Rattle.relay_world.specs.declared.link.Link.{Link}
use Rattle.relay_world.specs.declared.link.ServerEnd.{ServerEnd}
use Rattle.relay_world.specs.Bound.{IsBound}
use Rattle.relay_world.specs.Ledger.{accepts_on, left_lines, report_told}
use Rattle.relay_world.specs.Once.{IsTriedOnce}
use Rattle.relay_world.specs.Steps.{AttemptOf, Breaks, DropsAttempt, EndsWith, HasGivenUp, HasHeard, HasLost, HasOpened, HasRead, HasWritten, IsPut, IsPutAt, RecordsRead, WritesAs, heard_link, opened_link, read_link, without_note, ended_link, SessionOf}
use Rattle.relay_world.specs.World.{Host, Up, World, link_at}
use Rattle.relay_world.proofs.AddedLemmas.{AsksBy, HasTakenDown, given_adds, heard_adds, left_by, lost_adds, taken_down}
use Rattle.relay_world.proofs.TakerLemmas.{EndedStay, ListsAdd, ended_same, ended_still, lists_same, lists_stay, takers_kept}
use Rattle.relay_world.proofs.ClaimLemmas.{GivenUpKept, HostsGrow, NoneOutside, WasThere, all_same, given_same, given_up_at, hosts_put, hosts_same, once_kept, one_ended, outside_put, outside_same}
use Rattle.relay_world.proofs.FrameLemmas.{accepts_on_more}
use Rattle.relay_world.proofs.OpenLemmas.{off_by}
use Rattle.relay_world.proofs.RecordLemmas.{HasTakenOutcome, none_left_accepted, outcome_taken}

-- what left adds no accept, and an accept on another link none here
pub left_same : (ledger grown : List Line) (node message link report : ℕ) (left : List (ℕ × PlaceStep))
    → grown ≡ ledger ++ left_lines node message link report left → (other : ℕ) → accepts_on other grown ≡ accepts_on other ledger
left_same ledger grown node message link report left is other =
    ap (λ l. accepts_on other l) is ∙ accepts_on_more other ledger (left_lines node message link report left)
    ∙ ap (λ l. accepts_on other ledger ++ l) (none_left_accepted node other message link report left)
    ∙ append-nil (accepts_on other ledger)

pub accepted_elsewhere : (ledger grown : List Line) (node number places link : ℕ)
    → grown ≡ ledger ++ Accepted node number places link ∷ [] → (other : ℕ) → other ≢ link
    → accepts_on other grown ≡ accepts_on other ledger
accepted_elsewhere ledger grown node number places link is other off =
    ap (λ l. accepts_on other l) is ∙ accepts_on_more other ledger (Accepted node number places link ∷ [])
    ∙ ap (λ b. accepts_on other ledger ++ (cond b ((number, places) ∷ []) [] ++ []))
    (off_by link other (λ same. off (sym same)))
    ∙ append-nil (accepts_on other ledger)

module _ {D : Type 0} (honest : Type 0) (words : DiskWords D) (old new : World D) (lists later : List (List Change))
    (bound : IsBound honest words old lists) {asked : List Withdrawing} (once : IsTriedOnce old lists asked) (now : IsBound honest words new later) where
  abbrev Grow : Type 0
  Grow = HostsGrow honest words old new lists later bound once now

  abbrev Outside : Type 0
  Outside = NoneOutside honest words old new lists later bound once now

  abbrev There : Type 0
  There = (at : ℕ) (attempt : Attempt) → slice_get new.attempts at ≡ Some attempt
      → WasThere honest words old new lists later bound once now at attempt

  abbrev Adds : Type 0
  Adds = ListsAdd honest words old new lists later bound once now

  abbrev Stay : Type 0
  Stay = EndedStay honest words old new lists later bound once now

  abbrev Given : Type 0
  Given = GivenUpKept honest words old new lists later bound once now

  pub kept : Grow → There → Adds → Stay → Given → Outside → IsTriedOnce new later asked
  kept grow there adds stay given outside =
      once_kept honest words old new lists later bound once now grow there
      (takers_kept honest words old new lists later bound once now grow adds stay) given outside

  -- a node that is up has nothing undecided
  given_at : (node : ℕ) (host : Host D) (after : NodeState D) (records : List (List ℕ))
      → IsPut old.hosts new.hosts node (record host { state = Up after; records = records }) → Given
  given_at node host after records put = given_up_at honest words old new lists later bound once now node host after records put

  pub same_ends : new.attempts ≡ old.attempts → Stay
  same_ends same = ended_same honest words old new lists later bound once now same

  pub there_same : new.attempts ≡ old.attempts → There
  there_same same = all_same honest words old new lists later bound once now same

  -- one node has moved on, and its records have grown
  pub moved_on : (node : ℕ) (host moved : Host D) → slice_get old.hosts node ≡ Some host → IsPut old.hosts new.hosts node moved
      → moved.config ≡ host.config → Begins host.records moved.records → Grow
  moved_on node host moved at put config records =
      hosts_put honest words old new lists later bound once now node host moved at put config records

  -- or it has the same records
  stayed : (node : ℕ) (host : Host D) (after : NodeState D) → slice_get old.hosts node ≡ Some host
      → IsPut old.hosts new.hosts node (record host { state = Up after }) → Grow
  stayed node host after at put =
      moved_on node host (record host { state = Up after }) at put refl ([], sym (append-nil host.records))

  list_stayed : (node : ℕ) (host : Host D) (after : NodeState D) → slice_get old.hosts node ≡ Some host
      → IsPut old.hosts new.hosts node (record host { state = Up after }) → Adds
  list_stayed node host after at put =
      lists_stay honest words old new lists later bound once now node host (record host { state = Up after }) at put refl

  -- it has recorded one change more
  recorded_more : (node : ℕ) (host : Host D) (after : NodeState D) (octets : List ℕ) → slice_get old.hosts node ≡ Some host
      → IsPut old.hosts new.hosts node (record host { state = Up after; records = host.records ++ octets ∷ [] }) → Grow
  recorded_more node host after octets at put =
      moved_on node host (record host { state = Up after; records = host.records ++ octets ∷ [] }) at put refl
      (octets ∷ [], refl)

  -- a link that a node serves has changed
  pub served : (number : ℕ) (link : Link) (end : ServerEnd) → link.server ≡ Some end → IsPutAt old.links new.links number link
      → ((other : ℕ) → other ≢ number → accepts_on other new.ledger ≡ accepts_on other old.ledger) → Outside
  served number link end serves put others =
      outside_put honest words old new lists later bound once now number link put
      (λ none. absurd (none-some end (sym none ∙ serves))) others

  -- a link has changed, with the server end that it had, and nothing was accepted
  pub relinked : (number : ℕ) (was link : Link) → link_at old.links number ≡ Some was → link.server ≡ was.server
      → IsPutAt old.links new.links number link
      → ((other : ℕ) → accepts_on other new.ledger ≡ accepts_on other old.ledger) → Outside
  relinked number was link is server put accepts =
      outside_put honest words old new lists later bound once now number link put
      (λ none. accepts number ∙ once.outside number was is (sym server ∙ none)) (λ other off. accepts other)

  pub same_accepts : new.ledger ≡ old.ledger → (other : ℕ) → accepts_on other new.ledger ≡ accepts_on other old.ledger
  same_accepts same other = ap (λ l. accepts_on other l) same

  pub opened : (node : ℕ) (peer : List ℕ) → HasOpened old new node peer → IsTriedOnce new later asked
  opened node peer opens =
      kept (stayed node opens.host opens.after opens.host_at opens.hosts) (there_same opens.rest.0)
      (list_stayed node opens.host opens.after opens.host_at opens.hosts) (same_ends opens.rest.0)
      (given_at node opens.host opens.after opens.host.records opens.hosts)
      (served (suc (length old.links)) (opened_link node peer opens.connected) _ refl opens.links
      (λ other off. same_accepts opens.rest.1 other))

  -- a link that is written on has the ends that it had
  written_server : (link written : Link) (octets : List ℕ) → WritesAs link octets written → written.server ≡ link.server
  written_server link written octets (inl up) = ap (λ (l : Link). l.server) up.1
  written_server link written octets (inr down) = ap (λ (l : Link). l.server) down.1

  -- only the links have changed
  links_alone : (links : List Link) (number : ℕ) (was link : Link) → new ≡ record old { links = links }
      → link_at old.links number ≡ Some was → link.server ≡ was.server → IsPutAt old.links links number link
      → IsTriedOnce new later asked
  links_alone links number was link same is server put =
      kept (hosts_same honest words old new lists later bound once now (ap (λ (w : World D). w.hosts) same))
      (there_same (ap (λ (w : World D). w.attempts) same))
      (lists_same honest words old new lists later bound once now (ap (λ (w : World D). w.hosts) same))
      (same_ends (ap (λ (w : World D). w.attempts) same))
      (given_same honest words old new lists later bound once now (ap (λ (w : World D). w.hosts) same))
      (relinked number was link is server
      (subst (λ l. IsPutAt old.links l number link) (sym (ap (λ (w : World D). w.links) same)) put)
      (same_accepts (ap (λ (w : World D). w.ledger) same)))

  pub written : (number : ℕ) (octets : List ℕ) → HasWritten old new number octets → IsTriedOnce new later asked
  written number octets writes =
      links_alone writes.links number writes.link writes.written writes.new_is writes.link_is
      (written_server writes.link writes.written octets writes.writes) writes.put

  pub broken : (number : ℕ) → Breaks old new number → IsTriedOnce new later asked
  broken number breaks =
      links_alone breaks.links number breaks.link (record breaks.link { broken = true }) breaks.new_is breaks.link_is refl
      breaks.put

  heard_grow : (number : ℕ) (of : SessionOf old number) (after : NodeState D) (change : Option ℕ)
      → HasTakenDown old new of.end.node number of.host after change → Grow
  heard_grow number of after None records = stayed of.end.node of.host after of.host_at records.0
  heard_grow number of after (Some change) records =
      recorded_more of.end.node of.host after records.0.octets of.host_at records.1

  heard_given : (number : ℕ) (of : SessionOf old number) (after : NodeState D) (change : Option ℕ)
      → HasTakenDown old new of.end.node number of.host after change → Given
  heard_given number of after None records = given_at of.end.node of.host after of.host.records records.0
  heard_given number of after (Some change) records =
      given_at of.end.node of.host after (of.host.records ++ records.0.octets ∷ []) records.1

  heard_elsewhere : (number : ℕ) (of : SessionOf old number) (after : NodeState D) (change : Option ℕ)
      → HasTakenDown old new of.end.node number of.host after change
      → (other : ℕ) → other ≢ number → accepts_on other new.ledger ≡ accepts_on other old.ledger
  heard_elsewhere number of after None records other off = same_accepts records.1 other
  heard_elsewhere number of after (Some change) records other off =
      accepted_elsewhere old.ledger new.ledger of.end.node change records.0.accepted number records.2 other off

  -- a session was heard, and its link has its end
  pub heard_of : (number : ℕ) (of : SessionOf old number) (link : Link) (end : ServerEnd) → link.server ≡ Some end
      → IsPutAt old.links new.links number link → new.attempts ≡ old.attempts → (after : NodeState D) (change : Option ℕ)
      → HasTakenDown old new of.end.node number of.host after change → IsTriedOnce new later asked
  heard_of number of link end serves links attempts after change records =
      kept (heard_grow number of after change records) (there_same attempts)
      (heard_adds honest words old new lists later bound once now number of after change records)
      (same_ends attempts) (heard_given number of after change records)
      (served number link end serves links (heard_elsewhere number of after change records))

  pub heard : (number count : ℕ) → HasHeard honest words old new number count → IsTriedOnce new later asked
  heard number count hears =
      heard_of number hears.of (heard_link hears.of.link hears.of.end hears.of.session hears.received) _ refl hears.links
      hears.rest.0 (left_by hears.after hears.received.change) hears.received.change
      (taken_down old new hears.of.end.node number hears.of.host hears.after hears.received.change hears.records)

  pub ended : (number : ℕ) (closing : Option Reply) → EndsWith old new number closing → IsTriedOnce new later asked
  ended number closing ends =
      kept (stayed ends.of.end.node ends.of.host ends.after ends.of.host_at ends.hosts) (there_same ends.rest.0)
      (list_stayed ends.of.end.node ends.of.host ends.after ends.of.host_at ends.hosts) (same_ends ends.rest.0)
      (given_at ends.of.end.node ends.of.host ends.after ends.of.host.records ends.hosts)
      (served number (ended_link ends.of.link ends.of.end closing) _ refl ends.links
      (λ other off. same_accepts ends.rest.1 other))

  -- an outcome of an attempt was recorded
  pub recorded : (number change : ℕ) (of : AttemptOf old number) (after : NodeState D) (fate : Fate) (noted : Noted)
      (link : Link) → link.server ≡ of.link.server → IsPutAt old.links new.links number link
      → HasTakenOutcome old new number of after fate change noted → Adds → IsTriedOnce new later asked
  recorded number change of after fate noted link server links taken adds =
      kept (recorded_more of.attempt.node of.host after noted.octets of.host_at taken.hosts)
      (one_ended honest words old new lists later bound once now of.place of.slot of.attempt fate of.attempt_at of.runs
      taken.attempts)
      adds
      (ended_still honest words old new lists later bound once now of.place of.slot of.attempt
      (record of.attempt { fate = fate }) of.attempt_at of.runs taken.attempts)
      (given_at of.attempt.node of.host after (of.host.records ++ noted.octets ∷ []) taken.hosts)
      (relinked number of.link link of.link_is server links
      (left_same old.ledger new.ledger of.attempt.node of.attempt.message number (report_told change noted.report)
      noted.left.items taken.ledger))

  -- an attempt has read replies, and goes on
  pub read_on : (number : ℕ) (of : AttemptOf old number) (after : NodeState D) (link : Link)
      → link.server ≡ of.link.server → IsPutAt old.links new.links number link
      → IsPut old.hosts new.hosts of.attempt.node (record of.host { state = Up after })
      × (new.ledger ≡ old.ledger) × (new.attempts ≡ old.attempts)
      → IsTriedOnce new later asked
  read_on number of after link server links puts =
      kept (stayed of.attempt.node of.host after of.host_at puts.0) (there_same puts.2)
      (list_stayed of.attempt.node of.host after of.host_at puts.0) (same_ends puts.2)
      (given_at of.attempt.node of.host after of.host.records puts.0)
      (relinked number of.link link of.link_is server links (same_accepts puts.1))

  pub read_by : (number count : ℕ) (reads : HasRead honest words old new number count) (change : Option ℕ)
      → RecordsRead old new number reads.of reads.after change → Adds → IsTriedOnce new later asked
  read_by number count reads None records adds =
      read_on number reads.of reads.after (read_link reads.of.link reads.replied) refl reads.links records
  read_by number count reads (Some change) records adds =
      recorded number change reads.of (without_note reads.after) (Replied change) records.noted
      (read_link reads.of.link reads.replied) refl reads.links
      (outcome_taken old new number reads.of reads.after (Replied change) change records) adds

  -- the link of an attempt that was lost is the same
  link_put : (number : ℕ) (link : Link) → link_at old.links number ≡ Some link → new.links ≡ old.links
      → IsPutAt old.links new.links number link
  link_put number link is same = record {
    at = ap (λ l. link_at l number) same ∙ is;
    others = λ other off. ap (λ l. link_at l other) same;
    grows = let count = ap length same in omega (arith, count);
  }

  pub lost : (number change : ℕ) → HasLost honest words old new number change → IsTriedOnce new later asked
  lost number change loses =
      recorded number change loses.of (without_note loses.after) (Lost change) loses.records.noted loses.of.link refl
      (link_put number loses.of.link loses.of.link_is loses.links)
      (outcome_taken old new number loses.of loses.after (Lost change) change loses.records)
      (lost_adds honest words old new lists later bound once now number change loses)

  pub dropped : (number : ℕ) → DropsAttempt old new number → IsTriedOnce new later asked
  dropped number drops =
      kept (stayed drops.of.attempt.node drops.of.host drops.after drops.of.host_at drops.hosts)
      (one_ended honest words old new lists later bound once now drops.of.place drops.of.slot drops.of.attempt Dropped
      drops.of.attempt_at drops.of.runs drops.attempts)
      (list_stayed drops.of.attempt.node drops.of.host drops.after drops.of.host_at drops.hosts)
      (ended_still honest words old new lists later bound once now drops.of.place drops.of.slot drops.of.attempt
      (record drops.of.attempt { fate = Dropped }) drops.of.attempt_at drops.of.runs drops.attempts)
      (given_at drops.of.attempt.node drops.of.host drops.after drops.of.host.records drops.hosts)
      (outside_same honest words old new lists later bound once now drops.links (same_accepts drops.ledger))

  pub given_up : (reason : Reason) (node message change : ℕ) → AsksBy asked reason node message → HasGivenUp honest words old new reason node message change → IsTriedOnce new later asked
  given_up reason node message change asks gives =
      kept (recorded_more node gives.host (without_note gives.after) gives.noted.octets gives.host_at gives.hosts)
      (there_same gives.rest.1)
      (given_adds honest words old new lists later bound once now reason node message change asks gives) (same_ends gives.rest.1)
      (given_at node gives.host (without_note gives.after) (gives.host.records ++ gives.noted.octets ∷ []) gives.hosts)
      (outside_same honest words old new lists later bound once now gives.rest.0
      (left_same old.ledger new.ledger node message 0 (report_told change gives.noted.report) gives.noted.left.items
      gives.ledger))
