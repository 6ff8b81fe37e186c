-- An attempt whose connection a relay has lost.
use Rattle.std.proofs.Common.{inl, inr, ◌≡◌, ◌≢◌, ℕ, List, Option, None, Some, take, refl, sym, subst, ap, ◌∙◌}
use Rattle.std.specs.Prelude.{slice_get}
use Rattle.std.proofs.lemmas.Bool.Decides.{eqb_tells}
use Rattle.std.proofs.lemmas.List.{length-set}
use Rattle.std.proofs.lemmas.Option.{same_Some}
use Rattle.relay_disk.specs.Device.{DiskWords}
use Rattle.relay_slots.specs.Slots.{slot_at}
use Rattle.relay_routes.specs.declared.config.Config.{Config}
use Rattle.relay_book.specs.declared.change.Change.{Change}
use Rattle.relay_records.specs.declared.noted.Noted.{Noted}
use Rattle.relay_records.specs.Records.{Keeps}
use Rattle.relay_attempts.specs.Reply.{Told}
use Rattle.relay_node.specs.Attempts.{Tells}
use Rattle.relay_node.specs.Node.{NodeState}
use Rattle.relay_loop.specs.Called.{untold}
use Rattle.relay_loop.specs.Calls.{LoseSays}
use Rattle.relay_loop.specs.Relay.{RelayState}
use Rattle.relay_world.specs.declared.attempt.Attempt.{Attempt}
use Rattle.relay_world.specs.declared.attempt.Fate.{Fate}
use Rattle.relay_world.specs.declared.attempt.Fate.TheVariants.{Lost, Running}
use Rattle.relay_world.specs.declared.line.Line.{Line}
use Rattle.relay_world.specs.Bound.{HasFate, IsBound, NodeKeeps, StateKeeps, told_by}
use Rattle.relay_world.specs.Steps.{AttemptOf, HasLost, IsPut}
use Rattle.relay_world.specs.World.{Down, Host, HostState, Up, World}
use Rattle.relay_daemon.specs.Events.{LosesThere, LosingIsAnEvent, fated, lines_ended}
use Rattle.relay_daemon.specs.Runs.{ReachesHop, RunsAt, host_with_note}
use Rattle.relay_daemon.proofs.KeepLemmas.{its_changes, its_keeps, its_stand}
use Rattle.relay_daemon.proofs.MoveLemmas.{not_both}
use Rattle.relay_daemon.proofs.PutLemmas.{value_put}
use Rattle.relay_daemon.proofs.StayLemmas.{client_stays}

module _ {D : Type 0} where
  abbrev node_of : HostState D → NodeState D → NodeState D
  node_of (Up node) other = node
  node_of (Down disk undecided) other = other

  -- a host that is up has one node
  pub one_node : (state : HostState D) (one other : NodeState D) → state ≡ Up one → state ≡ Up other → one ≡ other
  one_node state one other first second = ap (λ s. node_of s one) (sym first ∙ second)

abbrev slot_of : Fate → ℕ → ℕ
slot_of (Running slot) other = slot
slot_of _ other = other

-- two connections to hops that are of one attempt of the world are one
pub one_running : {D : Type 0} (world : World D) (node one other : ℕ) (waiting octets : List ℕ)
    → (first : ReachesHop world node one waiting) → (second : ReachesHop world node other octets)
    → first.place ≡ second.place → one ≡ other
one_running world node one other waiting octets first second same =
    let attempt : first.attempt ≡ second.attempt = same_Some first.attempt second.attempt
    (sym first.attempt_at ∙ ap (λ n. slice_get world.attempts n) same ∙ second.attempt_at) in
    ap (λ f. slot_of f one) (sym first.has.runs ∙ ap (λ (a : Attempt). a.fate) attempt ∙ second.has.runs)

module _ {D : Type 0} (honest : Type 0) (words : DiskWords D) where
  -- this is told of an attempt of a node, by these changes
  pub record TellsBy (node : NodeState D) (changes : List Change) (slot : ℕ) : Type 0 where
    pub told : Told
    pub tells : Tells node.config.host changes node.attempts slot told

  -- what is told of an attempt that a running relay has a connection for, by the changes that its node keeps
  pub tells_by : (world : World D) (lists : List (List Change)) (node slot : ℕ) (waiting : List ℕ)
      (relay : RelayState D) → (runs : RunsAt world node relay) → (bound : IsBound honest words world lists)
      → ReachesHop world node slot waiting
      → TellsBy relay.node (its_changes honest words world lists node relay runs bound) slot
  tells_by world lists node slot waiting relay runs bound reaches =
      let tried = bound.clients reaches.attempt.link reaches.place reaches.link reaches.link_is reaches.client in
      let attempt : reaches.attempt ≡ tried.attempt = same_Some reaches.attempt tried.attempt
      (sym reaches.attempt_at ∙ tried.attempt_at) in
      let its_node : tried.attempt.node ≡ node = ap (λ (a : Attempt). a.node) (sym attempt) ∙ reaches.has.its_node in
      let fate : tried.attempt.fate ≡ Running slot = ap (λ (a : Attempt). a.fate) (sym attempt) ∙ reaches.has.runs in
      let passes = tried.passes in
      let goes_on = subst (λ f. HasFate tried.host tried.changes reaches.link tried.attempt passes.accept passes.output
      passes.told passes.verdicts f) fate passes.fate in
      let there = goes_on.2 in
      let host : tried.host ≡ runs.host = same_Some tried.host runs.host
      (sym tried.stands.host_at ∙ ap (λ n. slice_get world.hosts n) its_node ∙ runs.host_at) in
      let changes : tried.changes ≡ its_changes honest words world lists node relay runs bound = same_Some tried.changes
      (its_changes honest words world lists node relay runs bound)
      (sym tried.stands.list_at ∙ ap (λ n. slice_get lists n) its_node
      ∙ (its_stand honest words world lists node relay runs bound).list_at) in
      let same : there.0 ≡ relay.node = one_node tried.host.state there.0 relay.node there.1
      (ap (λ (h : Host D). h.state) host ∙ runs.up) in
      let kept : NodeKeeps honest words tried.host.config there.0 tried.changes =
      subst (λ s. StateKeeps honest words tried.host.config s tried.changes) there.1
      (bound.hosts tried.attempt.node tried.host tried.changes tried.stands).holds in
      subst (λ (l : List Change). TellsBy relay.node l slot) changes
      (subst (λ (n : NodeState D). TellsBy n tried.changes slot) same (record {
        told = told_by tried.attempt passes.accept (take reaches.link.down_read reaches.link.down) passes.output;
        tells = subst
            (λ (c : Config). Tells c.host tried.changes there.0.attempts slot
            (told_by tried.attempt passes.accept (take reaches.link.down_read reaches.link.down) passes.output))
            (sym kept.config_is) there.2;
      }))

  -- a node keeps these changes, and this is told of an attempt of it
  pub record TellsThere (node : NodeState D) (slot : ℕ) : Type 0 where
    pub changes : List Change
    pub told : Told
    pub keeps : Keeps honest words node.records changes
    pub tells : Tells node.config.host changes node.attempts slot told

  pub tells_there : (world : World D) (lists : List (List Change)) (node slot : ℕ) (waiting : List ℕ)
      (relay : RelayState D) → RunsAt world node relay → IsBound honest words world lists
      → ReachesHop world node slot waiting → TellsThere relay.node slot
  tells_there world lists node slot waiting relay runs bound reaches =
      let by = tells_by world lists node slot waiting relay runs bound reaches in
      record {
        changes = its_changes honest words world lists node relay runs bound;
        told = by.told;
        keeps = its_keeps honest words world lists node relay runs bound;
        tells = by.tells;
      }

  module _ (world : World D) (lists : List (List Change)) (node slot change : ℕ) (waiting : List ℕ)
      (old new : RelayState D) (runs : RunsAt world node old) (bound : IsBound honest words world lists)
      (reaches : ReachesHop world node slot waiting) (says : LoseSays honest words old new world.clock slot change)
      (noted : Noted) (note_is : new.node.records.noted ≡ Some noted) where
    abbrev its_host : Host D
    its_host = host_with_note runs.host new.node noted

    abbrev its_attempt : Attempt
    its_attempt = record reaches.attempt { fate = Lost change }

    abbrev its_lines : List Line
    its_lines = lines_ended reaches.attempt change noted

    abbrev its_world : World D
    its_world = fated world node old new runs reaches.place its_attempt noted its_lines

    attempt_put : IsPut world.attempts its_world.attempts reaches.place its_attempt
    attempt_put = value_put world.attempts reaches.place reaches.attempt its_attempt reaches.attempt_at

    abbrev its : AttemptOf world reaches.attempt.link
    its = record {
      link = reaches.link;
      link_is = reaches.link_is;
      place = reaches.place;
      client = reaches.client;
      attempt = reaches.attempt;
      attempt_at = reaches.attempt_at;
      slot = slot;
      runs = reaches.has.runs;
      host = runs.host;
      host_at = subst (λ n. slice_get world.hosts n ≡ Some runs.host) (sym reaches.has.its_node) runs.host_at;
      before = old.node;
      up = runs.up;
    }

    lost_event : HasLost honest words world its_world reaches.attempt.link change
    lost_event = record {
      of = its;
      after = new.node;
      loses = says.lost;
      others = says.only.attempts;
      config = says.only.config;
      seats = says.only.seats;
      links = refl;
      records = record {
        noted = noted;
        note_is = note_is;
        hosts = subst (λ n. IsPut world.hosts its_world.hosts n its_host) (sym reaches.has.its_node)
            (value_put world.hosts node runs.host its_host runs.host_at);
        ledger = refl;
        attempts = attempt_put;
      };
      rest = (refl, length-set world.hosts node its_host);
    }

    -- another attempt's connection is another attempt of the world
    beside : (other : ℕ) (octets : List ℕ) → other ≢ slot → (first : ReachesHop world node other octets)
        → first.place ≢ reaches.place
    beside other octets off first same = off (one_running world node other slot octets waiting first reaches same)

    hop_beside : (other : ℕ) (octets : List ℕ) → other ≢ slot → ReachesHop world node other octets
        → ReachesHop its_world node other octets
    hop_beside other octets off first = record {
      place = first.place;
      attempt = first.attempt;
      attempt_at = attempt_put.others first.place (beside other octets off first) ∙ first.attempt_at;
      has = first.has;
      link = first.link;
      link_is = first.link_is;
      client = first.client;
      unwritten = first.unwritten;
    }

    hop_there : (other : ℕ) (octets : List ℕ) → slot_at new.hops other ≡ Some octets
        → ReachesHop its_world node other octets
    hop_there other octets is =
        elim (eqb_tells other slot) [
          | inl same ↦
              absurd (not_both (slot_at new.hops slot) octets says.gone
              (ap (λ n. slot_at new.hops n) (sym same.1) ∙ is))
          | inr off ↦
              hop_beside other octets off.1 (runs.hops other octets (sym (says.only.hops other off.1) ∙ is))
        ]

    run_there : (other : ℕ) → slot_at new.hops other ≡ None → slot_at new.node.attempts other ≡ None
    run_there other none =
        elim (eqb_tells other slot) [
          | inl same ↦ ap (λ n. slot_at new.node.attempts n) same.1 ∙ says.ended
          | inr off ↦
              says.only.attempts other off.1 ∙ runs.runs other (sym (says.only.hops other off.1) ∙ none)
        ]

    lost_runs : RunsAt its_world node (untold new)
    lost_runs = record {
      host = its_host;
      host_at = (value_put world.hosts node runs.host its_host runs.host_at).at;
      up = refl;
      clients = λ session octets is.
          client_stays world its_world node session octets refl
          (runs.clients session octets
          (ap (λ (t : List (Option (List ℕ))). slot_at t session) (sym says.only.clients) ∙ is));
      hops = hop_there;
      seats = λ session none.
          ap (λ (t : List (Option _)). slot_at t session) says.only.seats
          ∙ runs.seats session
          (ap (λ (t : List (Option (List ℕ))). slot_at t session) (sym says.only.clients) ∙ none);
      runs = run_there;
    }

    pub lost_there : LosesThere world node old new runs honest words slot waiting reaches change
    lost_there = record { noted = noted; note_is = note_is; event = lost_event; runs_on = lost_runs }

  pub losing : LosingIsAnEvent honest words
  losing world lists node slot change waiting old new runs bound reaches says =
      let there = tells_there world lists node slot waiting old runs bound reaches in
      let noted = (says.lost there.changes there.told there.keeps there.tells).adds.adds.noted in
      lost_there world lists node slot change waiting old new runs bound reaches says noted.note noted.is
