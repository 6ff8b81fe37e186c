-- Each node goes by the configuration that it had, so that names stay apart.
use Rattle.std.proofs.Common.{inl, inr, ◌≡◌, ◌<◌, ◌≤◌, ℕ, zero, suc, List, [], ◌∷◌, ◌++◌, length, Option, None, Some, refl, sym, subst, ap, ◌∙◌, arith}
use Rattle.std.specs.Prelude.{slice_get}
use Rattle.std.proofs.lemmas.Bool.Decides.{eqb_tells}
use Rattle.std.proofs.lemmas.Bool.{cases_lt}
use Rattle.std.proofs.lemmas.Option.{same_Some, slice_get_within}
use Rattle.relay_lines.specs.Reply.{Reply}
use Rattle.relay_disk.specs.Device.{DiskWords}
use Rattle.relay_node.specs.Node.{NodeState}
use Rattle.relay_routes.specs.declared.config.Config.{Config}
use Rattle.relay_world.specs.declared.attempt.Fate.{Fate}
use Rattle.relay_world.specs.declared.attempt.Fate.TheVariants.{Lost, Replied}
use Rattle.relay_world.specs.Once.{BreaksOff, Closes, Drops, Ends, GivesUp, GoesOn, Happen, Happens, Hears, IsNotOpened, LetsGo, Loses, Opens, Reads, Reopens, Starts, Stops, StopsInGivingUp, StopsInHearing, StopsInLosing, StopsInReading, Ticks, Writes, HearsAll, ReopensAfterGroup}
use Rattle.relay_world.specs.Steps.{AttemptOf, DropsAttempt, IsPut, RecordsHeard, RecordsOutcome, RecordsRead, without_note, EndsWith}
use Rattle.relay_world.specs.Groups.{AcceptsInto, AttemptDropped, HasHeardAll, HasHeardEach, HasHeardInto, HasReadInto, HasReopenedAfterGroup, HasTurnedTo, Heard, IsOpenedAgain, IsUp, OutcomeInto, Piece, Read, SessionEnded}
use Rattle.relay_world.specs.Stops.{Decides, DropsAtStop}
use Rattle.relay_records.specs.Records.{Kept}
use Rattle.relay_records.specs.Staged.{Row, no_row}
use Rattle.relay_world.specs.World.{Down, FromClient, FromGivingUp, Host, Origin, Undecided, Up, World}
use Rattle.relay_events.specs.Relays.{HaveOwnNames}

get_there : {A : Type 0} (xs : List A) (place : ℕ) → place < length xs → (value : A) × (slice_get xs place ≡ Some value)
get_there [] place within = absurd (omega (arith, within))
get_there (x ∷ xs) zero within = (x, refl)
get_there (x ∷ xs) (suc place) within = get_there xs place (omega (arith, within))

module _ {D : Type 0} where
  -- each node goes by the configuration that it had
  abbrev pub SameNames : List (Host D) → List (Host D) → Type 0
  SameNames old new =
      (node : ℕ) (host : Host D) → slice_get new node ≡ Some host
      → (was : Host D) × (slice_get old node ≡ Some was) × (host.config ≡ was.config)

  pub own_names : (old new : List (Host D)) → SameNames old new → HaveOwnNames old → HaveOwnNames new
  own_names old new names own one other host others at there same =
      let was = names one host at in
      let were = names other others there in
      own one other was.0 were.0 was.1 were.1
      (ap (λ (c : Config). c.host) (sym was.2) ∙ same ∙ ap (λ (c : Config). c.host) were.2)

  -- and there are no more than there were
  pub few_names : (old new : List (Host D)) → SameNames old new → (most : ℕ) → length old ≤ most → length new ≤ most
  few_names old new names most few = elim (cases_lt most (length new)) [
    | inl above ↦
        let there = get_there new most above in
        let was = names most there.0 there.1 in
        let within = slice_get_within old most was.0 was.1 in
        absurd (omega (arith, few, within))
    | inr within ↦ within
  ]

  pub names_same : (old new : List (Host D)) → new ≡ old → SameNames old new
  names_same old new same node host at = (host, ap (λ l. slice_get l node) (sym same) ∙ at, refl)

  pub names_put : (old new : List (Host D)) (place : ℕ) (was now : Host D) → slice_get old place ≡ Some was → IsPut old new place now
      → now.config ≡ was.config → SameNames old new
  names_put old new place was now was_at put config node host at = elim (eqb_tells node place) [
    | inl here ↦ (
      was,
      ap (λ n. slice_get old n) here.1 ∙ was_at,
      ap (λ (h : Host D). h.config) (same_Some host now (sym at ∙ ap (λ n. slice_get new n) here.1 ∙ put.at)) ∙ config,
    )
    | inr off ↦ (host, sym (put.others node off.1) ∙ at, refl)
  ]

  pub names_both : (old next new : List (Host D)) → SameNames old next → SameNames next new → SameNames old new
  names_both old next new first more node host at =
      let was = more node host at in
      let before = first node was.0 was.1 in
      (before.0, before.1, was.2 ∙ before.2)

  ended : (old new : World D) (number : ℕ) (closing : Option Reply) → EndsWith old new number closing
      → SameNames old.hosts new.hosts
  ended old new number closing ends =
      names_put old.hosts new.hosts ends.of.end.node ends.of.host (record ends.of.host { state = Up ends.after })
      ends.of.host_at ends.hosts refl

  dropped : (old new : World D) (number : ℕ) → DropsAttempt old new number → SameNames old.hosts new.hosts
  dropped old new number drops =
      names_put old.hosts new.hosts drops.of.attempt.node drops.of.host (record drops.of.host { state = Up drops.after })
      drops.of.host_at drops.hosts refl

  -- links that a node hears and reads one after another
  module _ (honest : Type 0) (words : DiskWords D) where
    heard_into : (at : ℕ) (old new : World D) (node : ℕ) (piece : Piece) (row left : Row)
        → HasHeardInto honest words at old new node piece row left → SameNames old.hosts new.hosts
    heard_into at old new node piece row left hears = by hears.received.change hears.accepts
      where
        by : (change : Option ℕ) → AcceptsInto honest words old new piece.number hears.of hears.after row left change
            → SameNames old.hosts new.hosts
        by None accepts =
            names_put old.hosts new.hosts hears.of.end.node hears.of.host
            (record hears.of.host { state = Up hears.after }) hears.of.host_at accepts.0 refl
        by (Some change) accepts =
            names_put old.hosts new.hosts hears.of.end.node hears.of.host
            (record hears.of.host { state = Up hears.after; records = hears.of.host.records ++ accepts.0.octets ∷ [] })
            hears.of.host_at accepts.2 refl

    read_into : (at : ℕ) (old new : World D) (node : ℕ) (piece : Piece) (row left : Row)
        → HasReadInto honest words at old new node piece row left → SameNames old.hosts new.hosts
    read_into at old new node piece row left reads = by reads.replied.change reads.outcome
      where
        by : (change : Option ℕ) → OutcomeInto honest words old new piece.number reads.of reads.after row left change
            → SameNames old.hosts new.hosts
        by None puts =
            names_put old.hosts new.hosts reads.of.attempt.node reads.of.host
            (record reads.of.host { state = Up reads.after }) reads.of.host_at puts.0 refl
        by (Some change) ends =
            names_put old.hosts new.hosts reads.of.attempt.node reads.of.host
            (record reads.of.host { state = Up reads.after; records = reads.of.host.records ++ ends.noted.octets ∷ [] })
            reads.of.host_at ends.hosts refl

    turned_to : (at : ℕ) (old new : World D) (node : ℕ) (piece : Piece) (row left : Row)
        → HasTurnedTo honest words at old new node piece row left → SameNames old.hosts new.hosts
    turned_to at old new node piece row left (Heard hears) = heard_into at old new node piece row left hears
    turned_to at old new node piece row left (SessionEnded ends here same) = ended old new piece.number None ends
    turned_to at old new node piece row left (Read reads) = read_into at old new node piece row left reads
    turned_to at old new node piece row left (AttemptDropped drops here same) = dropped old new piece.number drops

    heard_each : (at : ℕ) (old new : World D) (node : ℕ) (pieces : List Piece) (row left : Row)
        → HasHeardEach honest words at old new node pieces row left → SameNames old.hosts new.hosts
    heard_each at old new node [] row left each =
        names_same old.hosts new.hosts (ap (λ (w : World D). w.hosts) each.0)
    heard_each at old new node (piece ∷ pieces) row left (next, more, first, others) =
        names_both old.hosts next.hosts new.hosts (turned_to at old next node piece row more first)
        (heard_each at next new node pieces more left others)

    heard_all : (old new : World D) (node : ℕ) (pieces : List Piece) → HasHeardAll honest words old new node pieces
        → SameNames old.hosts new.hosts
    heard_all old new node pieces hears =
        names_both old.hosts hears.heard.hosts new.hosts
        (heard_each old.clock old hears.heard node pieces no_row hears.row hears.each)
        (names_put hears.heard.hosts new.hosts node hears.staged.host (record hears.staged.host { state = Up hears.after })
        hears.staged.host_at hears.hosts refl)

    opened_again : (world new : World D) (node : ℕ) (is : IsUp world node) (after : NodeState D)
        → IsOpenedAgain world new node is.host after → SameNames world.hosts new.hosts
    opened_again world new node is after again =
        subst (λ (w : World D). SameNames world.hosts w.hosts) (sym again.new_is)
        (names_put world.hosts again.hosts node is.host (record is.host { state = Up after }) is.host_at again.put refl)

    reopened_after : (old new : World D) (node : ℕ) (pieces : List Piece)
        → HasReopenedAfterGroup honest words old new node pieces → SameNames old.hosts new.hosts
    reopened_after old new node pieces reopens = elim reopens.decides [
      | inl none ↦ opened_again old new node reopens.before reopens.after none.1
      | inr all ↦
          names_both old.hosts reopens.heard.hosts new.hosts
          (heard_each reopens.at old reopens.heard node pieces no_row reopens.row reopens.each)
          (opened_again reopens.heard new node reopens.staged reopens.after all.1)
    ]

  module _ (old new : World D) where
    recorded : (number change : ℕ) (of : AttemptOf old number) (after : NodeState D) (fate : Fate)
        → RecordsOutcome old new number of after fate change → SameNames old.hosts new.hosts
    recorded number change of after fate records =
        names_put old.hosts new.hosts of.attempt.node of.host
        (record of.host { state = Up (without_note after); records = of.host.records ++ records.noted.octets ∷ [] })
        of.host_at records.hosts refl

    heard : (node number : ℕ) (host : Host D) (after : NodeState D) (change : Option ℕ) → slice_get old.hosts node ≡ Some host
        → RecordsHeard old new node number host after change → SameNames old.hosts new.hosts
    heard node number host after None at records =
        names_put old.hosts new.hosts node host (record host { state = Up after }) at records.0 refl
    heard node number host after (Some change) at records =
        names_put old.hosts new.hosts node host
        (record host { state = Up (without_note after); records = host.records ++ records.0.octets ∷ [] }) at records.2 refl

    read : (number : ℕ) (of : AttemptOf old number) (after : NodeState D) (change : Option ℕ)
        → RecordsRead old new number of after change → SameNames old.hosts new.hosts
    read number of after None records =
        names_put old.hosts new.hosts of.attempt.node of.host (record of.host { state = Up after }) of.host_at records.0 refl
    read number of after (Some change) records = recorded number change of after (Replied change) records

    dropped_at : {honest : Type 0} {words : DiskWords D} (number : ℕ) (of : AttemptOf old number) (stopped : Kept D)
        (origin : Origin) → DropsAtStop honest words old new number of stopped origin → SameNames old.hosts new.hosts
    dropped_at number of stopped origin drops =
        names_put old.hosts new.hosts of.attempt.node of.host
        (record of.host { state = Down drops.disk (Some (record { note = drops.noted; origin = origin })) }) of.host_at
        drops.hosts refl

    decided : (node : ℕ) (host : Host D) (after : NodeState D) (undecided : Option Undecided)
        → slice_get old.hosts node ≡ Some host → Decides old new node host after undecided → SameNames old.hosts new.hosts
    decided node host after None at none =
        names_put old.hosts new.hosts node host (record host { state = Up after }) at none.hosts refl
    decided node host after (Some undecided) at (inl none) =
        names_put old.hosts new.hosts node host (record host { state = Up after }) at none.1.hosts refl
    decided node host after (Some undecided) at (inr its) =
        names_put old.hosts new.hosts node host
        (record host { state = Up after; records = host.records ++ undecided.note.octets ∷ [] }) at its.1.hosts refl

    -- an event leaves each node its configuration
    pub event_names : {honest : Type 0} {words : DiskWords D} → Happens honest words old new → SameNames old.hosts new.hosts
    event_names (Opens node peer opens) =
        names_put old.hosts new.hosts node opens.host (record opens.host { state = Up opens.after }) opens.host_at opens.hosts refl
    event_names (Writes number octets writes) = names_same old.hosts new.hosts (ap (λ (w : World D). w.hosts) writes.new_is)
    event_names (Hears number count hears) =
        heard hears.of.end.node number hears.of.host hears.after hears.received.change hears.of.host_at hears.records
    event_names {honest} {words} (HearsAll node pieces hears) = heard_all honest words old new node pieces hears
    event_names (Ends number ends) = ended old new number None ends
    event_names (Closes number reply cuts) = ended old new number (Some reply) cuts.ends
    event_names (Reads number count reads) = read number reads.of reads.after reads.replied.change reads.records
    event_names (Loses number change loses) = recorded number change loses.of loses.after (Lost change) loses.records
    event_names (Drops number drops) = dropped old new number drops
    event_names (BreaksOff number breaks) = names_same old.hosts new.hosts (ap (λ (w : World D). w.hosts) breaks.new_is)
    event_names (Starts number message hop starts) =
        names_put old.hosts new.hosts starts.attempt.node starts.host (record starts.host { state = Up starts.after })
        starts.host_at starts.hosts refl
    event_names (GivesUp reason node message change gives) =
        names_put old.hosts new.hosts node gives.host
        (record gives.host {
          state = Up (without_note gives.after);
          records = gives.host.records ++ gives.noted.octets ∷ [];
        }) gives.host_at gives.hosts refl
    event_names (Stops node stops) =
        names_put old.hosts new.hosts node stops.host (record stops.host { state = Down stops.disk None }) stops.host_at
        stops.hosts refl
    event_names (StopsInHearing number count stops) =
        names_put old.hosts new.hosts stops.of.end.node stops.of.host
        (record stops.of.host { state = Down stops.disk (Some (record { note = stops.noted; origin = FromClient number })) })
        stops.of.host_at stops.hosts refl
    event_names (StopsInReading number count stops) = dropped_at number stops.of stops.stopped _ stops.drops
    event_names (StopsInLosing number stops) = dropped_at number stops.of stops.stopped _ stops.drops
    event_names (StopsInGivingUp reason node message stops) =
        names_put old.hosts new.hosts node stops.host
        (record stops.host { state = Down stops.disk (Some (record { note = stops.noted; origin = FromGivingUp message })) })
        stops.host_at stops.hosts refl
    event_names (IsNotOpened node stays) =
        names_put old.hosts new.hosts node stays.host (record stays.host { state = Down stays.again stays.undecided })
        stays.host_at stays.hosts refl
    event_names (Reopens node reopens) =
        decided node reopens.host reopens.after reopens.undecided reopens.host_at reopens.decides
    event_names {honest} {words} (ReopensAfterGroup node pieces reopens) =
        reopened_after honest words old new node pieces reopens
    event_names (Ticks clock ticks) = names_same old.hosts new.hosts (ap (λ (w : World D). w.hosts) ticks.new_is)
    event_names (LetsGo node hangs) = names_same old.hosts new.hosts (ap (λ (w : World D). w.hosts) hangs.new_is)
    event_names (GoesOn node stays) =
        names_put old.hosts new.hosts node stays.host (record stays.host { state = Up stays.after }) stays.host_at stays.hosts refl

  -- and so do events, one after another
  pub run_names : (honest : Type 0) (words : DiskWords D) (count : ℕ) (old new : World D) → Happen honest words count old new
      → SameNames old.hosts new.hosts
  run_names honest words zero old new same = names_same old.hosts new.hosts (ap (λ (w : World D). w.hosts) same)
  run_names honest words (suc count) old new run =
      names_both old.hosts run.0.hosts new.hosts (event_names old run.0 run.1) (run_names honest words count run.0 new run.2)
