-- Nothing leaks by an event of relays: after each no node that is up keeps a seat without a link, or a number without an
-- attempt.
use Rattle.std.proofs.Common.{◌≡◌, inl, inr, ℕ, zero, suc, List, [], ◌∷◌, None, Result, Ok, Err, sym, subst}
use Rattle.relay_disk.specs.Device.{DiskWords}
use Rattle.relay_book.specs.declared.change.Withdrawal.{Withdrawal}
use Rattle.relay_events.specs.declared.event.Event.TheVariants.{Withdraw}
use Rattle.relay_events.specs.Step.{CrashesInWithdrawing, RefusesToWithdraw, Withdraws, WithdrawsPlace}
use Rattle.relay_world.specs.GivingUp.{NoHop, Postmaster, Reason, Withdrawing, asked_by}
use Rattle.relay_world.specs.CrashRuns.{CrashingHappens, RestingCrashHappens}
use Rattle.relay_world.specs.Crashes.{CrashesAtRest, CrashesCompacting, CrashesGivingUp, CrashesHearing, CrashesLosing, CrashesReading}
use Rattle.relay_world.specs.Leaks.{NothingLeaks}
use Rattle.relay_world.specs.Once.{Happens, BreaksOff, Drops as DropsOff, Ends as EndsOff, GivesUp, GoesOn, Hears as HearsOf, IsNotOpened, Loses as LosesOf, Opens, Reads as ReadsOf, Reopens, RunsKeepAll, Starts, Ticks, Writes, asked_at}
use Rattle.relay_world.specs.Steps.{Breaks, DropsAttempt, EndsSession, HasHeard, HasLost, HasOpened, HasRead, HasStarted}
use Rattle.relay_world.specs.Stops.{StaysUp}
use Rattle.relay_world.specs.World.{World}
use Rattle.relay_world.proofs.Theorems.{broken_leaks, down_leaks, down_still_leaks, dropped_leaks, ended_leaks, given_leaks, heard_leaks, lost_leaks, opened_leaks, read_leaks, reopened_leaks, started_leaks, stayed_leaks, ticked_leaks, written_leaks}
use Rattle.relay_events.specs.declared.event.Event.{Event}
use Rattle.relay_events.specs.declared.event.Event.TheVariants.{Connect, Send, Carry, Break, Tick, Give, Compact, Stop}
use Rattle.relay_events.specs.declared.fault.PairFault.{PairFault}
use Rattle.relay_events.specs.declared.seen.Seen.{Seen}
use Rattle.relay_events.specs.Happened.{HasHappenedAsking}
use Rattle.relay_events.specs.Relays.{AreBound}
use Rattle.relay_events.specs.Step.{Acts, BreaksUnstarted, Carries, CompactsSpool, CrashesInCompacting, CrashesInGivingUp, CrashesInHearing, CrashesInLosing, CrashesInReading, Did, Does, Ends, Gives, GivesUpPlaces, Hears, HearsUnanswered, Loses, OpensFromOutside, OpensLink, Reads, ReadsUnwritten, RefusesLink, RefusesToCompact, RefusesToGiveUp, RefusesToHear, RefusesToOpen, RefusesToRead, RefusesToStart, Rewrites, StartsAtNode, StartsOutside, Steps, StopsNow}
use Rattle.relay_events.specs.Told.{AreTold, CrashesTold, IsOpened, Tell, TellsOne}
use Rattle.relay_events.specs.Told.{Crashes as CrashesOne, Drops as DropsOne, Ends as EndsOne, Loses as LosesOne}
use Rattle.relay_events.proofs.RunLemmas.{one_happened, run_happened, still_bound_asking}

module _ {D : Type 0} (honest : Type 0) (words : DiskWords D) (is_honest : honest) (keeps : RunsKeepAll honest words)
    (crashes : CrashingHappens honest words) (rests : RestingCrashHappens honest words) where
  -- relays that are bound, where nothing leaks
  pub record AreSound (world : World D) : Type 0 where
    pub bound : AreBound honest words world
    pub leaks : NothingLeaks world

  -- by one event, and by a run of events
  one_on : (old new : World D) → AreSound old → Happens honest words old new → NothingLeaks new → AreSound new
  one_on old new was happens leaks = record {
    bound = still_bound_asking honest words is_honest keeps (asked_at honest words old new happens) old new was.bound
        (one_happened honest words old new happens);
    leaks = leaks;
  }

  run_on : (asked : List Withdrawing) (old new : World D) → AreSound old → HasHappenedAsking honest words asked old new
      → NothingLeaks new → AreSound new
  run_on asked old new was happened leaks =
      record { bound = still_bound_asking honest words is_honest keeps asked old new was.bound happened; leaks = leaks }

  same_on : (old new : World D) → new ≡ old → AreSound old → AreSound new
  same_on old new same was = subst (λ w. AreSound w) (sym same) was

  heard_on : (old new : World D) (number count : ℕ) → HasHeard honest words old new number count → AreSound old → AreSound new
  heard_on old new number count is was =
      one_on old new was (HearsOf number count is)
      (heard_leaks honest words old new was.bound.lists was.bound.bound number count is was.leaks)

  read_on : (old new : World D) (number count : ℕ) → HasRead honest words old new number count → AreSound old → AreSound new
  read_on old new number count is was =
      one_on old new was (ReadsOf number count is)
      (read_leaks honest words old new was.bound.lists was.bound.bound number count is was.leaks)

  lost_on : (old new : World D) (number change : ℕ) → HasLost honest words old new number change → AreSound old → AreSound new
  lost_on old new number change is was =
      one_on old new was (LosesOf number change is)
      (lost_leaks honest words old new was.bound.lists was.bound.bound number change is was.leaks)

  ended_on : (old new : World D) (number : ℕ) → EndsSession old new number → AreSound old → AreSound new
  ended_on old new number is was =
      one_on old new was (EndsOff number is) (ended_leaks old new number None is was.leaks)

  dropped_on : (old new : World D) (number : ℕ) → DropsAttempt old new number → AreSound old → AreSound new
  dropped_on old new number is was =
      one_on old new was (DropsOff number is) (dropped_leaks old new number is was.leaks)

  broken_on : (old new : World D) (number : ℕ) → Breaks old new number → AreSound old → AreSound new
  broken_on old new number is was =
      one_on old new was (BreaksOff number is) (broken_leaks old new number is was.leaks)

  linked_on : (old new : World D) (node : ℕ) (peer : List ℕ) → HasOpened old new node peer → AreSound old → AreSound new
  linked_on old new node peer is was =
      one_on old new was (Opens node peer is) (opened_leaks old new node peer is was.leaks)

  started_on : (old new : World D) (number message : ℕ) (hop : List ℕ) → HasStarted honest words old new number message hop
      → AreSound old → AreSound new
  started_on old new number message hop is was =
      one_on old new was (Starts number message hop is)
      (started_leaks honest words old new was.bound.lists was.bound.bound number message hop is was.leaks)

  stayed_on : (old new : World D) (node : ℕ) → StaysUp honest words old new node → AreSound old → AreSound new
  stayed_on old new node is was = one_on old new was (GoesOn node is) (stayed_leaks honest words old new node is was.leaks)

  opened_on : (old new : World D) (node : ℕ) → IsOpened honest words old new node → AreSound old → AreSound new
  opened_on old new node (inl opens) was =
      one_on old new was (Reopens node opens)
      (reopened_leaks honest words old new was.bound.lists was.bound.bound node opens was.leaks)
  opened_on old new node (inr refused) was =
      one_on old new was (IsNotOpened node refused.stays) (down_still_leaks honest words old new node refused.stays was.leaks)

  crash_heard_on : (old new : World D) (number count : ℕ) → CrashesHearing honest words old new number count → AreSound old
      → AreSound new
  crash_heard_on old new number count crash was =
      run_on [] old new was (run_happened honest words [] 2 old new ((crashes old new was.bound.lists number count was.bound.bound).0 crash))
      (down_leaks old new crash.of.end.node crash.of.host crash.disk _ crash.down was.leaks)

  crash_read_on : (old new : World D) (number count : ℕ) → CrashesReading honest words old new number count → AreSound old
      → AreSound new
  crash_read_on old new number count crash was =
      run_on [] old new was (run_happened honest words [] 2 old new ((crashes old new was.bound.lists number count was.bound.bound).1 crash))
      (down_leaks old new crash.of.attempt.node crash.of.host crash.crash.disk _ crash.crash.down was.leaks)

  crash_lost_on : (old new : World D) (number : ℕ) → CrashesLosing honest words old new number → AreSound old → AreSound new
  crash_lost_on old new number crash was =
      run_on [] old new was (run_happened honest words [] 2 old new ((crashes old new was.bound.lists number 0 was.bound.bound).2 crash))
      (down_leaks old new crash.of.attempt.node crash.of.host crash.crash.disk _ crash.crash.down was.leaks)

  crash_rest_on : (old new : World D) (node : ℕ) → CrashesAtRest honest words old new node → AreSound old → AreSound new
  crash_rest_on old new node crash was =
      run_on [] old new was (run_happened honest words [] 2 old new ((rests old new NoHop node 0).0 crash))
      (down_leaks old new node crash.host crash.disk None crash.down was.leaks)

  crash_given_on : (old new : World D) (reason : Reason) (node message : ℕ)
      → CrashesGivingUp honest words old new reason node message → AreSound old
      → AreSound new
  crash_given_on old new reason node message crash was =
      run_on (asked_by reason node message) old new was
      (run_happened honest words (asked_by reason node message) 2 old new ((rests old new reason node message).1 crash))
      (down_leaks old new node crash.host crash.disk _ crash.down was.leaks)

  crash_compact_on : (old new : World D) (node : ℕ) → CrashesCompacting honest words old new node → AreSound old → AreSound new
  crash_compact_on old new node crash was =
      run_on [] old new was (run_happened honest words [] 2 old new ((rests old new NoHop node 0).2 crash))
      (down_leaks old new node crash.host crash.disk None crash.down was.leaks)

  crash_told_on : (old new : World D) (number node : ℕ) → CrashesTold honest words old new number node → AreSound old
      → AreSound new
  crash_told_on old new number node is was =
      opened_on is.down new node is.opened (crash_lost_on old is.down number is.crash was)

  -- one end was told of a break, and then all
  tells_one : (old new : World D) (number : ℕ) (stopped : List ℕ) → TellsOne honest words old new number stopped → AreSound old
      → AreSound new
  tells_one old new number _ (EndsOne ended) was = ended_on old new number ended was
  tells_one old new number _ (LosesOne change lost) was = lost_on old new number change lost was
  tells_one old new number _ (DropsOne why drops is_why) was = dropped_on old new number drops was
  tells_one old new number _ (CrashesOne node told) was = crash_told_on old new number node told was

  tell_on : (turns : ℕ) (old new : World D) (stopped : List ℕ) → Tell honest words turns old new stopped → AreSound old
      → AreSound new
  tell_on zero old new stopped none was = same_on old new none.0 was
  tell_on (suc turns) old new stopped tells was =
      let before = tell_on turns old tells.0 tells.1.0 tells.1.1 was in
      let last = tells.1.2 in
      tells_one tells.0 new last.0 last.2.0 last.2.1 before

  told_on : (old new : World D) → AreTold honest words old new → AreSound old → AreSound new
  told_on old new told was = tell_on told.turns old new told.stopped told.tell was

  -- what an event does of itself
  links_on : (old : World D) (node : ℕ) (new : World D) (did : Did) → OpensFromOutside honest words old node new did → AreSound old
      → AreSound new
  links_on old node new _ (OpensLink opened) was = linked_on old new node _ opened was
  links_on old node new _ (RefusesLink host at why refuses same) was = same_on old new same was

  carried_on : (old : World D) (number node count : ℕ) (new : World D) (did : Did)
      → Carries honest words old number node count new did → AreSound old → AreSound new
  carried_on old number node count new _ (Hears heard its waits) was = heard_on old new number count heard was
  carried_on old number node count new _ (HearsUnanswered broken breaks heard its waits more) was =
      heard_on broken new number count heard (broken_on old broken number breaks was)
  carried_on old number node count new _ (Ends ended its waits) was = ended_on old new number ended was
  carried_on old number node count new _ (Reads read carried) was = read_on old new number count read was
  carried_on old number node count new _ (ReadsUnwritten broken breaks read carried more) was =
      read_on broken new number count read (broken_on old broken number breaks was)
  carried_on old number node count new _ (Loses change lost carried) was = lost_on old new number change lost was
  carried_on old number node count new _ (RefusesToHear ended gone its waits breaks why is_why) was =
      broken_on ended new number breaks (ended_on old ended number gone was)
  carried_on old number node count new _ (RefusesToRead dropped gone waits carried breaks why is_why) was =
      broken_on dropped new number breaks (dropped_on old dropped number gone was)
  carried_on old number node count new _ (CrashesInHearing down crash its waits opened) was =
      opened_on down new node opened (crash_heard_on old down number count crash was)
  carried_on old number node count new _ (CrashesInReading down crash carried opened) was =
      opened_on down new node opened (crash_read_on old down number count crash was)
  carried_on old number node count new _ (CrashesInLosing told carried) was = crash_told_on old new number node told was

  given_on : (old : World D) (node : ℕ) (new : World D) (did : Did) → Gives honest words old node new did → AreSound old
      → AreSound new
  given_on old node new _ (StartsOutside message hop first begun its) was =
      started_on old new (suc _) message hop begun was
  given_on old node new _ (StartsAtNode message hop first to peer opened link begun its) was =
      started_on opened new (suc _) message hop begun (linked_on old opened to peer link was)
  given_on old node new _ (RefusesToStart message hop first why is_why same) was = same_on old new same was
  given_on old node new _ (RefusesToOpen message hop first free to host at name why refuses same) was =
      same_on old new same was
  given_on old node new _ (BreaksUnstarted message hop first free to peer leads opened link breaks) was =
      broken_on opened new (suc _) breaks (linked_on old opened to peer link was)
  given_on old node new _ (GivesUpPlaces message change first gives) was =
      one_on old new was (GivesUp NoHop node message change gives)
      (given_leaks honest words old new NoHop node message change gives was.leaks)
  given_on old node new _ (RefusesToGiveUp message first why is_why same) was = same_on old new same was
  given_on old node new _ (CrashesInGivingUp message first down crash opened) was =
      opened_on down new node opened (crash_given_on old down NoHop node message crash was)

  withdrawn_on : (old : World D) (node message place : ℕ) (withdrawal : Withdrawal) (new : World D) (did : Did)
      → Withdraws honest words old node message place withdrawal new did → AreSound old → AreSound new
  withdrawn_on old node message place withdrawal new _ (WithdrawsPlace change gives) was =
      one_on old new was (GivesUp (Postmaster withdrawal (place ∷ [])) node message change gives)
      (given_leaks honest words old new (Postmaster withdrawal (place ∷ [])) node message change gives was.leaks)
  withdrawn_on old node message place withdrawal new _ (RefusesToWithdraw host at why refuses same) was =
      same_on old new same was
  withdrawn_on old node message place withdrawal new _ (CrashesInWithdrawing down crash opened) was =
      opened_on down new node opened
      (crash_given_on old down (Postmaster withdrawal (place ∷ [])) node message crash was)

  rewritten_on : (old : World D) (node : ℕ) (new : World D) (did : Did) → Rewrites honest words old node new did
      → AreSound old → AreSound new
  rewritten_on old node new _ (CompactsSpool compacted) was = stayed_on old new node compacted.stays was
  rewritten_on old node new _ (RefusesToCompact host at why is_why same) was = same_on old new same was
  rewritten_on old node new _ (CrashesInCompacting down crash opened) was =
      opened_on down new node opened (crash_compact_on old down node crash was)

  stopped_on : (old new : World D) (node : ℕ) → StopsNow honest words old new node → AreSound old → AreSound new
  stopped_on old new node is was = opened_on is.down new node is.opened (elim is.stops [
    | inl crash ↦ crash_rest_on old is.down node crash was
    | inr again ↦
        one_on old is.down was (IsNotOpened node again.stays) (down_still_leaks honest words old is.down node again.stays was.leaks)
  ])

  acted_on : (old : World D) (event : Event) (new : World D) (did : Did) → Acts honest words old event new did → AreSound old
      → AreSound new
  acted_on old (Connect node) new did acts was = links_on old node new did acts was
  acted_on old (Send number octets) new did acts was =
      one_on old new was (Writes number octets acts.0) (written_leaks old new number octets acts.0 was.leaks)
  acted_on old (Carry number node count) new did acts was = carried_on old number node count new did acts was
  acted_on old (Break number) new did acts was = broken_on old new number acts.0 was
  acted_on old (Tick now) new did acts was = one_on old new was (Ticks now acts.0) (ticked_leaks old new now acts.0 was.leaks)
  acted_on old (Give node) new did acts was = given_on old node new did acts was
  acted_on old (Compact node) new did acts was = rewritten_on old node new did acts was
  acted_on old (Withdraw node message place withdrawal) new did acts was =
      withdrawn_on old node message place withdrawal new did acts was
  acted_on old (Stop node zero pick) new did acts was = stopped_on old new node acts.0 was
  acted_on old (Stop node (suc calls) pick) new did acts was = stayed_on old new node acts.0.armed.stays was

  done_on : (old : World D) (event : Event) (new : World D) (answer : Result Seen PairFault)
      → Does honest words old event new answer → AreSound old → AreSound new
  done_on old event new answer does was =
      told_on does.1.0 new does.1.1.2.0 (acted_on old event does.1.0 does.1.1.0 does.1.1.1 was)

  pub step_on : (old : World D) (event : Event) (new : World D) (answer : Result Seen PairFault)
      → Steps honest words old event new answer → AreSound old → AreSound new
  step_on old event new (Ok shown) does was = done_on old event new (Ok shown) does was
  step_on old event new (Err why) (inl refused) was = same_on old new refused.1 was
  step_on old event new (Err why) (inr (inl late)) was = same_on old new late.3 was
  step_on old event new (Err why) (inr (inr does)) was = done_on old event new (Err why) does was

  -- so nothing leaks by a step
  pub step_leaks_nothing : (old : World D) (event : Event) (new : World D) (answer : Result Seen PairFault)
      → Steps honest words old event new answer → AreBound honest words old → NothingLeaks old → NothingLeaks new
  step_leaks_nothing old event new answer steps bound leaks =
      (step_on old event new answer steps (record { bound = bound; leaks = leaks })).leaks
