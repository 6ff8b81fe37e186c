-- Calls of several relays of a network, in any order.
use Rattle.std.proofs.Common.{inl, inr, ◌≡◌, ◌++◌, ◌∷◌, ℕ, List, [], Some, sym, subst, ap, ◌∙◌}
use Rattle.std.specs.Prelude.{slice_get, slice_set}
use Rattle.std.proofs.lemmas.Bool.Decides.{eqb_tells}
use Rattle.std.proofs.lemmas.Option.{same_Some}
use Rattle.relay_disk.specs.Device.{DiskWords}
use Rattle.relay_records.specs.ListLaws.{NoneIsAwaited}
use Rattle.relay_loop.specs.Relay.{RelayState}
use Rattle.relay_world.specs.GivingUp.{Withdrawing}
use Rattle.relay_world.specs.Promise.{PromiseIsKept}
use Rattle.relay_world.specs.Steps.{IsPut}
use Rattle.relay_world.specs.World.{World}
use Rattle.relay_daemon.specs.Networks.{AllLeftAlone, AllStand, CallOf, DoesOne}
use Rattle.relay_daemon.specs.Networks.{NetworksKeepThePromise}
use Rattle.relay_daemon.specs.Runs.{RunsAt}
use Rattle.relay_daemon.specs.Sequences.{IsEvent}
use Rattle.relay_daemon.proofs.AloneLemmas.{alone_runs_on}
use Rattle.relay_daemon.proofs.CallLemmas.{kept_on, leads}
use Rattle.relay_daemon.proofs.PutLemmas.{value_put}

module _ {D : Type 0} (honest : Type 0) (words : DiskWords D) where
  -- Relays that were left alone run on.
  all_stand_on : honest → PromiseIsKept honest words → (world later : World D) (asked more : List Withdrawing)
      (relays : List (RelayState D)) → AllStand honest words world asked relays
      → AllLeftAlone honest words more world later relays → AllStand honest words later (more ++ asked) relays
  all_stand_on is keeps world later asked more relays stand alone = record {
    runs = λ node relay there.
        alone_runs_on world later node relay (stand.runs node relay there) (alone.alone node relay there);
    kept = kept_on honest words is keeps alone.count world later asked more stand.kept alone.happened;
  }

  -- After a call of one relay all relays run.
  all_run : (one : CallOf) (world next : World D) (own : List Withdrawing) (old new : List (RelayState D))
      (step : DoesOne honest words one old new)
      → ((node : ℕ) (relay : RelayState D) → slice_get old node ≡ Some relay → RunsAt world node relay)
      → IsEvent honest words one.node own world next → RunsAt next one.node step.after → (node : ℕ)
      (relay : RelayState D) → slice_get new node ≡ Some relay → RunsAt next node relay
  all_run one world next own old new step runs event goes_on node relay there =
      elim (eqb_tells node one.node) [
        | inl same ↦
            subst (λ n. RunsAt next n relay) (sym same.1)
            (subst (λ r. RunsAt next one.node r)
            (same_Some step.after relay
            (sym put.at ∙ ap (λ n. slice_get (slice_set old one.node step.after) n) (sym same.1) ∙ now)) goes_on)
        | inr off ↦
            alone_runs_on world next node relay (runs node relay (sym (put.others node off.1) ∙ now))
            (event.others node off.1)
      ]
    where
      put : IsPut old (slice_set old one.node step.after) one.node step.after
      put = value_put old one.node step.before step.after step.was

      now : slice_get (slice_set old one.node step.after) node ≡ Some relay
      now = ap (λ rs. slice_get rs node) (sym step.new_is) ∙ there

  pub networks_keep : NoneIsAwaited honest words → PromiseIsKept honest words → NetworksKeepThePromise honest words
  networks_keep awaits keeps is [] world asked old new stand same =
      (same, λ later more alone. all_stand_on is keeps world later asked more old stand alone)
  networks_keep awaits keeps is (one ∷ calls) world asked old new stand does = (
    does.0,
    does.1,
    λ later more alone.
        let there = all_stand_on is keeps world later asked more old stand alone in (
          there,
          λ meets.
              let step = does.1 in
              let led = leads honest words awaits one.call later there.kept.lists one.node step.before step.after
              (there.runs one.node step.before step.was) there.kept.bound step.does meets in
              let next : AllStand honest words led.next (led.own ++ (more ++ asked)) does.0 = record {
                runs = all_run one later led.next led.own old does.0 step there.runs led.event led.runs;
                kept = kept_on honest words is keeps led.event.count later led.next (more ++ asked) led.own there.kept
                    led.event.happened;
              } in (
                led.next,
                led.own,
                led.event,
                next,
                networks_keep awaits keeps is calls led.next (led.own ++ (more ++ asked)) does.0 new next does.2,
              ),
        ),
  )
