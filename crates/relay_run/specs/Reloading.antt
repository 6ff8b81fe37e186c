-- Reading the configuration of a running relay again: when its new one takes effect, and what stays.
use Rattle.std.specs.Prelude.{◌≡◌, ◌≢◌, ◌⊎◌, ℕ, ◌+◌, ◌-◌, ◌*◌, ◌^◌, ◌≤◌, min, List, Option, None, Some, IfSome}
use Rattle.std.specs.Prelude.{MatchOption}
use Rattle.std.specs.Prelude.{Result, Ok, Err, codes, option_map, string_bytes}
use Rattle.std.specs.Global.{Vec}
use Rattle.relay_connections.specs.Leaving.{leavers_of}
use Rattle.relay_connections.specs.Readiness.{clients_of}
use Rattle.relay_connections.specs.Table.{count_of}
use Rattle.relay_connections.specs.Welcome.{retiring}
use Rattle.relay_connections.specs.declared.clients.Clients.{Clients}
use Rattle.relay_connections.specs.declared.leaving.Leaving.{Leaving}
use Rattle.relay_control.specs.Answer.{error_text}
use Rattle.relay_control.specs.Held.{holds_hop, holds_message}
use Rattle.relay_control.specs.declared.held.Held.{Held}
use Rattle.relay_control.specs.declared.request.Request.{Request}
use Rattle.relay_control.specs.declared.request.Request.TheVariants.{Flush, Hold, Release, Return, Discard}
use Rattle.relay_control.specs.declared.request.Request.TheVariants.{Reload as Reloads, Drain}
use Rattle.relay_files.specs.declared.fault.Fault.{Fault}
use Rattle.relay_next_hops.specs.Readiness.{hops_of}
use Rattle.relay_next_hops.specs.declared.next_hops.NextHops.{NextHops}
use Rattle.relay_routes.specs.declared.config.Config.{Config}
use Rattle.relay_run.specs.Answers.{IsError, IsText}
use Rattle.relay_run.specs.Reopening.{KeepsConfig}
use Rattle.relay_run.specs.declared.reload.Reload.{Reload}
use Rattle.relay_run.specs.declared.source.Source.{Source}
use Rattle.relay_run.specs.declared.start.Settings.{Settings}
use Rattle.relay_run.specs.declared.steering.Steering.{Steering}

-- a reload was asked for, and waits
abbrev pub IsReloading : Steering → Type 0
IsReloading steering = steering.reload ≢ None

-- the names and places that a relay has as long as it runs: its own name and address, the paths of its spool and its
-- control socket, the group that may use that, and the port of its page
pub record KeepsPlaces (source : Source) (config : Config) (settings : Settings) : Type 0 where
  pub host : settings.config.host ≡ config.host
  pub listen : settings.config.listen ≡ config.listen
  pub spool : settings.config.spool ≡ config.spool
  pub control : option_map string_bytes settings.control ≡ option_map string_bytes source.control
  pub group : settings.control_group ≡ source.control_group
  pub page : settings.limits.status_port ≡ source.status_port

-- A reload was asked for at this tick by this caller, while none waited and no drain was asked for. It takes effect in
-- a minute at the latest, and changes no place.
pub record BeginsReload (config : Config) (tick caller : ℕ) (old new : Steering) (reload : Reload) : Type 0 where
  pub none_waited : old.reload ≡ None
  pub goes_on : old.drain ≡ None
  pub waits : new.reload ≡ Some reload
  pub until : reload.until ≡ min (tick + 60 * 1000) (2 ^ 64 - 1)
  pub caller_is : reload.caller ≡ caller
  pub places : KeepsPlaces old.source config reload.settings

-- Such a reload waits; and sessions are ended, each one between mail transactions at once, and after 59 seconds all.
pub record RetiresFor {S : Type 0} (config : Config) (tick caller : ℕ) (old new : Steering)
    (clients_old clients_new : Clients S) : Type 0 where
  pub reload : Reload
  pub begins : BeginsReload config tick caller old new reload
  pub clients : clients_new ≡ retiring (min (tick + 59 * 1000) (2 ^ 64 - 1)) clients_old

-- Below: given what is known of the configuration at a path.
module _ {O : Type 0} (has_read : O → List ℕ → Result Settings Fault → Type 0) (files : O) where
  -- the configuration of a relay was read again with this result
  abbrev pub HasRead : Source → Result Settings Fault → Type 0
  HasRead source found = has_read files (string_bytes source.path) found

  -- the reload that waits now has the settings that were read
  abbrev pub HasReadReload : Source → Option Reload → Type 0
  HasReadReload source reload = IfSome reload (λ reload. HasRead source (Ok reload.settings))

  -- the configuration can't be read or has a fault, or it changes a place
  abbrev pub IsBadReload : {E : Type 0} → Config → Source → Result (Vec ℕ) E → Type 0
  IsBadReload config source answer =
      ((fault : Fault) × HasRead source (Err fault) × IsError answer)
      ⊎ ((settings : Settings) × HasRead source (Ok settings) × ¬ KeepsPlaces source config settings × IsError answer)

  -- A reload is refused for the first of these reasons: the relay drains; another reload waits; its configuration is
  -- bad.
  abbrev pub RefusesReload : {E : Type 0} → Config → Steering → Result (Vec ℕ) E → Type 0
  RefusesReload config steering answer =
      ((steering.drain ≢ None) × IsText answer (error_text (codes "the relay drains")))
      ⊎ ((steering.drain ≡ None) × IsReloading steering × IsText answer (error_text (codes "another reload waits")))
      ⊎ ((steering.drain ≡ None) × (steering.reload ≡ None) × IsBadReload config steering.source answer)

  -- A request to reload was refused, and nothing has changed; or a reload waits, by the settings that were read, and it
  -- is answered later.
  abbrev pub ServesReload
      : {S E : Type 0} → Config → ℕ → ℕ → Steering → Steering → Clients S → Clients S → Option (Result (Vec ℕ) E)
      → Type 0
  ServesReload config tick caller old new clients_old clients_new answer =
      MatchOption answer
      (RetiresFor config tick caller old new clients_old clients_new × HasReadReload old.source new.reload)
      (λ answer. (new ≡ old) × (clients_new ≡ clients_old) × RefusesReload config old answer)

  -- no other request changes anything of that
  abbrev pub ReloadsBy
      : {S E : Type 0} → Config → ℕ → ℕ → Request → Steering → Steering → Clients S → Clients S
      → Option (Result (Vec ℕ) E) → Type 0
  ReloadsBy config tick caller Reloads old new clients_old clients_new answer =
      ServesReload config tick caller old new clients_old clients_new answer
  ReloadsBy config tick caller (Flush scope) old new clients_old clients_new answer = new.reload ≡ old.reload
  ReloadsBy config tick caller (Hold scope) old new clients_old clients_new answer = new.reload ≡ old.reload
  ReloadsBy config tick caller (Release scope) old new clients_old clients_new answer = new.reload ≡ old.reload
  ReloadsBy config tick caller (Return names) old new clients_old clients_new answer = new.reload ≡ old.reload
  ReloadsBy config tick caller (Discard names) old new clients_old clients_new answer = new.reload ≡ old.reload
  ReloadsBy config tick caller (Drain seconds) old new clients_old clients_new answer = new.reload ≡ old.reload

-- the same mail is held
pub record HoldsAlike (held copy : Held) : Type 0 where
  pub hops : (name : List ℕ) → holds_hop name copy ≡ holds_hop name held
  pub messages : (number : ℕ) → holds_message number copy ≡ holds_message number held

-- no attempt runs, and no connection is leaving
pub record IsIdle {S : Type 0} (next_hops : NextHops S) (leaving : Leaving S) : Type 0 where
  pub attempts : count_of (hops_of next_hops) ≡ 0
  pub leavers : count_of (leavers_of leaving) ≡ 0

-- A reload takes effect: no session is left, and nothing else runs any more or its time is over. So the dialogue of
-- each session is that of the configuration that it began with.
pub record TakesEffect {S : Type 0} (reload : Reload) (clients : Clients S) (next_hops : NextHops S)
    (leaving : Leaving S) (tick : ℕ) : Type 0 where
  pub sessions : count_of (clients_of clients) ≡ 0
  pub over : IsIdle next_hops leaving ⊎ (reload.until ≤ tick)

-- the reload that waits takes effect at this tick, if one waits
pub record IsReloadable {S : Type 0} (steering : Steering) (clients : Clients S) (next_hops : NextHops S)
    (leaving : Leaving S) (tick : ℕ) : Type 0 where
  pub reload : Reload
  pub waits : steering.reload ≡ Some reload
  pub effect : TakesEffect reload clients next_hops leaving tick

-- The relay has its configuration still, or that of a reload which takes effect.
abbrev pub MayReload
    : {S : Type 0} → Config → Steering → Clients S → NextHops S → Leaving S → Config → Type 0
MayReload config steering clients next_hops leaving opened =
    KeepsConfig config opened
    ⊎ ((tick : ℕ) × (due : IsReloadable steering clients next_hops leaving tick)
    × KeepsConfig due.reload.settings.config opened)
