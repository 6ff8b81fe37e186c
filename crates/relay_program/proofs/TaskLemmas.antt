-- A task asks for neither a session nor a play, which differ.
use Rattle.std.proofs.Common.{◌≡◌, ◌∙◌, ap, sym, refl, Bool, true, false}
use Rattle.std.proofs.lemmas.Bool.{false≢true}
use Rattle.relay_arguments.specs.Arguments.{Asked, AskedPlay, AskedSession, task_value}
use Rattle.relay_arguments.specs.declared.tasks.Task.{Task}
use Rattle.relay_arguments.specs.declared.tasks.Task.TheVariants.{Init, Compact, Check, Look, Relay, Control}
use Rattle.relay_arguments.specs.declared.tasks.Look.TheVariants.{List, Listing, Show, Status}
use Rattle.relay_arguments.specs.declared.tasks.Relaying.TheVariants.{Run, Serve, Push}
use Rattle.relay_arguments.specs.declared.tasks.Control.TheVariants.{Steer, Withdraw, Save}

-- what is asked has a configuration file
abbrev has_file : Asked → Bool
has_file AskedSession = false
has_file AskedPlay = false
has_file _ = true

with_file : (task : Task) → has_file (task_value task) ≡ true
with_file (Init file) = refl
with_file (Compact file) = refl
with_file (Check file route) = refl
with_file (Look (List file)) = refl
with_file (Look (Listing file listing)) = refl
with_file (Look (Show file number raw)) = refl
with_file (Look (Status file prometheus)) = refl
with_file (Relay (Run file quiet)) = refl
with_file (Relay (Serve file rounds workers log)) = refl
with_file (Relay (Push file log)) = refl
with_file (Control (Steer file request)) = refl
with_file (Control (Withdraw file removal choice folder confirmed)) = refl
with_file (Control (Save file number into)) = refl

pub no_session : (task : Task) → task_value task ≡ AskedSession → ⊥
no_session task is = false≢true (sym (ap has_file is) ∙ with_file task)

pub no_play : (task : Task) → task_value task ≡ AskedPlay → ⊥
no_play task is = false≢true (sym (ap has_file is) ∙ with_file task)

pub session_is_no_play : AskedSession ≡ AskedPlay → ⊥
session_is_no_play is = absurd (cc (is))
