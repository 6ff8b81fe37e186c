-- The arguments of the program, the first of which is its name, and its exit status.
use Rattle.std.specs.Prelude.{◌≡◌, ◌≢◌, ℕ, Bool, not, ◌&&◌, ◌||◌, List, [], ◌∷◌, true, false, codes, is_some, Option}
use Rattle.std.specs.Prelude.{Some, None, unwrap_or, if◌then◌else◌, option_map}
use Rattle.std.specs.Option.{option_copied, option_map_or}
use Rattle.std.specs.Str.{bytes_eq}
use Rattle.std.specs.Str.Parse.{digits_value, without_leading_plus}
use Rattle.clap.specs.Words.{App, IsAmong, Kinds, Row, Rule, Shape, Text, fault_of, first_of, new_app, new_rule}
use Rattle.clap.specs.Words.{subcommand_of}
use Rattle.clap.specs.Kinds.{or_else}
use Rattle.clap.specs.ValueTests.{is_unsigned_in}
use Rattle.clap.specs.declared.builder.action.ArgAction.TheVariants.{Set, SetTrue}
use Rattle.clap.specs.declared.builder.value_parser.ValueParser.TheVariants.{Unsigned}
use Rattle.clap.specs.declared.error.kind.ErrorKind.{ErrorKind}
use Rattle.clap.specs.declared.error.kind.ErrorKind.TheVariants.{ArgumentConflict, DisplayHelp, DisplayVersion}
use Rattle.clap.specs.declared.error.kind.ErrorKind.TheVariants.{MissingRequiredArgument, MissingSubcommand}
use Rattle.clap.specs.declared.error.kind.ErrorKind.TheVariants.{UnknownArgument, ValueValidation}
use Rattle.relay_arguments.specs.declared.words.Subcommand.{Subcommand}
use Rattle.relay_arguments.specs.declared.words.Subcommand.TheVariants.{Session, Play, Task as OfTask}
use Rattle.relay_arguments.specs.declared.tasks.Task.{Task}
use Rattle.relay_arguments.specs.declared.tasks.Task.TheVariants.{Init, Compact, Check, Look as OfLook}
use Rattle.relay_arguments.specs.declared.tasks.Task.TheVariants.{Relay as OfRelaying, Control as OfControl}
use Rattle.relay_arguments.specs.declared.tasks.Look.{Look}
use Rattle.relay_arguments.specs.declared.tasks.Look.TheVariants.{List as ListHeld, Listing as ListRows, Show, Status}
use Rattle.relay_arguments.specs.declared.tasks.Relaying.{Relaying}
use Rattle.relay_arguments.specs.declared.tasks.Relaying.TheVariants.{Run, Serve, Push}
use Rattle.relay_arguments.specs.declared.tasks.Control.{Control}
use Rattle.relay_arguments.specs.declared.tasks.Control.TheVariants.{Steer, Withdraw, Save}
use Rattle.relay_arguments.specs.declared.looks.Listing.{Listing}
use Rattle.relay_arguments.specs.declared.steering.Mail.{Mail}
use Rattle.relay_arguments.specs.declared.steering.Mail.TheVariants.{Hop, Message}
use Rattle.relay_arguments.specs.declared.steering.Steering.{Steering}
use Rattle.relay_arguments.specs.declared.steering.Steering.TheVariants.{Flush, Hold, Release, Drain, Reload}
use Rattle.relay_arguments.specs.declared.withdrawing.Choice.{Choice}
use Rattle.relay_arguments.specs.declared.withdrawing.Removal.{Removal}
use Rattle.relay_arguments.specs.declared.withdrawing.Removal.TheVariants.{Return, Discard}
use Rattle.relay_arguments.specs.declared.choices.ChoiceFault.{ChoiceFault}
use Rattle.relay_arguments.specs.declared.choices.ChoiceFault.TheVariants.{Both, Neither, Nothing}

-- the grammar without subcommands, one of which is required; there is no `help` subcommand
abbrev pub without_subcommands : App
without_subcommands = record {
  top = record (new_app (codes "relayd")).top {
    disable_help_subcommand = true;
    subcommand_required = true;
    has_version = true;
  };
  subs = [];
}

-- the grammar with these subcommands
abbrev pub program_of : List Shape → App
program_of [] = without_subcommands
program_of (first ∷ more) =
    record { top = record without_subcommands.top { is_leaf = false }; subs = first ∷ more }

-- an option of this name with any value, as `--hop NAME`
abbrev pub option_rule : Text → Rule
option_rule name = record (new_rule name) { long = Some name; action = Some Set; value_names = 1 }

-- `--config FILE`, required
abbrev pub config_rule : Rule
config_rule = record (option_rule (codes "config")) { required = true }

-- `--config FILE`, optional
abbrev pub optional_config_rule : Rule
optional_config_rule = option_rule (codes "config")

-- profile: `--rounds N`, from 1 to 1,000,000
abbrev pub rounds_rule : Rule
rounds_rule = record (option_rule (codes "rounds")) { parser = Some (Unsigned 1 1000000) }

-- profile: `--workers W`, from 1 to 64
abbrev pub workers_rule : Rule
workers_rule = record (option_rule (codes "workers")) { parser = Some (Unsigned 1 64) }

-- profile: a switch of this name, as `--long`
abbrev pub switch_rule : Text → Rule
switch_rule name = record (new_rule name) { long = Some name; action = Some SetTrue }

-- profile: `NUMBER`, required, from 1 to 2^64 - 1
abbrev pub number_rule : Rule
number_rule =
    record (new_rule (codes "number"))
    { action = Some Set; value_names = 1; required = true; parser = Some (Unsigned 1 18446744073709551615) }

-- profile: `--message NUMBER`, from 1 to 2^64 - 1
abbrev pub message_rule : Rule
message_rule = record (option_rule (codes "message")) { parser = Some (Unsigned 1 18446744073709551615) }

-- profile: `--seconds N`, from 0 to 65,535
abbrev pub seconds_rule : Rule
seconds_rule = record (option_rule (codes "seconds")) { parser = Some (Unsigned 0 65535) }

-- profile: `FILE`, required
abbrev pub file_rule : Rule
file_rule = record (new_rule (codes "file")) { action = Some Set; value_names = 1; required = true }

-- a subcommand of this name with these parameters
abbrev pub with_rules : Text → List Rule → Shape
with_rules name rules = record (new_app name).top { rules = rules }

-- the options that name mail: a next hop, or a message
abbrev pub mail_rules : List Rule
mail_rules = optional_config_rule ∷ option_rule (codes "hop") ∷ message_rule ∷ []

-- the options that choose queued mail, by which it is withdrawn, and may be saved before that
abbrev pub choice_rules : List Rule
choice_rules =
    optional_config_rule ∷ option_rule (codes "message") ∷ option_rule (codes "hop") ∷ option_rule (codes "from")
    ∷ option_rule (codes "to") ∷ option_rule (codes "save") ∷ switch_rule (codes "yes") ∷ []

-- the options of `list`: its file, its forms, and its filters
abbrev pub list_rules : List Rule
list_rules =
    config_rule ∷ switch_rule (codes "long") ∷ switch_rule (codes "json") ∷ option_rule (codes "hop")
    ∷ option_rule (codes "from") ∷ option_rule (codes "to") ∷ option_rule (codes "older") ∷ []

-- the subcommands with their parameters, in the order in which `--help` lists them
abbrev pub subcommands : List Shape
subcommands =
    with_rules (codes "session") []
    ∷ with_rules (codes "play") []
    ∷ with_rules (codes "init") (config_rule ∷ [])
    ∷ with_rules (codes "list") list_rules
    ∷ with_rules (codes "show") (optional_config_rule ∷ number_rule ∷ switch_rule (codes "raw") ∷ [])
    ∷ with_rules (codes "status") (optional_config_rule ∷ switch_rule (codes "prometheus") ∷ [])
    ∷ with_rules (codes "compact") (config_rule ∷ [])
    ∷ with_rules (codes "check") (optional_config_rule ∷ option_rule (codes "route") ∷ [])
    ∷ with_rules (codes "run") (optional_config_rule ∷ switch_rule (codes "quiet") ∷ [])
    ∷ with_rules (codes "serve") (config_rule ∷ rounds_rule ∷ workers_rule ∷ switch_rule (codes "log") ∷ [])
    ∷ with_rules (codes "push") (config_rule ∷ switch_rule (codes "log") ∷ [])
    ∷ with_rules (codes "flush") mail_rules
    ∷ with_rules (codes "hold") mail_rules
    ∷ with_rules (codes "release") mail_rules
    ∷ with_rules (codes "drain") (optional_config_rule ∷ seconds_rule ∷ [])
    ∷ with_rules (codes "reload") (optional_config_rule ∷ [])
    ∷ with_rules (codes "return") choice_rules
    ∷ with_rules (codes "discard") choice_rules
    ∷ with_rules (codes "save") (optional_config_rule ∷ number_rule ∷ file_rule ∷ [])
    ∷ []

-- the grammar of the program
abbrev pub relayd : App
relayd = program_of subcommands

-- a next hop or a message is named
abbrev pub names_mail : List Row → Bool
names_mail rows = is_some (first_of (codes "hop") rows) || is_some (first_of (codes "message") rows)

-- a next hop and a message exclude each other, and one of them must be named if it is needed
abbrev pub mail_kinds : Bool → List Row → Kinds
mail_kinds needed rows =
    if is_some (first_of (codes "hop") rows) && is_some (first_of (codes "message") rows) then ArgumentConflict ∷ []
    else if needed && not (names_mail rows) then MissingRequiredArgument ∷ []
    else []

-- an option chooses mail to withdraw
abbrev pub chooses_mail : List Row → Bool
chooses_mail rows =
    is_some (first_of (codes "message") rows) || is_some (first_of (codes "hop") rows)
    || is_some (first_of (codes "from") rows) || is_some (first_of (codes "to") rows)

-- what is withdrawn must be chosen
abbrev pub withdrawal_kinds : List Row → Kinds
withdrawal_kinds rows = if chooses_mail rows then [] else MissingRequiredArgument ∷ []

-- the kinds of errors of the arguments of a subcommand of this name, by the mail that they name
abbrev pub choice_kinds_by : Text → List Row → Kinds
choice_kinds_by name rows =
    if bytes_eq name (codes "flush") then mail_kinds false rows
    else if bytes_eq name (codes "hold") || bytes_eq name (codes "release") then mail_kinds true rows
    else if bytes_eq name (codes "return") || bytes_eq name (codes "discard") then withdrawal_kinds rows
    else []

abbrev pub choice_kinds : Option (Text × List Row) → Kinds
choice_kinds None = []
choice_kinds (Some (name, rows)) = choice_kinds_by name rows

-- the kinds of errors that the arguments have: those of the argument parser, else those of the mail that is named; none
-- if they are right
abbrev pub faults_in : List Text → Kinds
faults_in words = or_else (fault_of relayd words) (choice_kinds (subcommand_of relayd words))

-- the kind of a wrong choice of mail
abbrev pub kind_of_choice : ChoiceFault → ErrorKind
kind_of_choice Both = ArgumentConflict
kind_of_choice Neither = MissingRequiredArgument
kind_of_choice Nothing = MissingRequiredArgument

abbrev pub kinds_of : Option ChoiceFault → Kinds
kinds_of None = []
kinds_of (Some fault) = kind_of_choice fault ∷ []

-- which recipients are listed, and how: as JSON objects; by next hop, reverse path, forward path and age, if these are
-- given
pub record AskedRows : Type 0 where
  pub json : Bool
  pub hop : Option Text
  pub from : Option Text
  pub to : Option Text
  pub older : Option Text

-- mail that is named: that of a next hop, or a message
pub data AskedMail : Type 0 where
  OfHop : Text → AskedMail
  OfMessage : ℕ → AskedMail

-- a request to a running relay
pub data AskedSteering : Type 0 where
  AskedFlush : Option AskedMail → AskedSteering
  AskedHold : AskedMail → AskedSteering
  AskedRelease : AskedMail → AskedSteering
  AskedDrain : ℕ → AskedSteering
  AskedReload : AskedSteering

-- which mail is withdrawn: by the numbers of messages, next hop, reverse path and forward path, if these are given
pub record AskedChoice : Type 0 where
  pub numbers : Option Text
  pub hop : Option Text
  pub from : Option Text
  pub to : Option Text

-- what the program shall do
pub data Asked : Type 0 where
  AskedSession : Asked
  AskedPlay : Asked
  AskedInit : Text → Asked
  AskedList : Text → Asked
  AskedListing : Text → AskedRows → Asked
  AskedShow : Text → ℕ → Bool → Asked
  AskedStatus : Text → Bool → Asked
  AskedCompact : Text → Asked
  AskedCheck : Text → Option Text → Asked
  AskedRun : Text → Bool → Asked
  AskedServe : Text → ℕ → ℕ → Bool → Asked
  AskedPush : Text → Bool → Asked
  AskedSteer : Text → AskedSteering → Asked
  AskedWithdraw : Text → Removal → AskedChoice → Option Text → Bool → Asked
  AskedSave : Text → ℕ → Text → Asked

-- the file of `--config`, where it is required
abbrev pub config_in : List Row → Text
config_in rows = unwrap_or (first_of (codes "config") rows) []

-- the file of `--config`, where it is optional: by default a conventional one
abbrev pub config_or_default_in : List Row → Text
config_or_default_in rows = unwrap_or (first_of (codes "config") rows) (codes "/etc/relayd.toml")

-- the number in a text, from the least to the most; the argument parser refuses other texts
abbrev pub number_of : ℕ → ℕ → Text → ℕ
number_of least most text =
    if is_unsigned_in least most text then digits_value 10 (without_leading_plus text) else least

-- the number of rounds, 1 by default
abbrev pub rounds_in : List Row → ℕ
rounds_in rows = option_map_or (number_of 1 1000000) (first_of (codes "rounds") rows) 1

-- the number of connections in a round, 1 by default
abbrev pub workers_in : List Row → ℕ
workers_in rows = option_map_or (number_of 1 64) (first_of (codes "workers") rows) 1

-- a switch of this name was given
abbrev pub is_given_in : Text → List Row → Bool
is_given_in switch rows = option_map_or (λ text. bytes_eq text (codes "true")) (first_of switch rows) false

-- the options of a listing
abbrev pub rows_asked_in : List Row → AskedRows
rows_asked_in rows = record {
  json = is_given_in (codes "json") rows;
  hop = first_of (codes "hop") rows;
  from = first_of (codes "from") rows;
  to = first_of (codes "to") rows;
  older = first_of (codes "older") rows;
}

-- it has no options
abbrev pub is_plain : AskedRows → Bool
is_plain asked =
    not asked.json && not (is_some asked.hop) && not (is_some asked.from) && not (is_some asked.to)
    && not (is_some asked.older)

-- `list` without any option but `--config` is the plain list, else a listing
abbrev pub list_asked : List Row → Asked
list_asked rows =
    if is_plain (rows_asked_in rows) && not (is_given_in (codes "long") rows) then AskedList (config_in rows)
    else AskedListing (config_in rows) (rows_asked_in rows)

-- the number of the message that an argument names; arguments without one are refused
abbrev pub message_number_in : Text → List Row → ℕ
message_number_in argument rows = option_map_or (number_of 1 18446744073709551615) (first_of argument rows) 1

-- `show`: a message, or only its text
abbrev pub show_asked : List Row → Asked
show_asked rows =
    AskedShow (config_or_default_in rows) (message_number_in (codes "number") rows) (is_given_in (codes "raw") rows)

-- `status`: a table, or metrics
abbrev pub status_asked : List Row → Asked
status_asked rows = AskedStatus (config_or_default_in rows) (is_given_in (codes "prometheus") rows)

-- `check`: the whole configuration, or the next hop of one address
abbrev pub check_asked : List Row → Asked
check_asked rows = AskedCheck (config_or_default_in rows) (first_of (codes "route") rows)

abbrev pub run_asked : List Row → Asked
run_asked rows = AskedRun (config_or_default_in rows) (is_given_in (codes "quiet") rows)

abbrev pub serve_asked : List Row → Asked
serve_asked rows = AskedServe (config_in rows) (rounds_in rows) (workers_in rows) (is_given_in (codes "log") rows)

abbrev pub push_asked : List Row → Asked
push_asked rows = AskedPush (config_in rows) (is_given_in (codes "log") rows)

-- the mail that is named; arguments that name none are refused
abbrev pub mail_in : List Row → AskedMail
mail_in rows = option_map_or OfHop (first_of (codes "hop") rows) (OfMessage (message_number_in (codes "message") rows))

-- the mail that is named, if any is
abbrev pub named_mail_in : List Row → Option AskedMail
named_mail_in rows = if names_mail rows then Some (mail_in rows) else None

-- the number of seconds, 60 by default
abbrev pub seconds_in : List Row → ℕ
seconds_in rows = option_map_or (number_of 0 65535) (first_of (codes "seconds") rows) 60

-- `flush`, `hold`, `release`, `drain` and `reload`
abbrev pub flush_asked : List Row → Asked
flush_asked rows = AskedSteer (config_or_default_in rows) (AskedFlush (named_mail_in rows))

abbrev pub hold_asked : List Row → Asked
hold_asked rows = AskedSteer (config_or_default_in rows) (AskedHold (mail_in rows))

abbrev pub release_asked : List Row → Asked
release_asked rows = AskedSteer (config_or_default_in rows) (AskedRelease (mail_in rows))

abbrev pub drain_asked : List Row → Asked
drain_asked rows = AskedSteer (config_or_default_in rows) (AskedDrain (seconds_in rows))

abbrev pub reload_asked : List Row → Asked
reload_asked rows = AskedSteer (config_or_default_in rows) AskedReload

-- the options that choose mail to withdraw
abbrev pub choice_in : List Row → AskedChoice
choice_in rows = record {
  numbers = first_of (codes "message") rows;
  hop = first_of (codes "hop") rows;
  from = first_of (codes "from") rows;
  to = first_of (codes "to") rows;
}

-- `return` and `discard`
abbrev pub withdraw_asked : Removal → List Row → Asked
withdraw_asked removal rows =
    AskedWithdraw (config_or_default_in rows) removal (choice_in rows) (first_of (codes "save") rows)
    (is_given_in (codes "yes") rows)

-- the file that a message is saved to; the argument parser refuses arguments without one
abbrev pub into_in : List Row → Text
into_in rows = unwrap_or (first_of (codes "file") rows) []

-- `save`
abbrev pub save_asked : List Row → Asked
save_asked rows =
    AskedSave (config_or_default_in rows) (message_number_in (codes "number") rows) (into_in rows)

-- what a name asks for that is no task's: the subcommands that work on the standard streams alone
abbrev pub streams_asked : Text → Asked
streams_asked name = if bytes_eq name (codes "play") then AskedPlay else AskedSession

-- what a name asks for: the subcommands that withdraw mail or save it, and those after them
abbrev pub withdrawing_by : Text → List Row → Asked
withdrawing_by name rows =
    if bytes_eq name (codes "return") then withdraw_asked Return rows
    else if bytes_eq name (codes "discard") then withdraw_asked Discard rows
    else if bytes_eq name (codes "save") then save_asked rows
    else streams_asked name

-- the subcommands that steer a running relay, and those after them
abbrev pub steering_by : Text → List Row → Asked
steering_by name rows =
    if bytes_eq name (codes "flush") then flush_asked rows
    else if bytes_eq name (codes "hold") then hold_asked rows
    else if bytes_eq name (codes "release") then release_asked rows
    else if bytes_eq name (codes "drain") then drain_asked rows
    else if bytes_eq name (codes "reload") then reload_asked rows
    else withdrawing_by name rows

-- the subcommands that serve clients and relay mail, and those after them
abbrev pub relaying_by : Text → List Row → Asked
relaying_by name rows =
    if bytes_eq name (codes "run") then run_asked rows
    else if bytes_eq name (codes "serve") then serve_asked rows
    else if bytes_eq name (codes "push") then push_asked rows
    else steering_by name rows

-- what the subcommand of this name asks for
abbrev pub asked_by : Text → List Row → Asked
asked_by name rows =
    if bytes_eq name (codes "init") then AskedInit (config_in rows)
    else if bytes_eq name (codes "list") then list_asked rows
    else if bytes_eq name (codes "show") then show_asked rows
    else if bytes_eq name (codes "status") then status_asked rows
    else if bytes_eq name (codes "compact") then AskedCompact (config_in rows)
    else if bytes_eq name (codes "check") then check_asked rows
    else relaying_by name rows

-- a subcommand's name and its arguments; the argument parser requires a subcommand
abbrev pub asked_of : Option (Text × List Row) → Asked
asked_of None = AskedSession
asked_of (Some (name, rows)) = asked_by name rows

-- the subcommand that the arguments name, and its file
abbrev pub asked_in : List Text → Asked
asked_in words = asked_of (subcommand_of relayd words)

-- the meaning of a listing's options
abbrev pub rows_value : Listing → AskedRows
rows_value listing = record {
  json = listing.json;
  hop = option_copied listing.hop;
  from = option_copied listing.from;
  to = option_copied listing.to;
  older = option_copied listing.older;
}

-- the meaning of mail that is named
abbrev pub mail_value : Mail → AskedMail
mail_value (Hop name) = OfHop name.now
mail_value (Message number) = OfMessage number

-- the meaning of a request
abbrev pub steering_value : Steering → AskedSteering
steering_value (Flush mail) = AskedFlush (option_map mail_value mail)
steering_value (Hold mail) = AskedHold (mail_value mail)
steering_value (Release mail) = AskedRelease (mail_value mail)
steering_value (Drain seconds) = AskedDrain seconds
steering_value Reload = AskedReload

-- the meaning of the options that choose mail
abbrev pub choice_value : Choice → AskedChoice
choice_value choice = record {
  numbers = option_copied choice.numbers;
  hop = option_copied choice.hop;
  from = option_copied choice.from;
  to = option_copied choice.to;
}

-- the meaning of a look at the queue
abbrev pub look_value : Look → Asked
look_value (ListHeld file) = AskedList file.now
look_value (ListRows file listing) = AskedListing file.now (rows_value listing)
look_value (Show file number raw) = AskedShow file.now number raw
look_value (Status file prometheus) = AskedStatus file.now prometheus

-- the meaning of a way to serve clients and relay mail
abbrev pub relaying_value : Relaying → Asked
relaying_value (Run file quiet) = AskedRun file.now quiet
relaying_value (Serve file rounds workers log) = AskedServe file.now rounds workers log
relaying_value (Push file log) = AskedPush file.now log

-- the meaning of what is done with a running relay and with queued mail by hand
abbrev pub control_value : Control → Asked
control_value (Steer file request) = AskedSteer file.now (steering_value request)
control_value (Withdraw file removal choice folder confirmed) =
    AskedWithdraw file.now removal (choice_value choice) (option_copied folder) confirmed
control_value (Save file number into) = AskedSave file.now number into.now

-- the meaning of a task
abbrev pub task_value : Task → Asked
task_value (Init file) = AskedInit file.now
task_value (Compact file) = AskedCompact file.now
task_value (Check file route) = AskedCheck file.now (option_map (λ address. address.now) route)
task_value (OfLook look) = look_value look
task_value (OfRelaying relaying) = relaying_value relaying
task_value (OfControl control) = control_value control

-- the meaning of a subcommand
abbrev pub asked : Subcommand → Asked
asked Session = AskedSession
asked Play = AskedPlay
asked (OfTask task) = task_value task

-- the arguments of a subcommand with the file `c`, and more
abbrev pub words_of : Text → Text → List Text → List Text
words_of name subcommand more = name ∷ subcommand ∷ codes "--config" ∷ codes "c" ∷ more

-- `serve` and `push` require a file. `--rounds` takes 1 to 1,000,000 and `--workers` 1 to 64, each 1 by default; `push`
-- has neither.
abbrev pub ServesAndPushes : Text → Type 0
ServesAndPushes name =
    (faults_in (words_of name (codes "serve") (codes "--rounds" ∷ codes "1000000" ∷ [])) ≡ [])
    × (faults_in (words_of name (codes "serve") (codes "--rounds" ∷ codes "1000001" ∷ [])) ≡ ValueValidation ∷ [])
    × (faults_in (words_of name (codes "serve") (codes "--rounds" ∷ codes "0" ∷ [])) ≡ ValueValidation ∷ [])
    × (faults_in (name ∷ codes "serve" ∷ []) ≡ MissingRequiredArgument ∷ [])
    × (faults_in (words_of name (codes "push") (codes "--rounds" ∷ codes "1" ∷ [])) ≡ UnknownArgument ∷ [])
    × (faults_in (words_of name (codes "serve") (codes "--workers" ∷ codes "64" ∷ [])) ≡ [])
    × (faults_in (words_of name (codes "serve") (codes "--workers" ∷ codes "65" ∷ [])) ≡ ValueValidation ∷ [])
    × (faults_in (words_of name (codes "serve") (codes "--workers" ∷ codes "0" ∷ [])) ≡ ValueValidation ∷ [])
    × (faults_in (words_of name (codes "push") (codes "--workers" ∷ codes "1" ∷ [])) ≡ UnknownArgument ∷ [])
    × (asked_in (words_of name (codes "serve") []) ≡ AskedServe (codes "c") 1 1 false)
    × (asked_in (words_of name (codes "serve") (codes "--log" ∷ codes "--rounds" ∷ codes "25" ∷ []))
    ≡ AskedServe (codes "c") 25 1 true)
    × (asked_in (words_of name (codes "serve") (codes "--workers" ∷ codes "8" ∷ codes "--rounds" ∷ codes "3" ∷ []))
    ≡ AskedServe (codes "c") 3 8 false)
    × (asked_in (words_of name (codes "push") []) ≡ AskedPush (codes "c") false)

-- `compact` requires a file
abbrev pub Compacts : Text → Type 0
Compacts name =
    (faults_in (words_of name (codes "compact") []) ≡ [])
    × (asked_in (words_of name (codes "compact") []) ≡ AskedCompact (codes "c"))
    × (faults_in (name ∷ codes "compact" ∷ []) ≡ MissingRequiredArgument ∷ [])

-- `check` takes a file and an address, both optional
abbrev pub Checks : Text → Type 0
Checks name =
    (faults_in (words_of name (codes "check") (codes "--route" ∷ codes "a" ∷ [])) ≡ [])
    × (asked_in (words_of name (codes "check") (codes "--route" ∷ codes "a" ∷ []))
    ≡ AskedCheck (codes "c") (Some (codes "a")))
    × (faults_in (name ∷ codes "check" ∷ []) ≡ [])
    × (asked_in (name ∷ codes "check" ∷ []) ≡ AskedCheck (codes "/etc/relayd.toml") None)

-- `run` takes an optional file and `--quiet`, but no rounds
abbrev pub Runs : Text → Type 0
Runs name =
    (faults_in (words_of name (codes "run") []) ≡ [])
    × (faults_in (name ∷ codes "run" ∷ []) ≡ [])
    × (asked_in (name ∷ codes "run" ∷ []) ≡ AskedRun (codes "/etc/relayd.toml") false)
    × (faults_in (words_of name (codes "run") (codes "--rounds" ∷ codes "1" ∷ [])) ≡ UnknownArgument ∷ [])
    × (asked_in (words_of name (codes "run") []) ≡ AskedRun (codes "c") false)
    × (asked_in (words_of name (codes "run") (codes "--quiet" ∷ [])) ≡ AskedRun (codes "c") true)

-- `list` takes its options, of which `--long` and `--json` are switches; `show` requires a number from 1 on; `status`
-- takes its switch
abbrev pub LooksAtQueue : Text → Type 0
LooksAtQueue name =
    (faults_in (words_of name (codes "list") (codes "--long" ∷ codes "--older" ∷ codes "4h" ∷ [])) ≡ [])
    × (asked_in (words_of name (codes "list") []) ≡ AskedList (codes "c"))
    × (asked_in (words_of name (codes "list") (codes "--long" ∷ []))
    ≡ AskedListing (codes "c") (record { json = false; hop = None; from = None; to = None; older = None }))
    × (asked_in (words_of name (codes "list") (codes "--json" ∷ codes "--to" ∷ codes "b" ∷ []))
    ≡ AskedListing (codes "c") (record { json = true; hop = None; from = None; to = Some (codes "b"); older = None }))
    × (faults_in (words_of name (codes "show") []) ≡ MissingRequiredArgument ∷ [])
    × (faults_in (words_of name (codes "show") (codes "0" ∷ [])) ≡ ValueValidation ∷ [])
    × (asked_in (words_of name (codes "show") (codes "7" ∷ codes "--raw" ∷ [])) ≡ AskedShow (codes "c") 7 true)
    × (asked_in (words_of name (codes "status") (codes "--prometheus" ∷ [])) ≡ AskedStatus (codes "c") true)
    × (asked_in (words_of name (codes "status") []) ≡ AskedStatus (codes "c") false)
    × (asked_in (name ∷ codes "status" ∷ []) ≡ AskedStatus (codes "/etc/relayd.toml") false)

-- `flush` takes a next hop or a message, or neither; `hold` and `release` need one of them. `drain` takes 0 to 65,535
-- seconds, and `reload` nothing.
abbrev pub Steers : Text → Type 0
Steers name =
    (asked_in (name ∷ codes "flush" ∷ []) ≡ AskedSteer (codes "/etc/relayd.toml") (AskedFlush None))
    × (faults_in (words_of name (codes "flush") []) ≡ [])
    × (faults_in (words_of name (codes "flush") (codes "--hop" ∷ codes "a" ∷ codes "--message" ∷ codes "7" ∷ []))
    ≡ ArgumentConflict ∷ [])
    × (asked_in (words_of name (codes "hold") (codes "--message" ∷ codes "7" ∷ []))
    ≡ AskedSteer (codes "c") (AskedHold (OfMessage 7)))
    × (faults_in (words_of name (codes "hold") []) ≡ MissingRequiredArgument ∷ [])
    × (faults_in (words_of name (codes "hold") (codes "--message" ∷ codes "0" ∷ [])) ≡ ValueValidation ∷ [])
    × (asked_in (words_of name (codes "release") (codes "--hop" ∷ codes "a" ∷ []))
    ≡ AskedSteer (codes "c") (AskedRelease (OfHop (codes "a"))))
    × (asked_in (words_of name (codes "drain") []) ≡ AskedSteer (codes "c") (AskedDrain 60))
    × (asked_in (words_of name (codes "drain") (codes "--seconds" ∷ codes "0" ∷ []))
    ≡ AskedSteer (codes "c") (AskedDrain 0))
    × (faults_in (words_of name (codes "drain") (codes "--seconds" ∷ codes "65536" ∷ [])) ≡ ValueValidation ∷ [])
    × (asked_in (words_of name (codes "reload") []) ≡ AskedSteer (codes "c") AskedReload)

-- `return` and `discard` need an option that chooses mail; without `--yes` nothing is withdrawn, and with `--save` it
-- is saved in a folder before that. `save` requires a number and a file.
abbrev pub Withdraws : Text → Type 0
Withdraws name =
    (faults_in (words_of name (codes "return") (codes "--yes" ∷ [])) ≡ MissingRequiredArgument ∷ [])
    × (faults_in (words_of name (codes "discard") (codes "--hop" ∷ codes "a" ∷ [])) ≡ [])
    × (asked_in (words_of name (codes "return") (codes "--message" ∷ codes "15,16" ∷ []))
    ≡ AskedWithdraw (codes "c") Return
    (record { numbers = Some (codes "15,16"); hop = None; from = None; to = None }) None false)
    × (asked_in
    (words_of name (codes "discard") (codes "--yes" ∷ codes "--from" ∷ codes "a" ∷ codes "--to" ∷ codes "b" ∷ []))
    ≡ AskedWithdraw (codes "c") Discard
    (record { numbers = None; hop = None; from = Some (codes "a"); to = Some (codes "b") }) None true)
    × (asked_in (words_of name (codes "discard") (codes "--hop" ∷ codes "a" ∷ codes "--save" ∷ codes "d" ∷ []))
    ≡ AskedWithdraw (codes "c") Discard
    (record { numbers = None; hop = Some (codes "a"); from = None; to = None }) (Some (codes "d")) false)
    × (faults_in (words_of name (codes "return") (codes "--save" ∷ codes "d" ∷ [])) ≡ MissingRequiredArgument ∷ [])
    × (asked_in (words_of name (codes "save") (codes "7" ∷ codes "f" ∷ [])) ≡ AskedSave (codes "c") 7 (codes "f"))
    × (faults_in (words_of name (codes "save") (codes "7" ∷ [])) ≡ MissingRequiredArgument ∷ [])

-- `session` and `play` take no arguments; `init` and `list` require a file. A missing subcommand, a missing file or a
-- further argument is an error; `--help` asks for help, and `--version` for the version.
abbrev pub WordsAreTaken : Type 0
WordsAreTaken =
    (name : Text) → (faults_in (name ∷ codes "session" ∷ []) ≡ [])
    × (faults_in (name ∷ codes "init" ∷ codes "--config" ∷ codes "relayd.toml" ∷ []) ≡ [])
    × (faults_in (name ∷ codes "list" ∷ codes "--config=relayd.toml" ∷ []) ≡ [])
    × (faults_in (name ∷ []) ≡ MissingSubcommand ∷ [])
    × (faults_in (name ∷ codes "list" ∷ []) ≡ MissingRequiredArgument ∷ [])
    × (faults_in (name ∷ codes "session" ∷ codes "more" ∷ []) ≡ UnknownArgument ∷ [])
    × (faults_in (name ∷ codes "--help" ∷ []) ≡ DisplayHelp ∷ [])
    × (faults_in (name ∷ codes "--version" ∷ []) ≡ DisplayVersion ∷ [])
    × (asked_in (name ∷ codes "init" ∷ codes "--config" ∷ codes "relayd.toml" ∷ []) ≡ AskedInit (codes "relayd.toml"))
    × (asked_in (name ∷ codes "list" ∷ codes "--config=relayd.toml" ∷ []) ≡ AskedList (codes "relayd.toml"))
    × (asked_in (name ∷ codes "session" ∷ []) ≡ AskedSession)
    × (faults_in (name ∷ codes "play" ∷ []) ≡ [])
    × (faults_in (name ∷ codes "play" ∷ codes "more" ∷ []) ≡ UnknownArgument ∷ [])
    × (asked_in (name ∷ codes "play" ∷ []) ≡ AskedPlay)
    × ServesAndPushes name
    × Compacts name
    × Checks name
    × Runs name
    × LooksAtQueue name
    × Steers name
    × Withdraws name

-- the argument parser finds no error, and the arguments ask for a session
abbrev pub AskForSession : List Text → Type 0
AskForSession words = (faults_in words ≡ []) × (asked_in words ≡ AskedSession)

-- the argument parser finds no error, and the arguments ask for a play
abbrev pub AskForPlay : List Text → Type 0
AskForPlay words = (faults_in words ≡ []) × (asked_in words ≡ AskedPlay)

-- the arguments are wrong, and ask neither for help nor for the version
abbrev pub AreWrong : Kinds → Type 0
AreWrong kinds = (kinds ≢ []) × (¬ IsAmong DisplayHelp kinds) × (¬ IsAmong DisplayVersion kinds)
