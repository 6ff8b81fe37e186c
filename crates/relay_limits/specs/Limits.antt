-- What a configuration says of a relay's limits: a number for each, or the first fault.
use Rattle.std.specs.Prelude.{◌≡◌, ℕ, ◌≤◌, List, codes, Option, Some, None, Result, Ok, Err, pos}
use Rattle.toml.specs.Data.{Data, Members, integer, string, get_member}
use Rattle.relay_limits.specs.Port.{port_in}
use Rattle.relay_limits.specs.declared.limit.Limit.{Limit}
use Rattle.relay_limits.specs.declared.limit.Limit.TheVariants.{SessionsPerClient, AttemptsPerHop, RecipientsPerAttempt}
use Rattle.relay_limits.specs.declared.limit.Limit.TheVariants.{ClientTimeout, StatusListen, Log, Balancers, Clients}
use Rattle.relay_limits.specs.declared.limit.Limit.TheVariants.{Control, ControlGroup}
use Rattle.relay_limits.specs.declared.limits.Limits.{Limits}
use Rattle.relay_limits.specs.declared.log_form.LogForm.{LogForm}
use Rattle.relay_limits.specs.declared.log_form.LogForm.TheVariants.{Text, Json}

-- each key as a document has it
abbrev pub limit_text : Limit → List ℕ
limit_text SessionsPerClient = codes "sessions_per_client"
limit_text AttemptsPerHop = codes "attempts_per_hop"
limit_text RecipientsPerAttempt = codes "recipients_per_attempt"
limit_text ClientTimeout = codes "client_timeout"
limit_text StatusListen = codes "status_listen"
limit_text Log = codes "log"
limit_text Balancers = codes "balancers"
limit_text Clients = codes "clients"
limit_text Control = codes "control"
limit_text ControlGroup = codes "control_group"

-- profile: the most that each may be, of 64 sessions, 64 attempts, 100 recipients and an hour; the others are read in
-- another way
abbrev pub most_of : Limit → ℕ
most_of SessionsPerClient = 64
most_of AttemptsPerHop = 64
most_of RecipientsPerAttempt = 100
most_of ClientTimeout = 3600
most_of StatusListen = 0
most_of Log = 0
most_of Balancers = 0
most_of Clients = 0
most_of Control = 0
most_of ControlGroup = 0

-- profile: what each is where nothing is said: Postfix opens 20 connections to one server, takes 50 of one client, and
-- closes a connection after 20 refusals; a client is waited for five minutes (RFC 5321, 4.5.3.2.7)
abbrev pub default_of : Limit → ℕ
default_of SessionsPerClient = 32
default_of AttemptsPerHop = 20
default_of RecipientsPerAttempt = 15
default_of ClientTimeout = 300
default_of StatusListen = 0
default_of Log = 0
default_of Balancers = 0
default_of Clients = 0
default_of Control = 0
default_of ControlGroup = 0

-- what a document has at a key
abbrev pub value_of : Limit → Members → Option Data
value_of limit document = get_member (limit_text limit) document

-- the value is this number, from 1 to the most that the limit may be
abbrev pub GivesNumber : Limit → Data → ℕ → Type 0
GivesNumber limit value number = (value ≡ integer (pos number)) × (1 ≤ number) × (number ≤ most_of limit)

-- a value that is there gives this number, or it is bad; if none is, this is the number otherwise
abbrev pub ReadsLimit : Limit → Option Data → Result ℕ Limit → Type 0
ReadsLimit limit None result = result ≡ Ok (default_of limit)
ReadsLimit limit (Some value) (Ok number) = GivesNumber limit value number
ReadsLimit limit (Some value) (Err fault) = (fault ≡ limit) × ((number : ℕ) → ¬ GivesNumber limit value number)

-- the document says this of the limit
abbrev pub SaysOf : Members → Limit → Result ℕ Limit → Type 0
SaysOf document limit = ReadsLimit limit (value_of limit document)

-- profile: a text says the port of a page that this machine alone is shown; a value that is none is bad; if none is,
-- there is no page
abbrev pub ReadsPort : Option Data → Result (Option ℕ) Limit → Type 0
ReadsPort None result = result ≡ Ok None
ReadsPort (Some value) (Ok None) = ⊥
ReadsPort (Some value) (Ok (Some port)) = (text : List ℕ) × (value ≡ string text) × (port_in text ≡ Some port)
ReadsPort (Some value) (Err fault) =
    (fault ≡ StatusListen) × ((text : List ℕ) → value ≡ string text → port_in text ≡ None)

-- each form of the log's lines as a document has it
abbrev pub log_form_text : LogForm → List ℕ
log_form_text Text = codes "text"
log_form_text Json = codes "json"

-- profile: a text names the form of the log's lines; a value that names none is bad; if none is, they are text
abbrev pub ReadsLogForm : Option Data → Result LogForm Limit → Type 0
ReadsLogForm None result = result ≡ Ok Text
ReadsLogForm (Some value) (Ok form) = value ≡ string (log_form_text form)
ReadsLogForm (Some value) (Err fault) = (fault ≡ Log) × ((form : LogForm) → ¬ (value ≡ string (log_form_text form)))

-- the document says these limits
pub record Says (document : Members) (limits : Limits) : Type 0 where
  pub sessions : SaysOf document SessionsPerClient (Ok limits.sessions_per_client)
  pub attempts : SaysOf document AttemptsPerHop (Ok limits.attempts_per_hop)
  pub recipients : SaysOf document RecipientsPerAttempt (Ok limits.recipients_per_attempt)
  pub timeout : SaysOf document ClientTimeout (Ok limits.client_timeout)
  pub status : ReadsPort (value_of StatusListen document) (Ok limits.status_port)
  pub log : ReadsLogForm (value_of Log document) (Ok limits.log)

-- the document says some number of the limit
pub record IsGood (document : Members) (limit : Limit) : Type 0 where
  pub number : ℕ
  pub says : SaysOf document limit (Ok number)

-- the document says some port of the page, or none
pub record IsGoodPort (document : Members) : Type 0 where
  pub port : Option ℕ
  pub says : ReadsPort (value_of StatusListen document) (Ok port)

-- the first fault of a document: the keys are checked in this order, and those before are good
pub data FirstFault (document : Members) (fault : Limit) : Type 0 where
  at_sessions : SaysOf document SessionsPerClient (Err fault) → FirstFault document fault
  at_attempts : IsGood document SessionsPerClient → SaysOf document AttemptsPerHop (Err fault)
      → FirstFault document fault
  at_recipients : IsGood document SessionsPerClient → IsGood document AttemptsPerHop
      → SaysOf document RecipientsPerAttempt (Err fault) → FirstFault document fault
  at_timeout : IsGood document SessionsPerClient → IsGood document AttemptsPerHop
      → IsGood document RecipientsPerAttempt → SaysOf document ClientTimeout (Err fault) → FirstFault document fault
  at_status : IsGood document SessionsPerClient → IsGood document AttemptsPerHop
      → IsGood document RecipientsPerAttempt → IsGood document ClientTimeout
      → ReadsPort (value_of StatusListen document) (Err fault) → FirstFault document fault
  at_log : IsGood document SessionsPerClient → IsGood document AttemptsPerHop
      → IsGood document RecipientsPerAttempt → IsGood document ClientTimeout → IsGoodPort document
      → ReadsLogForm (value_of Log document) (Err fault) → FirstFault document fault
