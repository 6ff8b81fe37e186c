-- What a configuration's text says: its values, or the first fault.
use Rattle.std.specs.Prelude.{◌≡◌, ℕ, List, Option, Some, None, Result, Ok, Err, option_map}
use Rattle.toml.specs.Data.{Data, Members}
use Rattle.toml.specs.Parse.{parse_document}
use Rattle.relay_routes.specs.declared.bare_newlines.BareNewlines.{BareNewlines as Rule}
use Rattle.relay_routes.specs.declared.bare_newlines.BareNewlines.TheVariants.{Pass}
use Rattle.relay_routes.specs.declared.routed_paths.RoutedPaths.{RoutedPaths as PathRule}
use Rattle.relay_routes.specs.declared.routed_paths.RoutedPaths.TheVariants as routed
use Rattle.relay_routes.specs.declared.report_form.ReportForm.{ReportForm}
use Rattle.relay_routes.specs.declared.report_form.ReportForm.TheVariants.{Plain}
use Rattle.relay_routes.specs.Value.{GivesAddress, GivesBareNewlines, GivesHost, GivesPath, GivesReportForm}
use Rattle.relay_routes.specs.Value.{GivesRoutedPaths, GivesSize}
use Rattle.relay_routes.specs.Routes.{Route}
use Rattle.relay_routes.specs.Network.{GivesNetworks}
use Rattle.relay_routes.specs.Trusted.{IsTrusting}
use Rattle.relay_routes.specs.Document.{GivesRoutes, value_of}
use Rattle.std.specs.declared.net.socket_addr.SocketAddrV4.{SocketAddrV4}
use Rattle.relay_routes.specs.declared.network.Network.{Network}
use Rattle.relay_routes.specs.declared.key.Key.{Key}
use Rattle.relay_routes.specs.declared.key.Key.TheVariants.{Host, Listen, Spool, MaxContent, SpoolLimit, Routes}
use Rattle.relay_routes.specs.declared.key.Key.TheVariants.{BareNewlines, TrustedClients, RoutedPaths, Reports}
use Rattle.relay_routes.specs.declared.fault.ConfigFault.{ConfigFault}
use Rattle.relay_routes.specs.declared.fault.ConfigFault.TheVariants.{NotToml, Missing, BadValue}
use Rattle.relay_routes.specs.declared.config.Config.{Config}

-- a value that is there is as it should be and gives this, or it is bad
abbrev pub ReadsValue : {A : Type 0} → Key → (Data → A → Type 0) → Data → Result A ConfigFault → Type 0
ReadsValue key Gives value (Ok a) = Gives value a
ReadsValue {A} key Gives value (Err fault) = (fault ≡ BadValue key) × ((a : A) → ¬ Gives value a)

-- a key that must be there
abbrev pub ReadsRequired : {A : Type 0} → Key → (Data → A → Type 0) → Option Data → Result A ConfigFault → Type 0
ReadsRequired key Gives None result = result ≡ Err (Missing key)
ReadsRequired key Gives (Some value) result = ReadsValue key Gives value result

-- a key that may be missing, and is this then
abbrev pub ReadsOptional : {A : Type 0} → Key → A → (Data → A → Type 0) → Option Data → Result A ConfigFault → Type 0
ReadsOptional key default Gives None result = result ≡ Ok default
ReadsOptional key default Gives (Some value) result = ReadsValue key Gives value result

-- the name of the relay
abbrev pub ReadsHost : Members → Result (List ℕ) ConfigFault → Type 0
ReadsHost document = ReadsRequired Host GivesHost (value_of Host document)

-- where it listens
abbrev pub ReadsListen : Members → Result SocketAddrV4 ConfigFault → Type 0
ReadsListen document = ReadsRequired Listen GivesAddress (value_of Listen document)

-- the file of its spool
abbrev pub ReadsSpool : Members → Result (List ℕ) ConfigFault → Type 0
ReadsSpool document = ReadsRequired Spool GivesPath (value_of Spool document)

-- the most octets of a content: at most 16,777,216, and 1,048,576 where nothing is said
abbrev pub ReadsMaxContent : Members → Result ℕ ConfigFault → Type 0
ReadsMaxContent document = ReadsOptional MaxContent 1048576 (GivesSize 16777216) (value_of MaxContent document)

-- the most octets of the spool: at most 549,755,813,888, and 67,108,864 where nothing is said
abbrev pub ReadsSpoolLimit : Members → Result ℕ ConfigFault → Type 0
ReadsSpoolLimit document = ReadsOptional SpoolLimit 67108864 (GivesSize 549755813888) (value_of SpoolLimit document)

-- what is done with a content in which a CR or an LF stands alone: it is taken as it came where nothing is said
abbrev pub ReadsBareNewlines : Members → Result Rule ConfigFault → Type 0
ReadsBareNewlines document = ReadsOptional BareNewlines Pass GivesBareNewlines (value_of BareNewlines document)

-- where mail goes
abbrev pub ReadsRoutes : Members → Result (List Route) ConfigFault → Type 0
ReadsRoutes document = ReadsRequired Routes GivesRoutes (value_of Routes document)

-- the value is an array of these networks
abbrev pub GivesTrusted : Data → Option (List Network) → Type 0
GivesTrusted value None = ⊥
GivesTrusted value (Some networks) = GivesNetworks value networks

-- the networks of clients that may send to every route: everybody may where nothing is said
abbrev pub ReadsTrustedClients : Members → Result (Option (List Network)) ConfigFault → Type 0
ReadsTrustedClients document = ReadsOptional TrustedClients None GivesTrusted (value_of TrustedClients document)

-- what is done with a recipient whose path is routed: it is taken as any other where nothing is said
abbrev pub ReadsRoutedPaths : Members → Result PathRule ConfigFault → Type 0
ReadsRoutedPaths document = ReadsOptional RoutedPaths routed.Pass GivesRoutedPaths (value_of RoutedPaths document)

-- how a delivery status notification is written: plainly where nothing is said
abbrev pub ReadsReports : Members → Result ReportForm ConfigFault → Type 0
ReadsReports document = ReadsOptional Reports Plain GivesReportForm (value_of Reports document)

-- the document says this configuration
pub record Says (document : Members) (config : Config) : Type 0 where
  pub host : ReadsHost document (Ok config.host)
  pub listen : ReadsListen document (Ok config.listen)
  pub spool : ReadsSpool document (Ok config.spool)
  pub max_content : ReadsMaxContent document (Ok config.max_content)
  pub spool_limit : ReadsSpoolLimit document (Ok config.spool_limit)
  pub bare_newlines : ReadsBareNewlines document (Ok config.bare_newlines)
  pub routes : ReadsRoutes document (Ok config.routes.routes)
  pub routes_host : config.routes.host ≡ config.host
  pub trusted_clients : ReadsTrustedClients document
      (Ok (option_map (λ trusted. trusted.networks) config.trusted_clients))
  pub routed_paths : ReadsRoutedPaths document (Ok config.routed_paths)
  pub reports : ReadsReports document (Ok config.reports)
  pub trusting : IsTrusting config.routes config.trusted_clients

-- there is a value where each key before was read
pub record IsGood {A : Type 0} (Reads : Result A ConfigFault → Type 0) : Type 0 where
  pub value : A
  pub reads : Reads (Ok value)

-- the first fault of a document: the keys are checked in this order, and those before are good
pub data FirstFault (document : Members) (fault : ConfigFault) : Type 0 where
  at_host : ReadsHost document (Err fault) → FirstFault document fault
  at_listen : IsGood (ReadsHost document) → ReadsListen document (Err fault) → FirstFault document fault
  at_spool : IsGood (ReadsHost document) → IsGood (ReadsListen document) → ReadsSpool document (Err fault)
      → FirstFault document fault
  at_max_content : IsGood (ReadsHost document) → IsGood (ReadsListen document) → IsGood (ReadsSpool document)
      → ReadsMaxContent document (Err fault) → FirstFault document fault
  at_spool_limit : IsGood (ReadsHost document) → IsGood (ReadsListen document) → IsGood (ReadsSpool document)
      → IsGood (ReadsMaxContent document) → ReadsSpoolLimit document (Err fault) → FirstFault document fault
  at_routes : IsGood (ReadsHost document) → IsGood (ReadsListen document) → IsGood (ReadsSpool document)
      → IsGood (ReadsMaxContent document) → IsGood (ReadsSpoolLimit document)
      → ReadsRoutes document (Err fault) → FirstFault document fault
  at_bare_newlines : IsGood (ReadsHost document) → IsGood (ReadsListen document) → IsGood (ReadsSpool document)
      → IsGood (ReadsMaxContent document) → IsGood (ReadsSpoolLimit document) → IsGood (ReadsRoutes document)
      → ReadsBareNewlines document (Err fault) → FirstFault document fault
  at_trusted_clients : IsGood (ReadsHost document) → IsGood (ReadsListen document) → IsGood (ReadsSpool document)
      → IsGood (ReadsMaxContent document) → IsGood (ReadsSpoolLimit document) → IsGood (ReadsRoutes document)
      → IsGood (ReadsBareNewlines document) → ReadsTrustedClients document (Err fault) → FirstFault document fault
  at_routed_paths : IsGood (ReadsHost document) → IsGood (ReadsListen document) → IsGood (ReadsSpool document)
      → IsGood (ReadsMaxContent document) → IsGood (ReadsSpoolLimit document) → IsGood (ReadsRoutes document)
      → IsGood (ReadsBareNewlines document) → IsGood (ReadsTrustedClients document)
      → ReadsRoutedPaths document (Err fault) → FirstFault document fault
  at_reports : IsGood (ReadsHost document) → IsGood (ReadsListen document) → IsGood (ReadsSpool document)
      → IsGood (ReadsMaxContent document) → IsGood (ReadsSpoolLimit document) → IsGood (ReadsRoutes document)
      → IsGood (ReadsBareNewlines document) → IsGood (ReadsTrustedClients document)
      → IsGood (ReadsRoutedPaths document) → ReadsReports document (Err fault) → FirstFault document fault

-- what a document says
abbrev pub ReadsDocument : Members → Result Config ConfigFault → Type 0
ReadsDocument document (Ok config) = Says document config
ReadsDocument document (Err fault) = FirstFault document fault

-- what a text says, by the document that it is (TOML 1.1)
abbrev pub ReadsParsed : Option Members → Result Config ConfigFault → Type 0
ReadsParsed None result = result ≡ Err NotToml
ReadsParsed (Some document) result = ReadsDocument document result

-- what a text says
abbrev pub ReadsConfig : List ℕ → Result Config ConfigFault → Type 0
ReadsConfig text = ReadsParsed (parse_document text)
