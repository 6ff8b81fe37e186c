-- A text reads as one configuration, or has one first fault.
use Rattle.std.proofs.Common.{◌≡◌, ◌⊎◌, inl, inr, ℕ, arith, length, List, [], ◌∷◌, Option, None, Some, option_map, Result, Ok, Err, pos, refl, sym, ap, ◌∙◌, subst}
use Rattle.std.proofs.Math.Path.{PathP, to_path_p}
use Rattle.std.proofs.Props.{props}
use Rattle.std.proofs.lemmas.Option.{none-some, same_Some}
use Rattle.relay_routes.specs.declared.bare_newlines.BareNewlines.{BareNewlines as Rule}
use Rattle.relay_routes.specs.declared.bare_newlines.BareNewlines.TheVariants.{Pass, Refuse}
use Rattle.relay_routes.specs.declared.routed_paths.RoutedPaths.{RoutedPaths as PathRule}
use Rattle.relay_routes.specs.declared.routed_paths.RoutedPaths.TheVariants as routed
use Rattle.relay_routes.specs.declared.report_form.ReportForm.{ReportForm}
use Rattle.relay_routes.specs.declared.report_form.ReportForm.TheVariants.{Plain, Rich}
use Rattle.toml.specs.Data.{Data, Members, no_members, member, string, integer, table}
use Rattle.toml.specs.Parse.{parse_document}
use Rattle.relay_routes.specs.declared.config.Config.{Config}
use Rattle.relay_routes.specs.declared.fault.ConfigFault.{ConfigFault}
use Rattle.relay_routes.specs.declared.key.Key.{Key}
use Rattle.relay_routes.specs.declared.key.Key.TheVariants.{Host, Listen, Spool, MaxContent, SpoolLimit, BareNewlines, Reports, RoutedPaths, Routes, TrustedClients}
use Rattle.relay_routes.specs.Value.{GivesAddress, GivesBareNewlines, GivesHost, GivesPath, GivesReportForm, GivesRoutedPaths, GivesSize, address_text, bare_newlines_text, report_form_text, routed_paths_text}
use Rattle.relay_routes.specs.Trusted.{IsTrusting, Trusted}
use Rattle.relay_routes.specs.Routes.{Route, RouteTable, without_wildcard}
use Rattle.relay_routes.specs.Settings.{IsConfig}
use Rattle.relay_routes.specs.Document.{AreRoutes, GivesRoutes, value_of}
use Rattle.relay_routes.specs.Config.{FirstFault, GivesTrusted, IsGood, ReadsBareNewlines, ReadsDocument, ReadsHost, ReadsListen, ReadsMaxContent, ReadsOptional, ReadsParsed, ReadsReports, ReadsRequired, ReadsRoutedPaths, ReadsRoutes, ReadsSpool, ReadsSpoolLimit, ReadsTrustedClients, ReadsValue, Says, at_bare_newlines, at_host, at_listen, at_max_content, at_reports, at_routed_paths, at_routes, at_spool, at_spool_limit, at_trusted_clients}
use Rattle.relay_routes.specs.ConfigLaws.{OneReading}
use Rattle.relay_routes.proofs.AddressLemmas.{address_is_one}
use Rattle.relay_routes.proofs.MemberLemmas.{route_is_one}
use Rattle.relay_routes.proofs.ItemLemmas.{networks_are_one}

-- what a value gives is one
abbrev GivesOne : {A : Type 0} → (Data → A → Type 0) → Type 0
GivesOne {A} Gives = (value : Data) (one two : A) → Gives value one → Gives value two → one ≡ two

-- what is read is one
abbrev ReadsOne : {A : Type 0} → (Result A ConfigFault → Type 0) → Type 0
ReadsOne {A} Reads = (one two : Result A ConfigFault) → Reads one → Reads two → one ≡ two

value_is_one : {A : Type 0} (key : Key) (Gives : Data → A → Type 0) (value : Data) → GivesOne Gives → ReadsOne (ReadsValue key Gives value)
value_is_one key Gives value given (Ok one) (Ok two) a b = ap Ok (given value one two a b)
value_is_one key Gives value given (Ok one) (Err two) a b = absurd (b.1 one a)
value_is_one key Gives value given (Err one) (Ok two) a b = absurd (a.1 two b)
value_is_one key Gives value given (Err one) (Err two) a b = ap Err (a.0 ∙ sym b.0)

required_is_one : {A : Type 0} (key : Key) (Gives : Data → A → Type 0) (found : Option Data) → GivesOne Gives → ReadsOne (ReadsRequired key Gives found)
required_is_one key Gives None given one two a b = a ∙ sym b
required_is_one key Gives (Some value) given one two a b = value_is_one key Gives value given one two a b

optional_is_one : {A : Type 0} (key : Key) (default : A) (Gives : Data → A → Type 0) (found : Option Data) → GivesOne Gives → ReadsOne (ReadsOptional key default Gives found)
optional_is_one key default Gives None given one two a b = a ∙ sym b
optional_is_one key default Gives (Some value) given one two a b = value_is_one key Gives value given one two a b

host_is_one : GivesOne GivesHost
host_is_one value one two a b =
    let same : string one ≡ string two = sym a.0 ∙ b.0 in
    cc same

listen_is_one : GivesOne GivesAddress
listen_is_one value one two a b =
    let same : string (address_text one) ≡ string (address_text two) = sym a.0 ∙ b.0 in
    address_is_one one two a.1 b.1 (cc same)

path_is_one : GivesOne GivesPath
path_is_one value one two a b =
    let same : string one ≡ string two = sym a.0 ∙ b.0 in
    cc same

size_is_one : (limit : ℕ) → GivesOne (GivesSize limit)
size_is_one limit value one two a b =
    let same : integer (pos one) ≡ integer (pos two) = sym a.0 ∙ b.0 in
    cc same

-- a text says one thing of bare line ends
text_is_one : (one two : Rule) → bare_newlines_text one ≡ bare_newlines_text two → one ≡ two
text_is_one Pass Pass same = refl
text_is_one Pass Refuse same = let longer = ap length same in absurd (omega (arith, longer))
text_is_one Refuse Pass same = let longer = ap length same in absurd (omega (arith, longer))
text_is_one Refuse Refuse same = refl

bare_newlines_are_one : GivesOne GivesBareNewlines
bare_newlines_are_one value one two a b =
    let same : string (bare_newlines_text one) ≡ string (bare_newlines_text two) = sym a ∙ b in
    text_is_one one two (cc same)

-- and one of routed paths
rule_is_one : (one two : PathRule) → routed_paths_text one ≡ routed_paths_text two → one ≡ two
rule_is_one routed.Pass routed.Pass same = refl
rule_is_one routed.Pass routed.Refuse same = let longer = ap length same in absurd (omega (arith, longer))
rule_is_one routed.Refuse routed.Pass same = let longer = ap length same in absurd (omega (arith, longer))
rule_is_one routed.Refuse routed.Refuse same = refl

routed_paths_are_one : GivesOne GivesRoutedPaths
routed_paths_are_one value one two a b =
    let same : string (routed_paths_text one) ≡ string (routed_paths_text two) = sym a ∙ b in
    rule_is_one one two (cc same)

-- and one form of reports
form_is_one : (one two : ReportForm) → report_form_text one ≡ report_form_text two → one ≡ two
form_is_one Plain Plain same = refl
form_is_one Plain Rich same = let longer = ap length same in absurd (omega (arith, longer))
form_is_one Rich Plain same = let longer = ap length same in absurd (omega (arith, longer))
form_is_one Rich Rich same = refl

report_forms_are_one : GivesOne GivesReportForm
report_forms_are_one value one two a b =
    let same : string (report_form_text one) ≡ string (report_form_text two) = sym a ∙ b in
    form_is_one one two (cc same)

-- members say one list of routes
routes_are_one : (members : Members) (one two : List Route) → AreRoutes members one → AreRoutes members two → one ≡ two
routes_are_one no_members [] [] a b = refl
routes_are_one no_members [] (route ∷ routes) a b = absurd b
routes_are_one no_members (route ∷ routes) two a b = absurd a
routes_are_one (member key value more) [] two a b = absurd a
routes_are_one (member key value more) (route ∷ routes) [] a b = absurd b
routes_are_one (member key value more) (route ∷ routes) (other ∷ others) a b =
    let first = route_is_one key value route other a.0 b.0 in
    let rest = routes_are_one more routes others a.1 b.1 in
    λ j. first j ∷ rest j

table_is_one : GivesOne GivesRoutes
table_is_one value one two a b =
    let same : table a.members ≡ table b.members = sym a.value_is ∙ b.value_is in
    let members : a.members ≡ b.members = cc same in
    routes_are_one b.members one two (subst (λ (m : Members). AreRoutes m one) members a.are_routes) b.are_routes

-- each key of a document is read in one way
one_host : (document : Members) → ReadsOne (ReadsHost document)
one_host document = required_is_one Host GivesHost (value_of Host document) host_is_one

one_listen : (document : Members) → ReadsOne (ReadsListen document)
one_listen document = required_is_one Listen GivesAddress (value_of Listen document) listen_is_one

one_spool : (document : Members) → ReadsOne (ReadsSpool document)
one_spool document = required_is_one Spool GivesPath (value_of Spool document) path_is_one

one_max_content : (document : Members) → ReadsOne (ReadsMaxContent document)
one_max_content document = optional_is_one MaxContent 1048576 (GivesSize 16777216) (value_of MaxContent document) (size_is_one 16777216)

one_spool_limit : (document : Members) → ReadsOne (ReadsSpoolLimit document)
one_spool_limit document = optional_is_one SpoolLimit 67108864 (GivesSize 549755813888) (value_of SpoolLimit document) (size_is_one 549755813888)

one_bare_newlines : (document : Members) → ReadsOne (ReadsBareNewlines document)
one_bare_newlines document = optional_is_one BareNewlines Pass GivesBareNewlines (value_of BareNewlines document) bare_newlines_are_one

one_routes : (document : Members) → ReadsOne (ReadsRoutes document)
one_routes document = required_is_one Routes GivesRoutes (value_of Routes document) table_is_one

trusted_are_one : GivesOne GivesTrusted
trusted_are_one value None two a b = absurd a
trusted_are_one value (Some one) None a b = absurd b
trusted_are_one value (Some one) (Some two) a b = ap Some (networks_are_one value one two a b)

one_trusted_clients : (document : Members) → ReadsOne (ReadsTrustedClients document)
one_trusted_clients document = optional_is_one TrustedClients None GivesTrusted (value_of TrustedClients document) trusted_are_one

one_routed_paths : (document : Members) → ReadsOne (ReadsRoutedPaths document)
one_routed_paths document = optional_is_one RoutedPaths routed.Pass GivesRoutedPaths (value_of RoutedPaths document) routed_paths_are_one

one_reports : (document : Members) → ReadsOne (ReadsReports document)
one_reports document = optional_is_one Reports Plain GivesReportForm (value_of Reports document) report_forms_are_one

-- a value that was read is one
same_value : {A : Type 0} (Reads : Result A ConfigFault → Type 0) (one two : A) → ReadsOne Reads → Reads (Ok one) → Reads (Ok two) → one ≡ two
same_value Reads one two unique a b =
    let same : ◌≡◌ {A = Result _ ConfigFault} (Ok one) (Ok two) = unique (Ok one) (Ok two) a b in
    cc same

same_fault : {A : Type 0} (Reads : Result A ConfigFault → Type 0) (one two : ConfigFault) → ReadsOne Reads → Reads (Err one) → Reads (Err two) → one ≡ two
same_fault {A} Reads one two unique a b =
    let same : ◌≡◌ {A = Result A ConfigFault} (Err one) (Err two) = unique (Err one) (Err two) a b in
    cc same

-- and what is good has no fault
no_fault : {A : Type 0} (Reads : Result A ConfigFault → Type 0) (value : A) (fault : ConfigFault) → ReadsOne Reads → Reads (Ok value) → ¬ Reads (Err fault)
no_fault {A} Reads value fault unique good bad =
    let same : ◌≡◌ {A = Result A ConfigFault} (Ok value) (Err fault) = unique (Ok value) (Err fault) good bad in
    absurd (cc same)

-- what is said of a configuration's values has one proof
config_prop : (host : List ℕ) (max_content spool_limit : ℕ) (routes : RouteTable) → IsProp (IsConfig host max_content spool_limit routes)
config_prop host max_content spool_limit routes = hlevel props

trusting_prop : (routes : RouteTable) (trusted : Option Trusted) → IsProp (IsTrusting routes trusted)
trusting_prop routes trusted = hlevel props

-- whom a relay trusts is the networks, and the routes of the domains that are named
trusted_by : (routes other : RouteTable) (one two : Option Trusted) → routes ≡ other → IsTrusting routes one → IsTrusting other two → option_map (λ trusted. trusted.networks) one ≡ option_map (λ trusted. trusted.networks) two → one ≡ two
trusted_by routes other None None same a b networks = refl
trusted_by routes other None (Some two) same a b networks = absurd (none-some two.networks networks)
trusted_by routes other (Some one) None same a b networks = absurd (none-some one.networks (sym networks))
trusted_by routes other (Some one) (Some two) same a b networks =
    let its = same_Some one.networks two.networks networks in
    let named : one.named ≡ two.named = a one refl ∙ ap (λ (t : RouteTable). without_wildcard t) same ∙ sym (b two refl) in
    λ j. Some (record { networks = its j; named = named j })

-- a configuration is its values
config_by : (one two : Config) → one.host ≡ two.host → one.listen ≡ two.listen → one.spool ≡ two.spool → one.max_content ≡ two.max_content → one.spool_limit ≡ two.spool_limit → one.bare_newlines ≡ two.bare_newlines → one.routes ≡ two.routes → one.trusted_clients ≡ two.trusted_clients → one.routed_paths ≡ two.routed_paths → one.reports ≡ two.reports → one ≡ two
config_by one two host listen spool max_content spool_limit bare_newlines routes trusted_clients routed_paths reports =
    let valid : PathP (λ j. IsConfig (host j) (max_content j) (spool_limit j) (routes j)) one.valid two.valid =
    to_path_p (λ j. IsConfig (host j) (max_content j) (spool_limit j) (routes j)) (config_prop two.host two.max_content two.spool_limit two.routes _ two.valid) in
    let trusting : PathP (λ j. IsTrusting (routes j) (trusted_clients j)) one.trusting two.trusting =
    to_path_p (λ j. IsTrusting (routes j) (trusted_clients j)) (trusting_prop two.routes two.trusted_clients _ two.trusting) in
    λ j. record {
      host = host j;
      listen = listen j;
      spool = spool j;
      max_content = max_content j;
      spool_limit = spool_limit j;
      bare_newlines = bare_newlines j;
      routes = routes j;
      trusted_clients = trusted_clients j;
      routed_paths = routed_paths j;
      reports = reports j;
      valid = valid j;
      trusting = trusting j;
    }

-- a document says one configuration
says_one : (document : Members) (one two : Config) → Says document one → Says document two → one ≡ two
says_one document one two a b =
    let host = same_value (ReadsHost document) one.host two.host (one_host document) a.host b.host in
    let listen = same_value (ReadsListen document) one.listen two.listen (one_listen document) a.listen b.listen in
    let spool = same_value (ReadsSpool document) one.spool two.spool (one_spool document) a.spool b.spool in
    let max_content = same_value (ReadsMaxContent document) one.max_content two.max_content (one_max_content document) a.max_content b.max_content in
    let spool_limit = same_value (ReadsSpoolLimit document) one.spool_limit two.spool_limit (one_spool_limit document) a.spool_limit b.spool_limit in
    let bare_newlines = same_value (ReadsBareNewlines document) one.bare_newlines two.bare_newlines (one_bare_newlines document) a.bare_newlines b.bare_newlines in
    let routes = same_value (ReadsRoutes document) one.routes.routes two.routes.routes (one_routes document) a.routes b.routes in
    let routes_host : one.routes.host ≡ two.routes.host = a.routes_host ∙ host ∙ sym b.routes_host in
    let table : one.routes ≡ two.routes = λ j. record { host = routes_host j; routes = routes j } in
    let networks = same_value (ReadsTrustedClients document) (option_map (λ trusted. trusted.networks) one.trusted_clients) (option_map (λ trusted. trusted.networks) two.trusted_clients)
    (one_trusted_clients document) a.trusted_clients b.trusted_clients in
    let routed_paths = same_value (ReadsRoutedPaths document) one.routed_paths two.routed_paths (one_routed_paths document) a.routed_paths b.routed_paths in
    let reports = same_value (ReadsReports document) one.reports two.reports (one_reports document) a.reports b.reports in
    config_by one two host listen spool max_content spool_limit bare_newlines table (trusted_by one.routes two.routes one.trusted_clients two.trusted_clients table a.trusting b.trusting networks) routed_paths reports

-- a fault is that of this key, or the key is good and the fault a later one
abbrev FaultFrom : {A : Type 0} → (Result A ConfigFault → Type 0) → (ConfigFault → Type 0) → ConfigFault → Type 0
FaultFrom Reads Later fault = Reads (Err fault) ⊎ (IsGood Reads × Later fault)

abbrev IsOneFault : (ConfigFault → Type 0) → Type 0
IsOneFault Faults = (one two : ConfigFault) → Faults one → Faults two → one ≡ two

from_is_one : {A : Type 0} (Reads : Result A ConfigFault → Type 0) (Later : ConfigFault → Type 0) → ReadsOne Reads → IsOneFault Later → IsOneFault (FaultFrom Reads Later)
from_is_one Reads Later unique later one two (inl a) (inl b) = same_fault Reads one two unique a b
from_is_one Reads Later unique later one two (inl a) (inr b) = absurd (no_fault Reads b.0.value one unique b.0.reads a)
from_is_one Reads Later unique later one two (inr a) (inl b) = absurd (no_fault Reads a.0.value two unique a.0.reads b)
from_is_one Reads Later unique later one two (inr a) (inr b) = later one two a.1 b.1

-- the faults from each key on
abbrev FromReports : Members → ConfigFault → Type 0
FromReports document fault = ReadsReports document (Err fault)

abbrev FromRoutedPaths : Members → ConfigFault → Type 0
FromRoutedPaths document = FaultFrom (ReadsRoutedPaths document) (FromReports document)

abbrev FromTrustedClients : Members → ConfigFault → Type 0
FromTrustedClients document = FaultFrom (ReadsTrustedClients document) (FromRoutedPaths document)

abbrev FromBareNewlines : Members → ConfigFault → Type 0
FromBareNewlines document = FaultFrom (ReadsBareNewlines document) (FromTrustedClients document)

abbrev FromRoutes : Members → ConfigFault → Type 0
FromRoutes document = FaultFrom (ReadsRoutes document) (FromBareNewlines document)

abbrev FromSpoolLimit : Members → ConfigFault → Type 0
FromSpoolLimit document = FaultFrom (ReadsSpoolLimit document) (FromRoutes document)

abbrev FromMaxContent : Members → ConfigFault → Type 0
FromMaxContent document = FaultFrom (ReadsMaxContent document) (FromSpoolLimit document)

abbrev FromSpool : Members → ConfigFault → Type 0
FromSpool document = FaultFrom (ReadsSpool document) (FromMaxContent document)

abbrev FromListen : Members → ConfigFault → Type 0
FromListen document = FaultFrom (ReadsListen document) (FromSpool document)

abbrev FromHost : Members → ConfigFault → Type 0
FromHost document = FaultFrom (ReadsHost document) (FromListen document)

from_host : (document : Members) (fault : ConfigFault) → FirstFault document fault → FromHost document fault
from_host document fault (at_host bad) = inl bad
from_host document fault (at_listen host bad) = inr (host, inl bad)
from_host document fault (at_spool host listen bad) = inr (host, inr (listen, inl bad))
from_host document fault (at_max_content host listen spool bad) = inr (host, inr (listen, inr (spool, inl bad)))
from_host document fault (at_spool_limit host listen spool max_content bad) = inr (host, inr (listen, inr (spool, inr (max_content, inl bad))))
from_host document fault (at_routes host listen spool max_content spool_limit bad) =
    inr (host, inr (listen, inr (spool, inr (max_content, inr (spool_limit, inl bad)))))
from_host document fault (at_bare_newlines host listen spool max_content spool_limit routes bad) =
    inr (host, inr (listen, inr (spool, inr (max_content, inr (spool_limit, inr (routes, inl bad))))))
from_host document fault (at_trusted_clients host listen spool max_content spool_limit routes bare_newlines bad) =
    inr (host, inr (listen, inr (spool, inr (max_content, inr (spool_limit, inr (routes, inr (bare_newlines, inl bad)))))))
from_host document fault (at_routed_paths host listen spool max_content spool_limit routes bare_newlines trusted_clients bad) =
    inr (host, inr (listen, inr (spool, inr (max_content, inr (spool_limit, inr (routes, inr (bare_newlines, inr (trusted_clients, inl bad))))))))
from_host document fault (at_reports host listen spool max_content spool_limit routes bare_newlines trusted_clients routed_paths bad) =
    inr (host, inr (listen, inr (spool, inr (max_content, inr (spool_limit, inr (routes, inr (bare_newlines, inr (trusted_clients, inr (routed_paths, bad)))))))))

one_from_host : (document : Members) → IsOneFault (FromHost document)
one_from_host document =
    from_is_one (ReadsHost document) (FromListen document) (one_host document)
    (from_is_one (ReadsListen document) (FromSpool document) (one_listen document)
    (from_is_one (ReadsSpool document) (FromMaxContent document) (one_spool document)
    (from_is_one (ReadsMaxContent document) (FromSpoolLimit document) (one_max_content document)
    (from_is_one (ReadsSpoolLimit document) (FromRoutes document) (one_spool_limit document)
    (from_is_one (ReadsRoutes document) (FromBareNewlines document) (one_routes document)
    (from_is_one (ReadsBareNewlines document) (FromTrustedClients document) (one_bare_newlines document)
    (from_is_one (ReadsTrustedClients document) (FromRoutedPaths document) (one_trusted_clients document)
    (from_is_one (ReadsRoutedPaths document) (FromReports document) (one_routed_paths document)
    (λ one two a b. same_fault (ReadsReports document) one two (one_reports document) a b)))))))))

-- a document that says a configuration has no fault
says_no_fault : (document : Members) (config : Config) (fault : ConfigFault) → Says document config → ¬ FirstFault document fault
says_no_fault document config fault says (at_host bad) = no_fault (ReadsHost document) config.host fault (one_host document) says.host bad
says_no_fault document config fault says (at_listen host bad) = no_fault (ReadsListen document) config.listen fault (one_listen document) says.listen bad
says_no_fault document config fault says (at_spool host listen bad) = no_fault (ReadsSpool document) config.spool fault (one_spool document) says.spool bad
says_no_fault document config fault says (at_max_content host listen spool bad) =
    no_fault (ReadsMaxContent document) config.max_content fault (one_max_content document) says.max_content bad
says_no_fault document config fault says (at_spool_limit host listen spool max_content bad) =
    no_fault (ReadsSpoolLimit document) config.spool_limit fault (one_spool_limit document) says.spool_limit bad
says_no_fault document config fault says (at_routes host listen spool max_content spool_limit bad) =
    no_fault (ReadsRoutes document) config.routes.routes fault (one_routes document) says.routes bad
says_no_fault document config fault says (at_bare_newlines host listen spool max_content spool_limit routes bad) =
    no_fault (ReadsBareNewlines document) config.bare_newlines fault (one_bare_newlines document) says.bare_newlines bad
says_no_fault document config fault says (at_trusted_clients host listen spool max_content spool_limit routes bare_newlines bad) =
    no_fault (ReadsTrustedClients document) (option_map (λ trusted. trusted.networks) config.trusted_clients) fault (one_trusted_clients document) says.trusted_clients bad
says_no_fault document config fault says (at_routed_paths host listen spool max_content spool_limit routes bare_newlines trusted_clients bad) =
    no_fault (ReadsRoutedPaths document) config.routed_paths fault (one_routed_paths document) says.routed_paths bad
says_no_fault document config fault says (at_reports host listen spool max_content spool_limit routes bare_newlines trusted_clients routed_paths bad) =
    no_fault (ReadsReports document) config.reports fault (one_reports document) says.reports bad

document_is_one : (document : Members) → ReadsOne (ReadsDocument document)
document_is_one document (Ok one) (Ok two) a b = ap Ok (says_one document one two a b)
document_is_one document (Ok one) (Err two) a b = absurd (says_no_fault document one two a b)
document_is_one document (Err one) (Ok two) a b = absurd (says_no_fault document two one b a)
document_is_one document (Err one) (Err two) a b = ap Err (one_from_host document one two (from_host document one a) (from_host document two b))

parsed_is_one : (found : Option Members) → ReadsOne (ReadsParsed found)
parsed_is_one None one two a b = a ∙ sym b
parsed_is_one (Some document) one two a b = document_is_one document one two a b

pub one_reading : OneReading
one_reading text one two a b = parsed_is_one (parse_document text) one two a b
