-- Values of a configuration: names of hosts, addresses, and sizes.
use Rattle.std.specs.Prelude.{◌≡◌, ◌≢◌, ℕ, ◌<◌, ◌≤◌, ◌^◌, Bool, false, ◌==◌, List, [], ◌∷◌, ◌++◌, codes, decimal}
use Rattle.std.specs.Prelude.{length, pos}
use Rattle.std.specs.List.{AllByRecursion}
use Rattle.std.specs.Net.Addr.{ipv4_octets}
use Rattle.std.specs.Net.Socket.{v4_ip, v4_port}
use Rattle.std.specs.Net.Text.{ipv4_text}
use Rattle.std.specs.declared.net.socket_addr.SocketAddrV4.{SocketAddrV4}
use Rattle.toml.specs.Data.{Data, integer, string}
use Rattle.relay_routes.specs.declared.bare_newlines.BareNewlines.{BareNewlines}
use Rattle.relay_routes.specs.declared.bare_newlines.BareNewlines.TheVariants.{Pass, Refuse}
use Rattle.relay_routes.specs.declared.routed_paths.RoutedPaths.{RoutedPaths}
use Rattle.relay_routes.specs.declared.routed_paths.RoutedPaths.TheVariants as routed
use Rattle.relay_routes.specs.declared.report_form.ReportForm.{ReportForm}
use Rattle.relay_routes.specs.declared.report_form.ReportForm.TheVariants.{Plain, Rich}
pub use Rattle.relay_envelope.specs.HostName.{IsHostName, is_host_octet}

-- four numbers with "." between them, ":" and a port, each written without leading zeros
abbrev pub address_text : SocketAddrV4 → List ℕ
address_text address = ipv4_text (ipv4_octets (v4_ip address)) ++ codes ":" ++ decimal (v4_port address)

-- an address has four octets, and a port from 1
pub record IsAddress (address : SocketAddrV4) : Type 0 where
  pub four : length (ipv4_octets (v4_ip address)) ≡ 4
  pub octets : AllByRecursion (λ octet. octet < 2 ^ 8) (ipv4_octets (v4_ip address))
  pub some_port : 0 < v4_port address
  pub port_fits : v4_port address < 2 ^ 16

-- the text is how this address is written
pub record IsAddressText (text : List ℕ) (address : SocketAddrV4) : Type 0 where
  pub valid : IsAddress address
  pub text_is : text ≡ address_text address

-- the value is a text that names this host
abbrev pub GivesHost : Data → List ℕ → Type 0
GivesHost value host = (value ≡ string host) × IsHostName host

-- the value is a text that writes this address
abbrev pub GivesAddress : Data → SocketAddrV4 → Type 0
GivesAddress value address = (value ≡ string (address_text address)) × IsAddress address

-- the value is this text, which isn't empty
abbrev pub GivesPath : Data → List ℕ → Type 0
GivesPath value path = (value ≡ string path) × (path ≢ [])

-- the value is this number, from 1 to a limit
abbrev pub GivesSize : ℕ → Data → ℕ → Type 0
GivesSize limit value size = (value ≡ integer (pos size)) × (1 ≤ size) × (size ≤ limit)

-- how a document says what is done with a CR or an LF that stands alone
abbrev pub bare_newlines_text : BareNewlines → List ℕ
bare_newlines_text Pass = codes "pass"
bare_newlines_text Refuse = codes "refuse"

-- the value is a text that says this of them
abbrev pub GivesBareNewlines : Data → BareNewlines → Type 0
GivesBareNewlines value bare_newlines = value ≡ string (bare_newlines_text bare_newlines)

-- how a document says what is done with a recipient whose path is routed
abbrev pub routed_paths_text : RoutedPaths → List ℕ
routed_paths_text routed.Pass = codes "pass"
routed_paths_text routed.Refuse = codes "refuse"

-- the value is a text that says this of them
abbrev pub GivesRoutedPaths : Data → RoutedPaths → Type 0
GivesRoutedPaths value routed_paths = value ≡ string (routed_paths_text routed_paths)

-- how a document says how a delivery status notification is written
abbrev pub report_form_text : ReportForm → List ℕ
report_form_text Plain = codes "plain"
report_form_text Rich = codes "rich"

-- the value is a text that says this of it
abbrev pub GivesReportForm : Data → ReportForm → Type 0
GivesReportForm value form = value ≡ string (report_form_text form)

-- the octet is ":"
abbrev pub is_colon : ℕ → Bool
is_colon octet = octet == 58

-- the text begins with the digit 0
abbrev pub begins_with_zero : List ℕ → Bool
begins_with_zero [] = false
begins_with_zero (octet ∷ octets) = octet == 48
