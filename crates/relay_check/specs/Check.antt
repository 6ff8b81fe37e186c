-- What `check` returns for the text of a configuration, and what it writes.
use Rattle.std.specs.Prelude.{◌≡◌, ◌⊎◌, ℕ, Bool, true, false, not, List, ◌++◌, codes, decimal, Option, Ok, string_bytes}
use Rattle.std.specs.List.{flat_map, list_any}
use Rattle.std.specs.Io.KnownBytes.{Appends}
use Rattle.relay_routes.specs.declared.config.Config.{Config}
use Rattle.relay_routes.specs.Config.{ReadsConfig}
use Rattle.relay_check.specs.declared.findings.Severity.{Severity}
use Rattle.relay_check.specs.declared.findings.Severity.TheVariants.{Error, Ignored, Warning}
use Rattle.relay_check.specs.declared.findings.Finding.{Finding}

-- the text is a configuration with which a relay can run
abbrev pub SaysConfiguration : List ℕ → Type 0
SaysConfiguration text = (config : Config) × ReadsConfig text (Ok config)

-- a finding counts as an error unless it is a warning; an ignored part counts as an error too
abbrev pub is_severe : Severity → Bool
is_severe Error = true
is_severe Ignored = true
is_severe Warning = false

abbrev pub severity_text : Severity → List ℕ
severity_text Error = codes "error"
severity_text Ignored = codes "error"
severity_text Warning = codes "warning"

abbrev pub is_error : Finding → Bool
is_error finding = is_severe finding.severity

-- a finding is an error
abbrev pub HasError : List Finding → Type 0
HasError findings = list_any is_error findings ≡ true

-- `FILE:LINE:COLUMN: error|warning: MESSAGE`
abbrev pub finding_line : List ℕ → Finding → List ℕ
finding_line file finding =
    file ++ codes ":" ++ decimal finding.position.line ++ codes ":" ++ decimal finding.position.column ++ codes ": "
    ++ severity_text finding.severity ++ codes ": " ++ string_bytes finding.message ++ codes "\n"

-- Each finding was written on a line of its own. The result is false exactly if one is an error, and a text that is no
-- configuration has one.
pub record IsChecked (file : List ℕ) (passes : Bool) (old new : Option (List ℕ)) : Type 0 where
  pub text : List ℕ
  pub findings : List Finding
  pub written : Appends old new (flat_map (finding_line file) findings)
  pub passes_is : passes ≡ not (list_any is_error findings)
  pub configuration : SaysConfiguration text ⊎ HasError findings

-- only warnings were written, each on a line of its own, and the text is a configuration
pub record IsWarned (file : List ℕ) (old new : Option (List ℕ)) : Type 0 where
  pub text : List ℕ
  pub findings : List Finding
  pub written : Appends old new (flat_map (finding_line file) findings)
  pub warnings : list_any is_error findings ≡ false
  pub configuration : SaysConfiguration text
