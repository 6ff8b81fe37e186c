-- What a configuration says of the control socket, which takes requests that steer a running relay.
use Rattle.std.specs.Prelude.{◌≡◌, ℕ, ◌≤◌, List, length, Option, None, Some, pos}
use Rattle.toml.specs.Data.{Data, integer, string}

-- profile: what the path of a Unix domain socket may be: Linux has room for 108 octets, with the null octet at its end
abbrev pub IsSocketPath : List ℕ → Type 0
IsSocketPath path = (1 ≤ length path) × (length path ≤ 107)

-- profile: a text that is such a path; a value that is none is bad; if there is no value, there is no control socket
abbrev pub ReadsControl : Option Data → Option (Option (List ℕ)) → Type 0
ReadsControl None found = found ≡ Some None
ReadsControl (Some value) None = (path : List ℕ) → value ≡ string path → ¬ IsSocketPath path
ReadsControl (Some value) (Some None) = ⊥
ReadsControl (Some value) (Some (Some path)) = (value ≡ string path) × IsSocketPath path

-- profile: the value is the number of a group; 4294967295 is none, since it asks the system for no change
abbrev pub GivesGroup : Data → ℕ → Type 0
GivesGroup value group = (value ≡ integer (pos group)) × (group ≤ 4294967294)

-- a value that is there gives this group, or it is bad; if none is, no group may use the control socket
abbrev pub ReadsControlGroup : Option Data → Option (Option ℕ) → Type 0
ReadsControlGroup None found = found ≡ Some None
ReadsControlGroup (Some value) None = (group : ℕ) → ¬ GivesGroup value group
ReadsControlGroup (Some value) (Some None) = ⊥
ReadsControlGroup (Some value) (Some (Some group)) = GivesGroup value group
