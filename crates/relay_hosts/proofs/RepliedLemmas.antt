-- Replies that an attempt has read.
use Rattle.std.proofs.Common.{◌≡◌, ℕ, List, [], ◌∷◌, ◌++◌, length, Option, None, Some, sym, ap, ◌∙◌, arith}
use Rattle.std.proofs.lemmas.List.{append-nil}
use Rattle.relay_world.specs.declared.attempt.Attempt.{Attempt}
use Rattle.relay_world.specs.declared.attempt.Fate.TheVariants.{Replied}
use Rattle.relay_world.specs.declared.link.Link.{Link}
use Rattle.relay_world.specs.Ledger.{left_lines, report_told}
use Rattle.relay_hosts.specs.declared.recorded.Recorded.{Recorded}
use Rattle.relay_hosts.specs.Replied.{replied_attempt, replied_lines}

-- what is counted and told of an attempt after replies, by cases
pub replied_none : (attempt : Attempt) (change : Option ℕ) → change ≡ None → attempt ≡ replied_attempt attempt change
replied_none attempt change is = sym (ap (λ c. replied_attempt attempt c) is)

pub replied_some : (attempt : Attempt) (change : Option ℕ) (number : ℕ) → change ≡ Some number
    → record attempt { fate = Replied number } ≡ replied_attempt attempt change
replied_some attempt change number is = sym (ap (λ c. replied_attempt attempt c) is)

pub lines_none : (link : ℕ) (attempt : Attempt) (change : Option ℕ) (recorded : Option Recorded) → change ≡ None
    → replied_lines link attempt change recorded ≡ []
lines_none link attempt change recorded is = ap (λ c. replied_lines link attempt c recorded) is

pub lines_unrecorded : (link : ℕ) (attempt : Attempt) (change : Option ℕ) (recorded : Option Recorded) (number : ℕ)
    → change ≡ Some number → recorded ≡ None → replied_lines link attempt change recorded ≡ []
lines_unrecorded link attempt change recorded number is none =
    ap (λ c. replied_lines link attempt c recorded) is ∙ ap (λ r. replied_lines link attempt (Some number) r) none

pub lines_some : (link : ℕ) (attempt : Attempt) (change : Option ℕ) (recorded : Option Recorded) (number : ℕ) (one : Recorded)
    → change ≡ Some number → recorded ≡ Some one → replied_lines link attempt change recorded
    ≡ left_lines attempt.node attempt.message link (report_told number one.report) one.left.items
lines_some link attempt change recorded number one is some =
    ap (λ c. replied_lines link attempt c recorded) is ∙ ap (λ r. replied_lines link attempt (Some number) r) some

-- where there is nothing to write, nothing is
pub nothing_written : (link : Link) (octets : List ℕ) → length octets ≡ 0 → link ≡ record link { up = link.up ++ octets }
nothing_written link [] none = ap (λ (u : List ℕ). let same : Link = record link { up = u } in same) (sym (append-nil link.up))
nothing_written link (octet ∷ octets) none = absurd (omega (arith, none))
