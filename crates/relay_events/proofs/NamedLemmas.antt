-- The node that a hop is, up or down.
use Rattle.std.proofs.Common.{◌≡◌, ℕ, zero, suc, Bool, true, false, not, List, [], ◌∷◌, Some, refl, ap, ◌∙◌, arith, bytes_eq}
use Rattle.std.specs.Prelude.{if◌then◌else◌, slice_get}
use Rattle.std.specs.Option.{is_none}
use Rattle.std.proofs.lemmas.Bool.{true≢false}
use Rattle.std.proofs.lemmas.Option.{same_Some}
use Rattle.std.proofs.lemmas.Slice.Eq.{bytes_eq-Decides}
use Rattle.relay_world.specs.World.{Host, World}
use Rattle.relay_hosts.specs.Host.{holds_up}
use Rattle.relay_events.specs.FirstFault.{names_down}
use Rattle.relay_hosts.specs.Named.{NoneIsNamed, NoneIsNamedBefore}

-- whether the node of a name is down
pub none_is_down : {D : Type 0} (world : World D) (hosts : List (Host D)) (name : List ℕ) → NoneIsNamed hosts name → names_down world name hosts ≡ false
none_is_down world [] name none = refl
none_is_down {D} world (host ∷ hosts) name none =
    by (none_is_down world hosts name (λ node other at. none (suc node) other at)) (bytes_eq host.config.host name) refl
  where
    by : names_down world name hosts ≡ false → (b : Bool) → bytes_eq host.config.host name ≡ b
        → (if b then not (holds_up host.state) else names_down world name hosts) ≡ false
    by rest true is = absurd (none 0 host refl ((bytes_eq-Decides host.config.host name).0 is))
    by rest false is = rest

pub first_is_down : {D : Type 0} (world : World D) (hosts : List (Host D)) (name : List ℕ) (node : ℕ) (host : Host D)
    → slice_get hosts node ≡ Some host → host.config.host ≡ name → NoneIsNamedBefore hosts name node
    → names_down world name hosts ≡ not (holds_up host.state)
first_is_down world [] name node host at named none = absurd (true≢false (ap is_none at))
first_is_down {D} world (other ∷ hosts) name zero host at named none =
    let same : other ≡ host = same_Some other host at in
    let its : bytes_eq other.config.host name ≡ true =
    (bytes_eq-Decides other.config.host name).1 (ap (λ (h : Host D). h.config.host) same ∙ named) in
    ap (λ (b : Bool). if b then not (holds_up other.state) else names_down world name hosts) its
    ∙ ap (λ (h : Host D). not (holds_up h.state)) same
first_is_down {D} world (other ∷ hosts) name (suc node) host at named none =
    by (first_is_down world hosts name node host at named (λ lower one below there. none (suc lower) one (omega (arith, below)) there))
    (bytes_eq other.config.host name) refl
  where
    by : names_down world name hosts ≡ not (holds_up host.state) → (b : Bool) → bytes_eq other.config.host name ≡ b
        → (if b then not (holds_up other.state) else names_down world name hosts) ≡ not (holds_up host.state)
    by rest true is = absurd (none 0 other (omega arith) refl ((bytes_eq-Decides other.config.host name).0 is))
    by rest false is = rest
