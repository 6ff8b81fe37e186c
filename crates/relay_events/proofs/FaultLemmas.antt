-- First faults of what is carried.
use Rattle.std.proofs.Common.{◌≡◌, ◌<◌, ℕ, zero, suc, Bool, true, false, Option, None, Some, refl, ap, arith}
use Rattle.std.specs.Prelude.{if◌then◌else◌, slice_get}
use Rattle.relay_world.specs.World.{World}
use Rattle.relay_events.specs.declared.fault.PairFault.{PairFault}
use Rattle.relay_events.specs.declared.fault.PairFault.TheVariants as fault
use Rattle.relay_events.specs.FirstFault.{carry_idles, unless_up}
use Rattle.relay_hosts.specs.Host.{is_up}

module _ {D : Type 0} (world : World D) (node : ℕ) where
  pub up_then : (rest : Option PairFault) → is_up (slice_get world.hosts node) ≡ true → unless_up world node rest ≡ rest
  up_then rest up = ap (λ b. if b then rest else Some fault.Down) up

  pub down_then : (rest : Option PairFault) → is_up (slice_get world.hosts node) ≡ false
      → unless_up world node rest ≡ Some fault.Down
  down_then rest down = ap (λ b. if b then rest else Some fault.Down) down

  pub idles_then : (count : ℕ) (idles : Bool) → idles ≡ true → carry_idles world count idles ≡ Some fault.Nothing
  idles_then zero idles is = refl
  idles_then (suc count) idles is = ap (λ b. if b then Some fault.Nothing else None) is

  pub goes_then : (count : ℕ) (idles : Bool) → 0 < count → idles ≡ false → carry_idles world count idles ≡ None
  goes_then zero idles some is = absurd (omega (arith, some))
  goes_then (suc count) idles some is = ap (λ b. if b then Some fault.Nothing else None) is
