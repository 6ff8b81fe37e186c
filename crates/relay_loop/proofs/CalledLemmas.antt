-- Lists of calls of a relay: none, one, two one after the other, and those of a wider sort.
use Rattle.std.proofs.Common.{◌≡◌, Bool, true, List, [], ◌∷◌, ◌++◌, refl, subst}
use Rattle.std.specs.List.{AllByRecursion}
use Rattle.relay_disk.specs.Device.{DiskWords}
use Rattle.relay_loop.specs.Called.{Call, Does, DoesEach, HasCalled}
use Rattle.relay_loop.specs.Relay.{RelayState}

all_both : (sort : Call → Bool) (front back : List Call) → AllByRecursion (λ (call : Call). sort call ≡ true) front
    → AllByRecursion (λ (call : Call). sort call ≡ true) back
    → AllByRecursion (λ (call : Call). sort call ≡ true) (front ++ back)
all_both sort [] back before after = after
all_both sort (call ∷ front) back before after = (before.0, all_both sort front back before.1 after)

all_wider : (sort wider : Call → Bool) (calls : List Call)
    → ((call : Call) → sort call ≡ true → wider call ≡ true)
    → AllByRecursion (λ (call : Call). sort call ≡ true) calls
    → AllByRecursion (λ (call : Call). wider call ≡ true) calls
all_wider sort wider [] widen each = tt
all_wider sort wider (call ∷ calls) widen each = (widen call each.0, all_wider sort wider calls widen each.1)

module _ {D : Type 0} (honest : Type 0) (words : DiskWords D) where
  does_both : (front back : List Call) (old between new : RelayState D) → DoesEach honest words front old between
      → DoesEach honest words back between new → DoesEach honest words (front ++ back) old new
  does_both [] back old between new same after =
      subst (λ (state : RelayState D). DoesEach honest words back state new) same after
  does_both (call ∷ front) back old between new does after =
      (does.0, does.1, does_both front back does.0 between new does.2 after)

module _ {D : Type 0} {honest : Type 0} {words : DiskWords D} where
  pub no_call : (sort : Call → Bool) (relay : RelayState D) → HasCalled honest words sort relay relay
  no_call sort relay = record { calls = []; each = tt; does = refl }

  pub one_call : (sort : Call → Bool) (call : Call) (old new : RelayState D) → sort call ≡ true
      → Does honest words call old new → HasCalled honest words sort old new
  one_call sort call old new is does = record { calls = call ∷ []; each = (is, tt); does = (new, does, refl) }

  pub calls_follow : (sort : Call → Bool) (old between new : RelayState D) → HasCalled honest words sort old between
      → HasCalled honest words sort between new → HasCalled honest words sort old new
  calls_follow sort old between new before after = record {
    calls = before.calls ++ after.calls;
    each = all_both sort before.calls after.calls before.each after.each;
    does = does_both honest words before.calls after.calls old between new before.does after.does;
  }

  pub calls_are_among : (sort wider : Call → Bool) (old new : RelayState D)
      → ((call : Call) → sort call ≡ true → wider call ≡ true) → HasCalled honest words sort old new
      → HasCalled honest words wider old new
  calls_are_among sort wider old new widen called = record {
    calls = called.calls;
    each = all_wider sort wider called.calls widen called.each;
    does = called.does;
  }
