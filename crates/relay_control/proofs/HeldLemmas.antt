-- What `hold` and `release` make of held mail.
use Rattle.std.proofs.Common.{◌≡◌, ℕ, Bool, true, false, not, cond, ◌||◌, ◌&&◌, List, [], ◌∷◌, ◌++◌, bytes_eq, filter, refl, sym, ap, ◌∙◌}
use Rattle.std.specs.BTreeSet.{contains}
use Rattle.std.specs.List.{list_any}
use Rattle.std.specs.Ordering.{nat_cmp}
use Rattle.std.proofs.lemmas.List.Folds.{list_any-append}
use Rattle.std.proofs.lemmas.Map.Views.{any-filter_same}
use Rattle.std.proofs.lemmas.Slice.Eq.{bytes_eq-Decides}
use Rattle.relay_control.specs.Held.{Sets, holds_hop}
use Rattle.relay_control.specs.declared.held.Held.{Held}
use Rattle.relay_control.specs.declared.scope.Scope.TheVariants.{Hop}

both_or_none : (p q : Bool) → (p ≡ true → q ≡ true) → (q ≡ true → p ≡ true) → p ≡ q
both_or_none true true f g = refl
both_or_none true false f g = sym (f refl)
both_or_none false true f g = g refl
both_or_none false false f g = refl

same_either_way : (one other : List ℕ) → bytes_eq one other ≡ bytes_eq other one
same_either_way one other =
    both_or_none (bytes_eq one other) (bytes_eq other one)
    (λ h. (bytes_eq-Decides other one).1 (sym ((bytes_eq-Decides one other).0 h)))
    (λ h. (bytes_eq-Decides one other).1 (sym ((bytes_eq-Decides other one).0 h)))

pub or_last : (a b : Bool) → (a || (b || false)) ≡ cond b true a
or_last true true = refl
or_last true false = refl
or_last false true = refl
or_last false false = refl

and_not : (a b : Bool) → (not b && a) ≡ cond b false a
and_not a true = refl
and_not a false = refl

pub hop_is_held : (name : List ℕ) (old new : Held) → new.hops.items ≡ old.hops.items ++ name ∷ [] → new.messages ≡ old.messages → Sets (Hop name) true old new
hop_is_held name old new hops messages = record {
  hops = λ other.
      ap (list_any (λ hop. bytes_eq hop other)) hops
      ∙ list_any-append (λ hop. bytes_eq hop other) old.hops.items (name ∷ [])
      ∙ or_last (holds_hop other old) (bytes_eq name other);
  messages = λ number. ap (λ m. contains nat_cmp m number) messages;
}

pub hop_is_released : (name : List ℕ) (old new : Held) → new.hops.items ≡ filter (λ hop. not (bytes_eq hop name)) old.hops.items
    → new.messages ≡ old.messages → Sets (Hop name) false old new
hop_is_released name old new hops messages = record {
  hops = λ other.
      ap (list_any (λ hop. bytes_eq hop other)) hops
      ∙ any-filter_same (λ hop. bytes_eq hop other) (λ hop. not (bytes_eq hop name)) (not (bytes_eq name other))
      (λ hop is. ap (λ h. not (bytes_eq h name)) ((bytes_eq-Decides hop other).0 is) ∙ ap not (same_either_way other name)) old.hops.items
      ∙ and_not (holds_hop other old) (bytes_eq name other);
  messages = λ number. ap (λ m. contains nat_cmp m number) messages;
}
