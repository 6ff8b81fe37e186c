-- Maps with names as keys: what stays after an insert.
use Rattle.std.proofs.Common.{◌≡◌, ◌≢◌, ℕ, List, bytes_eq, ap, sym, ◌∙◌}
use Rattle.std.specs.Prelude.{Vec}
use Rattle.std.specs.Map.{KeepsOthers, lookup}
use Rattle.std.specs.declared.alloc.Global.{Global}
use Rattle.std.proofs.lemmas.Bool.{false_from_ne_true}
use Rattle.std.proofs.lemmas.Slice.Eq.{bytes_eq-Decides}

-- a change under one name leaves what stands under another one
pub others_stay : {X : Type 0} (key : Vec ℕ Global) (old new : List (Vec ℕ Global × X)) (other : List ℕ)
    → KeepsOthers (λ (x y : Vec ℕ Global). bytes_eq x.items y.items) (λ (k : Vec ℕ Global). bytes_eq key.items k.items) old new
    → other ≢ key.items
    → lookup (λ (k : Vec ℕ Global). bytes_eq other k.items) new ≡ lookup (λ (k : Vec ℕ Global). bytes_eq other k.items) old
unfolding KeepsOthers
others_stay key old new other keeps apart =
    keeps (λ k. bytes_eq other k.items)
    (λ x y is. ap (λ (octets : List ℕ). bytes_eq octets y.items) ((bytes_eq-Decides other x.items).0 is))
    (λ k is. false_from_ne_true (bytes_eq other k.items)
    (λ too. apart ((bytes_eq-Decides other k.items).0 too ∙ sym ((bytes_eq-Decides key.items k.items).0 is))))
