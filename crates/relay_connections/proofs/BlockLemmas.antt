-- What is left of a block where some octets of it are used.
use Rattle.std.proofs.Common.{◌≡◌, ℕ, ◌+◌, ◌-◌, ◌<◌, List, drop, take, sym, ap, ◌∙◌, arith}
use Rattle.std.proofs.lemmas.List.{drop-drop, drop-take}

pub left_after_some : {A : Type 0} (octets : List A) (start end count : ℕ) → count < end - start → take (end - (start + count)) (drop (start + count) octets) ≡ drop count (take (end - start) (drop start octets))
left_after_some octets start end count fewer =
    ap (take (end - (start + count))) (sym (drop-drop count start octets)) ∙ ap (λ size. take size (drop count (drop start octets))) same
    ∙ sym (drop-take count (end - start - count) (drop start octets))
    ∙ ap (λ size. drop count (take size (drop start octets))) whole
  where
    same : end - (start + count) ≡ end - start - count
    same = omega arith

    whole : count + (end - start - count) ≡ end - start
    whole = omega (arith, fewer)
