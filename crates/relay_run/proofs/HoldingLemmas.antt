-- The line of the answer to a request that has held mail, part by part.
use Rattle.std.proofs.Common.{◌≡◌, ℕ, Bool, List, [], ◌++◌, Option, ap, subst, ◌∙◌}
use Rattle.relay_run.specs.Holding.{IsHeldLine, SaysExpiry, beginning_of}

pub held_line_of : (is_new : Bool) (expiry found : Option ℕ) (none first line beginning : List ℕ) → none ≡ [] → first ≡ none ++ beginning → beginning ≡ beginning_of is_new → found ≡ expiry
    → (rest : List ℕ) × SaysExpiry found rest × (line ≡ first ++ rest) → IsHeldLine is_new expiry line
held_line_of is_new expiry found none first line beginning empty begun is same (rest, says, ends) = record {
  rest = rest;
  says = subst (λ (it : Option ℕ). SaysExpiry it rest) same says;
  line_is =
      ends
      ∙ ap (λ (list : List ℕ). list ++ rest) begun
      ∙ ap (λ (list : List ℕ). (list ++ beginning) ++ rest) empty
      ∙ ap (λ (list : List ℕ). list ++ rest) is;
}
