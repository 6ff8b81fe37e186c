use Rattle.std.proofs.Common.{◌≡◌, ℕ, ◌<◌, ◌^◌, List, [], ◌∷◌, ◌++◌, length, w32, refl, ap, ◌∙◌, rules, append_assoc}
use Rattle.std.specs.Int.{to_be_bytes}
use Rattle.std.proofs.lemmas.Nat.{from_be_bytes-to_be_bytes_4}
use Rattle.relay_spool.specs.Image.{number_of, IsLink}
use Rattle.relay_spool.proofs.link.push_link.Goals as goal

-- what is written for a body, by its parts
link : (body : List ℕ) → length body < 2 ^ 32 → IsLink (1 ∷ (to_be_bytes w32 (length body) ++ body)) body
unfolding number_of
link body short = record {
  size = to_be_bytes w32 (length body);
  width = refl;
  number = from_be_bytes-to_be_bytes_4 (length body) short;
  text = refl;
}

-- the parts after other octets
pushed : (old size body new : List ℕ) → new ≡ ((old ++ 1 ∷ []) ++ size) ++ body → new ≡ old ++ 1 ∷ (size ++ body)
pushed old size body new is = is ∙ ap (λ (xs : List ℕ). xs ++ body) (append_assoc old (1 ∷ []) size) ∙ append_assoc old (1 ∷ size) body

pub returns-clause-link : goal.returns-clause-link
returns-clause-link c = (_, link c.args.body.now c.requires, pushed c.args.links.now.items (to_be_bytes w32 (length c.args.body.now)) c.args.body.now _ (search rules))
