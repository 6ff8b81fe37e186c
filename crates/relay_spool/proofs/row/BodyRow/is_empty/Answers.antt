use Rattle.std.proofs.Common.{◌≡◌, ◌↔◌, ◌∙◌, ◌==◌, ℕ, Bool, List, [], ◌∷◌, length, refl, sym, ap, IsTrue, arith, rules}
use Rattle.std.proofs.lemmas.Bool.{false≢true, ne_eqb}
use Rattle.relay_spool.specs.Row.{bodies_of_chain}
use Rattle.relay_spool.proofs.RowLemmas.{no_bodies, no_chain}
use Rattle.relay_spool.proofs.row.BodyRow.is_empty.Goals as goal

empty_is : (xs : List ℕ) (count : ℕ) (empty : Bool) → count ≡ length xs → empty ≡ (count == 0) → IsTrue empty ↔ (xs ≡ [])
empty_is [] count empty counted is = (λ _. refl, λ _. is ∙ ap (λ (n : ℕ). n == 0) counted)
empty_is (x ∷ xs) count empty counted is =
    (λ true. absurd (false≢true (sym (is ∙ ne_eqb count 0 (λ e. omega (arith, counted, e))) ∙ true)), λ none. absurd (cc))

pub returns : goal.returns
returns c =
    let links = c.self.inside.links.items in
    let bodies = bodies_of_chain links in
    let same : bodies ≡ c.args.self.now = c.self.view_is in
    let empty = empty_is links c.self.inside.links.len c.is_empty.result (search rules) (search rules) in
    (λ is. sym same ∙ no_bodies links bodies c.self.invariant.0 (empty.0 is), λ none. empty.1 (no_chain links bodies c.self.invariant.0 (same ∙ none)))
