use Rattle.std.proofs.Common.{◌≡◌, ◌++◌, ◌∷◌, [], List, ℕ, IfOk, subst, rules}
use Rattle.relay_page.specs.Response.{code_text, response_text}
use Rattle.relay_page.specs.declared.response.Kind.TheVariants.{Plain}
use Rattle.relay_page.proofs.response.refusal_octets.Goals as goal

pub returns : goal.returns
returns c =
    let line : c.as_slice.result.now ≡ code_text c.args.code ++ 10 ∷ [] = search rules in
    subst
    (λ (body : List ℕ). IfOk c.response_octets.result (λ octets. octets.items ≡ response_text c.args.code Plain c.args.has_body body))
    line c.response_octets.ensures
