-- the text of a line without a next hop
use Rattle.std.proofs.Common.{◌≡◌, ℕ, List, ◌++◌, codes, None, append_assoc, ap, subst, sym, ◌∙◌, option_copied}
use Rattle.relay_check.specs.Route.{route_line}
use Rattle.relay_check.proofs.route.route_line.Goals as goal

joined : (address : List ℕ) → address ++ codes ": no route\n" ≡ route_line address None
joined address = simp append_assoc

pub returns-in_ok-format-in-None : goal.returns-in_ok-format-in-None
returns-in_ok-format-in-None c =
    subst (λ hop. c.into_bytes.result.items ≡ route_line c.args.address.now (option_copied hop)) (sym c.in-None.is)
    (ap (λ octets. octets.items) c.into_bytes.ensures.value ∙ c.in_ok-format-in-None.ensures.ok ∙ joined c.args.address.now)
