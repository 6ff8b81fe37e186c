-- no path is the address
use Rattle.std.proofs.Common.{◌≡◌, inr, refl, sym, ap, ◌∙◌}
use Rattle.relay_check.specs.Route.{bracketed}
use Rattle.relay_check.proofs.route.line_of.Goals as goal

pub returns : goal.returns
returns c =
    let text : bracketed c.args.address.now ≡ c.as_slice.result.now =
    ap bracketed (sym c.as_bytes.ensures.value) ∙ sym c.in_ok-text.ensures ∙ sym c.as_slice.ensures.value in
    inr (record {
      none = λ path valid same. c.in-None.ensures path valid (sym text ∙ same);
      shown = c.into_bytes-line.result.items;
      line_is = c.in_ok-extend_from_slice-in-None.ensures.items;
      found_is = refl;
    })
