use Rattle.std.proofs.Common.{◌≡◌, ◌+◌, ◌-◌, length, drop, refl, sym, ap, ◌∙◌, arith}
use Rattle.std.proofs.Math.Numerals.{add-one}
use Rattle.std.proofs.lemmas.List.{length-drop, take_all}
use Rattle.relay_connections.specs.Share.{line_length, lines_length}
use Rattle.relay_connections.proofs.ShareLemmas.{all_lines}
use Rattle.relay_connections.proofs.share.lines_length.Goals as goal

pub loop-init : goal.loop-init
loop-init c = (refl, omega arith, omega arith)

pub returns-then-end-octets-clause-lines : goal.returns-then-end-octets-clause-lines
returns-then-end-octets-clause-lines c =
    let octets = c.args.octets.now in
    let count = c.loop.counter in
    let whole : count + (256 - count) ≡ 256 = omega (arith, c.loop.invariant.2) in
    c.if-end-octets.true
    ∙ sym (all_lines octets count (256 - count) (sym c.loop.invariant.0 ∙ c.if-end-octets.true))
    ∙ ap (λ number. lines_length number octets) whole

pub loop-preserved : goal.loop-preserved
loop-preserved c =
    let octets = c.args.octets.now in
    let end = c.loop.end in
    let inv = c.loop.invariant in
    let line = c.line_length-end.ensures.line in
    let rest = take_all (length octets - end) (drop end octets) (omega (arith, length-drop end octets)) in (
      ap (λ size. end + size) (line ∙ ap line_length rest)
          ∙ ap (λ at. at + line_length (drop at octets)) inv.0
          ∙ ap (λ number. lines_length number octets) (sym (add-one c.loop.counter)),
      omega (arith, c.line_length-end.ensures.within, ap length rest, length-drop end octets, inv.1),
      omega (arith, c.loop-test.true),
    )
