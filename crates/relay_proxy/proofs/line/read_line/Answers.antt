use Rattle.std.proofs.Common.{List, ℕ, ◌≡◌, ◌≤◌, length, take, refl, subst, arith}
use Rattle.std.proofs.lemmas.List.{take_all}
use Rattle.relay_octets.specs.Line.{HasNoCrlf}
use Rattle.relay_proxy.proofs.LineLemmas.{found_line, line_begun, line_too_long, line_without_source}
use Rattle.relay_proxy.proofs.line.read_line.Goals as goal

pub returns-in-Some-source_of : goal.returns-in-Some-source_of
returns-in-Some-source_of c =
    let few : c.min.result ≤ 107 = omega (arith, c.min.ensures) in
    found_line c.args.octets.now _ _ c.in-Some.place c.min.result c.in-Some-source_of.source refl few c.in-Some.ensures.within c.in-Some.ensures.first c.in-Some-source_of.ensures

pub returns-in-None-source_of : goal.returns-in-None-source_of
returns-in-None-source_of c =
    line_without_source c.args.octets.now _ _ c.in-Some.place c.min.result c.requires refl c.in-Some.ensures.first c.in-None-source_of.ensures

pub returns-in-None : goal.returns-in-None
returns-in-None c =
    let few = c.if-octets-lt-LINE_LIMIT.true in
    let all : length c.args.octets.now ≤ c.min.result = omega (arith, c.min.ensures, few) in
    let none = subst (λ (l : List ℕ). HasNoCrlf l) (take_all c.min.result c.args.octets.now all) c.in-None.ensures.first in
    rw c.least_left.ensures (line_begun c.args.octets.now c.requires none few)

pub returns-in-None-2 : goal.returns-in-None-2
returns-in-None-2 c =
    let many = c.if-octets-lt-LINE_LIMIT.false in
    let size : c.min.result ≡ 107 = omega (arith, c.min.ensures, many) in
    let none = subst (λ (n : ℕ). HasNoCrlf (take n c.args.octets.now)) size c.in-None-2.ensures.first in
    line_too_long c.args.octets.now c.requires none many
