-- The head, and then one sample after another.
use Rattle.std.proofs.Common.{rules, ◌≡◌, ◌++◌, ◌∷◌, List, ℕ, Vec, ap, sym, ◌∙◌, append_assoc, append-nil, arith}
use Rattle.std.specs.Global.{Global}
use Rattle.std.specs.List.{flat_map}
use Rattle.std.proofs.lemmas.Grind.{common_steps}
use Rattle.relay_listing.specs.Load.{loads_in}
use Rattle.relay_listing.specs.Metrics.{head_of, help_by_hop, name_by_hop, sample_by_hop}
use Rattle.relay_listing.specs.declared.load.Load.{Load}
use Rattle.relay_listing.specs.declared.metrics.Course.TheVariants.{Gauge}
use Rattle.relay_listing.proofs.metrics.push_by_hop.Goals as goal

pub loop-hop-init : goal.loop-hop-init
loop-hop-init c =
    let old : List ℕ = c.args.text.now.items in
    let head : List ℕ = head_of (name_by_hop c.args.metric) Gauge (help_by_hop c.args.metric) in
    let line : List ℕ × Load → List ℕ = sample_by_hop c.args.metric c.args.now in
    let all : List ℕ = flat_map line (loads_in c.into_iter-hop-iterator.result) in
    let pushed : c.push_head.new.text.items ≡ old ++ head = rw (c.name.ensures, c.help.ensures) at c.in_ok-push_head.ensures in
    let first : c.into_iter-hop-iterator.result ≡ c.args.loads.now.entries = grind (arith, common_steps) in
    ap (λ (l : List ℕ). l ++ all) pushed ∙ append_assoc old head all
    ∙ ap (λ (entries : List (Vec ℕ Global × Load)). old ++ (head ++ flat_map line (loads_in entries))) first

pub loop-hop-preserved : goal.loop-hop-preserved
loop-hop-preserved c =
    let e : Vec ℕ Global × Load = (c.in-Some.hop.now, c.in-Some.load.now) in
    let iter : c.loop-hop.hop-iterator ≡ e ∷ c.next.new.self = grind (arith, common_steps) in
    let line : List ℕ = sample_by_hop c.args.metric c.args.now (e.0.items, e.1) in
    let rest : List ℕ = flat_map (sample_by_hop c.args.metric c.args.now) (loads_in c.next.new.self) in
    let pushed : c.push_labelled.new.text.items ≡ c.loop-hop.text.items ++ line = search rules in
    let before = c.loop-hop.invariant in
    ap (λ (l : List ℕ). l ++ rest) pushed ∙ append_assoc c.loop-hop.text.items line rest ∙ rw iter at before

pub returns : goal.returns
returns c =
    let before = c.loop-hop.invariant in
    sym (append-nil c.loop-hop.text.items) ∙ rw (c.in-None.ensures.steps.0) at before
