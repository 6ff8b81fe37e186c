-- a line for each next hop
use Rattle.std.proofs.Common.{◌≡◌, ℕ, List, ◌∷◌, Vec, sym, arith, subst}
use Rattle.std.specs.Global.{Global}
use Rattle.std.proofs.lemmas.Grind.{common_steps}
use Rattle.relay_listing.specs.Load.{loads_in}
use Rattle.relay_listing.specs.declared.load.Load.{Load}
use Rattle.relay_queue.proofs.LoadLemmas.{AreLines, all_lines, no_lines, one_line}
use Rattle.relay_queue.proofs.status.push_hops.Goals as goal

pub loop-name-init : goal.loop-name-init
loop-name-init c =
    let first : c.into_iter-name-iterator.result ≡ c.args.loads.now.entries = grind (arith, common_steps) in
    subst (λ (entries : List (Vec ℕ Global × Load)). AreLines c.args.now (loads_in entries) (loads_in c.args.loads.now.entries) c.args.screen.now c.args.screen.now)
    (sym first) (no_lines c.args.now (loads_in c.args.loads.now.entries) c.args.screen.now)

pub loop-name-preserved : goal.loop-name-preserved
loop-name-preserved c =
    let e : Vec ℕ Global × Load = (c.in-Some.name.now, c.in-Some.load.now) in
    let iter : c.loop-name.name-iterator ≡ e ∷ c.next.new.self = grind (arith, common_steps) in
    let before = c.loop-name.invariant in
    let pushed = rw c.as_slice.ensures.value at c.in_ok-push_hop.ensures in
    one_line c.args.now (e.0.items, e.1) (loads_in c.next.new.self) (loads_in c.args.loads.now.entries) pushed.0 c.args.screen.now c.loop-name.screen c.push_hop.new.screen
    (rw iter at before) pushed.1

pub returns : goal.returns
returns c =
    let before = c.loop-name.invariant in
    all_lines c.args.now (loads_in c.args.loads.now.entries) c.args.screen.now _ (rw c.in-None.ensures.steps.0 at before)
