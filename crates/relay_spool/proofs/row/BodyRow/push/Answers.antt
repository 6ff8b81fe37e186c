use Rattle.std.proofs.Common.{◌≡◌, ◌+◌, ◌<◌, ◌≤◌, ◌++◌, ◌∷◌, [], ◌∙◌, ℕ, List, ap, length, arith, rules, length-append}
use Rattle.std.specs.Prelude.{vec_capacity}
use Rattle.relay_spool.specs.Image.{IsLink}
use Rattle.relay_spool.specs.Row.{bodies_of_chain}
use Rattle.relay_spool.proofs.ImageLemmas.{length-link}
use Rattle.relay_spool.proofs.RowLemmas.{Pushed, bodies_of_chain-is, chain_found, pushed_chain}
use Rattle.relay_spool.proofs.row.BodyRow.push.Goals as goal

-- a link pushed to links that were given room
after : (old mid new body : List ℕ) → mid ≡ old → (link : List ℕ) × IsLink link body × (new ≡ mid ++ link) → Pushed old new body
after old mid new body same has = record { link = has.0; is_link = has.1; text = has.2 ∙ ap (λ (xs : List ℕ). xs ++ has.0) same }

-- an octet more has room
left : (old new body : List ℕ) (room : ℕ) → Pushed old new body → length old + (5 + length body + 1) ≤ room → length new < room
left old new body room pushed enough =
    let all = ap length pushed.text ∙ length-append old pushed.link in
    let one = length-link pushed.link body pushed.is_link in
    omega (arith, all, one, enough)

pub invariant_of-self-2 : goal.invariant_of-self-2
invariant_of-self-2 c =
    let old = c.self.inside.links.items in
    let new = c.push_link.new.links in
    let pushed = after old c.reserve.new.self.items new.items c.args.body.now c.reserve.ensures.items c.in-Ok.ensures.link in
    let bodies = bodies_of_chain old in
    let room : length old + (5 + length c.args.body.now + 1) ≤ vec_capacity new = search rules in
    (chain_found new.items (bodies ++ c.args.body.now ∷ []) (pushed_chain old new.items c.args.body.now bodies c.self.invariant.0 pushed), λ _. left old new.items c.args.body.now (vec_capacity new) pushed room)

pub returns-clause-pushed : goal.returns-clause-pushed
returns-clause-pushed c =
    let old = c.self.inside.links.items in
    let new = c.push_link.new.links.items in
    let pushed = after old c.reserve.new.self.items new c.args.body.now c.reserve.ensures.items c.in-Ok.ensures.link in
    let bodies = bodies_of_chain old in
    bodies_of_chain-is new (bodies ++ c.args.body.now ∷ []) (pushed_chain old new c.args.body.now bodies c.self.invariant.0 pushed)
    ∙ ap (λ found. found ++ c.args.body.now ∷ []) c.self.view_is
