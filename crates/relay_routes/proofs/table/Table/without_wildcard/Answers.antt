-- The named routes so far agree with the next one.
use Rattle.std.proofs.Common.{◌≡◌, ℕ, ◌∷◌, false, true, codes, bytes_eq, Vec, Global, ap, ◌∙◌, arith}
use Rattle.std.proofs.lemmas.Grind.{common_steps}
use Rattle.relay_routes.specs.Indexed.{routes_of}
use Rattle.relay_routes.specs.Routes.{AllAgree, RouteTable}
use Rattle.relay_routes.specs.declared.hop.Hop.{Hop}
use Rattle.relay_routes.proofs.AddressLemmas.{leads_where_false, plain_where_true}
use Rattle.relay_routes.proofs.CopyLemmas.{copied_more, copied_past, next_has_place, next_is_new}
use Rattle.relay_routes.proofs.table.Table.without_wildcard.Goals as goal

pub insert-requires-clause-domain : goal.insert-requires-clause-domain
insert-requires-clause-domain c =
    let copied = c.routes.invariant.2 in
    let e : Vec ℕ Global × Hop = (c.in-Some.domain.now, c.in-Some.hop.now) in
    let iter : c.routes.domain-iterator ≡ e ∷ c.next.new.self = grind (arith, common_steps) in
    let agree : AllAgree c.args.self.now.routes = rw (← c.self.view_is) c.self.invariant.agree in
    rw (c.in_ok-domain.ensures.items, c.as_slice-then-ne.ensures.value)
    (next_is_new c.args.self.now.routes (routes_of c.next.new.self) c.routes.table.routes _ agree (rw iter at copied))

pub insert-requires-clause-place : goal.insert-requires-clause-place
insert-requires-clause-place c =
    let copied = c.routes.invariant.2 in
    let e : Vec ℕ Global × Hop = (c.in-Some.domain.now, c.in-Some.hop.now) in
    let iter : c.routes.domain-iterator ≡ e ∷ c.next.new.self = grind (arith, common_steps) in
    let agree : AllAgree c.args.self.now.routes = rw (← c.self.view_is) c.self.invariant.agree in
    rw c.in_ok-copy-2.ensures
    (next_has_place c.args.self.now.routes (routes_of c.next.new.self) c.routes.table.routes _ agree (rw iter at copied))

pub routes-preserved-in_ok-insert : goal.routes-preserved-in_ok-insert
routes-preserved-in_ok-insert c =
    let copied = c.routes.invariant.2 in
    let e : Vec ℕ Global × Hop = (c.in-Some.domain.now, c.in-Some.hop.now) in
    let iter : c.routes.domain-iterator ≡ e ∷ c.next.new.self = grind (arith, common_steps) in
    let named : bytes_eq c.in-Some.domain.now.items (codes "*") ≡ false = rw (c.as_slice.ensures.value, c.as_slice-in-routes.ensures) at (plain_where_true c.ne.result _ c.ne.ensures c.if-ne.true) in
    let added = c.in_ok-insert.ensures.added in (
      tt,
      tt,
      rw (added, c.in_ok-domain.ensures.items, c.as_slice-then-ne.ensures.value, c.in_ok-copy-2.ensures)
          (copied_more c.args.self.now.routes (routes_of c.next.new.self) c.routes.table.routes _ named (rw iter at copied)),
      ap (λ (t : RouteTable). t.host) added ∙ c.routes.invariant.3,
    )

pub routes-preserved : goal.routes-preserved
routes-preserved c =
    let copied = c.routes.invariant.2 in
    let e : Vec ℕ Global × Hop = (c.in-Some.domain.now, c.in-Some.hop.now) in
    let iter : c.routes.domain-iterator ≡ e ∷ c.next.new.self = grind (arith, common_steps) in
    let any : bytes_eq c.in-Some.domain.now.items (codes "*") ≡ true = rw (c.as_slice.ensures.value, c.as_slice-in-routes.ensures) at (leads_where_false c.ne.result _ c.ne.ensures c.if-ne.false) in (
      tt,
      tt,
      copied_past c.args.self.now.routes (routes_of c.next.new.self) c.routes.table.routes _ any (rw iter at copied),
      c.routes.invariant.3,
    )
