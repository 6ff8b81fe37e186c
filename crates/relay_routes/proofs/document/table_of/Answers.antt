-- The routes so far are those of the members so far, and a member that is refused leaves none.
use Rattle.std.proofs.Common.{◌≡◌, ◌∷◌, [], refl, inr, ap, ◌∙◌, arith}
use Rattle.std.proofs.lemmas.Grind.{common_steps}
use Rattle.std.proofs.lemmas.Option.{MatchOption-at_some, MatchOption-at_none}
use Rattle.toml.specs.View.{members_view}
use Rattle.toml.proofs.Views.{Entry}
use Rattle.relay_routes.specs.Routes.{RouteTable}
use Rattle.relay_routes.proofs.MemberLemmas.{no_route, walked_added, walked_all, walked_refused}
use Rattle.relay_routes.proofs.document.table_of.Goals as goal

pub returns-in-None-2-clause-err : goal.returns-in-None-2-clause-err
returns-in-None-2-clause-err c =
    let walked = c.members.invariant.2 in
    let e : Entry = (c.in-Some.key.now, c.in-Some.value.now) in
    let iter : c.members.key-iterator ≡ e ∷ c.next.new.self = grind (arith, common_steps) in
    let found = c.in_ok-hop.ensures in
    let is = c.in-None-2.is in
    let none = MatchOption-at_none _ _ is found in
    inr (refl, λ routes are agree. no_route (members_view c.args.members.now.entries) _ _ (members_view c.next.new.self) c.members.table.routes routes (rw iter at walked) (λ route gives. none route.hop gives.hop) are)

pub members-preserved : goal.members-preserved
members-preserved c =
    let walked = c.members.invariant.2 in
    let e : Entry = (c.in-Some.key.now, c.in-Some.value.now) in
    let iter : c.members.key-iterator ≡ e ∷ c.next.new.self = grind (arith, common_steps) in
    let found = c.in_ok-hop.ensures in
    let gives = MatchOption-at_some _ _ c.in-Some-2.hop c.in-Some-2.is found in
    let (may, added) = c.in-Ok.ensures.added in
    let bytes = c.as_bytes.ensures.value ∙ c.as_str.ensures.value in (
      tt,
      tt,
      walked_added (members_view c.args.members.now.entries) _ _ (members_view c.next.new.self) c.members.table c.add.new.self c.in-Some-2.hop (rw iter at walked) gives (rw bytes at may) (rw bytes at added),
      ap (λ (t : RouteTable). t.host) added ∙ c.members.invariant.3,
    )

pub returns-in-Err-clause-err : goal.returns-in-Err-clause-err
returns-in-Err-clause-err c =
    let walked = c.members.invariant.2 in
    let e : Entry = (c.in-Some.key.now, c.in-Some.value.now) in
    let iter : c.members.key-iterator ≡ e ∷ c.next.new.self = grind (arith, common_steps) in
    let found = c.in_ok-hop.ensures in
    let gives = MatchOption-at_some _ _ c.in-Some-2.hop c.in-Some-2.is found in
    let bytes = c.as_bytes.ensures.value ∙ c.as_str.ensures.value in
    let refused = c.in-Err.ensures.refused in
    let fault = c.fault_of_routes.ensures in
    rw fault (walked_refused (members_view c.args.members.now.entries) _ _ (members_view c.next.new.self) c.members.table.routes c.in-Some-2.hop c.in-Err.fault (rw iter at walked) gives (rw bytes at refused))

pub returns-clause-ok : goal.returns-clause-ok
returns-clause-ok c =
    let walked = c.members.invariant.2 in
    let iter : c.members.key-iterator ≡ [] = grind (arith, common_steps) in
    let (are, agree) = walked_all (members_view c.args.members.now.entries) c.members.table.routes (rw iter at walked) in
    (are, agree, c.members.invariant.3)
