-- The place was not found, so it has the next number.
use Rattle.std.proofs.Common.{◌≡◌, ◌++◌, [], ◌∷◌, length, List, ℕ, Some, nat_eq, cond, rules, sym, ap, subst, ◌∙◌}
use Rattle.std.specs.Prelude.{slice_get}
use Rattle.std.specs.HashMap.{get}
use Rattle.std.specs.declared.net.socket_addr.SocketAddrV4.{SocketAddrV4}
use Rattle.relay_lanes.proofs.PlaceLemmas.{is_last, not_found, numbered_more, numbered_same, stays}
use Rattle.relay_lanes.specs.Places.{AreNumbered, HasNone, key_of}
use Rattle.relay_lanes.proofs.places.Places.add.Goals as goal

pub invariant_of-self-in-Ok : goal.invariant_of-self-in-Ok
invariant_of-self-in-Ok c =
    let places = c.self.inside.places.items in
    let none : HasNone places c.args.at = subst (λ places. HasNone places c.args.at) (sym c.self.view_is) c.requires.none in
    let not = not_found c.self.inside.numbers places c.self.invariant c.args.at c.requires.fits none in
    let items : c.push_reserved.new.self.items ≡ places ++ c.args.at ∷ [] = c.push_reserved.ensures.items ∙ ap (λ (places : List SocketAddrV4). places ++ c.args.at ∷ []) c.reserve.ensures.items in
    let len : c.len-number.result ≡ length places = search rules in
    subst (AreNumbered c.insert.new.self) (sym items) (numbered_more c.self.inside.numbers c.insert.new.self places c.args.at c.self.invariant c.requires.fits not (λ key. c.in-Ok.ensures.updates.0 key
    ∙ ap (λ (own : ℕ). cond (nat_eq own key) (Some c.len-number.result) (get nat_eq c.self.inside.numbers key)) c.requires.key
    ∙ ap (λ (number : ℕ). cond (nat_eq (key_of c.args.at) key) (Some number) (get nat_eq c.self.inside.numbers key)) len))

pub invariant_of-self-in-Err : goal.invariant_of-self-in-Err
invariant_of-self-in-Err c = subst (AreNumbered c.insert.new.self) (sym c.reserve.ensures.items) (numbered_same c.self.inside.numbers c.insert.new.self c.self.inside.places.items c.self.invariant c.in-Err.ensures.err)

pub returns-in-Ok-clause-place : goal.returns-in-Ok-clause-place
returns-in-Ok-clause-place c =
    let places = c.self.inside.places.items in
    let len : c.len-number.result ≡ length places = search rules in
    let items : c.push_reserved.new.self.items ≡ places ++ c.args.at ∷ [] = c.push_reserved.ensures.items ∙ ap (λ (places : List SocketAddrV4). places ++ c.args.at ∷ []) c.reserve.ensures.items in
    ap (λ (places : List SocketAddrV4). slice_get places c.len-number.result) items ∙ ap (slice_get (places ++ c.args.at ∷ [])) len ∙ is_last places c.args.at

pub returns-in-Ok-clause-others : goal.returns-in-Ok-clause-others
returns-in-Ok-clause-others c = λ number place there.
    let places = c.self.inside.places.items in
    let items : c.push_reserved.new.self.items ≡ places ++ c.args.at ∷ [] = c.push_reserved.ensures.items ∙ ap (λ (places : List SocketAddrV4). places ++ c.args.at ∷ []) c.reserve.ensures.items in
    ap (λ (places : List SocketAddrV4). slice_get places number) items ∙ stays places c.args.at number place (ap (λ (places : List SocketAddrV4). slice_get places number) c.self.view_is ∙ there)
